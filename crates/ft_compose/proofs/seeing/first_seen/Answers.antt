use Rattle.std.proofs.Common.{◌∙◌, ap, sym, false, Some, None}
use Rattle.ft_cover.specs.building.KeptView.{kept_view}
use Rattle.ft_compose.specs.building.Deciding.{home_in}
use Rattle.ft_compose.proofs.ToldLemmas.{good_places, has_home, home_cells, home_there, seen_first}
use Rattle.ft_compose.proofs.seeing.first_seen.Goals as goal

pub get-requires : goal.get-requires
get-requires c =
    home_there c.deciding_laws.ensures c.args.tables.now c.args.section c.args.homes.now c.requires.homes c.args.variable
    c.requires.there.0 c.requires.there.1 c.in-Some.home
    (sym (ap (λ homes. home_in homes c.args.variable) c.as_slice.ensures) ∙ sym c.home_of.ensures ∙ c.in-Some.is)

pub first_in-requires-clause-safe : goal.first_in-requires-clause-safe
first_in-requires-clause-safe c =
    c.deciding_laws.ensures.tables_safe c.args.tables.now
    (kept_view c.args.tables.now false c.args.anew c.args.slots.now c.args.values.now) c.requires.keeps c.in-Some.home c.get.result.now
    c.get.ensures

pub first_in-requires-clause-good : goal.first_in-requires-clause-good
first_in-requires-clause-good c =
    let S = c.args.tables.now in
    good_places c.deciding_laws.ensures S c.args.anew c.args.section c.args.variable c.requires.there.0 c.requires.there.1
    c.args.spans.now c.requires.spans c.get.result.now.grid
    (home_cells c.deciding_laws.ensures S c.args.section c.args.homes.now c.requires.homes c.args.variable c.requires.there.0
    c.requires.there.1 c.in-Some.home c.get.result.now
    (sym (ap (λ homes. home_in homes c.args.variable) c.as_slice.ensures) ∙ sym c.home_of.ensures ∙ c.in-Some.is) c.get.ensures)
    S.vars (kept_view S false c.args.anew c.args.slots.now c.args.values.now)

pub returns-in_ok-first-in-Some : goal.returns-in_ok-first-in-Some
returns-in_ok-first-in-Some c =
    let S = c.args.tables.now in
    sym (seen_first c.deciding_laws.ensures S c.args.anew c.args.section c.args.variable c.requires.there.0 c.requires.there.1
    c.args.spans.now c.requires.spans c.get.result.now.grid
    (home_cells c.deciding_laws.ensures S c.args.section c.args.homes.now c.requires.homes c.args.variable c.requires.there.0
    c.requires.there.1 c.in-Some.home c.get.result.now
    (sym (ap (λ homes. home_in homes c.args.variable) c.as_slice.ensures) ∙ sym c.home_of.ensures ∙ c.in-Some.is) c.get.ensures)
    c.args.names.now (kept_view S false c.args.anew c.args.slots.now c.args.values.now) c.in_ok-first-in-Some.first
    c.in_ok-first-in-Some.ensures)

pub returns-in-None : goal.returns-in-None
returns-in-None c = absurd
    (has_home c.deciding_laws.ensures c.args.tables.now c.args.section c.args.homes.now c.requires.homes c.args.variable
    c.requires.there.0 c.requires.there.1
    (sym (ap (λ homes. home_in homes c.args.variable) c.as_slice.ensures) ∙ sym c.home_of.ensures ∙ c.in-None.is))
