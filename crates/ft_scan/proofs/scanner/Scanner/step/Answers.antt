use Rattle.std.proofs.Common.{◌≡◌, ◌∙◌, sym, ap, subst, ◌∷◌, [], ◌++◌, length}
use Rattle.ft_core.specs.meaning.Kinds.{count_of, given_kinds, side_kinds}
use Rattle.ft_mean.specs.meaning.Proper.{AllProper}
use Rattle.ft_mean.specs.meaning.Reading.{IsListOf}
use Rattle.ft_scan.specs.steps.Put.{ArePlacesIn, AreOnce, AreTold}
use Rattle.ft_scan.specs.meaning.Scanning.{Scanning}
use Rattle.ft_scan.specs.steps.Stands.{kept_of, rows_at}
use Rattle.ft_scan.proofs.ListedLemmas.{listed_within, listed_once}
use Rattle.ft_scan.proofs.StandsLemmas.{begun_scan, ended, GoesOnBy, goes_on}
use Rattle.ft_scan.proofs.scanner.Scanner.step.Goals as goal

pub put_values-requires-clause-inside : goal.put_values-requires-clause-inside
put_values-requires-clause-inside c =
    let s = c.self.inside in
    subst (λ places. ArePlacesIn places (length s.frame.now)) (sym c.as_slice.ensures)
    (subst (ArePlacesIn s.given) (sym c.self.invariant.is_frame.now) ((listed_within c.laws.ensures) s.tables.now (given_kinds s.side)
    s.given c.self.invariant.given_places))

pub put_values-requires-clause-once : goal.put_values-requires-clause-once
put_values-requires-clause-once c =
    let s = c.self.inside in
    subst AreOnce (sym c.as_slice.ensures) ((listed_once c.laws.ensures) s.tables.now (given_kinds s.side) s.given
    c.self.invariant.given_places)

pub run_steps-requires-clause-told : goal.run_steps-requires-clause-told
run_steps-requires-clause-told c =
    let s = c.self.inside in
    (begun_scan c.laws.ensures) s.tables.now (subst (λ (w : Scanning). AllProper w.set) (sym c.self.view_is) c.requires.proper) (kept_of s)
    (rows_at s.given s.past.items) (rows_at s.side_variables s.past.items) c.args.given.now c.self.invariant
    (subst (λ (w : Scanning). IsListOf w.set (given_kinds w.side) (c.args.given.now ∷ [])) (sym c.self.view_is) c.requires.given)
    c.as_slice.result.now c.as_slice.ensures c.as_slice-2.result.now c.as_slice-2.ensures c.put_values.new.row c.put_values.ensures

pub tell_values-requires-clause-inside : goal.tell_values-requires-clause-inside
tell_values-requires-clause-inside c =
    let s = c.self.inside in
    let told = (ended c.laws.ensures) s.tables.now (subst (λ (w : Scanning). AllProper w.set) (sym c.self.view_is) c.requires.proper)
    (kept_of s)
    (rows_at s.given s.past.items) (rows_at s.side_variables s.past.items) c.args.given.now c.self.invariant
    (subst (λ (w : Scanning). IsListOf w.set (given_kinds w.side) (c.args.given.now ∷ [])) (sym c.self.view_is) c.requires.given)
    c.as_slice.result.now c.as_slice.ensures c.as_slice-2.result.now c.as_slice-2.ensures c.put_values.new.row c.put_values.ensures
    c.run_steps.new.frame c.run_steps.ensures in
    subst (λ places. ArePlacesIn places (length c.as_slice-4.result.now)) (sym c.as_slice-3.ensures)
    (subst (ArePlacesIn s.side_variables) (sym (ap length c.as_slice-4.ensures ∙ told.is_frame.now))
    ((listed_within c.laws.ensures) s.tables.now (side_kinds s.side) s.side_variables c.self.invariant.side_places))

-- the scan's rows, and what it stands for with them
went_on : (c : goal.After-self-1) → GoesOnBy c.self.inside.tables.now (kept_of c.self.inside) c.self.inside.past.items c.args.given.now
    c.tell_values.new.values
    c.end_scan.new.frame c.followed_by-self-inside.result.items
went_on c =
    let s = c.self.inside in
    let S = s.tables.now in
    let proper = subst (λ (w : Scanning). AllProper w.set) (sym c.self.view_is) c.requires.proper in
    let in_range = subst (λ (w : Scanning). IsListOf w.set (given_kinds w.side) (c.args.given.now ∷ [])) (sym c.self.view_is)
    c.requires.given in
    let room = subst (λ (w : Scanning). length c.args.values.now ≡ count_of (side_kinds w.side) w.set.vars) (sym c.self.view_is)
    c.requires.room in
    let told = (ended c.laws.ensures) S proper (kept_of s) (rows_at s.given s.past.items) (rows_at s.side_variables s.past.items)
    c.args.given.now c.self.invariant in_range
    c.as_slice.result.now c.as_slice.ensures c.as_slice-2.result.now c.as_slice-2.ensures c.put_values.new.row c.put_values.ensures
    c.run_steps.new.frame c.run_steps.ensures in
    let out : AreTold s.side_variables c.run_steps.new.frame.now (length s.side_variables) c.tell_values.new.values
    = subst (λ row. AreTold s.side_variables row (length s.side_variables) c.tell_values.new.values) c.as_slice-4.ensures
    (subst (λ places. AreTold places c.as_slice-4.result.now (length places) c.tell_values.new.values) c.as_slice-3.ensures
    c.tell_values.ensures.told) in
    (goes_on c.laws.ensures) S proper (kept_of s) s.past.items c.args.given.now c.self.invariant in_range c.run_steps.new.frame told
    c.tell_values.new.values (c.tell_values.ensures.count ∙ room) out c.end_scan.new.frame c.end_scan.ensures
    c.followed_by-self-inside.result.items c.followed_by-self-inside.ensures

pub invariant_of-self : goal.invariant_of-self
invariant_of-self c = (went_on c).stands

pub returns-clause-given : goal.returns-clause-given
returns-clause-given c = (went_on c).given_is ∙ ap (λ (w : Scanning). w.given ++ c.args.given.now ∷ []) c.self.view_is

pub returns-clause-rows : goal.returns-clause-rows
returns-clause-rows c = (went_on c).rows_are ∙ ap (λ (w : Scanning). w.rows ++ c.tell_values.new.values ∷ []) c.self.view_is

pub returns-clause-fits : goal.returns-clause-fits
returns-clause-fits c = (went_on c).stands.fits
