use Rattle.std.proofs.Common.{◌≡◌, ◌∙◌, ◌++◌, ◌∷◌, [], ℕ, List, MatchBool, ap, subst, not}
use Rattle.ft_names.specs.meaning.Declared.{is_among, names_in}
use Rattle.ft_types.specs.meaning.Shapes.{title}
use Rattle.ft_types.proofs.GatherLemmas.{gathers-one}
use Rattle.ft_types.proofs.gathering.gather.Goals as goal

pub returns-clause-gathers : goal.returns-clause-gathers
returns-clause-gathers c =
    let is = c.as_slice-2.ensures ∙ c.in_ok-title.ensures ∙ ap (title c.args.section) c.as_slice.ensures in
    gathers-one c.args.titles.now c.add.new.self c.args.second.now c.keep_second.new.second c.in_ok-new.new c.args.section c.args.word.now
    (subst (λ (t : List ℕ). MatchBool c.in_ok-new.new (c.add.new.self ≡ c.args.titles.now
    ++ (t, 0) ∷ []) (c.add.new.self ≡ c.args.titles.now))
    is c.in_ok-new.ensures.added)
    (subst (λ (t : List ℕ). is_among (names_in c.args.titles.now) t ≡ not c.in_ok-new.new) is c.in_ok-new.ensures.new)
    c.in_ok-keep_second.ensures
