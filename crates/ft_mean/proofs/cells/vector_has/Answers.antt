use Rattle.std.proofs.Common.{◌≡◌, ◌∙◌, sym, ap, subst, true, false, List, arith, ◌&&◌, FitsSigned, w64, rules, take, suc, ◌+◌}
use Rattle.std.specs.Prelude.{◌==◌, slice_index_or}
use Rattle.std.proofs.lemmas.List.{get_or_default}
use Rattle.std.specs.List.{list_all, list_any, zip}
use Rattle.std.proofs.lemmas.Int.{to_z-of_z}
use Rattle.ft_core.specs.declared.term.Term.{Term}
use Rattle.ft_core.specs.checked.Size.{is_sized_term}
use Rattle.ft_mean.specs.judge.Seen.{gives_in}
use Rattle.ft_mean.proofs.SafeLemmas.{safe_by}
use Rattle.ft_core.specs.laws.Lists.{all_pass}
use Rattle.ft_mean.proofs.RecallLemmas.{pair_next, pair_at, pair_end}
use Rattle.ft_mean.proofs.cells.vector_has.Goals as goal

pub target_has-requires-clause-terms : goal.target_has-requires-clause-terms
target_has-requires-clause-terms g c = safe_by _ (λ vs ms s. ap (list_all (is_sized_term vs ms)) c.as_slice.ensures
    ∙ all_pass (list_all (is_sized_term vs ms)) c.args.terms.now s c.index-terms-at.result
    (c.loop-at.at, omega (arith, c.loop-at-test.true, c.min-at-end.ensures), sym c.index-terms-at.is)) c.requires.terms

pub returns-then-target_has : goal.returns-then-target_has
returns-then-target_has g c =
    let fits : FitsSigned w64 c.args.wanted = search rules in
    let here = simp to_z-of_z at c.if-target_has.ensures in
    sym (pair_at (λ r. (r.0 == c.args.variable) && gives_in (g.L.Look.view c.args.look.now) c.args.wanted c.args.columns.now r.1)
    c.args.targets.now c.args.terms.now c.loop-at.at (slice_index_or c.args.targets.now c.loop-at.at 0) c.index-terms-at.result
    (omega (arith, c.loop-at-test.true, c.min-at-end.ensures)) (omega (arith, c.loop-at-test.true, c.min-at-end.ensures))
    (get_or_default c.args.targets.now c.loop-at.at (slice_index_or c.args.targets.now c.loop-at.at 0) 0
    (omega (arith, c.loop-at-test.true, c.min-at-end.ensures))) (sym c.index-terms-at.is)
    (subst (λ (es : List Term). true ≡ (((slice_index_or c.args.targets.now c.loop-at.at 0) == c.args.variable)
    && gives_in (g.L.Look.view c.args.look.now) c.args.wanted c.args.columns.now es)) c.as_slice.ensures here))

pub loop-at-preserved : goal.loop-at-preserved
loop-at-preserved g c =
    let fits : FitsSigned w64 c.args.wanted = search rules in
    let here = simp to_z-of_z at c.if-target_has.ensures in
    let past = simp to_z-of_z at c.loop-at.invariant in
    let more : c.loop-at.at + 1 ≡ suc c.loop-at.at = omega arith in
    simp to_z-of_z (ap (λ n. list_any (λ r. (r.0 == c.args.variable) && gives_in (g.L.Look.view c.args.look.now) c.args.wanted
    c.args.columns.now r.1) (take n (zip c.args.targets.now c.args.terms.now))) more
    ∙ pair_next (λ r. (r.0 == c.args.variable) && gives_in (g.L.Look.view c.args.look.now) c.args.wanted c.args.columns.now r.1)
    c.args.targets.now c.args.terms.now c.loop-at.at (slice_index_or c.args.targets.now c.loop-at.at 0) c.index-terms-at.result
    (omega (arith, c.loop-at-test.true, c.min-at-end.ensures)) (omega (arith, c.loop-at-test.true, c.min-at-end.ensures))
    (get_or_default c.args.targets.now c.loop-at.at (slice_index_or c.args.targets.now c.loop-at.at 0) 0
    (omega (arith, c.loop-at-test.true, c.min-at-end.ensures))) (sym c.index-terms-at.is) past
    (subst (λ (es : List Term). false ≡ (((slice_index_or c.args.targets.now c.loop-at.at 0) == c.args.variable)
    && gives_in (g.L.Look.view c.args.look.now) c.args.wanted c.args.columns.now es)) c.as_slice.ensures here))

pub returns : goal.returns
returns g c =
    let fits : FitsSigned w64 c.args.wanted = search rules in
    let past = simp to_z-of_z at c.loop-at.invariant in
    sym (pair_end (λ r. (r.0 == c.args.variable) && gives_in (g.L.Look.view c.args.look.now) c.args.wanted c.args.columns.now r.1)
    c.args.targets.now c.args.terms.now c.loop-at.at (omega (arith, c.loop-at-test.false, c.min-at-end.ensures)) past)
