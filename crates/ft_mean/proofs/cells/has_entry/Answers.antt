use Rattle.std.proofs.Common.{◌≡◌, ◌∙◌, sym, arith, ◌&&◌, FitsSigned, w64, rules, ap, take, suc, ◌+◌}
use Rattle.std.specs.List.{list_any, zip}
use Rattle.std.specs.Ordering.{int_eq}
use Rattle.std.proofs.lemmas.Int.{to_z-of_z}
use Rattle.ft_core.specs.checked.Size.{is_sized_term, is_sized}
use Rattle.ft_mean.specs.meaning.Value.{value, truth}
use Rattle.ft_mean.proofs.SafeLemmas.{safe_by}
use Rattle.ft_core.specs.laws.Lists.{all_pass}
use Rattle.ft_mean.proofs.RecallLemmas.{pair_next, pair_at, pair_end}
use Rattle.ft_mean.proofs.cells.has_entry.Goals as goal

pub is_entry-requires-clause-cond : goal.is_entry-requires-clause-cond
is_entry-requires-clause-cond g c = safe_by _ (λ vs ms s. all_pass (is_sized vs ms) c.args.conds.now s c.index-conds-at.result
    (c.loop-at.at, omega (arith, c.loop-at-test.true, c.min-at-end.ensures), sym c.index-conds-at.is)) c.requires.conds

pub is_entry-requires-clause-term : goal.is_entry-requires-clause-term
is_entry-requires-clause-term g c = safe_by _ (λ vs ms s. all_pass (is_sized_term vs ms) c.args.terms.now s c.index-terms-at.result
    (c.loop-at.at, omega (arith, c.loop-at-test.true, c.min-at-end.ensures), sym c.index-terms-at.is)) c.requires.terms

pub returns-then-is_entry : goal.returns-then-is_entry
returns-then-is_entry g c =
    let fits : FitsSigned w64 c.args.wanted = search rules in
    let here = simp to_z-of_z at c.if-is_entry.ensures in
    sym (pair_at (λ x. truth (g.L.Look.view c.args.look.now) x.0 && int_eq c.args.wanted (value (g.L.Look.view c.args.look.now) x.1))
    c.args.conds.now c.args.terms.now c.loop-at.at c.index-conds-at.result c.index-terms-at.result
    (omega (arith, c.loop-at-test.true, c.min-at-end.ensures)) (omega (arith, c.loop-at-test.true, c.min-at-end.ensures))
    (sym c.index-conds-at.is) (sym c.index-terms-at.is) here)

pub loop-at-preserved : goal.loop-at-preserved
loop-at-preserved g c =
    let fits : FitsSigned w64 c.args.wanted = search rules in
    let here = simp to_z-of_z at c.if-is_entry.ensures in
    let past = simp to_z-of_z at c.loop-at.invariant in
    let more : c.loop-at.at + 1 ≡ suc c.loop-at.at = omega arith in
    simp to_z-of_z (ap (λ n. list_any (λ x. truth (g.L.Look.view c.args.look.now) x.0
    && int_eq c.args.wanted (value (g.L.Look.view c.args.look.now) x.1)) (take n (zip c.args.conds.now c.args.terms.now))) more
    ∙ pair_next (λ x. truth (g.L.Look.view c.args.look.now) x.0 && int_eq c.args.wanted (value (g.L.Look.view c.args.look.now) x.1))
    c.args.conds.now c.args.terms.now c.loop-at.at c.index-conds-at.result c.index-terms-at.result
    (omega (arith, c.loop-at-test.true, c.min-at-end.ensures)) (omega (arith, c.loop-at-test.true, c.min-at-end.ensures))
    (sym c.index-conds-at.is) (sym c.index-terms-at.is) past here)

pub returns : goal.returns
returns g c =
    let fits : FitsSigned w64 c.args.wanted = search rules in
    let past = simp to_z-of_z at c.loop-at.invariant in
    sym (pair_end (λ x. truth (g.L.Look.view c.args.look.now) x.0 && int_eq c.args.wanted (value (g.L.Look.view c.args.look.now) x.1))
    c.args.conds.now c.args.terms.now c.loop-at.at (omega (arith, c.loop-at-test.false, c.min-at-end.ensures)) past)
