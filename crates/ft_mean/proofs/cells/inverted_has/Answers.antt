use Rattle.std.proofs.Common.{◌≡◌, ◌∙◌, sym, ap, subst, true, false, List, arith, FitsSigned, w64, rules, take, suc, ◌+◌}
use Rattle.std.specs.List.{list_all, list_any, zip}
use Rattle.std.proofs.lemmas.Int.{to_z-of_z}
use Rattle.ft_core.specs.declared.term.Cond.{Cond}
use Rattle.ft_core.specs.checked.Size.{is_sized}
use Rattle.ft_mean.specs.judge.Seen.{row_gives}
use Rattle.ft_mean.proofs.SafeLemmas.{safe_by}
use Rattle.ft_core.specs.laws.Lists.{all_pass}
use Rattle.ft_mean.proofs.RecallLemmas.{pair_next, pair_at, pair_end}
use Rattle.ft_mean.proofs.cells.inverted_has.Goals as goal

pub row_has-requires-clause-row : goal.row_has-requires-clause-row
row_has-requires-clause-row g c = safe_by _ (λ vs ms s. all_pass (is_sized vs ms) c.args.rows.now s c.index-rows-at.result
    (c.loop-at.at, omega (arith, c.loop-at-test.true, c.min-at-end.ensures), sym c.index-rows-at.is)) c.requires.rows

pub row_has-requires-clause-conds : goal.row_has-requires-clause-conds
row_has-requires-clause-conds g c = safe_by _ (λ vs ms s. ap (list_all (is_sized vs ms)) c.as_slice.ensures
    ∙ all_pass (list_all (is_sized vs ms)) c.args.grid.now s c.index-grid-at.result
    (c.loop-at.at, omega (arith, c.loop-at-test.true, c.min-at-end.ensures), sym c.index-grid-at.is)) c.requires.grid

pub returns-then-row_has : goal.returns-then-row_has
returns-then-row_has g c =
    let fits : FitsSigned w64 c.args.wanted = search rules in
    let here = simp to_z-of_z at c.if-row_has.ensures in
    sym (pair_at (λ r. row_gives (g.L.Look.view c.args.look.now) c.args.wanted r.0 r.1 c.args.terms.now) c.args.rows.now c.args.grid.now
    c.loop-at.at c.index-rows-at.result c.index-grid-at.result
    (omega (arith, c.loop-at-test.true, c.min-at-end.ensures)) (omega (arith, c.loop-at-test.true, c.min-at-end.ensures))
    (sym c.index-rows-at.is) (sym c.index-grid-at.is)
    (subst (λ (cs : List Cond). true ≡ (row_gives (g.L.Look.view c.args.look.now) c.args.wanted c.index-rows-at.result cs c.args.terms.now))
    c.as_slice.ensures here))

pub loop-at-preserved : goal.loop-at-preserved
loop-at-preserved g c =
    let fits : FitsSigned w64 c.args.wanted = search rules in
    let here = simp to_z-of_z at c.if-row_has.ensures in
    let past = simp to_z-of_z at c.loop-at.invariant in
    let more : c.loop-at.at + 1 ≡ suc c.loop-at.at = omega arith in
    simp to_z-of_z (ap (λ n. list_any (λ r. row_gives (g.L.Look.view c.args.look.now) c.args.wanted r.0 r.1 c.args.terms.now)
    (take n (zip c.args.rows.now c.args.grid.now))) more
    ∙ pair_next (λ r. row_gives (g.L.Look.view c.args.look.now) c.args.wanted r.0 r.1 c.args.terms.now) c.args.rows.now c.args.grid.now
    c.loop-at.at c.index-rows-at.result c.index-grid-at.result
    (omega (arith, c.loop-at-test.true, c.min-at-end.ensures)) (omega (arith, c.loop-at-test.true, c.min-at-end.ensures))
    (sym c.index-rows-at.is) (sym c.index-grid-at.is) past
    (subst (λ (cs : List Cond). false ≡ (row_gives (g.L.Look.view c.args.look.now) c.args.wanted c.index-rows-at.result cs
    c.args.terms.now)) c.as_slice.ensures here))

pub returns : goal.returns
returns g c =
    let fits : FitsSigned w64 c.args.wanted = search rules in
    let past = simp to_z-of_z at c.loop-at.invariant in
    sym (pair_end (λ r. row_gives (g.L.Look.view c.args.look.now) c.args.wanted r.0 r.1 c.args.terms.now) c.args.rows.now c.args.grid.now
    c.loop-at.at (omega (arith, c.loop-at-test.false, c.min-at-end.ensures)) past)
