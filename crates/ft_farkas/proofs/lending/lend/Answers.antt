use Rattle.std.proofs.Common.{rules, ◌≡◌, ◌∙◌, ap, refl, ◌<◌, ◌≤◌, ◌+◌, ◌++◌, ℕ, length, take, arith}
use Rattle.std.specs.Int.{w64}
use Rattle.std.proofs.lemmas.Int.{to_z-of_z}
use Rattle.ft_farkas.specs.meaning.Rows.{row_of, bounds, chosen}
use Rattle.ft_farkas.proofs.LendingLemmas.{lend-more, lend-end}
use Rattle.ft_farkas.proofs.KeepingLemmas.{all-length}
use mir.Val.{SFits}
use Rattle.ft_farkas.proofs.lending.lend.Goals as goal

pub sources-init : goal.sources-init
sources-init c = let next : c.args.unknowns + 1 + 0 ≡ c.args.unknowns + 1 = omega arith in
    (refl, omega arith, ap (λ (k : ℕ). chosen (row_of c.args.row.now) k (c.args.lines.now ++ bounds c.args.unknowns)) next)

pub sources-preserved : goal.sources-preserved
sources-preserved c =
    let below : c.sources.at < length c.args.lines.now + (c.args.unknowns + c.args.unknowns) = search rules in
    let there = c.source_at.ensures c.args.unknowns below in
    let fits : SFits w64 (row_of c.args.row.now (c.args.unknowns + 1 + c.sources.at)) = search rules in
    let times = rw (to_z-of_z w64 (row_of c.args.row.now (c.args.unknowns + 1 + c.sources.at)) fits) at c.unsigned_abs-times.ensures.value in
    let few = c.lend_line-used.ensures.few in
    let before = c.sources.invariant.1 in (
      c.lend_line-used.ensures.room ∙ c.sources.invariant.0,
      omega (arith, few, before),
      lend-more (row_of c.args.row.now) (c.args.lines.now ++ bounds c.args.unknowns) (c.args.unknowns + 1) c.sources.at c.unsigned_abs-times.result c.source_at.result (take c.sources.used c.sources.lent)
          (take c.lend_line-used.result c.lend_line-used.new.lent) _ there times c.lend_line-used.ensures.lines c.sources.invariant.2,
    )

pub returns-clause-lines : goal.returns-clause-lines
returns-clause-lines c =
    let past : length c.args.lines.now + (c.args.unknowns + c.args.unknowns) ≤ c.sources.at = search rules in
    let long = all-length c.args.lines.now c.args.unknowns in
    lend-end (row_of c.args.row.now) (c.args.lines.now ++ bounds c.args.unknowns) (c.args.unknowns + 1 + c.sources.at) c.sources.at (take c.sources.used c.sources.lent) _ (omega (arith, past, long)) c.sources.invariant.2
