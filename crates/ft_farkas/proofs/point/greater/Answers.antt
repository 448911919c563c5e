use Rattle.std.proofs.Common.{subst, ℕ, pos, ◌≤ℤ◌, ◌<ℤ◌, sym}
use Rattle.ft_farkas.specs.meaning.Rows.{row_of}
use Rattle.ft_farkas.specs.meaning.Kept.{row_in}
use Rattle.ft_farkas.specs.building.Points.{excess}
use Rattle.ft_farkas.proofs.BoundLemmas.{own-none, other-excess}
use Rattle.ft_farkas.proofs.point.greater.Goals as goal

pub returns-then-exceeds-clause-own : goal.returns-then-exceeds-clause-own
returns-then-exceeds-clause-own c bound =
    subst (λ (k : ℕ). excess c.args.unknown (row_in c.args.kept.now.rows k) (row_of c.args.point.now) c.bound_of.result.times c.bound_of.result.value ≤ℤ pos 0) c.bound_of.ensures.row
    (own-none c.args.kept.now.unknowns c.args.unknown c.args.kept.now.rows (row_of c.args.point.now) c.bound_of.result.row c.bound_of.result.value c.bound_of.result.times c.bound_of.ensures.bound)

pub returns-then-exceeds-clause-best : goal.returns-then-exceeds-clause-best
returns-then-exceeds-clause-best c =
    other-excess c.args.kept.now.unknowns c.args.unknown c.args.kept.now.rows (row_of c.args.point.now) c.args.best.row c.bound_of.result.row c.args.best.value c.bound_of.result.value c.args.best.times c.bound_of.result.times
    c.requires.best c.bound_of.ensures.bound
    (subst (λ (k : ℕ). pos 0 <ℤ excess c.args.unknown (row_in c.args.kept.now.rows k) (row_of c.args.point.now) c.args.best.times c.args.best.value) (sym c.bound_of.ensures.row) (c.exceeds.ensures.0 c.if-exceeds.true))

pub returns-else-is_lower-clause-best : goal.returns-else-is_lower-clause-best
returns-else-is_lower-clause-best c = own-none c.args.kept.now.unknowns c.args.unknown c.args.kept.now.rows (row_of c.args.point.now) c.args.best.row c.args.best.value c.args.best.times c.requires.best
