use Rattle.std.proofs.Common.{refl}
use Rattle.ft_oblige.specs.declared.nodes.TableFault.TheVariants as fault
use Rattle.ft_cover.proofs.PointLemmas.{lent_keeps, lent_one, lent_range}
use Rattle.ft_cover.proofs.faults.range_at.Goals as goal

pub returns : goal.returns
returns c = (
  refl,
  lent_range c.laws.ensures c.args.tables.now c.args.table c.args.obligation c.args.point.now c.requires.point c.in_ok-values.values
      c.as_slice-slots.result.now c.as_slice-slots.ensures c.in_ok-values.ensures.long c.in_ok-values.ensures.same c.as_slice.result.now
      c.as_slice.ensures c.requires.coverage c.in_ok-found.found c.in_ok-found.ensures c.as_slice-2.result.now c.as_slice-2.ensures
      c.first_one-cell.result c.first_one-cell.ensures,
)

pub places_at-requires-clause-keeps : goal.places_at-requires-clause-keeps
places_at-requires-clause-keeps c = lent_keeps c.laws.ensures c.args.tables.now c.args.table c.args.obligation c.args.point.now
    c.requires.point c.in_ok-values.values c.as_slice-slots.result.now c.as_slice-slots.ensures c.in_ok-values.ensures.long
    c.in_ok-values.ensures.same c.as_slice.result.now c.as_slice.ensures fault.Range c.requires.coverage

pub first_one-cell-requires : goal.first_one-cell-requires
first_one-cell-requires c = lent_one c.laws.ensures c.args.tables.now c.args.table c.args.obligation c.args.point.now c.requires.point
    c.in_ok-values.values c.as_slice-slots.result.now c.as_slice-slots.ensures c.in_ok-values.ensures.long c.in_ok-values.ensures.same
    c.as_slice.result.now c.as_slice.ensures c.requires.coverage c.in_ok-found.found c.in_ok-found.ensures c.as_slice-2.result.now
    c.as_slice-2.ensures
