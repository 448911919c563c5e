use Rattle.std.proofs.Common.{◌∙◌, ap, subst, arith, List}
use Rattle.std.specs.Prelude.{slice_get}
use Rattle.ft_core.specs.declared.tables.Memory.{Memory}
use Rattle.ft_core.specs.meaning.Reads.{grid_reads}
use Rattle.ft_oblige.specs.building.Finding.{IsFresh, reads_next, with_reads}
use Rattle.ft_oblige.proofs.CloseLemmas.{begins, follows, ends}
use Rattle.ft_oblige.proofs.reading.found_by.Goals as goal

pub loop-next-init : goal.loop-next-init
loop-next-init c =
    begins c.args.tables.now (grid_reads c.args.grid.now) c.in_ok-found.found c.find_in_grid.new.found
    (subst (λ count. IsFresh count c.in_ok-found.found) c.len.ensures c.in_ok-found.ensures)
    c.in_ok-find_in_grid.ensures

pub loop-next-preserved : goal.loop-next-preserved
loop-next-preserved c =
    follows c.args.tables.now (grid_reads c.args.grid.now) c.loop-next.next c.loop-next.found c.follow.new.found c.loop-next.invariant
    (c.in_ok-follow.ensures ∙ ap (λ (memories : List Memory). with_reads c.loop-next.found
    (reads_next memories (slice_get c.loop-next.found.list c.loop-next.next))) c.as_slice.ensures)

pub returns : goal.returns
returns c = let past = c.loop-next-test.false in
    ends c.args.tables.now (grid_reads c.args.grid.now) c.loop-next.next c.loop-next.found (omega (arith, past)) c.loop-next.invariant
