-- What is read alike has one value: laws over evaluation alone.
use Rattle.std.specs.Prelude.{◌≡◌, List}
use Rattle.std.specs.List.{Contains, flat_map, list_all}
use Rattle.ft_core.specs.declared.term.Term.{Term}
use Rattle.ft_core.specs.declared.term.Cond.{Cond}
use Rattle.ft_core.specs.meaning.Grids.{Cell}
use Rattle.ft_core.specs.meaning.Reads.{Read, at_now, at_before, of_memory, of_age, term_reads, cond_reads, cell_reads}
use Rattle.ft_mean.specs.meaning.Cells.{cell_holds, holding}
use Rattle.ft_mean.specs.meaning.Value.{View, value, truth}

-- two views have the same there
abbrev pub Same : View → View → Read → Type 0
Same V W (at_now x) = V.now x ≡ W.now x
Same V W (at_before x) = V.before x ≡ W.before x
Same V W (of_memory m) = V.memory m ≡ W.memory m
Same V W (of_age m) = V.age m ≡ W.age m

-- they agree on all that is read
abbrev pub AllSame : View → View → List Read → Type 0
AllSame V W reads = (r : Read) → Contains reads r → Same V W r

-- views that agree on what a term reads give it the same value
abbrev pub SameValue : Type 0
SameValue = (V W : View) (e : Term) → AllSame V W (term_reads e) → value V e ≡ value W e

-- views that agree on what a condition reads give it the same truth
abbrev pub SameTruth : Type 0
SameTruth = (V W : View) (c : Cond) → AllSame V W (cond_reads c) → truth V c ≡ truth W c

-- so with the conjunction of several conditions
abbrev pub SameTruths : Type 0
SameTruths = (V W : View) (conds : List Cond) → AllSame V W (flat_map cond_reads conds) → list_all (truth V) conds
    ≡ list_all (truth W) conds

-- a cell whose reads are alike holds in both views or in neither, and its term has one value
abbrev pub SameCell : Type 0
SameCell = (V W : View) (cell : Cell) → AllSame V W (cell_reads cell) → (cell_holds V cell ≡ cell_holds W cell)
    × (value V cell.term ≡ value W cell.term)

-- so the same of several cells hold
abbrev pub SameHolding : Type 0
SameHolding = (V W : View) (cells : List Cell) → AllSame V W (flat_map cell_reads cells) → holding V cells ≡ holding W cells
