-- What terms, conditions, memories and tables read.
use Rattle.std.specs.Prelude.{ℕ, List, [], ◌∷◌, ◌++◌, Option, Some, None}
use Rattle.std.specs.List.{flat_map}
use Rattle.ft_core.specs.declared.term.Term.{Term, Term-F, fold-Term}
use Rattle.ft_core.specs.declared.term.Term.TheOpen as term
use Rattle.ft_core.specs.declared.term.Cond.{Cond, Cond-F, fold-Cond}
use Rattle.ft_core.specs.declared.term.Cond.TheOpen as cond
use Rattle.ft_core.specs.declared.tables.Memory.{Memory}
use Rattle.ft_core.specs.declared.tables.Memory.TheVariants.{Held, Hyst}
use Rattle.ft_core.specs.declared.tables.Grid.{Grid}
use Rattle.ft_core.specs.declared.tables.Grid.TheVariants.{Normal, Inverted, Vector}
use Rattle.ft_core.specs.meaning.Grids.{Cell}

-- a variable of this scan or of the scan before, or a memory or an age of this scan
pub data Read : Type 0 where
  at_now : ℕ → Read
  at_before : ℕ → Read
  of_memory : ℕ → Read
  of_age : ℕ → Read

abbrev pub layer_term_reads : Term-F (List Read) → List Read
layer_term_reads (term.Num n) = []
layer_term_reads (term.Now x) = at_now x ∷ []
layer_term_reads (term.Prev x) = at_before x ∷ []
layer_term_reads (term.Age m) = of_age m ∷ []
layer_term_reads (term.Neg e) = e
layer_term_reads (term.Add a b) = a ++ b
layer_term_reads (term.Sub a b) = a ++ b
layer_term_reads (term.Times c e) = e
layer_term_reads (term.Div e k) = e

unfoldable pub term_reads : Term → List Read
term_reads = fold-Term (List Read) layer_term_reads

abbrev pub layer_cond_reads : Cond-F (List Read) → List Read
layer_cond_reads cond.Yes = []
layer_cond_reads cond.No = []
layer_cond_reads (cond.Compare r a b) = term_reads a ++ term_reads b
layer_cond_reads (cond.Memory m) = of_memory m ∷ []
layer_cond_reads (cond.Not a) = a
layer_cond_reads (cond.And a b) = a ++ b
layer_cond_reads (cond.Or a b) = a ++ b

unfoldable pub cond_reads : Cond → List Read
cond_reads = fold-Cond (List Read) layer_cond_reads

abbrev pub memory_reads : Option Memory → List Read
memory_reads None = []
memory_reads (Some (Held name side c hold)) = cond_reads c
memory_reads (Some (Hyst name side e lo hi start)) = term_reads e

abbrev pub grid_reads : Grid → List Read
grid_reads (Normal target columns rows terms) =
    flat_map cond_reads columns ++ flat_map cond_reads rows ++ flat_map (flat_map term_reads) terms
grid_reads (Inverted target terms rows grid) =
    flat_map term_reads terms ++ flat_map cond_reads rows ++ flat_map (flat_map cond_reads) grid
grid_reads (Vector columns targets terms) = flat_map cond_reads columns ++ flat_map (flat_map term_reads) terms

-- what a cell reads: its own conditions and its own term
abbrev pub cell_reads : Cell → List Read
cell_reads cell = flat_map cond_reads cell.conds ++ term_reads cell.term
