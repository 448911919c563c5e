-- The places that are asked for are those of the cells that hold, or of those that hold and are out of range. Without a tactic: the
-- crates above cite these too.
use Rattle.std.proofs.Common.{◌≡◌, ap, refl, Bool, true, false, ◌&&◌, cond, List, [], ◌∷◌, map, filter}
use Rattle.ft_core.specs.declared.tables.Tables.{Tables}
use Rattle.ft_core.specs.declared.tables.Var.{Var}
use Rattle.ft_core.specs.meaning.Grids.{Cell}
use Rattle.ft_mean.specs.meaning.Cells.{cell_holds, holding}
use Rattle.ft_mean.specs.meaning.Value.{View}
use Rattle.ft_claims.specs.laws.CellLaws.{is_beyond}
use Rattle.ft_cover.specs.building.Places.{is_sought, places_in}
use Rattle.ft_cover.specs.declared.placing.Wanted.TheVariants.{Holding, Outside}
use Rattle.ft_cover.specs.meaning.Covered.{place_of}

and_true : (b : Bool) → (b && true) ≡ b
and_true true = refl
and_true false = refl

sought : (vars : List Var) (V : View) (cs : List Cell) → filter (is_sought vars V Holding) cs ≡ holding V cs
sought vars V [] = refl
sought vars V (c ∷ cs) = λ i. cond (and_true (cell_holds V c) i) (c ∷ sought vars V cs i) (sought vars V cs i)

pub holding_places : (vars : List Var) (V : View) (cs : List Cell) → places_in vars V Holding cs ≡ map place_of (holding V cs)
holding_places vars V cs = ap (map place_of) (sought vars V cs)

pub outside_places : (S : Tables) (V : View) (cs : List Cell) → places_in S.vars V Outside cs ≡ map place_of (filter (is_beyond S V) cs)
outside_places S V cs = refl
