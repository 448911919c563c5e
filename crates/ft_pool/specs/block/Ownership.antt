-- What a block of places owns and lends, for values of the row R.
use Rattle.std.specs.Prelude.{ℕ, zero, suc, ◌+◌, ◌*◌, ◌^◌, List, [], ◌∷◌}
use Rattle.std.specs.Mem.{type_size}
use base.Fraction.{full_share}
use base.Fml.{Lft, Fml, ffalse, fsep, flt, froom}
use mir.Syntax.{Ty, ty_array}
use mir.Raw.{raw}
use denote.RattleType.{RattleType}
use denote.Memory.{lone, part_at, shared_of}
use denote.Sharing.{nothing, said, beside}
use denote.RawPtr.{Ptr, block_ptr, null_ptr}

module _ (R : RattleType) where
  -- the type of a block of n places
  abbrev pub block_of : ℕ → Ty
  block_of n = raw (ty_array (lone R.mir) n)

  -- n places from the offset o of the block b on: the first hold xs, and the others hold no value
  abbrev pub places : ℕ → ℕ → ℕ → List R.Denot → Fml
  places b o n [] = froom (block_of n) b o
  places b o zero (x ∷ xs) = ffalse
  places b o (suc n) (x ∷ xs) = fsep (part_at R full_share x b o) (places b (o + type_size R) n xs)

  -- each of the values, for reading
  abbrev pub values_lent : ℕ → ℕ → List R.Denot → Lft → Fml
  values_lent b o [] = nothing
  values_lent b o (x ∷ xs) = beside (shared_of R x b o) (values_lent b (o + type_size R) xs)

  -- a block has fewer than 2 ^ 63 bytes
  abbrev pub short : ℕ → Fml
  short n = flt (n * type_size R) (2 ^ 63)

  -- the places of a block that begins at p, and the right to give it back
  abbrev pub cells_own : (Ty → Ptr → Fml) → Ptr → ℕ → List R.Denot → Fml
  cells_own right (block_ptr b o) n xs = fsep (short n) (fsep (places b o n xs) (right (block_of n) (block_ptr b o)))
  cells_own right null_ptr n xs = ffalse

  abbrev pub cells_lent : Ptr → ℕ → List R.Denot → Lft → Fml
  cells_lent (block_ptr b o) n xs = beside (said (short n)) (values_lent b o xs)
  cells_lent null_ptr n xs = said ffalse
