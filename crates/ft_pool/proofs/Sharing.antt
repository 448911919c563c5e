-- A `&` to the cells is made where one to a value is.
use Prim.Native.Nat.{ℕ, zero, suc, ◌+◌}
use Rattle.std.specs.Prelude.{List, [], ◌∷◌}
use Rattle.std.specs.Mem.{type_size}
use seplogic.Ra.Ura.{Ura}
use base.Fraction.{full_share}
use base.Fml.{Lft, Fml, Incl, ffalse, fsep}
use mir.Syntax.{Ty}
use types.Logic.{Logic}
use denote.RattleType.{RattleType, RowLaws}
use denote.Memory.{part_at, shared_of}
use denote.Param.Laws.{Laws}
use denote.RawPtr.{Ptr, block_ptr, null_ptr}
use denote.Sharing.{ShrLaws, said}
use denote.SharingLaws.{beside_shr_laws, nothing_shr_laws, said_shr_laws}
use denote.Shares.{Shares-less}
use denote.Struct.Lending.{Lends, Lends-both, Lends-first, Lends-nothing, Lends-said, Lends-false}
use Rattle.ft_pool.specs.block.Ownership.{block_of, places, values_lent, short, cells_own, cells_lent}

module _ (R : RattleType) (L : RowLaws R) where
  values_lent_laws : (b o : ℕ) (xs : List R.Denot) → ShrLaws (values_lent R b o xs)
  values_lent_laws b o [] = nothing_shr_laws
  values_lent_laws b o (x ∷ xs) = beside_shr_laws _ _ (L x b o) (values_lent_laws b (o + type_size R) xs)

  pub cells_lent_laws : (p : Ptr) (n : ℕ) (xs : List R.Denot) → ShrLaws (cells_lent R p n xs)
  cells_lent_laws (block_ptr b o) n xs = beside_shr_laws _ _ (said_shr_laws (short R n) tt) (values_lent_laws b o xs)
  cells_lent_laws null_ptr n xs = said_shr_laws ffalse tt

module _ {M : Type 1} {𝓤 : Ura M} (𝓛 : Logic 𝓤) (l : Lft) (R : RattleType) (L : Laws R) (within : Incl l R.lives) where
  Lends-places : (b o n : ℕ) (xs : List R.Denot) → Lends 𝓛 (places R b o n xs) (values_lent R b o xs) l
  Lends-places b o n [] = Lends-nothing 𝓛 (places R b o n []) l
  Lends-places b o zero (x ∷ xs) = Lends-false 𝓛 (values_lent R b o (x ∷ xs)) l
  Lends-places b o (suc n) (x ∷ xs) =
      Lends-both 𝓛 (part_at R full_share x b o) (places R b (o + type_size R) n xs) (shared_of R x b o)
      (values_lent R b (o + type_size R) xs) l
      (λ κ ts. Shares-less 𝓛 R R.lives l within (L.shares 𝓛) x κ ts b o) (Lends-places b (o + type_size R) n xs)

  pub Lends-cells : (right : Ty → Ptr → Fml) (p : Ptr) (n : ℕ) (xs : List R.Denot)
      → Lends 𝓛 (cells_own R right p n xs) (cells_lent R p n xs) l
  Lends-cells right (block_ptr b o) n xs =
      Lends-both 𝓛 (short R n) (fsep (places R b o n xs) (right (block_of R n) (block_ptr b o))) (said (short R n)) (values_lent R b o xs) l
      (Lends-said 𝓛 (short R n) tt l)
      (Lends-first 𝓛 (places R b o n xs) (right (block_of R n) (block_ptr b o)) (values_lent R b o xs) l (Lends-places b o n xs))
  Lends-cells right null_ptr n xs = Lends-false 𝓛 (said ffalse) l
