-- The rows of the two structs, and the machine values that they have.
use mathlib.Core.Path.{◌≡◌, refl, ◌∙◌}
use mathlib.Core.List.{List, [], ◌∷◌, ◌++◌}
use lib.Dec.{lit<}
use seplogic.Ra.Ura.{Ura}
use mir.Syntax.{Args, a_type, dcons, dnil, ty_ptr, ty_struct, tcons, tnil}
use mir.Val.{Val, vstruct, vcons, vnil, of_list}
use base.Logic.{ent, emp, sep}
use types.Logic.{Logic, sem}
use types.Kit.{‵, ◌$◌, ◌∵◌, !, qed, move, fjoin, fpack, feq_i, done}
use denote.RattleType.{RattleType, Valss}
use denote.Param.{param, bounded}
use denote.RawPtr.{Ptr, block_ptr, null_ptr, ptr_val}
use denote.Shadow.{shadow, makes_shadow}
use denote.Steps.{nothing}
use denote.Struct.Struct.{Struct, within}
use denote.Struct.Declared as Declared
use denote.Struct.Tuple.{Tuple, tuple_type}
use denote.Struct.Owning.{shape}
use Rattle.std.proofs.mem.Param.{El, R}
use Rattle.std.proofs.alloc.Calls.{Al}
use Rattle.std.proofs.cell.Inside.{Good}
use Rattle.ft_pool.specs.contracts.block.Cells as C
use Rattle.ft_pool.specs.contracts.block.Start as S

module _ (E : El) (Z : Al) where
  abbrev pub args : Args
  args = bounded (a_type ∷ a_type ∷ []) (E.row, (Z.row, tt)) (dcons Z.d (dcons Z.drops dnil))

  -- the allocator, as the second parameter
  abbrev pub P : RattleType
  P = param 1 Z.row

  abbrev pub Cells : RattleType
  Cells = C.the_row (R E) P Z.g

  -- the one field of `Cells`, which takes no bytes
  abbrev pub Mark : RattleType
  Mark = Struct (shape (C.the_type (R E) P Z.g))

abbrev pub Start : El → RattleType
Start E = S.the_row (R E)

abbrev pub start_val : Ptr → Val
start_val p = vstruct (vcons (ptr_val p) vnil)

abbrev pub mark_val : Val
mark_val = vstruct (vcons (vstruct vnil) vnil)

pub start_good : (p : Ptr) → Good (ty_struct [] (tcons ty_ptr tnil)) (start_val p)
start_good (block_ptr b o) = (tt, (tt, tt))
start_good null_ptr = (tt, (record { fits = lit< tt }, tt))

pub start_told : (E : El) (d : (Start E).Denot) (vs : List Val) → shadow ((Start E).own_val d vs) → vs ≡ start_val d.ptr ∷ []
start_told E d vs s = s.1.0 ∙ (λ i. vstruct (of_list (s.1.1.0 i ++ [])) ∷ [])

pub start_made : {M : Type 1} {𝓤 : Ura M} (𝓛 : Logic 𝓤) (E : El) (p : Ptr)
    → ent 𝓤 (emp 𝓤) (sem 𝓛 ((Start E).own_val (record { ptr = p }) (start_val p ∷ [])))
start_made 𝓛 E p = makes_shadow 𝓛 ((Start E).own_val (record { ptr = p }) (start_val p ∷ [])) (λ _. (tt, (tt, tt)))
    ((ptr_val p ∷ [], tt), (refl, (refl, tt)))

pub mark_told : (E : El) (Z : Al) (vs : List Val) → shadow ((Mark E Z).own_val (tt, tt) vs) → vs ≡ mark_val ∷ []
mark_told E Z vs s = s.1.0 ∙ (λ i. vstruct (of_list (s.1.1.0.1.0 i ++ [])) ∷ [])

pub mark_made : {M : Type 1} {𝓤 : Ura M} (𝓛 : Logic 𝓤) (E : El) (Z : Al)
    → ent 𝓤 (emp 𝓤) (sem 𝓛 ((Mark E Z).own_val (tt, tt) (mark_val ∷ [])))
mark_made 𝓛 E Z = makes_shadow 𝓛 ((Mark E Z).own_val (tt, tt) (mark_val ∷ [])) (λ _. (tt, ((λ _. (tt, tt)), tt)))
    ((vstruct vnil ∷ [], tt), (refl, ((tt, (refl, tt)), tt)))

abbrev pub taken_val : Ptr → Val
taken_val p = vstruct (vcons (start_val p) (vcons mark_val vnil))

-- what `take` answers: where the block begins, and its cells
module _ (E : El) (Z : Al) where
  abbrev pub Taken : RattleType
  Taken = Tuple (Start E ∷ Cells E Z ∷ [])

  pub taken_made : {M : Type 1} {𝓤 : Ura M} (𝓛 : Logic 𝓤) (start : (Start E).Denot) (cells : (Cells E Z).Denot)
      → ent 𝓤 (sep 𝓤 (sem 𝓛 ((Start E).own_val start (start_val start.ptr ∷ []))) (sem 𝓛 ((Cells E Z).own_val cells (mark_val ∷ []))))
      (sem 𝓛 (Taken.own_val (start, cells) (taken_val start.ptr ∷ [])))
  taken_made 𝓛 start cells =
      qed 𝓛 (‵ ((Start E).own_val start (start_val start.ptr ∷ [])) ∷ ‵ ((Cells E Z).own_val cells (mark_val ∷ [])) ∷ []) ∵
      nothing ! $ move ! (2 ∷ 0 ∷ []) $ fjoin ! $ move ! (1 ∷ 0 ∷ []) $ fjoin ! $ feq_i ! (List Val) (taken_val start.ptr ∷ [])
      (taken_val start.ptr ∷ []) refl $ fjoin ! $
      fpack ! (Valss (Start E ∷ Cells E Z ∷ [])) (within (Declared.shape (tuple_type (Start E ∷ Cells E Z ∷ []))) (start, (cells, tt))
      (taken_val start.ptr ∷ [])) (start_val start.ptr ∷ [], (mark_val ∷ [], tt)) $ done !
