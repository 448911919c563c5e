-- A variable's place in a row of the variables of some kinds.
use Rattle.std.proofs.Common.{◌≡◌, ◌∙◌, sym, ap, subst, refl, ℕ, ℤ, pos, Bool, true, false, List, [], ◌∷◌, length, slice_get}
use Rattle.std.proofs.Common.{slice_index_or, Some, None}
use Rattle.std.specs.Prelude.{nat_lt}
use Rattle.std.proofs.lemmas.Bool.{ltb-true, cond-true, cond-false}
use Rattle.std.proofs.lemmas.Option.{slice_get_read}
use Rattle.ft_core.specs.declared.tables.Tables.{Tables}
use Rattle.ft_core.specs.declared.tables.Var.{Var}
use Rattle.ft_core.specs.declared.tables.VarKind.{VarKind}
use Rattle.ft_core.specs.declared.tables.VarKind.TheVariants as kind
use Rattle.ft_core.specs.declared.tables.Section.{Section}
use Rattle.ft_core.specs.declared.tables.Section.TheVariants as section
use Rattle.ft_core.specs.meaning.Kinds.{place_of, same_kind, of_kind, defined_kinds, image_kinds, is_of}
use Rattle.ft_core.specs.contracts.tables.VarKind.{the_type}
use Rattle.ft_mean.specs.meaning.Reading.{init_of, reading_of}
use denote.Enum.Bare.{sameb}

-- an image has what its section defines
pub same_image : (section : Section) → image_kinds section ≡ defined_kinds section
same_image section.In = refl
same_image section.Req = refl
same_image section.Sof = refl
same_image section.Out = refl

-- what compares kinds tells whether one is this one
pub kinds_compare : (k l : VarKind) → sameb the_type l k ≡ same_kind k l
kinds_compare kind.Mon kind.Mon = refl
kinds_compare kind.Con kind.Con = refl
kinds_compare kind.Input kind.Input = refl
kinds_compare kind.Output kind.Output = refl
kinds_compare kind.ReqInner kind.ReqInner = refl
kinds_compare kind.SofInner kind.SofInner = refl
kinds_compare k l = refl

-- a row of the variables of a kind tells the value at its place of one of that kind, and the `init` of any other
module _ (S : Tables) (k : VarKind) (row : List ℤ) (x : ℕ) where
  pub told_value : (v : Var) → slice_get S.vars x ≡ Some v → of_kind k x v ≡ true
      → slice_index_or row (place_of (of_kind k) S.vars x) (pos 0) ≡ reading_of S (of_kind k) (row ∷ []) 0 x
  told_value v there same = sym (cond-true (is_of S.vars (of_kind k) x) (slice_index_or row (place_of (of_kind k) S.vars x) (pos 0))
      (init_of S x)
      (ap (λ o. elim o as (λ z. Bool) [ None ↦ false | Some u ↦ of_kind k x u ]) there ∙ same))

  pub told_init : (v : Var) → slice_get S.vars x ≡ Some v → of_kind k x v ≡ false → v.init ≡ reading_of S (of_kind k) (row ∷ []) 0 x
  told_init v there other = sym (cond-false (is_of S.vars (of_kind k) x) (slice_index_or row (place_of (of_kind k) S.vars x) (pos 0))
      (init_of S x)
      (ap (λ o. elim o as (λ z. Bool) [ None ↦ false | Some u ↦ of_kind k x u ]) there ∙ other)
      ∙ ap (λ o. elim o as (λ z. ℤ) [ None ↦ pos 0 | Some u ↦ u.init ]) there)

-- what is got of a list at a place stands there
pub got : {A : Type 0} (xs ys : List A) (i : ℕ) (x : A) → ys ≡ xs → true ≡ nat_lt i (length ys) → x ≡ slice_index_or ys i x → slice_get xs i
    ≡ Some x
got xs ys i x same inside is = subst (λ zs. slice_get zs i ≡ Some x) same
    (slice_get_read ys (length ys) i x refl (ltb-true i (length ys) (sym inside)) is)
