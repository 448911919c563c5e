-- Which variables are of which side: the only facts on kinds that proofs over both sides use.
use Rattle.std.proofs.Common.{◌≡◌, ◌∙◌, sym, ap, refl, ℕ, Bool, true, false, ◌||◌, ◌⊎◌, inl, inr, Some, None, slice_get, ⊎_elim, true≢false}
use Rattle.std.proofs.lemmas.Bool.{cases_Bool, or_left, or_right}
use Rattle.std.proofs.lemmas.Option.{none-some}
use Rattle.ft_core.specs.declared.tables.Tables.{Tables}
use Rattle.ft_core.specs.declared.tables.Var.{Var}
use Rattle.ft_core.specs.declared.tables.VarKind.{VarKind}
use Rattle.ft_core.specs.declared.tables.VarKind.TheVariants as kind
use Rattle.ft_core.specs.declared.tables.Side.TheVariants as side
use Rattle.ft_core.specs.meaning.Kinds.{Kinds, same_kind, of_kind, monitored, controlled, inputs, outputs, requirement, design, side_kinds}
use Rattle.ft_core.specs.meaning.Kinds.{is_of}
use Rattle.ft_mean.specs.meaning.Reading.{IsVar}
use Rattle.ft_mean.proofs.WellFormed.{IsOf, of_test}

abbrev required : VarKind → Bool
required k = same_kind kind.Mon k || (same_kind kind.Con k || same_kind kind.ReqInner k)

abbrev designed : VarKind → Bool
designed k = same_kind kind.Input k || (same_kind kind.Output k || same_kind kind.SofInner k)

one_side : (k : VarKind) → (required k ≡ true) ⊎ (designed k ≡ true)
one_side kind.Mon = inl refl
one_side kind.Con = inl refl
one_side kind.Input = inr refl
one_side kind.Output = inr refl
one_side kind.ReqInner = inl refl
one_side kind.SofInner = inr refl

apart : (k : VarKind) → designed k ≡ true → required k ≡ false
apart kind.Mon e = absurd (true≢false (sym e))
apart kind.Con e = absurd (true≢false (sym e))
apart kind.Input e = refl
apart kind.Output e = refl
apart kind.ReqInner e = absurd (true≢false (sym e))
apart kind.SofInner e = refl

module _ (S : Tables) where
  -- a test for kinds passes at a variable of them, and nowhere else
  pub of_var : (kinds : Kinds) (x : ℕ) (v : Var) → IsVar S kinds x v → is_of S.vars kinds x ≡ true
  of_var kinds x v is = ap (λ o. elim o as (λ z. Bool) [ None ↦ false | Some u ↦ kinds x u ]) is.0 ∙ is.1

  pub not_of_var : (kinds : Kinds) (x : ℕ) (v : Var) → slice_get S.vars x ≡ Some v → kinds x v ≡ false → is_of S.vars kinds x ≡ false
  not_of_var kinds x v is never = ap (λ o. elim o as (λ z. Bool) [ None ↦ false | Some u ↦ kinds x u ]) is ∙ never

  pub var_of : (kinds : Kinds) (x : ℕ) → is_of S.vars kinds x ≡ true → IsOf S kinds x
  var_of kinds x is = of_test S kinds x (slice_get S.vars x) refl is

  pub of_none : (kinds : Kinds) (x : ℕ) → slice_get S.vars x ≡ None → is_of S.vars kinds x ≡ false
  of_none kinds x none = ⊎_elim
      (λ is. let o = var_of kinds x is in absurd (none-some o.0 (sym none ∙ o.1.0)))
      (λ never. never)
      (cases_Bool (is_of S.vars kinds x))

  -- a variable is of one side, and not of both
  pub some_side : (x : ℕ) (v : Var) → slice_get S.vars x ≡ Some v → IsVar S (side_kinds side.Req) x v ⊎ IsVar S (side_kinds side.Sof) x v
  some_side x v is = ⊎_elim (λ e. inl (is, e)) (λ e. inr (is, e)) (one_side v.kind)

  pub not_required : (x : ℕ) (v : Var) → IsVar S (side_kinds side.Sof) x v → is_of S.vars (side_kinds side.Req) x ≡ false
  not_required x v is = not_of_var (side_kinds side.Req) x v is.0 (apart v.kind is.1)

  pub controlled_side : (x : ℕ) (v : Var) → IsVar S controlled x v → IsVar S (side_kinds side.Req) x v
  controlled_side x v is = (is.0, or_right (monitored x v) (requirement x v) (or_left (controlled x v) (of_kind kind.ReqInner x v) is.1))

  pub output_side : (x : ℕ) (v : Var) → IsVar S outputs x v → IsVar S (side_kinds side.Sof) x v
  output_side x v is = (is.0, or_right (inputs x v) (design x v) (or_left (outputs x v) (of_kind kind.SofInner x v) is.1))
