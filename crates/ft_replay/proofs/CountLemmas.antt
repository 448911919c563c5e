-- The places of variables in a row, counted from one variable to the next.
use Rattle.std.proofs.Common.{◌≡◌, ◌∙◌, sym, ap, refl, ℕ, zero, suc, ◌+◌, Bool, true, false, cond, List, [], ◌∷◌, length, slice_get, Some}
use Rattle.std.proofs.Common.{◌||◌, true≢false}
use Rattle.std.specs.Prelude.{IsTrue}
use Rattle.ft_core.specs.declared.tables.Var.{Var}
use Rattle.ft_core.specs.declared.tables.VarKind.{VarKind}
use Rattle.ft_core.specs.declared.tables.VarKind.TheVariants as kind
use Rattle.ft_core.specs.declared.tables.Side.TheVariants as side
use Rattle.ft_core.specs.meaning.Kinds.{Kinds, after_first, controlled, count_of, outputs, place_of, same_kind, side_kinds}
use Rattle.ft_core.specs.laws.VarPlaces.{counted, passed}

module _ (kinds : Kinds) (vars : List Var) (x : ℕ) (v : Var) (e : slice_get vars x ≡ Some v) where
  -- a count goes on as the places do
  pub goes-with : (at next : ℕ) → at ≡ place_of kinds vars x → next ≡ cond (kinds x v) (at + 1) at → next ≡ place_of kinds vars (x + 1)
  goes-with at next is then_next =
      then_next ∙ by (kinds x v) (counted kinds vars x v e) (passed kinds vars x v e)
    where
      by : (b : Bool) → (b ≡ true → place_of kinds vars (x + 1) ≡ place_of kinds vars x + 1)
          → (b ≡ false → place_of kinds vars (x + 1) ≡ place_of kinds vars x) → cond b (at + 1) at ≡ place_of kinds vars (x + 1)
      by true one other = ap (λ n. n + 1) is ∙ sym (one refl)
      by false one other = is ∙ sym (other refl)

-- after the last variable it is their number
pub all-counted : (kinds : Kinds) (vars : List Var) (n : ℕ) → n ≡ length vars → place_of kinds vars n ≡ count_of kinds vars
all-counted kinds vars n e = ap (place_of kinds vars) e ∙ whole kinds vars
  where
    whole : (ks : Kinds) (vs : List Var) → place_of ks vs (length vs) ≡ count_of ks vs
    whole ks [] = refl
    whole ks (v ∷ vs) = ap (λ n. cond (ks zero v) (suc n) n) (whole (after_first ks) vs)

-- outputs are of the design, and controlled variables of the requirement
pub output-of-design : (x : ℕ) (v : Var) → IsTrue (outputs x v) → IsTrue (side_kinds side.Sof x v)
output-of-design x v is = by v.kind is
  where
    by : (k : VarKind) → IsTrue (same_kind kind.Output k)
        → IsTrue (same_kind kind.Input k || (same_kind kind.Output k || same_kind kind.SofInner k))
    by kind.Output e = refl
    by kind.Mon e = absurd (true≢false (sym e))
    by kind.Con e = absurd (true≢false (sym e))
    by kind.Input e = refl
    by kind.ReqInner e = absurd (true≢false (sym e))
    by kind.SofInner e = absurd (true≢false (sym e))

pub controlled-of-requirement : (x : ℕ) (v : Var) → IsTrue (controlled x v) → IsTrue (side_kinds side.Req x v)
controlled-of-requirement x v is = by v.kind is
  where
    by : (k : VarKind) → IsTrue (same_kind kind.Con k)
        → IsTrue (same_kind kind.Mon k || (same_kind kind.Con k || same_kind kind.ReqInner k))
    by kind.Con e = refl
    by kind.Mon e = absurd (true≢false (sym e))
    by kind.Output e = absurd (true≢false (sym e))
    by kind.Input e = absurd (true≢false (sym e))
    by kind.ReqInner e = absurd (true≢false (sym e))
    by kind.SofInner e = absurd (true≢false (sym e))
