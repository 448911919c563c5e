-- At one scan the tables of a side have an answer.
use Rattle.std.proofs.Common.{◌≡◌, ◌∙◌, sym, ap, subst, refl, ℕ, zero, suc, ◌<◌, ℤ, pos, true, false, cond, Option, Some, None, slice_get}
use Rattle.std.proofs.Common.{arith, ⊎_elim, true≢false}
use Rattle.std.specs.Prelude.{IsTrue, ⊤, ◌==◌, ◌||◌}
use Rattle.std.proofs.lemmas.Bool.{cases_Bool, cond-true, cond-false, eq-eqb, ne_eqb, both_ways, or_left}
use Rattle.std.proofs.lemmas.Option.{same_Some, none-some}
use Rattle.ft_base.specs.Interval.{IsWithin}
use Rattle.ft_core.specs.declared.tables.Tables.{Tables}
use Rattle.ft_core.specs.declared.tables.Var.{Var}
use Rattle.ft_core.specs.declared.tables.VarKind.{VarKind}
use Rattle.ft_core.specs.declared.tables.VarKind.TheVariants as kind
use Rattle.ft_core.specs.declared.tables.Side.{Side}
use Rattle.ft_core.specs.declared.tables.Side.TheVariants as side
use Rattle.ft_core.specs.meaning.Kinds.{Kinds, same_kind, given_kinds, defined_kinds, side_kinds, section_of}
use Rattle.ft_core.specs.meaning.Reads.{at_now}
use Rattle.ft_mean.specs.meaning.Value.{View}
use Rattle.ft_mean.specs.meaning.Reading.{Reading, IsVar}
use Rattle.ft_mean.specs.meaning.Memory.{look}
use Rattle.ft_mean.specs.meaning.Cells.{defined}
use Rattle.ft_mean.specs.meaning.Proper.{AllProper}
use Rattle.ft_mean.proofs.WellFormed.{IsOf, IsWellFormed}
use Rattle.ft_mean.proofs.MemoryLemmas.{look_local}
use Rattle.ft_mean.proofs.OneScan.{Answer, answer, table_of, defined_same, table_same, given_or_defined, on_side}

-- every variable of the set is in range at every scan
abbrev pub AllInRange : Tables → Reading → Type 0
AllInRange S a = (j x : ℕ) (v : Var) → slice_get S.vars x ≡ Some v → IsWithin v.range (a j x)

-- the reading with this scan put at t
abbrev pub overlay : Reading → ℕ → (ℕ → ℤ) → Reading
overlay a t f j x = cond (j == t) (f x) (a j x)

pub overlay_at : (a : Reading) (t : ℕ) (f : ℕ → ℤ) (x : ℕ) → overlay a t f t x ≡ f x
overlay_at a t f x = cond-true (t == t) (f x) (a t x) (eq-eqb t t refl)

pub overlay_past : (a : Reading) (t : ℕ) (f : ℕ → ℤ) (j x : ℕ) → j < t → overlay a t f j x ≡ a j x
overlay_past a t f j x l = cond-false (j == t) (f x) (a j x) (ne_eqb j t (λ e. absurd (omega (arith, e, l))))

pub overlay_range : (S : Tables) (a : Reading) (t : ℕ) (f : ℕ → ℤ) → AllInRange S a
    → ((x : ℕ) (v : Var) → slice_get S.vars x ≡ Some v → IsWithin v.range (f x)) → AllInRange S (overlay a t f)
overlay_range S a t f range in_range j x v is =
    elim (j == t) as (λ b. IsWithin v.range (cond b (f x) (a j x))) [ true ↦ in_range x v is | false ↦ range j x v is ]

-- no kind is given and defined
apart_req : (k : VarKind) → IsTrue (same_kind kind.Mon k) → IsTrue (same_kind kind.Con k || same_kind kind.ReqInner k) → ⊥
apart_req kind.Mon g d = absurd (true≢false (sym d))
apart_req kind.Con g d = absurd (true≢false (sym g))
apart_req kind.Input g d = absurd (true≢false (sym g))
apart_req kind.Output g d = absurd (true≢false (sym g))
apart_req kind.ReqInner g d = absurd (true≢false (sym g))
apart_req kind.SofInner g d = absurd (true≢false (sym g))

apart_sof : (k : VarKind) → IsTrue (same_kind kind.Input k) → IsTrue (same_kind kind.Output k || same_kind kind.SofInner k) → ⊥
apart_sof kind.Mon g d = absurd (true≢false (sym g))
apart_sof kind.Con g d = absurd (true≢false (sym g))
apart_sof kind.Input g d = absurd (true≢false (sym d))
apart_sof kind.Output g d = absurd (true≢false (sym g))
apart_sof kind.ReqInner g d = absurd (true≢false (sym g))
apart_sof kind.SofInner g d = absurd (true≢false (sym g))

-- no given variable is defined by a table of its side
disjoint : (s : Side) (x : ℕ) (v : Var) → IsTrue (given_kinds s x v) → IsTrue (defined_kinds (section_of s) x v) → ⊥
disjoint side.Req x v g d = apart_req v.kind g d
disjoint side.Sof x v g d = apart_sof v.kind g d

pub given_side : (S : Tables) (s : Side) (x : ℕ) (v : Var) → IsVar S (given_kinds s) x v → IsVar S (side_kinds s) x v
given_side S s x v is = (is.0, or_left (given_kinds s x v) (defined_kinds (section_of s) x v) is.1)

-- a number in range for a variable, of which P holds where the variable is of these kinds
pub record Pick (S : Tables) (kinds : Kinds) (P : ℤ → Type 0) (x : ℕ) : Type 0 where
  pub z : ℤ
  pub in_range : (v : Var) → slice_get S.vars x ≡ Some v → IsWithin v.range z
  pub holds : (v : Var) → IsVar S kinds x v → P z

module _ (S : Tables) (wf : IsWellFormed S) (kinds : Kinds) (P : ℤ → Type 0) (x : ℕ)
    (make : (v : Var) → IsVar S kinds x v → (z : ℤ) × IsWithin v.range z × P z) where
  pick_of : (o : Option Var) → slice_get S.vars x ≡ o → Pick S kinds P x
  pick_of None e = record {
    z = pos 0;
    in_range = λ v is. absurd (none-some v (sym e ∙ is));
    holds = λ v is. absurd (none-some v (sym e ∙ is.0));
  }
  pick_of (Some v) e = ⊎_elim
      (λ is. let made = make v (e, is) in record {
        z = made.0;
        in_range = λ u there. subst (λ (w : Var). IsWithin w.range made.0) (same_Some v u (sym e ∙ there)) made.1;
        holds = λ u on. made.2;
      })
      (λ other. record {
        z = v.init;
        in_range = λ u there. subst (λ (w : Var). IsWithin w.range v.init) (same_Some v u (sym e ∙ there)) (wf.inits x v e);
        holds = λ u on. absurd (both_ways (kinds x v) other (ap (λ (w : Var). kinds x w) (same_Some v u (sym e ∙ on.0)) ∙ on.1));
      })
      (cases_Bool (kinds x v))

  pub pick : Pick S kinds P x
  pick = pick_of (slice_get S.vars x) refl

module _ (S : Tables) (wf : IsWellFormed S) (proper : AllProper S) (s : Side) (a : Reading) (t : ℕ) (range : AllInRange S a)
    (g : ℕ → ℤ) (given_range : (x : ℕ) (v : Var) → IsVar S (given_kinds s) x v → IsWithin v.range (g x)) where
  -- a scan with the given values, in which the variables up to a rank have the values of their tables
  pub record ScanUpTo (n : ℕ) : Type 0 where
    pub f : ℕ → ℤ
    pub in_range : (x : ℕ) (v : Var) → slice_get S.vars x ≡ Some v → IsWithin v.range (f x)
    pub given : (x : ℕ) (v : Var) → IsVar S (given_kinds s) x v → f x ≡ g x
    pub follows : (x : ℕ) (v : Var) → IsVar S (defined_kinds (section_of s)) x v → wf.rank (at_now x) < n
        → IsTrue (defined S (section_of s) (look S (overlay a t f) t) x (f x))

  -- what is asked of a number for x: it is the given one, or P holds of it
  abbrev Suits : (ℕ → ℤ → Type 0) → ℕ → ℤ → Type 0
  Suits P x z = ((v : Var) → IsVar S (given_kinds s) x v → z ≡ g x) × ((v : Var) → IsVar S (defined_kinds (section_of s)) x v → P x z)

  abbrev Maker : (ℕ → ℤ → Type 0) → Type 0
  Maker P = (x : ℕ) (v : Var) → IsVar S (defined_kinds (section_of s)) x v → (z : ℤ) × IsWithin v.range z × P x z

  suit : (P : ℕ → ℤ → Type 0) → Maker P → (x : ℕ) (v : Var) → IsVar S (side_kinds s) x v → (z : ℤ) × IsWithin v.range z × Suits P x z
  suit P make x v is = ⊎_elim
      (λ given. (
        g x,
        given_range x v given,
        (
          (λ u on. refl),
          (λ u on. absurd (disjoint s x v given.1 (ap (λ (w : Var). defined_kinds (section_of s) x w)
              (same_Some v u (sym is.0 ∙ on.0)) ∙ on.1))),
        ),
      ))
      (λ by_table. let made = make x v by_table in (
        made.0,
        made.1,
        (
          (λ u on. absurd (disjoint s x v (ap (λ (w : Var). given_kinds s x w) (same_Some v u (sym is.0 ∙ on.0)) ∙ on.1) by_table.1)),
          (λ u on. made.2),
        ),
      ))
      (given_or_defined S wf s x v is)

  pick_scan : (P : ℕ → ℤ → Type 0) → Maker P → (x : ℕ) → Pick S (side_kinds s) (Suits P x) x
  pick_scan P make x = pick S wf (side_kinds s) (Suits P x) x (suit P make x)

  first_scan : ScanUpTo zero
  first_scan =
      let picks : (x : ℕ) → Pick S (side_kinds s) (Suits (λ x z. ⊤) x) x =
      pick_scan (λ x z. ⊤) (λ x v is. (v.init, wf.inits x v is.0, tt)) in
      record {
        f = λ x. (picks x).z;
        in_range = λ x v is. (picks x).in_range v is;
        given = λ x v is. ((picks x).holds v (given_side S s x v is)).0 v is;
        follows = λ x v is low. absurd (omega (arith, low));
      }

  module _ (n : ℕ) (p : ScanUpTo n) where
    abbrev here : View
    here = look S (overlay a t p.f) t

    abbrev Gives : ℕ → ℤ → Type 0
    Gives x z = IsTrue (defined S (section_of s) here x z)

    answer_here : (x : ℕ) (v : Var) → IsVar S (defined_kinds (section_of s)) x v → Answer S (section_of s) here x v.range
    answer_here x v is = answer S wf proper (section_of s) here x v is
        (λ o. look_local S wf (overlay a t p.f) t (λ j y u l on. overlay_range S a t p.f range p.in_range j y u on) _)

    picks : (x : ℕ) → Pick S (side_kinds s) (Suits Gives x) x
    picks = pick_scan Gives (λ x v is. let one = answer_here x v is in (one.z, one.in_range, one.is))

    abbrev next : ℕ → ℤ
    next x = (picks x).z

    kept : (x : ℕ) → IsOf S (side_kinds s) x → wf.rank (at_now x) < n → p.f x ≡ next x
    kept x on low = ⊎_elim
        (λ given. p.given x on.0 given ∙ sym (((picks x).holds on.0 on.1).0 on.0 given))
        (λ by_table. let one = answer_here x on.0 by_table in
        one.only (p.f x) (p.follows x on.0 by_table low) ∙ sym (one.only (next x) (((picks x).holds on.0 on.1).1 on.0 by_table)))
        (given_or_defined S wf s x on.0 on.1)

    next_scan : ScanUpTo (suc n)
    next_scan = record {
      f = next;
      in_range = λ x v is. (picks x).in_range v is;
      given = λ x v is. ((picks x).holds v (given_side S s x v is)).0 v is;
      follows = λ x v is low.
          let o = table_of S wf (section_of s) x v is in
          sym (defined_same S wf (section_of s) here (look S (overlay a t next) t) x (next x) o
          (table_same S wf s (overlay a t p.f) (overlay a t next) t
          (λ j y l on. overlay_past a t p.f j y l ∙ sym (overlay_past a t next j y l)) x
          (λ y on l. overlay_at a t p.f y ∙ kept y on (omega (arith, l, low)) ∙ sym (overlay_at a t next y)) o))
          ∙ ((picks x).holds v (on_side S wf s x v is)).1 v is;
    }

  pub scan_up_to : (n : ℕ) → ScanUpTo n
  scan_up_to zero = first_scan
  scan_up_to (suc n) = next_scan n (scan_up_to n)
