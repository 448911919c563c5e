-- Values in range and ages in their spans keep the sizes of their set; what a checked set is made of is small.
use Rattle.std.proofs.Common.{◌≡◌, ◌∙◌, sym, ap, subst, refl, ℕ, zero, suc, ◌≤◌, max, ℤ, pos, negsuc, Bool, true, List, []}
use Rattle.std.proofs.Common.{◌∷◌, ◌++◌, slice_get, Option, Some, None, arith}
use Rattle.std.specs.Prelude.{unsigned_abs}
use Rattle.std.specs.List.{list_all}
use Rattle.std.proofs.lemmas.Int.{ints}
use Rattle.std.proofs.lemmas.Bool.{and_parts, cond-false}
use Rattle.std.proofs.lemmas.List.Folds.{list_all-append}
use Rattle.std.proofs.lemmas.Option.{none-some, same_Some}
use Rattle.ft_base.specs.Interval.{IsWithin}
use Rattle.ft_core.specs.declared.tables.Tables.{Tables}
use Rattle.ft_core.specs.declared.tables.Table.{Table}
use Rattle.ft_core.specs.declared.tables.Var.{Var}
use Rattle.ft_core.specs.declared.tables.Memory.{Memory}
use Rattle.ft_core.specs.declared.tables.Memory.TheVariants.{Held, Hyst}
use Rattle.ft_core.specs.meaning.Kinds.{is_of}
use Rattle.ft_core.specs.checked.Size.{var_size, age_size, is_sized, is_sized_grid, is_sized_memory}
use Rattle.ft_mean.specs.meaning.Memory.{kept, kept_of}
use Rattle.ft_mean.specs.laws.Moves.{span_of}
use Rattle.ft_mean.specs.meaning.Reading.{Reading, before, init_of}
use Rattle.ft_mean.specs.laws.SafetyLaws.{AreValuesOf, AreAgesOf, ViewsKeepSizes, LooksKeepSizes, ListsTellValues, ClausesAreSafe}
use Rattle.ft_mean.specs.laws.SafetyLaws.{TablesAreSafe, MemoriesAreSafe, SafeByLess}
use Rattle.ft_mean.proofs.BegunLemmas.{before_by}
use Rattle.ft_mean.proofs.MovesLaw.{memories_move}
use Rattle.ft_mean.proofs.SafeLemmas.{safe_by}
use Rattle.ft_mean.proofs.SideLemmas.{of_none}
use Rattle.ft_mean.proofs.Traces.{reading_range}
use Rattle.ft_mean.proofs.WellFormed.{opened}

within_size : (range : ℤ × ℤ) (z : ℤ) → IsWithin range z → unsigned_abs z ≤ max 1 (max (unsigned_abs range.0) (unsigned_abs range.1))
within_size range z h = grind (arith, ints, h.0, h.1)

value_below : (vars : List Var) (f : ℕ → ℤ) → ((x : ℕ) (v : Var) → slice_get vars x ≡ Some v → IsWithin v.range (f x))
    → ((x : ℕ) → slice_get vars x ≡ None → f x ≡ pos 0)
    → (x : ℕ) → unsigned_abs (f x) ≤ var_size (slice_get vars x)
value_below vars f range none x = of (slice_get vars x) refl
  where
    of : (o : Option Var) → slice_get vars x ≡ o → unsigned_abs (f x) ≤ var_size o
    of None e = subst (λ z. unsigned_abs z ≤ 1) (sym (none x e)) (omega arith)
    of (Some v) e = within_size v.range (f x) (range x v e)

small_age : (z : ℤ) → IsWithin (negsuc 0, pos 1) z → unsigned_abs z ≤ 1
small_age z h = grind (arith, ints, h.0, h.1)

held_age : (hold z : ℤ) → IsWithin (negsuc 0, hold) z → unsigned_abs z ≤ max 1 (unsigned_abs hold)
held_age hold z h = grind (arith, ints, h.0, h.1)

bit_age : (z : ℤ) → IsWithin (pos 0, pos 1) z → unsigned_abs z ≤ 1
bit_age z h = grind (arith, ints, h.0, h.1)

age_below : (memories : List Memory) (f : ℕ → ℤ) → ((m : ℕ) (memory : Memory) → slice_get memories m ≡ Some memory
    → IsWithin (span_of memory) (f m))
    → ((m : ℕ) → slice_get memories m ≡ None → IsWithin (negsuc 0, pos 1) (f m)) → (m : ℕ)
    → unsigned_abs (f m) ≤ age_size (slice_get memories m)
age_below memories f span none m = of (slice_get memories m) refl
  where
    of : (o : Option Memory) → slice_get memories m ≡ o → unsigned_abs (f m) ≤ age_size o
    of None e = small_age (f m) (none m e)
    of (Some (Held name s c hold)) e = held_age hold (f m) (span m (Held name s c hold) e)
    of (Some (Hyst name s e lo hi start)) there = bit_age (f m) (span m (Hyst name s e lo hi start) there)

pub views_keep : ViewsKeepSizes
views_keep S V now before ages = record {
  now = value_below S.vars V.now now.in_range now.none;
  before = value_below S.vars V.before before.in_range before.none;
  age = age_below S.memories V.age ages.in_span ages.none;
}

module _ (S : Tables) where
  begin_values : AreValuesOf S (init_of S)
  begin_values = record {
    in_range = λ x v e. subst (IsWithin v.range) (sym (ap (λ o. elim o as (λ z. ℤ) [ None ↦ pos 0 | Some u ↦ u.init ]) e))
        (S.sound.inits x v e);
    none = λ x e. ap (λ o. elim o as (λ z. ℤ) [ None ↦ pos 0 | Some u ↦ u.init ]) e;
  }

  -- so are those one scan before, where each scan up to this one has such values
  before_values : (ρ : Reading) (t : ℕ) → ((j : ℕ) → j ≤ t → AreValuesOf S (ρ j)) → AreValuesOf S (before S ρ t)
  before_values ρ t values = record {
    in_range = λ x v e. before_by S ρ (IsWithin v.range) t x (begin_values.in_range x v e)
        (λ k is. (values k (omega (arith, is))).in_range x v e);
    none = λ x e. before_by S ρ (λ z. z ≡ pos 0) t x (begin_values.none x e) (λ k is. (values k (omega (arith, is))).none x e);
  }

  kept_ages : (ρ : Reading) (t : ℕ) → AreAgesOf S (kept S ρ t)
  kept_ages ρ t = record {
    in_span = λ m memory there. (memories_move S ρ m memory there t).in_span;
    none = λ m none. subst (IsWithin (negsuc 0, pos 1)) (sym (ap (λ o. kept_of S ρ m o t) none)) (omega (arith, ints), omega (arith, ints));
  }

pub looks_keep : LooksKeepSizes
looks_keep S ρ t values = record {
  now = value_below S.vars (ρ t) (values t (omega arith)).in_range (values t (omega arith)).none;
  before = let all = before_values S ρ t values in value_below S.vars (before S ρ t) all.in_range all.none;
  age = age_below S.memories (kept S ρ t) (kept_ages S ρ t).in_span (kept_ages S ρ t).none;
}

pub lists_tell : ListsTellValues
lists_tell S kinds scans list t l = record {
  in_range = λ x v is. reading_range S (opened S) kinds scans list t x v l is;
  none = λ x none. cond-false (is_of S.vars kinds x) _ (init_of S x) (of_none S kinds x none) ∙ (begin_values S).none x none;
}

-- what is so of all of a list is so of each
one_of_all : {A : Type 0} (test : A → Bool) (xs : List A) (k : ℕ) (a : A) → list_all test xs ≡ true → slice_get xs k ≡ Some a → test a
    ≡ true
one_of_all test [] k a all e = absurd (none-some a e)
one_of_all test (x ∷ xs) zero a all e = subst (λ y. test y ≡ true) (same_Some x a e) (and_parts (test x) (list_all test xs) all).0
one_of_all test (x ∷ xs) (suc k) a all e = one_of_all test xs k a (and_parts (test x) (list_all test xs) all).1 e

pub clauses_safe : ClausesAreSafe
clauses_safe S V keeps =
    let test = is_sized S.vars S.memories in
    let outer = and_parts (list_all test (S.first ++ S.always)) (list_all test S.step)
    (sym (list_all-append test (S.first ++ S.always) S.step) ∙ S.sound.sized_clauses) in
    let inner = and_parts (list_all test S.first) (list_all test S.always) (sym (list_all-append test S.first S.always) ∙ outer.0) in (
      record { vars = S.vars; memories = S.memories; keeps = keeps; small = inner.0 },
      record { vars = S.vars; memories = S.memories; keeps = keeps; small = inner.1 },
      record { vars = S.vars; memories = S.memories; keeps = keeps; small = outer.1 },
    )

pub tables_safe : TablesAreSafe
tables_safe S V keeps k table there = record {
  vars = S.vars;
  memories = S.memories;
  keeps = keeps;
  small = one_of_all (λ (t : Table). is_sized_grid S.vars S.memories t.grid) S.tables k table S.sound.sized_tables there;
}

pub memories_safe : MemoriesAreSafe
memories_safe S V keeps m memory there = record {
  vars = S.vars;
  memories = S.memories;
  keeps = keeps;
  small = one_of_all (is_sized_memory S.vars S.memories) S.memories m memory S.sound.sized_memories there;
}

pub by_less : SafeByLess
by_less V test other less = safe_by V less
