-- What passes the tests is checked.
use Rattle.std.proofs.Common.{arith, ◌≡◌, ◌∙◌, sym, ap, subst, refl, inl, inr, ⊎_elim, ℕ, zero, suc, ◌+◌, ◌-◌, ◌<◌, ◌≤◌, ℤ, pos, int_le}
use Rattle.std.proofs.Common.{Bool, true, false, not, ◌&&◌, ◌||◌, IsTrue, true≢false, List, [], ◌∷◌, ◌++◌, length, slice_get, Some}
use Rattle.std.specs.Prelude.{◌==◌, nat_le, nat_lt, unsigned_abs}
use Rattle.std.specs.List.{list_all, list_any, sum_by}
use Rattle.std.specs.Str.{bytes_eq}
use Rattle.std.proofs.lemmas.Int.{ints}
use Rattle.std.proofs.lemmas.Bool.{and_parts, and_from, or_left, or_cases}
use Rattle.std.proofs.lemmas.Bool.Decides.{Decides-eqb}
use Rattle.std.proofs.lemmas.Option.{none-some, same_Some}
use Rattle.std.proofs.lemmas.Slice.Eq.{bytes_eq-Decides}
use Rattle.ft_base.specs.Interval.{IsBounded}
use Rattle.ft_core.specs.declared.tables.Var.{Var}
use Rattle.ft_core.specs.declared.tables.Memory.{Memory}
use Rattle.ft_core.specs.declared.tables.Memory.TheVariants.{Hyst}
use Rattle.ft_core.specs.declared.tables.Table.{Table}
use Rattle.ft_core.specs.declared.tables.Grid.{Grid}
use Rattle.ft_core.specs.declared.tables.Grid.TheVariants.{Normal, Inverted, Vector}
use Rattle.ft_core.specs.declared.tables.Fact.TheVariants.{Invariant, Goal}
use Rattle.ft_core.specs.declared.tables.Take.{Take}
use Rattle.ft_core.specs.declared.tables.Take.TheVariants as take
use Rattle.ft_core.specs.declared.tables.Block.{Block}
use Rattle.ft_core.specs.declared.term.Cond.{Cond}
use Rattle.ft_core.specs.declared.term.Term.{Term}
use Rattle.ft_core.specs.checked.Blocks.{AreBlocks, may_show, may_take, names_invariant}
use Rattle.ft_core.specs.checked.Checked.{AreChecked, IsChecked}
use Rattle.ft_core.specs.laws.CheckedTests.{CheckedByTests, PassesChecks, all_differ, has_targets, is_block, is_bounded, is_bounded_memory}
use Rattle.ft_core.specs.laws.CheckedTests.{is_enum_range, is_same_place, is_same_take, is_shown, is_typed}
use Rattle.ft_core.specs.checked.Distinct.{AreDistinct}
use Rattle.ft_core.specs.meaning.Grids.{defines}
use Rattle.ft_core.specs.meaning.Kinds.{controlled, defined_kinds, is_of}
use Rattle.ft_core.specs.checked.Names.{AreNamed, declared_names, is_set_name}
use Rattle.ft_core.specs.laws.Lists.{all_pass}
use Rattle.ft_core.specs.laws.Places.{place-of}
use Rattle.ft_core.specs.meaning.Reads.{cond_reads}
use Rattle.ft_core.specs.checked.Size.{is_sized}
use Rattle.ft_core.specs.checked.Short.{is_short}

-- what is tested of all is so of each
at-place : {A : Type 0} (test : A → Bool) (xs : List A) → list_all test xs ≡ true → (k : ℕ) (x : A) → slice_get xs k ≡ Some x → test x
    ≡ true
at-place test [] h k x e = absurd (none-some x e)
at-place test (y ∷ xs) h zero x e = subst (λ z. test z ≡ true) (same_Some y x e) (and_parts (test y) (list_all test xs) h).0
at-place test (y ∷ xs) h (suc k) x e = at-place test xs (and_parts (test y) (list_all test xs) h).1 k x e

any-at : {A : Type 0} (test : A → Bool) (xs : List A) (k : ℕ) (x : A) → slice_get xs k ≡ Some x → test x ≡ true → list_any test xs ≡ true
any-at test [] k x e is = absurd (none-some x e)
any-at test (y ∷ xs) zero x e is = or_left (test y) (list_any test xs) (subst (λ z. test z ≡ true) (sym (same_Some y x e)) is)
any-at test (y ∷ xs) (suc k) x e is = right (test y) (list_any test xs) (any-at test xs k x e is)
  where
    right : (a b : Bool) → b ≡ true → (a || b) ≡ true
    right true b h = refl
    right false b h = h

refuted : (b : Bool) → not b ≡ true → b ≡ true → ⊥
refuted true h e = true≢false (sym h)
refuted false h e = true≢false (sym e)

-- lists tested by a test that equal elements pass
distinct : {A : Type 0} (same : A → A → Bool) → ((x : A) → same x x ≡ true) → (xs : List A) → all_differ same xs ≡ true → AreDistinct xs
distinct same self [] h k l x at to = absurd (none-some x at)
distinct same self (y ∷ xs) h zero zero x at to = refl
distinct same self (y ∷ xs) h zero (suc l) x at to = absurd (refuted (list_any (same y) xs)
    (and_parts (not (list_any (same y) xs)) (all_differ same xs) h).0
    (any-at (same y) xs l x to (subst (λ z. same y z ≡ true) (same_Some y x at) (self y))))
distinct same self (y ∷ xs) h (suc k) zero x at to = absurd (refuted (list_any (same y) xs)
    (and_parts (not (list_any (same y) xs)) (all_differ same xs) h).0
    (any-at (same y) xs k x at (subst (λ z. same y z ≡ true) (same_Some y x to) (self y))))
distinct same self (y ∷ xs) h (suc k) (suc l) x at to = ap suc (distinct same self xs
    (and_parts (not (list_any (same y) xs)) (all_differ same xs) h).1 k l x at to)

self-bytes : (x : List ℕ) → bytes_eq x x ≡ true
self-bytes x = grind (arith, bytes_eq-Decides)

self-number : (x : ℕ) → (x == x) ≡ true
self-number x = (Decides-eqb x x).1 refl

self-place : (p : ℕ × ℕ) → is_same_place p p ≡ true
self-place p = and_from (p.0 == p.0) (p.1 == p.1) (self-number p.0) (self-number p.1)

self-take : (t : Take) → is_same_take t t ≡ true
self-take (take.Variable x) = self-number x
self-take (take.Memory m) = self-number m

low : (a b : ℕ) → nat_le a b ≡ true → a ≤ b
low a b h = grind (arith, h)

some : (a : ℕ) → nat_lt 0 a ≡ true → 0 < a
some a h = grind (arith, h)

bounded : (lo hi : ℤ) → is_bounded lo hi ≡ true → IsBounded 1000000000 lo hi
bounded lo hi h =
    let a = and_parts (int_le lo hi) (nat_le (unsigned_abs lo) 1000000000 && nat_le (unsigned_abs hi) 1000000000) h in
    let b = and_parts (nat_le (unsigned_abs lo) 1000000000) (nat_le (unsigned_abs hi) 1000000000) a.1 in
    (omega (arith, ints, a.0), low _ _ b.0, low _ _ b.1)

same-number : (a b : ℤ) → int_le a b ≡ true → int_le b a ≡ true → a ≡ b
same-number a b h k = grind (arith, ints, h, k)

enum-range : (count : ℕ) (range : ℤ × ℤ) → is_enum_range count range ≡ true → range ≡ (pos 0, pos (count - 1))
enum-range count range h =
    let a = and_parts (int_le range.0 (pos 0)) _ h in
    let b = and_parts (int_le (pos 0) range.0) _ a.1 in
    let c = and_parts (int_le range.1 (pos (count - 1))) (int_le (pos (count - 1)) range.1) b.1 in
    λ i. (same-number range.0 (pos 0) a.0 b.0 i, same-number range.1 (pos (count - 1)) c.0 c.1 i)

-- a variable of a table with targets that pass the test passes it
of-targets : (may : ℕ → Bool) (g : Grid) (x : ℕ) → has_targets may g ≡ true → defines g x ≡ true → may x ≡ true
of-targets may (Normal target columns rows terms) x h d = subst (λ y. may y ≡ true) ((Decides-eqb target x).0 d) h
of-targets may (Inverted target terms rows grid) x h d = subst (λ y. may y ≡ true) ((Decides-eqb target x).0 d) h
of-targets may (Vector columns targets terms) x h d = in-list targets (and_parts (list_all may targets) _ h).0 d
  where
    in-list : (ts : List ℕ) → list_all may ts ≡ true → list_any (λ target. target == x) ts ≡ true → may x ≡ true
    in-list [] h d = absurd (true≢false (sym d))
    in-list (t ∷ ts) h d = ⊎_elim (λ here. subst (λ y. may y ≡ true) ((Decides-eqb t x).0 here) (and_parts (may t) (list_all may ts) h).0)
        (λ later. in-list ts (and_parts (may t) (list_all may ts) h).1 later) (or_cases (t == x) (list_any (λ target. target == x) ts) d)

targets-differ : (may : ℕ → Bool) (g : Grid) (columns : List Cond) (targets : List ℕ) (terms : List (List Term)) → has_targets may g ≡ true
    → g ≡ Vector columns targets terms → AreDistinct targets
targets-differ may g columns targets terms h is =
    distinct (λ x y. x == y) self-number targets (and_parts (list_all may targets) (all_differ (λ x y. x == y) targets)
    (subst (λ z. has_targets may z ≡ true) is h)).1

module _ (vars : List Var) (memories : List Memory) (blocks : List Block) (h : list_all (is_block vars memories blocks) blocks ≡ true) where
  -- the tests that a block passes
  tests : (b : ℕ) (block : Block) → slice_get blocks b ≡ Some block → (nat_lt 0 (length block.facts) ≡ true)
      × (list_all (may_take vars memories) block.takes ≡ true)
      × (all_differ is_same_take block.takes ≡ true) × (list_all (names_invariant blocks) block.uses ≡ true)
      × (all_differ is_same_place block.uses ≡ true)
      × (list_all (is_shown vars memories) block.facts ≡ true)
  tests b block e =
      let a = and_parts (nat_lt 0 (length block.facts)) _ (at-place (is_block vars memories blocks) blocks h b block e) in
      let c = and_parts (list_all (may_take vars memories) block.takes) _ a.1 in
      let d = and_parts (all_differ is_same_take block.takes) _ c.1 in
      let f = and_parts (list_all (names_invariant blocks) block.uses) _ d.1 in
      let g = and_parts (all_differ is_same_place block.uses) (list_all (is_shown vars memories) block.facts) f.1 in
      (a.0, c.0, d.0, f.0, g.0, g.1)

  shown : (b f : ℕ) (block : Block) (name : List ℕ) (c : Cond) → slice_get blocks b ≡ Some block → slice_get block.facts f
      ≡ Some (Invariant name c)
      → (list_all (may_show vars memories) (cond_reads c) ≡ true) × (is_sized vars memories c ≡ true) × (is_short c ≡ true)
  shown b f block name c e at =
      let a = and_parts (list_all (may_show vars memories) (cond_reads c)) _
      (at-place (is_shown vars memories) block.facts (tests b block e).5 f (Invariant name c) at) in
      let d = and_parts (is_sized vars memories c) (is_short c) a.1 in
      (a.0, d.0, d.1)

  are-blocks : nat_le (length blocks) 400 ≡ true → nat_le (sum_by (λ block. length block.facts) blocks) 400 ≡ true
      → AreBlocks vars memories blocks
  are-blocks few few_facts = record {
    few = low (length blocks) 400 few;
    few_facts = low (sum_by (λ block. length block.facts) blocks) 400 few_facts;
    some_fact = λ b block e. some (length block.facts) (tests b block e).0;
    takes = λ b block t e c. all_pass (may_take vars memories) block.takes (tests b block e).1 t c;
    takes_differ = λ b block e. distinct is_same_take self-take block.takes (tests b block e).2;
    uses = λ b block used e c. all_pass (names_invariant blocks) block.uses (tests b block e).3 used c;
    uses_differ = λ b block e. distinct is_same_place self-place block.uses (tests b block e).4;
    invariants_read = λ b f block name c r e at in_c. all_pass (may_show vars memories) (cond_reads c) (shown b f block name c e at).0 r
        in_c;
    invariants_sized = λ b f block name c e at. (shown b f block name c e at).1;
    invariants_short = λ b f block name c e at. (shown b f block name c e at).2;
    goals = λ b f x block e at. at-place (is_shown vars memories) block.facts (tests b block e).5 f (Goal x) at;
  }

-- the tests that a variable's members pass
typed : (declared : List (List ℕ)) (v : Var) → is_typed declared v ≡ true → (list_all is_set_name v.members ≡ true)
    × (all_differ bytes_eq v.members ≡ true)
    × (list_all (λ member. not (list_any (bytes_eq member) declared)) v.members ≡ true) × (nat_le (length v.members) 64 ≡ true)
    × ((length v.members == 0 || is_enum_range (length v.members) v.range) ≡ true)
typed declared v h =
    let a = and_parts (list_all is_set_name v.members) _ h in
    let b = and_parts (all_differ bytes_eq v.members) _ a.1 in
    let c = and_parts (list_all (λ member. not (list_any (bytes_eq member) declared)) v.members) _ b.1 in
    let d = and_parts (nat_le (length v.members) 64) _ c.1 in
    (a.0, b.0, c.0, d.0, d.1)

var-typed : (vars : List Var) (declared : List (List ℕ)) → list_all (is_typed declared) vars ≡ true → (x : ℕ) (v : Var) → slice_get vars x
    ≡ Some v
    → (list_all is_set_name v.members ≡ true) × (all_differ bytes_eq v.members ≡ true)
    × (list_all (λ member. not (list_any (bytes_eq member) declared)) v.members ≡ true) × (nat_le (length v.members) 64 ≡ true)
    × ((length v.members == 0 || is_enum_range (length v.members) v.range) ≡ true)
var-typed vars declared h x v e = typed declared v (at-place (is_typed declared) vars h x v e)

pub by-tests : CheckedByTests
unfolding IsChecked
by-tests name splits depth vars memories tables first always step blocks P = let declared = declared_names vars memories blocks in let var =
    var-typed vars declared P.typed in record {
      names = record {
        set = (and_parts (is_set_name name) (list_all is_set_name declared) P.named).0;
        declared = (and_parts (is_set_name name) (list_all is_set_name declared) P.named).1;
        differ = distinct bytes_eq self-bytes declared P.differ;
        members = λ x v e. (var x v e).0;
        members_differ = λ x v e. distinct bytes_eq self-bytes v.members (var x v e).1;
        members_apart = λ x v member e c d. let p = place-of declared member d in
            refuted (list_any (bytes_eq member) declared) (all_pass (λ m. not (list_any (bytes_eq m) declared)) v.members (var x v e).2 member
            c)
            (any-at (bytes_eq member) declared p.0 member p.1 (self-bytes member));
      };
      few_splits = low splits 200000 (and_parts (nat_le splits 200000) _ P.numbers).0;
      some_depth = low 1 depth (and_parts (nat_le 1 depth) (nat_le depth 8) (and_parts (nat_le splits 200000) _ P.numbers).1).0;
      low_depth = low depth 8 (and_parts (nat_le 1 depth) (nat_le depth 8) (and_parts (nat_le splits 200000) _ P.numbers).1).1;
      has_monitored = ∣ (P.monitored_at, P.some_monitored) ∣₁;
      has_controlled = ∣ (P.controlled_at, P.some_controlled) ∣₁;
      ranges = λ x v e. bounded v.range.0 v.range.1 (at-place (λ v. is_bounded v.range.0 v.range.1) vars P.ranges x v e);
      bands = λ m n s e lo hi start there. bounded lo hi (at-place is_bounded_memory memories P.bands m (Hyst n s e lo hi start) there);
      few_members = λ x v e. low (length v.members) 64 (var x v e).3;
      enums = λ x v e has. enum-range (length v.members) v.range (⊎_elim
          (λ none. absurd (let z = (Decides-eqb (length v.members) 0).0 none in omega (arith, has, z))) (λ is. is)
          (or_cases (length v.members == 0) (is_enum_range (length v.members) v.range) (var x v e).4));
      targets = λ k x table e d. of-targets (is_of vars (defined_kinds table.section)) table.grid x
          (at-place (λ table. has_targets (is_of vars (defined_kinds table.section)) table.grid) tables P.targets k table e) d;
      targets_differ = λ k table columns targets terms e is. targets-differ (is_of vars (defined_kinds table.section)) table.grid columns
          targets terms
          (at-place (λ table. has_targets (is_of vars (defined_kinds table.section)) table.grid) tables P.targets k table e) is;
      terms = record { of_memories = P.short_memories; of_tables = P.short_tables; of_clauses = P.short_clauses };
      facts = let few = and_parts (nat_le (length blocks) 400) _ P.few_blocks in are-blocks vars memories blocks P.each_block few.0 few.1;
    }
