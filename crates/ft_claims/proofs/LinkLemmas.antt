-- The link of a memory that is a bit says that it is linked.
use Rattle.std.proofs.Common.{◌≡◌, ◌∙◌, sym, ap, refl, ℕ, ℤ, pos, Bool, true, false, not, ◌||◌, [], ◌∷◌, Some, arith, ⊎_elim, true≢false}
use Rattle.std.specs.Prelude.{IsTrue, IsFalse, ◌&&◌, int_le, int_lt}
use Rattle.std.specs.Ordering.{int_eq}
use Rattle.std.proofs.lemmas.Int.{ints}
use Rattle.std.proofs.lemmas.Bool.{cases_Bool, and_parts, and_from}
use Rattle.ft_core.specs.declared.tables.Tables.{Tables}
use Rattle.ft_core.specs.declared.tables.Memory as tables
use Rattle.ft_core.specs.declared.tables.Memory.TheVariants.{Held, Hyst}
use Rattle.ft_mean.specs.meaning.Proper.{IsLinked}
use Rattle.ft_mean.specs.meaning.Value.{View, truth, value}
use Rattle.ft_claims.specs.declared.claim.Claim.TheVariants.{Le, Lt, Not, Or}
use Rattle.ft_claims.specs.declared.claim.Sym.TheVariants.{Num, Slot}
use Rattle.ft_claims.specs.meaning.Claims.{claim_true, equal}
use Rattle.ft_claims.specs.meaning.Names.{Frame, memo, view, sym_of}
use Rattle.ft_claims.specs.meaning.Parts.{link_of}
use Rattle.ft_claims.specs.meaning.Coverage.{cover_frame}
use Rattle.ft_claims.specs.laws.ClaimLaws.{LinksSay}
use Rattle.ft_claims.specs.laws.Equations.{sym-Num, sym-Slot, true-Not, true-And, true-Or, true-Lt}
use Rattle.ft_claims.proofs.ClaimLemmas.{true-equal, true-gt}
use Rattle.ft_claims.proofs.ReadLemmas.{claim_tells, sym_says}

module _ (S : Tables) (σ : ℕ → ℤ) (m : ℕ) where
  abbrev frame : Frame
  frame = cover_frame S

  abbrev U : View
  U = view S frame σ

  is_bit : claim_true σ (equal (Slot (memo S frame.this m)) (Num (pos 1))) ≡ U.memory m
  is_bit = true-equal σ (Slot (memo S frame.this m)) (Num (pos 1)) ∙ (λ i. int_eq (sym-Slot σ (memo S frame.this m) i)
      (sym-Num σ (pos 1) i))

  imply : (a b : Bool) → (a ≡ true → b ≡ true) → (not a || (b || false)) ≡ true
  imply true true h = refl
  imply true false h = h refl
  imply false b h = refl

  linked_true : (memory : tables.Memory) → IsLinked U m memory → claim_true σ (link_of S frame m (Some memory)) ≡ true
  linked_true (Held name s c hold) h =
      true-Or σ _ ∙ (λ i. (true-Not σ (equal (Slot (memo S frame.this m)) (Num (pos 1))) ∙ ap not is_bit) i
      || (claim_tells S frame σ c i || false))
      ∙ imply (U.memory m) (truth U c) h
  linked_true (Hyst name s e lo hi start) h =
      true-And σ _
      ∙ and_from _ _ (true-Or σ (Lt (sym_of S frame e) (Num hi) ∷ equal (Slot (memo S frame.this m)) (Num (pos 1)) ∷ [])
      ∙ (λ i. (true-Lt σ (sym_of S frame e) (Num hi) ∙ (λ j. int_lt (sym_says S frame σ e j) (sym-Num σ hi j))) i || (is_bit i || false))
      ∙ up (value U e) (U.memory m) h.0)
      (and_from _ _ (true-Or σ (Not (Le (sym_of S frame e) (Num lo)) ∷ Not (equal (Slot (memo S frame.this m)) (Num (pos 1))) ∷ [])
      ∙ (λ i. (true-gt σ (sym_of S frame e) (Num lo) ∙ (λ j. int_lt (sym-Num σ lo j) (sym_says S frame σ e j))) i
      || ((true-Not σ (equal (Slot (memo S frame.this m)) (Num (pos 1))) ∙ ap not is_bit) i || false)) ∙ down (value U e) (U.memory m) h.1)
      refl)
    where
      up : (z : ℤ) (b : Bool) → (IsTrue (int_le hi z) → IsTrue b) → (int_lt z hi || (b || false)) ≡ true
      up z true h = grind (arith, ints)
      up z false h = ⊎_elim (λ is. absurd (true≢false (sym (h is)))) (λ isnt. grind (arith, ints, isnt)) (cases_Bool (int_le hi z))

      down : (z : ℤ) (b : Bool) → (IsTrue (int_le z lo) → IsFalse b) → (int_lt lo z || (not b || false)) ≡ true
      down z false h = grind (arith, ints)
      down z true h = ⊎_elim (λ is. absurd (true≢false (h is))) (λ isnt. grind (arith, ints, isnt)) (cases_Bool (int_le z lo))

  implied : (a b : Bool) → (not a || (b || false)) ≡ true → a ≡ true → b ≡ true
  implied true true h e = refl
  implied true false h e = h
  implied false b h e = absurd (true≢false (sym e))

  linked_from : (memory : tables.Memory) → claim_true σ (link_of S frame m (Some memory)) ≡ true → IsLinked U m memory
  linked_from (Held name s c hold) h =
      implied (U.memory m) (truth U c) (sym (true-Or σ _ ∙ (λ i. (true-Not σ (equal (Slot (memo S frame.this m)) (Num (pos 1)))
      ∙ ap not (is_bit)) i || (claim_tells S frame σ c i || false))) ∙ h)
  linked_from (Hyst name s e lo hi start) h =
      let first = Or (Lt (sym_of S frame e) (Num hi) ∷ equal (Slot (memo S frame.this m)) (Num (pos 1)) ∷ []) in
      let second = Or (Not (Le (sym_of S frame e) (Num lo)) ∷ Not (equal (Slot (memo S frame.this m)) (Num (pos 1))) ∷ []) in
      let both = and_parts (claim_true σ first) (claim_true σ second && true) (sym (true-And σ (first ∷ second ∷ [])) ∙ h) in
      let low = and_parts (claim_true σ second) true both.1 in (
        up (value U e) (U.memory m) (sym (true-Or σ _ ∙ (λ i. (true-Lt σ (sym_of S frame e) (Num hi)
            ∙ (λ j. int_lt (sym_says S frame σ e j) (sym-Num σ hi j))) i || (is_bit i || false))) ∙ both.0),
        down (value U e) (U.memory m) (sym (true-Or σ _ ∙ (λ i. (true-gt σ (sym_of S frame e) (Num lo)
            ∙ (λ j. int_lt (sym-Num σ lo j) (sym_says S frame σ e j))) i
            || ((true-Not σ (equal (Slot (memo S frame.this m)) (Num (pos 1))) ∙ ap not (is_bit)) i || false))) ∙ low.0),
      )
    where
      up : (z : ℤ) (b : Bool) → (int_lt z hi || (b || false)) ≡ true → IsTrue (int_le hi z) → IsTrue b
      up z true h is = refl
      up z false h is = grind (arith, ints, h, is)

      down : (z : ℤ) (b : Bool) → (int_lt lo z || (not b || false)) ≡ true → IsTrue (int_le z lo) → IsFalse b
      down z false h is = refl
      down z true h is = grind (arith, ints, h, is)

pub link_says : LinksSay
link_says S σ m memory = (linked_from S σ m memory, linked_true S σ m memory)
