-- What the move and the link of a memory say at the view of a scan.
use Rattle.std.proofs.Common.{◌≡◌, ◌∙◌, ap, refl, ℕ, ℤ, pos, negsuc, Bool, true, false, not, ◌&&◌, ◌||◌, cond, [], ◌∷◌, Some, arith}
use Rattle.std.specs.Prelude.{int_le, int_lt}
use Rattle.std.specs.Ordering.{int_eq}
use Rattle.std.proofs.lemmas.Int.{ints}
use Rattle.ft_base.specs.Interval.{IsWithin}
use Rattle.ft_core.specs.declared.tables.Tables.{Tables}
use Rattle.ft_core.specs.declared.tables.Memory as tables
use Rattle.ft_core.specs.declared.tables.Memory.TheVariants.{Held, Hyst}
use Rattle.ft_mean.specs.laws.Moves.{moves, span_of, same_bit, age_begins, age_goes_on, bit_goes_on}
use Rattle.ft_mean.specs.meaning.Reading.{elapsed}
use Rattle.ft_mean.specs.meaning.Value.{value, truth}
use Rattle.ft_claims.specs.declared.claim.Sym.{Sym}
use Rattle.ft_claims.specs.declared.claim.Sym.TheVariants.{Num, Slot, Add}
use Rattle.ft_claims.specs.declared.claim.Claim.{Claim}
use Rattle.ft_claims.specs.declared.claim.Claim.TheVariants.{Le, Lt, Not, And}
use Rattle.ft_claims.specs.meaning.Claims.{sym_value, claim_true, equal}
use Rattle.ft_claims.specs.meaning.Names.{Frame, memo, sym_of, claim_of, view}
use Rattle.ft_claims.specs.meaning.Parts.{held_begins, held_goes_on, hyst_goes_on, elapsed_sym, move_of}
use Rattle.ft_claims.specs.laws.Equations.{sym-Num, sym-Slot, sym-Add, true-Le, true-Lt, true-Not, true-And, true-Or}
use Rattle.ft_claims.proofs.ClaimLemmas.{true-equal, true-ge, true-gt}
use Rattle.ft_claims.proofs.ReadLemmas.{sym_says, claim_tells}

begins_bools : (b x y : Bool) → ((not b && (x && true)) || ((b && (y && true)) || false)) ≡ ((not b && x) || (b && y))
begins_bools true true y = grind arith
begins_bools true false y = grind arith
begins_bools false true y = grind arith
begins_bools false false y = grind arith

goes_on_bools : (b x y z g h u l v : Bool) → ((not b && (x && true)) ||
    ((b && (y && (z && true))) || ((b && (g && (h && (u && true)))) || ((b && (g && (l && (v && true)))) || false))))
    ≡ ((not b && x) || (b && y && z) || (b && g && h && u) || (b && g && l && v))
goes_on_bools true x y z g h u l v = grind arith
goes_on_bools false x y z g h u l v = grind arith

module _ (σ : ℕ → ℤ) where
  equal_to : (a : Sym) (n : ℤ) → claim_true σ (equal a (Num n)) ≡ int_eq (sym_value σ a) n
  equal_to a n = true-equal σ a (Num n) ∙ ap (int_eq (sym_value σ a)) (sym-Num σ n)

  all_two : (a b : Claim) → claim_true σ (And (a ∷ b ∷ [])) ≡ (claim_true σ a && (claim_true σ b && true))
  all_two a b = true-And σ (a ∷ b ∷ [])

  held_begins_says : (c : Claim) (a : Sym) → claim_true σ (held_begins c a) ≡ age_begins (claim_true σ c) (sym_value σ a)
  held_begins_says c a =
      true-Or σ _
      ∙ (λ i. (true-And σ (Not c ∷ equal a (Num (negsuc 0)) ∷ []) ∙ (λ j. true-Not σ c j && (equal_to a (negsuc 0) j && true))) i
      || ((true-And σ (c ∷ equal a (Num (pos 0)) ∷ []) ∙ (λ j. claim_true σ c && (equal_to a (pos 0) j && true))) i || false))
      ∙ begins_bools (claim_true σ c) (int_eq (sym_value σ a) (negsuc 0)) (int_eq (sym_value σ a) (pos 0))

  held_goes_on_says : (p d : Sym) (c : Claim) (before a : Sym)
      → claim_true σ (held_goes_on p d c before a) ≡ age_goes_on (sym_value σ p) (sym_value σ d) (claim_true σ c) (sym_value σ before)
      (sym_value σ a)
  held_goes_on_says p d c before a =
      let fresh = true-equal σ a (Add before p) ∙ ap (int_eq (sym_value σ a)) (sym-Add σ before p) in
      let low = true-ge σ before (Num (pos 0)) ∙ ap (λ z. int_le z (sym_value σ before)) (sym-Num σ (pos 0)) in
      let within = true-Le σ (Add before p) d ∙ ap (λ z. int_le z (sym_value σ d)) (sym-Add σ before p) in
      let past = true-gt σ (Add before p) d ∙ ap (int_lt (sym_value σ d)) (sym-Add σ before p) in
      true-Or σ _
      ∙ (λ i. (true-And σ (Not c ∷ equal a (Num (negsuc 0)) ∷ []) ∙ (λ j. true-Not σ c j && (equal_to a (negsuc 0) j && true))) i
      || ((true-And σ (c ∷ equal before (Num (negsuc 0)) ∷ equal a (Num (pos 0)) ∷ [])
      ∙ (λ j. claim_true σ c && (equal_to before (negsuc 0) j && (equal_to a (pos 0) j && true)))) i
      || ((true-And σ (c ∷ Not (Lt before (Num (pos 0))) ∷ Le (Add before p) d ∷ equal a (Add before p) ∷ [])
      ∙ (λ j. claim_true σ c && (low j && (within j && (fresh j && true))))) i
      || ((true-And σ (c ∷ Not (Lt before (Num (pos 0))) ∷ Not (Le (Add before p) d) ∷ equal a d ∷ [])
      ∙ (λ j. claim_true σ c && (low j && (past j && (true-equal σ a d j && true))))) i || false))))
      ∙ goes_on_bools (claim_true σ c) _ _ _ _ _ _ _ _

  same_bits : (a b : ℤ) → IsWithin (pos 0, pos 1) a → IsWithin (pos 0, pos 1) b → int_eq a b
      ≡ same_bit (int_eq a (pos 1)) (int_eq b (pos 1))
  same_bits a b p q = grind (arith, ints, p.0, p.1, q.0, q.1)

  hyst_goes_on_says : (lo hi e before l : Sym) → IsWithin (pos 0, pos 1) (sym_value σ l) → IsWithin (pos 0, pos 1) (sym_value σ before)
      → claim_true σ (hyst_goes_on lo hi e before l)
      ≡ bit_goes_on (sym_value σ lo) (sym_value σ hi) (sym_value σ e) (int_eq (sym_value σ before) (pos 1)) (int_eq (sym_value σ l) (pos 1))
  hyst_goes_on_says lo hi e before l p q =
      true-Or σ _
      ∙ (λ i. (true-And σ (Not (Lt e hi) ∷ equal l (Num (pos 1)) ∷ []) ∙ (λ j. true-ge σ e hi j && (equal_to l (pos 1) j && true))) i
      || ((true-And σ (Lt e hi ∷ Le e lo ∷ Not (equal l (Num (pos 1))) ∷ [])
      ∙ (λ j. true-Lt σ e hi j && (true-Le σ e lo j && ((true-Not σ (equal l (Num (pos 1))) ∙ ap not (equal_to l (pos 1))) j && true))))
      i
      || ((true-And σ (Lt e hi ∷ Not (Le e lo) ∷ equal l before ∷ []) ∙
      (λ j. true-Lt σ e hi j && (true-gt σ e lo j && ((true-equal σ l before ∙ same_bits (sym_value σ l) (sym_value σ before) p q) j
      && true)))) i || false)))
      ∙ hyst_tests (int_le (sym_value σ hi) (sym_value σ e)) (int_lt (sym_value σ e) (sym_value σ hi))
      (int_le (sym_value σ e) (sym_value σ lo)) (int_lt (sym_value σ lo) (sym_value σ e)) _ _
    where
      hyst_tests : (up below down above l s : Bool) → ((up && (l && true))
          || ((below && (down && (not l && true))) || ((below && (above && (s && true))) || false)))
          ≡ ((up && l) || (below && down && not l) || (below && above && s))
      hyst_tests up true down above l s = grind arith
      hyst_tests up false down above l s = grind arith

-- a bit as a number
abbrev bit : Bool → ℤ
bit b = cond b (pos 1) (pos 0)

bit_span : (b : Bool) → IsWithin (pos 0, pos 1) (bit b)
bit_span true = (omega (arith, ints), omega (arith, ints))
bit_span false = (omega (arith, ints), omega (arith, ints))

bit_back : (b : Bool) → int_eq (bit b) (pos 1) ≡ b
bit_back true = refl
bit_back false = refl

module _ (S : Tables) (frame : Frame) (σ : ℕ → ℤ) (m : ℕ) where
  held_says : (anew : Bool) (c : Claim) (b : Bool) (hold : ℤ) → claim_true σ c ≡ b
      → claim_true σ (cond anew (held_begins c (Slot (memo S frame.this m)))
      (held_goes_on (elapsed_sym S frame) (Num hold) c (Slot (memo S frame.prior m)) (Slot (memo S frame.this m))))
      ≡ cond anew (age_begins b (σ (memo S frame.this m))) (age_goes_on (elapsed S (view S frame σ).now) hold b (σ (memo S frame.prior m))
      (σ (memo S frame.this m)))
  held_says true c b hold same =
      held_begins_says σ c (Slot (memo S frame.this m)) ∙ (λ i. age_begins (same i) (sym-Slot σ (memo S frame.this m) i))
  held_says false c b hold same =
      held_goes_on_says σ (elapsed_sym S frame) (Num hold) c (Slot (memo S frame.prior m)) (Slot (memo S frame.this m))
      ∙ (λ i. age_goes_on (sym-Num σ S.period i) (sym-Num σ hold i) (same i) (sym-Slot σ (memo S frame.prior m) i)
      (sym-Slot σ (memo S frame.this m) i))

  hyst_says : (anew : Bool) (e : Sym) (z lo hi : ℤ) (start : Bool) → sym_value σ e ≡ z
      → IsWithin (pos 0, pos 1) (σ (memo S frame.prior m)) → IsWithin (pos 0, pos 1) (σ (memo S frame.this m))
      → claim_true σ (hyst_goes_on (Num lo) (Num hi) e (cond anew (Num (bit start)) (Slot (memo S frame.prior m)))
      (Slot (memo S frame.this m)))
      ≡ bit_goes_on lo hi z (cond anew start (int_eq (σ (memo S frame.prior m)) (pos 1))) (int_eq (σ (memo S frame.this m)) (pos 1))
  hyst_says true e z lo hi start same before now =
      let here = sym-Slot σ (memo S frame.this m) in
      let there = sym-Num σ (bit start) in
      hyst_goes_on_says σ (Num lo) (Num hi) e (Num (bit start)) (Slot (memo S frame.this m))
      (rw here now) (rw there (bit_span start))
      ∙ (λ i. bit_goes_on (sym-Num σ lo i) (sym-Num σ hi i) (same i) ((ap (λ z. int_eq z (pos 1)) there ∙ bit_back start) i)
      (int_eq (here i) (pos 1)))
  hyst_says false e z lo hi start same before now =
      let here = sym-Slot σ (memo S frame.this m) in
      let there = sym-Slot σ (memo S frame.prior m) in
      hyst_goes_on_says σ (Num lo) (Num hi) e (Slot (memo S frame.prior m)) (Slot (memo S frame.this m))
      (rw here now) (rw there before)
      ∙ (λ i. bit_goes_on (sym-Num σ lo i) (sym-Num σ hi i) (same i) (int_eq (there i) (pos 1)) (int_eq (here i) (pos 1)))

  -- a memory's move says that it goes from the number before to the number now
  pub move_says : (memory : tables.Memory) → IsWithin (span_of memory) (σ (memo S frame.prior m))
      → IsWithin (span_of memory) (σ (memo S frame.this m))
      → claim_true σ (move_of S frame m (Some memory)) ≡ moves S frame.anew (view S frame σ) memory (σ (memo S frame.prior m))
      (σ (memo S frame.this m))
  move_says (Held name side c hold) before now = held_says frame.anew (claim_of S frame c) (truth (view S frame σ) c) hold
      (claim_tells S frame σ c)
  move_says (Hyst name side e lo hi start) before now =
      hyst_says frame.anew (sym_of S frame e) (value (view S frame σ) e) lo hi start (sym_says S frame σ e) before now
