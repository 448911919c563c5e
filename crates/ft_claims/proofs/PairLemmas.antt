-- Pairs of a form and a divisor in a hash table.
use Rattle.std.proofs.Common.{◌≡◌, ◌∙◌, sym, ap, refl, ℕ, ◌+◌, Bool, true, false, not, ◌&&◌, ◌||◌, cond, List, [], ◌∷◌, ◌++◌, ⊎_elim}
use Rattle.std.proofs.Common.{if◌then◌else◌}
use Rattle.std.specs.List.{list_any, position_or_len}
use Rattle.std.specs.Ordering.{int_eq}
use Rattle.std.specs.Cmp.Lexicographic.{pointwise}
use Rattle.std.proofs.lemmas.Bool.{cases_Bool, cond-true, cond-false, true≢false}
use Rattle.ft_settle.specs.meaning.Settled.{same_form}
use Rattle.ft_claims.specs.meaning.Forms.{Entry, Entries, is_in, same_entry, same_factor}
use Rattle.ft_claims.proofs.GatherLemmas.{entry-itself}

-- two pairs are the same where their forms are and their divisors are
abbrev pub same_parts : Entry → Entry → Bool
same_parts a b = same_form a.0 b.0 && int_eq a.1 b.1

pub parts-entry : same_parts ≡ same_entry
parts-entry = λ i a b.
    turned (int_eq a.0.constant b.0.constant) (pointwise same_factor a.0.factors b.0.factors) (int_eq a.1 b.1) i
  where
    turned : (c f d : Bool) → ((c && f) && d) ≡ ((d && c) && f)
    turned true true true = refl
    turned true true false = refl
    turned true false true = refl
    turned true false false = refl
    turned false f true = refl
    turned false f false = refl

place-after : {A : Type 0} (p : A → Bool) (xs : List A) (x : A) → p x ≡ true → list_any p xs ≡ false → position_or_len p xs
    ≡ position_or_len p (xs ++ x ∷ [])
place-after p [] x h none = sym (ap (λ b. cond (not b) (1 + position_or_len p []) 0) h)
place-after p (y ∷ xs) x h none = ⊎_elim
    (λ e. absurd (true≢false (ap (λ b. b || list_any p xs) (sym e) ∙ none)))
    (λ e. ap (λ b. cond (not b) (1 + position_or_len p xs) 0) e
    ∙ ap (λ k. 1 + k) (place-after p xs x h (ap (λ b. b || list_any p xs) (sym e) ∙ none))
    ∙ sym (ap (λ b. cond (not b) (1 + position_or_len p (xs ++ x ∷ [])) 0) e))
    (cases_Bool (p y))

-- a pair has the same place before it is added and after
pub place-kept : (T : Entries) (e : Entry) → position_or_len (same_entry e) T
    ≡ position_or_len (same_entry e) (if is_in T e then T else T ++ e ∷ [])
place-kept T e = ⊎_elim
    (λ there. ap (position_or_len (same_entry e)) (sym (cond-true (is_in T e) T (T ++ e ∷ []) there)))
    (λ absent. place-after (same_entry e) T e (entry-itself e) absent
    ∙ ap (position_or_len (same_entry e)) (sym (cond-false (is_in T e) T (T ++ e ∷ []) absent)))
    (cases_Bool (is_in T e))
