-- It can't be that no marks are those of the linked parts.
use Rattle.std.proofs.Common.{◌≡◌, sym, subst, refl, ℕ, zero, suc, ◌<◌, Bool, true, false, List, [], ◌∷◌, ◌++◌, length, Some}
use Rattle.std.proofs.Common.{slice_get, arith, ⊎_elim, true≢false}
use Rattle.std.specs.Prelude.{◌↔◌}
use Rattle.std.proofs.lemmas.Bool.{cases_lt}
use Rattle.std.proofs.lemmas.List.{length_push}
use Rattle.std.proofs.lemmas.Option.{slice_get_within}
use Rattle.ft_core.specs.laws.Places.{on-left, of-push, at-end}
use Rattle.ft_claims.specs.declared.claim.Claim.{Claim}
use Rattle.ft_oblige.specs.meaning.Linked.{IsLinked, bare, near, next, AreMarks, AreSettled}

-- marks of the first n places at which a property holds
abbrev Marks : (ℕ → Type 0) → ℕ → List Bool → Type 0
Marks P n ms = (length ms ≡ n) × ((k : ℕ) → k < n → (slice_get ms k ≡ Some true) ↔ P k)

marks-more : (P : ℕ → Type 0) (n : ℕ) (ms : List Bool) (b : Bool) → Marks P n ms → (b ≡ true) ↔ P n → Marks P (suc n) (ms ++ b ∷ [])
marks-more P n ms b is here = (
  (let long = length_push ms b in let old = is.0 in omega (arith, long, old)),
  (λ k l. ⊎_elim
      (λ low. (
        (λ at. ⊎_elim (λ old. (is.1 k low).0 old) (λ new. absurd (let e = new.0 in let old = is.0 in omega (arith, e, old, low)))
            (of-push ms b k true at)),
        (λ p. on-left ms (b ∷ []) k true ((is.1 k low).1 p)),
      ))
      (λ high. let same : n ≡ k = omega (arith, l, high) in subst (λ m. (slice_get (ms ++ b ∷ []) m ≡ Some true) ↔ P m) same (last is.0))
      (cases_lt k n)),
)
  where
    last : length ms ≡ n → (slice_get (ms ++ b ∷ []) n ≡ Some true) ↔ P n
    last long = (
      (λ at. ⊎_elim (λ old. absurd (let l = slice_get_within ms n true old in omega (arith, l, long))) (λ new. here.0 new.1)
          (of-push ms b n true at)),
      (λ p. subst (λ m. slice_get (ms ++ b ∷ []) m ≡ Some true) long (subst (λ c. slice_get (ms ++ b ∷ []) (length ms) ≡ Some c) (here.1 p)
          (at-end ms b))),
    )

some_marks : (P : ℕ → Type 0) (n : ℕ) → ((ms : List Bool) → Marks P n ms → ⊥) → ⊥
some_marks P zero none = none [] (refl, λ k l. absurd (omega (arith, l)))
some_marks P (suc n) none = some_marks P n (λ ms is.
    let not : P n → ⊥ = λ p. none (ms ++ true ∷ []) (marks-more P n ms true is ((λ e. p), (λ q. refl))) in
    none (ms ++ false ∷ []) (marks-more P n ms false is ((λ e. absurd (true≢false (sym e))), (λ q. absurd (not q)))))

module _ (base : ℕ) (own others : List Claim) where
  linked_in : (k : ℕ) → IsLinked base own others k → k < length others
  linked_in k (bare c at none) = slice_get_within others k c at
  linked_in k (near c j d at it share) = slice_get_within others k c at
  linked_in k (next c j d at it more share) = slice_get_within others k c at

  -- marks that say which parts are linked are settled
  settled_marks : (ms : List Bool) → AreMarks base own others ms → AreSettled base own others ms
  settled_marks ms are = record {
    sound = λ k m. (are k).0 m;
    no_bare = λ k c at none. (are k).1 (bare c at none);
    no_near = λ k j c d at it share. (are k).1 (near c j d at it share);
    no_next = λ k j c d at it m share. (are k).1 (next c j d at it ((are j).0 m) share);
  }

  pub some_settled : ((ms : List Bool) → AreSettled base own others ms → ⊥) → ⊥
  some_settled none = some_marks (IsLinked base own others) (length others) (λ ms is. none ms (settled_marks ms (λ k. (
    (λ m. (is.1 k (let l = slice_get_within ms k true m in let long = is.0 in omega (arith, l, long))).0 m),
    (λ linked. (is.1 k (linked_in k linked)).1 linked),
  ))))
