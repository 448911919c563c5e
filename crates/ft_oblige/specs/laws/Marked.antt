-- Marks that are sound and settled are those of the linked parts, and what holds of the marked parts, without a tactic: the crates above
-- cite these too.
use Rattle.std.proofs.Common.{◌≡◌, refl, subst, ℕ, zero, suc, Bool, true, false, true≢false, sym, List, [], ◌∷◌, Some, slice_get}
use Rattle.std.specs.List.{list_all}
use Rattle.std.proofs.lemmas.Bool.{and_parts, and_from}
use Rattle.std.proofs.lemmas.Option.{none-some, same_Some}
use Rattle.ft_claims.specs.declared.claim.Claim.{Claim}
use Rattle.ft_oblige.specs.meaning.Linked.{IsLinked, bare, near, next, AreMarks, AreSettled, marked}

module _ (base : ℕ) (own others : List Claim) (marks : List Bool) (settled : AreSettled base own others marks) where
  all_marked : (k : ℕ) → IsLinked base own others k → slice_get marks k ≡ Some true
  all_marked k (bare c at none) = settled.no_bare k c at none
  all_marked k (near c j d at it share) = settled.no_near k j c d at it share
  all_marked k (next c j d at it more share) = settled.no_next k j c d at it (all_marked j more) share

  pub are_marks : AreMarks base own others marks
  are_marks k = (settled.sound k, all_marked k)

pub marked_hold : (p : Claim → Bool) (marks : List Bool) (cs : List Claim) → list_all p cs ≡ true → list_all p (marked marks cs) ≡ true
marked_hold p [] cs h = refl
marked_hold p (m ∷ ms) [] h = refl
marked_hold p (true ∷ ms) (c ∷ cs) h =
    let both = and_parts (p c) (list_all p cs) h in and_from (p c) (list_all p (marked ms cs)) both.0 (marked_hold p ms cs both.1)
marked_hold p (false ∷ ms) (c ∷ cs) h = marked_hold p ms cs (and_parts (p c) (list_all p cs) h).1

-- what holds of the marked ones holds of each that is marked
pub marked_at : (p : Claim → Bool) (marks : List Bool) (cs : List Claim) → list_all p (marked marks cs) ≡ true → (k : ℕ) (c : Claim)
    → slice_get marks k ≡ Some true → slice_get cs k ≡ Some c → p c ≡ true
marked_at p [] cs h k c m e = absurd (none-some true m)
marked_at p (m ∷ ms) [] h k c mark e = absurd (none-some c e)
marked_at p (true ∷ ms) (d ∷ cs) h zero c mark e =
    subst (λ x. p x ≡ true) (same_Some d c e) (and_parts (p d) (list_all p (marked ms cs)) h).0
marked_at p (true ∷ ms) (d ∷ cs) h (suc k) c mark e = marked_at p ms cs (and_parts (p d) (list_all p (marked ms cs)) h).1 k c mark e
marked_at p (false ∷ ms) (d ∷ cs) h zero c mark e = absurd (true≢false (sym (same_Some false true mark)))
marked_at p (false ∷ ms) (d ∷ cs) h (suc k) c mark e = marked_at p ms cs h k c mark e

-- and the other way round
pub marked_all : (p : Claim → Bool) (marks : List Bool) (cs : List Claim)
    → ((k : ℕ) (c : Claim) → slice_get marks k ≡ Some true → slice_get cs k ≡ Some c → p c ≡ true) → list_all p (marked marks cs) ≡ true
marked_all p [] cs h = refl
marked_all p (m ∷ ms) [] h = refl
marked_all p (true ∷ ms) (c ∷ cs) h =
    and_from (p c) (list_all p (marked ms cs)) (h zero c refl refl) (marked_all p ms cs (λ k d mark e. h (suc k) d mark e))
marked_all p (false ∷ ms) (c ∷ cs) h = marked_all p ms cs (λ k d mark e. h (suc k) d mark e)
