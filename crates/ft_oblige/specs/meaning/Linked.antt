-- Which of the other parts belong to the formula of a fact: those that share a name with its own parts, or with one that belongs.
use Rattle.std.specs.Prelude.{ℕ, ◌≡◌, ◌↔◌, Bool, true, List, [], ◌∷◌, filter, Some, slice_get, if◌then◌else◌}
use Rattle.std.specs.List.{range_with_len}
use Rattle.ft_claims.specs.declared.claim.Claim.{Claim}
use Rattle.ft_claims.specs.meaning.Areas.{is_used}

-- the names that a part's own formula has, among those of the atoms and of the quotients in it
abbrev pub names_in : (base : ℕ) → Claim → List ℕ
names_in base c = filter (is_used base (c ∷ [])) (range_with_len 0 base)

abbrev pub HasName : (base : ℕ) → Claim → ℕ → Type 0
HasName base c u = (k : ℕ) × (slice_get (names_in base c) k ≡ Some u)

-- both have some name
abbrev pub Share : (base : ℕ) → Claim → Claim → Type 0
Share base c d = (u : ℕ) × HasName base c u × HasName base d u

-- the smallest set of places of other parts with those that have no name, those that share one with an own part, and those that
-- share one with a part of the set
pub data IsLinked (base : ℕ) (own others : List Claim) : ℕ → Type 0 where
  bare : {k : ℕ} (c : Claim) → slice_get others k ≡ Some c → names_in base c ≡ [] → IsLinked base own others k
  near : {k : ℕ} (c : Claim) (j : ℕ) (d : Claim) → slice_get others k ≡ Some c → slice_get own j ≡ Some d → Share base d c
      → IsLinked base own others k
  next : {k : ℕ} (c : Claim) (j : ℕ) (d : Claim) → slice_get others k ≡ Some c → slice_get others j ≡ Some d → IsLinked base own others j
      → Share base d c
      → IsLinked base own others k

-- marks of places, one for each other part, that say which are in that set
abbrev pub AreMarks : (base : ℕ) → (own others : List Claim) → List Bool → Type 0
AreMarks base own others marks = (k : ℕ) → (slice_get marks k ≡ Some true) ↔ IsLinked base own others k

-- marks that only linked parts have, and that nothing can be added to
pub record AreSettled (base : ℕ) (own others : List Claim) (marks : List Bool) : Type 0 where
  pub sound : (k : ℕ) → slice_get marks k ≡ Some true → IsLinked base own others k
  pub no_bare : (k : ℕ) (c : Claim) → slice_get others k ≡ Some c → names_in base c ≡ [] → slice_get marks k ≡ Some true
  pub no_near : (k j : ℕ) (c d : Claim) → slice_get others k ≡ Some c → slice_get own j ≡ Some d → Share base d c
      → slice_get marks k ≡ Some true
  pub no_next : (k j : ℕ) (c d : Claim) → slice_get others k ≡ Some c → slice_get others j ≡ Some d → slice_get marks j ≡ Some true
      → Share base d c
      → slice_get marks k ≡ Some true

-- the marked ones
abbrev pub marked : List Bool → List Claim → List Claim
marked [] cs = []
marked (m ∷ ms) [] = []
marked (m ∷ ms) (c ∷ cs) = if m then c ∷ marked ms cs else marked ms cs
