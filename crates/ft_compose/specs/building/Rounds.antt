-- The rounds that mark the other parts that belong to the formula of a fact.
use Rattle.std.specs.Prelude.{ℕ, suc, ◌≡◌, ◌<◌, Bool, true, false, IsTrue, List, [], ◌∷◌, map, length, replicate, Some, slice_get}
use Rattle.std.specs.Prelude.{slice_index_or, slice_set}
use Rattle.std.specs.List.{flat_map, list_any}
use Rattle.ft_claims.specs.declared.claim.Claim.{Claim}
use Rattle.ft_claims.specs.meaning.Areas.{with_marks}
use Rattle.ft_oblige.specs.meaning.Linked.{HasName, IsLinked, names_in}
use Rattle.ft_compose.specs.declared.linking.Links.{Links}
use Rattle.ft_compose.specs.declared.part.Part.{Part}

abbrev pub claims_in : List Part → List Claim
claims_in = map (λ part. part.claim)

-- each part has the names of its own formula
abbrev pub AreNamed : (base : ℕ) → List Part → Type 0
AreNamed base parts = (k : ℕ) (part : Part) → slice_get parts k ≡ Some part → part.names ≡ names_in base part.claim

abbrev pub is_reached : List Bool → ℕ → Bool
is_reached reached u = slice_index_or reached u false

-- a part has no name, or one that is reached
abbrev pub belongs : List Bool → List ℕ → Bool
belongs reached [] = true
belongs reached (u ∷ us) = list_any (is_reached reached) (u ∷ us)

-- the part at a place is marked, and its names are reached
abbrev pub with_part : ℕ → List ℕ → Links → Links
with_part k names l = record { reached = with_marks l.reached names; marks = slice_set l.marks k true }

-- the part at this place wasn't marked and belonged, and is marked
pub record Joins (k : ℕ) (names : List ℕ) (old new : Links) : Type 0 where
  pub free : slice_get old.marks k ≡ Some false
  pub may : IsTrue (belongs old.reached names)
  pub is : new ≡ with_part k names old

-- nothing changes, since the part was marked or doesn't belong
pub record Stays (k : ℕ) (names : List ℕ) (old new : Links) : Type 0 where
  pub same : new ≡ old
  pub why : IsTrue (belongs old.reached names) → slice_get old.marks k ≡ Some true

abbrev pub IsStep : ℕ → List ℕ → (old new : Links) → Bool → Type 0
IsStep k names old new true = Joins k names old new
IsStep k names old new false = Stays k names old new

-- a name of an own part, or of one that is linked
pub data IsKnown (base : ℕ) (own others : List Claim) (u : ℕ) : Type 0 where
  of_own : (j : ℕ) (d : Claim) → slice_get own j ≡ Some d → HasName base d u → IsKnown base own others u
  of_other : (j : ℕ) (d : Claim) → slice_get others j ≡ Some d → IsLinked base own others j → HasName base d u → IsKnown base own others u

-- only linked parts are marked, and exactly the names of own parts and of those that are marked are reached
pub record IsUnderWay (base : ℕ) (own others : List Claim) (l : Links) : Type 0 where
  pub long : length l.marks ≡ length others
  pub wide : length l.reached ≡ base
  pub sound : (k : ℕ) → slice_get l.marks k ≡ Some true → IsLinked base own others k
  pub known : (u : ℕ) → slice_get l.reached u ≡ Some true → IsKnown base own others u
  pub by_own : (j : ℕ) (d : Claim) (u : ℕ) → slice_get own j ≡ Some d → HasName base d u → slice_get l.reached u ≡ Some true
  pub by_others : (j : ℕ) (d : Claim) (u : ℕ) → slice_get others j ≡ Some d → slice_get l.marks j ≡ Some true → HasName base d u
      → slice_get l.reached u ≡ Some true

-- what is so goes on to be so
abbrev pub Keeps : List Part → (old new : Links) → Type 0
Keeps others old new = (base : ℕ) → AreNamed base others → (own : List Claim) → IsUnderWay base own (claims_in others) old
    → IsUnderWay base own (claims_in others) new

-- each part that belongs is marked
abbrev pub IsStill : List Part → Links → Type 0
IsStill others l = (k : ℕ) (part : Part) → slice_get others k ≡ Some part → IsTrue (belongs l.reached part.names)
    → slice_get l.marks k ≡ Some true

-- how many aren't marked
abbrev pub unmarked : List Bool → ℕ
unmarked [] = 0
unmarked (true ∷ marks) = unmarked marks
unmarked (false ∷ marks) = suc (unmarked marks)

-- one pass over the parts: some are marked, or each that belongs is
pub record IsRound (others : List Part) (old new : Links) (grew : Bool) : Type 0 where
  pub keeps : Keeps others old new
  pub long : length new.marks ≡ length old.marks
  pub fewer : grew ≡ true → unmarked new.marks < unmarked old.marks
  pub still : grew ≡ false → IsStill others new

-- the names of own parts are reached, and no other part is marked
pub record IsFirst (base : ℕ) (own : List Claim) (others : ℕ) (l : Links) : Type 0 where
  pub reached : l.reached ≡ with_marks (replicate base false) (flat_map (names_in base) own)
  pub marks : l.marks ≡ replicate others false
