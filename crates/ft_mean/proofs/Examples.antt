-- The definitions, computed at cases with known answers.
use Rattle.std.proofs.Common.{◌≡◌, refl, ℕ, ◌-◌, ◌*◌, ℤ, pos, negsuc, true, false, List, [], ◌∷◌, slice_index_or}
use Rattle.ft_base.specs.Division.{floor_of}
use Rattle.ft_mean.specs.meaning.Past.{held, hyst, age}

-- a list as a function of the scan
at : {A : Type 0} → A → List A → ℕ → A
at none xs t = slice_index_or xs t none

-- scans 50 ms apart: the milliseconds from scan j to scan t
ago : ℕ → ℕ → ℤ
ago t j = pos ((t - j) * 50)

-- a hold of 0 ms is met at once
held-at_once : held 0 (ago 0) (pos 0) (at false (true ∷ [])) 0 ≡ true
unfolding at ago
held-at_once = refl

-- a hold of 70 ms is met at the third scan of a run
held-third : (held 0 (ago 1) (pos 70) (at false (true ∷ true ∷ true ∷ [])) 1 ≡ false)
    × (held 0 (ago 2) (pos 70) (at false (true ∷ true ∷ true ∷ [])) 2 ≡ true)
unfolding at ago
held-third = (refl, refl)

-- and a run that breaks off starts anew
held-broken : held 0 (ago 2) (pos 70) (at false (true ∷ false ∷ true ∷ [])) 2 ≡ false
unfolding at ago
held-broken = refl

age-grows : (age 0 (ago 0) (pos 70) (at false (true ∷ true ∷ true ∷ [])) 0 ≡ pos 0)
    × (age 0 (ago 1) (pos 70) (at false (true ∷ true ∷ true ∷ [])) 1 ≡ pos 50)
    × (age 0 (ago 2) (pos 70) (at false (true ∷ true ∷ true ∷ [])) 2 ≡ pos 70)
unfolding at ago
age-grows = (refl, refl, refl)

age-false : age 0 (ago 1) (pos 70) (at false (true ∷ false ∷ [])) 1 ≡ negsuc 0
unfolding at ago
age-false = refl

-- between its bounds a band keeps what it was
hyst-keeps : (hyst 0 (pos 10) (pos 20) false (at (pos 0) (pos 20 ∷ pos 15 ∷ pos 10 ∷ [])) 1 ≡ true)
    × (hyst 0 (pos 10) (pos 20) false (at (pos 0) (pos 20 ∷ pos 15 ∷ pos 10 ∷ [])) 2 ≡ false)
unfolding at
hyst-keeps = (refl, refl)

-- and its start where it met none
hyst-starts : (hyst 0 (pos 10) (pos 20) true (at (pos 0) (pos 15 ∷ pos 11 ∷ pos 19 ∷ [])) 2 ≡ true)
    × (hyst 0 (pos 10) (pos 20) false (at (pos 0) (pos 15 ∷ pos 11 ∷ pos 19 ∷ [])) 2 ≡ false)
unfolding at
hyst-starts = (refl, refl)

-- division rounds down
floors : (floor_of (negsuc 0) (pos 4) ≡ negsuc 0) × (floor_of (negsuc 3) (pos 4) ≡ negsuc 0) × (floor_of (pos 7) (pos 4) ≡ pos 1)
floors = (refl, refl, refl)
