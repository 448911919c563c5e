-- What a band says at the last scan of a list of numbers, one a scan.
use Rattle.std.specs.Prelude.{ℕ, ◌≡◌, ℤ, pos, ◌<ℤ◌, Bool, List, [], ◌∷◌, length, slice_index_or}
use Rattle.ft_mean.specs.meaning.Past.{hyst}

-- a band as its callers see it: its bounds, its start, and the number at each scan so far
pub record Banded : Type 0 where
  pub lo : ℤ
  pub hi : ℤ
  pub start : Bool
  pub numbers : List ℤ

-- the number at each scan of the list
abbrev pub number_at : List ℤ → ℕ → ℤ
number_at numbers j = slice_index_or numbers j (pos 0)

-- the side of the bound met last, at the last scan; the start where there is no scan
abbrev pub hyst_after : (lo hi : ℤ) → (start : Bool) → List ℤ → Bool
hyst_after lo hi start [] = start
hyst_after lo hi start (first ∷ rest) = hyst 0 lo hi start (number_at (first ∷ rest)) (length rest)

-- a running bit stands for a list of numbers
pub record IsKept (lo hi : ℤ) (start : Bool) (numbers : List ℤ) (bit : Bool) : Type 0 where
  pub lie_apart : lo <ℤ hi
  pub is_side : bit ≡ hyst_after lo hi start numbers
