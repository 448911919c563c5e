-- What a timer and a band say at scan t of the scans from `from` to t, by looking back.
use Rattle.std.specs.Prelude.{ℕ, suc, ◌-◌, ℤ, negsuc, int_le, Bool, ◌&&◌, ◌||◌, List, reverse, Some, None}
use Rattle.std.specs.List.{list_any, list_all, find, range_with_len}
use Rattle.std.specs.Int.{int_min}

-- the scans from `from` to `to`
abbrev pub scans : (from to : ℕ) → List ℕ
scans from to = range_with_len from (suc to - from)

-- from some scan j on the condition was true at all scans up to t, and that is at least the hold ago
abbrev pub held : (from : ℕ) → (ago : ℕ → ℤ) → (hold : ℤ) → (condition : ℕ → Bool) → ℕ → Bool
held from ago hold condition t = list_any (λ j. int_le hold (ago j) && list_all condition (scans j t)) (scans from t)

-- the last scan where the term was at or past a bound had it at the upper one; `start` where there is no such scan
abbrev pub hyst : (from : ℕ) → (lo hi : ℤ) → (start : Bool) → (term : ℕ → ℤ) → ℕ → Bool
hyst from lo hi start term t =
    elim (find (λ j. int_le hi (term j) || int_le (term j) lo) (reverse (scans from t))) [ None ↦ start | Some j ↦ int_le hi (term j) ]

-- how long the condition has been true, up to the hold: since the first scan of the run of true scans that ends at t;
-- -1 where it is false
abbrev pub age : (from : ℕ) → (ago : ℕ → ℤ) → (hold : ℤ) → (condition : ℕ → Bool) → ℕ → ℤ
age from ago hold condition t =
    elim (find (λ j. list_all condition (scans j t)) (scans from t)) [ None ↦ negsuc 0 | Some j ↦ int_min hold (ago j) ]
