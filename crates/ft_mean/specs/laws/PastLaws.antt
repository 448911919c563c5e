-- Timers, ages and bands from one scan to the next: what they see of the past, how they begin, and how they go on.
use Rattle.std.specs.Prelude.{ℕ, suc, ◌≡◌, ◌≤◌, ℤ, pos, negsuc, ◌+ℤ◌, ◌≤ℤ◌, int_le, Bool, ◌||◌, if◌then◌else◌}
use Rattle.std.specs.Int.{int_min}
use Rattle.ft_mean.specs.meaning.Past.{held, hyst, age}

-- the bit of a band one scan later
abbrev pub next_bit : (lo hi : ℤ) → (before : Bool) → (now : ℤ) → Bool
next_bit lo hi before now = if int_le hi now || int_le now lo then int_le hi now else before

-- the age of a timer one scan later, so many milliseconds after
abbrev pub next_age : (hold elapsed before : ℤ) → (now : Bool) → ℤ
next_age hold elapsed before now = if now then (if int_le (pos 0) before then int_min hold (before +ℤ elapsed) else pos 0) else negsuc 0

-- a timer sees the scans up to this one
abbrev pub SameHeld : Type 0
SameHeld = (from : ℕ) (ago : ℕ → ℤ) (hold : ℤ) (c d : ℕ → Bool) (t : ℕ) → ((j : ℕ) → j ≤ t → c j ≡ d j)
    → held from ago hold c t ≡ held from ago hold d t

-- so does its age
abbrev pub SameAge : Type 0
SameAge = (from : ℕ) (ago : ℕ → ℤ) (hold : ℤ) (c d : ℕ → Bool) (t : ℕ) → ((j : ℕ) → j ≤ t → c j ≡ d j)
    → age from ago hold c t ≡ age from ago hold d t

-- so does a band
abbrev pub SameHyst : Type 0
SameHyst = (from : ℕ) (lo hi : ℤ) (start : Bool) (e f : ℕ → ℤ) (t : ℕ) → ((j : ℕ) → j ≤ t → e j ≡ f j)
    → hyst from lo hi start e t ≡ hyst from lo hi start f t

-- a band begins after its start
abbrev pub HystBegins : Type 0
HystBegins = (lo hi : ℤ) (start : Bool) (e : ℕ → ℤ) (t : ℕ) → hyst t lo hi start e t ≡ next_bit lo hi start (e t)

-- and goes on by one scan
abbrev pub HystGoesOn : Type 0
HystGoesOn = (lo hi : ℤ) (start : Bool) (e : ℕ → ℤ) (from t : ℕ) → from ≤ suc t
    → hyst from lo hi start e (suc t) ≡ next_bit lo hi (hyst from lo hi start e t) (e (suc t))

-- the age of a timer begins at 0, or at -1 where its condition is false
abbrev pub AgeBegins : Type 0
AgeBegins = (t : ℕ) (ago : ℕ → ℤ) (hold : ℤ) (c : ℕ → Bool) → ago t ≡ pos 0 → pos 0 ≤ℤ hold
    → age t ago hold c t ≡ (if c t then pos 0 else negsuc 0)

-- and goes on by one scan, where each scan is so many milliseconds longer ago than it was
abbrev pub AgeGoesOn : Type 0
AgeGoesOn = (from : ℕ) (hold elapsed : ℤ) → pos 0 ≤ℤ hold → pos 0 ≤ℤ elapsed → (past now : ℕ → ℤ) (t : ℕ) → from ≤ t
    → ((j : ℕ) → j ≤ t → pos 0 ≤ℤ past j) → ((j : ℕ) → j ≤ t → now j ≡ past j +ℤ elapsed) → now (suc t) ≡ pos 0 → (c : ℕ → Bool)
    → age from now hold c (suc t) ≡ next_age hold elapsed (age from past hold c t) (c (suc t))

-- where what lies further back is no less long ago, a condition has been held where its age has come to the hold
abbrev pub HeldByAge : Type 0
HeldByAge = (from : ℕ) (ago : ℕ → ℤ) (hold : ℤ) (c : ℕ → Bool) (t : ℕ) → ((j k : ℕ) → j ≤ k → ago k ≤ℤ ago j) → pos 0 ≤ℤ hold
    → held from ago hold c t ≡ int_le hold (age from ago hold c t)
