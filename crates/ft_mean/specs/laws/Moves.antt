-- How the number that a memory keeps goes on from one scan to the next.
use Rattle.std.specs.Prelude.{ℕ, ◌≡◌, ℤ, pos, negsuc, ◌+ℤ◌, int_le, int_lt, Bool, not, ◌&&◌, ◌||◌, IsTrue, ⊤, if◌then◌else◌}
use Rattle.std.specs.Ordering.{int_eq}
use Rattle.ft_base.specs.Interval.{IsWithin}
use Rattle.ft_core.specs.declared.tables.Tables.{Tables}
use Rattle.ft_core.specs.declared.tables.Memory.{Memory}
use Rattle.ft_core.specs.declared.tables.Memory.TheVariants.{Held, Hyst}
use Rattle.ft_mean.specs.meaning.Reading.{Reading, begins, elapsed, scan_before}
use Rattle.ft_mean.specs.meaning.Value.{View, value, truth}
use Rattle.ft_mean.specs.meaning.Memory.{look, memory_at, kept}

-- the age of a timer where a scan begins: 0 where the condition is true, and -1 where it is false
abbrev pub age_begins : (condition : Bool) → (age : ℤ) → Bool
age_begins condition age = (not condition && int_eq age (negsuc 0)) || (condition && int_eq age (pos 0))

-- the age of a timer so many milliseconds after an age before: -1 where the condition is false, 0 where it has become true,
-- and else the age before with these milliseconds, up to the hold
abbrev pub age_goes_on : (elapsed hold : ℤ) → (condition : Bool) → (before age : ℤ) → Bool
age_goes_on elapsed hold condition before age =
    (not condition && int_eq age (negsuc 0))
    || (condition && int_eq before (negsuc 0) && int_eq age (pos 0))
    || (condition && int_le (pos 0) before && int_le (before +ℤ elapsed) hold && int_eq age (before +ℤ elapsed))
    || (condition && int_le (pos 0) before && int_lt hold (before +ℤ elapsed) && int_eq age hold)

abbrev pub same_bit : Bool → Bool → Bool
same_bit a b = (a && b) || (not a && not b)

-- the bit of a band after a bit before: true from the upper bound on, else false down from the lower one, and between them as
-- before
abbrev pub bit_goes_on : (lo hi term : ℤ) → (before bit : Bool) → Bool
bit_goes_on lo hi term before bit =
    (int_le hi term && bit)
    || (int_lt term hi && int_le term lo && not bit)
    || (int_lt term hi && int_lt lo term && same_bit bit before)

-- whether a memory may go from one number to another, at a scan that begins anew or follows the one before; where it begins
-- anew nothing kept before counts, and a band has its start
abbrev pub moves : Tables → (anew : Bool) → View → Memory → (before now : ℤ) → Bool
moves S anew V (Held name side cond hold) before now =
    if anew then age_begins (truth V cond) now else age_goes_on (elapsed S V.now) hold (truth V cond) before now
moves S anew V (Hyst name side e lo hi start) before now =
    bit_goes_on lo hi (value V e) (if anew then start else int_eq before (pos 1)) (int_eq now (pos 1))

-- the numbers that a memory keeps: an age from -1 to the hold, a bit 0 or 1
abbrev pub span_of : Memory → ℤ × ℤ
span_of (Held name side cond hold) = (negsuc 0, hold)
span_of (Hyst name side e lo hi start) = (pos 0, pos 1)

-- what might be kept: any number for an age, 0 or 1 for a bit
abbrev pub MayKeep : Memory → ℤ → Type 0
MayKeep (Held name side cond hold) z = ⊤
MayKeep (Hyst name side e lo hi start) z = IsWithin (pos 0, pos 1) z

-- whether a memory that keeps this number is true: a timer at its hold, beyond which no age goes, and a band with bit 1
abbrev pub is_true_at : Memory → ℤ → Bool
is_true_at (Held name side cond hold) age = int_le hold age
is_true_at (Hyst name side e lo hi start) bit = int_eq bit (pos 1)

-- memory m at scan t: what it keeps is in its span and comes by its move, nothing else does, and it tells the truth
pub record MovesAt (S : Tables) (ρ : Reading) (m : ℕ) (memory : Memory) (t : ℕ) : Type 0 where
  pub in_span : IsWithin (span_of memory) (kept S ρ t m)
  pub comes : IsTrue (moves S (begins S ρ t) (look S ρ t) memory (kept S ρ (scan_before t) m) (kept S ρ t m))
  pub alone : (z : ℤ) → MayKeep memory z → IsTrue (moves S (begins S ρ t) (look S ρ t) memory (kept S ρ (scan_before t) m) z)
      → z ≡ kept S ρ t m
  pub tells : memory_at S ρ m t ≡ is_true_at memory (kept S ρ t m)
