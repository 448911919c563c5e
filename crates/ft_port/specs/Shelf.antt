-- What a read of a shelf gives and leaves.
use Rattle.std.specs.Prelude.{◌≡◌, ◌≢◌, ◌⊎◌, ◌↔◌, ℕ, ◌+◌, ◌-◌, ◌^◌, ◌≤◌, max, min, List, length, take, drop, Option, Some, Result, IfOk}
use Rattle.std.specs.Prelude.{OnErr, if◌then◌else◌, ◌==◌}
use Rattle.ft_port.specs.Reads.{Read}

-- a read filled the first n bytes; where the file is told these are its bytes from the place on, and none only where none can be
pub record ReadsFrom {E : Type 0} (content : Option (List ℕ)) (place : ℕ) (result : Result ℕ E) (into : List ℕ) : Type 0 where
  pub within : IfOk result (λ n. n ≤ length into)
  pub bytes : (file : List ℕ) → content ≡ Some file → IfOk result (λ n. take n into ≡ take n (drop place file))
  pub inside : (file : List ℕ) → content ≡ Some file → IfOk result (λ n. n ≤ length file - place)
  pub ended : (file : List ℕ) → content ≡ Some file → IfOk result (λ n. (n ≡ 0) ↔ ((length into ≡ 0) ⊎ (length file ≤ place)))

-- how far the reads came after one more read of n bytes; a count of 64 bits stands still at its last value
abbrev pub reached : (before place n : ℕ) → ℕ
reached before place n = if n == 0 then before else max before (min (place + n) (2 ^ 64 - 1))

-- the reach after a read
pub record Reaches {E : Type 0} (before now place : ℕ) (result : Result ℕ E) : Type 0 where
  pub read : IfOk result (λ n. now ≡ reached before place n)
  pub failed : OnErr result (now ≡ before)

-- the counts and the reads of every other name stay
pub record OthersStay (name : List ℕ) (reach_before reach_now faults_before faults_now : List ℕ → ℕ)
    (reads_before reads_now : List ℕ → List Read) : Type 0 where
  pub reach : (other : List ℕ) → other ≢ name → reach_now other ≡ reach_before other
  pub faults : (other : List ℕ) → other ≢ name → faults_now other ≡ faults_before other
  pub reads : (other : List ℕ) → other ≢ name → reads_now other ≡ reads_before other
