-- What a scan under way has of a scan of a reading.
use Rattle.std.specs.Prelude.{ℕ, suc, ◌-◌, ◌≡◌, ◌<◌, ◌≤◌, pos, false, List, length, slice_get, slice_index_or, Some, IsTrue}
use Rattle.ft_base.specs.Interval.{IsWithin}
use Rattle.ft_core.specs.declared.tables.Tables.{Tables}
use Rattle.ft_core.specs.declared.tables.Var.{Var}
use Rattle.ft_core.specs.declared.tables.Side.{Side}
use Rattle.ft_core.specs.declared.tables.Memory.{Memory}
use Rattle.ft_core.specs.declared.tables.Memory.TheVariants.{Held, Hyst}
use Rattle.ft_core.specs.declared.term.Cond.{Cond}
use Rattle.ft_core.specs.declared.term.Term.{Term}
use Rattle.ft_core.specs.meaning.Kinds.{given_kinds, side_kinds, section_of}
use Rattle.ft_mean.specs.meaning.Cells.{Follows}
use Rattle.ft_mean.specs.meaning.Memory.{at_scan, memory_at, look}
use Rattle.ft_mean.specs.meaning.Reading.{Reading, IsVar, before, begun, scan_before}
use Rattle.ft_mean.specs.meaning.Value.{truth, value}
use Rattle.ft_scan.specs.declared.plan.Step.{Step}
use Rattle.ft_scan.specs.declared.plan.Step.TheVariants as step
use Rattle.ft_scan.specs.declared.frame.Frame.{Frame}
use Rattle.ft_scan.specs.declared.frame.Running.{Running}
use Rattle.ft_scan.specs.declared.frame.Running.TheVariants.{Timer, Band}
use Rattle.ft_scan.specs.steps.Frame.{IsFrameOf, IsRunOf}
use Rattle.ft_scan.specs.steps.Plan.{IsVector}

-- scan n of a reading is in range, and the variables of the side follow its tables there
pub record IsScan (S : Tables) (s : Side) (a : Reading) (n : ℕ) : Type 0 where
  pub in_range : (j x : ℕ) (v : Var) → j ≤ n → slice_get S.vars x ≡ Some v → IsWithin v.range (a j x)
  pub follows : Follows S (section_of s) (look S a n) (a n)

-- a running memory was told the truths of its condition, or the numbers of its term, at each scan of a reading from `from` on, before n
abbrev pub WasToldSince : Tables → Reading → (from n : ℕ) → Memory → Running → Type 0
WasToldSince S a from n (Held name s c hold) (Timer t) =
    (length t.truths ≡ n - from)
    × ((j : ℕ) → from ≤ j → j < n → slice_index_or t.truths (j - from) false ≡ truth (at_scan S a (memory_at S a) j) c)
WasToldSince S a from n (Hyst name s e lo hi start) (Band b) =
    (length b.numbers ≡ n - from)
    × ((j : ℕ) → from ≤ j → j < n → slice_index_or b.numbers (j - from) (pos 0) ≡ value (at_scan S a (memory_at S a) j) e)
WasToldSince S a from n _ _ = ⊥

-- it was told the scans before n, from the last of them that begins
abbrev pub WasTold : Tables → Reading → ℕ → Memory → Running → Type 0
WasTold S a n memory run = WasToldSince S a (begun S a (scan_before n)) n memory run

-- the memory at this place runs, and was told the scans before n
abbrev pub RunsFor : Tables → Reading → ℕ → ℕ → Frame → Type 0
RunsFor S a n m frame = (memory : Memory) → slice_get S.memories m ≡ Some memory
    → (run : Running) × (slice_get frame.runs.items m ≡ Some run) × IsRunOf S.period memory run × WasTold S a n memory run

-- the column that was found is one that holds at the scan of the reading
pub record HasFound (S : Tables) (s : Side) (a : Reading) (n table : ℕ) (frame : Frame) : Type 0 where
  pub columns : List Cond
  pub targets : List ℕ
  pub terms : List (List Term)
  pub there : IsVector S s table columns targets terms
  pub condition : Cond
  pub at : slice_get columns (slice_index_or frame.columns table 0) ≡ Some condition
  pub holds : IsTrue (truth (look S a n) condition)

-- what a step has found is as at scan n of the reading
abbrev pub IsRight : Tables → Side → Reading → ℕ → Step → Frame → Type 0
IsRight S s a n (step.Column table) frame = HasFound S s a n table frame
IsRight S s a n (step.Cell x table) frame = slice_index_or frame.now x (pos 0) ≡ a n x
IsRight S s a n (step.Entry x table row) frame = slice_index_or frame.now x (pos 0) ≡ a n x
IsRight S s a n (step.Memory m) frame = (slice_index_or frame.truths m false ≡ memory_at S a m n) × RunsFor S a (suc n) m frame

-- after the first `done` steps of a scan: the scan before, what was given and what was found are as in the reading, and each
-- memory whose step is still to come was told the scans before
pub record IsTold (S : Tables) (s : Side) (steps : List Step) (a : Reading) (n done : ℕ) (frame : Frame) : Type 0 where
  pub is_frame : IsFrameOf S frame
  pub past : (x : ℕ) (v : Var) → IsVar S (side_kinds s) x v → slice_index_or frame.past x (pos 0) ≡ before S a n x
  pub given : (x : ℕ) (v : Var) → IsVar S (given_kinds s) x v → slice_index_or frame.now x (pos 0) ≡ a n x
  pub found : (q : ℕ) (one : Step) → q < done → slice_get steps q ≡ Some one → IsRight S s a n one frame
  pub waits : (m q : ℕ) → done ≤ q → slice_get steps q ≡ Some (step.Memory m) → RunsFor S a n m frame
