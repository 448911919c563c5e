-- What a scan under way tells, what each step needs of it, and what it leaves.
use Rattle.std.specs.Prelude.{ℕ, ◌≡◌, ◌<◌, ℤ, pos, negsuc, Bool, false, List, [], ◌∷◌, ◌++◌, length, slice_get, slice_index_or, slice_set}
use Rattle.std.specs.Prelude.{Some, IsTrue}
use Rattle.ft_base.specs.Interval.{IsWithin}
use Rattle.ft_core.specs.declared.tables.Tables.{Tables}
use Rattle.ft_core.specs.declared.tables.Var.{Var}
use Rattle.ft_core.specs.declared.tables.Side.{Side}
use Rattle.ft_core.specs.declared.tables.Memory.{Memory}
use Rattle.ft_core.specs.declared.tables.Memory.TheVariants.{Held, Hyst}
use Rattle.ft_core.specs.declared.term.Cond.{Cond}
use Rattle.ft_core.specs.declared.term.Term.{Term}
use Rattle.ft_core.specs.meaning.Kinds.{defined_kinds, section_of, is_of}
use Rattle.ft_mean.specs.meaning.Cells.{defined}
use Rattle.ft_mean.specs.meaning.Value.{View, truth, value}
use Rattle.ft_memo.specs.Timer.{held_after}
use Rattle.ft_memo.specs.Band.{hyst_after}
use Rattle.ft_scan.specs.declared.plan.Step.{Step}
use Rattle.ft_scan.specs.declared.plan.Step.TheVariants as step
use Rattle.ft_scan.specs.declared.frame.Frame.{Frame}
use Rattle.ft_scan.specs.declared.frame.Running.{Running}
use Rattle.ft_scan.specs.declared.frame.Running.TheVariants.{Timer, Band}
use Rattle.ft_scan.specs.steps.Found.{IsTableFor}
use Rattle.ft_scan.specs.steps.Plan.{IsVector}

-- what every name stands for in a scan under way
abbrev pub view_of : Frame → View
view_of frame = record {
  now = λ x. slice_index_or frame.now x (pos 0);
  before = λ x. slice_index_or frame.past x (pos 0);
  age = λ m. negsuc 0;
  memory = λ m. slice_index_or frame.truths m false;
}

-- a running memory is that of a memory of the set
abbrev pub IsRunOf : (period : ℤ) → Memory → Running → Type 0
IsRunOf period (Held name s c hold) (Timer t) = (t.hold ≡ hold) × (t.period ≡ period)
IsRunOf period (Hyst name s e lo hi start) (Band b) = (b.lo ≡ lo) × (b.hi ≡ hi) × (b.start ≡ start)
IsRunOf period (Held name s c hold) (Band b) = ⊥
IsRunOf period (Hyst name s e lo hi start) (Timer t) = ⊥

-- everything has its place, and each value is in its variable's range
pub record IsFrameOf (S : Tables) (frame : Frame) : Type 0 where
  pub now : length frame.now ≡ length S.vars
  pub past : length frame.past ≡ length S.vars
  pub truths : length frame.truths ≡ length S.memories
  pub columns : length frame.columns ≡ length S.tables
  pub runs : (m : ℕ) (memory : Memory) → slice_get S.memories m ≡ Some memory
      → (run : Running) × (slice_get frame.runs.items m ≡ Some run) × IsRunOf S.period memory run
  pub now_in_range : (x : ℕ) (v : Var) → slice_get S.vars x ≡ Some v → IsWithin v.range (slice_index_or frame.now x (pos 0))
  pub past_in_range : (x : ℕ) (v : Var) → slice_get S.vars x ≡ Some v → IsWithin v.range (slice_index_or frame.past x (pos 0))

-- a step that finds a column: the table's column at this place holds
pub record FindsColumn (S : Tables) (s : Side) (table : ℕ) (old new : Frame) : Type 0 where
  pub columns : List Cond
  pub targets : List ℕ
  pub terms : List (List Term)
  pub there : IsVector S s table columns targets terms
  pub column : ℕ
  pub condition : Cond
  pub at : slice_get columns column ≡ Some condition
  pub holds : IsTrue (truth (view_of old) condition)
  pub leaves : new ≡ record {
    now = old.now;
    past = old.past;
    truths = old.truths;
    columns = slice_set old.columns table column;
    runs =
        old.runs;
  }

-- a step that finds a variable's value: that of some cell that holds
pub record FindsCell (S : Tables) (s : Side) (variable : ℕ) (old new : Frame) : Type 0 where
  pub z : ℤ
  pub is : IsTrue (defined S (section_of s) (view_of old) variable z)
  pub leaves : new ≡ record {
    now = slice_set old.now variable z;
    past = old.past;
    truths = old.truths;
    columns = old.columns;
    runs =
        old.runs;
  }

-- or that of its row of a vector table in the column that was found
pub record FindsEntry (S : Tables) (s : Side) (variable table row : ℕ) (old new : Frame) : Type 0 where
  pub columns : List Cond
  pub targets : List ℕ
  pub terms : List (List Term)
  pub there : IsVector S s table columns targets terms
  pub term : Term
  pub at : slice_get (slice_index_or terms row []) (slice_index_or old.columns table 0) ≡ Some term
  pub leaves : new ≡ record {
    now = slice_set old.now variable (value (view_of old) term);
    past = old.past;
    truths = old.truths;
    columns =
        old.columns;
    runs = old.runs;
  }

-- a running memory goes on by one scan, at which it says this
abbrev pub Advances : View → Memory → Running → Running → Bool → Type 0
Advances V (Held name s c hold) (Timer t) (Timer u) says =
    (u.hold ≡ t.hold) × (u.period ≡ t.period) × (u.truths ≡ t.truths ++ truth V c ∷ []) × (says ≡ held_after u.hold u.period u.truths)
Advances V (Hyst name s e lo hi start) (Band b) (Band u) says =
    (u.lo ≡ b.lo) × (u.hi ≡ b.hi) × (u.start ≡ b.start) × (u.numbers ≡ b.numbers ++ value V e ∷ [])
    × (says ≡ hyst_after u.lo u.hi u.start u.numbers)
Advances V _ _ _ says = ⊥

-- a step of a memory
pub record AdvancesMemory (S : Tables) (at : ℕ) (old new : Frame) : Type 0 where
  pub memory : Memory
  pub there : slice_get S.memories at ≡ Some memory
  pub run : Running
  pub next : Running
  pub says : Bool
  pub ran : slice_get old.runs.items at ≡ Some run
  pub advances : Advances (view_of old) memory run next says
  pub runs : new.runs.items ≡ slice_set old.runs.items at next
  pub now : new.now ≡ old.now
  pub past : new.past ≡ old.past
  pub truths : new.truths ≡ slice_set old.truths at says
  pub columns : new.columns ≡ old.columns

-- what a step leaves
abbrev pub Leaves : Tables → Side → Step → (old new : Frame) → Type 0
Leaves S s (step.Column table) old new = FindsColumn S s table old new
Leaves S s (step.Cell x table) old new = FindsCell S s x old new
Leaves S s (step.Entry x table row) old new = FindsEntry S s x table row old new
Leaves S s (step.Memory m) old new = AdvancesMemory S m old new

-- a vector table has a column that holds
pub record HasColumn (S : Tables) (s : Side) (table : ℕ) (frame : Frame) : Type 0 where
  pub columns : List Cond
  pub targets : List ℕ
  pub terms : List (List Term)
  pub there : IsVector S s table columns targets terms
  pub column : ℕ
  pub condition : Cond
  pub at : slice_get columns column ≡ Some condition
  pub holds : IsTrue (truth (view_of frame) condition)

-- a row of a vector table has an entry in the column that was found
pub record HasEntry (S : Tables) (s : Side) (table row : ℕ) (frame : Frame) : Type 0 where
  pub columns : List Cond
  pub targets : List ℕ
  pub terms : List (List Term)
  pub there : IsVector S s table columns targets terms
  pub term : Term
  pub at : slice_get (slice_index_or terms row []) (slice_index_or frame.columns table 0) ≡ Some term

-- a variable's table has a cell for it that holds
pub record HasCell (S : Tables) (s : Side) (variable table : ℕ) (frame : Frame) : Type 0 where
  pub there : IsTableFor S.tables (section_of s) variable table
  pub of_side : IsTrue (is_of S.vars (defined_kinds (section_of s)) variable)
  pub z : ℤ
  pub is : IsTrue (defined S (section_of s) (view_of frame) variable z)

-- a step finds what it looks for
abbrev pub CanTake : Tables → Side → Step → Frame → Type 0
CanTake S s (step.Column table) frame = HasColumn S s table frame
CanTake S s (step.Cell x table) frame = HasCell S s x table frame
CanTake S s (step.Entry x table row) frame = (x < length S.vars) × HasEntry S s table row frame
CanTake S s (step.Memory m) frame = m < length S.memories
