-- The memories that are read, as they are found one after another.
use Rattle.std.specs.Prelude.{ℕ, ◌≡◌, ◌<◌, false, true, List, [], ◌∷◌, ◌++◌, length, replicate, slice_get, slice_index_or, slice_set}
use Rattle.std.specs.Prelude.{Option, Some, None, if◌then◌else◌}
use Rattle.ft_core.specs.declared.tables.Tables.{Tables}
use Rattle.ft_core.specs.declared.tables.Memory.{Memory}
use Rattle.ft_core.specs.meaning.Reads.{Read, at_now, at_before, of_memory, of_age, memory_reads}
use Rattle.ft_mean.specs.meaning.Proper.{ReadsMemory}
use Rattle.ft_oblige.specs.declared.reading.Found.{Found}

-- with one more memory, where there is one at this place that wasn't found
abbrev pub with_memory : Found → ℕ → Found
with_memory f m = if slice_index_or f.marks m true then f else record { marks = slice_set f.marks m true; list = f.list ++ m ∷ [] }

abbrev pub with_read : Found → Read → Found
with_read f (at_now x) = f
with_read f (at_before x) = f
with_read f (of_memory m) = with_memory f m
with_read f (of_age m) = f

abbrev pub with_reads : Found → List Read → Found
with_reads f [] = f
with_reads f (r ∷ reads) = with_reads (with_read f r) reads

-- all memories that are read are found, one after another
abbrev pub Finds : List Read → (old new : Found) → Type 0
Finds reads old new = new ≡ with_reads old reads

-- what the memory reads itself that was found after so many others
abbrev pub reads_next : List Memory → Option ℕ → List Read
reads_next memories None = []
reads_next memories (Some m) = memory_reads (slice_get memories m)

abbrev pub Follows : List Memory → (next : ℕ) → (old new : Found) → Type 0
Follows memories next old new = Finds (reads_next memories (slice_get old.list next)) old new

-- no memory is found
pub record IsFresh (count : ℕ) (f : Found) : Type 0 where
  pub marks : f.marks ≡ replicate count false
  pub list : f.list ≡ []

-- exactly the memories that are read, also through memories, are marked
pub record FindsAll (S : Tables) (reads : List Read) (f : Found) : Type 0 where
  pub long : length f.marks ≡ length S.memories
  pub only : (m : ℕ) → slice_get f.marks m ≡ Some true → ReadsMemory S reads m
  pub each : (m : ℕ) → m < length S.memories → ReadsMemory S reads m → slice_get f.marks m ≡ Some true
