-- The titles of tables, and the names of obligations.
use Rattle.std.specs.Prelude.{ℕ, ◌-◌, Bool, true, false, List, [], ◌++◌, codes, Option, Some, None, slice_get}
use Rattle.ft_core.specs.declared.tables.Tables.{Tables}
use Rattle.ft_core.specs.declared.tables.Table.{Table}
use Rattle.ft_core.specs.declared.tables.Block.{Block}
use Rattle.ft_core.specs.declared.tables.Fact.{Fact}
use Rattle.ft_core.specs.declared.tables.Fact.TheVariants.{Invariant, Goal}
use Rattle.ft_core.specs.declared.tables.Var.{Var}
use Rattle.ft_core.specs.declared.tables.Grid.{Grid}
use Rattle.ft_core.specs.declared.tables.Grid.TheVariants.{Normal, Inverted, Vector}
use Rattle.ft_claims.specs.meaning.Coverage.{Fault, gap, overlap, range}
use Rattle.ft_oblige.specs.meaning.Blocks.{fact_of}
use Rattle.ft_oblige.specs.meaning.Obligations.{Subject, about_fact, about_table, subjects}
use Rattle.ft_report.specs.meaning.Words.{named, section_word}

-- the first variable that a table defines
abbrev pub first_target : Grid → Option ℕ
first_target (Normal target columns rows terms) = Some target
first_target (Inverted target terms rows grid) = Some target
first_target (Vector columns targets terms) = slice_get targets 0

-- the name of a variable, and nothing where there is none
abbrev pub name_of : Option Var → List ℕ
name_of None = []
name_of (Some v) = v.name

abbrev pub name_at : List Var → Option ℕ → List ℕ
name_at vars None = []
name_at vars (Some place) = name_of (slice_get vars place)

-- a table's title: the word of its section and the name of the first variable that it defines
abbrev pub title : List Var → Table → List ℕ
title vars table = named (section_word table.section) (name_at vars (first_target table.grid))

abbrev pub title_in : List Var → Option Table → List ℕ
title_in vars None = []
title_in vars (Some table) = title vars table

-- the title of the table at this place of the set
abbrev pub title_of : Tables → ℕ → List ℕ
title_of S k = title_in S.vars (slice_get S.tables k)

-- the name of a fact in its block: an invariant's own, and `goal.` with the variable of a goal
abbrev pub fact_name : List Var → Option Fact → List ℕ
fact_name vars None = []
fact_name vars (Some (Invariant name c)) = name
fact_name vars (Some (Goal x)) = codes "goal." ++ name_of (slice_get vars x)

abbrev pub block_name : Option Block → List ℕ
block_name None = []
block_name (Some block) = block.name

-- BLOCK.FACT
abbrev pub fact_title : Tables → (b f : ℕ) → List ℕ
fact_title S b f = block_name (slice_get S.blocks b) ++ codes "." ++ fact_name S.vars (fact_of S (b, f))

abbrev pub fault_word : Fault → List ℕ
fault_word gap = codes "gap"
fault_word overlap = codes "overlap"
fault_word range = codes "range"

-- whether the scan begins or follows another
abbrev pub moment_word : (anew : Bool) → List ℕ
moment_word true = codes "first"
moment_word false = codes "later"

-- the name of an obligation by what it is about
abbrev pub subject_name : Tables → Option Subject → List ℕ
subject_name S None = []
subject_name S (Some (about_table k fault)) = named (fault_word fault) (title_of S k)
subject_name S (Some (about_fact b f anew)) = named (moment_word anew) (fact_title S b f)

-- the name of the obligation with this number, from 1
abbrev pub obligation_name : Tables → ℕ → List ℕ
obligation_name S n = subject_name S (slice_get (subjects S) (n - 1))

-- the fact that something is about
abbrev pub fact_about : Tables → Option Subject → Option Fact
fact_about S None = None
fact_about S (Some (about_table k fault)) = None
fact_about S (Some (about_fact b f anew)) = fact_of S (b, f)
