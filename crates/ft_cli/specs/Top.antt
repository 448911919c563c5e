-- What the top call promises.
use Rattle.std.specs.Prelude.{◌≡◌, ◌≢◌, ◌⊎◌, ◌++◌, take, length, ◌≤◌, ℕ, ℤ, List, [], ◌∷◌, Option, None, Some, codes, IfSome, if◌then◌else◌}
use Rattle.std.specs.Prelude.{◌&&◌, ◌||◌, nat_le, Bool, option_map}
use Rattle.std.specs.List.{All, Contains, list_all}
use Rattle.std.specs.Str.{bytes_eq}
use Rattle.ft_base.specs.Digits.{decimal_value, is_digit}
use Rattle.ft_core.specs.declared.tables.Tables.{Tables}
use Rattle.ft_mean.specs.meaning.Allowed.{Allowed}
use Rattle.ft_mean.specs.meaning.Proper.{AllProper}
use Rattle.ft_mean.specs.meaning.Refines.{FirstDiffers}
use Rattle.ft_port.specs.Causes.{Rose}
use Rattle.ft_port.specs.Fetching.{HasReadFault, IsFile, IsTooLong}
use Rattle.ft_port.specs.Reads.{Read, given}
use Rattle.ft_tree.specs.declared.tree.Tree.{Tree}
use Rattle.ft_tree.specs.meaning.Canonical.{canonical}
use Rattle.ft_gen.specs.meaning.Generated.{generated}
use Rattle.ft_parse.specs.meaning.Parse.{Spells}
use Rattle.ft_blocks.specs.meaning.Faults.{HasNoBlockFault}
use Rattle.ft_admit.specs.meaning.SetFaults.{IsSetOfText}
use Rattle.ft_cover.specs.meaning.Covered.{IsSpentAt}
use Rattle.ft_trace.specs.meaning.Spelling.{SpellsHistory}
use Rattle.ft_stream.specs.meaning.Mark.{after_mark}
use Rattle.ft_cli.specs.meaning.Generation.{IsDemo, IsGenerated}
use Rattle.ft_cli.specs.meaning.Judgement.{IsJudgement, IsPrint, IsRefuted, IsVerified}
use Rattle.ft_cli.specs.meaning.Replay.{IsEarly, IsRun}
use Rattle.ft_report.specs.meaning.Report.{text_of, status_of}
use Rattle.ft_json.specs.meaning.Json.{json_text}
use Rattle.ft_report.specs.declared.report.Which.{Which}
use Rattle.ft_report.specs.declared.report.Which.TheVariants.{Set, Trace}
use Rattle.ft_report.specs.declared.short.Subject.TheVariants.{Obligation}
use Rattle.ft_report.specs.declared.report.Report.{Report}
use Rattle.ft_report.specs.declared.report.Report.TheVariants as report
use Rattle.ft_cli.specs.declared.ended.Ended.{Ended}
use Rattle.ft_cli.specs.declared.output.Output.{Output}
use Rattle.ft_cli.specs.declared.output.Output.TheVariants.{Json, Lines}

-- what the words ask for: the verdict on the set in a file, its canonical text, what its two sides do on the trace in another file, the
-- canonical text of the generated set of a number, or the verdict on it
pub data Command : Type 0 where
  verify : (file : List ℕ) → Command
  print : (file : List ℕ) → Command
  replay : (file trace : List ℕ) → Command
  gen : (number : ℕ) → Command
  demo : (number : ℕ) → Command

-- four digits or fewer
abbrev pub is_short_number : List ℕ → Bool
is_short_number word = nat_le (length word) 4 && list_all is_digit word

-- there are generated sets from 1 to 60
abbrev pub is_set_number : ℕ → Bool
is_set_number n = nat_le 1 n && nat_le n 60

-- the number of a generated set: one to four digits with a value of 1 to 60
abbrev pub set_number : List ℕ → Option ℕ
set_number word = if is_short_number word && is_set_number (decimal_value word) then Some (decimal_value word) else None

-- the command of this name on a number
abbrev pub command_on_number : (name word : List ℕ) → Option Command
command_on_number name word =
    if bytes_eq name (codes "gen") then option_map (λ n. gen n) (set_number word)
    else (if bytes_eq name (codes "demo") then option_map (λ n. demo n) (set_number word) else None)

-- the command of this name on this file, or on this number
abbrev pub command_named : (name word : List ℕ) → Option Command
command_named name word =
    if bytes_eq name (codes "verify") || bytes_eq name (codes "verify-json") then Some (verify word)
    else (if bytes_eq name (codes "print") then Some (print word) else command_on_number name word)

-- the command of this name on the file of a set and that of a trace
abbrev pub command_on_two : (name file trace : List ℕ) → Option Command
command_on_two name file trace = if bytes_eq name (codes "replay") then Some (replay file trace) else None

-- the command of two words, its name and its file or its number, or of three, its name and its two files
abbrev pub command_of : List (List ℕ) → Option Command
command_of (name ∷ word ∷ []) = command_named name word
command_of (name ∷ file ∷ trace ∷ []) = command_on_two name file trace
command_of _ = None

-- the files that a command reads
abbrev pub files_of : Command → List (List ℕ)
files_of (verify file) = file ∷ []
files_of (print file) = file ∷ []
files_of (replay file trace) = file ∷ trace ∷ []
files_of (gen n) = []
files_of (demo n) = []

-- the file of this kind that a command reads
abbrev pub file_for : Command → Which → Option (List ℕ)
file_for (verify file) Set = Some file
file_for (verify file) Trace = None
file_for (print file) Set = Some file
file_for (print file) Trace = None
file_for (replay file trace) Set = Some file
file_for (replay file trace) Trace = Some trace
file_for (gen n) which = None
file_for (demo n) which = None

-- the files that the words name are the shelf's
abbrev pub NamesKnown : List (List ℕ) → List (List ℕ) → Type 0
NamesKnown words names = IfSome (command_of words) (λ command. All (Contains names) (files_of command))

-- the longest file of a set and of a trace, in bytes
abbrev pub limit_of : Which → ℕ
limit_of Set = 4194304
limit_of Trace = 16777216

-- what a call made of a file: what is told of it, the reads of it, the counts of those that failed before the call and now, and how far
-- the reads came
pub record Use : Type 0 where
  pub content : Option (List ℕ)
  pub reads : List Read
  pub faults_before : ℕ
  pub faults_now : ℕ
  pub reach : ℕ

-- the uses of the files of a shelf
abbrev pub use_of : (content : List ℕ → Option (List ℕ)) → (reads : List ℕ → List Read) → (faults_before faults_now reach : List ℕ → ℕ)
    → List ℕ → Use
use_of content reads faults_before faults_now reach name =
    record {
      content = content name;
      reads = reads name;
      faults_before = faults_before name;
      faults_now = faults_now name;
      reach =
          reach name;
    }

-- the bytes are all that the file gave up to its end, no more than the limit, and all of the told file
abbrev pub IsRead : Use → (limit : ℕ) → List ℕ → Type 0
IsRead u limit bytes = IsFile u.content u.reads limit bytes

-- the bytes could be had: the told file holds them and is no longer than the limit; or, where nothing is told, they were read, and no
-- read came beyond the limit
abbrev pub CanBeRead : Use → (limit : ℕ) → List ℕ → Type 0
CanBeRead u limit bytes =
    ((u.content ≡ Some bytes) × (length bytes ≤ limit)) ⊎ ((u.content ≡ None) × (bytes ≡ given u.reads) × (u.reach ≤ limit))

-- the bytes that were read spell this set, its blocks have no fault, and its tables are proper
pub record HasProperSet (u : Use) (S : Tables) : Type 0 where
  pub bytes : List ℕ
  pub file : IsRead u (limit_of Set) bytes
  pub spelled : IsSetOfText bytes S
  pub blocks : HasNoBlockFault S.vars S.blocks
  pub proper : AllProper S

-- Why `replay` reports what it does, of the uses of its two files: the bytes of the set are judged as by `verify`, which comes no further
-- than the coverage of its tables; or the set's tables are proper, and the report tells what its two sides do on the trace that the
-- bytes of the other file spell, after the mark where there is one.
pub data IsReplay (set trace : Use) (r : Report) : Type 0 where
  stopped : (bytes : List ℕ) → IsRead set (limit_of Set) bytes → IsEarly r → IsJudgement bytes r → IsReplay set trace r
  ran : (S : Tables) → HasProperSet set S → (text : List ℕ) → IsRead trace (limit_of Trace) text → IsRun S (after_mark text) r
      → IsReplay set trace r

-- what a report means to a command, of the uses of its files
abbrev pub Means : (uses : List ℕ → Use) → Command → Report → Type 0
Means uses (verify file) r = (bytes : List ℕ) × IsRead (uses file) (limit_of Set) bytes × IsJudgement bytes r
Means uses (print file) r = (bytes : List ℕ) × IsRead (uses file) (limit_of Set) bytes × IsPrint bytes r
Means uses (replay file trace) r = IsReplay (uses file) (uses trace) r
Means uses (gen n) r = IsGenerated n r
Means uses (demo n) r = IsDemo n r

-- the words name this file
abbrev pub Names : Option Command → List ℕ → Type 0
Names None file = ⊥
Names (Some command) file = Contains (files_of command) file

-- The causes of a report: the words are of no form; a read of a file that they name failed; the file of that kind is too long; memory was
-- refused; or the report tells what the bytes that were read mean to the command.
pub data IsOutcome (command : Option Command) (uses : List ℕ → Use) (r : Report) : Type 0 where
  usage : command ≡ None → r ≡ report.Usage → IsOutcome command uses r
  read_fault : (file : List ℕ) → Names command file → HasReadFault (uses file).reads (uses file).faults_before (uses file).faults_now
      → r ≡ report.ReadFault → IsOutcome command uses r
  too_long : (asked : Command) → command ≡ Some asked → (which : Which) (file : List ℕ) → file_for asked which ≡ Some file
      → IsTooLong (uses file).content (uses file).reads (limit_of which) (uses file).reach → r ≡ report.TooLong which
      → IsOutcome command uses r
  no_memory : r ≡ report.NoMemory → IsOutcome command uses r
  content : (asked : Command) → command ≡ Some asked → Means uses asked r → IsOutcome command uses r

-- the counts and the reads of every file that the words don't name stay
pub record NoOthers (command : Option Command) (reach_before reach_now faults_before faults_now : List ℕ → ℕ)
    (reads_before reads_now : List ℕ → List Read) : Type 0 where
  pub reach : (other : List ℕ) → (Names command other → ⊥) → reach_now other ≡ reach_before other
  pub faults : (other : List ℕ) → (Names command other → ⊥) → faults_now other ≡ faults_before other
  pub reads : (other : List ℕ) → (Names command other → ⊥) → reads_now other ≡ reads_before other

-- the status is the report's; or it is 6, and the sink's faults rose
abbrev pub HasStatus : (faults_before faults_now : ℕ) → Ended → Type 0
HasStatus faults_before faults_now ended = (ended.status ≡ status_of ended.report) ⊎ ((ended.status ≡ 6) × Rose faults_before faults_now)

-- the report is written line by line, and where the first word is `verify-json` as JSON
abbrev pub output_named : (name : List ℕ) → Output
output_named name = if bytes_eq name (codes "verify-json") then Json else Lines

abbrev pub output_of : List (List ℕ) → Output
output_of [] = Lines
output_of (name ∷ words) = output_named name

abbrev pub written_as : Output → Report → List ℕ
written_as Lines r = text_of r
written_as Json r = json_text r

-- a sink that tells took the report's text and nothing else; with status 6 it took a first part of it
pub record Writes (output : Output) (before now : Option (List ℕ)) (ended : Ended) : Type 0 where
  pub all : (old : List ℕ) → before ≡ Some old → ended.status ≢ 6 → now ≡ Some (old ++ written_as output ended.report)
  pub part : (old : List ℕ) → before ≡ Some old → ended.status ≡ 6
      → (n : ℕ) × (now ≡ Some (old ++ take n (written_as output ended.report)))

-- the bytes that were read spell a set whose design refines its requirement, and the report keeps a list that is allowed and has
-- `depth` scans
pub record HasHeadline (u : Use) (r : Report) : Type 0 where
  pub set : Tables
  pub list : List (List ℤ)
  pub bytes : List ℕ
  pub verified : r ≡ report.Verified set list
  pub file : IsRead u (limit_of Set) bytes
  pub means : IsVerified bytes set list

-- the bytes that were read spell a set whose design first differs from its requirement on the list that the report keeps
pub record HasRefutation (u : Use) (r : Report) : Type 0 where
  pub set : Tables
  pub list : List (List ℤ)
  pub scan : ℕ
  pub bytes : List ℕ
  pub refuted : r ≡ report.Refuted set list scan
  pub file : IsRead u (limit_of Set) bytes
  pub means : IsRefuted bytes set list scan

-- the bytes that could be had spell this set, and its blocks have no fault
pub record CanBeJudged (u : Use) (S : Tables) : Type 0 where
  pub bytes : List ℕ
  pub file : CanBeRead u (limit_of Set) bytes
  pub spelled : IsSetOfText bytes S
  pub blocks : HasNoBlockFault S.vars S.blocks

-- what holds of the report of `verify` and of each set that could be had from its file, where the faults of that file didn't rise
abbrev pub OfEachSet : Option Command → (List ℕ → Use) → Report → (Tables → Report → Type 0) → Type 0
OfEachSet command uses r Holds =
    (file : List ℕ) (S : Tables) → command ≡ Some (verify file) → CanBeJudged (uses file) S
    → (Rose (uses file).faults_before (uses file).faults_now → ⊥) → Holds S r

-- the bytes that could be had spell this tree
pub record CanBePrinted (u : Use) (tree : Tree) : Type 0 where
  pub bytes : List ℕ
  pub file : CanBeRead u (limit_of Set) bytes
  pub spelled : Spells bytes tree

-- where the file can be printed and its faults didn't rise, its tree is printed; want of memory is free
abbrev pub PrintsAll : Option Command → (List ℕ → Use) → Report → Type 0
PrintsAll command uses r =
    (file : List ℕ) (tree : Tree) → command ≡ Some (print file) → CanBePrinted (uses file) tree
    → (Rose (uses file).faults_before (uses file).faults_now → ⊥) → (r ≡ report.Printed tree) ⊎ (r ≡ report.NoMemory)

-- the report keeps a tree whose canonical text is that of the generated set; want of memory is free
abbrev pub Generates : Option Command → Report → Type 0
Generates command r =
    (n : ℕ) → command ≡ Some (gen n)
    → ((tree : Tree) × (r ≡ report.Printed tree) × (canonical tree ≡ generated n)) ⊎ (r ≡ report.NoMemory)

-- the design of the generated set refines its requirement, and the report keeps its number and a list that is allowed and has `depth` scans
pub record HasDemo (n : ℕ) (r : Report) : Type 0 where
  pub set : Tables
  pub list : List (List ℤ)
  pub is : r ≡ report.Demo n set list
  pub means : IsVerified (generated n) set list

-- the bytes of T, after the mark where there is one, spell an allowed list on which the two sides differ nowhere, of the set that the bytes
-- of F spell, whose tables are proper; the report keeps the number of its scans
pub record HasAgreement (set_use trace_use : Use) (r : Report) : Type 0 where
  pub set : Tables
  pub list : List (List ℤ)
  pub text : List ℕ
  pub agree : r ≡ report.Agree (length list)
  pub proper : HasProperSet set_use set
  pub file : IsRead trace_use (limit_of Trace) text
  pub spelled : SpellsHistory set (after_mark text) list
  pub allowed : Allowed set list
  pub nowhere : (scan : ℕ) → FirstDiffers set list scan → ⊥

-- the bytes that could be had of both files: those of the set spell it, its blocks have no fault and its tables are proper; those of the
-- trace spell, after the mark where there is one, a list that is allowed
pub record CanBeReplayed (set_use trace_use : Use) (S : Tables) (list : List (List ℤ)) : Type 0 where
  pub bytes : List ℕ
  pub file : CanBeRead set_use (limit_of Set) bytes
  pub spelled : IsSetOfText bytes S
  pub blocks : HasNoBlockFault S.vars S.blocks
  pub proper : AllProper S
  pub text : List ℕ
  pub trace : CanBeRead trace_use (limit_of Trace) text
  pub given : SpellsHistory S (after_mark text) list
  pub allowed : Allowed S list

-- what the two sides do on this list, or a search of one of the set's obligations that used up exactly its splits; want of memory is free
abbrev pub IsReplayOn : Tables → List (List ℤ) → Report → Type 0
IsReplayOn S list (report.Agree scans) = (scans ≡ length list) × ((scan : ℕ) → FirstDiffers S list scan → ⊥)
IsReplayOn S list (report.Differ scan) = FirstDiffers S list scan
IsReplayOn S list (report.Spent T (Obligation n) tree None) = (T ≡ S) × IsSpentAt S n tree
IsReplayOn S list report.NoMemory = Unit {0}
IsReplayOn S list _ = ⊥

-- the two sides differ at this scan, or a search of one of the set's obligations used up exactly its splits; want of memory is free
abbrev pub IsReplayAt : Tables → (scan : ℕ) → Report → Type 0
IsReplayAt S scan (report.Differ at) = at ≡ scan
IsReplayAt S scan (report.Spent T (Obligation n) tree None) = (T ≡ S) × IsSpentAt S n tree
IsReplayAt S scan report.NoMemory = Unit {0}
IsReplayAt S scan _ = ⊥

-- where both files can be replayed and their faults didn't rise, the answer tells what the two sides do, or a search was spent
abbrev pub ReplaysAll : Option Command → (List ℕ → Use) → Report → Type 0
ReplaysAll command uses r =
    (file trace : List ℕ) (S : Tables) (list : List (List ℤ)) → command ≡ Some (replay file trace)
    → CanBeReplayed (uses file) (uses trace) S list → (Rose (uses file).faults_before (uses file).faults_now → ⊥)
    → (Rose (uses trace).faults_before (uses trace).faults_now → ⊥) → IsReplayOn S list r

-- where the trace that could be had is the text of a refutation of the set that could be had, the two sides differ at the scan that it
-- tells, or a search was spent
abbrev pub ReplaysRefuted : Option Command → (List ℕ → Use) → Report → Type 0
ReplaysRefuted command uses r =
    (file trace bytes : List ℕ) (S : Tables) (list : List (List ℤ)) (scan : ℕ) → command ≡ Some (replay file trace)
    → CanBeJudged (uses file) S → IsRefuted bytes S list scan
    → CanBeRead (uses trace) (limit_of Trace) (text_of (report.Refuted S list scan))
    → (Rose (uses file).faults_before (uses file).faults_now → ⊥)
    → (Rose (uses trace).faults_before (uses trace).faults_now → ⊥) → IsReplayAt S scan r
