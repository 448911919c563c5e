-- What comes of a command is an outcome, and what an outcome with each status is.
use Rattle.std.proofs.Common.{◌≡◌, ◌⊎◌, inl, inr, ◌∙◌, ap, sym, refl, subst, ℕ, zero, suc, ◌+◌}
use Rattle.std.proofs.Common.{◌||◌, ◌*◌, ◌<◌, ◌≤◌, ℤ, Bool, true, false, ◌-◌, drop, length, length-drop, map, take, List, [], ◌∷◌, Option, Some}
use Rattle.std.proofs.Common.{None, IfSome, if◌then◌else◌, codes, arith}
use Rattle.std.specs.Prelude.{Err}
use Rattle.std.specs.List.{All, Contains}
use Rattle.std.specs.Option.{option_map}
use Rattle.std.specs.Str.{bytes_eq}
use Rattle.std.proofs.lemmas.List.{take_all}
use Rattle.std.proofs.lemmas.List.Elements.{All-contains_itself}
use Rattle.std.proofs.lemmas.Option.{none-some, same_Some}
use Rattle.ft_core.specs.declared.label.Label.{Label}
use Rattle.ft_core.specs.declared.tables.Grid.{Grid}
use Rattle.ft_core.specs.declared.tables.Tables.{Tables}
use Rattle.ft_mean.specs.meaning.Proper.{AllProper}
use Rattle.ft_mean.specs.meaning.Value.{View}
use Rattle.ft_claims.specs.laws.CoverLaws.{ProperShowsNone}
use Rattle.ft_claims.specs.meaning.Coverage.{Fault, gap, overlap, range}
use Rattle.ft_cover.specs.meaning.Covered.{AreFirstTwo, IsCover, IsFirstBeyond, IsShownAt, IsSpentAt, NoCell}
use Rattle.ft_cover.specs.declared.answer.Cover.TheVariants as cover
use Rattle.ft_cert.specs.meaning.Tree as cert
use Rattle.ft_port.specs.Causes.{one_more, Rose}
use Rattle.ft_port.specs.Reads.{Read}
use Rattle.ft_port.specs.Shelf.{OthersStay}
use Rattle.ft_port.specs.Fetching.{HasFetchCause, IsTooLong}
use Rattle.ft_port.specs.declared.fetching.FetchError.{FetchError}
use Rattle.ft_port.specs.declared.fetching.FetchError.TheVariants as fetching
use Rattle.ft_tree.specs.declared.tree.Tree.{Tree}
use Rattle.ft_parse.specs.meaning.Parse.{IsFault, Reads, Spells}
use Rattle.ft_parse.specs.declared.fault.ParseFault.{ParseFault}
use Rattle.ft_parse.specs.declared.fault.ParseFault.TheVariants as parse
use Rattle.ft_blocks.specs.meaning.Faults.{HasNoBlockFault}
use Rattle.ft_admit.specs.laws.OneSet.{OneSet}
use Rattle.ft_admit.specs.meaning.SetFaults.{IsSetFault, IsSetOfText}
use Rattle.ft_admit.specs.meaning.TreeFaults.{HasNoFault}
use Rattle.ft_admit.specs.meaning.Trees.{set_of_tree}
use Rattle.ft_admit.specs.declared.set_fault.SetFault.{SetFault}
use Rattle.ft_admit.specs.declared.set_fault.SetFault.TheVariants as set
use Rattle.ft_tree.specs.meaning.Canonical.{canonical}
use Rattle.ft_gen.specs.meaning.Generated.{generated}
use Rattle.ft_cli.specs.meaning.Generation.{IsDemo, IsGenerated}
use Rattle.ft_cli.specs.meaning.Judgement.{IsJudgement, IsPrint, IsRefused}
use Rattle.ft_report.specs.meaning.Report.{status_of}
use Rattle.ft_cli.specs.Top.{Command, verify, print, replay, gen, demo, files_of, file_for}
use Rattle.ft_cli.specs.Top.{command_of, command_on_number, set_number, Generates, HasDemo}
use Rattle.ft_cli.specs.Top.{Names, NoOthers, limit_of, Use, IsRead, CanBeRead, NamesKnown}
use Rattle.ft_cli.specs.Top.{Means, IsOutcome, usage, read_fault, too_long, no_memory, content, HasStatus, HasHeadline}
use Rattle.ft_cli.specs.Top.{CanBePrinted, HasRefutation, OfEachSet, PrintsAll}
use Rattle.ft_cli.specs.stages.Command.{HasNumber, IsUnfetched, report_on_error, report_on_fault, report_on_unread}
use Rattle.ft_cli.specs.stages.Command as unfetched
use Rattle.ft_cli.proofs.NumberLemmas.{number-within}
use Rattle.ft_report.specs.declared.report.Which.{Which}
use Rattle.ft_report.specs.declared.report.Which.TheVariants.{Set, Trace}
use Rattle.ft_report.specs.declared.report.Report.{Report}
use Rattle.ft_report.specs.declared.report.Report.TheVariants as report
use Rattle.ft_cli.specs.declared.ended.Ended.{Ended}

-- the report on a text that isn't read tells why
pub unread : (bytes : List ℕ) (f : ParseFault) → IsFault bytes f
    → ((tree : Tree) → Spells bytes tree → Reads (Err f) tree) → IsPrint bytes (report_on_unread f)
unread bytes (parse.Syntax place) is only = record { found = parse.Syntax place; is = refl; refusal = is; none = only }
unread bytes (parse.Limit which place) is only = record { found = parse.Limit which place; is = refl; refusal = is; none = only }
unread bytes parse.NoMemory is only = tt

-- a fault that is none of memory is the first of a text that spells no set without a fault
told : (bytes : List ℕ) (f : SetFault) → (f ≡ set.NoMemory → ⊥) → IsSetFault bytes f
    → ((tree : Tree) → Spells bytes tree → HasNoFault tree → HasNoBlockFault (set_of_tree tree).vars (set_of_tree tree).blocks
    → f ≡ set.NoMemory)
    → IsRefused bytes f
told bytes f some is only = record {
  cause = is;
  some = some;
  none = λ tree spelled whole blocks. some (only tree spelled whole blocks);
}

-- the report on a text that isn't admitted tells why
pub refused : (bytes : List ℕ) (f : SetFault) → IsSetFault bytes f
    → ((tree : Tree) → Spells bytes tree → HasNoFault tree → HasNoBlockFault (set_of_tree tree).vars (set_of_tree tree).blocks
    → f ≡ set.NoMemory)
    → IsJudgement bytes (report_on_fault f)
refused bytes (set.Syntax place) is only = told bytes _ (λ e. cc) is only
refused bytes (set.Limit which place) is only = told bytes _ (λ e. cc) is only
refused bytes (set.NoVariable kind) is only = told bytes _ (λ e. cc) is only
refused bytes (set.DuplicateName name place) is only = told bytes _ (λ e. cc) is only
refused bytes (set.UnknownName name place) is only = told bytes _ (λ e. cc) is only
refused bytes (set.WrongSide name place) is only = told bytes _ (λ e. cc) is only
refused bytes (set.TypeMismatch place) is only = told bytes _ (λ e. cc) is only
refused bytes (set.NotLinear why place) is only = told bytes _ (λ e. cc) is only
refused bytes (set.BadRange place) is only = told bytes _ (λ e. cc) is only
refused bytes (set.BadHold place) is only = told bytes _ (λ e. cc) is only
refused bytes (set.BadBand place) is only = told bytes _ (λ e. cc) is only
refused bytes (set.Shape title place) is only = told bytes _ (λ e. cc) is only
refused bytes (set.NoTable section name) is only = told bytes _ (λ e. cc) is only
refused bytes (set.TwoTables section name place) is only = told bytes _ (λ e. cc) is only
refused bytes (set.Cycle names) is only = told bytes _ (λ e. cc) is only
refused bytes (set.UnknownInvariant name place) is only = told bytes _ (λ e. cc) is only
refused bytes (set.BlockCycle names) is only = told bytes _ (λ e. cc) is only
refused bytes (set.GoalMissing name) is only = told bytes _ (λ e. cc) is only
refused bytes (set.ShownTwice name) is only = told bytes _ (λ e. cc) is only
refused bytes set.NoMemory is only = tt

-- whichever command it is, its files are among these
abbrev HasFiles : List (List ℕ) → Option Command → Type 0
HasFiles names command = IfSome command (λ c. All (Contains names) (files_of c))

-- a command on a number reads no file
without-files : (names : List (List ℕ)) (name word : List ℕ) → HasFiles names (command_on_number name word)
without-files names name word = by_tests (bytes_eq name (codes "gen")) (bytes_eq name (codes "demo")) (set_number word)
  where
    none : All (Contains names) []
    none k file less = absurd (omega (arith, less))

    by_tests : (a b : Bool) (number : Option ℕ)
        → HasFiles names (if a then option_map (λ n. gen n) number else (if b then option_map (λ n. demo n) number else None))
    by_tests true b (Some n) = none
    by_tests true b None = tt
    by_tests false true (Some n) = none
    by_tests false true None = tt
    by_tests false false number = tt

-- the words after the first have the names of the files
pub known-after : (first : List ℕ) (rest : List (List ℕ)) → NamesKnown (first ∷ rest) rest
known-after first [] = tt
known-after first (word ∷ []) = by_tests (bytes_eq first (codes "verify") || bytes_eq first (codes "verify-json")) (bytes_eq first (codes "print"))
  where
    by_tests : (a b : Bool)
        → HasFiles (word ∷ []) (if a then Some (verify word) else (if b then Some (print word) else command_on_number first word))
    by_tests true b = All-contains_itself (word ∷ [])
    by_tests false true = All-contains_itself (word ∷ [])
    by_tests false false = without-files (word ∷ []) first word
known-after first (file ∷ trace ∷ []) = by_test (bytes_eq first (codes "replay"))
  where
    by_test : (a : Bool) → HasFiles (file ∷ trace ∷ []) (if a then Some (replay file trace) else None)
    by_test true = All-contains_itself (file ∷ trace ∷ [])
    by_test false = tt
known-after first (file ∷ trace ∷ other ∷ more) = tt

-- of whatever the words are made
rest-known : {A : Type 0} (text : A → List ℕ) (words : List A) → NamesKnown (map text words) (map text (drop 1 words))
rest-known text [] = tt
rest-known text (word ∷ rest) = known-after (text word) (map text rest)

pub known-words : {A : Type 0} (text : A → List ℕ) (words : List A)
    → NamesKnown (map text words) (map text (take (length words - 1) (drop 1 words)))
known-words text words =
    subst (λ rest. NamesKnown (map text words) (map text rest))
    (sym (take_all (length words - 1) (drop 1 words) (omega (arith, length-drop 1 words)))) (rest-known text words)

-- the first and the second of some files are among all that hold them
pub first-known : (names : List (List ℕ)) (file : List ℕ) (rest : List (List ℕ)) → All (Contains names) (file ∷ rest) → Contains names file
first-known names file rest known = known 0 [] (omega arith)

pub second-known : (names : List (List ℕ)) (file trace : List ℕ) → All (Contains names) (file ∷ trace ∷ []) → Contains names trace
second-known names file trace known = known 1 [] (omega arith)

pub first-of : (file : List ℕ) (rest : List (List ℕ)) → Contains (file ∷ rest) file
first-of file rest = (0, omega arith, refl)

pub second-of : (file trace : List ℕ) → Contains (file ∷ trace ∷ []) trace
second-of file trace = (1, omega arith, refl)

-- why a file wasn't fetched
pub unfetched-cause : (u : Use) (which : Which) (e : FetchError) (r : Report) → r ≡ report_on_error e which
    → HasFetchCause u.content u.reads (limit_of which) u.faults_before u.faults_now u.reach e → IsUnfetched u which r
unfetched-cause u which fetching.Failed r same cause = unfetched.failed cause same
unfetched-cause u which fetching.TooLong r same cause = unfetched.too_long cause.0 same
unfetched-cause u which fetching.NoMemory r same cause = unfetched.no_memory same

module _ (command : Command) (which : Which) (file : List ℕ) (names : Contains (files_of command) file)
    (is : file_for command which ≡ Some file) where
  -- that a file of a command wasn't fetched is an outcome of it
  pub unfetched-outcome : (uses : List ℕ → Use) (r : Report) → IsUnfetched (uses file) which r → IsOutcome (Some command) uses r
  unfetched-outcome uses r (unfetched.failed cause same) = read_fault file names cause same
  unfetched-outcome uses r (unfetched.too_long cause same) = too_long command refl which file is cause same
  unfetched-outcome uses r (unfetched.no_memory same) = no_memory same

-- what is told of the bytes that were read is an outcome
pub judged-outcome : (file : List ℕ) (uses : List ℕ → Use) (bytes : List ℕ) (r : Report) → IsRead (uses file) (limit_of Set) bytes
    → IsJudgement bytes r → IsOutcome (Some (verify file)) uses r
judged-outcome file uses bytes r read means = content (verify file) refl (bytes, read, means)

pub printed-outcome : (file : List ℕ) (uses : List ℕ → Use) (bytes : List ℕ) (r : Report) → IsRead (uses file) (limit_of Set) bytes
    → IsPrint bytes r → IsOutcome (Some (print file)) uses r
printed-outcome file uses bytes r read means = content (print file) refl (bytes, read, means)

-- a command of one file leaves the others
pub others-stay : (command : Command) (file : List ℕ) → files_of command ≡ file ∷ []
    → (reach_before reach_now faults_before faults_now : List ℕ → ℕ) (reads_before reads_now : List ℕ → List Read)
    → OthersStay file reach_before reach_now faults_before faults_now reads_before reads_now
    → NoOthers (Some command) reach_before reach_now faults_before faults_now reads_before reads_now
others-stay command file is reach_before reach_now faults_before faults_now reads_before reads_now stay = record {
  reach = λ other not. stay.reach other (λ same. not (named other same));
  faults = λ other not. stay.faults other (λ same. not (named other same));
  reads = λ other not. stay.reads other (λ same. not (named other same));
}
  where
    named : (other : List ℕ) → other ≡ file → Contains (files_of command) other
    named other same = subst (λ files. Contains files other) (sym is) (0, omega arith, sym same)

-- what holds of a command holds of one that is the same
module _ (asked command : Command) (same : asked ≡ command) where
  pub known-as : (names : List (List ℕ)) → All (Contains names) (files_of asked) → All (Contains names) (files_of command)
  known-as names known = subst (λ c. All (Contains names) (files_of c)) same known

  pub outcome-as : (uses : List ℕ → Use) (r : Report) → IsOutcome (Some command) uses r → IsOutcome (Some asked) uses r
  outcome-as uses r outcome = subst (λ c. IsOutcome (Some c) uses r) (sym same) outcome

  pub others-as : (reach_before reach_now faults_before faults_now : List ℕ → ℕ) (reads_before reads_now : List ℕ → List Read)
      → NoOthers (Some command) reach_before reach_now faults_before faults_now reads_before reads_now
      → NoOthers (Some asked) reach_before reach_now faults_before faults_now reads_before reads_now
  others-as reach_before reach_now faults_before faults_now reads_before reads_now stay =
      subst (λ c. NoOthers (Some c) reach_before reach_now faults_before faults_now reads_before reads_now) (sym same) stay

-- what holds of the command that the words are
module _ {A : Type 0} (seen : A → Command) (made : Option A) (command : Option Command) (asked : A)
    (of_words : option_map seen made ≡ command) (is : made ≡ Some asked) where
  named-by : Some (seen asked) ≡ command
  named-by = ap (option_map seen) (sym is) ∙ of_words

  pub known-by : (names : List (List ℕ)) → HasFiles names command → All (Contains names) (files_of (seen asked))
  known-by names known = subst (HasFiles names) (sym named-by) known

  pub outcome-by : (uses : List ℕ → Use) (r : Report) → IsOutcome (Some (seen asked)) uses r → IsOutcome command uses r
  outcome-by uses r outcome = subst (λ k. IsOutcome k uses r) named-by outcome

  pub others-by : (reach_before reach_now faults_before faults_now : List ℕ → ℕ) (reads_before reads_now : List ℕ → List Read)
      → NoOthers (Some (seen asked)) reach_before reach_now faults_before faults_now reads_before reads_now
      → NoOthers command reach_before reach_now faults_before faults_now reads_before reads_now
  others-by reach_before reach_now faults_before faults_now reads_before reads_now stay =
      subst (λ k. NoOthers k reach_before reach_now faults_before faults_now reads_before reads_now) named-by stay

-- words of no form have no command
pub usage-by : {A : Type 0} (seen : A → Command) (made : Option A) (command : Option Command) (uses : List ℕ → Use) (r : Report)
    → option_map seen made ≡ command → made ≡ None → r ≡ report.Usage → IsOutcome command uses r
usage-by seen made command uses r of_words is same = usage (sym of_words ∙ ap (option_map seen) is) same

-- want of memory is an outcome for all words
pub answered : (command : Option Command) (uses : List ℕ → Use) (r s : Report)
    → IsOutcome command uses r → (s ≡ r) ⊎ (s ≡ report.NoMemory) → IsOutcome command uses s
answered command uses r s outcome (inl same) = subst (IsOutcome command uses) (sym same) outcome
answered command uses r s outcome (inr none) = no_memory none

-- the only judgement of status 0 is that of a verified set
earned : (u : Use) (bytes : List ℕ) (r : Report) → IsRead u (limit_of Set) bytes → IsJudgement bytes r → status_of r ≡ 0 → HasHeadline u r
earned u bytes report.Usage file means zero_is = absurd means
earned u bytes report.ReadFault file means zero_is = absurd means
earned u bytes (report.TooLong which) file means zero_is = absurd means
earned u bytes report.NoMemory file means zero_is = absurd (omega arith)
earned u bytes (report.Refused fault) file means zero_is = absurd (omega arith)
earned u bytes (report.Printed tree) file means zero_is = absurd means
earned u bytes (report.NatStops n) file means zero_is = absurd (omega arith)
earned u bytes (report.Fails T n req out state short) file means zero_is = absurd (omega arith)
earned u bytes (report.Verified S list) file means zero_is =
    record { set = S; list = list; bytes = bytes; verified = refl; file = file; means = means }
earned u bytes (report.Refuted S list scan) file means zero_is = absurd (omega arith)
earned u bytes (report.Gap T k state) file means zero_is = absurd (omega arith)
earned u bytes (report.Overlap T k first second state) file means zero_is = absurd (omega arith)
earned u bytes (report.OutOfRange T k cell state) file means zero_is = absurd (omega arith)
earned u bytes (report.Spent T subject tree short) file means zero_is = absurd (omega arith)
earned u bytes (report.Demo n S list) file means zero_is = absurd means
earned u bytes (report.Agree scans) file means zero_is = absurd means
earned u bytes (report.Differ scan) file means zero_is = absurd means
earned u bytes (report.TraceRefused fault) file means zero_is = absurd means
earned u bytes (report.NatRefuses scan) file means zero_is = absurd means

-- the only judgement of status 1 is that of a refuted set
differed : (u : Use) (bytes : List ℕ) (r : Report) → IsRead u (limit_of Set) bytes → IsJudgement bytes r → status_of r ≡ 1
    → HasRefutation u r
differed u bytes report.Usage file means one_is = absurd means
differed u bytes report.ReadFault file means one_is = absurd means
differed u bytes (report.TooLong which) file means one_is = absurd means
differed u bytes report.NoMemory file means one_is = absurd (omega arith)
differed u bytes (report.Refused fault) file means one_is = absurd (omega arith)
differed u bytes (report.Printed tree) file means one_is = absurd means
differed u bytes (report.NatStops n) file means one_is = absurd (omega arith)
differed u bytes (report.Fails T n req out state short) file means one_is = absurd (omega arith)
differed u bytes (report.Verified S list) file means one_is = absurd (omega arith)
differed u bytes (report.Gap T k state) file means one_is = absurd (omega arith)
differed u bytes (report.Overlap T k first second state) file means one_is = absurd (omega arith)
differed u bytes (report.OutOfRange T k cell state) file means one_is = absurd (omega arith)
differed u bytes (report.Spent T subject tree short) file means one_is = absurd (omega arith)
differed u bytes (report.Demo n S list) file means one_is = absurd means
differed u bytes (report.Agree scans) file means one_is = absurd means
differed u bytes (report.Differ scan) file means one_is = absurd means
differed u bytes (report.TraceRefused fault) file means one_is = absurd means
differed u bytes (report.NatRefuses scan) file means one_is = absurd means
differed u bytes (report.Refuted S list scan) file means one_is =
    record { set = S; list = list; scan = scan; bytes = bytes; refuted = refl; file = file; means = means }

module _ (command : Option Command) (uses : List ℕ → Use) (r : Report) (outcome : IsOutcome command uses r) where
  -- an outcome with a status below 4 tells what the bytes mean to the command
  pub content-below : (n : ℕ) → n < 4 → status_of r ≡ n → (asked : Command) → command ≡ Some asked → Means uses asked r
  content-below n low status asked named = elim outcome [
    | usage none is ↦ absurd (none-some asked (sym none ∙ named))
    | read_fault file names cause is ↦ let five = ap status_of is in absurd (omega (arith, low, status, five))
    | too_long other same which file kind cause is ↦ let ten = ap status_of is in absurd (omega (arith, low, status, ten))
    | no_memory is ↦ let seven = ap status_of is in absurd (omega (arith, low, status, seven))
    | content other same means ↦ subst (λ c. Means uses c r) (same_Some other asked (sym same ∙ named)) means
  ]

module _ (sink_before sink_now : ℕ) (ended : Ended) (status : HasStatus sink_before sink_now ended) (command : Option Command)
    (uses : List ℕ → Use) (outcome : IsOutcome command uses ended.report) where
  -- a status below 6 is the report's
  pub own : (n : ℕ) → ended.status ≡ n → (n ≡ 6 → ⊥) → status_of ended.report ≡ n
  own n is other = elim status [
    | inl same ↦ sym same ∙ is
    | inr six ↦ absurd (other (sym is ∙ six.0))
  ]

  pub headline : (file : List ℕ) → command ≡ Some (verify file) → ended.status ≡ 0 → HasHeadline (uses file) ended.report
  headline file named zero_is =
      let status = own 0 zero_is (λ e. omega (arith, e)) in
      let (bytes, read, means) = content-below command uses ended.report outcome 0 (omega arith) status (verify file) named in
      earned (uses file) bytes ended.report read means status

  pub refutation : (file : List ℕ) → command ≡ Some (verify file) → ended.status ≡ 1 → HasRefutation (uses file) ended.report
  refutation file named one_is =
      let status = own 1 one_is (λ e. omega (arith, e)) in
      let (bytes, read, means) = content-below command uses ended.report outcome 1 (omega arith) status (verify file) named in
      differed (uses file) bytes ended.report read means status

-- a list of one file has no other
only : (file other : List ℕ) → Contains (file ∷ []) other → other ≡ file
only file other (zero, less, is) = sym is
only file other (suc k, less, is) = absurd (omega (arith, less))

-- what can be had is what was read
pub read-is : (u : Use) (limit : ℕ) (bytes read : List ℕ) → CanBeRead u limit bytes → IsRead u limit read → bytes ≡ read
read-is u limit bytes read (inl can) file = sym (file.whole bytes can.0)
read-is u limit bytes read (inr can) file = can.1 ∙ sym file.given

-- a fault that came once has risen
rises : (before now : ℕ) → now ≡ one_more before → Rose before now
rises before now is = subst (λ n. one_more before ≤ n) (sym is) (omega arith)

-- no read came too far
pub not-long : (u : Use) (limit : ℕ) (bytes : List ℕ) → CanBeRead u limit bytes → IsTooLong u.content u.reads limit u.reach → ⊥
not-long u limit bytes (inl can) long = omega (arith, long.longer bytes can.0, can.1)
not-long u limit bytes (inr can) long = omega (arith, long.far, can.2)

-- where no file of a command is too long and the faults of none rose, the report tells what their bytes mean; want of memory is free
pub content-or-none : (command : Option Command) (uses : List ℕ → Use) (r : Report) → IsOutcome command uses r
    → (asked : Command) → command ≡ Some asked
    → ((which : Which) (file : List ℕ) → file_for asked which ≡ Some file
    → IsTooLong (uses file).content (uses file).reads (limit_of which) (uses file).reach → ⊥)
    → ((file : List ℕ) → Contains (files_of asked) file → Rose (uses file).faults_before (uses file).faults_now → ⊥)
    → Means uses asked r ⊎ (r ≡ report.NoMemory)
content-or-none command uses r outcome asked named short still = elim outcome [
  | usage none is ↦ absurd (none-some asked (sym none ∙ named))
  | read_fault file names cause is ↦
      absurd (still file (subst (λ c. Names c file) named names) (rises (uses file).faults_before (uses file).faults_now cause.once))
  | too_long other same which file kind cause is ↦
      absurd (short which file (subst (λ c. file_for c which ≡ Some file) (same_Some other asked (sym same ∙ named)) kind) cause)
  | no_memory is ↦ inr is
  | content other same means ↦ inl (subst (λ c. Means uses c r) (same_Some other asked (sym same ∙ named)) means)
]

-- the same of a command that reads the file of a set alone, whose bytes can be had
module _ (command : Option Command) (uses : List ℕ → Use) (r : Report) (outcome : IsOutcome command uses r) (asked : Command)
    (named : command ≡ Some asked) (file bytes : List ℕ) (reads : files_of asked ≡ file ∷ [])
    (kind : (which : Which) (other : List ℕ) → file_for asked which ≡ Some other → (which ≡ Set) × (other ≡ file))
    (can : CanBeRead (uses file) (limit_of Set) bytes) (still : Rose (uses file).faults_before (uses file).faults_now → ⊥) where
  short : (which : Which) (other : List ℕ) → file_for asked which ≡ Some other
      → IsTooLong (uses other).content (uses other).reads (limit_of which) (uses other).reach → ⊥
  short which other is long =
      let (of_set, same) = kind which other is in
      not-long (uses file) (limit_of Set) bytes can
      (subst (λ w. IsTooLong (uses file).content (uses file).reads (limit_of w) (uses file).reach) of_set
      (subst (λ f. IsTooLong (uses f).content (uses f).reads (limit_of which) (uses f).reach) same long))

  quiet : (other : List ℕ) → Contains (files_of asked) other → Rose (uses other).faults_before (uses other).faults_now → ⊥
  quiet other names rose =
      still (subst (λ f. Rose (uses f).faults_before (uses f).faults_now)
      (only file other (subst (λ files. Contains files other) reads names)) rose)

  pub meant-or-none : Means uses asked r ⊎ (r ≡ report.NoMemory)
  meant-or-none = content-or-none command uses r outcome asked named short quiet

-- what is found of a table
pub gap-shown : (S : Tables) (k : ℕ) (values : List ℤ) (labels : List Label) → IsCover S false (cover.Gap k values labels)
    → IsShownAt S (3 * k + 1) k gap NoCell values labels
gap-shown S k values labels (found, before) = found.1

pub overlap-shown : (S : Tables) (k : ℕ) (first second : ℕ × ℕ) (values : List ℤ) (labels : List Label)
    → IsCover S false (cover.Overlap k first second values labels)
    → IsShownAt S (3 * k + 2) k overlap (AreFirstTwo first second) values labels
overlap-shown S k first second values labels (found, before) = found.1

pub range-shown : (S : Tables) (k : ℕ) (cell : ℕ × ℕ) (values : List ℤ) (labels : List Label)
    → IsCover S false (cover.OutOfRange k cell values labels)
    → IsShownAt S (3 * k + 3) k range (IsFirstBeyond S cell) values labels
range-shown S k cell values labels (found, before) = found.1

pub spent-at : (S : Tables) (n : ℕ) (tree : cert.Tree) → IsCover S false (cover.Spent n tree) → IsSpentAt S n tree
spent-at S n tree (found, before) = let (same, some, last, spent) = found in spent

-- a proper table of the set that bytes spell shows no fault
pub shows-no-fault : ProperShowsNone → OneSet → (bytes : List ℕ) (S : Tables) → IsSetOfText bytes S → AllProper S
    → (T : Tables) → IsSetOfText bytes T → (n k : ℕ) (fault : Fault) (Named : Grid → View → Type 0) (values : List ℤ) (labels : List Label)
    → IsShownAt T n k fault Named values labels → ⊥
shows-no-fault shows one_set bytes S spelled_by proper_is T spelled n k fault Named values labels at =
    let proper = subst AllProper (sym (one_set bytes T S spelled spelled_by)) proper_is in
    let (V, local, kept) = at.some in
    (shows T k at.table at.its_table).0 (proper k at.table at.its_table) fault V local (at.each V kept).0

-- `verify` and `print` read the file of a set
verify-reads : (file : List ℕ) (which : Which) (other : List ℕ) → file_for (verify file) which ≡ Some other
    → (which ≡ Set) × (other ≡ file)
verify-reads file Set other is = (refl, same_Some other file (sym is))
verify-reads file Trace other is = absurd (none-some other is)

print-reads : (file : List ℕ) (which : Which) (other : List ℕ) → file_for (print file) which ≡ Some other → (which ≡ Set) × (other ≡ file)
print-reads file Set other is = (refl, same_Some other file (sym is))
print-reads file Trace other is = absurd (none-some other is)

-- what holds of each judgement of the bytes of a set holds of each set that could be had
pub of-each : (Holds : Tables → Report → Type 0)
    → ((bytes : List ℕ) (S : Tables) → IsSetOfText bytes S → HasNoBlockFault S.vars S.blocks → (r : Report) → IsJudgement bytes r
    → Holds S r)
    → (command : Option Command) (uses : List ℕ → Use) (r : Report) → IsOutcome command uses r → OfEachSet command uses r Holds
of-each Holds each command uses r outcome file S named can still =
    elim (meant-or-none command uses r outcome (verify file) named file can.bytes refl (verify-reads file) can.file still) [
      | inl means ↦
          each can.bytes S can.spelled can.blocks r
          (subst (λ bytes. IsJudgement bytes r) (sym (read-is (uses file) (limit_of Set) can.bytes means.0 can.file means.1)) means.2)
      | inr none ↦ subst (Holds S) (sym none) (each can.bytes S can.spelled can.blocks report.NoMemory tt)
    ]

-- the tree that the bytes spell is the one that is printed
printed : (u : Use) (tree : Tree) (can : CanBePrinted u tree) (r : Report) → IsPrint can.bytes r
    → (r ≡ report.Printed tree) ⊎ (r ≡ report.NoMemory)
printed u tree can report.ReadFault means = absurd means
printed u tree can (report.TooLong which) means = absurd means
printed u tree can report.NoMemory means = inr refl
printed u tree can (report.Refused fault) means = absurd (means.none tree can.spelled)
printed u tree can (report.Printed read) means = inl (ap report.Printed (means.alone tree can.spelled))
printed u tree can report.Usage means = absurd means
printed u tree can (report.NatStops n) means = absurd means
printed u tree can (report.Fails T n req out state short) means = absurd means
printed u tree can (report.Verified S list) means = absurd means
printed u tree can (report.Refuted S list scan) means = absurd means
printed u tree can (report.Gap T k state) means = absurd means
printed u tree can (report.Overlap T k first second state) means = absurd means
printed u tree can (report.OutOfRange T k cell state) means = absurd means
printed u tree can (report.Spent T subject spent short) means = absurd means
printed u tree can (report.Demo n S list) means = absurd means
printed u tree can (report.Agree scans) means = absurd means
printed u tree can (report.Differ scan) means = absurd means
printed u tree can (report.TraceRefused fault) means = absurd means
printed u tree can (report.NatRefuses scan) means = absurd means

pub prints : (command : Option Command) (uses : List ℕ → Use) (r : Report) → IsOutcome command uses r → PrintsAll command uses r
prints command uses r outcome file tree named can still =
    elim (meant-or-none command uses r outcome (print file) named file can.bytes refl (print-reads file) can.file still) [
      | inl means ↦
          printed (uses file) tree can r
          (subst (λ bytes. IsPrint bytes r) (sym (read-is (uses file) (limit_of Set) can.bytes means.0 can.file means.1)) means.2)
      | inr none ↦ inr none
    ]

-- the tree of a generated set is the one that is printed
generated-tree : (n : ℕ) (r : Report) → IsGenerated n r
    → ((tree : Tree) × (r ≡ report.Printed tree) × (canonical tree ≡ generated n)) ⊎ (r ≡ report.NoMemory)
generated-tree n (report.Printed tree) means = inl (tree, refl, means)
generated-tree n report.NoMemory means = inr refl
generated-tree n report.Usage means = absurd means
generated-tree n report.ReadFault means = absurd means
generated-tree n (report.TooLong which) means = absurd means
generated-tree n (report.Refused fault) means = absurd means
generated-tree n (report.NatStops k) means = absurd means
generated-tree n (report.Fails T k req out state short) means = absurd means
generated-tree n (report.Verified S list) means = absurd means
generated-tree n (report.Demo k S list) means = absurd means
generated-tree n (report.Refuted S list scan) means = absurd means
generated-tree n (report.Gap T k state) means = absurd means
generated-tree n (report.Overlap T k first second state) means = absurd means
generated-tree n (report.OutOfRange T k cell state) means = absurd means
generated-tree n (report.Spent T subject spent short) means = absurd means
generated-tree n (report.Agree scans) means = absurd means
generated-tree n (report.Differ scan) means = absurd means
generated-tree n (report.TraceRefused fault) means = absurd means
generated-tree n (report.NatRefuses scan) means = absurd means

pub generates : (command : Option Command) (uses : List ℕ → Use) (r : Report) → IsOutcome command uses r → Generates command r
generates command uses r outcome n named =
    elim (content-or-none command uses r outcome (gen n) named (λ which file is. absurd (none-some file is))
    (λ file names. no-file file names)) [
      | inl means ↦ generated-tree n r means
      | inr none ↦ inr none
    ]
  where
    no-file : (file : List ℕ) → Contains [] file → Rose (uses file).faults_before (uses file).faults_now → ⊥
    no-file file (k, less, is) rose = omega (arith, less)

-- the only report on a generated set with status 0 is that it is verified
demonstrated : (n : ℕ) (r : Report) → IsDemo n r → status_of r ≡ 0 → HasDemo n r
demonstrated n (report.Demo k S list) (same, means) zero_is =
    record { set = S; list = list; is = ap (λ m. report.Demo m S list) same; means = means }
demonstrated n report.Usage means zero_is = absurd means
demonstrated n report.ReadFault means zero_is = absurd means
demonstrated n (report.TooLong which) means zero_is = absurd means
demonstrated n report.NoMemory means zero_is = absurd (omega (arith, zero_is))
demonstrated n (report.Refused fault) means zero_is = absurd (omega (arith, zero_is))
demonstrated n (report.Printed tree) means zero_is = absurd means
demonstrated n (report.NatStops k) means zero_is = absurd (omega (arith, zero_is))
demonstrated n (report.Fails T k req out state short) means zero_is = absurd (omega (arith, zero_is))
demonstrated n (report.Verified S list) means zero_is = absurd means
demonstrated n (report.Refuted S list scan) means zero_is = absurd (omega (arith, zero_is))
demonstrated n (report.Gap T k state) means zero_is = absurd (omega (arith, zero_is))
demonstrated n (report.Overlap T k first second state) means zero_is = absurd (omega (arith, zero_is))
demonstrated n (report.OutOfRange T k cell state) means zero_is = absurd (omega (arith, zero_is))
demonstrated n (report.Spent T subject tree short) means zero_is = absurd (omega (arith, zero_is))
demonstrated n (report.Agree scans) means zero_is = absurd means
demonstrated n (report.Differ scan) means zero_is = absurd means
demonstrated n (report.TraceRefused fault) means zero_is = absurd means
demonstrated n (report.NatRefuses scan) means zero_is = absurd means

pub demonstration : (sink_before sink_now : ℕ) (ended : Ended) → HasStatus sink_before sink_now ended → (command : Option Command)
    (uses : List ℕ → Use) → IsOutcome command uses ended.report → (n : ℕ) → command ≡ Some (demo n) → ended.status ≡ 0
    → HasDemo n ended.report
demonstration sink_before sink_now ended status command uses outcome n named zero_is =
    let zero_told = own sink_before sink_now ended status command uses outcome 0 zero_is (λ e. omega (arith, e)) in
    demonstrated n ended.report (content-below command uses ended.report outcome 0 (omega arith) zero_told (demo n) named) zero_told

-- a report on a generated set is an outcome
pub generated-outcome : (n : ℕ) (uses : List ℕ → Use) (r : Report) → IsGenerated n r → IsOutcome (Some (gen n)) uses r
generated-outcome n uses r means = content (gen n) refl means

pub demo-outcome : (n : ℕ) (uses : List ℕ → Use) (r : Report) → IsDemo n r → IsOutcome (Some (demo n)) uses r
demo-outcome n uses r means = content (demo n) refl means

-- a command on a number leaves every file
pub none-read : (command : Command) (reach faults : List ℕ → ℕ) (reads : List ℕ → List Read)
    → NoOthers (Some command) reach reach faults faults reads reads
none-read command reach faults reads = record { reach = λ other not. refl; faults = λ other not. refl; reads = λ other not. refl }

-- the number of a command that words are is that of a generated set
numbered-made : (made : Option ℕ) → ((n : ℕ) → made ≡ Some n → (1 ≤ n) × (n ≤ 60)) → (with_number : ℕ → Command)
    → ((n : ℕ) → (1 ≤ n) × (n ≤ 60) → HasNumber (with_number n)) → (c : Command) → option_map with_number made ≡ Some c → HasNumber c
numbered-made (Some n) within with_number numbered c same = subst HasNumber (same_Some (with_number n) c same) (numbered n (within n refl))
numbered-made None within with_number numbered c same = absurd (none-some c same)

numbered-on : (name word : List ℕ) (c : Command) → command_on_number name word ≡ Some c → HasNumber c
numbered-on name word c = by_tests (bytes_eq name (codes "gen")) (bytes_eq name (codes "demo"))
  where
    by_tests : (a b : Bool)
        → (if a then option_map (λ n. gen n) (set_number word) else (if b then option_map (λ n. demo n) (set_number word) else None)) ≡ Some c
        → HasNumber c
    by_tests true b same = numbered-made (set_number word) (number-within word) (λ n. gen n) (λ n within. within) c same
    by_tests false true same = numbered-made (set_number word) (number-within word) (λ n. demo n) (λ n within. within) c same
    by_tests false false same = absurd (none-some c same)

numbered : (words : List (List ℕ)) (c : Command) → command_of words ≡ Some c → HasNumber c
numbered [] c same = absurd (none-some c same)
numbered (name ∷ []) c same = absurd (none-some c same)
numbered (name ∷ word ∷ []) c same = by_tests (bytes_eq name (codes "verify") || bytes_eq name (codes "verify-json"))
    (bytes_eq name (codes "print")) same
  where
    by_tests : (a b : Bool)
        → (if a then Some (verify word) else (if b then Some (print word) else command_on_number name word)) ≡ Some c → HasNumber c
    by_tests true b is = subst HasNumber (same_Some (verify word) c is) tt
    by_tests false true is = subst HasNumber (same_Some (print word) c is) tt
    by_tests false false is = numbered-on name word c is
numbered (name ∷ file ∷ trace ∷ []) c same = by_test (bytes_eq name (codes "replay")) same
  where
    by_test : (a : Bool) → (if a then Some (replay file trace) else None) ≡ Some c → HasNumber c
    by_test true is = subst HasNumber (same_Some (replay file trace) c is) tt
    by_test false is = absurd (none-some c is)
numbered (name ∷ file ∷ trace ∷ other ∷ more) c same = absurd (none-some c same)

pub numbered-by : {A : Type 0} (seen : A → Command) (made : Option A) (asked : A) (words : List (List ℕ))
    → option_map seen made ≡ command_of words → made ≡ Some asked → HasNumber (seen asked)
numbered-by seen made asked words of_words is = numbered words (seen asked) (sym of_words ∙ ap (option_map seen) is)

pub numbered-as : (asked command : Command) → asked ≡ command → HasNumber asked → HasNumber command
numbered-as asked command same has = subst HasNumber same has
