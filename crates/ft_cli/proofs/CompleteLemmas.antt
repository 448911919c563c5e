-- What the answer on a set comes to, by what is so of the set.
use Rattle.std.proofs.Common.{◌≡◌, ap, sym, refl, subst, ℕ, ◌+◌, ◌-◌, ◌*◌, ◌<◌, ◌≤◌, ℤ, List, length, take}
use Rattle.std.proofs.Common.{drop, slice_get, None, Some, Bool, true, false, true≢false, arith}
use Rattle.std.proofs.lemmas.List.{length-take-le, take-append-drop}
use Rattle.std.proofs.lemmas.Option.{slice_get_within}
use Rattle.ft_core.specs.declared.label.Label.{Label}
use Rattle.ft_core.specs.declared.tables.Grid.{Grid}
use Rattle.ft_core.specs.declared.tables.Table.{Table}
use Rattle.ft_core.specs.declared.tables.Tables.{Tables}
use Rattle.ft_core.specs.laws.Places.{one-at}
use Rattle.ft_core.specs.meaning.Reads.{grid_reads}
use Rattle.ft_blocks.specs.meaning.Faults.{HasNoBlockFault}
use Rattle.ft_build.specs.declared.parts.Parts.{Parts}
use Rattle.ft_admit.specs.meaning.SetFaults.{IsSetOfText}
use Rattle.ft_admit.specs.declared.set_fault.SetFault.{SetFault}
use Rattle.ft_mean.specs.meaning.Allowed.{Allowed}
use Rattle.ft_mean.specs.meaning.Proper.{AllProper}
use Rattle.ft_mean.specs.meaning.Reading.{Scans}
use Rattle.ft_mean.specs.meaning.Refines.{FirstDiffers}
use Rattle.ft_mean.specs.meaning.Value.{View}
use Rattle.ft_claims.specs.laws.PointLaws.{cover_obliged}
use Rattle.ft_claims.specs.meaning.Shown.{AreReadMemories}
use Rattle.ft_claims.specs.meaning.Coverage.{Fault, gap, overlap, range}
use Rattle.ft_oblige.specs.meaning.Obligations.{Closes, IsSubject, Subject, about_fact, about_table, of_fact, of_table, subjects}
use Rattle.ft_cover.specs.meaning.Covered.{AreFirstTwo, IsCover, IsFirstBeyond, IsShownAt, IsSpentAt, NoCell}
use Rattle.ft_cover.specs.declared.answer.Cover.TheVariants as cover
use Rattle.ft_compose.specs.declared.blocks.Blocks.TheVariants as blocks
use Rattle.ft_compose.specs.declared.blocks.Cells.{Cells}
use Rattle.ft_compose.specs.meaning.Decided.{AllClose, IsBlocks}
use Rattle.ft_cert.specs.meaning.Tree as cert
use Rattle.ft_unroll.specs.meaning.Found.{HasAllowed, IsListSpent, IsRefuteSpent, IsStop}
use Rattle.ft_cli.specs.meaning.Completeness.{DecidesWithEnough, HasDifference, HasEnoughSplits, IsSpentShort, IsVerdictOn}
use Rattle.ft_cli.specs.meaning.Completeness.{RefutesDifferent, VerifiesClosed}
use Rattle.ft_cli.specs.meaning.Judgement.{IsJudgement, IsRefused, IsRefuted, IsShort}
use Rattle.ft_cli.specs.stages.Laws.{Laws}
use Rattle.ft_cli.proofs.DifferenceLemmas.{refines-none}
use Rattle.ft_cli.proofs.ReplayedLemmas.{front-allowed}
use Rattle.ft_cli.proofs.TopLemmas.{gap-shown, overlap-shown, range-shown, shows-no-fault, spent-at}
use Rattle.ft_report.specs.declared.short.Short.{Short}
use Rattle.ft_report.specs.declared.short.Short.TheVariants as short
use Rattle.ft_report.specs.declared.short.Subject.TheVariants.{NatList, Obligation}
use Rattle.ft_report.specs.declared.report.Report.{Report}
use Rattle.ft_report.specs.declared.report.Report.TheVariants as report

abbrev table_of : Subject → ℕ
table_of (about_table k fault) = k
table_of (about_fact b f anew) = 0

abbrev is_fact : Subject → Bool
is_fact (about_table k fault) = false
is_fact (about_fact b f anew) = true

-- the environment allows a list of each length that is tried, where it allows one of `depth` scans
shorter-allowed : Laws → (S : Tables) (n : ℕ) → 1 ≤ n → n ≤ S.depth → HasAllowed S S.depth → HasAllowed S n
shorter-allowed laws S n some within lists =
    let (h, long, allowed) = lists in
    let count : length (take n h) ≡ n = length-take-le n h (omega (arith, long, within)) in (
      take n h,
      count,
      front-allowed laws.by_scan laws.in_front S (take n h) (drop n h) (omega (arith, count, some))
          (subst (Allowed S) (sym (take-append-drop n h)) allowed),
    )

not-stopped : Laws → (S : Tables) (n : ℕ) → HasAllowed S S.depth → IsStop S n → ⊥
not-stopped laws S n lists stop = stop.none (shorter-allowed laws S n stop.reached.some stop.reached.within lists)

-- where a fact is shown to fail, its obligation has a point
not-failing : Laws → (S : Tables) → AllClose S → (n : ℕ) (cells : Cells) (values : List ℤ) (labels : List Label)
    → IsBlocks S false (blocks.Fails n cells values labels) → ⊥
not-failing laws S close n cells values labels found =
    let (same, numbered, failing) = found.0 in
    laws.failing_open S n cells values labels failing (close n (omega (arith, numbered.0)) numbered.1)

-- no list shows a difference, where no obligation has a point
not-refuted : Laws → (S : Tables) → HasNoBlockFault S.vars S.blocks → AllClose S → AllProper S → (list : Scans) (scan : ℕ)
    → FirstDiffers S list scan → ⊥
not-refuted laws S no_fault close proper list scan differs =
    refines-none S (laws.compose S proper no_fault close).refines list scan differs

-- splits that are enough aren't too few
not-few : (points splits : ℕ) → points ≤ splits → splits < points → ⊥
not-few points splits many few = omega (arith, many, few)

-- a search that used the splits up had too few
not-spent : (S : Tables) → HasEnoughSplits S → (n : ℕ) (tree : cert.Tree) → IsSpentAt S n tree → ⊥
not-spent S enough n tree at =
    not-few _ _ (enough.obligations n at.obliged at.its) at.spent.few

not-list-spent : (S : Tables) → HasEnoughSplits S → (n : ℕ) (tree : cert.Tree) → IsListSpent S n tree → ⊥
not-list-spent S enough n tree at =
    not-few _ _ (enough.lists n at.reached.some at.reached.within) at.spent.few

not-refute-spent : (S : Tables) → HasEnoughSplits S → (n : ℕ) (tree : cert.Tree) → IsRefuteSpent S n tree → ⊥
not-refute-spent S enough n tree at =
    not-few _ _ (enough.differences n at.some at.within) at.spent.few

short-searched : (S : Tables) → HasEnoughSplits S → (known : Short) → IsShort S known → IsSpentShort known → ⊥
short-searched S enough (short.Safe n) known spent = spent
short-searched S enough (short.SpentAt n tree) known spent = not-refute-spent S enough n tree known

-- on which a difference is known, short lists are searched in vain alone
short-refuted : (S : Tables) → HasDifference S → (known : Short) → IsShort S known → IsSpentShort known
short-refuted S difference (short.Safe n) known = known.1 difference.list difference.scan difference.short difference.differs
short-refuted S difference (short.SpentAt n tree) known = tt

module _ (laws : Laws) (S : Tables) where
  -- where a table shows a fault, the obligation with this number has a point
  not-shown : (n k : ℕ) (fault : Fault) (Named : Grid → View → Type 0) (values : List ℤ) (labels : List Label)
      → IsSubject S n (about_table k fault) → IsShownAt S n k fault Named values labels → Closes S n → ⊥
  not-shown n k fault Named values labels subject at closes =
      let (V, local, kept) = at.some in
      elim at.its [
        | of_table l table other ms its_subject its_table memories is ↦
            let same : l ≡ k =
            ap table_of (one-at (subjects S) (n - 1) (about_table l other) (about_table k fault) its_subject.at subject.at) in
            let here : table ≡ at.table =
            one-at S.tables k table at.table (subst (λ m. slice_get S.tables m ≡ Some table) same its_table) at.its_table in
            let read = subst (λ (t : Table). AreReadMemories S (grid_reads t.grid) ms) here memories in
            let (p, point) = laws.has_point S k at.table at.its_table ms read fault V local (at.each V kept).0 in
            closes (cover_obliged S fault at.table.grid ms) (of_table k at.table fault ms subject at.its_table read refl) p point
        | of_fact b f block fact anew marks its_subject its_fact marked is ↦
            absurd (true≢false
            (ap is_fact (one-at (subjects S) (n - 1) (about_fact b f anew) (about_table k fault) its_subject.at subject.at)))
      ]

  module _ (close : AllClose S) where
    close-table : (k : ℕ) (table : Table) → slice_get S.tables k ≡ Some table → (n : ℕ) → 0 < n → n ≤ 3 * k + 3 → Closes S n
    close-table k table at n some within =
        let less = slice_get_within S.tables k table at in
        close n some (omega (arith, less, within))

    no-gap : (k : ℕ) (values : List ℤ) (labels : List Label) → IsCover S false (cover.Gap k values labels) → ⊥
    no-gap k values labels covered =
        let at = gap-shown S k values labels covered in
        not-shown (3 * k + 1) k gap NoCell values labels (laws.tables_have S k at.table at.its_table).0 at
        (close-table k at.table at.its_table (3 * k + 1) (omega arith) (omega arith))

    no-overlap : (k : ℕ) (first second : ℕ × ℕ) (values : List ℤ) (labels : List Label)
        → IsCover S false (cover.Overlap k first second values labels) → ⊥
    no-overlap k first second values labels covered =
        let at = overlap-shown S k first second values labels covered in
        not-shown (3 * k + 2) k overlap (AreFirstTwo first second) values labels (laws.tables_have S k at.table at.its_table).1 at
        (close-table k at.table at.its_table (3 * k + 2) (omega arith) (omega arith))

    no-outside : (k : ℕ) (cell : ℕ × ℕ) (values : List ℤ) (labels : List Label)
        → IsCover S false (cover.OutOfRange k cell values labels) → ⊥
    no-outside k cell values labels covered =
        let at = range-shown S k cell values labels covered in
        not-shown (3 * k + 3) k range (IsFirstBeyond S cell) values labels (laws.tables_have S k at.table at.its_table).2 at
        (close-table k at.table at.its_table (3 * k + 3) (omega arith) (omega arith))

module _ (laws : Laws) (bytes : List ℕ) (S : Tables) (spelled : IsSetOfText bytes S) (no_fault : HasNoBlockFault S.vars S.blocks) where
  -- the bytes spell one set
  the-set : (T : Tables) → IsSetOfText bytes T → T ≡ S
  the-set T other = laws.one_set bytes T S other spelled

  -- and they have no fault
  not-refused : (fault : SetFault) → IsRefused bytes fault → ⊥
  not-refused fault means = means.none spelled.tree spelled.spelled spelled.no_fault
      (subst (λ (parts : Parts). HasNoBlockFault parts.vars parts.blocks) spelled.same no_fault)

  pub complete : (r : Report) → IsJudgement bytes r → IsVerdictOn S r
  complete report.Usage means = absurd means
  complete report.ReadFault means = absurd means
  complete (report.TooLong which) means = absurd means
  complete report.NoMemory means = tt
  complete (report.Refused fault) means = not-refused fault means
  complete (report.Printed tree) means = absurd means
  complete (report.Gap T k state) means = the-set T means.0
  complete (report.Overlap T k first second state) means = the-set T means.0
  complete (report.OutOfRange T k cell state) means = the-set T means.0
  complete (report.NatStops n) means =
      let (T, stopped) = means in
      subst (λ (U : Tables). IsStop U n) (the-set T stopped.spelled) stopped.stop
  complete (report.Fails T n req out state known) means = the-set T means.tried.spelled
  complete (report.Spent T (Obligation n) tree None) means = the-set T means.0
  complete (report.Spent T (Obligation n) tree (Some known)) means = the-set T means.tried.spelled
  complete (report.Spent T (NatList n) tree None) means = the-set T means.spelled
  complete (report.Spent T (NatList n) tree (Some known)) means = absurd means
  complete (report.Verified T list) means = the-set T means.spelled
  complete (report.Refuted T list scan) means = the-set T means.tried.spelled
  complete (report.Demo n T list) means = absurd means
  complete (report.Agree scans) means = absurd means
  complete (report.Differ scan) means = absurd means
  complete (report.TraceRefused fault) means = absurd means
  complete (report.NatRefuses scan) means = absurd means

  pub verifies : (r : Report) → IsJudgement bytes r → VerifiesClosed S r
  verifies report.Usage means close lists = absurd means
  verifies report.ReadFault means close lists = absurd means
  verifies (report.TooLong which) means close lists = absurd means
  verifies report.NoMemory means close lists = tt
  verifies (report.Refused fault) means close lists = not-refused fault means
  verifies (report.Printed tree) means close lists = absurd means
  verifies (report.Gap T k state) means close lists =
      no-gap laws T (subst AllClose (sym (the-set T means.0)) close) k state.values state.labels means.1
  verifies (report.Overlap T k first second state) means close lists =
      no-overlap laws T (subst AllClose (sym (the-set T means.0)) close) k first second state.values state.labels means.1
  verifies (report.OutOfRange T k cell state) means close lists =
      no-outside laws T (subst AllClose (sym (the-set T means.0)) close) k cell state.values state.labels means.1
  verifies (report.NatStops n) means close lists = not-stopped laws S n lists (complete (report.NatStops n) means)
  verifies (report.Fails T n req out state known) means close lists =
      not-failing laws T (subst AllClose (sym (the-set T means.tried.spelled)) close) n (record { req = req; out = out }) state.values
      state.labels means.found
  verifies (report.Spent T (Obligation n) tree None) means close lists = tt
  verifies (report.Spent T (Obligation n) tree (Some known)) means close lists = tt
  verifies (report.Spent T (NatList n) tree None) means close lists = tt
  verifies (report.Spent T (NatList n) tree (Some known)) means close lists = tt
  verifies (report.Verified T list) means close lists = tt
  verifies (report.Refuted T list scan) means close lists =
      let here = subst (λ (U : Tables). IsRefuted bytes U list scan) (the-set T means.tried.spelled) means in
      not-refuted laws S no_fault close here.tried.proper list scan here.shortest.differs
  verifies (report.Demo n T list) means close lists = absurd means
  verifies (report.Agree scans) means close lists = absurd means
  verifies (report.Differ scan) means close lists = absurd means
  verifies (report.TraceRefused fault) means close lists = absurd means
  verifies (report.NatRefuses scan) means close lists = absurd means

  pub refutes : (r : Report) → IsJudgement bytes r → RefutesDifferent S r
  refutes report.Usage means difference = absurd means
  refutes report.ReadFault means difference = absurd means
  refutes (report.TooLong which) means difference = absurd means
  refutes report.NoMemory means difference = tt
  refutes (report.Refused fault) means difference = not-refused fault means
  refutes (report.Printed tree) means difference = absurd means
  refutes (report.Gap T k state) means difference =
      shows-no-fault laws.shows_none laws.one_set bytes S spelled difference.proper T means.0 (3 * k + 1) k gap NoCell
      state.values state.labels (gap-shown T k state.values state.labels means.1)
  refutes (report.Overlap T k first second state) means difference =
      shows-no-fault laws.shows_none laws.one_set bytes S spelled difference.proper T means.0 (3 * k + 2) k overlap
      (AreFirstTwo first second) state.values state.labels (overlap-shown T k first second state.values state.labels means.1)
  refutes (report.OutOfRange T k cell state) means difference =
      shows-no-fault laws.shows_none laws.one_set bytes S spelled difference.proper T means.0 (3 * k + 3) k range (IsFirstBeyond T cell)
      state.values state.labels (range-shown T k cell state.values state.labels means.1)
  refutes (report.NatStops n) means difference = not-stopped laws S n difference.lists (complete (report.NatStops n) means)
  refutes (report.Fails T n req out state known) means difference =
      short-refuted T (subst HasDifference (sym (the-set T means.tried.spelled)) difference) known means.short
  refutes (report.Spent T (Obligation n) tree None) means difference = tt
  refutes (report.Spent T (Obligation n) tree (Some known)) means difference =
      short-refuted T (subst HasDifference (sym (the-set T means.tried.spelled)) difference) known means.short
  refutes (report.Spent T (NatList n) tree None) means difference = tt
  refutes (report.Spent T (NatList n) tree (Some known)) means difference = absurd means
  refutes (report.Verified T list) means difference =
      refines-none T means.refines difference.list difference.scan
      (subst (λ (U : Tables). FirstDiffers U difference.list difference.scan) (sym (the-set T means.spelled)) difference.differs)
  refutes (report.Refuted T list scan) means difference = tt
  refutes (report.Demo n T list) means difference = absurd means
  refutes (report.Agree scans) means difference = absurd means
  refutes (report.Differ scan) means difference = absurd means
  refutes (report.TraceRefused fault) means difference = absurd means
  refutes (report.NatRefuses scan) means difference = absurd means

  pub decides : (r : Report) → IsJudgement bytes r → DecidesWithEnough S r
  decides report.Usage means enough = tt
  decides report.ReadFault means enough = tt
  decides (report.TooLong which) means enough = tt
  decides report.NoMemory means enough = tt
  decides (report.Refused fault) means enough = tt
  decides (report.Printed tree) means enough = tt
  decides (report.Gap T k state) means enough = tt
  decides (report.Overlap T k first second state) means enough = tt
  decides (report.OutOfRange T k cell state) means enough = tt
  decides (report.NatStops n) means enough = tt
  decides (report.Fails T n req out state known) means enough =
      short-searched T (subst HasEnoughSplits (sym (the-set T means.tried.spelled)) enough) known means.short
  decides (report.Spent T (Obligation n) tree None) means enough =
      not-spent T (subst HasEnoughSplits (sym (the-set T means.0)) enough) n tree (spent-at T n tree means.1)
  decides (report.Spent T (Obligation n) tree (Some known)) means enough =
      not-spent T (subst HasEnoughSplits (sym (the-set T means.tried.spelled)) enough) n tree means.found.0.2
  decides (report.Spent T (NatList n) tree None) means enough =
      not-list-spent T (subst HasEnoughSplits (sym (the-set T means.spelled)) enough) n tree means.spent
  decides (report.Spent T (NatList n) tree (Some known)) means enough = absurd means
  decides (report.Verified T list) means enough = tt
  decides (report.Refuted T list scan) means enough = tt
  decides (report.Demo n T list) means enough = tt
  decides (report.Agree scans) means enough = tt
  decides (report.Differ scan) means enough = tt
  decides (report.TraceRefused fault) means enough = tt
  decides (report.NatRefuses scan) means enough = tt
