-- Obligations that are closed or spent, one after another.
use Rattle.std.proofs.Common.{◌≡◌, ◌∙◌, sym, ap, subst, refl, ℕ, ◌+◌, ◌-◌, ◌*◌, ◌<◌, ◌≤◌, ℤ, Bool, true, false, cond, List}
use Rattle.std.proofs.Common.{[], ◌∷◌, ◌++◌, length, Some, slice_get, arith, ⊎_elim, true≢false}
use Rattle.std.proofs.lemmas.Bool.{cases_lt}
use Rattle.std.proofs.lemmas.List.{length_push}
use Rattle.std.proofs.lemmas.Option.{none-some, slice_get_within}
use Rattle.ft_core.specs.declared.tables.Tables.{Tables}
use Rattle.ft_core.specs.declared.tables.Table.{Table}
use Rattle.ft_core.specs.declared.tables.Grid.{Grid}
use Rattle.ft_core.specs.declared.label.Label.{Label}
use Rattle.ft_core.specs.meaning.Reads.{grid_reads}
use Rattle.ft_core.specs.laws.Places.{of-push, one-at}
use Rattle.ft_linear.specs.meaning.Form.{InArea, values_at}
use Rattle.ft_linear.specs.meaning.Formula.{FormulaView, truth_at}
use Rattle.ft_settle.specs.meaning.Settled.{settled}
use Rattle.ft_cert.specs.meaning.Evidence.{Holds}
use Rattle.ft_cert.specs.meaning.Parts.{whole_of}
use Rattle.ft_cert.specs.meaning.Tree.{Tree}
use Rattle.ft_mean.specs.meaning.Proper.{IsProper, AllProper}
use Rattle.ft_claims.specs.laws.PointLaws.{cover_obliged}
use Rattle.ft_claims.specs.meaning.Areas.{Obliged}
use Rattle.ft_claims.specs.meaning.Coverage.{Fault, gap, overlap, range, cover_parts}
use Rattle.ft_claims.specs.meaning.Points.{IsPointOf}
use Rattle.ft_claims.specs.meaning.Shown.{AreReadMemories}
use Rattle.ft_claims.specs.meaning.Spans.{cover_spans}
use Rattle.ft_mean.specs.meaning.Value.{View}
use Rattle.ft_oblige.specs.declared.nodes.TableFault.{TableFault}
use Rattle.ft_oblige.specs.declared.made.Obligation.{Obligation}
use Rattle.ft_oblige.specs.meaning.Made.{IsCoverage, meant}
use Rattle.ft_oblige.specs.meaning.Obligations.{Subject, about_table, about_fact, subjects, IsSubject, IsObligation, of_table, of_fact}
use Rattle.ft_oblige.specs.meaning.Obligations.{Closes, Before}
use Rattle.ft_oblige.specs.meaning.Tried.{IsClosedBy, IsSpentIn}
use Rattle.ft_cover.specs.building.Numbering.{number_of}
use Rattle.ft_cover.specs.declared.answer.Cover.{Cover}
use Rattle.ft_cover.specs.declared.answer.Cover.TheVariants.{Proper, Gap, Overlap, OutOfRange, Spent}
use Rattle.ft_cover.specs.laws.ClosedLaws.{IsClosed, ClosedTablesAreProper}
use Rattle.ft_cover.specs.laws.Laws.{Laws}
use Rattle.ft_cover.specs.meaning.Attempted.{IsClosedAt, AreClosed}
use Rattle.ft_cover.specs.meaning.Covered.{IsCertOf, AreCerts, IsSpentAt, IsShownAt, IsFound, IsCover, IsFaultless, NoCell}
use Rattle.ft_cover.specs.meaning.Covered.{AreFirstTwo, IsFirstBeyond}
use Rattle.ft_cover.proofs.PointLemmas.{numbered-as, its_number, obliged_of}

-- an obligation that a search has closed
pub closed_at : (laws : Laws) (S : Tables) (k n : ℕ) (fault : TableFault) (o : Obligation) (cov : IsCoverage S k fault o)
    → n ≡ number_of k (meant fault) → (cert : Tree) → IsClosedBy o.formula o.area.spans cert → IsClosedAt S n cert
closed_at laws S k n fault o cov is cert closed = record {
  obliged = obliged_of laws S k fault o cov;
  there = its;
  closes = λ other have p point.
      let mine = subst (λ (x : Obliged). IsPointOf x p) (laws.one_obligation S n other (obliged_of laws S k fault o cov) have its) point in
      closed.none (values_at p)
      (subst (λ spans. InArea spans (values_at p)) (sym cov.form.area) mine.in_area)
      (ap (λ f. truth_at f (values_at p)) cov.form.formula
      ∙ laws.settled (cover_spans S) (cover_parts S (meant fault) cov.table.grid cov.memories) (values_at p) ∙ mine.satisfies);
  its = λ other have. subst (λ (x : Obliged). Holds (settled x.formula) (whole_of (settled x.formula) x.spans) cert)
      (laws.one_obligation S n (obliged_of laws S k fault o cov) other its have)
      (subst (λ (f : FormulaView). Holds f (whole_of f (obliged_of laws S k fault o cov).spans) cert) cov.form.formula
      (subst (λ (spans : List (ℤ × ℤ)). Holds o.formula (whole_of o.formula spans) cert) cov.form.area closed.holds));
}
  where
    its : IsObligation S n (obliged_of laws S k fault o cov)
    its = subst (λ m. IsObligation S m (obliged_of laws S k fault o cov)) (sym is) (its_number laws S k fault o cov)

-- and one with whose search the splits were used up
pub spent_at : (laws : Laws) (S : Tables) (k n : ℕ) (fault : TableFault) (o : Obligation) (cov : IsCoverage S k fault o)
    → n ≡ number_of k (meant fault) → (tree : Tree) → IsSpentIn o.formula o.area.spans S.splits tree
    → IsSpentAt S n tree
spent_at laws S k n fault o cov is tree spent = record {
  obliged = obliged_of laws S k fault o cov;
  its = subst (λ m. IsObligation S m (obliged_of laws S k fault o cov)) (sym is) (its_number laws S k fault o cov);
  spent = subst (λ (f : FormulaView). IsSpentIn f (obliged_of laws S k fault o cov).spans S.splits tree) cov.form.formula
      (subst (λ (spans : List (ℤ × ℤ)). IsSpentIn o.formula spans S.splits tree) cov.form.area spent);
}

pub none_closed : (S : Tables) (keep : Bool) (certs : List Tree) → certs ≡ [] → AreClosed S keep 0 certs
none_closed S true certs is = record {
  each = λ i l. absurd (omega (arith, l));
  kept = (ap length is, λ i cert at. absurd (none-some cert (sym (ap (λ l. slice_get l i) is) ∙ at)));
}
none_closed S false certs is = record { each = λ i l. absurd (omega (arith, l)); kept = is }

one-more : {P : ℕ → Type 0} (n : ℕ) → ((i : ℕ) → i < n → P i) → P n → (i : ℕ) → i < n + 1 → P i
one-more {P = P} n h here i l = ⊎_elim (λ below. h i below)
    (λ past. let e : n ≡ i = omega (arith, l, past) in subst P e here) (cases_lt i n)

pub more_closed : (S : Tables) (keep : Bool) (n : ℕ) (old new : List Tree) (cert : Tree) → AreClosed S keep n old
    → IsClosedAt S (n + 1) cert → new ≡ cond keep (old ++ cert ∷ []) old → AreClosed S keep (n + 1) new
more_closed S true n old new cert before closed made = record {
  each = one-more n before.each (cert, closed);
  kept = (
    (let long = ap length made ∙ length_push old cert in let had = before.kept.0 in omega (arith, long, had)),
    λ i c at. ⊎_elim
        (λ in_old. before.kept.1 i c in_old)
        (λ last.
        let had = before.kept.0 in
        let e : n + 1 ≡ i + 1 = omega (arith, last.0, had) in
        subst (λ m. IsCertOf S m c) e (subst (IsCertOf S (n + 1)) last.1 closed.its))
        (of-push old cert i c (sym (ap (λ l. slice_get l i) made) ∙ at)),
  );
}
more_closed S false n old new cert before closed made = record { each = one-more n before.each (cert, closed); kept = made ∙ before.kept }

pub before_closed : (S : Tables) (keep : Bool) (n : ℕ) (certs : List Tree) → AreClosed S keep n certs → Before S (n + 1)
before_closed S keep n certs closed k some below =
    let i = k - 1 in
    let e : i + 1 ≡ k = omega (arith, some) in
    subst (Closes S) e (closed.each i (omega (arith, some, below))).1.closes

-- which table an obligation is about, if any
abbrev is_table : Subject → Bool
is_table (about_table k fault) = true
is_table (about_fact b f anew) = false

abbrev its_table : Subject → ℕ
its_table (about_table k fault) = k
its_table (about_fact b f anew) = 0

same_subject : (S : Tables) (n : ℕ) (a b : Subject) → IsSubject S n a → IsSubject S n b → a ≡ b
same_subject S n a b p q = one-at (subjects S) (n - 1) a b p.at q.at

-- where all obligations of tables are closed, each table is proper
proper_by : (laws : Laws) (S : Tables) (k : ℕ) (table : Table) → slice_get S.tables k ≡ Some table
    → ((fault : Fault) → Closes S (number_of k fault)) → (o : Obliged) → IsObligation S (number_of k gap) o → IsProper S table
proper_by laws S k table there closes o (of_table j other fault ms subject at are is) =
    let same : j ≡ k = ap its_table (same_subject S (number_of k gap) (about_table j fault) (about_table k gap) subject
    (numbered-as laws S k table there gap)) in
    let one = one-at S.tables k other table (subst (λ i. slice_get S.tables i ≡ Some other) same at) there in
    let reads = subst (λ (t : Table). AreReadMemories S (grid_reads t.grid) ms) one are in
    (laws.proper S k table there ms reads).1 (λ f p point. closes f (cover_obliged S f table.grid ms)
    (of_table k table f ms (numbered-as laws S k table there f) there reads refl) p point)
proper_by laws S k table there closes o (of_fact b f block fact anew marks subject at are is) =
    absurd (true≢false (sym (ap is_table (same_subject S (number_of k gap) (about_fact b f anew) (about_table k gap) subject
    (numbered-as laws S k table there gap)))))

pub tables_proper : (laws : Laws) → ClosedTablesAreProper
tables_proper laws S closed k table there =
    let l = slice_get_within S.tables k table there in
    let first = closed (3 * k + 1) (omega arith) (omega (arith, l)) in
    proper_by laws S k table there (λ fault. closes l fault) first.obliged first.there
  where
    closes : k < length S.tables → (fault : Fault) → Closes S (number_of k fault)
    closes l gap = (closed (3 * k + 1) (omega arith) (omega (arith, l))).closes
    closes l overlap = (closed (3 * k + 2) (omega arith) (omega (arith, l))).closes
    closes l range = (closed (3 * k + 3) (omega arith) (omega (arith, l))).closes

pub all_proper : (laws : Laws) (S : Tables) (keep : Bool) (n : ℕ) (certs : List Tree) → 3 * length S.tables ≤ n → AreClosed S keep n certs
    → AllProper S
all_proper laws S keep n certs all closed = tables_proper laws S (λ m some below.
    let i = m - 1 in
    let e : i + 1 ≡ m = omega (arith, some) in
    let one = (closed.each i (omega (arith, some, below, all))).1 in
    subst (IsClosed S) e (record { obliged = one.obliged; there = one.there; closes = one.closes }))

-- what the first obligation that isn't closed shows
pub stopped : (S : Tables) (keep : Bool) (n : ℕ) (certs : List Tree) (cover : Cover) → AreClosed S keep n certs → IsFound S (n + 1) cover
    → IsCover S keep cover
stopped S keep n certs (Proper c) closed found = absurd found
stopped S keep n certs (Gap k values labels) closed found = (
  subst (λ m. IsFound S m (Gap k values labels)) found.0 found,
  subst (Before S) found.0 (before_closed S keep n certs closed),
)
stopped S keep n certs (Overlap k first second values labels) closed found = (
  subst (λ m. IsFound S m (Overlap k first second values labels)) found.0 found,
  subst (Before S) found.0 (before_closed S keep n certs closed),
)
stopped S keep n certs (OutOfRange k place values labels) closed found = (
  subst (λ m. IsFound S m (OutOfRange k place values labels)) found.0 found,
  subst (Before S) found.0 (before_closed S keep n certs closed),
)
stopped S keep n certs (Spent number tree) closed found = (
  subst (λ m. IsFound S m (Spent number tree)) found.0 found,
  subst (Before S) found.0 (before_closed S keep n certs closed),
)

-- a proper table shows no fault
shows_none : (laws : Laws) (S : Tables) (n k : ℕ) (fault : Fault) (Named : Grid → View → Type 0) (values : List ℤ) (labels : List Label)
    → AllProper S
    → IsShownAt S n k fault Named values labels → ⊥
shows_none laws S n k fault Named values labels proper shown =
    (laws.shows_none S k shown.table shown.its_table).0 (proper k shown.table shown.its_table) fault shown.some.0 shown.some.1
    (shown.each shown.some.0 shown.some.2).0

pub complete : (laws : Laws) (S : Tables) (keep : Bool) (cover : Cover) → AllProper S → IsCover S keep cover → IsFaultless cover
complete laws S keep (Proper certs) proper is = tt
complete laws S keep (Gap k values labels) proper is = shows_none laws S _ k gap NoCell values labels proper is.0.1
complete laws S keep (Overlap k first second values labels) proper is =
    shows_none laws S _ k overlap (AreFirstTwo first second) values labels proper is.0.1
complete laws S keep (OutOfRange k place values labels) proper is =
    shows_none laws S _ k range (IsFirstBeyond S place) values labels proper is.0.1
complete laws S keep (Spent number tree) proper is = tt

-- the table of a number
pub table_there : (k n many : ℕ) (fault : Fault) → n ≡ number_of k fault → n ≤ 3 * many → k < many
table_there k n many gap is last = omega (arith, is, last)
table_there k n many overlap is last = omega (arith, is, last)
table_there k n many range is last = omega (arith, is, last)

-- when all are closed the tables are proper
pub ended : (laws : Laws) (S : Tables) (keep : Bool) (n : ℕ) (certs : List Tree) → n ≤ 3 * length S.tables → 3 * length S.tables ≤ n
    → AreClosed S keep n certs → IsCover S keep (Proper certs)
ended laws S keep n certs low high closed = (
  all_proper laws S keep n certs high closed,
  subst (λ m. AreCerts S keep m certs) (omega (arith, low, high)) closed.kept,
)
