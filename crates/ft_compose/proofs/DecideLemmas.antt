-- Obligations of facts that are closed or spent, one after another.
use Rattle.std.proofs.Common.{◌≡◌, ◌∙◌, sym, ap, subst, refl, ℕ, zero, suc, ◌+◌, ◌-◌, ◌*◌, ◌<◌, ◌≤◌, ℤ, Bool, true, false, cond, List}
use Rattle.std.proofs.Common.{[], ◌∷◌, ◌++◌, length, Some, None, slice_get, arith, ⊎_elim, true≢false}
use Rattle.std.proofs.lemmas.Bool.{cases_lt}
use Rattle.std.proofs.lemmas.List.{length_push}
use Rattle.std.proofs.lemmas.Option.{none-some}
use Rattle.ft_core.specs.declared.tables.Tables.{Tables}
use Rattle.ft_core.specs.declared.tables.Table.{Table}
use Rattle.ft_core.specs.meaning.Kinds.{controlled}
use Rattle.ft_core.specs.meaning.Order.{IsOrder}
use Rattle.ft_core.specs.laws.Places.{of-push, one-at, some-at}
use Rattle.ft_blocks.specs.meaning.Cycles.{block_reads}
use Rattle.ft_blocks.specs.meaning.Goals as blocks
use Rattle.ft_linear.specs.meaning.Form.{InArea, values_at}
use Rattle.ft_linear.specs.meaning.Formula.{FormulaView, truth_at}
use Rattle.ft_settle.specs.meaning.Settled.{settled}
use Rattle.ft_cert.specs.meaning.Evidence.{Holds}
use Rattle.ft_cert.specs.meaning.Parts.{whole_of}
use Rattle.ft_cert.specs.meaning.Tree.{Tree}
use Rattle.ft_mean.specs.meaning.Proper.{AllProper}
use Rattle.ft_claims.specs.meaning.Areas.{Obliged}
use Rattle.ft_claims.specs.meaning.Coverage.{Fault, gap, overlap, range}
use Rattle.ft_claims.specs.meaning.Points.{IsPointOf}
use Rattle.ft_oblige.specs.declared.made.Obligation.{Obligation}
use Rattle.ft_oblige.specs.meaning.Blocks.{block_parts}
use Rattle.ft_oblige.specs.meaning.Obligations.{Subject, about_table, about_fact, subjects, IsSubject, IsObligation, of_table, of_fact}
use Rattle.ft_oblige.specs.meaning.Obligations.{Closes, Before, block_obliged, obligation_count}
use Rattle.ft_oblige.specs.meaning.States.{slot_spans}
use Rattle.ft_oblige.specs.meaning.Tried.{IsClosedBy, IsPointIn, IsSpentIn}
use Rattle.ft_cover.specs.building.Numbering.{number_of}
use Rattle.ft_cover.specs.meaning.Attempted.{IsClosedAt}
use Rattle.ft_cover.specs.meaning.Covered.{IsCertOf, IsSpentAt}
use Rattle.ft_compose.specs.building.Deciding.{IsFormed, AreFactsClosed}
use Rattle.ft_compose.specs.declared.blocks.Blocks.{Blocks}
use Rattle.ft_compose.specs.declared.blocks.Blocks.TheVariants.{AllShown, Fails, Spent}
use Rattle.ft_compose.specs.laws.DecidingLaws.{DecidingLaws}
use Rattle.ft_compose.specs.meaning.Composing.{IsBlockRank, HasGoals}
use Rattle.ft_compose.specs.meaning.Decided.{AreFactCerts, IsStop, IsBlocks}
use Rattle.ft_compose.proofs.BlockLemmas.{of_blocks}
use Rattle.ft_compose.proofs.Numbered.{closed_compose}

module _ (laws : DecidingLaws) (S : Tables) (n b f : ℕ) (anew : Bool) (subject : IsSubject S n (about_fact b f anew)) (o : Obligation)
    (names : List ℕ) (formed : IsFormed S b f anew o names) where
  abbrev pub obliged_of : Obliged
  obliged_of = block_obliged S anew formed.form.block formed.form.fact formed.form.marks

  pub its_obligation : IsObligation S n obliged_of
  its_obligation = of_fact b f formed.form.block formed.form.fact anew formed.form.marks subject formed.form.its formed.form.belong refl

  -- a point of the formula that was made is one of the obligation
  pub is_point : (p : List ℤ) → IsPointIn o.formula o.area.spans p → IsPointOf obliged_of p
  is_point p point = record {
    in_area = subst (λ spans. InArea spans (values_at p)) formed.form.form.area point.in_area;
    satisfies = sym (laws.settled (slot_spans S) (block_parts S anew formed.form.block formed.form.fact formed.form.marks) (values_at p))
        ∙ sym (ap (λ f. truth_at f (values_at p)) formed.form.form.formula) ∙ point.satisfies;
  }

  -- an obligation that a search has closed
  pub closed_at : (cert : Tree) → IsClosedBy o.formula o.area.spans cert → IsClosedAt S n cert
  closed_at cert closed = record {
    obliged = obliged_of;
    there = its_obligation;
    closes = λ other have p point.
        let mine = subst (λ (x : Obliged). IsPointOf x p) (laws.one_obligation S n other obliged_of have its_obligation) point in
        closed.none (values_at p)
        (subst (λ spans. InArea spans (values_at p)) (sym formed.form.form.area) mine.in_area)
        (ap (λ f. truth_at f (values_at p)) formed.form.form.formula
        ∙ laws.settled (slot_spans S) (block_parts S anew formed.form.block formed.form.fact formed.form.marks) (values_at p)
        ∙ mine.satisfies);
    its = λ other have. subst (λ (x : Obliged). Holds (settled x.formula) (whole_of (settled x.formula) x.spans) cert)
        (laws.one_obligation S n obliged_of other its_obligation have)
        (subst (λ (f : FormulaView). Holds f (whole_of f obliged_of.spans) cert) formed.form.form.formula
        (subst (λ (spans : List (ℤ × ℤ)). Holds o.formula (whole_of o.formula spans) cert) formed.form.form.area closed.holds));
  }

  -- and one with whose search the splits were used up
  pub spent_at : (tree : Tree) → IsSpentIn o.formula o.area.spans S.splits tree → IsSpentAt S n tree
  spent_at tree spent = record {
    obliged = obliged_of;
    its = its_obligation;
    spent = subst (λ (f : FormulaView). IsSpentIn f obliged_of.spans S.splits tree) formed.form.form.formula
        (subst (λ (spans : List (ℤ × ℤ)). IsSpentIn o.formula spans S.splits tree) formed.form.form.area spent);
  }

pub none_closed : (S : Tables) (keep : Bool) (n : ℕ) (certs : List Tree) → n ≡ 3 * length S.tables → certs ≡ []
    → AreFactsClosed S keep n certs
none_closed S true n certs start is = record {
  each = λ k low high. absurd (omega (arith, start, low, high));
  kept = (
    (let none : length certs ≡ 0 = ap length is in omega (arith, none, start)),
    λ i cert at. absurd (none-some cert (sym (ap (λ l. slice_get l i) is) ∙ at)),
  );
}
none_closed S false n certs start is = record { each = λ k low high. absurd (omega (arith, start, low, high)); kept = is }

one-more : {P : ℕ → Type 0} (low n : ℕ) → ((k : ℕ) → low < k → k ≤ n → P k) → P (n + 1) → (k : ℕ) → low < k → k ≤ n + 1 → P k
one-more {P = P} low n h here k above below = ⊎_elim (λ less. h k above (omega (arith, less)))
    (λ past. let e : n + 1 ≡ k = omega (arith, below, past) in subst P e here) (cases_lt k (n + 1))

pub more_closed : (S : Tables) (keep : Bool) (n : ℕ) (old new : List Tree) (cert : Tree) → AreFactsClosed S keep n old
    → IsClosedAt S (n + 1) cert → new ≡ cond keep (old ++ cert ∷ []) old → AreFactsClosed S keep (n + 1) new
more_closed S true n old new cert before closed made = record {
  each = one-more (3 * length S.tables) n before.each (cert, closed);
  kept = (
    (let long = ap length made ∙ length_push old cert in let had = before.kept.0 in omega (arith, long, had)),
    λ i c at. ⊎_elim
        (λ in_old. before.kept.1 i c in_old)
        (λ last.
        let had = before.kept.0 in
        let e : n + 1 ≡ 3 * length S.tables + (i + 1) = omega (arith, last.0, had) in
        subst (λ m. IsCertOf S m c) e (subst (IsCertOf S (n + 1)) last.1 closed.its))
        (of-push old cert i c (sym (ap (λ l. slice_get l i) made) ∙ at)),
  );
}
more_closed S false n old new cert before closed made = record {
  each = one-more (3 * length S.tables) n before.each (cert, closed);
  kept = made ∙ before.kept;
}

-- whether an obligation is about a table
abbrev is_table : Subject → Bool
is_table (about_table k fault) = true
is_table (about_fact b f anew) = false

-- a number from 1 is that of a table and a fault
numbered_as : (k : ℕ) → (j : ℕ) × (fault : Fault) × (suc k ≡ number_of j fault)
numbered_as zero = (0, gap, refl)
numbered_as (suc zero) = (0, overlap, refl)
numbered_as (suc (suc zero)) = (0, range, refl)
numbered_as (suc (suc (suc k))) = let less = numbered_as k in (suc less.0, less.1, on less.0 less.1 less.2)
  where
    on : (j : ℕ) (fault : Fault) → suc k ≡ number_of j fault → suc (suc (suc (suc k))) ≡ number_of (suc j) fault
    on j gap e = omega (arith, e)
    on j overlap e = omega (arith, e)
    on j range e = omega (arith, e)

table_within : (j k many : ℕ) (fault : Fault) → suc k ≡ number_of j fault → suc k ≤ 3 * many → j < many
table_within j k many gap e l = omega (arith, e, l)
table_within j k many overlap e l = omega (arith, e, l)
table_within j k many range e l = omega (arith, e, l)

module _ (laws : DecidingLaws) (S : Tables) (proper : AllProper S) where
  table_numbered : (j : ℕ) (table : Table) → slice_get S.tables j ≡ Some table → (fault : Fault)
      → IsSubject S (number_of j fault) (about_table j fault)
  table_numbered j table there gap = (laws.tables_have S j table there).0
  table_numbered j table there overlap = (laws.tables_have S j table there).1
  table_numbered j table there range = (laws.tables_have S j table there).2

  -- the obligations of a proper table close
  table_closes : (n j : ℕ) (fault : Fault) (table : Table) → slice_get S.tables j ≡ Some table → n ≡ number_of j fault → Closes S n
  table_closes n j fault table there is o (of_table k other f ms subject at are made) p point =
      (laws.proper S k other at ms are).0 (proper k other at) f p (subst (λ (x : Obliged). IsPointOf x p) made point)
  table_closes n j fault table there is o (of_fact b f block fact anew marks subject at are made) p point =
      absurd (true≢false (sym (ap is_table (one-at (subjects S) (n - 1) (about_fact b f anew) (about_table j fault) subject.at
      (subst (λ m. IsSubject S m (about_table j fault)) (sym is) (table_numbered j table there fault)).at))))

  tables_close : (n : ℕ) → 0 < n → n ≤ 3 * length S.tables → Closes S n
  tables_close zero low high = absurd (omega (arith, low))
  tables_close (suc k) low high =
      let fits = numbered_as k in
      let table = some-at S.tables fits.0 (table_within fits.0 k (length S.tables) fits.1 fits.2 high) in
      table_closes (suc k) fits.0 fits.1 table.0 table.1 fits.2

  pub before_closed : (keep : Bool) (n : ℕ) (certs : List Tree) → AreFactsClosed S keep n certs → Before S (n + 1)
  before_closed keep n certs closed k some below = ⊎_elim
      (λ of_table. tables_close k some (omega (arith, of_table)))
      (λ past. (closed.each k (omega (arith, past)) (omega (arith, below))).1.closes)
      (cases_lt k (3 * length S.tables + 1))

  -- what the first obligation that isn't closed shows
  pub stopped : (keep : Bool) (n : ℕ) (certs : List Tree) (found : Blocks) → AreFactsClosed S keep n certs → IsStop S (n + 1) found
      → IsBlocks S keep found
  stopped keep n certs (AllShown c) closed is = absurd is
  stopped keep n certs (Fails number cells values labels) closed is =
      ((refl, is.1, is.2), subst (Before S) is.0 (before_closed keep n certs closed))
  stopped keep n certs (Spent number tree) closed is = ((refl, is.1, is.2), subst (Before S) is.0 (before_closed keep n certs closed))

-- the rank of blocks, from their order
block_rank : DecidingLaws → (S : Tables) (order : List ℕ) → IsOrder (block_reads S.blocks) order → (rank : ℕ → ℕ) × IsBlockRank S rank
block_rank laws S order is = let ranked = laws.ranked (block_reads S.blocks) order is in (ranked.0, of_blocks S ranked.0 ranked.1)

-- each controlled variable is a goal
has_goals : (S : Tables) → blocks.HasGoals S.vars S.blocks → HasGoals S
has_goals S goals x v is =
    let found = goals.some x (ap (λ o. elim o as (λ z. Bool) [ None ↦ false | Some w ↦ controlled x w ]) is.0 ∙ is.1) in
    (found.0, found.1, found.2.0, record { in_set = found.2.1; in_block = found.2.2 })

-- when all are closed the facts come together
pub ended : (laws : DecidingLaws) (S : Tables) (keep : Bool) (n : ℕ) (certs : List Tree) (order : List ℕ) → AllProper S
    → blocks.HasGoals S.vars S.blocks → IsOrder (block_reads S.blocks) order → n ≤ obligation_count S → obligation_count S ≤ n
    → AreFactsClosed S keep n certs → IsBlocks S keep (AllShown certs)
ended laws S keep n certs order proper goals ordered low high closed =
    let all : (k : ℕ) → 3 * length S.tables < k → k ≤ obligation_count S → Closes S k =
    λ k above below. (closed.each k above (omega (arith, below, high))).1.closes in
    let rank = block_rank laws S order ordered in (
      (λ k some below. before_closed laws S proper keep n certs closed k some (omega (arith, below, high))),
      closed_compose laws.all S proper (has_goals S goals) rank.0 rank.1 all,
      subst (λ m. AreFactCerts S keep m certs) (omega (arith, low, high)) closed.kept,
    )
