-- One item of a scan: where what it reads is told as the trace has it, its value or truth is the trace's.
use Rattle.std.proofs.Common.{◌≡◌, ◌∙◌, sym, ap, subst, ℕ, suc, ◌+◌, ◌-◌, ◌<◌, ◌≤◌, ℤ, Bool, List, [], ◌∷◌, length, slice_get, Some, arith}
use Rattle.std.specs.Prelude.{IsTrue}
use Rattle.std.specs.List.{flat_map}
use Rattle.ft_base.specs.Interval.{IsWithin}
use Rattle.ft_core.specs.declared.tables.Tables.{Tables}
use Rattle.ft_core.specs.declared.tables.Var.{Var}
use Rattle.ft_core.specs.declared.tables.Side.{Side}
use Rattle.ft_core.specs.declared.tables.Memory.TheVariants.{Held, Hyst}
use Rattle.ft_core.specs.declared.term.Term.{Term}
use Rattle.ft_core.specs.declared.term.Cond.{Cond}
use Rattle.ft_core.specs.meaning.Kinds.{defined_kinds, section_of}
use Rattle.ft_core.specs.meaning.Grids.{cells_for}
use Rattle.ft_core.specs.meaning.Reads.{cell_reads}
use Rattle.ft_mean.specs.meaning.Cells.{defined, Follows}
use Rattle.ft_mean.specs.meaning.Memory.{look, memory_at, at_scan, remembered}
use Rattle.ft_mean.specs.meaning.Past.{held, hyst}
use Rattle.ft_mean.specs.meaning.Proper.{AllProper}
use Rattle.ft_mean.specs.meaning.Reading.{Reading, IsVar, begun, since}
use Rattle.ft_mean.specs.meaning.Value.{View, truth, value}
use Rattle.ft_mean.specs.laws.EvaluationLaws.{AllSame}
use Rattle.ft_mean.specs.laws.TableLaws.{TableOf, OneValue}
use Rattle.ft_memo.specs.Timer.{held_after, truth_at, ago}
use Rattle.ft_memo.specs.Band.{hyst_after, number_at}
use Rattle.ft_scan.specs.laws.Laws.{Laws}
use Rattle.ft_scan.proofs.SinceLemmas.{held_moved, ago_moved, hyst_moved}

module _ (L : Laws) (S : Tables) (proper : AllProper S) (s : Side) (a : Reading) (n : ℕ)
    (range : (j x : ℕ) (v : Var) → j ≤ n → slice_get S.vars x ≡ Some v → IsWithin v.range (a j x))
    (follows : Follows S (section_of s) (look S a n) (a n)) (F : View) where
  module _ (x : ℕ) (v : Var) (is : IsVar S (defined_kinds (section_of s)) x v)
      (same : (o : TableOf S (section_of s) x) → AllSame F (look S a n) (flat_map cell_reads (cells_for x o.table.grid))) where
    alike : (z : ℤ) → defined S (section_of s) F x z ≡ defined S (section_of s) (look S a n) x z
    alike z = let o = L.has_table S (section_of s) x v is in L.same_defined S (section_of s) F (look S a n) x z
        (subst (λ cs. AllSame F (look S a n) (flat_map cell_reads cs)) (sym o.cells_are) (same o))

    one : OneValue S (section_of s) (look S a n) x v.range
    one = L.one_value S proper (section_of s) (look S a n) x v is (λ k table there own. L.local S a n range _)

    -- some cell for it holds, and what a cell that holds gives is its value in the trace
    pub has_value : (z : ℤ) × IsTrue (defined S (section_of s) F x z)
    has_value = (a n x, alike (a n x) ∙ follows x v is)

    pub is_value : (z : ℤ) → IsTrue (defined S (section_of s) F x z) → z ≡ a n x
    is_value z found = one.only z (sym (alike z) ∙ found) ∙ sym (one.only (a n x) (follows x v is))

module _ (L : Laws) (S : Tables) (a : Reading) (n m : ℕ) where
  abbrev here : ℕ → View
  here = at_scan S a (memory_at S a)

  -- the last scan that begins
  abbrev from : ℕ
  from = begun S a n

  -- a timer that was told the condition's truths from there on up to this scan is true as the memory is
  pub timer_is : (name : List ℕ) (side : Side) (c : Cond) (hold : ℤ) → slice_get S.memories m ≡ Some (Held name side c hold)
      → (truths : List Bool)
      → length truths ≡ suc n - from → ((j : ℕ) → from ≤ j → j < suc n → truth_at truths (j - from) ≡ truth (here j) c)
      → held_after hold S.period truths ≡ memory_at S a m n
  timer_is name side c hold there truths long told =
      let low = L.begun_low S a n in
      let last : length truths - 1 ≡ n - from = omega (arith, long, low) in
      ap (λ t. held 0 (ago S.period t) hold (truth_at truths) t) last
      ∙ L.same_held 0 (ago S.period (n - from)) hold (truth_at truths) (λ j. truth (here (from + j)) c) (n - from) (λ j l.
      let back : j ≡ (from + j) - from = omega arith in
      ap (truth_at truths) back ∙ told (from + j) (omega arith) (omega (arith, l, low)))
      ∙ held_moved from n low (ago S.period (n - from)) (λ j. since S a j n) ((ago_moved L) S a from n) hold (λ j. truth (here j) c)
      ∙ sym (L.remember S a m n ∙ ap (λ o. remembered S a (memory_at S a) o n) there)

  -- the same of a band and its numbers
  pub band_is : (name : List ℕ) (side : Side) (e : Term) (lo hi : ℤ) (start : Bool) → slice_get S.memories m
      ≡ Some (Hyst name side e lo hi start) → (numbers : List ℤ)
      → length numbers ≡ suc n - from → ((j : ℕ) → from ≤ j → j < suc n → number_at numbers (j - from) ≡ value (here j) e)
      → hyst_after lo hi start numbers ≡ memory_at S a m n
  band_is name side e lo hi start there numbers long told =
      let low = L.begun_low S a n in
      let last : length numbers ≡ suc (n - from) = omega (arith, long, low) in
      some_after lo hi start numbers (n - from) last
      ∙ L.same_hyst 0 lo hi start (number_at numbers) (λ j. value (here (from + j)) e) (n - from) (λ j l.
      let back : j ≡ (from + j) - from = omega arith in
      ap (number_at numbers) back ∙ told (from + j) (omega arith) (omega (arith, l, low)))
      ∙ (hyst_moved L) from n low lo hi start (λ j. value (here j) e)
      ∙ sym (L.remember S a m n ∙ ap (λ o. remembered S a (memory_at S a) o n) there)
    where
      some_after : (lo hi : ℤ) (start : Bool) (xs : List ℤ) (k : ℕ) → length xs ≡ suc k → hyst_after lo hi start xs
          ≡ hyst 0 lo hi start (number_at xs) k
      some_after lo hi start [] k e = absurd (omega (arith, e))
      some_after lo hi start (x ∷ xs) k e = let rest : length xs ≡ k = omega (arith, e) in ap (hyst 0 lo hi start (number_at (x ∷ xs))) rest
