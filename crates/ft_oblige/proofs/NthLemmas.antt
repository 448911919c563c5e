-- The n-th fact of all: what is left of the blocks while it is looked for.
use Rattle.std.proofs.Common.{◌≡◌, ◌∙◌, sym, ap, subst, refl, ℕ, zero, suc, ◌+◌, ◌-◌, ◌*◌, ◌<◌, ◌≤◌, Bool, true, false}
use Rattle.std.proofs.Common.{List, [], ◌∷◌, ◌++◌, length, drop, Some, slice_get, arith}
use Rattle.std.specs.Prelude.{slice_index_or}
use Rattle.std.specs.List.{flat_map, sum_by, range_with_len, enumerate_from}
use Rattle.std.proofs.lemmas.List.{drop_more}
use Rattle.std.proofs.lemmas.List.FromFn.{length-range_with_len}
use Rattle.std.proofs.lemmas.List.Sums.{sum_by-cons}
use Rattle.ft_core.specs.declared.tables.Tables.{Tables}
use Rattle.ft_core.specs.declared.tables.Block.{Block}
use Rattle.ft_core.specs.declared.tables.Table.{Table}
use Rattle.ft_core.specs.laws.Places.{on-left, some-at}
use Rattle.ft_core.specs.meaning.Grids.{numbered}
use Rattle.ft_oblige.specs.meaning.Obligations.{Subject, about_fact, block_subjects, fact_subjects, obligation_count, subjects}
use Rattle.ft_oblige.specs.meaning.Obligations.{table_subjects}
use Rattle.ft_oblige.specs.building.NthFact.{IsHalved, IsNthFact}
use Rattle.ft_oblige.specs.meaning.Facts.{IsFactNumbered}

abbrev facts_of : Block → ℕ
facts_of block = length block.facts

-- the facts of these blocks, of which the first has this place
abbrev facts_from : ℕ → List Block → List Subject
facts_from at blocks = flat_map block_subjects (enumerate_from at blocks)

-- the n-th of all is the one with this number among those of the blocks from a place on
pub record IsLeft (blocks : List Block) (nth at left : ℕ) : Type 0 where
  pub low : left < sum_by facts_of (drop at blocks)
  pub few : sum_by facts_of (drop at blocks) ≤ 400
  pub same : (j : ℕ) → slice_get (facts_from at (drop at blocks)) (2 * left + j) ≡ slice_get (facts_from 0 blocks) (2 * nth + j)

pub left-first : (blocks : List Block) (nth : ℕ) → sum_by facts_of blocks ≤ 400 → nth < sum_by facts_of blocks → IsLeft blocks nth 0 nth
left-first blocks nth few low = record { low = low; few = few; same = λ j. refl }

-- an element behind a list
behind : {X : Type 0} (xs ys : List X) (j : ℕ) → slice_get (xs ++ ys) (length xs + j) ≡ slice_get ys j
behind [] ys j = let e : 0 + j ≡ j = omega arith in ap (slice_get ys) e
behind (x ∷ xs) ys j = let e : suc (length xs) + j ≡ suc (length xs + j) = omega arith in
    ap (slice_get (x ∷ (xs ++ ys))) e ∙ behind xs ys j

two-each : (b : ℕ) (fs : List ℕ) → length (flat_map (fact_subjects b) fs) ≡ 2 * length fs
two-each b [] = refl
two-each b (f ∷ fs) = let more = two-each b fs in omega (arith, more)

block-long : (b : ℕ) (block : Block) → length (block_subjects (b, block)) ≡ 2 * length block.facts
block-long b block = two-each b (range_with_len 0 (length block.facts))
    ∙ ap (λ (n : ℕ). 2 * n) (length-range_with_len 0 (length block.facts))

-- the two of a fact
two-of : (b from n k : ℕ) → k < n → (j : ℕ) (s : Subject) → slice_get (fact_subjects b (from + k)) j ≡ Some s
    → slice_get (flat_map (fact_subjects b) (range_with_len from n)) (2 * k + j) ≡ Some s
two-of b from zero k less j s at = absurd (omega (arith, less))
two-of b from (suc n) zero less j s at =
    let start : from + 0 ≡ from = omega arith in
    let z : 2 * 0 + j ≡ j = omega arith in
    subst (λ (i : ℕ). slice_get (flat_map (fact_subjects b) (range_with_len from (suc n))) i ≡ Some s) (sym z)
    (on-left (fact_subjects b from) (flat_map (fact_subjects b) (range_with_len (from + 1) n)) j s
    (subst (λ (f : ℕ). slice_get (fact_subjects b f) j ≡ Some s) start at))
two-of b from (suc n) (suc k) less j s at =
    let onward : from + suc k ≡ from + 1 + k = omega arith in
    let more = two-of b (from + 1) n k (omega (arith, less)) j s (subst (λ (f : ℕ). slice_get (fact_subjects b f) j ≡ Some s) onward at) in
    let z : 2 * suc k + j ≡ suc (suc (2 * k + j)) = omega arith in
    subst (λ (i : ℕ). slice_get (flat_map (fact_subjects b) (range_with_len from (suc n))) i ≡ Some s) (sym z) more

module _ (blocks : List Block) (nth at left : ℕ) (block : Block) (within : at < length blocks) (is : block ≡ slice_index_or blocks at block)
    (l : IsLeft blocks nth at left) where
  rest : List Block
  rest = drop (at + 1) blocks

  opened : drop at blocks ≡ block ∷ drop (at + 1) blocks
  opened = drop_more blocks at block within ∙ ap (λ (b : Block). b ∷ drop (at + 1) blocks) (sym is)

  sum-opened : sum_by facts_of (drop at blocks) ≡ length block.facts + sum_by facts_of (drop (at + 1) blocks)
  sum-opened = ap (sum_by facts_of) opened ∙ sum_by-cons facts_of block (drop (at + 1) blocks)

  pub facts-few : length block.facts ≤ 400
  facts-few = let few = l.few in let sum = sum-opened in omega (arith, few, sum)

  -- past the facts of a block
  pub left-more : length block.facts ≤ left → IsLeft blocks nth (at + 1) (left - length block.facts)
  left-more past =
      let low = l.low in
      let few = l.few in
      let sum = sum-opened in record {
        low = omega (arith, past, low, sum);
        few = omega (arith, few, sum);
        same = λ j.
            let long = block-long at block in
            let e : 2 * left + j ≡ length (block_subjects (at, block)) + (2 * (left - length block.facts) + j) =
            omega (arith, long, past) in
            sym (behind (block_subjects (at, block)) (facts_from (at + 1) (drop (at + 1) blocks)) (2 * (left - length block.facts) + j))
            ∙ sym (ap (slice_get (facts_from at (block ∷ drop (at + 1) blocks))) e)
            ∙ sym (ap (λ bs. slice_get (facts_from at bs) (2 * left + j)) opened) ∙ l.same j;
      }

  found : left < length block.facts → (j : ℕ) (s : Subject) → slice_get (fact_subjects at (0 + left)) j ≡ Some s
      → slice_get (facts_from 0 blocks) (2 * nth + j) ≡ Some s
  found less j s two =
      sym (l.same j) ∙ ap (λ bs. slice_get (facts_from at bs) (2 * left + j)) opened
      ∙ on-left (block_subjects (at, block)) (facts_from (at + 1) (drop (at + 1) blocks)) (2 * left + j) s
      (two-of at 0 (length block.facts) left less j s two)

  -- one of this block's
  pub left-found : slice_get blocks at ≡ Some block → left < length block.facts → IsNthFact blocks nth at left
  left-found there less =
      let fact = some-at block.facts left less in
      let z : 0 + left ≡ left = omega arith in
      let n : 2 * nth + 0 ≡ 2 * nth = omega arith in record {
        block = block;
        fact = fact.0;
        in_set = there;
        in_block = fact.1;
        first = sym (ap (slice_get (facts_from 0 blocks)) n)
            ∙ found less 0 (about_fact at left true) (λ i. Some (about_fact at (z i) true));
        later = found less 1 (about_fact at left false) (λ i. Some (about_fact at (z i) false));
      }

-- at the end of the blocks nothing is left
pub left-ends : (blocks : List Block) (nth at left : ℕ) → length blocks ≤ at → IsLeft blocks nth at left → ⊥
left-ends blocks nth at left past l =
    let none = drop-past blocks at past in
    let low = subst (λ (bs : List Block). left < sum_by facts_of bs) none l.low in omega (arith, low)
  where
    drop-past : (bs : List Block) (n : ℕ) → length bs ≤ n → drop n bs ≡ []
    drop-past [] zero past = refl
    drop-past [] (suc n) past = refl
    drop-past (b ∷ bs) zero past = absurd (omega (arith, past))
    drop-past (b ∷ bs) (suc n) past = drop-past bs n (omega (arith, past))

three-each : (from : ℕ) (ts : List Table) → length (flat_map table_subjects (enumerate_from from ts)) ≡ 3 * length ts
three-each from [] = refl
three-each from (t ∷ ts) = let more = three-each (from + 1) ts in omega (arith, more)

-- the obligation with a number above those of tables
module _ (S : Tables) (n nth : ℕ) (anew : Bool) (above : 3 * length S.tables < n) where
  pub half-low : n ≤ obligation_count S → IsHalved (n - 1 - 3 * length S.tables) nth anew → nth < sum_by facts_of S.blocks
  half-low below half = low anew half
    where
      low : (b : Bool) → IsHalved (n - 1 - 3 * length S.tables) nth b → nth < sum_by facts_of S.blocks
      low true is = omega (arith, is, above, below)
      low false is = omega (arith, is, above, below)

  pub fact-numbered : (b f : ℕ) → IsHalved (n - 1 - 3 * length S.tables) nth anew → IsNthFact S.blocks nth b f
      → IsFactNumbered S n (record { block = b; fact = f; anew = anew })
  fact-numbered b f half at_nth = record {
    is = record { some = omega (arith, above); at = by-half anew half };
    there = record {
      block = at_nth.block;
      fact = at_nth.fact;
      its = record { in_set = at_nth.in_set; in_block = at_nth.in_block };
    };
  }
    where
      by-half : (e : Bool) → IsHalved (n - 1 - 3 * length S.tables) nth e → slice_get (subjects S) (n - 1) ≡ Some (about_fact b f e)
      by-half true is =
          let long = three-each 0 S.tables in
          let z : n - 1 ≡ length (flat_map table_subjects (numbered S.tables)) + 2 * nth = omega (arith, is, above, long) in
          ap (slice_get (subjects S)) z
          ∙ behind (flat_map table_subjects (numbered S.tables)) (flat_map block_subjects (numbered S.blocks)) (2 * nth) ∙ at_nth.first
      by-half false is =
          let long = three-each 0 S.tables in
          let z : n - 1 ≡ length (flat_map table_subjects (numbered S.tables)) + (2 * nth + 1) = omega (arith, is, above, long) in
          ap (slice_get (subjects S)) z
          ∙ behind (flat_map table_subjects (numbered S.tables)) (flat_map block_subjects (numbered S.blocks)) (2 * nth + 1) ∙ at_nth.later
