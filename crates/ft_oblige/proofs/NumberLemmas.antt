-- The obligations of tables and facts by their numbers.
use Rattle.std.proofs.Common.{◌≡◌, ◌∙◌, sym, ap, subst, refl, ℕ, zero, suc, ◌+◌, ◌-◌, ◌*◌, ◌<◌, Bool, true, false, List, [], ◌∷◌, ◌++◌}
use Rattle.std.proofs.Common.{length, Some, slice_get, arith}
use Rattle.std.specs.List.{flat_map, sum_by, range_with_len, enumerate_from}
use Rattle.std.proofs.lemmas.List.{length-append}
use Rattle.std.proofs.lemmas.List.Sums.{sum_by-cons}
use Rattle.std.proofs.lemmas.List.FromFn.{length-range_with_len, get_or-range_with_len}
use Rattle.std.proofs.lemmas.Option.{none-some, same_Some, slice_get_within, slice_get-get_or}
use Rattle.ft_core.specs.declared.tables.Tables.{Tables}
use Rattle.ft_core.specs.declared.tables.Table.{Table}
use Rattle.ft_core.specs.declared.tables.Block.{Block}
use Rattle.ft_core.specs.laws.Lists.{in_all}
use Rattle.ft_core.specs.laws.Places.{contained, on-left, place-of}
use Rattle.ft_core.specs.meaning.Grids.{numbered}
use Rattle.ft_claims.specs.meaning.Coverage.{Fault, gap, overlap, range}
use Rattle.ft_oblige.specs.laws.NumberLaws.{SubjectsCounted, TablesHaveNumbers, FactsHaveNumbers}
use Rattle.ft_oblige.specs.meaning.Obligations.{Subject, about_table, about_fact, table_subjects, fact_subjects, block_subjects, subjects}
use Rattle.ft_oblige.specs.meaning.Obligations.{IsSubject}

-- an element of the second of two lists
on-right : {X : Type 0} (xs ys : List X) (j : ℕ) (x : X) → slice_get ys j ≡ Some x → slice_get (xs ++ ys) (length xs + j) ≡ Some x
on-right [] ys j x is = let e : 0 + j ≡ j = omega arith in subst (λ (k : ℕ). slice_get ys k ≡ Some x) (sym e) is
on-right (a ∷ xs) ys j x is = let e : suc (length xs) + j ≡ suc (length xs + j) = omega arith in
    subst (λ (k : ℕ). slice_get (a ∷ (xs ++ ys)) k ≡ Some x) (sym e) (on-right xs ys j x is)

-- each element with its place
number-at : {A : Type 0} (from : ℕ) (xs : List A) (k : ℕ) (x : A) → slice_get xs k ≡ Some x
    → slice_get (enumerate_from from xs) k ≡ Some (from + k, x)
number-at from [] k x e = absurd (none-some x e)
number-at from (y ∷ ys) zero x e = let z : from + 0 ≡ from = omega arith in λ i. Some (sym z i, same_Some y x e i)
number-at from (y ∷ ys) (suc k) x e =
    let z : from + 1 + k ≡ from + suc k = omega arith in
    subst (λ (n : ℕ). slice_get (enumerate_from (from + 1) ys) k ≡ Some (n, x)) z (number-at (from + 1) ys k x e)

range-at : (n k : ℕ) → k < n → slice_get (range_with_len 0 n) k ≡ Some k
range-at n k l =
    let long = length-range_with_len 0 n in
    let here : k < length (range_with_len 0 n) = omega (arith, l, long) in
    let e : 0 + k ≡ k = omega arith in
    slice_get-get_or (range_with_len 0 n) k 0 here ∙ ap Some (get_or-range_with_len 0 n k 0 l ∙ e)

three-each : (from : ℕ) (ts : List Table) → length (flat_map table_subjects (enumerate_from from ts)) ≡ 3 * length ts
three-each from [] = refl
three-each from (t ∷ ts) = let more = three-each (from + 1) ts in omega (arith, more)

two-each : (b : ℕ) (fs : List ℕ) → length (flat_map (fact_subjects b) fs) ≡ 2 * length fs
two-each b [] = refl
two-each b (f ∷ fs) = let more = two-each b fs in omega (arith, more)

block-long : (b : ℕ × Block) → length (block_subjects b) ≡ 2 * length b.1.facts
block-long b = two-each b.0 (range_with_len 0 (length b.1.facts))
    ∙ ap (λ (n : ℕ). 2 * n) (length-range_with_len 0 (length b.1.facts))

blocks-long : (from : ℕ) (bs : List Block) → length (flat_map block_subjects (enumerate_from from bs))
    ≡ 2 * sum_by (λ (block : Block). length block.facts) bs
blocks-long from [] = refl
blocks-long from (b ∷ bs) =
    let facts : Block → ℕ = λ block. length block.facts in
    let rest = flat_map block_subjects (enumerate_from (from + 1) bs) in
    let here = block-long (from, b) in
    let more = blocks-long (from + 1) bs in
    let all : length (block_subjects (from, b)) + length rest ≡ 2 * (facts b + sum_by facts bs) = omega (arith, here, more) in
    length-append (block_subjects (from, b)) rest ∙ all ∙ ap (λ (n : ℕ). 2 * n) (sym (sum_by-cons facts b bs))

two-there : (b f : ℕ) (anew : Bool) → (j : ℕ) × (slice_get (fact_subjects b f) j ≡ Some (about_fact b f anew))
two-there b f true = (0, refl)
two-there b f false = (1, refl)

pub facts_numbered : FactsHaveNumbers
facts_numbered S b f block fact at anew =
    let subject = about_fact b f anew in
    let early = flat_map table_subjects (numbered S.tables) in
    let late = flat_map block_subjects (numbered S.blocks) in
    let two = two-there b f anew in
    let in_block = in_all (fact_subjects b) (range_with_len 0 (length block.facts)) f f subject
    (range-at (length block.facts) f (slice_get_within block.facts f fact at.in_block))
    (contained (fact_subjects b f) two.0 subject two.1) in
    let zero-b : 0 + b ≡ b = omega arith in
    let named : slice_get (numbered S.blocks) b ≡ Some (b, block) =
    subst (λ (n : ℕ). slice_get (numbered S.blocks) b ≡ Some (n, block)) zero-b (number-at 0 S.blocks b block at.in_set) in
    let in_late = place-of late subject (in_all block_subjects (numbered S.blocks) b (b, block) subject named in_block) in
    let there = on-right early late in_late.0 subject in_late.1 in
    let tables_long = three-each 0 S.tables in
    let blocks_long = blocks-long 0 S.blocks in
    let inside = slice_get_within late in_late.0 subject in_late.1 in
    let back : (length early + in_late.0 + 1) - 1 ≡ length early + in_late.0 = omega arith in record {
      n = length early + in_late.0 + 1;
      above = omega (arith, tables_long);
      below = omega (arith, tables_long, blocks_long, inside);
      is = record { some = omega arith; at = subst (λ (k : ℕ). slice_get (subjects S) k ≡ Some subject) (sym back) there };
    }

pub subjects-long : SubjectsCounted
subjects-long S =
    let early = flat_map table_subjects (numbered S.tables) in
    let late = flat_map block_subjects (numbered S.blocks) in
    let both = length-append early late in
    let tables_long = three-each 0 S.tables in
    let late_long = blocks-long 0 S.blocks in
    omega (arith, both, tables_long, late_long)

-- the three of a table, by their places
three-at : (from : ℕ) (ts : List Table) (k : ℕ) (t : Table) → slice_get ts k ≡ Some t → (j : ℕ) (s : Subject)
    → slice_get (table_subjects (from + k, t)) j ≡ Some s
    → slice_get (flat_map table_subjects (enumerate_from from ts)) (3 * k + j) ≡ Some s
three-at from [] k t e j s at = absurd (none-some t e)
three-at from (u ∷ ts) zero t e j s at =
    let start : from + 0 ≡ from = omega arith in
    let here : slice_get (table_subjects (from, u)) j ≡ Some s =
    subst (λ (n : ℕ). slice_get (table_subjects (n, u)) j ≡ Some s) start
    (subst (λ (v : Table). slice_get (table_subjects (from + 0, v)) j ≡ Some s) (sym (same_Some u t e)) at) in
    let z : 3 * 0 + j ≡ j = omega arith in
    subst (λ (n : ℕ). slice_get (flat_map table_subjects (enumerate_from from (u ∷ ts))) n ≡ Some s) (sym z)
    (on-left (table_subjects (from, u)) (flat_map table_subjects (enumerate_from (from + 1) ts)) j s here)
three-at from (u ∷ ts) (suc k) t e j s at =
    let next : from + suc k ≡ from + 1 + k = omega arith in
    let more = three-at (from + 1) ts k t e j s (subst (λ (n : ℕ). slice_get (table_subjects (n, t)) j ≡ Some s) next at) in
    let z : 3 * suc k + j ≡ suc (suc (suc (3 * k + j))) = omega arith in
    subst (λ (n : ℕ). slice_get (flat_map table_subjects (enumerate_from from (u ∷ ts))) n ≡ Some s) (sym z) more

table-there : (S : Tables) (k : ℕ) (t : Table) → slice_get S.tables k ≡ Some t → (j n : ℕ) (fault : Fault)
    → slice_get (table_subjects (0 + k, t)) j ≡ Some (about_table k fault) → n ≡ 3 * k + j + 1 → IsSubject S n (about_table k fault)
table-there S k t e j n fault at is =
    let early = flat_map table_subjects (numbered S.tables) in
    let late = flat_map block_subjects (numbered S.blocks) in
    let back : n - 1 ≡ 3 * k + j = omega (arith, is) in record {
      some = omega (arith, is);
      at = subst (λ (m : ℕ). slice_get (subjects S) m ≡ Some (about_table k fault)) (sym back)
          (on-left early late (3 * k + j) (about_table k fault) (three-at 0 S.tables k t e j (about_table k fault) at));
    }

pub tables_numbered : TablesHaveNumbers
tables_numbered S k t e =
    let z : 0 + k ≡ k = omega arith in (
      table-there S k t e 0 (3 * k + 1) gap (λ i. Some (about_table (z i) gap)) (omega arith),
      table-there S k t e 1 (3 * k + 2) overlap (λ i. Some (about_table (z i) overlap)) (omega arith),
      table-there S k t e 2 (3 * k + 3) range (λ i. Some (about_table (z i) range)) (omega arith),
    )
