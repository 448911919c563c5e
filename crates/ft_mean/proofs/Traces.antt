-- Every given list in range fits exactly one trace of its side.
use Rattle.std.proofs.Common.{◌≡◌, ◌∙◌, sym, ap, subst, refl, ℕ, zero, suc, ◌+◌, ◌<◌, ◌≤◌, ℤ, pos, Bool, false, [], ◌∷◌, ◌++◌, length, Some}
use Rattle.std.proofs.Common.{None, slice_get, slice_index_or, arith, ⊎_elim, ext_get_or}
use Rattle.std.specs.Prelude.{IsTrue}
use Rattle.std.proofs.lemmas.Bool.{cases_Bool, cases_lt, cond-true, cond-false}
use Rattle.std.proofs.lemmas.List.{length_push, get_or_push, get_or_append_left}
use Rattle.ft_base.specs.Interval.{IsWithin}
use Rattle.ft_core.specs.declared.tables.Tables.{Tables}
use Rattle.ft_core.specs.declared.tables.Var.{Var}
use Rattle.ft_core.specs.declared.tables.Side.{Side}
use Rattle.ft_core.specs.meaning.Kinds.{Kinds, place_of, is_of, given_kinds, side_kinds, section_of}
use Rattle.ft_core.specs.meaning.Reads.{at_now}
use Rattle.ft_mean.specs.meaning.Reading.{Reading, Scans, IsListOf, IsVar, reading_of, init_of}
use Rattle.ft_mean.specs.meaning.Memory.{look}
use Rattle.ft_mean.specs.meaning.Cells.{defined, Follows}
use Rattle.ft_mean.specs.meaning.Proper.{AllProper}
use Rattle.ft_mean.specs.meaning.Fits.{Fits, Only, side_reading}
use Rattle.ft_mean.specs.laws.Laws.{FitsOneTrace}
use Rattle.ft_mean.proofs.Rows.{gathered, length-gathered, gathered_at, same_rows}
use Rattle.ft_mean.proofs.WellFormed.{opened, IsOf, IsWellFormed}
use Rattle.ft_mean.proofs.MemoryLemmas.{look_local}
use Rattle.ft_mean.proofs.OneScan.{answer, table_of, defined_same, table_same, given_or_defined, on_side}
use Rattle.ft_mean.proofs.Exists.{AllInRange, overlay, overlay_at, overlay_past, overlay_range, given_side, ScanUpTo, scan_up_to}

-- a variable of these kinds is read at its place
pub reading_at : (S : Tables) (kinds : Kinds) (scans : Scans) (t x : ℕ) (v : Var) → IsVar S kinds x v
    → reading_of S kinds scans t x ≡ slice_index_or (slice_index_or scans t []) (place_of kinds S.vars x) (pos 0)
reading_at S kinds scans t x v is = cond-true (is_of S.vars kinds x) _ (init_of S x)
    (ap (λ o. elim o as (λ z. Bool) [ None ↦ false | Some u ↦ kinds x u ]) is.0 ∙ is.1)

-- scans in range give a reading in range, of every variable of the set
pub reading_range : (S : Tables) → IsWellFormed S → (kinds : Kinds) (scans : Scans) → IsListOf S kinds scans → (t x : ℕ) (v : Var)
    → t < length scans
    → slice_get S.vars x ≡ Some v → IsWithin v.range (reading_of S kinds scans t x)
reading_range S wf kinds scans list t x v l there = ⊎_elim
    (λ on. list.ranges t x v l (there, sym is ∙ on))
    (λ off. subst (λ z. IsWithin v.range z) (sym (cond-false (is_of S.vars kinds x) _ (init_of S x) off ∙ init)) (wf.inits x v there))
    (cases_Bool (is_of S.vars kinds x))
  where
    is : is_of S.vars kinds x ≡ kinds x v
    is = ap (λ o. elim o as (λ z. Bool) [ None ↦ false | Some u ↦ kinds x u ]) there

    init : init_of S x ≡ v.init
    init = ap (λ o. elim o as (λ z. ℤ) [ None ↦ pos 0 | Some u ↦ u.init ]) there

-- the first n scans of a reading, as rows
pub rows : (S : Tables) → Kinds → Reading → ℕ → Scans
rows S kinds a zero = []
rows S kinds a (suc n) = rows S kinds a n ++ gathered kinds S.vars (a n) ∷ []

pub length-rows : (S : Tables) (kinds : Kinds) (a : Reading) (n : ℕ) → length (rows S kinds a n) ≡ n
unfolding rows
length-rows S kinds a zero = refl
length-rows S kinds a (suc n) = length_push (rows S kinds a n) (gathered kinds S.vars (a n)) ∙ omega (arith, length-rows S kinds a n)

pub row_at : (S : Tables) (kinds : Kinds) (a : Reading) (n t : ℕ) → t < n → slice_index_or (rows S kinds a n) t []
    ≡ gathered kinds S.vars (a t)
unfolding rows
row_at S kinds a zero t l = absurd (omega (arith, l))
row_at S kinds a (suc n) t l = ⊎_elim
    (λ less. get_or_append_left (rows S kinds a n) (gathered kinds S.vars (a n) ∷ []) [] t (omega (arith, less, length-rows S kinds a n))
    ∙ row_at S kinds a n t less)
    (λ most. let is : n ≡ t = omega (arith, l, most) in
    get_or_push (rows S kinds a n) (gathered kinds S.vars (a n)) [] t (length-rows S kinds a n ∙ is)
    ∙ ap (λ i. gathered kinds S.vars (a i)) is)
    (cases_lt t n)

-- they tell the reading
pub reading-rows : (S : Tables) (kinds : Kinds) (a : Reading) (n t x : ℕ) (v : Var) → t < n → IsVar S kinds x v
    → reading_of S kinds (rows S kinds a n) t x ≡ a t x
reading-rows S kinds a n t x v l is =
    reading_at S kinds (rows S kinds a n) t x v is
    ∙ ap (λ row. slice_index_or row (place_of kinds S.vars x) (pos 0)) (row_at S kinds a n t l)
    ∙ gathered_at kinds S.vars (a t) x v is.0 is.1

module _ (S : Tables) (wf : IsWellFormed S) (proper : AllProper S) (s : Side) where
  module _ (a b : Reading) (t : ℕ) (past : (j x : ℕ) → j < t → IsOf S (side_kinds s) x → a j x ≡ b j x)
      (range : (j x : ℕ) (v : Var) → j ≤ t → slice_get S.vars x ≡ Some v → IsWithin v.range (a j x))
      (given : (x : ℕ) (v : Var) → IsVar S (given_kinds s) x v → a t x ≡ b t x)
      (follows_a : Follows S (section_of s) (look S a t) (a t)) (follows_b : Follows S (section_of s) (look S b t) (b t)) where
    same_below : (n x : ℕ) → IsOf S (side_kinds s) x → wf.rank (at_now x) < n → a t x ≡ b t x
    same_below zero x on low = absurd (omega (arith, low))
    same_below (suc n) x on low = ⊎_elim (λ g. given x on.0 g)
        (λ d. let o = table_of S wf (section_of s) x on.0 d in
        let same = table_same S wf s a b t past x (λ y e l. same_below n y e (omega (arith, l, low))) o in
        let one = answer S wf proper (section_of s) (look S a t) x on.0 d (λ p. look_local S wf a t range _) in
        one.only (a t x) (follows_a x on.0 d)
        ∙ sym (one.only (b t x) (defined_same S wf (section_of s) (look S a t) (look S b t) x (b t x) o same ∙ follows_b x on.0 d)))
        (given_or_defined S wf s x on.0 on.1)

    -- two readings that follow the tables at a scan agree there
    pub same_scan : (x : ℕ) → IsOf S (side_kinds s) x → a t x ≡ b t x
    same_scan x on = same_below (suc (wf.rank (at_now x))) x on (omega arith)

  -- readings that agree up to a scan follow the tables alike there
  moved : (a b : Reading) (j : ℕ) → ((i x : ℕ) → i ≤ j → IsOf S (side_kinds s) x → a i x ≡ b i x)
      → Follows S (section_of s) (look S a j) (a j) → Follows S (section_of s) (look S b j) (b j)
  moved a b j same f x v is =
      let o = table_of S wf (section_of s) x v is in
      subst (λ z. IsTrue (defined S (section_of s) (look S b j) x z)) (same j x (omega arith) (v, on_side S wf s x v is))
      (sym (defined_same S wf (section_of s) (look S a j) (look S b j) x (a j x) o
      (table_same S wf s a b j (λ i y l on. same i y (omega (arith, l)) on) x (λ y on l. same j y (omega arith) on) o)) ∙ f x v is)

  module _ (h : Scans) where
    -- a reading whose first n scans have the given values and follow the tables
    record ReadingUpTo (n : ℕ) : Type 0 where
      a : Reading
      range : AllInRange S a
      given : (j x : ℕ) (v : Var) → j < n → IsVar S (given_kinds s) x v → a j x ≡ reading_of S (given_kinds s) h j x
      follows : (j : ℕ) → j < n → Follows S (section_of s) (look S a j) (a j)

    module _ (in_range : IsListOf S (given_kinds s) h) where
      longer : (n : ℕ) → n < length h → ReadingUpTo n → ReadingUpTo (suc n)
      longer n below p =
          let scan : ScanUpTo S wf proper s p.a n p.range (reading_of S (given_kinds s) h n) (λ x v is. in_range.ranges n x v below is)
          (length S.vars + length S.memories) =
          scan_up_to S wf proper s p.a n p.range (reading_of S (given_kinds s) h n) (λ x v is. in_range.ranges n x v below is)
          (length S.vars + length S.memories) in
          let b : Reading = overlay p.a n scan.f in
          let follows_here : Follows S (section_of s) (look S b n) (b n) =
          λ x v is. subst (λ z. IsTrue (defined S (section_of s) (look S b n) x z)) (sym (overlay_at p.a n scan.f x))
          (scan.follows x v is (wf.order.bounded (at_now x))) in
          record {
            a = b;
            range = overlay_range S p.a n scan.f p.range scan.in_range;
            given = λ j x v l is. ⊎_elim
                (λ less. overlay_past p.a n scan.f j x less ∙ p.given j x v less is)
                (λ most. let eq : n ≡ j = omega (arith, l, most) in
                subst (λ i. b i x ≡ reading_of S (given_kinds s) h i x) eq (overlay_at p.a n scan.f x ∙ scan.given x v is))
                (cases_lt j n);
            follows = λ j l. ⊎_elim
                (λ less. moved p.a b j (λ i y m on. sym (overlay_past p.a n scan.f i y (omega (arith, less, m)))) (p.follows j less))
                (λ most. let eq : n ≡ j = omega (arith, l, most) in subst (λ i. Follows S (section_of s) (look S b i) (b i)) eq
                follows_here)
                (cases_lt j n);
          }

      reading_up_to : (n : ℕ) → n ≤ length h → ReadingUpTo n
      reading_up_to zero below = record {
        a = λ j x. init_of S x;
        range = λ j x v is. subst (λ o. IsWithin v.range (elim o as (λ z. ℤ) [ None ↦ pos 0 | Some u ↦ u.init ])) (sym is)
            (wf.inits x v is);
        given = λ j x v l is. absurd (omega (arith, l));
        follows = λ j l. absurd (omega (arith, l));
      }
      reading_up_to (suc n) below = longer n (omega (arith, below)) (reading_up_to n (omega (arith, below)))

      fitted : ReadingUpTo (length h) → (r : Scans) × Fits S s h r
      fitted p =
          let r : Scans = rows S (side_kinds s) p.a (length h) in
          let long : length r ≡ length h = length-rows S (side_kinds s) p.a (length h) in
          let tells : (t x : ℕ) (v : Var) → t < length r → IsVar S (side_kinds s) x v → side_reading S s r t x ≡ p.a t x =
          λ t x v l is. reading-rows S (side_kinds s) p.a (length h) t x v (omega (arith, l, long)) is in (
            r,
            record {
              is_given = in_range;
              lengths = long;
              values = record {
                widths = λ t l. ap length (row_at S (side_kinds s) p.a (length h) t (omega (arith, l, long)))
                    ∙ length-gathered (side_kinds s) S.vars (p.a t);
                ranges = λ t x v l is. subst (λ z. IsWithin v.range z) (sym (tells t x v l is)) (p.range t x v is.0);
              };
              same_given = λ t x v l is. tells t x v l (given_side S s x v is) ∙ p.given t x v (omega (arith, l, long)) is;
              follows = λ t l. moved p.a (side_reading S s r) t (λ i y m on. sym (tells i y on.0 (omega (arith, l, m)) on.1))
                  (p.follows t (omega (arith, l, long)));
            },
          )

    -- two traces that fit are one
    module _ (r q : Scans) (fr : Fits S s h r) (fq : Fits S s h q) where
      agree : (n : ℕ) → n ≤ length r → (j x : ℕ) → j < n → IsOf S (side_kinds s) x → side_reading S s r j x ≡ side_reading S s q j x
      agree zero below j x l on = absurd (omega (arith, l))
      agree (suc n) below j x l on = ⊎_elim
          (λ less. agree n (omega (arith, below)) j x less on)
          (λ most. let eq : n ≡ j = omega (arith, l, most) in
          subst (λ i. side_reading S s r i x ≡ side_reading S s q i x) eq
          (same_scan (side_reading S s r) (side_reading S s q) n
          (λ i y less. agree n (omega (arith, below)) i y less)
          (λ i y v m is. reading_range S wf (side_kinds s) r fr.values i y v (omega (arith, m, below)) is)
          (λ y v is. fr.same_given n y v (omega (arith, below)) is ∙ sym
          (fq.same_given n y v (omega (arith, below, fr.lengths, fq.lengths)) is))
          (fr.follows n (omega (arith, below)))
          (fq.follows n (omega (arith, below, fr.lengths, fq.lengths)))
          x on))
          (cases_lt j n)

      same_traces : r ≡ q
      same_traces = ext_get_or [] r q (fr.lengths ∙ sym fq.lengths) (λ i below.
          same_rows (side_kinds s) S.vars _ _ (fr.values.widths i below) (fq.values.widths i (omega (arith, below, fr.lengths, fq.lengths)))
          (λ x v is k. sym (reading_at S (side_kinds s) r i x v (is, k)) ∙ agree (length r) (omega arith) i x below (v, (is, k))
          ∙ reading_at S (side_kinds s) q i x v (is, k)))

    pub fits_one : IsListOf S (given_kinds s) h → (r : Scans) × Only (Fits S s h) r
    fits_one in_range =
        let p = fitted in_range (reading_up_to in_range (length h) (omega arith)) in
        (p.0, record { is = p.1; alone = λ q fq. same_traces q p.0 fq p.1 })

pub one_trace : FitsOneTrace
one_trace S proper s h in_range = fits_one S (opened S) proper s h in_range
