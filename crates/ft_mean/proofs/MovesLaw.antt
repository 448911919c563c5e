-- Along every reading each memory makes its move at each scan, and no other.
use Rattle.std.proofs.Common.{◌≡◌, ◌∙◌, sym, ap, subst, refl, ℕ, zero, suc, ℤ, pos, negsuc, ◌≤ℤ◌, ◌<ℤ◌, Bool, true, false, cond, List, Some}
use Rattle.std.proofs.Common.{slice_get, arith, ⊎_elim}
use Rattle.std.specs.Prelude.{int_le}
use Rattle.std.specs.Ordering.{int_eq}
use Rattle.std.proofs.lemmas.Int.{ints}
use Rattle.std.proofs.lemmas.Bool.{cases_Bool}
use Rattle.ft_base.specs.Interval.{IsWithin}
use Rattle.ft_core.specs.declared.tables.Tables.{Tables}
use Rattle.ft_core.specs.declared.tables.Side.{Side}
use Rattle.ft_core.specs.declared.term.Term.{Term}
use Rattle.ft_core.specs.declared.term.Cond.{Cond}
use Rattle.ft_core.specs.declared.tables.Memory.TheVariants.{Held, Hyst}
use Rattle.ft_mean.specs.meaning.Reading.{Reading, begins, begun, elapsed, since, scan_before}
use Rattle.ft_mean.specs.meaning.Value.{truth, value}
use Rattle.ft_mean.specs.meaning.Past.{hyst, age}
use Rattle.ft_mean.specs.meaning.Memory.{at_scan, remembered, memory_at, kept_of, kept, look}
use Rattle.ft_mean.specs.laws.Moves.{age_begins, age_goes_on, bit_goes_on, MovesAt}
use Rattle.ft_mean.specs.laws.Laws.{MemoriesMove}
use Rattle.ft_mean.proofs.WellFormed.{opened, IsWellFormed}
use Rattle.ft_mean.proofs.Agree.{same_truth, same_value}
use Rattle.ft_mean.proofs.PastLemmas.{next_bit, hyst_first, hyst_next}
use Rattle.ft_mean.proofs.AgeLemmas.{next_age, age_first, age_next, age_span, held_is}
use Rattle.ft_mean.proofs.TimeLemmas.{elapsed_up, since_none, since_next, since_up, since_falls, begun_low, begun_here, begun_past}
use Rattle.ft_mean.proofs.BegunLemmas.{later}
use Rattle.ft_mean.proofs.MemoryLemmas.{memory_at-is, ageless}

-- the moves of ages and bits, and that no other number comes by them
begins_by : (b : Bool) → age_begins b (cond b (pos 0) (negsuc 0)) ≡ true
begins_by true = refl
begins_by false = refl

begins_only : (b : Bool) (x : ℤ) → age_begins b x ≡ true → x ≡ cond b (pos 0) (negsuc 0)
begins_only true x h = grind (arith, ints)
begins_only false x h = grind (arith, ints)

goes_on_by : (elapsed hold before : ℤ) (b : Bool) → negsuc 0 ≤ℤ before → before ≤ℤ hold → pos 0 ≤ℤ elapsed
    → age_goes_on elapsed hold b before (next_age hold elapsed before b) ≡ true
goes_on_by elapsed hold before false low high up = refl
goes_on_by elapsed hold (pos n) true low high up = grind (arith, ints)
goes_on_by elapsed hold (negsuc zero) true low high up = refl
goes_on_by elapsed hold (negsuc (suc n)) true low high up = absurd (omega (arith, ints, low))

goes_on_only : (elapsed hold before : ℤ) (b : Bool) (x : ℤ) → age_goes_on elapsed hold b before x ≡ true → x
    ≡ next_age hold elapsed before b
goes_on_only elapsed hold before false x h = grind (arith, ints)
goes_on_only elapsed hold (pos n) true x h = grind (arith, ints)
goes_on_only elapsed hold (negsuc zero) true x h = grind (arith, ints)
goes_on_only elapsed hold (negsuc (suc n)) true x h = grind (arith, ints)

bit_by : (lo hi e : ℤ) (before : Bool) → lo <ℤ hi → bit_goes_on lo hi e before (next_bit lo hi before e) ≡ true
bit_by lo hi e before h = grind (arith, ints)

bit_only : (lo hi e : ℤ) (before x y : Bool) → lo <ℤ hi → bit_goes_on lo hi e before x ≡ true → bit_goes_on lo hi e before y ≡ true → x ≡ y
bit_only lo hi e before true true h p q = refl
bit_only lo hi e before false false h p q = refl
bit_only lo hi e before true false h p q = grind (arith, ints)
bit_only lo hi e before false true h p q = grind (arith, ints)

-- a bit as a number
abbrev number : Bool → ℤ
number b = cond b (pos 1) (pos 0)

bit_back : (b : Bool) → int_eq (number b) (pos 1) ≡ b
bit_back true = refl
bit_back false = refl

bit_span : (b : Bool) → IsWithin (pos 0, pos 1) (number b)
bit_span true = (omega (arith, ints), omega (arith, ints))
bit_span false = (omega (arith, ints), omega (arith, ints))

bit_is : (z : ℤ) (b : Bool) → IsWithin (pos 0, pos 1) z → int_eq z (pos 1) ≡ b → z ≡ number b
bit_is z true span e = grind (arith, ints)
bit_is z false span e = grind (arith, ints)

module _ (S : Tables) (wf : IsWellFormed S) (ρ : Reading) (m : ℕ) where
  module _ (condition : ℕ → Bool) (hold : ℤ) (low : pos 0 ≤ℤ hold) where
    abbrev old : ℕ → ℤ
    old t = age (begun S ρ t) (λ j. since S ρ j t) hold condition t

    old_span : (t : ℕ) → IsWithin (negsuc 0, hold) (old t)
    old_span t = age_span (begun S ρ t) (λ j. since S ρ j t) hold condition t (begun_low S ρ t) low (λ j l. since_up S ρ wf.goes_on j t)

    old_begins : (t : ℕ) → begins S ρ t ≡ true → old t ≡ cond (condition t) (pos 0) (negsuc 0)
    old_begins t new =
        ap (λ from. age from (λ j. since S ρ j t) hold condition t) (begun_here S ρ t new)
        ∙ age_first t (λ j. since S ρ j t) hold condition (since_none S ρ wf.goes_on t) low

    old_later : (t : ℕ) → begins S ρ (suc t) ≡ false → old (suc t) ≡ next_age hold (elapsed S (ρ (suc t))) (old t) (condition (suc t))
    old_later t later =
        ap (λ from. age from (λ j. since S ρ j (suc t)) hold condition (suc t)) (begun_past S ρ t later)
        ∙ age_next (begun S ρ t) hold (elapsed S (ρ (suc t))) low (elapsed_up S ρ wf.goes_on (suc t)) (λ j. since S ρ j t)
        (λ j. since S ρ j (suc t)) t (begun_low S ρ t)
        (λ j l. since_up S ρ wf.goes_on j t) (λ j l. since_next S ρ wf.goes_on j t l) (since_none S ρ wf.goes_on (suc t)) condition

    -- the number that the age moves to
    abbrev age_at : (anew : Bool) (t : ℕ) → ℤ
    age_at anew t = cond anew (cond (condition t) (pos 0) (negsuc 0)) (next_age hold (elapsed S (ρ t)) (old (scan_before t)) (condition t))

    old_is : (t : ℕ) → old t ≡ age_at (begins S ρ t) t
    old_is t = ⊎_elim
        (λ is. old_begins t is ∙ ap (λ anew. age_at anew t) (sym is))
        (λ is. let k = later S ρ t is in
        subst (λ j. old j ≡ age_at false j) (sym k.1) (old_later k.0 (ap (begins S ρ) (sym k.1) ∙ is))
        ∙ ap (λ anew. age_at anew t) (sym is))
        (cases_Bool (begins S ρ t))

    age_comes : (anew : Bool) (t : ℕ) → cond anew (age_begins (condition t) (age_at anew t))
        (age_goes_on (elapsed S (ρ t)) hold (condition t) (old (scan_before t)) (age_at anew t)) ≡ true
    age_comes true t = begins_by (condition t)
    age_comes false t =
        let span = old_span (scan_before t) in
        goes_on_by (elapsed S (ρ t)) hold (old (scan_before t)) (condition t) span.0 span.1 (elapsed_up S ρ wf.goes_on t)

    age_only : (anew : Bool) (t : ℕ) (z : ℤ) → cond anew (age_begins (condition t) z)
        (age_goes_on (elapsed S (ρ t)) hold (condition t) (old (scan_before t)) z) ≡ true → z ≡ age_at anew t
    age_only true t z h = begins_only (condition t) z h
    age_only false t z h = goes_on_only (elapsed S (ρ t)) hold (old (scan_before t)) (condition t) z h

  module _ (lo hi : ℤ) (start : Bool) (term : ℕ → ℤ) where
    abbrev side : ℕ → Bool
    side t = hyst (begun S ρ t) lo hi start term t

    -- the bit that counts as the one before
    abbrev bit_before : ℕ → Bool
    bit_before t = cond (begins S ρ t) start (side (scan_before t))

    side_later : (t : ℕ) → begins S ρ (suc t) ≡ false → side (suc t) ≡ next_bit lo hi (side t) (term (suc t))
    side_later t is =
        let low = begun_low S ρ t in
        ap (λ from. hyst from lo hi start term (suc t)) (begun_past S ρ t is)
        ∙ hyst_next lo hi start term (begun S ρ t) t (omega (arith, low))

    side_is : (t : ℕ) → side t ≡ next_bit lo hi (bit_before t) (term t)
    side_is t = ⊎_elim
        (λ is. ap (λ from. hyst from lo hi start term t) (begun_here S ρ t is) ∙ hyst_first lo hi start term t
        ∙ ap (λ anew. next_bit lo hi (cond anew start (side (scan_before t))) (term t)) (sym is))
        (λ is. let k = later S ρ t is in
        subst (λ j. side j ≡ next_bit lo hi (side (scan_before j)) (term j)) (sym k.1) (side_later k.0 (ap (begins S ρ) (sym k.1) ∙ is))
        ∙ ap (λ anew. next_bit lo hi (cond anew start (side (scan_before t))) (term t)) (sym is))
        (cases_Bool (begins S ρ t))

  moves_held : (name : List ℕ) (s : Side) (c : Cond) (hold : ℤ) → slice_get S.memories m ≡ Some (Held name s c hold) → (t : ℕ)
      → MovesAt S ρ m (Held name s c hold) t
  moves_held name s c hold is t =
      let low : pos 0 ≤ℤ hold = (wf.sound m (Held name s c hold) is).0 in
      let condition : ℕ → Bool = λ j. truth (at_scan S ρ (memory_at S ρ) j) c in
      let keeps : (j : ℕ) → kept S ρ j m ≡ old condition hold low j = λ j. ap (λ o. kept_of S ρ m o j) is in
      let sees : truth (look S ρ t) c ≡ condition t = sym (same_truth (at_scan S ρ (memory_at S ρ) t) (look S ρ t) c
      (λ r k. ageless S wf s ρ t r (wf.memories_read m _ r is k))) in
      let step : Bool → ℤ → ℤ → Bool = λ b before now. cond (begins S ρ t) (age_begins b now)
      (age_goes_on (elapsed S (ρ t)) hold b before now) in
      record {
        in_span = subst (IsWithin (negsuc 0, hold)) (sym (keeps t)) (old_span condition hold low t);
        comes = (λ i. step (sees i) (keeps (scan_before t) i) ((keeps t ∙ old_is condition hold low t) i))
            ∙ age_comes condition hold low (begins S ρ t) t;
        alone = λ z may move. age_only condition hold low (begins S ρ t) t z
            ((λ i. step (sym sees i) (sym (keeps (scan_before t)) i) z) ∙ move)
            ∙ sym (keeps t ∙ old_is condition hold low t);
        tells = memory_at-is S wf.rank wf.order ρ m t ∙ ap (λ o. remembered S ρ (memory_at S ρ) o t) is
            ∙ held_is (begun S ρ t) (λ j. since S ρ j t) hold condition t (since_falls S ρ wf.goes_on t) low
            ∙ ap (int_le hold) (sym (keeps t));
      }

  moves_hyst : (name : List ℕ) (s : Side) (e : Term) (lo hi : ℤ) (start : Bool) → slice_get S.memories m ≡ Some (Hyst name s e lo hi start)
      → (t : ℕ)
      → MovesAt S ρ m (Hyst name s e lo hi start) t
  moves_hyst name s e lo hi start is t =
      let apart : lo <ℤ hi = wf.sound m (Hyst name s e lo hi start) is in
      let term : ℕ → ℤ = λ j. value (at_scan S ρ (memory_at S ρ) j) e in
      let recalls : (j : ℕ) → memory_at S ρ m j ≡ side lo hi start term j = λ j. memory_at-is S wf.rank wf.order ρ m j
      ∙ ap (λ o. remembered S ρ (memory_at S ρ) o j) is in
      let keeps : (j : ℕ) → kept S ρ j m ≡ number (memory_at S ρ m j) = λ j. ap (λ o. kept_of S ρ m o j) is in
      let bit : (j : ℕ) → int_eq (kept S ρ j m) (pos 1) ≡ side lo hi start term j = λ j. ap (λ z. int_eq z (pos 1)) (keeps j)
      ∙ bit_back (memory_at S ρ m j) ∙ recalls j in
      let sees : value (look S ρ t) e ≡ term t = sym (same_value (at_scan S ρ (memory_at S ρ) t) (look S ρ t) e
      (λ r k. ageless S wf s ρ t r (wf.memories_read m _ r is k))) in
      let step : ℤ → Bool → Bool → Bool = λ z before now. bit_goes_on lo hi z (cond (begins S ρ t) start before) now in
      let goes_on = bit_by lo hi (term t) (bit_before lo hi start term t) apart in
      record {
        in_span = subst (IsWithin (pos 0, pos 1)) (sym (keeps t)) (bit_span (memory_at S ρ m t));
        comes = (λ i. step (sees i) (bit (scan_before t) i) ((bit t ∙ side_is lo hi start term t) i)) ∙ goes_on;
        alone = λ z may move.
            let same = bit_only lo hi (term t) (bit_before lo hi start term t) (int_eq z (pos 1))
            (next_bit lo hi (bit_before lo hi start term t) (term t)) apart
            ((λ i. step (sym sees i) (sym (bit (scan_before t)) i) (int_eq z (pos 1))) ∙ move) goes_on in
            bit_is z (memory_at S ρ m t) may (same ∙ sym (recalls t ∙ side_is lo hi start term t)) ∙ sym (keeps t);
        tells = sym (bit_back (memory_at S ρ m t)) ∙ ap (λ z. int_eq z (pos 1)) (sym (keeps t));
      }

pub memories_move : MemoriesMove
memories_move S ρ m (Held name s c hold) is t = moves_held S (opened S) ρ m name s c hold is t
memories_move S ρ m (Hyst name s e lo hi start) is t = moves_hyst S (opened S) ρ m name s e lo hi start is t
