-- The view that has the values of the slots of a fact's obligation: which told cells hold there, hold at all numbers with these values.
use Rattle.std.proofs.Common.{◌≡◌, ◌∙◌, sym, ap, subst, refl, ℕ, zero, suc, ◌+◌, ◌-◌, ◌<◌, ◌≤◌, ℤ, pos, negsuc, Bool, true, false}
use Rattle.std.proofs.Common.{◌&&◌, ◌||◌, cond, List, [], ◌∷◌, map, length, Option, Some, None, slice_get, arith, ⊎_elim, true≢false}
use Rattle.std.specs.Prelude.{◌==◌, nat_lt, unsigned_abs, Contains}
use Rattle.std.specs.List.{All, list_all, list_any, find, flat_map, range_with_len}
use Rattle.std.specs.Option.{option_map}
use Rattle.std.proofs.lemmas.Int.{ints}
use Rattle.std.proofs.lemmas.Bool.{cases_Bool, cases_lt, cond-true, cond-false, lt-ltb, le-ltb, eqb-true}
use Rattle.std.proofs.lemmas.List.Elements.{All-nil, All-cons}
use Rattle.std.proofs.lemmas.Option.{none-some, slice_get_within}
use Rattle.ft_base.specs.Interval.{IsWithin}
use Rattle.ft_core.specs.declared.tables.Tables.{Tables}
use Rattle.ft_core.specs.declared.tables.Var.{Var}
use Rattle.ft_core.specs.declared.tables.Memory as tables
use Rattle.ft_core.specs.declared.tables.Memory.TheVariants.{Held, Hyst}
use Rattle.ft_core.specs.declared.tables.Section.{Section}
use Rattle.ft_core.specs.checked.Size.{var_size, age_size}
use Rattle.ft_core.specs.laws.Lists.{all_pass, in_all}
use Rattle.ft_core.specs.laws.Places.{contained, some-at}
use Rattle.ft_core.specs.meaning.Grids.{Cell}
use Rattle.ft_core.specs.meaning.Kinds.{defined_kinds}
use Rattle.ft_core.specs.meaning.Reads.{Read, at_now, at_before, of_memory, of_age, cell_reads}
use Rattle.ft_linear.specs.meaning.Form.{values_at}
use Rattle.ft_mean.specs.judge.Safe.{KeepsSizes}
use Rattle.ft_mean.specs.laws.EvaluationLaws.{Same}
use Rattle.ft_mean.specs.laws.Moves.{span_of}
use Rattle.ft_mean.specs.laws.SafetyLaws.{AreValuesOf, AreAgesOf}
use Rattle.ft_mean.specs.meaning.Cells.{cell_holds, cells_of}
use Rattle.ft_mean.specs.meaning.Reading.{IsVar, init_of}
use Rattle.ft_mean.specs.meaning.Value.{View}
use Rattle.ft_claims.specs.laws.GoodLaws.{IsThere}
use Rattle.ft_claims.specs.meaning.Areas.{is_one_of, is_used}
use Rattle.ft_claims.specs.meaning.Names.{width, memo, view, kept_true}
use Rattle.ft_claims.specs.meaning.Parts.{cell_claim}
use Rattle.ft_claims.specs.meaning.Spans.{InSpans}
use Rattle.ft_oblige.specs.declared.labelling.Slot.{Slot}
use Rattle.ft_oblige.specs.declared.labelling.Slot.TheVariants.{Variable, Memory}
use Rattle.ft_oblige.specs.laws.ReadsThere.{may_there}
use Rattle.ft_oblige.specs.meaning.Blocks.{now_frame}
use Rattle.ft_oblige.specs.meaning.Labels.{slot_in, slot_at}
use Rattle.ft_oblige.specs.meaning.Linked.{names_in}
use Rattle.ft_oblige.specs.meaning.States.{slot_spans}
use Rattle.ft_cover.specs.building.KeptView.{kept_value, kept_view}
use Rattle.ft_cover.specs.laws.KeptLaws.{AreOnce, IsKept, of_name, of_none}
use Rattle.ft_cover.specs.meaning.Covered.{place_of}
use Rattle.ft_compose.specs.laws.DecidingLaws.{DecidingLaws}
use Rattle.ft_compose.specs.meaning.Decided.{is_told, is_seen, first_seen}
use Rattle.ft_compose.proofs.FailureLemmas.{cell_same}
use Rattle.ft_compose.proofs.NameLemmas.{range-at, in-filtered}
use Rattle.ft_compose.proofs.SeeLemmas.{find-same}

-- a slot of this scan, or a variable of the scan before, stands in the set
abbrev IsPlaced : Tables → Slot → Type 0
IsPlaced S (Variable p s) = p < length S.vars
IsPlaced S (Memory p zero) = p < length S.memories
IsPlaced S (Memory p (suc s)) = Unit {0}

module _ (S : Tables) where
  in_scan : (s rest : ℕ) → (length S.vars ≤ rest → IsPlaced S (Memory (rest - length S.vars) s)) → IsPlaced S (slot_in S s rest)
  in_scan s rest memory = ⊎_elim
      (λ var. subst (IsPlaced S) (sym (cond-true (nat_lt rest (length S.vars)) (Variable rest s) (Memory (rest - length S.vars) s)
      (lt-ltb rest (length S.vars) var))) var)
      (λ past. subst (IsPlaced S) (sym (cond-false (nat_lt rest (length S.vars)) (Variable rest s) (Memory (rest - length S.vars) s)
      (le-ltb rest (length S.vars) past))) (memory past))
      (cases_lt rest (length S.vars))

  placed : (u : ℕ) → IsPlaced S (slot_at S u)
  placed u = ⊎_elim
      (λ this. subst (IsPlaced S) (sym (cond-true (nat_lt u (width S)) (slot_in S 0 u) (slot_in S 1 (u - width S))
      (lt-ltb u (width S) this))) (in_scan 0 u (λ past. omega (arith, this, past))))
      (λ prior. subst (IsPlaced S) (sym (cond-false (nat_lt u (width S)) (slot_in S 0 u) (slot_in S 1 (u - width S))
      (le-ltb u (width S) prior))) (in_scan 1 (u - width S) (λ past. tt)))
      (cases_lt u (width S))

  slot_now : (x : ℕ) → x < length S.vars → slot_at S (0 + x) ≡ Variable x 0
  slot_now x l =
      let same : 0 + x ≡ x = omega arith in
      ap (slot_at S) same
      ∙ cond-true (nat_lt x (width S)) (slot_in S 0 x) (slot_in S 1 (x - width S)) (lt-ltb x (width S) (omega (arith, l)))
      ∙ cond-true (nat_lt x (length S.vars)) (Variable x 0) (Memory (x - length S.vars) 0) (lt-ltb x (length S.vars) l)

  slot_past : (x : ℕ) → x < length S.vars → slot_at S (width S + x) ≡ Variable x 1
  slot_past x l =
      let back : width S + x - width S ≡ x = omega arith in
      cond-false (nat_lt (width S + x) (width S)) (slot_in S 0 (width S + x)) (slot_in S 1 (width S + x - width S))
      (le-ltb (width S + x) (width S) (omega arith))
      ∙ ap (slot_in S 1) back
      ∙ cond-true (nat_lt x (length S.vars)) (Variable x 1) (Memory (x - length S.vars) 1) (lt-ltb x (length S.vars) l)

  slot_kept : (m : ℕ) → m < length S.memories → slot_at S (memo S 0 m) ≡ Memory m 0
  slot_kept m l =
      let back : memo S 0 m - length S.vars ≡ m = omega arith in
      cond-true (nat_lt (memo S 0 m) (width S)) (slot_in S 0 (memo S 0 m)) (slot_in S 1 (memo S 0 m - width S))
      (lt-ltb (memo S 0 m) (width S) (omega (arith, l)))
      ∙ cond-false (nat_lt (memo S 0 m) (length S.vars)) (Variable (memo S 0 m) 0) (Memory (memo S 0 m - length S.vars) 0)
      (le-ltb (memo S 0 m) (length S.vars) (omega arith))
      ∙ ap (λ k. Memory k 0) back

-- names have numbers
abbrev pub NamesHave : List ℕ → List ℤ → (ℕ → ℤ) → Type 0
NamesHave names values σ = (i u : ℕ) → slice_get names i ≡ Some u → σ u ≡ values_at values i

place-one : (names : List ℕ) (u : ℕ) → is_one_of names u ≡ true → (i : ℕ) × (slice_get names i ≡ Some u)
place-one [] u h = absurd (true≢false (sym h))
place-one (v ∷ names) u h = ⊎_elim
    (λ here. (zero, ap Some (eqb-true v u here)))
    (λ later. let more = place-one names u (sym (ap (λ b. b || is_one_of names u) later) ∙ h) in (suc more.0, more.1))
    (cases_Bool (v == u))

module _ (laws : DecidingLaws) (S : Tables) (anew : Bool) (names : List ℕ) (once : AreOnce names) (values : List ℤ) where
  abbrev pub slots : List Slot
  slots = map (slot_at S) names

  abbrev pub K : View
  K = kept_view S false anew slots values

  -- the numbers that the values of the slots are
  abbrev σ_of : ℕ → ℤ
  σ_of u = kept_value slots values (slot_at S u)

  have_them : NamesHave names values σ_of
  have_them i u at = laws.have_values S names once values i u at

  before_same : (b : Bool) (x : ℕ) → x < length S.vars
      → cond b (init_of S x) (kept_value slots values (Variable x 1)) ≡ cond b (init_of S x) (σ_of (width S + x))
  before_same true x l = refl
  before_same false x l = ap (kept_value slots values) (sym (slot_past S x l))

  same_view : (r : Read) → IsThere S r → Same K (view S (now_frame S anew) σ_of) r
  same_view (at_now x) l = ap (kept_value slots values) (sym (slot_now S x l))
  same_view (at_before x) l = before_same anew x l
  same_view (of_memory m) l = ap (λ slot. kept_true (slice_get S.memories m) (kept_value slots values slot)) (sym (slot_kept S m l))
  same_view (of_age m) l = ap (kept_value slots values) (sym (slot_kept S m l))

  module _ (section : Section) (x : ℕ) (v : Var) (is : IsVar S (defined_kinds section) x v) (σ : ℕ → ℤ)
      (have : NamesHave names values σ) where
    told_same : (k : ℕ) (cell : Cell) → slice_get (cells_of S section x) k ≡ Some cell → is_told S anew names cell ≡ true
        → cell_holds (view S (now_frame S anew) σ_of) cell ≡ cell_holds (view S (now_frame S anew) σ) cell
    told_same k cell at told = cell_same laws.all S anew section x v is k cell at σ_of σ (λ u low used.
        let base = length (slot_spans S) in
        let claim = cell_claim S (now_frame S anew) cell in
        let range : slice_get (range_with_len 0 base) u ≡ Some u = (let e : 0 + u ≡ u = omega arith in range-at 0 base u low ∙ ap Some e) in
        let here = in-filtered (is_used base (claim ∷ [])) (range_with_len 0 base) u u range used in
        let one = all_pass (is_one_of names) (names_in base claim) told u (contained (names_in base claim) here.0 u here.1) in
        let place = place-one names u one in
        have_them place.0 u place.1 ∙ sym (have place.0 u place.1))

    one_cell : (k : ℕ) (cell : Cell) → slice_get (cells_of S section x) k ≡ Some cell
        → is_seen S anew names K cell ≡ is_seen S anew names (view S (now_frame S anew) σ) cell
    one_cell k cell at = ⊎_elim
        (λ told. ap (λ b. is_told S anew names cell && b)
        ((laws.same_cell K (view S (now_frame S anew) σ_of) cell
        (λ r reads. same_view r (may_there S section r (laws.all.may_read S section x r
        (in_all cell_reads (cells_of S section x) k cell r at reads))))).0
        ∙ told_same k cell at told))
        (λ untold. ap (λ b. b && cell_holds K cell) untold
        ∙ sym (ap (λ b. b && cell_holds (view S (now_frame S anew) σ) cell) untold))
        (cases_Bool (is_told S anew names cell))

    -- the first cell that is seen is the same
    pub seen_alike : first_seen S section x anew names (view S (now_frame S anew) σ) ≡ first_seen S section x anew names K
    seen_alike = sym (ap (option_map place_of) (find-same (is_seen S anew names K) (is_seen S anew names (view S (now_frame S anew) σ))
        (cells_of S section x) (all-at (cells_of S section x) one_cell)))
      where
        all-at : (cs : List Cell) → ((k : ℕ) (cell : Cell) → slice_get cs k ≡ Some cell
            → is_seen S anew names K cell ≡ is_seen S anew names (view S (now_frame S anew) σ) cell)
            → All (λ cell. is_seen S anew names K cell ≡ is_seen S anew names (view S (now_frame S anew) σ) cell) cs
        all-at [] h = All-nil (λ cell. is_seen S anew names K cell ≡ is_seen S anew names (view S (now_frame S anew) σ) cell)
        all-at (c ∷ cs) h = All-cons (λ cell. is_seen S anew names K cell ≡ is_seen S anew names (view S (now_frame S anew) σ) cell) c cs
            (h zero c refl) (all-at cs (λ k cell at. h (suc k) cell at))

  module _ (long : length values ≡ length names) (σ : ℕ → ℤ) (within : InSpans S σ) (have : NamesHave names values σ) where
    abbrev there_or : ℕ → (ℕ → ℤ) → ℕ → ℤ
    there_or many f x = cond (nat_lt x many) (f x) (pos 0)

    there_at : (many : ℕ) (f : ℕ → ℤ) (x : ℕ) → x < many → there_or many f x ≡ f x
    there_at many f x l = cond-true (nat_lt x many) (f x) (pos 0) (lt-ltb x many l)

    none_at : {A : Type 0} (xs : List A) (f : ℕ → ℤ) (x : ℕ) → slice_get xs x ≡ None → there_or (length xs) f x ≡ pos 0
    none_at xs f x e = ⊎_elim
        (λ l. absurd (let at = some-at xs x l in none-some at.0 (sym e ∙ at.1)))
        (λ past. cond-false (nat_lt x (length xs)) (f x) (pos 0) (le-ltb x (length xs) past))
        (cases_lt x (length xs))

    abbrev past_of : Bool → ℕ → ℤ
    past_of true x = init_of S x
    past_of false x = there_or (length S.vars) (λ y. σ (width S + y)) x

    abbrev W : View
    W = record {
      now = there_or (length S.vars) (λ y. σ (0 + y));
      before = past_of anew;
      age = there_or (length S.memories) (λ m. σ (memo S 0 m));
      memory = λ m. false;
    }

    past_values : (b : Bool) → AreValuesOf S (past_of b)
    past_values true = record {
      in_range = λ x v is. subst (IsWithin v.range)
          (sym (ap (λ (o : Option Var). elim o as (λ z. ℤ) [ None ↦ pos 0 | Some w ↦ w.init ]) is))
          (S.sound.inits x v is);
      none = λ x e. ap (λ (o : Option Var). elim o as (λ z. ℤ) [ None ↦ pos 0 | Some w ↦ w.init ]) e;
    }
    past_values false = record {
      in_range = λ x v is. subst (IsWithin v.range) (sym (there_at (length S.vars) (λ y. σ (width S + y)) x
          (slice_get_within S.vars x v is))) (within.past x v is);
      none = none_at S.vars (λ y. σ (width S + y));
    }

    small : KeepsSizes S.vars S.memories W
    small = laws.keep_sizes S W
        (record {
          in_range = λ x v is. subst (IsWithin v.range) (sym (there_at (length S.vars) (λ y. σ (0 + y)) x
              (slice_get_within S.vars x v is))) (within.now x v is);
          none = none_at S.vars (λ y. σ (0 + y));
        })
        (past_values anew)
        (record {
          in_span = λ m memory at. subst (IsWithin (span_of memory)) (sym (there_at (length S.memories) (λ k. σ (memo S 0 k)) m
              (slice_get_within S.memories m memory at))) (within.kept_now m memory at);
          none = λ m e. subst (IsWithin (negsuc 0, pos 1)) (sym (none_at S.memories (λ k. σ (memo S 0 k)) m e))
              (omega (arith, ints), omega (arith, ints));
        })

    -- a slot has the number of its name, or 0
    slot_value : (P : ℤ → Type 0) (slot : Slot) (n : ℕ) → (IsPlaced S slot → slot_at S n ≡ slot) → (IsPlaced S slot → P (σ n)) → P (pos 0)
        → P (kept_value slots values slot)
    slot_value P slot n its found empty = by_kept (laws.are_kept S names values long slot)
      where
        by_kept : IsKept S names values slot → P (kept_value slots values slot)
        by_kept (of_name i u at is value) =
            let placed_here = subst (IsPlaced S) is (placed S u) in
            let same = laws.slots_differ S u n (is ∙ sym (its placed_here)) in
            subst P (sym (value ∙ sym (have i u at) ∙ ap σ same)) (found placed_here)
        by_kept (of_none none value) = subst P (sym value) empty

    before_small : (b : Bool) → ((x : ℕ) → unsigned_abs (past_of b x) ≤ var_size (slice_get S.vars x))
        → (x : ℕ) → unsigned_abs (cond b (init_of S x) (kept_value slots values (Variable x 1))) ≤ var_size (slice_get S.vars x)
    before_small true past x = past x
    before_small false past x = slot_value (λ z. unsigned_abs z ≤ var_size (slice_get S.vars x)) (Variable x 1) (width S + x)
        (slot_past S x)
        (λ l. subst (λ z. unsigned_abs z ≤ var_size (slice_get S.vars x)) (there_at (length S.vars) (λ y. σ (width S + y)) x l) (past x))
        (omega arith)

    -- the view keeps the sizes of the set
    pub keeps : KeepsSizes S.vars S.memories K
    keeps = record {
      now = λ x. slot_value (λ z. unsigned_abs z ≤ var_size (slice_get S.vars x)) (Variable x 0) (0 + x) (slot_now S x)
          (λ l. subst (λ z. unsigned_abs z ≤ var_size (slice_get S.vars x)) (there_at (length S.vars) (λ y. σ (0 + y)) x l) (small.now x))
          (omega arith);
      before = before_small anew small.before;
      age = λ m. slot_value (λ z. unsigned_abs z ≤ age_size (slice_get S.memories m)) (Memory m 0) (memo S 0 m) (slot_kept S m)
          (λ l. subst (λ z. unsigned_abs z ≤ age_size (slice_get S.memories m)) (there_at (length S.memories) (λ k. σ (memo S 0 k)) m l)
          (small.age m))
          (omega arith);
    }
