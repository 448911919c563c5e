-- The fields of a record, one at a time.
use Rattle.std.proofs.Common.{◌≡◌, ◌∙◌, sym, ap, subst, refl, ℕ, zero, suc, ◌+◌, ◌<◌, ℤ, false, List, [], ◌∷◌, length, slice_get, slice_set}
use Rattle.std.proofs.Common.{Some, None, arith, inl, inr, ⊎_elim, true≢false}
use Rattle.std.specs.Prelude.{IsTrue, MatchBool}
use Rattle.std.proofs.lemmas.Bool.{cases_Bool, cases_lt}
use Rattle.std.proofs.lemmas.Option.{none-some, same_Some}
use Rattle.csv.specs.Records.{field_at}
use Rattle.ft_core.specs.declared.tables.Tables.{Tables}
use Rattle.ft_core.specs.declared.tables.Var.{Var}
use Rattle.ft_core.specs.declared.tables.VarKind.TheVariants as kind
use Rattle.ft_core.specs.meaning.Kinds.{count_of, monitored, place_of}
use Rattle.ft_mean.specs.meaning.Reading.{IsVar}
use Rattle.ft_trace.specs.rows.Row.{HasPlace, IsRead, ReadsField, StopsAt, is_monitored}
use Rattle.ft_trace.specs.meaning.Spelling.{FirstBad, IsNoValue, IsOutside, Row, RowFault, SpellsAt, SpellsBefore}
use Rattle.ft_trace.specs.declared.fault.TraceFault.{TraceFault}
use Rattle.ft_trace.specs.declared.fault.TraceFault.TheVariants as faults
use Rattle.ft_core.specs.laws.VarPlaces.{other-place, own-place}
use Rattle.ft_trace.proofs.PlaceLemmas.{place-within, set-length}
use Rattle.ft_core.specs.laws.Places.{set-here, set-there}

pub field-is : (fields : Row) (i : ℕ) → field_at fields i ≡ slice_get fields i
unfolding field_at
field-is [] i = refl
field-is (f ∷ fs) zero = refl
field-is (f ∷ fs) (suc i) = field-is fs i

there-is : {A : Type 0} (xs : List A) (i : ℕ) → i < length xs → slice_get xs i ≡ None → ⊥
there-is [] i within e = omega (arith, within)
there-is (x ∷ xs) zero within e = none-some x (sym e)
there-is (x ∷ xs) (suc i) within e = there-is xs i (omega (arith, within)) e

pub no-field : (fields : Row) (i : ℕ) → i < length fields → None ≡ field_at fields i → ⊥
no-field fields i within e = there-is fields i within (sym (field-is fields i) ∙ sym e)

module _ (S : Tables) (row : Row) (old new : List ℤ) (i : ℕ) (v : Var) (there : slice_get S.vars i ≡ Some v)
    (room : length old ≡ count_of monitored S.vars) (before : SpellsBefore S row old i) where
  passed : is_monitored v ≡ false → new ≡ old → SpellsBefore S row new (i + 1)
  passed other same x w less is = ⊎_elim
      (λ l. subst (λ (values : List ℤ). SpellsAt S row values x w) (sym same) (before x w l is))
      (λ m. let e : x ≡ i = omega (arith, less, m) in
      let one : v ≡ w = same_Some v w (sym there ∙ ap (λ (k : ℕ). slice_get S.vars k) (sym e) ∙ is.0) in
      absurd (true≢false (sym is.1 ∙ ap (λ (u : Var). is_monitored u) (sym one) ∙ other)))
      (cases_lt x i)

  earlier : (value : ℤ) (x : ℕ) (w : Var) → IsTrue (is_monitored v) → new ≡ slice_set old v.place value → x < i
      → IsVar S monitored x w → SpellsAt S row new x w
  earlier value x w mon put less is =
      let s = before x w less is in
      let apart : place_of monitored S.vars x ≡ v.place → ⊥ = λ e. other-place monitored S.vars x i w v is.0 there is.1 mon
      (λ q. omega (arith, less, q)) (e ∙ own-place S kind.Mon i v (there, mon)) in
      record {
        field = s.field;
        value = s.value;
        in_row = s.in_row;
        in_values = ap (λ (values : List ℤ). slice_get values (place_of monitored S.vars x)) put
            ∙ set-there old v.place value (place_of monitored S.vars x) apart ∙ s.in_values;
        spells = s.spells;
      }

  here : IsTrue (is_monitored v) → IsRead v row old new → SpellsAt S row new i v
  here mon r =
      let place = own-place S kind.Mon i v (there, mon) in
      let within : v.place < length old = subst (λ (n : ℕ). v.place < n) (sym room) (place-within S i v (there, mon)) in
      record {
        field = r.field;
        value = r.value;
        in_row = ap (λ (p : ℕ). slice_get row p) (sym place) ∙ r.in_row;
        in_values = ap (λ (p : ℕ). slice_get new p) (sym place) ∙ ap (λ (values : List ℤ). slice_get values v.place) r.put
            ∙ set-here old v.place r.value within;
        spells = r.spells;
      }

  one-read : IsTrue (is_monitored v) → IsRead v row old new → SpellsBefore S row new (i + 1)
  one-read mon r x w less is = ⊎_elim
      (λ l. earlier r.value x w mon r.put l is)
      (λ m. let e : i ≡ x = omega (arith, less, m) in
      let one : v ≡ w = same_Some v w (sym there ∙ ap (λ (k : ℕ). slice_get S.vars k) e ∙ is.0) in
      subst (λ (k : ℕ). SpellsAt S row new k w) e (subst (λ (u : Var). SpellsAt S row new i u) one (here mon r)))
      (cases_lt x i)

  pub one-more : ReadsField v row old new → (length new ≡ length old) × SpellsBefore S row new (i + 1)
  one-more reads = elim (cases_Bool (is_monitored v)) [
    | inl mon ↦ let r : IsRead v row old new = subst (λ b. MatchBool b (IsRead v row old new) (new ≡ old)) mon reads in
        (ap length r.put ∙ set-length old v.place r.value, one-read mon r)
    | inr other ↦ let same : new ≡ old = subst (λ b. MatchBool b (IsRead v row old new) (new ≡ old)) other reads in
        (ap length same, passed other same)
  ]

  pub has-place : {A : Type 0} (xs : List A) → length xs ≡ count_of monitored S.vars → HasPlace v xs
  has-place xs long mon = subst (λ (n : ℕ). v.place < n) (sym long) (place-within S i v (there, mon))

  -- the field that stops the reading is the first bad one
  first-bad : (bad : Var → List ℕ → Type 0) (k : ℕ) (fault : TraceFault) (column : ℕ) (s : StopsAt v row k fault) → column ≡ v.place + 1
      → bad v s.field
      → FirstBad S row column bad
  first-bad bad k fault column s at is_bad = record {
    x = i;
    v = v;
    is = (there, s.is);
    field = s.field;
    at = ap (λ (p : ℕ). slice_get row p) (sym (own-place S kind.Mon i v (there, s.is))) ∙ s.in_row;
    at_column = at ∙ ap (λ (p : ℕ). p + 1) (own-place S kind.Mon i v (there, s.is));
    is_bad = is_bad;
    values = old;
    before = before;
  }

  pub stops : (k : ℕ) (fault : TraceFault) → length row ≡ count_of monitored S.vars → StopsAt v row k fault → RowFault S k row fault
  stops k faults.Head wide s = absurd s.refused
  stops k (faults.Width scan) wide s = absurd s.refused
  stops k (faults.Value scan column) wide s = (
    s.refused.0,
    wide,
    first-bad IsNoValue k (faults.Value scan column) column s s.refused.1
        s.refused.2,
  )
  stops k (faults.OutOfRange scan column) wide s = (
    s.refused.0,
    wide,
    first-bad IsOutside k (faults.OutOfRange scan column) column s s.refused.1 s.refused.2,
  )
  stops k faults.ManyScans wide s = absurd s.refused
  stops k faults.Empty wide s = absurd s.refused
  stops k faults.NoMemory wide s = absurd s.refused
