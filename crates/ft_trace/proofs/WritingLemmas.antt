-- A history that is written reads back.
use Rattle.std.proofs.Common.{◌≡◌, ◌∙◌, sym, ap, subst, refl, ℕ, zero, suc, ◌+◌, ◌-◌, ◌<◌, ◌≤◌, ℤ, pos, negsuc, Bool, true, false, ◌==◌}
use Rattle.std.proofs.Common.{◌&&◌, cond, List, [], ◌∷◌, ◌++◌, length, map, slice_get, slice_index_or, Option, Some, None, arith, inl, inr}
use Rattle.std.proofs.Common.{unsigned_abs, flat_map}
use Rattle.std.proofs.lemmas.Int.{ints}
use Rattle.std.proofs.Math.Logic.{∥∥₁_elim}
use Rattle.std.proofs.Props.{props}
use Rattle.std.specs.Prelude.{IfOk, IsTrue, Result, Ok, Err, ◌≢◌, ◌≤ℤ◌, nat_lt, option_map}
use Rattle.std.specs.List.{filter, list_all, position, position_or_len}
use Rattle.std.specs.Str.{bytes_eq}
use Rattle.std.proofs.lemmas.Bool.{cases_Bool, cond-false, cond-true, false_from_ne_true, lt-ltb, true≢false}
use Rattle.std.specs.Cmp.Lexicographic.{bytes_decides}
use Rattle.std.proofs.lemmas.List.Sums.{position_or_len_is}
use Rattle.std.proofs.lemmas.List.{append-nil, length-map}
use Rattle.std.proofs.lemmas.Option.{none-some, same_Some, slice_get-get_or}
use Rattle.csv.specs.Reading.{strip_bom}
use Rattle.csv.specs.Writing.{default_writer, read_back, row_text}
use Rattle.csv.specs.declared.parser.State.TheVariants as st
use Rattle.csv.proofs.RoundTrip.{rows_text}
use Rattle.ft_base.specs.Interval.{IsWithin}
use Rattle.ft_core.specs.declared.tables.VarKind.TheVariants as kind
use Rattle.ft_core.specs.declared.tables.Tables.{Tables}
use Rattle.ft_core.specs.declared.tables.Var.{Var}
use Rattle.ft_core.specs.meaning.Kinds.{Kinds, after_first, count_of, is_of, monitored, place_of}
use Rattle.ft_core.specs.checked.Checked.{AreChecked, IsChecked}
use Rattle.ft_core.specs.checked.Distinct.{AreDistinct}
use Rattle.ft_core.specs.checked.Names.{fact_names, is_set_name, memory_name}
use Rattle.ft_mean.specs.meaning.Reading.{IsListOf, IsVar, Scans, reading_of}
use Rattle.ft_trace.specs.meaning.Decimal.{number_of}
use Rattle.ft_trace.specs.meaning.Field.{field_value}
use Rattle.ft_trace.specs.rows.Row.{is_monitored}
use Rattle.ft_trace.specs.meaning.Source.{records_at}
use Rattle.ft_trace.specs.meaning.Spelling.{IsHeader, Row, SpellAll, SpellsAt, SpellsHistory, records_of}
use Rattle.ft_trace.specs.rows.Writer.{HasValue, IsMember}
use Rattle.ft_trace.specs.meaning.Writing.{field_of, fields_by, line_of, member_name, name_of, scan_field, trace_text}
use Rattle.ft_trace.proofs.HeaderLemmas.{all-at}
use Rattle.ft_trace.proofs.LineLemmas.{ArePlain, IsPlain, and-first, and-second, line-of-fields, name-plain, named-line, number-plain}
use Rattle.ft_trace.proofs.LineLemmas.{plain-by}
use Rattle.ft_trace.proofs.NumberLemmas.{number-is}
use Rattle.ft_trace.proofs.Written.{records-written}
use Rattle.ft_core.specs.laws.VarPlaces.{own-place}
use Rattle.ft_trace.proofs.PlaceLemmas.{filtered, place-within}

there-by : (field : Var → List ℕ) (kinds : Kinds) → ((x : ℕ) (v : Var) → kinds x v ≡ is_monitored v)
    → (vars : List Var) (x : ℕ) (v : Var) → slice_get vars x ≡ Some v
    → is_monitored v ≡ true → slice_get (fields_by field vars) (place_of kinds vars x) ≡ Some (field v)
there-by field kinds same [] x v e is = absurd (none-some v e)
there-by field kinds same (u ∷ vars) zero v e is =
    let one : u ≡ v = same_Some u v e in
    let on : is_monitored u ≡ true = ap is_monitored one ∙ is in
    ap (λ b. slice_get (map field (cond b (u ∷ filter is_monitored vars) (filter is_monitored vars))) 0) on
    ∙ ap (λ (w : Var). Some (field w)) one
there-by field kinds same (u ∷ vars) (suc x) v e is =
    let rest = there-by field (after_first kinds) (λ y. same (suc y)) vars x v e is in
    let n = place_of (after_first kinds) vars x in
    ap (λ b. slice_get (map field (cond (is_monitored u) (u ∷ filter is_monitored vars) (filter is_monitored vars))) (cond b (suc n) n))
    (same zero u)
    ∙ elim (is_monitored u) as (λ b. slice_get (map field (cond b (u ∷ filter is_monitored vars) (filter is_monitored vars)))
    (cond b (suc n) n) ≡ Some (field v)) [
      | true ↦ rest
      | false ↦ rest
    ]

-- at the place of a monitored variable stands its field
pub field-there : (field : Var → List ℕ) (vars : List Var) (x : ℕ) (v : Var) → slice_get vars x ≡ Some v → is_monitored v ≡ true
    → slice_get (fields_by field vars) (place_of monitored vars x) ≡ Some (field v)
field-there field vars = there-by field monitored (λ x v. refl) vars

pub fields-count : (field : Var → List ℕ) (vars : List Var) → length (fields_by field vars) ≡ count_of monitored vars
fields-count field vars = length-map (filter is_monitored vars) field ∙ sym (filtered vars)

-- the names are the header
pub is-header : (S : Tables) → IsHeader S (fields_by name_of S.vars)
is-header S = record { width = fields-count name_of S.vars; names = λ x v is. field-there name_of S.vars x v is.0 is.1 }

-- the value lies between two bounds
abs-within : (lo z hi : ℤ) (limit : ℕ) → lo ≤ℤ z → z ≤ℤ hi → unsigned_abs lo ≤ limit → unsigned_abs hi ≤ limit → unsigned_abs z ≤ limit
abs-within lo (pos n) (pos m) limit a b c d = grind (arith, ints, b, d)
abs-within lo (pos n) (negsuc m) limit a b c d = absurd (grind (arith, ints, b))
abs-within (negsuc m) (negsuc n) hi limit a b c d = grind (arith, ints, a, c)
abs-within (pos m) (negsuc n) hi limit a b c d = absurd (grind (arith, ints, a))

nonzero : (n : ℕ) → (n == 0) ≡ false → 0 < n
nonzero zero e = absurd (true≢false e)
nonzero (suc n) e = omega arith

-- a member's name stands at its place alone
position-is : (members : List (List ℕ)) (k : ℕ) → k < length members → AreDistinct members
    → position (λ m. bytes_eq m (slice_index_or members k [])) members ≡ Some k
position-is members k within distinct =
    let name = slice_index_or members k [] in
    let first : position_or_len (λ m. bytes_eq m name) members ≡ k =
    position_or_len_is (λ m. bytes_eq m name) members k [] (omega (arith, within))
    (λ j less. false_from_ne_true _ (λ same. let l : j < length members = omega (arith, less, within) in
    let one : j ≡ k = distinct j k name (slice_get-get_or members j [] l
    ∙ ap (λ (n : List ℕ). Some n) ((bytes_decides (slice_index_or members j []) name).0 same)) (slice_get-get_or members k [] within) in
    omega (arith, less, one)))
    (λ l. (bytes_decides name name).1 refl) in
    ap (λ n. cond (nat_lt n (length members)) (Some n) None) first ∙ cond-true (nat_lt k (length members)) _ _
    (lt-ltb k (length members) within)

-- what was checked of a set
checked : (S : Tables) → AreChecked S.name S.splits S.depth S.vars S.memories S.tables S.first S.always S.step S.blocks
unfolding IsChecked
checked S = S.checked

-- a scan of a list is a list of its own
pub one-scan : (S : Tables) (h : Scans) (t : ℕ) → t < length h → IsListOf S monitored h
    → IsListOf S monitored (slice_index_or h t [] ∷ [])
one-scan S h t within list = record { widths = width; ranges = range }
  where
    width : (k : ℕ) → k < 1 → length (slice_index_or (slice_index_or h t [] ∷ []) k []) ≡ count_of monitored S.vars
    width zero l = list.widths t within
    width (suc k) l = absurd (omega (arith, l))

    range : (k x : ℕ) (v : Var) → k < 1 → IsVar S monitored x v
        → IsWithin v.range (reading_of S monitored (slice_index_or h t [] ∷ []) k x)
    range zero x v l is = list.ranges t x v within is
    range (suc k) x v l is = absurd (omega (arith, l))

module _ (S : Tables) (scan : List ℤ) (list : IsListOf S monitored (scan ∷ [])) (x : ℕ) (v : Var) (is : IsVar S monitored x v) where
  is-of : is_of S.vars monitored x ≡ true
  is-of = ap (λ (o : Option Var). elim o [ None ↦ false | Some w ↦ monitored x w ]) is.0 ∙ is.1

  abbrev pub value : ℤ
  value = slice_index_or scan v.place (pos 0)

  at-place : slice_index_or scan (place_of monitored S.vars x) (pos 0) ≡ value
  at-place = ap (λ p. slice_index_or scan p (pos 0)) (sym (own-place S kind.Mon x v is))

  in-range : IsWithin v.range value
  in-range = subst (λ (z : ℤ). IsWithin v.range z) (cond-true (is_of S.vars monitored x) _ _ is-of ∙ at-place)
      (list.ranges 0 x v (omega arith) is)

  member : IsMember v value
  member some = by value refl in-range ((checked S).enums x v is.0 some)
    where
      by : (z : ℤ) → value ≡ z → IsWithin v.range z → v.range ≡ (pos 0, pos (length v.members - 1))
          → (k : ℕ) × (value ≡ pos k) × (k < length v.members)
      by (pos k) e within range = let l = subst (λ (r : ℤ × ℤ). IsWithin r (pos k)) range within in (k, e, grind (arith, ints, l.1, some))
      by (negsuc k) e within range = let l = subst (λ (r : ℤ × ℤ). IsWithin r (negsuc k)) range within in absurd (grind (arith, ints, l.0))

  pub has-value : HasValue scan v
  has-value = (subst (λ n. v.place < n) (sym (list.widths 0 (omega arith))) (place-within S x v is), member)

  small : unsigned_abs value ≤ 1000000000
  small = let b = (checked S).ranges x v is.0 in abs-within v.range.0 value v.range.1 1000000000 in-range.0 in-range.1 b.1 b.2

  reads-back : field_value v (field_of v value) ≡ Some value
  reads-back = elim (cases_Bool (length v.members == 0)) [
    | inl number ↦
        cond-true (length v.members == 0) _ _ number
        ∙ ap number_of (cond-true (length v.members == 0) _ _ number)
        ∙ number-is value (omega (arith, small))
    | inr enum ↦
        let m = member (nonzero (length v.members) enum) in
        let field : field_of v value ≡ slice_index_or v.members m.0 [] = cond-false (length v.members == 0) _ _ enum
        ∙ ap (member_name v) m.1 in
        cond-false (length v.members == 0) _ _ enum
        ∙ ap (λ (f : List ℕ). option_map (λ k. pos k) (position (λ m. bytes_eq m f) v.members)) field
        ∙ ap (λ o. option_map (λ k. pos k) o) (position-is v.members m.0 m.2 ((checked S).names.members_differ x v is.0))
        ∙ ap (λ (z : ℤ). Some z) (sym m.1)
  ]

  pub field-plain : IsPlain (field_of v value)
  field-plain = elim (cases_Bool (length v.members == 0)) [
    | inl number ↦ subst IsPlain (sym (cond-true (length v.members == 0) _ _ number)) (number-plain value (omega (arith, small)))
    | inr enum ↦
        let m = member (nonzero (length v.members) enum) in
        let field : field_of v value ≡ slice_index_or v.members m.0 [] = cond-false (length v.members == 0) _ _ enum
        ∙ ap (member_name v) m.1 in
        subst IsPlain (sym field) (name-plain (slice_index_or v.members m.0 [])
        (all-at is_set_name v.members m.0 _ ((checked S).names.members x v is.0) (slice_get-get_or v.members m.0 [] m.2)))
  ]

  pub spells-at : SpellsAt S (fields_by (scan_field scan) S.vars) scan x v
  spells-at = record {
    field = field_of v value;
    value = value;
    in_row = field-there (scan_field scan) S.vars x v is.0 is.1;
    in_values = ap (λ p. slice_get scan p) (sym (own-place S kind.Mon x v is)) ∙ slice_get-get_or scan v.place (pos 0) has-value.0;
    spells = (reads-back, in-range);
  }

abbrev scan-fields : Tables → List ℤ → Row
scan-fields S scan = fields_by (scan_field scan) S.vars

-- each scan of the list is a list of its own
abbrev EachScan : Tables → Scans → Type 0
EachScan S h = (t : ℕ) → t < length h → IsListOf S monitored (slice_index_or h t [] ∷ [])

later : (S : Tables) (scan : List ℤ) (h : Scans) → EachScan S (scan ∷ h) → EachScan S h
later S scan h each t l = each (suc t) (omega (arith, l))

at-first : (S : Tables) (scan : List ℤ) (h : Scans) → EachScan S (scan ∷ h) → IsListOf S monitored (scan ∷ [])
at-first S scan h each = each 0 (omega arith)

-- a monitored variable exists
pub some-field : (S : Tables) (field : Var → List ℕ) → fields_by field S.vars ≡ [] → ⊥
some-field S field none = ∥∥₁_elim (checked S).has_monitored (hlevel props) (λ h. by h.0 (slice_get S.vars h.0) refl h.1)
  where
    by : (x : ℕ) (o : Option Var) → slice_get S.vars x ≡ o → IsTrue (elim o [ None ↦ false | Some v ↦ monitored x v ]) → ⊥
    by x None e is = true≢false (sym is)
    by x (Some v) e is = none-some (field v) (ap (λ (row : Row). slice_get row (place_of monitored S.vars x)) (sym none)
        ∙ field-there field S.vars x v e is)

front-named : (xs ys : List (List ℕ)) → list_all is_set_name (xs ++ ys) ≡ true → list_all is_set_name xs ≡ true
front-named [] ys e = refl
front-named (x ∷ xs) ys e =
    ap (λ b. b && list_all is_set_name xs) (and-first (is_set_name x) (list_all is_set_name (xs ++ ys)) e)
    ∙ front-named xs ys (and-second (is_set_name x) (list_all is_set_name (xs ++ ys)) e)

named-in : (vars : List Var) (x : ℕ) (v : Var) → list_all is_set_name (map (λ v. v.name) vars) ≡ true → slice_get vars x ≡ Some v
    → is_set_name v.name ≡ true
named-in [] x v all e = absurd (none-some v e)
named-in (u ∷ us) zero v all e = ap (λ (w : Var). is_set_name w.name) (sym (same_Some u v e))
    ∙ and-first (is_set_name u.name) (list_all is_set_name (map (λ v. v.name) us)) all
named-in (u ∷ us) (suc x) v all e = named-in us x v (and-second (is_set_name u.name) (list_all is_set_name (map (λ v. v.name) us)) all) e

-- a variable's name is a name
named : (S : Tables) (x : ℕ) (v : Var) → slice_get S.vars x ≡ Some v → is_set_name v.name ≡ true
named S x v e =
    let vars = map (λ v. v.name) S.vars in
    let memories = map memory_name S.memories in
    let blocks = map (λ b. b.name) S.blocks in
    let facts = flat_map (λ b. flat_map fact_names b.facts) S.blocks in
    named-in S.vars x v (front-named vars memories (front-named (vars ++ memories) blocks
    (front-named ((vars ++ memories) ++ blocks) facts (checked S).names.declared))) e

named-fields : (vars : List Var) → ((x : ℕ) (v : Var) → slice_get vars x ≡ Some v → is_set_name v.name ≡ true)
    → list_all is_set_name (fields_by name_of vars) ≡ true
named-fields [] each = refl
named-fields (u ∷ us) each = by (is_monitored u) (each 0 u refl) (named-fields us (λ x. each (suc x)))
  where
    by : (b : Bool) → is_set_name u.name ≡ true → list_all is_set_name (fields_by name_of us) ≡ true
        → list_all is_set_name (map name_of (cond b (u ∷ filter is_monitored us) (filter is_monitored us))) ≡ true
    by true here rest = ap (λ x. x && list_all is_set_name (fields_by name_of us)) here ∙ rest
    by false here rest = rest

header-plain : (S : Tables) → ArePlain (fields_by name_of S.vars)
header-plain S = plain-by name_of S.vars (λ k v there mon. name-plain v.name (named S k v there))

scan-plain : (S : Tables) (scan : List ℤ) → IsListOf S monitored (scan ∷ []) → ArePlain (scan-fields S scan)
scan-plain S scan list = plain-by (scan_field scan) S.vars (λ k v there mon. field-plain S scan list k v (there, mon))

scan-lines : (S : Tables) (h : Scans) → EachScan S h
    → flat_map (λ scan. row_text default_writer (scan-fields S scan)) h ≡ flat_map (λ scan. line_of (scan-fields S scan)) h
scan-lines S [] each = refl
scan-lines S (scan ∷ h) each =
    ap (λ (t : List ℕ). t ++ flat_map (λ scan. row_text default_writer (scan-fields S scan)) h)
    (line-of-fields (scan-fields S scan) (scan-plain S scan (at-first S scan h each)) (some-field S (scan_field scan)))
    ∙ ap (λ (t : List ℕ). line_of (scan-fields S scan) ++ t) (scan-lines S h (later S scan h each))

-- what the writer of csv wrote is the text of the history
pub written-text : (S : Tables) (h : Scans) → IsListOf S monitored h
    → row_text default_writer (fields_by name_of S.vars) ++ flat_map (λ scan. row_text default_writer (fields_by (scan_field scan) S.vars))
    h ≡ trace_text S h
written-text S h list =
    ap (λ (t : List ℕ). t ++ flat_map (λ scan. row_text default_writer (scan-fields S scan)) h)
    (line-of-fields (fields_by name_of S.vars) (header-plain S) (some-field S name_of))
    ∙ ap (λ (t : List ℕ). line_of (fields_by name_of S.vars) ++ t) (scan-lines S h (λ t l. one-scan S h t l list))

in-rows : (S : Tables) (h : Scans) → flat_map (λ scan. row_text default_writer (scan-fields S scan)) h ≡ rows_text (map (scan-fields S) h)
unfolding rows_text
in-rows S [] = refl
in-rows S (scan ∷ h) = ap (λ (t : List ℕ). row_text default_writer (scan-fields S scan) ++ t) (in-rows S h)

back : (row : Row) → (row ≡ [] → ⊥) → read_back row ≡ row
back [] some = absurd (some refl)
back (x ∷ rest) some = refl

backs : (S : Tables) (h : Scans) → map read_back (map (scan-fields S) h) ≡ map (scan-fields S) h
backs S [] = refl
backs S (scan ∷ h) =
    ap (λ (row : Row). row ∷ map read_back (map (scan-fields S) h)) (back (scan-fields S scan) (some-field S (scan_field scan)))
    ∙ ap (λ (rows : List Row). scan-fields S scan ∷ rows) (backs S h)

no-mark : (b : ℕ) (bs : List ℕ) → (b == 0xEF) ≡ false → strip_bom (b ∷ bs) ≡ b ∷ bs
unfolding strip_bom
no-mark b [] e = refl
no-mark b (c ∷ []) e = refl
no-mark b (c ∷ d ∷ rest) e = ap (λ x. cond (x && (c == 0xBB) && (d == 0xBF)) rest (b ∷ c ∷ d ∷ rest)) e

unmarked : (S : Tables) (h : Scans) → strip_bom (trace_text S h) ≡ trace_text S h
unmarked S h =
    let line = named-line (fields_by name_of S.vars) (some-field S name_of) (named-fields S.vars (named S)) in
    let text : trace_text S h ≡ line.0 ∷ (line.1 ++ flat_map (λ scan. line_of (scan-fields S scan)) h) =
    ap (λ (t : List ℕ). t ++ flat_map (λ scan. line_of (scan-fields S scan)) h) line.2 in
    ap strip_bom text ∙ no-mark line.0 _ line.3 ∙ sym text

spell-all : (S : Tables) (h : Scans) → EachScan S h → SpellAll S (map (scan-fields S) h) h
unfolding SpellAll
spell-all S [] each = tt
spell-all S (scan ∷ h) each =
    let list = at-first S scan h each in (
      record {
        width = fields-count (scan_field scan) S.vars;
        count = list.widths 0 (omega arith);
        each =
            λ x v is. spells-at S scan list x v is;
      },
      spell-all S h (later S scan h each),
    )

all-rows : (S : Tables) (h : Scans) → IsListOf S monitored h
    → trace_text S h ≡ rows_text (fields_by name_of S.vars ∷ map (scan-fields S) h)
unfolding rows_text
all-rows S h list = sym (written-text S h list) ∙ ap (λ (t : List ℕ). row_text default_writer (fields_by name_of S.vars) ++ t) (in-rows S h)

-- the text of a history spells it
pub text-spells : (S : Tables) (h : Scans) → IsListOf S monitored h → h ≢ [] → length h ≤ 100000 → SpellsHistory S (trace_text S h) h
text-spells S h list some few = record {
  spells = record {
    header = fields_by name_of S.vars;
    rows = map (scan-fields S) h;
    records = rows;
    is_header = is-header S;
    spell = spell-all S h (λ t l. one-scan S h t l list);
    few = few;
  };
  nonempty = some;
}
  where
    rows : records_of (trace_text S h) ≡ fields_by name_of S.vars ∷ (map (scan-fields S) h ++ [])
    rows =
        ap (λ (bytes : List ℕ). records_at st.StartRecord bytes) (unmarked S h ∙ all-rows S h list)
        ∙ records-written (fields_by name_of S.vars ∷ map (scan-fields S) h)
        ∙ ap (λ (row : Row). row ∷ map read_back (map (scan-fields S) h)) (back (fields_by name_of S.vars) (some-field S name_of))
        ∙ ap (λ (rs : List Row). fields_by name_of S.vars ∷ rs) (backs S h ∙ sym (append-nil (map (scan-fields S) h)))

-- so does a result that is this text
pub spelled : {E : Type 0} (S : Tables) (h : Scans) → IsListOf S monitored h → (r : Result (List ℕ) E)
    → IfOk r (λ text. text ≡ trace_text S h)
    → IfOk r (λ text. h ≢ [] → length h ≤ 100000 → SpellsHistory S text h)
spelled S h list (Ok text) e = λ some few. subst (λ (b : List ℕ). SpellsHistory S b h) (sym e) (text-spells S h list some few)
spelled S h list (Err f) e = e
