-- The values of a fault-free set's variables: their ranges, members and `init` values.
use Rattle.std.proofs.Common.{◌≡◌, ◌∙◌, sym, ap, subst, refl, inl, inr, ℕ, ◌-◌, ◌≤◌, ◌<◌, ℤ, pos, int_le, nat_le}
use Rattle.std.proofs.Common.{Bool, true, false, ◌&&◌, List, [], length, map, slice_get, Option, Some, None, bytes_eq, arith}
use Rattle.std.specs.Prelude.{option_and_then, unsigned_abs, not}
use Rattle.std.specs.List.{list_all}
use Rattle.std.proofs.lemmas.Bool.{and_from, and_parts, cases_Bool, cond-false, cond-true, le-leb, leb-true}
use Rattle.std.proofs.lemmas.Bool.Decides.{Decides-eqb}
use Rattle.std.proofs.lemmas.Int.{ints}
use Rattle.std.proofs.lemmas.List.{length-map}
use Rattle.std.proofs.lemmas.Option.{same_Some}
use Rattle.std.proofs.lemmas.Slice.Eq.{bytes_eq-Decides}
use Rattle.ft_base.specs.Interval.{IsBounded, IsWithin}
use Rattle.ft_tree.specs.declared.item.Word.{Word}
use Rattle.ft_tree.specs.declared.item.Plain.{Plain}
use Rattle.ft_tree.specs.declared.item.Plain.TheVariants as plain
use Rattle.ft_tree.specs.declared.item.Bound.{Bound}
use Rattle.ft_tree.specs.declared.item.Kind.{Kind}
use Rattle.ft_tree.specs.declared.item.Kind.TheVariants as kind
use Rattle.ft_tree.specs.declared.item.VarWord.{VarWord}
use Rattle.ft_tree.specs.declared.item.Item.{Item}
use Rattle.ft_tree.specs.declared.item.Item.TheVariants as item
use Rattle.ft_tree.specs.meaning.Limits.{is_bound, is_count, is_init, is_item, is_kind, is_number, is_plain, is_word}
use Rattle.ft_core.specs.checked.Distinct.{AreDistinct}
use Rattle.ft_core.specs.laws.Lists.{all_pass}
use Rattle.ft_core.specs.laws.Places.{contained}
use Rattle.ft_core.specs.laws.Ranges.{within}
use Rattle.ft_names.specs.declared.card.Card.{Card}
use Rattle.ft_names.specs.declared.card.Card.TheVariants as card
use Rattle.ft_names.specs.declared.card.Values.{Values}
use Rattle.ft_names.specs.declared.card.Values.TheVariants.{Numbers, Truths, Members, Untyped}
use Rattle.ft_names.specs.declared.asked.ExprKind.{ExprKind}
use Rattle.ft_names.specs.declared.asked.ExprKind.TheVariants as expr_kind
use Rattle.ft_names.specs.meaning.Cards.{bound_value, constant_value, declared_values, enum_values, env_of, item_cards, kind_values}
use Rattle.ft_names.specs.meaning.Cards.{number_of, plain_value, signed, values_at}
use Rattle.ft_names.specs.meaning.Declared.{listing, names_in}
use Rattle.ft_names.specs.meaning.First.{first_of}
use Rattle.ft_types.specs.meaning.Mismatch.{is_member_name, is_member_of, is_value_of, named_values, type_kind, values_kind}
use Rattle.ft_types.specs.meaning.Ranges.{init_fault, item_range, kind_fault, lies, range_fault}
use Rattle.ft_build.specs.meaning.Variables.{init_value, is_range, member_names, named_position, position_of, ranged, truth_position}
use Rattle.ft_build.specs.meaning.Variables.{value_members, values_range}
use Rattle.ft_admit.proofs.forms.Lists.{no-fault, or-none, passed}
use Rattle.ft_admit.proofs.forms.Lookups.{carded, member-of}

-- bounds are small

abbrev IsSmall : ℤ → Type 0
IsSmall z = unsigned_abs z ≤ 1000000000

signed-small : (minus : Bool) (z : ℤ) → IsSmall z → IsSmall (signed minus z)
signed-small true z small = omega (arith, ints)
signed-small false z small = small

constant-small : (o : Option Item) → ((it : Item) → o ≡ Some it → is_item it ≡ true) → IsSmall (constant_value o)
constant-small (Some (item.Constant name minus value)) each =
    let lawful = and_parts (is_word name) (is_number value.value) (each (item.Constant name minus value) refl) in
    signed-small minus (pos value.value) (leb-true value.value 1000000000 lawful.1)
constant-small _ each = omega arith

plain-small : (items : List Item) → list_all is_item items ≡ true → (p : Plain) → is_plain p ≡ true → IsSmall (plain_value items p)
plain-small items all (plain.Number value) is = leb-true value 1000000000 is
plain-small items all (plain.Name name) is = by (number_of items name)
  where
    by : (o : Option ℕ) → IsSmall (constant_value (option_and_then (slice_get items) o))
    by None = omega arith
    by (Some k) = constant-small (slice_get items k) (λ it at. all_pass is_item items all it (contained items k it at))
plain-small items all (plain.Truth value) is = omega arith

pub bound-small : (items : List Item) → list_all is_item items ≡ true → (b : Bound) → is_bound b ≡ true → IsSmall (bound_value items b)
bound-small items all b is = signed-small b.minus (plain_value items b.value) (plain-small items all b.value is)

-- bounds that are a range

bounded-from : (lo hi : ℤ) → is_range lo hi ≡ true → IsBounded 1000000000 lo hi
bounded-from lo hi is = grind (arith, ints)

pub bounded : (lo hi : ℤ) → int_le lo hi ≡ true → IsSmall lo → IsSmall hi → IsBounded 1000000000 lo hi
bounded lo hi least a b = grind (arith, ints)

range-from : (lo hi : ℤ) → int_le lo hi ≡ true → IsSmall lo → IsSmall hi → is_range lo hi ≡ true
range-from lo hi least a b =
    and_from (int_le lo hi) (nat_le (unsigned_abs lo) 1000000000 && nat_le (unsigned_abs hi) 1000000000) least
    (and_from (nat_le (unsigned_abs lo) 1000000000) (nat_le (unsigned_abs hi) 1000000000)
    (le-leb (unsigned_abs lo) 1000000000 a) (le-leb (unsigned_abs hi) 1000000000 b))

ranged-bounded : (lo hi : ℤ) → IsBounded 1000000000 (ranged lo hi).0 (ranged lo hi).1
ranged-bounded lo hi = elim (cases_Bool (is_range lo hi)) [
  | inl is ↦ subst (λ (r : ℤ × ℤ). IsBounded 1000000000 r.0 r.1) (sym (cond-true (is_range lo hi) (lo, hi) (pos 0, pos 0) is))
      (bounded-from lo hi is)
  | inr other ↦ subst (λ (r : ℤ × ℤ). IsBounded 1000000000 r.0 r.1) (sym (cond-false (is_range lo hi) (lo, hi) (pos 0, pos 0) other))
      (bounded-from (pos 0) (pos 0) refl)
]

-- the bounds of each variable's range are small
pub range-bounded : (values : Values) → IsBounded 1000000000 (values_range values).0 (values_range values).1
range-bounded (Numbers lo hi) = ranged-bounded lo hi
range-bounded Truths = ranged-bounded (pos 0) (pos 1)
range-bounded (Members k count) = ranged-bounded (pos 0) (pos (count - 1))
range-bounded Untyped = ranged-bounded (pos 0) (pos 0)

-- what holds of the values of each variable's type

pub record IsEnum (items : List Item) (k count : ℕ) : Type 0 where
  pub word : Word
  pub members : List Word
  pub at : slice_get items k ≡ Some (item.EnumType word members)
  pub counts : count ≡ length members
  pub few : count ≤ 64

abbrev pub Fit : List Item → Values → Type 0
Fit items (Numbers lo hi) = is_range lo hi ≡ true
Fit items Truths = Unit {0}
Fit items (Members k count) = IsEnum items k count
Fit items Untyped = Unit {0}

members-few : (word : Word) (members : List Word) → is_item (item.EnumType word members) ≡ true → length members ≤ 64
members-few word members lawful =
    let outer = and_parts (is_word word && is_count 64 (length members)) (list_all is_word members) lawful in
    let inner = and_parts (is_word word) (is_count 64 (length members)) outer.0 in
    leb-true (length members) 64 (and_parts (nat_le 1 (length members)) (nat_le (length members) 64) inner.1).1

range-fits : (items : List Item) → list_all is_item items ≡ true → (lo hi : Bound) → is_bound lo ≡ true → is_bound hi ≡ true
    → range_fault items lo hi ≡ None → is_range (bound_value items lo) (bound_value items hi) ≡ true
range-fits items all lo hi a b none =
    range-from (bound_value items lo) (bound_value items hi)
    (passed (int_le (bound_value items lo) (bound_value items hi)) _ none) (bound-small items all lo a) (bound-small items all hi b)

module _ (items : List Item) (all : list_all is_item items ≡ true) (ranges : first_of (item_range items) items ≡ None) where
  lawful-at : (k : ℕ) (it : Item) → slice_get items k ≡ Some it → is_item it ≡ true
  lawful-at k it at = all_pass is_item items all it (contained items k it at)

  enum-fits : (own : Bool) (word : Word) (members : List Word) (k : ℕ) → slice_get items k ≡ Some (item.EnumType word members)
      → Fit items (enum_values own k (length members))
  enum-fits true word members k at = record {
    word = word;
    members = members;
    at = at;
    counts = refl;
    few = members-few word members (lawful-at k (item.EnumType word members) at);
  }
  enum-fits false word members k at = tt

  declared-fits : (name : List ℕ) (k : ℕ) (o : Option Item) → slice_get items k ≡ o → Fit items (declared_values items name k o)
  declared-fits name k (Some (item.RangeType word lo hi)) at =
      let lawful = and_parts (is_word word && is_bound lo) (is_bound hi) (lawful-at k (item.RangeType word lo hi) at) in
      range-fits items all lo hi (and_parts (is_word word) (is_bound lo) lawful.0).1 lawful.1
      (no-fault (item_range items) items ranges (item.RangeType word lo hi) (contained items k (item.RangeType word lo hi) at))
  declared-fits name k (Some (item.EnumType word members)) at = enum-fits (bytes_eq name word.text) word members k at
  declared-fits name k _ at = tt

  kind-fits : (of : Kind) → is_kind of ≡ true → kind_fault items of ≡ None → Fit items (kind_values items of)
  kind-fits (kind.Range lo hi) lawful none =
      let both = and_parts (is_bound lo) (is_bound hi) lawful in
      range-fits items all lo hi both.0 both.1 none
  kind-fits (kind.Named word) lawful none = by (number_of items word.text)
    where
      by : (o : Option ℕ) → Fit items (values_at items word.text o)
      by None = tt
      by (Some k) = declared-fits word.text k (slice_get items k) refl
  kind-fits kind.Bool lawful none = tt

  -- of each declared variable
  pub values-fit : (k : ℕ) (w : VarWord) (name : Word) (of : Kind) (init : Bound)
      → slice_get items k ≡ Some (item.Variable w name of init)
      → Fit items (kind_values items of) × (init_fault items (kind_values items of) init ≡ None)
  values-fit k w name of init at =
      let lawful = and_parts (is_word name && is_kind of) (is_init init) (lawful-at k (item.Variable w name of init) at) in
      let none = or-none (kind_fault items of) (init_fault items (kind_values items of) init)
      (no-fault (item_range items) items ranges (item.Variable w name of init) (contained items k (item.Variable w name of init) at)) in
      (kind-fits of (and_parts (is_word name) (is_kind of) lawful.0).1 none.0, none.1)

-- members

pub value-members : (items : List Item) (k count : ℕ) (e : IsEnum items k count)
    → value_members items (Members k count) ≡ map (λ (w : Word). w.text) e.members
value-members items k count e = ap member_names e.at

members-count : (items : List Item) (k count : ℕ) (e : IsEnum items k count) → length (value_members items (Members k count)) ≡ count
members-count items k count e =
    ap length (value-members items k count e) ∙ length-map e.members (λ (w : Word). w.text) ∙ sym e.counts

pub few-members : (items : List Item) (values : Values) → Fit items values → length (value_members items values) ≤ 64
few-members items (Numbers lo hi) fit = omega arith
few-members items Truths fit = omega arith
few-members items (Members k count) fit =
    let long = members-count items k count fit in
    let few = fit.few in
    omega arith
few-members items Untyped fit = omega arith

positions-range : (count : ℕ) → count ≤ 64 → ranged (pos 0) (pos (count - 1)) ≡ (pos 0, pos (count - 1))
positions-range count few =
    cond-true (is_range (pos 0) (pos (count - 1))) (pos 0, pos (count - 1)) (pos 0, pos 0)
    (range-from (pos 0) (pos (count - 1)) (le-leb 0 (count - 1) (omega arith)) (omega arith) (omega arith))

pub enum-range : (items : List Item) (values : Values) → Fit items values → 0 < length (value_members items values)
    → values_range values ≡ (pos 0, pos (length (value_members items values) - 1))
enum-range items (Numbers lo hi) fit some = absurd (omega arith)
enum-range items Truths fit some = refl
enum-range items (Members k count) fit some =
    positions-range count fit.few ∙ ap (λ n. (pos 0, pos (n - 1))) (sym (members-count items k count fit))
enum-range items Untyped fit some = absurd (omega arith)

-- `init` values

truth-within : (p : Plain) → IsWithin (pos 0, pos 1) (truth_position p)
truth-within (plain.Truth true) = within (pos 0, pos 1) (pos 1) refl
truth-within (plain.Truth false) = within (pos 0, pos 1) (pos 0) refl
truth-within (plain.Name name) = within (pos 0, pos 1) (pos 0) refl
truth-within (plain.Number value) = within (pos 0, pos 1) (pos 0) refl

abbrev members_in : Item → List Word
members_in (item.EnumType word members) = members
members_in _ = []

module _ (items : List Item) (differ : AreDistinct (names_in (listing 0 items))) where
  own-type : (own : Bool) (name : List ℕ) (word : Word) (members : List Word) (n k count : ℕ) → bytes_eq name word.text ≡ own
      → slice_get items n ≡ Some (item.EnumType word members) → enum_values own n (length members) ≡ Members k count
      → env_of items name ≡ Some (card.TypeName (Members k count))
  own-type true name word members n k count own at is =
      let called = (bytes_eq-Decides name word.text).0 own in
      carded items differ n (item.EnumType word members) name (card.TypeName (Members k count)) at
      (contained (item_cards items n (item.EnumType word members)) 0 (name, card.TypeName (Members k count))
      (λ i. Some (sym called i, card.TypeName (is i))))
  own-type false name word members n k count own at is = cc

  declared-type : (name : List ℕ) (n k count : ℕ) (o : Option Item) → slice_get items n ≡ o
      → declared_values items name n o ≡ Members k count → env_of items name ≡ Some (card.TypeName (Members k count))
  declared-type name n k count (Some (item.EnumType word members)) at is =
      own-type (bytes_eq name word.text) name word members n k count refl at is
  declared-type name n k count _ at is = cc

  -- the name of an enum type stands for it
  enum-type : (name : List ℕ) (k count : ℕ) (o : Option ℕ) → values_at items name o ≡ Members k count
      → env_of items name ≡ Some (card.TypeName (Members k count))
  enum-type name k count None is = cc
  enum-type name k count (Some n) is = declared-type name n k count (slice_get items n) refl is

  member-kind : (of : Kind) (k count : ℕ) → kind_values items of ≡ Members k count
      → type_kind (env_of items) of ≡ expr_kind.Members k
  member-kind (kind.Range lo hi) k count is = cc
  member-kind (kind.Named word) k count is =
      ap (λ o. values_kind (named_values o)) (enum-type word.text k count (number_of items word.text) is)
  member-kind kind.Bool k count is = cc

  card-position : (k count : ℕ) → IsEnum items k count → (name : List ℕ) (o : Option Card) → env_of items name ≡ o
      → is_member_of k o ≡ true → position_of o < count
  card-position k count e name (Some (card.Member number position)) found is =
      let m = member-of items name number position found in
      let of_type : number ≡ k = (Decides-eqb number k).0 is in
      let there : slice_get items k ≡ Some (item.EnumType m.3.word m.3.members) =
      ap (slice_get items) (sym of_type ∙ m.3.numbered) ∙ m.2 ∙ ap (λ (it : Item). Some it) m.3.is in
      let one : item.EnumType m.3.word m.3.members ≡ item.EnumType e.word e.members = same_Some _ _ (sym there ∙ e.at) in
      let long : length m.3.members ≡ length e.members = ap (λ (it : Item). length (members_in it)) one in
      let below = m.3.within in
      let counts = e.counts in
      omega arith
  card-position k count e name _ found is = cc

  member-position : (k count : ℕ) → IsEnum items k count → (p : Plain) → is_member_name (env_of items) k p ≡ true
      → named_position (env_of items) p < count
  member-position k count e (plain.Name name) is = card-position k count e name (env_of items name) refl is
  member-position k count e (plain.Number value) is = cc
  member-position k count e (plain.Truth value) is = cc

  position-within : (count n : ℕ) → count ≤ 64 → n < count → IsWithin (ranged (pos 0) (pos (count - 1))) (pos n)
  position-within count n few below =
      subst (λ r. IsWithin r (pos n)) (sym (positions-range count few)) (grind (arith, ints))

  pub init-within : (of : Kind) (init : Bound) (values : Values) → kind_values items of ≡ values → Fit items values
      → init_fault items values init ≡ None → is_value_of (env_of items) (type_kind (env_of items) of) init ≡ true
      → IsWithin (values_range values) (init_value items (env_of items) values init)
  init-within of init (Numbers lo hi) is fit none value =
      subst (λ r. IsWithin r (bound_value items init)) (sym (cond-true (is_range lo hi) (lo, hi) (pos 0, pos 0) fit))
      (within (lo, hi) (bound_value items init) (passed (lies lo hi (bound_value items init)) _ none))
  init-within of init Truths is fit none value = truth-within init.value
  init-within of init (Members k count) is fit none value =
      let asked : is_value_of (env_of items) (expr_kind.Members k) init ≡ true =
      ap (λ (e : ExprKind). is_value_of (env_of items) e init) (sym (member-kind of k count is)) ∙ value in
      position-within count (named_position (env_of items) init.value) fit.few
      (member-position k count fit init.value (and_parts (not init.minus) (is_member_name (env_of items) k init.value) asked).1)
  init-within of init Untyped is fit none value = within (pos 0, pos 0) (pos 0) refl
