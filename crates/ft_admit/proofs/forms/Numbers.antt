-- The numbers of a fault-free set: its period, splits and depth, holds and bands, and that some variable is monitored and some controlled.
use Rattle.std.proofs.Common.{◌≡◌, ◌∙◌, sym, ap, subst, refl, ℕ, ◌≤◌, ℤ, pos, int_le, Bool, true, ◌&&◌, List, take, slice_get}
use Rattle.std.proofs.Common.{Option, Some, None, arith, ◌<ℤ◌, ◌≤ℤ◌}
use Rattle.std.specs.Prelude.{int_lt}
use Rattle.std.specs.List.{Contains, flat_map, list_all, list_any}
use Rattle.std.specs.Option.{option_or}
use Rattle.std.proofs.lemmas.Bool.{and_parts}
use Rattle.std.proofs.lemmas.Int.{ints}
use Rattle.ft_base.specs.Interval.{IsBounded, IsWithin}
use Rattle.ft_tree.specs.declared.item.Word.{Word}
use Rattle.ft_tree.specs.declared.item.Bound.{Bound}
use Rattle.ft_tree.specs.declared.item.Kind.{Kind}
use Rattle.ft_tree.specs.declared.item.Number.{Number}
use Rattle.ft_tree.specs.declared.expr.Expr.{Expr}
use Rattle.ft_tree.specs.declared.item.SectionWord.{SectionWord}
use Rattle.ft_tree.specs.declared.item.VarWord.{VarWord}
use Rattle.ft_tree.specs.declared.item.VarWord.TheVariants as word
use Rattle.ft_tree.specs.declared.item.Item.{Item}
use Rattle.ft_tree.specs.declared.item.Item.TheVariants as item
use Rattle.ft_tree.specs.meaning.Limits.{is_bound, is_expr, is_item, is_side, is_word}
use Rattle.ft_core.specs.declared.tables.Memory.TheVariants.{Held, Hyst}
use Rattle.ft_core.specs.declared.tables.Side.{Side}
use Rattle.ft_core.specs.declared.term.Cond.{Cond}
use Rattle.ft_core.specs.declared.term.Term.{Term}
use Rattle.ft_core.specs.meaning.Kinds.{of_kind, same_kind}
use Rattle.ft_core.specs.checked.Checked.{HasSome}
use Rattle.ft_core.specs.checked.Sound.{IsHold, IsPeriod}
use Rattle.ft_core.specs.laws.Lists.{all_pass, from_one}
use Rattle.ft_core.specs.laws.Places.{contained}
use Rattle.ft_core.specs.laws.Ranges.{within}
use Rattle.ft_names.specs.meaning.Cards.{Env, bound_value, declares_variable}
use Rattle.ft_names.specs.meaning.First.{first_of}
use Rattle.ft_names.specs.meaning.NameFaults.{declares_controlled, declares_monitored, no_variable, wanted}
use Rattle.ft_types.specs.meaning.Ranges.{item_band, item_hold, lies, number_fault, option_fault, set_range}
use Rattle.ft_build.specs.meaning.Sets.{or_default}
use Rattle.ft_build.specs.meaning.Tables.{build_memory}
use Rattle.ft_build.specs.meaning.Variables.{no_places, var_kind, vars_from}
use Rattle.ft_admit.proofs.forms.Lists.{no-fault, nothing-in, only, or-none, passed, some-passes, times}
use Rattle.ft_admit.proofs.forms.Values.{bound-small, bounded}
use Rattle.ft_admit.proofs.forms.Variables.{declared_var, is-of, var-at}

number-within : (lo hi : ℤ) (n : Number) → number_fault lo hi n ≡ None → IsWithin (lo, hi) (pos n.value)
number-within lo hi n none = within (lo, hi) (pos n.value) (passed (lies lo hi (pos n.value)) _ none)

at-most : (n most : ℕ) → pos n ≤ℤ pos most → n ≤ most
at-most n most less = omega (arith, ints)

-- the period, the splits and the depth
pub numbers-within : (period : Number) (splits depth : Option Number) → set_range period splits depth ≡ None
    → IsPeriod (pos period.value) × (or_default 200000 splits ≤ 200000) × (1 ≤ or_default 4 depth) × (or_default 4 depth ≤ 8)
numbers-within period splits depth none =
    let first = or-none (number_fault (pos 1) (pos 10000) period)
    (option_or (option_fault (pos 0) (pos 200000) splits) (option_fault (pos 1) (pos 8) depth)) none in
    let rest = or-none (option_fault (pos 0) (pos 200000) splits) (option_fault (pos 1) (pos 8) depth) first.1 in
    (number-within (pos 1) (pos 10000) period first.0, few splits rest.0, some depth rest.1, low depth rest.1)
  where
    few : (o : Option Number) → option_fault (pos 0) (pos 200000) o ≡ None → or_default 200000 o ≤ 200000
    few None none = omega arith
    few (Some n) none = at-most n.value 200000 (number-within (pos 0) (pos 200000) n none).1

    some : (o : Option Number) → option_fault (pos 1) (pos 8) o ≡ None → 1 ≤ or_default 4 o
    some None none = omega arith
    some (Some n) none = at-most 1 n.value (number-within (pos 1) (pos 8) n none).0

    low : (o : Option Number) → option_fault (pos 1) (pos 8) o ≡ None → or_default 4 o ≤ 8
    low None none = omega arith
    low (Some n) none = at-most n.value 8 (number-within (pos 1) (pos 8) n none).1

-- the hold of a timer and the bounds of a band stand in the item that declares them

pub record IsHeld (items : List Item) (hold : ℤ) (it : Item) : Type 0 where
  pub bound : Bound
  pub is : hold ≡ bound_value items bound
  pub fault : item_hold items it ≡ None → lies (pos 0) (pos 1000000) (bound_value items bound) ≡ true

pub record IsHyst (items : List Item) (lo hi : ℤ) (it : Item) : Type 0 where
  pub low : Bound
  pub high : Bound
  pub low_is : lo ≡ bound_value items low
  pub high_is : hi ≡ bound_value items high
  pub fault : item_band items it ≡ None → int_lt (bound_value items low) (bound_value items high) ≡ true
  pub lawful : is_item it ≡ true → (is_bound low ≡ true) × (is_bound high ≡ true)

held-item : (items : List Item) (env : Env) (it : Item) (name : List ℕ) (s : Side) (c : Cond) (hold : ℤ)
    → Contains (build_memory items env it) (Held name s c hold) → IsHeld items hold it
held-item items env (item.Held side word cond bound) name s c hold has =
    let same = only _ (Held name s c hold) has in
    let is : bound_value items bound ≡ hold = cc in
    record { bound = bound; is = sym is; fault = passed (lies (pos 0) (pos 1000000) (bound_value items bound)) _ }
held-item items env (item.Hyst side word term lo hi start) name s c hold has =
    let same = only _ (Held name s c hold) has in
    absurd (cc)
held-item items env _ name s c hold has = absurd (nothing-in (Held name s c hold) has)

band-lawful : (side : SectionWord) (word : Word) (term : Expr) (lo hi : Bound) (start : Bool)
    → is_item (item.Hyst side word term lo hi start) ≡ true → (is_bound lo ≡ true) × (is_bound hi ≡ true)
band-lawful side word term lo hi start lawful =
    let outer = and_parts (is_side side && is_word word && is_expr term && is_bound lo) (is_bound hi) lawful in
    ((and_parts (is_side side && is_word word && is_expr term) (is_bound lo) outer.0).1, outer.1)

hyst-item : (items : List Item) (env : Env) (it : Item) (name : List ℕ) (s : Side) (e : Term) (lo hi : ℤ) (start : Bool)
    → Contains (build_memory items env it) (Hyst name s e lo hi start) → IsHyst items lo hi it
hyst-item items env (item.Hyst side word term low high begin) name s e lo hi start has =
    let same = only _ (Hyst name s e lo hi start) has in
    let low_is : bound_value items low ≡ lo = cc in
    let high_is : bound_value items high ≡ hi = cc in
    record {
      low = low;
      high = high;
      low_is = sym low_is;
      high_is = sym high_is;
      fault = passed (int_lt (bound_value items low) (bound_value items high)) _;
      lawful = band-lawful side word term low high begin;
    }
hyst-item items env (item.Held side word cond bound) name s e lo hi start has =
    let same = only _ (Hyst name s e lo hi start) has in
    absurd (cc)
hyst-item items env _ name s e lo hi start has = absurd (nothing-in (Hyst name s e lo hi start) has)

less-from : (lo hi : ℤ) → int_lt lo hi ≡ true → (lo <ℤ hi) × (int_le lo hi ≡ true)
less-from lo hi less = (grind (arith, ints), grind (arith, ints))

module _ (items : List Item) (env : Env) where
  pub holds : first_of (item_hold items) items ≡ None → (m : ℕ) (name : List ℕ) (s : Side) (c : Cond) (hold : ℤ)
      → slice_get (flat_map (build_memory items env) items) m ≡ Some (Held name s c hold) → IsHold hold
  holds none m name s c hold at =
      let one = from_one (build_memory items env) items (Held name s c hold)
      (contained (flat_map (build_memory items env) items) m (Held name s c hold) at) in
      let h = held-item items env one.1 name s c hold one.3 in
      subst IsHold (sym h.is) (within (pos 0, pos 1000000) (bound_value items h.bound)
      (h.fault (no-fault (item_hold items) items none one.1 (contained items one.0 one.1 one.2))))

  pub bands : first_of (item_band items) items ≡ None → list_all is_item items ≡ true → (m : ℕ) (name : List ℕ) (s : Side) (e : Term)
      (lo hi : ℤ) (start : Bool) → slice_get (flat_map (build_memory items env) items) m ≡ Some (Hyst name s e lo hi start)
      → (lo <ℤ hi) × IsBounded 1000000000 lo hi
  bands none all m name s e lo hi start at =
      let one = from_one (build_memory items env) items (Hyst name s e lo hi start)
      (contained (flat_map (build_memory items env) items) m (Hyst name s e lo hi start) at) in
      let h = hyst-item items env one.1 name s e lo hi start one.3 in
      let lawful = h.lawful (all_pass is_item items all one.1 (contained items one.0 one.1 one.2)) in
      let less = less-from (bound_value items h.low) (bound_value items h.high)
      (h.fault (no-fault (item_band items) items none one.1 (contained items one.0 one.1 one.2))) in
      let wide = bounded (bound_value items h.low) (bound_value items h.high) less.1 (bound-small items all h.low lawful.0)
      (bound-small items all h.high lawful.1) in
      subst (λ (z : ℤ). (z <ℤ hi) × IsBounded 1000000000 z hi) (sym h.low_is)
      (subst (λ (z : ℤ). (bound_value items h.low <ℤ z) × IsBounded 1000000000 (bound_value items h.low) z) (sym h.high_is)
      (less.0, wide))

-- some variable of a kind

pub record IsOfWord (w : VarWord) (it : Item) : Type 0 where
  pub name : Word
  pub of : Kind
  pub init : Bound
  pub is : it ≡ item.Variable w name of init

monitored-item : (it : Item) → declares_monitored it ≡ true → IsOfWord word.Mon it
monitored-item (item.Variable word.Mon name of init) is = record { name = name; of = of; init = init; is = refl }
monitored-item _ is = cc

controlled-item : (it : Item) → declares_controlled it ≡ true → IsOfWord word.Con it
controlled-item (item.Variable word.Con name of init) is = record { name = name; of = of; init = init; is = refl }
controlled-item _ is = cc

kind-self : (w : VarWord) → same_kind (var_kind w) (var_kind w) ≡ true
kind-self word.Mon = refl
kind-self word.Con = refl
kind-self word.Input = refl
kind-self word.Output = refl
kind-self word.ReqVar = refl
kind-self word.SofVar = refl

module _ (items : List Item) (env : Env) where
  some-of : (w : VarWord) (test : Item → Bool) → ((it : Item) → test it ≡ true → IsOfWord w it) → list_any test items ≡ true
      → HasSome (vars_from items env no_places items) (of_kind (var_kind w))
  some-of w test each any =
      let at = some-passes test items any in
      let d = each at.1 at.3 in
      let v = var-at items env no_places items at.0 w d.name d.of d.init (at.2 ∙ ap (λ (it : Item). Some it) d.is) in
      ∣ (
        times declares_variable (take at.0 items),
        is-of (vars_from items env no_places items) (of_kind (var_kind w)) _
            (declared_var items env w d.name d.of d.init v.0) v.1 (kind-self w),
      ) ∣₁

  pub has-both : no_variable items ≡ None → HasSome (vars_from items env no_places items) (of_kind (var_kind word.Mon))
      × HasSome (vars_from items env no_places items) (of_kind (var_kind word.Con))
  has-both none =
      let both = or-none (wanted (var_kind word.Mon) (list_any declares_monitored items))
      (wanted (var_kind word.Con) (list_any declares_controlled items)) none in (
        some-of word.Mon declares_monitored monitored-item (passed (list_any declares_monitored items) _ both.0),
        some-of word.Con declares_controlled controlled-item (passed (list_any declares_controlled items) _ both.1),
      )
