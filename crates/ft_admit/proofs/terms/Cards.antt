-- What a declared name stands for is in the set: its variable with its kind and range, its memory with its side and hold.
use Rattle.std.proofs.Common.{◌≡◌, ◌∙◌, sym, ap, subst, refl, inl, inr, ℕ, zero, suc, ◌+◌, ◌≤◌, ℤ, Bool, true, false, cond, List, [], ◌∷◌}
use Rattle.std.proofs.Common.{◌++◌, length, map, take, slice_get, find, option_map, bytes_eq, Option, Some, None, count_by, arith, leb-true}
use Rattle.std.proofs.Common.{nat_le}
use Rattle.std.specs.List.{enumerate_from, flat_map, list_all}
use Rattle.std.proofs.Math.Nat.{add-zero, zero-add, add-suc, suc-add}
use Rattle.std.proofs.lemmas.Bool.{and_parts, cases_Bool}
use Rattle.std.proofs.lemmas.List.Sums.{sum_by-cons}
use Rattle.std.proofs.lemmas.Option.{none-some, same_Some}
use Rattle.ft_tree.specs.declared.item.Bound.{Bound}
use Rattle.ft_tree.specs.declared.item.FactItem.{FactItem}
use Rattle.ft_tree.specs.declared.item.FactItem.TheVariants.{Shows, Goal}
use Rattle.ft_tree.specs.declared.item.Item.{Item}
use Rattle.ft_tree.specs.declared.item.Item.TheVariants as item
use Rattle.ft_tree.specs.declared.item.Kind.{Kind}
use Rattle.ft_tree.specs.declared.item.SectionWord.{SectionWord}
use Rattle.ft_tree.specs.declared.item.VarWord.{VarWord}
use Rattle.ft_tree.specs.declared.item.Word.{Word}
use Rattle.ft_tree.specs.meaning.Limits.{is_count, is_item, is_word}
use Rattle.ft_tree.specs.laws.Chains.{three-hold}
use Rattle.ft_core.specs.declared.tables.Memory.{Memory}
use Rattle.ft_core.specs.declared.tables.Memory.TheVariants.{Held, Hyst}
use Rattle.ft_core.specs.declared.tables.Var.{Var}
use Rattle.ft_core.specs.checked.Sound.{side_of}
use Rattle.ft_names.specs.declared.card.Card.{Card}
use Rattle.ft_names.specs.declared.card.Card.TheVariants as card
use Rattle.ft_names.specs.declared.card.Values.{Values}
use Rattle.ft_names.specs.meaning.Cards.{Env, bound_value, cards_from, cards_of, count_before, declares_memory, declares_variable, env_of}
use Rattle.ft_names.specs.meaning.Cards.{fact_cards, item_cards, kind_values, member_card, under}
use Rattle.ft_build.specs.declared.places.Places.{Places}
use Rattle.ft_build.specs.meaning.Tables.{build_memory, side_of as side_by}
use Rattle.ft_build.specs.meaning.Variables.{build_var, counted, no_places, values_range, var_kind, vars_from}

-- the hold of a memory that has one
abbrev pub hold_of : Memory → Option ℤ
hold_of (Held name side cond hold) = Some hold
hold_of (Hyst name side e lo hi start) = None

-- a variable of this kind and these values stands at this place
abbrev pub HasVar : List Var → ℕ → VarWord → Values → Type 0
HasVar vars place word values = (v : Var) × (slice_get vars place ≡ Some v) × (v.kind ≡ var_kind word) × (v.range ≡ values_range values)

-- a memory of this side, with this hold, stands at this place
abbrev pub HasMemory : List Memory → ℕ → SectionWord → Option ℤ → Type 0
HasMemory memories place side hold =
    (m : Memory) × (slice_get memories place ≡ Some m) × (side_of m ≡ side_by side) × (hold_of m ≡ hold)

-- what a name stands for is in the set
abbrev pub IsThere : List Var → List Memory → Card → Type 0
IsThere vars memories (card.Constant value) = Unit {0}
IsThere vars memories (card.TypeName values) = Unit {0}
IsThere vars memories (card.Member k position) = position ≤ 64
IsThere vars memories (card.Variable place word values) = HasVar vars place word values
IsThere vars memories (card.Memory place side hold) = HasMemory memories place side hold
IsThere vars memories (card.Block place) = Unit {0}
IsThere vars memories (card.Invariant block fact) = Unit {0}

abbrev pub AreThere : Env → List Var → List Memory → Type 0
AreThere env vars memories = (name : List ℕ) (c : Card) → env name ≡ Some c → IsThere vars memories c

-- what is passed over where it declares none
skipped : {X : Type 0} (xs : List X) (n : ℕ) → slice_get xs (0 + n) ≡ slice_get xs n
skipped xs n = ap (slice_get xs) (zero-add n)

passed : {X : Type 0} (x : X) (xs : List X) (n : ℕ) → slice_get (x ∷ xs) (1 + n) ≡ slice_get xs n
passed x xs n = let next : 1 + n ≡ suc n = omega arith in ap (slice_get (x ∷ xs)) next

counts-on : (test : Item → Bool) (x : Item) (xs : List Item) (j : ℕ)
    → count_by test (take (suc j) (x ∷ xs)) ≡ cond (test x) 1 0 + count_by test (take j xs)
counts-on test x xs j = sum_by-cons (λ y. cond (test y) 1 0) x (take j xs)

module _ (items : List Item) (env : Env) where
  past-var : (places : Places) (x : Item) (rest : List Var) (n : ℕ)
      → slice_get (build_var items env places x ++ rest) (cond (declares_variable x) 1 0 + n) ≡ slice_get rest n
  past-var places (item.Variable word name of init) rest n = passed _ rest n
  past-var places (item.Constant name sign value) rest n = skipped rest n
  past-var places (item.RangeType name lo hi) rest n = skipped rest n
  past-var places (item.EnumType name members) rest n = skipped rest n
  past-var places (item.Held side name c hold) rest n = skipped rest n
  past-var places (item.Hyst side name term lo hi start) rest n = skipped rest n
  past-var places (item.Normal section target columns rows) rest n = skipped rest n
  past-var places (item.Inverted section target headers rows) rest n = skipped rest n
  past-var places (item.Vector section columns rows) rest n = skipped rest n
  past-var places (item.Nat moment c) rest n = skipped rest n
  past-var places (item.Block name takes uses facts) rest n = skipped rest n

  past-memory : (x : Item) (rest : List Memory) (n : ℕ)
      → slice_get (build_memory items env x ++ rest) (cond (declares_memory x) 1 0 + n) ≡ slice_get rest n
  past-memory (item.Held side name c hold) rest n = passed _ rest n
  past-memory (item.Hyst side name term lo hi start) rest n = passed _ rest n
  past-memory (item.Constant name sign value) rest n = skipped rest n
  past-memory (item.RangeType name lo hi) rest n = skipped rest n
  past-memory (item.EnumType name members) rest n = skipped rest n
  past-memory (item.Variable word name of init) rest n = skipped rest n
  past-memory (item.Normal section target columns rows) rest n = skipped rest n
  past-memory (item.Inverted section target headers rows) rest n = skipped rest n
  past-memory (item.Vector section columns rows) rest n = skipped rest n
  past-memory (item.Nat moment c) rest n = skipped rest n
  past-memory (item.Block name takes uses facts) rest n = skipped rest n

  var-there : (places : Places) (xs : List Item) (j : ℕ) (word : VarWord) (name : Word) (of : Kind) (init : Bound)
      → slice_get xs j ≡ Some (item.Variable word name of init)
      → HasVar (vars_from items env places xs) (count_by declares_variable (take j xs)) word (kind_values items of)
  unfolding vars_from
  var-there places [] j word name of init is = absurd (none-some _ is)
  var-there places (x ∷ xs) zero word name of init is =
      subst (λ y. HasVar (build_var items env places y ++ vars_from items env (counted places y) xs) 0 word (kind_values items of))
      (sym (same_Some x (item.Variable word name of init) is)) (_, refl, refl, refl)
  var-there places (x ∷ xs) (suc j) word name of init is =
      let rest = var-there (counted places x) xs j word name of init is in
      let after = vars_from items env (counted places x) xs in (
        rest.0,
        ap (slice_get (build_var items env places x ++ after)) (counts-on declares_variable x xs j)
            ∙ past-var places x after (count_by declares_variable (take j xs)) ∙ rest.1,
        rest.2,
        rest.3,
      )

  memory-there : (x : Item) (side : SectionWord) (hold : Option ℤ) (xs : List Item) (j : ℕ) → slice_get xs j ≡ Some x
      → HasMemory (build_memory items env x) 0 side hold
      → HasMemory (flat_map (build_memory items env) xs) (count_by declares_memory (take j xs)) side hold
  memory-there x side hold [] j is here = absurd (none-some _ is)
  memory-there x side hold (y ∷ xs) zero is here =
      subst (λ z. HasMemory (build_memory items env z ++ flat_map (build_memory items env) xs) 0 side hold) (sym (same_Some y x is))
      (here.0, at-front (build_memory items env x) (flat_map (build_memory items env) xs) here.0 here.1, here.2, here.3)
    where
      at-front : (ms ns : List Memory) (m : Memory) → slice_get ms 0 ≡ Some m → slice_get (ms ++ ns) 0 ≡ Some m
      at-front [] ns m e = absurd (none-some m e)
      at-front (k ∷ ms) ns m e = e
  memory-there x side hold (y ∷ xs) (suc j) is here =
      let rest = memory-there x side hold xs j is here in
      let after = flat_map (build_memory items env) xs in (
        rest.0,
        ap (slice_get (build_memory items env y ++ after)) (counts-on declares_memory y xs j)
            ∙ past-memory y after (count_by declares_memory (take j xs)) ∙ rest.1,
        rest.2,
        rest.3,
      )

abbrev AllHold : {X : Type 0} → (X → Type 0) → List X → Type 0
AllHold P [] = Unit {0}
AllHold P (x ∷ xs) = P x × AllHold P xs

hold-append : {X : Type 0} (P : X → Type 0) (xs ys : List X) → AllHold P xs → AllHold P ys → AllHold P (xs ++ ys)
hold-append P [] ys h k = k
hold-append P (x ∷ xs) ys h k = (h.0, hold-append P xs ys h.1 k)

abbrev Entry : Type 0
Entry = List ℕ × Card

under-holds : (P : Card → Type 0) (list : List Entry) (name : List ℕ) (c : Card) → AllHold (λ (e : Entry). P e.1) list
    → under list name ≡ Some c → P c
under-holds P [] name c h is = absurd (none-some c is)
under-holds P (entry ∷ list) name c h is = elim (cases_Bool (bytes_eq name entry.0)) [
  | inl this ↦ subst P (same_Some entry.1 c (sym (found true entry list this) ∙ is)) h.0
  | inr other ↦ under-holds P list name c h.1 (sym (found false entry list other) ∙ is)
]
  where
    found : (b : Bool) (e : Entry) (es : List Entry) → bytes_eq name e.0 ≡ b
        → under (e ∷ es) name ≡ option_map (λ (p : Entry). p.1) (cond b (Some e) (find (λ (p : Entry). bytes_eq name p.0) es))
    found b e es is = ap (λ t. option_map (λ (p : Entry). p.1) (cond t (Some e) (find (λ (p : Entry). bytes_eq name p.0) es))) is

module _ (items : List Item) (env : Env) where
  abbrev Right : Entry → Type 0
  Right e = IsThere (vars_from items env no_places items) (flat_map (build_memory items env) items) e.1

  members-right : (k n : ℕ) (members : List Word) → n + length members ≤ 64
      → AllHold Right (map (member_card k) (enumerate_from n members))
  members-right k n [] low = tt
  members-right k n (word ∷ members) low =
      (omega (arith, low), members-right k (n + 1) members (omega (arith, low)))

  facts-right : (block n : ℕ) (facts : List FactItem) → AllHold Right (flat_map (fact_cards block) (enumerate_from n facts))
  facts-right block n [] = tt
  facts-right block n (Shows name c ∷ facts) = (tt, facts-right block (n + 1) facts)
  facts-right block n (Goal con ∷ facts) = facts-right block (n + 1) facts

  item-right : (k : ℕ) (x : Item) → slice_get items k ≡ Some x → is_item x ≡ true → AllHold Right (item_cards items k x)
  item-right k (item.Constant name minus value) is lawful = (tt, tt)
  item-right k (item.RangeType name lo hi) is lawful = (tt, tt)
  item-right k (item.EnumType name members) is lawful =
      let count = (three-hold (is_word name) (is_count 64 (length members)) (list_all is_word members) lawful).1 in
      let few = leb-true (length members) 64 (and_parts (nat_le 1 (length members)) (nat_le (length members) 64) count).1 in
      (tt, members-right k 0 members (omega (arith, few)))
  item-right k (item.Variable word name of init) is lawful = (var-there items env no_places items k word name of init is, tt)
  item-right k (item.Held side name c hold) is lawful =
      (memory-there items env (item.Held side name c hold) side (Some (bound_value items hold)) items k is (_, refl, refl, refl), tt)
  item-right k (item.Hyst side name term lo hi start) is lawful =
      (memory-there items env (item.Hyst side name term lo hi start) side None items k is (_, refl, refl, refl), tt)
  item-right k (item.Normal section target columns rows) is lawful = tt
  item-right k (item.Inverted section target headers rows) is lawful = tt
  item-right k (item.Vector section columns rows) is lawful = tt
  item-right k (item.Nat moment c) is lawful = tt
  item-right k (item.Block name takes uses facts) is lawful = (tt, facts-right (count_before _ items k) 0 facts)

  cards-right : (k : ℕ) (xs : List Item) → ((j : ℕ) → slice_get xs j ≡ slice_get items (k + j)) → list_all is_item xs ≡ true
      → AllHold Right (cards_from items k xs)
  unfolding cards_from
  cards-right k [] same lawful = tt
  cards-right k (x ∷ xs) same lawful =
      let both = and_parts (is_item x) (list_all is_item xs) lawful in
      hold-append Right (item_cards items k x) (cards_from items (suc k) xs)
      (item-right k x (ap (slice_get items) (sym (add-zero k)) ∙ sym (same 0)) both.0)
      (cards-right (suc k) xs (λ j. same (suc j) ∙ ap (slice_get items) (add-suc k j ∙ sym (suc-add k j))) both.1)

-- each declared name of a lawful tree stands for what is in its set
pub are-there : (items : List Item) → list_all is_item items ≡ true
    → AreThere (env_of items) (vars_from items (env_of items) no_places items) (flat_map (build_memory items (env_of items)) items)
are-there items lawful name c is =
    under-holds (IsThere (vars_from items (env_of items) no_places items) (flat_map (build_memory items (env_of items)) items))
    (cards_of items) name c
    (cards-right items (env_of items) 0 items (λ j. ap (slice_get items) (sym (zero-add j))) lawful) is
