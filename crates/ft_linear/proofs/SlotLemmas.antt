-- The slots of a tree.
use Rattle.std.proofs.Common.{◌≡◌, ◌∙◌, inl, inr, sym, ap, refl, ℕ, suc, ◌+◌, ◌-◌, ◌<◌, ◌≤◌, Bool, true, false, not, cond, List, [], ◌∷◌}
use Rattle.std.proofs.Common.{◌++◌, ◌||◌, ◌&&◌, map, length, take, arith, Option, Some, None, slice_get}
use Rattle.std.specs.Prelude.{nat_eq, nat_lt, count_by, slice_set, slice_index_or}
use Rattle.std.specs.Option.{option_map}
use Rattle.std.specs.List.{list_all, list_any, flat_map}
use Rattle.std.proofs.lemmas.Bool.{cases_Bool}
use Rattle.std.proofs.Math.Seq.{take-set-lt}
use Rattle.std.proofs.lemmas.List.{append-nil, append_assoc, take_more, set_at, length-take-le, length-append, length-map}
use Rattle.std.proofs.lemmas.List.Concat.{flat_map-append}
use Rattle.std.proofs.lemmas.List.Folds.{length-flat_map-take}
use Rattle.std.proofs.lemmas.List.Sums.{count_by-le-length}
use Rattle.ft_linear.specs.declared.node.Node.{Node}
use Rattle.ft_linear.specs.declared.node.Node.TheOpen as layer
use Rattle.ft_linear.specs.declared.node.Node.TheVariants.{At, Not, And, Or, rolls-At, rolls-Not, rolls-And, rolls-Or}
use Rattle.ft_base.specs.declared.three.Three.{Three}
use Rattle.ft_base.specs.declared.three.Three.TheVariants.{No, Maybe, Yes}
use Rattle.ft_linear.specs.declared.forcing.Slot.{Slot}
use Rattle.ft_linear.specs.declared.forcing.Signs.{Signs}
use Rattle.ft_linear.specs.meaning.Forced.{value_of}
use Rattle.ft_base.specs.Three.{three_not, three_all, three_any, can_be, is_no, is_yes, all_by, any_by}
use Rattle.ft_linear.specs.judging.Slots.{Marked, marked, layer_slots, slots_of, only_of, IsWritten, Adds, with_more}
use Rattle.ft_linear.specs.laws.Nodes.{With, bare, node_induction, folds, value-At, value-Not, value-And, value-Or}
use Rattle.ft_linear.proofs.ForcedLaws.{count-cons, count-yes, count-no}
use Rattle.std.proofs.Math.Bool.{or-false, or_assoc}

above-zero : (n : ℕ) → true ≡ nat_lt 0 (suc n)
above-zero n = grind arith

any-count : {E : Type 0} (p : E → Bool) (xs : List E) → list_any p xs ≡ nat_lt 0 (count_by p xs)
any-count p [] = refl
any-count p (x ∷ xs) = elim (cases_Bool (p x)) [
  | inl so ↦ ap (λ b. b || list_any p xs) so ∙ above-zero (count_by p xs) ∙ ap (λ n. nat_lt 0 n) (sym (count-yes p x xs so))
  | inr isnt ↦ ap (λ b. b || list_any p xs) isnt ∙ any-count p xs ∙ ap (λ n. nat_lt 0 n) (sym (count-no p x xs isnt))
]

same-next : (m n : ℕ) → nat_eq m n ≡ nat_eq (suc m) (suc n)
same-next m n = grind arith

less-next : (m n : ℕ) → m ≤ n → false ≡ nat_eq m (suc n)
less-next m n h = grind arith

all-count : {E : Type 0} (p : E → Bool) (xs : List E) → list_all p xs ≡ nat_eq (count_by p xs) (length xs)
all-count p [] = refl
all-count p (x ∷ xs) = elim (cases_Bool (p x)) [
  | inl so ↦ ap (λ b. b && list_all p xs) so ∙ all-count p xs ∙ same-next (count_by p xs) (length xs)
      ∙ ap (λ n. nat_eq n (suc (length xs))) (sym (count-yes p x xs so))
  | inr isnt ↦ ap (λ b. b && list_all p xs) isnt ∙ less-next (count_by p xs) (length xs) (count_by-le-length p xs)
      ∙ ap (λ n. nat_eq n (suc (length xs))) (sym (count-no p x xs isnt))
]

pub all-is : (values : List Three) → all_by (count_by is_no values) (count_by is_yes values) (length values) ≡ three_all values
all-is values = ap (λ (b : Bool). cond b No (cond (nat_eq (count_by is_yes values) (length values)) Yes Maybe))
    (sym (any-count is_no values))
    ∙ ap (λ (b : Bool). cond (list_any is_no values) No (cond b Yes Maybe)) (sym (all-count is_yes values))

pub any-is : (values : List Three) → any_by (count_by is_no values) (count_by is_yes values) (length values) ≡ three_any values
any-is values = ap (λ (b : Bool). cond b Yes (cond (nat_eq (count_by is_no values) (length values)) No Maybe))
    (sym (any-count is_yes values))
    ∙ ap (λ (b : Bool). cond (list_any is_yes values) Yes (cond b No Maybe)) (sym (all-count is_no values))

-- the values that are left, by those that are settled
open-count : (p q : Three → Bool) → ((v : Three) → q v ≡ not (p v)) → (values : List Three) → count_by p values + count_by q values
    ≡ length values
open-count p q h [] = refl
open-count p q h (v ∷ values) = elim (cases_Bool (p v)) [
  | inl so ↦ let a = count-yes p v values so in let b = count-no q v values (h v ∙ ap not so) in let r = open-count p q h values in
      omega (arith, a, b, r)
  | inr isnt ↦ let a = count-no p v values isnt in let b = count-yes q v values (h v ∙ ap not isnt) in let r = open-count p q h values in
      omega (arith, a, b, r)
]

one-left : (n more all : ℕ) → n + more ≡ all → nat_eq (n + 1) all ≡ nat_eq more 1
one-left n more all h = grind arith

pub one-yes : (values : List Three) → nat_eq (count_by is_yes values + 1) (length values) ≡ only_of false values
one-yes values = one-left _ _ _ (open-count is_yes (can_be false) (λ v. refl) values)

pub one-no : (values : List Three) → nat_eq (count_by is_no values + 1) (length values) ≡ only_of true values
one-no values = one-left _ _ _ (open-count is_no (can_be true) (λ v. refl) values)

module _ (atoms : ℕ → Three) where
  marked-And : (parts : List Node) → marked atoms (And parts) ≡ layer_slots atoms (layer.And (map (marked atoms) parts))
  unfolding marked
  marked-And parts = folds Marked (layer_slots atoms) _ (layer.And parts) (rolls-And parts)

  marked-Or : (parts : List Node) → marked atoms (Or parts) ≡ layer_slots atoms (layer.Or (map (marked atoms) parts))
  unfolding marked
  marked-Or parts = folds Marked (layer_slots atoms) _ (layer.Or parts) (rolls-Or parts)

  marked-At : (atom : ℕ) → marked atoms (At atom) ≡ layer_slots atoms (layer.At atom)
  unfolding marked
  marked-At atom = folds Marked (layer_slots atoms) _ (layer.At atom) (rolls-At atom)

  marked-Not : (inner : Node) → marked atoms (Not inner) ≡ layer_slots atoms (layer.Not (marked atoms inner))
  unfolding marked
  marked-Not inner = folds Marked (layer_slots atoms) _ (layer.Not inner) (rolls-Not inner)

  same-values : (parts : List (With (λ node. (marked atoms node).0 ≡ value_of atoms node)))
      → map (λ (m : Marked). m.0) (map (marked atoms) (bare parts)) ≡ map (value_of atoms) (bare parts)
  same-values [] = refl
  same-values (p ∷ parts) = ap (λ (v : Three). v ∷ map (λ (m : Marked). m.0) (map (marked atoms) (bare parts))) p.1
      ∙ ap (λ (vs : List Three). value_of atoms p.0 ∷ vs) (same-values parts)

  pub marked-value : (node : Node) → (marked atoms node).0 ≡ value_of atoms node
  marked-value = node_induction (λ node. (marked atoms node).0 ≡ value_of atoms node) (record {
    at = λ atom. ap (λ (m : Marked). m.0) (marked-At atom) ∙ sym (value-At atoms atom);
    negated = λ inner h. ap (λ (m : Marked). m.0) (marked-Not inner) ∙ ap three_not h ∙ sym (value-Not atoms inner);
    all = λ parts. ap (λ (m : Marked). m.0) (marked-And (bare parts)) ∙ ap three_all (same-values parts)
        ∙ sym (value-And atoms (bare parts));
    any = λ parts. ap (λ (m : Marked). m.0) (marked-Or (bare parts)) ∙ ap three_any (same-values parts) ∙ sym (value-Or atoms (bare parts));
  })

  values-of : (parts : List Node) → map (λ (m : Marked). m.0) (map (marked atoms) parts) ≡ map (value_of atoms) parts
  values-of [] = refl
  values-of (p ∷ parts) = ap (λ (v : Three). v ∷ map (λ (m : Marked). m.0) (map (marked atoms) parts)) (marked-value p)
      ∙ ap (λ (vs : List Three). value_of atoms p ∷ vs) (values-of parts)

  below-of : (parts : List Node) → flat_map (λ (m : Marked). m.1) (map (marked atoms) parts) ≡ flat_map (slots_of atoms) parts
  below-of [] = refl
  below-of (p ∷ parts) = ap (λ (ss : List Slot). slots_of atoms p ++ ss) (below-of parts)

  abbrev pub node_slot : Three → Bool → List Slot → Slot
  node_slot v only below = record { value = v; only = only; size = length below + 1 }

  pub slots-At : (atom : ℕ) → slots_of atoms (At atom) ≡ node_slot (atoms atom) false [] ∷ []
  slots-At atom = ap (λ (m : Marked). m.1) (marked-At atom)

  pub slots-Not : (inner : Node) → slots_of atoms (Not inner) ≡ node_slot (three_not (value_of atoms inner)) false (slots_of atoms inner)
      ∷ slots_of atoms inner
  slots-Not inner = ap (λ (m : Marked). m.1) (marked-Not inner) ∙ ap (λ (v : Three). node_slot (three_not v) false (slots_of atoms inner)
      ∷ slots_of atoms inner) (marked-value inner)

  pub slots-And : (parts : List Node) → slots_of atoms (And parts)
      ≡ node_slot (three_all (map (value_of atoms) parts)) (only_of false (map (value_of atoms) parts)) (flat_map (slots_of atoms) parts)
      ∷ flat_map (slots_of atoms) parts
  slots-And parts = ap (λ (m : Marked). m.1) (marked-And parts)
      ∙ ap (λ (vs : List Three). node_slot (three_all vs) (only_of false vs) (flat_map (λ (m : Marked). m.1) (map (marked atoms) parts))
      ∷ flat_map (λ (m : Marked). m.1) (map (marked atoms) parts)) (values-of parts)
      ∙ ap (λ (ss : List Slot). node_slot (three_all (map (value_of atoms) parts)) (only_of false (map (value_of atoms) parts)) ss ∷ ss)
      (below-of parts)

  pub slots-Or : (parts : List Node) → slots_of atoms (Or parts)
      ≡ node_slot (three_any (map (value_of atoms) parts)) (only_of true (map (value_of atoms) parts)) (flat_map (slots_of atoms) parts)
      ∷ flat_map (slots_of atoms) parts
  slots-Or parts = ap (λ (m : Marked). m.1) (marked-Or parts)
      ∙ ap (λ (vs : List Three). node_slot (three_any vs) (only_of true vs) (flat_map (λ (m : Marked). m.1) (map (marked atoms) parts))
      ∷ flat_map (λ (m : Marked). m.1) (map (marked atoms) parts)) (values-of parts)
      ∙ ap (λ (ss : List Slot). node_slot (three_any (map (value_of atoms) parts)) (only_of true (map (value_of atoms) parts)) ss ∷ ss)
      (below-of parts)

  -- the first slot of a tree has its value and its number of slots
  abbrev pub Fronted : Node → Type 0
  Fronted node = (only : Bool) × (tail : List Slot) × (slots_of atoms node ≡ node_slot (value_of atoms node) only tail ∷ tail)

  pub fronted : (node : Node) → Fronted node
  fronted = node_induction (λ node. (only : Bool) × (tail : List Slot)
      × (slots_of atoms node ≡ node_slot (value_of atoms node) only tail ∷ tail)) (record {
        at = λ atom. (false, [], slots-At atom ∙ ap (λ (v : Three). node_slot v false [] ∷ []) (sym (value-At atoms atom)));
        negated = λ inner h. (
          false,
          slots_of atoms inner,
          slots-Not inner
              ∙ ap (λ (v : Three). node_slot v false (slots_of atoms inner) ∷ slots_of atoms inner) (sym (value-Not atoms inner)),
        );
        all = λ parts. (
          _,
          _,
          slots-And (bare parts) ∙ ap (λ (v : Three). node_slot v (only_of false (map (value_of atoms) (bare parts)))
              (flat_map (slots_of atoms) (bare parts)) ∷ flat_map (slots_of atoms) (bare parts)) (sym (value-And atoms (bare parts))),
        );
        any = λ parts. (
          _,
          _,
          slots-Or (bare parts) ∙ ap (λ (v : Three). node_slot v (only_of true (map (value_of atoms) (bare parts)))
              (flat_map (slots_of atoms) (bare parts)) ∷ flat_map (slots_of atoms) (bare parts)) (sym (value-Or atoms (bare parts))),
        );
      })

  -- what a tree's slots need
  pub room-At : (atom : ℕ) (node : Node) (at n : ℕ) → node ≡ At atom → at + length (slots_of atoms node) ≤ n → at + 1 ≤ n
  room-At atom node at n is h = let e = ap length (ap (slots_of atoms) is ∙ slots-At atom) in omega (arith, h, e)

  pub room-Not : (inner node : Node) (at n : ℕ) → node ≡ Not inner → at + length (slots_of atoms node) ≤ n → (at + 1 ≤ n)
      × (at + 1 + length (slots_of atoms inner) ≤ n)
  room-Not inner node at n is h = let e = ap length (ap (slots_of atoms) is ∙ slots-Not inner) in (omega (arith, h, e), omega (arith, h, e))

  pub room-And : (parts : List Node) (node : Node) (at n : ℕ) → node ≡ And parts → at + length (slots_of atoms node) ≤ n → (at + 1 ≤ n)
      × (at + 1 + length (flat_map (slots_of atoms) parts) ≤ n)
  room-And parts node at n is h = let e = ap length (ap (slots_of atoms) is ∙ slots-And parts) in (omega (arith, h, e), omega (arith, h, e))

  pub room-Or : (parts : List Node) (node : Node) (at n : ℕ) → node ≡ Or parts → at + length (slots_of atoms node) ≤ n → (at + 1 ≤ n)
      × (at + 1 + length (flat_map (slots_of atoms) parts) ≤ n)
  room-Or parts node at n is h = let e = ap length (ap (slots_of atoms) is ∙ slots-Or parts) in (omega (arith, h, e), omega (arith, h, e))

  -- a tree's slots after those of its parts, once its own is put before them
  pub closes : (old mid now : List Slot) (at next : ℕ) (w whole : List Slot) (v v' : Three) (o o' : Bool) → at + 1 ≤ length old
      → IsWritten w (at + 1) next old mid
      → v' ≡ v → o' ≡ o → now ≡ slice_set mid at (record { value = v'; only = o'; size = next - at }) → whole ≡ node_slot v o w ∷ w
      → IsWritten whole at next old now
  closes old mid now at next w whole v v' o o' within (ends, wrote) ev eo is all =
      let size : next - at ≡ length w + 1 = omega (arith, ends) in
      let s : Slot = node_slot v o w in
      let same : ◌≡◌ {A = Slot} (record { value = v'; only = o'; size = next - at }) s =
      λ i. record { value = ev i; only = eo i; size = size i } in
      let d : Slot = s in
      let below : at < length old = omega (arith, within) in
      let split : take (at + 1) old ++ w ≡ take at old ++ slice_index_or old at d ∷ w =
      ap (λ (l : List Slot). l ++ w) (take_more old at d below) ∙ append_assoc (take at old) (slice_index_or old at d ∷ []) w in
      let put : take next now ≡ take at old ++ s ∷ w =
      ap (take next) (is ∙ ap (λ (x : Slot). slice_set mid at x) same)
      ∙ take-set-lt next mid at s (omega (arith, ends))
      ∙ ap (λ (l : List Slot). slice_set l at s) (wrote ∙ split)
      ∙ set_at (take at old) (slice_index_or old at d) w s at (length-take-le at old (omega (arith, within))) in
      let long = ap length all in
      (omega (arith, ends, long), put ∙ ap (λ (l : List Slot). take at old ++ l) (sym all))

module _ (atoms : ℕ → Three) (parts : List Node) (no_count yes_count n : ℕ)
    (ns : no_count ≡ count_by is_no (map (value_of atoms) parts)) (ys : yes_count ≡ count_by is_yes (map (value_of atoms) parts))
    (all : n ≡ length parts) where
  count-all : n ≡ length (map (value_of atoms) parts)
  count-all = all ∙ sym (length-map parts (value_of atoms))

  pub value-And-by : (node : Node) → node ≡ And parts → all_by no_count yes_count n ≡ value_of atoms node
  value-And-by node is = (λ i. all_by (ns i) (ys i) (count-all i)) ∙ all-is (map (value_of atoms) parts)
      ∙ sym (ap (value_of atoms) is ∙ value-And atoms parts)

  pub value-Or-by : (node : Node) → node ≡ Or parts → any_by no_count yes_count n ≡ value_of atoms node
  value-Or-by node is = (λ i. any_by (ns i) (ys i) (count-all i)) ∙ any-is (map (value_of atoms) parts)
      ∙ sym (ap (value_of atoms) is ∙ value-Or atoms parts)

  pub only-And-by : nat_eq (yes_count + 1) n ≡ only_of false (map (value_of atoms) parts)
  only-And-by = (λ i. nat_eq (ys i + 1) (count-all i)) ∙ one-yes (map (value_of atoms) parts)

  pub only-Or-by : nat_eq (no_count + 1) n ≡ only_of true (map (value_of atoms) parts)
  only-Or-by = (λ i. nat_eq (ns i + 1) (count-all i)) ∙ one-no (map (value_of atoms) parts)

  pub whole-And : (node : Node) → node ≡ And parts → slots_of atoms node
      ≡ node_slot atoms (value_of atoms node) (only_of false (map (value_of atoms) parts)) (flat_map (slots_of atoms) parts)
      ∷ flat_map (slots_of atoms) parts
  whole-And node is = ap (slots_of atoms) is ∙ slots-And atoms parts
      ∙ ap (λ (v : Three). node_slot atoms v (only_of false (map (value_of atoms) parts)) (flat_map (slots_of atoms) parts)
      ∷ flat_map (slots_of atoms) parts) (sym (ap (value_of atoms) is ∙ value-And atoms parts))

  pub whole-Or : (node : Node) → node ≡ Or parts → slots_of atoms node
      ≡ node_slot atoms (value_of atoms node) (only_of true (map (value_of atoms) parts)) (flat_map (slots_of atoms) parts)
      ∷ flat_map (slots_of atoms) parts
  whole-Or node is = ap (slots_of atoms) is ∙ slots-Or atoms parts
      ∙ ap (λ (v : Three). node_slot atoms v (only_of true (map (value_of atoms) parts)) (flat_map (slots_of atoms) parts)
      ∷ flat_map (slots_of atoms) parts) (sym (ap (value_of atoms) is ∙ value-Or atoms parts))

pub whole-Not : (atoms : ℕ → Three) (inner node : Node) → node ≡ Not inner → slots_of atoms node
    ≡ node_slot atoms (value_of atoms node) false (slots_of atoms inner) ∷ slots_of atoms inner
whole-Not atoms inner node is = ap (slots_of atoms) is ∙ slots-Not atoms inner
    ∙ ap (λ (v : Three). node_slot atoms v false (slots_of atoms inner) ∷ slots_of atoms inner)
    (sym (ap (value_of atoms) is ∙ value-Not atoms inner))

pub whole-At : (atoms : ℕ → Three) (atom : ℕ) (node : Node) → node ≡ At atom → slots_of atoms node
    ≡ node_slot atoms (value_of atoms node) false [] ∷ []
whole-At atoms atom node is = ap (slots_of atoms) is ∙ slots-At atoms atom
    ∙ ap (λ (v : Three). node_slot atoms v false [] ∷ []) (sym (ap (value_of atoms) is ∙ value-At atoms atom))

-- room for one more part
pub room-part : (f : Node → List Slot) (parts : List Node) (i : ℕ) (part : Node) (at next n m : ℕ) → i < length parts → part
    ≡ slice_index_or parts i part
    → at + length (flat_map f parts) ≤ n → next ≡ at + length (flat_map f (take i parts)) → m ≡ n → next + length (f part) ≤ m
room-part f parts i part at next n m within is fits ends same =
    let h = length-flat_map-take f parts i part within in
    let e = ap (λ (p : Node). length (f p)) is in
    omega (arith, h, e, fits, ends, same)

pub written-none : (at : ℕ) (slots : List Slot) → IsWritten [] at at slots slots
written-none at slots = (omega arith, sym (append-nil (take at slots)))

-- one more part's slots
pub written-more : (f : Node → List Slot) (parts : List Node) (i : ℕ) (part : Node) (at next next' : ℕ) (old mid now : List Slot)
    → i < length parts → part ≡ slice_index_or parts i part
    → IsWritten (flat_map f (take i parts)) at next old mid → IsWritten (f part) next next' mid now
    → IsWritten (flat_map f (take (i + 1) parts)) at next' old now
written-more f parts i part at next next' old mid now within is (ends, wrote) (ends', wrote') =
    let more : flat_map f (take (i + 1) parts) ≡ flat_map f (take i parts) ++ f part =
    ap (flat_map f) (take_more parts i part within ∙ ap (λ (p : Node). take i parts ++ p ∷ []) (sym is))
    ∙ flat_map-append f (take i parts) (part ∷ [])
    ∙ ap (λ (l : List Slot). flat_map f (take i parts) ++ l) (append-nil (f part)) in
    let long = ap length more ∙ length-append (flat_map f (take i parts)) (f part) in (
      omega (arith, ends, ends', long),
      wrote' ∙ ap (λ (l : List Slot). l ++ f part) wrote
          ∙ append_assoc (take at old) (flat_map f (take i parts)) (f part) ∙ ap (λ (l : List Slot). take at old ++ l) (sym more),
    )

pub count-more : {E : Type 0} (p : E → Bool) (f : Node → E) (parts : List Node) (i : ℕ) (part : Node) → i < length parts → part
    ≡ slice_index_or parts i part
    → count_by p (map f (take (i + 1) parts)) ≡ count_by p (map f (take i parts)) + cond (p (f part)) 1 0
count-more p f parts i part within is =
    ap (λ (ps : List Node). count_by p (map f ps)) (take_more parts i part within ∙ ap (λ (n : Node). take i parts ++ n ∷ []) (sym is))
    ∙ go (take i parts)
  where
    go : (ps : List Node) → count_by p (map f (ps ++ part ∷ [])) ≡ count_by p (map f ps) + cond (p (f part)) 1 0
    go [] = refl
    go (q ∷ ps) = let a = count-cons p (f q) (map f (ps ++ part ∷ [])) in let b = count-cons p (f q) (map f ps) in let r = go ps in
        omega (arith, a, b, r)

adds-nothing : (o : Option Signs) → o ≡ option_map (with_more false false) o
adds-nothing None = refl
adds-nothing (Some signs) = ap Some (λ i. record { yes = sym (or-false signs.yes) i; no = sym (or-false signs.no) i })

pub adds-none : (signs : List Signs) → Adds (λ a s. false) signs signs
adds-none signs a = adds-nothing (slice_get signs a)

adds-twice : (a b c d : Bool) (o : Option Signs) → option_map (with_more c d) (option_map (with_more a b) o)
    ≡ option_map (with_more (a || c) (b || d)) o
adds-twice a b c d None = refl
adds-twice a b c d (Some signs) = ap Some (λ i. record { yes = or_assoc signs.yes a c i; no = or_assoc signs.no b d i })

pub adds-then : (f g : ℕ → Bool → Bool) (old mid now : List Signs) → Adds f old mid → Adds g mid now → Adds (λ a s. f a s || g a s) old now
adds-then f g old mid now h k a = k a ∙ ap (option_map (with_more (g a true) (g a false))) (h a)
    ∙ adds-twice (f a true) (f a false) (g a true) (g a false) (slice_get old a)

pub adds-same : (f g : ℕ → Bool → Bool) (old now : List Signs) → ((a : ℕ) (s : Bool) → f a s ≡ g a s) → Adds f old now → Adds g old now
adds-same f g old now same h a = h a ∙ ap (λ (y : Bool). option_map (with_more y (f a false)) (slice_get old a)) (same a true)
    ∙ ap (λ (n : Bool). option_map (with_more (g a true) n) (slice_get old a)) (same a false)
