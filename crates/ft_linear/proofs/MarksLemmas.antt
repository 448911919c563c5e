-- Marks by atom, and the room for the nodes of a tree.
use Rattle.std.proofs.Common.{◌≡◌, ◌∙◌, inl, inr, sym, ap, refl, ℕ, zero, suc, ◌+◌, ◌<◌, ◌≤◌, ℤ, Bool, true, false, List, [], ◌∷◌, ◌||◌}
use Rattle.std.proofs.Common.{◌&&◌, length, map, arith, Option, Some, None, Ok, Err, Result, slice_get}
use Rattle.std.specs.Prelude.{unwrap_or, slice_set, sum, nat_lt, OnOk}
use Rattle.std.specs.List.{list_any, list_all, range_with_len, flat_map}
use Rattle.std.specs.Option.{option_map}
use Rattle.std.proofs.lemmas.Bool.{cases_Bool, cases_eq}
use Rattle.std.proofs.lemmas.List.{length-append}
use Rattle.std.proofs.lemmas.List.Sums.{sum_by-cons}
use Rattle.std.proofs.lemmas.List.FromFn.{fill_by_all}
use Rattle.std.proofs.lemmas.Option.{slice_get_past, get_or_from_slice_get}
use Rattle.ft_base.specs.declared.three.Three.{Three}
use Rattle.ft_base.specs.declared.three.Three.TheVariants.{Maybe}
use Rattle.ft_linear.specs.declared.node.Node.{Node}
use Rattle.ft_linear.specs.declared.forcing.Signs.{Signs}
use Rattle.ft_linear.specs.meaning.Formula.{FormulaView}
use Rattle.ft_linear.specs.meaning.Forced.{forces}
use Rattle.ft_linear.specs.meaning.Part.{PartView, decision, fixed, fixed_form, value_by, atom_value, is_forced_both, atoms_of}
use Rattle.ft_linear.specs.judging.Slots.{value_at, slots_of, Adds, with_more}
use Rattle.ft_linear.specs.meaning.Form.{LinView}
use Rattle.ft_linear.specs.meaning.Marks.{size_of, signs_of}
use Rattle.ft_linear.specs.judging.Weighing.{decided_at}
use Rattle.ft_linear.specs.laws.Nodes.{With, bare, node_induction, list_any-map, size-At, size-Not, size-And, size-Or}
use Rattle.ft_linear.proofs.SlotLemmas.{slots-At, slots-Not, slots-And, slots-Or}
use Rattle.std.proofs.Math.Bool.{or-false, or_assoc}

pub OnOk_then : {T E : Type 0} (r : Result T E) {P Q : Type 0} → OnOk r P → (P → Q) → OnOk r Q
OnOk_then (Ok v) h k = k h
OnOk_then (Err e) h k = tt

module _ (atoms : ℕ → Three) where
  abbrev Fits : Node → Type 0
  Fits node = length (slots_of atoms node) ≡ size_of node

  parts-fit : (parts : List (With Fits)) → length (flat_map (slots_of atoms) (bare parts)) ≡ sum (map size_of (bare parts))
  parts-fit [] = refl
  parts-fit (p ∷ parts) = length-append (slots_of atoms p.0) (flat_map (slots_of atoms) (bare parts)) ∙ (λ i. p.1 i + parts-fit parts i)
      ∙ sym (sum_by-cons (λ (n : ℕ). n) (size_of p.0) (map size_of (bare parts)))

  -- a tree has as many slots as nodes
  pub slots-fit : (node : Node) → length (slots_of atoms node) ≡ size_of node
  slots-fit = node_induction (λ node. length (slots_of atoms node) ≡ size_of node) (record {
    at = λ atom. ap length (slots-At atoms atom) ∙ sym (size-At atom);
    negated = λ inner h. let a = ap length (slots-Not atoms inner) in let b = size-Not inner in omega (arith, a, b, h);
    all = λ parts. let a = ap length (slots-And atoms (bare parts)) in let b = size-And (bare parts) in let h = parts-fit parts in
        omega (arith, a, b, h);
    any = λ parts. let a = ap length (slots-Or atoms (bare parts)) in let b = size-Or (bare parts) in let h = parts-fit parts in
        omega (arith, a, b, h);
  })

-- a list that is written from its start
set-same : {X : Type 0} (xs : List X) (i : ℕ) (x : X) → i < length xs → slice_get (slice_set xs i x) i ≡ Some x
set-same [] i x h = absurd (omega (arith, h))
set-same (y ∷ xs) zero x h = refl
set-same (y ∷ xs) (suc i) x h = set-same xs i x (omega (arith, h))

set-other : {X : Type 0} (xs : List X) (i a : ℕ) (x : X) → a < i → slice_get (slice_set xs i x) a ≡ slice_get xs a
set-other [] i a x h = refl
set-other (y ∷ xs) zero a x h = absurd (omega (arith, h))
set-other (y ∷ xs) (suc i) zero x h = refl
set-other (y ∷ xs) (suc i) (suc a) x h = set-other xs i a x (omega (arith, h))

pub written-more : {X : Type 0} (g : ℕ → X) (xs ys : List X) (i : ℕ) (x : X) → i < length xs → ys ≡ slice_set xs i x → x ≡ g i
    → ((a : ℕ) → a < i → slice_get xs a ≡ Some (g a)) → (a : ℕ) → a < i + 1 → slice_get ys a ≡ Some (g a)
written-more g xs ys i x within set is before a below = elim (cases_eq a i) [
  | inl same ↦ ap (λ l. slice_get l a) set ∙ ap (slice_get (slice_set xs i x)) same ∙ set-same xs i x within
      ∙ ap Some (is ∙ ap g (sym same))
  | inr other ↦ let low : a < i = grind (arith, below, other) in ap (λ l. slice_get l a) set ∙ set-other xs i a x low ∙ before a low
]

and-all : (b : Bool) → (b && true) ≡ b
and-all true = refl
and-all false = refl

and-assoc : (a b c : Bool) → ((a && b) && c) ≡ (a && (b && c))
and-assoc true b c = refl
and-assoc false b c = refl

any-from : (q : ℕ → Bool) (from n : ℕ) → list_any q (range_with_len from (suc n)) ≡ (list_any q (range_with_len from n) || q (from + n))
any-from q from zero = or-false (q from) ∙ ap q (omega arith)
any-from q from (suc n) = ap (λ b. q from || b) (any-from q (from + 1) n
    ∙ ap (λ k. list_any q (range_with_len (from + 1) n) || q k) (omega arith))
    ∙ sym (or_assoc (q from) (list_any q (range_with_len (from + 1) n)) (q (from + suc n)))

all-from : (q : ℕ → Bool) (from n : ℕ) → list_all q (range_with_len from (suc n)) ≡ (list_all q (range_with_len from n) && q (from + n))
all-from q from zero = and-all (q from) ∙ ap q (omega arith)
all-from q from (suc n) = ap (λ b. q from && b) (all-from q (from + 1) n
    ∙ ap (λ k. list_all q (range_with_len (from + 1) n) && q k) (omega arith))
    ∙ sym (and-assoc (q from) (list_all q (range_with_len (from + 1) n)) (q (from + suc n)))

module _ (q : ℕ → Bool) (n : ℕ) (b c : Bool) (here : c ≡ q n) where
  none-before : q (0 + n) ≡ q n
  none-before = ap q (omega arith)

  one-after : range_with_len 0 (n + 1) ≡ range_with_len 0 (suc n)
  one-after = let next : n + 1 ≡ suc n = omega arith in ap (range_with_len 0) next

  pub any-more : b ≡ list_any q (range_with_len 0 n) → (b || c) ≡ list_any q (range_with_len 0 (n + 1))
  any-more h = (λ i. h i || (here ∙ sym none-before) i) ∙ sym (ap (list_any q) one-after ∙ any-from q 0 n)

  pub all-more : b ≡ list_all q (range_with_len 0 n) → (b && c) ≡ list_all q (range_with_len 0 (n + 1))
  all-more h = (λ i. h i && (here ∙ sym none-before) i) ∙ sym (ap (list_all q) one-after ∙ all-from q 0 n)

module _ (f : FormulaView) (p : PartView) (same : length p.decided ≡ length f.atoms) where
  past-value : (a : ℕ) → length f.atoms ≤ a → atom_value f p a ≡ Maybe
  past-value a past = (λ i. value_by (unwrap_or (slice_get_past p.decided a (omega (arith, same, past)) i) None) (fixed f p a))
      ∙ ap (fixed_form p.spans) (slice_get_past f.atoms a past)

  -- the values of atoms that are kept are the values of the atoms
  pub values-same : (values : List Three) → length values ≡ length f.atoms
      → ((a : ℕ) → a < length f.atoms → slice_get values a ≡ Some (atom_value f p a))
      → (a : ℕ) → value_at values a ≡ atom_value f p a
  values-same values long is a = elim (cases_Bool (nat_lt a (length f.atoms))) [
    | inl below ↦ ap (λ o. unwrap_or o Maybe) (is a (grind (arith, below)))
    | inr above ↦ let past : length f.atoms ≤ a = grind (arith, above) in
        ap (λ o. unwrap_or o Maybe) (slice_get_past values a (omega (arith, past, long))) ∙ sym (past-value a past)
  ]

-- one more node than its parts have
pub one-node : (new before old parts whole : ℕ) → new ≡ before + parts → before ≡ old + 1 → whole ≡ parts + 1 → new ≡ old + whole
one-node new before old parts whole a b c = omega (arith, a, b, c)

-- what both passes leave of the forced literals
module _ (f : FormulaView) (p : PartView) (mid new : List Signs) (long : length new ≡ length f.atoms)
    (decided : (a : ℕ) → a < length f.atoms → slice_get mid a ≡ Some (decided_at p a))
    (adds : Adds (forces (atom_value f p) f.root true) mid new) where
  pub signs-are : (a : ℕ) → a < length f.atoms → slice_get new a ≡ Some (signs_of f p a)
  signs-are a below = adds a ∙ ap (option_map (with_more (forces (atom_value f p) f.root true a true)
      (forces (atom_value f p) f.root true a false))) (decided a below)

  all-signs : new ≡ map (signs_of f p) (atoms_of f)
  all-signs = fill_by_all (signs_of f p) new (length f.atoms) (record { yes = false; no = false }) long
      (λ a below. get_or_from_slice_get new a (signs_of f p a) (record { yes = false; no = false }) (signs-are a below))

  pub any-both : list_any (λ (s : Signs). s.yes && s.no) new ≡ list_any (is_forced_both f p) (atoms_of f)
  any-both = ap (list_any (λ (s : Signs). s.yes && s.no)) all-signs ∙ list_any-map (λ (s : Signs). s.yes && s.no) (signs_of f p)
      (atoms_of f)

-- an atom's decision and what it is fixed to, by what is read
pub atom-read : (f : FormulaView) (p : PartView) (at : ℕ) (dec : Option Bool) (here : Three) (item : LinView) (spans : List (ℤ × ℤ))
    (decided : List (Option Bool)) (atoms : List LinView)
    → slice_get decided at ≡ Some dec → decided ≡ p.decided → here ≡ fixed_form spans (Some item) → spans ≡ p.spans → slice_get atoms at
    ≡ Some item → atoms ≡ f.atoms
    → (dec ≡ decision p at) × (here ≡ fixed f p at)
atom-read f p at dec here item spans decided atoms d ds h ss is as_is = (
  ap (λ (o : Option (Option Bool)). unwrap_or o None) (sym d) ∙ ap (λ (l : List (Option Bool)). unwrap_or (slice_get l at) None) ds,
  h ∙ (λ i. fixed_form (ss i) (sym is i)) ∙ ap (λ (l : List LinView). fixed_form p.spans (slice_get l at)) as_is,
)
