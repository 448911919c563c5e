-- A part whose spans have one value each isn't Maybe.
use Rattle.std.proofs.Common.{◌≡◌, ◌∙◌, inl, inr, sym, ap, refl, ℕ, zero, suc, ◌+◌, ◌<◌, ℤ, pos, ◌+ℤ◌, ◌*ℤ◌, Bool, true, false, ◌&&◌, ◌||◌}
use Rattle.std.proofs.Common.{cond, List, [], ◌∷◌, length, map, Option, Some, None, arith}
use Rattle.std.specs.Prelude.{int_lt, int_le, nat_lt, slice_index_or}
use Rattle.std.specs.List.{list_any, list_all, range_with_len}
use Rattle.std.proofs.lemmas.Bool.{cases_Bool, and_parts}
use Rattle.std.proofs.lemmas.Int.{ints}
use Rattle.std.proofs.lemmas.Option.{slice_get-get_or}
use Rattle.ft_base.specs.declared.three.Three.{Three}
use Rattle.ft_base.specs.declared.three.Three.TheVariants.{No, Maybe, Yes}
use Rattle.ft_linear.specs.declared.node.Node.{Node}
use Rattle.ft_linear.specs.meaning.Form.{LinView, Factor, span_at, most, least, high_end, low_end}
use Rattle.ft_linear.specs.meaning.Formula.{atoms_below}
use Rattle.ft_base.specs.Three.{is_no, is_yes, three_not, three_all, three_any}
use Rattle.ft_linear.specs.meaning.Forced.{value_of}
use Rattle.ft_linear.specs.meaning.Part.{fixed_form, fixed, decision, value_by, atom_value, against, agrees, is_against, is_agreed}
use Rattle.ft_linear.specs.meaning.Part.{is_forced_both, atoms_of}
use Rattle.ft_linear.specs.laws.Parts.{SettledAtOnePoint}
use Rattle.ft_linear.specs.laws.Nodes.{Inductive, With, bare, node_induction, value-At, value-Not, value-And, value-Or, below-At, below-Not}
use Rattle.ft_linear.specs.laws.Nodes.{below-And, below-Or}

module _ (spans : List (ℤ × ℤ)) (single : (u : ℕ) → (span_at spans u).0 ≡ (span_at spans u).1) where
  same-ends : (g : ℤ) (s : ℤ × ℤ) → s.0 ≡ s.1 → low_end g s ≡ high_end g s
  same-ends g s e = ap (λ (z : ℤ). g *ℤ cond (int_lt g (pos 0)) z s.0) (sym e) ∙ ap (λ (z : ℤ). g *ℤ cond (int_lt g (pos 0)) s.0 z) e

  least-most : (fs : List Factor) → least spans fs ≡ most spans fs
  least-most [] = refl
  least-most (f ∷ fs) = (λ i. same-ends f.1 (span_at spans f.0) (single f.0) i +ℤ least-most fs i)

  by-tests : (m l : ℤ) → l ≡ m → cond (int_le m (pos 0)) Yes (cond (int_lt (pos 0) l) No Maybe) ≡ Maybe → ⊥
  by-tests m l e h = elim (cases_Bool (int_le m (pos 0))) [
    | inl so ↦ cc (rw so at h)
    | inr isnt ↦ let above : int_lt (pos 0) m ≡ true = positive m isnt in cc (rw (isnt, e, above) at h)
  ]
    where
      positive : (z : ℤ) → int_le z (pos 0) ≡ false → int_lt (pos 0) z ≡ true
      positive z e = grind (arith, ints, e)

  form-fixed : (l : LinView) → fixed_form spans (Some l) ≡ Maybe → ⊥
  form-fixed l h = by-tests _ _ (ap (λ (z : ℤ). z +ℤ l.constant) (least-most l.factors)) h

-- values without Maybe
abbrev IsSettled : Three → Type 0
IsSettled v = v ≡ Maybe → ⊥

settled-not : (v : Three) → IsSettled v → IsSettled (three_not v)
settled-not No h e = cc e
settled-not Maybe h e = h refl
settled-not Yes h e = cc e

-- each value of a list is settled
abbrev AreSettled : List Three → Type 0
AreSettled [] = Unit {0}
AreSettled (v ∷ vs) = IsSettled v × AreSettled vs

no-or-yes : (vs : List Three) → AreSettled vs → list_any is_no vs ≡ false → list_all is_yes vs ≡ true
no-or-yes [] h e = refl
no-or-yes (No ∷ vs) h e = cc e
no-or-yes (Maybe ∷ vs) h e = absurd (h.0 refl)
no-or-yes (Yes ∷ vs) h e = no-or-yes vs h.1 e

yes-or-no : (vs : List Three) → AreSettled vs → list_any is_yes vs ≡ false → list_all is_no vs ≡ true
yes-or-no [] h e = refl
yes-or-no (No ∷ vs) h e = yes-or-no vs h.1 e
yes-or-no (Maybe ∷ vs) h e = absurd (h.0 refl)
yes-or-no (Yes ∷ vs) h e = cc e

settled-all : (vs : List Three) → AreSettled vs → IsSettled (three_all vs)
settled-all vs h e = elim (cases_Bool (list_any is_no vs)) [
  | inl so ↦ cc (rw so at e)
  | inr isnt ↦ cc (rw (isnt, no-or-yes vs h isnt) at e)
]

settled-any : (vs : List Three) → AreSettled vs → IsSettled (three_any vs)
settled-any vs h e = elim (cases_Bool (list_any is_yes vs)) [
  | inl so ↦ cc (rw so at e)
  | inr isnt ↦ cc (rw (isnt, yes-or-no vs h isnt) at e)
]

module _ (atoms : ℕ → Three) (count : ℕ) (fixed_below : (a : ℕ) → a < count → IsSettled (atoms a)) where
  abbrev Below : Node → Type 0
  Below node = atoms_below count node ≡ true → IsSettled (value_of atoms node)

  each-part : (parts : List (With Below)) → list_all (atoms_below count) (bare parts) ≡ true
      → AreSettled (map (value_of atoms) (bare parts))
  each-part [] e = tt
  each-part (p ∷ parts) e =
      let both = and_parts (atoms_below count p.0) (list_all (atoms_below count) (bare parts)) e in (p.1 both.0, each-part parts both.1)

  moved : (v w : Three) → v ≡ w → IsSettled w → IsSettled v
  moved v w e h m = h (sym e ∙ m)

  cases : Inductive Below
  cases = record {
    at = λ a e. moved _ _ (value-At atoms a) (fixed_below a (under a (sym (below-At count a) ∙ e)));
    negated = λ inner h e. moved _ _ (value-Not atoms inner) (settled-not (value_of atoms inner) (h (sym (below-Not count inner) ∙ e)));
    all = λ parts e. moved _ _ (value-And atoms (bare parts)) (settled-all _ (each-part parts (sym (below-And count (bare parts)) ∙ e)));
    any = λ parts e. moved _ _ (value-Or atoms (bare parts)) (settled-any _ (each-part parts (sym (below-Or count (bare parts)) ∙ e)));
  }
    where
      under : (a : ℕ) → nat_lt a count ≡ true → a < count
      under a e = grind (arith, e)

  settled-node : (node : Node) → atoms_below count node ≡ true → IsSettled (value_of atoms node)
  settled-node node = node_induction Below cases node

settled-by : (o : Option Bool) (v : Three) → IsSettled v → IsSettled (value_by o v)
settled-by None v h e = h e
settled-by (Some true) v h e = cc e
settled-by (Some false) v h e = cc e

agreed-or-against : (o : Option Bool) (v : Three) → IsSettled v → agrees o v ≡ false → against o v ≡ true
agreed-or-against None v h e = cc e
agreed-or-against (Some b) Maybe h e = absurd (h refl)
agreed-or-against (Some true) No h e = refl
agreed-or-against (Some true) Yes h e = cc e
agreed-or-against (Some false) No h e = cc e
agreed-or-against (Some false) Yes h e = refl

some-against : (q r : ℕ → Bool) (from n : ℕ) → ((a : ℕ) → a < from + n → q a ≡ false → r a ≡ true)
    → list_all q (range_with_len from n) ≡ false → list_any r (range_with_len from n) ≡ true
some-against q r from zero h e = cc e
some-against q r from (suc n) h e = elim (cases_Bool (q from)) [
  | inl so ↦ elim (cases_Bool (r from)) [
    | inl bad ↦ rw bad refl
    | inr fine ↦ rw fine (some-against q r (from + 1) n (λ a below. h a (omega (arith, below))) (rw so at e))
  ]
  | inr isnt ↦ rw (h from (omega arith) isnt) refl
]

by-answer : (root : Three) (a b c : Bool) → IsSettled root → (c ≡ false → a ≡ true)
    → cond (is_no root || a || b) No (cond (is_yes root && c) Yes Maybe) ≡ Maybe → ⊥
by-answer No a b c s h e = cc e
by-answer Maybe a b c s h e = s refl
by-answer Yes true b c s h e = cc e
by-answer Yes false true c s h e = cc e
by-answer Yes false false true s h e = cc e
by-answer Yes false false false s h e = cc (h refl)

pub settled-at-one-point : SettledAtOnePoint
settled-at-one-point f p below single e =
    by-answer (value_of (atom_value f p) f.root) (list_any (is_against f p) (atoms_of f)) (list_any (is_forced_both f p) (atoms_of f))
    (list_all (is_agreed f p) (atoms_of f))
    (settled-node (atom_value f p) (length f.atoms) (λ a within. settled-by (decision p a) (fixed f p a) (fixed-at a within)) f.root below)
    (λ none. some-against (is_agreed f p) (is_against f p) 0 (length f.atoms)
    (λ a within. agreed-or-against (decision p a) (fixed f p a) (fixed-at a (omega (arith, within)))) none)
    e
  where
    fixed-at : (a : ℕ) → a < length f.atoms → IsSettled (fixed f p a)
    fixed-at a within m =
        let l : LinView = slice_index_or f.atoms a (record { factors = []; constant = pos 0 }) in
        let got = slice_get-get_or f.atoms a (record { factors = []; constant = pos 0 }) within in
        form-fixed p.spans single l (ap (fixed_form p.spans) (sym got) ∙ m)
