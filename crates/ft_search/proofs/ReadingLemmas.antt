-- What is read from a room: the lines of single literals, the least values of spans, and certificates by their nodes.
use Rattle.std.proofs.Common.{◌≡◌, ◌∙◌, inl, inr, sym, ap, subst, refl, ℕ, zero, suc, ◌+◌, ◌<◌, ℤ, neg_ℤ, ◌≤ℤ◌, Bool}
use Rattle.std.proofs.Common.{true, false, List, [], ◌∷◌, ◌++◌, length, take, map, slice_index_or, slice_get, Some, append-nil}
use Rattle.std.proofs.Common.{append_assoc, arith}
use Rattle.std.specs.Prelude.{filter}
use Rattle.std.specs.List.{flat_map}
use Rattle.std.proofs.lemmas.Bool.{cases_Bool}
use Rattle.std.proofs.lemmas.Int.{ints}
use Rattle.std.proofs.lemmas.List.{take_more}
use Rattle.ft_base.specs.Interval.{IsWithin}
use Rattle.ft_linear.specs.declared.lines.Line.{Line}
use Rattle.ft_linear.specs.declared.lines.Line.TheVariants.{Atom}
use Rattle.ft_linear.specs.meaning.Form.{Factor, InArea, LinView, values_at}
use Rattle.ft_linear.specs.meaning.Formula.{FormulaView}
use Rattle.ft_linear.specs.meaning.Halving.{cancelling, is_other, single_lines}
use Rattle.ft_linear.specs.meaning.Part.{PartView}
use Rattle.ft_cert.specs.declared.node.CertNode.{CertNode}
use Rattle.ft_cert.specs.laws.Certificates.{PlacedInOrder}
use Rattle.ft_cert.specs.meaning.Evidence.{Each, Holds, Placed, by_its_kind, placed_of}
use Rattle.ft_cert.specs.meaning.Tree.{Tree, is_closed, nodes_of}
use Rattle.ft_cert.specs.walk.Waiting.{placed_by}
use Rattle.ft_search.specs.searching.Kept.{IsEvidence, other_line}

by-true : (u : ℕ) (fs : List Factor) → map cancelling (filter (is_other u) fs) ≡ flat_map (other_line true u) fs
by-true u [] = refl
by-true u (f ∷ fs) = elim (cases_Bool (is_other u f)) [
  | inl so ↦ rw so (ap (λ (ls : List Line). cancelling f ∷ ls) (by-true u fs))
  | inr isnt ↦ rw isnt (by-true u fs)
]

by-false : (u : ℕ) (fs : List Factor)
    → map cancelling (filter (is_other u) (map (λ (f : Factor). (f.0, neg_ℤ f.1)) fs)) ≡ flat_map (other_line false u) fs
by-false u [] = refl
by-false u (f ∷ fs) = elim (cases_Bool (is_other u f)) [
  | inl so ↦ rw so (ap (λ (ls : List Line). cancelling (f.0, neg_ℤ f.1) ∷ ls) (by-false u fs))
  | inr isnt ↦ rw isnt (by-false u fs)
]

pub single-is : (a : ℕ) (s : Bool) (u : ℕ) (l : LinView) → single_lines a s u l ≡ Atom a s 1 ∷ flat_map (other_line s u) l.factors
single-is a true u l = ap (λ (ls : List Line). Atom a true 1 ∷ ls) (by-true u l.factors)
single-is a false u l = ap (λ (ls : List Line). Atom a false 1 ∷ ls) (by-false u l.factors)

flat-push : (h : Factor → List Line) (fs : List Factor) (f : Factor) → flat_map h (fs ++ f ∷ []) ≡ flat_map h fs ++ h f
flat-push h [] f = append-nil (h f)
flat-push h (g ∷ fs) f = ap (λ (ls : List Line). h g ++ ls) (flat-push h fs f) ∙ sym (append_assoc (h g) (flat_map h fs) (h f))

pub flat-more : (h : Factor → List Line) (fs : List Factor) (i : ℕ) (f : Factor) → i < length fs → f ≡ slice_index_or fs i f
    → flat_map h (take (i + 1) fs) ≡ flat_map h (take i fs) ++ h f
flat-more h fs i f within item =
    ap (flat_map h) (take_more fs i f within ∙ ap (λ (g : Factor). take i fs ++ g ∷ []) (sym item)) ∙ flat-push h (take i fs) f

-- a certificate with the nodes of one that holds does too
pub same-holds : (order : PlacedInOrder) (f : FormulaView) (p : PartView) (ns : List CertNode) (t : Tree) → IsEvidence f p ns
    → nodes_of t ≡ ns → is_closed t ≡ true → Holds f p t
same-holds order f p ns t e named closed =
    let same : placed_of f p e.tree ≡ placed_of f p t
    = sym (order f p e.tree e.holds.closed) ∙ ap (placed_by f (p ∷ [])) (e.nodes ∙ sym named) ∙ order f p t closed in
    record { closed = closed; each = subst (λ (es : List Placed). Each (by_its_kind f) es) same e.holds.each }

map-push : {X Y : Type 0} (g : X → Y) (xs : List X) (x : X) → map g (xs ++ x ∷ []) ≡ map g xs ++ g x ∷ []
map-push g [] x = refl
map-push g (y ∷ xs) x = ap (λ (ys : List _). g y ∷ ys) (map-push g xs x)

-- what is made of the first so many of a list, and of one more
pub map-more : {X Y : Type 0} (g : X → Y) (xs : List X) (i : ℕ) (x : X) → slice_get xs i ≡ Some x
    → map g (take (i + 1) xs) ≡ map g (take i xs) ++ g x ∷ []
map-more g [] zero x got = cc got
map-more g [] (suc i) x got = cc got
map-more g (y ∷ xs) zero x got = let same : y ≡ x = cc got in ap (λ (z : _). g z ∷ []) same
map-more g (y ∷ xs) (suc i) x got =
    let next : suc i + 1 ≡ suc (i + 1) = omega arith in
    ap (λ (n : ℕ). map g (take n (y ∷ xs))) next ∙ ap (λ (zs : List _). g y ∷ zs) (map-more g xs i x got)

abbrev pub least_of : List (ℤ × ℤ) → List ℤ
least_of spans = map (λ (s : ℤ × ℤ). s.0) spans

-- no span is empty
abbrev pub AreFull : List (ℤ × ℤ) → Type 0
AreFull [] = Unit {0}
AreFull (s ∷ spans) = (s.0 ≤ℤ s.1) × AreFull spans

full-push : (spans : List (ℤ × ℤ)) (s : ℤ × ℤ) → AreFull spans → s.0 ≤ℤ s.1 → AreFull (spans ++ s ∷ [])
full-push [] s all h = (h, tt)
full-push (t ∷ spans) s all h = (all.0, full-push spans s all.1 h)

pub least-inside : (spans : List (ℤ × ℤ)) → AreFull spans → InArea spans (values_at (least_of spans))
least-inside [] all u s e = cc e
least-inside (t ∷ spans) all zero s e =
    let same : t ≡ s = cc e in subst (λ (s : ℤ × ℤ). IsWithin s t.0) same (omega (arith, ints), all.0)
least-inside (t ∷ spans) all (suc u) s e = least-inside spans all.1 u s e

taken : (spans : List (ℤ × ℤ)) (i : ℕ) (s : ℤ × ℤ) → i < length spans → s ≡ slice_index_or spans i s
    → take (i + 1) spans ≡ take i spans ++ s ∷ []
taken spans i s within item = take_more spans i s within ∙ ap (λ (t : ℤ × ℤ). take i spans ++ t ∷ []) (sym item)

pub least-more : (spans : List (ℤ × ℤ)) (i : ℕ) (s : ℤ × ℤ) (old new : List ℤ) (z : ℤ) → i < length spans → s ≡ slice_index_or spans i s
    → old ≡ least_of (take i spans) → new ≡ old ++ z ∷ [] → z ≡ s.0 → new ≡ least_of (take (i + 1) spans)
least-more spans i s old new z within item before pushed is =
    pushed ∙ (λ j. before j ++ is j ∷ []) ∙ sym (map-push (λ (t : ℤ × ℤ). t.0) (take i spans) s)
    ∙ ap least_of (sym (taken spans i s within item))

pub full-more : (spans : List (ℤ × ℤ)) (i : ℕ) (s : ℤ × ℤ) → i < length spans → s ≡ slice_index_or spans i s → AreFull (take i spans)
    → s.0 ≤ℤ s.1 → AreFull (take (i + 1) spans)
full-more spans i s within item all h =
    subst (λ (ss : List (ℤ × ℤ)). AreFull ss) (sym (taken spans i s within item)) (full-push (take i spans) s all h)
