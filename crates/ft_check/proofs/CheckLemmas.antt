-- The nodes of a certificate, one after another, each at its own part.
use Rattle.std.proofs.Common.{◌≡◌, ◌∙◌, inl, inr, sym, ap, subst, refl, ℕ, zero, suc, ◌+◌, ◌<◌, ◌≤◌, ℤ, Bool, true, arith}
use Rattle.std.proofs.Common.{List, [], ◌∷◌, ◌++◌, length, take, drop, slice_index_or, slice_get, Option, Some, None, map}
use Rattle.std.specs.Prelude.{unwrap_or}
use Rattle.std.proofs.lemmas.Bool.{cases_eq}
use Rattle.std.proofs.lemmas.List.{drop_more}
use Rattle.std.proofs.lemmas.Option.{slice_get_within}
use Rattle.ft_linear.specs.meaning.Form.{LinView, InArea}
use Rattle.ft_linear.specs.meaning.Formula.{FormulaView}
use Rattle.ft_linear.specs.meaning.Part.{PartView, PointOf}
use Rattle.ft_cert.specs.declared.node.CertNode.{CertNode}
use Rattle.ft_cert.specs.laws.Certificates.{AllArePlaced}
use Rattle.ft_cert.specs.meaning.Evidence.{EachBelow, Holds, IsFirstRefused, NodeHolds, Placed, Rule, by_its_kind, placed, placed_of}
use Rattle.ft_cert.specs.meaning.Parts.{whole_of}
use Rattle.ft_cert.specs.meaning.Tree.{Tree, is_closed, nodes_of}
use Rattle.ft_cert.specs.walk.Waiting.{children, first_of, placed_by, rest_of}

-- what is left of a list from a place on tells what stands there, and what is left behind it
from-drop : {X : Type 0} (xs : List X) (i : ℕ) (x : X) (ys : List X)
    → drop i xs ≡ x ∷ ys → (slice_get xs i ≡ Some x) × (drop (i + 1) xs ≡ ys)
from-drop [] zero x ys e = cc e
from-drop [] (suc i) x ys e = cc e
from-drop (z ∷ xs) zero x ys e = let same : z ≡ x = cc e in let left : xs ≡ ys = cc e in (ap (λ (w : _). Some w) same, left)
from-drop (z ∷ xs) (suc i) x ys e =
    let (stands, left) = from-drop xs i x ys e in
    let same : suc i + 1 ≡ suc (i + 1) = omega arith in
    (stands, ap (λ (n : ℕ). drop n (z ∷ xs)) same ∙ left)

-- each of the first so many, and one more
below-more : (Q : Rule) (es : List Placed) (i : ℕ) (e : Placed) → EachBelow Q es i
    → slice_get es i ≡ Some e → Q (take i es) e → EachBelow Q es (i + 1)
below-more Q es i e all got one j d below at = elim (cases_eq j i) [
  | inl same ↦
      let is : e ≡ d = cc (sym got ∙ ap (slice_get es) (sym same) ∙ at) in
      let moved : Q (take j es) e = subst (λ (k : ℕ). Q (take k es) e) (sym same) one in
      subst (λ (d : Placed). Q (take j es) d) is moved
  | inr other ↦ all j d (grind (arith, below, other)) at
]

module _ (f : FormulaView) (p : PartView) (t : Tree) (all_placed : AllArePlaced)
    (items : List CertNode) (spells : items ≡ nodes_of t) where
  abbrev own : List Placed
  own = placed_of f p t

  long : length own ≡ length items
  long = all_placed f p t ∙ ap length (sym spells)

  module _ (i : ℕ) (n : CertNode) (within : i < length items) (item : n ≡ slice_index_or items i n) (parts : List PartView)
      (rest : drop i own ≡ placed_by f parts (drop i items)) where
    at-node : drop i own ≡ placed_by f parts (n ∷ drop (i + 1) items)
    at-node = rest ∙ ap (placed_by f parts) (drop_more items i n within ∙ ap (λ (m : CertNode). m ∷ drop (i + 1) items) (sym item))

    -- a part waits for the node
    pub waits : 0 < length parts
    waits = some parts at-node
      where
        some : (qs : List PartView) → drop i own ≡ placed_by f qs (n ∷ drop (i + 1) items) → 0 < length qs
        some [] e = absurd (nothing own i (omega (arith, within, long)) e)
          where
            nothing : (es : List Placed) (j : ℕ) → j < length es → drop j es ≡ [] → ⊥
            nothing [] j below e = omega (arith, below)
            nothing (d ∷ es) zero below e = cc e
            nothing (d ∷ es) (suc j) below e = nothing es j (omega (arith, below)) e
        some (q ∷ qs) e = omega arith

    -- the node's own part is the first that waits
    stands : (slice_get own i ≡ Some (placed (first_of parts) n))
        × (drop (i + 1) own ≡ placed_by f (children f (first_of parts) n ++ rest_of parts) (drop (i + 1) items))
    stands = from-drop own i (placed (first_of parts) n)
        (placed_by f (children f (first_of parts) n ++ rest_of parts) (drop (i + 1) items))
        (at-node ∙ first parts waits)
      where
        first : (qs : List PartView) → 0 < length qs
            → placed_by f qs (n ∷ drop (i + 1) items)
            ≡ placed (first_of qs) n ∷ placed_by f (children f (first_of qs) n ++ rest_of qs) (drop (i + 1) items)
        first [] some = absurd (omega (arith, some))
        first (q ∷ qs) some = refl

    pub rest-more : (next : List PartView) → next ≡ children f (first_of parts) n ++ rest_of parts
        → drop (i + 1) own ≡ placed_by f next (drop (i + 1) items)
    rest-more next same = stands.1 ∙ ap (λ (qs : List PartView). placed_by f qs (drop (i + 1) items)) (sym same)

    pub before-more : EachBelow (by_its_kind f) own i → NodeHolds f (first_of parts) n → EachBelow (by_its_kind f) own (i + 1)
    before-more before holds = below-more (by_its_kind f) own i (placed (first_of parts) n) before stands.0 holds

    pub is-refused : (number : ℕ) → number ≡ i + 1 → EachBelow (by_its_kind f) own i
        → (NodeHolds f (first_of parts) n → ⊥) → IsFirstRefused f p t number
    is-refused number same before fails = record {
      place = i;
      refused = placed (first_of parts) n;
      number_is = same;
      stands = stands.0;
      before = before;
      fails = fails;
    }

  -- where all nodes hold, so does the tree
  pub holds-at-end : (i : ℕ) → is_closed t ≡ true → length items ≤ i → EachBelow (by_its_kind f) own i → Holds f p t
  holds-at-end i closed past before = record {
    closed = closed;
    each = λ j e at. let within = slice_get_within own j e at in before j e (omega (arith, within, long, past)) at;
  }

-- where a node is refused the tree doesn't hold
pub fails-where-refused : (f : FormulaView) (p : PartView) (t : Tree) (number : ℕ) → IsFirstRefused f p t number → Holds f p t → ⊥
fails-where-refused f p t number refused holds = refused.fails (holds.each refused.place refused.refused refused.stands)

abbrev all_undecided : List LinView → List (Option Bool)
all_undecided forms = map (λ atom. None) forms

none-decided : (forms : List LinView) (a : ℕ) → unwrap_or (slice_get (all_undecided forms) a) None ≡ None
none-decided [] a = refl
none-decided (l ∷ forms) zero = refl
none-decided (l ∷ forms) (suc a) = none-decided forms a

-- a point of the area is one of the whole part
pub whole-point : (f : FormulaView) (spans : List (ℤ × ℤ)) (x : ℕ → ℤ) → InArea spans x → PointOf f (whole_of f spans) x
whole-point f spans x area = (area, λ a b e. cc (sym (none-decided f.atoms a) ∙ e))
