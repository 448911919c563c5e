-- Nodes one after another, the parts that wait behind them, and the tree that they begin.
use Rattle.std.proofs.Common.{◌≡◌, ◌∙◌, ◌⊎◌, inl, inr, sym, ap, subst, refl, ℕ, zero, suc, ◌+◌, ◌*◌, ◌^◌, ◌<◌, true, arith}
use Rattle.std.proofs.Common.{List, [], ◌∷◌, ◌++◌, length, map, take, slice_get, Some, append_assoc, append-nil}
use Rattle.std.proofs.lemmas.List.{length-append}
use Rattle.std.proofs.lemmas.List.Sums.{sum_by_push}
use Rattle.ft_linear.specs.meaning.Formula.{FormulaView}
use Rattle.ft_linear.specs.meaning.Part.{PartView}
use Rattle.ft_cert.specs.declared.node.CertNode.{CertNode}
use Rattle.ft_cert.specs.declared.node.CertNode.TheVariants as node
use Rattle.ft_cert.specs.declared.step.Step.{Step}
use Rattle.ft_cert.specs.declared.step.Step.TheVariants as step
use Rattle.ft_cert.specs.meaning.Evidence.{Each, Placed, Rule, placed, placed_of}
use Rattle.ft_cert.specs.meaning.Parts.{low_part, high_part, true_part, false_part, tight_part}
use Rattle.ft_cert.specs.meaning.Tree.{Tree, Open, F, L, S, R, C, T, is_closed, nodes_of}
use Rattle.ft_cert.specs.prefix.Row.{head_of, row_of, tail_of, tree_of}
use Rattle.ft_cert.specs.walk.Steps.{parts_by}
use Rattle.ft_cert.specs.walk.Waiting.{children, first_of, placed_by, rest_of}
use Rattle.ft_search.specs.declared.kept.KeptNode.{KeptNode}
use Rattle.ft_search.specs.declared.turns.Turn.{Turn}
use Rattle.ft_search.specs.meaning.Spent.{IsLawful, IsSpentBy, IsUnsettled, by_law, halving_at, halvings_in, open_parts, split_at}
use Rattle.ft_search.specs.meaning.Spent.{splits_in}
use Rattle.ft_search.specs.searching.Kept.{IsEvidence, node_of, nodes_by}
use Rattle.ft_search.specs.searching.Turn.{IsTurn, halvings_by, splits_by, tightens_by}
use Rattle.ft_search.specs.searching.Walk.{AreInside, IsWalk, left_by}
use Rattle.ft_search.proofs.AreaLemmas.{children-inside}

map-both : {X Y : Type 0} (g : X → Y) (xs ys : List X) → map g (xs ++ ys) ≡ map g xs ++ map g ys
map-both g [] ys = refl
map-both g (x ∷ xs) ys = ap (λ (zs : List _). g x ∷ zs) (map-both g xs ys)

parts-are : (parts : List PartView) → 0 < length parts → parts ≡ first_of parts ∷ rest_of parts
parts-are [] some = absurd (omega (arith, some))
parts-are (p ∷ ps) some = refl

-- one more at the end of a list
at-push : (es : List Placed) (e d : Placed) (i : ℕ) → slice_get (es ++ e ∷ []) i ≡ Some d
    → ((slice_get es i ≡ Some d) × (take i (es ++ e ∷ []) ≡ take i es)) ⊎ ((e ≡ d) × (take i (es ++ e ∷ []) ≡ es))
at-push [] e d zero got = let same : e ≡ d = cc got in inr (same, refl)
at-push [] e d (suc i) got = cc got
at-push (x ∷ es) e d zero got = inl (got, refl)
at-push (x ∷ es) e d (suc i) got = elim (at-push es e d i got) [
  | inl a ↦ inl (a.0, ap (λ (xs : List Placed). x ∷ xs) a.1)
  | inr b ↦ inr (b.0, ap (λ (xs : List Placed). x ∷ xs) b.1)
]

each-push : (Q : Rule) (es : List Placed) (e : Placed) → Each Q es → Q es e → Each Q (es ++ e ∷ [])
each-push Q es e all one i d got = elim (at-push es e d i got) [
  | inl a ↦ subst (λ (xs : List Placed). Q xs d) (sym a.1) (all i d a.0)
  | inr b ↦ subst (λ (xs : List Placed). Q xs d) (sym b.1) (subst (λ (x : Placed). Q es x) b.0 one)
]

each-none : (Q : Rule) → Each Q []
each-none Q zero e got = cc got
each-none Q (suc i) e got = cc got

-- what trees in a row give, each at its own part; open leaves stand for those that aren't there
abbrev over : {X : Type 0} → (PartView → Tree → List X) → List PartView → List Tree → List X
over g [] ts = []
over g (p ∷ ps) ts = g p (head_of ts) ++ over g ps (tail_of ts)

module _ (f : FormulaView) where
  none-placed : (ws : List PartView) → over (placed_of f) ws [] ≡ []
  none-placed [] = refl
  none-placed (w ∷ ws) = none-placed ws

  placed-row : (ws : List PartView) (ns : List CertNode) → over (placed_of f) ws (row_of ns) ≡ placed_by f ws ns
  placed-row ws [] = none-placed ws
  placed-row [] (n ∷ ns) = refl
  placed-row (p ∷ ws) (node.F ∷ ns) = ap (λ (es : List Placed). placed p node.F ∷ es) (placed-row ws ns)
  placed-row (p ∷ ws) (node.L ∷ ns) = ap (λ (es : List Placed). placed p node.L ∷ es) (placed-row ws ns)
  placed-row (p ∷ ws) (node.S lines ∷ ns) = ap (λ (es : List Placed). placed p (node.S lines) ∷ es) (placed-row ws ns)
  placed-row (p ∷ ws) (node.R u v ∷ ns) =
      ap (λ (es : List Placed). placed p (node.R u v) ∷ es)
      (append_assoc (placed_of f (low_part p u v) (head_of (row_of ns))) (placed_of f (high_part p u v) (head_of (tail_of (row_of ns))))
      (over (placed_of f) ws (tail_of (tail_of (row_of ns))))
      ∙ placed-row (low_part p u v ∷ high_part p u v ∷ ws) ns)
  placed-row (p ∷ ws) (node.C a ∷ ns) =
      ap (λ (es : List Placed). placed p (node.C a) ∷ es)
      (append_assoc (placed_of f (true_part p a) (head_of (row_of ns))) (placed_of f (false_part p a) (head_of (tail_of (row_of ns))))
      (over (placed_of f) ws (tail_of (tail_of (row_of ns))))
      ∙ placed-row (true_part p a ∷ false_part p a ∷ ws) ns)
  placed-row (p ∷ ws) (node.T u lines ∷ ns) =
      ap (λ (es : List Placed). placed p (node.T u lines) ∷ es) (placed-row (tight_part f p u lines ∷ ws) ns)

  all-open : (ws : List PartView) → over (open_parts f) ws [] ≡ ws
  all-open [] = refl
  all-open (w ∷ ws) = ap (λ (ps : List PartView). w ∷ ps) (all-open ws)

  open-row : (ws : List PartView) (ns : List CertNode) → over (open_parts f) ws (row_of ns) ≡ left_by f ws ns
  open-row ws [] = all-open ws
  open-row [] (n ∷ ns) = refl
  open-row (p ∷ ws) (node.F ∷ ns) = open-row ws ns
  open-row (p ∷ ws) (node.L ∷ ns) = open-row ws ns
  open-row (p ∷ ws) (node.S lines ∷ ns) = open-row ws ns
  open-row (p ∷ ws) (node.R u v ∷ ns) =
      append_assoc (open_parts f (low_part p u v) (head_of (row_of ns))) (open_parts f (high_part p u v) (head_of (tail_of (row_of ns))))
      (over (open_parts f) ws (tail_of (tail_of (row_of ns))))
      ∙ open-row (low_part p u v ∷ high_part p u v ∷ ws) ns
  open-row (p ∷ ws) (node.C a ∷ ns) =
      append_assoc (open_parts f (true_part p a) (head_of (row_of ns))) (open_parts f (false_part p a) (head_of (tail_of (row_of ns))))
      (over (open_parts f) ws (tail_of (tail_of (row_of ns))))
      ∙ open-row (true_part p a ∷ false_part p a ∷ ws) ns
  open-row (p ∷ ws) (node.T u lines ∷ ns) = open-row (tight_part f p u lines ∷ ws) ns

  abbrev node_at : Placed → CertNode
  node_at e = e.node

  two-named : (a b : Tree) (p q : PartView) → map node_at (placed_of f p a) ≡ nodes_of a → map node_at (placed_of f q b) ≡ nodes_of b
      → map node_at (placed_of f p a ++ placed_of f q b) ≡ nodes_of a ++ nodes_of b
  two-named a b p q e d = map-both node_at (placed_of f p a) (placed_of f q b) ∙ (λ i. e i ++ d i)

  named-tree : (p : PartView) (t : Tree) → map node_at (placed_of f p t) ≡ nodes_of t
  named-tree p Open = refl
  named-tree p F = refl
  named-tree p L = refl
  named-tree p (S lines) = refl
  named-tree p (R u v a b) = ap (λ (ns : List CertNode). node.R u v ∷ ns)
      (two-named a b (low_part p u v) (high_part p u v) (named-tree (low_part p u v) a) (named-tree (high_part p u v) b))
  named-tree p (C atom a b) = ap (λ (ns : List CertNode). node.C atom ∷ ns)
      (two-named a b (true_part p atom) (false_part p atom) (named-tree (true_part p atom) a) (named-tree (false_part p atom) b))
  named-tree p (T u lines a) = ap (λ (ns : List CertNode). node.T u lines ∷ ns) (named-tree (tight_part f p u lines) a)

  both-empty : (xs ys : List PartView) → xs ++ ys ≡ [] → (xs ≡ []) × (ys ≡ [])
  both-empty [] ys e = (refl, e)
  both-empty (x ∷ xs) ys e = cc e

  none-open : (p : PartView) (t : Tree) → open_parts f p t ≡ [] → is_closed t ≡ true
  none-open p Open e = cc e
  none-open p F e = refl
  none-open p L e = refl
  none-open p (S lines) e = refl
  none-open p (R u v a b) e =
      let (x, y) = both-empty (open_parts f (low_part p u v) a) (open_parts f (high_part p u v) b) e in
      rw (none-open (low_part p u v) a x, none-open (high_part p u v) b y) refl
  none-open p (C atom a b) e =
      let (x, y) = both-empty (open_parts f (true_part p atom) a) (open_parts f (false_part p atom) b) e in
      rw (none-open (true_part p atom) a x, none-open (false_part p atom) b y) refl
  none-open p (T u lines a) e = none-open (tight_part f p u lines) a e

  placed-push : (ws : List PartView) (ns : List CertNode) (n : CertNode) (q : PartView) (rest : List PartView) → left_by f ws ns ≡ q ∷ rest
      → (placed_by f ws (ns ++ n ∷ []) ≡ placed_by f ws ns ++ placed q n ∷ []) × (left_by f ws (ns ++ n ∷ []) ≡ children f q n ++ rest)
  placed-push ws [] n q rest e =
      (ap (λ (qs : List PartView). placed_by f qs (n ∷ [])) e, ap (λ (qs : List PartView). left_by f qs (n ∷ [])) e)
  placed-push [] (m ∷ ns) n q rest e = cc e
  placed-push (p ∷ ws) (m ∷ ns) n q rest e =
      let (a, b) = placed-push (children f p m ++ ws) ns n q rest e in (ap (λ (es : List Placed). placed p m ∷ es) a, b)

  module _ (enough : ℕ) (p : PartView) where
    pub starts : IsWalk f enough p [] (p ∷ []) 0 0 0
    starts = record {
      each = each-none (by_law f enough);
      left = refl;
      named = refl;
      splits = refl;
      halvings = refl;
      count = refl;
      inside = λ x. ((λ area. area), tt);
    }

    module _ (ns : List CertNode) (parts : List PartView) (used halved tight : ℕ) (w : IsWalk f enough p ns parts used halved tight) where
      row : placed_of f p (tree_of ns) ≡ placed_by f (p ∷ []) ns
      row = sym (append-nil (placed_of f p (tree_of ns))) ∙ placed-row (p ∷ []) ns

      waiting : open_parts f p (tree_of ns) ≡ parts
      waiting = sym (append-nil (open_parts f p (tree_of ns))) ∙ open-row (p ∷ []) ns ∙ w.left

      nodes : nodes_of (tree_of ns) ≡ ns
      nodes = sym (named-tree p (tree_of ns)) ∙ ap (map node_at) row ∙ w.named

      each-of-tree : Each (by_law f enough) (placed_of f p (tree_of ns))
      each-of-tree = subst (λ (es : List Placed). Each (by_law f enough) es) (sym row) w.each

      pub is-evidence : length ns < 2 ^ 32 → parts ≡ [] → IsEvidence f p ns
      is-evidence few none = record {
        few = few;
        tree = tree_of ns;
        nodes = nodes;
        holds = record { closed = none-open p (tree_of ns) (waiting ∙ none); each = λ i e got. (each-of-tree i e got).0 };
      }

      pub is-spent : (n : ℕ) → used ≡ n → 0 < length parts → IsUnsettled f enough halved (first_of parts)
          → IsSpentBy f enough p n (tree_of ns)
      is-spent n same some unsettled = record {
        splits = ap splits_in row ∙ w.splits ∙ same;
        each = each-of-tree;
        nodes_first = ap tree_of nodes;
        first = first_of parts;
        others = rest_of parts;
        waiting = waiting ∙ parts-are parts some;
        unsettled = subst (λ (h : ℕ). IsUnsettled f enough h (first_of parts)) (sym (ap (halvings_in f) row ∙ w.halvings)) unsettled;
      }

      pub goes-on : (t : Turn) (next : List PartView) (more : List CertNode) (used' halved' tight' : ℕ) → 0 < length parts
          → IsTurn f (first_of parts) enough halved t → more ≡ ns ++ node_of f t.node ∷ []
          → next ≡ parts_by (first_of parts) t.step ++ rest_of parts → used' ≡ used + splits_by t.step → halved'
          ≡ halved + halvings_by t.halves
          → tight' ≡ tight + tightens_by t.step → IsWalk f enough p more next used' halved' tight'
      goes-on t next more used' halved' tight' some turn pushed moved splits halves tightens =
          let q = first_of parts in
          let n = node_of f t.node in
          let es = placed_by f (p ∷ []) ns in
          let (placed-more, left-more) = placed-push (p ∷ []) ns n q (rest_of parts) (w.left ∙ parts-are parts some) in
          let by = ap (λ (ms : List CertNode). placed_by f (p ∷ []) ms) pushed ∙ placed-more in
          let lawful : IsLawful f enough (halvings_in f es) q n
          = subst (λ (h : ℕ). IsLawful f enough h q n) (sym w.halvings) turn.lawful in
          record {
            each = subst (λ (ds : List Placed). Each (by_law f enough) ds) (sym by)
                (each-push (by_law f enough) es (placed q n) w.each (turn.holds, lawful));
            left = ap (λ (ms : List CertNode). left_by f (p ∷ []) ms) pushed ∙ left-more ∙ (λ i. turn.parts i ++ rest_of parts) ∙ sym moved;
            named = ap (map node_at) by ∙ map-both node_at es (placed q n ∷ []) ∙ (λ i. w.named i ++ n ∷ []) ∙ sym pushed;
            splits = ap splits_in by ∙ sum_by_push (λ e. split_at e.node) es (placed q n) ∙ (λ i. w.splits i + turn.splits i) ∙ sym splits;
            halvings = ap (halvings_in f) by ∙ sum_by_push (λ e. halving_at f e.part e.node) es (placed q n)
                ∙ (λ i. w.halvings i + turn.halves i) ∙ sym halves;
            count = counted t.step (ap length pushed ∙ length-append ns (n ∷ [])) (ap length moved) (ap length (parts-are parts some))
                w.count
                ∙ sym (λ i. 2 * splits i + 1 + tightens i);
            inside = λ x. subst (λ (ps : List PartView). AreInside p.spans x ps) ((λ i. turn.parts i ++ rest_of parts) ∙ sym moved)
                (children-inside f p.spans x q n (rest_of parts) turn.holds
                (subst (λ (ps : List PartView). AreInside p.spans x ps) (parts-are parts some) (w.inside x)));
          }
        where
          -- each node that splits leaves one part more, and each that closes one less
          counted : (s : Step) → length more ≡ length ns + 1 → length next ≡ length (parts_by (first_of parts) s ++ rest_of parts)
              → length parts ≡ length (first_of parts ∷ rest_of parts) → length ns + length parts ≡ 2 * used + 1 + tight
              → length more + length next ≡ 2 * (used + splits_by s) + 1 + (tight + tightens_by s)
          counted step.Close m n l before = omega (arith, m, n, l, before)
          counted (step.Cut u low high) m n l before = omega (arith, m, n, l, before)
          counted (step.Decide a) m n l before = omega (arith, m, n, l, before)
          counted (step.Tighten u span) m n l before = omega (arith, m, n, l, before)

-- a node that splits stands at an unsettled part
pub unsettled-at : (f : FormulaView) (enough halved : ℕ) (p : PartView) (n : CertNode) → split_at n ≡ 1 → IsLawful f enough halved p n
    → IsUnsettled f enough halved p
unsettled-at f enough halved p node.F e l = cc e
unsettled-at f enough halved p node.L e l = cc e
unsettled-at f enough halved p (node.S lines) e l = cc e
unsettled-at f enough halved p (node.R u v) e l = l.0
unsettled-at f enough halved p (node.C a) e l = l.0
unsettled-at f enough halved p (node.T u lines) e l = cc e

pub nodes-push : (f : FormulaView) (ks ms : List KeptNode) (k : KeptNode) → ms ≡ ks ++ k ∷ []
    → nodes_by f ms ≡ nodes_by f ks ++ node_of f k ∷ []
nodes-push f ks ms k e = ap (nodes_by f) e ∙ map-both (λ k. node_of f k) ks (k ∷ [])

pub count-nodes : (f : FormulaView) (ks : List KeptNode) → length (nodes_by f ks) ≡ length ks
count-nodes f [] = refl
count-nodes f (k ∷ ks) = ap suc (count-nodes f ks)
