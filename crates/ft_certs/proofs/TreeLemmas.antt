-- Trees, a line for each node.
use Rattle.std.proofs.Common.{◌≡◌, ◌∙◌, sym, ap, subst, refl, ℕ, zero, suc, ◌+◌, ◌-◌, ◌<◌, ◌≤◌, true, List, [], ◌∷◌, ◌++◌, length, append_assoc, append-nil, arith}
use Rattle.std.specs.List.{All}
use Rattle.std.proofs.lemmas.Bool.{and_from, true≢false}
use Rattle.std.proofs.lemmas.List.{length-append}
use Rattle.std.proofs.lemmas.List.Elements.{All-cons, All-tail}
use Rattle.std.proofs.lemmas.List.Concat.{flat_map-append}
use Rattle.ft_cert.specs.declared.node.CertNode.{CertNode}
use Rattle.ft_cert.specs.declared.node.CertNode.TheVariants as node
use Rattle.ft_cert.specs.meaning.Tree.{Tree, F, L, S, R, C, T, is_closed, nodes_of}
use Rattle.ft_cert.specs.prefix.Row.{are_trees, parts_of}
use Rattle.ft_certs.specs.meaning.Text.{IsCert, IsNode, end_line, lines_text, node_text, nodes_text}
use Rattle.ft_certs.specs.building.Pieces.{NodeLines, Rows}
use Rattle.ft_certs.specs.building.Stuck.{Stuck}
use Rattle.ft_certs.proofs.StuckLemmas.{stuck-first, stuck-second}
use Rattle.ft_certs.proofs.NodeLemmas.{nodes-free}

-- the trees that nodes are

abbrev AreClosed : ℕ → List Tree → Type 0
AreClosed zero [] = Unit {0}
AreClosed zero (t ∷ ts) = ⊥
AreClosed (suc k) [] = ⊥
AreClosed (suc k) (t ∷ ts) = (is_closed t ≡ true) × AreClosed k ts

abbrev all_nodes : List Tree → List CertNode
all_nodes [] = []
all_nodes (t ∷ ts) = nodes_of t ++ all_nodes ts

record Row (k : ℕ) (ns : List CertNode) : Type 0 where
  trees : List Tree
  closed : AreClosed k trees
  nodes : all_nodes trees ≡ ns

row-leaf : (t : Tree) (n : CertNode) (k : ℕ) (ns : List CertNode) → is_closed t ≡ true → nodes_of t ≡ n ∷ [] → Row (0 + k) ns → Row (suc k) (n ∷ ns)
row-leaf t n k ns closed own r =
    let same : 0 + k ≡ k = omega arith in
    record {
      trees = t ∷ r.trees;
      closed = (closed, subst (λ (j : ℕ). AreClosed j r.trees) same r.closed);
      nodes = ap (λ (ms : List CertNode). ms ++ all_nodes r.trees) own ∙ ap (λ (ms : List CertNode). n ∷ ms) r.nodes;
    }

row-one : (t : Tree → Tree) (n : CertNode) (k : ℕ) (ns : List CertNode) → ((a : Tree) → is_closed a ≡ true → is_closed (t a) ≡ true)
    → ((a : Tree) → nodes_of (t a) ≡ n ∷ nodes_of a) → Row (1 + k) ns → Row (suc k) (n ∷ ns)
row-one t n k ns closed own r =
    let same : 1 + k ≡ suc k = omega arith in
    by r.trees (subst (λ (j : ℕ). AreClosed j r.trees) same r.closed) r.nodes
  where
    by : (ts : List Tree) → AreClosed (suc k) ts → all_nodes ts ≡ ns → Row (suc k) (n ∷ ns)
    by [] c e = absurd c
    by (a ∷ ts) c e = record {
      trees = t a ∷ ts;
      closed = (closed a c.0, c.1);
      nodes = ap (λ (ms : List CertNode). ms ++ all_nodes ts) (own a) ∙ ap (λ (ms : List CertNode). n ∷ ms) e;
    }

row-two : (t : Tree → Tree → Tree) (n : CertNode) (k : ℕ) (ns : List CertNode)
    → ((a b : Tree) → is_closed a ≡ true → is_closed b ≡ true → is_closed (t a b) ≡ true)
    → ((a b : Tree) → nodes_of (t a b) ≡ n ∷ (nodes_of a ++ nodes_of b)) → Row (2 + k) ns → Row (suc k) (n ∷ ns)
row-two t n k ns closed own r =
    let same : 2 + k ≡ suc (suc k) = omega arith in
    by r.trees (subst (λ (j : ℕ). AreClosed j r.trees) same r.closed) r.nodes
  where
    by : (ts : List Tree) → AreClosed (suc (suc k)) ts → all_nodes ts ≡ ns → Row (suc k) (n ∷ ns)
    by [] c e = absurd c
    by (a ∷ []) c e = absurd c.1
    by (a ∷ b ∷ ts) c e = record {
      trees = t a b ∷ ts;
      closed = (closed a b c.0 c.1.0, c.1.1);
      nodes = ap (λ (ms : List CertNode). ms ++ all_nodes ts) (own a b)
          ∙ ap (λ (ms : List CertNode). n ∷ ms) (append_assoc (nodes_of a) (nodes_of b) (all_nodes ts) ∙ e);
    }

row-with : (n : CertNode) (k : ℕ) (ns : List CertNode) → Row (parts_of n + k) ns → Row (suc k) (n ∷ ns)
row-with node.F k ns r = row-leaf F node.F k ns refl refl r
row-with node.L k ns r = row-leaf L node.L k ns refl refl r
row-with (node.S lines) k ns r = row-leaf (S lines) (node.S lines) k ns refl refl r
row-with (node.R u v) k ns r = row-two (R u v) (node.R u v) k ns (λ a b c d. and_from (is_closed a) (is_closed b) c d) (λ a b. refl) r
row-with (node.C a) k ns r = row-two (C a) (node.C a) k ns (λ a b c d. and_from (is_closed a) (is_closed b) c d) (λ a b. refl) r
row-with (node.T u lines) k ns r = row-one (T u lines) (node.T u lines) k ns (λ a c. c) (λ a. refl) r

row : (k : ℕ) (ns : List CertNode) → are_trees k ns ≡ true → Row k ns
row zero [] e = record { trees = []; closed = tt; nodes = refl }
row zero (n ∷ ns) e = absurd (true≢false (sym e))
row (suc k) [] e = absurd (true≢false (sym e))
row (suc k) (n ∷ ns) e = row-with n k ns (row (parts_of n + k) ns e)

-- the nodes of one tree are those of a closed one
pub whole-tree : (ns : List CertNode) → are_trees 1 ns ≡ true → (t : Tree) × (is_closed t ≡ true) × (nodes_of t ≡ ns)
whole-tree ns e = by (row 1 ns e).trees (row 1 ns e).closed (row 1 ns e).nodes
  where
    by : (ts : List Tree) → AreClosed 1 ts → all_nodes ts ≡ ns → (t : Tree) × (is_closed t ≡ true) × (nodes_of t ≡ ns)
    by [] c e = absurd c
    by (t ∷ []) c e = (t, c.0, sym (append-nil (nodes_of t)) ∙ e)
    by (t ∷ u ∷ ts) c e = absurd c.1

-- rows of trees

abbrev leaves : ℕ → List CertNode
leaves zero = []
leaves (suc k) = node.F ∷ leaves k

leaves-are : (k : ℕ) → are_trees k (leaves k) ≡ true
leaves-are zero = refl
leaves-are (suc k) = let same : 0 + k ≡ k = omega arith in ap (λ (j : ℕ). are_trees j (leaves k)) same ∙ leaves-are k

no-nodes : All IsNode []
no-nodes k d l = absurd (omega (arith, l))

leaves-nodes : (k : ℕ) → All IsNode (leaves k)
leaves-nodes zero = no-nodes
leaves-nodes (suc k) = All-cons IsNode node.F (leaves k) tt (leaves-nodes k)

-- the next node is stuck
pub rows-first : (k : ℕ) (bytes : List ℕ) (left : ℕ) → Stuck NodeLines bytes left → Stuck (Rows (suc k)) bytes left
rows-first k bytes left s = stuck-first NodeLines (Rows (suc k)) goes begun bytes left s
  where
    goes : (w : List ℕ) → NodeLines w → (more : List ℕ) × Rows (suc k) (w ++ more)
    goes w t =
        let rest : List CertNode = leaves (parts_of t.0 + k) in (
          nodes_text rest,
          (
            t.0 ∷ rest,
            leaves-are (parts_of t.0 + k),
            All-cons IsNode t.0 rest t.1 (leaves-nodes (parts_of t.0 + k)),
            ap (λ (l : List ℕ). l ++ nodes_text rest) t.2,
          ),
        )

    by : (w : List ℕ) (ns : List CertNode) → are_trees (suc k) ns ≡ true → All IsNode ns → w ≡ nodes_text ns → (p q : List ℕ) × (w ≡ p ++ q) × NodeLines p
    by w [] e all is = absurd (true≢false (sym e))
    by w (n ∷ ns) e all is = (node_text n ++ end_line, nodes_text ns, is, (n, all 0 n (omega arith), refl))

    begun : (w : List ℕ) → Rows (suc k) w → (p q : List ℕ) × (w ≡ p ++ q) × NodeLines p
    begun w t = by w t.0 t.1 t.2 t.3

-- what is after a node is stuck
pub rows-second : (k : ℕ) (n : CertNode) (bytes rest : List ℕ) (left : ℕ) → IsNode n → bytes ≡ (node_text n ++ end_line) ++ rest
    → Stuck (Rows (parts_of n + k)) rest left → Stuck (Rows (suc k)) bytes left
rows-second k n bytes rest left is front s =
    subst (λ (l : List ℕ). Stuck (Rows (suc k)) l left) (sym front)
    (stuck-second (Rows (parts_of n + k)) (Rows (suc k)) (node_text n ++ end_line) goes only rest left s)
  where
    goes : (w : List ℕ) → Rows (parts_of n + k) w → Rows (suc k) ((node_text n ++ end_line) ++ w)
    goes w t = (n ∷ t.0, t.1, All-cons IsNode n t.0 is t.2, ap (λ (l : List ℕ). (node_text n ++ end_line) ++ l) t.3)

    by : (w x y : List ℕ) (ns : List CertNode) → are_trees (suc k) ns ≡ true → All IsNode ns → w ≡ nodes_text ns → w ++ x ≡ (node_text n ++ end_line) ++ y
        → (q : List ℕ) × (w ≡ (node_text n ++ end_line) ++ q) × Rows (parts_of n + k) q
    by w x y [] e all has same = absurd (true≢false (sym e))
    by w x y (m ∷ ns) e all has same =
        let f = nodes-free m n (nodes_text ns ++ x) y (all 0 m (omega arith)) is
        (sym (append_assoc (node_text m ++ end_line) (nodes_text ns) x) ∙ ap (λ (l : List ℕ). l ++ x) (sym has) ∙ same) in (
          nodes_text ns,
          has ∙ ap (λ (z : CertNode). (node_text z ++ end_line) ++ nodes_text ns) (sym f.0),
          (ns, ap (λ (z : CertNode). are_trees (parts_of z + k) ns) f.0 ∙ e, All-tail IsNode m ns all, refl),
        )

    only : (w x y : List ℕ) → Rows (suc k) w → w ++ x ≡ (node_text n ++ end_line) ++ y
        → (q : List ℕ) × (w ≡ (node_text n ++ end_line) ++ q) × Rows (parts_of n + k) q
    only w x y t same = by w x y t.0 t.1 t.2 t.3 same

-- one node more
pub nodes-push : (ns : List CertNode) (n : CertNode) (bytes rest more : List ℕ) → bytes ≡ nodes_text ns ++ rest → rest ≡ (node_text n ++ end_line) ++ more
    → bytes ≡ nodes_text (ns ++ n ∷ []) ++ more
nodes-push ns n bytes rest more before here =
    before ∙ ap (λ (l : List ℕ). nodes_text ns ++ l) here ∙ sym (append_assoc (nodes_text ns) (node_text n ++ end_line) more)
    ∙ ap (λ (l : List ℕ). l ++ more) (ap (λ (l : List ℕ). nodes_text ns ++ l) (sym (append-nil (node_text n ++ end_line)))
    ∙ sym (flat_map-append (λ m. node_text m ++ end_line) ns (n ∷ [])))

pub trees-push : (ns : List CertNode) (n : CertNode) (missing : ℕ) → 0 < missing
    → ((ms : List CertNode) → are_trees 1 (ns ++ ms) ≡ are_trees missing ms)
    → (ms : List CertNode) → are_trees 1 ((ns ++ n ∷ []) ++ ms) ≡ are_trees (missing - 1 + parts_of n) ms
trees-push ns n missing some before ms =
    let one : missing ≡ suc (missing - 1) = omega (arith, some) in
    let sum : parts_of n + (missing - 1) ≡ missing - 1 + parts_of n = omega arith in
    ap (are_trees 1) (append_assoc ns (n ∷ []) ms) ∙ before (n ∷ ms) ∙ ap (λ (k : ℕ). are_trees k (n ∷ ms)) one ∙ ap (λ (k : ℕ). are_trees k ms) sum

-- one row of trees, whatever comes after it
pub rows-free : (k : ℕ) (ns ms : List CertNode) (u v : List ℕ) → are_trees k ns ≡ true → are_trees k ms ≡ true → All IsNode ns → All IsNode ms
    → nodes_text ns ++ u ≡ nodes_text ms ++ v → (ns ≡ ms) × (u ≡ v)
rows-free zero [] [] u v a b all-n all-m e = (refl, e)
rows-free zero [] (m ∷ ms) u v a b all-n all-m e = absurd (true≢false (sym b))
rows-free zero (n ∷ ns) ms u v a b all-n all-m e = absurd (true≢false (sym a))
rows-free (suc k) [] ms u v a b all-n all-m e = absurd (true≢false (sym a))
rows-free (suc k) (n ∷ ns) [] u v a b all-n all-m e = absurd (true≢false (sym b))
rows-free (suc k) (n ∷ ns) (m ∷ ms) u v a b all-n all-m e =
    let f = nodes-free n m (nodes_text ns ++ u) (nodes_text ms ++ v) (all-n 0 n (omega arith)) (all-m 0 m (omega arith))
    (sym (append_assoc (node_text n ++ end_line) (nodes_text ns) u) ∙ e ∙ append_assoc (node_text m ++ end_line) (nodes_text ms) v) in
    let g = rows-free (parts_of n + k) ns ms u v a (ap (λ (z : CertNode). are_trees (parts_of z + k) ms) (sym f.0) ∙ b) (All-tail IsNode n ns all-n) (All-tail IsNode m ms all-m) f.1 in
    (ap (λ (z : CertNode). z ∷ ns) (sym f.0) ∙ ap (λ (zs : List CertNode). m ∷ zs) g.0, g.1)

pub at-missing : (missing : ℕ) (bytes : List ℕ) (left : ℕ) → 0 < missing → Stuck (Rows (suc (missing - 1))) bytes left → Stuck (Rows missing) bytes left
at-missing missing bytes left some s =
    let one : suc (missing - 1) ≡ missing = omega (arith, some) in
    subst (λ (k : ℕ). Stuck (Rows k) bytes left) one s

-- a line has two bytes at least
pub node-long : (n : CertNode) → 2 ≤ length (node_text n ++ end_line)
node-long node.F = omega arith
node-long node.L = omega arith
node-long (node.S lines) = omega (arith, length-append (83 ∷ lines_text lines) end_line)
node-long (node.R u v) = omega (arith, length-append (node_text (node.R u v)) end_line)
node-long (node.C a) = omega (arith, length-append (node_text (node.C a)) end_line)
node-long (node.T u lines) = omega (arith, length-append (node_text (node.T u lines)) end_line)

pub leaf-cert : IsCert (node.F ∷ [])
leaf-cert = (refl, leaves-nodes 1)
