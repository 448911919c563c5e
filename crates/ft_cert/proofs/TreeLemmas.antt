-- Trees and the nodes that spell them.
use Rattle.std.proofs.Common.{◌≡◌, ◌∙◌, sym, ap, refl, ℕ, zero, suc, ◌+◌, Bool, true, false, ◌&&◌, arith}
use Rattle.std.proofs.Common.{List, [], ◌∷◌, ◌++◌, append_assoc, append-nil}
use Rattle.ft_cert.specs.declared.node.CertNode.{CertNode}
use Rattle.ft_cert.specs.declared.node.CertNode.TheVariants as node
use Rattle.ft_cert.specs.meaning.Tree.{Tree, Open, F, L, S, R, C, T, nodes_of, is_closed}
use Rattle.ft_cert.specs.prefix.Row.{head_of, tail_of, with_node, row_of, tree_of, parts_of, are_trees}

pub both-closed : (a b : Bool) → (a && b) ≡ true → (a ≡ true) × (b ≡ true)
both-closed true b e = (refl, e)
both-closed false b e = cc e

-- a closed tree is read back from its nodes
pub row-closed : (t : Tree) (ns : List CertNode) → is_closed t ≡ true → row_of (nodes_of t ++ ns) ≡ t ∷ row_of ns
row-closed Open ns c = cc c
row-closed F ns c = refl
row-closed L ns c = refl
row-closed (S lines) ns c = refl
row-closed (R u v a b) ns c =
    let (first, second) = both-closed (is_closed a) (is_closed b) c in
    let e : row_of ((nodes_of a ++ nodes_of b) ++ ns) ≡ a ∷ (b ∷ row_of ns) =
    ap row_of (append_assoc (nodes_of a) (nodes_of b) ns) ∙ row-closed a (nodes_of b ++ ns) first
    ∙ ap (λ (ts : List Tree). a ∷ ts) (row-closed b ns second) in
    ap (with_node (node.R u v)) e
row-closed (C atom a b) ns c =
    let (first, second) = both-closed (is_closed a) (is_closed b) c in
    let e : row_of ((nodes_of a ++ nodes_of b) ++ ns) ≡ a ∷ (b ∷ row_of ns) =
    ap row_of (append_assoc (nodes_of a) (nodes_of b) ns) ∙ row-closed a (nodes_of b ++ ns) first
    ∙ ap (λ (ts : List Tree). a ∷ ts) (row-closed b ns second) in
    ap (with_node (node.C atom)) e
row-closed (T u lines a) ns c = ap (with_node (node.T u lines)) (row-closed a ns c)

-- the nodes of trees in a row
abbrev pub row_nodes : List Tree → List CertNode
row_nodes [] = []
row_nodes (t ∷ ts) = nodes_of t ++ row_nodes ts

head-tail : (ts : List Tree) → nodes_of (head_of ts) ++ row_nodes (tail_of ts) ≡ row_nodes ts
head-tail [] = refl
head-tail (t ∷ ts) = refl

two-nodes :
    (ts : List Tree) → (nodes_of (head_of ts) ++ nodes_of (head_of (tail_of ts))) ++ row_nodes (tail_of (tail_of ts)) ≡ row_nodes ts
two-nodes ts = append_assoc (nodes_of (head_of ts)) (nodes_of (head_of (tail_of ts))) (row_nodes (tail_of (tail_of ts)))
    ∙ ap (λ (ns : List CertNode). nodes_of (head_of ts) ++ ns) (head-tail (tail_of ts)) ∙ head-tail ts

with-nodes : (n : CertNode) (ts : List Tree) → row_nodes (with_node n ts) ≡ n ∷ row_nodes ts
with-nodes node.F ts = refl
with-nodes node.L ts = refl
with-nodes (node.S lines) ts = refl
with-nodes (node.R u v) ts = ap (λ (ns : List CertNode). node.R u v ∷ ns) (two-nodes ts)
with-nodes (node.C atom) ts = ap (λ (ns : List CertNode). node.C atom ∷ ns) (two-nodes ts)
with-nodes (node.T u lines) ts = ap (λ (ns : List CertNode). node.T u lines ∷ ns) (head-tail ts)

-- the trees of a row spell its nodes
pub row-nodes : (ns : List CertNode) → row_nodes (row_of ns) ≡ ns
row-nodes [] = refl
row-nodes (n ∷ ns) = with-nodes n (row_of ns) ∙ ap (λ (ms : List CertNode). n ∷ ms) (row-nodes ns)

-- so many trees, none of them open
-- so many trees, none of them open
abbrev pub are_closed : ℕ → List Tree → Bool
are_closed zero [] = true
are_closed zero (t ∷ ts) = false
are_closed (suc k) [] = false
are_closed (suc k) (t ∷ ts) = is_closed t && are_closed k ts

joined-closed : (a b : Bool) → a ≡ true → b ≡ true → (a && b) ≡ true
joined-closed true b e h = h
joined-closed false b e h = cc e

two-closed : (k : ℕ) (ts : List Tree) → are_closed (suc (suc k)) ts ≡ true
    → ((is_closed (head_of ts) && is_closed (head_of (tail_of ts))) ≡ true) × (are_closed k (tail_of (tail_of ts)) ≡ true)
two-closed k [] e = cc e
two-closed k (t ∷ []) e = let (first, second) = both-closed (is_closed t) false e in cc second
two-closed k (t ∷ u ∷ ts) e =
    let (first, more) = both-closed (is_closed t) (is_closed u && are_closed k ts) e in
    let (second, rest) = both-closed (is_closed u) (are_closed k ts) more in
    (joined-closed _ _ first second, rest)

closed-with : (n : CertNode) (k : ℕ) (ts : List Tree) → are_closed (parts_of n + k) ts ≡ true → are_closed (suc k) (with_node n ts) ≡ true
closed-with node.F k ts e = let same : 0 + k ≡ k = omega arith in rw same at e
closed-with node.L k ts e = let same : 0 + k ≡ k = omega arith in rw same at e
closed-with (node.S lines) k ts e = let same : 0 + k ≡ k = omega arith in rw same at e
closed-with (node.R u v) k ts e =
    let same : 2 + k ≡ suc (suc k) = omega arith in
    let (both, rest) = two-closed k ts (rw same at e) in joined-closed _ _ both rest
closed-with (node.C atom) k ts e =
    let same : 2 + k ≡ suc (suc k) = omega arith in
    let (both, rest) = two-closed k ts (rw same at e) in joined-closed _ _ both rest
closed-with (node.T u lines) k [] e = let same : 1 + k ≡ suc k = omega arith in cc (rw same at e)
closed-with (node.T u lines) k (t ∷ ts) e = let same : 1 + k ≡ suc k = omega arith in rw same at e

-- nodes of so many whole trees are read as so many closed trees
pub whole-closed : (k : ℕ) (ns : List CertNode) → are_trees k ns ≡ true → are_closed k (row_of ns) ≡ true
whole-closed zero [] e = refl
whole-closed zero (n ∷ ns) e = cc e
whole-closed (suc k) [] e = cc e
whole-closed (suc k) (n ∷ ns) e = closed-with n k (row_of ns) (whole-closed (parts_of n + k) ns e)

one-closed : (ts : List Tree) → are_closed 1 ts ≡ true → (is_closed (head_of ts) ≡ true) × (row_nodes ts ≡ nodes_of (head_of ts))
one-closed [] e = cc e
one-closed (t ∷ []) e = ((both-closed (is_closed t) true e).0, append-nil (nodes_of t))
one-closed (t ∷ u ∷ ts) e = cc ((both-closed (is_closed t) false e).1)

-- a list of one whole tree spells the tree that is read from it, which has no open leaf
pub tree-closed : (ns : List CertNode) → are_trees 1 ns ≡ true → is_closed (tree_of ns) ≡ true
tree-closed ns e = (one-closed (row_of ns) (whole-closed 1 ns e)).0

pub tree-nodes : (ns : List CertNode) → are_trees 1 ns ≡ true → nodes_of (tree_of ns) ≡ ns
tree-nodes ns e = sym (one-closed (row_of ns) (whole-closed 1 ns e)).1 ∙ row-nodes ns

-- the nodes of a closed tree, and what is left after them
pub trees-after : (t : Tree) (k : ℕ) (ns : List CertNode) → is_closed t ≡ true → are_trees (suc k) (nodes_of t ++ ns) ≡ are_trees k ns
trees-after Open k ns c = cc c
trees-after F k ns c = let same : 0 + k ≡ k = omega arith in ap (λ (j : ℕ). are_trees j ns) same
trees-after L k ns c = let same : 0 + k ≡ k = omega arith in ap (λ (j : ℕ). are_trees j ns) same
trees-after (S lines) k ns c = let same : 0 + k ≡ k = omega arith in ap (λ (j : ℕ). are_trees j ns) same
trees-after (R u v a b) k ns c =
    let (first, second) = both-closed (is_closed a) (is_closed b) c in
    let same : 2 + k ≡ suc (suc k) = omega arith in
    ap (λ (j : ℕ). are_trees j ((nodes_of a ++ nodes_of b) ++ ns)) same
    ∙ ap (are_trees (suc (suc k))) (append_assoc (nodes_of a) (nodes_of b) ns)
    ∙ trees-after a (suc k) (nodes_of b ++ ns) first ∙ trees-after b k ns second
trees-after (C atom a b) k ns c =
    let (first, second) = both-closed (is_closed a) (is_closed b) c in
    let same : 2 + k ≡ suc (suc k) = omega arith in
    ap (λ (j : ℕ). are_trees j ((nodes_of a ++ nodes_of b) ++ ns)) same
    ∙ ap (are_trees (suc (suc k))) (append_assoc (nodes_of a) (nodes_of b) ns)
    ∙ trees-after a (suc k) (nodes_of b ++ ns) first ∙ trees-after b k ns second
trees-after (T u lines a) k ns c =
    let same : 1 + k ≡ suc k = omega arith in
    ap (λ (j : ℕ). are_trees j (nodes_of a ++ ns)) same ∙ trees-after a k ns c

-- the nodes of a closed tree are one whole tree
pub closed-whole : (t : Tree) → is_closed t ≡ true → are_trees 1 (nodes_of t) ≡ true
closed-whole t c = ap (are_trees 1) (sym (append-nil (nodes_of t))) ∙ trees-after t 0 [] c
