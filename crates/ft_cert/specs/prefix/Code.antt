-- A code of trees, by their nodes in prefix order with a mark for each open leaf.
use Rattle.std.specs.Prelude.{◌≡◌, List, [], ◌∷◌, ◌++◌, Option, Some, None, refl}
use Rattle.std.specs.Coded.{Coded, code_by, coded_list, coded_option}
use Rattle.std.proofs.Common.{◌∙◌, sym, ap, append_assoc, append-nil}
use Rattle.ft_cert.specs.declared.node.CertNode.{CertNode}
use Rattle.ft_cert.specs.declared.node.CertNode.TheVariants as node
use Rattle.ft_cert.specs.contracts.node.CertNode as contract
use Rattle.ft_cert.specs.meaning.Tree.{Tree, Open, F, L, S, R, C, T}
use Rattle.ft_cert.specs.prefix.Row.{head_of, with_node}

abbrev pub marked : Tree → List (Option CertNode)
marked Open = None ∷ []
marked F = Some node.F ∷ []
marked L = Some node.L ∷ []
marked (S lines) = Some (node.S lines) ∷ []
marked (R u v a b) = Some (node.R u v) ∷ (marked a ++ marked b)
marked (C atom a b) = Some (node.C atom) ∷ (marked a ++ marked b)
marked (T u lines a) = Some (node.T u lines) ∷ marked a

abbrev pub with_mark : Option CertNode → List Tree → List Tree
with_mark None ts = Open ∷ ts
with_mark (Some n) ts = with_node n ts

abbrev pub read_row : List (Option CertNode) → List Tree
read_row [] = []
read_row (m ∷ ms) = with_mark m (read_row ms)

abbrev pub read_tree : List (Option CertNode) → Tree
read_tree ms = head_of (read_row ms)

read_marked : (t : Tree) (ms : List (Option CertNode)) → read_row (marked t ++ ms) ≡ t ∷ read_row ms
read_marked Open ms = refl
read_marked F ms = refl
read_marked L ms = refl
read_marked (S lines) ms = refl
read_marked (R u v a b) ms =
    let e : read_row ((marked a ++ marked b) ++ ms) ≡ a ∷ (b ∷ read_row ms) =
    ap read_row (append_assoc (marked a) (marked b) ms) ∙ read_marked a (marked b ++ ms)
    ∙ ap (λ (ts : List Tree). a ∷ ts) (read_marked b ms) in
    ap (with_node (node.R u v)) e
read_marked (C atom a b) ms =
    let e : read_row ((marked a ++ marked b) ++ ms) ≡ a ∷ (b ∷ read_row ms) =
    ap read_row (append_assoc (marked a) (marked b) ms) ∙ read_marked a (marked b ++ ms)
    ∙ ap (λ (ts : List Tree). a ∷ ts) (read_marked b ms) in
    ap (with_node (node.C atom)) e
read_marked (T u lines a) ms = ap (with_node (node.T u lines)) (read_marked a ms)

pub read_again : (t : Tree) → read_tree (marked t) ≡ t
read_again t = ap read_tree (sym (append-nil (marked t))) ∙ ap head_of (read_marked t [])

abbrev pub tree_code : Coded Tree
tree_code = code_by (List (Option CertNode)) (coded_list (coded_option (contract.the_row.coded))) marked read_tree read_again
