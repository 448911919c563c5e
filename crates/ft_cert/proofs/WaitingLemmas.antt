-- The own parts of a tree's nodes, as the nodes in prefix order tell them.
use Rattle.std.proofs.Common.{◌≡◌, ◌∙◌, sym, ap, refl, suc, ◌+◌, true, List, [], ◌∷◌, ◌++◌, length, append_assoc, append-nil}
use Rattle.std.proofs.lemmas.List.{length-append}
use Rattle.ft_linear.specs.meaning.Formula.{FormulaView}
use Rattle.ft_linear.specs.meaning.Part.{PartView}
use Rattle.ft_cert.specs.declared.node.CertNode.{CertNode}
use Rattle.ft_cert.specs.declared.node.CertNode.TheVariants as node
use Rattle.ft_cert.specs.meaning.Evidence.{Placed, placed, placed_of}
use Rattle.ft_cert.specs.meaning.Parts.{low_part, high_part, true_part, false_part, tight_part}
use Rattle.ft_cert.specs.meaning.Tree.{Tree, Open, F, L, S, R, C, T, is_closed, nodes_of}
use Rattle.ft_cert.specs.walk.Waiting.{placed_by}
use Rattle.ft_cert.proofs.TreeLemmas.{both-closed}

module _ (f : FormulaView) where
  -- two trees after one another, the first at the part p and the second at q
  two-placed : (a b : Tree) (p q : PartView) (ps : List PartView) (ns : List CertNode)
      → placed_by f (p ∷ q ∷ ps) (nodes_of a ++ (nodes_of b ++ ns)) ≡ placed_of f p a ++ placed_by f (q ∷ ps) (nodes_of b ++ ns)
      → placed_by f (q ∷ ps) (nodes_of b ++ ns) ≡ placed_of f q b ++ placed_by f ps ns
      → placed_by f (p ∷ q ∷ ps) ((nodes_of a ++ nodes_of b) ++ ns) ≡ (placed_of f p a ++ placed_of f q b) ++ placed_by f ps ns
  two-placed a b p q ps ns first second =
      ap (placed_by f (p ∷ q ∷ ps)) (append_assoc (nodes_of a) (nodes_of b) ns) ∙ first
      ∙ ap (λ (es : List Placed). placed_of f p a ++ es) second
      ∙ sym (append_assoc (placed_of f p a) (placed_of f q b) (placed_by f ps ns))

  -- the nodes of a closed tree, and what comes after them
  placed-on : (t : Tree) (p : PartView) (ps : List PartView) (ns : List CertNode) → is_closed t ≡ true
      → placed_by f (p ∷ ps) (nodes_of t ++ ns) ≡ placed_of f p t ++ placed_by f ps ns
  placed-on Open p ps ns c = cc c
  placed-on F p ps ns c = refl
  placed-on L p ps ns c = refl
  placed-on (S lines) p ps ns c = refl
  placed-on (R u v a b) p ps ns c =
      let (first, second) = both-closed (is_closed a) (is_closed b) c in
      ap (λ (es : List Placed). placed p (node.R u v) ∷ es) (two-placed a b (low_part p u v) (high_part p u v) ps ns
      (placed-on a (low_part p u v) (high_part p u v ∷ ps) (nodes_of b ++ ns) first) (placed-on b (high_part p u v) ps ns second))
  placed-on (C atom a b) p ps ns c =
      let (first, second) = both-closed (is_closed a) (is_closed b) c in
      ap (λ (es : List Placed). placed p (node.C atom) ∷ es) (two-placed a b (true_part p atom) (false_part p atom) ps ns
      (placed-on a (true_part p atom) (false_part p atom ∷ ps) (nodes_of b ++ ns) first) (placed-on b (false_part p atom) ps ns second))
  placed-on (T u lines a) p ps ns c =
      ap (λ (es : List Placed). placed p (node.T u lines) ∷ es) (placed-on a (tight_part f p u lines) ps ns c)

  pub placed-in-order : (p : PartView) (t : Tree) → is_closed t ≡ true → placed_by f (p ∷ []) (nodes_of t) ≡ placed_of f p t
  placed-in-order p t c =
      ap (placed_by f (p ∷ [])) (sym (append-nil (nodes_of t))) ∙ placed-on t p [] [] c ∙ append-nil (placed_of f p t)

  two-lengths : (a b : Tree) (p q : PartView) → length (placed_of f p a) ≡ length (nodes_of a)
      → length (placed_of f q b) ≡ length (nodes_of b)
      → length (placed_of f p a ++ placed_of f q b) ≡ length (nodes_of a ++ nodes_of b)
  two-lengths a b p q e d =
      length-append (placed_of f p a) (placed_of f q b) ∙ (λ i. e i + d i) ∙ sym (length-append (nodes_of a) (nodes_of b))

  -- each node has a place
  pub all-placed : (p : PartView) (t : Tree) → length (placed_of f p t) ≡ length (nodes_of t)
  all-placed p Open = refl
  all-placed p F = refl
  all-placed p L = refl
  all-placed p (S lines) = refl
  all-placed p (R u v a b) =
      ap suc (two-lengths a b (low_part p u v) (high_part p u v) (all-placed (low_part p u v) a) (all-placed (high_part p u v) b))
  all-placed p (C atom a b) =
      ap suc (two-lengths a b (true_part p atom) (false_part p atom) (all-placed (true_part p atom) a)
      (all-placed (false_part p atom) b))
  all-placed p (T u lines a) = ap suc (all-placed (tight_part f p u lines) a)
