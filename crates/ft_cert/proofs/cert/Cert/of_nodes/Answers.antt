use Rattle.std.proofs.Common.{◌≡◌, ◌∙◌, sym, ap, true}
use Rattle.ft_cert.specs.prefix.Row.{are_trees}
use Rattle.ft_cert.proofs.TreeLemmas.{tree-closed, tree-nodes, closed-whole}
use Rattle.ft_cert.proofs.cert.Cert.of_nodes.Goals as goal

pub returns-then-is_whole-clause-whole : goal.returns-then-is_whole-clause-whole
returns-then-is_whole-clause-whole c =
    let whole : are_trees 1 c.args.nodes ≡ true =
    ap (are_trees 1) (sym c.as_slice.ensures) ∙ sym c.is_whole.ensures ∙ c.if-is_whole.true in
    (tree-nodes c.args.nodes whole, tree-closed c.args.nodes whole)

pub returns-else-is_whole-clause-none : goal.returns-else-is_whole-clause-none
returns-else-is_whole-clause-none c t closed spells =
    let whole : are_trees 1 c.args.nodes ≡ true = ap (are_trees 1) (sym spells) ∙ closed-whole t closed in
    let bad = sym c.if-is_whole.false ∙ c.is_whole.ensures ∙ ap (are_trees 1) c.as_slice.ensures ∙ whole in
    cc bad
