use Rattle.std.proofs.Common.{◌≡◌, ◌∙◌, sym, ap, subst, ℕ, ◌+◌, ◌-◌, List, [], ◌∷◌, ◌++◌, length, append-nil, arith}
use Rattle.std.specs.List.{All}
use Rattle.std.proofs.lemmas.Result.{err_from_is_err_and}
use Rattle.std.proofs.lemmas.List.{length-append}
use Rattle.std.proofs.lemmas.List.Elements.{All-push}
use Rattle.ft_cert.specs.declared.node.CertNode.{CertNode}
use Rattle.ft_cert.specs.prefix.Row.{are_trees, parts_of}
use Rattle.ft_certs.specs.meaning.Text.{IsNode, end_line, node_text, nodes_text}
use Rattle.ft_certs.specs.building.Pieces.{NodeLines, Rows}
use Rattle.ft_certs.specs.building.Stuck.{Stuck}
use Rattle.ft_certs.proofs.StuckLemmas.{stop-as}
use Rattle.ft_certs.proofs.TreeLemmas.{at-missing, node-long, nodes-push, rows-first, rows-second, trees-push}
use Rattle.ft_certs.proofs.trees.nodes.Goals as goal

pub returns-in_err-node-clause-stopped : goal.returns-in_err-node-clause-stopped
returns-in_err-node-clause-stopped c =
    let p = err_from_is_err_and c.from_residual.result c.from_residual.ensures.1 in
    rw (p.1, p.2)
    (stop-as c.in_err-node.field-0.0 NodeLines (Rows 1) c.nodes.rest.now c.args.bytes.now
    (λ left s. c.nodes.invariant.4 left (at-missing c.nodes.missing c.nodes.rest.now left c.nodes-test.true (rows-first (c.nodes.missing - 1) c.nodes.rest.now left s)))
    c.in_err-node.ensures.stopped)

pub nodes-preserved : goal.nodes-preserved
nodes-preserved c =
    let inv = c.nodes.invariant in
    let n : CertNode = c.in_ok-node.node in
    let rest : List ℕ = c.nodes.rest.now in
    let more : List ℕ = c.in_ok-node.more.now in
    let r = c.in_ok-node.ensures.read in
    let now : c.push.new.self ≡ c.nodes.nodes ++ n ∷ [] = c.in_ok-push.ensures.ok in
    let sum : parts_of n + (c.nodes.missing - 1) ≡ c.nodes.missing - 1 + c.parts_of.result = omega (arith, c.parts_of.ensures.value) in
    let next : c.nodes.missing - 1 + parts_of n ≡ c.nodes.missing - 1 + c.parts_of.result = omega (arith, c.parts_of.ensures.value) in (
      subst (All IsNode) (sym now) (All-push IsNode c.nodes.nodes n inv.0 r.0),
      nodes-push c.nodes.nodes n c.args.bytes.now rest more inv.1 r.1 ∙ ap (λ (ns : List CertNode). nodes_text ns ++ more) (sym now),
      λ ms. ap (λ (ns : List CertNode). are_trees 1 (ns ++ ms)) now ∙ trees-push c.nodes.nodes n c.nodes.missing c.nodes-test.true inv.2 ms
          ∙ ap (λ (k : ℕ). are_trees k ms) next,
      omega (arith, inv.3, c.nodes-test.true, c.parts_of.ensures.few, ap length r.1, length-append (node_text n ++ end_line) more, node-long n),
      λ left s. inv.4 left (at-missing c.nodes.missing rest left c.nodes-test.true
          (rows-second (c.nodes.missing - 1) n rest more left r.0 r.1 (subst (λ (k : ℕ). Stuck (Rows k) more left) (sym sum) s))),
    )

pub returns-clause-read : goal.returns-clause-read
returns-clause-read c =
    let inv = c.nodes.invariant in
    let none : c.nodes.missing ≡ 0 = omega (arith, c.nodes-test.false) in
    ((ap (are_trees 1) (sym (append-nil c.nodes.nodes)) ∙ inv.2 [] ∙ ap (λ (k : ℕ). are_trees k []) none, inv.0), inv.1)
