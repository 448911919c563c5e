use Rattle.std.proofs.Common.{rules, ◌≡◌, ◌∙◌, ap, ℕ, ◌∷◌}
use Rattle.std.proofs.lemmas.List.{nil_from_length}
use Rattle.ft_certs.specs.building.Pieces.{NodeLines, NodeRests}
use Rattle.ft_certs.proofs.StuckLemmas.{stopped-as}
use Rattle.ft_certs.proofs.NodeLemmas.{node-ended, node-other, node-second}
use Rattle.ft_certs.proofs.nodes.node.Goals as goal

pub returns-in_default-clause-stopped : goal.returns-in_default-clause-stopped
returns-in_default-clause-stopped c = node-ended c.args.bytes.now (nil_from_length c.args.bytes.now c.in_default.ensures.cases)

pub returns-in-70-clause-stopped : goal.returns-in-70-clause-stopped
returns-in-70-clause-stopped c =
    let parts : c.args.bytes.now ≡ 70 ∷ c.in-Some.rest.now = c.in-Some.ensures.cases.0 ∙ ap (λ (b : ℕ). b ∷ c.in-Some.rest.now) c.in-70.is in
    stopped-as c.never_node.result (NodeRests 70) NodeLines c.in-Some.rest.now c.args.bytes.now
    (λ left s. node-second 70 c.args.bytes.now c.in-Some.rest.now left parts s) c.never_node.ensures.stopped

pub returns-in-76-clause-stopped : goal.returns-in-76-clause-stopped
returns-in-76-clause-stopped c =
    let parts : c.args.bytes.now ≡ 76 ∷ c.in-Some.rest.now = c.in-Some.ensures.cases.0 ∙ ap (λ (b : ℕ). b ∷ c.in-Some.rest.now) c.in-76.is in
    stopped-as c.unsolved_node.result (NodeRests 76) NodeLines c.in-Some.rest.now c.args.bytes.now
    (λ left s. node-second 76 c.args.bytes.now c.in-Some.rest.now left parts s) c.unsolved_node.ensures.stopped

pub returns-in-83-clause-stopped : goal.returns-in-83-clause-stopped
returns-in-83-clause-stopped c =
    let parts : c.args.bytes.now ≡ 83 ∷ c.in-Some.rest.now = c.in-Some.ensures.cases.0 ∙ ap (λ (b : ℕ). b ∷ c.in-Some.rest.now) c.in-83.is in
    stopped-as c.sum_node.result (NodeRests 83) NodeLines c.in-Some.rest.now c.args.bytes.now
    (λ left s. node-second 83 c.args.bytes.now c.in-Some.rest.now left parts s) c.sum_node.ensures.stopped

pub returns-in-82-clause-stopped : goal.returns-in-82-clause-stopped
returns-in-82-clause-stopped c =
    let parts : c.args.bytes.now ≡ 82 ∷ c.in-Some.rest.now = c.in-Some.ensures.cases.0 ∙ ap (λ (b : ℕ). b ∷ c.in-Some.rest.now) c.in-82.is in
    stopped-as c.cut_node.result (NodeRests 82) NodeLines c.in-Some.rest.now c.args.bytes.now
    (λ left s. node-second 82 c.args.bytes.now c.in-Some.rest.now left parts s) c.cut_node.ensures.stopped

pub returns-in-67-clause-stopped : goal.returns-in-67-clause-stopped
returns-in-67-clause-stopped c =
    let parts : c.args.bytes.now ≡ 67 ∷ c.in-Some.rest.now = c.in-Some.ensures.cases.0 ∙ ap (λ (b : ℕ). b ∷ c.in-Some.rest.now) c.in-67.is in
    stopped-as c.case_node.result (NodeRests 67) NodeLines c.in-Some.rest.now c.args.bytes.now
    (λ left s. node-second 67 c.args.bytes.now c.in-Some.rest.now left parts s) c.case_node.ensures.stopped

pub returns-in-84-clause-stopped : goal.returns-in-84-clause-stopped
returns-in-84-clause-stopped c =
    let parts : c.args.bytes.now ≡ 84 ∷ c.in-Some.rest.now = c.in-Some.ensures.cases.0 ∙ ap (λ (b : ℕ). b ∷ c.in-Some.rest.now) c.in-84.is in
    stopped-as c.tight_node.result (NodeRests 84) NodeLines c.in-Some.rest.now c.args.bytes.now
    (λ left s. node-second 84 c.args.bytes.now c.in-Some.rest.now left parts s) c.tight_node.ensures.stopped

pub returns-in_default-letter-clause-stopped : goal.returns-in_default-letter-clause-stopped
returns-in_default-letter-clause-stopped c =
    node-other c.args.bytes.now c.in-Some.letter.now c.in-Some.rest.now c.in-Some.ensures.cases.0 (search rules) (search rules) (search rules) (search rules) (search rules) (search rules)
