use Rattle.std.proofs.Common.{◌≡◌, ◌∙◌, sym, ap, subst, ℕ, ◌+◌, ◌<◌, ◌^◌, List, [], ◌∷◌, ◌++◌, length, map, arith}
use Rattle.std.specs.Prelude.{codes}
use Rattle.std.specs.List.{All}
use Rattle.std.proofs.lemmas.Bool.{eqb-false}
use Rattle.std.proofs.lemmas.Result.{err_from_is_err_and}
use Rattle.std.proofs.lemmas.List.{length-append, length-map, map_push}
use Rattle.std.proofs.lemmas.List.Elements.{All-push}
use Rattle.ft_cert.specs.declared.node.CertNode.{CertNode}
use Rattle.ft_cert.specs.meaning.Tree.{Tree, nodes_of}
use Rattle.ft_certs.specs.meaning.Text.{IsCert, nodes_text, obligations_text}
use Rattle.ft_certs.specs.building.Pieces.{Obligation, Obligations, Word, heading_text}
use Rattle.ft_certs.specs.building.Stuck.{Refused}
use Rattle.ft_certs.proofs.StuckLemmas.{refused-as}
use Rattle.ft_certs.proofs.ReadingLemmas.{certs-push, end-first, end-more, heading-long, obligations-first, obligations-second}
use Rattle.ft_certs.proofs.obligations.obligations.Goals as goal

pub returns-in_err-cert-clause-refused : goal.returns-in_err-cert-clause-refused
returns-in_err-cert-clause-refused c =
    let p = err_from_is_err_and c.from_residual.result c.from_residual.ensures.1 in
    let inv = c.certs.invariant in
    let rest : List ℕ = c.certs.rest.now in
    let few : c.len.result + 1 < 2 ^ 32 = omega (arith, c.len.ensures, inv.2, c.requires) in
    rw (p.1, p.2)
    (refused-as c.in_err-cert.field-0.0 (Obligation c.len.result) (Obligations 0) rest c.args.bytes.now
    (λ left s. inv.3 left (subst (λ (i : ℕ). Refused (Obligations i) rest left) c.len.ensures
    (obligations-first c.len.result rest left few (sym c.certs-test.ensures) s)))
    c.in_err-cert.ensures.stopped)

pub certs-preserved : goal.certs-preserved
certs-preserved c =
    let inv = c.certs.invariant in
    let r = c.in_ok-cert.ensures.read in
    let t : Tree = c.in_ok-cert.cert in
    let rest : List ℕ = c.certs.rest.now in
    let more : List ℕ = c.in_ok-cert.more.now in
    let now : c.push.new.self ≡ c.certs.certs ++ t ∷ [] = c.in_ok-push.ensures.ok in
    let size : length c.push.new.self ≡ length c.certs.certs + 1 = omega (arith, ap length now, length-append c.certs.certs (t ∷ [])) in
    let mapped : map nodes_of c.push.new.self ≡ map nodes_of c.certs.certs ++ nodes_of t ∷ [] = ap (map nodes_of) now ∙ map_push nodes_of c.certs.certs t in
    let parts : rest ≡ (heading_text (length c.certs.certs) ++ nodes_text (nodes_of t)) ++ more =
    r.1 ∙ ap (λ (i : ℕ). (heading_text i ++ nodes_text (nodes_of t)) ++ more) c.len.ensures in (
      subst (All IsCert) (sym mapped) (All-push IsCert (map nodes_of c.certs.certs) (nodes_of t) inv.0 r.0),
      certs-push (map nodes_of c.certs.certs) (nodes_of t) (length c.certs.certs) c.args.bytes.now rest more (length-map c.certs.certs nodes_of) inv.1 parts
          ∙ ap (λ (cs : List (List CertNode)). obligations_text 1 cs ++ more) (sym mapped),
      omega (arith, size, inv.2, heading-long (length c.certs.certs) (nodes_of t) rest more parts),
      λ left f. inv.3 left (obligations-second (length c.certs.certs) (nodes_of t) rest more left r.0 parts
          (subst (λ (i : ℕ). Refused (Obligations i) more left) size f)),
    )

pub returns-in_err-rest-clause-refused : goal.returns-in_err-rest-clause-refused
returns-in_err-rest-clause-refused c =
    let p = err_from_is_err_and c.from_residual-in_err-rest.result c.from_residual-in_err-rest.ensures.1 in
    let inv = c.certs.invariant in
    let few : length c.certs.certs < 2 ^ 32 = omega (arith, inv.2, c.requires) in
    rw (p.1, p.2)
    (refused-as c.in_err-rest.field-0.0 (Word (codes "end\n")) (Obligations 0) c.certs.rest.now c.args.bytes.now
    (λ left s. inv.3 left (end-first (length c.certs.certs) c.certs.rest.now left few (sym c.certs-test.ensures) s)) c.in_err-rest.ensures.stopped)

pub returns-then-not-is_empty-clause-refused : goal.returns-then-not-is_empty-clause-refused
returns-then-not-is_empty-clause-refused c =
    let inv = c.certs.invariant in
    let few : length c.certs.certs < 2 ^ 32 = omega (arith, inv.2, c.requires) in
    inv.3 (length c.in_ok-rest.rest.now) (end-more (length c.certs.certs) c.certs.rest.now c.in_ok-rest.rest.now few c.in_ok-rest.ensures.read
    (omega (arith, eqb-false (length c.in_ok-rest.rest.now) 0 (sym c.if-not-is_empty.ensures))))
