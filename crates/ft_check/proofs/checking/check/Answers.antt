use Rattle.std.proofs.Common.{◌∙◌, ap, ◌+◌, ℕ, rules, arith}
use Rattle.ft_cert.specs.meaning.Parts.{whole_of}
use Rattle.ft_check.proofs.CheckLemmas.{before-more, fails-where-refused, holds-at-end, is-refused, rest-more, waits, whole-point}
use Rattle.ft_check.proofs.checking.check.Goals as goal

pub advance-requires-clause-waits : goal.advance-requires-clause-waits
advance-requires-clause-waits c =
    let f = c.args.formula.now in
    let p = whole_of f c.args.area.now.spans in
    waits f p c.args.cert.now c.cert_laws.ensures.all c.nodes-nodes.result.now c.nodes-nodes.ensures.value
    c.nodes.node-index c.node-item.result (omega arith) c.node-item.is c.nodes.descent.parts c.nodes.invariant.rest

pub returns-then-not-advance-clause-fault : goal.returns-then-not-advance-clause-fault
returns-then-not-advance-clause-fault c =
    let f = c.args.formula.now in
    let p = whole_of f c.args.area.now.spans in
    is-refused f p c.args.cert.now c.cert_laws.ensures.all c.nodes-nodes.result.now c.nodes-nodes.ensures.value
    c.nodes.node-index c.node-item.result (omega arith) c.node-item.is c.nodes.descent.parts c.nodes.invariant.rest
    (c.nodes.number + 1) (ap (λ (k : ℕ). k + 1) c.nodes.invariant.number) c.nodes.invariant.before
    (c.advance.ensures.fails c.if-not-advance.true)

pub returns-then-not-advance-clause-only : goal.returns-then-not-advance-clause-only
returns-then-not-advance-clause-only c holds =
    let f = c.args.formula.now in
    let p = whole_of f c.args.area.now.spans in
    absurd (fails-where-refused f p c.args.cert.now (c.nodes.number + 1) (
    is-refused f p c.args.cert.now c.cert_laws.ensures.all c.nodes-nodes.result.now c.nodes-nodes.ensures.value
    c.nodes.node-index c.node-item.result (omega arith) c.node-item.is c.nodes.descent.parts c.nodes.invariant.rest
    (c.nodes.number + 1) (ap (λ (k : ℕ). k + 1) c.nodes.invariant.number) c.nodes.invariant.before
    (c.advance.ensures.fails c.if-not-advance.true)) holds)

pub nodes-preserved : goal.nodes-preserved
nodes-preserved c =
    let f = c.args.formula.now in
    let p = whole_of f c.args.area.now.spans in
    record {
      rest = rest-more f p c.args.cert.now c.cert_laws.ensures.all c.nodes-nodes.result.now c.nodes-nodes.ensures.value
          c.nodes.node-index c.node-item.result (omega arith) c.node-item.is c.nodes.descent.parts c.nodes.invariant.rest
          c.advance.new.descent.parts (c.advance.ensures.parts c.if-not-advance.false);
      before = before-more f p c.args.cert.now c.cert_laws.ensures.all c.nodes-nodes.result.now c.nodes-nodes.ensures.value
          c.nodes.node-index c.node-item.result (omega arith) c.node-item.is c.nodes.descent.parts c.nodes.invariant.rest
          c.nodes.invariant.before (c.advance.ensures.holds c.if-not-advance.false);
      number = ap (λ (k : ℕ). k + 1) c.nodes.invariant.number;
      unknowns = c.advance.ensures.unknowns ∙ c.nodes.invariant.unknowns;
      atoms = c.advance.ensures.atoms ∙ c.nodes.invariant.atoms;
      spare = (let was = c.nodes.invariant.spare in let now = c.advance.ensures.spare in omega (arith, was, now));
      room = search rules;
    }

pub returns-clause-ok : goal.returns-clause-ok
returns-clause-ok c =
    let f = c.args.formula.now in
    let p = whole_of f c.args.area.now.spans in
    holds-at-end f p c.args.cert.now c.cert_laws.ensures.all c.nodes-nodes.result.now c.nodes-nodes.ensures.value
    c.nodes.node-index c.nodes-nodes.ensures.closed (omega arith) c.nodes.invariant.before

pub returns-clause-none : goal.returns-clause-none
returns-clause-none c x area sat =
    let f = c.args.formula.now in
    let p = whole_of f c.args.area.now.spans in
    c.cert_laws.ensures.none f p c.args.cert.now x c.requires.over
    (holds-at-end f p c.args.cert.now c.cert_laws.ensures.all c.nodes-nodes.result.now c.nodes-nodes.ensures.value
    c.nodes.node-index c.nodes-nodes.ensures.closed (omega arith) c.nodes.invariant.before)
    (whole-point f c.args.area.now.spans x area) sat
