use Rattle.std.proofs.Common.{◌∙◌, arith}
use Rattle.std.proofs.lemmas.List.{length-set}
use Rattle.ft_search.proofs.CopyLemmas.{same-lists, set-get}
use Rattle.ft_search.proofs.sweeping.copy_decisions.Goals as goal

pub loop-atom-preserved : goal.loop-atom-preserved
loop-atom-preserved c =
    let v = c.loop-atom.invariant in
    let e = c.decide.ensures in
    rw e.decided
    (record {
      long = length-set c.loop-atom.to.decided c.loop-atom.atom c.decided.result ∙ v.long;
      same = set-get c.loop-atom.to.decided c.args.from.now.decided c.loop-atom.atom c.decided.result v.long c.decided.ensures v.same;
      spans = e.spans ∙ v.spans;
    })

pub returns-clause-decided : goal.returns-clause-decided
returns-clause-decided c =
    let v = c.loop-atom.invariant in
    let end = c.loop-atom-test.false in
    let count = c.requires.atoms in
    let long = v.long in
    same-lists c.loop-atom.to.decided c.args.from.now.decided v.long (λ a below. v.same a (omega (arith, below, end, count, long)))
