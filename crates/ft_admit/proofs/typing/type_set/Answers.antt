use Rattle.std.proofs.lemmas.Result.{err_from_is_err_and}
use Rattle.ft_admit.proofs.FirstFaultLemmas.{from-cycle, from-use, memory-only}
use Rattle.ft_admit.proofs.SetLemmas.{checked-set, form-of, sound-set, terms-of, uses-of}
use Rattle.ft_admit.specs.meaning.TypeFaults.{type_stop}
use Rattle.ft_admit.proofs.typing.type_set.Goals as goal

pub returns-in_err-judge_cycles-clause-fault : goal.returns-in_err-judge_cycles-clause-fault
returns-in_err-judge_cycles-clause-fault c =
    let p = err_from_is_err_and c.from_residual-in_err-judge_cycles.result c.from_residual-in_err-judge_cycles.ensures.1 in
    rw (p.1, p.2)
    (from-cycle c.args.tree.now c.in_err-judge_cycles.field-0.0 c.in_ok-known.ensures.answers c.in_err-judge_cycles.ensures.cycle)

pub returns-in_err-judge_cycles-clause-only : goal.returns-in_err-judge_cycles-clause-only
returns-in_err-judge_cycles-clause-only c = λ no_fault.
    let p = err_from_is_err_and c.from_residual-in_err-judge_cycles.result c.from_residual-in_err-judge_cycles.ensures.1 in
    rw (p.1, p.2)
    (memory-only c.args.tree.now c.in_err-judge_cycles.field-0.0 no_fault
    (from-cycle c.args.tree.now c.in_err-judge_cycles.field-0.0 c.in_ok-known.ensures.answers c.in_err-judge_cycles.ensures.cycle))

pub returns-in_err-judge_uses-clause-fault : goal.returns-in_err-judge_uses-clause-fault
returns-in_err-judge_uses-clause-fault c =
    let p = err_from_is_err_and c.from_residual-in_err-judge_uses.result c.from_residual-in_err-judge_uses.ensures.1 in
    rw (p.1, p.2)
    (from-use c.args.tree.now c.in_err-judge_uses.field-0.0 c.in_ok-known.ensures.answers c.in_ok-judge_cycles.ensures.none
    c.in_err-judge_uses.ensures.answers)

pub returns-in_err-judge_uses-clause-only : goal.returns-in_err-judge_uses-clause-only
returns-in_err-judge_uses-clause-only c = λ no_fault.
    let p = err_from_is_err_and c.from_residual-in_err-judge_uses.result c.from_residual-in_err-judge_uses.ensures.1 in
    rw (p.1, p.2)
    (memory-only c.args.tree.now (type_stop c.in_err-judge_uses.field-0.0) no_fault
    (from-use c.args.tree.now c.in_err-judge_uses.field-0.0 c.in_ok-known.ensures.answers c.in_ok-judge_cycles.ensures.none
    c.in_err-judge_uses.ensures.answers))

pub checked-requires-clause-sound : goal.checked-requires-clause-sound
checked-requires-clause-sound c = sound-set c.in_ok-parts.parts
    (terms-of c.lawful_terms.ensures c.args.tree.now c.in_ok-parts.parts c.in_ok-parts.ensures c.in_ok-known.ensures.answers)
    (form-of c.lawful_form.ensures c.args.tree.now c.in_ok-parts.parts c.in_ok-parts.ensures c.in_ok-known.ensures.answers)
    c.in_ok-judge_cycles.ensures.order

pub checked-requires-clause-checked : goal.checked-requires-clause-checked
checked-requires-clause-checked c = checked-set c.in_ok-parts.parts
    (terms-of c.lawful_terms.ensures c.args.tree.now c.in_ok-parts.parts c.in_ok-parts.ensures c.in_ok-known.ensures.answers)
    (form-of c.lawful_form.ensures c.args.tree.now c.in_ok-parts.parts c.in_ok-parts.ensures c.in_ok-known.ensures.answers)
    (uses-of c.names_differ.ensures c.args.tree.now c.in_ok-parts.parts c.in_ok-parts.ensures c.in_ok-known.ensures.answers
    c.in_ok-judge_uses.ensures.answers)

pub returns-clause-no_fault : goal.returns-clause-no_fault
returns-clause-no_fault c = record {
  before = c.in_ok-known.ensures.answers;
  no_cycle = c.in_ok-judge_cycles.ensures.none;
  uses = c.in_ok-judge_uses.ensures.answers;
}
