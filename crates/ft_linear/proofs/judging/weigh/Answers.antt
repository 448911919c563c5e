use Rattle.std.proofs.Common.{◌∙◌, ap, refl, arith, length, slice_set}
use Rattle.std.proofs.lemmas.Option.{slice_get_read}
use Rattle.ft_linear.specs.meaning.Part.{atom_value, value_by, is_against, is_agreed, against, agrees}
use Rattle.ft_linear.specs.judging.Weighing.{decided_at, decided_signs}
use Rattle.ft_linear.proofs.MarksLemmas.{written-more, any-more, all-more, atom-read}
use Rattle.ft_linear.proofs.judging.weigh.Goals as goal

pub atoms-preserved : goal.atoms-preserved
atoms-preserved c =
    let f = c.args.formula.now in
    let p = c.args.part.now in
    let at = c.atoms.at in
    let atoms = c.atoms-atom-items.result.now in
    let read = atom-read f p at c.decision_at-decision.result c.fixed-fixed.result c.atom-item.result c.as_slice-spans.result.now
    c.decisions-decisions.result.now atoms
    c.decision_at-decision.ensures c.decisions-decisions.ensures c.fixed-fixed.ensures (c.as_slice-spans.ensures ∙ c.area.ensures)
    (slice_get_read atoms (length atoms) at c.atom-item.result refl c.atoms-test.true c.atom-item.is) c.atoms-atom-items.ensures in
    let long = ap length c.atoms-atom-items.ensures in
    record {
      values = written-more (atom_value f p) c.atoms.values (slice_set c.atoms.values at c.value_by.result) at c.value_by.result
          (omega (arith, long)) refl (c.value_by.ensures ∙ (λ i. value_by (read.0 i) (read.1 i))) c.atoms.invariant.values;
      signs = written-more (decided_at p) c.atoms.signs (slice_set c.atoms.signs at c.decided_signs.result) at c.decided_signs.result
          (omega (arith, long)) refl (c.decided_signs.ensures ∙ ap decided_signs read.0) c.atoms.invariant.signs;
      against = any-more (is_against f p) at c.atoms.against c.is_against-against.result
          (c.is_against-against.ensures ∙ (λ i. against (read.0 i) (read.1 i))) c.atoms.invariant.against;
      agreed = all-more (is_agreed f p) at c.atoms.agreed c.is_agreed-agreed.result
          (c.is_agreed-agreed.ensures ∙ (λ i. agrees (read.0 i) (read.1 i))) c.atoms.invariant.agreed;
    }
