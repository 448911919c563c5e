use Rattle.std.proofs.Common.{rules, ◌∙◌, sym, ap}
use Rattle.ft_settle.specs.declared.raw.Raw.{the_lemmas}
use Rattle.ft_settle.specs.meaning.Raw.{is_moderate}
use Rattle.std.specs.List.{list_all}
use Rattle.ft_settle.proofs.RawLemmas.{moderate-Le, moderate-Not, moderate-And, moderate-Or, begins-Le, begins-Not, begins-And, begins-Or}
use Rattle.ft_settle.proofs.RawLemmas.{forms-Le, forms-Not, forms-And, forms-Or}
use Rattle.ft_settle.proofs.SettleLemmas.{forms-more, begins-more}
use Rattle.ft_settle.proofs.settling.+collect.Goals as goal

pub collect-add_atom-requires : goal.collect-add_atom-requires
collect-add_atom-requires t c = sym (moderate-Le c.in-Le.form) ∙ sym (ap is_moderate c.in-Le.is) ∙ c.requires

pub collect-collect-requires : goal.collect-collect-requires
collect-collect-requires t c = (
  search (rules, the_lemmas),
  ap is_moderate c.get.ensures ∙ sym (moderate-Not c.in-Not.inner) ∙ sym (ap is_moderate c.in-Not.is) ∙ c.requires,
)

pub collect-collect_all-requires : goal.collect-collect_all-requires
collect-collect_all-requires t c = (
  search (rules, the_lemmas),
  ap (list_all is_moderate) c.as_slice.ensures ∙ sym (moderate-And c.in-And.parts) ∙ sym (ap is_moderate c.in-And.is) ∙ c.requires,
)

pub collect-collect_all-requires-in-Or : goal.collect-collect_all-requires-in-Or
collect-collect_all-requires-in-Or t c = (
  search (rules, the_lemmas),
  ap (list_all is_moderate) c.as_slice-in-Or.ensures ∙ sym (moderate-Or c.in-Or.parts) ∙ sym (ap is_moderate c.in-Or.is) ∙ c.requires,
)

pub collect-returns-in-Le-clause-forms : goal.collect-returns-in-Le-clause-forms
collect-returns-in-Le-clause-forms t c = rw (c.in-Le.is, forms-Le) c.add_atom.ensures.forms

pub collect-returns-in-Le-clause-begins : goal.collect-returns-in-Le-clause-begins
collect-returns-in-Le-clause-begins t c = rw (c.in-Le.is, begins-Le) c.add_atom.ensures.begins

pub collect-returns-in-Not-clause-forms : goal.collect-returns-in-Not-clause-forms
collect-returns-in-Not-clause-forms t c = rw (c.in-Not.is, forms-Not, ← c.get.ensures) c.collect.ensures.forms

pub collect-returns-in-Not-clause-begins : goal.collect-returns-in-Not-clause-begins
collect-returns-in-Not-clause-begins t c = rw (c.in-Not.is, begins-Not, ← c.get.ensures) c.collect.ensures.begins

pub collect-returns-in-And-clause-forms : goal.collect-returns-in-And-clause-forms
collect-returns-in-And-clause-forms t c = rw (c.in-And.is, forms-And, ← c.as_slice.ensures) c.collect_all.ensures.forms

pub collect-returns-in-And-clause-begins : goal.collect-returns-in-And-clause-begins
collect-returns-in-And-clause-begins t c = rw (c.in-And.is, begins-And, ← c.as_slice.ensures) c.collect_all.ensures.begins

pub collect-returns-in-Or-clause-forms : goal.collect-returns-in-Or-clause-forms
collect-returns-in-Or-clause-forms t c = rw (c.in-Or.is, forms-Or, ← c.as_slice-in-Or.ensures) c.collect_all-in-Or.ensures.forms

pub collect-returns-in-Or-clause-begins : goal.collect-returns-in-Or-clause-begins
collect-returns-in-Or-clause-begins t c = rw (c.in-Or.is, begins-Or, ← c.as_slice-in-Or.ensures) c.collect_all-in-Or.ensures.begins

pub collect_all-loop-part-preserved : goal.collect_all-loop-part-preserved
collect_all-loop-part-preserved t c =
    let parts = c.args.parts.now in
    let i = c.loop-part.part-index in
    let part = c.part-item.result in (
      forms-more c.args.forms.now c.loop-part.forms c.collect.new.forms parts i part c.loop-part-test.true c.part-item.is
          c.loop-part.invariant.0 c.in_ok-collect.ensures.forms,
      begins-more parts i part c.loop-part-test.true c.part-item.is c.loop-part.invariant.1 c.in_ok-collect.ensures.begins,
    )
