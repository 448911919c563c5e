use Rattle.std.proofs.Common.{rules, ◌∙◌, sym, ap, refl}
use Rattle.std.specs.List.{list_all}
use Rattle.ft_settle.specs.declared.raw.Raw.{the_lemmas}
use Rattle.ft_settle.specs.meaning.Raw.{is_moderate}
use Rattle.ft_settle.proofs.RawLemmas.{moderate-Le, moderate-Not, moderate-And, moderate-Or, placed-Le, placed-Not, placed-And, placed-Or}
use Rattle.ft_settle.proofs.settling.+place.Goals as goal

pub place-place_form-requires : goal.place-place_form-requires
place-place_form-requires t c = sym (moderate-Le c.in-Le.form) ∙ sym (ap is_moderate c.in-Le.is) ∙ c.requires

pub place-place-requires : goal.place-place-requires
place-place-requires t c = (
  search (rules, the_lemmas),
  ap is_moderate c.get.ensures ∙ sym (moderate-Not c.in-Not.inner) ∙ sym (ap is_moderate c.in-Not.is) ∙ c.requires,
)

pub place-place_all-requires : goal.place-place_all-requires
place-place_all-requires t c = (
  search (rules, the_lemmas),
  ap (list_all is_moderate) c.as_slice.ensures ∙ sym (moderate-And c.in-And.parts) ∙ sym (ap is_moderate c.in-And.is) ∙ c.requires,
)

pub place-place_all-requires-in-Or : goal.place-place_all-requires-in-Or
place-place_all-requires-in-Or t c = (
  search (rules, the_lemmas),
  ap (list_all is_moderate) c.as_slice-in-Or.ensures ∙ sym (moderate-Or c.in-Or.parts) ∙ sym (ap is_moderate c.in-Or.is) ∙ c.requires,
)

pub place-returns-in-Le : goal.place-returns-in-Le
place-returns-in-Le t c = rw (c.in-Le.is, placed-Le) c.place_form.ensures

pub place-returns-in_ok-place-in-Not : goal.place-returns-in_ok-place-in-Not
place-returns-in_ok-place-in-Not t c = rw (c.in-Not.is, placed-Not, ← c.get.ensures, ← c.in_ok-place-in-Not.ensures) c.negation.ensures

pub place-returns-in_ok-place_all-in-And : goal.place-returns-in_ok-place_all-in-And
place-returns-in_ok-place_all-in-And t c = rw (c.in-And.is, placed-And, ← c.as_slice.ensures, ← c.in_ok-place_all-in-And.ensures) refl

pub place-returns-in_ok-place_all-in-Or : goal.place-returns-in_ok-place_all-in-Or
place-returns-in_ok-place_all-in-Or t c = rw (c.in-Or.is, placed-Or, ← c.as_slice-in-Or.ensures, ← c.in_ok-place_all-in-Or.ensures) refl
