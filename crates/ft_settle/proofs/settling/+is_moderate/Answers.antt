use Rattle.ft_settle.proofs.RawLemmas.{moderate-Le, moderate-Not, moderate-And, moderate-Or}
use Rattle.ft_settle.proofs.settling.+is_moderate.Goals as goal

pub is_moderate-returns-in-Le : goal.is_moderate-returns-in-Le
is_moderate-returns-in-Le t c = rw (c.in-Le.is, moderate-Le) c.has_moderate_constant.ensures

pub is_moderate-returns-in-Not : goal.is_moderate-returns-in-Not
is_moderate-returns-in-Not t c = rw (c.in-Not.is, moderate-Not, ← c.get.ensures) c.is_moderate.ensures

pub is_moderate-returns-in-And : goal.is_moderate-returns-in-And
is_moderate-returns-in-And t c = rw (c.in-And.is, moderate-And, ← c.as_slice.ensures) c.all_moderate.ensures

pub is_moderate-returns-in-Or : goal.is_moderate-returns-in-Or
is_moderate-returns-in-Or t c = rw (c.in-Or.is, moderate-Or, ← c.as_slice-in-Or.ensures) c.all_moderate-in-Or.ensures
