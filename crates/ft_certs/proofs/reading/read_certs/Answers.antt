use Rattle.ft_certs.specs.meaning.Text.{spelled}
use Rattle.ft_certs.proofs.ReadingLemmas.{few-nodes, only-memory, spells-one}
use Rattle.ft_certs.proofs.reading.read_certs.Goals as goal

pub returns-in-Ok-clause-few : goal.returns-in-Ok-clause-few
returns-in-Ok-clause-few c = λ i t e. few-nodes c.args.text.now c.in-Ok.certs i t c.requires c.in-Ok.ensures.read e

pub returns-in-Ok-clause-only : goal.returns-in-Ok-clause-only
returns-in-Ok-clause-only c = λ d s. (spells-one c.args.text.now (spelled c.in-Ok.certs) d c.in-Ok.ensures.read s, tt)

pub returns-in-Err-clause-only : goal.returns-in-Err-clause-only
returns-in-Err-clause-only c = λ d s. (tt, only-memory c.args.text.now d c.fault_at.result s c.fault_at.ensures)
