use Rattle.ft_read.specs.meaning.Choices.{as_plain}
use Rattle.ft_read.specs.parsers.Parts.{plain_bound_by}
use Rattle.ft_read.proofs.CursorLemmas.{lexical_read}
use Rattle.ft_read.proofs.bounds.plain_bound.Goals as goal

pub returns : goal.returns
unfolding plain_bound_by
returns c =
    rw (← lexical_read as_plain c.in_ok-read.read c.args.cursor.now.at c.args.cursor.now.rest c.in_ok-read.ensures)
    c.accept.ensures
