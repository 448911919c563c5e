use Rattle.ft_read.specs.meaning.Operators.{as_simple}
use Rattle.ft_read.proofs.CursorLemmas.{within_read}
use Rattle.ft_read.proofs.simple.read_simple.Goals as goal

pub returns : goal.returns
returns c =
    rw (← within_read as_simple c.args.site c.in_ok-read.read c.args.cursor.now.at c.args.cursor.now.rest c.in_ok-read.ensures)
    c.accept.ensures
