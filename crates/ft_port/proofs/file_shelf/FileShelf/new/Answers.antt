use Rattle.std.specs.Prelude.{string_bytes}
use Rattle.ft_port.proofs.CountsLemmas.{all-unread}
use Rattle.ft_port.proofs.file_shelf.FileShelf.new.Goals as goal

pub returns : goal.returns
returns g c = all-unread string_bytes c.args.names.now c.loop-name.name-index c.loop-name.counts.items c.loop-name.invariant
    c.loop-name-test.false
