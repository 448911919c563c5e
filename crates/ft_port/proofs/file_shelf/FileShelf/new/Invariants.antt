use Rattle.std.proofs.Common.{◌≡◌, map, take}
use Rattle.std.specs.Prelude.{string_bytes}
use Rattle.ft_port.specs.Counts.{unread}
use Rattle.ft_port.proofs.file_shelf.FileShelf.new.Given as goal

abbrev pub invariant-loop-name : goal.invariant-loop-name
invariant-loop-name g l = l.counts.items ≡ map unread (map string_bytes (take l.name-index l.names))
