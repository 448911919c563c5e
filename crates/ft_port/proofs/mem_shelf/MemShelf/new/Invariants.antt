use Rattle.std.proofs.Common.{◌≡◌, map, take}
use Rattle.ft_port.specs.Counts.{unread}
use Rattle.ft_port.proofs.mem_shelf.MemShelf.new.Given as goal

abbrev pub invariant-loop-file : goal.invariant-loop-file
invariant-loop-file l = l.counts.items ≡ map unread (map (λ file. file.0) (take l.file-index l.file-items))
