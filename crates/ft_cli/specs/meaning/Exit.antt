-- The status that the program exits with.
use Rattle.std.specs.Prelude.{ℕ, Result, Ok, Err}
use Rattle.ft_base.specs.declared.memory.NoMemory.{NoMemory}
use Rattle.ft_cli.specs.declared.ended.Ended.{Ended}

-- the status of the call; 7 where want of memory came before it
abbrev pub exit_of : Result Ended NoMemory → ℕ
exit_of (Ok ended) = ended.status
exit_of (Err e) = 7
