use Rattle.std.proofs.Common.{sym}
use Rattle.ft_json.proofs.WordLemmas.{no-memory}
use Rattle.ft_json.proofs.rendering.no_memory_json.Goals as goal

pub returns : goal.returns
returns c = sym no-memory
