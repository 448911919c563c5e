-- What the memories of a checked set keep has bounds.
use Rattle.std.proofs.Common.{ℤ, pos, negsuc, arith}
use Rattle.std.proofs.lemmas.Int.{ints}
use Rattle.ft_core.specs.declared.tables.Tables.{Tables}
use Rattle.ft_core.specs.declared.tables.Memory.TheVariants.{Held, Hyst}
use Rattle.ft_core.specs.checked.Sound.{IsHold}
use Rattle.ft_base.specs.Interval.{IsBounded}
use Rattle.ft_oblige.specs.building.Spanning.{AreKept}

hold-bounded : (hold : ℤ) → IsHold hold → IsBounded 1000000000 (negsuc 0) hold
hold-bounded hold is = grind (arith, ints)

bit-bounded : IsBounded 1000000000 (pos 0) (pos 1)
bit-bounded = grind (arith, ints)

pub are-kept : (S : Tables) → AreKept S.memories
are-kept S m (Held name side cond hold) is = hold-bounded hold (S.sound.timers m name side cond hold is)
are-kept S m (Hyst name side e lo hi start) is = bit-bounded
