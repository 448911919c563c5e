use Rattle.std.proofs.Common.{refl}
use Rattle.ft_worked.proofs.MadeLemmas.{sound_as, checked_with}
use Rattle.ft_worked.proofs.WatchedSound.{sound, checked}
use Rattle.ft_worked.proofs.watched.watched.Goals as goal

pub invariant_of-result : goal.invariant_of-result
invariant_of-result c = record {
  sound = sound_as refl refl c.new.ensures c.in_ok-tables.ensures c.new-2.ensures c.new-3.ensures c.new-4.ensures
      (sound c.args.vars c.requires);
  checked = checked_with 1000 4 c.in_ok-name.ensures refl c.new.ensures c.in_ok-tables.ensures c.new-2.ensures c.new-3.ensures
      c.new-4.ensures c.new-5.ensures (checked c.checked_by_tests.ensures c.args.vars c.requires);
}
