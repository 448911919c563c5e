use Rattle.std.proofs.Common.{w64}
use Rattle.std.proofs.lemmas.Int.{to_z-of_z}
use Rattle.ft_worked.proofs.MixerRows.{level}
use Rattle.ft_worked.proofs.tests.may_follow.Goals as goal

pub allowed_step-requires-clause-before : goal.allowed_step-requires-clause-before
allowed_step-requires-clause-before c =
    level c.args.set.now c.requires.set _ c.args.earlier (to_z-of_z w64 c.args.earlier c.ranges.earlier) c.requires.earlier

pub allowed_step-requires-clause-now : goal.allowed_step-requires-clause-now
allowed_step-requires-clause-now c =
    level c.args.set.now c.requires.set _ c.args.level (to_z-of_z w64 c.args.level c.ranges.level) c.requires.level
