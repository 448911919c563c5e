use Rattle.std.proofs.lemmas.List.Elements.{Contains-get_or}
use Rattle.std.specs.Prelude.{slice_index_or}
use Rattle.ft_admit.proofs.cycles.names_at.Goals as goal

pub name_at-requires : goal.name_at-requires
name_at-requires c = c.requires (slice_index_or c.args.numbers.now c.loop-number.number-index 0)
    (Contains-get_or c.args.numbers.now c.loop-number.number-index 0 c.loop-number-test.true)
