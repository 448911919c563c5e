use Rattle.std.proofs.Common.{subst, sym}
use Rattle.ft_core.specs.declared.tables.Tables.{Tables}
use Rattle.ft_compose.specs.declared.blocks.Blocks.TheVariants as blocks
use Rattle.ft_cli.specs.meaning.Judgement.{IsOpen}
use Rattle.ft_cli.proofs.judging.failing.Goals as goal

pub returns-clause-ended : goal.returns-clause-ended
returns-clause-ended c = λ bytes spelled.
    let searched = c.in_ok-tables.ensures.searched in
    subst (λ (S : Tables). IsOpen bytes S (blocks.Fails c.args.obligation c.args.cells c.args.state.values c.args.state.labels)
    c.in_ok-tables.short) (sym searched.0)
    (record {
      tried = record { spelled = spelled; proper = c.requires.proper; lists = c.requires.lists };
      found = c.requires.found;
      short = searched.1;
    })
