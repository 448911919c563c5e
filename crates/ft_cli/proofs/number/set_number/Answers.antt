use Rattle.std.proofs.Common.{sym, ◌∙◌, true, false}
use Rattle.ft_cli.proofs.NumberLemmas.{set-number-by}
use Rattle.ft_cli.proofs.number.set_number.Goals as goal

pub returns-then-is_named : goal.returns-then-is_named
returns-then-is_named c =
    set-number-by c.args.word.now _ c.value_of-number.ensures true (sym c.if-is_named.true ∙ c.is_named.ensures)

pub returns-else-is_named : goal.returns-else-is_named
returns-else-is_named c =
    set-number-by c.args.word.now _ c.value_of-number.ensures false (sym c.if-is_named.false ∙ c.is_named.ensures)
