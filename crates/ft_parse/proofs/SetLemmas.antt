-- The reading of a set, taken apart.
use Rattle.std.proofs.Common.{◌≡◌, refl, ℕ, List, [], codes}
use Rattle.ft_tree.specs.declared.item.Number.{Number}
use Rattle.ft_read.specs.meaning.Lexeme.{as_end}
use Rattle.ft_read.specs.meaning.Limit.{no_pass}
use Rattle.ft_parse.specs.parsers.Items.{is_item_start, more_items_by, set_by, setting_by}
use Rattle.ft_read.specs.parsers.Parts.{name_by, number_by, sign_by, word_by}
use Rattle.ft_read.specs.parsers.Combinators.{Parser, ParserState, give, read_token, ◌▶◌}
use Rattle.ft_parse.specs.parsers.Repetition.{many}
use Rattle.ft_parse.specs.parsers.Steps.{start_by}
use Rattle.ft_parse.specs.declared.parts.Parts.{Parts}
use Rattle.ft_parse.proofs.MemoryLemmas.{together}

abbrev rest-by : List ℕ × Number → Parser Parts
rest-by start =
    setting_by (codes "splits") ▶ λ splits. setting_by (codes "depth") ▶ λ depth. many is_item_start more_items_by [] ▶ λ items. read_token
    as_end no_pass ▶ λ _.
    give (record { name = start.0; period = start.1; splits = splits; depth = depth; items = items })

pub set_is : (s : ParserState) → set_by s
    ≡ (start_by ▶ λ start. setting_by (codes "splits") ▶ λ splits. setting_by (codes "depth") ▶ λ depth. many is_item_start more_items_by []
    ▶ λ items.
    read_token as_end no_pass ▶ λ _. give (record { name = start.0; period = start.1; splits = splits; depth = depth; items = items })) s
unfolding set_by
set_is s =
    together (word_by (codes "set") s) _ rest-by _ (λ _ s. together (name_by s) _ rest-by _
    (λ w s. together (sign_by (codes ";") s) _ rest-by _ (λ _ s.
    together (word_by (codes "period") s) _ rest-by _ (λ _ s. together (number_by s) _ rest-by _
    (λ period s. together (word_by (codes "ms") s) _ rest-by _ (λ _ s.
    together (sign_by (codes ";") s) _ rest-by _ (λ _ s. refl)))))))

pub ruleset sets = (set_is)
