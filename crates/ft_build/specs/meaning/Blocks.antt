-- The blocks of a set, in the order of the text.
use Rattle.std.specs.Prelude.{ℕ, List, [], ◌∷◌, map, Option, Some}
use Rattle.ft_tree.specs.declared.item.Word.{Word}
use Rattle.ft_tree.specs.declared.item.FactItem.{FactItem}
use Rattle.ft_tree.specs.declared.item.FactItem.TheVariants as fact
use Rattle.ft_tree.specs.declared.item.Item.{Item}
use Rattle.ft_tree.specs.declared.item.Item.TheVariants as item
use Rattle.ft_core.specs.declared.tables.Fact.{Fact}
use Rattle.ft_core.specs.declared.tables.Fact.TheVariants.{Invariant, Goal}
use Rattle.ft_core.specs.declared.tables.Take.{Take}
use Rattle.ft_core.specs.declared.tables.Take.TheVariants.{Variable, Memory}
use Rattle.ft_core.specs.declared.tables.Block.{Block}
use Rattle.ft_names.specs.declared.card.Card.{Card}
use Rattle.ft_names.specs.declared.card.Card.TheVariants as card
use Rattle.ft_names.specs.meaning.Cards.{Env}
use Rattle.ft_build.specs.meaning.Conditions.{cond_of}
use Rattle.ft_build.specs.meaning.Tables.{place_in, variable_place}

-- the variable or the memory that a name stands for; what is neither counts as the first variable
abbrev pub card_take : Option Card → Take
card_take (Some (card.Memory place side hold)) = Memory place
card_take c = Variable (variable_place c)

abbrev pub take_of : Env → Word → Take
take_of env word = card_take (env word.text)

-- the block and the fact of an invariant; what is none counts as the first fact of the first block
abbrev pub card_use : Option Card → ℕ × ℕ
card_use (Some (card.Invariant block place)) = (block, place)
card_use _ = (0, 0)

abbrev pub use_of : Env → Word → ℕ × ℕ
use_of env word = card_use (env word.text)

abbrev pub fact_of : Env → FactItem → Fact
fact_of env (fact.Shows name cond) = Invariant name.text (cond_of env cond)
fact_of env (fact.Goal con) = Goal (place_in env con.text)

abbrev pub block_of : Env → (name : List ℕ) → (takes uses : List Word) → List FactItem → Block
block_of env name takes uses facts =
    record { name = name; takes = map (take_of env) takes; uses = map (use_of env) uses; facts = map (fact_of env) facts }

-- the block that an item is, where it is one
abbrev pub build_block : Env → Item → List Block
build_block env (item.Block name takes uses facts) = block_of env name.text takes uses facts ∷ []
build_block env _ = []
