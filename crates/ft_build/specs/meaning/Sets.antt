-- The set that a tree spells: a total function of the tree, so that it is there for a tree with faults too.
use Rattle.std.specs.Prelude.{ℕ, pos, List, Option, Some, None}
use Rattle.std.specs.List.{flat_map}
use Rattle.ft_tree.specs.declared.item.Number.{Number}
use Rattle.ft_tree.specs.declared.item.NatWord.TheVariants.{First, Always, Step}
use Rattle.ft_tree.specs.declared.item.Item.{Item}
use Rattle.ft_names.specs.meaning.Cards.{Env, env_of}
use Rattle.ft_build.specs.declared.parts.Parts.{Parts}
use Rattle.ft_build.specs.meaning.Blocks.{build_block}
use Rattle.ft_build.specs.meaning.Tables.{build_clause, build_memory, build_table}
use Rattle.ft_build.specs.meaning.Variables.{no_places, vars_from}

abbrev pub or_default : ℕ → Option Number → ℕ
or_default n None = n
or_default n (Some number) = number.value

-- the same, with what the names stand for
abbrev pub set_in : Env → (name : List ℕ) → (period : Number) → (splits depth : Option Number) → List Item → Parts
set_in env name period splits depth items = record {
  name = name;
  period = pos period.value;
  splits = or_default 200000 splits;
  depth = or_default 4 depth;
  vars = vars_from items env no_places items;
  memories = flat_map (build_memory items env) items;
  tables = flat_map (build_table env) items;
  first = flat_map (build_clause First env) items;
  always = flat_map (build_clause Always env) items;
  step = flat_map (build_clause Step env) items;
  blocks = flat_map (build_block env) items;
}

abbrev pub set_of : (name : List ℕ) → (period : Number) → (splits depth : Option Number) → List Item → Parts
set_of name period splits depth items = set_in (env_of items) name period splits depth items
