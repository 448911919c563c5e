-- The tables and memories of a set, and what its environment keeps, in the order of the text.
use Rattle.std.specs.Prelude.{ℕ, Bool, true, false, List, [], ◌∷◌, map, Option, Some, if◌then◌else◌}
use Rattle.ft_tree.specs.declared.expr.Expr.{Expr}
use Rattle.ft_tree.specs.declared.item.SectionWord.{SectionWord}
use Rattle.ft_tree.specs.declared.item.SectionWord.TheVariants as word
use Rattle.ft_tree.specs.declared.item.NatWord.{NatWord}
use Rattle.ft_tree.specs.declared.item.NatWord.TheVariants as moment
use Rattle.ft_tree.specs.declared.item.Row.{Row}
use Rattle.ft_tree.specs.declared.item.VRow.{VRow}
use Rattle.ft_tree.specs.declared.item.Item.{Item}
use Rattle.ft_tree.specs.declared.item.Item.TheVariants as item
use Rattle.ft_core.specs.declared.tables.Side.{Side}
use Rattle.ft_core.specs.declared.tables.Side.TheVariants as side
use Rattle.ft_core.specs.declared.tables.Section.{Section}
use Rattle.ft_core.specs.declared.tables.Section.TheVariants as section
use Rattle.ft_core.specs.declared.tables.Memory.{Memory}
use Rattle.ft_core.specs.declared.tables.Memory.TheVariants.{Held, Hyst}
use Rattle.ft_core.specs.declared.tables.Grid.{Grid}
use Rattle.ft_core.specs.declared.tables.Grid.TheVariants.{Normal, Inverted, Vector}
use Rattle.ft_core.specs.declared.tables.Table.{Table}
use Rattle.ft_core.specs.declared.term.Cond.{Cond}
use Rattle.ft_core.specs.declared.term.Term.{Term}
use Rattle.ft_names.specs.declared.card.Card.{Card}
use Rattle.ft_names.specs.declared.card.Card.TheVariants.{Variable}
use Rattle.ft_names.specs.meaning.Cards.{Env, bound_value}
use Rattle.ft_build.specs.meaning.Conditions.{cond_of}
use Rattle.ft_build.specs.meaning.Terms.{term_of}

abbrev pub section_of : SectionWord → Section
section_of word.In = section.In
section_of word.Req = section.Req
section_of word.Sof = section.Sof
section_of word.Out = section.Out

-- a memory is of the requirement or of the design
abbrev pub side_of : SectionWord → Side
side_of word.Sof = side.Sof
side_of word.In = side.Req
side_of word.Req = side.Req
side_of word.Out = side.Req

-- the place of the variable that a name stands for
abbrev pub variable_place : Option Card → ℕ
variable_place (Some (Variable place w values)) = place
variable_place _ = 0

abbrev pub place_in : Env → List ℕ → ℕ
place_in env name = variable_place (env name)

abbrev pub head_of : Env → Row → Cond
head_of env row = cond_of env row.head

abbrev pub row_terms : Env → Row → List Term
row_terms env row = map (term_of env) row.entries

abbrev pub row_conds : Env → Row → List Cond
row_conds env row = map (cond_of env) row.entries

abbrev pub row_target : Env → VRow → ℕ
row_target env row = place_in env row.target.text

abbrev pub vector_terms : Env → VRow → List Term
vector_terms env row = map (term_of env) row.entries

abbrev pub normal_grid : Env → (target : List ℕ) → List Expr → List Row → Grid
normal_grid env target columns rows =
    Normal (place_in env target) (map (cond_of env) columns) (map (head_of env) rows) (map (row_terms env) rows)

abbrev pub inverted_grid : Env → (target : List ℕ) → List Expr → List Row → Grid
inverted_grid env target headers rows =
    Inverted (place_in env target) (map (term_of env) headers) (map (head_of env) rows) (map (row_conds env) rows)

abbrev pub vector_grid : Env → List Expr → List VRow → Grid
vector_grid env columns rows = Vector (map (cond_of env) columns) (map (row_target env) rows) (map (vector_terms env) rows)

abbrev pub table_of : SectionWord → Grid → Table
table_of s grid = record { section = section_of s; grid = grid }

-- the table that an item is, where it is one
abbrev pub build_table : Env → Item → List Table
build_table env (item.Normal s target columns rows) = table_of s (normal_grid env target.text columns rows) ∷ []
build_table env (item.Inverted s target headers rows) = table_of s (inverted_grid env target.text headers rows) ∷ []
build_table env (item.Vector s columns rows) = table_of s (vector_grid env columns rows) ∷ []
build_table env _ = []

-- the memory that an item declares, where it does
abbrev pub build_memory : List Item → Env → Item → List Memory
build_memory items env (item.Held s name cond hold) = Held name.text (side_of s) (cond_of env cond) (bound_value items hold) ∷ []
build_memory items env (item.Hyst s name term lo hi start) =
    Hyst name.text (side_of s) (term_of env term) (bound_value items lo) (bound_value items hi) start ∷ []
build_memory items env _ = []

abbrev pub is_moment : NatWord → NatWord → Bool
is_moment moment.First moment.First = true
is_moment moment.Always moment.Always = true
is_moment moment.Step moment.Step = true
is_moment _ _ = false

-- what the environment keeps at such scans by an item, where it is a clause on them
abbrev pub build_clause : NatWord → Env → Item → List Cond
build_clause m env (item.Nat n cond) = if is_moment m n then cond_of env cond ∷ [] else []
build_clause m env _ = []
