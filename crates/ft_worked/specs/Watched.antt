-- Two worked sets of which only what is monitored matters: a level from 0 to 9, and in the second an enum beside it, the mode. What is
-- controlled is always 0, and stands between the two.
use Rattle.std.specs.Prelude.{pos, List, [], ◌∷◌}
use Rattle.ft_core.specs.declared.tables.Table.{Table}
use Rattle.ft_core.specs.declared.tables.Var.{Var}
use Rattle.ft_core.specs.declared.tables.VarKind.TheVariants.{Mon, Con}
use Rattle.ft_core.specs.declared.tables.Section.TheVariants as section
use Rattle.ft_core.specs.declared.term.Term.TheVariants.{Num}
use Rattle.ft_worked.specs.Made.{Parts, variable}
use Rattle.ft_worked.specs.Relay.{always_gives}

-- idle or run, called i and r
abbrev pub mode : Var
mode = record { name = 109 ∷ []; kind = Mon; place = 1; range = (pos 0, pos 1); members = (105 ∷ []) ∷ (114 ∷ []) ∷ []; init = pos 0 }

abbrev pub level_alone : List Var
level_alone = variable 120 Mon 0 (pos 9) (pos 0) ∷ variable 99 Con 0 (pos 1) (pos 0) ∷ []

abbrev pub level_and_mode : List Var
level_and_mode = variable 120 Mon 0 (pos 9) (pos 0) ∷ variable 99 Con 0 (pos 1) (pos 0) ∷ mode ∷ []

abbrev pub tables : List Table
tables = always_gives section.Req 1 (Num (pos 0)) ∷ always_gives section.Out 1 (Num (pos 0)) ∷ []

abbrev pub watched : (vars : List Var) → Parts
watched vars = record { period = pos 50; vars = vars; memories = []; tables = tables; first = []; always = []; step = [] }
