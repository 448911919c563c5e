-- A worked set. A relay closes once a switch has been on for 100 ms, by a timer on each side, with a scan each 50 ms. The hold of the
-- design's timer is open: with 100 ms the design refines the requirement, and with 150 ms it is one scan late:
--
--   switch                 1  1  1
--   required               0  0  1
--   with 150 ms            0  0  0
use Rattle.std.specs.Prelude.{ℕ, ℤ, pos, Bool, List, [], ◌∷◌, if◌then◌else◌}
use Rattle.ft_core.specs.declared.tables.Table.{Table}
use Rattle.ft_core.specs.declared.tables.Var.{Var}
use Rattle.ft_core.specs.declared.tables.VarKind.TheVariants.{Mon, Con, Input, Output}
use Rattle.ft_core.specs.declared.tables.Memory.{Memory}
use Rattle.ft_core.specs.declared.tables.Memory.TheVariants.{Held}
use Rattle.ft_core.specs.declared.tables.Side.TheVariants as side
use Rattle.ft_core.specs.declared.tables.Section.TheVariants as section
use Rattle.ft_core.specs.declared.tables.Section.{Section}
use Rattle.ft_core.specs.declared.tables.Grid.TheVariants.{Normal}
use Rattle.ft_core.specs.declared.term.Rel.TheVariants.{Eq}
use Rattle.ft_core.specs.declared.term.Term.{Term}
use Rattle.ft_core.specs.declared.term.Term.TheVariants.{Num, Now}
use Rattle.ft_core.specs.declared.term.Cond.{Cond}
use Rattle.ft_core.specs.declared.term.Cond.TheVariants.{Yes, Compare, Memory as Recalled, Not}
use Rattle.ft_mean.specs.meaning.Reading.{Scans}
use Rattle.ft_worked.specs.Made.{Parts, variable, scans}

-- switch, relay, input, output
abbrev pub vars : List Var
vars =
    variable 120 Mon 0 (pos 1) (pos 0) ∷ variable 99 Con 0 (pos 1) (pos 0) ∷ variable 105 Input 0 (pos 1) (pos 0)
    ∷ variable 111 Output 0 (pos 1) (pos 0) ∷ []

-- a variable is 1
abbrev pub is_on : (variable : ℕ) → Cond
is_on variable = Compare Eq (Now variable) (Num (pos 1))

abbrev pub memories : (hold : ℤ) → List Memory
memories hold = Held (114 ∷ []) side.Req (is_on 0) (pos 100) ∷ Held (115 ∷ []) side.Sof (is_on 2) hold ∷ []

-- the hold of the design's timer, where it is late and where it isn't
abbrev pub hold_of : (late : Bool) → ℤ
hold_of late = if late then pos 150 else pos 100

-- a table that gives one term
abbrev pub always_gives : Section → (target : ℕ) → Term → Table
always_gives section target term = record { section = section; grid = Normal target (Yes ∷ []) (Yes ∷ []) ((term ∷ []) ∷ []) }

-- a table that gives 1 where a memory is true, and else 0
abbrev pub tells : Section → (target memory : ℕ) → Table
tells section target memory = record {
  section = section;
  grid = Normal target (Yes ∷ []) (Recalled memory ∷ Not (Recalled memory) ∷ []) ((Num (pos 1) ∷ []) ∷ (Num (pos 0) ∷ []) ∷ []);
}

abbrev pub tables : List Table
tables = always_gives section.In 2 (Now 0) ∷ tells section.Req 1 0 ∷ tells section.Sof 3 1 ∷ always_gives section.Out 1 (Now 3) ∷ []

abbrev pub relay : (hold : ℤ) → Parts
relay hold = record { period = pos 50; vars = vars; memories = memories hold; tables = tables; first = []; always = []; step = [] }

-- on at three scans
abbrev pub on_thrice : Scans
on_thrice = scans ((1 ∷ []) ∷ (1 ∷ []) ∷ (1 ∷ []) ∷ [])
