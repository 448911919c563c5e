-- A worked set. Two components run into a tank by a valve and a pump. The pump rests while the level has been high for 100 ms, and
-- else runs by the level one scan before. A scan each 50 ms, over six scans:
--
--   level                    5  9  8  4  3  6
--   high, from 7 until 3     -  x  x  x  -  -
--   full, high for 100 ms    -  -  -  x  -  -
--   valve                    0  0  0  1  0  0    1 where full
--   pump                     1  1  3  0  1  1    0 where full, else a third of the level one scan before: of 3, 5, 9, 8, 4, 3
--
--   probe                    5  9  8  8  6  6    the level, below 5 twice the level
--   settled, >= 6 for 50 ms  -  -  x  x  x  x
--   trend                    2  2  0  1  0  1    settled: 0 where it falls, else 1
--                                                else: 0, 1 or 2 where it falls, stays or rises, at first from 3
--   drive                    3  3  2  1  2  1    settled: the trend from 1 on, else 2
--                                                else: as before, at first 3, and 0 where it falls
--   gate                     0  0  0  1  0  1    1 where the drive is at most 1
--
-- NAT begins at level 5 and lets the level rise by 4 at most. OUT takes the gate to the valve and the drive to the pump. The design is
-- not the requirement's: they differ at scan 0 already.
use Rattle.std.specs.Prelude.{pos, false, List, [], ◌∷◌}
use Rattle.ft_core.specs.declared.tables.Table.{Table}
use Rattle.ft_core.specs.declared.tables.Var.{Var}
use Rattle.ft_core.specs.declared.tables.VarKind.TheVariants.{Mon, Con, Input, Output, SofInner}
use Rattle.ft_core.specs.declared.tables.Block.{Block}
use Rattle.ft_core.specs.declared.tables.Fact.TheVariants.{Goal}
use Rattle.ft_core.specs.declared.tables.Take.TheVariants as take
use Rattle.ft_core.specs.declared.tables.Memory.{Memory}
use Rattle.ft_core.specs.declared.tables.Memory.TheVariants.{Held, Hyst}
use Rattle.ft_core.specs.declared.tables.Side.TheVariants as side
use Rattle.ft_core.specs.declared.tables.Section.TheVariants as section
use Rattle.ft_core.specs.declared.tables.Grid.TheVariants.{Normal, Inverted, Vector}
use Rattle.ft_core.specs.declared.term.Rel.{Rel}
use Rattle.ft_core.specs.declared.term.Rel.TheVariants.{Eq, Lt, Le, Gt, Ge}
use Rattle.ft_core.specs.declared.term.Term.TheVariants.{Num, Now, Prev, Add, Times, Div}
use Rattle.ft_core.specs.declared.term.Cond.{Cond}
use Rattle.ft_core.specs.declared.term.Cond.TheVariants.{Yes, No, Compare, Memory as Recalled, Not}
use Rattle.ft_mean.specs.meaning.Reading.{Scans}
use Rattle.ft_worked.specs.Made.{Parts, variable, scans}

-- level, valve, pump, probe, drive, gate, trend
abbrev pub vars : List Var
vars =
    variable 108 Mon 0 (pos 9) (pos 3) ∷ variable 118 Con 0 (pos 1) (pos 0) ∷ variable 112 Con 1 (pos 3) (pos 0)
    ∷ variable 105 Input 0 (pos 9) (pos 3) ∷ variable 100 Output 0 (pos 3) (pos 3) ∷ variable 103 Output 1 (pos 1) (pos 0)
    ∷ variable 116 SofInner 0 (pos 2) (pos 0) ∷ []

-- high, full, settled
abbrev pub high : Memory
high = Hyst (104 ∷ []) side.Req (Now 0) (pos 3) (pos 7) false

abbrev pub full : Memory
full = Held (102 ∷ []) side.Req (Recalled 0) (pos 100)

abbrev pub settled : Memory
settled = Held (115 ∷ []) side.Sof (Compare Ge (Now 3) (Num (pos 6))) (pos 50)

abbrev pub memories : List Memory
memories = high ∷ full ∷ settled ∷ []

-- IN: two columns
abbrev pub probe : Table
probe = record {
  section = section.In;
  grid = Normal 3 (Compare Ge (Now 0) (Num (pos 5)) ∷ Compare Lt (Now 0) (Num (pos 5)) ∷ []) (Yes ∷ [])
      ((Now 0 ∷ Times (pos 2) (Now 0) ∷ []) ∷ []);
}

-- REQ: a vector table of two variables and two columns
abbrev pub valve_and_pump : Table
valve_and_pump = record {
  section = section.Req;
  grid = Vector (Recalled 1 ∷ Not (Recalled 1) ∷ []) (1 ∷ 2 ∷ [])
      ((Num (pos 1) ∷ Num (pos 0) ∷ []) ∷ (Num (pos 0) ∷ Div (Prev 0) (pos 3) ∷ []) ∷ []);
}

-- the probe against its value one scan before
abbrev pub against : Rel → Cond
against relation = Compare relation (Now 3) (Prev 3)

-- SOF: an inverted table
abbrev pub trend : Table
trend = record {
  section = section.Sof;
  grid = Inverted 6 (Num (pos 0) ∷ Num (pos 1) ∷ Num (pos 2) ∷ []) (Recalled 2 ∷ Not (Recalled 2) ∷ [])
      ((against Lt ∷ against Ge ∷ No ∷ []) ∷ (against Lt ∷ against Eq ∷ against Gt ∷ []) ∷ []);
}

-- SOF: two rows and two columns
abbrev pub drive : Table
drive = record {
  section = section.Sof;
  grid = Normal 4 (Compare Ge (Now 6) (Num (pos 1)) ∷ Compare Lt (Now 6) (Num (pos 1)) ∷ []) (Recalled 2 ∷ Not (Recalled 2) ∷ [])
      ((Now 6 ∷ Num (pos 2) ∷ []) ∷ (Prev 4 ∷ Num (pos 0) ∷ []) ∷ []);
}

abbrev pub gate : Table
gate = record {
  section = section.Sof;
  grid = Normal 5 (Yes ∷ []) (Compare Le (Now 4) (Num (pos 1)) ∷ Compare Gt (Now 4) (Num (pos 1)) ∷ [])
      ((Num (pos 1) ∷ []) ∷ (Num (pos 0) ∷ []) ∷ []);
}

-- OUT: a vector table of one column
abbrev pub by_design : Table
by_design = record { section = section.Out; grid = Vector (Yes ∷ []) (1 ∷ 2 ∷ []) ((Now 5 ∷ []) ∷ (Now 4 ∷ []) ∷ []) }

abbrev pub mixer : Parts
mixer = record {
  period = pos 50;
  vars = vars;
  memories = memories;
  tables = probe ∷ valve_and_pump ∷ trend ∷ drive ∷ gate ∷ by_design ∷ [];
  first = Compare Eq (Now 0) (Num (pos 5)) ∷ [];
  always = Compare Le (Now 0) (Num (pos 9)) ∷ [];
  step = Compare Le (Now 0) (Add (Prev 0) (Num (pos 4))) ∷ [];
}

-- two of its cells hold where the level is 5
abbrev pub overlapping : Table
overlapping = record {
  section = section.In;
  grid = Normal 3 (Compare Ge (Now 0) (Num (pos 5)) ∷ Compare Le (Now 0) (Num (pos 5)) ∷ []) (Yes ∷ [])
      ((Now 0 ∷ Times (pos 2) (Now 0) ∷ []) ∷ []);
}

abbrev pub levels : Scans
levels = scans ((5 ∷ []) ∷ (9 ∷ []) ∷ (8 ∷ []) ∷ (4 ∷ []) ∷ (3 ∷ []) ∷ (6 ∷ []) ∷ [])

-- level, valve, pump
abbrev pub required : Scans
required = scans ((5 ∷ 0 ∷ 1 ∷ []) ∷ (9 ∷ 0 ∷ 1 ∷ []) ∷ (8 ∷ 0 ∷ 3 ∷ []) ∷ (4 ∷ 1 ∷ 0 ∷ []) ∷ (3 ∷ 0 ∷ 1 ∷ []) ∷ (6 ∷ 0 ∷ 1 ∷ []) ∷ [])

abbrev pub probed : Scans
probed = scans ((5 ∷ []) ∷ (9 ∷ []) ∷ (8 ∷ []) ∷ (8 ∷ []) ∷ (6 ∷ []) ∷ (6 ∷ []) ∷ [])

-- probe, drive, gate, trend
abbrev pub designed : Scans
designed = scans ((5 ∷ 3 ∷ 0 ∷ 2 ∷ []) ∷ (9 ∷ 3 ∷ 0 ∷ 2 ∷ []) ∷ (8 ∷ 2 ∷ 0 ∷ 0 ∷ []) ∷ (8 ∷ 1 ∷ 1 ∷ 1 ∷ []) ∷ (6 ∷ 2 ∷ 0 ∷ 0 ∷ [])
    ∷ (6 ∷ 1 ∷ 1 ∷ 1 ∷ []) ∷ [])

-- valve, pump
abbrev pub put_out : Scans
put_out = scans ((0 ∷ 3 ∷ []) ∷ (0 ∷ 3 ∷ []) ∷ (0 ∷ 2 ∷ []) ∷ (1 ∷ 1 ∷ []) ∷ (0 ∷ 2 ∷ []) ∷ (1 ∷ 1 ∷ []) ∷ [])

-- two blocks: the valve by the gate, and the pump by the drive
abbrev pub blocks : List Block
blocks =
    record { name = 97 ∷ []; takes = take.Variable 1 ∷ take.Variable 5 ∷ take.Memory 1 ∷ []; uses = []; facts = Goal 1 ∷ [] }
    ∷ record { name = 98 ∷ []; takes = take.Variable 2 ∷ take.Variable 4 ∷ take.Memory 2 ∷ []; uses = []; facts = Goal 2 ∷ [] } ∷ []
