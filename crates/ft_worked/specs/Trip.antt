-- A worked set. A valve opens once the pressure has been high for 200 ms: by a band and a timer, and in the design by a count of scans.
-- A scan each 50 ms:
--
--   pressure             2000  1604  1999  2000  1604  1603
--   high, from 2000      x     x     x     x     x     -       until 1603
--   trip, high 200 ms    -     -     -     -     x     -
--   valve                0     0     0     0     1     0       1 where trip
--
--   adc                  500   401   400   499    a quarter of the pressure
--   above                1     1     0     0      from 500 until 400, else as before
--   count                1     2     0     0      how many scans it has been above, up to 5
--   coil                 0     0     0     0      1 where the count is 5
--
-- The count at which the coil is on is open: with 5 the design opens the valve at the scan of the requirement, and with 4 it is one scan
-- early:
--
--   pressure             2000  2000  2000  2000  2000
--   required             0     0     0     0     1
--   with 4               0     0     0     1     1
use Rattle.std.specs.Prelude.{ℕ, pos, false, List, [], ◌∷◌}
use Rattle.ft_core.specs.declared.tables.Table.{Table}
use Rattle.ft_core.specs.declared.tables.Var.{Var}
use Rattle.ft_core.specs.declared.tables.VarKind.TheVariants.{Mon, Con, Input, Output, SofInner}
use Rattle.ft_core.specs.declared.tables.Memory.{Memory}
use Rattle.ft_core.specs.declared.tables.Memory.TheVariants.{Held, Hyst}
use Rattle.ft_core.specs.declared.tables.Side.TheVariants as side
use Rattle.ft_core.specs.declared.tables.Section.TheVariants as section
use Rattle.ft_core.specs.declared.tables.Grid.TheVariants.{Normal}
use Rattle.ft_core.specs.declared.term.Rel.TheVariants.{Eq, Lt, Le, Gt, Ge}
use Rattle.ft_core.specs.declared.term.Term.TheVariants.{Num, Now, Prev, Add, Div}
use Rattle.ft_core.specs.declared.term.Cond.TheVariants.{Yes, Compare, Memory as Recalled, Not, And}
use Rattle.ft_core.specs.declared.term.Cond.{Cond}
use Rattle.ft_mean.specs.meaning.Reading.{Scans}
use Rattle.ft_worked.specs.Made.{Parts, variable, scans}

-- pressure, valve, adc, coil, above, count
abbrev pub vars : (full : ℕ) → List Var
vars full =
    variable 112 Mon 0 (pos 4000) (pos 0) ∷ variable 118 Con 0 (pos 1) (pos 0) ∷ variable 97 Input 0 (pos 1000) (pos 0)
    ∷ variable 99 Output 0 (pos 1) (pos 0) ∷ variable 98 SofInner 0 (pos 1) (pos 0) ∷ variable 110 SofInner 1 (pos full) (pos 0) ∷ []

-- high, trip
abbrev pub memories : List Memory
memories = Hyst (104 ∷ []) side.Req (Now 0) (pos 1603) (pos 2000) false ∷ Held (116 ∷ []) side.Req (Recalled 0) (pos 200) ∷ []

abbrev pub adc : Table
adc = record { section = section.In; grid = Normal 2 (Yes ∷ []) (Yes ∷ []) ((Div (Now 0) (pos 4) ∷ []) ∷ []) }

abbrev pub valve : Table
valve = record {
  section = section.Req;
  grid = Normal 1 (Yes ∷ []) (Recalled 1 ∷ Not (Recalled 1) ∷ []) ((Num (pos 1) ∷ []) ∷ (Num (pos 0) ∷ []) ∷ []);
}

abbrev pub above : Table
above = record {
  section = section.Sof;
  grid = Normal 4 (Yes ∷ [])
      (Compare Ge (Now 2) (Num (pos 500)) ∷ Compare Le (Now 2) (Num (pos 400))
      ∷ And (Compare Gt (Now 2) (Num (pos 400))) (Compare Lt (Now 2) (Num (pos 500))) ∷ [])
      ((Num (pos 1) ∷ []) ∷ (Num (pos 0) ∷ []) ∷ (Prev 4 ∷ []) ∷ []);
}

abbrev pub is_above : Cond
is_above = Compare Eq (Now 4) (Num (pos 1))

abbrev pub count : (full : ℕ) → Table
count full = record {
  section = section.Sof;
  grid = Normal 5 (Yes ∷ [])
      (Not is_above ∷ And is_above (Compare Lt (Prev 5) (Num (pos full))) ∷ And is_above (Compare Eq (Prev 5) (Num (pos full))) ∷ [])
      ((Num (pos 0) ∷ []) ∷ (Add (Prev 5) (Num (pos 1)) ∷ []) ∷ (Num (pos full) ∷ []) ∷ []);
}

abbrev pub coil : (full : ℕ) → Table
coil full = record {
  section = section.Sof;
  grid = Normal 3 (Yes ∷ []) (Compare Eq (Now 5) (Num (pos full)) ∷ Compare Lt (Now 5) (Num (pos full)) ∷ [])
      ((Num (pos 1) ∷ []) ∷ (Num (pos 0) ∷ []) ∷ []);
}

abbrev pub is_on : Cond
is_on = Compare Eq (Now 3) (Num (pos 1))

abbrev pub valve_by_coil : Table
valve_by_coil = record {
  section = section.Out;
  grid = Normal 1 (Yes ∷ []) (is_on ∷ Not is_on ∷ []) ((Num (pos 1) ∷ []) ∷ (Num (pos 0) ∷ []) ∷ []);
}

abbrev pub tables : (full : ℕ) → List Table
tables full = adc ∷ valve ∷ above ∷ count full ∷ coil full ∷ valve_by_coil ∷ []

abbrev pub trip : (full : ℕ) → Parts
trip full = record {
  period = pos 50;
  vars = vars full;
  memories = memories;
  tables = tables full;
  first = [];
  always = [];
  step = [];
}

abbrev pub pressures : Scans
pressures = scans ((2000 ∷ []) ∷ (1604 ∷ []) ∷ (1999 ∷ []) ∷ (2000 ∷ []) ∷ (1604 ∷ []) ∷ (1603 ∷ []) ∷ [])

-- pressure, valve
abbrev pub opened : Scans
opened = scans ((2000 ∷ 0 ∷ []) ∷ (1604 ∷ 0 ∷ []) ∷ (1999 ∷ 0 ∷ []) ∷ (2000 ∷ 0 ∷ []) ∷ (1604 ∷ 1 ∷ []) ∷ (1603 ∷ 0 ∷ []) ∷ [])

-- a scan early
abbrev pub opened_early : Scans
opened_early = scans ((2000 ∷ 0 ∷ []) ∷ (1604 ∷ 0 ∷ []) ∷ (1999 ∷ 0 ∷ []) ∷ (2000 ∷ 1 ∷ []) ∷ (1604 ∷ 1 ∷ []) ∷ (1603 ∷ 0 ∷ []) ∷ [])

abbrev pub readings : Scans
readings = scans ((500 ∷ []) ∷ (401 ∷ []) ∷ (400 ∷ []) ∷ (499 ∷ []) ∷ [])

-- adc, coil, above, count
abbrev pub counted : Scans
counted = scans ((500 ∷ 0 ∷ 1 ∷ 1 ∷ []) ∷ (401 ∷ 0 ∷ 1 ∷ 2 ∷ []) ∷ (400 ∷ 0 ∷ 0 ∷ 0 ∷ []) ∷ (499 ∷ 0 ∷ 0 ∷ 0 ∷ []) ∷ [])

-- above again at 499
abbrev pub counted_again : Scans
counted_again = scans ((500 ∷ 0 ∷ 1 ∷ 1 ∷ []) ∷ (401 ∷ 0 ∷ 1 ∷ 2 ∷ []) ∷ (400 ∷ 0 ∷ 0 ∷ 0 ∷ []) ∷ (499 ∷ 0 ∷ 1 ∷ 1 ∷ []) ∷ [])
