-- Which variables belong to a side, a section or a list of values, and a variable's place among them.
-- Source: the four-variable model of Parnas and Madey.
use Rattle.std.specs.Prelude.{ℕ, zero, suc, Bool, true, false, ◌||◌, List, [], ◌∷◌, take, slice_get, None, Some, if◌then◌else◌}
use Rattle.ft_core.specs.declared.tables.Var.{Var}
use Rattle.ft_core.specs.declared.tables.VarKind.{VarKind}
use Rattle.ft_core.specs.declared.tables.VarKind.TheVariants as kind
use Rattle.ft_core.specs.declared.tables.Side.{Side}
use Rattle.ft_core.specs.declared.tables.Side.TheVariants as side
use Rattle.ft_core.specs.declared.tables.Section.{Section}
use Rattle.ft_core.specs.declared.tables.Section.TheVariants as section

-- a class of variables, told by a variable's place in the set and its declaration
abbrev pub Kinds : Type 0
Kinds = ℕ → Var → Bool

-- whether two kinds are one
abbrev pub same_kind : VarKind → VarKind → Bool
same_kind kind.Mon kind.Mon = true
same_kind kind.Con kind.Con = true
same_kind kind.Input kind.Input = true
same_kind kind.Output kind.Output = true
same_kind kind.ReqInner kind.ReqInner = true
same_kind kind.SofInner kind.SofInner = true
same_kind _ _ = false

-- the variables of this kind alone
abbrev pub of_kind : VarKind → Kinds
of_kind k x v = same_kind k v.kind

abbrev pub monitored : Kinds
monitored = of_kind kind.Mon

abbrev pub controlled : Kinds
controlled = of_kind kind.Con

abbrev pub inputs : Kinds
inputs = of_kind kind.Input

abbrev pub outputs : Kinds
outputs = of_kind kind.Output

-- what the requirement tables define
abbrev pub requirement : Kinds
requirement x v = controlled x v || of_kind kind.ReqInner x v

-- what the design tables define
abbrev pub design : Kinds
design x v = outputs x v || of_kind kind.SofInner x v

-- what a side is given at each scan
abbrev pub given_kinds : Side → Kinds
given_kinds side.Req = monitored
given_kinds side.Sof = inputs

-- what the tables of a section define
abbrev pub defined_kinds : Section → Kinds
defined_kinds section.In = inputs
defined_kinds section.Req = requirement
defined_kinds section.Sof = design
defined_kinds section.Out = controlled

-- what an image by the tables of a section has: IN makes what the design is given
abbrev pub image_kinds : Section → Kinds
image_kinds section.In = given_kinds side.Sof
image_kinds section.Req = requirement
image_kinds section.Sof = design
image_kinds section.Out = controlled

-- the sections whose tables make an image of a list
abbrev pub makes_image : Section → Bool
makes_image section.In = true
makes_image section.Out = true
makes_image _ = false

abbrev pub section_of : Side → Section
section_of side.Req = section.Req
section_of side.Sof = section.Sof

-- what a trace of a side has: what it is given, and what its tables define
abbrev pub side_kinds : Side → Kinds
side_kinds s x v = given_kinds s x v || defined_kinds (section_of s) x v

-- the class among the variables after the first, whose places count from there
abbrev pub after_first : Kinds → Kinds
after_first kinds x v = kinds (suc x) v

-- how many variables are of these kinds
abbrev pub count_of : Kinds → List Var → ℕ
count_of kinds [] = zero
count_of kinds (v ∷ vars) = if kinds zero v then suc (count_of (after_first kinds) vars) else count_of (after_first kinds) vars

-- a variable's place among those of these kinds: how many of them are declared before it
abbrev pub place_of : Kinds → List Var → ℕ → ℕ
place_of kinds vars x = count_of kinds (take x vars)

-- the variable at this place of the set is there, and of these kinds
abbrev pub is_of : List Var → Kinds → ℕ → Bool
is_of vars kinds x = elim (slice_get vars x) [ None ↦ false | Some v ↦ kinds x v ]
