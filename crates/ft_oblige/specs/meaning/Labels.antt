-- What the names of two scans stand for, and how a report names them.
use Rattle.std.specs.Prelude.{ℕ, ◌-◌, ◌==◌, nat_lt, Bool, List, [], ◌∷◌, ◌++◌, codes, length, Option, Some, None, slice_get, if◌then◌else◌}
use Rattle.ft_core.specs.declared.label.Label.{Label}
use Rattle.ft_core.specs.declared.tables.Tables.{Tables}
use Rattle.ft_core.specs.declared.tables.Var.{Var}
use Rattle.ft_core.specs.declared.tables.Memory as tables
use Rattle.ft_core.specs.declared.tables.Memory.TheVariants.{Held, Hyst}
use Rattle.ft_claims.specs.meaning.Names.{width}
use Rattle.ft_oblige.specs.declared.labelling.Slot.{Slot}
use Rattle.ft_oblige.specs.declared.labelling.Slot.TheVariants.{Variable, Memory}

-- the variables of a scan come before its memories
abbrev pub slot_in : Tables → (scan rest : ℕ) → Slot
slot_in S scan rest = if nat_lt rest (length S.vars) then Variable rest scan else Memory (rest - length S.vars) scan

-- the names of this scan come before those of the scan before
abbrev pub slot_at : Tables → ℕ → Slot
slot_at S name = if nat_lt name (width S) then slot_in S 0 name else slot_in S 1 (name - width S)

abbrev pub bracketed : (word text : List ℕ) → List ℕ
bracketed word text = ((word ++ codes "(") ++ text) ++ codes ")"

-- what a text is called at this scan, and at the scan before
abbrev pub named : (text : List ℕ) → (scan : ℕ) → List ℕ
named text scan = if scan == 0 then text else bracketed (codes "prev") text

abbrev pub bit_members : List (List ℕ)
bit_members = codes "false" ∷ codes "true" ∷ []

abbrev pub value_label : Option Var → (scan : ℕ) → Label
value_label None scan = record { name = []; members = [] }
value_label (Some v) scan = record { name = named v.name scan; members = v.members }

-- a bit, or the age of a timer where memories aren't all bits
abbrev pub kept_label : (bits : Bool) → tables.Memory → (scan : ℕ) → Label
kept_label bits (Held name side cond hold) scan =
    if bits then record { name = named name scan; members = bit_members }
    else record { name = named (bracketed (codes "age") name) scan; members = [] }
kept_label bits (Hyst name side e lo hi start) scan = record { name = named name scan; members = bit_members }

abbrev pub memory_label : (bits : Bool) → Option tables.Memory → (scan : ℕ) → Label
memory_label bits None scan = record { name = []; members = [] }
memory_label bits (Some memory) scan = kept_label bits memory scan

abbrev pub label_of : Tables → (bits : Bool) → Slot → Label
label_of S bits (Variable place scan) = value_label (slice_get S.vars place) scan
label_of S bits (Memory place scan) = memory_label bits (slice_get S.memories place) scan
