-- The line of a fault of a set, and of a trace.
use Rattle.std.specs.Prelude.{ℕ, List, [], ◌∷◌, ◌++◌, codes}
use Rattle.std.specs.List.{flat_map}
use Rattle.std.specs.Fmt.{decimal}
use Rattle.ft_base.specs.declared.place.Place.{Place}
use Rattle.ft_core.specs.declared.tables.VarKind.{VarKind}
use Rattle.ft_core.specs.declared.tables.VarKind.TheVariants as kind
use Rattle.ft_read.specs.declared.stop.LimitWord.{LimitWord}
use Rattle.ft_read.specs.declared.stop.LimitWord.TheVariants as limit
use Rattle.ft_measure.specs.declared.slope.Why.{Why}
use Rattle.ft_measure.specs.declared.slope.Why.TheVariants as why
use Rattle.ft_admit.specs.declared.set_fault.SetFault.{SetFault}
use Rattle.ft_admit.specs.declared.set_fault.SetFault.TheVariants as fault
use Rattle.ft_trace.specs.declared.fault.TraceFault.{TraceFault}
use Rattle.ft_trace.specs.declared.fault.TraceFault.TheVariants as trace
use Rattle.ft_report.specs.meaning.Words.{at_scan, named, section_word}

-- LINE:COLUMN
abbrev pub place_text : Place → List ℕ
place_text place = decimal place.line ++ codes ":" ++ decimal place.column

abbrev pub limit_word : LimitWord → List ℕ
limit_word limit.Name = codes "name"
limit_word limit.Number = codes "number"
limit_word limit.Constants = codes "constants"
limit_word limit.Types = codes "types"
limit_word limit.Members = codes "members"
limit_word limit.Variables = codes "variables"
limit_word limit.Memories = codes "memories"
limit_word limit.Nat = codes "nat"
limit_word limit.Tables = codes "tables"
limit_word limit.Rows = codes "rows"
limit_word limit.Columns = codes "columns"
limit_word limit.Blocks = codes "blocks"
limit_word limit.Facts = codes "facts"
limit_word limit.List = codes "list"
limit_word limit.Expression = codes "expression"
limit_word limit.Nesting = codes "nesting"

abbrev pub kind_word : VarKind → List ℕ
kind_word kind.Mon = codes "mon"
kind_word kind.Con = codes "con"
kind_word kind.Input = codes "input"
kind_word kind.Output = codes "output"
kind_word kind.ReqInner = codes "req var"
kind_word kind.SofInner = codes "sof var"

abbrev pub why_word : Why → List ℕ
why_word why.Product = codes "product"
why_word why.Factor = codes "factor"
why_word why.Divisor = codes "divisor"
why_word why.Size = codes "size"

-- names with a comma and a blank between them
abbrev pub listed : List (List ℕ) → List ℕ
listed [] = []
listed (name ∷ names) = name ++ flat_map (λ other. codes ", " ++ other) names

-- words with a place after them
abbrev pub at_place : (words : List ℕ) → Place → List ℕ
at_place words place = words ++ codes " at " ++ place_text place

-- without the end of the line
abbrev pub fault_text : SetFault → List ℕ
fault_text (fault.Syntax place) = at_place (codes "Syntax") place
fault_text (fault.Limit which place) = at_place (named (codes "Limit") (limit_word which)) place
fault_text (fault.NoVariable k) = named (codes "NoVariable") (kind_word k)
fault_text (fault.DuplicateName name place) = at_place (named (codes "DuplicateName") name) place
fault_text (fault.UnknownName name place) = at_place (named (codes "UnknownName") name) place
fault_text (fault.WrongSide name place) = at_place (named (codes "WrongSide") name) place
fault_text (fault.TypeMismatch place) = at_place (codes "TypeMismatch") place
fault_text (fault.NotLinear w place) = at_place (named (codes "NotLinear") (why_word w)) place
fault_text (fault.BadRange place) = at_place (codes "BadRange") place
fault_text (fault.BadHold place) = at_place (codes "BadHold") place
fault_text (fault.BadBand place) = at_place (codes "BadBand") place
fault_text (fault.Shape title place) = at_place (named (codes "Shape") title) place
fault_text (fault.NoTable s name) = named (named (codes "NoTable") (section_word s)) name
fault_text (fault.TwoTables s name place) = at_place (named (named (codes "TwoTables") (section_word s)) name) place
fault_text (fault.Cycle names) = named (codes "Cycle") (listed names)
fault_text (fault.UnknownInvariant name place) = at_place (named (codes "UnknownInvariant") name) place
fault_text (fault.BlockCycle names) = named (codes "BlockCycle") (listed names)
fault_text (fault.GoalMissing name) = named (codes "GoalMissing") name
fault_text (fault.ShownTwice name) = named (codes "ShownTwice") name
fault_text fault.NoMemory = codes "no memory"

-- a fault in a column of a scan
abbrev pub at_column : (words : List ℕ) → (scan column : ℕ) → List ℕ
at_column words scan column = at_scan words scan ++ codes " column " ++ decimal column

abbrev pub trace_fault_text : TraceFault → List ℕ
trace_fault_text trace.Head = codes "Head"
trace_fault_text trace.Empty = codes "Empty"
trace_fault_text trace.ManyScans = codes "ManyScans"
trace_fault_text (trace.Width scan) = at_scan (codes "Width") scan
trace_fault_text (trace.Value scan column) = at_column (codes "Value") scan column
trace_fault_text (trace.OutOfRange scan column) = at_column (codes "OutOfRange") scan column
trace_fault_text trace.NoMemory = codes "no memory"
