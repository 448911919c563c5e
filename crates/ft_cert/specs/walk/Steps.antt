-- Steps from a part to the parts that a node makes of it, and how they are taken back.
use Rattle.std.specs.Prelude.{◌≡◌, ◌<◌, ℕ, nat_lt, Bool, true, false, List, [], ◌∷◌, ◌++◌, Option, Some, None, length, reverse, slice_get}
use Rattle.std.specs.List.{list_all}
use Rattle.ft_linear.specs.meaning.Formula.{FormulaView}
use Rattle.ft_linear.specs.meaning.Part.{PartView}
use Rattle.ft_cert.specs.declared.node.CertNode.{CertNode}
use Rattle.ft_cert.specs.declared.descent.Undo.{Undo}
use Rattle.ft_cert.specs.declared.descent.Undo.TheVariants.{Narrowed, Half, Decided, Case}
use Rattle.ft_cert.specs.declared.step.Step.{Step}
use Rattle.ft_cert.specs.declared.step.Step.TheVariants as step
use Rattle.ft_cert.specs.meaning.Evidence.{NodeHolds}
use Rattle.ft_cert.specs.meaning.Parts.{cut_to, decided_to}
use Rattle.ft_cert.specs.walk.Waiting.{DescentView, children}

-- the parts that a step makes of a part
abbrev pub parts_by : PartView → Step → List PartView
parts_by p step.Close = []
parts_by p (step.Cut u low high) = cut_to p u low ∷ cut_to p u high ∷ []
parts_by p (step.Decide atom) = decided_to p atom (Some true) ∷ decided_to p atom (Some false) ∷ []
parts_by p (step.Tighten u span) = cut_to p u span ∷ []

-- the unknown of a step is there, and so is its atom, which is undecided
abbrev pub CanStep : PartView → Step → Type 0
CanStep p step.Close = Unit {0}
CanStep p (step.Cut u low high) = u < length p.spans
CanStep p (step.Decide atom) = slice_get p.decided atom ≡ Some None
CanStep p (step.Tighten u span) = u < length p.spans

-- how much room a step takes
abbrev pub room_by : Step → ℕ
room_by step.Close = 0
room_by (step.Cut u low high) = 1
room_by (step.Decide atom) = 1
room_by (step.Tighten u span) = 1

-- the node holds and the step makes its children's parts; where there is no step, it doesn't hold
abbrev pub IsStepOf : FormulaView → PartView → CertNode → Option Step → Type 0
IsStepOf f p n None = NodeHolds f p n → ⊥
IsStepOf f p n (Some step) = NodeHolds f p n × (children f p n ≡ parts_by p step) × CanStep p step

-- the part before a step
abbrev pub taken_back : PartView → Undo → PartView
taken_back p (Narrowed u span) = cut_to p u span
taken_back p (Half u whole second) = cut_to p u whole
taken_back p (Decided atom) = decided_to p atom None
taken_back p (Case atom) = decided_to p atom None

-- the other part of a split, where it still waits
abbrev pub second_of : PartView → Undo → List PartView
second_of p (Narrowed u span) = []
second_of p (Half u whole second) = cut_to p u second ∷ []
second_of p (Decided atom) = []
second_of p (Case atom) = decided_to p atom (Some false) ∷ []

-- the parts that wait behind a part, by its steps from the last to the first
abbrev pub waiting_of : PartView → List Undo → List PartView
waiting_of p [] = []
waiting_of p (e ∷ es) = second_of p e ++ waiting_of (taken_back p e) es

-- and by them from the first to the last, with one more behind these
abbrev pub waiting_behind : PartView → List Undo → List PartView
waiting_behind p items = waiting_of p (reverse items)

abbrev pub behind : PartView → List Undo → Undo → List PartView
behind p items last = waiting_of p (last ∷ reverse items)

-- no part waits any more where the descent has ended
abbrev pub parts_from : Bool → PartView → List PartView → List PartView
parts_from true p waiting = []
parts_from false p waiting = p ∷ waiting

-- a step is of an unknown and an atom that are there
abbrev pub is_undo : ℕ → ℕ → Undo → Bool
is_undo unknowns atoms (Narrowed u span) = nat_lt u unknowns
is_undo unknowns atoms (Half u whole second) = nat_lt u unknowns
is_undo unknowns atoms (Decided atom) = nat_lt atom atoms
is_undo unknowns atoms (Case atom) = nat_lt atom atoms

abbrev pub are_undos : PartView → List Undo → Bool
are_undos p items = list_all (is_undo (length p.spans) (length p.decided)) items

-- a descent at a part, by whether it has ended, the steps that lead back, and the room for more
abbrev pub descent_view : Bool → PartView → List Undo → ℕ → DescentView
descent_view ended p items spare = record {
  parts = parts_from ended p (waiting_behind p items);
  unknowns = length p.spans;
  atoms = length p.decided;
  spare = spare;
}
