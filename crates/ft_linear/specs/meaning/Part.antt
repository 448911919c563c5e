-- The values, the forced literals, the truth and the points of a part.
use Rattle.std.specs.Prelude.{◌≡◌, ℕ, ℤ, pos, ◌+ℤ◌, int_lt, int_le, Bool, true, false, ◌&&◌, ◌||◌, List, Option, Some, None, slice_get}
use Rattle.std.specs.Prelude.{unwrap_or, length, if◌then◌else◌}
use Rattle.std.specs.List.{list_any, list_all, range_with_len}
use Rattle.ft_base.specs.declared.three.Three.{Three}
use Rattle.ft_base.specs.declared.three.Three.TheVariants.{No, Maybe, Yes}
use Rattle.ft_linear.specs.meaning.Form.{LinView, InArea, most, least}
use Rattle.ft_linear.specs.meaning.Formula.{FormulaView, atom_at}
use Rattle.ft_linear.specs.meaning.Forced.{value_of, forces, same_bool}
use Rattle.ft_base.specs.Three.{is_no, is_yes}

-- an area with a decision for some atoms
pub record PartView : Type 0 where
  pub spans : List (ℤ × ℤ)
  pub decided : List (Option Bool)

abbrev pub decision : PartView → ℕ → Option Bool
decision p a = unwrap_or (slice_get p.decided a) None

-- a point of the area at which each decided atom has its decision
abbrev pub PointOf : FormulaView → PartView → (ℕ → ℤ) → Type 0
PointOf f p x = InArea p.spans x × ((a : ℕ) (b : Bool) → decision p a ≡ Some b → atom_at f.atoms x a ≡ b)

-- a form is fixed where the sum of its bounds leaves it no positive value, or only positive ones
abbrev pub fixed_form : List (ℤ × ℤ) → Option LinView → Three
fixed_form spans None = Maybe
fixed_form spans (Some l) =
    if int_le (most spans l.factors +ℤ l.constant) (pos 0) then Yes
    else if int_lt (pos 0) (least spans l.factors +ℤ l.constant) then No
    else Maybe

abbrev pub fixed : FormulaView → PartView → ℕ → Three
fixed f p a = fixed_form p.spans (slice_get f.atoms a)

abbrev pub value_by : Option Bool → Three → Three
value_by None value = value
value_by (Some true) value = Yes
value_by (Some false) value = No

-- an atom's value is its decision, else what it is fixed to
abbrev pub atom_value : FormulaView → PartView → ℕ → Three
atom_value f p a = value_by (decision p a) (fixed f p a)

abbrev pub is_decision : Option Bool → Bool → Bool
is_decision None s = false
is_decision (Some b) s = same_bool b s

-- decided literals are forced, and those that the tree forces where its root is true
abbrev pub forced : FormulaView → PartView → ℕ → Bool → Bool
forced f p a s = is_decision (decision p a) s || forces (atom_value f p) f.root true a s

-- a decision and what the atom is fixed to
abbrev pub against : Option Bool → Three → Bool
against None value = false
against (Some true) value = is_no value
against (Some false) value = is_yes value

abbrev pub agrees : Option Bool → Three → Bool
agrees None value = true
agrees (Some true) value = is_yes value
agrees (Some false) value = is_no value

abbrev pub is_against : FormulaView → PartView → ℕ → Bool
is_against f p a = against (decision p a) (fixed f p a)

abbrev pub is_agreed : FormulaView → PartView → ℕ → Bool
is_agreed f p a = agrees (decision p a) (fixed f p a)

abbrev pub is_forced_both : FormulaView → PartView → ℕ → Bool
is_forced_both f p a = forced f p a true && forced f p a false

abbrev pub atoms_of : FormulaView → List ℕ
atoms_of f = range_with_len 0 (length f.atoms)

-- No where the root's value is No, a decided atom is fixed the other way, or an atom is forced both ways;
-- Yes where the root's value is Yes and each decided atom is fixed as decided
abbrev pub truth_of : FormulaView → PartView → Three
truth_of f p =
    if is_no (value_of (atom_value f p) f.root) || list_any (is_against f p) (atoms_of f)
    || list_any (is_forced_both f p) (atoms_of f) then No
    else if is_yes (value_of (atom_value f p) f.root) && list_all (is_agreed f p) (atoms_of f) then Yes
    else Maybe
