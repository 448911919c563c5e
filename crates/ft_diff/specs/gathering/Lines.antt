-- The difference lines of a part as a list.
use Rattle.std.specs.Prelude.{ℕ, zero, suc, ℤ, neg_ℤ, Bool, true, false, List, [], ◌∷◌, ◌++◌, Option, Some, None, slice_get, if◌then◌else◌}
use Rattle.ft_diff.specs.declared.diff.Diff.{Diff}
use Rattle.ft_linear.specs.meaning.Form.{Factor, LinView}
use Rattle.ft_linear.specs.meaning.Formula.{FormulaView}
use Rattle.ft_linear.specs.meaning.Part.{PartView, forced}
use Rattle.ft_linear.specs.meaning.Rules.{literal_form}
use Rattle.ft_linear.specs.meaning.Difference.{is_one, is_minus_one}

abbrev pub diff : Option ℕ → Option ℕ → ℤ → Diff
diff x y c = record { x = x; y = y; c = c }

-- the line `factors + constant <= 0` as a difference
abbrev pub diff_from : List Factor → ℤ → Option Diff
diff_from [] c = None
diff_from (f ∷ []) c =
    if is_one f.1 then Some (diff (Some f.0) None (neg_ℤ c)) else if is_minus_one f.1 then Some (diff None (Some f.0) (neg_ℤ c)) else None
diff_from (f ∷ g ∷ []) c =
    if is_one f.1 then (if is_minus_one g.1 then Some (diff (Some f.0) (Some g.0) (neg_ℤ c)) else None)
    else if is_minus_one f.1 then (if is_one g.1 then Some (diff (Some g.0) (Some f.0) (neg_ℤ c)) else None)
    else None
diff_from (f ∷ g ∷ h ∷ fs) c = None

-- the difference that a literal of an atom with this form is
abbrev pub form_diff : Bool → Option LinView → Option Diff
form_diff s None = None
form_diff s (Some l) = diff_from (literal_form s l).factors (literal_form s l).constant

abbrev pub line_if : Bool → Option Diff → List Diff
line_if false line = []
line_if true None = []
line_if true (Some d) = d ∷ []

-- the difference lines of an atom's forced literals
abbrev pub lines_at : FormulaView → PartView → ℕ → List Diff
lines_at f p a =
    line_if (forced f p a true) (form_diff true (slice_get f.atoms a))
    ++ line_if (forced f p a false) (form_diff false (slice_get f.atoms a))

-- and of the atoms below a number
abbrev pub lines_below : FormulaView → PartView → ℕ → List Diff
lines_below f p zero = []
lines_below f p (suc n) = lines_below f p n ++ lines_at f p n
