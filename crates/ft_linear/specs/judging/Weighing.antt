-- The weighing of the atoms of a part, before the passes over the tree.
use Rattle.std.specs.Prelude.{◌≡◌, ℕ, Bool, true, false, Option, length}
use Rattle.ft_linear.specs.declared.forcing.Signs.{Signs}
use Rattle.ft_linear.specs.meaning.Formula.{FormulaView, IsOver}
use Rattle.ft_linear.specs.meaning.Part.{PartView, decision, is_decision}

-- what the weighing of the atoms asks
pub record CanWeigh (f : FormulaView) (p : PartView) (values signs : ℕ) : Type 0 where
  pub over : IsOver (length p.spans) f
  pub decided : length p.decided ≡ length f.atoms
  pub values_all : values ≡ length f.atoms
  pub signs_all : signs ≡ length f.atoms

abbrev pub decided_signs : Option Bool → Signs
decided_signs decision = record { yes = is_decision decision true; no = is_decision decision false }

abbrev pub decided_at : PartView → ℕ → Signs
decided_at p a = decided_signs (decision p a)
