-- The parts that a node makes of its own part.
use Rattle.std.specs.Prelude.{ℕ, ℤ, pos, map, ◌+ℤ◌, Bool, true, false, List, Option, Some, None, slice_set, unwrap_or}
use Rattle.ft_linear.specs.declared.lines.Line.{Line}
use Rattle.ft_linear.specs.meaning.Form.{span_at}
use Rattle.ft_linear.specs.meaning.Formula.{FormulaView}
use Rattle.ft_linear.specs.meaning.Part.{PartView}
use Rattle.ft_linear.specs.meaning.Rules.{narrowed, total_factor, total_constant}

-- the whole area, with no atom decided
abbrev pub whole_of : FormulaView → List (ℤ × ℤ) → PartView
whole_of f spans = record { spans = spans; decided = map (λ atom. None) f.atoms }

abbrev pub cut_to : PartView → ℕ → ℤ × ℤ → PartView
cut_to p u span = record { spans = slice_set p.spans u span; decided = p.decided }

abbrev pub decided_to : PartView → ℕ → Option Bool → PartView
decided_to p a value = record { spans = p.spans; decided = slice_set p.decided a value }

-- the unknown up to a value, and above it
abbrev pub low_part : PartView → ℕ → ℤ → PartView
low_part p u v = cut_to p u ((span_at p.spans u).0, v)

abbrev pub high_part : PartView → ℕ → ℤ → PartView
high_part p u v = cut_to p u (v +ℤ pos 1, (span_at p.spans u).1)

-- the atom true, and the atom false
abbrev pub true_part : PartView → ℕ → PartView
true_part p a = decided_to p a (Some true)

abbrev pub false_part : PartView → ℕ → PartView
false_part p a = decided_to p a (Some false)

-- the span that the sum of lines leaves an unknown, or its own where it leaves none that is smaller
abbrev pub tight_span : FormulaView → PartView → ℕ → List Line → ℤ × ℤ
tight_span f p u lines = unwrap_or (narrowed (total_factor f p u lines) (total_constant f p lines) (span_at p.spans u)) (span_at p.spans u)

abbrev pub tight_part : FormulaView → PartView → ℕ → List Line → PartView
tight_part f p u lines = cut_to p u (tight_span f p u lines)
