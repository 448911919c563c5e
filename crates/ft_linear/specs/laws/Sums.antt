-- Laws from sums of lines to the points of a part.
use Rattle.std.specs.Prelude.{◌≡◌, ◌≤◌, ◌<◌, ◌↔◌, ℕ, ℤ, Bool, true, List, length, Some, slice_get}
use Rattle.ft_base.specs.Interval.{IsWithin}
use Rattle.ft_linear.specs.declared.lines.Line.{Line}
use Rattle.ft_linear.specs.meaning.Form.{HasUnknowns, InArea, IsProper, LinView}
use Rattle.ft_linear.specs.meaning.Formula.{FormulaView}
use Rattle.ft_linear.specs.meaning.Part.{PartView, forced}
use Rattle.ft_linear.specs.meaning.Halving.{single_lines, single_span}
use Rattle.ft_linear.specs.meaning.Rules.{Contradicts, HoldsForced, Tightens, literal_form}

-- where lines contradict, no point of the area makes each forced literal true
abbrev pub NoneWhereContradicted : Type 0
NoneWhereContradicted =
    (f : FormulaView) (p : PartView) (x : ℕ → ℤ) (lines : List Line) → Contradicts f p lines → InArea p.spans x → HoldsForced f p x → ⊥

-- the span that lines leave an unknown has each point of the area that makes each forced literal true
abbrev pub AllWithinTightened : Type 0
AllWithinTightened = (f : FormulaView) (p : PartView) (x : ℕ → ℤ) (u : ℕ) (lines : List Line) (span : ℤ × ℤ) → Tightens f p u lines span
    → InArea p.spans x → HoldsForced f p x → IsWithin span (x u)

-- a forced literal of at most three unknowns, with the bounds that cancel the others, leaves an unknown that span and no other
abbrev pub SinglesTighten : Type 0
SinglesTighten =
    (f : FormulaView) (p : PartView) (a : ℕ) (s : Bool) (u : ℕ) (l : LinView) (span : ℤ × ℤ) → slice_get f.atoms a ≡ Some l
    → IsProper l.factors l.constant
    → HasUnknowns (length p.spans) l.factors → length l.factors ≤ 3 → forced f p a s ≡ true → u < length p.spans
    → Tightens f p u (single_lines a s u l) span ↔ (single_span p.spans u (literal_form s l) ≡ Some span)
