-- What the room holds after an answer.
use Rattle.std.specs.Prelude.{◌≡◌, pos, ◌+◌, ◌<ℤ◌, List, length}
use Rattle.ft_linear.specs.declared.lines.Line.{Line}
use Rattle.ft_linear.specs.meaning.Formula.{FormulaView}
use Rattle.ft_linear.specs.meaning.Part.{PartView}
use Rattle.ft_linear.specs.meaning.Rules.{Contradicts}
use Rattle.ft_farkas.specs.declared.answer.Eliminated.{Eliminated}
use Rattle.ft_farkas.specs.declared.answer.Eliminated.TheVariants.{Sum, RationalPoint, Far, Rows, Wide}
use Rattle.ft_farkas.specs.meaning.Rows.{sources}
use Rattle.ft_farkas.specs.meaning.Fractions.{MeetsAll, denominator_of, numerators_of}
use Rattle.ft_farkas.specs.meaning.Answers.{Findings, IsFar, AreDifferent, IsWide}

abbrev pub Tells : FormulaView → PartView → List Line → Findings → Eliminated → Type 0
Tells f p lines found Sum = Contradicts f p found.lines
Tells f p lines found RationalPoint = (pos 0 <ℤ denominator_of found.point) × MeetsAll f p lines (numerators_of found.point) (denominator_of found.point)
Tells f p lines found Far = IsFar f p lines found.kept
Tells f p lines found Rows = (length found.kept ≡ length (sources p lines) + 2000) × AreDifferent f p lines found.kept
Tells f p lines found (Wide first second) = IsWide f p lines found.kept first second
