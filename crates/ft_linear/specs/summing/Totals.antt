-- Totals of the factors of lines, one for each unknown.
use Rattle.std.specs.Prelude.{◌≡◌, ◌≤◌, ℕ, ℤ, pos, ◌+ℤ◌, ◌*ℤ◌, nat_eq, not, Bool, List, unsigned_abs, if◌then◌else◌}
use Rattle.std.specs.List.{list_all}
use Rattle.ft_linear.specs.declared.lines.Line.{Line}
use Rattle.ft_linear.specs.meaning.Form.{Factor, values_at}
use Rattle.ft_linear.specs.meaning.Formula.{FormulaView}
use Rattle.ft_linear.specs.meaning.Part.{PartView}
use Rattle.ft_linear.specs.meaning.Rules.{factor_of, factors_in, line_form, total_factor}

-- nothing is left in them of an earlier sum
abbrev pub AreClear : List ℤ → Type 0
AreClear totals = (u : ℕ) → values_at totals u ≡ pos 0

-- each is at most this, either way
abbrev pub AreWithin : ℕ → List ℤ → Type 0
AreWithin most totals = (u : ℕ) → unsigned_abs (values_at totals u) ≤ most

-- the totals after these factors were added, each so many times
abbrev pub AreAdded : List ℤ → ℤ → List Factor → List ℤ → Type 0
AreAdded old times fs new = (u : ℕ) → values_at new u ≡ values_at old u +ℤ (times *ℤ factor_of u fs)

-- the totals of these lines
abbrev pub AreTotals : FormulaView → PartView → List Line → List ℤ → Type 0
AreTotals f p ls totals = (u : ℕ) → values_at totals u ≡ total_factor f p u ls

-- no factor is one of this unknown
abbrev pub is_free : ℕ → List Factor → Bool
is_free u fs = list_all (λ g. not (nat_eq g.0 u)) fs

abbrev pub are_free : FormulaView → PartView → ℕ → List Line → Bool
are_free f p u ls = list_all (λ l. is_free u (factors_in (line_form f p l))) ls

-- the totals after those of all unknowns that aren't free were made 0
abbrev pub AreCleared : List ℤ → (ℕ → Bool) → List ℤ → Type 0
AreCleared old free new = (u : ℕ) → values_at new u ≡ if free u then values_at old u else pos 0
