-- The spans of unknowns, and the formula of some conditions over the unknowns that it has, numbered in rising order.
use Rattle.std.specs.Prelude.{slice_index_or, slice_set, nat_lt, if◌then◌else◌, ℕ, ◌+◌, ℤ, ◌+ℤ◌, nat_le, Bool, true, false, ◌||◌, ◌==◌}
use Rattle.std.specs.Prelude.{List, [], ◌∷◌, ◌++◌, map, filter, length}
use Rattle.std.specs.List.{list_any, flat_map, range_with_len, position_or_len}
use Rattle.ft_base.specs.Division.{floor_of}
use Rattle.ft_linear.specs.meaning.Form.{LinView, least, most, span_at}
use Rattle.ft_settle.specs.declared.raw.Raw.{Raw, Raw-F, fold-Raw}
use Rattle.ft_settle.specs.declared.raw.Raw.TheOpen as open_raw
use Rattle.ft_settle.specs.declared.raw.Raw.TheVariants as raw
use Rattle.ft_claims.specs.declared.claim.Claim.{Claim}
use Rattle.ft_claims.specs.meaning.Forms.{Entry, Entries}
use Rattle.ft_claims.specs.meaning.Formulas.{entries_of, parts_of, formula_of, unknowns_of}

abbrev pub Spans : Type 0
Spans = List (ℤ × ℤ)

-- the floors of the least and the greatest value of the form, divided
abbrev pub quotient_span : Spans → Entry → ℤ × ℤ
quotient_span spans e = (
  floor_of (least spans e.0.factors +ℤ e.0.constant) e.1,
  floor_of (most spans e.0.factors +ℤ e.0.constant) e.1,
)

-- with a span for each pair in turn
abbrev pub with_spans : Spans → Entries → Spans
with_spans spans [] = spans
with_spans spans (e ∷ T) = with_spans (spans ++ quotient_span spans e ∷ []) T

-- the unknowns of the pairs' forms
abbrev pub pair_unknowns : Entries → List ℕ
pair_unknowns T = flat_map (λ (e : Entry). map (λ f. f.0) e.0.factors) T

abbrev pub is_one_of : List ℕ → ℕ → Bool
is_one_of us u = list_any (λ v. v == u) us

-- the names that the formula has, and the unknowns of all pairs
abbrev pub is_used : ℕ → List Claim → ℕ → Bool
is_used base parts u =
    is_one_of (flat_map unknowns_of (parts_of base (entries_of base parts) parts)) u
    || is_one_of (pair_unknowns (entries_of base parts)) u
    || nat_le base u

abbrev pub used : ℕ → List Claim → List ℕ
used base parts = filter (is_used base parts) (range_with_len 0 (base + length (entries_of base parts)))

abbrev pub place_in : List ℕ → ℕ → ℕ
place_in us u = position_or_len (λ v. v == u) us

-- a formula with other numbers for its unknowns
abbrev pub renumbered : (ℕ → ℕ) → LinView → LinView
renumbered ρ l = record { factors = map (λ f. (ρ f.0, f.1)) l.factors; constant = l.constant }

-- the number that a list has for an unknown
abbrev pub number_by : List ℕ → ℕ → ℕ
number_by numbers u = slice_index_or numbers u 0

-- for each place how many marked ones stand before it, and `next` more
abbrev pub counts : (next : ℕ) → List Bool → List ℕ
counts next [] = []
counts next (true ∷ marks) = next ∷ counts (next + 1) marks
counts next (false ∷ marks) = next ∷ counts next marks

-- marks, with one more for an unknown that has a place
abbrev pub marked_at : List Bool → ℕ → List Bool
marked_at marks u = if nat_lt u (length marks) then slice_set marks u true else marks

abbrev pub with_marks : List Bool → List ℕ → List Bool
with_marks marks [] = marks
with_marks marks (u ∷ us) = with_marks (marked_at marks u) us

abbrev pub layer_renumber : (ℕ → ℕ) → Raw-F Raw → Raw
layer_renumber ρ (open_raw.Le l) = raw.Le (renumbered ρ l)
layer_renumber ρ (open_raw.Not inner) = raw.Not inner
layer_renumber ρ (open_raw.And parts) = raw.And parts
layer_renumber ρ (open_raw.Or parts) = raw.Or parts

unfoldable pub renumber : (ℕ → ℕ) → Raw → Raw
renumber ρ = fold-Raw Raw (layer_renumber ρ)

-- an obligation: a formula, the spans of its unknowns, and the names that the first of them stand for
pub record Obliged : Type 0 where
  pub formula : Raw
  pub spans : Spans
  pub names : List ℕ

abbrev pub finished : Spans → List Claim → Obliged
finished spans parts = record {
  formula = renumber (place_in (used (length spans) parts)) (formula_of (length spans) parts);
  spans = map (span_at (with_spans spans (entries_of (length spans) parts))) (used (length spans) parts);
  names = filter (is_used (length spans) parts) (range_with_len 0 (length spans));
}
