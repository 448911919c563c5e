-- The places of variables in rows, and what lists of rows tell.
use Rattle.std.proofs.Common.{◌∙◌, ap, cond, [], length, slice_index_or, pos}
use Rattle.std.proofs.lemmas.List.{get_or_append_left}
use Rattle.ft_core.specs.meaning.Kinds.{place_of, is_of}
use Rattle.ft_mean.specs.meaning.Reading.{init_of}
use Rattle.ft_mean.specs.laws.RowLaws.{PlacesAreInside, PlacesAreTaken, SameRows, ReadAtPlace, ReadInRange, ReadInFront, HasRows}
use Rattle.ft_mean.specs.laws.RowLaws.{GivenOrDefined}
use Rattle.ft_mean.proofs.OneScan.{given_or_defined}
use Rattle.ft_core.specs.laws.VarPlaces.{below-count}
use Rattle.ft_mean.proofs.Rows.{placed, same_rows, length-gathered}
use Rattle.ft_mean.proofs.Traces.{reading_at, reading_range, rows, length-rows, row_at, reading-rows}
use Rattle.ft_mean.proofs.WellFormed.{opened}

pub inside : PlacesAreInside
inside S kinds x v is = below-count kinds S.vars x v is.0 is.1

pub taken : PlacesAreTaken
taken S kinds k below =
    let at = placed kinds S.vars k below in
    record { x = at.x; v = at.v; is = (at.there, at.kind); place = at.place }

pub rows_alike : SameRows
rows_alike S kinds p q lp lq same = same_rows kinds S.vars p q lp lq (λ x v there its. same x v (there, its))

pub at_place : ReadAtPlace
at_place = reading_at

pub in_range : ReadInRange
in_range S = reading_range S (opened S)

pub in_front : ReadInFront
in_front S kinds front rest t x below =
    ap (λ row. cond (is_of S.vars kinds x) (slice_index_or row (place_of kinds S.vars x) (pos 0)) (init_of S x))
    (get_or_append_left front rest [] t below)

pub has_rows : HasRows
has_rows S kinds ρ n = (
  rows S kinds ρ n,
  record {
    long = length-rows S kinds ρ n;
    widths = λ t l. ap length (row_at S kinds ρ n t l) ∙ length-gathered kinds S.vars (ρ t);
    tells = reading-rows S kinds ρ n;
  },
)

pub side_cases : GivenOrDefined
side_cases S s = given_or_defined S (opened S) s
