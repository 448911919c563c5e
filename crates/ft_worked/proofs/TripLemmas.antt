-- Two traces of the trip set that fit, and two that don't: the definitions, computed.
use Rattle.std.proofs.Common.{sym, refl, arith, true≢false}
use Rattle.ft_core.specs.declared.tables.Tables.{Tables}
use Rattle.ft_core.specs.declared.tables.Side.TheVariants as side
use Rattle.ft_mean.specs.meaning.Memory.{memory_within}
use Rattle.ft_mean.specs.meaning.Fits.{Fits}
use Rattle.ft_mean.specs.laws.Equations.{evaluation}
use Rattle.ft_worked.specs.Trip.{trip, pressures, opened, opened_early, readings, counted, counted_again}
use Rattle.ft_worked.specs.Worked.{TripRuns, TripIsWorked}
use Rattle.ft_worked.proofs.MadeLemmas.{Rest, set_of, for_each}
use Rattle.ft_mean.specs.laws.ScanTests.{fits}

module _ (rest : Rest (trip 5)) where
  abbrev S : Tables
  S = set_of (trip 5) rest

  opens : Fits S side.Req pressures opened
  unfolding memory_within
  opens = fits S side.Req pressures opened refl refl refl refl (simp evaluation)

  not_early : Fits S side.Req pressures opened_early → ⊥
  unfolding memory_within
  not_early f = true≢false (sym (simp evaluation at (f.follows 3 (omega arith) 1 _ (refl, refl))))

  counts : Fits S side.Sof readings counted
  counts = fits S side.Sof readings counted refl refl refl refl (simp evaluation)

  not_again : Fits S side.Sof readings counted_again → ⊥
  not_again f = true≢false (sym (simp evaluation at (f.follows 3 (omega arith) 4 _ (refl, refl))))

pub worked : TripIsWorked
worked S is = for_each (trip 5) S is TripRuns (λ rest. record {
  opens = opens rest;
  not_early = not_early rest;
  counts = counts rest;
  not_again = not_again rest;
})
