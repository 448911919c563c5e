use Rattle.std.proofs.Common.{rules, arith, pos, ◌≤ℤ◌, ◌≡◌, FitsSigned, w64}
use Rattle.std.proofs.lemmas.Int.{ints, to_z-of_z}
use Rattle.ft_memo.specs.Timer.{age_after}
use Rattle.ft_memo.proofs.TimerLemmas.{age_goes_on, age_tells}
use Rattle.ft_memo.proofs.timer.Timer.advance.Goals as goal

-- the age is that of the longer list
is_age : (c : goal.After-result-1) → c.next_age-age.result ≡ age_after c.self.inside.hold c.self.inside.period
    c.followed_by-self-inside.result.items
is_age c =
    let hold_fits : FitsSigned w64 c.self.inside.hold = search rules in
    let period_fits : FitsSigned w64 c.self.inside.period = search rules in
    let age_fits : FitsSigned w64 c.self.inside.age = search rules in
    let up : pos 0 ≤ℤ c.self.inside.period = omega (arith, ints, c.self.invariant.has_period.0) in
    let goes_on = simp to_z-of_z at c.next_age-age.ensures in
    age_goes_on c.past_laws.ensures.age_begins c.past_laws.ensures.age_goes_on c.past_laws.ensures.same_age c.past_laws.ensures.held_by_age
    c.self.inside.hold c.self.inside.period c.self.invariant.has_hold.0 up c.self.inside.past.items
    c.followed_by-self-inside.result.items c.args.now
    c.self.inside.age c.next_age-age.result c.self.invariant.is_age goes_on c.followed_by-self-inside.ensures

pub invariant_of-self : goal.invariant_of-self
invariant_of-self c =
    let fits : FitsSigned w64 c.next_age-age.result = search rules in
    record { has_hold = c.self.invariant.has_hold; has_period = c.self.invariant.has_period; is_age = simp to_z-of_z (is_age c) }

pub returns-clause-held : goal.returns-clause-held
returns-clause-held c =
    let fits : FitsSigned w64 c.next_age-age.result = search rules in
    let hold_fits : FitsSigned w64 c.self.inside.hold = search rules in
    let up : pos 0 ≤ℤ c.self.inside.period = omega (arith, ints, c.self.invariant.has_period.0) in
    simp to_z-of_z (age_tells c.past_laws.ensures.age_begins c.past_laws.ensures.age_goes_on c.past_laws.ensures.same_age
    c.past_laws.ensures.held_by_age c.self.inside.hold c.self.inside.period c.self.invariant.has_hold.0 up c.self.inside.past.items
    c.followed_by-self-inside.result.items c.args.now c.next_age-age.result c.followed_by-self-inside.ensures (is_age c))
