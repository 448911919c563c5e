use Rattle.std.proofs.Common.{rules, ◌≡◌, FitsSigned, w64}
use Rattle.std.proofs.lemmas.Int.{to_z-of_z}
use Rattle.ft_memo.specs.Band.{hyst_after}
use Rattle.ft_memo.proofs.BandLemmas.{side_goes_on}
use Rattle.ft_memo.proofs.band.Band.advance.Goals as goal

-- the bit is that of the longer list
is_side : (c : goal.After-self-2-1) → c.next_bit-bit.result ≡ hyst_after c.self.inside.lo c.self.inside.hi c.self.inside.start
    c.followed_by-self-inside.result.items
is_side c =
    let lo_fits : FitsSigned w64 c.self.inside.lo = search rules in
    let hi_fits : FitsSigned w64 c.self.inside.hi = search rules in
    let now_fits = c.ranges.now in
    let goes_on = simp to_z-of_z at c.next_bit-bit.ensures in
    let is_longer = simp to_z-of_z at c.followed_by-self-inside.ensures in
    side_goes_on c.past_laws.ensures.hyst_begins c.past_laws.ensures.hyst_goes_on c.past_laws.ensures.same_hyst c.self.inside.lo
    c.self.inside.hi c.self.inside.start c.self.inside.past.items c.followed_by-self-inside.result.items c.args.now
    c.self.inside.bit c.next_bit-bit.result c.self.invariant.is_side goes_on is_longer

pub invariant_of-self : goal.invariant_of-self
invariant_of-self c = record { lie_apart = c.self.invariant.lie_apart; is_side = is_side c }

pub returns-clause-hyst : goal.returns-clause-hyst
returns-clause-hyst = is_side
