use Rattle.std.proofs.Common.{pos, sym, subst, arith, slice_index_or, w64}
use Rattle.std.proofs.lemmas.Int.{to_z-of_z, fits_signed_from_abs}
use Rattle.ft_linear.specs.meaning.Form.{IsSmall}
use Rattle.ft_settle.proofs.canonical.canonical_factors.Goals as goal

pub quotient-requires-clause-factor : goal.quotient-requires-clause-factor
quotient-requires-clause-factor c =
    let factor = (slice_index_or c.args.factors.now c.loop-factor.factor-index (0, pos 0)).1 in
    let small : IsSmall factor = c.form_laws.ensures.small 0 c.args.factors.now c.loop-factor.factor-index (0, pos 0) c.requires.rising
    c.loop-factor-test.true in
    subst IsSmall (sym (to_z-of_z w64 factor (fits_signed_from_abs w64 factor (omega (arith, small))))) small
