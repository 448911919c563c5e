-- Shorter lists, and when no short list shows a difference.
use Rattle.std.proofs.Common.{◌≡◌, subst, suc, ◌-◌, arith}
use Rattle.std.specs.Prelude.{take}
use Rattle.std.proofs.lemmas.List.{length-take-le}
use Rattle.ft_mean.specs.meaning.Refines.{FirstDiffers}
use Rattle.ft_unroll.specs.laws.Laws.{Laws}
use Rattle.ft_unroll.specs.laws.ShortLaws.{AllowedOneLess, DiffersAtLast, ClosedIsShortSafe}
use Rattle.ft_unroll.proofs.PointLemmas.{differences_have_points}

pub allowed_one_less : Laws → AllowedOneLess
allowed_one_less laws S h n some long allowed =
    (take n h, length-take-le n h (omega (arith, long)), laws.allowed_shorter S h n some allowed)

pub differs_at_last : Laws → DiffersAtLast
differs_at_last laws S proper h k d =
    (take (suc k) h, length-take-le (suc k) h (let far = d.in_list in omega (arith, far)), laws.differs_shorter S proper h k d)

pub closed_short : Laws → ClosedIsShortSafe
closed_short laws S proper n none h k low d =
    let last = differs_at_last laws S proper h k d in
    let same : k ≡ suc k - 1 = omega arith in
    none (suc k) (omega arith) (let far = d.in_list in omega (arith, far, low))
    ((differences_have_points laws S proper (suc k) (omega arith)).1
    (last.0, last.1, subst (λ j. FirstDiffers S last.0 j) same last.2))
