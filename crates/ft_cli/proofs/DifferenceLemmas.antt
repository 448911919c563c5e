-- On a list the two sides first differ at one scan at most, and nowhere where the design refines the requirement.
use Rattle.std.proofs.Common.{◌≡◌, ◌∙◌, sym, ap, subst, ⊎_elim, ℕ, ◌<◌, arith}
use Rattle.std.proofs.lemmas.Bool.{cases_lt}
use Rattle.ft_core.specs.declared.tables.Tables.{Tables}
use Rattle.ft_core.specs.declared.tables.Side.TheVariants as side
use Rattle.ft_core.specs.meaning.Kinds.{controlled}
use Rattle.ft_mean.specs.meaning.Fits.{Fits, OutputMap, side_reading}
use Rattle.ft_mean.specs.meaning.Reading.{Scans, reading_of}
use Rattle.ft_mean.specs.meaning.Refines.{FirstDiffers, Refines, Runs, SameAt}

module _ (S : Tables) (h r i s c q j t d : Scans) (one : Runs S h r i s c) (other : Runs S h q j t d) where
  required-same : r ≡ q
  required-same = other.required.alone r one.required.is

  inputs-same : i ≡ j
  inputs-same = other.inputs.alone i one.inputs.is

  design-same : s ≡ t
  design-same = other.design.alone s (subst (λ k. Fits S side.Sof k s) inputs-same one.design.is)

  outputs-same : c ≡ d
  outputs-same = other.outputs.alone c (subst (λ k. OutputMap S k c) design-same one.outputs.is)

  -- what is the same along the one is so along the other
  same-along : (k : ℕ) → SameAt S r c k → SameAt S q d k
  same-along k same x v is =
      ap (λ l. side_reading S side.Req l k x) (sym required-same) ∙ same x v is ∙ ap (λ l. reading_of S controlled l k x) outputs-same

not-before : (S : Tables) (h : Scans) (j k : ℕ) → FirstDiffers S h j → FirstDiffers S h k → j < k → ⊥
not-before S h j k at_j at_k less =
    at_j.differs (same-along S h at_k.r at_k.i at_k.s at_k.c at_j.r at_j.i at_j.s at_j.c at_k.runs at_j.runs j (at_k.same_before j less)
    at_j.variable at_j.declared at_j.is_controlled)

pub one-first : (S : Tables) (h : Scans) (j k : ℕ) → FirstDiffers S h j → FirstDiffers S h k → j ≡ k
one-first S h j k at_j at_k = ⊎_elim
    (λ less. absurd (not-before S h j k at_j at_k less))
    (λ past. ⊎_elim (λ less. absurd (not-before S h k j at_k at_j less)) (λ other. omega (arith, past, other)) (cases_lt k j))
    (cases_lt j k)

pub refines-none : (S : Tables) → Refines S → (h : Scans) (k : ℕ) → FirstDiffers S h k → ⊥
refines-none S refines h k at =
    let (r, i, s, c, runs, same) = refines h at.runs.allowed in
    at.differs (same-along S h r i s c at.r at.i at.s at.c runs at.runs k (same k at.in_list) at.variable at.declared at.is_controlled)
