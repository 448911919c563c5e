-- Rows of values of the mixer.
use Rattle.std.proofs.Common.{◌≡◌, ◌∙◌, sym, ap, subst, ℕ, ℤ, pos, int_le, ◌≤ℤ◌, true, ◌&&◌, [], ◌∷◌, arith}
use Rattle.std.proofs.lemmas.Int.{ints}
use Rattle.std.proofs.lemmas.Bool.{and_from}
use Rattle.ft_core.specs.declared.tables.Tables.{Tables}
use Rattle.ft_core.specs.declared.tables.Side.{Side}
use Rattle.ft_core.specs.declared.tables.Side.TheVariants as side
use Rattle.ft_core.specs.meaning.Kinds.{Kinds, monitored, inputs, outputs, given_kinds, side_kinds, count_of}
use Rattle.ft_mean.specs.meaning.Reading.{IsListOf}
use Rattle.ft_worked.specs.Made.{IsMadeOf}
use Rattle.ft_worked.specs.Mixer.{mixer}
use Rattle.ft_worked.proofs.MadeLemmas.{set_of, for_each}
use Rattle.ft_core.specs.laws.Ranges.{is_within}
use Rattle.ft_mean.specs.laws.ScanTests.{list_is}

abbrev pub UpTo : ℕ → ℤ → Type 0
UpTo top z = (pos 0 ≤ℤ z) × (z ≤ℤ pos top)

up_to : (top : ℕ) (z : ℤ) → UpTo top z → is_within (pos 0, pos top) z ≡ true
up_to top z h =
    let low : int_le (pos 0) z ≡ true = grind (arith, ints, h.0) in
    let high : int_le z (pos top) ≡ true = grind (arith, ints, h.1) in
    and_from (int_le (pos 0) z) (int_le z (pos top)) low high

module _ (S : Tables) (is : IsMadeOf mixer S) where
  -- a level, and the number that stands for it at run time
  pub level : (w z : ℤ) → w ≡ z → UpTo 9 z → IsListOf S monitored ((w ∷ []) ∷ [])
  level w z same h = subst (λ y. IsListOf S monitored ((y ∷ []) ∷ [])) (sym same)
      (for_each mixer S is (λ T. IsListOf T monitored ((z ∷ []) ∷ []))
      (λ rest. list_is (set_of mixer rest) monitored ((z ∷ []) ∷ []) (ap (λ b. (b && true) && true) (up_to 9 z h))))

  probe : (w z : ℤ) → w ≡ z → UpTo 9 z → IsListOf S inputs ((w ∷ []) ∷ [])
  probe w z same h = subst (λ y. IsListOf S inputs ((y ∷ []) ∷ [])) (sym same)
      (for_each mixer S is (λ T. IsListOf T inputs ((z ∷ []) ∷ []))
      (λ rest. list_is (set_of mixer rest) inputs ((z ∷ []) ∷ []) (ap (λ b. (b && true) && true) (up_to 9 z h))))

  pub drive_and_gate : (v d w g : ℤ) → v ≡ d → w ≡ g → UpTo 3 d → UpTo 1 g → IsListOf S outputs ((v ∷ w ∷ []) ∷ [])
  drive_and_gate v d w g e f h i =
      subst (λ y. IsListOf S outputs ((y ∷ w ∷ []) ∷ [])) (sym e) (subst (λ y. IsListOf S outputs ((d ∷ y ∷ []) ∷ [])) (sym f)
      (for_each mixer S is (λ T. IsListOf T outputs ((d ∷ g ∷ []) ∷ []))
      (λ rest. list_is (set_of mixer rest) outputs ((d ∷ g ∷ []) ∷ [])
      (ap (λ b. (b && (is_within (pos 0, pos 1) g && true)) && true) (up_to 3 d h) ∙ ap (λ b. (b && true) && true) (up_to 1 g i)))))

  pub required_level : (s : Side) → s ≡ side.Req → (w z : ℤ) → w ≡ z → UpTo 9 z → IsListOf S (given_kinds s) ((w ∷ []) ∷ [])
  required_level s e w z same h = subst (λ t. IsListOf S (given_kinds t) ((w ∷ []) ∷ [])) (sym e) (level w z same h)

  pub designed_probe : (s : Side) → s ≡ side.Sof → (w z : ℤ) → w ≡ z → UpTo 9 z → IsListOf S (given_kinds s) ((w ∷ []) ∷ [])
  designed_probe s e w z same h = subst (λ t. IsListOf S (given_kinds t) ((w ∷ []) ∷ [])) (sym e) (probe w z same h)

  pub width : (kinds : Kinds) → count_of kinds mixer.vars ≡ count_of kinds S.vars
  width kinds = sym (ap (count_of kinds) is.vars_are)

  pub side_width : (s t : Side) → s ≡ t → count_of (side_kinds t) mixer.vars ≡ count_of (side_kinds s) S.vars
  side_width s t e = width (side_kinds t) ∙ ap (λ u. count_of (side_kinds u) S.vars) (sym e)
