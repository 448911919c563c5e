-- First differences of one list, and NAT at its end.
use Rattle.std.proofs.Common.{◌≡◌, ◌∙◌, sym, ap, subst, refl, ℕ, zero, suc, ◌<◌, ℤ, List, [], ◌∷◌, ◌++◌, length, slice_index_or, Option}
use Rattle.std.proofs.Common.{Some, None, arith, ⊎_elim}
use Rattle.std.specs.List.{last_or}
use Rattle.std.proofs.lemmas.Bool.{cases_lt}
use Rattle.std.proofs.lemmas.List.{get_or_push, get_or_append_left}
use Rattle.ft_core.specs.declared.tables.Tables.{Tables}
use Rattle.ft_core.specs.declared.tables.Side.TheVariants as side
use Rattle.ft_core.specs.meaning.Kinds.{monitored}
use Rattle.ft_mean.specs.meaning.Allowed.{nat_at}
use Rattle.ft_mean.specs.meaning.Fits.{Fits, OutputMap}
use Rattle.ft_mean.specs.laws.Laws.{AllowedByScan}
use Rattle.ft_mean.specs.meaning.Reading.{Scans, reading_of}
use Rattle.ft_mean.specs.meaning.Refines.{FirstDiffers, Runs, SameAt}
use Rattle.ft_scan.specs.meaning.Allowing.{nat_after}
use Rattle.ft_replay.specs.laws.Laws.{AllowedAfterLast, OneFirstDifference}

-- a list has one trace of the requirement and one list of controlled values
pub one-run : (S : Tables) (h r i s c q j t d : Scans) → Runs S h r i s c → Runs S h q j t d → (q ≡ r) × (d ≡ c)
one-run S h r i s c q j t d mine other =
    let same_i : j ≡ i = mine.inputs.alone j other.inputs.is in
    let same_s : t ≡ s = mine.design.alone t (subst (λ (x : Scans). Fits S side.Sof x t) same_i other.design.is) in
    (mine.required.alone q other.required.is, mine.outputs.alone d (subst (λ (x : Scans). OutputMap S x d) same_s other.outputs.is))

-- none comes before another
not-before : (S : Tables) (h : Scans) (j k : ℕ) → j < k → FirstDiffers S h j → FirstDiffers S h k → ⊥
not-before S h j k less a b =
    let same = one-run S h b.r b.i b.s b.c a.r a.i a.s a.c b.runs a.runs in
    a.differs (subst (λ (x : Scans). SameAt S x a.c j) (sym same.0)
    (subst (λ (x : Scans). SameAt S b.r x j) (sym same.1) (b.same_before j less)) a.variable a.declared a.is_controlled)

pub one-first : OneFirstDifference
one-first S h j k a b = ⊎_elim
    (λ less. absurd (not-before S h j k less a b))
    (λ least. ⊎_elim (λ more. absurd (not-before S h k j more b a)) (λ most. omega (arith, least, most)) (cases_lt k j))
    (cases_lt j k)

-- the last item of a list with one more at its end
pub last-pushed : {A : Type 0} (o : Option A) (xs : List A) (x : A) → last_or o (xs ++ x ∷ []) ≡ Some x
last-pushed o [] x = refl
last-pushed o (y ∷ xs) x = last-pushed (Some y) xs x

last-there : {A : Type 0} (o : Option A) (xs : List A) (t : ℕ) (d : A) → length xs ≡ suc t → last_or o xs ≡ Some (slice_index_or xs t d)
last-there o [] t d e = absurd (omega (arith, e))
last-there o (x ∷ []) zero d e = refl
last-there o (x ∷ []) (suc t) d e = absurd (omega (arith, e))
last-there o (x ∷ y ∷ xs) zero d e = absurd (omega (arith, e))
last-there o (x ∷ y ∷ xs) (suc t) d e = last-there (Some x) (y ∷ xs) t d (omega (arith, e))

module _ (by_scan : AllowedByScan) where
  -- NAT at a scan of a list is as after the scan before
  pub nat-at-end : (S : Tables) (h g : Scans) (last : List ℤ) (t : ℕ) → length h ≡ t
      → ((j : ℕ) → j < t → slice_index_or g j [] ≡ slice_index_or h j []) → slice_index_or g t [] ≡ last
      → nat_at S (reading_of S monitored g) t ≡ nat_after S (last_or None h) last
  nat-at-end S [] g last zero long before now =
      (by_scan S g).0 ∙ ap (λ (row : List ℤ). nat_at S (reading_of S monitored (row ∷ [])) 0) now
  nat-at-end S [] g last (suc t) long before now = absurd (omega (arith, long))
  nat-at-end S (a ∷ h) g last zero long before now = absurd (omega (arith, long))
  nat-at-end S (a ∷ h) g last (suc t) long before now =
      (by_scan S g).1 t
      ∙ ap (λ (row : List ℤ). nat_at S (reading_of S monitored (row ∷ slice_index_or g (suc t) [] ∷ [])) 1) (before t (omega arith))
      ∙ ap (λ (row : List ℤ). nat_at S (reading_of S monitored (slice_index_or (a ∷ h) t [] ∷ row ∷ [])) 1) now
      ∙ sym (ap (λ (o : Option (List ℤ)). nat_after S o last) (last-there None (a ∷ h) t [] long))

  pub allowed-after : AllowedAfterLast
  allowed-after S h last = nat-at-end S h (h ++ last ∷ []) last (length h) refl
      (λ j less. get_or_append_left h (last ∷ []) [] j less) (get_or_push h last [] (length h) refl)
