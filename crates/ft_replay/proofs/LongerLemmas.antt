-- A list that is replayed goes on by one scan.
use Rattle.std.proofs.Common.{◌≡◌, ◌∙◌, sym, subst, refl, ℕ, ◌+◌, ◌<◌, ℤ, Bool, true, false, List, [], ◌∷◌, ◌++◌, length, slice_index_or}
use Rattle.std.proofs.Common.{Option, Some, None, arith, take, ⊎_elim}
use Rattle.std.specs.Prelude.{IsTrue, MatchBool}
use Rattle.std.specs.List.{last_or}
use Rattle.std.proofs.lemmas.Bool.{cases_lt}
use Rattle.std.proofs.lemmas.List.{length_push, length-take-le, get_or_push, get_or_append_left, get_or-take}
use Rattle.ft_core.specs.declared.tables.Tables.{Tables}
use Rattle.ft_core.specs.declared.tables.Section.{Section}
use Rattle.ft_core.specs.declared.tables.Side.TheVariants as side
use Rattle.ft_core.specs.declared.tables.Section.TheVariants as section
use Rattle.ft_core.specs.meaning.Kinds.{Kinds, controlled, monitored, outputs, side_kinds}
use Rattle.ft_mean.specs.meaning.Allowed.{nat_at}
use Rattle.ft_mean.specs.meaning.Fits.{InputMap, Maps}
use Rattle.ft_mean.specs.laws.Ends.{last-tells}
use Rattle.ft_mean.specs.laws.Laws.{GoesByScan}
use Rattle.ft_mean.specs.meaning.Reading.{Scans, reading_of}
use Rattle.ft_mean.specs.meaning.Refines.{SameAt}
use Rattle.ft_scan.specs.meaning.Allowing.{nat_after}
use Rattle.ft_replay.specs.scans.Differing.{DiffersAt, IsFirst, first_with}
use Rattle.ft_replay.specs.laws.Laws.{Laws}
use Rattle.ft_replay.specs.scans.Outputs.{AreOutputs}
use Rattle.ft_replay.proofs.FirstLemmas.{allowed-after, nat-at-end}

-- an image goes on scan by scan
maps-more : (S : Tables) (section : Section) (kinds : Kinds) → GoesByScan S section kinds → (list image : Scans) (a b : List ℤ)
    → Maps S section kinds list image → Maps S section kinds (a ∷ []) (b ∷ []) → Maps S section kinds (list ++ a ∷ []) (image ++ b ∷ [])
maps-more S section kinds by list image a b maps one =
    let same : length (image ++ b ∷ []) ≡ length (list ++ a ∷ []) = omega (arith, length_push image b, length_push list a, maps.lengths) in
    (by (list ++ a ∷ []) (image ++ b ∷ []) same).1 (λ t l. ⊎_elim
    (λ less. subst (λ (x : List ℤ). Maps S section kinds (x ∷ []) (slice_index_or (image ++ b ∷ []) t [] ∷ []))
    (sym (get_or_append_left list (a ∷ []) [] t less))
    (subst (λ (x : List ℤ). Maps S section kinds (slice_index_or list t [] ∷ []) (x ∷ []))
    (sym (get_or_append_left image (b ∷ []) [] t (omega (arith, less, maps.lengths))))
    ((by list image maps.lengths).0 maps t less)))
    (λ most. subst (λ (x : List ℤ). Maps S section kinds (x ∷ []) (slice_index_or (image ++ b ∷ []) t [] ∷ []))
    (sym (get_or_push list a [] t (omega (arith, l, most, length_push list a))))
    (subst (λ (x : List ℤ). Maps S section kinds (a ∷ []) (x ∷ []))
    (sym (get_or_push image b [] t (omega (arith, l, most, length_push list a, maps.lengths)))) one))
    (cases_lt t (length list)))

module _ (L : Laws) where
  -- the outputs of a design trace go on with it
  pub outputs-more : (S : Tables) (s o : Scans) (a b : List ℤ) → AreOutputs S s o → AreOutputs S (a ∷ []) (b ∷ [])
      → AreOutputs S (s ++ a ∷ []) (o ++ b ∷ [])
  outputs-more S s o a b are one = (
    omega (arith, length_push s a, length_push o b, are.0),
    λ t x v l is. ⊎_elim
        (λ less. L.in_front S (side_kinds side.Sof) s (a ∷ []) t x less ∙ are.1 t x v less is
        ∙ sym (L.in_front S outputs o (b ∷ []) t x (omega (arith, less, are.0))))
        (λ most. last-tells S (side_kinds side.Sof) s a t x (omega (arith, l, most, length_push s a)) ∙ one.1 0 x v (omega arith) is
        ∙ sym (last-tells S outputs o b t x (omega (arith, l, most, length_push s a, are.0))))
        (cases_lt t (length s)),
  )

  module _ (S : Tables) (r c : Scans) (a b : List ℤ) (n : ℕ) (long_r : length r ≡ n) (long_c : length c ≡ n) where
    -- a scan before the last is as it was
    same-then : (t : ℕ) → t < n → SameAt S r c t → SameAt S (r ++ a ∷ []) (c ++ b ∷ []) t
    same-then t less same x v is =
        L.in_front S (side_kinds side.Req) r (a ∷ []) t x (omega (arith, less, long_r)) ∙ same x v is
        ∙ sym (L.in_front S controlled c (b ∷ []) t x (omega (arith, less, long_c)))

    differs-then : (t : ℕ) → t < n → DiffersAt S r c t → DiffersAt S (r ++ a ∷ []) (c ++ b ∷ []) t
    differs-then t less d = record {
      variable = d.variable;
      declared = d.declared;
      is_controlled = d.is_controlled;
      differs = λ e. d.differs (sym (L.in_front S (side_kinds side.Req) r (a ∷ []) t d.variable (omega (arith, less, long_r))) ∙ e
          ∙ L.in_front S controlled c (b ∷ []) t d.variable (omega (arith, less, long_c)));
    }

    -- the last scan is as of the two rows alone
    same-last : SameAt S (a ∷ []) (b ∷ []) 0 → SameAt S (r ++ a ∷ []) (c ++ b ∷ []) n
    same-last same x v is = last-tells S (side_kinds side.Req) r a n x long_r ∙ same x v is ∙ sym (last-tells S controlled c b n x long_c)

    differs-last : DiffersAt S (a ∷ []) (b ∷ []) 0 → DiffersAt S (r ++ a ∷ []) (c ++ b ∷ []) n
    differs-last d = record {
      variable = d.variable;
      declared = d.declared;
      is_controlled = d.is_controlled;
      differs = λ e. d.differs (sym (last-tells S (side_kinds side.Req) r a n d.variable long_r) ∙ e
          ∙ last-tells S controlled c b n d.variable long_c);
    }

    -- the first difference with one scan more
    pub first-more : (o : Option ℕ) (alike : Bool) → IsFirst S r c n o
        → MatchBool alike (SameAt S (a ∷ []) (b ∷ []) 0) (DiffersAt S (a ∷ []) (b ∷ []) 0)
        → IsFirst S (r ++ a ∷ []) (c ++ b ∷ []) (n + 1) (first_with o n alike)
    first-more None true all one = λ t less. ⊎_elim (λ l. same-then t l (all t l))
        (λ m. let e : n ≡ t = omega (arith, less, m) in
        subst (λ (k : ℕ). SameAt S (r ++ a ∷ []) (c ++ b ∷ []) k) e (same-last one)) (cases_lt t n)
    first-more None false all d = (omega arith, (λ t less. same-then t less (all t less)), differs-last d)
    first-more (Some k) alike f d =
        (omega (arith, f.0), (λ t less. same-then t (omega (arith, less, f.0)) (f.1 t less)), differs-then k f.0 f.2)

  -- the clauses of a scan look at it and the one before, so a longer list has them
  pub clauses-more : (S : Tables) (h : Scans) (m : List ℤ) → ((t : ℕ) → t < length h → IsTrue (nat_at S (reading_of S monitored h) t))
      → IsTrue (nat_after S (last_or None h) m)
      → (t : ℕ) → t < length (h ++ m ∷ []) → IsTrue (nat_at S (reading_of S monitored (h ++ m ∷ [])) t)
  clauses-more S h m so_far now t l = ⊎_elim
      (λ less. longer t less ∙ so_far t less)
      (λ most. let e : length h ≡ t = omega (arith, l, most, length_push h m) in
      subst (λ (k : ℕ). IsTrue (nat_at S (reading_of S monitored (h ++ m ∷ [])) k)) e ((allowed-after L.allowed_by_scan) S h m ∙ now))
      (cases_lt t (length h))
    where
      longer : (k : ℕ) → k < length h → nat_at S (reading_of S monitored (h ++ m ∷ [])) k ≡ nat_at S (reading_of S monitored h) k
      longer k less =
          let long = length-take-le k h (omega (arith, less)) in
          nat-at-end L.allowed_by_scan S (take k h) (h ++ m ∷ []) (slice_index_or h k []) k long
          (λ j l. get_or_append_left h (m ∷ []) [] j (omega (arith, l, less)) ∙ sym (get_or-take k h j [] l))
          (get_or_append_left h (m ∷ []) [] k less)
          ∙ sym (nat-at-end L.allowed_by_scan S (take k h) h (slice_index_or h k []) k long (λ j l. sym (get_or-take k h j [] l)) refl)

  pub in-map-more : (S : Tables) (h i : Scans) (a b : List ℤ) → InputMap S h i → InputMap S (a ∷ []) (b ∷ [])
      → InputMap S (h ++ a ∷ []) (i ++ b ∷ [])
  in-map-more S = maps-more S section.In monitored (L.maps_by_scan S).0

  pub out-map-more : (S : Tables) (o c : Scans) (a b : List ℤ) → Maps S section.Out outputs o c
      → Maps S section.Out outputs (a ∷ []) (b ∷ [])
      → Maps S section.Out outputs (o ++ a ∷ []) (c ++ b ∷ [])
  out-map-more S = maps-more S section.Out outputs (L.maps_by_scan S).1
