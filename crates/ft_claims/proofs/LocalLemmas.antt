-- Numbers for the names of two scans tell a local view where they meet the links, and each local view is told by such numbers.
use Rattle.std.proofs.Common.{◌≡◌, ◌∙◌, sym, ap, subst, refl, ℕ, ℤ, pos, Bool, true, false, cond, List, Some, slice_get, arith}
use Rattle.std.specs.Prelude.{int_le}
use Rattle.std.specs.Ordering.{int_eq}
use Rattle.std.specs.List.{list_all}
use Rattle.std.proofs.lemmas.Int.{ints}
use Rattle.std.proofs.lemmas.List.Folds.{list_all-map}
use Rattle.std.proofs.lemmas.Option.{slice_get_within}
use Rattle.ft_base.specs.Interval.{IsWithin}
use Rattle.ft_core.specs.declared.tables.Tables.{Tables}
use Rattle.ft_core.specs.declared.tables.Memory as tables
use Rattle.ft_core.specs.declared.tables.Memory.TheVariants.{Held, Hyst}
use Rattle.ft_core.specs.laws.Places.{some-at}
use Rattle.ft_core.specs.meaning.Reads.{Read, at_now, at_before, of_memory, of_age}
use Rattle.ft_mean.specs.laws.EvaluationLaws.{Same}
use Rattle.ft_mean.specs.meaning.Proper.{IsLinked, IsLocal}
use Rattle.ft_mean.specs.meaning.Value.{View}
use Rattle.ft_claims.specs.laws.Laws.{Laws}
use Rattle.ft_claims.specs.meaning.Claims.{claim_true}
use Rattle.ft_claims.specs.meaning.Coverage.{cover_frame, links}
use Rattle.ft_claims.specs.meaning.Names.{view}
use Rattle.ft_claims.specs.meaning.Parts.{link_of}
use Rattle.ft_claims.specs.meaning.Shown.{AreReadMemories}
use Rattle.ft_claims.specs.meaning.Spans.{InCoverSpans}
use Rattle.ft_claims.specs.meaning.Numbers.{numbers_with, cover_numbers}
use Rattle.ft_claims.proofs.LinkLemmas.{link_says}
use Rattle.ft_claims.proofs.Lists.{at_place, every_image}
use Rattle.ft_claims.proofs.NumberLemmas.{number_now, number_kept, number_past, number_kept_past}
use Rattle.ft_claims.proofs.ReadsThere.{IsAgeless, memory_ageless}

-- a bit as a number
abbrev bit : Bool → ℤ
bit b = cond b (pos 1) (pos 0)

bit_back : (b : Bool) → int_eq (bit b) (pos 1) ≡ b
bit_back true = refl
bit_back false = refl

bit_within : (b : Bool) → IsWithin (pos 0, pos 1) (bit b)
bit_within true = (omega (arith, ints), omega (arith, ints))
bit_within false = (omega (arith, ints), omega (arith, ints))

module _ (S : Tables) (V : View) (past : ℕ → ℤ) where
  abbrev bits : ℕ → ℤ
  bits m = bit (V.memory m)

  abbrev W : View
  W = view S (cover_frame S) (numbers_with S V past)

  -- the numbers of a view tell it again
  pub same_again : (r : Read) → IsAgeless S r → Same W V r
  same_again (at_now x) on = number_now S V.now bits V.before past x on
  same_again (at_before x) on = number_past S V.now bits V.before past x on
  same_again (of_memory m) on = ap (λ z. int_eq z (pos 1)) (number_kept S V.now bits V.before past m on) ∙ bit_back (V.memory m)
  same_again (of_age m) on = absurd on

module _ (S : Tables) (V : View) where
  abbrev σ : ℕ → ℤ
  σ = cover_numbers S V

  pub cover_same : (r : Read) → IsAgeless S r → Same (view S (cover_frame S) σ) V r
  cover_same = same_again S V (λ m. pos 0)

  -- and are in their spans where the view is local
  pub cover_within : (reads : List Read) → IsLocal S reads V → InCoverSpans S σ
  cover_within reads local = record {
    now = λ x v is. subst (IsWithin v.range) (sym (cover_same (at_now x) (slice_get_within S.vars x v is))) (local.now x v is);
    bits_now = λ m l. subst (IsWithin (pos 0, pos 1)) (sym (number_kept S V.now (λ m. bit (V.memory m)) V.before (λ m. pos 0) m l))
        (bit_within (V.memory m));
    past = λ x v is. subst (IsWithin v.range) (sym (cover_same (at_before x) (slice_get_within S.vars x v is))) (local.before x v is);
    bits_past = λ m l. subst (IsWithin (pos 0, pos 1))
        (sym (number_kept_past S V.now (λ m. bit (V.memory m)) V.before (λ m. pos 0) m)) (bit_within false);
  }

-- views that agree on what a memory reads, and on it, have it linked alike
linked_alike : Laws → (S : Tables) (V W : View) (m : ℕ) (memory : tables.Memory) → slice_get S.memories m ≡ Some memory
    → ((r : Read) → IsAgeless S r → Same W V r) → IsLinked V m memory → IsLinked W m memory
linked_alike laws S V W m (Held name s c hold) is same h = λ on.
    laws.same_truth W V c (λ r k. same r (memory_ageless S m (Held name s c hold) is r k))
    ∙ h (sym (same (of_memory m) (slice_get_within S.memories m _ is)) ∙ on)
linked_alike laws S V W m (Hyst name s e lo hi start) is same h =
    let z = laws.same_value W V e (λ r k. same r (memory_ageless S m (Hyst name s e lo hi start) is r k)) in
    let b = same (of_memory m) (slice_get_within S.memories m _ is) in
    ((λ up. b ∙ h.0 (sym (ap (int_le hi) z) ∙ up)), (λ down. b ∙ h.1 (sym (ap (λ y. int_le y lo) z) ∙ down)))

module _ (S : Tables) (reads : List Read) (ms : List ℕ) (are : AreReadMemories S reads ms) where
  -- numbers in their spans that make the links true tell a local view
  pub local_from : (σ : ℕ → ℤ) → InCoverSpans S σ → list_all (claim_true σ) (links S (cover_frame S) ms) ≡ true
      → IsLocal S reads (view S (cover_frame S) σ)
  local_from σ spans met = record {
    now = λ x v is. spans.now x v is;
    before = λ x v is. spans.past x v is;
    linked = λ m memory is by.
        let at = are.each m (slice_get_within S.memories m memory is) by in
        (link_says S σ m memory).0 (sym (ap (λ o. claim_true σ (link_of S (cover_frame S) m o)) is)
        ∙ at_place (λ m. claim_true σ (link_of S (cover_frame S) m (slice_get S.memories m))) ms
        (sym (list_all-map (claim_true σ) (λ m. link_of S (cover_frame S) m (slice_get S.memories m)) ms) ∙ met) at.0 m at.1);
  }

  -- the numbers of a local view make them true
  pub links_true : Laws → (V : View) → IsLocal S reads V → list_all (claim_true (cover_numbers S V)) (links S (cover_frame S) ms) ≡ true
  links_true laws V local = every_image (claim_true (cover_numbers S V)) (λ m. link_of S (cover_frame S) m (slice_get S.memories m)) ms
      (λ j m at.
      let memory = some-at S.memories m (are.there j m at) in
      ap (λ o. claim_true (cover_numbers S V) (link_of S (cover_frame S) m o)) memory.1
      ∙ (link_says S (cover_numbers S V) m memory.0).1
      (linked_alike laws S V (view S (cover_frame S) (cover_numbers S V)) m memory.0 memory.1 (cover_same S V)
      (local.linked m memory.0 memory.1 (are.read j m at))))
