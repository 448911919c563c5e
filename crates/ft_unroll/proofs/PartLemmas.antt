-- The parts of the formulas of lists against what numbers meet.
use Rattle.std.proofs.Common.{◌≡◌, ◌∙◌, sym, ap, refl, ℕ, ◌-◌, ◌<◌, ℤ, Bool, true, false, not, [], ◌++◌}
use Rattle.std.proofs.Common.{map, length, Option, None, Some, slice_get, arith, true≢false}
use Rattle.std.specs.List.{list_all, range_with_len}
use Rattle.std.proofs.lemmas.Bool.{and_parts, and_from}
use Rattle.std.proofs.lemmas.List.Folds.{list_all-append, list_all-map}
use Rattle.std.proofs.lemmas.Option.{slice_get_within}
use Rattle.ft_core.specs.declared.tables.Tables.{Tables}
use Rattle.ft_core.specs.declared.tables.Var.{Var}
use Rattle.ft_core.specs.declared.tables.Memory as tables
use Rattle.ft_core.specs.declared.tables.Section.{Section}
use Rattle.ft_core.specs.declared.tables.Section.TheVariants as section
use Rattle.ft_core.specs.meaning.Kinds.{Kinds, controlled, defined_kinds, is_of}
use Rattle.ft_linear.specs.laws.Nodes.{list_any-map}
use Rattle.ft_mean.specs.meaning.Reading.{IsVar}
use Rattle.ft_claims.specs.declared.claim.Claim.{Claim}
use Rattle.ft_claims.specs.declared.claim.Claim.TheVariants.{Not}
use Rattle.ft_claims.specs.laws.Equations.{true-Not, true-And, true-Or}
use Rattle.ft_claims.specs.meaning.Claims.{claim_true}
use Rattle.ft_claims.specs.meaning.Parts.{definition, move_of}
use Rattle.ft_oblige.specs.laws.ListPartLaws.{InListSpans}
use Rattle.ft_oblige.specs.laws.ReadsThere.{var_of}
use Rattle.ft_oblige.specs.laws.Scans.{every_scan, each_scan}
use Rattle.ft_oblige.specs.laws.Tests.{every_image, both_lists, of_filter}
use Rattle.ft_oblige.specs.meaning.Lists.{by_scan, list_frame, nat_claims, list_parts, defined_places, definitions_at, moves_at, sides_at}
use Rattle.ft_oblige.specs.meaning.Lists.{differs_at, difference_parts}
use Rattle.ft_unroll.specs.meaning.Unrolling.{MeetsSection, MeetsNat, MeetsScans, MeetsDifference}
use Rattle.ft_unroll.proofs.ScanLists.{each_place, each_chosen, any_chosen, some_passes}

-- the other truth
not_true : (b : Bool) → not b ≡ true → b ≡ false
not_true true h = absurd (true≢false (sym h))
not_true false h = refl

is_one : (S : Tables) (kinds : Kinds) (x : ℕ) (v : Var) → IsVar S kinds x v → is_of S.vars kinds x ≡ true
is_one S kinds x v is = ap (λ (o : Option Var). elim o as (λ z. Bool) [ None ↦ false | Some u ↦ kinds x u ]) is.0 ∙ is.1

module _ (S : Tables) (σ : ℕ → ℤ) where
  abbrev p : Claim → Bool
  p = claim_true σ

  -- definitions at a scan
  section_from : (section : Section) (t x : ℕ) (v : Var) → list_all (claim_true σ) (definitions_at S section t) ≡ true
      → IsVar S (defined_kinds section) x v → claim_true σ (definition S section (list_frame S t) x) ≡ true
  section_from section t x v all is =
      let low = slice_get_within S.vars x v is.0 in
      each_chosen (λ y. claim_true σ (definition S section (list_frame S t) y)) (is_of S.vars (defined_kinds section)) 0 (length S.vars) x
      (sym (list_all-map p (definition S section (list_frame S t)) (defined_places S section)) ∙ all) (omega arith) (omega (arith, low))
      (is_one S (defined_kinds section) x v is)

  section_into : (section : Section) (t : ℕ)
      → ((x : ℕ) (v : Var) → IsVar S (defined_kinds section) x v → claim_true σ (definition S section (list_frame S t) x) ≡ true)
      → list_all (claim_true σ) (definitions_at S section t) ≡ true
  section_into section t met = every_image p (definition S section (list_frame S t)) (defined_places S section) (λ k x at.
      let v = var_of S (defined_kinds section) x (of_filter (is_of S.vars (defined_kinds section))
      (range_with_len 0 (length S.vars)) k x at) in
      met x v.0 v.1)

  -- moves at a scan
  moves_from : (t m : ℕ) (memory : tables.Memory) → list_all (claim_true σ) (moves_at S t) ≡ true → slice_get S.memories m ≡ Some memory
      → claim_true σ (move_of S (list_frame S t) m (Some memory)) ≡ true
  moves_from t m memory all is =
      let low = slice_get_within S.memories m memory is in
      ap (λ o. claim_true σ (move_of S (list_frame S t) m o)) (sym is)
      ∙ each_place (λ k. claim_true σ (move_of S (list_frame S t) k (slice_get S.memories k))) 0 (length S.memories) m
      (sym (list_all-map p (λ k. move_of S (list_frame S t) k (slice_get S.memories k)) (range_with_len 0 (length S.memories))) ∙ all)
      (omega arith) (omega (arith, low))

  moves_into : (t : ℕ)
      → ((m : ℕ) (memory : tables.Memory) → slice_get S.memories m ≡ Some memory
      → claim_true σ (move_of S (list_frame S t) m (Some memory)) ≡ true)
      → list_all (claim_true σ) (moves_at S t) ≡ true
  moves_into t met = every_image p (λ k. move_of S (list_frame S t) k (slice_get S.memories k)) (range_with_len 0 (length S.memories))
      (λ k m at. one m (slice_get S.memories m) refl)
    where
      one : (m : ℕ) (o : Option tables.Memory) → slice_get S.memories m ≡ o → claim_true σ (move_of S (list_frame S t) m o) ≡ true
      one m None is = true-And σ []
      one m (Some memory) is = met m memory is

  -- both sides at a scan, taken apart
  pub record SidesAre (t : ℕ) : Type 0 where
    pub req : list_all (claim_true σ) (definitions_at S section.Req t) ≡ true
    pub sof : list_all (claim_true σ) (definitions_at S section.Sof t) ≡ true
    pub ins : list_all (claim_true σ) (definitions_at S section.In t) ≡ true
    pub moved : list_all (claim_true σ) (moves_at S t) ≡ true

  sides_are : (t : ℕ) → list_all (claim_true σ) (sides_at S t) ≡ true → SidesAre t
  sides_are t all =
      let req = definitions_at S section.Req t in
      let sof = definitions_at S section.Sof t in
      let ins = definitions_at S section.In t in
      let one = and_parts (list_all p ((req ++ sof) ++ ins)) (list_all p (moves_at S t))
      (sym (list_all-append p ((req ++ sof) ++ ins) (moves_at S t)) ∙ all) in
      let two = and_parts (list_all p (req ++ sof)) (list_all p ins) (sym (list_all-append p (req ++ sof) ins) ∙ one.0) in
      let three = and_parts (list_all p req) (list_all p sof) (sym (list_all-append p req sof) ∙ two.0) in
      record { req = three.0; sof = three.1; ins = two.1; moved = one.1 }

  -- the parts of both sides and the clauses say that the numbers meet them
  pub meets_from : (n : ℕ) → InListSpans S n σ → list_all (claim_true σ) (by_scan (sides_at S) n) ≡ true → MeetsNat S n σ → MeetsScans S n σ
  meets_from n spans sides nat = record {
    spans = spans;
    inputs = λ t x v l is. section_from section.In t x v (at t l).ins is;
    required = λ t x v l is. section_from section.Req t x v (at t l).req is;
    designed = λ t x v l is. section_from section.Sof t x v (at t l).sof is;
    moved = λ t m memory l is. moves_from t m memory (at t l).moved is;
    clauses = nat;
  }
    where
      at : (t : ℕ) → t < n → SidesAre t
      at t l = sides_are t (each_scan p (sides_at S) n sides t l)

  pub meets_into : (n : ℕ) → MeetsScans S n σ → list_all (claim_true σ) (by_scan (sides_at S) n) ≡ true
  meets_into n met = every_scan p (sides_at S) n (λ t l.
      both_lists p _ (moves_at S t)
      (both_lists p _ (definitions_at S section.In t)
      (both_lists p (definitions_at S section.Req t) (definitions_at S section.Sof t)
      (section_into section.Req t (λ x v is. met.required t x v l is))
      (section_into section.Sof t (λ x v is. met.designed t x v l is)))
      (section_into section.In t (λ x v is. met.inputs t x v l is)))
      (moves_into t (λ m memory is. met.moved t m memory l is)))

  -- the clauses
  pub nat_from : (n : ℕ) → list_all (claim_true σ) (list_parts S n) ≡ true → MeetsNat S n σ
  nat_from n all = each_scan p (nat_claims S) n all

  pub nat_into : (n : ℕ) → MeetsNat S n σ → list_all (claim_true σ) (list_parts S n) ≡ true
  nat_into n met = every_scan p (nat_claims S) n met

  -- a difference
  pub differs_from : (k : ℕ) → claim_true σ (differs_at S k) ≡ true
      → list_all (claim_true σ) (by_scan (definitions_at S section.Out) k) ≡ true
      → MeetsDifference S k σ
  differs_from k differs outs =
      let denied = λ (x : ℕ). Not (definition S section.Out (list_frame S k) x) in
      let some = some_passes (λ x. claim_true σ (Not (definition S section.Out (list_frame S k) x))) (defined_places S section.Out)
      (sym (true-Or σ (map denied (defined_places S section.Out)) ∙ list_any-map p denied (defined_places S section.Out)) ∙ differs) in
      let v = var_of S controlled some.1 (of_filter (is_of S.vars controlled) (range_with_len 0 (length S.vars)) some.0 some.1 some.2) in
      record {
        same_before = λ t x u l is. section_from section.Out t x u (each_scan p (definitions_at S section.Out) k outs t l) is;
        variable = some.1;
        declared = v.0;
        is_controlled = v.1;
        differs = not_true _ (sym (true-Not σ (definition S section.Out (list_frame S k) some.1)) ∙ some.3);
      }

  pub differs_into : (k : ℕ) → MeetsDifference S k σ → claim_true σ (differs_at S k) ≡ true
  differs_into k d =
      let denied = λ (x : ℕ). Not (definition S section.Out (list_frame S k) x) in
      let low = slice_get_within S.vars d.variable d.declared d.is_controlled.0 in
      true-Or σ (map denied (defined_places S section.Out)) ∙ list_any-map p denied (defined_places S section.Out)
      ∙ any_chosen (λ x. claim_true σ (Not (definition S section.Out (list_frame S k) x))) (is_of S.vars controlled)
      0 (length S.vars) d.variable
      (omega arith) (omega (arith, low)) (is_one S controlled d.variable d.declared d.is_controlled)
      (true-Not σ (definition S section.Out (list_frame S k) d.variable) ∙ ap not d.differs)

  pub outs_into : (k : ℕ) → MeetsSection S section.Out k σ → list_all (claim_true σ) (by_scan (definitions_at S section.Out) k) ≡ true
  outs_into k met = every_scan p (definitions_at S section.Out) k (λ t l. section_into section.Out t (λ x v is. met t x v l is))

  -- all parts of a difference at the last of n scans
  pub difference_from : (n : ℕ) → InListSpans S n σ → list_all (claim_true σ) (difference_parts S n) ≡ true
      → MeetsScans S n σ × MeetsDifference S (n - 1) σ
  difference_from n spans all =
      let outs = by_scan (definitions_at S section.Out) (n - 1) in
      let sides = by_scan (sides_at S) n in
      let one = and_parts (p (differs_at S (n - 1))) (list_all p ((outs ++ sides) ++ list_parts S n)) all in
      let two = and_parts (list_all p (outs ++ sides)) (list_all p (list_parts S n))
      (sym (list_all-append p (outs ++ sides) (list_parts S n)) ∙ one.1) in
      let three = and_parts (list_all p outs) (list_all p sides) (sym (list_all-append p outs sides) ∙ two.0) in
      (meets_from n spans three.1 (nat_from n two.1), differs_from (n - 1) one.0 three.0)

  pub difference_into : (n : ℕ) → MeetsScans S n σ → MeetsDifference S (n - 1) σ → list_all (claim_true σ) (difference_parts S n) ≡ true
  difference_into n met d = and_from _ _ (differs_into (n - 1) d)
      (both_lists p _ (list_parts S n)
      (both_lists p (by_scan (definitions_at S section.Out) (n - 1)) (by_scan (sides_at S) n) (outs_into (n - 1) d.same_before)
      (meets_into n met))
      (nat_into n met.clauses))
