-- The parts of the formulas of lists have names of their scans, and positive divisors.
use Rattle.std.proofs.Common.{◌≡◌, ◌∙◌, sym, ap, refl, ℕ, zero, suc, ◌+◌, ◌-◌, ◌*◌, ◌<◌, ◌≤◌, Bool, true, false, cond, List, ◌++◌, map}
use Rattle.std.proofs.Common.{length}
use Rattle.std.proofs.Common.{slice_get, [], Option, None, Some, arith, ⊎_elim}
use Rattle.std.specs.List.{Contains, list_all, range_with_len}
use Rattle.std.proofs.lemmas.Bool.{and_from, cases_lt}
use Rattle.std.proofs.lemmas.List.Folds.{list_all-map}
use Rattle.std.proofs.Math.Nat.{suc-mul}
use Rattle.ft_core.specs.declared.tables.Tables.{Tables}
use Rattle.ft_core.specs.declared.tables.Memory.{Memory}
use Rattle.ft_core.specs.declared.tables.Section.{Section}
use Rattle.ft_core.specs.declared.tables.Section.TheVariants as section
use Rattle.ft_core.specs.declared.term.Cond.{Cond}
use Rattle.ft_core.specs.meaning.Kinds.{monitored, defined_kinds, is_of}
use Rattle.ft_core.specs.meaning.Reads.{Read, cond_reads}
use Rattle.ft_mean.specs.meaning.Reading.{scan_before}
use Rattle.ft_claims.specs.declared.claim.Claim.{Claim, Claim-F, map-Claim, fold-Claim, roll-Claim, fold-roll-Claim}
use Rattle.ft_claims.specs.declared.claim.Claim.TheOpen as layer
use Rattle.ft_claims.specs.declared.claim.Claim.TheVariants.{Not, Or, rolls-Or}
use Rattle.ft_claims.specs.laws.GoodLaws.{IsThere, IsBelow}
use Rattle.ft_claims.specs.meaning.Formulas.{Collected, collected, layer_collected}
use Rattle.ft_claims.specs.meaning.Names.{width}
use Rattle.ft_claims.specs.meaning.Parts.{definition, move_of}
use Rattle.ft_oblige.specs.laws.ListPartLaws.{ListsAreGood, DifferencesAreGood}
use Rattle.ft_oblige.specs.laws.PartLaws.{Goods}
use Rattle.ft_oblige.specs.laws.ReadsThere.{there, var_of, now_there, step_there}
use Rattle.ft_oblige.specs.laws.Scans.{every_scan, scan_before_inside}
use Rattle.ft_oblige.specs.laws.Tests.{every_image, both_lists, of_filter}
use Rattle.ft_oblige.specs.meaning.Lists.{by_scan, is_first, list_frame, list_spans, clauses_at, nat_claims, list_parts, defined_places}
use Rattle.ft_oblige.specs.meaning.Lists.{definitions_at, moves_at, sides_at, differs_at, difference_parts}
use Rattle.ft_oblige.proofs.ListSpanLemmas.{lists_long}
use Rattle.ft_oblige.proofs.PartLemmas.{clauses_good, clauses_sized}

rolled : (base : ℕ) (c : Claim) (a_layer : Claim-F Claim) → roll-Claim a_layer ≡ c → collected base c
    ≡ layer_collected base (map-Claim Claim Collected (collected base) a_layer)
unfolding collected
rolled base c a_layer is = ap (fold-Claim Collected (layer_collected base)) (sym is)
    ∙ fold-roll-Claim Collected (layer_collected base) a_layer

-- a choice of claims that are good is good
or_good : (base : ℕ) (cs : List Claim) → list_all (λ c. (collected base c).good) cs ≡ true → (collected base (Or cs)).good ≡ true
or_good base cs h = ap (λ (g : Collected). g.good) (rolled base _ (layer.Or cs) (rolls-Or cs))
    ∙ list_all-map (λ (g : Collected). g.good) (collected base) cs ∙ h

-- the names of a scan end where those of the next one begin
scan_end : (w t n : ℕ) → t < n → t * w + w ≤ n * w
scan_end w t zero l = absurd (omega (arith, l))
scan_end w t (suc n) l = ⊎_elim
    (λ less. let low = scan_end w t n less in let more = suc-mul n w in omega (arith, low, more))
    (λ high. let same : t ≡ n = omega (arith, l, high) in
    let e : t * w ≡ n * w = ap (λ k. k * w) same in let more = suc-mul n w in omega (arith, e, more))
    (cases_lt t n)

module _ (goods : Goods) (S : Tables) (n t : ℕ) (inside : t < n) where
  abbrev base : ℕ
  base = length (list_spans S n)

  abbrev good : Claim → Bool
  good c = (collected base c).good

  below : IsBelow S (list_frame S t) base
  below =
      let long = lists_long S n in
      let end = scan_end (width S) t n inside in
      let before = scan_end (width S) (scan_before t) n (scan_before_inside n t inside) in
      record { this = omega (arith, long, end); prior = omega (arith, long, before) }

  nat_good : list_all good (nat_claims S t) ≡ true
  nat_good = clauses_of (is_first t)
    where
      first_there : (k : ℕ) (c : Cond) (r : Read) → slice_get S.first k ≡ Some c → Contains (cond_reads c) r → IsThere S r
      first_there k c r at it = there S r (now_there S monitored r (S.sound.first_reads k c r at it))

      always_there : (k : ℕ) (c : Cond) (r : Read) → slice_get S.always k ≡ Some c → Contains (cond_reads c) r → IsThere S r
      always_there k c r at it = there S r (now_there S monitored r (S.sound.always_reads k c r at it))

      step_is_there : (k : ℕ) (c : Cond) (r : Read) → slice_get S.step k ≡ Some c → Contains (cond_reads c) r → IsThere S r
      step_is_there k c r at it = step_there S monitored r (S.sound.step_reads k c r at it)

      always_good : list_all good (clauses_at S t S.always) ≡ true
      always_good = clauses_good goods S (list_frame S t) base below S.always always_there (clauses_sized S).1

      clauses_of : (b : Bool)
          → list_all good (cond b (clauses_at S t S.first ++ clauses_at S t S.always)
          (clauses_at S t S.always ++ clauses_at S t S.step)) ≡ true
      clauses_of true = both_lists good (clauses_at S t S.first) (clauses_at S t S.always)
          (clauses_good goods S (list_frame S t) base below S.first first_there (clauses_sized S).0) always_good
      clauses_of false = both_lists good (clauses_at S t S.always) (clauses_at S t S.step) always_good
          (clauses_good goods S (list_frame S t) base below S.step step_is_there (clauses_sized S).2)

  definition_good : (section : Section) (k x : ℕ) → slice_get (defined_places S section) k ≡ Some x
      → good (definition S section (list_frame S t) x) ≡ true
  definition_good section k x at =
      let of = of_filter (is_of S.vars (defined_kinds section)) (range_with_len 0 (length S.vars)) k x at in
      let v = var_of S (defined_kinds section) x of in
      goods.definitions S (list_frame S t) base below section x v.0 v.1

  definitions_good : (section : Section) → list_all good (definitions_at S section t) ≡ true
  definitions_good section = every_image good (definition S section (list_frame S t)) (defined_places S section) (definition_good section)

  moves_good : list_all good (moves_at S t) ≡ true
  moves_good = every_image good (λ m. move_of S (list_frame S t) m (slice_get S.memories m)) (range_with_len 0 (length S.memories))
      (λ k m at. one m (slice_get S.memories m) refl)
    where
      one : (m : ℕ) (o : Option Memory) → slice_get S.memories m ≡ o → good (move_of S (list_frame S t) m o) ≡ true
      one m None is = goods.conjunctions base [] refl
      one m (Some memory) is = goods.moves S (list_frame S t) base below m memory is

  sides_good : list_all good (sides_at S t) ≡ true
  sides_good =
      both_lists good _ (moves_at S t)
      (both_lists good _ (definitions_at S section.In t)
      (both_lists good (definitions_at S section.Req t) (definitions_at S section.Sof t) (definitions_good section.Req)
      (definitions_good section.Sof))
      (definitions_good section.In))
      moves_good

  differs_good : good (differs_at S t) ≡ true
  differs_good = or_good base (map (λ x. Not (definition S section.Out (list_frame S t) x)) (defined_places S section.Out))
      (every_image good (λ x. Not (definition S section.Out (list_frame S t) x)) (defined_places S section.Out) (λ k x at.
      goods.negations base (definition S section.Out (list_frame S t) x) (definition_good section.Out k x at)))

module _ (goods : Goods) (S : Tables) (n : ℕ) where
  abbrev good_at : Claim → Bool
  good_at c = (collected (length (list_spans S n)) c).good

  all_nat_good : list_all good_at (list_parts S n) ≡ true
  all_nat_good = every_scan good_at (nat_claims S) n (λ t l. nat_good goods S n t l)

  all_good : 0 < n → list_all good_at (difference_parts S n) ≡ true
  all_good some = and_from _ _ (differs_good goods S n (n - 1) (omega (arith, some)))
      (both_lists good_at _ (list_parts S n)
      (both_lists good_at (by_scan (definitions_at S section.Out) (n - 1)) (by_scan (sides_at S) n)
      (every_scan good_at (definitions_at S section.Out) (n - 1)
      (λ t l. definitions_good goods S n t (omega (arith, l)) section.Out))
      (every_scan good_at (sides_at S) n (λ t l. sides_good goods S n t l)))
      all_nat_good)

pub lists_good : Goods → ListsAreGood
lists_good goods S n = list_all-map (λ (c : Collected). c.good) (collected (length (list_spans S n))) (list_parts S n)
    ∙ all_nat_good goods S n

pub differences_good : Goods → DifferencesAreGood
differences_good goods S n some =
    list_all-map (λ (c : Collected). c.good) (collected (length (list_spans S n))) (difference_parts S n) ∙ all_good goods S n some
