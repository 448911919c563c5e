-- Certificates that close the obligations of a set one after another, and the first that doesn't.
use Rattle.std.proofs.Common.{◌≡◌, ◌∙◌, sym, ap, subst, refl, ℕ, ◌+◌, ◌-◌, ◌*◌, ◌<◌, ◌≤◌, ℤ, List, length, Some, slice_get, arith}
use Rattle.std.proofs.Common.{⊎_elim, Result, Ok, Err, OnOk, IfErr, sum_by}
use Rattle.std.proofs.lemmas.Bool.{cases_lt}
use Rattle.std.proofs.lemmas.Option.{slice_get_within}
use Rattle.ft_core.specs.declared.tables.Tables.{Tables}
use Rattle.ft_core.specs.declared.tables.Block.{Block}
use Rattle.ft_core.specs.laws.Places.{one-at, some-at}
use Rattle.ft_linear.specs.meaning.Form.{InArea, values_at}
use Rattle.ft_linear.specs.meaning.Formula.{FormulaView, truth_at}
use Rattle.ft_settle.specs.meaning.Raw.{raw_truth}
use Rattle.ft_settle.specs.meaning.Settled.{settled}
use Rattle.ft_cert.specs.meaning.Evidence.{Holds, IsFirstRefused}
use Rattle.ft_cert.specs.meaning.Parts.{whole_of}
use Rattle.ft_cert.specs.meaning.Tree.{Tree}
use Rattle.ft_check.specs.declared.fault.CertFault.{CertFault}
use Rattle.ft_check.specs.declared.fault.CertFault.TheVariants as fault
use Rattle.ft_check.specs.meaning.Fault.{IsFaultOf}
use Rattle.ft_mean.specs.meaning.Proper.{AllProper}
use Rattle.ft_claims.specs.meaning.Areas.{Obliged}
use Rattle.ft_claims.specs.meaning.Coverage.{cover_parts}
use Rattle.ft_claims.specs.meaning.Points.{IsPointOf}
use Rattle.ft_claims.specs.meaning.Spans.{cover_spans}
use Rattle.ft_oblige.specs.laws.ReadsThere.{blocks_of}
use Rattle.ft_oblige.specs.declared.made.Obligation.{Obligation}
use Rattle.ft_oblige.specs.meaning.Blocks.{block_parts}
use Rattle.ft_oblige.specs.meaning.Made.{IsNumbered}
use Rattle.ft_oblige.specs.meaning.Obligations.{IsObligation, of_table, of_fact, obligation_count}
use Rattle.ft_oblige.specs.meaning.States.{slot_spans}
use Rattle.ft_oblige.specs.meaning.Tried.{HasNoPoint}
use Rattle.ft_cover.specs.laws.ClosedLaws.{ClosedTablesAreProper}
use Rattle.ft_cover.specs.meaning.Attempted.{IsClosedAt}
use Rattle.ft_cover.specs.meaning.Covered.{IsCertOf}
use Rattle.ft_compose.specs.building.Checking.{told_of, IsRefusal, CloseFirst, CloseAll}
use Rattle.ft_compose.specs.declared.checking.CertsFault.{CertsFault}
use Rattle.ft_compose.specs.declared.checking.CertsFault.TheVariants.{Refused, NoMemory}
use Rattle.ft_compose.specs.laws.DecidingLaws.{DecidingLaws}
use Rattle.ft_compose.specs.meaning.Checked.{AreAllCerts, HoldBefore, IsRefusedAt, at_node, missing, extra, IsCertsFault}
use Rattle.ft_compose.specs.meaning.Decided.{AllClose}

-- the settled formula of an obligation is as true as its formula
settled_alike : DecidingLaws → (S : Tables) (n : ℕ) (o : Obliged) → IsObligation S n o → (x : ℕ → ℤ)
    → truth_at (settled o.formula) x ≡ raw_truth x o.formula
settled_alike laws S n o (of_table k table fault ms subject at are is) x =
    subst (λ (p : Obliged). truth_at (settled p.formula) x ≡ raw_truth x p.formula) (sym is)
    (laws.settled (cover_spans S) (cover_parts S fault table.grid ms) x)
settled_alike laws S n o (of_fact b f block fact anew marks subject at are is) x =
    subst (λ (p : Obliged). truth_at (settled p.formula) x ≡ raw_truth x p.formula) (sym is)
    (laws.settled (slot_spans S) (block_parts S anew block fact marks) x)

module _ (S : Tables) (n : ℕ) (o : Obligation) (numbered : IsNumbered S n o) (cert : Tree) where
  -- a certificate that holds for the obligation that was made closes the one with this number
  pub closed_by : DecidingLaws → Holds o.formula (whole_of o.formula o.area.spans) cert → HasNoPoint o.formula o.area.spans
      → IsClosedAt S n cert
  closed_by laws holds none = record {
    obliged = numbered.obliged;
    there = numbered.its;
    closes = λ other have p point.
        let mine = subst (λ (x : Obliged). IsPointOf x p) (laws.one_obligation S n other numbered.obliged have numbered.its) point in
        none (values_at p)
        (subst (λ spans. InArea spans (values_at p)) (sym numbered.form.area) mine.in_area)
        (ap (λ f. truth_at f (values_at p)) numbered.form.formula
        ∙ settled_alike laws S n numbered.obliged numbered.its (values_at p) ∙ mine.satisfies);
    its = λ other have. subst (λ (x : Obliged). Holds (settled x.formula) (whole_of (settled x.formula) x.spans) cert)
        (laws.one_obligation S n numbered.obliged other numbered.its have)
        (subst (λ (f : FormulaView). Holds f (whole_of f numbered.obliged.spans) cert) numbered.form.formula
        (subst (λ (spans : List (ℤ × ℤ)). Holds o.formula (whole_of o.formula spans) cert) numbered.form.area holds));
  }

  -- and what is refused of the one is refused of the other
  pub refusal : (found : CertFault) (answer : CertsFault) → answer ≡ told_of n found
      → IsFaultOf o.formula (whole_of o.formula o.area.spans) cert found → IsRefusal S n cert answer
  refusal (fault.Node node) answer is first = subst (IsRefusal S n cert) (sym is) (
    refl,
    record {
      obliged = numbered.obliged;
      its = numbered.its;
      first = subst (λ (f : FormulaView). IsFirstRefused f (whole_of f numbered.obliged.spans) cert node) numbered.form.formula
          (subst (λ (spans : List (ℤ × ℤ)). IsFirstRefused o.formula (whole_of o.formula spans) cert node) numbered.form.area first);
    },
  )
  refusal fault.NoMemory answer is first = subst (IsRefusal S n cert) (sym is) tt

  -- where the check of it accepts
  pub closed_where_ok : DecidingLaws → (r : Result (Unit {0}) CertFault) (u : Unit {0}) → r ≡ Ok u
      → OnOk r (Holds o.formula (whole_of o.formula o.area.spans) cert) → OnOk r (HasNoPoint o.formula o.area.spans) → IsClosedAt S n cert
  closed_where_ok laws r u is holds none = closed_by laws
      (subst (λ s. OnOk s (Holds o.formula (whole_of o.formula o.area.spans) cert)) is holds)
      (subst (λ s. OnOk s (HasNoPoint o.formula o.area.spans)) is none)

  -- and where it refuses
  pub refusal_where_err : (r : Result (Unit {0}) CertFault) (found : CertFault) → r ≡ Err found
      → IfErr r (IsFaultOf o.formula (whole_of o.formula o.area.spans) cert) → (answer : CertsFault) → answer ≡ told_of n found
      → IsRefusal S n cert answer
  refusal_where_err r found is first answer told =
      refusal found answer told (subst (λ s. IfErr s (IsFaultOf o.formula (whole_of o.formula o.area.spans) cert)) is first)

pub none_closed : (S : Tables) (certs : List Tree) → CloseFirst S 0 certs
none_closed S certs i cert l at = absurd (omega (arith, l))

pub more_closed : (S : Tables) (n : ℕ) (certs : List Tree) (cert : Tree) → slice_get certs n ≡ Some cert → CloseFirst S n certs
    → IsClosedAt S (n + 1) cert → CloseFirst S (n + 1) certs
more_closed S n certs cert there before closed i other l at = ⊎_elim
    (λ below. before i other below at)
    (λ past.
    let e : n ≡ i = omega (arith, l, past) in
    subst (λ m. IsClosedAt S (m + 1) other) e
    (subst (IsClosedAt S (n + 1))
    (one-at certs n cert other there (subst (λ m. slice_get certs m ≡ Some other) (sym e) at)) closed))
    (cases_lt i n)

-- those that close hold
hold-before : (S : Tables) (n : ℕ) (certs : List Tree) → CloseFirst S n certs → HoldBefore S (n + 1) certs
hold-before S n certs closed i cert l at = (closed i cert (omega (arith, l)) at).its

-- the first that is refused
pub first_refused : (S : Tables) (n : ℕ) (certs : List Tree) (cert : Tree) (found : CertsFault) → slice_get certs n ≡ Some cert
    → CloseFirst S n certs → IsRefusal S (n + 1) cert found → IsCertsFault S certs found
first_refused S n certs cert (Refused number node) there closed refused =
    let number_is = refused.0 in
    let e : n ≡ number - 1 = omega (arith, number_is) in
    at_node cert (omega (arith, number_is)) (subst (λ m. slice_get certs m ≡ Some cert) e there)
    (subst (λ m. IsRefusedAt S m node cert) (sym number_is) refused.1)
    (subst (λ m. HoldBefore S m certs) (sym number_is) (hold-before S n certs closed))
first_refused S n certs cert NoMemory there closed refused = tt

-- the obligations of a set have small numbers
pub few_obligations : (S : Tables) → obligation_count S ≤ 2000
few_obligations S = few (length S.tables) (sum_by (λ (block : Block). length block.facts) S.blocks) S.sound.few_tables (blocks_of S).few_facts
  where
    few : (tables facts : ℕ) → tables ≤ 400 → facts ≤ 400 → 3 * tables + 2 * facts ≤ 2000
    few tables facts t f = omega (arith, t, f)

-- where all that are there and needed close, the number of them tells the rest
module _ (S : Tables) (certs : List Tree) (needed given there : ℕ) (needed_is : needed ≡ obligation_count S) (given_is : given ≡ length certs)
    (low_needed : there ≤ needed) (low_given : there ≤ given) (most : there < given → there ≡ needed) (closed : CloseFirst S there certs) where
  pub all_closed : given ≡ needed → CloseAll S certs
  all_closed same = ⊎_elim
      (λ less. let is = most less in absurd (omega (arith, is, less, same)))
      (λ past.
      let e : there ≡ obligation_count S = omega (arith, past, low_given, same, needed_is) in
      (omega (arith, needed_is, given_is, same), subst (λ m. CloseFirst S m certs) e closed))
      (cases_lt there given)

  pub miscounted : (given ≡ needed → ⊥) → (found : CertsFault) → found ≡ Refused (there + 1) 0 → IsCertsFault S certs found
  miscounted differ found is = subst (IsCertsFault S certs) (sym is) (⊎_elim
      (λ less.
      let all = most less in
      extra (omega (arith, all, less, needed_is, given_is)) (omega (arith, all, needed_is)) refl (hold-before S there certs closed))
      (λ past.
      missing
      (⊎_elim (λ few. omega (arith, few, needed_is, given_is))
      (λ many. absurd (differ (omega (arith, many, past, low_needed, low_given))))
      (cases_lt given needed))
      (omega (arith, past, low_given, given_is)) refl (hold-before S there certs closed))
      (cases_lt there given))

-- each obligation is closed
closed_at : (S : Tables) (certs : List Tree) → CloseAll S certs → (n : ℕ) → 0 < n → n ≤ obligation_count S
    → (cert : Tree) × IsClosedAt S n cert
closed_at S certs closed n some last =
    let i = n - 1 in
    let e : i + 1 ≡ n = omega (arith, some) in
    let long = closed.0 in
    let cert = some-at certs i (omega (arith, some, last, long)) in
    (cert.0, subst (λ m. IsClosedAt S m cert.0) e (closed.1 i cert.0 (omega (arith, some, last)) cert.1))

pub all_certs : (S : Tables) (certs : List Tree) → CloseAll S certs → AreAllCerts S certs
all_certs S certs closed = (
  closed.0,
  λ i cert at.
      let l = slice_get_within certs i cert at in
      let long = closed.0 in
      (closed.1 i cert (omega (arith, l, long)) at).its,
)

pub all_close : (S : Tables) (certs : List Tree) → CloseAll S certs → AllClose S
all_close S certs closed n some last = (closed_at S certs closed n some last).1.closes

pub all_proper : ClosedTablesAreProper → (S : Tables) (certs : List Tree) → CloseAll S certs → AllProper S
all_proper law S certs closed = law S (λ n some last.
    let one = (closed_at S certs closed n some (omega (arith, last))).1 in
    record { obliged = one.obliged; there = one.there; closes = one.closes })

-- where all hold nothing is refused but for memory
pub memory_only : (S : Tables) (certs : List Tree) → AreAllCerts S certs → (found : CertsFault) → IsCertsFault S certs found
    → found ≡ NoMemory
memory_only S certs all NoMemory is = refl
memory_only S certs all (Refused n node) (missing few is at hold) =
    let same = all.0 in absurd (omega (arith, few, same))
memory_only S certs all (Refused n node) (extra many is at hold) =
    let same = all.0 in absurd (omega (arith, many, same))
memory_only S certs all (Refused n node) (at_node cert some there refused hold) =
    let e : (n - 1) + 1 ≡ n = omega (arith, some) in
    let holds = subst (λ m. IsCertOf S m cert) e (all.1 (n - 1) cert there) refused.obliged refused.its in
    absurd (refused.first.fails (holds.each refused.first.place refused.first.refused refused.first.stands))
