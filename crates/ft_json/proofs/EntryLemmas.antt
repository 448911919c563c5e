-- The members of each report, by what was put beside its status and its verdict.
use Rattle.std.proofs.Common.{◌≡◌, ◌∙◌, ap, sym, subst, ℕ, List, ◌∷◌, ◌++◌, codes}
use Rattle.std.specs.Prelude.{Option, Some, None, OnOk, Result}
use Rattle.std.proofs.lemmas.Result.{on_ok_weaker}
use Rattle.serde_json.specs.Data.{Members, put}
use Rattle.ft_core.specs.declared.label.State.{State}
use Rattle.ft_core.specs.declared.tables.Tables.{Tables}
use Rattle.ft_mean.specs.meaning.Reading.{Scans}
use Rattle.ft_report.specs.declared.report.Report.{Report}
use Rattle.ft_report.specs.declared.report.Report.TheVariants as report
use Rattle.ft_report.specs.declared.short.Short.{Short}
use Rattle.ft_report.specs.declared.short.Subject.{Subject}
use Rattle.ft_json.specs.building.Adding.{Adds, with_counts, with_fails, with_fault, with_list, with_short, with_shorts, with_spent, with_state}
use Rattle.ft_json.specs.meaning.Json.{ends, short_entries, shown}
use Rattle.ft_json.specs.meaning.Values.{count_data, members_of, state_data, text_data}
use Rattle.ft_report.specs.meaning.Report.{short_words, spent_words}
use Rattle.ft_report.specs.meaning.Titles.{obligation_name}

pub of-verified : (S : Tables) (list : Scans) (old new : Members) → new ≡ with_list S list (with_counts S old)
    → Adds (report.Verified S list) old new
of-verified S list old new is status verdict begun = is ∙ ap (λ ms. with_list S list (with_counts S ms)) begun

pub of-refuted : (S : Tables) (list : Scans) (scan : ℕ) (old new : Members)
    → new ≡ with_list S list (put (codes "scan") (count_data scan) old) → Adds (report.Refuted S list scan) old new
of-refuted S list scan old new is status verdict begun = is ∙ ap (λ ms. with_list S list (put (codes "scan") (count_data scan) ms)) begun

pub of-fails : (S : Tables) (n : ℕ) (state : State) (short : Short) (old new : Members)
    → new ≡ with_fails S n (with_short S short (with_state state old)) → (status : ℕ) (verdict : List ℕ)
    → old ≡ members_of (ends status verdict)
    → new ≡ members_of ((codes "fails", text_data (obligation_name S n)) ∷ (codes "set", text_data S.name)
    ∷ (codes "short", text_data (short_words S short)) ∷ (codes "state", state_data state) ∷ ends status verdict)
of-fails S n state short old new is status verdict begun =
    is ∙ ap (λ ms. with_fails S n (with_short S short (with_state state ms))) begun

-- with what is known of short lists, and without
pub of-spent : (S : Tables) (subject : Subject) (short : Option Short) (old new : Members)
    → new ≡ with_spent S subject (with_shorts S short old) → (status : ℕ) (verdict : List ℕ) → old ≡ members_of (ends status verdict)
    → new ≡ members_of ((codes "set", text_data S.name)
    ∷ (short_entries S short ++ ((codes "spent", text_data (spent_words S subject)) ∷ ends status verdict)))
of-spent S subject None old new is status verdict begun = is ∙ ap (λ ms. with_spent S subject ms) begun
of-spent S subject (Some short) old new is status verdict begun = is ∙ ap (λ ms. with_spent S subject (with_short S short ms)) begun

pub of-fault : (fault : List ℕ) (old new : Members) → new ≡ with_fault fault old → (status : ℕ) (verdict : List ℕ)
    → old ≡ members_of (ends status verdict) → new ≡ members_of ((codes "fault", text_data fault) ∷ ends status verdict)
of-fault fault old new is status verdict begun = is ∙ ap (λ ms. with_fault fault ms) begun

pub of-shown : (fault : List ℕ) (state : State) (old new : Members) → new ≡ with_state state (with_fault fault old) → (status : ℕ)
    (verdict : List ℕ) → old ≡ members_of (ends status verdict) → new ≡ members_of (shown fault state (ends status verdict))
of-shown fault state old new is status verdict begun = is ∙ ap (λ ms. with_state state (with_fault fault ms)) begun

-- what was put of a report that is known is put of that report
pub told : {T E P : Type 0} (result : Result T E) (given r : Report) (old new : Members) → given ≡ r → (P → Adds r old new) → OnOk result P
    → OnOk result (Adds given old new)
told result given r old new is so clause = on_ok_weaker result (λ p. subst (λ x. Adds x old new) (sym is) (so p)) clause
