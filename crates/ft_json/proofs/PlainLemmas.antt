-- A report has no number but whole ones.
use Rattle.std.proofs.Common.{◌≡◌, ap, refl, sym, ℕ, ℤ, pos, negsuc, List, [], ◌∷◌, ◌||◌, Bool, true, false, map, cond, length, ◌==◌, Ordering, Less, Equal, Greater}
use Rattle.std.specs.Prelude.{Some, None}
use Rattle.std.specs.List.{filter, fold, zip}
use Rattle.std.specs.Ordering.{match_ordering, nat_cmp}
use Rattle.std.specs.Cmp.Lexicographic.{slice_cmp}
use Rattle.serde_json.specs.Data.{Data, Members, member, no_members, number, put}
use Rattle.serde_json.specs.Find.{is_float, of_integer}
use Rattle.serde_json.specs.View.{items_of}
use Rattle.serde_json.specs.Written.{has_float, items_have_float, members_have_float}
use Rattle.ft_core.specs.declared.label.Label.{Label}
use Rattle.ft_core.specs.declared.label.State.{State}
use Rattle.ft_core.specs.declared.tables.Tables.{Tables}
use Rattle.ft_core.specs.declared.tables.Var.{Var}
use Rattle.ft_mean.specs.meaning.Reading.{Scans}
use Rattle.ft_trace.specs.rows.Row.{is_monitored}
use Rattle.ft_report.specs.meaning.States.{member_at}
use Rattle.ft_report.specs.declared.report.Report.{Report}
use Rattle.ft_report.specs.declared.report.Report.TheVariants as report
use Rattle.ft_json.specs.meaning.Json.{entries, json_of}
use Rattle.ft_json.specs.meaning.Values.{list_data, members_of, scan_data, state_data, text_data, value_data, variable_data, with_label}

both : (a b : Bool) → a ≡ false → b ≡ false → (a || b) ≡ false
both a b p q = λ i. p i || q i

whole : (z : ℤ) → is_float (of_integer z) ≡ false
whole (pos n) = refl
whole (negsuc n) = refl

either : (b : Bool) (x y : Data) → has_float x ≡ false → has_float y ≡ false → has_float (cond b x y) ≡ false
either true x y p q = p
either false x y p q = q

plain-value : (members : List (List ℕ)) (z : ℤ) → has_float (value_data members z) ≡ false
plain-value members z = either (length members == 0) (number (of_integer z)) (text_data (member_at members z)) (whole z) refl

plain-items : {A : Type 0} (f : A → Data) → ((x : A) → has_float (f x) ≡ false) → (xs : List A)
    → items_have_float (items_of (map f xs)) ≡ false
plain-items f each [] = refl
plain-items f each (x ∷ xs) = both (has_float (f x)) (items_have_float (items_of (map f xs))) (each x) (plain-items f each xs)

plain-scan : (vars : List Var) (scan : List ℤ) → has_float (scan_data vars scan) ≡ false
plain-scan vars scan = plain-items (variable_data scan) (λ v. plain-value v.members _) (filter is_monitored vars)

plain-list : (S : Tables) (list : Scans) → has_float (list_data S list) ≡ false
plain-list S list = plain-items (scan_data S.vars) (plain-scan S.vars) list

by-order : (o : Ordering) (a b c : Members) → members_have_float a ≡ false → members_have_float b ≡ false
    → members_have_float c ≡ false → members_have_float (match_ordering o a b c) ≡ false
by-order Less a b c p q r = p
by-order Equal a b c p q r = q
by-order Greater a b c p q r = r

plain-parts : (a b : Bool) → (a || b) ≡ false → (a ≡ false) × (b ≡ false)
plain-parts false b is = (refl, is)
plain-parts true b is = cc

plain-put : (k : List ℕ) (d : Data) → has_float d ≡ false → (ms : Members) → members_have_float ms ≡ false
    → members_have_float (put k d ms) ≡ false
plain-put k d plain no_members all = both (has_float d) false plain refl
plain-put k d plain (member l e ms) all =
    let parts = plain-parts (has_float e) (members_have_float ms) all in
    by-order (slice_cmp nat_cmp k l) (member k d (member l e ms)) (member l d ms) (member l e (put k d ms))
    (both (has_float d) (members_have_float (member l e ms)) plain all) (both (has_float d) (members_have_float ms) plain parts.1)
    (both (has_float e) (members_have_float (put k d ms)) parts.0 (plain-put k d plain ms parts.1))

plain-labels : (entries : List (Label × ℤ)) (ms : Members) → members_have_float ms ≡ false
    → members_have_float (fold with_label ms entries) ≡ false
plain-labels [] ms all = all
plain-labels (e ∷ es) ms all = plain-labels es (with_label ms e) (plain-put _ (value_data e.0.members e.1) (plain-value e.0.members e.1) ms all)

plain-state : (state : State) → has_float (state_data state) ≡ false
plain-state state = plain-labels (zip state.labels state.values) no_members refl

plain-last : (a : Bool) → a ≡ false → (a || false) ≡ false
plain-last a is = both a false is refl

pub plain-entries : (status : ℕ) (verdict : List ℕ) (r : Report) → members_have_float (members_of (entries status verdict r)) ≡ false
plain-entries status verdict report.Usage = refl
plain-entries status verdict report.ReadFault = refl
plain-entries status verdict (report.TooLong which) = refl
plain-entries status verdict report.NoMemory = refl
plain-entries status verdict (report.Refused fault) = refl
plain-entries status verdict (report.Printed tree) = refl
plain-entries status verdict (report.Gap S k state) = plain-last (has_float (state_data state)) (plain-state state)
plain-entries status verdict (report.Overlap S k first second state) = plain-last (has_float (state_data state)) (plain-state state)
plain-entries status verdict (report.OutOfRange S k cell state) = plain-last (has_float (state_data state)) (plain-state state)
plain-entries status verdict (report.NatStops length) = refl
plain-entries status verdict (report.Fails S n req out state short) = plain-last (has_float (state_data state)) (plain-state state)
plain-entries status verdict (report.Spent S subject tree None) = refl
plain-entries status verdict (report.Spent S subject tree (Some short)) = refl
plain-entries status verdict (report.Verified S list) = plain-last (has_float (list_data S list)) (plain-list S list)
plain-entries status verdict (report.Demo n S list) = refl
plain-entries status verdict (report.Refuted S list scan) = plain-last (has_float (list_data S list)) (plain-list S list)
plain-entries status verdict (report.Agree scans) = refl
plain-entries status verdict (report.Differ scan) = refl
plain-entries status verdict (report.TraceRefused fault) = refl
plain-entries status verdict (report.NatRefuses scan) = refl
