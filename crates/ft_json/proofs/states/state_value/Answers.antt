use Rattle.std.proofs.Common.{◌≡◌, ◌∙◌, ap, sym, subst, refl, ◌+◌, ◌++◌, ◌∷◌, [], arith, length, length-append, rules, take, w64, FitsSigned}
use Rattle.std.proofs.lemmas.Int.{to_z-of_z}
use Rattle.std.specs.Iterator.Adapters.{zip_first, zip_second}
use Rattle.std.specs.List.{fold, zip}
use Rattle.std.specs.Slice.Iter.{iter_rest}
use Rattle.std.proofs.lemmas.Slice.Zip.{zip_end, zip_turn}
use Rattle.serde_json.specs.Data.{no_members, object}
use Rattle.serde_json.specs.View.{members_view}
use Rattle.ft_json.specs.meaning.Values.{with_label}
use Rattle.ft_json.proofs.StateLemmas.{all-labels, one-more}
use Rattle.ft_json.proofs.states.state_value.Goals as goal

pub labels-init : goal.labels-init
labels-init c = search rules

pub labels-preserved : goal.labels-preserved
labels-preserved c =
    let labels = c.args.state.now.labels in
    let values = c.args.state.now.values in
    let first : iter_rest (zip_first c.into_iter-label-iterator.result) ≡ labels = search rules in
    let second : iter_rest (zip_second c.into_iter-label-iterator.result) ≡ values = search rules in
    let turn = zip_turn labels values c.labels.yielded c.into_iter-label-iterator.result c.labels.label-iterator c.next.new.self
    c.next.result first second c.labels.yielded_by (c.in-Some.label, c.in-Some.value) c.in-Some.is c.next.ensures.steps in
    let more : length (c.labels.yielded ++ (c.in-Some.label, c.in-Some.value) ∷ []) ≡ length c.labels.yielded + 1 = length-append _ _ in
    let fits : FitsSigned w64 c.in-Some.value.now = search rules in
    one-more labels values (length c.labels.yielded) c.in-Some.label.now c.in-Some.value.now (members_view c.labels.members.entries)
    (members_view c.put_label.new.members.entries) turn.0 turn.1 (turn.2 c.in-Some.label.now) (turn.3 c.in-Some.value.now)
    c.labels.invariant (simp to_z-of_z at c.in_ok-put_label.ensures)
    ∙ sym (ap (λ n. fold with_label no_members (take n (zip labels values))) more)

pub returns : goal.returns
returns c =
    let labels = c.args.state.now.labels in
    let values = c.args.state.now.values in
    let first : iter_rest (zip_first c.into_iter-label-iterator.result) ≡ labels = search rules in
    let second : iter_rest (zip_second c.into_iter-label-iterator.result) ≡ values = search rules in
    let whole = zip_end labels values c.labels.yielded c.into_iter-label-iterator.result c.labels.label-iterator c.next.new.self
    c.next.result first second c.labels.yielded_by c.in-None.is c.next.ensures.steps in
    c.from.ensures ∙ ap object (all-labels labels values (length c.labels.yielded) (members_view c.labels.members.entries) whole c.labels.invariant)
