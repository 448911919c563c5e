use Rattle.std.proofs.Common.{rules, ◌≡◌, ◌∙◌, sym, ap, w64, FitsSigned, to_z, of_z}
use Rattle.std.specs.List.{position_or_len}
use Rattle.std.proofs.lemmas.Int.{to_z-of_z}
use Rattle.indexmap.specs.IndexSet.{insert_key}
use Rattle.ft_claims.specs.meaning.Forms.{Entry, same_entry}
use Rattle.ft_claims.proofs.PairLemmas.{parts-entry, place-kept, same_parts}
use Rattle.ft_claims.proofs.pairs.Pairs.place_in.Goals as goal

pub returns-clause-pairs : goal.returns-clause-pairs
returns-clause-pairs c =
    let fits : FitsSigned w64 c.args.divisor = search rules in
    let same : to_z w64 (of_z w64 c.args.divisor) ≡ c.args.divisor = to_z-of_z w64 c.args.divisor fits in
    c.in_ok-place.ensures.keys ∙ (λ i. insert_key (parts-entry i) (c.self.view_is i) (c.args.form, same i))

pub returns-clause-place : goal.returns-clause-place
returns-clause-place c =
    let fits : FitsSigned w64 c.args.divisor = search rules in
    let same : to_z w64 (of_z w64 c.args.divisor) ≡ c.args.divisor = to_z-of_z w64 c.args.divisor fits in
    let e : Entry = (c.args.form, c.args.divisor) in
    c.in_ok-place.ensures.index
    ∙ (λ i. position_or_len (parts-entry i (c.args.form, same i)) (c.self.view_is i))
    ∙ place-kept c.args.self.now e
    ∙ ap (position_or_len (same_entry e)) (sym (returns-clause-pairs c))
