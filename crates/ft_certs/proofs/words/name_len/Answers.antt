use Rattle.std.proofs.Common.{◌≡◌, ◌∙◌, sym, subst, ap, ℕ, ◌≤◌, length}
use Rattle.std.specs.List.{prefix_len}
use Rattle.ft_base.specs.Names.{is_name_byte}
use Rattle.ft_certs.specs.building.Pieces.{name_len}
use Rattle.ft_certs.proofs.WordLemmas.{lettered, name-within}
use Rattle.ft_certs.proofs.words.name_len.Goals as goal

pub returns-clause-within : goal.returns-clause-within
returns-clause-within c =
    let same : c.name_bytes.result ≡ name_len c.args.bytes.now =
    c.name_bytes.ensures ∙ ap (prefix_len is_name_byte) c.front.ensures ∙ sym (lettered c.args.bytes.now (sym c.if-not-begins_by_letter.ensures)) in
    subst (λ (k : ℕ). k ≤ length c.args.bytes.now) (sym same) (name-within c.args.bytes.now)
