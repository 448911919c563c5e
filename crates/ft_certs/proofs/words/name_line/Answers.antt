use Rattle.std.proofs.Common.{◌≡◌, ◌∙◌, sym, ap, ℕ, List, ◌∷◌, ◌++◌, take, drop, append_assoc}
use Rattle.std.proofs.lemmas.List.{nil_from_length, take-append-drop}
use Rattle.ft_base.specs.Names.{is_name}
use Rattle.ft_certs.specs.meaning.Text.{end_line}
use Rattle.ft_certs.specs.building.Pieces.{can_end, name_len}
use Rattle.ft_certs.proofs.WordLemmas.{name-ended, name-stuck, read-name}
use Rattle.ft_certs.proofs.words.name_line.Goals.{then-first-ne10-via-then-first-ne10, then-first-ne10-via-else-first-ne10+then-not-can_end}
use Rattle.ft_certs.proofs.words.name_line.Goals as goal

pub returns-in_default-clause-stopped : goal.returns-in_default-clause-stopped
returns-in_default-clause-stopped c =
    let bytes : List ℕ = c.args.bytes.now in
    let back : drop (name_len bytes) bytes ≡ c.split_at.result.1.now = ap (λ (k : ℕ). drop k bytes) (sym c.name_len.ensures.value) ∙ sym c.split_at.ensures.back in
    name-ended bytes (back ∙ nil_from_length c.split_at.result.1.now c.in_default.ensures.cases)

pub returns-then-first-ne10-clause-stopped : goal.returns-then-first-ne10-clause-stopped
returns-then-first-ne10-clause-stopped c =
    let bytes : List ℕ = c.args.bytes.now in
    let back : drop (name_len bytes) bytes ≡ c.split_at.result.1.now = ap (λ (k : ℕ). drop k bytes) (sym c.name_len.ensures.value) ∙ sym c.split_at.ensures.back in
    let front : c.split_at.result.0.now ≡ take (name_len bytes) bytes = c.split_at.ensures.front ∙ ap (λ (k : ℕ). take k bytes) c.name_len.ensures.value in
    name-stuck bytes c.split_at.result.1.now c.in-Some.first.now c.in-Some.rest.now back c.in-Some.ensures.cases.0
    (elim c.then-first-ne10.branch [
      | then-first-ne10-via-then-first-ne10 w ↦ λ lf. absurd (w.if-first-ne10.true lf)
      | then-first-ne10-via-else-first-ne10+then-not-can_end w ↦ λ lf. ap can_end (sym front) ∙ sym w.if-not-can_end.ensures
    ])

pub returns-clause-read : goal.returns-clause-read
returns-clause-read c =
    let bytes : List ℕ = c.args.bytes.now in
    let front : c.split_at.result.0.now ≡ take (name_len bytes) bytes = c.split_at.ensures.front ∙ ap (λ (k : ℕ). take k bytes) c.name_len.ensures.value in
    let back : c.split_at.result.1.now ≡ drop (name_len bytes) bytes = c.split_at.ensures.back ∙ ap (λ (k : ℕ). drop k bytes) c.name_len.ensures.value in (
      ap is_name front ∙ read-name bytes (ap can_end (sym front) ∙ sym c.if-not-can_end.ensures),
      sym (take-append-drop (name_len bytes) bytes) ∙ ap (λ (l : List ℕ). l ++ drop (name_len bytes) bytes) (sym front)
          ∙ ap (λ (l : List ℕ). c.split_at.result.0.now ++ l) (sym back ∙ c.in-Some.ensures.cases.0 ∙ ap (λ (b : ℕ). b ∷ c.in-Some.rest.now) c.if-first-ne10.false)
          ∙ sym (append_assoc c.split_at.result.0.now end_line c.in-Some.rest.now),
    )
