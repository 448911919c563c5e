use Rattle.std.proofs.Common.{◌≡◌, ◌↔◌, ◌⊎◌, ◌∙◌, sym, inl, inr, Option, None}
use Rattle.ft_port.proofs.mem_shelf.MemShelfShelf.read.Goals as goal

-- two causes in other words
either : {R L M A : Type 0} (x y : Option A) → R ↔ (L ⊎ (x ≡ None)) → L ↔ M → x ≡ y → R ↔ (M ⊎ (y ≡ None))
either x y fails listed same = (
  λ failed. elim (fails.0 failed) [
    | inl is ↦ inl (listed.0 is)
    | inr none ↦ inr (sym same ∙ none)
  ],
  λ cause. fails.1 (elim cause [
    | inl is ↦ inl (listed.1 is)
    | inr none ↦ inr (same ∙ none)
  ]),
)

pub returns-clause-fails : goal.returns-clause-fails
returns-clause-fails c = either _ _ c.read_part-result.ensures.fails c.next_is_listed-listed.ensures
    (rw c.as_bytes.ensures.value at c.content-content.ensures)
