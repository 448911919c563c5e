-- What holds of each reserved word.
use Rattle.std.proofs.Common.{◌≡◌, refl, sym, subst, ℕ, Bool, true, List, [], ◌∷◌, inl, inr}
use Rattle.std.specs.List.{list_all, list_any}
use Rattle.std.specs.Str.{bytes_eq}
use Rattle.std.proofs.lemmas.Bool.{and_parts, or_cases, true≢false}
use Rattle.std.proofs.lemmas.Slice.Eq.{bytes_eq-Decides}
use Rattle.ft_base.specs.Names.{begins_by_letter, is_reserved_word, reserved_words}

-- what holds of each text of a table holds of one that is found in it
pub found-passes : (test : List ℕ → Bool) (table : List (List ℕ)) (bytes : List ℕ) → list_all test table ≡ true
    → list_any (bytes_eq bytes) table ≡ true → test bytes ≡ true
found-passes test [] bytes all found = absurd (true≢false (sym found))
found-passes test (x ∷ table) bytes all found =
    let (here, later) = and_parts (test x) (list_all test table) all in
    elim (or_cases (bytes_eq bytes x) (list_any (bytes_eq bytes) table) found) [
      | inl same ↦ subst (λ (y : List ℕ). test y ≡ true) (sym ((bytes_eq-Decides bytes x).0 same)) here
      | inr other ↦ found-passes test table bytes later other
    ]

reserved-letters : list_all begins_by_letter reserved_words ≡ true
unfolding reserved_words
reserved-letters = refl

pub reserved-begins : (bytes : List ℕ) → is_reserved_word bytes ≡ true → begins_by_letter bytes ≡ true
unfolding is_reserved_word
reserved-begins bytes h = found-passes begins_by_letter reserved_words bytes reserved-letters h
