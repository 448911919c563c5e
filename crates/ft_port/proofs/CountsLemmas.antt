-- The counts of names after one of them changed.
use Rattle.std.proofs.Common.{◌≡◌, ◌≢◌, ◌∙◌, sym, ap, refl, subst, inl, inr, nat_lt, ℕ, zero, suc, ◌<◌, ◌≤◌, true, false, cond, List, []}
use Rattle.std.proofs.Common.{◌∷◌, map, set, length, take, Some, None, slice_get, slice_index_or, arith}
use Rattle.std.specs.Str.{bytes_eq}
use Rattle.std.specs.List.{Contains, find, position, position_or_len}
use Rattle.std.proofs.lemmas.Bool.{cases_Bool}
use Rattle.std.proofs.lemmas.List.{take_all}
use Rattle.std.proofs.lemmas.Option.{get_or_from_slice_get}
use Rattle.std.proofs.lemmas.Slice.Eq.{bytes_eq-Decides}
use Rattle.std.proofs.lemmas.List.Folds.{find_at, find-set, find_past}
use Rattle.std.proofs.lemmas.List.Quantifiers.{position-Some}
use Rattle.std.proofs.lemmas.List.Sums.{position_or_len_is, fails_before_first}
use Rattle.std.proofs.Math.Seq.{map-set_same}
use Rattle.ft_port.specs.declared.entry.Entry.{Entry}
use Rattle.ft_port.specs.Counts.{is_of, names_of, unread, AreUnread}

bytes_eq-other : (xs ys zs : List ℕ) → bytes_eq xs ys ≡ true → zs ≢ ys → bytes_eq xs zs ≡ false
bytes_eq-other xs ys zs same differs = grind (arith, bytes_eq-Decides)

bytes_eq-itself : (xs : List ℕ) → bytes_eq xs xs ≡ true
bytes_eq-itself xs = grind (arith, bytes_eq-Decides)

module _ (es : List Entry) (name : List ℕ) (at : ℕ) (old new : Entry) (place : position (is_of name) es ≡ Some at)
    (here : slice_get es at ≡ Some old) (same : new.name ≡ old.name) where
  read : slice_index_or es at old ≡ old
  read = get_or_from_slice_get es at old old here

  named : bytes_eq old.name name ≡ true
  named = subst (λ entry. is_of name entry ≡ true) read (position-Some (is_of name) es at old place).1

  first : position_or_len (is_of name) es ≡ at
  first =
      let found = position-Some (is_of name) es at old place in
      position_or_len_is (is_of name) es at old (omega (arith, found.0)) found.2 (λ _. found.1)

  pub seen : find (is_of name) es ≡ Some old
  seen = find_at (is_of name) es ∙ ap (slice_get es) first ∙ here

  pub after : find (is_of name) (set es at new) ≡ Some new
  after = find-set (is_of name) es at new (sym first) (position-Some (is_of name) es at old place).0
      (ap (λ n. bytes_eq n name) same ∙ named)

  -- an entry of another name is another entry
  pub others : (other : List ℕ) → other ≢ name → find (is_of other) (set es at new) ≡ find (is_of other) es
  others other differs =
      let old_differs : bytes_eq old.name other ≡ false = bytes_eq-other old.name name other named differs in
      find_past (is_of other) es at new old (ap (is_of other) read ∙ old_differs) (ap (λ n. bytes_eq n other) same ∙ old_differs)

  pub names-set : names_of (set es at new) ≡ names_of es
  names-set = map-set_same (λ entry. entry.name) es at new old (same ∙ ap (λ entry. entry.name) (sym read))

past : (at size : ℕ) → cond (nat_lt at size) (Some at) None ≡ None → size ≤ at
past at size none = grind arith

held : (es : List Entry) (name : List ℕ) (k : ℕ) → k < length (names_of es) → slice_index_or (names_of es) k name ≡ name
    → ((j : ℕ) (d : Entry) → j < length es → is_of name (slice_index_or es j d) ≡ false) → ⊥
held [] name k below is none = omega arith
held (e ∷ es) name zero below is none =
    let no : bytes_eq e.name name ≡ false = none 0 e (omega arith) in
    let yes : bytes_eq e.name name ≡ true = rw is (bytes_eq-itself name) in
    absurd (cc)
held (e ∷ es) name (suc k) below is none = held es name k (omega arith) is (λ j d less. none (suc j) d (omega arith))

-- a name that is held has a place
pub some-place : (es : List Entry) (name : List ℕ) → Contains (names_of es) name → position (is_of name) es ≡ None → ⊥
some-place es name known none =
    let far : length es ≤ position_or_len (is_of name) es = past _ _ none in
    held es name known.0 known.1 known.2 (λ j d less. fails_before_first (is_of name) es j d (omega (arith, far, less)))

pub are-unread : (names : List (List ℕ)) → AreUnread names (map unread names)
are-unread [] = record { names = refl; reach = λ name. refl; faults = λ name. refl; reads = λ name. refl }
are-unread (n ∷ names) =
    let rest = are-unread names in
    record {
      names = ap (λ ns. n ∷ ns) rest.names;
      reach = λ name. elim (cases_Bool (bytes_eq n name)) [
        | inl is ↦ rw is refl
        | inr is ↦ rw is (rest.reach name)
      ];
      faults = λ name. elim (cases_Bool (bytes_eq n name)) [
        | inl is ↦ rw is refl
        | inr is ↦ rw is (rest.faults name)
      ];
      reads = λ name. elim (cases_Bool (bytes_eq n name)) [
        | inl is ↦ rw is refl
        | inr is ↦ rw is (rest.reads name)
      ];
    }

-- the counts that were made of all these names
pub all-unread : {X : Type 0} (name_of : X → List ℕ) (xs : List X) (n : ℕ) (counts : List Entry)
    → counts ≡ map unread (map name_of (take n xs)) → length xs ≤ n → AreUnread (map name_of xs) counts
all-unread name_of xs n counts made all =
    let whole : counts ≡ map unread (map name_of xs) = made ∙ ap (λ ys. map unread (map name_of ys)) (take_all n xs all) in
    subst (λ es. AreUnread (map name_of xs) es) (sym whole) (are-unread (map name_of xs))
