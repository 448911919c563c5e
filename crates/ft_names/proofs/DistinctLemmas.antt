-- Names of which none stands a second time differ.
use Rattle.std.proofs.Common.{◌≡◌, ◌∙◌, sym, ap, subst, refl, ◌⊎◌, inl, inr, ℕ, zero, suc, true, false, List, [], ◌∷◌, ◌++◌, length}
use Rattle.std.proofs.Common.{slice_get, Option, Some, None, append_assoc, append-nil, bytes_eq}
use Rattle.std.specs.List.{flat_map}
use Rattle.std.specs.Option.{option_or}
use Rattle.std.proofs.lemmas.Bool.{cases_Bool, true≢false}
use Rattle.std.proofs.lemmas.Slice.Eq.{bytes_eq-Decides}
use Rattle.ft_tree.specs.declared.item.Word.{Word}
use Rattle.ft_tree.specs.declared.item.Item.{Item}
use Rattle.ft_tree.specs.declared.item.Item.TheVariants.{Constant, RangeType, EnumType, Variable, Held, Hyst, Normal, Inverted, Vector, Nat}
use Rattle.ft_tree.specs.declared.item.Item.TheVariants.{Block}
use Rattle.ft_core.specs.checked.Distinct.{AreDistinct}
use Rattle.ft_names.specs.meaning.First.{first_of}
use Rattle.ft_names.specs.meaning.Declared.{fact_words, is_among}
use Rattle.ft_names.specs.meaning.Duplicates.{item_namings, namings, repeated, set_namings, texts}
use Rattle.ft_names.specs.laws.First.{first_of-append}
use Rattle.ft_names.specs.laws.Names.{NamesDiffer}
use Rattle.ft_names.proofs.DeclareLemmas.{item_texts, names_in-listing}

abbrev Names : Type 0
Names = List (List ℕ)

among-there : (names : Names) (name : List ℕ) (k : ℕ) → slice_get names k ≡ Some name → is_among names name ≡ true
among-there [] name k at = cc at
among-there (n ∷ names) name zero at =
    let same : n ≡ name = cc at in
    rw ((bytes_eq-Decides name n).1 (sym same)) refl
among-there (n ∷ names) name (suc k) at = elim (cases_Bool (bytes_eq name n)) [
  | inl here ↦ rw here refl
  | inr other ↦ rw other (among-there names name k at)
]

-- a place among names and one more is a place among them or the last
last-or : (names : Names) (last name : List ℕ) (k : ℕ) → slice_get (names ++ last ∷ []) k ≡ Some name
    → (slice_get names k ≡ Some name) ⊎ ((k ≡ length names) × (last ≡ name))
last-or [] last name zero at = let same : last ≡ name = cc at in inr (refl, same)
last-or [] last name (suc k) at = cc at
last-or (n ∷ names) last name zero at = inl at
last-or (n ∷ names) last name (suc k) at = elim (last-or names last name k at) [
  | inl front ↦ inl front
  | inr end ↦ inr (ap suc end.0, end.1)
]

-- a new name differs from those before it
distinct-push : (names : Names) (last : List ℕ) → AreDistinct names → is_among names last ≡ false → AreDistinct (names ++ last ∷ [])
distinct-push names last differ new k l name at_k at_l = by (last-or names last name k at_k) (last-or names last name l at_l)
  where
    absent : (m : ℕ) → slice_get names m ≡ Some name → last ≡ name → ⊥
    absent m at is = true≢false (sym (among-there names name m at) ∙ ap (is_among names) (sym is) ∙ new)

    by : ((slice_get names k ≡ Some name) ⊎ ((k ≡ length names) × (last ≡ name)))
        → ((slice_get names l ≡ Some name) ⊎ ((l ≡ length names) × (last ≡ name))) → k ≡ l
    by (inl a) (inl b) = differ k l name a b
    by (inl a) (inr b) = absurd (absent k a b.1)
    by (inr a) (inl b) = absurd (absent l b a.1)
    by (inr a) (inr b) = a.0 ∙ sym b.0

or-none : {Y : Type 0} (a b : Option Y) → option_or a b ≡ None → (a ≡ None) × (b ≡ None)
or-none None b none = (refl, none)
or-none (Some y) b none = cc none

new-word : (before : Names) (w : Word) → repeated (before, w) ≡ None → is_among before w.text ≡ false
new-word before w none = elim (cases_Bool (is_among before w.text)) [
  | inl there ↦ cc (rw there at none)
  | inr new ↦ new
]

words-differ : (before : Names) (words : List Word) → AreDistinct before → first_of repeated (namings before words) ≡ None
    → AreDistinct (before ++ texts words)
words-differ before [] differ none = subst AreDistinct (sym (append-nil before)) differ
words-differ before (w ∷ words) differ none =
    let parts = or-none (repeated (before, w)) (first_of repeated (namings (before ++ w.text ∷ []) words)) none in
    subst AreDistinct (append_assoc before (w.text ∷ []) (texts words))
    (words-differ (before ++ w.text ∷ []) words (distinct-push before w.text differ (new-word before w parts.0)) parts.1)

block-differs : (before : Names) (name : Word) (takes uses shown : List Word) → AreDistinct before
    → first_of repeated (namings before (name ∷ []) ++ namings [] takes ++ namings [] uses ++ namings (before
    ++ name.text ∷ []) shown) ≡ None
    → AreDistinct (before ++ texts (name ∷ shown))
block-differs before name takes uses shown differ none =
    let own = or-none (repeated (before, name)) (first_of repeated (namings [] takes ++ namings [] uses ++ namings (before
    ++ name.text ∷ []) shown)) none in
    let facts = or-none (first_of repeated (namings [] takes ++ namings [] uses)) (first_of repeated (namings (before
    ++ name.text ∷ []) shown))
    (sym (first_of-append repeated (namings [] takes ++ namings [] uses) (namings (before ++ name.text ∷ []) shown)) ∙ own.1) in
    subst AreDistinct (append_assoc before (name.text ∷ []) (texts shown))
    (words-differ (before ++ name.text ∷ []) shown (distinct-push before name.text differ (new-word before name own.0)) facts.1)

item-differs : (before : Names) (item : Item) → AreDistinct before → first_of repeated (item_namings before item) ≡ None
    → AreDistinct (before ++ item_texts item)
item-differs before (Constant name minus value) differ none = words-differ before (name ∷ []) differ none
item-differs before (RangeType name lo hi) differ none = words-differ before (name ∷ []) differ none
item-differs before (EnumType name members) differ none = words-differ before (name ∷ members) differ none
item-differs before (Variable word name of init) differ none = words-differ before (name ∷ []) differ none
item-differs before (Held side name cond hold) differ none = words-differ before (name ∷ []) differ none
item-differs before (Hyst side name term lo hi start) differ none = words-differ before (name ∷ []) differ none
item-differs before (Normal section target columns rows) differ none = words-differ before [] differ none
item-differs before (Inverted section target headers rows) differ none = words-differ before [] differ none
item-differs before (Vector section columns rows) differ none = words-differ before [] differ none
item-differs before (Nat moment cond) differ none = words-differ before [] differ none
item-differs before (Block name takes uses facts) differ none = block-differs before name takes uses
    (flat_map fact_words facts) differ none

items-differ : (before : Names) (items : List Item) → AreDistinct before → first_of repeated (set_namings before items) ≡ None
    → AreDistinct (before ++ flat_map item_texts items)
unfolding set_namings
items-differ before [] differ none = subst AreDistinct (sym (append-nil before)) differ
items-differ before (x ∷ xs) differ none =
    let parts = or-none (first_of repeated (item_namings before x)) (first_of repeated (set_namings (before ++ item_texts x) xs))
    (sym (first_of-append repeated (item_namings before x) (set_namings (before ++ item_texts x) xs)) ∙ none) in
    subst AreDistinct (append_assoc before (item_texts x) (flat_map item_texts xs))
    (items-differ (before ++ item_texts x) xs (item-differs before x differ parts.0) parts.1)

nothing-differs : AreDistinct {A = List ℕ} []
nothing-differs k l name at_k at_l = cc at_k

pub names-differ : NamesDiffer
names-differ items none = subst AreDistinct (sym (names_in-listing 0 items)) (items-differ [] items nothing-differs none)
