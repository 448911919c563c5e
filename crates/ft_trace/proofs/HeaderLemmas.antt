-- The header of a trace.
use Rattle.std.proofs.Common.{◌≡◌, ◌∙◌, sym, ap, refl, ℕ, zero, suc, Bool, true, false, ◌&&◌, ◌||◌, not, List, [], ◌∷◌, length, slice_get}
use Rattle.std.proofs.Common.{Option, Some, None, true≢false}
use Rattle.std.specs.List.{list_all}
use Rattle.std.proofs.lemmas.Option.{none-some, same_Some}
use Rattle.std.specs.Cmp.Lexicographic.{bytes_decides}
use Rattle.ft_core.specs.declared.tables.VarKind.TheVariants as kind
use Rattle.ft_core.specs.declared.tables.Tables.{Tables}
use Rattle.ft_core.specs.meaning.Kinds.{count_of, monitored}
use Rattle.csv.specs.Records.{field_at}
use Rattle.ft_trace.specs.rows.Row.{is_field, is_monitored, is_named}
use Rattle.ft_trace.specs.meaning.Spelling.{IsHeader, Row}
use Rattle.ft_core.specs.laws.VarPlaces.{own-place}
use Rattle.ft_trace.proofs.RowLemmas.{field-is}

and-left : (a b : Bool) → (a && b) ≡ true → a ≡ true
and-left true b e = refl
and-left false b e = e

and-right : (a b : Bool) → (a && b) ≡ true → b ≡ true
and-right true b e = e
and-right false b e = absurd (true≢false (sym e))

both : (a b : Bool) → a ≡ true → b ≡ true → (a && b) ≡ true
both true b e f = f
both false b e f = e

pub all-at : {X : Type 0} (p : X → Bool) (xs : List X) (i : ℕ) (x : X) → list_all p xs ≡ true → slice_get xs i ≡ Some x → p x ≡ true
all-at p [] i x e at = absurd (none-some x at)
all-at p (y ∷ ys) zero x e at = ap p (sym (same_Some y x at)) ∙ and-left (p y) (list_all p ys) e
all-at p (y ∷ ys) (suc i) x e at = all-at p ys i x (and-right (p y) (list_all p ys) e) at

all-by : {X : Type 0} (p : X → Bool) (xs : List X) → ((i : ℕ) (x : X) → slice_get xs i ≡ Some x → p x ≡ true) → list_all p xs ≡ true
all-by p [] h = refl
all-by p (y ∷ ys) h = both (p y) (list_all p ys) (h 0 y refl) (all-by p ys (λ i. h (suc i)))

or-named : (m b : Bool) → m ≡ true → (not m || b) ≡ true → b ≡ true
or-named true b e h = h
or-named false b e h = absurd (true≢false (sym e))

or-by : (m b : Bool) → (m ≡ true → b ≡ true) → (not m || b) ≡ true
or-by true b h = h refl
or-by false b h = refl

field-of : (o : Option (List ℕ)) (name : List ℕ) → is_field o name ≡ true → o ≡ Some name
field-of None name e = absurd (true≢false (sym e))
field-of (Some f) name e = ap (λ (x : List ℕ). Some x) ((bytes_decides f name).0 e)

field-by : (o : Option (List ℕ)) (name : List ℕ) → o ≡ Some name → is_field o name ≡ true
field-by None name e = absurd (none-some name e)
field-by (Some f) name e = (bytes_decides f name).1 (same_Some f name e)

pub header-is : (S : Tables) (row : Row) → length row ≡ count_of monitored S.vars → list_all (is_named row) S.vars ≡ true → IsHeader S row
header-is S row wide all = record {
  width = wide;
  names = λ x v is.
      sym (ap (λ (p : ℕ). slice_get row p) (own-place S kind.Mon x v is))
      ∙ sym (field-is row v.place)
      ∙ field-of (field_at row v.place) v.name (or-named (is_monitored v) (is_field (field_at row v.place) v.name) is.1
      (all-at (is_named row) S.vars x v all is.0));
}

pub header-by : (S : Tables) (row : Row) → IsHeader S row → list_all (is_named row) S.vars ≡ true
header-by S row h = all-by (is_named row) S.vars (λ x v at. or-by (is_monitored v) (is_field (field_at row v.place) v.name)
    (λ mon. field-by (field_at row v.place) v.name (field-is row v.place
    ∙ ap (λ (p : ℕ). slice_get row p) (own-place S kind.Mon x v (at, mon)) ∙ h.names x v (at, mon))))
