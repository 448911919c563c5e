-- The names of a map in order: where one stands, and where a new one goes.
use Rattle.std.proofs.Common.{◌≡◌, ◌∙◌, sym, ap, refl, inl, inr, ℕ, zero, suc, ◌+◌, Bool, true, false, not, ◌||◌, cond, is_some, nat_lt}
use Rattle.std.proofs.Common.{List, [], ◌∷◌, ◌++◌, length, map, position, slice_get, Some, None, Option, option_map, option_and_then}
use Rattle.std.proofs.Common.{bytes_eq, zip, Vec, Global, arith}
use Rattle.std.specs.List.{position_or_len}
use Rattle.std.specs.Map.{keys_of, values_of}
use Rattle.std.proofs.lemmas.List.{length-map}
use Rattle.std.proofs.lemmas.Option.{slice_get-map}
use Rattle.std.proofs.lemmas.Bool.{cases_Bool, true≢false}
use Rattle.indexmap.specs.IndexMap.{insert_entry}
use Rattle.ft_names.specs.meaning.Cards.{under}
use Rattle.ft_names.specs.meaning.Declared.{Listing, is_among, names_in, place_of}

abbrev pub Entries : Type 0
Entries = List (Vec ℕ Global × ℕ)

abbrev pub shown : Entries → Listing
shown es = map (λ e. (e.0.items, e.1)) es

abbrev pub is_key : List ℕ → Vec ℕ Global → Bool
is_key name key = bytes_eq name key.items

abbrev pub same_key : Vec ℕ Global → Vec ℕ Global → Bool
same_key a b = bytes_eq a.items b.items

first-key : (name : List ℕ) (es : Entries) → position_or_len (bytes_eq name) (names_in (shown es))
    ≡ position_or_len (is_key name) (keys_of es)
first-key name [] = refl
first-key name (e ∷ es) = ap (λ (n : ℕ). cond (not (bytes_eq name e.0.items)) (1 + n) 0) (first-key name es)

names-length : (es : Entries) → length (names_in (shown es)) ≡ length (keys_of es)
names-length [] = refl
names-length (e ∷ es) = ap suc (names-length es)

-- the place of a name is the index of its key
pub place-key : (name : List ℕ) (es : Entries) → place_of (names_in (shown es)) name ≡ position (is_key name) (keys_of es)
place-key name es = rw (first-key name es, names-length es) refl

some-less : (a b n : ℕ) → is_some (cond (nat_lt a b) (Some n) None) ≡ nat_lt a b
some-less a b n = elim (cases_Bool (nat_lt a b)) [ inl less ↦ rw less refl | inr more ↦ rw more refl ]

less-zero : (b : ℕ) → nat_lt 0 (suc b) ≡ true
less-zero b = grind arith

less-suc : (a b : ℕ) → nat_lt (1 + a) (suc b) ≡ nat_lt a b
less-suc a b = grind arith

any-less : (names : List (List ℕ)) (name : List ℕ) → nat_lt (position_or_len (bytes_eq name) names) (length names) ≡ is_among names name
any-less [] name = refl
any-less (n ∷ names) name = elim (cases_Bool (bytes_eq name n)) [
  | inl here ↦ rw here (less-zero (length names))
  | inr other ↦ rw other (less-suc (position_or_len (bytes_eq name) names) (length names) ∙ any-less names name)
]

-- a name has a place exactly where it is among the names
pub is_some-place_of : (names : List (List ℕ)) (name : List ℕ) → is_some (place_of names name) ≡ is_among names name
is_some-place_of names name =
    some-less (position_or_len (bytes_eq name) names) (length names) (position_or_len (bytes_eq name) names) ∙ any-less names name

-- the number at a place of the map
pub number-at : (es : Entries) (i n : ℕ) → slice_get (values_of es) i ≡ Some n
    → option_map (λ (entry : List ℕ × ℕ). entry.1) (slice_get (shown es) i) ≡ Some n
number-at [] i n at = cc at
number-at (e ∷ es) zero n at = at
number-at (e ∷ es) (suc i) n at = number-at es i n at

-- a name that is not there goes last
pub goes-last : (name : List ℕ) (es : Entries) (key : Vec ℕ Global) (number : ℕ) → key.items ≡ name
    → is_among (names_in (shown es)) name ≡ false
    → shown (insert_entry same_key es key number) ≡ shown es ++ (name, number) ∷ []
goes-last name [] key number is absent = rw is refl
goes-last name (e ∷ es) key number is absent = elim (cases_Bool (bytes_eq name e.0.items)) [
  | inl there ↦ absurd (true≢false (ap (λ b. b || is_among (names_in (shown es)) name) (sym there) ∙ absent))
  | inr other ↦ rw (ap (λ (n : List ℕ). bytes_eq n e.0.items) is ∙ other)
      (ap (λ (list : Listing). (e.0.items, e.1) ∷ list)
      (goes-last name es key number is (ap (λ b. b || is_among (names_in (shown es)) name) (sym other) ∙ absent)))
]

place-cases : (p len : ℕ) (b : Bool) → nat_lt p len ≡ b
    → cond (nat_lt (1 + p) (suc len)) (Some (1 + p)) None ≡ option_map suc (cond (nat_lt p len) (Some p) None)
place-cases p len true less = rw (less-suc p len, less) (ap Some (omega arith))
place-cases p len false more = rw (less-suc p len, more) refl

-- the place of a name that is not the first
place_of-next : (n : List ℕ) (names : List (List ℕ)) (name : List ℕ) → bytes_eq name n ≡ false
    → place_of (n ∷ names) name ≡ option_map suc (place_of names name)
place_of-next n names name other =
    rw other (place-cases (position_or_len (bytes_eq name) names) (length names) (nat_lt (position_or_len (bytes_eq name) names)
    (length names)) refl)

next-get : {X : Type 0} (x : X) (xs : List X) (place : Option ℕ)
    → option_and_then (slice_get (x ∷ xs)) (option_map suc place) ≡ option_and_then (slice_get xs) place
next-get x xs None = refl
next-get x xs (Some p) = refl

-- what stands beside a name is found at its place
pub under-zip : {X : Type 0} (names : List (List ℕ)) (xs : List X) (name : List ℕ) → length xs ≡ length names
    → under (zip names xs) name ≡ option_and_then (slice_get xs) (place_of names name)
under-zip [] xs name long = refl
under-zip (n ∷ names) [] name long = absurd (omega arith)
under-zip (n ∷ names) (x ∷ xs) name long = elim (cases_Bool (bytes_eq name n)) [
  | inl here ↦ rw (here, less-zero (length names)) refl
  | inr other ↦ rw (place_of-next n names name other, next-get x xs (place_of names name))
      (rw other (under-zip names xs name (omega arith)))
]

pub names_in-length : (list : Listing) → length (names_in list) ≡ length list
names_in-length list = length-map list (λ (entry : List ℕ × ℕ). entry.0)

pub zip-parts : {X : Type 0} (list : List (List ℕ × X))
    → zip (map (λ (entry : List ℕ × X). entry.0) list) (map (λ (entry : List ℕ × X). entry.1) list) ≡ list
zip-parts [] = refl
zip-parts (e ∷ list) = ap (λ l. e ∷ l) (zip-parts list)

map-get : (list : Listing) (place : Option ℕ) → option_and_then (slice_get (map (λ (entry : List ℕ × ℕ). entry.1) list)) place
    ≡ option_map (λ (entry : List ℕ × ℕ). entry.1) (option_and_then (slice_get list) place)
map-get list None = refl
map-get list (Some p) = slice_get-map (λ (entry : List ℕ × ℕ). entry.1) list p

-- the number beside a name is found at its place
pub under-place : (list : Listing) (name : List ℕ)
    → under list name ≡ option_map (λ (entry : List ℕ × ℕ). entry.1) (option_and_then (slice_get list) (place_of (names_in list) name))
under-place list name =
    ap (λ (l : Listing). under l name) (sym (zip-parts list))
    ∙ under-zip (names_in list) (map (λ (entry : List ℕ × ℕ). entry.1) list) name
    (length-map list (λ (entry : List ℕ × ℕ). entry.1) ∙ sym (length-map list (λ (entry : List ℕ × ℕ). entry.0)))
    ∙ map-get list (place_of (names_in list) name)
