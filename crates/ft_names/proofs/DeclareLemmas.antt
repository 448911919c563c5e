-- Names declared one after another, and the first that stands a second time.
use Rattle.std.proofs.Common.{◌≡◌, ◌∙◌, sym, ap, refl, Some, ℕ, suc, ◌+◌, ◌<◌, ◌^◌, List, [], ◌∷◌, ◌++◌, length, take, drop, Option, None}
use Rattle.std.proofs.Common.{append_assoc, append-nil, length-append, arith}
use Rattle.std.specs.Prelude.{Err, slice_index_or}
use Rattle.std.specs.List.{flat_map}
use Rattle.std.specs.Option.{option_or}
use Rattle.std.proofs.lemmas.List.{take-append-drop, map-append, length-map, length-take-le}
use Rattle.ft_tree.specs.declared.item.Word.{Word}
use Rattle.ft_tree.specs.declared.item.Item.{Item}
use Rattle.ft_names.specs.declared.stop.Stop.{Stop}
use Rattle.ft_names.specs.declared.stop.Stop.TheVariants.{Fault, NoMemory}
use Rattle.ft_names.specs.declared.fault.NameFault.{NameFault}
use Rattle.ft_names.specs.meaning.First.{Answers, first_of}
use Rattle.ft_names.specs.meaning.Declared.{Listing, entries, item_words, listing, names_in}
use Rattle.ft_names.specs.meaning.Duplicates.{item_namings, namings, repeated, set_namings, texts}
use Rattle.ft_names.specs.laws.Lists.{take_next}
use Rattle.ft_names.specs.laws.First.{first_of-append, option_or-None}

pub names_in-append : (a b : Listing) → names_in (a ++ b) ≡ names_in a ++ names_in b
names_in-append a b = map-append (λ (entry : List ℕ × ℕ). entry.0) a b

pub names_in-entries : (number : ℕ) (words : List Word) → names_in (entries number words) ≡ texts words
names_in-entries number [] = refl
names_in-entries number (w ∷ words) = ap (λ (names : List (List ℕ)). w.text ∷ names) (names_in-entries number words)

pub namings-append : (before : List (List ℕ)) (xs ys : List Word)
    → namings before (xs ++ ys) ≡ namings before xs ++ namings (before ++ texts xs) ys
namings-append before [] ys = ap (λ b. namings b ys) (sym (append-nil before))
namings-append before (x ∷ xs) ys =
    ap (λ rest. (before, x) ∷ rest) (namings-append (before ++ x.text ∷ []) xs ys
    ∙ ap (λ b. namings (before ++ x.text ∷ []) xs ++ namings b ys) (append_assoc before (x.text ∷ []) (texts xs)))

pub ruleset declared = (names_in-append, names_in-entries, first_of-append, option_or-None)

-- the first of some names that repeats
abbrev pub repeat_in : Listing → List Word → Option NameFault
repeat_in list words = first_of repeated (namings (names_in list) words)

-- behind names that were declared without a fault
declared-next : (old mid : Listing) (number : ℕ) (front here : List Word) → mid ≡ old ++ entries number front → repeat_in old front ≡ None
    → repeat_in old (front ++ here) ≡ repeat_in mid here
declared-next old mid number front here made none =
    ap (first_of repeated) (namings-append (names_in old) front here)
    ∙ first_of-append repeated (namings (names_in old) front) (namings (names_in old ++ texts front) here)
    ∙ ap (λ o. option_or o (first_of repeated (namings (names_in old ++ texts front) here))) none
    ∙ ap (λ b. first_of repeated (namings b here))
    (sym (ap names_in made ∙ names_in-append old (entries number front) ∙ ap (λ b. names_in old ++ b) (names_in-entries number front)))

pub declared-none : (old mid : Listing) (number : ℕ) (front here more : List Word) → more ≡ front ++ here
    → mid ≡ old ++ entries number front
    → repeat_in old front ≡ None → repeat_in mid here ≡ None → repeat_in old more ≡ None
declared-none old mid number front here more is made none clear =
    ap (repeat_in old) is ∙ declared-next old mid number front here made none ∙ clear

pub declared-made : (old mid new : Listing) (number : ℕ) (front here more : List Word) → more ≡ front ++ here
    → mid ≡ old ++ entries number front
    → new ≡ mid ++ entries number here → new ≡ old ++ entries number more
declared-made old mid new number front here more is made added =
    added ∙ ap (λ (list : Listing). list ++ entries number here) made ∙ append_assoc old (entries number front) (entries number here)
    ∙ ap (λ (list : Listing). old ++ list) (sym (map-append (λ (w : Word). (w.text, number)) front here))
    ∙ ap (λ ws. old ++ entries number ws) (sym is)

repeat-front : (old : Listing) (front rest : List Word) (fault : NameFault) → repeat_in old front ≡ Some fault
    → repeat_in old (front ++ rest) ≡ Some fault
repeat-front old front rest fault here =
    ap (first_of repeated) (namings-append (names_in old) front rest)
    ∙ first_of-append repeated (namings (names_in old) front) (namings (names_in old ++ texts front) rest)
    ∙ ap (λ o. option_or o (first_of repeated (namings (names_in old ++ texts front) rest))) here

pub declared-stops : (stop : Stop NameFault) (old mid : Listing) (number : ℕ) (front here more rest all : List Word) → more ≡ front ++ here
    → all ≡ more ++ rest → mid ≡ old ++ entries number front → repeat_in old front ≡ None
    → Answers {A = Unit {0}} (Err stop) (repeat_in mid here) → Answers {A = Unit {0}} (Err stop) (repeat_in old all)
declared-stops (Fault fault) old mid number front here more rest all is whole made none found =
    ap (repeat_in old) whole
    ∙ repeat-front old more rest fault (ap (repeat_in old) is ∙ declared-next old mid number front here made none ∙ found)
declared-stops NoMemory old mid number front here more rest all is whole made none found = tt

pub declared-room : (old mid : Listing) (number : ℕ) (front here more rest all : List Word) → more ≡ front ++ here → all ≡ more ++ rest
    → mid ≡ old ++ entries number front → length old + length all < 2 ^ 32 → length mid + length here < 2 ^ 32
declared-room old mid number front here more rest all is whole made room =
    let made_length : length mid ≡ length old + length front =
    ap length made ∙ length-append old (entries number front)
    ∙ ap (λ n. length old + n) (length-map front (λ (w : Word). (w.text, number))) in
    let long : length all ≡ length more + length rest = ap length whole ∙ length-append more rest in
    let more_length : length more ≡ length front + length here = ap length is ∙ length-append front here in
    omega arith

-- item after item

abbrev pub item_texts : Item → List (List ℕ)
item_texts item = texts (item_words item)

pub names_in-listing : (number : ℕ) (items : List Item) → names_in (listing number items) ≡ flat_map item_texts items
unfolding listing
names_in-listing number [] = refl
names_in-listing number (x ∷ xs) =
    names_in-append (entries number (item_words x)) (listing (suc number) xs)
    ∙ ap (λ names. names ++ names_in (listing (suc number) xs)) (names_in-entries number (item_words x))
    ∙ ap (λ names. item_texts x ++ names) (names_in-listing (suc number) xs)

listing-append : (number : ℕ) (xs ys : List Item) → listing number (xs ++ ys) ≡ listing number xs ++ listing (number + length xs) ys
unfolding listing
listing-append number [] ys = ap (λ n. listing n ys) (omega arith)
listing-append number (x ∷ xs) ys =
    ap (λ (list : Listing). entries number (item_words x) ++ list) (listing-append (suc number) xs ys
    ∙ ap (λ n. listing (suc number) xs ++ listing n ys) (omega arith))
    ∙ sym (append_assoc (entries number (item_words x)) (listing (suc number) xs) (listing (number + length (x ∷ xs)) ys))

set_namings-append : (before : List (List ℕ)) (xs ys : List Item)
    → set_namings before (xs ++ ys) ≡ set_namings before xs ++ set_namings (before ++ flat_map item_texts xs) ys
unfolding set_namings
set_namings-append before [] ys = ap (λ b. set_namings b ys) (sym (append-nil before))
set_namings-append before (x ∷ xs) ys =
    ap (λ l. item_namings before x ++ l) (set_namings-append (before ++ item_texts x) xs ys
    ∙ ap (λ b. set_namings (before ++ item_texts x) xs ++ set_namings b ys) (append_assoc before (item_texts x) (flat_map item_texts xs)))
    ∙ sym (append_assoc (item_namings before x) (set_namings (before ++ item_texts x) xs)
    (set_namings (before ++ (item_texts x ++ flat_map item_texts xs)) ys))

listing-one : (number : ℕ) (item : Item) → listing number (item ∷ []) ≡ entries number (item_words item)
unfolding listing
listing-one number item = append-nil (entries number (item_words item))

set_namings-one : (before : List (List ℕ)) (item : Item) → set_namings before (item ∷ []) ≡ item_namings before item
unfolding set_namings
set_namings-one before item = append-nil (item_namings before item)

-- the first name of items that stands a second time
abbrev pub item_repeat : List Item → Option NameFault
item_repeat items = first_of repeated (set_namings [] items)

pub at-place : (i : ℕ) (items : List Item) → i < length items → 0 + length (take i items) ≡ i
at-place i items within = let taken : length (take i items) ≡ i = length-take-le i items (omega arith) in omega arith

pub listing-next : (items : List Item) (i : ℕ) (x : Item) → i < length items → x ≡ slice_index_or items i x
    → listing 0 (take (i + 1) items) ≡ listing 0 (take i items) ++ entries i (item_words x)
listing-next items i x within is =
    ap (listing 0) (take_next items i x within is) ∙ listing-append 0 (take i items) (x ∷ [])
    ∙ ap (λ n. listing 0 (take i items) ++ listing n (x ∷ [])) (at-place i items within)
    ∙ ap (λ (list : Listing). listing 0 (take i items) ++ list) (listing-one i x)

item_repeat-next : (items : List Item) (i : ℕ) (x : Item) (names : Listing) → i < length items → x ≡ slice_index_or items i x
    → names ≡ listing 0 (take i items) → item_repeat (take i items) ≡ None
    → item_repeat (take (i + 1) items) ≡ first_of repeated (item_namings (names_in names) x)
item_repeat-next items i x names within is made none =
    ap item_repeat (take_next items i x within is) ∙ ap (first_of repeated) (set_namings-append [] (take i items) (x ∷ []))
    ∙ first_of-append repeated (set_namings [] (take i items)) (set_namings (flat_map item_texts (take i items)) (x ∷ []))
    ∙ ap (λ o. option_or o (first_of repeated (set_namings (flat_map item_texts (take i items)) (x ∷ [])))) none
    ∙ ap (first_of repeated) (set_namings-one (flat_map item_texts (take i items)) x)
    ∙ ap (λ b. first_of repeated (item_namings b x)) (sym (ap names_in made ∙ names_in-listing 0 (take i items)))

pub item_repeat-none : (items : List Item) (i : ℕ) (x : Item) (names : Listing) → i < length items → x ≡ slice_index_or items i x
    → names ≡ listing 0 (take i items) → item_repeat (take i items) ≡ None → first_of repeated (item_namings (names_in names) x) ≡ None
    → item_repeat (take (i + 1) items) ≡ None
item_repeat-none items i x names within is made none clear = item_repeat-next items i x names within is made none ∙ clear

pub item_repeat-stops : (stop : Stop NameFault) (items : List Item) (i : ℕ) (x : Item) (names : Listing) → i < length items
    → x ≡ slice_index_or items i x → names ≡ listing 0 (take i items) → item_repeat (take i items) ≡ None
    → Answers {A = Unit {0}} (Err stop) (first_of repeated (item_namings (names_in names) x)) → Answers {A = Unit {0}} (Err stop)
    (item_repeat items)
item_repeat-stops (Fault fault) items i x names within is made none found =
    ap item_repeat (sym (take-append-drop (i + 1) items))
    ∙ ap (first_of repeated) (set_namings-append [] (take (i + 1) items) (drop (i + 1) items))
    ∙ first_of-append repeated (set_namings [] (take (i + 1) items)) (set_namings (flat_map item_texts (take (i + 1) items)) (drop
    (i + 1) items))
    ∙ ap (λ o. option_or o (first_of repeated (set_namings (flat_map item_texts (take (i + 1) items)) (drop (i + 1) items))))
    (item_repeat-next items i x names within is made none ∙ found)
item_repeat-stops NoMemory items i x names within is made none found = tt

pub item-room : (items : List Item) (i : ℕ) (x : Item) (names : Listing) → i < length items → x ≡ slice_index_or items i x
    → names ≡ listing 0 (take i items) → length (listing 0 items) < 2 ^ 32 → length names + length (item_words x) < 2 ^ 32
item-room items i x names within is made room =
    let here : length (listing 0 (take (i + 1) items)) ≡ length names + length (item_words x) =
    ap length (listing-next items i x within is) ∙ length-append (listing 0 (take i items)) (entries i (item_words x))
    ∙ ap (λ n. length (listing 0 (take i items)) + n) (length-map (item_words x) (λ (w : Word). (w.text, i)))
    ∙ ap (λ (list : Listing). length list + length (item_words x)) (sym made) in
    let all : length (listing 0 items) ≡ length (listing 0 (take (i + 1) items)) + length (listing (0 + length (take (i + 1) items))
    (drop (i + 1) items)) =
    ap (λ l. length (listing 0 l)) (sym (take-append-drop (i + 1) items))
    ∙ ap length (listing-append 0 (take (i + 1) items) (drop (i + 1) items))
    ∙ length-append (listing 0 (take (i + 1) items)) (listing (0 + length (take (i + 1) items)) (drop (i + 1) items)) in
    omega arith

pub no-listing : listing 0 [] ≡ []
unfolding listing
no-listing = refl

pub no-repeat : item_repeat [] ≡ None
unfolding set_namings
no-repeat = refl
