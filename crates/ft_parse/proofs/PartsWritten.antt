-- The pieces of the parts of items are spelled as the same parts but for places.
use Rattle.std.proofs.Common.{◌≡◌, ◌∙◌, ℕ, ◌+◌, ◌≤◌, ◌<◌, ◌&&◌, Bool, true, false, List, [], ◌∷◌, ◌++◌, codes, decimal, length, map, nat_le}
use Rattle.std.proofs.Common.{Some, refl, sym, ap}
use Rattle.std.specs.List.{flat_map, list_all}
use Rattle.std.proofs.lemmas.Bool.{and_parts, leb-true, lt-leb, true≢false}
use Rattle.std.proofs.lemmas.List.{length-append, length-map, map-append}
use Rattle.std.proofs.lemmas.List.Concat.{flat_map-cons}
use Rattle.std.proofs.lemmas.List.Folds.{list_all-append}
use native.Mathlib.Omega.{arith}
use Rattle.ft_base.specs.declared.place.Place.{Place}
use Rattle.ft_lex.specs.declared.token.TokenKind.TheVariants as token_kind
use Rattle.ft_base.specs.Names.{is_name, is_reserved_word, reserved_words}
use Rattle.ft_tree.specs.declared.expr.Expr.{Expr}
use Rattle.ft_tree.specs.declared.item.Word.{Word}
use Rattle.ft_tree.specs.declared.item.Plain.{Plain}
use Rattle.ft_tree.specs.declared.item.Plain.TheVariants as plain
use Rattle.ft_tree.specs.declared.item.Bound.{Bound}
use Rattle.ft_tree.specs.declared.item.Kind.{Kind}
use Rattle.ft_tree.specs.declared.item.Kind.TheVariants as kind
use Rattle.ft_tree.specs.meaning.Expression.{expr_pieces, truth_word}
use Rattle.ft_tree.specs.meaning.Limits.{are_entries, is_bound, is_count, is_expr, is_init, is_init_value, is_kind, is_number, is_plain}
use Rattle.ft_tree.specs.meaning.Limits.{is_word}
use Rattle.ft_tree.specs.meaning.Line
use Rattle.ft_tree.specs.meaning.Line.{Line, Piece}
use Rattle.ft_tree.specs.meaning.Lines.{bound_pieces, exprs_pieces, kind_pieces, names_pieces, plain_text, sign_pieces, word_pieces}
use Rattle.ft_tree.specs.laws.Tokens.{Shape, kind_of, piece_shape}
use Rattle.ft_read.specs.meaning.Lexeme.{as_name}
use Rattle.ft_parse.specs.meaning.Language.{Language, alternative, nothing, token, ◌▷◌}
use Rattle.ft_read.specs.meaning.Limit.{no_pass, counted}
use Rattle.ft_parse.specs.meaning.Room.{is_full}
use Rattle.ft_parse.specs.meaning.Items
use Rattle.ft_tree.specs.meaning.Bare.{bare_bound, bare_expr, bare_kind, bare_word, start}
use Rattle.ft_read.specs.declared.stop.LimitWord.{LimitWord}
use Rattle.ft_parse.proofs.ExprWritten.{Same, expr-written}
use Rattle.ft_parse.proofs.Marks.{mark, name-kind, name-lexical, number-kind, number-lexical, reads-sign, reads-word, value-back}
use Rattle.ft_parse.proofs.Writes.{Writes, and_then, left, made, many, next, none, right, shaped, shapes, weaker}
use Rattle.ft_read.specs.meaning.Choices.{as_truth}

-- the shape of a token of these bytes
abbrev pub sh : List ℕ → Shape
sh t = (kind_of t, t)

pub a-word : {at : ℕ} (w : List ℕ) → kind_of w ≡ token_kind.Word → Writes (Items.word w) at (sh w ∷ []) (λ _. Unit {0})
a-word w is = mark w token_kind.Word is (λ place. (place, reads-word w place, refl, tt))

pub a-sign : {at : ℕ} (w : List ℕ) → kind_of w ≡ token_kind.Sign → Writes (Items.sign w) at (sh w ∷ []) (λ _. Unit {0})
a-sign w is = mark w token_kind.Sign is (λ place. (place, reads-sign w place, refl, tt))

pub a-name : {at : ℕ} (name : List ℕ) → is_name name ≡ true → Writes Items.name at (sh name ∷ []) (λ w. w.text ≡ name)
a-name name h =
    mark name token_kind.Name (name-kind name h)
    (λ place. (record { text = name; place = place }, refl, name-lexical name h place, refl))

-- a reserved word or sign, and what follows it
pub skip-word : {B : Type 0} {M : Place → Language B} {at : ℕ} {ys : List Shape} {H : B → Type 0} (w : List ℕ)
    → kind_of w ≡ token_kind.Word
    → ((place : Place) → Writes (M place) (at + 1) ys H) → Writes (Items.word w ▷ M) at (sh w ∷ ys) H
skip-word w is more = next {G = λ _. Unit {0}} (a-word w is) (λ place _. more place)

pub skip-sign : {B : Type 0} {M : Place → Language B} {at : ℕ} {ys : List Shape} {H : B → Type 0} (w : List ℕ)
    → kind_of w ≡ token_kind.Sign
    → ((place : Place) → Writes (M place) (at + 1) ys H) → Writes (Items.sign w ▷ M) at (sh w ∷ ys) H
skip-sign w is more = next {G = λ _. Unit {0}} (a-sign w is) (λ place _. more place)

-- a name where there is room for what it names
pub a-counted : {at : ℕ} (is_full : Bool) (which : LimitWord) (name : List ℕ) → is_full ≡ false → is_name name ≡ true
    → Writes (token as_name (counted is_full which)) at (sh name ∷ []) (λ w. w.text ≡ name)
a-counted is_full which name free h =
    mark name token_kind.Name (name-kind name h)
    (λ place. (record { text = name; place = place }, refl, rw (name-lexical name h place, free) refl, refl))

pub a-number : {at : ℕ} (value : ℕ) → is_number value ≡ true
    → Writes Items.number at (sh (decimal value) ∷ []) (λ n. n.value ≡ value)
a-number value h = mark (decimal value) token_kind.Number (number-kind value h)
    (λ place. (
      record { value = value; place = place },
      ap (λ (x : ℕ). Some (record { value = x; place = place }))
          (value-back value h),
      number-lexical value h place,
      refl,
    ))

-- the pieces of two parts
pub two-shapes : (xs ys : List Piece) → shapes (xs ++ ys) ≡ shapes xs ++ shapes ys
two-shapes xs ys = map-append piece_shape xs ys

pub flat-shapes : {X : Type 0} (f : X → List Piece) (xs : List X) → shapes (flat_map f xs) ≡ flat_map (λ x. shapes (f x)) xs
flat-shapes f [] = refl
flat-shapes f (x ∷ xs) =
    ap shapes (flat_map-cons f x xs) ∙ two-shapes (f x) (flat_map f xs)
    ∙ ap (λ (ss : List Shape). shapes (f x) ++ ss) (flat-shapes f xs)
    ∙ sym (flat_map-cons (λ y. shapes (f y)) x xs)

-- a bound's sign and value
abbrev pub IsBound : Bool → Plain → Bound → Type 0
IsBound minus p made = (made.minus ≡ minus) × (made.value ≡ p)

pub same-bound : (b made : Bound) → IsBound b.minus b.value made → bare_bound made ≡ bare_bound b
same-bound b made (e, f) = λ i. record { minus = e i; value = f i; place = start }

pub plain-written : {at : ℕ} (p : Plain) → is_plain p ≡ true
    → Writes Items.plain_bound at (sh (plain_text p) ∷ []) (IsBound false p)
plain-written (plain.Number value) h = mark (decimal value) token_kind.Number (number-kind value h)
    (λ place. (
      record { minus = false; value = plain.Number value; place = place },
      ap (λ (x : ℕ). Some (record { minus = false; value = plain.Number x; place = place })) (value-back value h),
      number-lexical value h place,
      (refl, refl),
    ))
plain-written (plain.Name name) h = mark name token_kind.Name (name-kind name h)
    (λ place. (record { minus = false; value = plain.Name name; place = place }, refl, name-lexical name h place, (refl, refl)))
plain-written (plain.Truth value) h = absurd (true≢false (sym h))

-- the pieces of a bound
abbrev pub bound_shapes : Bool → Plain → List Shape
bound_shapes minus p = shapes (sign_pieces minus ++ Line.token (plain_text p) ∷ [])

pub minus-written : {at : ℕ} (p : Plain) → is_plain p ≡ true → Writes Items.minus_bound at (bound_shapes true p) (IsBound true p)
unfolding is_reserved_word reserved_words
minus-written p h =
    next (a-sign (codes "-") refl)
    (λ place _. made {G = IsBound false p} (λ b. record { minus = true; value = b.value; place = place }) (plain-written p h)
    (λ b is. (refl, is.1)))

pub bound-of : {at : ℕ} (minus : Bool) (p : Plain) → is_plain p ≡ true
    → Writes Items.bound at (bound_shapes minus p) (IsBound minus p)
bound-of true p h = left Items.plain_bound (minus-written p h)
bound-of false p h = right Items.minus_bound (plain-written p h)

pub bound-written : {at : ℕ} (b : Bound) → is_bound b ≡ true
    → Writes Items.bound at (shapes (bound_pieces b)) (λ made. bare_bound made ≡ bare_bound b)
bound-written b h = weaker (same-bound b) (bound-of b.minus b.value h)

truth-of : {at : ℕ} (value : Bool)
    → Writes (token as_truth no_pass) at (sh (truth_word value) ∷ []) (IsBound false (plain.Truth value))
unfolding is_reserved_word reserved_words
truth-of true =
    mark (codes "true") token_kind.Word refl
    (λ place. (record { minus = false; value = plain.Truth true; place = place }, refl, refl, (refl, refl)))
truth-of false =
    mark (codes "false") token_kind.Word refl
    (λ place. (record { minus = false; value = plain.Truth false; place = place }, refl, refl, (refl, refl)))

value-of : {at : ℕ} (minus : Bool) (p : Plain) → is_init_value minus p ≡ true
    → Writes Items.value at (bound_shapes minus p) (IsBound minus p)
value-of minus (plain.Number value) h = right (token as_truth no_pass) (bound-of minus (plain.Number value) h)
value-of minus (plain.Name name) h = right (token as_truth no_pass) (bound-of minus (plain.Name name) h)
value-of true (plain.Truth value) h = absurd (true≢false (sym h))
value-of false (plain.Truth value) h = left Items.bound (truth-of value)

pub value-written : {at : ℕ} (b : Bound) → is_init b ≡ true
    → Writes Items.value at (shapes (bound_pieces b)) (λ made. bare_bound made ≡ bare_bound b)
value-written b h = weaker (same-bound b) (value-of b.minus b.value h)

pub upper-written : {at : ℕ} (hi : Bound) → is_bound hi ≡ true
    → Writes Items.upper at (sh (codes "..") ∷ shapes (bound_pieces hi)) (λ made. bare_bound made ≡ bare_bound hi)
unfolding is_reserved_word reserved_words
upper-written hi h = next (a-sign (codes "..") refl) (λ _ _. bound-written hi h)

-- a kind
abbrev SameKind : Kind → Kind → Type 0
SameKind k made = bare_kind made ≡ bare_kind k

range-of : {at : ℕ} (lo hi : Bound) (minus : Bool) (p : Plain) → lo.minus ≡ minus → lo.value ≡ p → is_plain p ≡ true
    → is_bound hi ≡ true
    → Writes Items.kind_part at (bound_shapes minus p ++ sh (codes "..") ∷ shapes (bound_pieces hi)) (SameKind (kind.Range lo hi))
range-of lo hi true p e f h k =
    right (Items.word (codes "bool") ▷ λ _. nothing kind.Bool) (right (Items.name ▷ Items.kind_of_name)
    (and_then {G = IsBound true p} (left Items.number_bound (minus-written p h))
    (λ b is. made {G = λ m. bare_bound m ≡ bare_bound hi} (kind.Range b) (upper-written hi k)
    (λ m same. λ i. kind.Range (record { minus = (is.0 ∙ sym e) i; value = (is.1 ∙ sym f) i; place = start }) (same i)))))
range-of lo hi false (plain.Number value) e f h k =
    right (Items.word (codes "bool") ▷ λ _. nothing kind.Bool) (right (Items.name ▷ Items.kind_of_name)
    (and_then {G = IsBound false (plain.Number value)}
    (right Items.minus_bound (made {G = λ n. n.value ≡ value}
    (λ n. record { minus = false; value = plain.Number n.value; place = n.place })
    (a-number value h) (λ n same. (refl, ap plain.Number same))))
    (λ b is. made {G = λ m. bare_bound m ≡ bare_bound hi} (kind.Range b) (upper-written hi k)
    (λ m same. λ i. kind.Range (record { minus = (is.0 ∙ sym e) i; value = (is.1 ∙ sym f) i; place = start }) (same i)))))
range-of lo hi false (plain.Name name) e f h k =
    right (Items.word (codes "bool") ▷ λ _. nothing kind.Bool)
    (left (alternative Items.minus_bound Items.number_bound ▷ Items.range_after)
    (next {G = λ w. w.text ≡ name} (a-name name h)
    (λ w text. left (nothing (kind.Named w)) (made {G = λ m. bare_bound m ≡ bare_bound hi}
    (kind.Range (record { minus = false; value = plain.Name w.text; place = w.place })) (upper-written hi k)
    (λ m same. λ i. kind.Range (record { minus = sym e i; value = (ap plain.Name text ∙ sym f) i; place = start }) (same i))))))
range-of lo hi false (plain.Truth value) e f h k = absurd (true≢false (sym h))

pub kind-written : {at : ℕ} (k : Kind) → is_kind k ≡ true → Writes Items.kind_part at (shapes (kind_pieces k)) (SameKind k)
unfolding is_reserved_word reserved_words
kind-written (kind.Range lo hi) h =
    let (low, high) = and_parts (is_bound lo) (is_bound hi) h in
    shaped (sym (two-shapes (bound_pieces lo) (Line.token (codes "..") ∷ bound_pieces hi)))
    (range-of lo hi lo.minus lo.value refl refl low high)
kind-written (kind.Named word) h =
    right (Items.word (codes "bool") ▷ λ _. nothing kind.Bool)
    (left (alternative Items.minus_bound Items.number_bound ▷ Items.range_after)
    (next {G = λ w. w.text ≡ word.text} (a-name word.text h) (λ w text.
    right (Items.upper ▷ λ hi. nothing (kind.Range (record { minus = false; value = plain.Name w.text; place = w.place }) hi))
    (none (λ i. kind.Named (record { text = text i; place = start }))))))
kind-written kind.Bool h =
    left (alternative (Items.name ▷ Items.kind_of_name) (alternative Items.minus_bound Items.number_bound ▷ Items.range_after))
    (next {G = λ _. Unit {0}} (a-word (codes "bool") refl) (λ _ _. none refl))

-- lists
pub more-same : {A B : Type 0} (f : A → B) (s front : List A) (v x : A) → map f s ≡ map f front → f v ≡ f x
    → map f (s ++ v ∷ []) ≡ map f (front ++ x ∷ [])
more-same f s front v x e g = map-append f s (v ∷ []) ∙ (λ i. e i ++ g i ∷ []) ∙ sym (map-append f front (x ∷ []))

pub same-length : {A B : Type 0} (f : A → B) (s front : List A) → map f s ≡ map f front → length s ≡ length front
same-length f s front e = sym (length-map s f) ∙ ap length e ∙ length-map front f

pub one-of : {X : Type 0} (test : X → Bool) (whole front rest : List X) (x : X) → whole ≡ front ++ x ∷ rest
    → list_all test whole ≡ true → test x ≡ true
one-of test whole front rest x is all =
    let split : (list_all test front && (test x && list_all test rest)) ≡ true = sym (list_all-append test front (x ∷ rest))
    ∙ sym (ap (list_all test) is) ∙ all in
    let (_, later) = and_parts (list_all test front) (test x && list_all test rest) split in
    let (here, _) = and_parts (test x) (list_all test rest) later in
    here

pub before-one : {X : Type 0} (whole front rest : List X) (x : X) → whole ≡ front ++ x ∷ rest → length front < length whole
before-one whole front rest x is = omega (arith, ap length is, length-append front (x ∷ rest))

pub count-most : (most n : ℕ) → is_count most n ≡ true → n ≤ most
count-most most n h = let (_, few) = and_parts (nat_le 1 n) (nat_le n most) h in leb-true n most few

pub names-written : {at : ℕ} (most : ℕ) (which : LimitWord) (words : List Word) → is_count most (length words) ≡ true
    → list_all is_word words ≡ true
    → Writes (Items.names most which) at (shapes (names_pieces words)) (λ ws. map bare_word ws ≡ map bare_word words)
unfolding is_reserved_word reserved_words
names-written most which [] counted all = absurd (true≢false (sym counted))
names-written {at} most which (w ∷ more) counted all =
    let (named, _) = and_parts (is_word w) (list_all is_word more) all in
    let most_of = count-most most (length (w ∷ more)) counted in
    let Good : List Word → List Word → Type 0 = λ front ws. map bare_word ws ≡ map bare_word front in
    shaped (ap (λ (ss : List Shape). sh w.text ∷ ss) (sym (flat-shapes (λ x. Line.token (codes ",") ∷ word_pieces x) more)))
    (next {G = λ v. v.text ≡ w.text} (a-name w.text named) (λ v text. many (Items.more_names most which)
    (λ x. sh (codes ",") ∷ sh x.text ∷ []) (w ∷ more) Good
    (λ k front rest x s is good. next {G = λ _. Unit {0}} (a-sign (codes ",") refl) (λ _ _.
    let early : length s < most = omega (
      arith,
      same-length bare_word s front good,
      before-one
          (w ∷ more) front rest x is,
      most_of,
    ) in
    next {G = λ u. u.text ≡ x.text} (a-counted (nat_le most (length s)) which x.text (lt-leb most (length s) early)
    (one-of is_word (w ∷ more) front rest x is all))
    (λ u is_text. none (more-same bare_word s front u x good (λ i. record { text = is_text i; place = start })))))
    (at + 1) (w ∷ []) more (v ∷ []) refl (λ i. record { text = text i; place = start } ∷ [])))

pub entries-written : {at : ℕ} (cells : List Expr) → are_entries cells ≡ true
    → Writes Items.entries at (shapes (exprs_pieces cells)) (λ es. map bare_expr es ≡ map bare_expr cells)
unfolding is_reserved_word reserved_words
entries-written [] h = absurd (true≢false (sym h))
entries-written {at} (e ∷ more) h =
    let (counted, all) = and_parts (is_count 32 (length (e ∷ more))) (list_all is_expr (e ∷ more)) h in
    let (lawful, _) = and_parts (is_expr e) (list_all is_expr more) all in
    let most_of = count-most 32 (length (e ∷ more)) counted in
    let Good : List Expr → List Expr → Type 0 = λ front es. map bare_expr es ≡ map bare_expr front in
    let commas = λ (x : Expr). Line.token (codes ",") ∷ expr_pieces x in
    shaped (ap (λ (ss : List Shape). shapes (expr_pieces e) ++ ss) (sym (flat-shapes commas more))
    ∙ sym (two-shapes (expr_pieces e) (flat_map commas more)))
    (and_then {G = Same e} (expr-written e false refl lawful)
    (λ a same. many Items.more_entries (λ x. sh (codes ",") ∷ shapes (expr_pieces x)) (e ∷ more) Good
    (λ k front rest x s is good. next {G = λ _. Unit {0}} (a-sign (codes ",") refl) (λ _ _.
    let early : length s < 32 = omega (
      arith,
      same-length bare_expr s front good,
      before-one
          (e ∷ more) front rest x is,
      most_of,
    ) in
    made {G = Same x} (λ b. s ++ b ∷ []) (expr-written x (nat_le 32 (length s)) (lt-leb 32 (length s) early)
    (one-of is_expr (e ∷ more) front rest x is all))
    (λ b is_same. more-same bare_expr s front b x good is_same)))
    (at + length (shapes (expr_pieces e))) (e ∷ []) more (a ∷ []) refl (λ i. same i ∷ [])))

-- one part and any number of others, each by the number of those before it
pub several-written : {A : Type 0} {at : ℕ} (part : ℕ → Language A) (written : A → List Shape) (bare : A → A) (whole : List A)
    → nat_le 1 (length whole) ≡ true
    → ((k n : ℕ) (front rest : List A) (x : A) → whole ≡ front ++ x ∷ rest → n ≡ length front
    → Writes (part n) k (written x) (λ y. bare y ≡ bare x))
    → Writes (Items.several part) at (flat_map written whole) (λ ys. map bare ys ≡ map bare whole)
several-written part written bare [] h each = absurd (true≢false (sym h))
several-written {A} {at} part written bare (x ∷ more) h each =
    let Good : List A → List A → Type 0 = λ front ys. map bare ys ≡ map bare front in
    shaped (sym (flat_map-cons written x more))
    (and_then {G = λ y. bare y ≡ bare x} (each at 0 [] more x refl refl)
    (λ a same. many (λ before. part (length before) ▷ λ b. nothing (before ++ b ∷ [])) written (x ∷ more) Good
    (λ k front rest y s is good. made {G = λ b. bare b ≡ bare y}
    (λ b. s ++ b ∷ []) (each k (length s) front rest y is (same-length bare s front good))
    (λ b is_same. more-same bare s front b y good is_same))
    (at + length (written x)) (x ∷ []) more (a ∷ []) refl (λ i. same i ∷ [])))
