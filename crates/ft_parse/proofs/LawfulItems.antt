-- The parts of a text that is read within the limits meet the invariant of a tree.
use Rattle.std.proofs.Common.{◌≡◌, ◌∙◌, inl, inr, ℕ, zero, suc, ◌+◌, ◌≤◌, ◌&&◌, cond, nat_le, not, Bool, true, false, List, [], ◌∷◌, ◌++◌}
use Rattle.std.proofs.Common.{codes}
use Rattle.std.proofs.Common.{length, Option, Some, refl, sym, ap, subst, length-append}
use native.Mathlib.Omega.{arith}
use Rattle.std.specs.List.{count_by, list_all, sum_by}
use Rattle.std.proofs.lemmas.Bool.Decides.{nat_tests}
use Rattle.std.proofs.lemmas.List.Folds.{list_all-append}
use Rattle.std.proofs.lemmas.List.Sums.{sum_by_push}
use Rattle.ft_base.specs.declared.place.Place.{Place}
use Rattle.ft_tree.specs.declared.expr.Expr.{Expr}
use Rattle.ft_tree.specs.declared.item.Word.{Word}
use Rattle.ft_tree.specs.declared.item.Plain as plain_type
use Rattle.ft_tree.specs.declared.item.Plain.TheVariants as plain
use Rattle.ft_tree.specs.declared.item.Bound.{Bound}
use Rattle.ft_tree.specs.declared.item.VarWord.{VarWord}
use Rattle.ft_tree.specs.declared.item.SectionWord.{SectionWord}
use Rattle.ft_tree.specs.declared.item.SectionWord.TheVariants as section
use Rattle.ft_tree.specs.declared.item.Row.{Row}
use Rattle.ft_tree.specs.declared.item.FactItem.{FactItem}
use Rattle.ft_tree.specs.declared.item.Item.{Item}
use Rattle.ft_tree.specs.declared.item.Item.TheVariants as item
use Rattle.ft_tree.specs.meaning.Limits.{IsSet, Sort, are_entries, are_listed, blocks, clauses, constants, facts_of, is_bound, is_count}
use Rattle.ft_tree.specs.meaning.Limits.{is_expr, is_fact, is_hold, is_init, is_init_value, is_item, is_kind, is_number, is_option}
use Rattle.ft_tree.specs.meaning.Limits.{is_plain, is_row, is_same_sort, is_side, is_vrow, is_word, limit_of, memories, sort_of, tables}
use Rattle.ft_tree.specs.meaning.Limits.{types, variables}
use Rattle.ft_base.specs.Names.{is_name}
use Rattle.ft_read.specs.meaning.Lexeme.{Lexeme, as_end, as_name, as_sign, as_word}
use Rattle.ft_parse.specs.meaning.Language.{Language, PassNoLimit, Step, alternative, lexemes, nothing, repeated, step, times, token, ◌▷◌}
use Rattle.ft_read.specs.meaning.Limit.{Passes, no_pass, lexical_passes, counted, counted_at}
use Rattle.ft_parse.specs.meaning.Room.{is_full, no_more_facts}
use Rattle.ft_parse.specs.meaning.Expressions.{expression}
use Rattle.ft_parse.specs.meaning.Items
use Rattle.ft_parse.specs.meaning.Parse.{AreLexemes}
use Rattle.ft_parse.specs.declared.parts.Parts.{Parts}
use Rattle.ft_read.specs.declared.parts.SectionAt.{SectionAt}
use Rattle.ft_read.specs.declared.stop.LimitWord.{LimitWord}
use Rattle.ft_read.specs.declared.stop.LimitWord.TheVariants as limit
use Rattle.ft_parse.proofs.LawfulExpressions.{lawful-expression}
use Rattle.ft_parse.proofs.RealTokens.{AllGood, IncludesLexical, ReadsLawful, first-none, good-parts, good-steps, reads-any, reads-map}
use Rattle.ft_parse.proofs.RealTokens.{reads-name}
use Rattle.ft_parse.proofs.RealTokens.{reads-number, reads-or, so-none}
use Rattle.ft_read.specs.meaning.Choices.{as_map, as_side, as_start, as_var_word, as_moment, as_plain, as_truth}

-- what holds of each part that is read within the limits
pub record Gives {A : Type 0} (L : Language A) (P : A → Type 0) : Type 0 where
  pub all : (at : ℕ) (steps : List Step) (a : A) → L at steps a → AllGood steps → P a

gives-token : {A : Type 0} {read : Lexeme → Option A} {passes : Passes} {P : A → Type 0} → ReadsLawful passes read P
    → Gives (token read passes) P
gives-token {A} {read} {passes} {P} reads = record { all = all } where
  by-step : (at : ℕ) (l : Lexeme) (a : A) → read l ≡ Some a → AllGood (step l (passes at l) ∷ []) → P a
  by-step at l a e (real, plain, _) = reads.gives at l a real plain e

  all : (at : ℕ) (steps : List Step) (a : A) → token read passes at steps a → AllGood steps → P a
  all at steps a (l, is, e) = rw is (by-step at l a e)

done : {A : Type 0} {P : A → Type 0} {a : A} → P a → Gives (nothing a) P
done {A} {P} {a} p = record { all = λ at steps b h good. subst P h.1 p }

infixr 4 ◌◇◌
◌◇◌ : {A B : Type 0} {L : Language A} {M : A → Language B} {P : A → Type 0} {Q : B → Type 0} → Gives L P
    → ((a : A) → P a → Gives (M a) Q) → Gives (L ▷ M) Q
unfolding ◌▷◌
◌◇◌ {A} {B} {L} {M} {P} {Q} first second = record { all = all } where
  joined : (at : ℕ) (us vs : List Step) (a : A) (b : B) → L at us a → M a (at + length us) vs b → AllGood (us ++ vs) → Q b
  joined at us vs a b f g good =
      let (x, y) = good-parts us vs good in
      (second a (first.all at us a f x)).all (at + length us) vs b g y

  all : (at : ℕ) (steps : List Step) (b : B) → (L ▷ M) at steps b → AllGood steps → Q b
  all at steps b (a, us, vs, is, f, g) = rw is (joined at us vs a b f g)

one-of : {A : Type 0} {L M : Language A} {P : A → Type 0} → Gives L P → Gives M P → Gives (alternative L M) P
one-of {A} {L} {M} {P} one other = record { all = all } where
  all : (at : ℕ) (steps : List Step) (a : A) → alternative L M at steps a → AllGood steps → P a
  all at steps a (inl h) good = one.all at steps a h good
  all at steps a (inr h) good = other.all at steps a h good

weaker : {A : Type 0} {L : Language A} {P Q : A → Type 0} → ((a : A) → P a → Q a) → Gives L P → Gives L Q
weaker {A} {L} {P} {Q} h s = record { all = λ at steps a x good. h a (s.all at steps a x good) }

module _ {A : Type 0} (part : A → Language A) (P : A → Type 0) (parts : (a : A) → P a → Gives (part a) P) where
  gives-times : (k : ℕ) (a : A) → P a → Gives (times k part a) P
  unfolding times
  gives-times zero a p = record { all = λ at steps b h good. (done {P = P} {a = a} p).all at steps b h good }
  gives-times (suc k) a p = record { all = λ at steps b h good. (parts a p ◇ λ c q. gives-times k c q).all at steps b h good }

  again : (a : A) → P a → Gives (repeated part a) P
  again a p = record { all = λ at steps b h good. let (k, x) = h in (gives-times k a p).all at steps b x good }

a-token : {A : Type 0} {passes : Passes} (read : Lexeme → Option A) → Gives (token read passes) (λ a. Unit {0})
a-token {A} {passes} read = gives-token (reads-any read)

a-word : (w : List ℕ) → Gives (Items.word w) (λ a. Unit {0})
a-word w = a-token (as_word w)

a-sign : (w : List ℕ) → Gives (Items.sign w) (λ a. Unit {0})
a-sign w = a-token (as_sign w)

lexical-includes : IncludesLexical lexical_passes
lexical-includes = record { lexical = λ at l e. e }

counted-includes : (full : Bool) (which : LimitWord) → IncludesLexical (counted full which)
counted-includes full which = record { lexical = λ at l e. (first-none _ _ e).0 }

a-name : Gives Items.name (λ w. is_word w ≡ true)
a-name = gives-token (reads-name lexical-includes)

a-number : Gives Items.number (λ n. is_number n.value ≡ true)
a-number = gives-token (reads-number lexical-includes)

-- a token for which there was room
reads-room : {A : Type 0} (full : Bool) (which : LimitWord) (read : Lexeme → Option A)
    → ReadsLawful (counted full which) read (λ a. full ≡ false)
reads-room {A} full which read = record { gives = λ at l a real p e. so-none full _ _ (first-none _ _ p).1 }

reads-counted : (full : Bool) (which : LimitWord) → ReadsLawful (counted full which) as_name (λ w. (is_word w ≡ true) × (full ≡ false))
reads-counted full which = record {
  gives = λ at l w real p e. ((reads-name (counted-includes full which)).gives at l w real p e, so-none full _ _ (first-none _ _ p).1);
}

a-counted : (full : Bool) (which : LimitWord)
    → Gives (token as_name (counted full which)) (λ w. (is_word w ≡ true) × (full ≡ false))
a-counted full which = gives-token (reads-counted full which)

an-expression : (is_beyond : Bool) → Gives (expression is_beyond) (λ e. (is_expr e ≡ true) × (is_beyond ≡ false))
an-expression is_beyond = record { all = λ at steps e h good. lawful-expression is_beyond at steps e h good }

both : (x y : Bool) → x ≡ true → y ≡ true → (x && y) ≡ true
both x y e f = rw (e, f) refl

-- elements that pass a test, one or more, and for the last of them there was room
pub record Many {A : Type 0} (test : A → Bool) (full : ℕ → Bool) (xs : List A) : Type 0 where
  pub every : list_all test xs ≡ true
  pub last : (n : ℕ) × (length xs ≡ suc n) × (full n ≡ false)

module _ {A : Type 0} (test : A → Bool) (full : ℕ → Bool) where
  one : (a : A) → test a ≡ true → full 0 ≡ false → Many test full (a ∷ [])
  one a e f = record { every = both (test a) true e refl; last = (0, refl, f) }

  one-more : (xs : List A) (a : A) → Many test full xs → test a ≡ true → full (length xs) ≡ false → Many test full (xs ++ a ∷ [])
  one-more xs a m e f = record {
    every = list_all-append test xs (a ∷ []) ∙ both (list_all test xs) (test a && true) m.every (both (test a) true e refl);
    last = (length xs, length-append xs (a ∷ []) ∙ omega arith, f);
  }

  in-several : {part : ℕ → Language A} → ((n : ℕ) → Gives (part n) (λ a. (test a ≡ true) × (full n ≡ false)))
      → Gives (Items.several part) (Many test full)
  in-several {part} parts =
      parts 0 ◇ λ a h. again (λ before. part (length before) ▷ λ b. nothing (before ++ b ∷ [])) (Many test full)
      (λ before m. parts (length before) ◇ λ b g. done (one-more before b m g.0 g.1)) (a ∷ []) (one a h.0 h.1)

count-room : (limit length n : ℕ) → length ≡ suc n → nat_le limit n ≡ false → is_count limit length ≡ true
count-room limit length n e f =
    let low : nat_le 1 length ≡ true = grind (arith, nat_tests) in
    let high : nat_le length limit ≡ true = grind (arith, nat_tests) in
    both (nat_le 1 length) (nat_le length limit) low high

many-count : {A : Type 0} {test : A → Bool} (limit : ℕ) (xs : List A) → Many test (λ n. nat_le limit n) xs
    → is_count limit (length xs) ≡ true
many-count {A} {test} limit xs m = let (n, e, f) = m.last in count-room limit (length xs) n e f

reads-plain : ReadsLawful lexical_passes as_plain (λ b. (is_bound b ≡ true) × (b.minus ≡ false))
reads-plain =
    reads-or (reads-map (λ n. record { minus = false; value = plain.Number n.value; place = n.place }) (reads-number lexical-includes)
    (λ n e. (e, refl)))
    (reads-map (λ w. record { minus = false; value = plain.Name w.text; place = w.place }) (reads-name lexical-includes)
    (λ w e. (e, refl)))

in-plain : Gives Items.plain_bound (λ b. (is_bound b ≡ true) × (b.minus ≡ false))
in-plain = gives-token reads-plain

in-minus : Gives Items.minus_bound (λ b. is_bound b ≡ true)
in-minus = a-sign (codes "-") ◇ λ place _. in-plain ◇ λ b h. done h.0

in-bound : Gives Items.bound (λ b. is_bound b ≡ true)
in-bound = one-of in-minus (weaker (λ b h. h.0) in-plain)

init-value : (minus : Bool) (v : plain_type.Plain) → is_plain v ≡ true → is_init_value minus v ≡ true
init-value minus (plain.Number value) e = e
init-value minus (plain.Name name) e = e
init-value minus (plain.Truth value) e = cc e

reads-truth : ReadsLawful no_pass as_truth (λ b. is_init b ≡ true)
reads-truth =
    reads-or (reads-map (λ place. record { minus = false; value = plain.Truth true; place = place })
    (reads-any (as_word (codes "true"))) (λ place _. refl))
    (reads-map (λ place. record { minus = false; value = plain.Truth false; place = place }) (reads-any (as_word (codes "false")))
    (λ place _. refl))

in-value : Gives Items.value (λ b. is_init b ≡ true)
in-value = one-of (gives-token reads-truth) (weaker (λ b h. init-value b.minus b.value h) in-bound)

in-upper : Gives Items.upper (λ b. is_bound b ≡ true)
in-upper = a-sign (codes "..") ◇ λ _ _. in-bound

in-kind-of-name : (w : Word) → is_word w ≡ true → Gives (Items.kind_of_name w) (λ k. is_kind k ≡ true)
in-kind-of-name w e = one-of (in-upper ◇ λ hi f. done (both (is_name w.text) (is_bound hi) e f)) (done e)

in-number-bound : Gives Items.number_bound (λ b. is_bound b ≡ true)
in-number-bound = a-number ◇ λ n e. done e

in-range : (lo : Bound) → is_bound lo ≡ true → Gives (Items.range_after lo) (λ k. is_kind k ≡ true)
in-range lo e = in-upper ◇ λ hi f. done (both (is_bound lo) (is_bound hi) e f)

in-kind : Gives Items.kind_part (λ k. is_kind k ≡ true)
in-kind =
    one-of (a-word (codes "bool") ◇ λ _ _. done refl)
    (one-of (a-name ◇ in-kind-of-name) (one-of in-minus in-number-bound ◇ in-range))

abbrev Entries : List Expr → Type 0
Entries es = Many is_expr (λ n. nat_le 32 n) es

in-more-entries : (es : List Expr) → Entries es → Gives (Items.more_entries es) Entries
in-more-entries es m =
    a-sign (codes ",") ◇ λ _ _. an-expression (nat_le 32 (length es)) ◇ λ e h.
    done (one-more is_expr (λ n. nat_le 32 n) es e m h.0 h.1)

in-entries : Gives Items.entries (λ es. are_entries es ≡ true)
in-entries =
    weaker (λ es m. both (is_count 32 (length es)) (list_all is_expr es) (many-count 32 es m) m.every)
    (an-expression false ◇ λ e h. again Items.more_entries Entries in-more-entries (e ∷ [])
    (one is_expr (λ n. nat_le 32 n) e h.0 refl))

in-names : (most : ℕ) (which : LimitWord) → nat_le most 0 ≡ false
    → Gives (Items.names most which) (Many is_word (λ n. nat_le most n))
in-names most which some =
    a-name ◇ λ w e. again (Items.more_names most which) (Many is_word (λ n. nat_le most n))
    (λ ws m. a-sign (codes ",") ◇ λ _ _. a-counted (nat_le most (length ws)) which ◇ λ v h.
    done (one-more is_word (λ n. nat_le most n) ws v m h.0 h.1))
    (w ∷ []) (one is_word (λ n. nat_le most n) w e some)

in-row-word : (before : ℕ) → Gives (Items.row_word before) (λ place. nat_le 32 before ≡ false)
in-row-word before = gives-token (reads-room (nat_le 32 before) limit.Rows (as_word (codes "row")))

in-row : (n : ℕ) → Gives (Items.row n) (λ r. (is_row r ≡ true) × (nat_le 32 n ≡ false))
in-row n =
    in-row-word n ◇ λ place room. an-expression false ◇ λ head h. a-sign (codes ":") ◇ λ _ _. in-entries ◇ λ cells e.
    a-sign (codes ";") ◇ λ _ _.
    done (both (is_expr head) (are_entries cells) h.0 e, room)

in-vrow : (n : ℕ) → Gives (Items.vrow n) (λ r. (is_vrow r ≡ true) × (nat_le 32 n ≡ false))
in-vrow n =
    in-row-word n ◇ λ place room. a-name ◇ λ target h. a-sign (codes ":") ◇ λ _ _. in-entries ◇ λ cells e.
    a-sign (codes ";") ◇ λ _ _.
    done (both (is_word target) (are_entries cells) h e, room)

in-header : (w : List ℕ) → Gives (Items.header w) (λ es. are_entries es ≡ true)
in-header w = a-word w ◇ λ _ _. in-entries ◇ λ cells e. a-sign (codes ";") ◇ λ _ _. done e

-- an item that may follow these
pub record Follows (before : List Item) (made : Item) : Type 0 where
  pub lawful : is_item made ≡ true
  pub room : is_full (sort_of made) before ≡ false
  pub facts : sum_by facts_of before ≤ 300 → sum_by facts_of before + facts_of made ≤ 300

-- one that isn't a block
follows : (before : List Item) (made : Item) → facts_of made ≡ 0 → is_item made ≡ true → is_full (sort_of made) before ≡ false
    → Follows before made
follows before made none e f = record { lawful = e; room = f; facts = λ low. omega (arith, none, low) }

in-declared : (sort : Sort) (which : LimitWord) (before : List Item)
    → Gives (Items.declared sort which before) (λ w. (is_word w ≡ true) × (is_full sort before ≡ false))
in-declared sort which before = a-counted (is_full sort before) which

three : (x y z : Bool) → x ≡ true → y ≡ true → z ≡ true → (x && y && z) ≡ true
three x y z e f g = rw (e, f, g) refl

four : (x y z w : Bool) → x ≡ true → y ≡ true → z ≡ true → w ≡ true → (x && y && z && w) ≡ true
four x y z w e f g h = rw (e, f, g, h) refl

five : (x y z w v : Bool) → x ≡ true → y ≡ true → z ≡ true → w ≡ true → v ≡ true → (x && y && z && w && v) ≡ true
five x y z w v e f g h i = rw (e, f, g, h, i) refl

in-grid : (before : List Item) (w : List ℕ) (make : Word → List Expr → List Row → Item)
    → ((target : Word) (cells : List Expr) (rows : List Row) → is_word target ≡ true → are_entries cells ≡ true
    → is_count 32 (length rows) ≡ true → list_all is_row rows ≡ true
    → is_full tables before ≡ false → Follows before (make target cells rows))
    → Gives (Items.grid before w make) (Follows before)
in-grid before w make fits =
    in-declared tables limit.Tables before ◇ λ target h.
    a-sign (codes "{") ◇ λ _ _. in-header w ◇ λ cells e. in-several is_row (λ n. nat_le 32 n) in-row ◇ λ rows m.
    a-sign (codes "}") ◇ λ _ _. done (fits target cells rows h.0 e (many-count 32 rows m) m.every h.1)

in-vector : (before : List Item) (s : SectionWord) → is_full tables before ≡ false → Gives (Items.vector_grid s) (Follows before)
in-vector before s room =
    a-sign (codes "{") ◇ λ _ _. in-header (codes "columns") ◇ λ cells e. in-several is_vrow (λ n. nat_le 32 n) in-vrow ◇ λ rows m.
    a-sign (codes "}") ◇ λ _ _.
    done (follows before (item.Vector s cells rows) refl (three (are_entries cells) (is_count 32 (length rows))
    (list_all is_vrow rows) e (many-count 32 rows m) m.every) room)

reads-vector : (before : List Item) (place : Place)
    → ReadsLawful (counted_at (is_full tables before) limit.Tables place) (as_word (codes "vector")) (λ _. is_full tables before ≡ false)
reads-vector before place = record { gives = λ at l a real p e. so-none (is_full tables before) _ _ (first-none _ _ p).1 }

in-table : (before : List Item) (s : SectionAt) → Gives (Items.table before s) (Follows before)
in-table before s =
    one-of (a-word (codes "normal") ◇ λ _ _. in-grid before (codes "columns") (item.Normal s.word)
    (λ target cells rows e f g h room. follows before (item.Normal s.word target cells rows) refl
    (four (is_word target) (are_entries cells) (is_count 32 (length rows)) (list_all is_row rows) e f g h) room))
    (one-of (a-word (codes "inverted") ◇ λ _ _. in-grid before (codes "terms") (item.Inverted s.word)
    (λ target cells rows e f g h room. follows before (item.Inverted s.word target cells rows) refl
    (four (is_word target) (are_entries cells) (is_count 32 (length rows)) (list_all is_row rows) e f g h) room))
    (gives-token (reads-vector before s.place) ◇ λ _ room. in-vector before s.word room))

in-variable : (before : List Item) (words : VarWord) → Gives (Items.variable before words) (Follows before)
in-variable before words =
    in-declared variables limit.Variables before ◇ λ w h. a-sign (codes ":") ◇ λ _ _. in-kind ◇ λ of k.
    a-word (codes "init") ◇ λ _ _. in-value ◇ λ init i. a-sign (codes ";") ◇ λ _ _.
    done (follows before (item.Variable words w of init) refl (three (is_word w) (is_kind of) (is_init init) h.0 k i) h.1)

in-held : (before : List Item) (side : SectionWord) → is_side side ≡ true → Gives (Items.held before side) (Follows before)
in-held before side s =
    in-declared memories limit.Memories before ◇ λ w h.
    a-sign (codes "(") ◇ λ _ _. an-expression false ◇ λ cond e. a-sign (codes ",") ◇ λ _ _. in-plain ◇ λ hold b.
    a-word (codes "ms") ◇ λ _ _. a-sign (codes ")") ◇ λ _ _. a-sign (codes ";") ◇ λ _ _.
    done (follows before (item.Held side w cond hold) refl
    (four (is_side side) (is_word w) (is_expr cond) (is_hold hold) s h.0 e.0
    (both (is_bound hold) (not hold.minus) b.0 (ap not b.1))) h.1)

in-hyst : (before : List Item) (side : SectionWord) → is_side side ≡ true → Gives (Items.hyst before side) (Follows before)
in-hyst before side s =
    in-declared memories limit.Memories before ◇ λ w h.
    a-sign (codes "(") ◇ λ _ _. an-expression false ◇ λ term e. a-sign (codes ",") ◇ λ _ _. in-bound ◇ λ lo l.
    a-sign (codes ",") ◇ λ _ _. in-bound ◇ λ hi u. a-sign (codes ",") ◇ λ _ _. a-token as_start ◇ λ start _.
    a-sign (codes ")") ◇ λ _ _. a-sign (codes ";") ◇ λ _ _.
    done (follows before (item.Hyst side w term lo hi start) refl
    (five (is_side side) (is_word w) (is_expr term) (is_bound lo) (is_bound hi) s h.0 e.0 l u) h.1)

in-sided : (before : List Item) (s : SectionAt) → is_side s.word ≡ true → Gives (Items.sided before s) (Follows before)
in-sided before s e =
    one-of (a-word (codes "var") ◇ λ _ _. in-variable before (Items.inner_variable s.word))
    (one-of (a-word (codes "held") ◇ λ _ _. in-held before s.word e)
    (one-of (a-word (codes "hyst") ◇ λ _ _. in-hyst before s.word e) (in-table before s)))

in-signed : Gives Items.signed_number (λ n. is_number n.1.value ≡ true)
in-signed = one-of (a-sign (codes "-") ◇ λ _ _. a-number ◇ λ n e. done e) (a-number ◇ λ n e. done e)

in-constant : (before : List Item) → Gives (Items.constant before) (Follows before)
in-constant before =
    a-word (codes "const") ◇ λ _ _. in-declared constants limit.Constants before ◇ λ w h. a-sign (codes "=") ◇ λ _ _.
    in-signed ◇ λ n e. a-sign (codes ";") ◇ λ _ _.
    done (follows before (item.Constant w n.0 n.1) refl (both (is_word w) (is_number n.1.value) h.0 e) h.1)

in-members : (before : List Item) (w : Word) → is_word w ≡ true → is_full types before ≡ false
    → Gives (Items.members w) (Follows before)
in-members before w e room =
    a-sign (codes "{") ◇ λ _ _. in-names 64 limit.Members refl ◇ λ ms m. a-sign (codes "}") ◇ λ _ _.
    done (follows before (item.EnumType w ms) refl (three (is_word w) (is_count 64 (length ms)) (list_all is_word ms) e
    (many-count 64 ms m) m.every) room)

in-range-type : (before : List Item) (w : Word) → is_word w ≡ true → is_full types before ≡ false
    → Gives (Items.range_type w) (Follows before)
in-range-type before w e room =
    in-bound ◇ λ lo l. in-upper ◇ λ hi u. done (follows before (item.RangeType w lo hi) refl
    (three (is_word w) (is_bound lo) (is_bound hi) e l u) room)

in-type : (before : List Item) → Gives (Items.type_item before) (Follows before)
in-type before =
    a-word (codes "type") ◇ λ _ _. in-declared types limit.Types before ◇ λ w h. a-sign (codes "=") ◇ λ _ _.
    one-of (in-members before w h.0 h.1) (in-range-type before w h.0 h.1) ◇ λ made f. a-sign (codes ";") ◇ λ _ _. done f

in-clause : (before : List Item) → Gives (Items.clause before) (Follows before)
in-clause before =
    gives-token (reads-room (is_full clauses before) limit.Nat (as_word (codes "nat"))) ◇ λ _ room.
    a-token as_moment ◇ λ moment _. an-expression false ◇ λ cond e.
    a-sign (codes ";") ◇ λ _ _. done (follows before (item.Nat moment cond) refl e.0 room)

listed-below : (length n : ℕ) → length ≡ suc n → nat_le 300 n ≡ false → nat_le length 300 ≡ true
listed-below length n e f = grind (arith, nat_tests)

many-listed : (ws : List Word) → Many is_word (λ n. nat_le 300 n) ws → are_listed ws ≡ true
many-listed ws m =
    let (n, e, f) = m.last in
    both (nat_le (length ws) 300) (list_all is_word ws) (listed-below (length ws) n e f) m.every

in-listed : (w : List ℕ) → Gives (Items.listed w) (λ ws. are_listed ws ≡ true)
in-listed w =
    one-of (a-word w ◇ λ _ _. in-names 300 limit.List refl ◇ λ ws m. a-sign (codes ";") ◇ λ _ _. done (many-listed ws m))
    (done refl)

in-fact-name : (before : List Item) (n : ℕ)
    → Gives (Items.fact_name before n) (λ w. (is_word w ≡ true) × (no_more_facts before n ≡ false))
in-fact-name before n = a-counted (no_more_facts before n) limit.Facts

in-fact : (before : List Item) (n : ℕ)
    → Gives (Items.fact_part before n) (λ f. (is_fact f ≡ true) × (no_more_facts before n ≡ false))
in-fact before n =
    one-of (a-word (codes "shows") ◇ λ _ _. in-fact-name before n ◇ λ w h. a-sign (codes ":") ◇ λ _ _.
    an-expression false ◇ λ cond e. a-sign (codes ";") ◇ λ _ _.
    done (both (is_word w) (is_expr cond) h.0 e.0, h.1))
    (a-word (codes "goal") ◇ λ _ _. in-fact-name before n ◇ λ w h. a-sign (codes ";") ◇ λ _ _. done (h.0, h.1))

some-facts : (length n : ℕ) → length ≡ suc n → nat_le 1 length ≡ true
some-facts length n e = grind (arith, nat_tests)

few-facts : (sum length n : ℕ) → length ≡ suc n → nat_le 300 (sum + n) ≡ false → sum + length ≤ 300
few-facts sum length n e f = grind (arith, nat_tests)

follows-block : (before : List Item) (w : Word) (takes uses : List Word) (facts : List FactItem) → is_word w ≡ true
    → is_full blocks before ≡ false → are_listed takes ≡ true → are_listed uses ≡ true
    → Many is_fact (no_more_facts before) facts → Follows before (item.Block w takes uses facts)
follows-block before w takes uses facts e room t u m =
    let (n, long, few) = m.last in
    record {
      lawful = five (is_word w) (are_listed takes) (are_listed uses) (nat_le 1 (length facts)) (list_all is_fact facts) e t u
          (some-facts (length facts) n long) m.every;
      room = room;
      facts = λ low. few-facts (sum_by facts_of before) (length facts) n long few;
    }

in-block : (before : List Item) → Gives (Items.block before) (Follows before)
in-block before =
    a-word (codes "block") ◇ λ _ _. in-declared blocks limit.Blocks before ◇ λ w h.
    a-sign (codes "{") ◇ λ _ _. in-listed (codes "takes") ◇ λ takes t. in-listed (codes "uses") ◇ λ uses u.
    in-several is_fact (no_more_facts before) (in-fact before) ◇ λ facts m. a-sign (codes "}") ◇ λ _ _.
    done (follows-block before w takes uses facts h.0 h.1 t u m)

reads-side : ReadsLawful no_pass as_side (λ s. is_side s.word ≡ true)
reads-side =
    reads-or (reads-map (λ place. record { word = section.Req; place = place }) (reads-any (as_word (codes "req")))
    (λ place _. refl))
    (reads-map (λ place. record { word = section.Sof; place = place }) (reads-any (as_word (codes "sof"))) (λ place _. refl))

in-item : (before : List Item) → Gives (Items.item_part before) (Follows before)
in-item before =
    one-of (in-constant before) (one-of (in-type before) (one-of (a-token as_var_word ◇ λ words _. in-variable before words)
    (one-of (gives-token reads-side ◇ in-sided before) (one-of (a-token as_map ◇ λ s _. in-table before s)
    (one-of (in-clause before) (in-block before))))))

-- items of a set
pub record AreItems (items : List Item) : Type 0 where
  pub every : list_all is_item items ≡ true
  pub counts : (sort : Sort) → count_by (λ item. is_same_sort sort (sort_of item)) items ≤ limit_of sort
  pub facts : sum_by facts_of items ≤ 300

same-sort : (a b : Sort) → is_same_sort a b ≡ true → a ≡ b
same-sort constants constants e = refl
same-sort types types e = refl
same-sort variables variables e = refl
same-sort memories memories e = refl
same-sort tables tables e = refl
same-sort clauses clauses e = refl
same-sort blocks blocks e = refl
same-sort _ _ e = cc e

count-below : (limit n : ℕ) → nat_le limit n ≡ false → n + 1 ≤ limit
count-below limit n e = grind (arith, nat_tests)

count-more : (sort : Sort) (before : List Item) (made : Item) (b : Bool) → is_same_sort sort (sort_of made) ≡ b
    → is_full (sort_of made) before ≡ false
    → count_by (λ item. is_same_sort sort (sort_of item)) before ≤ limit_of sort
    → count_by (λ item. is_same_sort sort (sort_of item)) before + cond b 1 0 ≤ limit_of sort
count-more sort before made true e room low =
    let same : sort_of made ≡ sort = sym (same-sort sort (sort_of made) e) in
    count-below (limit_of sort) (count_by (λ item. is_same_sort sort (sort_of item)) before)
    (subst (λ (s : Sort). is_full s before ≡ false) same room)
count-more sort before made false e room low = omega (arith, low)

items-more : (before : List Item) (made : Item) → AreItems before → Follows before made → AreItems (before ++ made ∷ [])
items-more before made a f = record {
  every = list_all-append is_item before (made ∷ []) ∙ both (list_all is_item before) (is_item made && true) a.every
      (both (is_item made) true f.lawful refl);
  counts = λ sort. rw (sum_by_push (λ item. cond (is_same_sort sort (sort_of item)) 1 0) before made)
      (count-more sort before made (is_same_sort sort (sort_of made)) refl f.room (a.counts sort));
  facts = rw (sum_by_push facts_of before made) (f.facts a.facts);
}

no-items : AreItems []
no-items = record { every = refl; counts = λ sort. omega arith; facts = omega arith }

in-more-items : (before : List Item) → AreItems before → Gives (Items.more_items before) AreItems
in-more-items before a = in-item before ◇ λ made f. done (items-more before made a f)

in-setting : (w : List ℕ) → Gives (Items.setting w) (λ n. is_option n ≡ true)
in-setting w = one-of (a-word w ◇ λ _ _. a-number ◇ λ n e. a-sign (codes ";") ◇ λ _ _. done e) (done refl)

pub in-set : Gives Items.set (λ parts. IsSet parts.name parts.period parts.splits parts.depth parts.items)
in-set =
    a-word (codes "set") ◇ λ _ _. a-name ◇ λ w e. a-sign (codes ";") ◇ λ _ _. a-word (codes "period") ◇ λ _ _.
    a-number ◇ λ period p. a-word (codes "ms") ◇ λ _ _. a-sign (codes ";") ◇ λ _ _.
    in-setting (codes "splits") ◇ λ splits s. in-setting (codes "depth") ◇ λ depth d.
    again Items.more_items AreItems in-more-items [] no-items ◇ λ items a.
    a-token as_end ◇ λ _ _.
    done (record {
      named = e;
      numbers = three (is_number period.value) (is_option splits) (is_option depth) p s d;
      parts = a.every;
      counts = a.counts;
      facts = a.facts;
    })

-- a text that is read within the limits gives the parts of a tree
pub lawful-parts : (text : List ℕ) (steps : List Step) (parts : Parts) → AreLexemes text (lexemes steps) → Items.set 0 steps parts
    → PassNoLimit steps
    → IsSet parts.name parts.period parts.splits parts.depth parts.items
lawful-parts text steps parts are h no_limit = in-set.all 0 steps parts h (good-steps text steps are no_limit)
