-- The lists of a set's text.
use Rattle.std.proofs.Common.{◌≡◌, ℕ, ◌<◌, Bool, true, false, List, [], ◌∷◌, ◌++◌, length, nat_le, Ok, codes}
use Rattle.ft_tree.specs.declared.expr.Expr.{Expr}
use Rattle.ft_tree.specs.declared.item.Word.{Word}
use Rattle.ft_read.specs.meaning.Lexeme.{Lexeme, as_name, as_number, as_sign, as_word}
use Rattle.ft_read.specs.meaning.Limit.{no_pass, lexical_passes, counted}
use Rattle.ft_parse.specs.parsers.Items.{entries_by, more_entries_by, more_names_by, names_by}
use Rattle.ft_read.specs.parsers.Parts.{name_by, number_by, sign_by, word_by}
use Rattle.ft_read.specs.parsers.Combinators.{Parser, ParserState, begins, can, bind, ◌▶◌}
use Rattle.ft_parse.specs.parsers.Repetition.{many}
use Rattle.ft_read.specs.declared.stop.LimitWord.{LimitWord}
use Rattle.ft_parse.proofs.Shorter.{Keeps, Shortens, repetition-end, first-then, gives, keeps, less, many-keeps, part-then, token, turn}
use Rattle.ft_parse.proofs.PrecedenceLemmas.{expression-shortens}

pub word-shortens : (text : List ℕ) → Shortens (word_by text)
unfolding word_by
word-shortens text = token (as_word text) no_pass

pub sign-shortens : (text : List ℕ) → Shortens (sign_by text)
unfolding sign_by
sign-shortens text = token (as_sign text) no_pass

pub number-shortens : Shortens number_by
unfolding number_by
number-shortens = token as_number lexical_passes

pub name-shortens : Shortens name_by
unfolding name_by
name-shortens = token as_name lexical_passes

-- a part that takes tokens away, and then another part
pub next : {A B : Type 0} {p : Parser A} {q : A → Parser B} → Shortens p → ((a : A) → Keeps (q a)) → Keeps (p ▶ q)
next {A} {B} {p} {q} h k = part-then p q (keeps p h) k

pub begin : {A B : Type 0} {p : Parser A} {q : A → Parser B} → Shortens p → ((a : A) → Keeps (q a)) → Shortens (p ▶ q)
begin {A} {B} {p} {q} h k = first-then p q h k

more-entries : (before : List Expr) → Shortens (more_entries_by before)
unfolding more_entries_by
more-entries before = begin (sign-shortens (codes ",")) (λ _. next (expression-shortens (nat_le 32 (length before)))
    (λ e. gives (before ++ e ∷ [])))

pub entries-shortens : Shortens entries_by
unfolding entries_by
entries-shortens = begin (expression-shortens false) (λ e. many-keeps (can (as_sign (codes ","))) more_entries_by
    (λ before. keeps _ (more-entries before)) (e ∷ []))

more-names : (most : ℕ) (which : LimitWord) (before : List Word) → Shortens (more_names_by most which before)
unfolding more_names_by
more-names most which before =
    begin (sign-shortens (codes ",")) (λ _. next (token as_name (counted (nat_le most (length before)) which))
    (λ w. gives (before ++ w ∷ [])))

pub names-shortens : (most : ℕ) (which : LimitWord) → Shortens (names_by most which)
unfolding names_by
names-shortens most which =
    begin name-shortens (λ w. many-keeps (can (as_sign (codes ","))) (more_names_by most which)
    (λ before. keeps _ (more-names most which before)) (w ∷ []))

abbrev comma : Lexeme → Bool
comma = can (as_sign (codes ","))

pub entries_turn : (before : List Expr) (s : ParserState) → begins (can (as_sign (codes ","))) s.rest ≡ true
    → many (can (as_sign (codes ","))) more_entries_by before s
    ≡ bind (many (can (as_sign (codes ","))) more_entries_by) (more_entries_by before s)
entries_turn before s e = turn comma more_entries_by more-entries before s.at s.rest e

pub entries_end : (before : List Expr) (s : ParserState) → begins (can (as_sign (codes ","))) s.rest ≡ false
    → many (can (as_sign (codes ","))) more_entries_by before s ≡ (Ok before, s)
entries_end before s e = repetition-end comma more_entries_by more-entries before s.at s.rest e

pub entries_less : (before next : List Expr) (s after : ParserState) → begins (can (as_sign (codes ","))) s.rest ≡ true
    → more_entries_by before s ≡ (Ok next, after) → length after.rest < length s.rest
entries_less before next s after e f = less comma (more_entries_by before) (more-entries before) s.at s.rest next after e f

pub ruleset entries = (entries_turn, entries_end, entries_less)

pub names_turn : (most : ℕ) (which : LimitWord) (before : List Word) (s : ParserState) → begins (can (as_sign (codes ","))) s.rest ≡ true
    → many (can (as_sign (codes ","))) (more_names_by most which) before s
    ≡ bind (many (can (as_sign (codes ","))) (more_names_by most which)) (more_names_by most which before s)
names_turn most which before s e = turn comma (more_names_by most which) (more-names most which) before s.at s.rest e

pub names_end : (most : ℕ) (which : LimitWord) (before : List Word) (s : ParserState) → begins (can (as_sign (codes ","))) s.rest ≡ false
    → many (can (as_sign (codes ","))) (more_names_by most which) before s ≡ (Ok before, s)
names_end most which before s e = repetition-end comma (more_names_by most which) (more-names most which) before s.at s.rest e

pub names_less : (most : ℕ) (which : LimitWord) (before next : List Word) (s after : ParserState)
    → begins (can (as_sign (codes ","))) s.rest ≡ true
    → more_names_by most which before s ≡ (Ok next, after) → length after.rest < length s.rest
names_less most which before next s after e f = less comma (more_names_by most which before) (more-names most which before) s.at s.rest next
    after e f

pub ruleset names = (names_turn, names_end, names_less)
