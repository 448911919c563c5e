-- The rows of tables, and the items themselves, take tokens away.
use Rattle.std.proofs.Common.{◌≡◌, refl, ℕ, ◌<◌, Bool, true, false, List, [], ◌∷◌, ◌++◌, length, nat_le, Ok, Err, codes}
use Rattle.ft_tree.specs.declared.item.Row.{Row}
use Rattle.ft_tree.specs.declared.item.VRow.{VRow}
use Rattle.ft_read.specs.meaning.Lexeme.{Lexeme, as_word}
use Rattle.ft_read.specs.meaning.Limit.{counted}
use Rattle.ft_parse.specs.parsers.Items.{row_by, row_word_by, several_by, vrow_by}
use Rattle.ft_read.specs.parsers.Combinators.{Outcome, Parser, ParserState, begins, can, give, bind}
use Rattle.ft_parse.specs.parsers.Repetition.{many}
use Rattle.ft_parse.specs.parsers.Steps.{one_more}
use Rattle.ft_read.specs.declared.stop.LimitWord.TheVariants as limit
use Rattle.ft_parse.proofs.Shorter.{Shortens, repetition-end, gives, keeps, less, many-keeps, token, turn}
use Rattle.ft_parse.proofs.PrecedenceLemmas.{expression-shortens}
use Rattle.ft_parse.proofs.ListLemmas.{begin, entries-shortens, name-shortens, next, sign-shortens}

row-word-shortens : (before : ℕ) → Shortens (row_word_by before)
unfolding row_word_by
row-word-shortens before = token (as_word (codes "row")) (counted (nat_le 32 before) limit.Rows)

pub row-shortens : (before : ℕ) → Shortens (row_by before)
unfolding row_by
row-shortens before =
    begin (row-word-shortens before) (λ place. next (expression-shortens false) (λ head. next (sign-shortens (codes ":")) (λ _.
    next entries-shortens (λ cells. next (sign-shortens (codes ";")) (λ _. gives
    (record { place = place; head = head; entries = cells }))))))

pub vrow-shortens : (before : ℕ) → Shortens (vrow_by before)
unfolding vrow_by
vrow-shortens before =
    begin (row-word-shortens before) (λ place. next name-shortens (λ target. next (sign-shortens (codes ":")) (λ _.
    next entries-shortens (λ cells. next (sign-shortens (codes ";")) (λ _. gives
    (record { place = place; target = target; entries = cells }))))))

-- one part and any number of others
module _ {A : Type 0} (test : Lexeme → Bool) (part : ℕ → Parser A) (shortens : (n : ℕ) → Shortens (part n)) where
  more-shortens : (before : List A) → Shortens (one_more part before)
  more-shortens before = begin (shortens (length before)) (λ b. gives (before ++ b ∷ []))

  pub several-shortens : Shortens (several_by test part)
  unfolding several_by
  several-shortens = begin (shortens 0) (λ a. many-keeps test (one_more part) (λ before. keeps _ (more-shortens before)) (a ∷ []))

  go-same : (o : Outcome A)
      → bind (λ a. many test (one_more part) (a ∷ [])) o ≡ bind (many test (one_more part)) (bind (λ b. give ([] ++ b ∷ [])) o)
  go-same (Ok a, s) = refl
  go-same (Err stop, s) = refl

  pub several-is : (s : ParserState) → several_by test part s ≡ bind (many test (one_more part)) (one_more part [] s)
  unfolding several_by
  several-is s = go-same (part 0 s)

  pub several-turn : (before : List A) (s : ParserState) → begins test s.rest ≡ true
      → many test (one_more part) before s ≡ bind (many test (one_more part)) (one_more part before s)
  several-turn before s e = turn test (one_more part) more-shortens before s.at s.rest e

  pub several-end : (before : List A) (s : ParserState) → begins test s.rest ≡ false → many test (one_more part) before s ≡ (Ok before, s)
  several-end before s e = repetition-end test (one_more part) more-shortens before s.at s.rest e

  pub several-less : (before after : List A) (s left : ParserState) → begins test s.rest ≡ true → one_more part before s ≡ (Ok after, left)
      → length left.rest < length s.rest
  several-less before after s left e f = less test (one_more part before) (more-shortens before) s.at s.rest after left e f

pub rows_is : (s : ParserState)
    → several_by (can (as_word (codes "row"))) row_by s
    ≡ bind (many (can (as_word (codes "row"))) (one_more row_by)) (one_more row_by [] s)
rows_is = several-is (can (as_word (codes "row"))) row_by row-shortens

pub rows_turn : (before : List Row) (s : ParserState) → begins (can (as_word (codes "row"))) s.rest ≡ true
    → many (can (as_word (codes "row"))) (one_more row_by) before s
    ≡ bind (many (can (as_word (codes "row"))) (one_more row_by)) (one_more row_by before s)
rows_turn = several-turn (can (as_word (codes "row"))) row_by row-shortens

pub rows_end : (before : List Row) (s : ParserState) → begins (can (as_word (codes "row"))) s.rest ≡ false
    → many (can (as_word (codes "row"))) (one_more row_by) before s ≡ (Ok before, s)
rows_end = several-end (can (as_word (codes "row"))) row_by row-shortens

pub rows_less : (before after : List Row) (s left : ParserState) → begins (can (as_word (codes "row"))) s.rest ≡ true
    → one_more row_by before s ≡ (Ok after, left)
    → length left.rest < length s.rest
rows_less = several-less (can (as_word (codes "row"))) row_by row-shortens

pub ruleset rows = (rows_is, rows_turn, rows_end)

pub vrows_is : (s : ParserState)
    → several_by (can (as_word (codes "row"))) vrow_by s
    ≡ bind (many (can (as_word (codes "row"))) (one_more vrow_by)) (one_more vrow_by [] s)
vrows_is = several-is (can (as_word (codes "row"))) vrow_by vrow-shortens

pub vrows_turn : (before : List VRow) (s : ParserState) → begins (can (as_word (codes "row"))) s.rest ≡ true
    → many (can (as_word (codes "row"))) (one_more vrow_by) before s
    ≡ bind (many (can (as_word (codes "row"))) (one_more vrow_by)) (one_more vrow_by before s)
vrows_turn = several-turn (can (as_word (codes "row"))) vrow_by vrow-shortens

pub vrows_end : (before : List VRow) (s : ParserState) → begins (can (as_word (codes "row"))) s.rest ≡ false
    → many (can (as_word (codes "row"))) (one_more vrow_by) before s ≡ (Ok before, s)
vrows_end = several-end (can (as_word (codes "row"))) vrow_by vrow-shortens

pub vrows_less : (before after : List VRow) (s left : ParserState) → begins (can (as_word (codes "row"))) s.rest ≡ true
    → one_more vrow_by before s ≡ (Ok after, left)
    → length left.rest < length s.rest
vrows_less = several-less (can (as_word (codes "row"))) vrow_by vrow-shortens

pub ruleset vector_rows = (vrows_is, vrows_turn, vrows_end)
