-- A part of the grammar with the parser that reads it.
use Rattle.std.proofs.Common.{◌≡◌, ◌∙◌, inl, inr, ℕ, ◌+◌, Bool, List, [], ◌∷◌, ◌++◌, length, Option, Some, refl, ap}
use Rattle.ft_read.specs.meaning.Lexeme.{Lexeme}
use Rattle.ft_parse.specs.meaning.Language.{Language, Step, alternative, nothing, repeated, step, token, ◌▷◌}
use Rattle.ft_read.specs.meaning.Limit.{Passes}
use Rattle.ft_read.specs.parsers.Combinators.{Parser, ParserState, can, alternative_by, give, read_token, ◌▶◌}
use Rattle.ft_parse.specs.parsers.Repetition.{many}
use Rattle.ft_parse.proofs.Faithful.{Begins, Faithful, faithful-alternative, faithful-give, faithful-then, faithful-token}
use Rattle.ft_parse.proofs.Many.{Heads, any-more, faithful-many}
use Rattle.ft_parse.proofs.Whole.{Apart, Calms, Under, Whole, calms-never, never, whole-alternative, whole-give, whole-many, whole-then}
use Rattle.ft_parse.proofs.Whole.{whole-token, whole-weaker}

-- the parser reads the part: it stops where no text goes on, and it reads what is spelled where no token of `more` follows
pub record Rule {A : Type 0} (L : Language A) (p : Parser A) (more : Lexeme → Bool) : Type 0 where
  pub faithful : (s : ParserState) → Faithful L p s (p s)
  pub whole : Whole L p more
  pub some : (at : ℕ) → Begins L at []

pub rule-give : {A : Type 0} (a : A) → Rule (nothing a) (give a) never
rule-give a = record { faithful = faithful-give a; whole = whole-give a; some = λ at. ([], a, (refl, refl)) }

pub rule-token : {A : Type 0} (read : Lexeme → Option A) (passes : Passes) (l : Lexeme) (a : A) → read l ≡ Some a
    → Rule (token read passes) (read_token read passes) never
rule-token read passes l a e = record {
  faithful = faithful-token read passes (λ at. (step l (passes at l) ∷ [], a, (l, refl, e)));
  whole = whole-token read passes;
  some = λ at. (step l (passes at l) ∷ [], a, (l, refl, e));
}

pub rule-weaker : {A : Type 0} (L : Language A) (p : Parser A) (small big : Lexeme → Bool) → Under small big → Rule L p small → Rule L p big
rule-weaker L p small big under r = record { faithful = r.faithful; whole = whole-weaker L p small big under r.whole; some = r.some }

module _ {A B : Type 0} (L : Language A) (M : A → Language B) (p : Parser A) (q : A → Parser B) where
  some-then : ((at : ℕ) → Begins L at []) → ((a : A) (at : ℕ) → Begins (M a) at []) → (at : ℕ) → Begins (L ▷ M) at []
  unfolding ◌▷◌
  some-then first second at =
      let (us, a, h) = first at in
      let (vs, b, k) = second a (at + length us) in
      (us ++ vs, b, (a, us, vs, refl, h, k))

  -- a part that may go on, and another whose texts don't begin so
  pub rule-then : (more after : Lexeme → Bool) → ((a : A) → Calms (M a) more after) → Rule L p more → ((a : A) → Rule (M a) (q a) after)
      → Rule (L ▷ M) (p ▶ q) after
  rule-then more after calms r t = record {
    faithful = λ s. faithful-then L M p q (λ a. (t a).some) s (p s) (r.faithful s) (λ a mid g. (t a).faithful mid);
    whole = whole-then L M p q more after r.whole (λ a. (t a).whole) calms;
    some = some-then r.some (λ a. (t a).some);
  }

  -- a part that never goes on, and another
  pub rule-next : (after : Lexeme → Bool) → Rule L p never → ((a : A) → Rule (M a) (q a) after) → Rule (L ▷ M) (p ▶ q) after
  rule-next after r t = rule-then never after (λ a. calms-never (M a) after) r t

pub heads-then : {A B : Type 0} (L : Language A) (M : A → Language B) (test : Lexeme → Bool) → Heads L test → Heads (L ▷ M) test
unfolding ◌▷◌
heads-then L M test heads at steps b (a, us, vs, is, h, k) =
    let (s, more, head, e) = heads at us a h in
    (s, more ++ vs, is ∙ ap (λ (xs : List Step). xs ++ vs) head, e)

pub heads-token : {A : Type 0} (read : Lexeme → Option A) (passes : Passes) → Heads (token read passes) (can read)
heads-token read passes at steps a (l, is, e) = (step l (passes at l), [], is, rw e refl)

pub heads-weaker : {A : Type 0} (L : Language A) (small big : Lexeme → Bool) → Under small big → Heads L small → Heads L big
heads-weaker L small big under heads at steps a h =
    let (s, more, is, e) = heads at steps a h in
    (s, more, is, under s.lexeme e)

pub heads-alternative : {A : Type 0} (L M : Language A) (test : Lexeme → Bool) → Heads L test → Heads M test → Heads (alternative L M) test
heads-alternative L M test one other at steps a (inl h) = one at steps a h
heads-alternative L M test one other at steps a (inr h) = other at steps a h

module _ {A : Type 0} (L M : Language A) (test : Lexeme → Bool) (p q : Parser A) (after : Lexeme → Bool) where
  pub rule-alternative : Heads L test → Calms M test after → Rule L p after → Rule M q after
      → Rule (alternative L M) (alternative_by test p q) after
  rule-alternative heads calms r t = record {
    faithful = faithful-alternative L M test p q r.faithful t.faithful;
    whole = whole-alternative L M test p q after heads r.whole t.whole calms;
    some = λ at. let (us, a, h) = r.some at in (us, a, inl h);
  }

module _ {A : Type 0} (part : A → Language A) (test : Lexeme → Bool) (p : A → Parser A) (inner after : Lexeme → Bool) where
  pub rule-many : ((a : A) → Heads (part a) test) → Apart test inner → Under inner after → Under test after
      → ((a : A) → Rule (part a) (p a) inner)
      → (a : A) → Rule (repeated part a) (many test p a) after
  rule-many heads apart inner-under test-under r a = record {
    faithful = faithful-many part test p (λ b. (r b).faithful) heads a;
    whole = whole-many part test p inner after (λ b. (r b).faithful) heads apart inner-under test-under (λ b. (r b).whole) a;
    some = any-more part test p (λ b. (r b).faithful) heads a;
  }

-- the same, with the parts as the goal has them
pub next : {A B : Type 0} {L : Language A} {M : A → Language B} {p : Parser A} {q : A → Parser B} {after : Lexeme → Bool}
    → Rule L p never → ((a : A) → Rule (M a) (q a) after) → Rule (L ▷ M) (p ▶ q) after
next {A} {B} {L} {M} {p} {q} {after} r t = rule-next L M p q after r t

pub before : {A B : Type 0} {L : Language A} {M : A → Language B} {p : Parser A} {q : A → Parser B} {more after : Lexeme → Bool}
    → ((a : A) → Calms (M a) more after) → Rule L p more → ((a : A) → Rule (M a) (q a) after) → Rule (L ▷ M) (p ▶ q) after
before {A} {B} {L} {M} {p} {q} {more} {after} calms r t = rule-then L M p q more after calms r t
