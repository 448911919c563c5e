-- What is spelled is read, up to the first token that passes a limit.
use Rattle.std.proofs.Common.{◌≡◌, ◌∙◌, inl, inr, ℕ, zero, suc, ◌+◌, Bool, true, false, List, [], ◌∷◌, ◌++◌, length, Option, Some}
use Rattle.std.proofs.Common.{None, Ok, Err, refl, sym, ap}
use native.Mathlib.Omega.{arith}
use Rattle.ft_read.specs.meaning.Lexeme.{Lexeme}
use Rattle.ft_parse.specs.meaning.Language.{Language, Step, alternative, lexemes, nothing, repeated, times, token, ◌▷◌}
use Rattle.ft_read.specs.meaning.Limit.{Passes}
use Rattle.ft_read.specs.parsers.Combinators.{Outcome, Parser, ParserState, begins, alternative_by, give, bind, read_token, state, token_of}
use Rattle.ft_read.specs.parsers.Combinators.{◌▶◌}
use Rattle.ft_parse.specs.parsers.Repetition.{many}
use Rattle.ft_read.specs.declared.stop.Pass.{Pass}
use Rattle.ft_read.specs.declared.stop.Stop.TheVariants.{Limit}
use Rattle.ft_parse.proofs.Faithful.{Faithful, two-parts}
use Rattle.ft_parse.proofs.Many.{Heads, many-end, many-step}

-- what reading gives of a text with a rest
abbrev pub met : {A : Type 0} → ℕ → Lexeme → List Lexeme → Option Pass → Outcome A → Outcome A
met at l rest None later = later
met at l rest (Some pass) later = (Err (Limit pass), state at (l ∷ rest))

abbrev pub expected : {A : Type 0} → ℕ → List Step → A → List Lexeme → Outcome A
expected at [] a rest = (Ok a, state at rest)
expected at (s ∷ more) a rest = met at s.lexeme (lexemes more ++ rest) s.pass (expected (suc at) more a rest)

-- where the rest doesn't begin with what goes on
abbrev pub Whole : {A : Type 0} → Language A → Parser A → (Lexeme → Bool) → Type 0
Whole {A} L p more = (at : ℕ) (steps : List Step) (a : A) (rest : List Lexeme) → L at steps a → begins more rest ≡ false
    → p (state at (lexemes steps ++ rest)) ≡ expected at steps a rest

-- what follows a text of the part doesn't go on with what stands before it
abbrev pub Calms : {A : Type 0} → Language A → (before after : Lexeme → Bool) → Type 0
Calms {A} L before after = (at : ℕ) (steps : List Step) (a : A) (rest : List Lexeme) → L at steps a → begins after rest ≡ false
    → begins before (lexemes steps ++ rest) ≡ false

abbrev pub never : Lexeme → Bool
never l = false

pub never-begins : (rest : List Lexeme) → begins never rest ≡ false
never-begins [] = refl
never-begins (l ∷ rest) = refl

pub whole-give : {A : Type 0} (a : A) → Whole (nothing a) (give a) never
whole-give a at steps b rest (none, same) e = rw (none, sym same) refl

module _ {A : Type 0} (read : Lexeme → Option A) (passes : Passes) where
  one : (at : ℕ) (l : Lexeme) (a : A) (rest : List Lexeme) (p : Option Pass) → read l ≡ Some a → passes at l ≡ p
      → token_of read passes at (l ∷ rest) ≡ met at l rest p (Ok a, state (suc at) rest)
  one at l a rest None e f = rw (e, f) refl
  one at l a rest (Some pass) e f = rw (e, f) refl

  pub whole-token : Whole (token read passes) (read_token read passes) never
  whole-token at steps a rest (l, is, e) f = rw is (one at l a rest (passes at l) e refl)

module _ {A B : Type 0} (L : Language A) (M : A → Language B) (p : Parser A) (q : A → Parser B) (more after : Lexeme → Bool) where
  then-expected : (at : ℕ) (us vs : List Step) (a : A) (b : B) (rest : List Lexeme)
      → q a (state (at + length us) (lexemes vs ++ rest)) ≡ expected (at + length us) vs b rest
      → bind q (expected at us a (lexemes vs ++ rest)) ≡ expected at (us ++ vs) b rest
  then-expected at [] vs a b rest e =
      let none : at + length {A = Step} [] ≡ at = omega arith in
      rw none at e
  then-expected at (u ∷ us) vs a b rest e = by-pass at u us vs a b rest u.pass
      (then-expected (suc at) us vs a b rest (rw (counted at u us) at e)) where
        counted : (at : ℕ) (u : Step) (us : List Step) → at + length (u ∷ us) ≡ suc at + length us
        counted at u us = omega arith

        by-pass : (at : ℕ) (u : Step) (us vs : List Step) (a : A) (b : B) (rest : List Lexeme) (pass : Option Pass)
            → bind q (expected (suc at) us a (lexemes vs ++ rest)) ≡ expected (suc at) (us ++ vs) b rest
            → bind q (met at u.lexeme (lexemes us ++ (lexemes vs ++ rest)) pass (expected (suc at) us a (lexemes vs ++ rest)))
            ≡ met at u.lexeme (lexemes (us ++ vs) ++ rest) pass (expected (suc at) (us ++ vs) b rest)
        by-pass at u us vs a b rest None f = f
        by-pass at u us vs a b rest (Some pass) f =
            ap (λ (ls : List Lexeme). (Err (Limit pass), state at (u.lexeme ∷ ls))) (sym (two-parts us vs rest))

  pub whole-then : Whole L p more → ((a : A) → Whole (M a) (q a) after) → ((a : A) → Calms (M a) more after) → Whole (L ▷ M) (p ▶ q) after
  unfolding ◌▷◌
  whole-then first second calms at steps b rest (a, us, vs, is, h, k) e =
      rw is
      (ap (λ (ls : List Lexeme). bind q (p (state at ls))) (two-parts us vs rest)
      ∙ ap (bind q) (first at us a (lexemes vs ++ rest) h (calms a (at + length us) vs b rest k e))
      ∙ then-expected at us vs a b rest (second a (at + length us) vs b rest k e))

pub heads-begin : {A : Type 0} (L : Language A) (test : Lexeme → Bool) → Heads L test
    → (at : ℕ) (steps : List Step) (a : A) (rest : List Lexeme) → L at steps a
    → begins test (lexemes steps ++ rest) ≡ true
heads-begin L test heads at steps a rest h =
    let (s, more, is, e) = heads at steps a h in
    rw is e

module _ {A : Type 0} (L M : Language A) (test : Lexeme → Bool) (p q : Parser A) (after : Lexeme → Bool) where
  pub whole-alternative : Heads L test → Whole L p after → Whole M q after → Calms M test after
      → Whole (alternative L M) (alternative_by test p q) after
  whole-alternative heads one other calms at steps a rest (inl h) e =
      rw (heads-begin L test heads at steps a rest h) (one at steps a rest h e)
  whole-alternative heads one other calms at steps a rest (inr h) e = rw (calms at steps a rest h e) (other at steps a rest h e)

-- a token that goes on by the first test does so by the second
abbrev pub Under : (Lexeme → Bool) → (Lexeme → Bool) → Type 0
Under small big = (l : Lexeme) → small l ≡ true → big l ≡ true

-- no token passes both tests
abbrev pub Apart : (Lexeme → Bool) → (Lexeme → Bool) → Type 0
Apart one other = (l : Lexeme) → one l ≡ true → other l ≡ false

pub begins-under : (small big : Lexeme → Bool) → Under small big → (rest : List Lexeme) → begins big rest ≡ false → begins small rest
    ≡ false
begins-under small big under [] e = refl
begins-under small big under (l ∷ rest) e = by-test l (small l) refl e where
  by-test : (l : Lexeme) (b : Bool) → small l ≡ b → big l ≡ false → small l ≡ false
  by-test l true s e = let t = under l s in cc (t, e)
  by-test l false s e = s

begins-apart : (one other : Lexeme → Bool) → Apart one other → (rest : List Lexeme) → begins one rest ≡ true → begins other rest ≡ false
begins-apart one other apart [] e = refl
begins-apart one other apart (l ∷ rest) e = apart l e

pub whole-weaker : {A : Type 0} (L : Language A) (p : Parser A) (small big : Lexeme → Bool) → Under small big → Whole L p small
    → Whole L p big
whole-weaker L p small big under whole at steps a rest h e = whole at steps a rest h (begins-under small big under rest e)

pub calms-by-heads : {A : Type 0} (L : Language A) (test before after : Lexeme → Bool) → Heads L test → Apart test before
    → Calms L before after
calms-by-heads L test before after heads apart at steps a rest h e =
    begins-apart test before apart (lexemes steps ++ rest) (heads-begin L test heads at steps a rest h)

pub calms-never : {A : Type 0} (L : Language A) (after : Lexeme → Bool) → Calms L never after
calms-never L after at steps a rest h e = never-begins (lexemes steps ++ rest)

pub calms-nothing : {A : Type 0} (a : A) (before after : Lexeme → Bool) → Under before after → Calms (nothing a) before after
calms-nothing a before after under at steps b rest (none, same) e = rw none (begins-under before after under rest e)

pub calms-alternative : {A : Type 0} (L M : Language A) (before after : Lexeme → Bool) → Calms L before after → Calms M before after
    → Calms (alternative L M) before after
calms-alternative L M before after one other at steps a rest (inl h) e = one at steps a rest h e
calms-alternative L M before after one other at steps a rest (inr h) e = other at steps a rest h e

-- repetition: `part` may be followed by itself, or by what goes on after all
module _ {A : Type 0} (part : A → Language A) (test : Lexeme → Bool) (p : A → Parser A) (inner after : Lexeme → Bool)
    (faithful : (a : A) (s : ParserState) → Faithful (part a) (p a) s (p a s)) (heads : (a : A) → Heads (part a) test)
    (apart : Apart test inner) (inner-under : Under inner after) (test-under : Under test after) where
  times-calms : (n : ℕ) (a : A) → Calms (times n part a) inner after
  unfolding times ◌▷◌
  times-calms zero a at steps b rest h e = calms-nothing a inner after inner-under at steps b rest h e
  times-calms (suc n) a at steps b rest (c, us, vs, is, h, k) e =
      let (s, more, head, t) = heads a at us c h in
      rw (is, head) (apart s.lexeme t)

  many-whole : ((a : A) → Whole (part a) (p a) inner) → (n : ℕ) (a : A) → Whole (times n part a) (many test p a) after
  unfolding times ◌▷◌
  many-whole whole zero a at steps b rest (none, same) e =
      rw (none, sym same) (many-end part test p faithful heads a at rest (begins-under test after test-under rest e))
  many-whole whole (suc n) a at steps b rest (c, us, vs, is, h, k) e =
      let (s, more, head, t) = heads a at us c h in
      let turn : many test p a (state at (lexemes steps ++ rest)) ≡ bind (many test p) (p a (state at (lexemes steps ++ rest))) =
      rw (is, head) (many-step part test p faithful heads a at s.lexeme (lexemes (more ++ vs) ++ rest) t) in
      turn ∙ whole-then (part a) (times n part) (p a) (many test p) inner after (whole a) (many-whole whole n) (times-calms n) at steps b
      rest (c, us, vs, is, h, k) e

  pub whole-many : ((a : A) → Whole (part a) (p a) inner) → (a : A) → Whole (repeated part a) (many test p a) after
  whole-many whole a at steps b rest (n, h) e = many-whole whole n a at steps b rest h e

  pub calms-many : (a : A) → Calms (repeated part a) inner after
  calms-many a at steps b rest (n, h) e = times-calms n a at steps b rest h e
