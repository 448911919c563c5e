-- Repetition.
use Rattle.std.proofs.Common.{◌≡◌, ◌∙◌, ℕ, zero, suc, ◌+◌, ◌≤◌, ◌<◌, Bool, true, false, List, [], ◌∷◌, ◌++◌, length}
use Rattle.std.proofs.Common.{Ok, Err, refl, ap}
use Rattle.std.proofs.lemmas.List.{length-append}
use native.Mathlib.Omega.{arith}
use Rattle.ft_read.specs.meaning.Lexeme.{Lexeme}
use Rattle.ft_parse.specs.meaning.Language.{Language, Step, lexemes, nothing, repeated, times, ◌▷◌}
use Rattle.ft_read.specs.parsers.Combinators.{Outcome, Parser, ParserState, begins, give, bind, state, ◌▶◌}
use Rattle.ft_parse.specs.parsers.Repetition.{many}
use Rattle.ft_parse.proofs.Shorter.{AtMost, Shortens, repetition-end, turn}
use Rattle.ft_parse.proofs.Faithful.{Begins, Takes, Faithful, at-first, same-test, faithful-give, faithful-then, faithful-wider}

-- each text of the part has a first token, which passes the test
abbrev pub Heads : {A : Type 0} → Language A → (Lexeme → Bool) → Type 0
Heads {A} L test = (at : ℕ) (steps : List Step) (a : A) → L at steps a → (s : Step) × (more : List Step) × (steps ≡ s ∷ more)
    × (test s.lexeme ≡ true)

module _ {A : Type 0} (part : A → Language A) (test : Lexeme → Bool) (p : A → Parser A)
    (faithful : (a : A) (s : ParserState) → Faithful (part a) (p a) s (p a s)) (heads : (a : A) → Heads (part a) test) where
  shorter : (a b : A) (s left : ParserState) → Takes (part a) (p a) s b left → length left.rest < length s.rest
  shorter a b s left g =
      let (x, more, is, head) = heads a s.at g.steps b g.means in
      let whole : s.rest ≡ x.lexeme ∷ (lexemes more ++ left.rest) = g.is ∙ ap (λ (us : List Step). lexemes us ++ left.rest) is in
      let counted : length s.rest ≡ suc (length (lexemes more ++ left.rest)) = ap length whole in
      let parts : length (lexemes more ++ left.rest) ≡ length (lexemes more) + length left.rest = length-append (lexemes more) left.rest in
      omega (arith, counted, parts)

  at-most : (n : ℕ) (a : A) (s : ParserState) (o : Outcome A) → Faithful (part a) (p a) s o → length s.rest ≤ suc n → AtMost n o
  at-most n a s (Ok b, left) g e =
      let less = shorter a b s left g in
      omega (arith, less, e)
  at-most n a s (Err stop, left) g e = tt

  shortens : (a : A) → Shortens (p a)
  shortens a = record { by = λ n s e. at-most n a s (p a s) (faithful a s) e }

  -- one turn
  pub many-step : (a : A) (at : ℕ) (l : Lexeme) (ls : List Lexeme) → test l ≡ true
      → many test p a (state at (l ∷ ls)) ≡ bind (many test p) (p a (state at (l ∷ ls)))
  many-step a at l ls e = turn test p shortens a at (l ∷ ls) e

  pub many-end : (a : A) (at : ℕ) (rest : List Lexeme) → begins test rest ≡ false → many test p a (state at rest) ≡ (Ok a, state at rest)
  many-end a at rest e = repetition-end test p shortens a at rest e

  none-more : (a : A) (at : ℕ) (steps : List Step) (b : A) → nothing a at steps b → repeated part a at steps b
  unfolding times
  none-more a at steps b h = (zero, h)

  one-more : (a : A) (at : ℕ) (steps : List Step) (b : A) → (part a ▷ repeated part) at steps b → repeated part a at steps b
  unfolding times ◌▷◌
  one-more a at steps b (c, us, vs, is, h, (n, k)) = (suc n, (c, us, vs, is, h, k))

  pub any-more : (a : A) (at : ℕ) → Begins (repeated part a) at []
  any-more a at = ([], a, none-more a at [] a (refl, refl))

  stops : (a : A) (at : ℕ) (rest : List Lexeme) → begins test rest ≡ false
      → Faithful (repeated part a) (many test p a) (state at rest) (many test p a (state at rest))
  stops a at rest e =
      rw (many-end a at rest e)
      (faithful-wider (nothing a) (repeated part a) (give a) (many test p a) (none-more a) (state at rest)
      (λ more f. many-end a at more (same-test test more rest f ∙ e)) (give a (state at rest)) (faithful-give a (state at rest)))

  goes : (n : ℕ) (a : A) (at : ℕ) (l : Lexeme) (ls : List Lexeme) → test l ≡ true → length (l ∷ ls) ≤ suc n
      → ((b : A) (left : ParserState) → length left.rest ≤ n → Faithful (repeated part b) (many test p b) left (many test p b left))
      → Faithful (repeated part a) (many test p a) (state at (l ∷ ls)) (many test p a (state at (l ∷ ls)))
  goes n a at l ls e less later =
      rw (many-step a at l ls e)
      (faithful-wider (part a ▷ repeated part) (repeated part a) (p a ▶ many test p) (many test p a) (one-more a) (state at (l ∷ ls))
      (at-first (λ more. many test p a (state at more) ≡ bind (many test p) (p a (state at more))) l (λ more. many-step a at l more e))
      (bind (many test p) (p a (state at (l ∷ ls))))
      (faithful-then (part a) (repeated part) (p a) (many test p) any-more (state at (l ∷ ls)) (p a (state at (l ∷ ls)))
      (faithful a (state at (l ∷ ls)))
      (λ b left g. let fewer = shorter a b (state at (l ∷ ls)) left g in later b left (omega (arith, fewer, less)))))

  turns : (n : ℕ) (a : A) (at : ℕ) (rest : List Lexeme) → length rest ≤ n
      → Faithful (repeated part a) (many test p a) (state at rest) (many test p a (state at rest))
  turns n a at [] e = stops a at [] refl
  turns zero a at (l ∷ ls) e = absurd (omega (arith, e))
  turns (suc n) a at (l ∷ ls) e = by-first n a at l ls (test l) refl e (λ b left f. turns n b left.at left.rest f) where
    by-first : (n : ℕ) (a : A) (at : ℕ) (l : Lexeme) (ls : List Lexeme) (t : Bool) → test l ≡ t → length (l ∷ ls) ≤ suc n
        → ((b : A) (left : ParserState) → length left.rest ≤ n → Faithful (repeated part b) (many test p b) left (many test p b left))
        → Faithful (repeated part a) (many test p a) (state at (l ∷ ls)) (many test p a (state at (l ∷ ls)))
    by-first n a at l ls true e less later = goes n a at l ls e less later
    by-first n a at l ls false e less later = stops a at (l ∷ ls) e

  pub faithful-many : (a : A) (s : ParserState) → Faithful (repeated part a) (many test p a) s (many test p a s)
  faithful-many a s = turns (length s.rest) a s.at s.rest (omega arith)
