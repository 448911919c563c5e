-- Reading takes tokens away and puts none back.
use Rattle.std.proofs.Common.{◌≡◌, refl, sym, ap, true≢false, ℕ, zero, suc, ◌≤◌, ◌<◌, subst, arith, Bool, true, false, List, [], ◌∷◌}
use Rattle.std.proofs.Common.{length, Option, Some, None, Ok, Err, if◌then◌else◌}
use Rattle.ft_read.specs.meaning.Lexeme.{Lexeme}
use Rattle.ft_read.specs.meaning.Limit.{Passes}
use Rattle.ft_read.specs.parsers.Combinators.{Outcome, Parser, ParserState, begins, alternative_by, give, bind, read_token, state, token_as}
use Rattle.ft_read.specs.parsers.Combinators.{token_of}
use Rattle.ft_read.specs.parsers.Combinators.{◌▶◌}
use Rattle.ft_parse.specs.parsers.Repetition.{many, many_by}
use Rattle.ft_read.specs.declared.stop.Pass.{Pass}

-- at most n tokens are left after what was read
abbrev pub AtMost : {A : Type 0} → ℕ → Outcome A → Type 0
AtMost n (Ok a, left) = length left.rest ≤ n
AtMost n (Err stop, left) = Unit {0}

-- no more are left than before
pub record Keeps {A : Type 0} (p : Parser A) : Type 0 where
  pub by : (n : ℕ) (s : ParserState) → length s.rest ≤ n → AtMost n (p s)

-- fewer are left
pub record Shortens {A : Type 0} (p : Parser A) : Type 0 where
  pub by : (n : ℕ) (s : ParserState) → length s.rest ≤ suc n → AtMost n (p s)

pub at-most-then : {A B : Type 0} (n m : ℕ) (next : A → Parser B) (o : Outcome A) → AtMost n o
    → ((a : A) (left : ParserState) → length left.rest ≤ n → AtMost m (next a left)) → AtMost m (bind next o)
at-most-then n m next (Ok a, left) e f = f a left e
at-most-then n m next (Err stop, left) e f = tt

token-as : {A : Type 0} (n : ℕ) (found : Option A) (pass : Option Pass) (at : ℕ) (l : Lexeme) (rest : List Lexeme)
    → length (l ∷ rest) ≤ suc n
    → AtMost n (token_as found pass at l rest)
token-as n None pass at l rest e = tt
token-as n (Some a) None at l rest e = omega (arith, e)
token-as n (Some a) (Some pass) at l rest e = tt

token-of : {A : Type 0} (read : Lexeme → Option A) (passes : Passes) (n at : ℕ) (rest : List Lexeme) → length rest ≤ suc n
    → AtMost n (token_of read passes at rest)
token-of read passes n at [] e = tt
token-of read passes n at (l ∷ rest) e = token-as n (read l) (passes at l) at l rest e

pub token : {A : Type 0} (read : Lexeme → Option A) (passes : Passes) → Shortens (read_token read passes)
token read passes = record { by = λ n s e. token-of read passes n s.at s.rest e }

pub keeps : {A : Type 0} (p : Parser A) → Shortens p → Keeps p
keeps p h = record { by = λ n s e. h.by n s (omega (arith, e)) }

pub gives : {A : Type 0} (a : A) → Keeps (give a)
gives a = record { by = λ n s e. e }

pub first-then : {A B : Type 0} (p : Parser A) (q : A → Parser B) → Shortens p → ((a : A) → Keeps (q a)) → Shortens (p ▶ q)
first-then p q h k = record { by = λ n s e. at-most-then n n q (p s) (h.by n s e) (λ a left f. (k a).by n left f) }

pub part-then : {A B : Type 0} (p : Parser A) (q : A → Parser B) → Keeps p → ((a : A) → Keeps (q a)) → Keeps (p ▶ q)
part-then p q h k = record { by = λ n s e. at-most-then n n q (p s) (h.by n s e) (λ a left f. (k a).by n left f) }

by-test : {A : Type 0} (n : ℕ) (b : Bool) (one other : Outcome A) → AtMost n one → AtMost n other → AtMost n (if b then one else other)
by-test n true one other e f = e
by-test n false one other e f = f

pub alternative-keeps : {A : Type 0} (test : Lexeme → Bool) (one other : Parser A) → Keeps one → Keeps other
    → Keeps (alternative_by test one other)
alternative-keeps test one other h k = record { by = λ n s e. by-test n (begins test s.rest) (one s) (other s) (h.by n s e) (k.by n s e) }

pub alternative-shortens : {A : Type 0} (test : Lexeme → Bool) (one other : Parser A) → Shortens one → Shortens other
    → Shortens (alternative_by test one other)
alternative-shortens test one other h k =
    record { by = λ n s e. by-test n (begins test s.rest) (one s) (other s) (h.by n s e) (k.by n s e) }

module _ {A : Type 0} (test : Lexeme → Bool) (part : A → Parser A) where
  many-times : ((a : A) → Keeps (part a)) → (times n : ℕ) (a : A) (s : ParserState) → length s.rest ≤ n
      → AtMost n (many_by times test part a s)
  unfolding many_by
  many-times h zero n a s e = e
  many-times h (suc times) n a s e =
      by-test n (begins test s.rest) (bind (many_by times test part) (part a s)) (Ok a, s)
      (at-most-then n n (many_by times test part) (part a s) ((h a).by n s e) (λ b left f. many-times h times n b left f)) e

  pub many-keeps : ((a : A) → Keeps (part a)) → (a : A) → Keeps (many test part a)
  many-keeps h a = record { by = λ n s e. many-times h (length s.rest) n a s e }

module _ {A : Type 0} (test : Lexeme → Bool) (part : A → Parser A) (shortens : (a : A) → Shortens (part a)) where
  -- with enough turns the number of turns doesn't matter
  Same : (n m : ℕ) → Type 0
  Same n m = (b : A) (left : ParserState) → length left.rest ≤ n → length left.rest ≤ m
      → many_by n test part b left ≡ many_by m test part b left

  go-same : (n m : ℕ) → Same n m → (o : Outcome A) → AtMost n o → AtMost m o → bind (many_by n test part) o ≡ bind (many_by m test part) o
  unfolding Same
  go-same n m same (Ok b, left) e f = same b left e f
  go-same n m same (Err stop, left) e f = refl

  many-same : (n m : ℕ) (a : A) (at : ℕ) (rest : List Lexeme) → length rest ≤ n → length rest ≤ m
      → many_by n test part a (state at rest) ≡ many_by m test part a (state at rest)
  unfolding many_by Same
  many-same zero zero a at rest e f = refl
  many-same zero (suc m) a at [] e f = refl
  many-same zero (suc m) a at (l ∷ ls) e f = absurd (omega (arith, e))
  many-same (suc n) zero a at [] e f = refl
  many-same (suc n) zero a at (l ∷ ls) e f = absurd (omega (arith, f))
  many-same (suc n) (suc m) a at rest e f =
      ap (λ (o : Outcome A). if begins test rest then o else (Ok a, state at rest))
      (go-same n m (λ b left x y. many-same n m b left.at left.rest x y) (part a (state at rest))
      ((shortens a).by n (state at rest) e) ((shortens a).by m (state at rest) f))

  go-step : (n : ℕ) (o : Outcome A) → AtMost n o → bind (many_by n test part) o ≡ bind (many test part) o
  go-step n (Ok b, left) e = many-same n (length left.rest) b left.at left.rest e (omega arith)
  go-step n (Err stop, left) e = refl

  -- one turn of a repetition
  pub turn : (a : A) (at : ℕ) (rest : List Lexeme) → begins test rest ≡ true
      → many test part a (state at rest) ≡ bind (many test part) (part a (state at rest))
  unfolding many_by
  turn a at [] e = absurd (true≢false (sym e))
  turn a at (l ∷ ls) e =
      rw e (go-step (length ls) (part a (state at (l ∷ ls))) ((shortens a).by (length ls) (state at (l ∷ ls)) (omega arith)))

  -- its end
  pub repetition-end : (a : A) (at : ℕ) (rest : List Lexeme) → begins test rest ≡ false
      → many test part a (state at rest) ≡ (Ok a, state at rest)
  unfolding many_by
  repetition-end a at [] e = refl
  repetition-end a at (l ∷ ls) e = rw e refl

-- what is read where a test holds leaves fewer
pub less : {A : Type 0} (test : Lexeme → Bool) (p : Parser A) → Shortens p → (at : ℕ) (rest : List Lexeme) (a : A) (left : ParserState)
    → begins test rest ≡ true
    → p (state at rest) ≡ (Ok a, left) → length left.rest < length rest
less test p h at [] a left e f = absurd (true≢false (sym e))
less test p h at (l ∷ ls) a left e f =
    let most = subst (AtMost (length ls)) f (h.by (length ls) (state at (l ∷ ls)) (omega arith)) in
    omega (arith, most)
