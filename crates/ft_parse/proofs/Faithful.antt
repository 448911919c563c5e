-- That a parser is faithful to a part of the grammar: it takes what the part spells, and stops where no text of it goes on. It goes by
-- the first token that is left, and by no token after it.
use Rattle.std.proofs.Common.{◌≡◌, ◌∙◌, inl, inr, ℕ, ◌+◌, Bool, true, false, List, [], ◌∷◌, ◌++◌, length, Option, Some, None}
use Rattle.std.proofs.Common.{Ok, Err, refl, sym, ap, append_assoc, if◌then◌else◌}
use Rattle.std.proofs.lemmas.List.{length-append, map-append}
use native.Mathlib.Omega.{arith}
use Rattle.ft_read.specs.meaning.Lexeme.{Lexeme}
use Rattle.ft_parse.specs.meaning.Language.{Language, PassNoLimit, Step, alternative, lexemes, nothing, step, token, ◌▷◌}
use Rattle.ft_read.specs.meaning.Limit.{Passes}
use Rattle.ft_read.specs.parsers.Combinators.{Outcome, Parser, ParserState, begins, alternative_by, give, bind, read_token, state, token_as}
use Rattle.ft_read.specs.parsers.Combinators.{token_of}
use Rattle.ft_read.specs.parsers.Combinators.{◌▶◌}
use Rattle.ft_read.specs.declared.stop.Pass.{Pass}
use Rattle.ft_read.specs.declared.stop.Stop.TheVariants.{Syntax, Limit, NoMemory}
use Rattle.ft_read.specs.parsers.Cursor.{head}

-- some text of the part goes on so
abbrev pub Begins : {A : Type 0} → Language A → ℕ → List Step → Type 0
Begins {A} L at steps = (more : List Step) × (a : A) × L at (steps ++ more) a

-- it took these tokens, and they spell the value
pub record Takes {A : Type 0} (L : Language A) (p : Parser A) (s : ParserState) (a : A) (left : ParserState) : Type 0 where
  pub steps : List Step
  pub no_limit : PassNoLimit steps
  pub is : s.rest ≡ lexemes steps ++ left.rest
  pub at : left.at ≡ s.at + length steps
  pub means : L s.at steps a
  pub again : (more : List Lexeme) → head more ≡ head left.rest → p (state s.at (lexemes steps ++ more)) ≡ (Ok a, state left.at more)

-- it stopped at a token with which no text goes on
pub record Refuses {A : Type 0} (L : Language A) (p : Parser A) (s left : ParserState) : Type 0 where
  pub steps : List Step
  pub no_limit : PassNoLimit steps
  pub is : s.rest ≡ lexemes steps ++ left.rest
  pub at : left.at ≡ s.at + length steps
  pub begins : Begins L s.at steps
  pub again : (more : List Lexeme) → head more ≡ head left.rest → p (state s.at (lexemes steps ++ more)) ≡ (Err Syntax, state left.at more)

-- it stopped at a token that passes a limit
pub record Exceeds {A : Type 0} (L : Language A) (p : Parser A) (s : ParserState) (pass : Pass) (left : ParserState) : Type 0 where
  pub steps : List Step
  pub no_limit : PassNoLimit steps
  pub late : Lexeme
  pub rest : List Lexeme
  pub here : left.rest ≡ late ∷ rest
  pub is : s.rest ≡ lexemes steps ++ left.rest
  pub at : left.at ≡ s.at + length steps
  pub begins : Begins L s.at (steps ++ step late (Some pass) ∷ [])
  pub again : (more : List Lexeme) → p (state s.at (lexemes steps ++ late ∷ more)) ≡ (Err (Limit pass), state left.at (late ∷ more))

abbrev pub Faithful : {A : Type 0} → Language A → Parser A → ParserState → Outcome A → Type 0
Faithful L p s (Ok a, left) = Takes L p s a left
Faithful L p s (Err Syntax, left) = Refuses L p s left
Faithful L p s (Err (Limit pass), left) = Exceeds L p s pass left
Faithful L p s (Err NoMemory, left) = ⊥

pub head-append : (us xs ys : List Lexeme) → head xs ≡ head ys → head (us ++ xs) ≡ head (us ++ ys)
head-append [] xs ys e = e
head-append (u ∷ us) xs ys e = refl

pub no_limit-append : (us vs : List Step) → PassNoLimit us → PassNoLimit vs → PassNoLimit (us ++ vs)
no_limit-append [] vs p q = q
no_limit-append (u ∷ us) vs (e, p) q = (e, no_limit-append us vs p q)

lexemes-append : (us vs : List Step) → lexemes (us ++ vs) ≡ lexemes us ++ lexemes vs
lexemes-append us vs = map-append (λ (s : Step). s.lexeme) us vs

-- the tokens of two parts with a rest
pub two-parts : (us vs : List Step) (rest : List Lexeme) → lexemes (us ++ vs) ++ rest ≡ lexemes us ++ (lexemes vs ++ rest)
two-parts us vs rest = ap (λ (ls : List Lexeme). ls ++ rest) (lexemes-append us vs) ∙ append_assoc (lexemes us) (lexemes vs) rest

counts : (at mid left : ℕ) (us vs : List Step) → mid ≡ at + length us → left ≡ mid + length vs → left ≡ at + length (us ++ vs)
counts at mid left us vs e f =
    let l : length (us ++ vs) ≡ length us + length vs = length-append us vs in
    omega (arith, e, f, l)

module _ {A B : Type 0} (L : Language A) (M : A → Language B) (p : Parser A) (q : A → Parser B) where
  then-again : (at mid : ℕ) (us vs : List Step) (more : List Lexeme) (a : A) (o : Outcome B)
      → p (state at (lexemes us ++ (lexemes vs ++ more))) ≡ (Ok a, state mid (lexemes vs ++ more))
      → q a (state mid (lexemes vs ++ more)) ≡ o
      → (p ▶ q) (state at (lexemes (us ++ vs) ++ more)) ≡ o
  then-again at mid us vs more a o e f =
      ap (λ (ls : List Lexeme). (p ▶ q) (state at ls)) (two-parts us vs more) ∙ ap (bind q) e ∙ f

  then-is : (s mid left : ParserState) (us vs : List Step) → s.rest ≡ lexemes us ++ mid.rest → mid.rest ≡ lexemes vs ++ left.rest
      → s.rest ≡ lexemes (us ++ vs) ++ left.rest
  then-is s mid left us vs e f = e ∙ ap (λ (ls : List Lexeme). lexemes us ++ ls) f ∙ sym (two-parts us vs left.rest)

  then-second : (s : ParserState) (a : A) (mid : ParserState) → Takes L p s a mid → (o : Outcome B) → Faithful (M a) (q a) mid o
      → Faithful (L ▷ M) (p ▶ q) s o
  unfolding ◌▷◌
  then-second s a mid g (Ok b, left) h = record {
    steps = g.steps ++ h.steps;
    no_limit = no_limit-append g.steps h.steps g.no_limit h.no_limit;
    is = then-is s mid left g.steps h.steps g.is h.is;
    at = counts s.at mid.at left.at g.steps h.steps g.at h.at;
    means = (a, g.steps, h.steps, refl, g.means, rw (sym g.at) h.means);
    again = λ more f. then-again s.at mid.at g.steps h.steps more a _
        (g.again (lexemes h.steps ++ more) (head-append (lexemes h.steps) more left.rest f ∙ sym (ap head h.is))) (h.again more f);
  }
  then-second s a mid g (Err Syntax, left) h =
      let (more, b, means) = h.begins in
      record {
        steps = g.steps ++ h.steps;
        no_limit = no_limit-append g.steps h.steps g.no_limit h.no_limit;
        is = then-is s mid left g.steps h.steps g.is h.is;
        at = counts s.at mid.at left.at g.steps h.steps g.at h.at;
        begins = (more, b, (a, g.steps, h.steps ++ more, append_assoc g.steps h.steps more, g.means, rw (sym g.at) means));
        again = λ more f. then-again s.at mid.at g.steps h.steps more a _
            (g.again (lexemes h.steps ++ more) (head-append (lexemes h.steps) more left.rest f ∙ sym (ap head h.is))) (h.again more f);
      }
  then-second s a mid g (Err (Limit pass), left) h =
      let (more, b, means) = h.begins in
      record {
        steps = g.steps ++ h.steps;
        no_limit = no_limit-append g.steps h.steps g.no_limit h.no_limit;
        late = h.late;
        rest = h.rest;
        here = h.here;
        is = then-is s mid left g.steps h.steps g.is h.is;
        at = counts s.at mid.at left.at g.steps h.steps g.at h.at;
        begins = (
          more,
          b,
          (
            a,
            g.steps,
            (h.steps ++ step h.late (Some pass) ∷ []) ++ more,
            ap (λ (us : List Step). us ++ more) (append_assoc g.steps h.steps (step h.late (Some pass) ∷ []))
                ∙ append_assoc g.steps (h.steps ++ step h.late (Some pass) ∷ []) more,
            g.means,
            rw (sym g.at) means,
          ),
        );
        again = λ more. then-again s.at mid.at g.steps h.steps (h.late ∷ more) a _
            (g.again (lexemes h.steps ++ h.late ∷ more)
            (head-append (lexemes h.steps) (h.late ∷ more) left.rest (sym (ap head h.here)) ∙ sym (ap head h.is))) (h.again more);
      }
  then-second s a mid g (Err NoMemory, left) h = h

  pub faithful-then : ((a : A) (at : ℕ) → Begins (M a) at []) → (s : ParserState) (o : Outcome A) → Faithful L p s o
      → ((a : A) (mid : ParserState) → Takes L p s a mid → Faithful (M a) (q a) mid (q a mid)) → Faithful (L ▷ M) (p ▶ q) s (bind q o)
  unfolding ◌▷◌
  faithful-then sample s (Ok a, mid) g second = then-second s a mid g (q a mid) (second a mid g)
  faithful-then sample s (Err Syntax, left) g second =
      let (more, a, means) = g.begins in
      let (after, b, others) = sample a (s.at + length (g.steps ++ more)) in
      record {
        steps = g.steps;
        no_limit = g.no_limit;
        is = g.is;
        at = g.at;
        begins = (more ++ after, b, (a, g.steps ++ more, after, sym (append_assoc g.steps more after), means, others));
        again = λ more f. ap (bind q) (g.again more f);
      }
  faithful-then sample s (Err (Limit pass), left) g second =
      let (more, a, means) = g.begins in
      let front : List Step = g.steps ++ step g.late (Some pass) ∷ [] in
      let (after, b, others) = sample a (s.at + length (front ++ more)) in
      record {
        steps = g.steps;
        no_limit = g.no_limit;
        late = g.late;
        rest = g.rest;
        here = g.here;
        is = g.is;
        at = g.at;
        begins = (more ++ after, b, (a, front ++ more, after, sym (append_assoc front more after), means, others));
        again = λ more. ap (bind q) (g.again more);
      }
  faithful-then sample s (Err NoMemory, left) g second = g

-- nothing is taken
pub faithful-give : {A : Type 0} (a : A) (s : ParserState) → Faithful (nothing a) (give a) s (give a s)
faithful-give a s = record { steps = []; no_limit = tt; is = refl; at = omega arith; means = (refl, refl); again = λ more f. refl }

-- a claim on the tokens that start as these
pub at-first : (F : List Lexeme → Type 0) (l : Lexeme) → ((ls : List Lexeme) → F (l ∷ ls)) → (more : List Lexeme) → head more ≡ Some l
    → F more
at-first F l h [] e = cc e
at-first F l h (x ∷ xs) e = let same : x ≡ l = cc e in rw same (h xs)

pub at-end : (F : List Lexeme → Type 0) → F [] → (more : List Lexeme) → head more ≡ None → F more
at-end F h [] e = h
at-end F h (x ∷ xs) e = cc e

module _ {A : Type 0} (read : Lexeme → Option A) (passes : Passes) (sample : (at : ℕ) → Begins (token read passes) at []) where
  by-parts : (at : ℕ) (l : Lexeme) (rest : List Lexeme) (r : Option A) (p : Option Pass) → read l ≡ r → passes at l ≡ p
      → Faithful (token read passes) (read_token read passes) (state at (l ∷ rest)) (token_as r p at l rest)
  by-parts at l rest None p e f = record {
    steps = [];
    no_limit = tt;
    is = refl;
    at = omega arith;
    begins = sample at;
    again = at-first (λ ls. token_of read passes at ls ≡ (Err Syntax, state at ls)) l (λ ls. rw e refl);
  }
  by-parts at l rest (Some a) None e f = record {
    steps = step l None ∷ [];
    no_limit = (refl, tt);
    is = refl;
    at = omega arith;
    means = (l, ap (λ (p : Option Pass). step l p ∷ []) (sym f), e);
    again = λ more g. rw (e, f) refl;
  }
  by-parts at l rest (Some a) (Some pass) e f = record {
    steps = [];
    no_limit = tt;
    late = l;
    rest = rest;
    here = refl;
    is = refl;
    at = omega arith;
    begins = ([], a, (l, ap (λ (p : Option Pass). step l p ∷ []) (sym f), e));
    again = λ more. rw (e, f) refl;
  }

  by-rest : (at : ℕ) (rest : List Lexeme)
      → Faithful (token read passes) (read_token read passes) (state at rest) (token_of read passes at rest)
  by-rest at [] = record {
    steps = [];
    no_limit = tt;
    is = refl;
    at = omega arith;
    begins = sample at;
    again = at-end (λ ls. token_of read passes at ls ≡ (Err Syntax, state at ls)) refl;
  }
  by-rest at (l ∷ rest) = by-parts at l rest (read l) (passes at l) refl refl

  -- one token, where some lexeme can be read so
  pub faithful-token : (s : ParserState) → Faithful (token read passes) (read_token read passes) s (read_token read passes s)
  faithful-token s = by-rest s.at s.rest

-- what is told of one part and one parser is told of others: the part is wider, and on tokens that start as these the parsers agree
module _ {A : Type 0} (K L : Language A) (p q : Parser A) (into : (at : ℕ) (steps : List Step) (a : A) → K at steps a → L at steps a)
    (s : ParserState)
    (agree : (more : List Lexeme) → head more ≡ head s.rest → q (state s.at more) ≡ p (state s.at more)) where
  also : (us ls more : List Lexeme) (o : Outcome A) → s.rest ≡ us ++ ls → head more ≡ head ls → p (state s.at (us ++ more)) ≡ o
      → q (state s.at (us ++ more)) ≡ o
  also us ls more o is f e = agree (us ++ more) (head-append us more ls f ∙ sym (ap head is)) ∙ e

  pub faithful-wider : (o : Outcome A) → Faithful K p s o → Faithful L q s o
  faithful-wider (Ok a, left) g = record {
    steps = g.steps;
    no_limit = g.no_limit;
    is = g.is;
    at = g.at;
    means = into s.at g.steps a g.means;
    again = λ more f. also (lexemes g.steps) left.rest more _ g.is f (g.again more f);
  }
  faithful-wider (Err Syntax, left) g =
      let (more, a, means) = g.begins in
      record {
        steps = g.steps;
        no_limit = g.no_limit;
        is = g.is;
        at = g.at;
        begins = (more, a, into s.at (g.steps ++ more) a means);
        again = λ more f. also (lexemes g.steps) left.rest more _ g.is f (g.again more f);
      }
  faithful-wider (Err (Limit pass), left) g =
      let (more, a, means) = g.begins in
      record {
        steps = g.steps;
        no_limit = g.no_limit;
        late = g.late;
        rest = g.rest;
        here = g.here;
        is = g.is;
        at = g.at;
        begins = (more, a, into s.at ((g.steps ++ step g.late (Some pass) ∷ []) ++ more) a means);
        again = λ more. also (lexemes g.steps) left.rest (g.late ∷ more) _ g.is (sym (ap head g.here)) (g.again more);
      }
  faithful-wider (Err NoMemory, left) g = g

pub same-test : (test : Lexeme → Bool) (ls more : List Lexeme) → head ls ≡ head more → begins test ls ≡ begins test more
same-test test [] [] e = refl
same-test test [] (x ∷ xs) e = cc e
same-test test (l ∷ ls) [] e = cc e
same-test test (l ∷ ls) (x ∷ xs) e = let same : l ≡ x = cc e in ap test same

-- the one or the other, by the first token
module _ {A : Type 0} (L M : Language A) (test : Lexeme → Bool) (p q : Parser A)
    (one : (s : ParserState) → Faithful L p s (p s)) (other : (s : ParserState) → Faithful M q s (q s)) where
  by-test : (s : ParserState) (b : Bool) → begins test s.rest ≡ b
      → Faithful (alternative L M) (alternative_by test p q) s (if b then p s else q s)
  by-test s true e = faithful-wider L (alternative L M) p (alternative_by test p q) (λ at steps a h. inl h) s
      (λ more f. rw (same-test test more s.rest f ∙ e) refl) (p s) (one s)
  by-test s false e = faithful-wider M (alternative L M) q (alternative_by test p q) (λ at steps a h. inr h) s
      (λ more f. rw (same-test test more s.rest f ∙ e) refl) (q s) (other s)

  pub faithful-alternative : (s : ParserState) → Faithful (alternative L M) (alternative_by test p q) s (alternative_by test p q s)
  faithful-alternative s = by-test s (begins test s.rest) refl
