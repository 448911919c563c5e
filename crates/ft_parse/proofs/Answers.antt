-- What reading a set's lexemes answers, in the grammar's words.
use Rattle.std.proofs.Common.{◌≡◌, ◌∙◌, ◌⊎◌, inl, inr, ℕ, suc, Bool, true, false, List, [], ◌∷◌, ◌++◌, Option, Some, None, Ok, Err, refl}
use Rattle.std.proofs.Common.{sym, ap, append_assoc, subst}
use Rattle.std.proofs.lemmas.List.{append-nil, append_cancel_right}
use Rattle.ft_read.specs.meaning.Lexeme.{Lexeme, lexemes_of}
use Rattle.ft_parse.specs.meaning.Language.{PassNoLimit, Step, lexemes, step}
use Rattle.ft_parse.specs.meaning.Items.{set}
use Rattle.ft_parse.specs.meaning.Parse.{GoesOn}
use Rattle.ft_read.specs.parsers.Combinators.{Outcome, ParserState, state}
use Rattle.ft_parse.specs.parsers.Items.{set_by}
use Rattle.ft_parse.specs.declared.parts.Parts.{Parts}
use Rattle.ft_read.specs.declared.stop.Pass.{Pass}
use Rattle.ft_read.specs.declared.stop.Stop.TheVariants.{Syntax, Limit, NoMemory}
use Rattle.std.specs.Bool.{MatchBool}
use Rattle.ft_lex.specs.declared.token.Token.{Token}
use Rattle.ft_lex.specs.meaning.Tokens.{AreTokensFrom, IsTokens, is_last}
use Rattle.ft_parse.proofs.InnerTokens.{AllInner, set-ends}
use Rattle.ft_parse.proofs.ItemRules.{rule-set}
use Rattle.ft_parse.proofs.Faithful.{Faithful, two-parts}
use Rattle.ft_parse.proofs.Whole.{expected, never-begins}
use Rattle.ft_read.specs.parsers.Cursor.{head}

-- a text that passes no limit is read as it is
pub no_limit-expected : (at : ℕ) (steps : List Step) (parts : Parts) (rest : List Lexeme) → PassNoLimit steps
    → (left : ℕ) × (expected at steps parts rest ≡ (Ok parts, state left rest))
no_limit-expected at [] parts rest no_limit = (at, refl)
no_limit-expected at (s ∷ more) parts rest (none, no_limit) =
    let (left, e) = no_limit-expected (suc at) more parts rest no_limit in
    (left, rw none e)

-- the first token that passes a limit
pub record FirstPass (steps : List Step) (pass : Pass) : Type 0 where
  pub front : List Step
  pub late : Lexeme
  pub after : List Step
  pub no_limit : PassNoLimit front
  pub is : steps ≡ front ++ step late (Some pass) ∷ after

-- every text passes no limit, or some token of it is the first that does
pub sorted : (steps : List Step) → PassNoLimit steps ⊎ ((pass : Pass) × FirstPass steps pass)
sorted [] = inl tt
sorted (s ∷ more) = by-pass s more s.pass refl (sorted more) where
  by-pass : (s : Step) (more : List Step) (o : Option Pass) → s.pass ≡ o → PassNoLimit more ⊎ ((pass : Pass) × FirstPass more pass)
      → PassNoLimit (s ∷ more) ⊎ ((pass : Pass) × FirstPass (s ∷ more) pass)
  by-pass s more None e (inl no_limit) = inl (e, no_limit)
  by-pass s more None e (inr (pass, f)) =
      inr (
        pass,
        record {
          front = s ∷ f.front;
          late = f.late;
          after = f.after;
          no_limit = (e, f.no_limit);
          is =
              ap (λ (us : List Step). s ∷ us) f.is;
        },
      )
  by-pass s more (Some pass) e h =
      inr (
        pass,
        record {
          front = [];
          late = s.lexeme;
          after = more;
          no_limit = tt;
          is =
              ap (λ (o : Option Pass). step s.lexeme o ∷ more) e;
        },
      )

-- where the first token that passes a limit stands
pub first-expected : (at : ℕ) (front : List Step) (late : Lexeme) (pass : Pass) (after : List Step) (parts : Parts) (rest : List Lexeme)
    → PassNoLimit front
    → (left : ℕ) × (expected at (front ++ step late (Some pass) ∷ after) parts rest
    ≡ (Err (Limit pass), state left (late ∷ (lexemes after ++ rest))))
first-expected at [] late pass after parts rest no_limit = (at, refl)
first-expected at (s ∷ front) late pass after parts rest (none, no_limit) =
    let (left, e) = first-expected (suc at) front late pass after parts rest no_limit in
    (left, rw none e)

-- a list of lexemes whose last, and no other, ends a text
abbrev pub Closed : List Lexeme → Type 0
Closed [] = ⊥
Closed (l ∷ more) = MatchBool (is_last l.kind) (more ≡ []) (Closed more)

not-empty : (us : List Lexeme) (x : Lexeme) (vs : List Lexeme) → us ++ x ∷ vs ≡ [] → ⊥
not-empty [] x vs e = cc e
not-empty (u ∷ us) x vs e = cc e

only-last : (us : List Lexeme) (x : Lexeme) (vs : List Lexeme) → Closed (us ++ x ∷ vs) → is_last x.kind ≡ true → vs ≡ []
only-last [] x vs c e = rw e at c
only-last (u ∷ us) x vs c e = by-kind (is_last u.kind) c (λ d. only-last us x vs d e) where
  by-kind : (b : Bool) → MatchBool b (us ++ x ∷ vs ≡ []) (Closed (us ++ x ∷ vs)) → (Closed (us ++ x ∷ vs) → vs ≡ []) → vs ≡ []
  by-kind true c later = absurd (not-empty us x vs c)
  by-kind false c later = later c

not-inner : (steps : List Step) → AllInner steps → Closed (lexemes steps) → ⊥
not-inner [] inner c = c
not-inner (s ∷ more) (e, inner) c = not-inner more inner (rw e at c)

-- what stands before the last of a list's steps
inner-front : (steps more front : List Step) (last : Step) → steps ++ more ≡ front ++ last ∷ [] → AllInner front → (more ≡ [])
    ⊎ AllInner steps
inner-front [] more front last e inner = inr tt
inner-front (s ∷ steps) more [] last e inner = inl (empty steps more (cc e)) where
  empty : (us vs : List Step) → us ++ vs ≡ [] → vs ≡ []
  empty [] vs e = e
  empty (u ∷ us) vs e = cc e
inner-front (s ∷ steps) more (f ∷ front) last e (g, inner) =
    let same : s ≡ f = cc e in
    let rest : steps ++ more ≡ front ++ last ∷ [] = cc e in
    elim (inner-front steps more front last rest inner) [
      | inl h ↦ inl h
      | inr h ↦ inr (rw same g, h)
    ]

-- what the answer says of closed lexemes
abbrev pub Says : List Lexeme → Outcome Parts → Type 0
Says ls (Ok parts, left) = (steps : List Step) × (lexemes steps ≡ ls) × PassNoLimit steps × set 0 steps parts
Says ls (Err Syntax, left) = (bad : Lexeme) × (rest : List Lexeme) × (left.rest ≡ bad ∷ rest) × (front : List Lexeme)
    × (ls ≡ front ++ bad ∷ rest) × GoesOn front
    × ((steps : List Step) (others : List Lexeme) (parts : Parts) → lexemes steps ≡ front ++ bad ∷ others → set 0 steps parts → ⊥)
Says ls (Err (Limit pass), left) =
    (late : Lexeme) × (rest : List Lexeme) × (front : List Step) × (ls ≡ lexemes front ++ late ∷ rest) × PassNoLimit front
    × ((after : List Step) × (parts : Parts) × set 0 (front ++ step late (Some pass) ∷ after) parts)
    × ((steps : List Step) (others : List Lexeme) (parts : Parts) → lexemes steps ≡ lexemes front ++ late ∷ others → set 0 steps parts
    → (b a : List Step) × PassNoLimit b × (lexemes b ≡ lexemes front) × (steps ≡ b ++ step late (Some pass) ∷ a))
Says ls (Err NoMemory, left) = ⊥

-- a text of a set is read as far as it passes no limit
reads : (steps : List Step) (parts : Parts) → set 0 steps parts → set_by (state 0 (lexemes steps)) ≡ expected 0 steps parts []
reads steps parts h =
    ap (λ (ls : List Lexeme). set_by (state 0 ls)) (sym (append-nil (lexemes steps))) ∙ rule-set.whole 0 steps parts [] h (never-begins [])

ok-says : (ls : List Lexeme) → Closed ls → (parts : Parts) (left : ParserState) → Faithful set set_by (state 0 ls) (Ok parts, left)
    → Says ls (Ok parts, left)
ok-says ls closed parts left g =
    let (front, last, split, inner, e) = set-ends.all 0 g.steps parts g.means in
    let whole : ls ≡ lexemes front ++ last.lexeme ∷ left.rest =
    g.is ∙ ap (λ (us : List Step). lexemes us ++ left.rest) split ∙ two-parts front (last ∷ []) left.rest in
    let none : left.rest ≡ [] = only-last (lexemes front) last.lexeme left.rest (rw whole at closed) e in
    (g.steps, sym (g.is ∙ ap (λ (us : List Lexeme). lexemes g.steps ++ us) none ∙ append-nil (lexemes g.steps)), g.no_limit, g.means)

apart-answers : (o : Outcome Parts) (parts : Parts) (x y : ParserState) → o ≡ (Err Syntax, x) → o ≡ (Ok parts, y) → ⊥
apart-answers o parts x y e f = let first_parts = ap (λ (q : Outcome Parts). q.0) (sym e ∙ f) in cc first_parts

-- where all is taken the text is whole
all-taken : (ls : List Lexeme) → Closed ls → (left : ParserState) → Faithful set set_by (state 0 ls) (Err Syntax, left) → left.rest ≡ []
    → ⊥
all-taken ls closed left g none =
    let (more, parts, h) = g.begins in
    let (front, last, split, inner, e) = set-ends.all 0 (g.steps ++ more) parts h in
    let whole : ls ≡ lexemes g.steps = g.is ∙ ap (λ (us : List Lexeme). lexemes g.steps ++ us) none ∙ append-nil (lexemes g.steps) in
    elim (inner-front g.steps more front last split inner) [
      | inl empty ↦
          (let same : g.steps ++ more ≡ g.steps = ap (λ (us : List Step). g.steps ++ us) empty ∙ append-nil g.steps in
          let (at, ok) = no_limit-expected 0 g.steps parts [] g.no_limit in
          let stopped : set_by (state 0 (lexemes g.steps ++ [])) ≡ (Err Syntax, state left.at []) = g.again [] (sym (ap head none)) in
          apart-answers _ parts (state left.at []) (state at []) (ap (λ (us : List Lexeme). set_by (state 0 us))
          (sym (append-nil (lexemes g.steps))) ∙ stopped) (reads g.steps parts (rw same at h) ∙ ok))
      | inr all ↦ not-inner g.steps all (rw whole at closed)
    ]

-- what a text that begins so is read as, against what was answered
module _ (steps : List Step) (parts : Parts) (h : set 0 steps parts) (ls : List Lexeme) (same : lexemes steps ≡ ls) where
  read-so : set_by (state 0 ls) ≡ expected 0 steps parts []
  read-so = rw same at (reads steps parts h)

  no-syntax : (left : ParserState) → set_by (state 0 ls) ≡ (Err Syntax, left) → ⊥
  no-syntax left e = elim (sorted steps) [
    | inl no_limit ↦ (let (at, ok) = no_limit-expected 0 steps parts [] no_limit in
        apart-answers _ parts left (state at []) e (read-so ∙ ok))
    | inr f ↦ limited f.0 f.1
  ] where
    limited : (pass : Pass) → FirstPass steps pass → ⊥
    limited pass f =
        let (at, late) = first-expected 0 f.front f.late pass f.after parts [] f.no_limit in
        let read : set_by (state 0 ls) ≡ (Err (Limit pass), state at (f.late ∷ (lexemes f.after ++ []))) = read-so
        ∙ ap (λ (us : List Step). expected 0 us parts []) f.is ∙ late in
        let answers = ap (λ (q : Outcome Parts). q.0) (sym e ∙ read) in
        cc answers

  one-limit : (front : List Lexeme) (late : Lexeme) (others : List Lexeme) (pass : Pass) (at : ℕ) → ls ≡ front ++ late ∷ others
      → set_by (state 0 ls) ≡ (Err (Limit pass), state at (late ∷ others))
      → (b a : List Step) × PassNoLimit b × (lexemes b ≡ front) × (steps ≡ b ++ step late (Some pass) ∷ a)
  one-limit front late others pass at is e = elim (sorted steps) [
    | inl no_limit ↦ (let (left, ok) = no_limit-expected 0 steps parts [] no_limit in let answers =
        ap (λ (q : Outcome Parts). q.0) (sym e ∙ read-so ∙ ok) in absurd (cc answers))
    | inr f ↦ limited f.0 f.1
  ] where
    limited : (other : Pass) → FirstPass steps other
        → (b a : List Step) × PassNoLimit b × (lexemes b ≡ front) × (steps ≡ b ++ step late (Some pass) ∷ a)
    limited other f =
        let (left, reached) = first-expected 0 f.front f.late other f.after parts [] f.no_limit in
        let read : set_by (state 0 ls) ≡ (Err (Limit other), state left (f.late ∷ (lexemes f.after ++ []))) = read-so
        ∙ ap (λ (us : List Step). expected 0 us parts []) f.is ∙ reached in
        let answers = ap (λ (q : Outcome Parts). q.0) (sym e ∙ read) in
        let lefts = ap (λ (q : Outcome Parts). q.1.rest) (sym e ∙ read) in
        let same_pass : other ≡ pass = cc answers in
        let same_late : f.late ≡ late = cc lefts in
        let same_rest : lexemes f.after ++ [] ≡ others = cc lefts in
        let whole : lexemes f.front ++ f.late ∷ (lexemes f.after ++ []) ≡ front ++ late ∷ others =
        sym (two-parts f.front (step f.late (Some other) ∷ f.after) [])
        ∙ append-nil (lexemes (f.front ++ step f.late (Some other) ∷ f.after)) ∙ ap lexemes (sym f.is) ∙ same ∙ is in
        let fronts : lexemes f.front ≡ front = append_cancel_right (lexemes f.front) front (late ∷ others)
        ((λ i. lexemes f.front ++ (sym same_late) i ∷ (sym same_rest) i) ∙ whole) in
        (f.front, f.after, f.no_limit, fronts, f.is ∙ (λ i. f.front ++ step (same_late i) (Some (same_pass i)) ∷ f.after))

answer-says : (ls : List Lexeme) → Closed ls → (o : Outcome Parts) → Faithful set set_by (state 0 ls) o → Says ls o
answer-says ls closed (Ok parts, left) g = ok-says ls closed parts left g
answer-says ls closed (Err Syntax, left) g = by-rest left.rest refl where
  by-rest : (us : List Lexeme) → left.rest ≡ us → Says ls (Err Syntax, left)
  by-rest [] e = absurd (all-taken ls closed left g e)
  by-rest (bad ∷ rest) e =
      let (more, parts, h) = g.begins in (
        bad,
        rest,
        e,
        lexemes g.steps,
        g.is ∙ ap (λ (us : List Lexeme). lexemes g.steps ++ us) e,
        (g.steps, more, parts, refl, g.no_limit, h),
        λ steps others others_parts same k. no-syntax steps others_parts k (lexemes g.steps ++ bad ∷ others) same
            (state left.at (bad ∷ others)) (g.again (bad ∷ others) (sym (ap head e))),
      )
answer-says ls closed (Err (Limit pass), left) g =
    let (more, parts, h) = g.begins in (
      g.late,
      g.rest,
      g.steps,
      g.is ∙ ap (λ (us : List Lexeme). lexemes g.steps ++ us) g.here,
      g.no_limit,
      (more, parts, subst (λ (us : List Step). set 0 us parts) (append_assoc g.steps (step g.late (Some pass) ∷ []) more) h),
      λ steps others others_parts same k. one-limit steps others_parts k (lexemes g.steps ++ g.late ∷ others) same (lexemes g.steps) g.late
          others pass left.at refl (g.again others),
    )
answer-says ls closed (Err NoMemory, left) g = g

-- what reading closed lexemes answers
pub says : (ls : List Lexeme) → Closed ls → Says ls (set_by (state 0 ls))
says ls closed = answer-says ls closed (set_by (state 0 ls)) (rule-set.faithful (state 0 ls))

-- what is spelled within the limits is read
pub only : (steps : List Step) (parts : Parts) → set 0 steps parts → PassNoLimit steps
    → (at : ℕ) × (set_by (state 0 (lexemes steps)) ≡ (Ok parts, state at []))
only steps parts h no_limit =
    let (at, ok) = no_limit-expected 0 steps parts [] no_limit in
    (at, reads steps parts h ∙ ok)

-- the lexemes of a text are closed
pub closed-lexemes : (text : List ℕ) (tokens : List Token) → IsTokens text tokens → Closed (lexemes_of text tokens)
closed-lexemes text tokens are = from 0 tokens are where
  from : (at : ℕ) (tokens : List Token) → AreTokensFrom text at tokens → Closed (lexemes_of text tokens)
  from at [] are = are
  from at (t ∷ more) (next, rest) = by-kind (is_last t.kind) rest (λ r. from t.end more r) where
    by-kind : (b : Bool) → MatchBool b (more ≡ []) (AreTokensFrom text t.end more)
        → (AreTokensFrom text t.end more → Closed (lexemes_of text more))
        → MatchBool b (lexemes_of text more ≡ []) (Closed (lexemes_of text more))
    by-kind true none later = ap (lexemes_of text) none
    by-kind false r later = later r
