-- One token of those that are left.
use Rattle.std.proofs.Common.{◌≡◌, refl, sym, ap, true≢false, ℕ, zero, suc, ◌<◌, arith, Bool, true, false, List, [], ◌∷◌, Option, Some}
use Rattle.std.proofs.Common.{None, Ok, Err}
use Rattle.ft_read.specs.meaning.Lexeme.{Lexeme, or_else}
use Rattle.ft_read.specs.meaning.Limit.{Passes, lexical_passes, opening, lexical_pass, within}
use Rattle.ft_read.specs.parsers.Cursor.{ReadsAs, ReadsFirst, advanced, head, read_first}
use Rattle.ft_read.specs.parsers.Combinators.{Outcome, ParserState, begins, can, is_some, read_token, state, token_as, token_of}
use Rattle.ft_read.specs.declared.parts.Site.{Site}
use Rattle.ft_read.specs.declared.stop.LimitWord.TheVariants as limit
use Rattle.ft_read.specs.declared.stop.Pass.{Pass}
use Rattle.ft_read.specs.declared.stop.Stop.{Stop}
use Rattle.ft_read.specs.declared.stop.Stop.TheVariants.{Syntax, Limit}

module _ {A : Type 0} (passes : Passes) where
  pub none-left : (read : Option A) (at : ℕ) (rest : List Lexeme) → head rest ≡ None
      → token_of (λ _. read) passes at rest ≡ (Err Syntax, state at rest)
  none-left read at [] e = refl
  none-left read at (l ∷ rest) e = cc e

  pub unread : (read : Option A) (at : ℕ) (rest : List Lexeme) → read ≡ None
      → token_of (λ _. read) passes at rest ≡ (Err Syntax, state at rest)
  unread read at [] e = refl
  unread read at (l ∷ rest) e = rw e refl

  pub taken : (read : Option A) (a : A) (l : Lexeme) (at : ℕ) (rest : List Lexeme) → head rest ≡ Some l → read ≡ Some a → passes at l ≡ None
      → token_of (λ _. read) passes at rest ≡ (Ok a, advanced (state at rest))
  taken read a l at [] e f g = cc e
  taken read a l at (k ∷ rest) e f g = let same : k ≡ l = cc e in rw (same, f, g) refl

  pub passed : (read : Option A) (a : A) (pass : Pass) (l : Lexeme) (at : ℕ) (rest : List Lexeme) → head rest ≡ Some l → read ≡ Some a
      → passes at l ≡ Some pass
      → token_of (λ _. read) passes at rest ≡ (Err (Limit pass), state at rest)
  passed read a pass l at [] e f g = cc e
  passed read a pass l at (k ∷ rest) e f g = let same : k ≡ l = cc e in rw (same, f, g) refl

  pub read_one : (read : Lexeme → Option A) (at : ℕ) (rest : List Lexeme) → token_of (λ _. read_first read rest) passes at rest
      ≡ token_of read passes at rest
  read_one read at [] = refl
  read_one read at (l ∷ rest) = refl

pub ruleset accepts = (none-left, unread, taken, passed)

pub ruleset reads = (read_one)

pub can_first : {A : Type 0} (read : Lexeme → Option A) (rest : List Lexeme) → begins (can read) rest ≡ is_some (read_first read rest)
can_first read [] = refl
can_first read (l ∷ rest) = refl

pub ruleset tests = (can_first)

-- where each token that passes a limit by itself passes one
module _ {A : Type 0} (read : Lexeme → Option A) (passes : Passes) (lexical : (at : ℕ) (l : Lexeme) (p : Pass) → lexical_pass l ≡ Some p
    → passes at l ≡ Some p) where
  same-token : (found : Option A) (at : ℕ) (l : Lexeme) (rest : List Lexeme) (one : Option Pass) → lexical_pass l ≡ one
      → ReadsAs read l found
      → token_as found (passes at l) at l rest ≡ token_as (read l) (passes at l) at l rest
  same-token found at l rest None e h = rw (h.same e) refl
  same-token found at l rest (Some p) e h = rw (lexical at l p e) (both found (read l) h.some) where
    both : (a b : Option A) → is_some a ≡ is_some b → token_as a (Some p) at l rest ≡ token_as b (Some p) at l rest
    both None None f = refl
    both (Some a) (Some b) f = refl
    both None (Some b) f = cc f
    both (Some a) None f = cc f

  same-first : (found : Option A) (at : ℕ) (rest : List Lexeme) → ReadsFirst read rest found → token_of (λ _. found) passes at rest
      ≡ token_of read passes at rest
  same-first found at [] h = refl
  same-first found at (l ∷ rest) h = same-token found at l rest (lexical_pass l) refl h

pub lexical_read : {A : Type 0} (read : Lexeme → Option A) (found : Option A) (at : ℕ) (rest : List Lexeme) → ReadsFirst read rest found
    → token_of (λ _. found) lexical_passes at rest ≡ token_of read lexical_passes at rest
lexical_read read = same-first read lexical_passes (λ at l p e. e)

pub within_read : {A : Type 0} (read : Lexeme → Option A) (site : Site) (found : Option A) (at : ℕ) (rest : List Lexeme)
    → ReadsFirst read rest found
    → token_of (λ _. found) (within site) at rest ≡ token_of read (within site) at rest
within_read read site = same-first read (within site) (λ at l p e. rw e refl)

pub ruleset numbers = (lexical_read, within_read)

abbrev is_read : {A : Type 0} → Outcome A → Bool
is_read (Ok a, s) = true
is_read (Err stop, s) = false

stopped : {A : Type 0} (stop : Stop) (s left : ParserState) (a : A) → ◌≡◌ {A = Outcome A} (Err stop, s) (Ok a, left) → ⊥
stopped stop s left a e = true≢false (sym (ap is_read e))

-- what opens leaves room
opened-first : {A : Type 0} (found : Option A) (one : Option Pass) (l : Lexeme) (at : ℕ) (rest : List Lexeme) (a : A) (left : ParserState)
    → token_as found (or_else one (Some (record { which = limit.Nesting; place = l.place }))) at l rest ≡ (Ok a, left) → ⊥
opened-first None one l at rest a left e = stopped _ _ left a e
opened-first (Some b) None l at rest a left e = stopped _ _ left a e
opened-first (Some b) (Some p) l at rest a left e = stopped _ _ left a e

opened-of : {A : Type 0} (read : Lexeme → Option A) (site : Site) (room : ℕ) (at : ℕ) (rest : List Lexeme) (a : A) (left : ParserState)
    → token_of read (opening site room) at rest ≡ (Ok a, left) → 0 < room
opened-of read site (suc room) at rest a left e = omega arith
opened-of read site zero at [] a left e = absurd (stopped _ _ left a e)
opened-of read site zero at (l ∷ rest) a left e = absurd (opened-first (read l) (within site at l) l at rest a left e)

pub opened : {A : Type 0} (read : Lexeme → Option A) (site : Site) (room : ℕ) (s : ParserState) (a : A) (left : ParserState)
    → read_token read (opening site room) s ≡ (Ok a, left) → 0 < room
opened read site room s = opened-of read site room s.at s.rest

pub ruleset opens = (opened)
