-- What reading the tokens of a text answers of the text.
use Rattle.std.proofs.Common.{◌≡◌, ◌∙◌, refl, sym, ap, subst, ℕ, List, [], Option, Ok, Err}
use Rattle.std.proofs.Props.{props}
use mathlib.Core.HLevel.{is_prop→PathP}
use Rattle.ft_lex.specs.declared.token.Token.{Token}
use Rattle.ft_lex.specs.meaning.Tokens.{IsTokens}
use Rattle.ft_tree.specs.declared.item.Item.{Item}
use Rattle.ft_tree.specs.declared.item.Number.{Number}
use Rattle.ft_tree.specs.declared.tree.Tree.{Tree}
use Rattle.ft_tree.specs.meaning.Limits.{IsSet}
use Rattle.ft_read.specs.meaning.Lexeme.{Lexeme, lexemes_of}
use Rattle.ft_parse.specs.meaning.Language.{PassNoLimit, Step, lexemes}
use Rattle.ft_parse.specs.meaning.Items.{set}
use Rattle.ft_parse.specs.meaning.Parse.{AreLexemes, IsFault, Reads, ReadsSame, Spells, parts_of}
use Rattle.ft_parse.specs.parsers.Faults.{IsAhead, IsFaultOf}
use Rattle.ft_tree.specs.meaning.Bare.{IsSameTree}
use Rattle.ft_tree.specs.meaning.Canonical.{canonical}
use Rattle.ft_tree.specs.laws.Tokens.{CanonicalTokens}
use Rattle.ft_parse.proofs.RoundTrip.{bare_parts, round-trip}
use Rattle.ft_read.specs.parsers.Combinators.{Outcome, ParserState, Stops, state}
use Rattle.ft_parse.specs.parsers.Items.{set_by}
use Rattle.ft_parse.specs.declared.parts.Parts.{Parts}
use Rattle.ft_parse.specs.declared.fault.ParseFault.{ParseFault}
use Rattle.ft_parse.specs.declared.fault.ParseFault.TheVariants as fault
use Rattle.ft_read.specs.declared.stop.Stop.{Stop}
use Rattle.ft_read.specs.declared.stop.Stop.TheVariants.{Syntax, Limit, NoMemory}
use Rattle.ft_parse.proofs.Answers.{Says, closed-lexemes, only, says}
use Rattle.ft_parse.proofs.LawfulItems.{lawful-parts}

set-prop : (name : List ℕ) (period : Number) (splits depth : Option Number) (items : List Item)
    → (x y : IsSet name period splits depth items) → x ≡ y
set-prop name period splits depth items = hlevel props

-- trees with the same parts are the same
pub same-tree : (t u : Tree) → parts_of t ≡ parts_of u → t ≡ u
same-tree t u e =
    let name : t.name ≡ u.name = ap (λ (p : Parts). p.name) e in
    let period : t.period ≡ u.period = ap (λ (p : Parts). p.period) e in
    let splits : t.splits ≡ u.splits = ap (λ (p : Parts). p.splits) e in
    let depth : t.depth ≡ u.depth = ap (λ (p : Parts). p.depth) e in
    let items : t.items ≡ u.items = ap (λ (p : Parts). p.items) e in
    λ i. record {
      name = name i;
      period = period i;
      splits = splits i;
      depth = depth i;
      items = items i;
      lawful = is_prop→PathP (λ j. IsSet (name j) (period j) (splits j) (depth j) (items j))
          (λ j. set-prop (name j) (period j) (splits j) (depth j) (items j)) t.lawful u.lawful i;
    }

module _ (text : List ℕ) (tokens : List Token) (are : IsTokens text tokens) where
  abbrev ls : List Lexeme
  ls = lexemes_of text tokens

  said : (o : Outcome Parts) → set_by (state 0 ls) ≡ o → Says ls o
  said o e = subst (Says ls) e (says ls (closed-lexemes text tokens are))

  here : AreLexemes text ls
  here = (tokens, are, refl)

  pub read-lawful : (parts : Parts) (left : ParserState) → set_by (state 0 ls) ≡ (Ok parts, left)
      → IsSet parts.name parts.period parts.splits parts.depth parts.items
  read-lawful parts left e =
      let (steps, same, no_limit, h) = said (Ok parts, left) e in
      lawful-parts text steps parts (subst (AreLexemes text) (sym same) here) h no_limit

  pub read-spelled : (parts : Parts) (left : ParserState) (tree : Tree) → set_by (state 0 ls) ≡ (Ok parts, left) → parts_of tree ≡ parts
      → Spells text tree
  read-spelled parts left tree e is =
      let (steps, same, no_limit, h) = said (Ok parts, left) e in
      record { steps = steps; are = subst (AreLexemes text) (sym same) here; grammar = subst (set 0 steps) (sym is) h; no_limit = no_limit }

  pub ahead : (stop : Stop) (left : ParserState) → Stops stop left (set_by (state 0 ls)) → IsAhead stop left.rest
  ahead Syntax left e = let (bad, rest, is, front, whole, begins, ends) = said (Err Syntax, left) e in subst (IsAhead Syntax) (sym is) tt
  ahead (Limit pass) left e = tt
  ahead NoMemory left e = tt

  pub read-fault : (stop : Stop) (left : ParserState) (f : ParseFault) → Stops stop left (set_by (state 0 ls))
      → IsFaultOf stop left.rest f → IsFault text f
  read-fault Syntax left f e is =
      let (bad, rest, there, front, whole, begins, ends) = said (Err Syntax, left) e in
      let place : f ≡ fault.Syntax bad.place = subst (λ (us : List Lexeme). IsFaultOf Syntax us f) there is in
      subst (IsFault text) (sym place) (record {
        front = front;
        bad = bad;
        rest = rest;
        are = subst (AreLexemes text) whole here;
        at =
            refl;
        begins = begins;
        ends = ends;
      })
  read-fault (Limit pass) left f e is =
      let (late, rest, front, whole, no_limit, begins, always) = said (Err (Limit pass), left) e in
      subst (IsFault text) (sym is)
      (record {
        front = lexemes front;
        late = late;
        rest = rest;
        are = subst (AreLexemes text) whole here;
        before = front;
        no_limit =
            no_limit;
        same = refl;
        begins = begins;
        always = always;
      })
  read-fault NoMemory left f e is = subst (IsFault text) (sym is) tt

  module _ (sole : (others : List Token) → IsTokens text others → others ≡ tokens) where
    -- parts that the text spells within the limits are what is read
    parts-whole : (steps : List Step) (parts : Parts) → AreLexemes text (lexemes steps) → set 0 steps parts → PassNoLimit steps
        → (at : ℕ) × (set_by (state 0 ls) ≡ (Ok parts, state at []))
    parts-whole steps parts (others, others_are, same) grammar no_limit =
        let lexed : lexemes steps ≡ ls = sym same ∙ ap (lexemes_of text) (sole others others_are) in
        subst (λ (us : List Lexeme). (at : ℕ) × (set_by (state 0 us) ≡ (Ok parts, state at []))) lexed (only steps parts grammar no_limit)

    read-whole : (tree : Tree) → Spells text tree → (at : ℕ) × (set_by (state 0 ls) ≡ (Ok (parts_of tree), state at []))
    read-whole tree s = parts-whole s.steps (parts_of tree) s.are s.grammar s.no_limit

    pub read-only : (parts : Parts) (left : ParserState) (read tree : Tree) → set_by (state 0 ls) ≡ (Ok parts, left)
        → parts_of read ≡ parts → Spells text tree → read ≡ tree
    read-only parts left read tree e is s =
        let (at, whole) = read-whole tree s in
        let same = ap (λ (o : Outcome Parts). o.0) (sym e ∙ whole) in
        let parts_same : parts ≡ parts_of tree = cc same in
        same-tree read tree (is ∙ parts_same)

    -- two trees that the text spells are the same
    pub read-only-tree : (tree other : Tree) → Spells text tree → Spells text other → tree ≡ other
    read-only-tree tree other s t =
        let (at, whole) = read-whole tree s in
        let (end, others) = read-whole other t in
        let same = ap (λ (o : Outcome Parts). o.0) (sym whole ∙ others) in
        let parts_same : parts_of tree ≡ parts_of other = cc same in
        same-tree tree other parts_same

    pub read-unless : (stop : Stop) (left : ParserState) (f : ParseFault) (tree : Tree) → Stops stop left (set_by (state 0 ls))
        → IsFaultOf stop left.rest f → Spells text tree → Reads (Err f) tree
    read-unless Syntax left f tree e is s =
        let (at, whole) = read-whole tree s in
        let same = ap (λ (o : Outcome Parts). o.0) (sym e ∙ whole) in
        absurd (cc same)
    read-unless (Limit pass) left f tree e is s =
        let (at, whole) = read-whole tree s in
        let same = ap (λ (o : Outcome Parts). o.0) (sym e ∙ whole) in
        absurd (cc same)
    read-unless NoMemory left f tree e is s = subst (λ (g : ParseFault). Reads (Err g) tree) (sym is) tt

    -- the canonical text of a tree is read as that tree, but for places
    pub read-same : CanonicalTokens → (parts : Parts) (left : ParserState) (read tree : Tree) → set_by (state 0 ls) ≡ (Ok parts, left)
        → parts_of read ≡ parts → text ≡ canonical tree
        → IsSameTree read tree
    read-same law parts left read tree e is canonical_is =
        let (steps, written, are_lexemes, grammar, no_limit, same) = round-trip law tree in
        let (at, whole) = parts-whole steps written (subst (λ (t : List ℕ). AreLexemes t (lexemes steps)) (sym canonical_is) are_lexemes)
        grammar no_limit in
        let answers = ap (λ (o : Outcome Parts). o.0) (sym e ∙ whole) in
        let parts_same : parts ≡ written = cc answers in
        ap bare_parts (is ∙ parts_same) ∙ same

    -- nothing stops the reading of a canonical text
    no-stop : CanonicalTokens → (stop : Stop) (left : ParserState) (tree : Tree) → set_by (state 0 ls) ≡ (Err stop, left)
        → text ≡ canonical tree → ⊥
    no-stop law stop left tree e canonical_is =
        let (steps, written, are_lexemes, grammar, no_limit, same) = round-trip law tree in
        let (at, whole) = parts-whole steps written (subst (λ (t : List ℕ). AreLexemes t (lexemes steps)) (sym canonical_is) are_lexemes)
        grammar no_limit in
        let answers = ap (λ (o : Outcome Parts). o.0) (sym e ∙ whole) in
        cc answers

    pub same-unless : CanonicalTokens → (stop : Stop) (left : ParserState) (f : ParseFault) (tree : Tree)
        → Stops stop left (set_by (state 0 ls)) → IsFaultOf stop left.rest f → text ≡ canonical tree
        → ReadsSame (Err f) tree
    same-unless law Syntax left f tree e is canonical_is = absurd (no-stop law Syntax left tree e canonical_is)
    same-unless law (Limit pass) left f tree e is canonical_is = absurd (no-stop law (Limit pass) left tree e canonical_is)
    same-unless law NoMemory left f tree e is canonical_is = subst (λ (g : ParseFault). ReadsSame (Err g) tree) (sym is) tt
