-- A text has one fault or spells one tree: the tokens before a fault begin some set's text, and with the next one they begin none that
-- passes no limit.
use Rattle.std.proofs.Common.{◌≡◌, ◌∙◌, refl, sym, ap, subst, ℕ, List, [], ◌∷◌, ◌++◌, ◌⊎◌, inl, inr, Option, Some, append_assoc}
use Rattle.std.proofs.lemmas.List.{append-nil, map-append}
use Rattle.ft_base.specs.declared.place.Place.{Place}
use Rattle.ft_lex.specs.meaning.Tokens.{OneTokens}
use Rattle.ft_tree.specs.declared.tree.Tree.{Tree}
use Rattle.ft_read.specs.meaning.Lexeme.{Lexeme, lexemes_of}
use Rattle.ft_parse.specs.meaning.Language.{PassNoLimit, Step, lexemes, step}
use Rattle.ft_parse.specs.meaning.Items.{set}
use Rattle.ft_parse.specs.laws.Uniqueness.{FaultOrTree, OneFault, OneTree}
use Rattle.ft_parse.specs.meaning.Parse.{AreLexemes, GoesOn, IsLimitFault, IsSyntaxFault, Spells, parts_of}
use Rattle.ft_parse.specs.declared.parts.Parts.{Parts}
use Rattle.ft_parse.specs.declared.fault.ParseFault.{ParseFault}
use Rattle.ft_parse.specs.declared.fault.ParseFault.TheVariants.{Syntax, Limit, NoMemory}
use Rattle.ft_read.specs.declared.stop.Pass.{Pass}
use Rattle.ft_parse.proofs.ParsingLemmas.{read-only-tree}

-- where two lists are cut before an element, they are cut at the same one, or one cut stands before the other
cut : (f g : List Lexeme) (b c : Lexeme) (r s : List Lexeme) → f ++ b ∷ r ≡ g ++ c ∷ s
    → ((f ≡ g) × (b ≡ c)) ⊎ (((mid : List Lexeme) × (f ≡ g ++ c ∷ mid)) ⊎ ((mid : List Lexeme) × (g ≡ f ++ b ∷ mid)))
cut [] [] b c r s e = let same : b ≡ c = cc e in inl (refl, same)
cut [] (y ∷ g) b c r s e =
    let same : b ≡ y = cc e in
    inr (inr (g, ap (λ (l : Lexeme). l ∷ g) (sym same)))
cut (x ∷ f) [] b c r s e =
    let same : x ≡ c = cc e in
    inr (inl (f, ap (λ (l : Lexeme). l ∷ f) same))
cut (x ∷ f) (y ∷ g) b c r s e =
    let same : x ≡ y = cc e in
    let tails : f ++ b ∷ r ≡ g ++ c ∷ s = cc e in
    elim (cut f g b c r s tails) [
      | inl (fronts, elements) ↦ inl (λ i. same i ∷ fronts i, elements)
      | inr (inl (mid, is)) ↦ inr (inl (mid, λ i. same i ∷ is i))
      | inr (inr (mid, is)) ↦ inr (inr (mid, λ i. sym same i ∷ is i))
    ]

-- no token of a plain front passes a limit
no-pass : (before after b a : List Step) (bad : Lexeme) (mid : List Lexeme) (pass : Pass) → PassNoLimit before
    → lexemes before ≡ lexemes b ++ bad ∷ mid → before ++ after ≡ b ++ step bad (Some pass) ∷ a → ⊥
no-pass [] after [] a bad mid pass no_limit e f = cc e
no-pass [] after (v ∷ vs) a bad mid pass no_limit e f = cc e
no-pass (u ∷ us) after [] a bad mid pass (none, no_limit) e f =
    let same : u ≡ step bad (Some pass) = cc f in
    let passes : u.pass ≡ Some pass = ap (λ (s : Step). s.pass) same in
    cc (none, passes)
no-pass (u ∷ us) after (v ∷ vs) a bad mid pass (none, no_limit) e f =
    let tails : lexemes us ≡ lexemes vs ++ bad ∷ mid = cc e in
    let others : us ++ after ≡ vs ++ step bad (Some pass) ∷ a = cc f in
    no-pass us after vs a bad mid pass no_limit tails others

-- after as many tokens the limits passed are the same
same-pass : (us vs : List Step) (l k : Lexeme) (p q : Pass) (a b : List Step) → lexemes us ≡ lexemes vs
    → us ++ step l (Some p) ∷ a ≡ vs ++ step k (Some q) ∷ b → p ≡ q
same-pass [] [] l k p q a b e f =
    let same : step l (Some p) ≡ step k (Some q) = cc f in
    let passes : ◌≡◌ {A = Option Pass} (Some p) (Some q) = ap (λ (s : Step). s.pass) same in
    cc passes
same-pass [] (v ∷ vs) l k p q a b e f = cc e
same-pass (u ∷ us) [] l k p q a b e f = cc e
same-pass (u ∷ us) (v ∷ vs) l k p q a b e f =
    let tails : lexemes us ≡ lexemes vs = cc e in
    let others : us ++ step l (Some p) ∷ a ≡ vs ++ step k (Some q) ∷ b = cc f in
    same-pass us vs l k p q a b tails others

-- each set's text that goes on from the front with this token passes a limit with it
abbrev Stops : List Lexeme → Lexeme → Type 0
Stops front bad =
    (steps : List Step) (others : List Lexeme) (parts : Parts) → lexemes steps ≡ front ++ bad ∷ others → set 0 steps parts
    → (pass : Pass) × (b a : List Step) × (lexemes b ≡ front) × (steps ≡ b ++ step bad (Some pass) ∷ a)

-- where reading halts
record Halts (text : List ℕ) (front : List Lexeme) (bad : Lexeme) : Type 0 where
  rest : List Lexeme
  are : AreLexemes text (front ++ bad ∷ rest)
  begins : GoesOn front
  stops : Stops front bad

of-syntax : (text : List ℕ) (place : Place) → (f : IsSyntaxFault text place) → Halts text f.front f.bad
of-syntax text place f = record {
  rest = f.rest;
  are = f.are;
  begins = f.begins;
  stops = λ steps others parts e h. absurd (f.ends steps others parts e h);
}

of-limit : (text : List ℕ) (pass : Pass) → (f : IsLimitFault text pass) → Halts text f.front f.late
of-limit text pass f = record {
  rest = f.rest;
  are = f.are;
  begins = let (after, parts, h) = f.begins in (f.before, step f.late (Some pass) ∷ after, parts, f.same, f.no_limit, h);
  stops = λ steps others parts e h. let (b, a, no_limit, same, is) = f.always steps others parts e h in (pass, b, a, same, is);
}

-- no halt stands within a front that goes on
not-within : (front : List Lexeme) (bad : Lexeme) (longer mid : List Lexeme) → Stops front bad → GoesOn longer
    → longer ≡ front ++ bad ∷ mid → ⊥
not-within front bad longer mid stops (before, after, parts, same, no_limit, h) is =
    let begin : lexemes before ≡ front ++ bad ∷ mid = same ∙ is in
    let whole : lexemes (before ++ after) ≡ front ++ bad ∷ (mid ++ lexemes after) =
    map-append (λ (s : Step). s.lexeme) before after ∙ ap (λ (ls : List Lexeme). ls ++ lexemes after) begin
    ∙ append_assoc front (bad ∷ mid) (lexemes after) in
    let (pass, b, a, fronts, split) = stops (before ++ after) (mid ++ lexemes after) parts whole h in
    no-pass before after b a bad mid pass no_limit (begin ∙ ap (λ (ls : List Lexeme). ls ++ bad ∷ mid) (sym fronts)) split

-- the lexemes of a text are determined
same-lexemes : OneTokens → (text : List ℕ) (ls ks : List Lexeme) → AreLexemes text ls → AreLexemes text ks → ls ≡ ks
same-lexemes law text ls ks (tokens, are, is) (others, others_are, others_is) =
    sym is ∙ ap (lexemes_of text) (law text tokens others are others_are) ∙ others_is

-- two halts of a text are one
one-halt : OneTokens → (text : List ℕ) (f g : List Lexeme) (b c : Lexeme) → Halts text f b → Halts text g c
    → (f ≡ g) × (b ≡ c)
one-halt law text f g b c h k =
    elim (cut f g b c h.rest k.rest (same-lexemes law text (f ++ b ∷ h.rest) (g ++ c ∷ k.rest) h.are k.are)) [
      | inl same ↦ same
      | inr (inl (mid, is)) ↦ absurd (not-within g c f mid k.stops h.begins is)
      | inr (inr (mid, is)) ↦ absurd (not-within f b g mid h.stops k.begins is)
    ]

-- the text of a set that goes on with a step
goes-with : (before after : List Step) (late : Lexeme) (pass : Pass) (front : List Lexeme) → lexemes before ≡ front
    → lexemes (before ++ step late (Some pass) ∷ after) ≡ front ++ late ∷ lexemes after
goes-with before after late pass front same =
    map-append (λ (s : Step). s.lexeme) before (step late (Some pass) ∷ after)
    ∙ ap (λ (ls : List Lexeme). ls ++ late ∷ lexemes after) same

-- where no text goes on with a token, none passes a limit with it
apart : OneTokens → (text : List ℕ) (place : Place) (pass : Pass) → IsSyntaxFault text place → IsLimitFault text pass → ⊥
apart law text place pass f g =
    let (fronts, same) = one-halt law text f.front g.front f.bad g.late (of-syntax text place f) (of-limit text pass g) in
    let (after, parts, h) = g.begins in
    let whole = goes-with g.before after g.late pass g.front g.same ∙ (λ i. sym fronts i ++ sym same i ∷ lexemes after) in
    f.ends (g.before ++ step g.late (Some pass) ∷ after) (lexemes after) parts whole h

one-syntax : OneTokens → (text : List ℕ) (place other : Place) → IsSyntaxFault text place → IsSyntaxFault text other → place ≡ other
one-syntax law text place other f g =
    let (fronts, same) = one-halt law text f.front g.front f.bad g.bad (of-syntax text place f) (of-syntax text other g) in
    sym f.at ∙ ap (λ (l : Lexeme). l.place) same ∙ g.at

one-limit : OneTokens → (text : List ℕ) (p q : Pass) → IsLimitFault text p → IsLimitFault text q → p ≡ q
one-limit law text p q f g =
    let (fronts, same) = one-halt law text f.front g.front f.late g.late (of-limit text p f) (of-limit text q g) in
    let (after, parts, h) = f.begins in
    let whole = goes-with f.before after f.late p f.front f.same ∙ (λ i. fronts i ++ same i ∷ lexemes after) in
    let (b, a, no_limit, begin, is) = g.always (f.before ++ step f.late (Some p) ∷ after) (lexemes after) parts whole h in
    same-pass f.before b f.late g.late p q after a (f.same ∙ fronts ∙ sym begin) is

abbrev limit_fault : Pass → ParseFault
limit_fault pass = Limit pass.which pass.place

pub one-fault : OneTokens → OneFault
one-fault law text (Syntax place) (Syntax other) of_one of_other f g =
    ap (λ (p : Place). Syntax p) (one-syntax law text place other f g)
one-fault law text (Syntax place) (Limit which other) of_one of_other f g = absurd (apart law text place _ f g)
one-fault law text (Syntax place) NoMemory of_one of_other f g = absurd of_other
one-fault law text (Limit which place) (Syntax other) of_one of_other f g = absurd (apart law text other _ g f)
one-fault law text (Limit which place) (Limit kind other) of_one of_other f g = ap limit_fault (one-limit law text _ _ f g)
one-fault law text (Limit which place) NoMemory of_one of_other f g = absurd of_other
one-fault law text NoMemory other of_one of_other f g = absurd of_one

-- a text that is spelled within the limits doesn't halt
no-halt : OneTokens → (text : List ℕ) (tree : Tree) (front : List Lexeme) (bad : Lexeme) → Spells text tree → Halts text front bad → ⊥
no-halt law text tree front bad s h =
    let begin : lexemes s.steps ≡ front ++ bad ∷ h.rest = same-lexemes law text (lexemes s.steps) (front ++ bad ∷ h.rest) s.are h.are in
    not-within front bad (lexemes s.steps) h.rest h.stops (
      s.steps,
      [],
      parts_of tree,
      refl,
      s.no_limit,
      subst (λ (steps : List Step). set 0 steps (parts_of tree)) (sym (append-nil s.steps))
          s.grammar,
    ) begin

pub fault-or-tree : OneTokens → FaultOrTree
fault-or-tree law text tree (Syntax place) s of_text f = no-halt law text tree f.front f.bad s (of-syntax text place f)
fault-or-tree law text tree (Limit which place) s of_text f = no-halt law text tree f.front f.late s (of-limit text _ f)
fault-or-tree law text tree NoMemory s of_text f = absurd of_text

pub one-tree : OneTokens → OneTree
one-tree law text tree other s t =
    let (tokens, are, is) = s.are in
    read-only-tree text tokens are (λ others h. law text others tokens h are) tree other s t
