-- The next token of a text is determined, and so are all of them.
use Rattle.std.proofs.Common.{◌≡◌, ◌∙◌, sym, ap, subst, refl, ℕ, ◌+◌, ◌-◌, ◌<◌, List, [], ◌∷◌, ◌++◌, true, false, length, take, drop, inl}
use Rattle.std.proofs.Common.{inr, append_assoc, arith}
use Rattle.std.specs.Bool.{MatchBool}
use Rattle.std.specs.List.{All}
use Rattle.std.proofs.lemmas.Bool.{cases_Bool}
use Rattle.std.proofs.lemmas.List.Elements.{All-cons, All-nil}
use Rattle.std.proofs.lemmas.List.{length-drop}
use Rattle.ft_lex.specs.declared.token.Token.{Token}
use Rattle.ft_lex.specs.meaning.Place.{place_after}
use Rattle.ft_lex.specs.meaning.Tokens.{AreTokensFrom, LiesIn, IsNext, IsTokens, is_last}
use Rattle.ft_lex.specs.lexing.Lexing.{Shape, shape_of, space_len}
use Rattle.ft_lex.proofs.SpaceLemmas.{space_len-spaced}
use Rattle.ft_lex.proofs.ShapeLemmas.{shape-only, shape-some}

-- where a token starts
start-is : (text : List ℕ) (from : ℕ) (t : Token) → IsNext text from t → t.start ≡ from + space_len (drop from text)
start-is text from t h =
    let rest = drop t.start text in
    let counted : space_len (drop from text) + length rest ≡ length (drop from text) =
    subst (λ (bytes : List ℕ). space_len bytes + length rest ≡ length bytes) h.space.written
    (space_len-spaced h.space.pieces rest h.space.are h.no_space) in
    omega (arith, counted, h.follows, h.lies.ordered, h.lies.within, length-drop from text, length-drop t.start text)

same_token : (t u : Token) → t.kind ≡ u.kind → t.start ≡ u.start → t.end ≡ u.end → t.place ≡ u.place → t ≡ u
same_token t u kinds starts ends places = λ i. record { kind = kinds i; start = starts i; end = ends i; place = places i }

-- two next tokens are one
pub next-same : (text : List ℕ) (from : ℕ) (t u : Token) → IsNext text from t → IsNext text from u → t ≡ u
next-same text from t u h k =
    let starts : t.start ≡ u.start = start-is text from t h ∙ sym (start-is text from u k) in
    let shapes : ◌≡◌ {A = Shape} (t.kind, t.end - t.start) (u.kind, u.end - u.start) =
    shape-only t.kind (drop t.start text) (t.end - t.start) h.shape ∙ ap (λ (n : ℕ). shape_of (drop n text)) starts
    ∙ sym (shape-only u.kind (drop u.start text) (u.end - u.start) k.shape) in
    let lengths : t.end - t.start ≡ u.end - u.start = ap (λ (s : Shape). s.1) shapes in
    let ends : t.end ≡ u.end = omega (arith, lengths, starts, h.lies.ordered, k.lies.ordered) in
    let places : t.place ≡ u.place = h.place ∙ ap (λ (n : ℕ). place_after (take n text)) starts ∙ sym k.place in
    same_token t u (ap (λ (s : Shape). s.0) shapes) starts ends places

-- the tokens that are read so far: with those of the rest they are all, and all tokens begin with them
pub record IsReadTo (text : List ℕ) (from : ℕ) (list : List Token) : Type 0 where
  pub builds : (more : List Token) → AreTokensFrom text from more → IsTokens text (list ++ more)
  pub only : (others : List Token) → IsTokens text others → (more : List Token) × (others ≡ list ++ more) × AreTokensFrom text from more

pub read-none : (text : List ℕ) → IsReadTo text 0 []
read-none text = record { builds = λ more h. h; only = λ others h. (others, refl, h) }

goes_on : (t : Token) (P Q : Type 0) → is_last t.kind ≡ false → Q → MatchBool (is_last t.kind) P Q
goes_on t P Q h q = subst (λ (b : _). MatchBool b P Q) (sym h) q

ends-here : (t : Token) (P Q : Type 0) → is_last t.kind ≡ true → P → MatchBool (is_last t.kind) P Q
ends-here t P Q h p = subst (λ (b : _). MatchBool b P Q) (sym h) p

-- what follows the next token, for tokens that begin at the same place
follow : (text : List ℕ) (from : ℕ) (t : Token) (others : List Token) → IsNext text from t → AreTokensFrom text from others
    → (more : List Token) × (others ≡ t ∷ more) × MatchBool (is_last t.kind) (more ≡ []) (AreTokensFrom text t.end more)
follow text from t [] next h = absurd h
follow text from t (u ∷ more) next h =
    let same : u ≡ t = next-same text from u t h.0 next in (
      more,
      ap (λ (x : Token). x ∷ more) same,
      subst (λ (x : Token). MatchBool (is_last x.kind) (more ≡ []) (AreTokensFrom text x.end more))
          same h.1,
    )

-- the tokens from a place on are determined
pub one-list : (text : List ℕ) (from : ℕ) (tokens others : List Token) → AreTokensFrom text from tokens → AreTokensFrom text from others
    → tokens ≡ others
one-list text from [] others h k = absurd h
one-list text from (t ∷ ts) others h k =
    let found = follow text from t others h.0 k in
    elim (cases_Bool (is_last t.kind)) [
      | inl ends ↦
          let none : ts ≡ [] = subst (λ (b : _). MatchBool b (ts ≡ []) (AreTokensFrom text t.end ts)) ends h.1 in
          let no_more : found.0 ≡ [] = subst (λ (b : _). MatchBool b (found.0 ≡ []) (AreTokensFrom text t.end found.0)) ends found.2 in
          ap (λ (l : List Token). t ∷ l) (none ∙ sym no_more) ∙ sym found.1
      | inr goes ↦
          let here = subst (λ (b : _). MatchBool b (ts ≡ []) (AreTokensFrom text t.end ts)) goes h.1 in
          let there = subst (λ (b : _). MatchBool b (found.0 ≡ []) (AreTokensFrom text t.end found.0)) goes found.2 in
          ap (λ (l : List Token). t ∷ l) (one-list text t.end ts found.0 here there) ∙ sym found.1
    ]

pub read-more : (text : List ℕ) (from : ℕ) (list : List Token) (t : Token) → IsReadTo text from list → IsNext text from t → is_last t.kind
    ≡ false → IsReadTo text t.end (list ++ t ∷ [])
read-more text from list t read next goes = record {
  builds = λ more h. subst (λ (l : List Token). IsTokens text l) (sym (append_assoc list (t ∷ []) more))
      (read.builds (t ∷ more) (next, goes_on t _ _ goes h));
  only = λ others h.
      let found = read.only others h in
      let after = follow text from t found.0 next found.2 in (
        after.0,
        found.1 ∙ ap (λ (l : List Token). list ++ l) after.1 ∙ sym (append_assoc list (t ∷ []) after.0),
        subst (λ (b : _). MatchBool b (after.0 ≡ []) (AreTokensFrom text t.end after.0)) goes after.2,
      );
}

pub read-all : (text : List ℕ) (from : ℕ) (list : List Token) (t : Token) → IsReadTo text from list → IsNext text from t → is_last t.kind
    ≡ true → IsTokens text (list ++ t ∷ [])
read-all text from list t read next ends = read.builds (t ∷ []) (next, ends-here t _ _ ends refl)

pub read-only : (text : List ℕ) (from : ℕ) (list : List Token) (t : Token) → IsReadTo text from list → IsNext text from t → is_last t.kind
    ≡ true
    → (others : List Token) → IsTokens text others → others ≡ list ++ t ∷ []
read-only text from list t read next ends others h =
    let found = read.only others h in
    let after = follow text from t found.0 next found.2 in
    let none : after.0 ≡ [] = subst (λ (b : _). MatchBool b (after.0 ≡ []) (AreTokensFrom text t.end after.0)) ends after.2 in
    found.1 ∙ ap (λ (l : List Token). list ++ l) (after.1 ∙ ap (λ (l : List Token). t ∷ l) none)

pub next-some : (text : List ℕ) (from : ℕ) (t : Token) → IsNext text from t → is_last t.kind ≡ false → t.start < t.end
next-some text from t h goes = omega (arith, shape-some t.kind (drop t.start text) (t.end - t.start) h.shape goes)

lies-more : (text : List ℕ) (t : Token) (more : List Token) → LiesIn text t → All (LiesIn text) more → All (LiesIn text) (t ∷ more)
lies-more text t more here later = All-cons (LiesIn text) t more here later

-- each token lies within the text
pub tokens-lie : (text : List ℕ) (from : ℕ) (list : List Token) → AreTokensFrom text from list → All (LiesIn text) list
tokens-lie text from [] h = absurd h
tokens-lie text from (t ∷ more) h = elim (cases_Bool (is_last t.kind)) [
  | inl ends ↦
      let none : more ≡ [] = subst (λ (b : _). MatchBool b (more ≡ []) (AreTokensFrom text t.end more)) ends h.1 in
      lies-more text t more h.0.lies (subst (λ (l : List Token). All (LiesIn text) l) (sym none) (All-nil (LiesIn text)))
  | inr goes ↦ lies-more text t more h.0.lies (tokens-lie text t.end more
      (subst (λ (b : _). MatchBool b (more ≡ []) (AreTokensFrom text t.end more)) goes h.1))
]
