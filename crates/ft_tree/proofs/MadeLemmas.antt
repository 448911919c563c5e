-- A text that is made of tokens with blanks before and after them has these tokens.
use Rattle.std.proofs.Common.{◌≡◌, ◌∙◌, sym, ap, subst, refl, ℕ, ◌+◌, ◌-◌, List, [], ◌∷◌, ◌++◌, Bool, true, false, length, take, drop, map}
use Rattle.std.proofs.Common.{append_assoc, length-append, arith}
use Rattle.std.specs.Bool.{MatchBool}
use Rattle.std.specs.List.{list_all}
use Rattle.std.proofs.lemmas.Bool.{and_parts}
use Rattle.std.proofs.lemmas.List.{append-nil}
use Rattle.std.proofs.lemmas.List.Folds.{list_all-append}
use Rattle.std.proofs.Math.Seq.{take-append_seam, drop-append_seam, drop-append-add}
use Rattle.ft_lex.specs.declared.token.Token.{Token}
use Rattle.ft_lex.specs.declared.token.TokenKind.TheVariants.{End}
use Rattle.ft_lex.specs.meaning.Bytes.{begins_space, is_blank}
use Rattle.ft_lex.specs.meaning.Place.{place_after}
use Rattle.ft_lex.specs.meaning.Space.{blank, spaced, ArePieces, IsSpaceBefore}
use Rattle.ft_lex.specs.meaning.Tokens.{AreTokensFrom, Begins, IsNext, IsShape, is_last}
use Rattle.ft_tree.specs.laws.Tokens.{Shape, token_shape}

-- blanks, as pieces of space
spaced-blanks : (space rest : List ℕ) → spaced (map blank space) rest ≡ space ++ rest
spaced-blanks [] rest = refl
spaced-blanks (b ∷ space) rest = ap (λ (l : List ℕ). b ∷ l) (spaced-blanks space rest)

are-blanks : (space rest : List ℕ) → list_all is_blank space ≡ true → ArePieces (map blank space) rest
are-blanks [] rest h = tt
are-blanks (b ∷ space) rest h =
    let (first, later) = and_parts (is_blank b) (list_all is_blank space) h in
    (first, are-blanks space rest later)

blanks-before : (space rest : List ℕ) → list_all is_blank space ≡ true → IsSpaceBefore (space ++ rest) rest
blanks-before space rest h = record {
  pieces = map blank space;
  written = spaced-blanks space rest;
  are = are-blanks space rest h;
}

-- the bytes stand before the rest as a token of this kind
pub record Stands (shape : Shape) (rest : List ℕ) : Type 0 where
  pub no_space : Begins begins_space (shape.1 ++ rest) → ⊥
  pub shaped : IsShape shape.0 (shape.1 ++ rest) (length shape.1)

-- the token of this shape that stands after so many bytes of the text
abbrev token_at : List ℕ → ℕ → Shape → Token
token_at text start shape = record {
  kind = shape.0;
  start = start;
  end = start + length shape.1;
  place = place_after (take start text);
}

-- what is left of the text after the space
left-after : (text before space here : List ℕ) → text ≡ before ++ (space ++ here)
    → drop (length before + length space) text ≡ here
left-after text before space here e =
    ap (drop (length before + length space)) e
    ∙ drop-append-add before (space ++ here) (length space)
    ∙ drop-append_seam space here

next-is : (text before space rest : List ℕ) (shape : Shape) → text ≡ before ++ (space ++ (shape.1 ++ rest))
    → list_all is_blank space ≡ true → Stands shape rest
    → IsNext text (length before) (token_at text (length before + length space) shape)
next-is text before space rest shape e blanks stands =
    let start : ℕ = length before + length space in
    let here : List ℕ = shape.1 ++ rest in
    let left : drop (length before) text ≡ space ++ here =
    ap (drop (length before)) e ∙ drop-append_seam before (space ++ here) in
    let from : drop start text ≡ here = left-after text before space here e in
    let back : start + length shape.1 - start ≡ length shape.1 = omega arith in
    let spaced : IsSpaceBefore (drop (length before) text) here =
    subst (λ (l : List ℕ). IsSpaceBefore l here) (sym left) (blanks-before space here blanks) in
    let shaped : IsShape shape.0 here (start + length shape.1 - start) =
    subst (λ (n : ℕ). IsShape shape.0 here n) (sym back) stands.shaped in
    record {
      follows = omega arith;
      lies = record {
        ordered = omega arith;
        within = omega (
          arith,
          ap length e,
          length-append before (space ++ here),
          length-append space here,
          length-append shape.1 rest,
        );
      };
      space = subst (λ (l : List ℕ). IsSpaceBefore (drop (length before) text) l) (sym from) spaced;
      no_space = subst (λ (l : List ℕ). Begins begins_space l → ⊥) (sym from) stands.no_space;
      shape = subst (λ (l : List ℕ). IsShape shape.0 l (start + length shape.1 - start)) (sym from) shaped;
      place = refl;
    }

-- its bytes are those of the shape
shape-read : (text before space rest : List ℕ) (shape : Shape) → text ≡ before ++ (space ++ (shape.1 ++ rest))
    → token_shape text (token_at text (length before + length space) shape) ≡ shape
shape-read text before space rest shape e =
    let start : ℕ = length before + length space in
    let here : List ℕ = shape.1 ++ rest in
    let from : drop start text ≡ here = left-after text before space here e in
    let back : start + length shape.1 - start ≡ length shape.1 = omega arith in
    let bytes : take (start + length shape.1 - start) (drop start text) ≡ shape.1 =
    ap (λ (n : ℕ). take n (drop start text)) back ∙ ap (take (length shape.1)) from ∙ take-append_seam shape.1 rest in
    λ i. (shape.0, bytes i)

-- the bytes are blanks and tokens of these shapes in turn, and blanks at the end
abbrev pub IsMade : List ℕ → List Shape → Type 0
IsMade bytes [] = list_all is_blank bytes ≡ true
IsMade bytes (shape ∷ more) =
    (space : List ℕ) × (rest : List ℕ)
    × (bytes ≡ space ++ (shape.1 ++ rest))
    × (list_all is_blank space ≡ true)
    × Stands shape rest
    × (is_last shape.0 ≡ false)
    × IsMade rest more

-- blanks before it change nothing
pub made-after_blanks : (shapes : List Shape) (space bytes : List ℕ) → list_all is_blank space ≡ true → IsMade bytes shapes
    → IsMade (space ++ bytes) shapes
made-after_blanks [] space bytes h made = list_all-append is_blank space bytes ∙ rw (h, made) refl
made-after_blanks (shape ∷ more) space bytes h (own, rest, e, blanks, stands, goes, made) = (
  space ++ own,
  rest,
  ap (λ (l : List ℕ). space ++ l) e ∙ sym (append_assoc space own (shape.1 ++ rest)),
  list_all-append is_blank space own ∙ rw (h, blanks) refl,
  stands,
  goes,
  made,
)

-- a token stands first, and the rest is made
pub made-more : (shape : Shape) (more : List Shape) (rest : List ℕ) → Stands shape rest → is_last shape.0 ≡ false
    → IsMade rest more → IsMade (shape.1 ++ rest) (shape ∷ more)
made-more shape more rest stands goes made = ([], rest, refl, refl, stands, goes, made)

-- the tokens from a place on: these shapes, and End
pub record Reads (text : List ℕ) (from : ℕ) (shapes : List Shape) : Type 0 where
  pub tokens : List Token
  pub are : AreTokensFrom text from tokens
  pub shaped : map (token_shape text) tokens ≡ shapes ++ (End, []) ∷ []

read-end : (text before space : List ℕ) → text ≡ before ++ space → list_all is_blank space ≡ true → Reads text (length before) []
read-end text before space e blanks =
    let whole : text ≡ before ++ (space ++ []) = e ∙ ap (λ (l : List ℕ). before ++ l) (sym (append-nil space)) in
    let terminated : Stands (End, []) [] = record { no_space = λ none. none; shaped = (refl, refl) } in
    record {
      tokens = token_at text (length before + length space) (End, []) ∷ [];
      are = (next-is text before space [] (End, []) whole blanks terminated, refl);
      shaped = ap (λ (shape : Shape). shape ∷ []) (shape-read text before space [] (End, []) whole);
    }

goes-on : (b : Bool) (P Q : Type 0) → b ≡ false → Q → MatchBool b P Q
goes-on b P Q h q = subst (λ (c : Bool). MatchBool c P Q) (sym h) q

read-more : (text before space rest : List ℕ) (shape : Shape) (more : List Shape) → text ≡ before ++ (space ++ (shape.1 ++ rest))
    → list_all is_blank space ≡ true → Stands shape rest → is_last shape.0 ≡ false
    → Reads text (length before + length space + length shape.1) more → Reads text (length before) (shape ∷ more)
read-more text before space rest shape more e blanks stands goes later =
    let first : Token = token_at text (length before + length space) shape in
    record {
      tokens = first ∷ later.tokens;
      are = (
        next-is text before space rest shape e blanks stands,
        goes-on (is_last shape.0) (later.tokens ≡ []) (AreTokensFrom text first.end later.tokens) goes later.are,
      );
      shaped = ap (λ (s : Shape). s ∷ map (token_shape text) later.tokens) (shape-read text before space rest shape e)
          ∙ ap (λ (l : List Shape). shape ∷ l) later.shaped;
    }

read-from : (text before bytes : List ℕ) (shapes : List Shape) → text ≡ before ++ bytes → IsMade bytes shapes
    → Reads text (length before) shapes
read-from text before bytes [] e made = read-end text before bytes e made
read-from text before bytes (shape ∷ more) e (space, rest, parts, blanks, stands, goes, made) =
    let whole : text ≡ before ++ (space ++ (shape.1 ++ rest)) = e ∙ ap (λ (l : List ℕ). before ++ l) parts in
    let later : text ≡ (before ++ (space ++ shape.1)) ++ rest = whole
    ∙ ap (λ (l : List ℕ). before ++ l) (sym (append_assoc space shape.1 rest))
    ∙ sym (append_assoc before (space ++ shape.1) rest) in
    let size : length (before ++ (space ++ shape.1)) ≡ length before + length space + length shape.1 =
    omega (arith, length-append before (space ++ shape.1), length-append space shape.1) in
    read-more text before space rest shape more whole blanks stands goes
    (subst (λ (n : ℕ). Reads text n more) size (read-from text (before ++ (space ++ shape.1)) rest more later made))

-- the tokens of the whole text
pub read-made : (text : List ℕ) (shapes : List Shape) → IsMade text shapes → Reads text 0 shapes
read-made text shapes made = read-from text [] text shapes refl made
