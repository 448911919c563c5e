-- What the count of space says of the text.
use Rattle.std.proofs.Common.{◌≡◌, ◌∙◌, sym, ap, subst, refl, ℕ, suc, ◌+◌, List, [], ◌∷◌, ◌++◌, ◌==◌, Bool, true, false, length, drop, inl}
use Rattle.std.proofs.Common.{inr, length-append, arith}
use Rattle.std.specs.List.{list_all}
use Rattle.std.proofs.lemmas.Bool.{true≢false, cases_Bool}
use Rattle.std.proofs.lemmas.Bool.Decides.{nat_tests}
use Rattle.ft_lex.specs.declared.space.Within.{Within}
use Rattle.ft_lex.specs.declared.space.Within.TheVariants.{Blanks, Comment}
use Rattle.ft_lex.specs.meaning.Bytes.{is_blank, is_within_line, begins_space}
use Rattle.ft_lex.specs.meaning.Space.{Piece, blank, comment, spaced, IsLineEnd, ArePieces, IsSpaceBefore}
use Rattle.ft_lex.specs.meaning.Tokens.{Begins}
use Rattle.ft_lex.specs.lexing.Lexing.{after_byte, goes_on, space_from, space_len}

pub not_true : (b : Bool) → (b ≡ true → ⊥) → b ≡ false
not_true true no_way = absurd (no_way refl)
not_true false no_way = refl

blank-is_space : (b : ℕ) → is_blank b ≡ true → begins_space b ≡ true
blank-is_space b h = rw h refl

blank-is_no_comment : (b : ℕ) → is_blank b ≡ true → (b == 35) ≡ false
blank-is_no_comment b h = grind (arith, nat_tests)

within_line-is : (b : ℕ) → is_within_line b ≡ true → (b == 10) ≡ false
within_line-is b h = grind (arith, nat_tests)

number-is : (a b : ℕ) → (a == b) ≡ true → a ≡ b
number-is a b h = grind (arith, nat_tests)

-- one byte of space more
space-step : (within after : Within) (b : ℕ) (more : List ℕ) → goes_on within b ≡ true → after_byte within b ≡ after
    → space_from within (b ∷ more) ≡ suc (space_from after more)
unfolding space_from
space-step within after b more goes next = rw (goes, next) refl

space-stop : (within : Within) (b : ℕ) (more : List ℕ) → goes_on within b ≡ false → space_from within (b ∷ more) ≡ 0
unfolding space_from
space-stop within b more stops = rw stops refl

after-blank : (b : ℕ) → (b == 35) ≡ false → after_byte Blanks b ≡ Blanks
after-blank b h = rw h refl

after-hash : (b : ℕ) → (b == 35) ≡ true → after_byte Blanks b ≡ Comment
after-hash b h = rw h refl

after-line : (b : ℕ) → (b == 10) ≡ false → after_byte Comment b ≡ Comment
after-line b h = rw h refl

after-feed : (b : ℕ) → (b == 10) ≡ true → after_byte Comment b ≡ Blanks
after-feed b h = rw h refl

hash-is_space : (b : ℕ) → (b == 35) ≡ true → begins_space b ≡ true
hash-is_space b h = grind (arith, nat_tests)

feed-is_blank : (b : ℕ) → (b == 10) ≡ true → is_blank b ≡ true
feed-is_blank b h = grind (arith, nat_tests)

space-blank : (b : ℕ) (more : List ℕ) → is_blank b ≡ true → space_from Blanks (b ∷ more) ≡ suc (space_from Blanks more)
space-blank b more h = space-step Blanks Blanks b more (blank-is_space b h) (after-blank b (blank-is_no_comment b h))

space-hash : (b : ℕ) (more : List ℕ) → (b == 35) ≡ true → space_from Blanks (b ∷ more) ≡ suc (space_from Comment more)
space-hash b more h = space-step Blanks Comment b more (hash-is_space b h) (after-hash b h)

space-in_line : (b : ℕ) (more : List ℕ) → (b == 10) ≡ false → space_from Comment (b ∷ more) ≡ suc (space_from Comment more)
space-in_line b more h = space-step Comment Comment b more refl (after-line b h)

space-feed : (b : ℕ) (more : List ℕ) → (b == 10) ≡ true → space_from Comment (b ∷ more) ≡ suc (space_from Blanks more)
space-feed b more h = space-step Comment Blanks b more refl (after-feed b h)

space-nil : (within : Within) → space_from within [] ≡ 0
unfolding space_from
space-nil within = refl

all-head : (b : ℕ) (line : List ℕ) → list_all is_within_line (b ∷ line) ≡ true → is_within_line b ≡ true
all-head b line h = grind (arith, nat_tests)

all-tail : (b : ℕ) (line : List ℕ) → list_all is_within_line (b ∷ line) ≡ true → list_all is_within_line line ≡ true
all-tail b line h = grind (arith, nat_tests)

-- a comment's line is space
space-line : (line rest : List ℕ) → list_all is_within_line line ≡ true → space_from Comment (line ++ rest)
    ≡ length line + space_from Comment rest
space-line [] rest h = omega arith
space-line (b ∷ line) rest h =
    let here = space-in_line b (line ++ rest) (within_line-is b (all-head b line h)) in
    omega (arith, here, space-line line rest (all-tail b line h))

-- at a line's end a comment is over
space-line_end : (rest : List ℕ) → IsLineEnd rest → space_from Comment rest ≡ space_from Blanks rest
space-line_end [] h = space-nil Comment ∙ sym (space-nil Blanks)
space-line_end (b ∷ rest) h =
    let feed : (b == 10) ≡ true = grind (arith, nat_tests) in
    space-feed b rest feed ∙ sym (space-blank b rest (feed-is_blank b feed))

-- where no space follows pieces of space, their bytes are counted
pub space_len-spaced : (pieces : List Piece) (rest : List ℕ) → ArePieces pieces rest → (Begins begins_space rest → ⊥)
    → space_len (spaced pieces rest) + length rest ≡ length (spaced pieces rest)
space_len-spaced [] [] are ends = omega (arith, space-nil Blanks)
space_len-spaced [] (b ∷ rest) are ends = omega (arith, space-stop Blanks b rest (not_true (begins_space b) ends))
space_len-spaced (blank b ∷ more) rest are ends =
    omega (arith, space-blank b (spaced more rest) are.0, space_len-spaced more rest are.1 ends)
space_len-spaced (comment line ∷ more) rest are ends =
    omega (
      arith,
      space-hash 35 (line ++ spaced more rest) refl,
      space-line line (spaced more rest) are.0,
      space-line_end (spaced more rest) are.1,
      length-append line (spaced more rest),
      space_len-spaced more rest are.2 ends,
    )

-- a comment's line, and pieces of space after it
record Commented (text rest : List ℕ) : Type 0 where
  line : List ℕ
  pieces : List Piece
  written : line ++ spaced pieces rest ≡ text
  whole : list_all is_within_line line ≡ true
  ended : IsLineEnd (spaced pieces rest)
  are : ArePieces pieces rest

record Both (text : List ℕ) : Type 0 where
  blanks : IsSpaceBefore text (drop (space_from Blanks text) text)
  commented : Commented text (drop (space_from Comment text) text)

more-blank : (b : ℕ) (text rest : List ℕ) → is_blank b ≡ true → IsSpaceBefore text rest → IsSpaceBefore (b ∷ text) rest
more-blank b text rest h space = record {
  pieces = blank b ∷ space.pieces;
  written = ap (λ (l : List ℕ). b ∷ l) space.written;
  are =
      (h, space.are);
}

more-hash : (b : ℕ) (text rest : List ℕ) → 35 ≡ b → Commented text rest → IsSpaceBefore (b ∷ text) rest
more-hash b text rest h c = record {
  pieces = comment c.line ∷ c.pieces;
  written = ap (λ (l : List ℕ). 35 ∷ l) c.written ∙ ap (λ (x : ℕ). x ∷ text) h;
  are = (c.whole, c.ended, c.are);
}

no-space : (text : List ℕ) → IsSpaceBefore text text
no-space text = record { pieces = []; written = refl; are = tt }

more-line : (b : ℕ) (text rest : List ℕ) → is_within_line b ≡ true → Commented text rest → Commented (b ∷ text) rest
more-line b text rest h c = record {
  line = b ∷ c.line;
  pieces = c.pieces;
  written = ap (λ (l : List ℕ). b ∷ l) c.written;
  whole = rw (h, c.whole) refl;
  ended = c.ended;
  are = c.are;
}

more-feed : (b : ℕ) (text rest : List ℕ) → b ≡ 10 → is_blank b ≡ true → IsSpaceBefore text rest → Commented (b ∷ text) rest
more-feed b text rest feed h space = record {
  line = [];
  pieces = blank b ∷ space.pieces;
  written = ap (λ (l : List ℕ). b ∷ l) space.written;
  whole = refl;
  ended = feed;
  are = (h, space.are);
}

at : (P : List ℕ → Type 0) (n m : ℕ) (b : ℕ) (text : List ℕ) → n ≡ suc m → P (drop m text) → P (drop n (b ∷ text))
at P n m b text e p = subst (λ (k : ℕ). P (drop k (b ∷ text))) (sym e) p

blanks-more : (b : ℕ) (text : List ℕ) → Both text → IsSpaceBefore (b ∷ text) (drop (space_from Blanks (b ∷ text)) (b ∷ text))
blanks-more b text both = elim (cases_Bool (b == 35)) [
  | inl hash ↦ at (IsSpaceBefore (b ∷ text)) _ _ b text (space-hash b text hash)
      (more-hash b text _ (sym (number-is b 35 hash)) both.commented)
  | inr other ↦ elim (cases_Bool (is_blank b)) [
    | inl is ↦ at (IsSpaceBefore (b ∷ text)) _ _ b text (space-blank b text is) (more-blank b text _ is both.blanks)
    | inr no_blank ↦ subst (λ (k : ℕ). IsSpaceBefore (b ∷ text) (drop k (b ∷ text)))
        (sym (space-stop Blanks b text (grind (arith, nat_tests)))) (no-space (b ∷ text))
  ]
]

comment-more : (b : ℕ) (text : List ℕ) → Both text → Commented (b ∷ text) (drop (space_from Comment (b ∷ text)) (b ∷ text))
comment-more b text both = elim (cases_Bool (b == 10)) [
  | inl feed ↦ at (Commented (b ∷ text)) _ _ b text (space-feed b text feed)
      (more-feed b text _ (number-is b 10 feed) (feed-is_blank b feed) both.blanks)
  | inr other ↦ at (Commented (b ∷ text)) _ _ b text (space-in_line b text other)
      (more-line b text _ (grind (arith, nat_tests)) both.commented)
]

both-is : (text : List ℕ) → Both text
both-is [] = record {
  blanks = subst (λ (k : ℕ). IsSpaceBefore [] (drop k [])) (sym (space-nil Blanks)) (no-space []);
  commented = subst (λ (k : ℕ). Commented [] (drop k [])) (sym (space-nil Comment))
      (record { line = []; pieces = []; written = refl; whole = refl; ended = tt; are = tt });
}
both-is (b ∷ text) = let both = both-is text in record { blanks = blanks-more b text both; commented = comment-more b text both }

-- the bytes that are counted are space
pub space-counted : (text : List ℕ) → IsSpaceBefore text (drop (space_len text) text)
space-counted text = (both-is text).blanks

ends-with_none : (within : Within) (text : List ℕ) → Begins begins_space (drop (space_from within text) text) → ⊥
ends-with_none within [] h = subst (λ (k : ℕ). Begins begins_space (drop k [])) (space-nil within) h
ends-with_none Comment (b ∷ text) h = ends-with_none (after_byte Comment b) text
    (subst (λ (k : ℕ). Begins begins_space (drop k (b ∷ text))) (space-step Comment _ b text refl refl) h)
ends-with_none Blanks (b ∷ text) h = elim (cases_Bool (begins_space b)) [
  | inl is ↦ ends-with_none (after_byte Blanks b) text (subst (λ (k : ℕ). Begins begins_space (drop k (b ∷ text)))
      (space-step Blanks _ b text is refl) h)
  | inr no_space ↦ let is : begins_space b ≡ true = subst (λ (k : ℕ). Begins begins_space (drop k (b ∷ text)))
      (space-stop Blanks b text no_space) h in
      true≢false (sym is ∙ no_space)
]

-- and no more space follows them
pub space-over : (text : List ℕ) → Begins begins_space (drop (space_len text) text) → ⊥
space-over text h = ends-with_none Blanks text h
