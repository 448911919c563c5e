-- Fixed words, and names.
use Rattle.std.proofs.Common.{◌≡◌, ◌∙◌, sym, ap, subst, refl, ℕ, zero, suc, ◌+◌, ◌<◌, ◌≤◌, Bool, true, false, ◌==◌, ◌&&◌}
use Rattle.std.proofs.Common.{List, [], ◌∷◌, ◌++◌, length, get_or, take, drop, cond, append_assoc, append-nil, arith, drop-cons}
use Rattle.std.specs.Prelude.{codes, not, nat_le}
use Rattle.std.specs.List.{list_all, prefix_len}
use Rattle.std.proofs.lemmas.Bool.{and_from, and_parts, eqb-false, ne_eqb, leb-true, le-leb, not-true, true≢false}
use Rattle.std.proofs.lemmas.List.{append_cancel_left, length-append, length-take-le, take-append-drop}
use Rattle.std.proofs.lemmas.List.Folds.{list_all-append}
use Rattle.ft_base.specs.Names.{begins_by_letter, is_letter, is_name, is_name_byte, is_reserved_word, reserved_words}
use Rattle.ft_base.specs.Reserved.{found-passes}
use Rattle.ft_certs.specs.meaning.Fault.{Begins, Stops}
use Rattle.ft_certs.specs.meaning.Text.{end_line}
use Rattle.ft_certs.specs.building.Pieces.{Ends, NameLines, Word, can_end, is_one_of, name_len}
use Rattle.ft_certs.specs.building.Stuck.{Stuck}
use Rattle.ft_certs.proofs.StuckLemmas.{head-same, stuck-here}
use Rattle.ft_certs.proofs.NumberLemmas.{first-end, same-span, within-span}

-- the next byte isn't that of the word
abbrev pub Mismatch : (word : List ℕ) (i : ℕ) → List ℕ → Type 0
Mismatch word i [] = Unit {0}
Mismatch word i (b ∷ more) = b ≡ get_or word i 0 → ⊥

module _ (word : List ℕ) (i : ℕ) (within : i < length word) where
  short : (p q : List ℕ) → take i word ≡ p ++ q → p ≡ word → ⊥
  short p q e t = omega (arith, within, ap length e, length-append p q, ap length t, length-take-le i word (omega (arith, within)))

  word-stops : (rest : List ℕ) → Mismatch word i rest → Stops (Word word) (take i word) rest
  word-stops [] m = λ t. short (take i word) [] (sym (append-nil (take i word))) t
  word-stops (b ∷ rest) m = λ g.
      let parts : take i word ++ b ∷ g.0 ≡ take i word ++ drop i word =
      sym (append_assoc (take i word) (b ∷ []) g.0) ∙ g.1 ∙ sym (take-append-drop i word) in
      let after : b ∷ g.0 ≡ get_or word i 0 ∷ drop (suc i) word =
      append_cancel_left (take i word) (b ∷ g.0) (drop i word) parts ∙ drop-cons word i 0 within in
      m (head-same b (get_or word i 0) g.0 (drop (suc i) word) after)

  word-stuck-by : (bytes rest : List ℕ) → bytes ≡ take i word ++ rest → Mismatch word i rest → Stuck (Word word) bytes (length rest)
  word-stuck-by bytes rest parts m = record {
    front = take i word;
    rest = rest;
    parts = parts;
    count = refl;
    begins = (drop i word, take-append-drop i word);
    none = short;
    stops = word-stops rest m;
  }

  pub word-ended : (bytes rest : List ℕ) → bytes ≡ take i word ++ rest → rest ≡ [] → Stuck (Word word) bytes 0
  word-ended bytes rest parts e = word-stuck-by bytes [] (parts ∙ ap (λ (l : List ℕ). take i word ++ l) e) tt

  pub word-stuck : (bytes rest : List ℕ) (b : ℕ) (more : List ℕ) → bytes ≡ take i word ++ rest → rest ≡ b ∷ more → (b ≡ get_or word i 0 → ⊥)
      → Stuck (Word word) bytes (length rest)
  word-stuck bytes rest b more parts e m =
      subst (λ (l : List ℕ). Stuck (Word word) bytes (length l)) (sym e)
      (word-stuck-by bytes (b ∷ more) (parts ∙ ap (λ (l : List ℕ). take i word ++ l) e) m)

-- one byte

abbrev NoEnd : (ends : List ℕ) → List ℕ → Type 0
NoEnd ends [] = Unit {0}
NoEnd ends (b ∷ more) = is_one_of ends b ≡ false

end-stops : (ends bytes : List ℕ) → NoEnd ends bytes → Stops (Ends ends) [] bytes
end-stops ends [] m = λ t. omega (arith, ap length t.2)
end-stops ends (b ∷ more) m = λ g. true≢false (sym g.1.1 ∙ ap (is_one_of ends) (sym (head-same b g.1.0 g.0 [] g.1.2)) ∙ m)

end-stuck-by : (ends bytes : List ℕ) → 0 < length ends → NoEnd ends bytes → Stuck (Ends ends) bytes (length bytes)
end-stuck-by ends bytes some m =
    stuck-here (Ends ends) bytes (get_or ends 0 0 ∷ [], (get_or ends 0 0, first-end ends some, refl)) (λ t. omega (arith, ap length t.2)) (end-stops ends bytes m)

pub end-stuck-empty : (ends bytes : List ℕ) → 0 < length ends → bytes ≡ [] → Stuck (Ends ends) bytes 0
end-stuck-empty ends bytes some e = subst (λ (l : List ℕ). Stuck (Ends ends) l 0) (sym e) (end-stuck-by ends [] some tt)

pub end-stuck : (ends bytes : List ℕ) → 0 < length ends → (b : ℕ) (more : List ℕ) → bytes ≡ b ∷ more → is_one_of ends b ≡ false
    → Stuck (Ends ends) bytes (length bytes)
end-stuck ends bytes some b more e other =
    subst (λ (l : List ℕ). Stuck (Ends ends) l (length l)) (sym e) (end-stuck-by ends (b ∷ more) some other)

-- names

-- the longest front of bytes of names, of at most so many
record NameFront (most : ℕ) (bytes : List ℕ) (k : ℕ) : Type 0 where
  all : list_all is_name_byte (take k bytes) ≡ true
  few : k ≤ most
  within : k ≤ length bytes
  next : (b : ℕ) (more : List ℕ) → drop k bytes ≡ b ∷ more → is_name_byte b ≡ true → k ≡ most

abbrev FrontOf : (most : ℕ) (c : ℕ) (bytes : List ℕ) → Bool → Type 0
FrontOf most c bytes t = NameFront (suc most) (c ∷ bytes) (cond t (1 + prefix_len is_name_byte (take most bytes)) 0)

front-more : (most c : ℕ) (bytes : List ℕ) (k : ℕ) → NameFront most bytes k → is_name_byte c ≡ true → NameFront (suc most) (c ∷ bytes) (suc k)
front-more most c bytes k f is = record {
  all = and_from (is_name_byte c) (list_all is_name_byte (take k bytes)) is f.all;
  few = omega (arith, f.few);
  within = omega (arith, f.within);
  next = λ b more e is. omega (arith, f.next b more e is);
}

front-none : (most c : ℕ) (bytes : List ℕ) → is_name_byte c ≡ false → FrontOf most c bytes false
front-none most c bytes other = record {
  all = refl;
  few = omega arith;
  within = omega arith;
  next = λ b more e is. absurd (true≢false (sym is ∙ ap is_name_byte (sym (head-same c b bytes more e)) ∙ other));
}

front-by : (most c : ℕ) (bytes : List ℕ) → NameFront most bytes (prefix_len is_name_byte (take most bytes)) → (t : Bool) → is_name_byte c ≡ t → FrontOf most c bytes t
front-by most c bytes f true is =
    let k : ℕ = prefix_len is_name_byte (take most bytes) in
    let same : suc k ≡ 1 + k = omega arith in
    subst (λ (n : ℕ). NameFront (suc most) (c ∷ bytes) n) same (front-more most c bytes k f is)
front-by most c bytes f false other = front-none most c bytes other

front-is : (most : ℕ) (bytes : List ℕ) → NameFront most bytes (prefix_len is_name_byte (take most bytes))
front-is zero bytes = record { all = refl; few = omega arith; within = omega arith; next = λ b more e is. refl }
front-is (suc most) [] = record { all = refl; few = omega arith; within = omega arith; next = λ b more e is. absurd (omega (arith, ap length e)) }
front-is (suc most) (c ∷ bytes) = front-by most c bytes (front-is most bytes) (is_name_byte c) refl

-- what a name is
record IsName (name : List ℕ) : Type 0 where
  letter : begins_by_letter name ≡ true
  all : list_all is_name_byte name ≡ true
  few : length name ≤ 40
  free : is_reserved_word name ≡ false

name-parts : (name : List ℕ) → is_name name ≡ true → IsName name
name-parts name h =
    let bytes : Bool = begins_by_letter name && list_all is_name_byte name in
    let (short, free) = and_parts (bytes && nat_le (length name) 40) (not (is_reserved_word name)) h in
    let (word, few) = and_parts bytes (nat_le (length name) 40) short in
    let (letter, all) = and_parts (begins_by_letter name) (list_all is_name_byte name) word in
    record { letter = letter; all = all; few = leb-true (length name) 40 few; free = not-true (is_reserved_word name) free }

pub name-bytes : (name : List ℕ) → is_name name ≡ true → list_all is_name_byte name ≡ true
name-bytes name h = (name-parts name h).all

name-from : (name : List ℕ) → begins_by_letter name ≡ true → list_all is_name_byte name ≡ true → length name ≤ 40 → is_reserved_word name ≡ false
    → is_name name ≡ true
name-from name letter all few free = rw (letter, all, le-leb (length name) 40 few, free) refl

-- a reserved word goes on to a name
reserved-more : list_all (λ w. is_name (w ++ 95 ∷ [])) reserved_words ≡ true
unfolding is_reserved_word reserved_words
reserved-more = refl

after-reserved : (name : List ℕ) → is_reserved_word name ≡ true → is_name (name ++ 95 ∷ []) ≡ true
unfolding is_reserved_word
after-reserved name is = found-passes (λ w. is_name (w ++ 95 ∷ [])) reserved_words name reserved-more is

name-empty : NameLines [] → ⊥
name-empty t = omega (arith, ap length t.2, length-append t.0 end_line)

module _ (name : List ℕ) (all : list_all is_name_byte name ≡ true) where
  -- no name and its LF is within bytes of names
  names-no_line : (p q : List ℕ) → name ≡ p ++ q → NameLines p → ⊥
  names-no_line p q e t =
      let parts : name ≡ t.0 ++ 10 ∷ q = e ∙ ap (λ (l : List ℕ). l ++ q) t.2 ∙ append_assoc t.0 end_line q in
      let whole : (list_all is_name_byte t.0 && (false && list_all is_name_byte q)) ≡ true =
      sym (list_all-append is_name_byte t.0 (10 ∷ q)) ∙ ap (list_all is_name_byte) (sym parts) ∙ all in
      true≢false (sym (and_parts (list_all is_name_byte t.0) false whole).1)

  abbrev NextByte : List ℕ → Type 0
  NextByte [] = Unit {0}
  NextByte (b ∷ more) = (is_name_byte b ≡ true → length name ≡ 40) × (b ≡ 10 → is_reserved_word name ≡ true)

  name-stops : (rest : List ℕ) → NextByte rest → Stops NameLines name rest
  name-stops [] next = λ t. names-no_line name [] (sym (append-nil name)) t
  name-stops (b ∷ rest) next = λ g. by g.0 g.1 (is_name_byte b) refl
    where
      by : (more : List ℕ) → NameLines ((name ++ b ∷ []) ++ more) → (t : Bool) → is_name_byte b ≡ t → ⊥
      by more t true is =
          let n = name-parts t.0 t.1 in
          let long : list_all is_name_byte (name ++ b ∷ []) ≡ true = list_all-append is_name_byte name (b ∷ []) ∙ rw (all, is) refl in
          let r = within-span is_name_byte (name ++ b ∷ []) t.0 10 [] more long refl t.2 in
          omega (arith, next.0 is, n.few, ap length r.1, length-append (name ++ b ∷ []) r.0, length-append name (b ∷ []))
      by more t false other =
          let n = name-parts t.0 t.1 in
          let s = same-span is_name_byte name t.0 b 10 more [] all n.all other refl (sym (append_assoc name (b ∷ []) more) ∙ t.2) in
          true≢false (sym (next.1 s.1) ∙ ap is_reserved_word s.0 ∙ n.free)

-- a front that begins with a letter can be made a name's line
line-after : (name : List ℕ) → begins_by_letter name ≡ true → list_all is_name_byte name ≡ true → length name ≤ 40 → Begins NameLines name
line-after name letter all few = by (is_reserved_word name) refl
  where
    by : (t : Bool) → is_reserved_word name ≡ t → Begins NameLines name
    by true reserved = (95 ∷ end_line, (name ++ 95 ∷ [], after-reserved name reserved, sym (append_assoc name (95 ∷ []) end_line)))
    by false free = (end_line, (name, name-from name letter all few free, refl))

begins-take : (bytes : List ℕ) (k : ℕ) → 0 < k → begins_by_letter bytes ≡ true → begins_by_letter (take k bytes) ≡ true
begins-take [] k some h = absurd (true≢false (sym h))
begins-take (b ∷ bytes) zero some h = absurd (omega (arith, some))
begins-take (b ∷ bytes) (suc k) some h = h

-- of bytes that begin with no letter nothing is a name's
plain-stops : (bytes : List ℕ) → begins_by_letter bytes ≡ false → Stops NameLines [] bytes
plain-stops [] plain = name-empty
plain-stops (b ∷ more) plain = λ g. by g.0 g.1.0 (name-parts g.1.0 g.1.1) g.1.2
  where
    by : (rest name : List ℕ) → IsName name → b ∷ rest ≡ name ++ end_line → ⊥
    by rest [] n e = true≢false (sym n.letter)
    by rest (c ∷ cs) n e = true≢false (sym n.letter ∙ ap is_letter (sym (head-same b c rest (cs ++ end_line) e)) ∙ plain)

plain-stuck : (bytes : List ℕ) → begins_by_letter bytes ≡ false → Stuck NameLines bytes (length bytes)
plain-stuck bytes plain =
    let begins = line-after (codes "x") refl refl (omega arith) in
    stuck-here NameLines bytes (codes "x" ++ begins.0, begins.1) name-empty (plain-stops bytes plain)

-- the front of a name is read, and what comes after it
module _ (bytes : List ℕ) where
  abbrev front_len : ℕ
  front_len = prefix_len is_name_byte (take 40 bytes)

  pub lettered : begins_by_letter bytes ≡ true → name_len bytes ≡ front_len
  lettered letter = rw letter refl

  unlettered : begins_by_letter bytes ≡ false → name_len bytes ≡ 0
  unlettered plain = rw plain refl

  pub name-within : name_len bytes ≤ length bytes
  name-within = by (begins_by_letter bytes) refl
    where
      by : (t : Bool) → begins_by_letter bytes ≡ t → name_len bytes ≤ length bytes
      by true letter = omega (arith, lettered letter, (front-is 40 bytes).within)
      by false plain = omega (arith, unlettered plain)

  ended-parts : can_end (take (name_len bytes) bytes) ≡ true → (0 < name_len bytes) × (is_reserved_word (take (name_len bytes) bytes) ≡ false)
  ended-parts is =
      let (some, free) = and_parts (not (length (take (name_len bytes) bytes) == 0)) (not (is_reserved_word (take (name_len bytes) bytes))) is in
      let size = length-take-le (name_len bytes) bytes name-within in
      (omega (arith, size, eqb-false _ 0 (not-true _ some)), not-true _ free)

  pub read-name : can_end (take (name_len bytes) bytes) ≡ true → is_name (take (name_len bytes) bytes) ≡ true
  read-name is = by (ended-parts is).0 (ended-parts is).1 (begins_by_letter bytes) refl
    where
      by : 0 < name_len bytes → is_reserved_word (take (name_len bytes) bytes) ≡ false → (t : Bool) → begins_by_letter bytes ≡ t → is_name (take (name_len bytes) bytes) ≡ true
      by some free false plain = absurd (omega (arith, some, unlettered plain))
      by some free true letter =
          let f = front-is 40 bytes in
          let same : take front_len bytes ≡ take (name_len bytes) bytes = ap (λ (k : ℕ). take k bytes) (sym (lettered letter)) in
          name-from (take (name_len bytes) bytes) (begins-take bytes (name_len bytes) some letter) (ap (list_all is_name_byte) (sym same) ∙ f.all)
          (omega (arith, f.few, ap length same, length-take-le front_len bytes f.within)) free

  letter-some : begins_by_letter bytes ≡ true → 0 < front_len
  letter-some letter = by bytes letter
    where
      by : (bytes : List ℕ) → begins_by_letter bytes ≡ true → 0 < prefix_len is_name_byte (take 40 bytes)
      by [] h = absurd (true≢false (sym h))
      by (b ∷ more) h = rw h (omega arith)

  not-ended : (name : List ℕ) → 0 < length name → can_end name ≡ false → is_reserved_word name ≡ true
  not-ended name some h = by (is_reserved_word name) refl
    where
      by : (t : Bool) → is_reserved_word name ≡ t → is_reserved_word name ≡ true
      by true is = is
      by false free = absurd (true≢false (sym (rw (ne_eqb (length name) 0 (λ e. omega (arith, e, some)), free) refl) ∙ h))

  -- how the bytes after the front go on
  abbrev pub NoName : List ℕ → Type 0
  NoName [] = Unit {0}
  NoName (b ∷ more) = b ≡ 10 → can_end (take (name_len bytes) bytes) ≡ false

  next-by : (rest : List ℕ) → drop front_len bytes ≡ rest → (all : list_all is_name_byte (take front_len bytes) ≡ true)
      → 0 < length (take front_len bytes) → name_len bytes ≡ front_len → NoName rest → NextByte (take front_len bytes) all rest
  next-by [] e all some same other = tt
  next-by (b ∷ more) e all some same other = (
    λ is. length-take-le front_len bytes (front-is 40 bytes).within ∙ (front-is 40 bytes).next b more e is,
    λ lf. not-ended (take front_len bytes) some (ap (λ (k : ℕ). can_end (take k bytes)) (sym same) ∙ other lf),
  )

  stuck-by : (rest : List ℕ) → drop (name_len bytes) bytes ≡ rest → NoName rest → Stuck NameLines bytes (length rest)
  stuck-by rest e other = by (begins_by_letter bytes) refl
    where
      by : (t : Bool) → begins_by_letter bytes ≡ t → Stuck NameLines bytes (length rest)
      by false plain = subst (λ (l : List ℕ). Stuck NameLines bytes (length l)) (ap (λ (k : ℕ). drop k bytes) (sym (unlettered plain)) ∙ e) (plain-stuck bytes plain)
      by true letter =
          let f = front-is 40 bytes in
          let some : 0 < front_len = letter-some letter in
          let name : List ℕ = take front_len bytes in
          let size : length name ≡ front_len = length-take-le front_len bytes f.within in
          let there : drop front_len bytes ≡ rest = ap (λ (k : ℕ). drop k bytes) (sym (lettered letter)) ∙ e in
          record {
            front = name;
            rest = rest;
            parts = sym (take-append-drop front_len bytes) ∙ ap (λ (l : List ℕ). name ++ l) there;
            count = refl;
            begins = line-after name (begins-take bytes front_len some letter) f.all (omega (arith, size, f.few));
            none = names-no_line name f.all;
            stops = name-stops name f.all rest (next-by rest there f.all (omega (arith, size, some)) (lettered letter) other);
          }

  pub name-ended : drop (name_len bytes) bytes ≡ [] → Stuck NameLines bytes 0
  name-ended e = stuck-by [] e tt

  pub name-stuck : (rest : List ℕ) (b : ℕ) (more : List ℕ) → drop (name_len bytes) bytes ≡ rest → rest ≡ b ∷ more
      → (b ≡ 10 → can_end (take (name_len bytes) bytes) ≡ false) → Stuck NameLines bytes (length rest)
  name-stuck rest b more there e other =
      subst (λ (l : List ℕ). Stuck NameLines bytes (length l)) (sym e) (stuck-by (b ∷ more) (there ∙ e) other)
