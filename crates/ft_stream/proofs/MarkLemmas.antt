-- What follows the first mark of a text.
use Rattle.std.proofs.Common.{◌≡◌, ◌∙◌, sym, ap, refl, ℕ, ◌+◌, ◌≤◌, Bool, true, false, List, [], ◌∷◌, ◌++◌, length, take, drop}
use Rattle.std.proofs.Common.{arith, append_assoc, Some, None, Option, ⊎_elim, take-append-drop}
use Rattle.std.specs.Prelude.{◌==◌, ◌≢◌}
use Rattle.std.specs.List.{last_or, starts_with}
use Rattle.std.specs.Option.{unwrap_or}
use Rattle.std.proofs.Math.Seq.{drop-append_seam}
use Rattle.std.proofs.lemmas.Bool.{cases_lt, cases_Bool, cond-true, cond-false}
use Rattle.std.proofs.lemmas.Bool.Decides.{Decides-eqb}
use Rattle.std.proofs.lemmas.List.{length-append, length-take-le}
use Rattle.std.proofs.lemmas.Option.{same_Some}
use Rattle.std.proofs.lemmas.Slice.Eq.{starts_is}
use Rattle.memchr.specs.Find.{FindsNeedle, OccursAt}
use Rattle.memchr.proofs.lemmas.MatchLemmas.{OccursAt-from_part, OccursAt-split}
use Rattle.ft_stream.specs.laws.Laws.{FirstMarkIsSkipped, NoMarkIsWhole}
use Rattle.ft_stream.specs.meaning.Mark.{HasMark, after_first, after_mark, line_end, mark}

-- what is looked for in a text that begins as after an LF
abbrev pub sought : List ℕ
sought = line_end ∷ mark

abbrev begins : List ℕ → Bool
begins text = starts_with (λ a b. a == b) text sought

-- it stands in the text, after these bytes
abbrev pub Cut : (text front after : List ℕ) → Type 0
Cut text front after = text ≡ front ++ (sought ++ after)

begun : (text : List ℕ) → begins text ≡ true → Cut text [] (drop 8 text)
begun text = (starts_is Decides-eqb text sought (begins text) refl).0

not-begun : (text : List ℕ) → ((after : List ℕ) → Cut text [] after → ⊥) → begins text ≡ false
not-begun text never = ⊎_elim (λ is. absurd (never (drop 8 text) (begun text is))) (λ other. other) (cases_Bool (begins text))

-- after the first place where it stands comes what is told
found : (text front after : List ℕ) → Cut text front after → ((f a : List ℕ) → Cut text f a → length front ≤ length f)
    → after_first text ≡ Some after
found [] [] after e least = cc e
found [] (x ∷ front) after e least = cc e
found (byte ∷ rest) [] after e least =
    let is = (starts_is Decides-eqb (byte ∷ rest) sought (begins (byte ∷ rest)) refl).1 after e in
    let tail : rest ≡ mark ++ after = cc e in
    cond-true (begins (byte ∷ rest)) _ _ is ∙ ap (λ l. Some (drop 7 l)) tail
found (byte ∷ rest) (x ∷ front) after e least =
    let later = not-begun (byte ∷ rest) (λ a cut. absurd (omega (arith, least [] a cut))) in
    let tail : rest ≡ front ++ (sought ++ after) = cc e in
    cond-false (begins (byte ∷ rest)) _ _ later
    ∙ found rest front after tail (λ f a cut. let more = least (byte ∷ f) a (ap (λ l. byte ∷ l) cut) in omega (arith, more))

none : (text : List ℕ) → ((f a : List ℕ) → Cut text f a → ⊥) → after_first text ≡ None
none [] never = refl
none (byte ∷ rest) never =
    cond-false (begins (byte ∷ rest)) _ _ (not-begun (byte ∷ rest) (λ a cut. never [] a cut))
    ∙ none rest (λ f a cut. never (byte ∷ f) a (ap (λ l. byte ∷ l) cut))

-- a list that ends with an item ends with it
ends : (y z : ℕ) (xs : List ℕ) → last_or (Some y) xs ≡ Some z → (front : List ℕ) × (y ∷ xs ≡ front ++ z ∷ [])
ends y z [] e = ([], ap (λ w. w ∷ []) (same_Some y z e))
ends y z (x ∷ xs) e = let more = ends x z xs e in (y ∷ more.0, ap (λ l. y ∷ l) more.1)

pushed : (o : Option ℕ) (xs : List ℕ) (x : ℕ) → last_or o (xs ++ x ∷ []) ≡ Some x
pushed o [] x = refl
pushed o (y ∷ xs) x = pushed (Some y) xs x

-- a line that is the mark stands after as many bytes as what is looked for, one LF before the text
to-cut : (bytes before after : List ℕ) → HasMark bytes before after
    → (front : List ℕ) × (Cut (line_end ∷ bytes) front after) × (length front ≡ length before)
to-cut bytes before after has =
    let last = ends line_end line_end before has.whole_lines in (
      last.0,
      ap (λ l. line_end ∷ l) has.cut ∙ ap (λ l. l ++ (mark ++ after)) last.1 ∙ append_assoc last.0 (line_end ∷ []) (mark ++ after),
      (let long = ap length last.1 in omega (arith, long, length-append last.0 (line_end ∷ []))),
    )

to-mark : (bytes front after : List ℕ) → Cut (line_end ∷ bytes) front after
    → (before : List ℕ) × HasMark bytes before after × (length front ≡ length before)
to-mark bytes [] after e = let tail : bytes ≡ mark ++ after = cc e in ([], record { cut = tail; whole_lines = refl }, refl)
to-mark bytes (x ∷ front) after e =
    let tail : bytes ≡ front ++ (sought ++ after) = cc e in (
      front ++ line_end ∷ [],
      record {
        cut = tail ∙ sym (append_assoc front (line_end ∷ []) (mark ++ after));
        whole_lines = pushed (Some line_end) front line_end;
      },
      omega (arith, length-append front (line_end ∷ [])),
    )

pub first-mark : FirstMarkIsSkipped
first-mark bytes before after has least =
    let cut = to-cut bytes before after has in
    ap (λ o. unwrap_or o bytes) (found (line_end ∷ bytes) cut.0 after cut.1 (λ f a other.
    let its = to-mark bytes f a other in
    let no_less = least its.0 a its.1 in omega (arith, no_less, cut.2, its.2)))

pub no-mark : NoMarkIsWhole
no-mark bytes never =
    ap (λ o. unwrap_or o bytes) (none (line_end ∷ bytes) (λ f a cut. let its = to-mark bytes f a cut in never its.0 a its.1))

-- where the text begins with the mark
pub at-once : (bytes after : List ℕ) → bytes ≡ mark ++ after → after ≡ after_mark bytes
at-once bytes after e = sym (first-mark bytes [] after (record { cut = e; whole_lines = refl }) (λ f a other. omega arith))

module _ (bytes : List ℕ) (later : (rest : List ℕ) → bytes ≢ mark ++ rest) where
  -- else what is looked for stands in the text itself
  goes-on : after_mark bytes ≡ unwrap_or (after_first bytes) bytes
  goes-on = ap (λ o. unwrap_or o bytes) (cond-false (begins (line_end ∷ bytes)) _ _
      (not-begun (line_end ∷ bytes) (λ a cut. let tail : bytes ≡ mark ++ a = cc cut in later a tail)))

  occurs : (f a : List ℕ) → Cut bytes f a → OccursAt bytes sought (length f)
  occurs f a cut = OccursAt-from_part bytes sought (length f)
      (let long = ap length cut in omega (arith, long, length-append f (sought ++ a)))
      (ap (λ l. take 8 (drop (length f) l)) cut ∙ ap (λ l. take 8 l) (drop-append_seam f (sought ++ a)))

  pub at-place : (k : ℕ) → FindsNeedle bytes sought 0 (Some k) → drop (k + 8) bytes ≡ after_mark bytes
  at-place k finds = sym (goes-on ∙ ap (λ o. unwrap_or o bytes) (found bytes (take k bytes) (drop (k + 8) bytes)
      (sym (take-append-drop k bytes) ∙ ap (λ l. take k bytes ++ l) (OccursAt-split bytes sought k finds.1))
      (λ f a cut. ⊎_elim
      (λ less. absurd (finds.0.before (length f) (omega arith) less (occurs f a cut)))
      (λ no_less. omega (arith, no_less, length-take-le k bytes (omega (arith, finds.1.fits))))
      (cases_lt (length f) k))))

  pub nowhere : FindsNeedle bytes sought 0 None → bytes ≡ after_mark bytes
  nowhere finds = sym (goes-on ∙ ap (λ o. unwrap_or o bytes) (none bytes (λ f a cut.
      finds (length f) (omega arith) (let fits = (occurs f a cut).fits in omega (arith, fits)) (occurs f a cut))))
