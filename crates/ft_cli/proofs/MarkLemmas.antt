-- The text of a refutation: its mark comes after three lines, none of which is the mark, and what comes after it spells the list.
use Rattle.std.proofs.Common.{◌≡◌, ◌∙◌, inl, inr, sym, ap, subst, refl, ℕ, zero, suc, ◌<◌, ◌≤◌, Bool, true, false, true≢false, not, ◌&&◌}
use Rattle.std.proofs.Common.{◌||◌, List, []}
use Rattle.std.proofs.Common.{◌∷◌, ◌++◌, drop, length, Option, Some, codes, arith}
use Rattle.std.specs.Prelude.{◌==◌, nat_le, slice_index_or}
use Rattle.std.specs.Fmt.{decimal, digits}
use Rattle.std.specs.List.{last_or, list_all}
use Rattle.std.proofs.lemmas.Bool.{and_parts, cases_Bool}
use Rattle.std.proofs.lemmas.Bool.Decides.{Decides-eqb}
use Rattle.std.proofs.lemmas.List.{append_assoc}
use Rattle.std.proofs.lemmas.Option.{same_Some}
use Rattle.ft_core.specs.declared.tables.Tables.{Tables}
use Rattle.ft_core.specs.checked.Checked.{IsChecked}
use Rattle.ft_core.specs.checked.Names.{is_lettered, is_mark, is_set_name_byte}
use Rattle.ft_base.specs.Digits.{is_digit}
use Rattle.ft_base.specs.Names.{is_letter}
use Rattle.ft_mean.specs.meaning.Reading.{Scans}
use Rattle.ft_trace.specs.meaning.Spelling.{SpellsHistory}
use Rattle.ft_trace.specs.meaning.Writing.{trace_text}
use Rattle.ft_stream.specs.meaning.Mark.{after_mark, line_end, mark}
use Rattle.ft_unroll.specs.meaning.Found.{IsShortest}
use Rattle.ft_report.specs.meaning.Report.{text_of}
use Rattle.ft_report.specs.meaning.Words.{line}
use Rattle.ft_report.specs.declared.report.Report.TheVariants as report
use Rattle.ft_cli.specs.stages.Laws.{Laws}

-- no line of the text begins as the mark does; this byte stands before the text
abbrev calm : ℕ → List ℕ → Bool
calm before [] = true
calm before (byte ∷ rest) = not ((byte == 116) && (before == 10)) && calm byte rest

calm-join : (before : ℕ) (xs ys : List ℕ) → calm before xs ≡ true → ((last : ℕ) → calm last ys ≡ true) → calm before (xs ++ ys) ≡ true
calm-join before [] ys first second = second before
calm-join before (x ∷ xs) ys first second =
    let parts = and_parts (not ((x == 116) && (before == 10))) (calm x xs) first in
    ap (λ b. b && calm x (xs ++ ys)) parts.0 ∙ calm-join x xs ys parts.1 second

abbrev is_other : ℕ → ℕ → Bool
is_other byte x = not (x == byte)

-- a text with no LF after something that isn't one
calm-inside : (before : ℕ) (xs : List ℕ) → is_other 10 before ≡ true → list_all (is_other 10) xs ≡ true → calm before xs ≡ true
calm-inside before [] apart none = refl
calm-inside before (x ∷ xs) apart none =
    let parts = and_parts (is_other 10 x) (list_all (is_other 10) xs) none in
    first (x == 116) (before == 10) (calm x xs) apart (calm-inside x xs parts.0 parts.1)
  where
    first : (a b c : Bool) → not b ≡ true → c ≡ true → (not (a && b) && c) ≡ true
    first true true c none rest = none
    first true false c none rest = rest
    first false b c none rest = rest

-- and one with no `t`
calm-without : (xs : List ℕ) → list_all (is_other 116) xs ≡ true → (before : ℕ) → calm before xs ≡ true
calm-without [] none before = refl
calm-without (x ∷ xs) none before =
    let parts = and_parts (is_other 116 x) (list_all (is_other 116) xs) none in
    first (x == 116) (before == 10) (calm x xs) parts.0 (calm-without xs parts.1 x)
  where
    first : (a b c : Bool) → not a ≡ true → c ≡ true → (not (a && b) && c) ≡ true
    first true b c none rest = absurd (true≢false (sym none))
    first false b c none rest = rest

-- the mark stands no earlier than after such a text
after-calm : (last : ℕ) (before after front rest : List ℕ) → calm last before ≡ true → last_or (Some last) front ≡ Some line_end
    → before ++ after ≡ front ++ (mark ++ rest) → length before ≤ length front
after-calm last [] after front rest quiet ends same = omega arith
after-calm last (x ∷ before) after [] rest quiet ends same =
    let byte : x ≡ 116 = ap (λ l. slice_index_or l 0 0) same in
    let found = subst (λ a. calm a (x ∷ before) ≡ true) (same_Some last line_end ends) quiet in
    absurd (true≢false (sym (subst (λ b. calm 10 (b ∷ before) ≡ true) byte found)))
after-calm last (x ∷ before) after (y ∷ front) rest quiet ends same =
    let byte : y ≡ x = sym (ap (λ l. slice_index_or l 0 0) same) in
    let parts = and_parts (not ((x == 116) && (last == 10))) (calm x before) quiet in
    let shorter = after-calm x before after front rest parts.1 (subst (λ b. last_or (Some b) front ≡ Some line_end) byte ends)
    (ap (λ l. drop 1 l) same) in
    omega (arith, shorter)

-- no byte of a name is LF
named-byte : (byte : ℕ) → is_set_name_byte byte ≡ true → is_other 10 byte ≡ true
named-byte byte is = elim (cases_Bool (byte == 10)) [
  | inl lf ↦ absurd (true≢false (sym (subst (λ b. is_set_name_byte b ≡ true) ((Decides-eqb byte 10).0 lf) is)))
  | inr other ↦ ap not other
]

named-bytes : (xs : List ℕ) → list_all is_set_name_byte xs ≡ true → list_all (is_other 10) xs ≡ true
named-bytes [] is = refl
named-bytes (x ∷ xs) is =
    let parts = and_parts (is_set_name_byte x) (list_all is_set_name_byte xs) is in
    ap (λ b. b && list_all (is_other 10) xs) (named-byte x parts.0) ∙ named-bytes xs parts.1

lettered-bytes : (xs : List ℕ) → is_lettered xs ≡ true → list_all (is_other 10) xs ≡ true
lettered-bytes [] is = refl
lettered-bytes (x ∷ xs) is =
    let parts = and_parts (is_letter x) (list_all is_set_name_byte xs) is in
    named-bytes (x ∷ xs) (ap (λ b. (b || is_digit x || is_mark x) && list_all is_set_name_byte xs) parts.0 ∙ parts.1)

set-name : (S : Tables) → is_lettered S.name ≡ true
unfolding IsChecked
set-name S = (and_parts (is_lettered S.name) (nat_le (length S.name) 50) S.checked.names.set).0

low-depth : (S : Tables) → S.depth ≤ 8
unfolding IsChecked
low-depth S = S.checked.low_depth

small-decimal : (n : ℕ) → n < 8 → list_all (is_other 116) (decimal n) ≡ true
unfolding digits
small-decimal zero less = refl
small-decimal (suc zero) less = refl
small-decimal (suc (suc zero)) less = refl
small-decimal (suc (suc (suc zero))) less = refl
small-decimal (suc (suc (suc (suc zero)))) less = refl
small-decimal (suc (suc (suc (suc (suc zero))))) less = refl
small-decimal (suc (suc (suc (suc (suc (suc zero)))))) less = refl
small-decimal (suc (suc (suc (suc (suc (suc (suc zero))))))) less = refl
small-decimal (suc (suc (suc (suc (suc (suc (suc (suc n)))))))) less = absurd (omega (arith, less))

module _ (laws : Laws) (S : Tables) (list : Scans) (scan : ℕ) (short : IsShortest S list scan) where
  abbrev second : List ℕ
  second = line (codes "set " ++ S.name ++ codes " first difference at scan " ++ decimal scan)

  abbrev lines : List ℕ
  lines = line (codes "refuted") ++ second ++ line (codes "replay: ftv replay <set file> <this report>")

  second-calm : (last : ℕ) → calm last second ≡ true
  second-calm last =
      calm-join last (codes "set " ++ S.name ++ codes " first difference at scan " ++ decimal scan) (10 ∷ [])
      (calm-join last (codes "set " ++ S.name ++ codes " first difference at scan ") (decimal scan)
      (calm-join last (codes "set " ++ S.name) (codes " first difference at scan ")
      (calm-inside 32 S.name refl (lettered-bytes S.name (set-name S)))
      (λ q. refl))
      (calm-without (decimal scan) (small-decimal scan (omega (arith, short.within, low-depth S)))))
      (λ q. refl)

  lines-calm : calm 10 lines ≡ true
  lines-calm =
      calm-join 10 (line (codes "refuted") ++ second) (line (codes "replay: ftv replay <set file> <this report>"))
      (calm-join 10 (line (codes "refuted")) second refl second-calm)
      (λ q. refl)

  cut : text_of (report.Refuted S list scan) ≡ lines ++ (mark ++ trace_text S list)
  cut = append_assoc lines mark (trace_text S list)

  -- each line ends
  ends : last_or (Some line_end) lines ≡ Some line_end
  ends = last-joined (Some line_end) (line (codes "refuted") ++ second) (codes "replay: ftv replay <set file> <this report>") 10
    where
      last-joined : (o : Option ℕ) (xs ys : List ℕ) (y : ℕ) → last_or o (xs ++ (ys ++ y ∷ [])) ≡ Some y
      last-joined o [] [] y = refl
      last-joined o [] (z ∷ ys) y = last-joined (Some z) [] ys y
      last-joined o (x ∷ xs) ys y = last-joined (Some x) xs ys y

  pub after-text : after_mark (text_of (report.Refuted S list scan)) ≡ trace_text S list
  after-text = laws.mark (text_of (report.Refuted S list scan)) lines (trace_text S list) (record { cut = cut; whole_lines = ends })
      (λ front rest other. after-calm 10 lines (mark ++ trace_text S list) front rest lines-calm other.whole_lines (sym cut ∙ other.cut))

  -- the text of a refutation spells its list
  pub text-spells : SpellsHistory S (after_mark (text_of (report.Refuted S list scan))) list
  text-spells = subst (λ bytes. SpellsHistory S bytes list) (sym after-text)
      (laws.written S list short.differs.runs.allowed.monitored_list.values short.differs.runs.allowed.monitored_list.nonempty
      (omega (arith, short.last, short.within, low-depth S)))
