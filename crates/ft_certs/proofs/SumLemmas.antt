-- The lines of a sum.
use Rattle.std.proofs.Common.{◌≡◌, ◌∙◌, sym, ap, subst, refl, ℕ, ◌^◌, ◌<◌, ◌≤◌, Bool, true, false, ◌==◌, ◌||◌, if◌then◌else◌, ◌⊎◌, ⊎_elim, List, [], ◌∷◌, ◌++◌, append_assoc, arith}
use Rattle.std.specs.Prelude.{codes}
use Rattle.std.specs.List.{All}
use Rattle.std.proofs.lemmas.List.Elements.{All-cons}
use Rattle.std.specs.Fmt.{decimal}
use Rattle.std.proofs.lemmas.Bool.{eqb-true, true≢false}
use Rattle.ft_linear.specs.declared.lines.Line.{Line}
use Rattle.ft_linear.specs.declared.lines.Line.TheVariants.{Atom, Upper, Lower}
use Rattle.ft_certs.specs.meaning.Text.{IsLine, end_line, line_text, lines_text}
use Rattle.ft_certs.specs.building.Pieces.{Numbers, SumLines, Sums, is_one_of, line_by}
use Rattle.ft_certs.specs.building.Stuck.{Stuck}
use Rattle.ft_certs.proofs.StuckLemmas.{stuck-first, stuck-second}
use Rattle.ft_certs.proofs.NumberLemmas.{end-no_digit, numbers-free}
use Rattle.ft_certs.proofs.ListedLemmas.{AreFree, after, either-end, listed-first, listed-free, listed-push, listed-second}

abbrev kinds : List ℕ
kinds = codes "+-<>"

abbrev ends : List ℕ
ends = codes " \n"

-- the byte between the numbers of a line, and the numbers

abbrev kind_of : Line → ℕ
kind_of (Atom number value times) = if value then 43 else 45
kind_of (Upper unknown times) = 60
kind_of (Lower unknown times) = 62

abbrev times_of : Line → ℕ
times_of (Atom number value times) = times
times_of (Upper unknown times) = times
times_of (Lower unknown times) = times

abbrev number_of : Line → ℕ
number_of (Atom number value times) = number
number_of (Upper unknown times) = unknown
number_of (Lower unknown times) = unknown

record Parts (l : Line) : Type 0 where
  kind : is_one_of kinds (kind_of l) ≡ true
  text : line_text l ≡ decimal (times_of l) ++ kind_of l ∷ decimal (number_of l)
  same : l ≡ line_by (kind_of l) (times_of l) (number_of l)
  times : IsLine l → times_of l < 2 ^ 64
  number : IsLine l → number_of l < 2 ^ 32

parts : (l : Line) → Parts l
parts (Atom number true times) = record {
  kind = refl;
  text = append_assoc (decimal times) (43 ∷ []) (decimal number);
  same = refl;
  times = λ is. is.1;
  number = λ is. is.0;
}
parts (Atom number false times) = record {
  kind = refl;
  text = append_assoc (decimal times) (45 ∷ []) (decimal number);
  same = refl;
  times = λ is. is.1;
  number = λ is. is.0;
}
parts (Upper unknown times) = record {
  kind = refl;
  text = append_assoc (decimal times) (60 ∷ []) (decimal unknown);
  same = refl;
  times = λ is. is.1;
  number = λ is. is.0;
}
parts (Lower unknown times) = record {
  kind = refl;
  text = append_assoc (decimal times) (62 ∷ []) (decimal unknown);
  same = refl;
  times = λ is. is.1;
  number = λ is. is.0;
}

pub line-free : AreFree IsLine line_text 32
line-free x y e f u v is-x is-y one-e one-f q =
    let p = parts x in
    let r = parts y in
    let first = numbers-free (times_of x) (times_of y) (kind_of x) (kind_of y) (decimal (number_of x) ++ e ∷ u) (decimal (number_of y) ++ f ∷ v)
    (p.times is-x) (r.times is-y) (end-no_digit kinds (kind_of x) refl p.kind) (end-no_digit kinds (kind_of y) refl r.kind)
    (sym (append_assoc (decimal (times_of x)) (kind_of x ∷ decimal (number_of x)) (e ∷ u)) ∙ ap (λ (l : List ℕ). l ++ e ∷ u) (sym p.text)
    ∙ q ∙ ap (λ (l : List ℕ). l ++ f ∷ v) r.text ∙ append_assoc (decimal (times_of y)) (kind_of y ∷ decimal (number_of y)) (f ∷ v)) in
    let second = numbers-free (number_of x) (number_of y) e f u v (omega (arith, p.number is-x)) (omega (arith, r.number is-y))
    (end-no_digit ends e refl one-e) (end-no_digit ends f refl one-f) first.2 in (
      p.same ∙ ap (λ (k : ℕ). line_by k (times_of x) (number_of x)) first.1 ∙ ap (λ (t : ℕ). line_by (kind_of y) t (number_of x)) first.0
          ∙ ap (λ (n : ℕ). line_by (kind_of y) (times_of y) n) second.0 ∙ sym r.same,
      second.1,
      second.2,
    )

abbrev wide : ℕ
wide = 18446744073709551615

abbrev most : ℕ
most = 4294967295

kind-parts : (k t n : ℕ) → is_one_of kinds k ≡ true → line_text (line_by k t n) ≡ decimal t ++ k ∷ decimal n
kind-parts k t n one = by (43 == k) (45 == k) (60 == k) (62 == k) refl refl refl refl one
  where
    text-as : (m : ℕ) → m ≡ k → line_text (line_by m t n) ≡ decimal t ++ m ∷ decimal n → line_text (line_by k t n) ≡ decimal t ++ k ∷ decimal n
    text-as m e h = subst (λ (x : ℕ). line_text (line_by x t n) ≡ decimal t ++ x ∷ decimal n) e h

    by : (a b c d : Bool) → (43 == k) ≡ a → (45 == k) ≡ b → (60 == k) ≡ c → (62 == k) ≡ d → (a || (b || (c || (d || false)))) ≡ true
        → line_text (line_by k t n) ≡ decimal t ++ k ∷ decimal n
    by true b c d e _ _ _ h = text-as 43 (eqb-true 43 k e) (append_assoc (decimal t) (43 ∷ []) (decimal n))
    by false true c d _ e _ _ h = text-as 45 (eqb-true 45 k e) (append_assoc (decimal t) (45 ∷ []) (decimal n))
    by false false true d _ _ e _ h = text-as 60 (eqb-true 60 k e) (append_assoc (decimal t) (60 ∷ []) (decimal n))
    by false false false true _ _ _ e h = text-as 62 (eqb-true 62 k e) (append_assoc (decimal t) (62 ∷ []) (decimal n))
    by false false false false _ _ _ _ h = absurd (true≢false (sym h))

line-is : (k t n : ℕ) → t < 2 ^ 64 → n < 2 ^ 32 → IsLine (line_by k t n)
line-is k t n fits few = by (k == 43) (k == 45) (k == 60)
  where
    by : (a b c : Bool) → IsLine (if a then Atom n true t else if b then Atom n false t else if c then Upper n t else Lower n t)
    by true b c = (few, fits)
    by false true c = (few, fits)
    by false false true = (few, fits)
    by false false false = (few, fits)

pub line-read : (k t n e : ℕ) (bytes rest more : List ℕ) → is_one_of kinds k ≡ true → t ≤ wide → n ≤ most
    → bytes ≡ decimal t ++ k ∷ rest → rest ≡ decimal n ++ e ∷ more
    → IsLine (line_by k t n) × (bytes ≡ line_text (line_by k t n) ++ e ∷ more)
line-read k t n e bytes rest more one fits few first second = (
  line-is k t n (omega (arith, fits)) (omega (arith, few)),
  first ∙ ap (λ (l : List ℕ). decimal t ++ k ∷ l) second ∙ sym (append_assoc (decimal t) (k ∷ decimal n) (e ∷ more))
      ∙ ap (λ (l : List ℕ). l ++ e ∷ more) (sym (kind-parts k t n one)),
)

-- the two numbers of a line and what is after them
two-parts : (l : Line) (e : ℕ) (w : List ℕ) → w ≡ line_text l ++ e ∷ [] → w ≡ decimal (times_of l) ++ kind_of l ∷ (decimal (number_of l) ++ e ∷ [])
two-parts l e w is = is ∙ ap (λ (x : List ℕ). x ++ e ∷ []) (parts l).text ∙ append_assoc (decimal (times_of l)) (kind_of l ∷ decimal (number_of l)) (e ∷ [])

line-goes : (w : List ℕ) → Numbers 0 wide kinds w → (more : List ℕ) × SumLines (w ++ more)
line-goes w t = (
  decimal 0 ++ 10 ∷ [],
  (
    line_by t.1 t.0 0,
    10,
    line-is t.1 t.0 0 (omega (arith, t.3)) (omega arith),
    refl,
    ap (λ (l : List ℕ). l ++ (decimal 0 ++ 10 ∷ [])) t.5 ∙ append_assoc (decimal t.0) (t.1 ∷ []) (decimal 0 ++ 10 ∷ [])
        ∙ sym (append_assoc (decimal t.0) (t.1 ∷ decimal 0) (10 ∷ [])) ∙ ap (λ (l : List ℕ). l ++ 10 ∷ []) (sym (kind-parts t.1 t.0 0 t.4)),
  ),
)

line-begun : (w : List ℕ) → SumLines w → (p q : List ℕ) × (w ≡ p ++ q) × Numbers 0 wide kinds p
line-begun w t =
    let l : Line = t.0 in
    let r = parts l in (
      decimal (times_of l) ++ kind_of l ∷ [],
      decimal (number_of l) ++ t.1 ∷ [],
      two-parts l t.1 w t.4 ∙ sym (append_assoc (decimal (times_of l)) (kind_of l ∷ []) (decimal (number_of l) ++ t.1 ∷ [])),
      (times_of l, kind_of l, omega arith, omega (arith, r.times t.2), r.kind, refl),
    )

-- the reader of the first number is stuck
pub line-first : (bytes : List ℕ) (left : ℕ) → Stuck (Numbers 0 wide kinds) bytes left → Stuck SumLines bytes left
line-first bytes left s = stuck-first (Numbers 0 wide kinds) SumLines line-goes line-begun bytes left s

-- the reader of the second number is stuck
pub line-second : (bytes rest : List ℕ) (left : ℕ) (t k : ℕ) → t ≤ wide → is_one_of kinds k ≡ true → bytes ≡ decimal t ++ k ∷ rest
    → Stuck (Numbers 0 most ends) rest left → Stuck SumLines bytes left
line-second bytes rest left t k fits one front s =
    subst (λ (l : List ℕ). Stuck SumLines l left) (append_assoc (decimal t) (k ∷ []) rest ∙ sym front)
    (stuck-second (Numbers 0 most ends) SumLines (decimal t ++ k ∷ []) goes only rest left s)
  where
    goes : (w : List ℕ) → Numbers 0 most ends w → SumLines ((decimal t ++ k ∷ []) ++ w)
    goes w n = (
      line_by k t n.0,
      n.1,
      line-is k t n.0 (omega (arith, fits)) (omega (arith, n.3)),
      n.4,
      append_assoc (decimal t) (k ∷ []) w ∙ ap (λ (l : List ℕ). decimal t ++ k ∷ l) n.5 ∙ sym (append_assoc (decimal t) (k ∷ decimal n.0) (n.1 ∷ []))
          ∙ ap (λ (l : List ℕ). l ++ n.1 ∷ []) (sym (kind-parts k t n.0 one)),
    )

    only : (w x y : List ℕ) → SumLines w → w ++ x ≡ (decimal t ++ k ∷ []) ++ y → (q : List ℕ) × (w ≡ (decimal t ++ k ∷ []) ++ q) × Numbers 0 most ends q
    only w x y m e =
        let l : Line = m.0 in
        let r = parts l in
        let tail : List ℕ = decimal (number_of l) ++ m.1 ∷ [] in
        let whole : w ≡ decimal (times_of l) ++ kind_of l ∷ tail = two-parts l m.1 w m.4 in
        let f = numbers-free (times_of l) t (kind_of l) k (tail ++ x) y (r.times m.2) (omega (arith, fits))
        (end-no_digit kinds (kind_of l) refl r.kind) (end-no_digit kinds k refl one)
        (sym (append_assoc (decimal (times_of l)) (kind_of l ∷ tail) x) ∙ ap (λ (z : List ℕ). z ++ x) (sym whole) ∙ e ∙ append_assoc (decimal t) (k ∷ []) y) in (
          tail,
          whole ∙ ap (λ (z : ℕ). decimal z ++ kind_of l ∷ tail) f.0 ∙ ap (λ (z : ℕ). decimal t ++ z ∷ tail) f.1 ∙ sym (append_assoc (decimal t) (k ∷ []) tail),
          (number_of l, m.1, omega arith, omega (arith, r.number m.2), m.3, refl),
        )

abbrev zero_line : Line
zero_line = Atom 0 true 0

pub sums-first : (bytes : List ℕ) (left : ℕ) → Stuck SumLines bytes left → Stuck (Sums 32) bytes left
sums-first bytes left s = listed-first IsLine line_text 32 refl (λ e. omega (arith, e)) zero_line (omega arith, omega arith) line-free bytes left s

pub sums-second : (l : Line) (e : ℕ) (bytes rest : List ℕ) (left : ℕ) → IsLine l → is_one_of ends e ≡ true → bytes ≡ line_text l ++ e ∷ rest
    → Stuck (Sums e) rest left → Stuck (Sums 32) bytes left
sums-second l e bytes rest left is one front s =
    listed-second IsLine line_text 32 refl (λ e. omega (arith, e)) zero_line (omega arith, omega arith) line-free l e bytes rest left is one front s

pub sums-push : (ls : List Line) (l : Line) (e : ℕ) (front rest more : List ℕ) → front ≡ lines_text ls ++ 32 ∷ rest → rest ≡ line_text l ++ e ∷ more
    → front ≡ lines_text (ls ++ l ∷ []) ++ e ∷ more
sums-push ls l e front rest more before here =
    listed-push IsLine line_text 32 refl (λ e. omega (arith, e)) zero_line (omega arith, omega arith) line-free ls l e front rest more before here

-- what lines and LF begin with
pub sums-begin-with : (ls : List Line) (u : List ℕ) → (e : ℕ) × (q : List ℕ) × (is_one_of ends e ≡ true) × (lines_text ls ++ 10 ∷ u ≡ e ∷ q)
sums-begin-with ls u =
    let a = after IsLine line_text 32 refl (λ e. omega (arith, e)) zero_line (omega arith, omega arith) line-free ls u in
    (a.end, a.rest, a.one, a.parts)

pub sums-begin : (ls : List Line) → (e : ℕ) × (q : List ℕ) × (is_one_of ends e ≡ true) × (lines_text ls ++ end_line ≡ e ∷ q)
sums-begin ls = sums-begin-with ls []

pub sums-free : (ls ms : List Line) (u v : List ℕ) → All IsLine ls → All IsLine ms → lines_text ls ++ 10 ∷ u ≡ lines_text ms ++ 10 ∷ v → (ls ≡ ms) × (u ≡ v)
sums-free ls ms u v all-l all-m e =
    listed-free IsLine line_text 32 refl (λ e. omega (arith, e)) zero_line (omega arith, omega arith) line-free ls ms u v all-l all-m e

pub ends-cases : (e : ℕ) → is_one_of ends e ≡ true → (32 ≡ e) ⊎ (10 ≡ e)
ends-cases e one = either-end IsLine line_text 32 refl (λ e. omega (arith, e)) zero_line (omega arith, omega arith) line-free e one

-- some lines after a space or LF
pub sums-some : (e : ℕ) → is_one_of ends e ≡ true → (w : List ℕ) × Sums e w
sums-some e one = ⊎_elim
    (λ space. ((line_text zero_line ++ []) ++ end_line, (zero_line ∷ [], all-one zero_line (omega arith, omega arith), ap (λ (n : ℕ). n ∷ ((line_text zero_line ++ []) ++ end_line)) (sym space))))
    (λ lf. ([], ([], all-none, ap (λ (n : ℕ). n ∷ []) (sym lf))))
    (ends-cases e one)
  where
    all-none : All IsLine []
    all-none k d l = absurd (omega (arith, l))

    all-one : (l : Line) → IsLine l → All IsLine (l ∷ [])
    all-one l is = All-cons IsLine l [] is all-none
