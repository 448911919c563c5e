-- The lines of nodes.
use Rattle.std.proofs.Common.{◌≡◌, ◌∙◌, sym, ap, subst, refl, ℕ, ◌^◌, ◌<◌, ℤ, pos, w64, Bool, true, false, ◌==◌, ◌||◌, get_or, List, [], ◌∷◌, ◌++◌, length, append_assoc, append-nil, arith}
use Rattle.std.specs.Prelude.{codes}
use Rattle.std.specs.Prelude.{FitsSigned}
use Rattle.std.specs.List.{All}
use Rattle.std.specs.Fmt.{decimal, signed_decimal}
use Rattle.std.proofs.lemmas.Bool.{eqb-true, ne_eqb, true≢false}
use Rattle.std.proofs.lemmas.Int.{fits_signed_from_abs}
use Rattle.std.proofs.lemmas.List.{length-append}
use Rattle.ft_linear.specs.declared.lines.Line.{Line}
use Rattle.ft_cert.specs.declared.node.CertNode.{CertNode}
use Rattle.ft_cert.specs.declared.node.CertNode.TheVariants as node
use Rattle.ft_certs.specs.meaning.Fault.{Stops}
use Rattle.ft_certs.specs.meaning.Text.{IsLine, IsNode, IsShort, end_line, lines_text, node_text}
use Rattle.ft_certs.specs.building.Pieces.{Ends, Fields, NodeLines, NodeRests, Numbers, Signeds, Sums, Word, is_one_of}
use Rattle.ft_certs.specs.building.Stuck.{Stuck}
use Rattle.ft_certs.proofs.StuckLemmas.{head-same, stuck-first, stuck-here, stuck-second, tail-same}
use Rattle.ft_certs.proofs.NumberLemmas.{end-no_digit, first-end, numbers-free}
use Rattle.ft_certs.proofs.SignedLemmas.{signeds-free}
use Rattle.ft_certs.proofs.SumLemmas.{sums-begin, sums-begin-with, sums-free, sums-some}

-- the letters

abbrev letter : CertNode → ℕ
letter node.F = 70
letter node.L = 76
letter (node.S lines) = 83
letter (node.R u v) = 82
letter (node.C a) = 67
letter (node.T u lines) = 84

is-F : (n : CertNode) → letter n ≡ 70 → n ≡ node.F
is-F node.F e = refl
is-F node.L e = absurd (omega (arith, e))
is-F (node.S lines) e = absurd (omega (arith, e))
is-F (node.R u v) e = absurd (omega (arith, e))
is-F (node.C a) e = absurd (omega (arith, e))
is-F (node.T u lines) e = absurd (omega (arith, e))

is-L : (n : CertNode) → letter n ≡ 76 → n ≡ node.L
is-L node.F e = absurd (omega (arith, e))
is-L node.L e = refl
is-L (node.S lines) e = absurd (omega (arith, e))
is-L (node.R u v) e = absurd (omega (arith, e))
is-L (node.C a) e = absurd (omega (arith, e))
is-L (node.T u lines) e = absurd (omega (arith, e))

is-S : (n : CertNode) → letter n ≡ 83 → (lines : List Line) × (n ≡ node.S lines)
is-S node.F e = absurd (omega (arith, e))
is-S node.L e = absurd (omega (arith, e))
is-S (node.S lines) e = (lines, refl)
is-S (node.R u v) e = absurd (omega (arith, e))
is-S (node.C a) e = absurd (omega (arith, e))
is-S (node.T u lines) e = absurd (omega (arith, e))

is-R : (n : CertNode) → letter n ≡ 82 → (u : ℕ) × (v : ℤ) × (n ≡ node.R u v)
is-R node.F e = absurd (omega (arith, e))
is-R node.L e = absurd (omega (arith, e))
is-R (node.S lines) e = absurd (omega (arith, e))
is-R (node.R u v) e = (u, v, refl)
is-R (node.C a) e = absurd (omega (arith, e))
is-R (node.T u lines) e = absurd (omega (arith, e))

is-C : (n : CertNode) → letter n ≡ 67 → (a : ℕ) × (n ≡ node.C a)
is-C node.F e = absurd (omega (arith, e))
is-C node.L e = absurd (omega (arith, e))
is-C (node.S lines) e = absurd (omega (arith, e))
is-C (node.R u v) e = absurd (omega (arith, e))
is-C (node.C a) e = (a, refl)
is-C (node.T u lines) e = absurd (omega (arith, e))

is-T : (n : CertNode) → letter n ≡ 84 → (u : ℕ) × (lines : List Line) × (n ≡ node.T u lines)
is-T node.F e = absurd (omega (arith, e))
is-T node.L e = absurd (omega (arith, e))
is-T (node.S lines) e = absurd (omega (arith, e))
is-T (node.R u v) e = absurd (omega (arith, e))
is-T (node.C a) e = absurd (omega (arith, e))
is-T (node.T u lines) e = (u, lines, refl)

abbrev after_letter : CertNode → List ℕ
after_letter node.F = []
after_letter node.L = []
after_letter (node.S lines) = lines_text lines
after_letter (node.R u v) = 32 ∷ ((decimal u ++ 32 ∷ []) ++ signed_decimal v)
after_letter (node.C a) = 32 ∷ decimal a
after_letter (node.T u lines) = 32 ∷ (decimal u ++ lines_text lines)

text-parts : (n : CertNode) → node_text n ≡ letter n ∷ after_letter n
text-parts node.F = refl
text-parts node.L = refl
text-parts (node.S lines) = refl
text-parts (node.R u v) = refl
text-parts (node.C a) = refl
text-parts (node.T u lines) = refl

record RestOf (c : ℕ) (w : List ℕ) : Type 0 where
  n : CertNode
  is : IsNode n
  first : letter n ≡ c
  rest : w ≡ after_letter n ++ end_line

rest-of : (c : ℕ) (w : List ℕ) → NodeRests c w → RestOf c w
rest-of c w t =
    let whole : c ∷ w ≡ letter t.0 ∷ (after_letter t.0 ++ end_line) = t.2 ∙ ap (λ (l : List ℕ). l ++ end_line) (text-parts t.0) in
    record {
      n = t.0;
      is = t.1;
      first = sym (head-same c (letter t.0) w (after_letter t.0 ++ end_line) whole);
      rest = tail-same c (letter t.0) w (after_letter t.0 ++ end_line) whole;
    }

rests-empty : (c : ℕ) → NodeRests c [] → ⊥
rests-empty c t =
    let r = rest-of c [] t in
    omega (arith, ap length r.rest, length-append (after_letter r.n) end_line)

pub one-only : (c e : ℕ) → is_one_of (c ∷ []) e ≡ true → c ≡ e
one-only c e one = by (c == e) refl one
  where
    by : (t : Bool) → (c == e) ≡ t → (t || false) ≡ true → c ≡ e
    by true is h = eqb-true c e is
    by false is h = absurd (true≢false (sym h))

abbrev most : ℕ
most = 4294967295

abbrev ends : List ℕ
ends = codes " \n"

-- a number after a space

fields-first-goes : (marks w : List ℕ) → 0 < length marks → Word (32 ∷ []) w → (more : List ℕ) × Fields marks (w ++ more)
fields-first-goes marks w some t =
    (decimal 0 ++ get_or marks 0 0 ∷ [], (0, get_or marks 0 0, omega arith, first-end marks some, ap (λ (l : List ℕ). l ++ (decimal 0 ++ get_or marks 0 0 ∷ [])) t))

-- the space is missing
pub fields-first : (marks bytes : List ℕ) (left : ℕ) → 0 < length marks → Stuck (Word (32 ∷ [])) bytes left → Stuck (Fields marks) bytes left
fields-first marks bytes left some s =
    stuck-first (Word (32 ∷ [])) (Fields marks) (λ w t. fields-first-goes marks w some t) (λ w t. (32 ∷ [], decimal t.0 ++ t.1 ∷ [], t.4, refl)) bytes left s

-- the number is stuck
pub fields-second : (marks bytes rest : List ℕ) (left : ℕ) → bytes ≡ (32 ∷ []) ++ rest → Stuck (Numbers 0 most marks) rest left → Stuck (Fields marks) bytes left
fields-second marks bytes rest left e s =
    subst (λ (l : List ℕ). Stuck (Fields marks) l left) (sym e)
    (stuck-second (Numbers 0 most marks) (Fields marks) (32 ∷ []) (λ w t. (t.0, t.1, omega (arith, t.3), t.4, ap (λ (l : List ℕ). 32 ∷ l) t.5)) only rest left s)
  where
    only : (w x y : List ℕ) → Fields marks w → w ++ x ≡ (32 ∷ []) ++ y → (q : List ℕ) × (w ≡ (32 ∷ []) ++ q) × Numbers 0 most marks q
    only w x y t same = (decimal t.0 ++ t.1 ∷ [], t.4, (t.0, t.1, omega arith, omega (arith, t.2), t.3, refl))

-- nodes without parts

pub never-stuck : (bytes : List ℕ) (left : ℕ) → Stuck (Word end_line) bytes left → Stuck (NodeRests 70) bytes left
never-stuck bytes left s =
    stuck-first (Word end_line) (NodeRests 70) (λ w t. ([], (node.F, tt, ap (λ (l : List ℕ). 70 ∷ l) (append-nil w ∙ t)))) begun bytes left s
  where
    begun : (w : List ℕ) → NodeRests 70 w → (p q : List ℕ) × (w ≡ p ++ q) × Word end_line p
    begun w t = let r = rest-of 70 w t in (end_line, [], r.rest ∙ ap (λ (n : CertNode). after_letter n ++ end_line) (is-F r.n r.first), refl)

pub unsolved-stuck : (bytes : List ℕ) (left : ℕ) → Stuck (Word end_line) bytes left → Stuck (NodeRests 76) bytes left
unsolved-stuck bytes left s =
    stuck-first (Word end_line) (NodeRests 76) (λ w t. ([], (node.L, tt, ap (λ (l : List ℕ). 76 ∷ l) (append-nil w ∙ t)))) begun bytes left s
  where
    begun : (w : List ℕ) → NodeRests 76 w → (p q : List ℕ) × (w ≡ p ++ q) × Word end_line p
    begun w t = let r = rest-of 76 w t in (end_line, [], r.rest ∙ ap (λ (n : CertNode). after_letter n ++ end_line) (is-L r.n r.first), refl)

-- sums

record SumRest (w : List ℕ) : Type 0 where
  lines : List Line
  all : All IsLine lines
  end : ℕ
  rest : List ℕ
  one : is_one_of ends end ≡ true
  parts : w ≡ end ∷ rest
  sums : Sums end rest

sum-rest : (w : List ℕ) → NodeRests 83 w → SumRest w
sum-rest w t =
    let r = rest-of 83 w t in
    let s = is-S r.n r.first in
    let b = sums-begin s.0 in
    let all : All IsLine s.0 = subst IsNode s.1 r.is in
    let whole : w ≡ lines_text s.0 ++ end_line = r.rest ∙ ap (λ (n : CertNode). after_letter n ++ end_line) s.1 in
    record { lines = s.0; all = all; end = b.0; rest = b.1; one = b.2; parts = whole ∙ b.3; sums = (s.0, all, sym b.3) }

pub sum-first : (bytes : List ℕ) (left : ℕ) → Stuck (Ends ends) bytes left → Stuck (NodeRests 83) bytes left
sum-first bytes left s = stuck-first (Ends ends) (NodeRests 83) goes begun bytes left s
  where
    goes : (w : List ℕ) → Ends ends w → (more : List ℕ) × NodeRests 83 (w ++ more)
    goes w t =
        let m = sums-some t.0 t.1 in
        (m.0, (node.S m.1.0, m.1.1, ap (λ (l : List ℕ). 83 ∷ l) (ap (λ (l : List ℕ). l ++ m.0) t.2 ∙ m.1.2)))

    begun : (w : List ℕ) → NodeRests 83 w → (p q : List ℕ) × (w ≡ p ++ q) × Ends ends p
    begun w t = let r = sum-rest w t in (r.end ∷ [], r.rest, r.parts, (r.end, r.one, refl))

pub sum-second : (e : ℕ) (bytes rest : List ℕ) (left : ℕ) → bytes ≡ e ∷ rest → Stuck (Sums e) rest left → Stuck (NodeRests 83) bytes left
sum-second e bytes rest left front s =
    subst (λ (l : List ℕ). Stuck (NodeRests 83) l left) (sym front)
    (stuck-second (Sums e) (NodeRests 83) (e ∷ []) (λ w t. (node.S t.0, t.1, ap (λ (l : List ℕ). 83 ∷ l) t.2)) only rest left s)
  where
    only : (w x y : List ℕ) → NodeRests 83 w → w ++ x ≡ (e ∷ []) ++ y → (q : List ℕ) × (w ≡ (e ∷ []) ++ q) × Sums e q
    only w x y t same =
        let r = sum-rest w t in
        let first : r.end ≡ e = head-same r.end e (r.rest ++ x) y (ap (λ (l : List ℕ). l ++ x) (sym r.parts) ∙ same) in
        (r.rest, r.parts ∙ ap (λ (n : ℕ). n ∷ r.rest) first, subst (λ (n : ℕ). Sums n r.rest) first r.sums)

pub sum-read : (lines : List Line) (e : ℕ) (bytes rest more : List ℕ) → bytes ≡ e ∷ rest → e ∷ rest ≡ (lines_text lines ++ end_line) ++ more
    → 83 ∷ bytes ≡ (node_text (node.S lines) ++ end_line) ++ more
sum-read lines e bytes rest more first second = ap (λ (l : List ℕ). 83 ∷ l) (first ∙ second)

-- cuts

cut-parts : (w : List ℕ) → NodeRests 82 w → (u : ℕ) × (v : ℤ) × (u < 2 ^ 32) × IsShort v × (w ≡ (32 ∷ decimal u ++ 32 ∷ []) ++ (signed_decimal v ++ 10 ∷ []))
cut-parts w t =
    let r = rest-of 82 w t in
    let s = is-R r.n r.first in
    let is : IsNode (node.R s.0 s.1) = subst IsNode s.2 r.is in
    (s.0, s.1, is.0, is.1, r.rest ∙ ap (λ (n : CertNode). after_letter n ++ end_line) s.2 ∙ append_assoc (32 ∷ decimal s.0 ++ 32 ∷ []) (signed_decimal s.1) end_line)

cut-from : (u : ℕ) (v : ℤ) (w : List ℕ) → u < 2 ^ 32 → IsShort v → w ≡ (32 ∷ decimal u ++ 32 ∷ []) ++ (signed_decimal v ++ 10 ∷ []) → NodeRests 82 w
cut-from u v w few short e =
    (node.R u v, (few, short), ap (λ (l : List ℕ). 82 ∷ l) (e ∙ sym (append_assoc (32 ∷ decimal u ++ 32 ∷ []) (signed_decimal v) end_line)))

pub cut-first : (bytes : List ℕ) (left : ℕ) → Stuck (Fields (32 ∷ [])) bytes left → Stuck (NodeRests 82) bytes left
cut-first bytes left s = stuck-first (Fields (32 ∷ [])) (NodeRests 82) goes begun bytes left s
  where
    goes : (w : List ℕ) → Fields (32 ∷ []) w → (more : List ℕ) × NodeRests 82 (w ++ more)
    goes w t =
        let more : List ℕ = signed_decimal (pos 0) ++ 10 ∷ [] in (
          more,
          cut-from t.0 (pos 0) (w ++ more) t.2 (omega arith)
              (ap (λ (l : List ℕ). l ++ more) t.4 ∙ ap (λ (n : ℕ). (32 ∷ decimal t.0 ++ n ∷ []) ++ more) (sym (one-only 32 t.1 t.3))),
        )

    begun : (w : List ℕ) → NodeRests 82 w → (p q : List ℕ) × (w ≡ p ++ q) × Fields (32 ∷ []) p
    begun w t = let r = cut-parts w t in (32 ∷ decimal r.0 ++ 32 ∷ [], signed_decimal r.1 ++ 10 ∷ [], r.4, (r.0, 32, r.2, refl, refl))

pub cut-second : (u : ℕ) (bytes rest : List ℕ) (left : ℕ) → u < 2 ^ 32 → bytes ≡ (32 ∷ decimal u ++ 32 ∷ []) ++ rest
    → Stuck (Signeds (10 ∷ [])) rest left → Stuck (NodeRests 82) bytes left
cut-second u bytes rest left few front s =
    subst (λ (l : List ℕ). Stuck (NodeRests 82) l left) (sym front)
    (stuck-second (Signeds (10 ∷ [])) (NodeRests 82) (32 ∷ decimal u ++ 32 ∷ []) goes only rest left s)
  where
    goes : (w : List ℕ) → Signeds (10 ∷ []) w → NodeRests 82 ((32 ∷ decimal u ++ 32 ∷ []) ++ w)
    goes w t = cut-from u t.0 ((32 ∷ decimal u ++ 32 ∷ []) ++ w) few t.2
        (ap (λ (l : List ℕ). (32 ∷ decimal u ++ 32 ∷ []) ++ l) (t.4 ∙ ap (λ (n : ℕ). signed_decimal t.0 ++ n ∷ []) (sym (one-only 10 t.1 t.3))))

    only : (w x y : List ℕ) → NodeRests 82 w → w ++ x ≡ (32 ∷ decimal u ++ 32 ∷ []) ++ y
        → (q : List ℕ) × (w ≡ (32 ∷ decimal u ++ 32 ∷ []) ++ q) × Signeds (10 ∷ []) q
    only w x y t same =
        let r = cut-parts w t in
        let tail : List ℕ = signed_decimal r.1 ++ 10 ∷ [] in
        let f = numbers-free r.0 u 32 32 (tail ++ x) y (omega (arith, r.2)) (omega (arith, few)) refl refl
        (sym (append_assoc (decimal r.0) (32 ∷ []) (tail ++ x)) ∙ sym (append_assoc (decimal r.0 ++ 32 ∷ []) tail x)
        ∙ tail-same 32 32 (((decimal r.0 ++ 32 ∷ []) ++ tail) ++ x) ((decimal u ++ 32 ∷ []) ++ y) (ap (λ (l : List ℕ). l ++ x) (sym r.4) ∙ same)
        ∙ append_assoc (decimal u) (32 ∷ []) y) in
        (tail, r.4 ∙ ap (λ (n : ℕ). (32 ∷ decimal n ++ 32 ∷ []) ++ tail) f.0, (r.1, 10, r.3, refl, refl))

pub cut-field : (u e : ℕ) (bytes rest : List ℕ) → is_one_of (32 ∷ []) e ≡ true → bytes ≡ (32 ∷ decimal u ++ e ∷ []) ++ rest
    → bytes ≡ (32 ∷ decimal u ++ 32 ∷ []) ++ rest
cut-field u e bytes rest one first = first ∙ ap (λ (n : ℕ). (32 ∷ decimal u ++ n ∷ []) ++ rest) (sym (one-only 32 e one))

pub signed-fits : (z : ℤ) → IsShort z → FitsSigned w64 z
signed-fits z short = fits_signed_from_abs w64 z (omega (arith, short))

pub cut-read : (u : ℕ) (v : ℤ) (e : ℕ) (bytes rest more : List ℕ) → is_one_of (10 ∷ []) e ≡ true → bytes ≡ (32 ∷ decimal u ++ 32 ∷ []) ++ rest
    → rest ≡ signed_decimal v ++ e ∷ more → 82 ∷ bytes ≡ (node_text (node.R u v) ++ end_line) ++ more
cut-read u v e bytes rest more one first second =
    ap (λ (l : List ℕ). 82 ∷ l) (first ∙ ap (λ (l : List ℕ). (32 ∷ decimal u ++ 32 ∷ []) ++ l) (second ∙ ap (λ (n : ℕ). signed_decimal v ++ n ∷ more) (sym (one-only 10 e one)))
    ∙ sym (append_assoc (32 ∷ decimal u ++ 32 ∷ []) (signed_decimal v) (10 ∷ more)) ∙ sym (append_assoc ((32 ∷ decimal u ++ 32 ∷ []) ++ signed_decimal v) end_line more))

-- cases

pub case-stuck : (bytes : List ℕ) (left : ℕ) → Stuck (Fields (10 ∷ [])) bytes left → Stuck (NodeRests 67) bytes left
case-stuck bytes left s = stuck-first (Fields (10 ∷ [])) (NodeRests 67) goes begun bytes left s
  where
    goes : (w : List ℕ) → Fields (10 ∷ []) w → (more : List ℕ) × NodeRests 67 (w ++ more)
    goes w t = ([], (node.C t.0, t.2, ap (λ (l : List ℕ). 67 ∷ l) (append-nil w ∙ t.4 ∙ ap (λ (n : ℕ). 32 ∷ decimal t.0 ++ n ∷ []) (sym (one-only 10 t.1 t.3)))))

    begun : (w : List ℕ) → NodeRests 67 w → (p q : List ℕ) × (w ≡ p ++ q) × Fields (10 ∷ []) p
    begun w t =
        let r = rest-of 67 w t in
        let a = is-C r.n r.first in
        let whole : w ≡ 32 ∷ decimal a.0 ++ 10 ∷ [] = r.rest ∙ ap (λ (n : CertNode). after_letter n ++ end_line) a.1 in
        (w, [], sym (append-nil w), (a.0, 10, subst IsNode a.1 r.is, refl, whole))

pub case-read : (a e : ℕ) (bytes more : List ℕ) → is_one_of (10 ∷ []) e ≡ true → bytes ≡ (32 ∷ decimal a ++ e ∷ []) ++ more
    → 67 ∷ bytes ≡ (node_text (node.C a) ++ end_line) ++ more
case-read a e bytes more one first =
    ap (λ (l : List ℕ). 67 ∷ l) (first ∙ ap (λ (n : ℕ). (32 ∷ decimal a ++ n ∷ []) ++ more) (sym (one-only 10 e one)))

-- tightenings

record TightRest (w : List ℕ) : Type 0 where
  u : ℕ
  few : u < 2 ^ 32
  end : ℕ
  rest : List ℕ
  one : is_one_of ends end ≡ true
  parts : w ≡ (32 ∷ decimal u ++ end ∷ []) ++ rest
  sums : Sums end rest

tight-text : (u e : ℕ) (ls : List Line) (rest : List ℕ) → lines_text ls ++ end_line ≡ e ∷ rest
    → 32 ∷ (decimal u ++ lines_text ls) ++ end_line ≡ (32 ∷ decimal u ++ e ∷ []) ++ rest
tight-text u e ls rest h =
    append_assoc (32 ∷ decimal u) (lines_text ls) end_line ∙ ap (λ (l : List ℕ). 32 ∷ decimal u ++ l) h ∙ sym (append_assoc (32 ∷ decimal u) (e ∷ []) rest)

tight-rest : (w : List ℕ) → NodeRests 84 w → TightRest w
tight-rest w t =
    let r = rest-of 84 w t in
    let s = is-T r.n r.first in
    let b = sums-begin s.1 in
    let is : IsNode (node.T s.0 s.1) = subst IsNode s.2 r.is in
    record {
      u = s.0;
      few = is.0;
      end = b.0;
      rest = b.1;
      one = b.2;
      parts = r.rest ∙ ap (λ (n : CertNode). after_letter n ++ end_line) s.2 ∙ tight-text s.0 b.0 s.1 b.1 b.3;
      sums = (s.1, is.1, sym b.3);
    }

tight-from : (u e : ℕ) (w rest : List ℕ) → u < 2 ^ 32 → w ≡ (32 ∷ decimal u ++ e ∷ []) ++ rest → Sums e rest → NodeRests 84 w
tight-from u e w rest few front t =
    (node.T u t.0, (few, t.1), ap (λ (l : List ℕ). 84 ∷ l) (front ∙ sym (tight-text u e t.0 rest (sym t.2))))

pub tight-first : (bytes : List ℕ) (left : ℕ) → Stuck (Fields ends) bytes left → Stuck (NodeRests 84) bytes left
tight-first bytes left s = stuck-first (Fields ends) (NodeRests 84) goes begun bytes left s
  where
    goes : (w : List ℕ) → Fields ends w → (more : List ℕ) × NodeRests 84 (w ++ more)
    goes w t = let m = sums-some t.1 t.3 in (m.0, tight-from t.0 t.1 (w ++ m.0) m.0 t.2 (ap (λ (l : List ℕ). l ++ m.0) t.4) m.1)

    begun : (w : List ℕ) → NodeRests 84 w → (p q : List ℕ) × (w ≡ p ++ q) × Fields ends p
    begun w t = let r = tight-rest w t in (32 ∷ decimal r.u ++ r.end ∷ [], r.rest, r.parts, (r.u, r.end, r.few, r.one, refl))

pub tight-second : (u e : ℕ) (bytes rest : List ℕ) (left : ℕ) → u < 2 ^ 32 → is_one_of ends e ≡ true → bytes ≡ (32 ∷ decimal u ++ e ∷ []) ++ rest
    → Stuck (Sums e) rest left → Stuck (NodeRests 84) bytes left
tight-second u e bytes rest left few one front s =
    subst (λ (l : List ℕ). Stuck (NodeRests 84) l left) (sym front)
    (stuck-second (Sums e) (NodeRests 84) (32 ∷ decimal u ++ e ∷ []) (λ w t. tight-from u e ((32 ∷ decimal u ++ e ∷ []) ++ w) w few refl t) only rest left s)
  where
    only : (w x y : List ℕ) → NodeRests 84 w → w ++ x ≡ (32 ∷ decimal u ++ e ∷ []) ++ y → (q : List ℕ) × (w ≡ (32 ∷ decimal u ++ e ∷ []) ++ q) × Sums e q
    only w x y t same =
        let r = tight-rest w t in
        let f = numbers-free r.u u r.end e (r.rest ++ x) y (omega (arith, r.few)) (omega (arith, few)) (end-no_digit ends r.end refl r.one) (end-no_digit ends e refl one)
        (sym (append_assoc (decimal r.u) (r.end ∷ []) (r.rest ++ x)) ∙ sym (append_assoc (decimal r.u ++ r.end ∷ []) r.rest x)
        ∙ tail-same 32 32 (((decimal r.u ++ r.end ∷ []) ++ r.rest) ++ x) ((decimal u ++ e ∷ []) ++ y) (ap (λ (l : List ℕ). l ++ x) (sym r.parts) ∙ same)
        ∙ append_assoc (decimal u) (e ∷ []) y) in (
          r.rest,
          r.parts ∙ ap (λ (n : ℕ). (32 ∷ decimal n ++ r.end ∷ []) ++ r.rest) f.0 ∙ ap (λ (n : ℕ). (32 ∷ decimal u ++ n ∷ []) ++ r.rest) f.1,
          subst (λ (n : ℕ). Sums n r.rest) f.1 r.sums,
        )

pub tight-read : (u e : ℕ) (ls : List Line) (bytes rest more : List ℕ) → bytes ≡ (32 ∷ decimal u ++ e ∷ []) ++ rest
    → e ∷ rest ≡ (lines_text ls ++ end_line) ++ more → 84 ∷ bytes ≡ (node_text (node.T u ls) ++ end_line) ++ more
tight-read u e ls bytes rest more first second =
    ap (λ (l : List ℕ). 84 ∷ l) (first ∙ append_assoc (32 ∷ decimal u) (e ∷ []) rest ∙ ap (λ (l : List ℕ). (32 ∷ decimal u) ++ l) second
    ∙ sym (append_assoc (32 ∷ decimal u) (lines_text ls ++ end_line) more) ∙ ap (λ (l : List ℕ). l ++ more) (sym (append_assoc (32 ∷ decimal u) (lines_text ls) end_line)))

-- the line of a node

nodes-empty : NodeLines [] → ⊥
nodes-empty t = omega (arith, ap length t.2, length-append (node_text t.0) end_line)

-- what comes after the letter is stuck
pub node-second : (c : ℕ) (bytes rest : List ℕ) (left : ℕ) → bytes ≡ c ∷ rest → Stuck (NodeRests c) rest left → Stuck NodeLines bytes left
node-second c bytes rest left front s =
    subst (λ (l : List ℕ). Stuck NodeLines l left) (sym front)
    (stuck-second (NodeRests c) NodeLines (c ∷ []) (λ w t. t) (λ w x y t same. only w x y t same) rest left s)
  where
    only : (w x y : List ℕ) → NodeLines w → w ++ x ≡ (c ∷ []) ++ y → (q : List ℕ) × (w ≡ (c ∷ []) ++ q) × NodeRests c q
    only [] x y t same = absurd (nodes-empty t)
    only (b ∷ w) x y t same =
        let first : b ≡ c = head-same b c (w ++ x) y same in
        (w, ap (λ (n : ℕ). n ∷ w) first, subst (λ (n : ℕ). NodeLines (n ∷ w)) first t)

-- a line of a node, for what comes after others
pub some-node : NodeLines (70 ∷ 10 ∷ [])
some-node = (node.F, tt, refl)

abbrev letters : List ℕ
letters = codes "FLSRCT"

letter-one : (n : CertNode) → is_one_of letters (letter n) ≡ true
letter-one node.F = refl
letter-one node.L = refl
letter-one (node.S lines) = refl
letter-one (node.R u v) = refl
letter-one (node.C a) = refl
letter-one (node.T u lines) = refl

abbrev NoLetter : List ℕ → Type 0
NoLetter [] = Unit {0}
NoLetter (b ∷ more) = is_one_of letters b ≡ false

letter-stops : (bytes : List ℕ) → NoLetter bytes → Stops NodeLines [] bytes
letter-stops [] other = nodes-empty
letter-stops (b ∷ more) other = λ g.
    let r = rest-of b g.0 g.1 in
    true≢false (sym (letter-one r.n) ∙ ap (is_one_of letters) r.first ∙ other)

letter-stuck : (bytes : List ℕ) → NoLetter bytes → Stuck NodeLines bytes (length bytes)
letter-stuck bytes other = stuck-here NodeLines bytes (70 ∷ 10 ∷ [], some-node) nodes-empty (letter-stops bytes other)

pub node-ended : (bytes : List ℕ) → bytes ≡ [] → Stuck NodeLines bytes 0
node-ended bytes e = subst (λ (l : List ℕ). Stuck NodeLines l 0) (sym e) (letter-stuck [] tt)

pub node-other : (bytes : List ℕ) (b : ℕ) (more : List ℕ) → bytes ≡ b ∷ more
    → (b ≡ 70 → ⊥) → (b ≡ 76 → ⊥) → (b ≡ 83 → ⊥) → (b ≡ 82 → ⊥) → (b ≡ 67 → ⊥) → (b ≡ 84 → ⊥) → Stuck NodeLines bytes (length bytes)
node-other bytes b more e f l s r c t =
    subst (λ (x : List ℕ). Stuck NodeLines x (length x)) (sym e)
    (letter-stuck (b ∷ more) (rw (
      ne_eqb 70 b (λ x. f (sym x)),
      ne_eqb 76 b (λ x. l (sym x)),
      ne_eqb 83 b (λ x. s (sym x)),
      ne_eqb 82 b (λ x. r (sym x)),
      ne_eqb 67 b (λ x. c (sym x)),
      ne_eqb 84 b (λ x. t (sym x)),
    ) refl))

-- one node's line, whatever comes after it
abbrev FreeAt : CertNode → Type 0
FreeAt n = (m : CertNode) (u v : List ℕ) → IsNode n → IsNode m → after_letter n ++ 10 ∷ u ≡ after_letter m ++ 10 ∷ v → letter m ≡ letter n → (m ≡ n) × (u ≡ v)

never-free : FreeAt node.F
never-free m u v is-n is-m e same =
    let k = is-F m same in
    (k, tail-same 10 10 u v (e ∙ ap (λ (n : CertNode). after_letter n ++ 10 ∷ v) k))

unsolved-free : FreeAt node.L
unsolved-free m u v is-n is-m e same =
    let k = is-L m same in
    (k, tail-same 10 10 u v (e ∙ ap (λ (n : CertNode). after_letter n ++ 10 ∷ v) k))

sum-free : (lines : List Line) → FreeAt (node.S lines)
sum-free lines m u v is-n is-m e same =
    let k = is-S m same in
    let f = sums-free lines k.0 u v is-n (subst IsNode k.1 is-m) (e ∙ ap (λ (n : CertNode). after_letter n ++ 10 ∷ v) k.1) in
    (k.1 ∙ ap (λ (ls : List Line). node.S ls) (sym f.0), f.1)

cut-free : (w : ℕ) (z : ℤ) → FreeAt (node.R w z)
cut-free w z m u v is-n is-m e same =
    let k = is-R m same in
    let is : IsNode (node.R k.0 k.1) = subst IsNode k.2 is-m in
    let both : (32 ∷ decimal w ++ 32 ∷ []) ++ (signed_decimal z ++ 10 ∷ u) ≡ (32 ∷ decimal k.0 ++ 32 ∷ []) ++ (signed_decimal k.1 ++ 10 ∷ v) =
    sym (append_assoc (32 ∷ decimal w ++ 32 ∷ []) (signed_decimal z) (10 ∷ u)) ∙ e ∙ ap (λ (n : CertNode). after_letter n ++ 10 ∷ v) k.2
    ∙ append_assoc (32 ∷ decimal k.0 ++ 32 ∷ []) (signed_decimal k.1) (10 ∷ v) in
    let f = numbers-free w k.0 32 32 (signed_decimal z ++ 10 ∷ u) (signed_decimal k.1 ++ 10 ∷ v) (omega (arith, is-n.0)) (omega (arith, is.0)) refl refl
    (sym (append_assoc (decimal w) (32 ∷ []) (signed_decimal z ++ 10 ∷ u))
    ∙ tail-same 32 32 ((decimal w ++ 32 ∷ []) ++ (signed_decimal z ++ 10 ∷ u)) ((decimal k.0 ++ 32 ∷ []) ++ (signed_decimal k.1 ++ 10 ∷ v)) both
    ∙ append_assoc (decimal k.0) (32 ∷ []) (signed_decimal k.1 ++ 10 ∷ v)) in
    let g = signeds-free z k.1 10 10 u v is-n.1 is.1 refl refl f.2 in
    (k.2 ∙ ap (λ (n : ℕ). node.R n k.1) (sym f.0) ∙ ap (λ (n : ℤ). node.R w n) (sym g.0), g.2)

case-free : (a : ℕ) → FreeAt (node.C a)
case-free a m u v is-n is-m e same =
    let k = is-C m same in
    let is : IsNode (node.C k.0) = subst IsNode k.1 is-m in
    let f = numbers-free a k.0 10 10 u v (omega (arith, is-n)) (omega (arith, is)) refl refl
    (tail-same 32 32 (decimal a ++ 10 ∷ u) (decimal k.0 ++ 10 ∷ v) (e ∙ ap (λ (n : CertNode). after_letter n ++ 10 ∷ v) k.1)) in
    (k.1 ∙ ap (λ (n : ℕ). node.C n) (sym f.0), f.2)

tight-free : (w : ℕ) (lines : List Line) → FreeAt (node.T w lines)
tight-free w lines m u v is-n is-m e same =
    let k = is-T m same in
    let is : IsNode (node.T k.0 k.1) = subst IsNode k.2 is-m in
    let b = sums-begin-with lines u in
    let c = sums-begin-with k.1 v in
    let f = numbers-free w k.0 b.0 c.0 b.1 c.1 (omega (arith, is-n.0)) (omega (arith, is.0)) (end-no_digit ends b.0 refl b.2) (end-no_digit ends c.0 refl c.2)
    (ap (λ (l : List ℕ). decimal w ++ l) (sym b.3) ∙ sym (append_assoc (decimal w) (lines_text lines) (10 ∷ u))
    ∙ tail-same 32 32 ((decimal w ++ lines_text lines) ++ 10 ∷ u) ((decimal k.0 ++ lines_text k.1) ++ 10 ∷ v) (e ∙ ap (λ (n : CertNode). after_letter n ++ 10 ∷ v) k.2)
    ∙ append_assoc (decimal k.0) (lines_text k.1) (10 ∷ v) ∙ ap (λ (l : List ℕ). decimal k.0 ++ l) c.3) in
    let g = sums-free lines k.1 u v is-n.1 is.1 (b.3 ∙ ap (λ (n : ℕ). n ∷ b.1) f.1 ∙ ap (λ (l : List ℕ). c.0 ∷ l) f.2 ∙ sym c.3) in
    (k.2 ∙ ap (λ (n : ℕ). node.T n k.1) (sym f.0) ∙ ap (λ (ls : List Line). node.T w ls) (sym g.0), g.1)

free-at : (n : CertNode) → FreeAt n
free-at node.F = never-free
free-at node.L = unsolved-free
free-at (node.S lines) = sum-free lines
free-at (node.R u v) = cut-free u v
free-at (node.C a) = case-free a
free-at (node.T u lines) = tight-free u lines

pub nodes-free : (n m : CertNode) (u v : List ℕ) → IsNode n → IsNode m → (node_text n ++ end_line) ++ u ≡ (node_text m ++ end_line) ++ v → (m ≡ n) × (u ≡ v)
nodes-free n m u v is-n is-m e =
    let as-n = append_assoc (node_text n) end_line u ∙ ap (λ (l : List ℕ). l ++ 10 ∷ u) (text-parts n) in
    let as-m = append_assoc (node_text m) end_line v ∙ ap (λ (l : List ℕ). l ++ 10 ∷ v) (text-parts m) in
    let both : letter n ∷ (after_letter n ++ 10 ∷ u) ≡ letter m ∷ (after_letter m ++ 10 ∷ v) = sym as-n ∙ e ∙ as-m in
    free-at n m u v is-n is-m (tail-same (letter n) (letter m) (after_letter n ++ 10 ∷ u) (after_letter m ++ 10 ∷ v) both)
    (sym (head-same (letter n) (letter m) (after_letter n ++ 10 ∷ u) (after_letter m ++ 10 ∷ v) both))
