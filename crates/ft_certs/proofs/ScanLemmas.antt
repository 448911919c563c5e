-- Scans, a line each.
use Rattle.std.proofs.Common.{◌≡◌, ◌∙◌, sym, ap, subst, refl, ℕ, zero, suc, ℤ, pos, true, ⊎_elim, List, [], ◌∷◌, ◌++◌, length, append_assoc, append-nil, arith}
use Rattle.std.specs.Prelude.{codes}
use Rattle.std.specs.List.{All, flat_map}
use Rattle.std.specs.Fmt.{signed_decimal}
use Rattle.std.proofs.lemmas.List.Elements.{All-cons, All-tail}
use Rattle.std.proofs.lemmas.List.Concat.{flat_map-append}
use Rattle.ft_certs.specs.meaning.Text.{IsScan, IsShort, end_line, scans_text, values_text}
use Rattle.ft_certs.specs.building.Pieces.{Scans, Signeds, Values, is_one_of}
use Rattle.ft_certs.specs.building.Stuck.{Stuck}
use Rattle.ft_certs.proofs.StuckLemmas.{head-same, stuck-first, stuck-second, tail-same}
use Rattle.ft_certs.proofs.NumberLemmas.{end-no_digit}
use Rattle.ft_certs.proofs.SignedLemmas.{signeds-free}
use Rattle.ft_certs.proofs.ListedLemmas.{AreFree, either-end, listed-first, listed-free, listed-push, listed-second}

abbrev ends : List ℕ
ends = codes ",\n"

pub value-free : AreFree IsShort signed_decimal 44
value-free y z e f u v a b one-e one-f q = signeds-free y z e f u v a b (end-no_digit ends e refl one-e) (end-no_digit ends f refl one-f) q

abbrev marked : List ℤ → List ℕ
marked vs = flat_map (λ v. 44 ∷ signed_decimal v) vs

-- the values of a scan

pub values-first : (bytes : List ℕ) (left : ℕ) → Stuck (Signeds ends) bytes left → Stuck (Values 44) bytes left
values-first bytes left s = listed-first IsShort signed_decimal 44 refl (λ e. omega (arith, e)) (pos 0) (omega arith) value-free bytes left s

pub values-second : (v : ℤ) (e : ℕ) (bytes rest : List ℕ) (left : ℕ) → IsShort v → is_one_of ends e ≡ true → bytes ≡ signed_decimal v ++ e ∷ rest
    → Stuck (Values e) rest left → Stuck (Values 44) bytes left
values-second v e bytes rest left is one front s =
    listed-second IsShort signed_decimal 44 refl (λ e. omega (arith, e)) (pos 0) (omega arith) value-free v e bytes rest left is one front s

pub values-push : (vs : List ℤ) (v : ℤ) (e : ℕ) (front rest more : List ℕ) → front ≡ marked vs ++ 44 ∷ rest → rest ≡ signed_decimal v ++ e ∷ more
    → front ≡ marked (vs ++ v ∷ []) ++ e ∷ more
values-push vs v e front rest more before here =
    listed-push IsShort signed_decimal 44 refl (λ e. omega (arith, e)) (pos 0) (omega arith) value-free vs v e front rest more before here

-- values with marks are the text of a scan after the first
pub values-read : (vs : List ℤ) (e : ℕ) (bytes rest : List ℕ) → All IsShort vs → is_one_of ends e ≡ true → (e ≡ 44 → ⊥) → 44 ∷ bytes ≡ marked vs ++ e ∷ rest
    → IsScan vs × (bytes ≡ (values_text vs ++ end_line) ++ rest)
values-read [] e bytes rest all one other is = absurd (other (sym (head-same 44 e bytes rest is)))
values-read (v ∷ vs) e bytes rest all one other is =
    let lf : 10 ≡ e = ⊎_elim (λ m. absurd (other (sym m))) (λ l. l) (either-end IsShort signed_decimal 44 refl (λ e. omega (arith, e)) (pos 0) (omega arith) value-free e one) in (
      (omega arith, all),
      tail-same 44 44 bytes ((signed_decimal v ++ marked vs) ++ e ∷ rest) is ∙ ap (λ (n : ℕ). (signed_decimal v ++ marked vs) ++ n ∷ rest) (sym lf)
          ∙ sym (append_assoc (signed_decimal v ++ marked vs) end_line rest),
    )

-- lists of scans

scan-marked : (vs : List ℤ) → IsScan vs → 44 ∷ (values_text vs ++ end_line) ≡ marked vs ++ end_line
scan-marked [] is = absurd (omega (arith, is.0))
scan-marked (v ∷ vs) is = refl

-- the text of a scan is that of values after a mark
scan-values : (w : List ℕ) → Values 44 w → (vs : List ℤ) × IsScan vs × (w ≡ values_text vs ++ end_line)
scan-values w t = by t.0 t.1 t.2
  where
    by : (vs : List ℤ) → All IsShort vs → 44 ∷ w ≡ marked vs ++ end_line → (vs : List ℤ) × IsScan vs × (w ≡ values_text vs ++ end_line)
    by [] all is = absurd (omega (arith, head-same 44 10 w [] is))
    by (v ∷ vs) all is = (v ∷ vs, (omega arith, all), tail-same 44 44 w (values_text (v ∷ vs) ++ end_line) is)

abbrev zeros : ℕ → List (List ℤ)
zeros zero = []
zeros (suc k) = (pos 0 ∷ []) ∷ zeros k

zeros-length : (k : ℕ) → length (zeros k) ≡ k
zeros-length zero = refl
zeros-length (suc k) = ap suc (zeros-length k)

no-scans : All IsScan []
no-scans k d l = absurd (omega (arith, l))

zero-scan : IsScan (pos 0 ∷ [])
zero-scan = (omega arith, All-cons IsShort (pos 0) [] (omega arith) (λ k d l. absurd (omega (arith, l))))

zeros-scans : (k : ℕ) → All IsScan (zeros k)
zeros-scans zero = no-scans
zeros-scans (suc k) = All-cons IsScan (pos 0 ∷ []) (zeros k) zero-scan (zeros-scans k)

pub some-scans : (k : ℕ) → Scans k (scans_text (zeros k))
some-scans k = (zeros k, zeros-length k, zeros-scans k, refl)

-- the values of the next scan are stuck
pub scans-first : (k : ℕ) (bytes : List ℕ) (left : ℕ) → Stuck (Values 44) bytes left → Stuck (Scans (suc k)) bytes left
scans-first k bytes left s = stuck-first (Values 44) (Scans (suc k)) goes begun bytes left s
  where
    goes : (w : List ℕ) → Values 44 w → (more : List ℕ) × Scans (suc k) (w ++ more)
    goes w t =
        let v = scan-values w t in (
          scans_text (zeros k),
          (
            v.0 ∷ zeros k,
            ap suc (zeros-length k),
            All-cons IsScan v.0 (zeros k) v.1 (zeros-scans k),
            ap (λ (l : List ℕ). l ++ scans_text (zeros k)) v.2,
          ),
        )

    by : (w : List ℕ) (ss : List (List ℤ)) → length ss ≡ suc k → All IsScan ss → w ≡ scans_text ss → (p q : List ℕ) × (w ≡ p ++ q) × Values 44 p
    by w [] size all is = absurd (omega (arith, size))
    by w (vs ∷ ss) size all is =
        let first : IsScan vs = all 0 vs (omega arith) in
        (values_text vs ++ end_line, scans_text ss, is, (vs, first.1, scan-marked vs first))

    begun : (w : List ℕ) → Scans (suc k) w → (p q : List ℕ) × (w ≡ p ++ q) × Values 44 p
    begun w t = by w t.0 t.1 t.2 t.3

-- one scan, whatever comes after it
scan-free : (xs ys : List ℤ) (u v : List ℕ) → IsScan xs → IsScan ys → (values_text xs ++ end_line) ++ u ≡ (values_text ys ++ end_line) ++ v → (xs ≡ ys) × (u ≡ v)
scan-free xs ys u v a b e =
    listed-free IsShort signed_decimal 44 refl (λ e. omega (arith, e)) (pos 0) (omega arith) value-free xs ys u v a.1 b.1
    (sym (append_assoc (marked xs) end_line u) ∙ ap (λ (l : List ℕ). l ++ u) (sym (scan-marked xs a)) ∙ ap (λ (l : List ℕ). 44 ∷ l) e
    ∙ ap (λ (l : List ℕ). l ++ v) (scan-marked ys b) ∙ append_assoc (marked ys) end_line v)

-- what is after a scan is stuck
pub scans-second : (k : ℕ) (vs : List ℤ) (bytes rest : List ℕ) (left : ℕ) → IsScan vs → bytes ≡ (values_text vs ++ end_line) ++ rest
    → Stuck (Scans k) rest left → Stuck (Scans (suc k)) bytes left
scans-second k vs bytes rest left is front s =
    subst (λ (l : List ℕ). Stuck (Scans (suc k)) l left) (sym front)
    (stuck-second (Scans k) (Scans (suc k)) (values_text vs ++ end_line) goes only rest left s)
  where
    goes : (w : List ℕ) → Scans k w → Scans (suc k) ((values_text vs ++ end_line) ++ w)
    goes w t = (vs ∷ t.0, ap suc t.1, All-cons IsScan vs t.0 is t.2, ap (λ (l : List ℕ). (values_text vs ++ end_line) ++ l) t.3)

    by : (w x y : List ℕ) (ss : List (List ℤ)) → length ss ≡ suc k → All IsScan ss → w ≡ scans_text ss → w ++ x ≡ (values_text vs ++ end_line) ++ y
        → (q : List ℕ) × (w ≡ (values_text vs ++ end_line) ++ q) × Scans k q
    by w x y [] size all has same = absurd (omega (arith, size))
    by w x y (us ∷ ss) size all has same =
        let f = scan-free us vs (scans_text ss ++ x) y (all 0 us (omega arith)) is
        (sym (append_assoc (values_text us ++ end_line) (scans_text ss) x) ∙ ap (λ (l : List ℕ). l ++ x) (sym has) ∙ same) in (
          scans_text ss,
          has ∙ ap (λ (z : List ℤ). (values_text z ++ end_line) ++ scans_text ss) f.0,
          (ss, omega (arith, size), All-tail IsScan us ss all, refl),
        )

    only : (w x y : List ℕ) → Scans (suc k) w → w ++ x ≡ (values_text vs ++ end_line) ++ y
        → (q : List ℕ) × (w ≡ (values_text vs ++ end_line) ++ q) × Scans k q
    only w x y t same = by w x y t.0 t.1 t.2 t.3 same

-- one scan more
pub scans-push : (ss : List (List ℤ)) (vs : List ℤ) (bytes rest more : List ℕ) → bytes ≡ scans_text ss ++ rest → rest ≡ (values_text vs ++ end_line) ++ more
    → bytes ≡ scans_text (ss ++ vs ∷ []) ++ more
scans-push ss vs bytes rest more before here =
    before ∙ ap (λ (l : List ℕ). scans_text ss ++ l) here ∙ sym (append_assoc (scans_text ss) (values_text vs ++ end_line) more)
    ∙ ap (λ (l : List ℕ). l ++ more) (ap (λ (l : List ℕ). scans_text ss ++ l) (sym (append-nil (values_text vs ++ end_line)))
    ∙ sym (flat_map-append (λ scan. values_text scan ++ end_line) ss (vs ∷ [])))

pub at-count : (k j : ℕ) (bytes : List ℕ) (left : ℕ) → k ≡ j → Stuck (Scans k) bytes left → Stuck (Scans j) bytes left
at-count k j bytes left same s = subst (λ (n : ℕ). Stuck (Scans n) bytes left) same s

-- one list of so many scans, whatever comes after it
pub scans-free : (xs ys : List (List ℤ)) (u v : List ℕ) → length xs ≡ length ys → All IsScan xs → All IsScan ys → scans_text xs ++ u ≡ scans_text ys ++ v
    → (xs ≡ ys) × (u ≡ v)
scans-free [] [] u v size a b e = (refl, e)
scans-free [] (y ∷ ys) u v size a b e = absurd (omega (arith, size))
scans-free (x ∷ xs) [] u v size a b e = absurd (omega (arith, size))
scans-free (x ∷ xs) (y ∷ ys) u v size a b e =
    let f = scan-free x y (scans_text xs ++ u) (scans_text ys ++ v) (a 0 x (omega arith)) (b 0 y (omega arith))
    (sym (append_assoc (values_text x ++ end_line) (scans_text xs) u) ∙ e ∙ append_assoc (values_text y ++ end_line) (scans_text ys) v) in
    let g = scans-free xs ys u v (omega (arith, size)) (All-tail IsScan x xs a) (All-tail IsScan y ys b) f.1 in
    (ap (λ (z : List ℤ). z ∷ xs) f.0 ∙ ap (λ (zs : List (List ℤ)). y ∷ zs) g.0, g.1)
