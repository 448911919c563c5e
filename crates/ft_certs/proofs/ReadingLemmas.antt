-- Whole texts of certificates.
use Rattle.std.proofs.Common.{◌≡◌, ◌∙◌, sym, ap, subst, refl, ℕ, zero, suc, ◌+◌, ◌<◌, ◌≤◌, ◌^◌, ℤ, true, false, ◌==◌, ◌⊎◌, inl, inr, ⊎_elim, List, [], ◌∷◌, ◌++◌, length, append_assoc, append-nil, arith}
use Rattle.std.specs.Prelude.{codes}
use Rattle.std.specs.List.{All}
use Rattle.std.specs.Fmt.{decimal}
use Rattle.std.proofs.lemmas.Bool.{true≢false}
use Rattle.std.proofs.lemmas.List.{append_cancel_left, length-append}
use Rattle.std.proofs.lemmas.List.Elements.{All-cons, All-tail}
use Rattle.ft_base.specs.Names.{is_name, is_name_byte, is_reserved_word, reserved_words}
use Rattle.ft_cert.specs.declared.node.CertNode.{CertNode}
use Rattle.ft_cert.specs.declared.node.CertNode.TheVariants as node
use Rattle.std.specs.Prelude.{Some, map, option_map, slice_get}
use Rattle.std.proofs.lemmas.Option.{slice_get-map}
use Rattle.std.proofs.lemmas.Option.{none-some, same_Some}
use Rattle.ft_cert.specs.meaning.Tree.{Tree, nodes_of}
use Rattle.ft_certs.specs.declared.certs.Certs.{Certs}
use Rattle.ft_certs.specs.declared.fault.CertText.{CertText}
use Rattle.ft_certs.specs.declared.fault.CertText.TheVariants as fault
use Rattle.ft_certs.specs.meaning.Fault.{Stops, Texts}
use Rattle.ft_certs.specs.meaning.Text.{IsCert, IsScan, Spelled, Spells, end_line, node_text, nodes_text, obligations_text, scans_text, spelled, text_of}
use Rattle.ft_certs.specs.meaning.Refusal.{IsTextFault, Whole}
use Rattle.ft_certs.specs.building.Pieces.{NameLines, Numbers, Obligation, Obligations, Rows, Scans, Word, begins_by, heading_text, is_one_of}
use Rattle.ft_certs.specs.building.Stuck.{Refused, Stuck}
use Rattle.ft_certs.proofs.StuckLemmas.{head-same, refused-after, refused-same, refused-second, stuck-among, stuck-first, stuck-refused, stuck-second}
use Rattle.ft_certs.proofs.NumberLemmas.{numbers-free, same-span}
use Rattle.ft_certs.proofs.ScanLemmas.{scans-free, some-scans}
use Rattle.ft_certs.proofs.NodeLemmas.{one-only}
use Rattle.ft_certs.proofs.TreeLemmas.{leaf-cert, node-long, rows-free}
use Rattle.ft_certs.proofs.WordLemmas.{name-bytes}
use Rattle.ft_certs.proofs.WritingLemmas.{cert_lines, obligations-push}

abbrev end_text : List ℕ
end_text = codes "end\n"

-- one certificate

pub obligation-first : (i : ℕ) (bytes : List ℕ) (left : ℕ) → Stuck (Word (heading_text i)) bytes left → Stuck (Obligation i) bytes left
obligation-first i bytes left s = stuck-first (Word (heading_text i)) (Obligation i) goes begun bytes left s
  where
    goes : (w : List ℕ) → Word (heading_text i) w → (more : List ℕ) × Obligation i (w ++ more)
    goes w t = (nodes_text (node.F ∷ []), (node.F ∷ [], leaf-cert, ap (λ (l : List ℕ). l ++ nodes_text (node.F ∷ [])) t))

    begun : (w : List ℕ) → Obligation i w → (p q : List ℕ) × (w ≡ p ++ q) × Word (heading_text i) p
    begun w t = (heading_text i, nodes_text t.0, t.2, refl)

pub obligation-second : (i : ℕ) (bytes rest : List ℕ) (left : ℕ) → bytes ≡ heading_text i ++ rest → Stuck (Rows 1) rest left → Stuck (Obligation i) bytes left
obligation-second i bytes rest left front s =
    subst (λ (l : List ℕ). Stuck (Obligation i) l left) (sym front)
    (stuck-second (Rows 1) (Obligation i) (heading_text i) (λ w t. (t.0, (t.1, t.2), ap (λ (l : List ℕ). heading_text i ++ l) t.3)) only rest left s)
  where
    only : (w x y : List ℕ) → Obligation i w → w ++ x ≡ heading_text i ++ y → (q : List ℕ) × (w ≡ heading_text i ++ q) × Rows 1 q
    only w x y t same = (nodes_text t.0, t.2, (t.0, t.1.0, t.1.1, refl))

-- certificates to the end of the text

abbrev Further : ℕ → Texts
Further i w = (c : List CertNode) × (cs : List (List CertNode)) × IsCert c × All IsCert cs × (i + suc (length cs) < 2 ^ 32)
    × (w ≡ (heading_text i ++ nodes_text c) ++ (obligations_text (i + 1 + 1) cs ++ end_text))

no-certs : All IsCert []
no-certs k d l = absurd (omega (arith, l))

some-goes : (i : ℕ) (w : List ℕ) → Further i w → Obligations i w
some-goes i w t = (
  t.0 ∷ t.1,
  All-cons IsCert t.0 t.1 t.2 t.3,
  t.4,
  t.5 ∙ sym (append_assoc (heading_text i ++ nodes_text t.0) (obligations_text (i + 1 + 1) t.1) end_text),
)

-- a text either ends or has another certificate
abbrev Cases : ℕ → List ℕ → Type 0
Cases i w = (w ≡ end_text) ⊎ Further i w

cases : (i : ℕ) (w : List ℕ) → Obligations i w → Cases i w
cases i w t = by t.0 t.1 t.2 t.3
  where
    by : (cs : List (List CertNode)) → All IsCert cs → i + length cs < 2 ^ 32 → w ≡ obligations_text (i + 1) cs ++ end_text → Cases i w
    by [] all few is = inl is
    by (c ∷ cs) all few is = inr (
      c,
      cs,
      all 0 c (omega arith),
      All-tail IsCert c cs all,
      few,
      is ∙ append_assoc (heading_text i ++ nodes_text c) (obligations_text (i + 1 + 1) cs) end_text,
    )

obligations-empty : (i : ℕ) → Obligations i [] → ⊥
obligations-empty i t = ⊎_elim (λ e. omega (arith, ap length e)) (λ s. omega (arith, ap length s.5)) (cases i [] t)

-- the next certificate is stuck
pub obligations-first : (i : ℕ) (bytes : List ℕ) (left : ℕ) → i + 1 < 2 ^ 32 → begins_by 111 bytes ≡ true → Stuck (Obligation i) bytes left → Refused (Obligations i) bytes left
obligations-first i bytes left few first s =
    stuck-refused (Obligations i) bytes left
    (stuck-among (Further i) (Obligations i) bytes (some-goes i) (obligations-empty i) only left (stuck-first (Obligation i) (Further i) goes begun bytes left s))
  where
    goes : (w : List ℕ) → Obligation i w → (more : List ℕ) × Further i (w ++ more)
    goes w t = (end_text, (t.0, [], t.1, no-certs, few, ap (λ (l : List ℕ). l ++ end_text) t.2))

    begun : (w : List ℕ) → Further i w → (p q : List ℕ) × (w ≡ p ++ q) × Obligation i p
    begun w t = (heading_text i ++ nodes_text t.0, obligations_text (i + 1 + 1) t.1 ++ end_text, t.5, (t.0, t.2, refl))

    only : (b : ℕ) (u v : List ℕ) → Obligations i (b ∷ u) → bytes ≡ b ∷ v → Further i (b ∷ u)
    only b u v t e = ⊎_elim
        (λ is. absurd (true≢false (sym first ∙ ap (begins_by 111) e ∙ ap (λ (x : ℕ). x == 111) (head-same b 101 u (codes "nd\n") is))))
        (λ s. s) (cases i (b ∷ u) t)

-- what comes after a certificate is refused
pub obligations-second : (i : ℕ) (c : List CertNode) (bytes rest : List ℕ) (left : ℕ) → IsCert c → bytes ≡ (heading_text i ++ nodes_text c) ++ rest
    → Refused (Obligations (i + 1)) rest left → Refused (Obligations i) bytes left
obligations-second i c bytes rest left is front r =
    subst (λ (l : List ℕ). Refused (Obligations i) l left) (sym front)
    (refused-second (Obligations (i + 1)) (Obligations i) (heading_text i ++ nodes_text c) goes only rest left r)
  where
    goes : (w : List ℕ) → Obligations (i + 1) w → Obligations i ((heading_text i ++ nodes_text c) ++ w)
    goes w t = some-goes i ((heading_text i ++ nodes_text c) ++ w) (c, t.0, is, t.1, omega (arith, t.2), ap (λ (l : List ℕ). (heading_text i ++ nodes_text c) ++ l) t.3)

    only : (w x y : List ℕ) → Obligations i w → w ++ x ≡ (heading_text i ++ nodes_text c) ++ y
        → (q : List ℕ) × (w ≡ (heading_text i ++ nodes_text c) ++ q) × Obligations (i + 1) q
    only w x y t same = ⊎_elim
        (λ e. absurd (omega (arith, head-same 101 111 (codes "nd\n" ++ x) (((codes "bligation " ++ decimal (i + 1) ++ end_line) ++ nodes_text c) ++ y) (ap (λ (l : List ℕ). l ++ x) (sym e) ∙ same))))
        (λ s.
        let tail : List ℕ = obligations_text (i + 1 + 1) s.1 ++ end_text in
        let f = rows-free 1 s.0 c (tail ++ x) y s.2.0 is.0 s.2.1 is.1
        (append_cancel_left (heading_text i) (nodes_text s.0 ++ (tail ++ x)) (nodes_text c ++ y)
        (sym (append_assoc (heading_text i) (nodes_text s.0) (tail ++ x)) ∙ sym (append_assoc (heading_text i ++ nodes_text s.0) tail x)
        ∙ ap (λ (l : List ℕ). l ++ x) (sym s.5) ∙ same ∙ append_assoc (heading_text i) (nodes_text c) y)) in
        (tail, s.5 ∙ ap (λ (ns : List CertNode). (heading_text i ++ nodes_text ns) ++ tail) f.0, (s.1, s.3, omega (arith, s.4), refl)))
        (cases i w t)

-- the end is missing
pub end-first : (i : ℕ) (bytes : List ℕ) (left : ℕ) → i < 2 ^ 32 → begins_by 111 bytes ≡ false → Stuck (Word end_text) bytes left → Refused (Obligations i) bytes left
end-first i bytes left few other s =
    stuck-refused (Obligations i) bytes left (stuck-among (Word end_text) (Obligations i) bytes goes (obligations-empty i) only left s)
  where
    goes : (w : List ℕ) → Word end_text w → Obligations i w
    goes w t = ([], no-certs, omega (arith, few), t)

    only : (b : ℕ) (u v : List ℕ) → Obligations i (b ∷ u) → bytes ≡ b ∷ v → Word end_text (b ∷ u)
    only b u v t e = ⊎_elim (λ is. is)
        (λ s. absurd (true≢false (ap (λ (x : ℕ). x == 111) (sym (head-same b 111 u (((codes "bligation " ++ decimal (i + 1) ++ end_line) ++ nodes_text s.0) ++ (obligations_text (i + 1 + 1) s.1 ++ end_text)) s.5)) ∙ ap (begins_by 111) (sym e) ∙ other)))
        (cases i (b ∷ u) t)

-- bytes after the end
pub end-more : (i : ℕ) (bytes rest : List ℕ) → i < 2 ^ 32 → bytes ≡ end_text ++ rest → 0 < length rest → Refused (Obligations i) bytes (length rest)
end-more i bytes [] few parts some = absurd (omega (arith, some))
end-more i bytes (b ∷ rest) few parts some = (
  end_text,
  record { rest = b ∷ rest; parts = parts; begins = ([], ([], no-certs, omega (arith, few), refl)); stops = λ g. by g.0 (cases i (end_text ++ (b ∷ []) ++ g.0) g.1) },
  omega (arith, ap length parts, length-append end_text (b ∷ rest)),
)
  where
    by : (more : List ℕ) → Cases i ((end_text ++ b ∷ []) ++ more) → ⊥
    by more (inl e) = omega (arith, ap length e, length-append (end_text ++ b ∷ []) more)
    by more (inr s) = omega (arith, head-same 101 111 ((codes "nd\n" ++ b ∷ []) ++ more) (((codes "bligation " ++ decimal (i + 1) ++ end_line) ++ nodes_text s.0) ++ (obligations_text (i + 1 + 1) s.1 ++ end_text)) s.5)

-- one certificate more
pub certs-push : (cs : List (List CertNode)) (c : List CertNode) (i : ℕ) (bytes rest more : List ℕ) → length cs ≡ i → bytes ≡ obligations_text 1 cs ++ rest
    → rest ≡ (heading_text i ++ nodes_text c) ++ more → bytes ≡ obligations_text 1 (cs ++ c ∷ []) ++ more
certs-push cs c i bytes rest more size before here =
    before ∙ ap (λ (l : List ℕ). obligations_text 1 cs ++ l) here ∙ sym (append_assoc (obligations_text 1 cs) (heading_text i ++ nodes_text c) more)
    ∙ ap (λ (l : List ℕ). l ++ more) (ap (λ (n : ℕ). obligations_text 1 cs ++ cert_lines (n + 1) c) (sym size) ∙ sym (obligations-push cs 1 c))

pub heading-long : (i : ℕ) (c : List CertNode) (rest more : List ℕ) → rest ≡ (heading_text i ++ nodes_text c) ++ more → suc (length more) ≤ length rest
heading-long i c rest more here =
    omega (
      arith,
      ap length here,
      length-append (heading_text i ++ nodes_text c) more,
      length-append (heading_text i) (nodes_text c),
      length-append (codes "obligation " ++ decimal (i + 1)) end_line,
    )

-- one list of certificates to the end
certs-same : (i : ℕ) (cs ds : List (List CertNode)) → All IsCert cs → All IsCert ds → obligations_text i cs ++ end_text ≡ obligations_text i ds ++ end_text → cs ≡ ds
certs-same i [] [] all-c all-d e = refl
certs-same i [] (d ∷ ds) all-c all-d e =
    absurd (omega (arith, head-same 101 111 (codes "nd\n") ((((codes "bligation " ++ decimal i ++ end_line) ++ nodes_text d) ++ obligations_text (i + 1) ds) ++ end_text) e))
certs-same i (c ∷ cs) [] all-c all-d e =
    absurd (omega (arith, head-same 111 101 ((((codes "bligation " ++ decimal i ++ end_line) ++ nodes_text c) ++ obligations_text (i + 1) cs) ++ end_text) (codes "nd\n") e))
certs-same i (c ∷ cs) (d ∷ ds) all-c all-d e =
    let h : List ℕ = codes "obligation " ++ decimal i ++ end_line in
    let at = λ (ns : List CertNode) (more : List (List CertNode)).
    append_assoc (h ++ nodes_text ns) (obligations_text (i + 1) more) end_text ∙ append_assoc h (nodes_text ns) (obligations_text (i + 1) more ++ end_text) in
    let is-c = all-c 0 c (omega arith) in
    let is-d = all-d 0 d (omega arith) in
    let f = rows-free 1 c d (obligations_text (i + 1) cs ++ end_text) (obligations_text (i + 1) ds ++ end_text) is-c.0 is-d.0 is-c.1 is-d.1
    (append_cancel_left h (nodes_text c ++ (obligations_text (i + 1) cs ++ end_text)) (nodes_text d ++ (obligations_text (i + 1) ds ++ end_text))
    (sym (at c cs) ∙ e ∙ at d ds)) in
    ap (λ (ns : List CertNode). ns ∷ cs) f.0 ∙ ap (λ (ds : List (List CertNode)). d ∷ ds) (certs-same (i + 1) cs ds (All-tail IsCert c cs all-c) (All-tail IsCert d ds all-d) f.1)

-- the parts of a whole text

abbrev pub front1 : List ℕ
front1 = codes "ftv certificates 1\nset "

abbrev pub front2 : List ℕ → List ℕ
front2 name = front1 ++ (name ++ end_line)

abbrev pub front3 : List ℕ → List ℕ
front3 name = front2 name ++ codes "list "

abbrev pub front4 : List ℕ → ℕ → List ℕ
front4 name n = front3 name ++ (decimal n ++ end_line)

abbrev pub front5 : List ℕ → List (List ℤ) → List ℕ
front5 name ss = front4 name (length ss) ++ scans_text ss

abbrev pub tail5 : Spelled → List ℕ
tail5 c = obligations_text 1 c.certs ++ end_text

abbrev tail4 : Spelled → List ℕ
tail4 c = scans_text c.list ++ tail5 c

abbrev tail3 : Spelled → List ℕ
tail3 c = (decimal (length c.list) ++ end_line) ++ tail4 c

abbrev tail2 : Spelled → List ℕ
tail2 c = codes "list " ++ tail3 c

abbrev tail1 : Spelled → List ℕ
tail1 c = (c.set ++ end_line) ++ tail2 c

from5 : (c : Spelled) → text_of c ≡ front5 c.set c.list ++ tail5 c
from5 c =
    let a : List ℕ = ((front1 ++ c.set) ++ end_line) ++ codes "list " in
    let start : a ≡ front3 c.set = ap (λ (l : List ℕ). l ++ codes "list ") (append_assoc front1 c.set end_line) in
    let counted : (a ++ decimal (length c.list)) ++ end_line ≡ front4 c.set (length c.list) =
    append_assoc a (decimal (length c.list)) end_line ∙ ap (λ (l : List ℕ). l ++ (decimal (length c.list) ++ end_line)) start in
    let b : List ℕ = ((a ++ decimal (length c.list)) ++ end_line) ++ scans_text c.list in
    append_assoc (b ++ obligations_text 1 c.certs) (codes "end") end_line ∙ append_assoc b (obligations_text 1 c.certs) end_text
    ∙ ap (λ (l : List ℕ). (l ++ scans_text c.list) ++ tail5 c) counted

from4 : (c : Spelled) → text_of c ≡ front4 c.set (length c.list) ++ tail4 c
from4 c = from5 c ∙ append_assoc (front4 c.set (length c.list)) (scans_text c.list) (tail5 c)

from3 : (c : Spelled) → text_of c ≡ front3 c.set ++ tail3 c
from3 c = from4 c ∙ append_assoc (front3 c.set) (decimal (length c.list) ++ end_line) (tail4 c)

from2 : (c : Spelled) → text_of c ≡ front2 c.set ++ tail2 c
from2 c = from3 c ∙ append_assoc (front2 c.set) (codes "list ") (tail3 c)

from1 : (c : Spelled) → text_of c ≡ front1 ++ tail1 c
from1 c = from2 c ∙ append_assoc front1 (c.set ++ end_line) (tail2 c)

-- what a text holds that goes on from these bytes

after1 : (w : List ℕ) (c : Spelled) → Spells (front1 ++ w) c → w ≡ tail1 c
after1 w c s = append_cancel_left front1 w (tail1 c) (s.1 ∙ from1 c)

after2 : (name w : List ℕ) (c : Spelled) → is_name name ≡ true → Spells (front2 name ++ w) c → (name ≡ c.set) × (w ≡ tail2 c)
after2 name w c is s =
    let both : (name ++ end_line) ++ w ≡ (c.set ++ end_line) ++ tail2 c =
    append_cancel_left front1 ((name ++ end_line) ++ w) (tail1 c) (sym (append_assoc front1 (name ++ end_line) w) ∙ s.1 ∙ from1 c) in
    let f = same-span is_name_byte name c.set 10 10 w (tail2 c) (name-bytes name is) (name-bytes c.set s.0.named) refl refl
    (sym (append_assoc name end_line w) ∙ both ∙ append_assoc c.set end_line (tail2 c)) in
    (f.0, f.2)

after3 : (name w : List ℕ) (c : Spelled) → is_name name ≡ true → Spells (front3 name ++ w) c → (name ≡ c.set) × (w ≡ tail3 c)
after3 name w c is s =
    let f = after2 name (codes "list " ++ w) c is (s.0, sym (append_assoc (front2 name) (codes "list ") w) ∙ s.1) in
    (f.0, append_cancel_left (codes "list ") w (tail3 c) f.1)

after4 : (name : List ℕ) (n : ℕ) (w : List ℕ) (c : Spelled) → is_name name ≡ true → n < 2 ^ 32 → Spells (front4 name n ++ w) c
    → (name ≡ c.set) × (n ≡ length c.list) × (w ≡ tail4 c)
after4 name n w c is few s =
    let f = after3 name ((decimal n ++ end_line) ++ w) c is (s.0, sym (append_assoc (front3 name) (decimal n ++ end_line) w) ∙ s.1) in
    let g = numbers-free n (length c.list) 10 10 w (tail4 c) (omega (arith, few)) (omega (arith, s.0.few_scans)) refl refl
    (sym (append_assoc (decimal n) end_line w) ∙ f.1 ∙ append_assoc (decimal (length c.list)) end_line (tail4 c)) in
    (f.0, g.0, g.2)

after5 : (name : List ℕ) (ss : List (List ℤ)) (w : List ℕ) (c : Spelled) → is_name name ≡ true → All IsScan ss → length ss < 2 ^ 32 → Spells (front5 name ss ++ w) c
    → (name ≡ c.set) × (ss ≡ c.list) × (w ≡ tail5 c)
after5 name ss w c is all few s =
    let f = after4 name (length ss) (scans_text ss ++ w) c is few (s.0, sym (append_assoc (front4 name (length ss)) (scans_text ss) w) ∙ s.1) in
    let g = scans-free ss c.list w (tail5 c) f.1 all s.0.scans f.2 in
    (f.0, g.0, g.1)

-- one value for each text
pub spells-one : (w : List ℕ) (c d : Spelled) → Spells w c → Spells w d → c ≡ d
spells-one w c d a b =
    let f = after5 c.set c.list (tail5 c) d a.0.named a.0.scans a.0.few_scans (b.0, sym (from5 c) ∙ sym a.1 ∙ b.1) in
    let g : c.certs ≡ d.certs = certs-same 1 c.certs d.certs a.0.trees b.0.trees f.2 in
    ap (λ (n : List ℕ). record { set = n; list = c.list; certs = c.certs }) f.0 ∙ ap (λ (ss : List (List ℤ)). record { set = d.set; list = ss; certs = c.certs }) f.1
    ∙ ap (λ (cs : List (List CertNode)). record { set = d.set; list = d.list; certs = cs }) g

-- texts with no certificates, for what can come after a front

abbrev plain : List ℕ → List (List ℤ) → Spelled
plain name ss = record { set = name; list = ss; certs = [] }

plain-spells : (name : List ℕ) (ss : List (List ℤ)) → is_name name ≡ true → All IsScan ss → length ss < 2 ^ 32 → Spells (text_of (plain name ss)) (plain name ss)
plain-spells name ss is all few = (record { named = is; scans = all; few_scans = few; trees = no-certs; few_certs = omega arith }, refl)

no-scans : All IsScan []
no-scans k d l = absurd (omega (arith, l))

plain-name : is_name (codes "x") ≡ true
unfolding is_reserved_word reserved_words
plain-name = refl

-- a part that is stuck after a front
part-refused : (part : Texts) (front : List ℕ) → ((w : List ℕ) → part w → (more : List ℕ) × Whole (front ++ (w ++ more)))
    → ((w : List ℕ) → Whole (front ++ w) → (p q : List ℕ) × (w ≡ p ++ q) × part p)
    → (text rest : List ℕ) (left : ℕ) → text ≡ front ++ rest → Stuck part rest left → Refused Whole text left
part-refused part front goes begun text rest left at s =
    subst (λ (l : List ℕ). Refused Whole l left) (sym at)
    (refused-after Whole front rest left (stuck-refused (λ w. Whole (front ++ w)) rest left (stuck-first part (λ w. Whole (front ++ w)) goes begun rest left s)))

pub refused1 : (text : List ℕ) (left : ℕ) → Stuck (Word front1) text left → Refused Whole text left
refused1 text left s = part-refused (Word front1) [] goes (λ w t. (front1, tail1 t.0, t.1.1 ∙ from1 t.0, refl)) text text left refl s
  where
    goes : (w : List ℕ) → Word front1 w → (more : List ℕ) × Whole (w ++ more)
    goes w t =
        let c : Spelled = plain (codes "x") [] in
        (tail1 c, (c, subst (λ (l : List ℕ). Spells l c) (from1 c ∙ ap (λ (l : List ℕ). l ++ tail1 c) (sym t)) (plain-spells (codes "x") [] plain-name no-scans (omega arith))))

pub refused2 : (text rest : List ℕ) (left : ℕ) → text ≡ front1 ++ rest → Stuck NameLines rest left → Refused Whole text left
refused2 text rest left at s = part-refused NameLines front1 goes begun text rest left at s
  where
    goes : (w : List ℕ) → NameLines w → (more : List ℕ) × Whole (front1 ++ (w ++ more))
    goes w t =
        let c : Spelled = plain t.0 [] in
        (tail2 c, (c, subst (λ (l : List ℕ). Spells l c) (from1 c ∙ ap (λ (l : List ℕ). front1 ++ (l ++ tail2 c)) (sym t.2)) (plain-spells t.0 [] t.1 no-scans (omega arith))))

    begun : (w : List ℕ) → Whole (front1 ++ w) → (p q : List ℕ) × (w ≡ p ++ q) × NameLines p
    begun w t = (t.0.set ++ end_line, tail2 t.0, after1 w t.0 t.1, (t.0.set, t.1.0.named, refl))

pub refused3 : (text rest name : List ℕ) (left : ℕ) → is_name name ≡ true → text ≡ front2 name ++ rest → Stuck (Word (codes "list ")) rest left → Refused Whole text left
refused3 text rest name left is at s = part-refused (Word (codes "list ")) (front2 name) goes begun text rest left at s
  where
    goes : (w : List ℕ) → Word (codes "list ") w → (more : List ℕ) × Whole (front2 name ++ (w ++ more))
    goes w t =
        let c : Spelled = plain name [] in
        (tail3 c, (c, subst (λ (l : List ℕ). Spells l c) (from2 c ∙ ap (λ (l : List ℕ). front2 name ++ (l ++ tail3 c)) (sym t)) (plain-spells name [] is no-scans (omega arith))))

    begun : (w : List ℕ) → Whole (front2 name ++ w) → (p q : List ℕ) × (w ≡ p ++ q) × Word (codes "list ") p
    begun w t = (codes "list ", tail3 t.0, (after2 name w t.0 is t.1).1, refl)

pub refused4 : (text rest name : List ℕ) (left : ℕ) → is_name name ≡ true → text ≡ front3 name ++ rest → Stuck (Numbers 0 4294967295 (10 ∷ [])) rest left → Refused Whole text left
refused4 text rest name left is at s = part-refused (Numbers 0 4294967295 (10 ∷ [])) (front3 name) goes begun text rest left at s
  where
    goes : (w : List ℕ) → Numbers 0 4294967295 (10 ∷ []) w → (more : List ℕ) × Whole (front3 name ++ (w ++ more))
    goes w t =
        let z = some-scans t.0 in
        let c : Spelled = plain name z.0 in
        let lf : 10 ≡ t.1 = one-only 10 t.1 t.4 in
        let same : decimal (length z.0) ++ end_line ≡ w = ap (λ (n : ℕ). decimal n ++ end_line) z.1 ∙ ap (λ (b : ℕ). decimal t.0 ++ b ∷ []) lf ∙ sym t.5 in
        (tail4 c, (c, subst (λ (l : List ℕ). Spells l c) (from3 c ∙ ap (λ (l : List ℕ). front3 name ++ (l ++ tail4 c)) same) (plain-spells name z.0 is z.2 (omega (arith, z.1, t.3)))))

    begun : (w : List ℕ) → Whole (front3 name ++ w) → (p q : List ℕ) × (w ≡ p ++ q) × Numbers 0 4294967295 (10 ∷ []) p
    begun w t = (decimal (length t.0.list) ++ end_line, tail4 t.0, (after3 name w t.0 is t.1).1, (length t.0.list, 10, omega arith, omega (arith, t.1.0.few_scans), refl, refl))

pub refused5 : (text rest name : List ℕ) (n left : ℕ) → is_name name ≡ true → n < 2 ^ 32 → text ≡ front4 name n ++ rest → Stuck (Scans n) rest left → Refused Whole text left
refused5 text rest name n left is few at s = part-refused (Scans n) (front4 name n) goes begun text rest left at s
  where
    goes : (w : List ℕ) → Scans n w → (more : List ℕ) × Whole (front4 name n ++ (w ++ more))
    goes w t =
        let c : Spelled = plain name t.0 in (
          tail5 c,
          (
            c,
            subst (λ (l : List ℕ). Spells l c) (from4 c ∙ ap (λ (k : ℕ). front4 name k ++ tail4 c) t.1 ∙ ap (λ (l : List ℕ). front4 name n ++ (l ++ tail5 c)) (sym t.3))
                (plain-spells name t.0 is t.2 (omega (arith, t.1, few))),
          ),
        )

    begun : (w : List ℕ) → Whole (front4 name n ++ w) → (p q : List ℕ) × (w ≡ p ++ q) × Scans n p
    begun w t =
        let f = after4 name n w t.0 is few t.1 in
        (scans_text t.0.list, tail5 t.0, f.2, (t.0.list, sym f.1, t.1.0.scans, refl))

pub refused6 : (text rest name : List ℕ) (ss : List (List ℤ)) (left : ℕ) → is_name name ≡ true → All IsScan ss → length ss < 2 ^ 32 → text ≡ front5 name ss ++ rest
    → Refused (Obligations 0) rest left → Refused Whole text left
refused6 text rest name ss left is all few at r =
    subst (λ (l : List ℕ). Refused Whole l left) (sym at)
    (refused-after Whole (front5 name ss) rest left (refused-same (Obligations 0) (λ w. Whole (front5 name ss ++ w)) goes back rest left r))
  where
    goes : (w : List ℕ) → Obligations 0 w → Whole (front5 name ss ++ w)
    goes w t =
        let c : Spelled = record { set = name; list = ss; certs = t.0 } in
        (c, (record { named = is; scans = all; few_scans = few; trees = t.1; few_certs = omega (arith, t.2) }, ap (λ (l : List ℕ). front5 name ss ++ l) t.3 ∙ sym (from5 c)))

    back : (w : List ℕ) → Whole (front5 name ss ++ w) → Obligations 0 w
    back w t =
        let f = after5 name ss w t.0 is all few t.1 in
        (t.0.certs, t.1.0.trees, omega (arith, t.1.0.few_certs), f.2)

pub read-whole : (text rest name : List ℕ) (ss : List (List ℤ)) (cs : List (List CertNode)) → is_name name ≡ true → All IsScan ss → length ss < 2 ^ 32 → All IsCert cs → length cs < 2 ^ 32
    → text ≡ front5 name ss ++ rest → rest ≡ obligations_text 1 cs ++ end_text → Spells text (record { set = name; list = ss; certs = cs })
read-whole text rest name ss cs is all few trees short at ends = (
  record { named = is; scans = all; few_scans = few; trees = trees; few_certs = short },
  at ∙ ap (λ (l : List ℕ). front5 name ss ++ l) ends ∙ sym (from5 (record { set = name; list = ss; certs = cs })),
)

-- one part more was read

pub at-name : (text rest name more : List ℕ) → text ≡ front1 ++ rest → rest ≡ (name ++ end_line) ++ more → text ≡ front2 name ++ more
at-name text rest name more at e = at ∙ ap (λ (l : List ℕ). front1 ++ l) e ∙ sym (append_assoc front1 (name ++ end_line) more)

pub at-list : (text rest name more : List ℕ) → text ≡ front2 name ++ rest → rest ≡ codes "list " ++ more → text ≡ front3 name ++ more
at-list text rest name more at e = at ∙ ap (λ (l : List ℕ). front2 name ++ l) e ∙ sym (append_assoc (front2 name) (codes "list ") more)

pub at-count : (text rest name more : List ℕ) (n e : ℕ) → is_one_of (10 ∷ []) e ≡ true → text ≡ front3 name ++ rest → rest ≡ decimal n ++ e ∷ more → text ≡ front4 name n ++ more
at-count text rest name more n e one at is =
    at ∙ ap (λ (l : List ℕ). front3 name ++ l) (is ∙ ap (λ (b : ℕ). decimal n ++ b ∷ more) (sym (one-only 10 e one)) ∙ sym (append_assoc (decimal n) end_line more))
    ∙ sym (append_assoc (front3 name) (decimal n ++ end_line) more)

pub at-scans : (text rest name more : List ℕ) (n : ℕ) (ss : List (List ℤ)) → length ss ≡ n → text ≡ front4 name n ++ rest → rest ≡ scans_text ss ++ more → text ≡ front5 name ss ++ more
at-scans text rest name more n ss size at is =
    at ∙ ap (λ (k : ℕ). front4 name k ++ rest) (sym size) ∙ ap (λ (l : List ℕ). front4 name (length ss) ++ l) is ∙ sym (append_assoc (front4 name (length ss)) (scans_text ss) more)

-- a text of certificates is refused for want of memory alone
pub only-memory : (text : List ℕ) (c : Spelled) (e : CertText) → Spells text c → IsTextFault text e → e ≡ fault.NoMemory
only-memory text c fault.NoMemory s f = refl
only-memory text c (fault.Text place) s f = absurd (by f.0 f.1.rest f.1.parts f.1.stops)
  where
    by : (front rest : List ℕ) → text ≡ front ++ rest → Stops Whole front rest → ⊥
    by front [] parts stops = stops (c, subst (λ (l : List ℕ). Spells l c) (parts ∙ append-nil front) s)
    by front (b ∷ rest) parts stops = stops (rest, (c, subst (λ (l : List ℕ). Spells l c) (parts ∙ sym (append_assoc front (b ∷ []) rest)) s))

-- a text has a byte at least for each node

nodes-long : (ns : List CertNode) → length ns ≤ length (nodes_text ns)
nodes-long [] = omega arith
nodes-long (n ∷ ns) = omega (arith, length-append (node_text n ++ end_line) (nodes_text ns), nodes-long ns, node-long n)

cert-long : (cs : List (List CertNode)) (number i : ℕ) (ns : List CertNode) → slice_get cs i ≡ Some ns → length ns ≤ length (obligations_text number cs)
cert-long [] number i ns e = absurd (none-some ns e)
cert-long (c ∷ cs) number zero ns e =
    let here : c ≡ ns = same_Some c ns e in
    let h : List ℕ = codes "obligation " ++ decimal number ++ end_line in
    omega (arith, length-append (h ++ nodes_text c) (obligations_text (number + 1) cs), length-append h (nodes_text c), nodes-long c, ap length here)
cert-long (c ∷ cs) number (suc i) ns e =
    let h : List ℕ = codes "obligation " ++ decimal number ++ end_line in
    omega (arith, length-append (h ++ nodes_text c) (obligations_text (number + 1) cs), cert-long cs (number + 1) i ns e)

pub few-nodes : (text : List ℕ) (c : Certs) (i : ℕ) (t : Tree) → length text < 4294967295 → Spells text (spelled c) → slice_get c.certs i ≡ Some t → length (nodes_of t) < 2 ^ 32
few-nodes text c i t short s e =
    let there : slice_get (map nodes_of c.certs) i ≡ Some (nodes_of t) = slice_get-map nodes_of c.certs i ∙ ap (option_map nodes_of) e in
    let d : Spelled = spelled c in
    omega (
      arith,
      short,
      ap length (s.1 ∙ from5 d),
      length-append (front5 d.set d.list) (tail5 d),
      length-append (obligations_text 1 d.certs) end_text,
      cert-long d.certs 1 i (nodes_of t) there,
    )
