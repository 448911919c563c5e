-- The text of certificates, one at a time.
use Rattle.std.proofs.Common.{◌≡◌, ◌∙◌, sym, ap, ℕ, ◌+◌, ◌<◌, List, [], ◌∷◌, ◌++◌, length, map, take, get_or, arith, append_assoc, append-nil}
use Rattle.std.specs.Prelude.{codes}
use Rattle.std.specs.Fmt.{decimal}
use Rattle.std.proofs.lemmas.List.{length-map, length-take-le, map_more}
use Rattle.ft_cert.specs.declared.node.CertNode.{CertNode}
use Rattle.ft_cert.specs.meaning.Tree.{Tree, nodes_of}
use Rattle.ft_certs.specs.meaning.Text.{end_line, nodes_text, obligations_text}

-- the lines of a certificate with its number
abbrev pub cert_lines : ℕ → List CertNode → List ℕ
cert_lines number nodes = codes "obligation " ++ decimal number ++ end_line ++ nodes_text nodes

pub obligations-push : (cs : List (List CertNode)) (number : ℕ) (c : List CertNode)
    → obligations_text number (cs ++ c ∷ []) ≡ obligations_text number cs ++ cert_lines (length cs + number) c
obligations-push [] number c =
    let same : 0 + number ≡ number = omega arith in
    append-nil (cert_lines number c) ∙ ap (λ (n : ℕ). cert_lines n c) (sym same)
obligations-push (d ∷ cs) number c =
    let same : length cs + (number + 1) ≡ length (d ∷ cs) + number = omega arith in
    ap (λ (t : List ℕ). cert_lines number d ++ t) (obligations-push cs (number + 1) c ∙ ap (λ (n : ℕ). obligations_text (number + 1) cs ++ cert_lines n c) same)
    ∙ sym (append_assoc (cert_lines number d) (obligations_text (number + 1) cs) (cert_lines (length (d ∷ cs) + number) c))

-- one certificate more of a list of trees
pub one-more : (ts : List Tree) (i : ℕ) (t : Tree) (d : Tree) (text : List ℕ) → i < length ts → t ≡ get_or ts i d
    → text ≡ obligations_text 1 (map nodes_of (take i ts))
    → text ++ cert_lines (i + 1) (nodes_of t) ≡ obligations_text 1 (map nodes_of (take (i + 1) ts))
one-more ts i t d text within is so =
    let count : length (map nodes_of (take i ts)) ≡ i = length-map (take i ts) nodes_of ∙ length-take-le i ts (omega (arith, within)) in
    ap (λ (x : List ℕ). x ++ cert_lines (i + 1) (nodes_of t)) so
    ∙ sym (ap (obligations_text 1) (map_more nodes_of ts i d within ∙ ap (λ (u : Tree). map nodes_of (take i ts) ++ nodes_of u ∷ []) (sym is))
    ∙ obligations-push (map nodes_of (take i ts)) 1 (nodes_of t)
    ∙ ap (λ (n : ℕ). obligations_text 1 (map nodes_of (take i ts)) ++ cert_lines (n + 1) (nodes_of t)) count)
