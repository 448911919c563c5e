-- The kinds of texts that a text of certificates is made of.
use Rattle.std.specs.Prelude.{ℕ, ◌+◌, ◌≡◌, ◌≤◌, ◌<◌, ◌^◌, ℤ, Bool, true, false, length, List, [], ◌∷◌, ◌++◌, ◌==◌, take, if◌then◌else◌, not, ◌&&◌, codes}
use Rattle.std.specs.List.{All, flat_map, list_any, prefix_len}
use Rattle.std.specs.Fmt.{decimal, signed_decimal}
use Rattle.ft_base.specs.Digits.{is_digit}
use Rattle.ft_base.specs.Names.{begins_by_letter, is_name, is_name_byte, is_reserved_word}
use Rattle.ft_cert.specs.declared.node.CertNode.{CertNode}
use Rattle.ft_cert.specs.prefix.Row.{are_trees}
use Rattle.ft_linear.specs.declared.lines.Line.{Line}
use Rattle.ft_linear.specs.declared.lines.Line.TheVariants.{Atom, Upper, Lower}
use Rattle.ft_certs.specs.meaning.Fault.{Texts}
use Rattle.ft_certs.specs.meaning.Text.{IsCert, IsLine, IsNode, IsScan, obligations_text, IsShort, end_line, line_text, node_text, nodes_text, scans_text}

-- one of these bytes
abbrev pub is_one_of : List ℕ → ℕ → Bool
is_one_of ends b = list_any (λ e. e == b) ends

-- there is one, and none is a digit
abbrev pub NoDigit : List ℕ → Type 0
NoDigit ends = (0 < length ends) × (list_any is_digit ends ≡ false)

-- these bytes
abbrev pub Word : List ℕ → Texts
Word word w = w ≡ word

-- one of these bytes
abbrev pub Ends : (ends : List ℕ) → Texts
Ends ends w = (end : ℕ) × (is_one_of ends end ≡ true) × (w ≡ end ∷ [])

-- a name, with LF after it
abbrev pub NameLines : Texts
NameLines w = (name : List ℕ) × (is_name name ≡ true) × (w ≡ name ++ end_line)

-- a number from `least` to `most`, with one of these bytes after it
abbrev pub Numbers : (least most : ℕ) → (ends : List ℕ) → Texts
Numbers least most ends w = (n : ℕ) × (end : ℕ) × (least ≤ n) × (n ≤ most) × (is_one_of ends end ≡ true) × (w ≡ decimal n ++ end ∷ [])

-- an item that can stand there, with one of these bytes after it
abbrev pub Items : {A : Type 0} → (A → Type 0) → (A → List ℕ) → (ends : List ℕ) → Texts
Items {A} can text ends w = (x : A) × (end : ℕ) × can x × (is_one_of ends end ≡ true) × (w ≡ text x ++ end ∷ [])

-- items, a mark before each, and LF after them all: what stands after the first mark or LF
abbrev pub Listed : {A : Type 0} → (A → Type 0) → (A → List ℕ) → (mark end : ℕ) → Texts
Listed {A} can text mark end w = (xs : List A) × All can xs × (end ∷ w ≡ flat_map (λ x. mark ∷ text x) xs ++ end_line)

-- a number of at most 18 digits with its sign, with one of these bytes after it
abbrev pub Signeds : (ends : List ℕ) → Texts
Signeds ends w = Items IsShort signed_decimal ends w

-- a line of a sum by the byte between its numbers
abbrev pub line_by : (kind times number : ℕ) → Line
line_by kind times number =
    if kind == 43 then Atom number true times
    else if kind == 45 then Atom number false times
    else if kind == 60 then Upper number times
    else Lower number times

-- a line of a sum, with a space or LF after it
abbrev pub SumLines : Texts
SumLines w = Items IsLine line_text (codes " \n") w

-- the lines of a sum after the first space or LF
abbrev pub Sums : (end : ℕ) → Texts
Sums end w = Listed IsLine line_text 32 end w

-- a number below 2^32 after a space, with one of these bytes after it
abbrev pub Fields : (ends : List ℕ) → Texts
Fields ends w = (n : ℕ) × (end : ℕ) × (n < 2 ^ 32) × (is_one_of ends end ≡ true) × (w ≡ 32 ∷ decimal n ++ end ∷ [])

-- the line of a node
abbrev pub NodeLines : Texts
NodeLines w = (n : CertNode) × IsNode n × (w ≡ node_text n ++ end_line)

-- the line of a node after its letter
abbrev pub NodeRests : (letter : ℕ) → Texts
NodeRests letter w = NodeLines (letter ∷ w)

-- so many trees, a line for each node
abbrev pub Rows : ℕ → Texts
Rows k w = (ns : List CertNode) × (are_trees k ns ≡ true) × All IsNode ns × (w ≡ nodes_text ns)

-- the values of a scan after the first mark or LF
abbrev pub Values : (end : ℕ) → Texts
Values end w = Listed IsShort signed_decimal 44 end w

-- so many scans, a line each
abbrev pub Scans : ℕ → Texts
Scans k w = (scans : List (List ℤ)) × (length scans ≡ k) × All IsScan scans × (w ≡ scans_text scans)

-- a certificate after its heading, with so many before it
abbrev pub heading_text : ℕ → List ℕ
heading_text i = codes "obligation " ++ decimal (i + 1) ++ end_line

abbrev pub Obligation : ℕ → Texts
Obligation i w = (ns : List CertNode) × IsCert ns × (w ≡ heading_text i ++ nodes_text ns)

-- the certificates after so many, to the end of the text
abbrev pub Obligations : ℕ → Texts
Obligations i w = (cs : List (List CertNode)) × All IsCert cs × (i + length cs < 2 ^ 32) × (w ≡ obligations_text (i + 1) cs ++ codes "end\n")

-- whether the bytes begin so
abbrev pub begins_by : ℕ → List ℕ → Bool
begins_by c [] = false
begins_by c (b ∷ more) = b == c

-- how many of the bytes a name may have, from the front on
abbrev pub name_len : List ℕ → ℕ
name_len bytes = if begins_by_letter bytes then prefix_len is_name_byte (take 40 bytes) else 0

-- a front of a name is one itself
abbrev pub can_end : List ℕ → Bool
can_end front = not (length front == 0) && not (is_reserved_word front)
