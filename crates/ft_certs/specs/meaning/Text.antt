-- The text of certificates: one spelling for each value. This project's own.
use Rattle.std.specs.Prelude.{ℕ, ℤ, ◌+◌, ◌≡◌, ◌<◌, ◌^◌, unsigned_abs, true, if◌then◌else◌, List, [], ◌∷◌, ◌++◌, length, map, codes}
use Rattle.std.specs.List.{All, flat_map}
use Rattle.std.specs.Fmt.{decimal, signed_decimal}
use Rattle.ft_base.specs.Names.{is_name}
use Rattle.ft_linear.specs.declared.lines.Line.{Line}
use Rattle.ft_linear.specs.declared.lines.Line.TheVariants.{Atom, Upper, Lower}
use Rattle.ft_cert.specs.declared.node.CertNode.{CertNode}
use Rattle.ft_cert.specs.declared.node.CertNode.TheVariants as node
use Rattle.ft_cert.specs.meaning.Tree.{nodes_of}
use Rattle.ft_cert.specs.prefix.Row.{are_trees}
use Rattle.ft_certs.specs.declared.certs.Certs.{Certs}

-- what a text spells: the set's name, the scans of a list, and the nodes of each certificate in prefix order
pub record Spelled : Type 0 where
  pub set : List ℕ
  pub list : List (List ℤ)
  pub certs : List (List CertNode)

-- certificates, each by its nodes
abbrev pub spelled : Certs → Spelled
spelled c = record { set = c.set; list = c.list; certs = map nodes_of c.certs }

abbrev pub end_line : List ℕ
end_line = 10 ∷ []

-- a line of a sum: its multiplier, and the atom that is true, the atom that is false, or the unknown's upper or lower bound
abbrev pub line_text : Line → List ℕ
line_text (Atom number value times) = decimal times ++ (if value then codes "+" else codes "-") ++ decimal number
line_text (Upper unknown times) = decimal times ++ codes "<" ++ decimal unknown
line_text (Lower unknown times) = decimal times ++ codes ">" ++ decimal unknown

abbrev pub lines_text : List Line → List ℕ
lines_text lines = flat_map (λ line. codes " " ++ line_text line) lines

abbrev pub node_text : CertNode → List ℕ
node_text node.F = codes "F"
node_text node.L = codes "L"
node_text (node.S lines) = codes "S" ++ lines_text lines
node_text (node.R unknown value) = codes "R " ++ decimal unknown ++ codes " " ++ signed_decimal value
node_text (node.C atom) = codes "C " ++ decimal atom
node_text (node.T unknown lines) = codes "T " ++ decimal unknown ++ lines_text lines

abbrev pub nodes_text : List CertNode → List ℕ
nodes_text nodes = flat_map (λ n. node_text n ++ end_line) nodes

-- the values of a scan, with a comma between two
abbrev pub values_text : List ℤ → List ℕ
values_text [] = []
values_text (v ∷ vs) = signed_decimal v ++ flat_map (λ w. codes "," ++ signed_decimal w) vs

abbrev pub scans_text : List (List ℤ) → List ℕ
scans_text scans = flat_map (λ scan. values_text scan ++ end_line) scans

-- the certificates of the obligations from a number on
abbrev pub obligations_text : ℕ → List (List CertNode) → List ℕ
obligations_text number [] = []
obligations_text number (nodes ∷ more) = (codes "obligation " ++ decimal number ++ end_line ++ nodes_text nodes) ++ obligations_text (number + 1) more

abbrev pub text_of : Spelled → List ℕ
text_of c = codes "ftv certificates 1" ++ end_line
    ++ codes "set " ++ c.set ++ end_line
    ++ codes "list " ++ decimal (length c.list) ++ end_line
    ++ scans_text c.list
    ++ obligations_text 1 c.certs
    ++ codes "end" ++ end_line

-- at most 18 digits
abbrev pub IsShort : ℤ → Type 0
IsShort v = unsigned_abs v < 10 ^ 18

abbrev pub IsScan : List ℤ → Type 0
IsScan scan = (0 < length scan) × All IsShort scan

abbrev pub IsLine : Line → Type 0
IsLine (Atom number value times) = (number < 2 ^ 32) × (times < 2 ^ 64)
IsLine (Upper unknown times) = (unknown < 2 ^ 32) × (times < 2 ^ 64)
IsLine (Lower unknown times) = (unknown < 2 ^ 32) × (times < 2 ^ 64)

abbrev pub IsNode : CertNode → Type 0
IsNode node.F = Unit {0}
IsNode node.L = Unit {0}
IsNode (node.S lines) = All IsLine lines
IsNode (node.R unknown value) = (unknown < 2 ^ 32) × IsShort value
IsNode (node.C atom) = atom < 2 ^ 32
IsNode (node.T unknown lines) = (unknown < 2 ^ 32) × All IsLine lines

-- the nodes are one whole tree
abbrev pub IsCert : List CertNode → Type 0
IsCert nodes = (are_trees 1 nodes ≡ true) × All IsNode nodes

-- what has a text: the numbers have room in it, and the name is one
pub record CanSpell (c : Spelled) : Type 0 where
  pub named : is_name c.set ≡ true
  pub scans : All IsScan c.list
  pub few_scans : length c.list < 2 ^ 32
  pub trees : All IsCert c.certs
  pub few_certs : length c.certs < 2 ^ 32

-- the bytes spell it
abbrev pub Spells : List ℕ → Spelled → Type 0
Spells bytes c = CanSpell c × (bytes ≡ text_of c)
