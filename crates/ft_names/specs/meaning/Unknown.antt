-- Names that are used and that nothing declares.
use Rattle.std.specs.Prelude.{ℕ, List, Option, Some, None, if◌then◌else◌}
use Rattle.ft_base.specs.declared.place.Place.{Place}
use Rattle.ft_tree.specs.declared.expr.Expr.{Expr, Expr-F, out-Expr}
use Rattle.ft_tree.specs.declared.expr.Expr.TheOpen as layer
use Rattle.ft_tree.specs.declared.item.Word.{Word}
use Rattle.ft_tree.specs.declared.item.Plain.{Plain}
use Rattle.ft_tree.specs.declared.item.Plain.TheVariants as plain
use Rattle.ft_names.specs.declared.asked.Asked.TheVariants.{Anything}
use Rattle.ft_names.specs.declared.fault.NameFault.{NameFault}
use Rattle.ft_names.specs.declared.fault.NameFault.TheVariants.{UnknownName}
use Rattle.ft_names.specs.declared.walk.Role.{Role}
use Rattle.ft_names.specs.declared.walk.Role.TheVariants as role
use Rattle.ft_names.specs.meaning.Declared.{is_among}
use Rattle.ft_names.specs.meaning.Parts.{first_part}
use Rattle.ft_names.specs.meaning.Spots.{Spot, named, bound, initial, condition, number, term_for}

-- a name that is none of the declared ones
abbrev pub unknown : List (List ℕ) → List ℕ → Place → Option NameFault
unknown names name place = if is_among names name then None else Some (UnknownName name place)

-- what `uses` names is asked for later, as an invariant
abbrev pub unknown_word : List (List ℕ) → Role → Word → Option NameFault
unknown_word names role.TypeName word = unknown names word.text word.place
unknown_word names (role.Target section) word = unknown names word.text word.place
unknown_word names role.Taken word = unknown names word.text word.place
unknown_word names role.Used word = None
unknown_word names role.Goal word = unknown names word.text word.place

abbrev pub unknown_plain : List (List ℕ) → Place → Plain → Option NameFault
unknown_plain names place (plain.Name name) = unknown names name place
unknown_plain names place (plain.Number value) = None
unknown_plain names place (plain.Truth value) = None

abbrev pub unknown_layer : {X : Type 0} → List (List ℕ) → Expr-F X → Option NameFault
unknown_layer names (layer.Name name place) = unknown names name place
unknown_layer names (layer.Prev name place) = unknown names name place
unknown_layer names (layer.Age name place) = unknown names name place
unknown_layer names (layer.Num value place) = None
unknown_layer names (layer.Truth value place) = None
unknown_layer names (layer.Not of place) = None
unknown_layer names (layer.Neg of place) = None
unknown_layer names (layer.Two op left right place) = None

-- an expression that itself is an unknown name, also in the parentheses of `prev` or `age`
unfoldable pub unknown_part : List (List ℕ) → Expr → Option NameFault
unknown_part names e = unknown_layer names (out-Expr e)

abbrev pub unknown_in : List (List ℕ) → Expr → Option NameFault
unknown_in names e = first_part (λ _. unknown_part names) Anything e

-- the first unknown name at a place of the text
abbrev pub unknown_spot : List (List ℕ) → Spot → Option NameFault
unknown_spot names (named r word) = unknown_word names r word
unknown_spot names (bound b) = unknown_plain names b.place b.value
unknown_spot names (initial of b) = unknown_plain names b.place b.value
unknown_spot names (condition site e) = unknown_in names e
unknown_spot names (number site e) = unknown_in names e
unknown_spot names (term_for site word e) = unknown_in names e
