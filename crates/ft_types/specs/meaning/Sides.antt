-- What may be read where.
use Rattle.std.specs.Prelude.{ℕ, Bool, true, false, not, List, Option, Some, None, codes, if◌then◌else◌}
use Rattle.ft_base.specs.declared.place.Place.{Place}
use Rattle.ft_names.specs.declared.card.Card.{Card}
use Rattle.ft_names.specs.declared.card.Card.TheVariants.{Variable, Memory}
use Rattle.ft_tree.specs.declared.expr.Expr.{Expr, Expr-F, out-Expr}
use Rattle.ft_tree.specs.declared.expr.Expr.TheOpen as layer
use Rattle.ft_types.specs.declared.fault.ItemFault.{ItemFault}
use Rattle.ft_types.specs.declared.fault.ItemFault.TheVariants.{WrongSide}
use Rattle.ft_tree.specs.declared.item.VarWord.{VarWord}
use Rattle.ft_tree.specs.declared.item.VarWord.TheVariants as word
use Rattle.ft_tree.specs.declared.item.SectionWord.{SectionWord}
use Rattle.ft_tree.specs.declared.item.SectionWord.TheVariants as section
use Rattle.ft_names.specs.declared.site.Site.{Site}
use Rattle.ft_names.specs.declared.site.Site.TheVariants.{First, Always, Step, In, Req, Sof, Out, Shows}
use Rattle.ft_names.specs.declared.walk.Role.{Role}
use Rattle.ft_names.specs.declared.walk.Role.TheVariants as role
use Rattle.ft_names.specs.declared.asked.Asked.TheVariants.{Anything}
use Rattle.ft_names.specs.meaning.Cards.{Env}
use Rattle.ft_names.specs.meaning.Parts.{first_part}
use Rattle.ft_names.specs.meaning.Spots.{Spot, named, bound, initial, condition, number, term_for}

abbrev pub has_prev : Site → Bool
has_prev Step = true
has_prev Req = true
has_prev Sof = true
has_prev First = false
has_prev Always = false
has_prev In = false
has_prev Out = false
has_prev Shows = false

abbrev pub has_age : Site → Bool
has_age Shows = true
has_age _ = false

abbrev pub is_monitored : VarWord → Bool
is_monitored word.Mon = true
is_monitored _ = false

abbrev pub is_output : VarWord → Bool
is_output word.Output = true
is_output _ = false

-- a variable of the requirement side
abbrev pub is_required : VarWord → Bool
is_required word.Mon = true
is_required word.Con = true
is_required word.ReqVar = true
is_required _ = false

-- a variable of the design side
abbrev pub is_designed : VarWord → Bool
is_designed word.Input = true
is_designed word.Output = true
is_designed word.SofVar = true
is_designed _ = false

-- a variable of this kind may be read there
abbrev pub reads : Site → VarWord → Bool
reads First kind = is_monitored kind
reads Always kind = is_monitored kind
reads Step kind = is_monitored kind
reads In kind = is_monitored kind
reads Req kind = is_required kind
reads Sof kind = is_designed kind
reads Out kind = is_output kind
reads Shows kind = true

abbrev pub same_section_word : SectionWord → SectionWord → Bool
same_section_word section.In section.In = true
same_section_word section.Req section.Req = true
same_section_word section.Sof section.Sof = true
same_section_word section.Out section.Out = true
same_section_word _ _ = false

-- a memory of this side may be read there
abbrev pub remembers : Site → SectionWord → Bool
remembers Req side = same_section_word side section.Req
remembers Sof side = same_section_word side section.Sof
remembers Shows side = true
remembers First side = false
remembers Always side = false
remembers Step side = false
remembers In side = false
remembers Out side = false

-- a name may be read there, as far as it is that of a variable or memory
abbrev pub may_read : Site → Option Card → Bool
may_read site (Some (Variable place kind values)) = reads site kind
may_read site (Some (Memory place side hold)) = remembers site side
may_read site _ = true

abbrev pub wrong_name : List ℕ → Place → (allowed : Bool) → Option ItemFault
wrong_name name place allowed = if allowed then None else Some (WrongSide name place)

-- `prev` or `age` where it may not stand, and else the name in its parentheses where that may not be read
abbrev pub wrong_history : Env → Site → (allowed : Bool) → (word name : List ℕ) → Place → Option ItemFault
wrong_history env site allowed word name place =
    if allowed then wrong_name name place (may_read site (env name)) else Some (WrongSide word place)

abbrev pub layer_wrong_side : {X : Type 0} → Env → Site → Expr-F X → Option ItemFault
layer_wrong_side env site (layer.Name name place) = wrong_name name place (may_read site (env name))
layer_wrong_side env site (layer.Prev name place) = wrong_history env site (has_prev site) (codes "prev") name place
layer_wrong_side env site (layer.Age name place) = wrong_history env site (has_age site) (codes "age") name place
layer_wrong_side env site (layer.Num value place) = None
layer_wrong_side env site (layer.Truth value place) = None
layer_wrong_side env site (layer.Not of place) = None
layer_wrong_side env site (layer.Neg of place) = None
layer_wrong_side env site (layer.Two op left right place) = None

-- the fault of an expression that reads, by itself, what may not be read there
unfoldable pub wrong_side : Env → Site → Expr → Option ItemFault
wrong_side env site e = layer_wrong_side env site (out-Expr e)

abbrev pub side_in : Env → Site → Expr → Option ItemFault
side_in env site e = first_part (λ _. wrong_side env site) Anything e

-- the tables of a section define variables of this kind
abbrev pub defines : SectionWord → VarWord → Bool
defines section.In word.Input = true
defines section.Req word.Con = true
defines section.Req word.ReqVar = true
defines section.Sof word.Output = true
defines section.Sof word.SofVar = true
defines section.Out word.Con = true
defines _ _ = false

abbrev pub may_define : SectionWord → Option Card → Bool
may_define s (Some (Variable place kind values)) = defines s kind
may_define s _ = true

-- a monitored or input variable is given, and no block takes it
abbrev pub is_given : VarWord → Bool
is_given word.Mon = true
is_given word.Input = true
is_given _ = false

abbrev pub may_take : Option Card → Bool
may_take (Some (Variable place kind values)) = not (is_given kind)
may_take _ = true

-- a name may be used so, as far as its side goes
abbrev pub may_use : Role → Option Card → Bool
may_use (role.Target s) card = may_define s card
may_use role.Taken card = may_take card
may_use role.TypeName card = true
may_use role.Used card = true
may_use role.Goal card = true

-- the first fault of the wrong side at a place of the text
abbrev pub side_spot : Env → Spot → Option ItemFault
side_spot env (named r w) = wrong_name w.text w.place (may_use r (env w.text))
side_spot env (bound b) = None
side_spot env (initial of b) = None
side_spot env (condition site e) = side_in env site e
side_spot env (number site e) = side_in env site e
side_spot env (term_for site w e) = side_in env site e
