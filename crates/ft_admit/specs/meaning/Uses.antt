-- Names after `uses` that are those of no invariant.
use Rattle.std.specs.Prelude.{Bool, true, false, List, Option, Some, None, if◌then◌else◌}
use Rattle.ft_tree.specs.declared.item.Item.{Item}
use Rattle.ft_tree.specs.declared.item.Word.{Word}
use Rattle.ft_names.specs.declared.card.Card.{Card}
use Rattle.ft_names.specs.declared.card.Card.TheVariants.{Invariant}
use Rattle.ft_names.specs.declared.walk.Role.{Role}
use Rattle.ft_names.specs.declared.walk.Role.TheVariants as role
use Rattle.ft_names.specs.meaning.Cards.{Env, env_of}
use Rattle.ft_names.specs.meaning.First.{first_of}
use Rattle.ft_names.specs.meaning.Spots.{Spot, spots, named, bound, initial, condition, number, term_for}
use Rattle.ft_admit.specs.declared.fault.TypeFault.{TypeFault}
use Rattle.ft_admit.specs.declared.fault.TypeFault.TheVariants.{UnknownInvariant}

abbrev pub is_invariant : Option Card → Bool
is_invariant (Some (Invariant block fact)) = true
is_invariant _ = false

-- a name that nothing declares, or that is declared as something else
abbrev pub use_fault : Env → Word → Option TypeFault
use_fault env word = if is_invariant (env word.text) then None else Some (UnknownInvariant word.text word.place)

abbrev pub use_word : Env → Role → Word → Option TypeFault
use_word env role.TypeName word = None
use_word env (role.Target section) word = None
use_word env role.Taken word = None
use_word env role.Used word = use_fault env word
use_word env role.Goal word = None

abbrev pub use_spot : Env → Spot → Option TypeFault
use_spot env (named r word) = use_word env r word
use_spot env (bound b) = None
use_spot env (initial of b) = None
use_spot env (condition site e) = None
use_spot env (number site e) = None
use_spot env (term_for site word e) = None

-- the first in the text
abbrev pub first_unknown_invariant : List Item → Option TypeFault
first_unknown_invariant items = first_of (use_spot (env_of items)) (spots items)
