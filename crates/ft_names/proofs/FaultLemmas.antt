-- The kinds of faults of names, one after another.
use Rattle.std.proofs.Common.{◌≡◌, ◌∙◌, sym, ap, subst, refl, inl, inr, List, Option, None}
use Rattle.std.specs.Prelude.{Err}
use Rattle.std.specs.Option.{option_or}
use Rattle.ft_tree.specs.declared.item.Item.{Item}
use Rattle.ft_names.specs.declared.stop.Stop.{Stop}
use Rattle.ft_names.specs.declared.stop.Stop.TheVariants.{Fault, NoMemory}
use Rattle.ft_names.specs.declared.fault.NameFault.{NameFault}
use Rattle.ft_names.specs.meaning.First.{Answers, first_of}
use Rattle.ft_names.specs.meaning.Declared.{Listing, listing, names_in}
use Rattle.ft_names.specs.meaning.Spots.{spots}
use Rattle.ft_names.specs.meaning.Unknown.{unknown_spot}
use Rattle.ft_names.specs.meaning.NameFaults.{AnswersNames, duplicate, name_fault, no_variable, stopped, unknown_name}

-- an unknown name where the other kinds don't occur
pub unknown-stops : (stop : Stop NameFault) (items : List Item) (names : Listing) → no_variable items ≡ None → duplicate items ≡ None
    → names ≡ listing 0 items → Answers {A = Unit {0}} (Err stop) (first_of (unknown_spot (names_in names)) (spots items))
    → Answers {A = Unit {0}} (Err stop) (name_fault items)
unknown-stops stop items names enough differ is found =
    subst (Answers {A = Unit {0}} (Err stop))
    (sym (ap (λ o. option_or o (option_or (duplicate items) (unknown_name items))) enough
    ∙ ap (λ o. option_or o (unknown_name items)) differ))
    (subst (λ (list : Listing). Answers {A = Unit {0}} (Err stop) (first_of (unknown_spot (names_in list)) (spots items))) is found)

-- the same answer with want of memory among the faults
pub answers-stopped : (stop : Stop NameFault) (first : Option NameFault) → Answers {A = Unit {0}} (Err stop) first
    → AnswersNames {A = Unit {0}} (Err (stopped stop)) first
answers-stopped (Fault fault) first found = inr found
answers-stopped NoMemory first found = inl refl
