-- The first fault among places in the order of a text, and what an answer to the question for it says.
use Rattle.std.specs.Prelude.{◌≡◌, List, [], ◌∷◌, Option, Some, None, Result, Ok, Err}
use Rattle.std.specs.Option.{option_or}
use Rattle.ft_names.specs.declared.stop.Stop.{Stop}
use Rattle.ft_names.specs.declared.stop.Stop.TheVariants.{Fault, NoMemory}

-- what the first of these places that has a fault answers
abbrev pub first_of : {X Y : Type 0} → (X → Option Y) → List X → Option Y
first_of test [] = None
first_of test (x ∷ xs) = option_or (test x) (first_of test xs)

-- Ok exactly where there is no fault, and else exactly the first; want of memory says nothing of it
abbrev pub Answers : {A F : Type 0} → Result A (Stop F) → Option F → Type 0
Answers (Ok _) first = first ≡ None
Answers (Err (Fault fault)) first = first ≡ Some fault
Answers (Err NoMemory) first = Unit {0}
