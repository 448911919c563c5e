-- What is known of a truth, and of the truth of parts that are all asked for, or one of them.
use Rattle.std.specs.Prelude.{ℕ, Bool, true, false, not, List, nat_eq, nat_lt, if◌then◌else◌}
use Rattle.std.specs.List.{list_all, list_any}
use Rattle.ft_base.specs.declared.three.Three.{Three}
use Rattle.ft_base.specs.declared.three.Three.TheVariants.{No, Maybe, Yes}

abbrev pub is_no : Three → Bool
is_no No = true
is_no Maybe = false
is_no Yes = false

abbrev pub is_yes : Three → Bool
is_yes No = false
is_yes Maybe = false
is_yes Yes = true

abbrev pub three_not : Three → Three
three_not No = Yes
three_not Maybe = Maybe
three_not Yes = No

abbrev pub three_all : List Three → Three
three_all values = if list_any is_no values then No else if list_all is_yes values then Yes else Maybe

abbrev pub three_any : List Three → Three
three_any values = if list_any is_yes values then Yes else if list_all is_no values then No else Maybe

-- the truth may still be what is wanted
abbrev pub can_be : Bool → Three → Bool
can_be true value = not (is_no value)
can_be false value = not (is_yes value)

-- the same by the numbers of No, of Yes and of all among the parts
abbrev pub all_by : ℕ → ℕ → ℕ → Three
all_by no_count yes_count parts = if nat_lt 0 no_count then No else if nat_eq yes_count parts then Yes else Maybe

abbrev pub any_by : ℕ → ℕ → ℕ → Three
any_by no_count yes_count parts = if nat_lt 0 yes_count then Yes else if nat_eq no_count parts then No else Maybe
