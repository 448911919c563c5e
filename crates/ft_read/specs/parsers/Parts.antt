-- Reading words, signs, names, numbers, bounds and kinds from left to right.
use Rattle.std.specs.Prelude.{ℕ, true, false, List, codes}
use Rattle.ft_base.specs.declared.place.Place.{Place}
use Rattle.ft_tree.specs.declared.item.Word.{Word}
use Rattle.ft_tree.specs.declared.item.Number.{Number}
use Rattle.ft_tree.specs.declared.item.Bound.{Bound}
use Rattle.ft_tree.specs.declared.item.Kind.{Kind}
use Rattle.ft_tree.specs.declared.item.Plain.TheVariants as plain
use Rattle.ft_tree.specs.declared.item.Kind.TheVariants as kind
use Rattle.ft_read.specs.meaning.Lexeme.{as_name, as_number, as_sign, as_word}
use Rattle.ft_read.specs.meaning.Limit.{no_pass, lexical_passes}
use Rattle.ft_read.specs.parsers.Combinators.{Parser, can, alternative_by, give, read_token, ◌▶◌}
use Rattle.ft_read.specs.meaning.Choices.{as_plain, as_truth}

unfoldable pub word_by : List ℕ → Parser Place
word_by text = read_token (as_word text) no_pass

unfoldable pub sign_by : List ℕ → Parser Place
sign_by text = read_token (as_sign text) no_pass

unfoldable pub number_by : Parser Number
number_by = read_token as_number lexical_passes

unfoldable pub name_by : Parser Word
name_by = read_token as_name lexical_passes

unfoldable pub plain_bound_by : Parser Bound
plain_bound_by = read_token as_plain lexical_passes

unfoldable pub minus_bound_by : Parser Bound
minus_bound_by = sign_by (codes "-") ▶ λ place. plain_bound_by ▶ λ b. give (record { minus = true; value = b.value; place = place })

unfoldable pub bound_by : Parser Bound
bound_by = alternative_by (can (as_sign (codes "-"))) minus_bound_by plain_bound_by

unfoldable pub value_by : Parser Bound
value_by = alternative_by (can as_truth) (read_token as_truth no_pass) bound_by

unfoldable pub upper_by : Parser Bound
upper_by = sign_by (codes "..") ▶ λ _. bound_by

unfoldable pub kind_of_name_by : Word → Parser Kind
kind_of_name_by w = alternative_by (can (as_sign (codes "..")))
    (upper_by ▶ λ hi. give (kind.Range (record { minus = false; value = plain.Name w.text; place = w.place }) hi)) (give (kind.Named w))

unfoldable pub range_after_by : Bound → Parser Kind
range_after_by lo = upper_by ▶ λ hi. give (kind.Range lo hi)

unfoldable pub number_bound_by : Parser Bound
number_bound_by = number_by ▶ λ n. give (record { minus = false; value = plain.Number n.value; place = n.place })

unfoldable pub kind_part_by : Parser Kind
kind_part_by =
    alternative_by (can (as_word (codes "bool"))) (word_by (codes "bool") ▶ λ _. give kind.Bool)
    (alternative_by (can as_name) (name_by ▶ kind_of_name_by)
    (alternative_by (can (as_sign (codes "-"))) minus_bound_by number_bound_by ▶ range_after_by))
