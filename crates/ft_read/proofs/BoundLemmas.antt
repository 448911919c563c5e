-- Bounds and `init` values.
use Rattle.std.proofs.Common.{◌≡◌, ap, false, Option, Some, None}
use Rattle.ft_tree.specs.declared.item.Bound.{Bound}
use Rattle.ft_tree.specs.declared.item.Number.{Number}
use Rattle.ft_tree.specs.declared.item.Plain.TheVariants as plain
use Rattle.ft_tree.specs.declared.item.Word.{Word}
use Rattle.ft_read.specs.meaning.Lexeme.{Lexeme, as_name, as_number}
use Rattle.ft_read.specs.parsers.Cursor.{ReadsAs}
use Rattle.ft_read.specs.meaning.Choices.{as_plain}
use Rattle.ft_read.proofs.SimpleLemmas.{first-is, other-is}

abbrev of-number : Number → Bound
of-number n = record { minus = false; value = plain.Number n.value; place = n.place }

abbrev of-name : Word → Bound
of-name w = record { minus = false; value = plain.Name w.text; place = w.place }

abbrev names : Lexeme → Option Bound
names l = elim (as_name l) [ None ↦ None | Some w ↦ Some (of-name w) ]

named : (l : Lexeme) (found : Option Word) → found ≡ as_name l → elim found [ None ↦ None | Some w ↦ Some (of-name w) ] ≡ names l
named l found e = ap (λ (o : Option Word). elim o [ None ↦ None | Some w ↦ Some (of-name w) ]) e

pub plain_number : (l : Lexeme) (n : Number) → ReadsAs as_number l (Some n)
    → ReadsAs as_plain l (Some (record { minus = false; value = plain.Number n.value; place = n.place }))
plain_number l n h = first-is as_number of-number names l n h

pub plain_name : (l : Lexeme) (w : Word) → ReadsAs as_number l None → Some w ≡ as_name l
    → ReadsAs as_plain l (Some (record { minus = false; value = plain.Name w.text; place = w.place }))
plain_name l w h e = other-is as_number of-number names l (Some (of-name w)) h (named l _ e)

pub plain_none : (l : Lexeme) → ReadsAs as_number l None → None ≡ as_name l → ReadsAs as_plain l None
plain_none l h e = other-is as_number of-number names l None h (named l _ e)

pub ruleset plains = (plain_number, plain_name, plain_none)
