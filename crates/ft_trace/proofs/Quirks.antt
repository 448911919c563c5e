-- What csv makes of quotes, line ends, blank lines and a byte order mark, and what fields spell, computed from the definitions.
use Rattle.std.proofs.Common.{◌≡◌, refl, pos, negsuc, [], ◌∷◌, ◌++◌, Some, None, codes}
use Rattle.csv.specs.Machine.{next_record}
use Rattle.csv.specs.Reading.{default_config, records, records_from, strip_bom}
use Rattle.ft_trace.specs.meaning.Decimal.{digits_after, number_of}

-- CR, LF and CRLF end a record; blank lines are dropped; the last line needs no line feed
line-ends : records default_config (codes "a\r\n\n\r\r\nb\rc") ≡ (codes "a" ∷ []) ∷ (codes "b" ∷ []) ∷ (codes "c" ∷ []) ∷ []
unfolding records_from next_record
line-ends = refl

-- quotes are taken off, doubled ones are one, and what follows a closing quote joins the field
quotes : records default_config (codes "\"1\"2,\"a\"\"b\",x\"y\"\n") ≡ (codes "12" ∷ codes "a\"b" ∷ codes "x\"y\"" ∷ []) ∷ []
unfolding records_from next_record
quotes = refl

-- a quote that is never closed takes the rest, line feeds too
unclosed : records default_config (codes "\"1\n2\n") ≡ (codes "1\n2\n" ∷ []) ∷ []
unfolding records_from next_record
unclosed = refl

-- a quoted nothing is a record of one empty field; a comma at the end gives an empty field; blanks stay
empty-fields : records default_config (codes "\"\"\n1,\n ,\t") ≡ ([] ∷ []) ∷ (codes "1" ∷ [] ∷ []) ∷ (codes " " ∷ codes "\t" ∷ []) ∷ []
unfolding records_from next_record
empty-fields = refl

-- a byte order mark is dropped at the start of the bytes
mark : records default_config (strip_bom (0xEF ∷ 0xBB ∷ 0xBF ∷ codes "x\n")) ≡ (codes "x" ∷ []) ∷ []
unfolding records_from next_record strip_bom
mark = refl

-- quoted names are names
quoted-names : records default_config (codes "\"x\",\"y\"\n0,1\n") ≡ (codes "x" ∷ codes "y" ∷ []) ∷ (codes "0" ∷ codes "1" ∷ []) ∷ []
unfolding records_from next_record
quoted-names = refl

-- a byte order mark further on belongs to its field
late-mark : records default_config (strip_bom (codes "x\n" ++ 0xEF ∷ 0xBB ∷ 0xBF ∷ codes "0\n")) ≡ (codes "x" ∷ [])
    ∷ ((0xEF ∷ 0xBB ∷ 0xBF ∷ codes "0") ∷ []) ∷ []
unfolding records_from next_record strip_bom
late-mark = refl

-- leading zeros and a zero below zero are numbers
zeros : (number_of (codes "007") ≡ Some (pos 7)) × (number_of (codes "-0") ≡ Some (pos 0)) × (number_of (codes "-12") ≡ Some (negsuc 11))
unfolding digits_after
zeros = (refl, refl, refl)

-- 18 digits are a number, and 19 aren't
digits : (number_of (codes "000000000000000001") ≡ Some (pos 1)) × (number_of (codes "0000000000000000001") ≡ None)
unfolding digits_after
digits = (refl, refl)

-- no sign but a minus, no blank, and no digit at all is no number
no-numbers : (number_of (codes "+1") ≡ None) × (number_of (codes " 1") ≡ None) × (number_of (codes "-") ≡ None) × (number_of [] ≡ None)
    × (number_of (codes "--1") ≡ None)
unfolding digits_after
no-numbers = (refl, refl, refl, refl, refl)
