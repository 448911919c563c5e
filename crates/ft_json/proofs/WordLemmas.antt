-- The line of want of memory.
use Rattle.std.proofs.Common.{◌≡◌, ◌∙◌, ap, refl, ℕ, List, codes, ◌∷◌, []}
use Rattle.std.proofs.lemmas.Str.{IsUtf8-from_is_utf8, utf8_lossy-IsUtf8}
use Rattle.std.specs.Fmt.{digits}
use Rattle.std.specs.Str.{IsUtf8, is_utf8, chars}
use lib.Utf8.{encode}
use Rattle.serde_json.specs.Data.{member, no_members, object, string}
use Rattle.serde_json.specs.Written.{compact_text}
use Rattle.serde_json.proofs.OnLiterals.{serde_json_on_literals}
use Rattle.ft_report.specs.meaning.Words.{line}
use Rattle.ft_report.specs.declared.report.Report.TheVariants as report
use Rattle.ft_json.specs.meaning.Json.{json_text}
use Rattle.ft_json.specs.meaning.Values.{count_data}

abbrev with_verdict : List ℕ → List ℕ
with_verdict verdict = line (compact_text (object (member (codes "status") (count_data 7) (member (codes "verdict") (string verdict) no_members))))

spelled : with_verdict (codes "no memory") ≡ codes "{\"status\":7,\"verdict\":\"no memory\"}\n"
unfolding serde_json_on_literals digits
spelled = refl

is-text : IsUtf8 (codes "no memory")
unfolding is_utf8 chars encode
is-text = IsUtf8-from_is_utf8 (codes "no memory") refl

pub no-memory : json_text report.NoMemory ≡ codes "{\"status\":7,\"verdict\":\"no memory\"}\n"
no-memory = ap with_verdict (utf8_lossy-IsUtf8 (codes "no memory") is-text) ∙ spelled
