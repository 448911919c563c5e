use Rattle.std.proofs.Common.{◌≡◌, ◌∙◌, ap}
use Rattle.serde_json.specs.Data.{object}
use Rattle.serde_json.specs.View.{view}
use Rattle.serde_json.specs.Written.{has_float}
use Rattle.ft_report.specs.meaning.Report.{status_of, text_of}
use Rattle.ft_json.specs.meaning.Json.{first_line, json_of}
use Rattle.ft_json.proofs.PlainLemmas.{plain-entries}
use Rattle.ft_json.proofs.rendering.report_value.Goals as goal

pub returns-clause-value : goal.returns-clause-value
returns-clause-value c =
    let r = c.args.report.now in
    c.from.ensures ∙ ap object (c.in_ok-put_report.ensures (status_of r) (first_line (text_of r)) c.in_ok-members.ensures)

pub returns-clause-whole : goal.returns-clause-whole
returns-clause-whole c =
    let r = c.args.report.now in
    let is : view c.from.result ≡ json_of r =
    c.from.ensures ∙ ap object (c.in_ok-put_report.ensures (status_of r) (first_line (text_of r)) c.in_ok-members.ensures) in
    ap has_float is ∙ plain-entries (status_of r) (first_line (text_of r)) r
