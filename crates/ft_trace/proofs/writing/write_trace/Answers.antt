use Rattle.std.proofs.Common.{◌≡◌, ◌∙◌, [], List, ℕ, ap, subst, ◌++◌, IfOk, rules, flat_map}
use Rattle.csv.specs.Writing.{default_writer, row_text}
use Rattle.ft_trace.specs.rows.Writer.{written}
use Rattle.ft_trace.specs.meaning.Writing.{fields_by, name_of, scan_field, trace_text}
use Rattle.ft_trace.proofs.WritingLemmas.{spelled, written-text}
use Rattle.ft_trace.proofs.writing.write_trace.Goals as goal

pub returns-clause-text : goal.returns-clause-text
returns-clause-text c =
    let start : written c.from_writer-writer.result ≡ [] = search rules in
    let all : written c.write_scans.new.writer ≡ trace_text c.args.tables.now c.args.history.now =
    c.in_ok-write_scans.ensures.text
    ∙ ap (λ (t : List ℕ). t ++ flat_map (λ scan. row_text default_writer (fields_by (scan_field scan) c.args.tables.now.vars))
    c.args.history.now)
    (c.in_ok-write_header.ensures.text ∙ ap (λ (t : List ℕ). t ++ row_text default_writer (fields_by name_of c.args.tables.now.vars)) start)
    ∙ written-text c.args.tables.now c.args.history.now c.requires in
    subst (λ (t : List ℕ). IfOk c.finish.result (λ text. text ≡ t)) all c.finish.ensures

pub returns-clause-spells : goal.returns-clause-spells
returns-clause-spells c = spelled c.args.tables.now c.args.history.now c.requires c.finish.result (returns-clause-text c)
