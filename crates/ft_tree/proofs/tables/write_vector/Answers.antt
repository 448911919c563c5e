use Rattle.std.proofs.Common.{◌≡◌, ◌∙◌, sym, ap, List, [], ◌∷◌, ◌++◌, codes, map}
use Rattle.std.proofs.lemmas.Result.{on_ok_weaker}
use Rattle.ft_tree.specs.declared.writer.Writer.{Writer}
use Rattle.ft_tree.specs.meaning.Line.{Line}
use Rattle.ft_tree.specs.meaning.Lines.{brace_line, exprs_line, head_line, vector_head, vrow_line}
use Rattle.ft_tree.specs.writing.Writer.{with_lines}
use Rattle.ft_tree.proofs.WritingLemmas.{lines-cons}
use Rattle.ft_tree.proofs.tables.write_vector.Goals as goal

pub returns : goal.returns
returns c =
    let rest : List Line = exprs_line (codes "columns") c.args.header.now ∷ (map vrow_line c.args.rows.now ++ brace_line ∷ []) in
    let opened = ap (λ (w : Writer). with_lines w rest) c.in_ok-write_vector_head.ensures
    ∙ sym (lines-cons c.args.writer.now (head_line (vector_head c.args.side)) rest) in
    on_ok_weaker c.write_rows.result (λ (e : c.write_rows.new.writer ≡ with_lines c.write_vector_head.new.writer rest). e ∙ opened)
    c.write_rows.ensures
