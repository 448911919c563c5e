use Rattle.std.proofs.Common.{◌∙◌, ap, ◌++◌}
use Rattle.ft_tree.specs.declared.writer.Writer.{Writer}
use Rattle.std.specs.List.{flat_map}
use Rattle.ft_tree.specs.meaning.Line.{line_bytes}
use Rattle.ft_tree.specs.meaning.Lines.{set_lines}
use Rattle.ft_tree.proofs.WritingLemmas.{lines-five}
use Rattle.ft_tree.proofs.LayoutLemmas.{lines-text}
use Rattle.ft_tree.proofs.canonical.write_parts.Goals as goal

pub returns : goal.returns
returns c =
    let w = c.new-writer.result in
    let lines = set_lines c.args.name.now c.args.period.now c.args.splits.now c.args.depth.now c.args.items.now in
    let written = lines-five w _ _ _ _ _ _ _ _ _ _ c.in_ok-write_set.ensures c.in_ok-write_period.ensures c.in_ok-write_option.ensures
    c.in_ok-write_option-2.ensures c.in_ok-write_items.ensures in
    ap (λ (v : Writer). v.text) written
    ∙ lines-text w lines (ap (λ (v : Writer). v.last) c.new-writer.ensures)
    ∙ ap (λ (v : Writer). v.text ++ flat_map line_bytes lines) c.new-writer.ensures
