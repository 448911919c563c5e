use Rattle.std.proofs.Common.{◌≡◌, ◌∙◌, sym, ap, ◌++◌, List, slice_get, Some, refl, true, false, arith}
use Rattle.std.proofs.lemmas.Option.{slice_get_read}
use Rattle.ft_linear.specs.meaning.Form.{LinView}
use Rattle.ft_diff.specs.declared.diff.Diff.{Diff}
use Rattle.ft_diff.specs.gathering.Lines.{line_if, form_diff}
use Rattle.ft_diff.proofs.LineLemmas.{lines-more, over-form}
use Rattle.ft_diff.proofs.gathering.gather.Goals as goal

pub atoms-preserved : goal.atoms-preserved
atoms-preserved c =
    let f = c.args.formula.now in
    let p = c.args.part.now in
    let got : slice_get f.atoms c.atoms.at ≡ Some c.form-item.result =
    ap (λ (ls : List LinView). slice_get ls c.atoms.at) (sym c.atoms-form-items.ensures)
    ∙ slice_get_read c.atoms-form-items.result.now _ c.atoms.at c.form-item.result refl (omega arith) c.form-item.is in
    record {
      lines = c.add_atom-count.ensures.lines ∙ ap (λ (ds : List Diff). ds
          ++ (line_if c.is_forced-yes.result (form_diff true (Some c.form-item.result))
          ++ line_if c.is_forced-no.result (form_diff false (Some c.form-item.result)))) c.atoms.invariant.lines
          ∙ sym (lines-more f p c.atoms.at c.form-item.result _ _ got c.is_forced-yes.ensures c.is_forced-no.ensures);
      few = omega (arith, c.add_atom-count.ensures.few, c.atoms.invariant.few);
      over = c.add_atom-count.ensures.over _ c.atoms.invariant.over (over-form _ f c.atoms.at c.form-item.result c.requires.over got);
    }
