use Rattle.std.proofs.Common.{rules, ◌∙◌, ap, ◌<◌, ℤ, pos, ◌-ℤ◌, List, cond, length}
use Rattle.ft_linear.specs.meaning.Form.{Factor}
use Rattle.ft_linear.specs.meaning.Rules.{factor_of}
use Rattle.ft_farkas.specs.building.Forms.{turned_by}
use Rattle.std.specs.Int.{w64}
use Rattle.std.proofs.lemmas.Int.{to_z-of_z}
use Rattle.ft_farkas.proofs.SourceRowLemmas.{literal-entries}
use mir.Val.{SFits}
use Rattle.ft_farkas.proofs.sources.write_form.Goals as goal

pub returns-clause-entries : goal.returns-clause-entries
returns-clause-entries c =
    let fits : SFits w64 c.constant.result = search rules in
    let own_fits : SFits w64 c.literal_constant.result = search rules in
    let value = rw (to_z-of_z w64 c.constant.result fits) at c.literal_constant.ensures.value in
    let room : 0 < length c.write_factors.new.row = search rules in
    rw (to_z-of_z w64 c.literal_constant.result own_fits)
    (literal-entries c.args.value c.args.form.now c.write_factors.new.row c.literal_constant.result room
    (value ∙ ap (λ (z : ℤ). cond c.args.value z (pos 1 -ℤ z)) c.constant.ensures.value)
    (λ u. c.write_factors.ensures.factors u ∙ ap (λ (fs : List Factor). turned_by c.args.value (factor_of u fs)) c.factors.ensures.value))
