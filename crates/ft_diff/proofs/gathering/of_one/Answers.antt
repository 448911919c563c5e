use Rattle.std.proofs.Common.{rules, ◌∙◌, sym, ap, subst, ℤ, pos, neg_ℤ, ◌-ℤ◌, cond, ◌≤◌, unsigned_abs, w64}
use Rattle.std.proofs.lemmas.Int.{to_z-of_z}
use Rattle.std.proofs.lemmas.Option.{IfSome_then}
use Rattle.ft_diff.proofs.LineLemmas.{by-value, one-value, read-same}
use Rattle.ft_diff.proofs.gathering.of_one.Goals as goal
use mir.Val.{SFits, to_z, of_z}

pub returns-clause-value : goal.returns-clause-value
returns-clause-value c =
    let f1 : SFits w64 c.literal_factor.result = search rules in
    let f3 : SFits w64 c.bound.result = search rules in
    one-value c.args.value c.args.factor c.args.constant _ _ c.one_line.result
    (to_z-of_z w64 c.literal_factor.result f1 ∙ c.literal_factor.ensures.value
    ∙ by-value c.args.value _ c.args.factor.1 (read-same c.args.factor.1 c.requires.factor))
    (to_z-of_z w64 c.bound.result f3 ∙ c.bound.ensures.value ∙ ap (λ (z : ℤ). neg_ℤ (cond c.args.value z (pos 1 -ℤ z)))
    (read-same c.args.constant c.requires.constant))
    c.one_line.ensures.value

pub returns-clause-over : goal.returns-clause-over
returns-clause-over c n below =
    let f3 : SFits w64 c.bound.result = search rules in
    let small : unsigned_abs (to_z w64 (of_z w64 c.bound.result)) ≤ 5000000000000000 =
    subst (λ (z : ℤ). unsigned_abs z ≤ 5000000000000000) (sym (to_z-of_z w64 c.bound.result f3)) c.bound.ensures.small in
    IfSome_then c.one_line.result c.one_line.ensures.over (λ d h. h n below small)
