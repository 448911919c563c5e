use Rattle.std.proofs.Common.{rules, ◌∙◌, sym, ap, subst, ℤ, pos, neg_ℤ, ◌-ℤ◌, cond, ◌≤◌, unsigned_abs, w64}
use Rattle.std.proofs.lemmas.Int.{to_z-of_z}
use Rattle.std.proofs.lemmas.Option.{IfSome_then}
use Rattle.ft_diff.proofs.LineLemmas.{by-value, two-value, read-same}
use Rattle.ft_diff.proofs.gathering.of_two.Goals as goal
use mir.Val.{SFits, to_z, of_z}

pub returns-clause-value : goal.returns-clause-value
returns-clause-value c =
    let f1 : SFits w64 c.literal_factor.result = search rules in
    let f2 : SFits w64 c.literal_factor-2.result = search rules in
    let f3 : SFits w64 c.bound.result = search rules in
    two-value c.args.value c.args.first c.args.second c.args.constant _ _ _ c.two_lines.result
    (to_z-of_z w64 c.literal_factor.result f1 ∙ c.literal_factor.ensures.value
    ∙ by-value c.args.value _ c.args.first.1 (read-same c.args.first.1 c.requires.first))
    (to_z-of_z w64 c.literal_factor-2.result f2 ∙ c.literal_factor-2.ensures.value
    ∙ by-value c.args.value _ c.args.second.1 (read-same c.args.second.1 c.requires.second))
    (to_z-of_z w64 c.bound.result f3 ∙ c.bound.ensures.value ∙ ap (λ (z : ℤ). neg_ℤ (cond c.args.value z (pos 1 -ℤ z)))
    (read-same c.args.constant c.requires.constant))
    c.two_lines.ensures.value

pub returns-clause-over : goal.returns-clause-over
returns-clause-over c n first second =
    let f3 : SFits w64 c.bound.result = search rules in
    let small : unsigned_abs (to_z w64 (of_z w64 c.bound.result)) ≤ 5000000000000000 =
    subst (λ (z : ℤ). unsigned_abs z ≤ 5000000000000000) (sym (to_z-of_z w64 c.bound.result f3)) c.bound.ensures.small in
    IfSome_then c.two_lines.result c.two_lines.ensures.over (λ d h. h n first second small)
