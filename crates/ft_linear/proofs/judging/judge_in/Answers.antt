use Rattle.std.proofs.Common.{◌≡◌, ◌∙◌, ap, subst, arith, ◌||◌, ◌&&◌, ℕ, true, cond}
use Rattle.ft_base.specs.declared.three.Three.{Three}
use Rattle.ft_base.specs.declared.three.Three.TheVariants.{No, Maybe, Yes}
use Rattle.ft_linear.specs.declared.node.Node.{Node}
use Rattle.ft_linear.specs.meaning.Forced.{value_of, forces}
use Rattle.ft_base.specs.Three.{is_no, is_yes}
use Rattle.ft_linear.specs.meaning.Part.{atom_value}
use Rattle.ft_linear.specs.judging.Slots.{value_at, Adds}
use Rattle.ft_linear.specs.meaning.Marks.{size_of}
use Rattle.ft_linear.proofs.MarksLemmas.{slots-fit, values-same, signs-are, any-both}
use Rattle.ft_linear.proofs.judging.judge_in.Goals as goal

pub mark_forced-root-requires : goal.mark_forced-root-requires
mark_forced-root-requires c =
    let fit = slots-fit (value_at c.weigh-weighed.new.values) c.root.result.now in
    let same = ap size_of c.root.ensures.value in
    omega (arith, fit, same, c.requires.room)

pub returns-clause-signs : goal.returns-clause-signs
returns-clause-signs c =
    let f = c.args.formula.now in
    let p = c.args.part.now in
    let same : (a : ℕ) → value_at c.weigh-weighed.new.values a ≡ atom_value f p a =
    values-same f p c.requires.atoms.decided c.weigh-weighed.new.values (omega arith) c.weigh-weighed.ensures.values in
    let adds = subst (λ (n : Node). Adds (forces (value_at c.weigh-weighed.new.values) n true) c.weigh-weighed.new.signs
    c.mark_forced-root.new.signs) c.root.ensures.value c.mark_forced-root.ensures.forced in
    signs-are f p c.weigh-weighed.new.signs c.mark_forced-root.new.signs (omega arith) c.weigh-weighed.ensures.signs
    (subst (λ (v : ℕ → Three). Adds (forces v f.root true) c.weigh-weighed.new.signs c.mark_forced-root.new.signs) (λ i a. same a i) adds)

pub returns-clause-truth : goal.returns-clause-truth
returns-clause-truth c =
    let f = c.args.formula.now in
    let p = c.args.part.now in
    let same : (a : ℕ) → value_at c.weigh-weighed.new.values a ≡ atom_value f p a =
    values-same f p c.requires.atoms.decided c.weigh-weighed.new.values (omega arith) c.weigh-weighed.ensures.values in
    let adds = subst (λ (n : Node). Adds (forces (value_at c.weigh-weighed.new.values) n true) c.weigh-weighed.new.signs
    c.mark_forced-root.new.signs) c.root.ensures.value c.mark_forced-root.ensures.forced in
    let both = c.any_both_ways.ensures ∙ any-both f p c.weigh-weighed.new.signs c.mark_forced-root.new.signs (omega arith)
    c.weigh-weighed.ensures.signs
    (subst (λ (v : ℕ → Three). Adds (forces v f.root true) c.weigh-weighed.new.signs c.mark_forced-root.new.signs) (λ i a. same a i) adds)
    in
    let root : c.mark_forced-root.result ≡ value_of (atom_value f p) f.root =
    c.mark_forced-root.ensures.value ∙ ap (value_of (value_at c.weigh-weighed.new.values)) c.root.ensures.value
    ∙ (λ i. value_of (λ a. same a i) f.root) in
    c.truth_by.ensures ∙ (λ i. cond (is_no (root i) || c.weigh-weighed.ensures.against i || both i) No
    (cond (is_yes (root i) && c.weigh-weighed.ensures.agreed i) Yes Maybe))
