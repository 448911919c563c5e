use Rattle.std.proofs.Common.{◌≡◌, ◌∙◌, ap, sym, length, map, ◌+◌}
use Rattle.std.specs.Prelude.{sum}
use Rattle.std.proofs.lemmas.List.{length_push}
use Rattle.ft_linear.specs.meaning.Marks.{size_of}
use Rattle.ft_linear.specs.laws.Nodes.{size-At, size-Not, size-And, size-Or}
use Rattle.ft_linear.proofs.MarksLemmas.{OnOk_then, one-node}
use Rattle.ft_linear.proofs.marks.+take_slots.Goals as goal

pub take_slots-returns-in-At : goal.take_slots-returns-in-At
take_slots-returns-in-At t c = rw (c.in-At.is, size-At, c.in_ok-push.ensures.items) (simp length_push)

pub take_slots-returns-in-Not : goal.take_slots-returns-in-Not
take_slots-returns-in-Not t c = OnOk_then c.take_slots.result c.take_slots.ensures
    (λ (long : length c.take_slots.new.slots.items ≡ length c.push.new.self.items + size_of c.get.result.now).
    one-node (length c.take_slots.new.slots.items) (length c.push.new.self.items) (length c.args.slots.now.items) (size_of c.get.result.now)
    (size_of c.args.node.now)
    long (rw c.in_ok-push.ensures.items (simp length_push)) (ap size_of c.in-Not.is ∙ size-Not c.in-Not.inner
    ∙ ap (λ n. size_of n + 1) (sym c.get.ensures)))

pub take_slots-returns-in-And : goal.take_slots-returns-in-And
take_slots-returns-in-And t c = OnOk_then c.take_all.result c.take_all.ensures
    (λ (long : length c.take_all.new.slots.items ≡ length c.push.new.self.items + sum (map size_of c.as_slice.result.now)).
    one-node (length c.take_all.new.slots.items) (length c.push.new.self.items) (length c.args.slots.now.items)
    (sum (map size_of c.as_slice.result.now)) (size_of c.args.node.now)
    long (rw c.in_ok-push.ensures.items (simp length_push)) (ap size_of c.in-And.is ∙ size-And c.in-And.parts
    ∙ ap (λ ns. sum (map size_of ns) + 1) (sym c.as_slice.ensures)))

pub take_slots-returns-in-Or : goal.take_slots-returns-in-Or
take_slots-returns-in-Or t c = OnOk_then c.take_all-in-Or.result c.take_all-in-Or.ensures
    (λ (long : length c.take_all-in-Or.new.slots.items ≡ length c.push.new.self.items + sum (map size_of c.as_slice-in-Or.result.now)).
    one-node (length c.take_all-in-Or.new.slots.items) (length c.push.new.self.items) (length c.args.slots.now.items)
    (sum (map size_of c.as_slice-in-Or.result.now)) (size_of c.args.node.now)
    long (rw c.in_ok-push.ensures.items (simp length_push)) (ap size_of c.in-Or.is ∙ size-Or c.in-Or.parts
    ∙ ap (λ ns. sum (map size_of ns) + 1) (sym c.as_slice-in-Or.ensures)))
