use Rattle.std.proofs.Common.{◌≡◌, ◌∙◌, sym, ap, subst, refl, ℕ, ℤ, length, arith}
use Rattle.std.specs.Prelude.{nat_lt}
use Rattle.ft_linear.specs.meaning.Form.{InArea, values_at}
use Rattle.ft_linear.specs.meaning.Formula.{Satisfies}
use Rattle.ft_linear.specs.meaning.Part.{PartView}
use Rattle.ft_cert.specs.meaning.Parts.{whole_of}
use Rattle.ft_cert.specs.prefix.Row.{tree_of}
use Rattle.ft_cert.specs.walk.Waiting.{first_of}
use Rattle.ft_search.specs.declared.room.Judging.{Judging}
use Rattle.ft_search.specs.declared.turns.Choice.{Choice}
use Rattle.ft_search.specs.declared.turns.Choice.TheVariants as choice
use Rattle.ft_search.specs.meaning.Spent.{IsSpentBy, enough_for}
use Rattle.ft_search.specs.searching.Kept.{node_of, nodes_by}
use Rattle.ft_search.specs.searching.Space.{IsRoomFor}
use Rattle.ft_search.specs.searching.Turn.{IsAllowed, IsChoice, IsFoundAt, IsPoint, IsTurn}
use Rattle.ft_search.specs.searching.Walk.{IsWalk}
use Rattle.ft_search.proofs.PointLemmas.{moved-area, moved-point}
use Rattle.ft_search.proofs.StateLemmas.{all-few, WithinAll, spent-all, way-begins, way-more, within-limits}
use Rattle.ft_search.proofs.TurnLemmas.{asked-is, first-inside, some-parts}
use Rattle.ft_search.proofs.WalkLemmas.{is-evidence, is-spent, unsettled-at}
use Rattle.ft_search.proofs.searching.search.Goals as goal

pub parts-init : goal.parts-init
parts-init c = record {
  way = way-begins c.args.formula.now c.args.area.now.spans c.args.room.now (record { used = 0; halved = 0; tight = 0 }) c.requires.fresh
      refl refl refl;
  budget = refl;
  splits = refl;
}

pub returns-then-is_ended-clause-found : goal.returns-then-is_ended-clause-found
returns-then-is_ended-clause-found c =
    let f = c.args.formula.now in
    let r = c.parts.room in
    is-evidence f (enough_for r.budget) (whole_of f c.args.area.now.spans) (nodes_by f r.nodes.items) r.descent.parts c.parts.counts.used
    c.parts.counts.halved c.parts.counts.tight c.parts.invariant.way.walk
    (all-few f c.args.area.now.spans r c.parts.counts c.parts.invariant.way) (c.is_ended.ensures.0 c.if-is_ended.true)

pub returns-in-Met-clause-found : goal.returns-in-Met-clause-found
returns-in-Met-clause-found c =
    let f = c.args.formula.now in
    let parts = c.settle-settled.new.room.descent.parts in
    let some = c.settle-settled.ensures.some in
    let chosen : IsChoice f c.part-part.result.now 0 0 choice.Met
    = subst (λ (o : Choice). IsChoice f c.part-part.result.now 0 0 o) c.in-Met.is
    (c.choose.ensures.choice 0 0 (λ below. absurd (omega (arith, below)))) in
    record {
      some = some;
      inside = λ x. first-inside c.args.area.now.spans x parts some (c.settle-settled.ensures.way.walk.inside x);
      satisfies = subst (λ (p : PartView). (x : ℕ → ℤ) → InArea p.spans x → Satisfies f x) c.part-part.ensures.part chosen;
    }

pub returns-in-Found-clause-found : goal.returns-in-Found-clause-found
returns-in-Found-clause-found c =
    let f = c.args.formula.now in
    let spans = c.args.area.now.spans in
    let parts = c.settle-settled.new.room.descent.parts in
    let values = c.choose.new.room.point.items in
    let some = c.settle-settled.ensures.some in
    let point : IsPoint f c.part-part.result.now.spans values
    = subst (λ (o : Choice). IsFoundAt f c.part-part.result.now values o) c.in-Found.is c.choose.ensures.found in
    let inside : InArea spans (values_at values)
    = first-inside spans (values_at values) parts some (c.settle-settled.ensures.way.walk.inside (values_at values))
    (subst (λ (p : PartView). InArea p.spans (values_at values)) c.part-part.ensures.part point.inside) in
    let long = c.choose.ensures.room.point ∙ c.part-part.ensures.unknowns ∙ c.settle-settled.ensures.way.unknowns in
    record {
      some = c.go_to_found.ensures.some;
      inside = λ x area. moved-area spans x (values_at values)
          (λ u within. c.go_to_found.ensures.point x area u (omega (arith, within, long))) inside;
      satisfies = λ x area. moved-point spans x (values_at values)
          (λ u within. c.go_to_found.ensures.point x area u (omega (arith, within, long))) f c.requires.over point.satisfies;
    }

pub returns-then-is_used_up-clause-found : goal.returns-then-is_used_up-clause-found
returns-then-is_used_up-clause-found c =
    let f = c.args.formula.now in
    let spans = c.args.area.now.spans in
    let root = whole_of f spans in
    let b = c.args.room.now.budget in
    let h = c.settle-settled.result.counts.halved in
    let parts = c.settle-settled.new.room.descent.parts in
    let ns = nodes_by f c.settle-settled.new.room.nodes.items in
    let some = c.settle-settled.ensures.some in
    let chosen : IsTurn f c.part-part.result.now (enough_for b) h c.in-Turn.turn
    = subst (λ (o : Choice). IsChoice f c.part-part.result.now (enough_for b) h o) c.in-Turn.is
    (c.choose.ensures.choice (enough_for b) h (λ below. c.allowed-allowed.ensures.halving ∙ asked-is h (enough_for b) h (enough_for b) refl
    refl below)) in
    let turn : IsTurn f (first_of parts) (enough_for b) h c.in-Turn.turn
    = subst (λ (p : PartView). IsTurn f p (enough_for b) h c.in-Turn.turn) c.part-part.ensures.part chosen in
    let used_up = c.is_used_up.ensures.0 c.if-is_used_up.true in
    let unsettled = unsettled-at f (enough_for b) h (first_of parts) (node_of f c.in-Turn.turn.node) (turn.splits ∙ used_up.0)
    turn.lawful in
    let same = c.settle-settled.ensures.budget ∙ c.parts.invariant.budget in
    let walk = subst (λ (n : ℕ). IsWalk f (enough_for n) root ns parts c.settle-settled.result.counts.used h c.settle-settled.result.counts.tight) same
    c.settle-settled.ensures.way.walk in
    let spent : IsSpentBy f (enough_for b) root b (tree_of ns)
    = is-spent f (enough_for b) root ns parts c.settle-settled.result.counts.used h c.settle-settled.result.counts.tight walk b used_up.1 some unsettled in
    let all = spent-all c.search_laws.ensures.budget f spans b c.args.room.now.splits (tree_of ns) c.requires.fresh.budget
    c.requires.fresh.enough c.root-root.ensures.below spent in
    subst (λ (n : ℕ). IsSpentBy f (enough_for n) root n (tree_of ns)) (sym (c.settle-settled.ensures.splits ∙ c.parts.invariant.splits)) all

pub go-requires-clause-step : goal.go-requires-clause-step
go-requires-clause-step c =
    let f = c.args.formula.now in
    let chosen : IsTurn f c.part-part.result.now 0 0 c.in-Turn.turn
    = subst (λ (o : Choice). IsChoice f c.part-part.result.now 0 0 o) c.in-Turn.is
    (c.choose.ensures.choice 0 0 (λ below. absurd (omega (arith, below)))) in
    (subst (λ (p : PartView). IsTurn f p 0 0 c.in-Turn.turn) c.part-part.ensures.part chosen).can

pub parts-preserved : goal.parts-preserved
parts-preserved c =
    let f = c.args.formula.now in
    let spans = c.args.area.now.spans in
    let b = c.settle-settled.new.room.budget in
    let h = c.settle-settled.result.counts.halved in
    let parts = c.settle-settled.new.room.descent.parts in
    let same = c.settle-settled.ensures.budget ∙ c.parts.invariant.budget in
    let some = c.settle-settled.ensures.some in
    let asked : c.allowed-allowed.result.halving ≡ nat_lt h (enough_for b)
    = c.allowed-allowed.ensures.halving ∙ ap (λ (n : ℕ). nat_lt h (enough_for n)) (sym same) in
    let chosen : IsTurn f c.part-part.result.now (enough_for b) h c.in-Turn.turn
    = subst (λ (o : Choice). IsChoice f c.part-part.result.now (enough_for b) h o) c.in-Turn.is
    (c.choose.ensures.choice (enough_for b) h (λ below. asked ∙ asked-is h (enough_for b) h (enough_for b) refl refl below)) in
    let turn : IsTurn f (first_of parts) (enough_for b) h c.in-Turn.turn
    = subst (λ (p : PartView). IsTurn f p (enough_for b) h c.in-Turn.turn) c.part-part.ensures.part chosen in
    let allowed : IsAllowed c.allowed-allowed.result (choice.Turn c.in-Turn.turn)
    = subst (λ (o : Choice). IsAllowed c.allowed-allowed.result o) c.in-Turn.is c.choose.ensures.allowed in
    let unknowns = c.part-part.ensures.unknowns ∙ c.settle-settled.ensures.way.unknowns in
    record {
      way = way-more f spans c.settle-settled.new.room c.settle-settled.result.counts c.settle-settled.ensures.way c.go.new.room c.with-counts.result c.in-Turn.turn some turn
          (within-limits b c.settle-settled.result.counts c.allowed-allowed.result c.in-Turn.turn asked
          (λ o. subst (λ (n : ℕ). WithinAll n c.settle-settled.result.counts) (sym same)
          (c.allowed-allowed.ensures.by_halved o, c.allowed-allowed.ensures.limit o)) allowed)
          (λ both. cc (sym c.if-is_used_up.false ∙ c.is_used_up.ensures.1 (both.0, both.1 ∙ same)))
          (record {
            nodes = c.go.ensures.nodes;
            parts = c.go.ensures.parts;
            unknowns = c.go.ensures.unknowns;
            atoms = c.go.ensures.atoms;
            steps = c.go.ensures.steps;
            spare = c.go.ensures.spare;
            budget = c.go.ensures.budget;
          })
          (record { used = c.with-counts.ensures.used; halved = c.with-counts.ensures.halved; tight = c.with-counts.ensures.tight })
          (subst (λ (j : Judging). IsRoomFor f (length spans) j) (sym c.go.ensures.judging)
          (subst (λ (k : ℕ). IsRoomFor f k c.choose.new.room) unknowns c.choose.ensures.room));
      budget = c.go.ensures.budget ∙ same;
      splits = c.go.ensures.splits ∙ (c.settle-settled.ensures.splits ∙ c.parts.invariant.splits);
    }

pub settle-settled-requires-clause-some : goal.settle-settled-requires-clause-some
settle-settled-requires-clause-some c =
    some-parts c.parts.room.descent.parts (λ e. cc (sym c.if-is_ended.false ∙ c.is_ended.ensures.1 e))
