use Rattle.std.proofs.Common.{◌≡◌, ◌∙◌, inl, sym, ap, subst, ℤ, pos, length}
use Rattle.std.proofs.lemmas.Option.{get_or_from_slice_get}
use Rattle.ft_linear.specs.meaning.Form.{span_at}
use Rattle.ft_linear.specs.meaning.Halving.{is_half}
use Rattle.ft_linear.specs.meaning.Part.{PartView}
use Rattle.ft_cert.specs.declared.step.Step.{Step}
use Rattle.ft_cert.specs.walk.Waiting.{first_of}
use Rattle.ft_search.specs.declared.room.Judging.{Judging}
use Rattle.ft_search.specs.meaning.Spent.{enough_for}
use Rattle.ft_search.specs.searching.Space.{IsRoomFor}
use Rattle.ft_search.specs.searching.Turn.{splits_by}
use Rattle.ft_search.proofs.StateLemmas.{way-more}
use Rattle.ft_search.proofs.TurnLemmas.{tight-turn}
use Rattle.ft_search.proofs.settling.take_one.Goals as goal

pub returns-clause-way : goal.returns-clause-way
returns-clause-way c =
    let f = c.args.formula.now in
    let r = c.args.room.now in
    let p = first_of r.descent.parts in
    let s = c.args.single in
    let spans = ap (λ (q : PartView). span_at q.spans s.unknown) c.part.ensures.part in
    let old : span_at p.spans s.unknown ≡ c.span_of.result
    = sym spans ∙ get_or_from_slice_get c.part.result.now.spans s.unknown c.span_of.result (pos 0, pos 0) c.span_of.ensures.value in
    let halves : c.tight_turn-turn.result.halves ≡ is_half (span_at p.spans s.unknown) s.span
    = c.tight_turn-turn.ensures.halves ∙ c.is_half-halves.ensures ∙ ap (λ (t : ℤ × ℤ). is_half t s.span) (sym old) in
    let turn = tight-turn f p (enough_for r.budget) c.args.counts.now.halved s c.tight_turn-turn.result c.requires.tight
    c.tight_turn-turn.ensures.node c.tight_turn-turn.ensures.step halves in
    way-more f c.args.area.now.spans r c.args.counts.now c.requires.way c.go.new.room c.with-more.result c.tight_turn-turn.result
    c.requires.some turn (λ one. inl (c.requires.by_halved, c.requires.limit))
    (λ both. cc (sym (ap (λ (t : Step). splits_by t) c.tight_turn-turn.ensures.step) ∙ both.0))
    (record {
      nodes = c.go.ensures.nodes;
      parts = c.go.ensures.parts;
      unknowns = c.go.ensures.unknowns;
      atoms = c.go.ensures.atoms;
      steps = c.go.ensures.steps;
      spare = c.go.ensures.spare;
      budget = c.go.ensures.budget;
    })
    (record { used = c.with-more.ensures.used; halved = c.with-more.ensures.halved; tight = c.with-more.ensures.tight })
    (subst (λ (j : Judging). IsRoomFor f (length c.args.area.now.spans) j) (sym c.go.ensures.judging) c.requires.way.judging)
