use Rattle.std.proofs.Common.{◌∙◌, sym, subst, List, arith}
use Rattle.std.specs.List.{All}
use Rattle.ft_lex.specs.declared.token.Token.{Token}
use Rattle.ft_lex.specs.meaning.Tokens.{IsTokens, LiesIn}
use Rattle.ft_lex.proofs.TokenLemmas.{IsReadTo, next-some, read-all, read-more, read-only, tokens-lie}
use Rattle.ft_lex.proofs.lexing.tokens.Goals as goal

pub returns-then-is_last-clause-only : goal.returns-then-is_last-clause-only
returns-then-is_last-clause-only c = λ others h.
    let ends = sym c.is_last.ensures ∙ c.if-is_last.true in
    read-only _ _ _ _ c.loop-list.invariant.read c.next_token-token.ensures ends others h ∙ sym c.in_ok-push.ensures.ok

pub returns-then-is_last-clause-tokens : goal.returns-then-is_last-clause-tokens
returns-then-is_last-clause-tokens c =
    let ends = sym c.is_last.ensures ∙ c.if-is_last.true in
    subst (λ (l : List Token). IsTokens c.args.text.now l) (sym c.in_ok-push.ensures.ok)
    (read-all _ _ _ _ c.loop-list.invariant.read c.next_token-token.ensures ends)

pub returns-then-is_last-clause-spans : goal.returns-then-is_last-clause-spans
returns-then-is_last-clause-spans c =
    let ends = sym c.is_last.ensures ∙ c.if-is_last.true in
    let all = read-all _ _ _ _ c.loop-list.invariant.read c.next_token-token.ensures ends in
    subst (λ (l : List Token). All (LiesIn c.args.text.now) l) (sym c.in_ok-push.ensures.ok) (tokens-lie c.args.text.now 0 _ all)

pub loop-list-smaller : goal.loop-list-smaller
loop-list-smaller c =
    let goes = sym c.is_last.ensures ∙ c.if-is_last.false in
    omega (
      arith,
      next-some _ _ _ c.next_token-token.ensures goes,
      c.next_token-token.ensures.follows,
      c.next_token-token.ensures.lies.within,
    )

pub loop-list-preserved : goal.loop-list-preserved
loop-list-preserved c =
    let goes = sym c.is_last.ensures ∙ c.if-is_last.false in
    record {
      within = c.next_token-token.ensures.lies.within;
      place = c.place_at-place.ensures;
      read = subst (λ (l : List Token). IsReadTo c.args.text.now c.next_token-token.result.end l) (sym c.in_ok-push.ensures.ok)
          (read-more _ _ _ _ c.loop-list.invariant.read c.next_token-token.ensures goes);
    }
