-- Expressions of any depth, up to the limit on nesting.
use Rattle.std.proofs.Common.{◌≡◌, ◌∙◌, inl, inr, ℕ, zero, suc, ◌+◌, ◌-◌, Bool, true, List, [], ◌∷◌, ◌++◌, codes, length, Option, Some}
use Rattle.std.proofs.Common.{None, Ok, Err, refl, sym, ap, subst}
use native.Mathlib.Omega.{arith}
use Rattle.ft_base.specs.declared.place.Place.{Place}
use Rattle.ft_tree.specs.declared.expr.Expr.{Expr}
use Rattle.ft_tree.specs.declared.expr.Expr.TheVariants as expr
use Rattle.ft_read.specs.meaning.Lexeme.{Lexeme, as_sign, as_word, or_else}
use Rattle.ft_parse.specs.meaning.Language.{Language, Step, alternative, lexemes, nothing, repeated, step, times, token, ◌▷◌}
use Rattle.ft_read.specs.meaning.Limit.{Passes, opening, pass, where_so, within}
use Rattle.ft_parse.specs.meaning.Expressions.{Nest, atom, chain, comparison, conjunction, disjunction, expression, group, layer, negated}
use Rattle.ft_parse.specs.meaning.Expressions.{negation, nested, prefixed, product, right_of, signed, sum, unary, whole}
use Rattle.ft_read.specs.meaning.Operators.{as_and, as_or, as_product, as_relation, as_sum, two}
use Rattle.ft_read.specs.parsers.Combinators.{Outcome, Parser, ParserState, can, give, bind, read_token, state, token_as, ◌▶◌}
use Rattle.ft_parse.specs.parsers.Expressions.{expression_by, expression_from, group_by, layer_by, nested_by, prefixed_by, refuse}
use Rattle.ft_read.specs.declared.parts.Site.{Site}
use Rattle.ft_read.specs.declared.parts.Operator.{Operator}
use Rattle.ft_read.specs.declared.stop.LimitWord.TheVariants as limit
use Rattle.ft_read.specs.declared.stop.Pass.{Pass}
use Rattle.ft_read.specs.declared.stop.Stop.TheVariants.{Syntax, Limit, NoMemory}
use Rattle.ft_parse.proofs.ExpressionRules.{apart-first, heads-disjunction, negation_forms, some_number_token, comparison_forms, here}
use Rattle.ft_parse.proofs.ExpressionRules.{or_forms, rule-disjunction, rule-map, rule-negation, rule-unary, some_sign, some_word}
use Rattle.ft_parse.proofs.Forms.{any, apart, looks-sign, sign}
use Rattle.ft_parse.proofs.Many.{Heads}
use Rattle.ft_parse.proofs.Rises.{Rises, rises-alternative, rises-repeated, rises-same, rises-then}
use Rattle.ft_parse.proofs.Rule.{Rule, before, heads-then, heads-token, next, rule-give, rule-token}
use Rattle.ft_parse.proofs.Faithful.{Begins, Takes, Faithful, at-end, at-first, head-append, faithful-then, faithful-token, faithful-wider}
use Rattle.ft_parse.proofs.Faithful.{two-parts}
use Rattle.ft_parse.proofs.Whole.{Calms, Whole, calms-by-heads, expected, met, never}
use Rattle.ft_read.specs.parsers.Cursor.{head}

-- a token that always passes a limit: what would be read after it isn't
module _ {A B : Type 0} (read : Lexeme → Option A) (passes : Passes) (M : A → Language B) (q : A → Parser B)
    (always : (at : ℕ) (l : Lexeme) → (p : Pass) × (passes at l ≡ Some p)) (l : Lexeme) (a : A) (reads : read l ≡ Some a)
    (some : (b : A) (at : ℕ) → Begins (M b) at []) where
  stopped : (b : A) (s mid : ParserState) → Takes (token read passes) (read_token read passes) s b mid → ⊥
  stopped b s mid g =
      let (x, is, e) = g.means in
      let (p, passed) = always s.at x in
      let (none, rest) = rw is at g.no_limit in
      cc (passed, none)

  not-read : (at : ℕ) (steps : List Step) (b : B) (rest : List Lexeme) → (token read passes ▷ M) at steps b
      → (read_token read passes ▶ q) (state at (lexemes steps ++ rest)) ≡ expected at steps b rest
  unfolding ◌▷◌
  not-read at steps b rest (c, us, vs, is, (x, one, e), k) =
      let (p, passed) = always at x in
      rw (is, one) (by-pass at x vs c b rest p e (passes at x) passed) where
        by-pass : (at : ℕ) (x : Lexeme) (vs : List Step) (c : A) (b : B) (rest : List Lexeme) (p : Pass) → read x ≡ Some c
            → (o : Option Pass) → o ≡ Some p
            → bind q (token_as (read x) o at x (lexemes vs ++ rest)) ≡ met at x (lexemes vs ++ rest) o (expected (suc at) vs b rest)
        by-pass at x vs c b rest p e o f = rw (e, f) refl

  some-first : (at : ℕ) → Begins (token read passes ▷ M) at []
  unfolding ◌▷◌
  some-first at =
      let (vs, b, k) = some a (at + 1) in
      (step l (passes at l) ∷ vs, b, (a, step l (passes at l) ∷ [], vs, refl, (l, refl, reads), k))

  pub rule-stopped : (after : Lexeme → Bool) → Rule (token read passes ▷ M) (read_token read passes ▶ q) after
  rule-stopped after = record {
    faithful = λ s. faithful-then (token read passes) M (read_token read passes) q some s (read_token read passes s)
        (faithful-token read passes (λ at. (step l (passes at l) ∷ [], a, (l, refl, reads))) s) (λ b mid g. absurd (stopped b s mid g));
    whole = λ at steps b rest h e. not-read at steps b rest h;
    some = some-first;
  }

-- nothing more may open
no-room : (site : Site) (at : ℕ) (l : Lexeme) → (p : Pass) × (opening site 0 at l ≡ Some p)
no-room site at l = by-pass (within site at l) where
  by-pass : (o : Option Pass) → (p : Pass) × (or_else o (where_so true limit.Nesting l.place) ≡ Some p)
  by-pass (Some p) = (p, refl)
  by-pass None = (_, refl)

-- what goes on after each
abbrev pub goes : Nest → Lexeme → Bool
goes whole = any or_forms
goes negated = any comparison_forms
goes signed = never

calms-close : (site : Site) (e : Expr) → Calms (token (as_sign (codes ")")) (within site) ▷ λ _. nothing e) (any or_forms) never
calms-close site e =
    calms-by-heads (token (as_sign (codes ")")) (within site) ▷ λ _. nothing e) (can (as_sign (codes ")"))) (any or_forms) never
    (heads-then (token (as_sign (codes ")")) (within site)) _ (can (as_sign (codes ")"))) (heads-token (as_sign (codes ")")) (within site)))
    (apart-first (can (as_sign (codes ")"))) (any (sign (codes ")") ∷ [])) (any or_forms) (looks-sign (codes ")")).under
    (apart (sign (codes ")") ∷ []) or_forms refl))

close : (site : Site) (e : Expr)
    → Rule (token (as_sign (codes ")")) (within site) ▷ λ _. nothing e) (read_token (as_sign (codes ")")) (within site) ▶ λ _. give e) never
close site e = next (rule-token (as_sign (codes ")")) (within site) (some_sign (codes ")")) here refl) (λ _. rule-give e)

-- a layer, where what stands within is read
module _ (site : Site) (inner : Nest → Language Expr) (inner_by : Nest → Parser Expr)
    (rules : (nest : Nest) → Rule (inner nest) (inner_by nest) (goes nest)) where
  minus : (room : ℕ) → Rule (prefixed site room (as_sign (codes "-")) (inner signed) expr.Neg)
      (prefixed_by site room (as_sign (codes "-")) (inner_by signed) expr.Neg) never
  unfolding prefixed_by
  minus room = next (rule-token (as_sign (codes "-")) (opening site room) (some_sign (codes "-")) here refl)
      (λ place. rule-map (inner signed) (inner_by signed) (λ e. expr.Neg e place) never (rules signed))

  nots : (room : ℕ) → Rule (prefixed site room (as_word (codes "not")) (inner negated) expr.Not)
      (prefixed_by site room (as_word (codes "not")) (inner_by negated) expr.Not) (any comparison_forms)
  unfolding prefixed_by
  nots room = next (rule-token (as_word (codes "not")) (opening site room) (some_word (codes "not")) here refl)
      (λ place. rule-map (inner negated) (inner_by negated) (λ e. expr.Not e place) (any comparison_forms) (rules negated))

  rest-of-group : Rule (inner whole ▷ λ e. token (as_sign (codes ")")) (within site) ▷ λ _. nothing e)
      (inner_by whole ▶ λ e. read_token (as_sign (codes ")")) (within site) ▶ λ _. give e) never
  rest-of-group = before (calms-close site) (rules whole) (close site)

  groups : (room : ℕ) → Rule (group site inner room) (group_by site inner_by room) never
  unfolding group_by
  groups room = next (rule-token (as_sign (codes "(")) (opening site room) (some_sign (codes "(")) here refl) (λ _. rest-of-group)

  pub rule-layer : (room : ℕ) (nest : Nest) → Rule (layer site inner room nest) (layer_by site inner_by room nest) (goes nest)
  rule-layer room whole = rule-disjunction site inner inner_by room (minus room) (nots room) (groups room)
  rule-layer room negated = rule-negation site inner inner_by room (minus room) (nots room) (groups room)
  rule-layer room signed = rule-unary site inner inner_by room (minus room) (nots room) (groups room)

-- a layer where nothing more may open
module _ (site : Site) (inner : Nest → Language Expr) (some : (nest : Nest) (at : ℕ) → Begins (inner nest) at []) where
  stop : {A B : Type 0} (read : Lexeme → Option A) (M : A → Language B) (q : A → Parser B) (l : Lexeme) (a : A) → read l ≡ Some a
      → ((b : A) (at : ℕ) → Begins (M b) at [])
      → (after : Lexeme → Bool) → Rule (token read (opening site 0) ▷ M) (read_token read (opening site 0) ▶ q) after
  stop read M q l a reads ones after = rule-stopped read (opening site 0) M q (no-room site) l a reads ones after

  some-map : (nest : Nest) (h : Expr → Expr) (at : ℕ) → Begins (inner nest ▷ λ e. nothing (h e)) at []
  unfolding ◌▷◌
  some-map nest h at =
      let (us, e, k) = some nest at in
      (us ++ [], h e, (e, us, [], refl, k, (refl, refl)))

  some-close : (at : ℕ) → Begins (inner whole ▷ λ e. token (as_sign (codes ")")) (within site) ▷ λ _. nothing e) at []
  unfolding ◌▷◌
  some-close at =
      let (us, e, k) = some whole at in
      let (vs, f, m) = (close site e).some (at + length us) in
      (us ++ vs, f, (e, us, vs, refl, k, m))

  minus-last : Rule (prefixed site 0 (as_sign (codes "-")) (inner signed) expr.Neg)
      (prefixed_by site 0 (as_sign (codes "-")) (refuse signed) expr.Neg) never
  unfolding prefixed_by
  minus-last = stop (as_sign (codes "-")) (λ place. inner signed ▷ λ e. nothing (expr.Neg e place)) _ (some_sign (codes "-")) here refl
      (λ place. some-map signed (λ e. expr.Neg e place)) never

  nots-last : Rule (prefixed site 0 (as_word (codes "not")) (inner negated) expr.Not)
      (prefixed_by site 0 (as_word (codes "not")) (refuse negated) expr.Not) (any comparison_forms)
  unfolding prefixed_by
  nots-last = stop (as_word (codes "not")) (λ place. inner negated ▷ λ e. nothing (expr.Not e place)) _ (some_word (codes "not")) here refl
      (λ place. some-map negated (λ e. expr.Not e place))
      (any comparison_forms)

  groups-last : Rule (group site inner 0) (group_by site refuse 0) never
  unfolding group_by
  groups-last = stop (as_sign (codes "(")) (λ _. inner whole ▷ λ e. token (as_sign (codes ")")) (within site) ▷ λ _. nothing e) _
      (some_sign (codes "(")) here refl (λ _. some-close) never

  pub rule-last : (nest : Nest) → Rule (layer site inner 0 nest) (layer_by site refuse 0 nest) (goes nest)
  rule-last whole = rule-disjunction site inner refuse 0 minus-last nots-last groups-last
  rule-last negated = rule-negation site inner refuse 0 minus-last nots-last groups-last
  rule-last signed = rule-unary site inner refuse 0 minus-last nots-last groups-last

-- a layer over parts that grow grows
module _ (site : Site) (F : Nest → ℕ → Language Expr) (L : Nest → Language Expr) (rises : (nest : Nest) → Rises (F nest) (L nest))
    (room : ℕ) where
  rises-prefixed : (read : Lexeme → Option Place) (nest : Nest) (make : Expr → Place → Expr)
      → Rises (λ n. prefixed site room read (F nest n) make) (prefixed site room read (L nest) make)
  rises-prefixed read nest make =
      rises-then (λ n. token read (opening site room)) (token read (opening site room)) (λ place n. F nest n ▷ λ e. nothing (make e place))
      (λ place. L nest ▷ λ e. nothing (make e place))
      (rises-same (token read (opening site room)))
      (λ place. rises-then (F nest) (L nest) (λ e n. nothing (make e place)) (λ e. nothing (make e place)) (rises nest)
      (λ e. rises-same (nothing (make e place))))

  rises-group : Rises (λ n. group site (λ k. F k n) room) (group site L room)
  rises-group =
      rises-then (λ n. token (as_sign (codes "(")) (opening site room)) (token (as_sign (codes "(")) (opening site room))
      (λ place n. F whole n ▷ λ e. token (as_sign (codes ")")) (within site) ▷ λ _. nothing e)
      (λ place. L whole ▷ λ e. token (as_sign (codes ")")) (within site) ▷ λ _. nothing e)
      (rises-same (token (as_sign (codes "(")) (opening site room)))
      (λ place. rises-then (F whole) (L whole) (λ e n. token (as_sign (codes ")")) (within site) ▷ λ _. nothing e)
      (λ e. token (as_sign (codes ")")) (within site) ▷ λ _. nothing e)
      (rises whole) (λ e. rises-same (token (as_sign (codes ")")) (within site) ▷ λ _. nothing e)))

  rises-atom : Rises (λ n. atom site (λ k. F k n) room) (atom site L room)
  rises-atom = rises-alternative _ _ _ _ (rises-same _) (rises-alternative _ _ _ _ (rises-same _)
      (rises-alternative _ _ _ _ (rises-same _) rises-group))

  rises-unary : Rises (λ n. unary site (λ k. F k n) room) (unary site L room)
  rises-unary = rises-alternative _ _ _ _ (rises-prefixed (as_sign (codes "-")) signed expr.Neg) rises-atom

  module _ (ops : Lexeme → Option Operator) (G : ℕ → Language Expr) (M : Language Expr) (r : Rises G M) where
    rises-right : (left : Expr) → Rises (λ n. right_of site ops (G n) left) (right_of site ops M left)
    rises-right left =
        rises-then (λ n. token ops (within site)) (token ops (within site)) (λ o n. G n ▷ λ right. nothing (two o left right))
        (λ o. M ▷ λ right. nothing (two o left right))
        (rises-same (token ops (within site)))
        (λ o. rises-then G M (λ right n. nothing (two o left right)) (λ right. nothing (two o left right)) r
        (λ right. rises-same (nothing (two o left right))))

    rises-chain : Rises (λ n. chain site ops (G n)) (chain site ops M)
    rises-chain =
        rises-then G M (λ left n. repeated (right_of site ops (G n)) left) (repeated (right_of site ops M)) r
        (rises-repeated (λ left n. right_of site ops (G n) left) (right_of site ops M) rises-right)

  rises-product : Rises (λ n. product site (λ k. F k n) room) (product site L room)
  rises-product = rises-chain as_product (λ n. unary site (λ k. F k n) room) (unary site L room) rises-unary

  rises-sum : Rises (λ n. sum site (λ k. F k n) room) (sum site L room)
  rises-sum = rises-chain as_sum (λ n. product site (λ k. F k n) room) (product site L room) rises-product

  rises-comparison : Rises (λ n. comparison site (λ k. F k n) room) (comparison site L room)
  rises-comparison =
      rises-then (λ n. sum site (λ k. F k n) room) (sum site L room) (λ left n. alternative
      (right_of site as_relation (sum site (λ k. F k n) room) left) (nothing left))
      (λ left. alternative (right_of site as_relation (sum site L room) left) (nothing left)) rises-sum
      (λ left. rises-alternative (λ n. right_of site as_relation (sum site (λ k. F k n) room) left) (λ n. nothing left)
      (right_of site as_relation (sum site L room) left) (nothing left)
      (rises-right as_relation (λ n. sum site (λ k. F k n) room) (sum site L room) rises-sum left) (rises-same (nothing left)))

  rises-negation : Rises (λ n. negation site (λ k. F k n) room) (negation site L room)
  rises-negation = rises-alternative _ _ _ _ (rises-prefixed (as_word (codes "not")) negated expr.Not) rises-comparison

  rises-conjunction : Rises (λ n. conjunction site (λ k. F k n) room) (conjunction site L room)
  rises-conjunction = rises-chain as_and (λ n. negation site (λ k. F k n) room) (negation site L room) rises-negation

  rises-disjunction : Rises (λ n. disjunction site (λ k. F k n) room) (disjunction site L room)
  rises-disjunction = rises-chain as_or (λ n. conjunction site (λ k. F k n) room) (conjunction site L room) rises-conjunction

  pub rises-layer : (nest : Nest) → Rises (λ n. layer site (λ k. F k n) room nest) (layer site L room nest)
  rises-layer whole = rises-disjunction
  rises-layer negated = rises-negation
  rises-layer signed = rises-unary

-- one part within another
module _ (site : Site) (K M : Nest → Language Expr) (into : (nest : Nest) (at : ℕ) (steps : List Step) (e : Expr) → K nest at steps e
    → M nest at steps e) where
  step-of : Nest → ℕ → Language Expr
  step-of nest zero = K nest
  step-of nest (suc n) = M nest

  up-step : (nest : Nest) (n m at : ℕ) (steps : List Step) (e : Expr) → step-of nest n at steps e → step-of nest (n + m) at steps e
  unfolding step-of
  up-step nest zero zero at steps e h = h
  up-step nest zero (suc m) at steps e h =
      let later : 0 + suc m ≡ suc m = omega arith in
      rw later (into nest at steps e h)
  up-step nest (suc n) m at steps e h =
      let later : suc n + m ≡ suc (n + m) = omega arith in
      rw later h

  both : (nest : Nest) → Rises (step-of nest) (M nest)
  unfolding step-of
  both nest = record { up = up-step nest; bound = λ at steps e h. (1, h); back = back nest } where
    back : (nest : Nest) (n at : ℕ) (steps : List Step) (e : Expr) → step-of nest n at steps e → M nest at steps e
    back nest zero at steps e h = into nest at steps e h
    back nest (suc n) at steps e h = h

  pub layer-within : (room : ℕ) (nest : Nest) (at : ℕ) (steps : List Step) (e : Expr) → layer site K room nest at steps e
      → layer site M room nest at steps e
  unfolding step-of
  layer-within room nest at steps e h = (rises-layer site step-of M both room nest).back 0 at steps e h

-- of any depth
abbrev pub deep : Site → (room : ℕ) → Nest → Language Expr
deep site room nest at steps e = (n : ℕ) × nested n site room nest at steps e

nested-up : (site : Site) (n room : ℕ) (nest : Nest) (at : ℕ) (steps : List Step) (e : Expr) → nested n site room nest at steps e
    → nested (suc n) site room nest at steps e
unfolding nested
nested-up site zero room nest at steps e h = absurd h
nested-up site (suc n) room nest at steps e h =
    layer-within site (nested n site (room - 1)) (nested (suc n) site (room - 1))
    (λ k at' steps' e' x. nested-up site n (room - 1) k at' steps' e' x) room nest at steps e h

nested-add : (site : Site) (n m room : ℕ) (nest : Nest) (at : ℕ) (steps : List Step) (e : Expr) → nested n site room nest at steps e
    → nested (n + m) site room nest at steps e
nested-add site n zero room nest at steps e h =
    let same : n + 0 ≡ n = omega arith in
    rw same h
nested-add site n (suc m) room nest at steps e h =
    let same : n + suc m ≡ suc (n + m) = omega arith in
    rw same (nested-up site (n + m) room nest at steps e (nested-add site n m room nest at steps e h))

rises-deep : (site : Site) (room : ℕ) (nest : Nest) → Rises (λ n. nested n site room nest) (deep site room nest)
rises-deep site room nest = record {
  up = λ n m at steps e h. nested-add site n m room nest at steps e h;
  bound = λ at steps e h. h;
  back = λ n at steps e h. (n, h);
}

-- a part of any depth is a layer over parts of any depth
layer-deep : (site : Site) (room : ℕ) (nest : Nest) (at : ℕ) (steps : List Step) (e : Expr)
    → layer site (deep site (room - 1)) room nest at steps e → deep site room nest at steps e
unfolding nested
layer-deep site room nest at steps e h =
    let (n, x) = (rises-layer site (λ k n. nested n site (room - 1) k) (deep site (room - 1)) (rises-deep site (room - 1)) room nest).bound
    at steps e h in
    (suc n, x)

deep-layer : (site : Site) (room : ℕ) (nest : Nest) (at : ℕ) (steps : List Step) (e : Expr) → deep site room nest at steps e
    → layer site (deep site (room - 1)) room nest at steps e
unfolding nested
deep-layer site room nest at steps e (zero, h) = absurd h
deep-layer site room nest at steps e (suc n, h) =
    (rises-layer site (λ k n. nested n site (room - 1) k) (deep site (room - 1)) (rises-deep site (room - 1)) room nest).back n at steps e h

-- the same texts, and parsers that agree
pub rule-same : {A : Type 0} (K L : Language A) (p q : Parser A) (more : Lexeme → Bool)
    → ((at : ℕ) (steps : List Step) (a : A) → K at steps a → L at steps a)
    → ((at : ℕ) (steps : List Step) (a : A) → L at steps a → K at steps a) → ((s : ParserState) → q s ≡ p s) → Rule K p more
    → Rule L q more
rule-same K L p q more to back same r = record {
  faithful = λ s. rw (same s) (faithful-wider K L p q to s (λ ls f. same (state s.at ls)) (p s) (r.faithful s));
  whole = λ at steps a rest h e. same (state at (lexemes steps ++ rest)) ∙ r.whole at steps a rest (back at steps a h) e;
  some = λ at. let (us, a, h) = r.some at in (us, a, to at us a h);
}

-- a number is an expression of each kind
module _ (site : Site) (inner : Nest → Language Expr) (room at : ℕ) where
  some-unary : Begins (unary site inner room) at []
  some-unary = (step some_number_token (within site at some_number_token) ∷ [], _, inr (inl (some_number_token, refl, refl)))

  some-chain : (ops : Lexeme → Option Operator) (operand : Language Expr) → Begins operand at [] → Begins (chain site ops operand) at []
  unfolding ◌▷◌ times
  some-chain ops operand (us, e, h) = (us ++ [], e, (e, us, [], refl, h, (zero, (refl, refl))))

  some-negation : Begins (negation site inner room) at []
  unfolding ◌▷◌
  some-negation =
      let (us, e, h) = some-chain as_sum (product site inner room) (some-chain as_product (unary site inner room) some-unary) in
      (us ++ [], e, inr (e, us, [], refl, h, inr (refl, refl)))

  some-layer : (nest : Nest) → Begins (layer site inner room nest) at []
  some-layer whole = some-chain as_or (conjunction site inner room) (some-chain as_and (negation site inner room) some-negation)
  some-layer negated = some-negation
  some-layer signed = some-unary

some-deep : (site : Site) (room : ℕ) (nest : Nest) (at : ℕ) → Begins (deep site room nest) at []
some-deep site room nest at =
    let (us, e, h) = some-layer site (deep site (room - 1)) room at nest in
    (us, e, layer-deep site room nest at us e h)

pub rule-deep : (room : ℕ) (site : Site) (nest : Nest) → Rule (deep site room nest) (nested_by room site nest) (goes nest)
unfolding nested_by
rule-deep zero site nest =
    rule-same (layer site (deep site 0) 0 nest) (deep site 0 nest) (layer_by site refuse 0 nest) (nested_by 0 site nest) (goes nest)
    (layer-deep site 0 nest) (deep-layer site 0 nest) (λ s. refl) (rule-last site (deep site 0) (some-deep site 0) nest)
rule-deep (suc room) site nest =
    let less : suc room - 1 ≡ room = omega arith in
    let rules : (k : Nest) → Rule (deep site (suc room - 1) k) (nested_by room site k) (goes k) = rw less (λ k. rule-deep room site k) in
    rule-same (layer site (deep site (suc room - 1)) (suc room) nest) (deep site (suc room) nest)
    (layer_by site (nested_by room site) (suc room) nest) (nested_by (suc room) site nest) (goes nest)
    (layer-deep site (suc room) nest) (deep-layer site (suc room) nest) (λ s. refl)
    (rule-layer site (deep site (suc room - 1)) (nested_by room site) rules (suc room) nest)

-- an expression where it stands
abbrev site_here : Bool → ℕ → Lexeme → Site
site_here is_beyond at l = record { before = at; start = l.place; is_beyond = is_beyond }

module _ (is_beyond : Bool) (at : ℕ) (l : Lexeme) where
  into : (x : Step) (more : List Step) (e : Expr) → x.lexeme ≡ l → deep (site_here is_beyond at l) 64 whole at (x ∷ more) e
      → expression is_beyond at (x ∷ more) e
  into x more e same (n, h) =
      let place : x.lexeme.place ≡ l.place = ap (λ (k : Lexeme). k.place) same in (
        x,
        more,
        n,
        refl,
        subst (λ (p : Place). nested n (record { before = at; start = p; is_beyond = is_beyond }) 64 whole at (x ∷ more) e)
            (sym place) h,
      )

  head-of : (steps : List Step) (e : Expr) → deep (site_here is_beyond at l) 64 whole at steps e
      → (x : Step) × (more : List Step) × (steps ≡ x ∷ more)
  head-of steps e h =
      let (x, more, is, t) =
      heads-disjunction (site_here is_beyond at l) (deep (site_here is_beyond at l) (64 - 1)) 64 at steps e
      (deep-layer (site_here is_beyond at l) 64 whole at steps e h) in
      (x, more, is)

  -- what is read where it stands is an expression
  from-here : (steps : List Step) (e : Expr) (rest : List Lexeme) (ls : List Lexeme) → l ∷ ls ≡ lexemes steps ++ rest
      → deep (site_here is_beyond at l) 64 whole at steps e → expression is_beyond at steps e
  from-here [] e rest ls is h = let (x, more, none) = head-of [] e h in cc none
  from-here (x ∷ more) e rest ls is h = let same : x.lexeme ≡ l = cc is in into x more e same h

some-expression : (is_beyond : Bool) (at : ℕ) → Begins (expression is_beyond) at []
unfolding some-deep some-layer some-negation some-chain some-unary
some-expression is_beyond at =
    let site : Site = record { before = at; start = here; is_beyond = is_beyond } in
    let sample = some-deep site 64 whole at in
    (sample.0, sample.1, (step some_number_token (within site at some_number_token), [], sample.2.0, refl, sample.2.1))

module _ (is_beyond : Bool) (at : ℕ) (l : Lexeme) (ls : List Lexeme) where
  -- on tokens that start as these an expression is read as one that stands here
  same-reading : (o : Outcome Expr) (all : List Lexeme) → head all ≡ Some l
      → nested_by 64 (site_here is_beyond at l) whole (state at all) ≡ o → expression_by is_beyond (state at all) ≡ o
  unfolding expression_by
  same-reading o all f e =
      at-first (λ us. nested_by 64 (site_here is_beyond at l) whole (state at us) ≡ o → expression_by is_beyond (state at us) ≡ o) l
      (λ us g. g) all f e

  agree : (us left more : List Lexeme) (o : Outcome Expr) → l ∷ ls ≡ us ++ left → head more ≡ head left
      → nested_by 64 (site_here is_beyond at l) whole (state at (us ++ more)) ≡ o → expression_by is_beyond (state at (us ++ more)) ≡ o
  agree us left more o is f e = same-reading o (us ++ more) (head-append us more left f ∙ sym (ap head is)) e

  -- a text of an expression that goes on as the tokens here
  begins-here : (steps : List Step) (rest : List Lexeme) → l ∷ ls ≡ lexemes steps ++ rest
      → Begins (deep (site_here is_beyond at l) 64 whole) at steps → Begins (expression is_beyond) at steps
  begins-here [] rest is h = some-expression is_beyond at
  begins-here (x ∷ us) rest is (more, e, h) = let same : x.lexeme ≡ l = cc is in (more, e, into is_beyond at l x (us ++ more) e same h)

  pub expression-faithful : (o : Outcome Expr)
      → Faithful (deep (site_here is_beyond at l) 64 whole) (nested_by 64 (site_here is_beyond at l) whole) (state at (l ∷ ls)) o
      → Faithful (expression is_beyond) (expression_by is_beyond) (state at (l ∷ ls)) o
  expression-faithful (Ok e, left) g = record {
    steps = g.steps;
    no_limit = g.no_limit;
    is = g.is;
    at = g.at;
    means = from-here is_beyond at l g.steps e left.rest ls g.is g.means;
    again = λ more f. agree (lexemes g.steps) left.rest more _ g.is f (g.again more f);
  }
  expression-faithful (Err Syntax, left) g = record {
    steps = g.steps;
    no_limit = g.no_limit;
    is = g.is;
    at = g.at;
    begins = begins-here g.steps left.rest g.is g.begins;
    again = λ more f. agree (lexemes g.steps) left.rest more _ g.is f (g.again more f);
  }
  expression-faithful (Err (Limit pass), left) g =
      let whole-is : l ∷ ls ≡ lexemes (g.steps ++ step g.late (Some pass) ∷ []) ++ g.rest =
      g.is ∙ ap (λ (us : List Lexeme). lexemes g.steps ++ us) g.here ∙ sym (two-parts g.steps (step g.late (Some pass) ∷ []) g.rest) in
      record {
        steps = g.steps;
        no_limit = g.no_limit;
        late = g.late;
        rest = g.rest;
        here = g.here;
        is = g.is;
        at = g.at;
        begins = begins-here (g.steps ++ step g.late (Some pass) ∷ []) g.rest whole-is g.begins;
        again = λ more. agree (lexemes g.steps) left.rest (g.late ∷ more) _ g.is (sym (ap head g.here)) (g.again more);
      }
  expression-faithful (Err NoMemory, left) g = g

pub rule-expression : (is_beyond : Bool) → Rule (expression is_beyond) (expression_by is_beyond) (any or_forms)
unfolding expression_by
rule-expression is_beyond =
    record { faithful = λ s. faithful s.at s.rest; whole = whole-expression; some = some-expression is_beyond } where
      faithful : (at : ℕ) (rest : List Lexeme)
          → Faithful (expression is_beyond) (expression_by is_beyond) (state at rest) (expression_from is_beyond at rest)
      faithful at [] = record {
        steps = [];
        no_limit = tt;
        is = refl;
        at = omega arith;
        begins = some-expression is_beyond at;
        again = at-end (λ us. expression_by is_beyond (state at us) ≡ (Err Syntax, state at us)) refl;
      }
      faithful at (l ∷ ls) =
          expression-faithful is_beyond at l ls (nested_by 64 (site_here is_beyond at l) whole (state at (l ∷ ls)))
          ((rule-deep 64 (site_here is_beyond at l) whole).faithful (state at (l ∷ ls)))

      whole-expression : Whole (expression is_beyond) (expression_by is_beyond) (any or_forms)
      whole-expression at steps e rest (x, more, n, is, h) f =
          let reading : expression_by is_beyond (state at (lexemes steps ++ rest))
          ≡ nested_by 64 (site_here is_beyond at x.lexeme) whole (state at (lexemes steps ++ rest)) =
          rw is refl in
          reading ∙ (rule-deep 64 (site_here is_beyond at x.lexeme) whole).whole at steps e rest (n, h) f

pub heads-expression : (is_beyond : Bool) → Heads (expression is_beyond) (any negation_forms)
heads-expression is_beyond at steps e (x, more, n, is, h) =
    heads-disjunction (site_here is_beyond at x.lexeme) (deep (site_here is_beyond at x.lexeme) (64 - 1)) 64 at steps e
    (deep-layer (site_here is_beyond at x.lexeme) 64 whole at steps e (n, h))
