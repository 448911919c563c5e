-- An expression that is read within the limits is one of a tree: lawful, with at most 1,000 tokens and at most 64 open at once.
use Rattle.std.proofs.Common.{◌≡◌, inl, inr, ℕ, zero, suc, ◌+◌, ◌-◌, ◌≤◌, ◌&&◌, nat_eq, nat_le, Bool, true, false, List, [], ◌∷◌, ◌++◌}
use Rattle.std.proofs.Common.{codes, length}
use Rattle.std.proofs.Common.{Option, Some, None, refl, sym, ap, subst, length-append}
use native.Mathlib.Omega.{arith}
use Rattle.std.proofs.lemmas.Bool.Decides.{nat_tests}
use Rattle.ft_base.specs.declared.place.Place.{Place}
use Rattle.ft_tree.specs.declared.expr.Op.{Op}
use Rattle.ft_tree.specs.declared.expr.Op.TheVariants.{Or, And, Eq, Ne, Lt, Le, Gt, Ge, Add, Sub, Mul, Div}
use Rattle.ft_tree.specs.declared.expr.Expr.{Expr}
use Rattle.ft_tree.specs.declared.expr.Expr.TheVariants as expr
use Rattle.ft_tree.specs.declared.level.Level.{Level}
use Rattle.ft_tree.specs.declared.level.Level.TheVariants.{Disjunction, Conjunction, Negation, Comparison, Sum, Product, Unary, Atom}
use Rattle.ft_tree.specs.meaning.Level.{left_of, op_level, rank, tighter}
use Rattle.ft_base.specs.Names.{is_name}
use Rattle.ft_tree.specs.meaning.Limits.{is_expr}
use Rattle.ft_read.specs.meaning.Lexeme.{Lexeme, as_sign, as_word}
use Rattle.ft_parse.specs.meaning.Language.{Language, Step, alternative, nothing, repeated, step, times, token, ◌▷◌}
use Rattle.ft_read.specs.meaning.Limit.{Passes, is_extra, is_late, opening, within}
use Rattle.ft_parse.specs.meaning.Expressions.{Nest, atom, chain, comparison, conjunction, expression, group, history, layer, negated}
use Rattle.ft_parse.specs.meaning.Expressions.{negation, nested, prefixed, product, right_of, signed, sum, unary, whole}
use Rattle.ft_read.specs.meaning.Operators.{as_and, as_or, as_product, as_relation, as_simple, as_sum, operator, two}
use Rattle.ft_read.specs.declared.parts.Site.{Site}
use Rattle.ft_read.specs.declared.parts.Operator.{Operator}
use Rattle.ft_parse.proofs.Fits.{Fit, fit-age, fit-expr, fit-group, fit-looser, fit-more, fit-name, fit-neg, fit-not, fit-num, fit-prev}
use Rattle.ft_parse.proofs.Fits.{fit-truth, fit-two}
use Rattle.ft_parse.proofs.RealTokens.{AllGood, IncludesLexical, ReadsLawful, first-none, good-parts, reads-any, reads-map, reads-name}
use Rattle.ft_parse.proofs.RealTokens.{reads-number}
use Rattle.ft_parse.proofs.RealTokens.{reads-or, so-none}

-- within the first 1,000 tokens of the expression, and no entry too many
abbrev pub Stands : Site → ℕ → List Step → Type 0
Stands site at steps =
    (at ≤ site.before + 1000 → at + length steps ≤ site.before + 1000)
    × (at ≡ site.before → 1 ≤ length steps → site.is_beyond ≡ false)

-- what holds of each part that is read within the limits, and of the number of its tokens
pub record Spans {A : Type 0} (site : Site) (L : Language A) (P : ℕ → A → Type 0) : Type 0 where
  pub all : (at : ℕ) (steps : List Step) (a : A) → L at steps a → AllGood steps → Stands site at steps × P (length steps) a

late-below : (a b : ℕ) → nat_le b a ≡ false → a + 1 ≤ b
late-below a b e = grind (arith, nat_tests)

same-number : (a b : ℕ) → a ≡ b → nat_eq a b ≡ true
same-number a b e = grind (arith, nat_tests)

at-beyond : (x y : Bool) → (x && y) ≡ false → y ≡ true → x ≡ false
at-beyond true true e f = cc e
at-beyond true false e f = cc f
at-beyond false y e f = refl

within-stands : (site : Site) (at : ℕ) (l : Lexeme) (s : Step) → within site at l ≡ None → Stands site at (s ∷ [])
within-stands site at l s e =
    let (lexical, more) = first-none _ _ e in
    let (extra, late) = first-none _ _ more in
    let soon = late-below at (site.before + 1000) (so-none (is_late site at) _ _ late) in (
      λ low. soon,
      λ same some. at-beyond site.is_beyond (nat_eq at site.before) (so-none (is_extra site at) _ _ extra)
          (same-number at site.before same),
    )

no-steps : (site : Site) (at : ℕ) → Stands site at []
no-steps site at = (λ low. omega (arith, low), λ same some. absurd (omega (arith, some)))

stands-append : (site : Site) (at : ℕ) (us vs : List Step) → Stands site at us → Stands site (at + length us) vs
    → Stands site at (us ++ vs)
stands-append site at us vs s t =
    (λ low. omega (arith, length-append us vs, t.0 (s.0 low)), λ same some. by-first us s t same some) where
      by-first : (us : List Step) → Stands site at us → Stands site (at + length us) vs → at ≡ site.before → 1 ≤ length (us ++ vs)
          → site.is_beyond ≡ false
      by-first [] s t same some = t.1 (omega (arith, same)) some
      by-first (u ∷ us) s t same some = s.1 same (omega arith)

-- a token of an expression
pub record Inside (site : Site) (passes : Passes) : Type 0 where
  pub inside : (at : ℕ) (l : Lexeme) → passes at l ≡ None → within site at l ≡ None

span-token : {A : Type 0} {site : Site} {read : Lexeme → Option A} {passes : Passes} {P : A → Type 0} → Inside site passes
    → ReadsLawful passes read P
    → Spans site (token read passes) (λ n a. (n ≡ 1) × P a)
span-token {A} {site} {read} {passes} {P} inside reads = record { all = all } where
  by-step : (at : ℕ) (l : Lexeme) (a : A) → read l ≡ Some a → AllGood (step l (passes at l) ∷ [])
      → Stands site at (step l (passes at l) ∷ []) × ((length (step l (passes at l) ∷ []) ≡ 1) × P a)
  by-step at l a e (real, plain, _) =
      (within-stands site at l (step l (passes at l)) (inside.inside at l plain), (refl, reads.gives at l a real plain e))

  all : (at : ℕ) (steps : List Step) (a : A) → token read passes at steps a → AllGood steps
      → Stands site at steps × ((length steps ≡ 1) × P a)
  all at steps a (l, is, e) = rw is (by-step at l a e)

done : {A : Type 0} {site : Site} {Q : ℕ → A → Type 0} {a : A} → Q 0 a → Spans site (nothing a) Q
done {A} {site} {Q} {a} q = record { all = all } where
  all : (at : ℕ) (steps : List Step) (b : A) → nothing a at steps b → AllGood steps → Stands site at steps × Q (length steps) b
  all at steps b (is, same) good = rw (is, ← same) (no-steps site at, q)

infixr 4 ◌◇◌
◌◇◌ : {A B : Type 0} {site : Site} {L : Language A} {M : A → Language B} {P : ℕ → A → Type 0} {Q : ℕ → B → Type 0}
    → Spans site L P → ((n : ℕ) (a : A) → P n a → Spans site (M a) (λ m b. Q (n + m) b)) → Spans site (L ▷ M) Q
unfolding ◌▷◌
◌◇◌ {A} {B} {site} {L} {M} {P} {Q} first second = record { all = all } where
  joined : (at : ℕ) (us vs : List Step) (a : A) (b : B) → L at us a → M a (at + length us) vs b → AllGood (us ++ vs)
      → Stands site at (us ++ vs) × Q (length (us ++ vs)) b
  joined at us vs a b f g good =
      let (x, y) = good-parts us vs good in
      let (s, p) = first.all at us a f x in
      let (t, q) = (second (length us) a p).all (at + length us) vs b g y in
      (stands-append site at us vs s t, subst (λ (n : ℕ). Q n b) (sym (length-append us vs)) q)

  all : (at : ℕ) (steps : List Step) (b : B) → (L ▷ M) at steps b → AllGood steps → Stands site at steps × Q (length steps) b
  all at steps b (a, us, vs, is, f, g) = rw is (joined at us vs a b f g)

one-of : {A : Type 0} {site : Site} {L M : Language A} {P : ℕ → A → Type 0} → Spans site L P → Spans site M P
    → Spans site (alternative L M) P
one-of {A} {site} {L} {M} {P} one other = record { all = all } where
  all : (at : ℕ) (steps : List Step) (a : A) → alternative L M at steps a → AllGood steps → Stands site at steps × P (length steps) a
  all at steps a (inl h) good = one.all at steps a h good
  all at steps a (inr h) good = other.all at steps a h good

weaker : {A : Type 0} {site : Site} {L : Language A} {P Q : ℕ → A → Type 0} → ((n : ℕ) (a : A) → P n a → Q n a) → Spans site L P
    → Spans site L Q
weaker {A} {site} {L} {P} {Q} h s =
    record { all = λ at steps a x good. let (t, p) = s.all at steps a x good in (t, h (length steps) a p) }

module _ {A : Type 0} (site : Site) (part : A → Language A) (P : ℕ → A → Type 0)
    (parts : (n : ℕ) (a : A) → P n a → Spans site (part a) (λ m b. P (n + m) b)) where
  further : (k n : ℕ) (a : A) → P n a → ((m : ℕ) (b : A) → P m b → Spans site (times k part b) (λ j c. P (m + j) c))
      → Spans site (part a ▷ times k part) (λ m b. P (n + m) b)
  further k n a p later =
      parts n a p ◇ λ m b q. weaker (λ j c r. let same : n + m + j ≡ n + (m + j) = omega arith in subst (λ (i : ℕ). P i c) same r)
      (later (n + m) b q)

  span-times : (k n : ℕ) (a : A) → P n a → Spans site (times k part a) (λ m b. P (n + m) b)
  unfolding times
  span-times zero n a p =
      let same : n ≡ n + 0 = omega arith in
      record {
        all = λ at steps b h good. (done {site = site} {Q = λ m c. P (n + m) c} {a = a}
            (subst (λ (i : ℕ). P i a) same p)).all at steps b h good;
      }
  span-times (suc k) n a p =
      record { all = λ at steps b h good. (further k n a p (λ m c q. span-times k m c q)).all at steps b h good }

  span-repeated : (n : ℕ) (a : A) → P n a → Spans site (repeated part a) (λ m b. P (n + m) b)
  span-repeated n a p = record { all = λ at steps b h good. let (k, x) = h in (span-times k n a p).all at steps b x good }

reads-operator : {passes : Passes} (level : Level) (op : Op) (f : Lexeme → Option Place) → op_level op ≡ level
    → ReadsLawful passes (λ l. operator op (f l)) (λ o. op_level o.op ≡ level)
reads-operator {passes} level op f same = record { gives = λ at l o real p e. by-value (f l) o e } where
  by-value : (x : Option Place) (o : Operator) → operator op x ≡ Some o → op_level o.op ≡ level
  by-value (Some place) o e =
      let made : record { op = op; place = place } ≡ o = cc e in
      subst (λ (x : Operator). op_level x.op ≡ level) made same
  by-value None o e = cc e

reads-or-word : {passes : Passes} → ReadsLawful passes as_or (λ o. op_level o.op ≡ Disjunction)
reads-or-word {passes} = reads-operator Disjunction Or (as_word (codes "or")) refl

reads-and : {passes : Passes} → ReadsLawful passes as_and (λ o. op_level o.op ≡ Conjunction)
reads-and {passes} = reads-operator Conjunction And (as_word (codes "and")) refl

reads-relation : {passes : Passes} → ReadsLawful passes as_relation (λ o. op_level o.op ≡ Comparison)
reads-relation {passes} =
    reads-or (reads-operator Comparison Eq (as_sign (codes "=")) refl)
    (reads-or (reads-operator Comparison Ne (as_sign (codes "<>")) refl)
    (reads-or (reads-operator Comparison Lt (as_sign (codes "<")) refl)
    (reads-or (reads-operator Comparison Le (as_sign (codes "<=")) refl)
    (reads-or (reads-operator Comparison Gt (as_sign (codes ">")) refl)
    (reads-operator Comparison Ge (as_sign (codes ">=")) refl)))))

reads-sum : {passes : Passes} → ReadsLawful passes as_sum (λ o. op_level o.op ≡ Sum)
reads-sum {passes} =
    reads-or (reads-operator Sum Add (as_sign (codes "+")) refl) (reads-operator Sum Sub (as_sign (codes "-")) refl)

reads-product : {passes : Passes} → ReadsLawful passes as_product (λ o. op_level o.op ≡ Product)
reads-product {passes} =
    reads-or (reads-operator Product Mul (as_sign (codes "*")) refl) (reads-operator Product Div (as_word (codes "div")) refl)

-- the level of what may stand within an opened construct
abbrev pub nest_level : Nest → Level
nest_level whole = Disjunction
nest_level negated = Negation
nest_level signed = Unary

inside-within : (site : Site) → Inside site (within site)
inside-within site = record { inside = λ at l e. e }

inside-opening : (site : Site) (room : ℕ) → Inside site (opening site room)
inside-opening site room = record { inside = λ at l e. (first-none _ _ e).0 }

within-includes : (site : Site) → IncludesLexical (within site)
within-includes site = record { lexical = λ at l e. (first-none _ _ e).0 }

some-room : (room : ℕ) → nat_eq room 0 ≡ false → 1 ≤ room
some-room room e = grind (arith, nat_tests)

reads-opening : {A : Type 0} (site : Site) (room : ℕ) (read : Lexeme → Option A) → ReadsLawful (opening site room) read (λ a. 1 ≤ room)
reads-opening {A} site room read =
    record { gives = λ at l a real p e. some-room room (so-none (nat_eq room 0) _ _ (first-none _ _ p).1) }

fit-right : (level : Level) (o : Operator) (left right : Expr) (room n m : ℕ) → op_level o.op ≡ level
    → Fit (left_of level) room n left → Fit (tighter level) room m right
    → Fit level room (n + suc m) (two o left right)
fit-right level o left right room n m same f g =
    subst (λ (x : Level). Fit x room (n + suc m) (two o left right)) same
    (fit-two o.op left right o.place room n m (subst (λ (x : Level). Fit (left_of x) room n left) (sym same) f)
    (subst (λ (x : Level). Fit (tighter x) room m right) (sym same) g))

module _ (site : Site) (inner : Nest → Language Expr) (room : ℕ)
    (within_inner : (nest : Nest) → Spans site (inner nest) (Fit (nest_level nest) (room - 1))) where
  a-token : {A : Type 0} (read : Lexeme → Option A) → Spans site (token read (within site)) (λ n a. (n ≡ 1) × Unit {0})
  a-token {A} read = span-token (inside-within site) (reads-any read)

  an-opening : {A : Type 0} (read : Lexeme → Option A) → Spans site (token read (opening site room)) (λ n a. (n ≡ 1) × (1 ≤ room))
  an-opening {A} read = span-token (inside-opening site room) (reads-opening site room read)

  reads-simple : ReadsLawful (within site) as_simple (λ e. Fit Atom room 1 e)
  reads-simple =
      reads-or (reads-map (λ n. expr.Num n.value n.place) (reads-number (within-includes site))
      (λ n e. fit-num n.value n.place room e))
      (reads-or (reads-map (λ w. expr.Name w.text w.place) (reads-name (within-includes site)) (λ w e. fit-name w.text w.place room e))
      (reads-or (reads-map (λ place. expr.Truth true place) (reads-any (as_word (codes "true")))
      (λ place _. fit-truth true place room))
      (reads-map (λ place. expr.Truth false place) (reads-any (as_word (codes "false"))) (λ place _. fit-truth false place room))))

  in-right : (level : Level) (ops : Lexeme → Option Operator) (operand : Language Expr)
      → ReadsLawful (within site) ops (λ o. op_level o.op ≡ level) → Spans site operand (Fit (tighter level) room)
      → (n : ℕ) (left : Expr) → Fit (left_of level) room n left
      → Spans site (right_of site ops operand left) (λ m e. Fit level room (n + m) e)
  in-right level ops operand reads r n left f =
      span-token (inside-within site) reads ◇ λ i o h. r ◇ λ j right g.
      done (fit-more (n + (i + (j + 0))) (omega (arith, h.0)) (fit-right level o left right room n j h.1 f g))

  in-chain : (level : Level) (ops : Lexeme → Option Operator) (operand : Language Expr) → left_of level ≡ level
      → nat_le (rank level) (rank (tighter level)) ≡ true
      → ReadsLawful (within site) ops (λ o. op_level o.op ≡ level) → Spans site operand (Fit (tighter level) room)
      → Spans site (chain site ops operand) (Fit level room)
  in-chain level ops operand same le reads r =
      r ◇ λ n left f. span-repeated site (right_of site ops operand) (Fit level room)
      (λ m e g. in-right level ops operand reads r m e (subst (λ (x : Level). Fit x room m e) (sym same) g)) n left
      (fit-looser (tighter level) level le f)

  in-history : (w : List ℕ) (make : List ℕ → Place → Expr) → ((name : List ℕ) (place : Place) → is_name name ≡ true → 1 ≤ room
      → Fit Atom room 4 (make name place))
      → Spans site (history site room w make) (Fit Atom room)
  in-history w make fits =
      a-token (as_word w) ◇ λ i place h. an-opening (as_sign (codes "(")) ◇ λ j _ g.
      span-token (inside-within site) (reads-name (within-includes site)) ◇ λ k name f. a-token (as_sign (codes ")")) ◇ λ m _ e.
      done (fit-more (i + (j + (k + (m + 0)))) (omega (arith, h.0, g.0, f.0, e.0)) (fits name.text place f.1 g.1))

  in-group : Spans site (group site inner room) (Fit Atom room)
  in-group =
      an-opening (as_sign (codes "(")) ◇ λ i _ h. within_inner whole ◇ λ j e f. a-token (as_sign (codes ")")) ◇ λ k _ g.
      done (fit-more (i + (j + (k + 0))) (omega (arith, h.0, g.0)) (fit-group e room j h.1 f))

  in-prefixed : (level : Level) (read : Lexeme → Option Place) (nest : Nest) (make : Expr → Place → Expr)
      → ((e : Expr) (place : Place) (n : ℕ) → 1 ≤ room → Fit (nest_level nest) (room - 1) n e
      → Fit level room (suc n) (make e place))
      → Spans site (prefixed site room read (inner nest) make) (Fit level room)
  in-prefixed level read nest make fits =
      an-opening read ◇ λ i place h. within_inner nest ◇ λ j e f.
      done (fit-more (i + (j + 0)) (omega (arith, h.0)) (fits e place j h.1 f))

  in-atom : Spans site (atom site inner room) (Fit Atom room)
  in-atom =
      one-of (weaker (λ n e h. fit-more n (omega (arith, h.0)) h.1) (span-token (inside-within site) reads-simple))
      (one-of (in-history (codes "prev") expr.Prev (λ name place e some. fit-prev name place room e some))
      (one-of (in-history (codes "age") expr.Age (λ name place e some. fit-age name place room e some)) in-group))

  in-unary : Spans site (unary site inner room) (Fit Unary room)
  in-unary =
      one-of (in-prefixed Unary (as_sign (codes "-")) signed expr.Neg (λ e place n some f. fit-neg e place room n some f))
      (weaker (λ n e f. fit-looser Atom Unary refl f) in-atom)

  in-product : Spans site (product site inner room) (Fit Product room)
  in-product = in-chain Product as_product (unary site inner room) refl refl reads-product in-unary

  in-sum : Spans site (sum site inner room) (Fit Sum room)
  in-sum = in-chain Sum as_sum (product site inner room) refl refl reads-sum in-product

  in-comparison : Spans site (comparison site inner room) (Fit Comparison room)
  in-comparison =
      in-sum ◇ λ n left f. one-of (in-right Comparison as_relation (sum site inner room) reads-relation in-sum n left f)
      (done (fit-more (n + 0) (omega arith) (fit-looser Sum Comparison refl f)))

  in-negation : Spans site (negation site inner room) (Fit Negation room)
  in-negation =
      one-of (in-prefixed Negation (as_word (codes "not")) negated expr.Not (λ e place n some f. fit-not e place room n some f))
      (weaker (λ n e f. fit-looser Comparison Negation refl f) in-comparison)

  in-conjunction : Spans site (conjunction site inner room) (Fit Conjunction room)
  in-conjunction = in-chain Conjunction as_and (negation site inner room) refl refl reads-and in-negation

  in-layer : (nest : Nest) → Spans site (layer site inner room nest) (Fit (nest_level nest) room)
  in-layer whole = in-chain Disjunction as_or (conjunction site inner room) refl refl reads-or-word in-conjunction
  in-layer negated = in-negation
  in-layer signed = in-unary

in-nested : (n : ℕ) (site : Site) (room : ℕ) (nest : Nest) → Spans site (nested n site room nest) (Fit (nest_level nest) room)
unfolding nested
in-nested zero site room nest = record { all = λ at steps e h good. absurd h }
in-nested (suc n) site room nest = record {
  all = λ at steps e h good. (in-layer site (nested n site (room - 1)) room
      (λ k. in-nested n site (room - 1) k) nest).all at steps e h good;
}

-- an expression that is read within the limits is one of a tree, and no entry too many
pub lawful-expression : (is_beyond : Bool) (at : ℕ) (steps : List Step) (e : Expr) → expression is_beyond at steps e
    → AllGood steps → (is_expr e ≡ true) × (is_beyond ≡ false)
lawful-expression is_beyond at steps e (first, more, n, is, x) good =
    let site : Site = record { before = at; start = first.lexeme.place; is_beyond = is_beyond } in
    let (stands, fit) = (in-nested n site 64 whole).all at steps e x good in
    let some : 1 ≤ length steps = omega (arith, ap length is) in
    (fit-expr e (length steps) (omega (arith, stands.0 (omega arith))) fit, stands.1 refl some)
