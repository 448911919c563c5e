-- Each part of the grammar of expressions with the parser that reads it.
use Rattle.std.proofs.Common.{◌≡◌, ◌∙◌, ℕ, Bool, true, false, List, [], ◌∷◌, ◌++◌, codes, Option, Some, None, refl}
use Rattle.std.proofs.lemmas.List.Folds.{list_any-append}
use Rattle.std.proofs.Math.Bool.{or-true}
use Rattle.ft_base.specs.declared.place.Place.{Place}
use Rattle.ft_lex.specs.declared.token.TokenKind.TheVariants as kind
use Rattle.ft_tree.specs.declared.expr.Op.{Op}
use Rattle.ft_tree.specs.declared.expr.Op.TheVariants.{Or, And, Eq, Ne, Lt, Le, Gt, Ge, Add, Sub, Mul, Div}
use Rattle.ft_tree.specs.declared.expr.Expr.{Expr}
use Rattle.ft_tree.specs.declared.expr.Expr.TheVariants as expr
use Rattle.ft_read.specs.meaning.Lexeme.{Lexeme, as_name, as_sign, as_word}
use Rattle.ft_parse.specs.meaning.Language.{Language, alternative, nothing, repeated, token, ◌▷◌}
use Rattle.ft_read.specs.meaning.Limit.{Passes, opening, within}
use Rattle.ft_parse.specs.meaning.Expressions.{Nest, atom, chain, comparison, conjunction, disjunction, group, history, negated, negation}
use Rattle.ft_parse.specs.meaning.Expressions.{prefixed, product, right_of, signed, sum, unary}
use Rattle.ft_read.specs.meaning.Operators.{as_and, as_or, as_product, as_relation, as_simple, as_sum, operator, two}
use Rattle.ft_read.specs.parsers.Combinators.{Parser, can, alternative_by, give, is_some, read_token, ◌▶◌}
use Rattle.ft_parse.specs.parsers.Repetition.{many}
use Rattle.ft_parse.specs.parsers.Expressions.{atom_by, chain_by, comparison_by, conjunction_by, disjunction_by, group_by, history_by}
use Rattle.ft_parse.specs.parsers.Expressions.{negation_by, prefixed_by, product_by, right_by, sum_by, unary_by}
use Rattle.ft_read.specs.declared.parts.Site.{Site}
use Rattle.ft_read.specs.declared.parts.Operator.{Operator}
use Rattle.ft_parse.proofs.Forms.{Form, all_differ, any, apart, apart-under, Looks, itself-bytes, looks-map, looks-name, looks-number}
use Rattle.ft_parse.proofs.Forms.{looks-or, looks-sign, looks-word, sign, some_name, some_number, under-both, word}
use Rattle.ft_parse.proofs.Many.{Heads}
use Rattle.ft_parse.proofs.Rule.{Rule, next, heads-alternative, heads-then, heads-token, heads-weaker, rule-alternative, rule-give}
use Rattle.ft_parse.proofs.Rule.{rule-many}
use Rattle.ft_parse.proofs.Rule.{rule-next, rule-then, rule-token, rule-weaker}
use Rattle.ft_parse.proofs.Whole.{Apart, Under, calms-by-heads, calms-alternative, calms-many, calms-nothing, never}

-- some place, for the texts that show that a part has one
abbrev pub here : Place
here = record { line = 1; column = 1 }

abbrev pub some_word : List ℕ → Lexeme
some_word w = record { kind = kind.Word; text = w; place = here }

abbrev pub some_sign : List ℕ → Lexeme
some_sign w = record { kind = kind.Sign; text = w; place = here }

abbrev pub some_name_token : Lexeme
some_name_token = record { kind = kind.Name; text = codes "x"; place = here }

abbrev pub some_number_token : Lexeme
some_number_token = record { kind = kind.Number; text = codes "0"; place = here }

pub under-never : (big : Lexeme → Bool) → Under never big
under-never big l e = cc e

pub under-same : (test : Lexeme → Bool) → Under test test
under-same test l e = e

pub under-left : (xs ys : List Form) → Under (any xs) (any (xs ++ ys))
under-left xs ys l e = list_any-append _ xs ys ∙ rw e refl

pub under-right : (xs ys : List Form) → Under (any ys) (any (xs ++ ys))
under-right xs ys l e = list_any-append _ xs ys ∙ rw e (or-true (any xs l))

pub apart-first : (one big other : Lexeme → Bool) → Under one big → Apart big other → Apart one other
apart-first one big other under d l e = d l (under l e)

pub rule-done : {A : Type 0} (a : A) (more : Lexeme → Bool) → Rule (nothing a) (give a) more
rule-done a more = rule-weaker (nothing a) (give a) never more (under-never more) (rule-give a)

-- a part and what is made of it
pub rule-map : {A B : Type 0} (L : Language A) (p : Parser A) (h : A → B) (more : Lexeme → Bool) → Rule L p more
    → Rule (L ▷ λ a. nothing (h a)) (p ▶ λ a. give (h a)) more
rule-map L p h more r =
    rule-then L (λ a. nothing (h a)) p (λ a. give (h a)) more more (λ a. calms-nothing (h a) more more (under-same more)) r
    (λ a. rule-done (h a) more)

module _ (site : Site) (ops : Lexeme → Option Operator) (operand : Language Expr) (operand_by : Parser Expr) (leading inner : List Form)
    (l : Lexeme) (o : Operator)
    (reads : ops l ≡ Some o) (under : Under (can ops) (any leading)) (differ : all_differ leading inner ≡ true) where
  pub rule-right : (left : Expr) → Rule operand operand_by (any inner)
      → Rule (right_of site ops operand left) (right_by site ops operand_by left) (any inner)
  unfolding right_by
  rule-right left r =
      rule-next (token ops (within site)) (λ o. operand ▷ λ right. nothing (two o left right)) (read_token ops (within site))
      (λ o. operand_by ▶ λ right. give (two o left right))
      (any inner) (rule-token ops (within site) l o reads) (λ o. rule-map operand operand_by (λ right. two o left right) (any inner) r)

  pub heads-right : (left : Expr) → Heads (right_of site ops operand left) (can ops)
  heads-right left = heads-then (token ops (within site)) (λ o. operand ▷ λ right. nothing (two o left right)) (can ops)
      (heads-token ops (within site))

  apart-ops : Apart (can ops) (any inner)
  apart-ops = apart-first (can ops) (any leading) (any inner) under (apart leading inner differ)

  pub rule-chain : Rule operand operand_by (any inner)
      → Rule (chain site ops operand) (chain_by site ops operand_by) (any (leading ++ inner))
  rule-chain r =
      rule-then operand (repeated (right_of site ops operand)) operand_by (many (can ops) (right_by site ops operand_by)) (any inner)
      (any (leading ++ inner))
      (calms-many (right_of site ops operand) (can ops) (right_by site ops operand_by) (any inner) (any (leading ++ inner))
      (λ left s. (rule-right left r).faithful s) heads-right
      apart-ops (under-right leading inner) (under-both (can ops) (any leading) (any (leading ++ inner)) under (under-left leading inner)))
      r
      (rule-many (right_of site ops operand) (can ops) (right_by site ops operand_by) (any inner) (any (leading ++ inner)) heads-right
      apart-ops (under-right leading inner)
      (under-both (can ops) (any leading) (any (leading ++ inner)) under (under-left leading inner)) (λ left. rule-right left r))

-- which tokens operators are
abbrev pub product_forms : List Form
product_forms = sign (codes "*") ∷ word (codes "div") ∷ []

abbrev pub sum_operators : List Form
sum_operators = sign (codes "+") ∷ sign (codes "-") ∷ []

abbrev pub sum_forms : List Form
sum_forms = sum_operators ++ product_forms

abbrev pub relation_operators : List Form
relation_operators = sign (codes "=") ∷ sign (codes "<>") ∷ sign (codes "<") ∷ sign (codes "<=") ∷ sign (codes ">") ∷ sign (codes ">=") ∷ []

abbrev pub comparison_forms : List Form
comparison_forms = relation_operators ++ sum_forms

abbrev pub and_forms : List Form
and_forms = (word (codes "and") ∷ []) ++ comparison_forms

abbrev pub or_forms : List Form
or_forms = (word (codes "or") ∷ []) ++ and_forms

looks-operator : {f : Lexeme → Option Place} {xs : List Form} (op : Op) → Looks f xs → Looks (λ l. operator op (f l)) xs
looks-operator {f} {xs} op one = record { under = λ l e. by-value l (f l) refl e } where
  by-value : (l : Lexeme) (o : Option Place) → f l ≡ o → is_some (operator op o) ≡ true → any xs l ≡ true
  by-value l (Some place) p e = one.under l (rw p refl)
  by-value l None p e = cc e

pub looks-product : Looks as_product product_forms
looks-product = looks-or (looks-operator Mul (looks-sign (codes "*"))) (looks-operator Div (looks-word (codes "div")))

pub looks-sum : Looks as_sum sum_operators
looks-sum = looks-or (looks-operator Add (looks-sign (codes "+"))) (looks-operator Sub (looks-sign (codes "-")))

pub looks-relation : Looks as_relation relation_operators
looks-relation = looks-or (looks-operator Eq (looks-sign (codes "=")))
    (looks-or (looks-operator Ne (looks-sign (codes "<>"))) (looks-or (looks-operator Lt (looks-sign (codes "<")))
    (looks-or (looks-operator Le (looks-sign (codes "<="))) (looks-or (looks-operator Gt (looks-sign (codes ">")))
    (looks-operator Ge (looks-sign (codes ">=")))))))

pub looks-and : Looks as_and (word (codes "and") ∷ [])
looks-and = looks-operator And (looks-word (codes "and"))

pub looks-or-word : Looks as_or (word (codes "or") ∷ [])
looks-or-word = looks-operator Or (looks-word (codes "or"))

abbrev pub simple_forms : List Form
simple_forms = some_number ∷ some_name ∷ word (codes "true") ∷ word (codes "false") ∷ []

pub looks-simple : Looks as_simple simple_forms
looks-simple =
    looks-or (looks-map (λ n. expr.Num n.value n.place) looks-number) (looks-or (looks-map (λ w. expr.Name w.text w.place) looks-name)
    (looks-or (looks-map (expr.Truth true) (looks-word (codes "true"))) (looks-map (expr.Truth false) (looks-word (codes "false")))))

pub itself : (w : List ℕ) → as_word w (some_word w) ≡ Some here
itself w = rw (itself-bytes w) refl

-- `prev` or `age`
pub rule-history : (site : Site) (room : ℕ) (w : List ℕ) (make : List ℕ → Place → Expr)
    → Rule (history site room w make) (history_by site room w make) never
unfolding history_by
rule-history site room w make =
    next (rule-token (as_word w) (within site) (some_word w) here (itself w)) (λ place.
    next (rule-token (as_sign (codes "(")) (opening site room) (some_sign (codes "(")) here refl) (λ _.
    next (rule-token as_name (within site) some_name_token _ refl) (λ name.
    next (rule-token (as_sign (codes ")")) (within site) (some_sign (codes ")")) here refl) (λ _.
    rule-give (make name.text place)))))

-- a part that begins with a token of these forms
pub heads-first : {A B : Type 0} (read : Lexeme → Option A) (passes : Passes) (M : A → Language B) (forms : List Form) → Looks read forms
    → Heads (token read passes ▷ M) (any forms)
heads-first read passes M forms looks =
    heads-weaker (token read passes ▷ M) (can read) (any forms) looks.under
    (heads-then (token read passes) M (can read) (heads-token read passes))

pub heads-one : {A : Type 0} (read : Lexeme → Option A) (passes : Passes) (forms : List Form) → Looks read forms
    → Heads (token read passes) (any forms)
heads-one read passes forms looks = heads-weaker (token read passes) (can read) (any forms) looks.under (heads-token read passes)

pub heads-two : {A : Type 0} (L M : Language A) (xs ys : List Form) → Heads L (any xs) → Heads M (any ys)
    → Heads (alternative L M) (any (xs ++ ys))
heads-two L M xs ys one other =
    heads-alternative L M (any (xs ++ ys)) (heads-weaker L (any xs) (any (xs ++ ys)) (under-left xs ys) one)
    (heads-weaker M (any ys) (any (xs ++ ys)) (under-right xs ys) other)

-- a choice by the first token: the second part begins with other tokens
pub choose : {A B : Type 0} (L M : Language A) (read : Lexeme → Option B) (p q : Parser A) (after : Lexeme → Bool) (xs ys : List Form)
    → Looks read xs → Heads L (can read) → Heads M (any ys)
    → all_differ ys xs ≡ true → Rule L p after → Rule M q after → Rule (alternative L M) (alternative_by (can read) p q) after
choose L M read p q after xs ys looks heads others differ r t =
    rule-alternative L M (can read) p q after heads
    (calms-by-heads M (any ys) (can read) after others (apart-under (any ys) (can read) (any xs) (apart ys xs differ) looks.under)) r t

abbrev pub age_forms : List Form
age_forms = word (codes "age") ∷ sign (codes "(") ∷ []

abbrev pub prev_forms : List Form
prev_forms = word (codes "prev") ∷ age_forms

abbrev pub atom_forms : List Form
atom_forms = simple_forms ++ prev_forms

abbrev pub unary_forms : List Form
unary_forms = sign (codes "-") ∷ atom_forms

abbrev pub negation_forms : List Form
negation_forms = word (codes "not") ∷ unary_forms

-- what the parts begin with
module _ (site : Site) (inner : Nest → Language Expr) (room : ℕ) where
  heads-group : Heads (group site inner room) (any (sign (codes "(") ∷ []))
  heads-group = heads-first (as_sign (codes "(")) (opening site room) _ (sign (codes "(") ∷ []) (looks-sign (codes "("))

  heads-history : (w : List ℕ) (make : List ℕ → Place → Expr) → Heads (history site room w make) (any (word w ∷ []))
  heads-history w make = heads-first (as_word w) (within site) _ (word w ∷ []) (looks-word w)

  from-history : (w : List ℕ) (make : List ℕ → Place → Expr) → Heads (history site room w make) (can (as_word w))
  from-history w make = heads-then (token (as_word w) (within site)) _ (can (as_word w)) (heads-token (as_word w) (within site))

  heads-age : Heads (alternative (history site room (codes "age") expr.Age) (group site inner room)) (any age_forms)
  heads-age = heads-two (history site room (codes "age") expr.Age) (group site inner room) (word (codes "age") ∷ []) (sign (codes "(") ∷ [])
      (heads-history (codes "age") expr.Age) heads-group

  heads-prev : Heads (alternative (history site room (codes "prev") expr.Prev)
      (alternative (history site room (codes "age") expr.Age) (group site inner room))) (any prev_forms)
  heads-prev =
      heads-two (history site room (codes "prev") expr.Prev) (alternative (history site room (codes "age") expr.Age)
      (group site inner room)) (word (codes "prev") ∷ []) age_forms
      (heads-history (codes "prev") expr.Prev) heads-age

  heads-atom : Heads (atom site inner room) (any atom_forms)
  heads-atom =
      heads-two (token as_simple (within site)) (alternative (history site room (codes "prev") expr.Prev)
      (alternative (history site room (codes "age") expr.Age) (group site inner room)))
      simple_forms prev_forms (heads-one as_simple (within site) simple_forms looks-simple) heads-prev

  from-minus : Heads (prefixed site room (as_sign (codes "-")) (inner signed) expr.Neg) (can (as_sign (codes "-")))
  from-minus = heads-then (token (as_sign (codes "-")) (opening site room)) _ (can (as_sign (codes "-")))
      (heads-token (as_sign (codes "-")) (opening site room))

  heads-unary : Heads (unary site inner room) (any unary_forms)
  heads-unary =
      heads-two (prefixed site room (as_sign (codes "-")) (inner signed) expr.Neg) (atom site inner room) (sign (codes "-") ∷ []) atom_forms
      (heads-first (as_sign (codes "-")) (opening site room) _ (sign (codes "-") ∷ []) (looks-sign (codes "-"))) heads-atom

  heads-sum : Heads (sum site inner room) (any unary_forms)
  heads-sum = heads-then (product site inner room) _ (any unary_forms) (heads-then (unary site inner room) _ (any unary_forms) heads-unary)

  heads-comparison : Heads (comparison site inner room) (any unary_forms)
  heads-comparison = heads-then (sum site inner room) _ (any unary_forms) heads-sum

  from-not : Heads (prefixed site room (as_word (codes "not")) (inner negated) expr.Not) (can (as_word (codes "not")))
  from-not = heads-then (token (as_word (codes "not")) (opening site room)) _ (can (as_word (codes "not")))
      (heads-token (as_word (codes "not")) (opening site room))

  heads-negation : Heads (negation site inner room) (any negation_forms)
  heads-negation =
      heads-two (prefixed site room (as_word (codes "not")) (inner negated) expr.Not) (comparison site inner room) (word (codes "not") ∷ [])
      unary_forms
      (heads-first (as_word (codes "not")) (opening site room) _ (word (codes "not") ∷ []) (looks-word (codes "not"))) heads-comparison

  -- every expression begins with one of these
  pub heads-disjunction : Heads (disjunction site inner room) (any negation_forms)
  heads-disjunction =
      heads-then (conjunction site inner room) _ (any negation_forms) (heads-then (negation site inner room) _ (any negation_forms)
      heads-negation)

-- the parts of a layer, where those that open are read
module _ (site : Site) (inner : Nest → Language Expr) (inner_by : Nest → Parser Expr) (room : ℕ)
    (minus : Rule (prefixed site room (as_sign (codes "-")) (inner signed) expr.Neg)
    (prefixed_by site room (as_sign (codes "-")) (inner_by signed) expr.Neg) never)
    (nots : Rule (prefixed site room (as_word (codes "not")) (inner negated) expr.Not)
    (prefixed_by site room (as_word (codes "not")) (inner_by negated) expr.Not) (any comparison_forms))
    (groups : Rule (group site inner room) (group_by site inner_by room) never) where
  rule-atom : Rule (atom site inner room) (atom_by site inner_by room) never
  unfolding atom_by
  rule-atom =
      choose (token as_simple (within site)) (alternative (history site room (codes "prev") expr.Prev)
      (alternative (history site room (codes "age") expr.Age) (group site inner room)))
      as_simple _ _ never simple_forms prev_forms looks-simple (heads-token as_simple (within site)) (heads-prev site inner room) refl
      (rule-token as_simple (within site) some_number_token _ refl)
      (choose (history site room (codes "prev") expr.Prev) (alternative (history site room (codes "age") expr.Age) (group site inner room))
      (as_word (codes "prev")) _ _ never (word (codes "prev") ∷ []) age_forms (looks-word (codes "prev"))
      (from-history site inner room (codes "prev") expr.Prev) (heads-age site inner room) refl
      (rule-history site room (codes "prev") expr.Prev)
      (choose (history site room (codes "age") expr.Age) (group site inner room)
      (as_word (codes "age")) _ _ never (word (codes "age") ∷ []) (sign (codes "(") ∷ []) (looks-word (codes "age"))
      (from-history site inner room (codes "age") expr.Age) (heads-group site inner room) refl
      (rule-history site room (codes "age") expr.Age) groups))

  pub rule-unary : Rule (unary site inner room) (unary_by site inner_by room) never
  unfolding unary_by
  rule-unary =
      choose (prefixed site room (as_sign (codes "-")) (inner signed) expr.Neg) (atom site inner room) (as_sign (codes "-")) _ _ never
      (sign (codes "-") ∷ []) atom_forms
      (looks-sign (codes "-")) (from-minus site inner room) (heads-atom site inner room) refl minus rule-atom

  rule-product : Rule (product site inner room) (product_by site inner_by room) (any product_forms)
  unfolding product_by
  rule-product = rule-chain site as_product (unary site inner room) (unary_by site inner_by room) product_forms [] (some_sign (codes "*")) _
      refl looks-product.under refl rule-unary

  rule-sum : Rule (sum site inner room) (sum_by site inner_by room) (any sum_forms)
  unfolding sum_by
  rule-sum = rule-chain site as_sum (product site inner room) (product_by site inner_by room) sum_operators product_forms
      (some_sign (codes "+")) _ refl looks-sum.under refl rule-product

  -- a comparison's second half, where there is one
  abbrev half : Expr → Language Expr
  half left = alternative (right_of site as_relation (sum site inner room) left) (nothing left)

  rule-comparison : Rule (comparison site inner room) (comparison_by site inner_by room) (any comparison_forms)
  unfolding comparison_by
  rule-comparison =
      rule-then (sum site inner room) half (sum_by site inner_by room)
      (λ left. alternative_by (can as_relation) (right_by site as_relation (sum_by site inner_by room) left) (give left))
      (any sum_forms) (any comparison_forms)
      (λ left. calms-alternative (right_of site as_relation (sum site inner room) left) (nothing left) (any sum_forms)
      (any comparison_forms)
      (calms-by-heads (right_of site as_relation (sum site inner room) left) (can as_relation) (any sum_forms) (any comparison_forms)
      (goes-on left)
      (apart-first (can as_relation) (any relation_operators) (any sum_forms) looks-relation.under
      (apart relation_operators sum_forms refl)))
      (calms-nothing left (any sum_forms) (any comparison_forms) (under-right relation_operators sum_forms)))
      rule-sum
      (λ left. rule-alternative (right_of site as_relation (sum site inner room) left) (nothing left) (can as_relation)
      (right_by site as_relation (sum_by site inner_by room) left) (give left)
      (any comparison_forms) (goes-on left)
      (calms-nothing left (can as_relation) (any comparison_forms)
      (under-both (can as_relation) (any relation_operators) (any comparison_forms) looks-relation.under
      (under-left relation_operators sum_forms)))
      (rule-weaker (right_of site as_relation (sum site inner room) left) (right_by site as_relation (sum_by site inner_by room) left)
      (any sum_forms) (any comparison_forms)
      (under-right relation_operators sum_forms) (right left))
      (rule-done left (any comparison_forms))) where
        goes-on : (left : Expr) → Heads (right_of site as_relation (sum site inner room) left) (can as_relation)
        goes-on left =
            heads-right site as_relation (sum site inner room) (sum_by site inner_by room) relation_operators sum_forms
            (some_sign (codes "=")) _ refl looks-relation.under refl left

        right : (left : Expr)
            → Rule (right_of site as_relation (sum site inner room) left) (right_by site as_relation (sum_by site inner_by room) left)
            (any sum_forms)
        right left =
            rule-right site as_relation (sum site inner room) (sum_by site inner_by room) relation_operators sum_forms
            (some_sign (codes "=")) _ refl looks-relation.under refl left rule-sum

  pub rule-negation : Rule (negation site inner room) (negation_by site inner_by room) (any comparison_forms)
  unfolding negation_by
  rule-negation =
      choose (prefixed site room (as_word (codes "not")) (inner negated) expr.Not) (comparison site inner room) (as_word (codes "not")) _ _
      (any comparison_forms)
      (word (codes "not") ∷ []) unary_forms (looks-word (codes "not")) (from-not site inner room) (heads-comparison site inner room) refl
      nots rule-comparison

  rule-conjunction : Rule (conjunction site inner room) (conjunction_by site inner_by room) (any and_forms)
  unfolding conjunction_by
  rule-conjunction =
      rule-chain site as_and (negation site inner room) (negation_by site inner_by room) (word (codes "and") ∷ []) comparison_forms
      (some_word (codes "and")) _ refl looks-and.under refl
      rule-negation

  pub rule-disjunction : Rule (disjunction site inner room) (disjunction_by site inner_by room) (any or_forms)
  unfolding disjunction_by
  rule-disjunction =
      rule-chain site as_or (conjunction site inner room) (conjunction_by site inner_by room) (word (codes "or") ∷ []) and_forms
      (some_word (codes "or")) _ refl looks-or-word.under refl
      rule-conjunction
