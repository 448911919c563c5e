-- No token of a part is the text's end or a byte that begins no token.
use Rattle.std.proofs.Common.{◌≡◌, ◌∙◌, inl, inr, ℕ, zero, suc, ◌+◌, ◌-◌, Bool, true, false, ◌&&◌, List, [], ◌∷◌, ◌++◌, codes, length}
use Rattle.std.proofs.Common.{Option, Some, None, refl, sym, ap, append_assoc}
use Rattle.ft_base.specs.declared.place.Place.{Place}
use Rattle.ft_lex.specs.declared.token.TokenKind.{TokenKind}
use Rattle.ft_lex.specs.declared.token.TokenKind.TheVariants as token_kind
use Rattle.ft_lex.specs.meaning.Tokens.{is_last}
use Rattle.ft_tree.specs.declared.expr.Expr.{Expr}
use Rattle.ft_tree.specs.declared.expr.Expr.TheVariants as expr
use Rattle.ft_tree.specs.declared.item.Item.{Item}
use Rattle.ft_tree.specs.declared.item.Item.TheVariants as item
use Rattle.ft_tree.specs.declared.item.Row.{Row}
use Rattle.ft_tree.specs.declared.item.Word.{Word}
use Rattle.ft_tree.specs.declared.item.SectionWord.{SectionWord}
use Rattle.ft_tree.specs.declared.item.VarWord.{VarWord}
use Rattle.ft_read.specs.meaning.Lexeme.{Lexeme, as_end, as_name, as_sign, as_word}
use Rattle.ft_parse.specs.meaning.Language.{Language, Step, alternative, nothing, repeated, step, times, token, ◌▷◌}
use Rattle.ft_read.specs.meaning.Limit.{Passes, no_pass}
use Rattle.ft_parse.specs.meaning.Expressions.{Nest, atom, chain, comparison, conjunction, expression, group, history, layer, negated}
use Rattle.ft_parse.specs.meaning.Expressions.{negation, nested, prefixed, product, right_of, signed, sum, unary, whole}
use Rattle.ft_read.specs.meaning.Operators.{as_and, as_or, as_product, as_relation, as_sum}
use Rattle.ft_parse.specs.meaning.Items
use Rattle.ft_read.specs.declared.parts.Site.{Site}
use Rattle.ft_read.specs.declared.parts.Operator.{Operator}
use Rattle.ft_parse.specs.declared.parts.Parts.{Parts}
use Rattle.ft_read.specs.declared.parts.SectionAt.{SectionAt}
use Rattle.ft_read.specs.declared.stop.LimitWord.{LimitWord}
use Rattle.ft_parse.proofs.ExpressionRules.{looks-and, looks-or-word, looks-product, looks-relation, looks-simple, looks-sum}
use Rattle.ft_parse.proofs.Forms.{Form, Looks, any, looks-name, looks-number, looks-sign, looks-word, sign, some_end, some_name}
use Rattle.ft_parse.proofs.Forms.{some_number, word}
use Rattle.ft_parse.proofs.ItemRules.{looks-map-word, looks-moment, looks-plain, looks-side, looks-start, looks-truth, looks-var-word}

-- each token is of an inner kind
abbrev pub AllInner : List Step → Type 0
AllInner [] = Unit {0}
AllInner (s ∷ more) = (is_last s.lexeme.kind ≡ false) × AllInner more

pub record Inner {A : Type 0} (L : Language A) : Type 0 where
  pub all : (at : ℕ) (steps : List Step) (a : A) → L at steps a → AllInner steps

pub inner-append : (us vs : List Step) → AllInner us → AllInner vs → AllInner (us ++ vs)
inner-append [] vs p q = q
inner-append (u ∷ us) vs (e, p) q = (e, inner-append us vs p q)

-- forms of inner tokens
abbrev is_inner : Form → Bool
is_inner (word w) = true
is_inner (sign w) = true
is_inner some_name = true
is_inner some_number = true
is_inner some_end = false

abbrev are_inner : List Form → Bool
are_inner [] = true
are_inner (f ∷ fs) = is_inner f && are_inner fs

inner-kind : (k : TokenKind) (text : List ℕ) (fs : List Form) → are_inner fs ≡ true
    → any fs (record { kind = k; text = text; place = record { line = 1; column = 1 } }) ≡ true → is_last k ≡ false
inner-kind token_kind.Name text fs d e = refl
inner-kind token_kind.Number text fs d e = refl
inner-kind token_kind.Word text fs d e = refl
inner-kind token_kind.Sign text fs d e = refl
inner-kind token_kind.End text fs d e = none fs d e where
  none : (fs : List Form) → are_inner fs ≡ true → any fs (record {
    kind = token_kind.End;
    text = text;
    place =
        record { line = 1; column = 1 };
  }) ≡ true → true ≡ false
  none [] d e = sym e
  none (word w ∷ fs) d e = none fs d e
  none (sign w ∷ fs) d e = none fs d e
  none (some_name ∷ fs) d e = none fs d e
  none (some_number ∷ fs) d e = none fs d e
  none (some_end ∷ fs) d e = sym d
inner-kind token_kind.Bad text fs d e = none fs d e where
  none : (fs : List Form) → are_inner fs ≡ true → any fs (record {
    kind = token_kind.Bad;
    text = text;
    place =
        record { line = 1; column = 1 };
  }) ≡ true → true ≡ false
  none [] d e = sym e
  none (word w ∷ fs) d e = none fs d e
  none (sign w ∷ fs) d e = none fs d e
  none (some_name ∷ fs) d e = none fs d e
  none (some_number ∷ fs) d e = none fs d e
  none (some_end ∷ fs) d e = sym d

pub a-token : {A : Type 0} {read : Lexeme → Option A} {passes : Passes} {fs : List Form} → Looks read fs → are_inner fs ≡ true
    → Inner (token read passes)
a-token {A} {read} {passes} {fs} looks d = record {
  all = λ at steps a h.
      let (l, is, e) = h in
      rw is (inner-kind l.kind l.text fs d (looks.under l (rw e refl)), tt);
}

pub a-nothing : {A : Type 0} {a : A} → Inner (nothing a)
a-nothing {A} {a} = record { all = λ at steps b h. let (is, e) = h in rw is tt }

infixr 4 ◌◇◌
◌◇◌ : {A B : Type 0} {L : Language A} {M : A → Language B} → Inner L → ((a : A) → Inner (M a)) → Inner (L ▷ M)
unfolding ◌▷◌
◌◇◌ {A} {B} {L} {M} first second = record {
  all = λ at steps b h.
      let (a, us, vs, is, f, g) = h in
      rw is (inner-append us vs (first.all at us a f) ((second a).all (at + length us) vs b g));
}

one-of : {A : Type 0} {L M : Language A} → Inner L → Inner M → Inner (alternative L M)
one-of {A} {L} {M} one other = record { all = all } where
  all : (at : ℕ) (steps : List Step) (a : A) → alternative L M at steps a → AllInner steps
  all at steps a (inl h) = one.all at steps a h
  all at steps a (inr h) = other.all at steps a h

inner-times : {A : Type 0} (part : A → Language A) → ((a : A) → Inner (part a)) → (n : ℕ) (a : A) → Inner (times n part a)
unfolding times
inner-times part parts zero a = record { all = λ at steps b h. a-nothing.all at steps b h }
inner-times part parts (suc n) a = record { all = λ at steps b h. (parts a ◇ inner-times part parts n).all at steps b h }

again : {A : Type 0} {part : A → Language A} (a : A) → ((b : A) → Inner (part b)) → Inner (repeated part a)
again {A} {part} a parts = record { all = λ at steps b h. let (n, x) = h in (inner-times part parts n a).all at steps b x }

a-word : {passes : Passes} (w : List ℕ) → Inner (token (as_word w) passes)
a-word w = a-token (looks-word w) refl

a-sign : {passes : Passes} (w : List ℕ) → Inner (token (as_sign w) passes)
a-sign w = a-token (looks-sign w) refl

a-name : {passes : Passes} → Inner (token as_name passes)
a-name = a-token looks-name refl

module _ (site : Site) (inner : Nest → Language Expr) (room : ℕ) (within : (nest : Nest) → Inner (inner nest)) where
  in-right : (ops : Lexeme → Option Operator) (fs : List Form) (operand : Language Expr) → Looks ops fs → are_inner fs ≡ true
      → Inner operand → (left : Expr) → Inner (right_of site ops operand left)
  in-right ops fs operand looks d r left = a-token looks d ◇ λ o. r ◇ λ right. a-nothing

  in-chain : (ops : Lexeme → Option Operator) (fs : List Form) (operand : Language Expr) → Looks ops fs → are_inner fs ≡ true
      → Inner operand → Inner (chain site ops operand)
  in-chain ops fs operand looks d r = r ◇ λ left. again left (in-right ops fs operand looks d r)

  in-history : (w : List ℕ) (make : List ℕ → Place → Expr) → Inner (history site room w make)
  in-history w make = a-word w ◇ λ place. a-sign (codes "(") ◇ λ _. a-name ◇ λ name. a-sign (codes ")") ◇ λ _. a-nothing

  in-group : Inner (group site inner room)
  in-group = a-sign (codes "(") ◇ λ _. within whole ◇ λ e. a-sign (codes ")") ◇ λ _. a-nothing

  in-prefixed : (read : Lexeme → Option Place) (fs : List Form) (nest : Nest) (make : Expr → Place → Expr) → Looks read fs
      → are_inner fs ≡ true → Inner (prefixed site room read (inner nest) make)
  in-prefixed read fs nest make looks d = a-token looks d ◇ λ place. within nest ◇ λ e. a-nothing

  in-atom : Inner (atom site inner room)
  in-atom = one-of (a-token looks-simple refl) (one-of (in-history (codes "prev") expr.Prev)
      (one-of (in-history (codes "age") expr.Age) in-group))

  in-unary : Inner (unary site inner room)
  in-unary = one-of (in-prefixed (as_sign (codes "-")) _ signed expr.Neg (looks-sign (codes "-")) refl) in-atom

  in-product : Inner (product site inner room)
  in-product = in-chain as_product _ (unary site inner room) looks-product refl in-unary

  in-sum : Inner (sum site inner room)
  in-sum = in-chain as_sum _ (product site inner room) looks-sum refl in-product

  in-comparison : Inner (comparison site inner room)
  in-comparison = in-sum ◇ λ left. one-of (in-right as_relation _ (sum site inner room) looks-relation refl in-sum left) a-nothing

  in-negation : Inner (negation site inner room)
  in-negation = one-of (in-prefixed (as_word (codes "not")) _ negated expr.Not (looks-word (codes "not")) refl) in-comparison

  in-conjunction : Inner (conjunction site inner room)
  in-conjunction = in-chain as_and _ (negation site inner room) looks-and refl in-negation

  in-layer : (nest : Nest) → Inner (layer site inner room nest)
  in-layer whole = in-chain as_or _ (conjunction site inner room) looks-or-word refl in-conjunction
  in-layer negated = in-negation
  in-layer signed = in-unary

in-nested : (n : ℕ) (site : Site) (room : ℕ) (nest : Nest) → Inner (nested n site room nest)
unfolding nested
in-nested zero site room nest = record { all = λ at steps e h. absurd h }
in-nested (suc n) site room nest =
    record {
      all = λ at steps e h. (in-layer site (nested n site (room - 1)) room (λ k. in-nested n site (room - 1) k) nest).all at steps e
          h;
    }

in-expression : (is_beyond : Bool) → Inner (expression is_beyond)
in-expression is_beyond = record { all = λ at steps e h. let (first, more, n, is, x) = h in (in-nested n _ 64 whole).all at steps e x }

in-plain : Inner Items.plain_bound
in-plain = a-token looks-plain refl

in-minus : Inner Items.minus_bound
in-minus = a-sign (codes "-") ◇ λ place. in-plain ◇ λ b. a-nothing

in-bound : Inner Items.bound
in-bound = one-of in-minus in-plain

in-number : Inner Items.number
in-number = a-token looks-number refl

in-value : Inner Items.value
in-value = one-of (a-token looks-truth refl) in-bound

in-upper : Inner Items.upper
in-upper = a-sign (codes "..") ◇ λ _. in-bound

in-kind : Inner Items.kind_part
in-kind = one-of (a-word (codes "bool") ◇ λ _. a-nothing) (one-of (a-name ◇ λ w. one-of (in-upper ◇ λ hi. a-nothing) a-nothing)
    (one-of in-minus (in-number ◇ λ n. a-nothing) ◇ λ lo. in-upper ◇ λ hi. a-nothing))

in-entries : Inner Items.entries
in-entries = in-expression _ ◇ λ e. again (e ∷ []) (λ es. a-sign (codes ",") ◇ λ _. in-expression _ ◇ λ f. a-nothing)

in-names : (most : ℕ) (which : LimitWord) → Inner (Items.names most which)
in-names most which = a-name ◇ λ w. again (w ∷ []) (λ ws. a-sign (codes ",") ◇ λ _. a-name ◇ λ v. a-nothing)

in-several : {A : Type 0} {part : ℕ → Language A} → ((n : ℕ) → Inner (part n)) → Inner (Items.several part)
in-several {A} {part} parts = parts 0 ◇ λ a. again (a ∷ []) (λ done. parts (length done) ◇ λ b. a-nothing)

in-row : (n : ℕ) → Inner (Items.row n)
in-row n = a-word (codes "row") ◇ λ place. in-expression _ ◇ λ head. a-sign (codes ":") ◇ λ _. in-entries ◇ λ cells. a-sign (codes ";") ◇ λ
    _. a-nothing

in-vrow : (n : ℕ) → Inner (Items.vrow n)
in-vrow n = a-word (codes "row") ◇ λ place. a-name ◇ λ target. a-sign (codes ":") ◇ λ _. in-entries ◇ λ cells. a-sign (codes ";") ◇ λ _.
    a-nothing

in-header : (w : List ℕ) → Inner (Items.header w)
in-header w = a-word w ◇ λ _. in-entries ◇ λ cells. a-sign (codes ";") ◇ λ _. a-nothing

in-grid : (items : List Item) (w : List ℕ) (make : Word → List Expr → List Row → Item) → Inner (Items.grid items w make)
in-grid items w make = a-name ◇ λ target. a-sign (codes "{") ◇ λ _. in-header w ◇ λ cells. in-several in-row ◇ λ rows. a-sign (codes "}") ◇
    λ _. a-nothing

in-table : (items : List Item) (s : SectionAt) → Inner (Items.table items s)
in-table items s =
    one-of (a-word (codes "normal") ◇ λ _. in-grid items (codes "columns") (item.Normal s.word))
    (one-of (a-word (codes "inverted") ◇ λ _. in-grid items (codes "terms") (item.Inverted s.word))
    (a-word (codes "vector") ◇ λ _. a-sign (codes "{") ◇ λ _. in-header (codes "columns") ◇ λ cells. in-several in-vrow ◇ λ rows. a-sign
    (codes "}") ◇ λ _. a-nothing))

in-variable : (items : List Item) (words : VarWord) → Inner (Items.variable items words)
in-variable items words = a-name ◇ λ w. a-sign (codes ":") ◇ λ _. in-kind ◇ λ of. a-word (codes "init") ◇ λ _. in-value ◇ λ init. a-sign
    (codes ";") ◇ λ _. a-nothing

in-held : (items : List Item) (side : SectionWord) → Inner (Items.held items side)
in-held items side =
    a-name ◇ λ w. a-sign (codes "(") ◇ λ _. in-expression _ ◇ λ cond. a-sign (codes ",") ◇ λ _. in-plain ◇ λ hold. a-word (codes "ms") ◇ λ
    _. a-sign (codes ")") ◇ λ _. a-sign (codes ";") ◇ λ _. a-nothing

in-hyst : (items : List Item) (side : SectionWord) → Inner (Items.hyst items side)
in-hyst items side =
    a-name ◇ λ w. a-sign (codes "(") ◇ λ _. in-expression _ ◇ λ term. a-sign (codes ",") ◇ λ _. in-bound ◇ λ lo. a-sign (codes ",") ◇ λ _.
    in-bound ◇ λ hi. a-sign (codes ",") ◇ λ _.
    a-token looks-start refl ◇ λ start. a-sign (codes ")") ◇ λ _. a-sign (codes ";") ◇ λ _. a-nothing

in-sided : (items : List Item) (s : SectionAt) → Inner (Items.sided items s)
in-sided items s =
    one-of (a-word (codes "var") ◇ λ _. in-variable items (Items.inner_variable s.word))
    (one-of (a-word (codes "held") ◇ λ _. in-held items s.word)
    (one-of (a-word (codes "hyst") ◇ λ _. in-hyst items s.word) (in-table items s)))

in-constant : (items : List Item) → Inner (Items.constant items)
in-constant items =
    a-word (codes "const") ◇ λ _. a-name ◇ λ w. a-sign (codes "=") ◇ λ _. one-of (a-sign (codes "-") ◇ λ _. in-number ◇ λ n. a-nothing)
    (in-number ◇ λ n. a-nothing) ◇ λ n. a-sign (codes ";") ◇ λ _. a-nothing

in-type : (items : List Item) → Inner (Items.type_item items)
in-type items =
    a-word (codes "type") ◇ λ _. a-name ◇ λ w. a-sign (codes "=") ◇ λ _.
    one-of (a-sign (codes "{") ◇ λ _. in-names 64 _ ◇ λ ms. a-sign (codes "}") ◇ λ _. a-nothing)
    (in-bound ◇ λ lo. in-upper ◇ λ hi. a-nothing) ◇ λ made. a-sign (codes ";") ◇ λ _. a-nothing

in-clause : (items : List Item) → Inner (Items.clause items)
in-clause items = a-word (codes "nat") ◇ λ _. a-token looks-moment refl ◇ λ moment. in-expression _ ◇ λ cond. a-sign (codes ";") ◇ λ _.
    a-nothing

in-listed : (w : List ℕ) → Inner (Items.listed w)
in-listed w = one-of (a-word w ◇ λ _. in-names 300 _ ◇ λ ws. a-sign (codes ";") ◇ λ _. a-nothing) a-nothing

in-fact : (items : List Item) (n : ℕ) → Inner (Items.fact_part items n)
in-fact items n =
    one-of (a-word (codes "shows") ◇ λ _. a-name ◇ λ w. a-sign (codes ":") ◇ λ _. in-expression _ ◇ λ cond. a-sign (codes ";") ◇ λ _.
    a-nothing)
    (a-word (codes "goal") ◇ λ _. a-name ◇ λ w. a-sign (codes ";") ◇ λ _. a-nothing)

in-block : (items : List Item) → Inner (Items.block items)
in-block items =
    a-word (codes "block") ◇ λ _. a-name ◇ λ w. a-sign (codes "{") ◇ λ _. in-listed (codes "takes") ◇ λ takes. in-listed (codes "uses") ◇ λ
    uses.
    in-several (in-fact items) ◇ λ facts. a-sign (codes "}") ◇ λ _. a-nothing

in-item : (items : List Item) → Inner (Items.item_part items)
in-item items =
    one-of (in-constant items) (one-of (in-type items) (one-of (a-token looks-var-word refl ◇ in-variable items)
    (one-of (a-token looks-side refl ◇ in-sided items)
    (one-of (a-token looks-map-word refl ◇ in-table items) (one-of (in-clause items) (in-block items))))))

in-setting : (w : List ℕ) → Inner (Items.setting w)
in-setting w = one-of (a-word w ◇ λ _. in-number ◇ λ n. a-sign (codes ";") ◇ λ _. a-nothing) a-nothing

-- inner tokens, and then the text's end
pub record Ended {A : Type 0} (L : Language A) : Type 0 where
  pub all : (at : ℕ) (steps : List Step) (a : A) → L at steps a → (front : List Step) × (last : Step) × (steps ≡ front ++ last ∷ [])
      × AllInner front × (is_last last.lexeme.kind ≡ true)

infixr 4 ◌◆◌
◌◆◌ : {A B : Type 0} {L : Language A} {M : A → Language B} → Inner L → ((a : A) → Ended (M a)) → Ended (L ▷ M)
unfolding ◌▷◌
◌◆◌ {A} {B} {L} {M} first second = record {
  all = λ at steps b h.
      let (a, us, vs, is, f, g) = h in
      let (front, last, split, inner, e) = (second a).all (at + length us) vs b g in (
        us ++ front,
        last,
        is ∙ ap (λ (ws : List Step). us ++ ws) split ∙ sym (append_assoc us front (last ∷ [])),
        inner-append us front (first.all at us a f) inner,
        e,
      );
}

end-kind : (k : TokenKind) (text : List ℕ) (place a : Place) → as_end (record { kind = k; text = text; place = place }) ≡ Some a → is_last k
    ≡ true
end-kind token_kind.End text place a e = refl
end-kind token_kind.Name text place a e = cc e
end-kind token_kind.Number text place a e = cc e
end-kind token_kind.Word text place a e = cc e
end-kind token_kind.Sign text place a e = cc e
end-kind token_kind.Bad text place a e = cc e

the-end : (parts : Parts) → Ended (token as_end no_pass ▷ λ _. nothing parts)
unfolding ◌▷◌
the-end parts = record {
  all = λ at steps b h.
      let (a, us, vs, is, f, g) = h in
      let (l, one, e) = f in
      let (none, same) = g in (
        [],
        step l None,
        is ∙ ap (λ (ws : List Step). ws ++ vs) one ∙ ap (λ (ws : List Step). step l None ∷ ws) none,
        tt,
        end-kind l.kind l.text l.place a e,
      );
}

-- a set's text ends with the text's end, and has it nowhere else
pub set-ends : Ended Items.set
set-ends =
    a-word (codes "set") ◆ λ _. a-name ◆ λ w. a-sign (codes ";") ◆ λ _. a-word (codes "period") ◆ λ _. in-number ◆ λ period. a-word
    (codes "ms") ◆ λ _. a-sign (codes ";") ◆ λ _.
    in-setting (codes "splits") ◆ λ splits. in-setting (codes "depth") ◆ λ depth. again [] (λ items. in-item items ◇ λ made. a-nothing) ◆ λ
    items.
    the-end (record { name = w.text; period = period; splits = splits; depth = depth; items = items })
