-- A reading that tries one kind of token and then others.
use Rattle.std.proofs.Common.{◌≡◌, refl, sym, true≢false, true, Option, Some, None}
use Rattle.ft_tree.specs.declared.expr.Expr.{Expr}
use Rattle.ft_tree.specs.declared.expr.Expr.TheVariants as expr
use Rattle.ft_tree.specs.declared.item.Number.{Number}
use Rattle.ft_tree.specs.declared.item.Word.{Word}
use Rattle.ft_read.specs.meaning.Lexeme.{Lexeme, as_name, as_number, or_else}
use Rattle.ft_read.specs.parsers.Cursor.{ReadsAs}
use Rattle.ft_read.specs.meaning.Operators.{as_simple}
use Rattle.ft_read.specs.parsers.Combinators.{is_some}
use Rattle.ft_read.specs.parsers.Tokens.{as_truth_of}

module _ {A B : Type 0} (read : Lexeme → Option A) (f : A → B) (other : Lexeme → Option B) where
  abbrev choice : Lexeme → Option B
  choice l = or_else (elim (read l) [ None ↦ None | Some a ↦ Some (f a) ]) (other l)

  some-is : (found : Option A) (o : Option B) (a : A) → is_some (Some a) ≡ is_some found
      → is_some (or_else (elim found [ None ↦ None | Some b ↦ Some (f b) ]) o) ≡ true
  some-is None o a e = absurd (true≢false e)
  some-is (Some b) o a e = refl

  pub first-is : (l : Lexeme) (a : A) → ReadsAs read l (Some a) → ReadsAs choice l (Some (f a))
  first-is l a h = record { same = λ e. rw (sym (h.same e)) refl; some = sym (some-is (read l) (other l) a h.some) }

  none-is : (found : Option A) → is_some {A = A} None ≡ is_some found → found ≡ None
  none-is None e = refl
  none-is (Some b) e = absurd (true≢false (sym e))

  pub other-is : (l : Lexeme) (b : Option B) → ReadsAs read l None → b ≡ other l → ReadsAs choice l b
  other-is l b h e = let none = none-is (read l) h.some in rw (e) (record { same = λ f. rw none refl; some = rw none refl })

pub simple_number : (l : Lexeme) (n : Number) → ReadsAs as_number l (Some n) → ReadsAs as_simple l (Some (expr.Num n.value n.place))
simple_number l n h = first-is as_number (λ (n : Number). expr.Num n.value n.place)
    (λ l. or_else (elim (as_name l) [ None ↦ None | Some word ↦ Some (expr.Name word.text word.place) ]) (as_truth_of l)) l n h

pub simple_name : (l : Lexeme) (w : Word) → ReadsAs as_number l None → Some w ≡ as_name l
    → ReadsAs as_simple l (Some (expr.Name w.text w.place))
simple_name l w h e = other-is as_number (λ (n : Number). expr.Num n.value n.place)
    (λ l. or_else (elim (as_name l) [ None ↦ None | Some word ↦ Some (expr.Name word.text word.place) ]) (as_truth_of l)) l
    (Some (expr.Name w.text w.place)) h (rw (sym e) refl)

pub simple_truth : (l : Lexeme) (found : Option Expr) → ReadsAs as_number l None → None ≡ as_name l → found ≡ as_truth_of l
    → ReadsAs as_simple l found
simple_truth l found h e f = other-is as_number (λ (n : Number). expr.Num n.value n.place)
    (λ l. or_else (elim (as_name l) [ None ↦ None | Some word ↦ Some (expr.Name word.text word.place) ]) (as_truth_of l)) l found h
    (rw (sym e) f)

pub ruleset simples = (simple_number, simple_name, simple_truth)
