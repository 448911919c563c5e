-- The readings of long items, taken apart.
use Rattle.std.proofs.Common.{◌≡◌, ◌∙◌, refl, Bool, false, List, Ok, Err, codes}
use Rattle.ft_tree.specs.declared.expr.Expr.{Expr}
use Rattle.ft_tree.specs.declared.item.Bound.{Bound}
use Rattle.ft_tree.specs.declared.item.Item.{Item}
use Rattle.ft_tree.specs.declared.item.Item.TheVariants as item
use Rattle.ft_tree.specs.declared.item.SectionWord.{SectionWord}
use Rattle.ft_tree.specs.declared.item.Word.{Word}
use Rattle.ft_tree.specs.meaning.Limits.{memories}
use Rattle.ft_read.specs.meaning.Choices.{as_start}
use Rattle.ft_read.specs.meaning.Limit.{no_pass}
use Rattle.ft_parse.specs.parsers.Expressions.{expression_by}
use Rattle.ft_read.specs.parsers.Parts.{bound_by, plain_bound_by, sign_by, word_by}
use Rattle.ft_parse.specs.parsers.Items.{declared_by, held_by, hyst_by}
use Rattle.ft_read.specs.parsers.Combinators.{Outcome, Parser, ParserState, give, bind, read_token, ◌▶◌}
use Rattle.ft_parse.specs.parsers.Steps.{close_by, condition_by, limits_by}
use Rattle.ft_read.specs.declared.stop.LimitWord.TheVariants as limit

-- one part after another may be read together
pub together : {A B C : Type 0} (o : Outcome A) (f : A → Parser B) (k : B → Parser C) (g : A → Parser C)
    → ((a : A) (s : ParserState) → g a s ≡ bind k (f a s))
    → bind g o ≡ bind k (bind f o)
together (Ok a, s) f k g e = e a s
together (Err stop, s) f k g e = refl

module _ {A : Type 0} (before : List Item) (k : Word × Expr → Parser A) where
  pub condition-then : (s : ParserState)
      → (declared_by memories limit.Memories before ▶ λ w. sign_by (codes "(") ▶ λ _. expression_by false ▶ λ e. sign_by (codes ",") ▶ λ _.
      k (w, e)) s
      ≡ bind k (condition_by before s)
  condition-then s =
      together (declared_by memories limit.Memories before s) _ k _ (λ w s. together (sign_by (codes "(") s) _ k _ (λ _ s.
      together (expression_by false s) _ k _ (λ e s. together (sign_by (codes ",") s) _ k _ (λ _ s. refl))))

pub close-then : {A : Type 0} (k : Unit {0} → Parser A) (s : ParserState)
    → (sign_by (codes ")") ▶ λ _. sign_by (codes ";") ▶ λ _. k tt) s ≡ bind k (close_by s)
close-then k s = together (sign_by (codes ")") s) _ k _ (λ _ s. together (sign_by (codes ";") s) _ k _ (λ _ s. refl))

pub limits-then : {A : Type 0} (k : Bound × Bound × Bool → Parser A) (s : ParserState)
    → (bound_by ▶ λ lo. sign_by (codes ",") ▶ λ _. bound_by ▶ λ hi. sign_by (codes ",") ▶ λ _. read_token as_start no_pass ▶ λ start. k
    (lo, hi, start)) s
    ≡ bind k (limits_by s)
limits-then k s =
    together (bound_by s) _ k _ (λ lo s. together (sign_by (codes ",") s) _ k _ (λ _ s. together (bound_by s) _ k _ (λ hi s.
    together (sign_by (codes ",") s) _ k _ (λ _ s. together (read_token as_start no_pass s) _ k _ (λ start s. refl)))))

same-next : {A B : Type 0} (o : Outcome A) (f g : A → Parser B) → ((a : A) (s : ParserState) → f a s ≡ g a s) → bind f o ≡ bind g o
same-next (Ok a, s) f g e = e a s
same-next (Err stop, s) f g e = refl

pub held_is : (before : List Item) (side : SectionWord) (s : ParserState) → held_by before side s
    ≡ (condition_by before ▶ λ c. plain_bound_by ▶ λ hold. word_by (codes "ms") ▶ λ _. close_by ▶ λ _. give (item.Held side c.0 c.1 hold)) s
unfolding held_by
held_is before side s =
    condition-then before (λ c. plain_bound_by ▶ λ hold. word_by (codes "ms") ▶ λ _. sign_by (codes ")") ▶ λ _. sign_by (codes ";") ▶ λ _.
    give (item.Held side c.0 c.1 hold)) s
    ∙ same-next (condition_by before s) _ _ (λ c s. same-next (plain_bound_by s) _ _
    (λ hold s. same-next (word_by (codes "ms") s) _ _ (λ _ s.
    close-then (λ _. give (item.Held side c.0 c.1 hold)) s)))

pub hyst_is : (before : List Item) (side : SectionWord) (s : ParserState) → hyst_by before side s
    ≡ (condition_by before ▶ λ c. limits_by ▶ λ b. close_by ▶ λ _. give (item.Hyst side c.0 c.1 b.0 b.1 b.2)) s
unfolding hyst_by
hyst_is before side s =
    condition-then before (λ c. bound_by ▶ λ lo. sign_by (codes ",") ▶ λ _. bound_by ▶ λ hi. sign_by (codes ",") ▶ λ _. read_token as_start
    no_pass ▶ λ start.
    sign_by (codes ")") ▶ λ _. sign_by (codes ";") ▶ λ _. give (item.Hyst side c.0 c.1 lo hi start)) s
    ∙ same-next (condition_by before s) _ _ (λ c s.
    limits-then (λ b. sign_by (codes ")") ▶ λ _. sign_by (codes ";") ▶ λ _. give (item.Hyst side c.0 c.1 b.0 b.1 b.2)) s
    ∙ same-next (limits_by s) _ _ (λ b s. close-then (λ _. give (item.Hyst side c.0 c.1 b.0 b.1 b.2)) s))

pub ruleset timers = (held_is)

pub ruleset bands = (hyst_is)
