-- Lists as a loop comes to its next item.
use Rattle.std.proofs.Common.{◌≡◌, ◌∙◌, sym, ap, refl, ℕ, suc, ◌+◌, ◌≤◌, ◌<◌, length, List, [], ◌∷◌, ◌++◌, take, drop, append-nil}
use Rattle.std.proofs.Common.{append_assoc, arith}
use Rattle.std.specs.Prelude.{slice_index_or, true}
use Rattle.std.specs.List.{flat_map, list_all}
use Rattle.std.proofs.lemmas.List.Sums.{AllPass-from_list_all}
use Rattle.std.proofs.lemmas.List.{drop_all}
use Rattle.std.proofs.Math.Seq.{drop-cons}
use Rattle.ft_tree.specs.declared.item.Item.{Item}
use Rattle.ft_tree.specs.meaning.Limits.{is_item}
use Rattle.ft_core.specs.declared.tables.Var.{Var}
use Rattle.ft_names.specs.meaning.Cards.{Env}
use Rattle.ft_names.specs.laws.Lists.{flat_next}
use Rattle.ft_build.specs.declared.places.Places.{Places}
use Rattle.ft_build.specs.meaning.Variables.{build_var, counted, vars_from}

pub flat-more : {X Y : Type 0} (f : X → List Y) (xs : List X) (i : ℕ) (x : X) (old new : List Y) → i < length xs
    → x ≡ slice_index_or xs i x → old ≡ flat_map f (take i xs) → new ≡ old ++ f x → new ≡ flat_map f (take (i + 1) xs)
flat-more f xs i x old new within is front made = made ∙ ap (λ l. l ++ f x) front ∙ sym (flat_next f xs i x within is)

pub item-lawful : (items : List Item) (i : ℕ) (x : Item) → list_all is_item items ≡ true → i < length items
    → x ≡ slice_index_or items i x → is_item x ≡ true
item-lawful items i x all within is = ap is_item is ∙ AllPass-from_list_all is_item items all i x within

drop_next : {X : Type 0} (xs : List X) (i : ℕ) (x : X) → i < length xs → x ≡ slice_index_or xs i x → drop i xs ≡ x ∷ drop (i + 1) xs
drop_next xs i x within is =
    let step : suc i ≡ i + 1 = omega arith in
    drop-cons xs i x within ∙ ap (λ y. y ∷ drop (suc i) xs) (sym is) ∙ ap (λ j. x ∷ drop j xs) step

vars-at : (all : List Item) (env : Env) (places : Places) (x : Item) (xs : List Item)
    → vars_from all env places (x ∷ xs) ≡ build_var all env places x ++ vars_from all env (counted places x) xs
unfolding vars_from
vars-at all env places x xs = refl

vars-none : (all : List Item) (env : Env) (places : Places) → vars_from all env places [] ≡ []
unfolding vars_from
vars-none all env places = refl

-- one item more
pub vars-more : (all xs : List Item) (env : Env) (whole old new : List Var) (places next : Places) (i : ℕ) (x : Item) → i < length xs
    → x ≡ slice_index_or xs i x → whole ≡ old ++ vars_from all env places (drop i xs) → new ≡ old ++ build_var all env places x
    → next ≡ counted places x → whole ≡ new ++ vars_from all env next (drop (i + 1) xs)
vars-more all xs env whole old new places next i x within is left made after =
    left ∙ ap (λ l. old ++ vars_from all env places l) (drop_next xs i x within is)
    ∙ ap (λ l. old ++ l) (vars-at all env places x (drop (i + 1) xs))
    ∙ sym (append_assoc old (build_var all env places x) (vars_from all env (counted places x) (drop (i + 1) xs)))
    ∙ ap (λ l. l ++ vars_from all env (counted places x) (drop (i + 1) xs)) (sym made)
    ∙ ap (λ (p : Places). new ++ vars_from all env p (drop (i + 1) xs)) (sym after)

-- after the last item
pub vars-end : (all xs : List Item) (env : Env) (whole made : List Var) (places : Places) (i : ℕ) → length xs ≤ i
    → whole ≡ made ++ vars_from all env places (drop i xs) → made ≡ whole
vars-end all xs env whole made places i past left =
    sym (left ∙ ap (λ l. made ++ vars_from all env places l) (drop_all i xs past) ∙ ap (λ l. made ++ l) (vars-none all env places)
    ∙ append-nil made)
