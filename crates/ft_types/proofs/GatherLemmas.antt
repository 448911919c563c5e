-- The targets of a set, taken one after another.
use Rattle.std.proofs.Common.{◌≡◌, ◌∙◌, sym, ap, subst, refl, ℕ, ◌+◌, ◌*◌, ◌≤◌, ◌<◌, Bool, true, false, not, ◌||◌, ◌&&◌, List, [], ◌∷◌}
use Rattle.std.proofs.Common.{◌++◌, length, Option, Some, None, MatchBool, append_assoc, append-nil, bytes_eq, arith}
use Rattle.std.specs.Prelude.{slice_index_or, Result, Err}
use Rattle.std.specs.List.{list_all, list_any}
use Rattle.std.specs.Option.{option_or}
use Rattle.std.proofs.lemmas.Bool.{true≢false}
use Rattle.std.proofs.lemmas.List.{map-append}
use Rattle.std.proofs.lemmas.List.Sums.{AllPass-from_list_all}
use Rattle.std.proofs.lemmas.Slice.Eq.{bytes_eq-Decides}
use Rattle.ft_tree.specs.declared.item.Item.{Item}
use Rattle.ft_tree.specs.meaning.Limits.{is_item}
use Rattle.ft_tree.specs.declared.item.Word.{Word}
use Rattle.ft_tree.specs.declared.item.SectionWord.{SectionWord}
use Rattle.ft_tree.specs.declared.item.SectionWord.TheVariants.{In, Req, Sof, Out}
use Rattle.ft_names.specs.laws.First.{first_of-append, option_or-None}
use Rattle.ft_names.specs.meaning.Declared.{Listing, is_among, names_in}
use Rattle.ft_names.specs.meaning.First.{Answers, first_of}
use Rattle.ft_types.specs.declared.fault.ItemFault.{ItemFault}
use Rattle.ft_types.specs.gathering.Gathered.{AreGathered, Gathers, HasTitles, again}
use Rattle.ft_types.specs.meaning.Shapes.{title}
use Rattle.ft_types.specs.meaning.Sides.{same_section_word}
use Rattle.ft_names.specs.declared.stop.Stop.{Stop}
use Rattle.ft_names.specs.declared.stop.Stop.TheVariants.{Fault, NoMemory}
use Rattle.ft_types.specs.meaning.Targets.{Target, first_table_fault, first_twice, in_turn, is_defined, is_target, item_lack, targets}
use Rattle.ft_types.specs.meaning.Targets.{twice}

-- two titles are the same where section and name are
title-eq : (s r : SectionWord) (a b : List ℕ) → bytes_eq (title s a) (title r b) ≡ (same_section_word s r && bytes_eq a b)
title-eq In In a b = refl
title-eq In Req a b = refl
title-eq In Sof a b = refl
title-eq In Out a b = refl
title-eq Req In a b = refl
title-eq Req Req a b = refl
title-eq Req Sof a b = refl
title-eq Req Out a b = refl
title-eq Sof In a b = refl
title-eq Sof Req a b = refl
title-eq Sof Sof a b = refl
title-eq Sof Out a b = refl
title-eq Out In a b = refl
title-eq Out Req a b = refl
title-eq Out Sof a b = refl
title-eq Out Out a b = refl

any-append : {X : Type 0} (test : X → Bool) (xs : List X) (y : X) → list_any test (xs ++ y ∷ []) ≡ (list_any test xs || test y)
any-append test [] y = or-false (test y)
  where
    or-false : (b : Bool) → (b || false) ≡ b
    or-false true = refl
    or-false false = refl
any-append test (x ∷ xs) y = ap (λ b. test x || b) (any-append test xs y) ∙ sym (or-assoc (test x) (list_any test xs) (test y))
  where
    or-assoc : (a b c : Bool) → ((a || b) || c) ≡ (a || (b || c))
    or-assoc true b c = refl
    or-assoc false b c = refl

names-push : (old : Listing) (name x : List ℕ) → is_among (names_in (old ++ (name, 0) ∷ [])) x
    ≡ (is_among (names_in old) x || bytes_eq x name)
names-push old name x =
    ap (λ (names : List (List ℕ)). is_among names x) (map-append (λ (entry : List ℕ × ℕ). entry.0) old ((name, 0) ∷ []))
    ∙ any-append (bytes_eq x) (names_in old) name

or-absorbs : (a b : Bool) → (b ≡ true → a ≡ true) → a ≡ (a || b)
or-absorbs true b h = refl
or-absorbs false true h = absurd (true≢false (sym (h refl)))
or-absorbs false false h = refl

defined-push : (defined : List Target) (s r : SectionWord) (name : List ℕ) (word : Word)
    → is_defined (defined ++ (s, word) ∷ []) r name ≡ (is_defined defined r name || bytes_eq (title r name) (title s word.text))
defined-push defined s r name word =
    any-append (is_target r name) defined (s, word)
    ∙ ap (λ b. is_defined defined r name || b) (sym (title-eq r s name word.text))

held-one : (old new : Listing) (fresh : Bool) (s : SectionWord) (word : Word) (defined : List Target)
    → MatchBool fresh (new ≡ old ++ (title s word.text, 0) ∷ []) (new ≡ old) → is_among (names_in old) (title s word.text) ≡ not fresh
    → HasTitles old defined → HasTitles new (defined ++ (s, word) ∷ [])
held-one old new true s word defined made there held r name =
    ap (λ (list : Listing). is_among (names_in list) (title r name)) made ∙ names-push old (title s word.text) (title r name)
    ∙ ap (λ b. b || bytes_eq (title r name) (title s word.text)) (held r name) ∙ sym (defined-push defined s r name word)
held-one old new false s word defined made there held r name =
    ap (λ (list : Listing). is_among (names_in list) (title r name)) made
    ∙ or-absorbs (is_among (names_in old) (title r name)) (bytes_eq (title r name) (title s word.text))
    (λ same. ap (is_among (names_in old)) ((bytes_eq-Decides (title r name) (title s word.text)).0 same) ∙ there)
    ∙ ap (λ b. b || bytes_eq (title r name) (title s word.text)) (held r name) ∙ sym (defined-push defined s r name word)

in_turn-append : (before xs ys : List Target) → in_turn before (xs ++ ys) ≡ in_turn before xs ++ in_turn (before ++ xs) ys
in_turn-append before [] ys = ap (λ b. in_turn b ys) (sym (append-nil before))
in_turn-append before (x ∷ xs) ys =
    ap (λ l. (before, x) ∷ l) (in_turn-append (before ++ x ∷ []) xs ys
    ∙ ap (λ b. in_turn (before ++ x ∷ []) xs ++ in_turn b ys) (append_assoc before (x ∷ []) xs))

twice-again : (defined : List Target) (s : SectionWord) (word : Word) (fresh : Bool) → is_defined defined s word.text ≡ not fresh
    → twice (defined, (s, word)) ≡ again fresh s word
twice-again defined s word true there = rw there refl
twice-again defined s word false there = rw there refl

told-one : (was now : Option ItemFault) (fresh : Bool) (s : SectionWord) (word : Word) (defined : List Target)
    → is_defined defined s word.text ≡ not fresh → was ≡ first_twice defined → now ≡ option_or was (again fresh s word)
    → now ≡ first_twice (defined ++ (s, word) ∷ [])
told-one was now fresh s word defined there told made =
    made ∙ ap (λ o. option_or o (again fresh s word)) told
    ∙ ap (option_or (first_twice defined)) (sym (twice-again defined s word fresh there)
    ∙ sym (option_or-None (twice (defined, (s, word)))))
    ∙ sym (first_of-append twice (in_turn [] defined) (in_turn defined ((s, word) ∷ [])))
    ∙ ap (first_of twice) (sym (in_turn-append [] defined ((s, word) ∷ [])))

pub gathers-one : (old new : Listing) (was now : Option ItemFault) (fresh : Bool) (s : SectionWord) (word : Word)
    → MatchBool fresh (new ≡ old ++ (title s word.text, 0) ∷ []) (new ≡ old) → is_among (names_in old) (title s word.text) ≡ not fresh
    → now ≡ option_or was (again fresh s word) → Gathers old new was now ((s, word) ∷ [])
gathers-one old new was now fresh s word made there kept defined g = record {
  held = held-one old new fresh s word defined made there g.held;
  told = told-one was now fresh s word defined (sym (g.held s word.text) ∙ there) g.told kept;
}

pub gathers-none : (titles : Listing) (second : Option ItemFault) → Gathers titles titles second second []
gathers-none titles second defined g = subst (AreGathered titles second) (sym (append-nil defined)) g

pub gathers-more : (a b c : Listing) (x y z : Option ItemFault) (front here all : List Target) → all ≡ front ++ here
    → Gathers a b x y front → Gathers b c y z here → Gathers a c x z all
gathers-more a b c x y z front here all is first next defined g =
    subst (AreGathered c z) (append_assoc defined front here ∙ ap (λ l. defined ++ l) (sym is)) (next (defined ++ front) (first defined g))

pub few-more : (a b c : Listing) (i : ℕ) → length b ≤ length a + 32 * i → length c ≤ length b + 32 → length c ≤ length a + 32 * (i + 1)
few-more a b c i front here = omega arith

pub item-lawful : (items : List Item) (i : ℕ) (x : Item) → list_all is_item items ≡ true → i < length items
    → x ≡ slice_index_or items i x → is_item x ≡ true
item-lawful items i x all within is = ap is_item is ∙ AllPass-from_list_all is_item items all i x within

pub nothing-gathered : (titles : Listing) → titles ≡ [] → AreGathered titles None []
nothing-gathered titles empty = record {
  held = λ s name. ap (λ (list : Listing). is_among (names_in list) (title s name)) empty;
  told = refl;
}

-- both kinds of faults of tables

pub lack-stops : (stop : Stop ItemFault) (items given : List Item) → given ≡ items
    → Answers {A = Unit {0}} (Err stop) (first_of (item_lack (targets given)) given) → Answers {A = Unit {0}} (Err stop)
    (first_table_fault items)
lack-stops (Fault fault) items given same found =
    subst (λ (is : List Item). first_table_fault is ≡ Some fault) same
    (ap (λ o. option_or o (first_twice (targets given))) found)
lack-stops NoMemory items given same found = tt

pub twice-answers : {A : Type 0} (result : Result A (Stop ItemFault)) (items given : List Item) (second : Option ItemFault) → given ≡ items
    → first_of (item_lack (targets given)) given ≡ None → second ≡ first_twice (targets given) → Answers result second
    → Answers result (first_table_fault items)
twice-answers result items given second same none told found =
    subst (λ (is : List Item). Answers result (first_table_fault is)) same
    (subst (Answers result) (told ∙ sym (ap (λ o. option_or o (first_twice (targets given))) none)) found)
