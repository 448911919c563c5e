-- Lists that are made one element after another.
use Rattle.std.proofs.Common.{◌≡◌, ◌∙◌, sym, ap, ℕ, zero, suc, ◌+◌, ◌<◌, ◌≤◌, Bool, true, false, List, [], ◌∷◌, ◌++◌}
use Rattle.std.proofs.Common.{filter, length, map, take, Some, slice_get, Option, None, arith}
use Rattle.std.specs.Prelude.{slice_index_or, if◌then◌else◌}
use Rattle.std.specs.List.{flat_map, range_with_len}
use Rattle.std.proofs.lemmas.List.{append_assoc, append-nil, map-append, take_all, take_more}
use Rattle.std.proofs.lemmas.List.Concat.{flat_map-append}
use Rattle.std.proofs.lemmas.List.Elements.{filter-append}
use Rattle.std.proofs.lemmas.List.FromFn.{length-range_with_len, get_or-range_with_len}
use Rattle.std.proofs.lemmas.Option.{none-some, same_Some}
use Rattle.ft_core.specs.declared.tables.Tables.{Tables}
use Rattle.ft_core.specs.declared.tables.Var.{Var}
use Rattle.ft_core.specs.meaning.Kinds.{inputs, is_of}
use Rattle.ft_claims.specs.declared.claim.Claim.{Claim}
use Rattle.ft_oblige.specs.meaning.Blocks.{input_places}
use Rattle.ft_oblige.specs.meaning.Linked.{marked}
use Rattle.ft_compose.specs.building.Rounds.{claims_in}
use Rattle.ft_compose.specs.declared.part.Part.{Part}

-- one more of a list that is gathered and mapped
pub mapped-more : {X A B : Type 0} (f : A → B) (h : X → List A) (start mid new : List B) (xs : List X) (i : ℕ) (x : X) → i < length xs
    → x ≡ slice_index_or xs i x → mid ≡ start ++ map f (flat_map h (take i xs)) → new ≡ mid ++ map f (h x)
    → new ≡ start ++ map f (flat_map h (take (i + 1) xs))
mapped-more {X} f h start mid new xs i x within is before here =
    here ∙ ap (λ list. list ++ map f (h x)) before ∙ append_assoc start (map f (flat_map h (take i xs))) (map f (h x))
    ∙ ap (λ list. start ++ list) (sym (map-append f (flat_map h (take i xs)) (h x)) ∙ ap (map f) (sym more))
  where
    more : flat_map h (take (i + 1) xs) ≡ flat_map h (take i xs) ++ h x
    more = ap (flat_map h) (take_more xs i x within ∙ ap (λ (y : X). take i xs ++ y ∷ []) (sym is))
        ∙ flat_map-append h (take i xs) (x ∷ []) ∙ ap (λ list. flat_map h (take i xs) ++ list) (append-nil (h x))

-- one more variable, which is an input or isn't
pub inputs-more : (vars : List Var) (places new : List ℕ) (i : ℕ) (v : Var) → slice_get vars i ≡ Some v → i < length vars
    → places ≡ filter (is_of vars inputs) (take i (range_with_len 0 (length vars)))
    → new ≡ places ++ (if inputs i v then i ∷ [] else [])
    → new ≡ filter (is_of vars inputs) (take (i + 1) (range_with_len 0 (length vars)))
inputs-more vars places new i v at within before made =
    let place : 0 + i ≡ i = omega arith in
    let here = get_or-range_with_len 0 (length vars) i 0 within ∙ place in
    let long = length-range_with_len 0 (length vars) in
    made ∙ (λ j. before j ++ (if sym of j then i ∷ [] else []))
    ∙ sym (filter-append (is_of vars inputs) (take i (range_with_len 0 (length vars))) (i ∷ []))
    ∙ ap (filter (is_of vars inputs)) (sym (take_more (range_with_len 0 (length vars)) i 0 (omega (arith, long, within))
    ∙ ap (λ u. take i (range_with_len 0 (length vars)) ++ u ∷ []) here))
  where
    of : is_of vars inputs i ≡ inputs i v
    of = ap (λ (o : Option Var). elim o as (λ z. Bool) [ None ↦ false | Some w ↦ inputs i w ]) at

pub inputs-end : (S : Tables) (places : List ℕ) (i : ℕ) → length S.vars ≤ i
    → places ≡ filter (is_of S.vars inputs) (take i (range_with_len 0 (length S.vars))) → places ≡ input_places S
inputs-end S places i past before = before ∙ ap (filter (is_of S.vars inputs))
    (take_all i (range_with_len 0 (length S.vars)) (let long = length-range_with_len 0 (length S.vars) in omega (arith, past, long)))

-- one more part, which is marked or isn't
marked-next : (ms : List Bool) (ps : List Part) (i : ℕ) (m : Bool) (p : Part) → slice_get ms i ≡ Some m → slice_get ps i ≡ Some p
    → marked (take (suc i) ms) (claims_in (take (suc i) ps))
    ≡ marked (take i ms) (claims_in (take i ps)) ++ (if m then p.claim ∷ [] else [])
marked-next [] ps i m p at it = absurd (none-some m at)
marked-next (n ∷ ms) [] i m p at it = absurd (none-some p it)
marked-next (n ∷ ms) (q ∷ ps) zero m p at it = λ i. if same_Some n m at i then (same_Some q p it i).claim ∷ [] else []
marked-next (true ∷ ms) (q ∷ ps) (suc i) m p at it = ap (λ list. q.claim ∷ list) (marked-next ms ps i m p at it)
marked-next (false ∷ ms) (q ∷ ps) (suc i) m p at it = marked-next ms ps i m p at it

pub marked-more : (start mid new : List Claim) (ms : List Bool) (ps : List Part) (i : ℕ) (m : Bool) (p : Part) → slice_get ms i ≡ Some m
    → slice_get ps i ≡ Some p
    → mid ≡ start ++ marked (take i ms) (claims_in (take i ps)) → new ≡ mid ++ (if m then p.claim ∷ [] else [])
    → new ≡ start ++ marked (take (i + 1) ms) (claims_in (take (i + 1) ps))
marked-more start mid new ms ps i m p at it before here =
    let e : i + 1 ≡ suc i = omega arith in
    here ∙ ap (λ list. list ++ (if m then p.claim ∷ [] else [])) before
    ∙ append_assoc start (marked (take i ms) (claims_in (take i ps))) (if m then p.claim ∷ [] else [])
    ∙ ap (λ list. start ++ list) (sym (marked-next ms ps i m p at it))
    ∙ ap (λ (n : ℕ). start ++ marked (take n ms) (claims_in (take n ps))) (sym e)

pub marked-end : (start new : List Claim) (ms : List Bool) (ps : List Part) (i : ℕ) → length ps ≤ i → length ms ≡ length ps
    → new ≡ start ++ marked (take i ms) (claims_in (take i ps)) → new ≡ start ++ marked ms (claims_in ps)
marked-end start new ms ps i past long before =
    before ∙ (λ j. start ++ marked (take_all i ms (omega (arith, past, long)) j) (claims_in (take_all i ps past j)))
