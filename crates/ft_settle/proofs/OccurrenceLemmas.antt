-- The atoms of a settled formula stand in the order of their first occurrences.
use Rattle.std.proofs.Common.{◌≡◌, ◌∙◌, ◌⊎◌, inl, inr, sym, ap, subst, refl, ℕ, zero, suc, ◌<◌, Bool, true, cond, List, [], ◌∷◌, ◌++◌}
use Rattle.std.proofs.Common.{length, Some, slice_get, append-nil, append_assoc, arith}
use Rattle.std.specs.List.{list_any}
use Rattle.std.proofs.lemmas.Bool.{cases_Bool}
use Rattle.std.proofs.lemmas.List.{length-append}
use Rattle.std.proofs.lemmas.Option.{slice_get_within}
use Rattle.ft_linear.specs.meaning.Form.{LinView}
use Rattle.ft_settle.specs.meaning.Settled.{AreFirstOccurrences, StandsBelow, place_of, same_form, with_form, with_forms}
use Rattle.ft_settle.proofs.SettleLemmas.{found-at}

-- places of a list with one form more
on-left : (xs : List LinView) (y : LinView) (k : ℕ) (l : LinView) → slice_get xs k ≡ Some l → slice_get (xs ++ y ∷ []) k ≡ Some l
on-left [] y k l e = cc e
on-left (x ∷ xs) y zero l e = e
on-left (x ∷ xs) y (suc k) l e = on-left xs y k l e

at-end : (xs : List LinView) (y : LinView) → slice_get (xs ++ y ∷ []) (length xs) ≡ Some y
at-end [] y = refl
at-end (x ∷ xs) y = at-end xs y

of-push : (xs : List LinView) (y : LinView) (k : ℕ) (l : LinView) → slice_get (xs ++ y ∷ []) k ≡ Some l
    → (slice_get xs k ≡ Some l) ⊎ ((k ≡ length xs) × (y ≡ l))
of-push [] y zero l e = inr (refl, cc e)
of-push [] y (suc k) l e = cc e
of-push (x ∷ xs) y zero l e = inl e
of-push (x ∷ xs) y (suc k) l e = elim (of-push xs y k l e) [
  | inl here ↦ inl here
  | inr (last, same) ↦ inr (ap suc last, same)
]

before-end : (xs : List LinView) (y : LinView) (k : ℕ) (l : LinView) → k < length xs → slice_get (xs ++ y ∷ []) k ≡ Some l
    → slice_get xs k ≡ Some l
before-end xs y k l within e = elim (of-push xs y k l e) [
  | inl here ↦ here
  | inr (last, same) ↦ absurd (omega (arith, within, last))
]

pub none-occurs : AreFirstOccurrences [] []
none-occurs = record { all = λ k l e. cc e; first = λ n l e. cc e }

module _ (done atoms : List LinView) (y : LinView) (h : AreFirstOccurrences done atoms) where
  -- a form that is an atom already
  again : list_any (same_form y) atoms ≡ true → AreFirstOccurrences (done ++ y ∷ []) atoms
  again stands =
      let found = found-at y atoms stands in
      record {
        all = λ k l e. elim (of-push done y k l e) [
          | inl here ↦ h.all k l here
          | inr (last, same) ↦ (place_of atoms y, slice_get_within atoms (place_of atoms y) y found, found ∙ ap Some same)
        ];
        first = λ n l e.
            let (k, here, front) = h.first n l e in
            let within = slice_get_within done k l here in
            (k, on-left done y k l here, λ j m below got. front j m below (before-end done y j m (omega (arith, below, within)) got));
      }

  kept : (n i : ℕ) (m : LinView) → slice_get atoms i ≡ Some m → i < n → StandsBelow (atoms ++ y ∷ []) n m
  kept n i m got below = (i, below, on-left atoms y i m got)

  -- a new one
  added : AreFirstOccurrences (done ++ y ∷ []) (atoms ++ y ∷ [])
  added =
      let long = length-append atoms (y ∷ []) in
      record {
        all = λ k l e. elim (of-push done y k l e) [
          | inl here ↦ let (i, below, got) = h.all k l here in kept (length (atoms ++ y ∷ [])) i l got (omega (arith, below, long))
          | inr (last, same) ↦ (length atoms, omega (arith, long), at-end atoms y ∙ ap Some same)
        ];
        first = λ n l e. elim (of-push atoms y n l e) [
          | inl here ↦
              let (k, at, front) = h.first n l here in
              let within = slice_get_within done k l at in (
                k,
                on-left done y k l at,
                λ j m below got. let (i, less, is) =
                    front j m below (before-end done y j m (omega (arith, below, within)) got) in kept n i m is less,
              )
          | inr (last, same) ↦ (
            length done,
            at-end done y ∙ ap Some same,
            λ j m below got. let (i, less, is) =
                h.all j m (before-end done y j m below got) in kept n i m is (omega (arith, less, last)),
          )
        ];
      }

  one-form : AreFirstOccurrences (done ++ y ∷ []) (with_form atoms y)
  one-form = elim (cases_Bool (list_any (same_form y) atoms)) [
    | inl so ↦ subst (λ (b : Bool). AreFirstOccurrences (done ++ y ∷ []) (cond b atoms (atoms ++ y ∷ []))) (sym so) (again so)
    | inr isnt ↦ subst (λ (b : Bool). AreFirstOccurrences (done ++ y ∷ []) (cond b atoms (atoms ++ y ∷ []))) (sym isnt) added
  ]

pub first-occurrences : (done rest atoms : List LinView) → AreFirstOccurrences done atoms
    → AreFirstOccurrences (done ++ rest) (with_forms atoms rest)
first-occurrences done [] atoms h = subst (λ (l : List LinView). AreFirstOccurrences l atoms) (sym (append-nil done)) h
first-occurrences done (y ∷ ys) atoms h =
    subst (λ (l : List LinView). AreFirstOccurrences l (with_forms (with_form atoms y) ys)) (append_assoc done (y ∷ []) ys)
    (first-occurrences (done ++ y ∷ []) ys (with_form atoms y) (one-form done atoms y h))
