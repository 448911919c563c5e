-- A search that closes an area, or finds a point of it.
use Rattle.std.proofs.Common.{◌≡◌, ◌∙◌, sym, ap, subst, refl, ℕ, zero, suc, ◌+◌, ◌≤◌, ◌<◌, ℤ, Bool, true, List, [], ◌∷◌, map, length}
use Rattle.std.proofs.Common.{Option, None, Some, arith, ⊎_elim}
use Rattle.std.specs.Prelude.{◌≤ℤ◌, slice_get, unwrap_or}
use Rattle.std.proofs.lemmas.Bool.{cases_lt}
use Rattle.std.proofs.lemmas.Option.{none-some, same_Some}
use Rattle.ft_linear.specs.meaning.Form.{LinView, InArea, values_at}
use Rattle.ft_linear.specs.meaning.Formula.{FormulaView, IsOver, atoms_below}
use Rattle.ft_cert.specs.laws.Certificates.{NoneWhereHolds}
use Rattle.ft_cert.specs.meaning.Evidence.{Holds}
use Rattle.ft_cert.specs.meaning.Parts.{whole_of}
use Rattle.ft_cert.specs.meaning.Tree.{Tree}
use Rattle.ft_cert.specs.walk.Waiting.{first_of}
use Rattle.ft_search.specs.declared.room.Room.{Room}
use Rattle.ft_search.specs.laws.Budget.{AreNonempty, SpendsLess}
use Rattle.ft_search.specs.meaning.Spent.{IsSpent, enough_for}
use Rattle.ft_search.specs.searching.Space.{HasPoints}
use Rattle.ft_oblige.specs.meaning.Tried.{IsClosedBy, IsPointIn, IsSpentIn}

-- the spans before a place have a value
abbrev pub AreFull : List (ℤ × ℤ) → ℕ → Type 0
AreFull spans n = (u : ℕ) (s : ℤ × ℤ) → u < n → slice_get spans u ≡ Some s → s.0 ≤ℤ s.1

pub full-first : (spans : List (ℤ × ℤ)) → AreFull spans 0
full-first spans u s l is = absurd (omega (arith, l))

pub full-more : (spans : List (ℤ × ℤ)) (n : ℕ) (s : ℤ × ℤ) → AreFull spans n → slice_get spans n ≡ Some s → s.0 ≤ℤ s.1 → AreFull spans (n + 1)
full-more spans n s all at full u t l is = ⊎_elim
    (λ less. all u t less is)
    (λ most. let same : u ≡ n = omega (arith, l, most) in
    subst (λ (r : ℤ × ℤ). r.0 ≤ℤ r.1) (same_Some s t (sym at ∙ ap (slice_get spans) (sym same) ∙ is)) full)
    (cases_lt u n)

pub full-end : (spans : List (ℤ × ℤ)) (n : ℕ) → length spans ≤ n → AreFull spans n → AreNonempty spans
full-end [] n past all = tt
full-end (s ∷ spans) zero past all = absurd (omega (arith, past))
full-end (s ∷ spans) (suc n) past all =
    (all 0 s (omega arith) refl, full-end spans n (omega (arith, past)) (λ u t l is. all (suc u) t (omega (arith, l)) is))

pub spent-in : SpendsLess → (f : FormulaView) (spans : List (ℤ × ℤ)) (splits : ℕ) (tree : Tree) → AreNonempty spans
    → atoms_below (length f.atoms) f.root ≡ true → IsSpent f (whole_of f spans) splits tree → IsSpentIn f spans splits tree
spent-in less f spans splits tree full below spent =
    record { spent = spent; few = less f (enough_for splits) splits spans tree full below spent }

abbrev all_undecided : List LinView → List (Option Bool)
all_undecided forms = map (λ atom. None) forms

-- nothing is decided of the whole area
none-decided : (forms : List LinView) (a : ℕ) → unwrap_or (slice_get (all_undecided forms) a) None ≡ None
none-decided [] a = refl
none-decided (l ∷ forms) zero = refl
none-decided (l ∷ forms) (suc a) = none-decided forms a

pub closed_by : NoneWhereHolds → (f : FormulaView) (spans : List (ℤ × ℤ)) (cert : Tree) → IsOver (length spans) f
    → Holds f (whole_of f spans) cert → IsClosedBy f spans cert
closed_by none f spans cert over holds = record {
  holds = holds;
  none = λ x inside satisfies. none f (whole_of f spans) cert x over holds
      (inside, λ a b is. absurd (none-some b (sym (none-decided f.atoms a) ∙ is))) satisfies;
}

pub point_in : (f : FormulaView) (spans : List (ℤ × ℤ)) (r : Room) (values : List ℤ) → HasPoints f spans r
    → InArea (first_of r.descent.parts).spans (values_at values) → IsPointIn f spans values
point_in f spans r values has inside = record {
  in_area = has.inside (values_at values) inside;
  satisfies = has.satisfies (values_at values) inside;
}
