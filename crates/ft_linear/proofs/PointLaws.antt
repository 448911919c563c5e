-- From the truth, the forced literals and the sums of a part to its points.
use Rattle.std.proofs.Common.{◌≡◌, ◌∙◌, inl, inr, sym, ap, refl, ℕ, zero, suc, ◌+◌, ◌<◌, ◌≤◌, Bool, true, false, not, ◌||◌, cond, length}
use Rattle.std.proofs.Common.{arith}
use Rattle.std.specs.List.{list_any, range_with_len}
use Rattle.std.proofs.lemmas.Bool.{cases_Bool, cases_eq, and_from}
use Rattle.ft_base.specs.declared.three.Three.{Three}
use Rattle.ft_base.specs.declared.three.Three.TheVariants.{No}
use Rattle.ft_base.specs.Three.{is_no}
use Rattle.ft_linear.specs.meaning.Forced.{same_bool, value_of}
use Rattle.ft_linear.specs.meaning.Formula.{form_truth}
use Rattle.ft_linear.specs.meaning.Part.{atom_value, atoms_of, forced, is_against, is_forced_both}
use Rattle.ft_linear.specs.laws.Parts.{AllWhereYes, DifferencesAreMet, ForcedHold, NoWhereBothWays, NoneWhereNo}
use Rattle.ft_linear.specs.laws.Sums.{AllWithinTightened, NoneWhereContradicted}
use Rattle.ft_linear.proofs.Basics.{at-most-zero}
use Rattle.ft_linear.proofs.FormLaws.{literals-hold}
use Rattle.ft_linear.proofs.PartLaws.{forced-point, in-span, no-point, yes-point}
use Rattle.ft_linear.proofs.RuleLemmas.{none-holds, within-tightened}

pub none-where-no : NoneWhereNo
none-where-no f p x over is point sat = no-point f p x over point is sat

pub all-where-yes : AllWhereYes
all-where-yes f p x over same is area = yes-point f p x over same area is

pub forced-hold : ForcedHold
forced-hold f p x over point sat a s is = forced-point f p x over point a s sat is

so-same : (s b : Bool) → b ≡ s → same_bool s b ≡ true
so-same true b e = e
so-same false b e = ap not e

pub differences-met : DifferencesAreMet
differences-met f p x over point sat = record {
  inside = point.0;
  meets = λ a s l is got difference. at-most-zero _ (literals-hold x s l
      ∙ so-same s _ (sym (ap (form_truth x) got) ∙ forced-point f p x over point a s sat is));
}

any-in-range : (q : ℕ → Bool) (from n a : ℕ) → from ≤ a → a < from + n → q a ≡ true → list_any q (range_with_len from n) ≡ true
any-in-range q from zero a low high e = absurd (omega (arith, low, high))
any-in-range q from (suc n) a low high e = elim (cases_eq a from) [
  | inl same ↦ ap (λ b. b || list_any q (range_with_len (from + 1) n)) (sym (ap q same) ∙ e)
  | inr other ↦ elim (cases_Bool (q from)) [
    | inl so ↦ rw so refl
    | inr isnt ↦ rw isnt (any-in-range q (from + 1) n a (grind (arith, low, other)) (omega (arith, high)) e)
  ]
]

by-third : (a b c : Bool) (t : Three) → c ≡ true → cond (a || b || c) No t ≡ No
by-third true b c t e = refl
by-third false true c t e = refl
by-third false false c t e = ap (λ d. cond d No t) e

pub no-where-both-ways : NoWhereBothWays
no-where-both-ways f p a below yes_forced no_forced =
    let both : is_forced_both f p a ≡ true = and_from (forced f p a true) (forced f p a false) yes_forced no_forced in
    by-third (is_no (value_of (atom_value f p) f.root)) (list_any (is_against f p) (atoms_of f))
    (list_any (is_forced_both f p) (atoms_of f)) _
    (any-in-range (is_forced_both f p) 0 (length f.atoms) a (omega arith) (omega (arith, below)) both)

pub none-where-contradicted : NoneWhereContradicted
none-where-contradicted f p x lines h area holds = none-holds f p x area holds lines h

pub all-within-tightened : AllWithinTightened
all-within-tightened f p x u lines span h area holds = within-tightened f p x area holds u lines span (in-span p.spans x u area h.unknown) h
