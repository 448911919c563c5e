-- Which table a variable that a block takes has, without a tactic: the crates above cite these too.
use Rattle.std.proofs.Common.{◌≡◌, ◌∙◌, sym, ap, refl, ℕ, Bool, true, false, ◌||◌, Option, Some, None, slice_get, true≢false}
use Rattle.std.proofs.lemmas.Bool.{cond-true, cond-false}
use Rattle.ft_core.specs.declared.tables.Tables.{Tables}
use Rattle.ft_core.specs.declared.tables.Var.{Var}
use Rattle.ft_core.specs.declared.tables.Section.TheVariants as section
use Rattle.ft_core.specs.meaning.Kinds.{requirement, design, defined_kinds, is_of}
use Rattle.ft_oblige.specs.meaning.Blocks.{own_section}

pub own_req : (S : Tables) (x : ℕ) (v : Var) → slice_get S.vars x ≡ Some v → requirement x v ≡ true → own_section S x ≡ section.Req
own_req S x v is req = cond-true (is_of S.vars requirement x) section.Req section.Sof
    (ap (λ (o : Option Var). elim o as (λ z. Bool) [ None ↦ false | Some u ↦ requirement x u ]) is ∙ req)

pub own_sof : (S : Tables) (x : ℕ) (v : Var) → slice_get S.vars x ≡ Some v → requirement x v ≡ false → own_section S x ≡ section.Sof
own_sof S x v is not_req = cond-false (is_of S.vars requirement x) section.Req section.Sof
    (ap (λ (o : Option Var). elim o as (λ z. Bool) [ None ↦ false | Some u ↦ requirement x u ]) is ∙ not_req)

-- a variable that may be taken is of the requirement or of the design
pub taken_kinds : (S : Tables) (x : ℕ) → (is_of S.vars (defined_kinds section.Req) x || is_of S.vars (defined_kinds section.Sof) x) ≡ true
    → (v : Var) × (slice_get S.vars x ≡ Some v) × ((requirement x v || design x v) ≡ true)
taken_kinds S x may = by_var (slice_get S.vars x) refl may
  where
    by_var : (o : Option Var) → slice_get S.vars x ≡ o
        → (elim o as (λ z. Bool) [ None ↦ false | Some v ↦ requirement x v ]
        || elim o as (λ z. Bool) [ None ↦ false | Some v ↦ design x v ])
        ≡ true
        → (v : Var) × (slice_get S.vars x ≡ Some v) × ((requirement x v || design x v) ≡ true)
    by_var None e t = absurd (true≢false (sym t))
    by_var (Some v) e t = (v, e, t)

-- one of the design where it isn't of the requirement
pub the_other : (a b : Bool) → a ≡ false → (a || b) ≡ true → b ≡ true
the_other true b e h = absurd (true≢false e)
the_other false b e h = h
