-- An id stores a number and no value, so that a type may hold ids of itself.
use mathlib.Core.Path.{◌≡◌, refl}
use mathlib.Core.List.{List, []}
use mathlib.Core.Former.{Former, this, const, arity, children}
use Rattle.std.specs.Prelude.{ℕ}
use denote.RattleType.{RattleType}
use denote.HoleLaws.{Alike}
use denote.HolePlaces.{Recodes}
use denote.Hole.Carrier.{listed}
use denote.Param.Weighed.{Weighed, w_const}
use Rattle.ft_pool.specs.contracts.id.Id as outer

-- contracts see the number, and there are no children
abbrev pub the_former : Former {0} → Former {0}
the_former value = const ℕ

abbrev pub the_weighed : {value : Former {0}} → Weighed value → Weighed (the_former value)
the_weighed weighed = w_const ℕ

abbrev pub the_items : (X : Type 0) → ℕ → List X
the_items X number = []

pub the_items_listed : (X : Type 0) (number : ℕ) → listed (arity (the_former this) ((the_former this).shape X number))
    (children (the_former this) X number) ≡ the_items X number
the_items_listed X number = refl

abbrev pub the_empty : ℕ
the_empty = 0

module _ (R S : RattleType) (h : R.Denot → S.Denot) where
  pub the_places : Alike R S h → Alike (outer.the_row R) (outer.the_row S) ((the_former this).map R.Denot S.Denot h)
  the_places a = record { mir_same = refl; own_same = λ number. refl; shr_same = λ number. refl }

  pub the_codes_placed : Recodes R S h → Recodes (outer.the_row R) (outer.the_row S) ((the_former this).map R.Denot S.Denot h)
  the_codes_placed e number = refl
