-- How a box stores its value, so that a type may hold boxes of itself.
use mathlib.Core.Path.{refl}
use mathlib.Core.Former.{Former, this, const, pair, via}
use base.Fml.{ftrue}
use base.Stored.{gnil}
use denote.RattleType.{RattleType}
use denote.RawPtr.{Ptr}
use denote.Memory.{part_of}
use denote.Sharing.{nothing}
use denote.HoleLaws.{Alike}
use denote.HolePlaces.{Recodes, struct_places, laid, one_value}
use denote.Hole.Fix.{over}
use denote.Param.Weighed.{Weighed}
use denote.Model.Placed.{view_places}
use Rattle.std.specs.declared.boxed.Box.{Box}
use Rattle.std.specs.contracts.boxed.Box as box
use Rattle.std.specs.declared.alloc.Global.{Global}
use Rattle.std.specs.contracts.alloc.Global as global
use Rattle.std.specs.contracts.impls.GlobalAllocator.TheImpl as allocator
use Rattle.ft_base.specs.declared.boxed.Boxed.TheInside as inside
use Rattle.ft_base.specs.declared.boxed.Boxed.TheView as seen
use Rattle.ft_base.specs.contracts.boxed.Boxed as outer
use Rattle.ft_base.specs.contracts.boxed.Boxed.TheInside as inner

-- contracts see the value, which is the only child
abbrev pub the_former : Former {0} → Former {0}
the_former child = child

abbrev pub the_weighed : {child : Former {0}} → Weighed child → Weighed (the_former child)
the_weighed weighed = weighed

-- the one field: a pointer with its allocator, and the value behind it
abbrev the_fields : Former {0}
the_fields = via (pair (const (Ptr × Global)) this) inside.Inside (λ X fields. ((fields.inner.ptr, fields.inner.alloc), fields.inner.value))
    (λ X parts. record { inner = record { ptr = parts.0.0; alloc = parts.0.1; value = parts.1 } }) (λ X fields. refl) (λ X parts. refl)

-- the same box round another value
abbrev round : {X Y : Type 0} → Box X Global → Y → Box Y Global
round boxed value = record { ptr = boxed.ptr; alloc = boxed.alloc; value = value }

abbrev box_row : RattleType → RattleType
box_row R = box.the_row R global.the_row allocator.ghosts

module _ (R S : RattleType) (h : R.Denot → S.Denot) where
  -- a box of one value owns and lends what a box of the other does, where the values do
  of_box : Alike R S h → Alike (box_row R) (box_row S) (λ boxed. round boxed (h boxed.value))
  unfolding part_of
  of_box a = record {
    mir_same = λ i. (box_row (one_value R (a.mir_same i) (λ _. ftrue) (λ _ _. nothing) gnil)).mir;
    own_same = λ boxed i. (box_row (one_value R (a.mir_same i) (a.own_same boxed.value i) (a.shr_same boxed.value i) gnil)).own_val
        (round boxed tt);
    shr_same = λ boxed i. (box_row (one_value R (a.mir_same i) (a.own_same boxed.value i) (a.shr_same boxed.value i) gnil)).shr_at
        (round boxed tt);
  }

  pub the_places : Alike R S h → Alike (outer.the_row R) (outer.the_row S) ((the_former this).map R.Denot S.Denot h)
  the_places a = view_places the_fields this seen.view (λ X Y k u. refl) (λ X u. refl) R.Denot S.Denot h (outer.the_row R).coded
      (outer.the_row S).coded
      (seen.invariant R.Denot) (seen.invariant S.Denot) (λ u p q. refl) (λ u p q. refl) (λ u e. tt) (λ u e. tt)
      (over (inner.the_row R)) (over (inner.the_row S))
      (struct_places (inner.the_type R) (inner.the_type S) ((λ boxed. round boxed (h boxed.value)), tt) _ (λ d. refl) refl
      (laid _ _ _ (of_box a), tt))

  pub the_codes_placed : Recodes R S h → Recodes (outer.the_row R) (outer.the_row S) ((the_former this).map R.Denot S.Denot h)
  the_codes_placed e value = e value
