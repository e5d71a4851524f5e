-- How a `Boxed` holds its value, for the types that refer to themselves through a `Boxed`.
--     It is seen as its value, so it splits as the value does.
--     What it owns is what its `Box` owns, and the view of the `Box` shows the one value that it holds.
use mathlib.Core.Path.{refl}
use mathlib.Core.Former.{Former, this, const, pair, via}
use base.Fml.{ftrue}
use base.Stored.{gnil}
use denote.RawPtr.{Ptr}
use denote.Memory.{part_of}
use denote.RattleType.{RattleType}
use denote.Sharing.{nothing}
use denote.Hole.Fix.{over}
use denote.HoleLaws.{Alike}
use denote.HolePlaces.{Recodes, struct_places, laid, one_value}
use denote.Model.Placed.{view_places}
use denote.Param.Weighed.{Weighed}
use Rattle.std.specs.declared.alloc.Global.{Global}
use Rattle.std.specs.contracts.alloc.Global as global
use Rattle.std.specs.contracts.impls.GlobalAllocator.TheImpl as allocator
use Rattle.std.specs.declared.boxed.Box.{Box}
use Rattle.std.specs.contracts.boxed.Box as box
use Rattle.ess_rows.specs.declared.boxed.Boxed.TheInside.{Inside}
use Rattle.ess_rows.specs.declared.boxed.Boxed.TheView.{view, invariant}
use Rattle.ess_rows.specs.contracts.boxed.Boxed as boxed
use Rattle.ess_rows.specs.contracts.boxed.Boxed.TheInside as inside

abbrev pub the_former : Former {0} → Former {0}
the_former g = g

abbrev pub the_weighed : {g : Former {0}} → Weighed g → Weighed (the_former g)
the_weighed w = w

-- a box with another value in it
abbrev refilled : {X Y : Type 0} → Box X Global → Y → Box Y Global
refilled b y = record { ptr = b.ptr; alloc = b.alloc; value = y }

-- the one field of the struct: its pointer and its allocator, which stay, and the value
abbrev field : Former {0}
field = via (pair (const (Ptr × Global)) this) Inside
    (λ X b. ((b.inner.ptr, b.inner.alloc), b.inner.value))
    (λ X parts. record { inner = record { ptr = parts.0.0; alloc = parts.0.1; value = parts.1 } })
    (λ X b. refl) (λ X parts. refl)

-- a `Box` of values of a type
abbrev box_row : RattleType → RattleType
box_row R = box.the_row R global.the_row allocator.ghosts

module _ (R S : RattleType) (h : R.Denot → S.Denot) where
  abbrev boxes : Box R.Denot Global → Box S.Denot Global
  boxes b = refilled b (h b.value)

  -- a `Box` at R and at S, where the two types own and lend the same along h
  boxes_alike : Alike R S h → Alike (box_row R) (box_row S) boxes
  unfolding part_of
  boxes_alike same = record {
    mir_same = λ i. (box_row (one_value R (same.mir_same i) (λ _. ftrue) (λ _ _. nothing) gnil)).mir;
    own_same = λ b i. (box_row (one_value R (same.mir_same i) (same.own_same b.value i) (same.shr_same b.value i) gnil)).own_val (refilled b tt);
    shr_same = λ b i. (box_row (one_value R (same.mir_same i) (same.own_same b.value i) (same.shr_same b.value i) gnil)).shr_at (refilled b tt);
  }

  fields_alike : Alike R S h → Alike (inside.the_row R) (inside.the_row S) (field.map R.Denot S.Denot h)
  fields_alike same = struct_places (inside.the_type R) (inside.the_type S) (boxes, tt) (field.map R.Denot S.Denot h) (λ b. refl) refl
      (laid _ _ boxes (boxes_alike same), tt)

  pub the_places : Alike R S h → Alike (boxed.the_row R) (boxed.the_row S) ((the_former this).map R.Denot S.Denot h)
  the_places same = view_places field this view (λ X Y k b. refl) (λ X b. refl)
      R.Denot S.Denot h (boxed.the_row R).coded (boxed.the_row S).coded
      (invariant R.Denot) (invariant S.Denot) (λ b p q. refl) (λ b p q. refl) (λ b holds. tt) (λ b holds. tt)
      (over (inside.the_row R)) (over (inside.the_row S)) (fields_alike same)

  pub the_codes_placed : Recodes R S h → Recodes (boxed.the_row R) (boxed.the_row S) ((the_former this).map R.Denot S.Denot h)
  the_codes_placed same value = same value
