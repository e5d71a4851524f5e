-- How a `Row` holds its items, for the types that refer to themselves through a `Row`.
--     A row is seen as a list, so it splits into a number and its items as a list does.
--     What it owns is what its `Vec` owns, and the view of the `Vec` shows each of its items, in their order.
use mathlib.Core.Path.{◌≡◌, refl, sym}
use mathlib.Core.List.{List, []}
use mathlib.Core.Former.{Former, this, list, via, children}
use base.Stored.{code_map}
use denote.RattleType.{RattleType}
use denote.Hole.Carrier.{listed, list-listed}
use denote.Hole.Fix.{over}
use denote.HoleLaws.{Alike}
use denote.HolePlaces.{Recodes, struct_places, laid}
use denote.Model.Placed.{view_places}
use denote.Param.Weighed.{Weighed, w_list}
use Rattle.std.specs.declared.alloc.Global.{Global}
use Rattle.std.specs.contracts.alloc.Global as global
use Rattle.std.specs.contracts.impls.GlobalAllocator.TheImpl as allocator
use Rattle.std.specs.formers.vec.Vec as vec
use Rattle.ess_rows.specs.declared.row.Row.TheInside.{Inside}
use Rattle.ess_rows.specs.declared.row.Row.TheView.{view, invariant}
use Rattle.ess_rows.specs.contracts.row.Row as row
use Rattle.ess_rows.specs.contracts.row.Row.TheInside as inside

abbrev pub the_former : Former {0} → Former {0}
the_former = list

abbrev pub the_weighed : {g : Former {0}} → Weighed g → Weighed (the_former g)
the_weighed = w_list

-- a row of no items holds nothing
pub the_empty : List ⊥
the_empty = []

abbrev pub the_items : (X : Type 0) → List X → List X
the_items X items = items

pub the_items_listed : (X : Type 0) (items : List X) → listed _ (children (the_former this) X items) ≡ the_items X items
the_items_listed = list-listed

-- the one field of the struct, as what holds the items
abbrev field : Former {0}
field = via (vec.the_former this Global) Inside (λ X r. r.items) (λ X v. record { items = v }) (λ X r. refl) (λ X v. refl)

module _ (R S : RattleType) (h : R.Denot → S.Denot) where
  -- the struct at R and at S, where the two types own and lend the same along h
  fields_alike : Alike R S h → Alike (inside.the_row R) (inside.the_row S) (field.map R.Denot S.Denot h)
  fields_alike same = struct_places (inside.the_type R) (inside.the_type S) (vec.mapped h, tt) (field.map R.Denot S.Denot h) (λ r. refl) refl
      (laid _ _ (vec.mapped h) (vec.the_places global.the_row allocator.ghosts R S h same), tt)

  pub the_places : Alike R S h → Alike (row.the_row R) (row.the_row S) ((the_former this).map R.Denot S.Denot h)
  the_places same = view_places field (list this) view (λ X Y k r. refl) (λ X r. refl)
      R.Denot S.Denot h (row.the_row R).coded (row.the_row S).coded
      (invariant R.Denot) (invariant S.Denot) (λ r p q. refl) (λ r p q. refl) (λ r holds. tt) (λ r holds. tt)
      (over (inside.the_row R)) (over (inside.the_row S)) (fields_alike same)

  pub the_codes_placed : Recodes R S h → Recodes (row.the_row R) (row.the_row S) ((the_former this).map R.Denot S.Denot h)
  the_codes_placed same items = sym (code_map R.coded.code S.coded.code h (λ x. sym (same x)) items)
