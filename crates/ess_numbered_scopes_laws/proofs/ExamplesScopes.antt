-- Worked examples: what is asked of the names in scope, where the numbers of the items of y are bound, and where an index domain is copied
-- out of a view.
use Rattle.std.specs.Prelude.{◌≡◌, refl, zero, Bool, not, [], ◌∷◌, codes, pos, Some, IsTrue}
use Rattle.ess_semantics.specs.declared.words.ReprKind.{ReprKind}
use Rattle.ess_semantics.specs.Values.{Text}
use Rattle.ess_semantics.specs.Trees.{both_ends, repr, no_reprs, more_reprs, name_pat, Ex, number_ex, name_ex, seen_ex, no_exs, more_exs, Dom, int_dom, matrix_dom, no_doms, more_doms}
use Rattle.ess_semantics.specs.Types.{int_ty}
use Rattle.ess_semantics.specs.Scoped.{with_names, Scoped}
use Rattle.ess_numbered_laws.specs.MostItems.{members_counted, most_items}
use Rattle.ess_ordered_laws.specs.IndexedSources.{items_at}
use Rattle.ess_numbered_laws.specs.CountedSources.{numbered_items}
use Rattle.ess_numbered_laws.specs.ListedPicks.{with_lists}

abbrev x : Text
x = codes "x"

abbrev y : Text
y = codes "y"

abbrev w : Text
w = codes "w"

abbrev k : Text
k = codes "k"

abbrev two : Ex
two = number_ex (pos 2)

-- `[y[x] | x : int(1..2), x <= sum([1 | w <- y])]`: x and w are bound anew, and y is in scope.
module _ (z s o : Text → Bool) where
  three_asked : Scoped z s o (numbered_items x w (name_ex y) two int_ty)
      ≡ (IsTrue (not (s x)) × (Unit {0} × (Unit {0} × Unit {0}))
      × ((IsTrue (with_names s (name_pat x) x) × (((IsTrue (not (with_names s (name_pat x) w)) × IsTrue (with_names s (name_pat x) y)
      × Unit {0}) × Unit {0}) × Unit {0}))
      × (IsTrue (with_names s (name_pat x) y) × (IsTrue (with_names s (name_pat x) x) × Unit {0}))))
  three_asked = refl

-- `int(1..k)`.
abbrev numbers : Dom
numbers = int_dom (both_ends ∷ []) (more_exs (number_ex (pos 1)) (more_exs (name_ex k) no_exs))

-- The view of a matrix over d.
abbrev over_dom : Dom → Ex
over_dom d = seen_ex (repr ReprKind.Matrix (more_reprs (repr ReprKind.Atom no_reprs) no_reprs)) (matrix_dom (more_doms d no_doms) numbers)
    (codes "m" ∷ []) no_exs

-- A view over `int(1..k)` has as many items as that has members: so k, which its declaration uses, is in scope.
abbrev view : Ex
view = over_dom numbers

copied_out_of_a_view : most_items w view ≡ Some (members_counted w numbers)
copied_out_of_a_view = refl

module _ (z s o : Text → Bool) where
  declared_asked : Scoped z s o (members_counted w numbers)
      ≡ ((IsTrue (not (s w)) × (Unit {0} × (IsTrue (s k) × Unit {0})) × Unit {0}) × Unit {0})
  declared_asked = refl

-- One over `int(2..k)` is the list of its items at the members of that: so k is in scope, and the new name is bound anew.
abbrev from_two : Dom
from_two = int_dom (both_ends ∷ []) (more_exs two (more_exs (name_ex k) no_exs))

as_a_list : with_lists x zero (over_dom from_two) ≡ items_at x from_two (over_dom from_two) int_ty
as_a_list = refl

module _ (z s o : Text → Bool) where
  items_asked : Scoped z s o (items_at x from_two (over_dom from_two) int_ty)
      ≡ (IsTrue (not (s x)) × (Unit {0} × (IsTrue (s k) × Unit {0}))
      × (Scoped z (with_names s (name_pat x)) (with_names o (name_pat x)) (over_dom from_two)
      × (IsTrue (with_names s (name_pat x) x) × Unit {0})))
  items_asked = refl
