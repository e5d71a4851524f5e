-- Tidy cells stand for a member, have their slots in use first, and have no value twice in a set. Unlike canonical
-- cells they may have any order of slots, any numbering of parts, and anything out of use.
use Rattle.std.specs.Prelude.{Bool, true, false, ◌&&◌, if◌then◌else◌, List, [], ◌∷◌, length, take, drop, ℤ, Option}
use Rattle.std.specs.List.{list_all}
use Rattle.ess_semantics.specs.Lists.{each_of, is_some_and}
use Rattle.ess_semantics.specs.Values.{Value, itself}
use Rattle.ess_semantics.specs.Collections.{no_twice}
use Rattle.ess_semantics.specs.Trees.{Repr, Reprs, repr, more_reprs}
use Rattle.ess_semantics.specs.Domains.{Domain}
use Rattle.ess_semantics.specs.Membership.{member}
use Rattle.ess_semantics.specs.Tables.{Tables, same_axes, is_filled}
use Rattle.ess_semantics.specs.Cells.{Cells, Axes, behind, cells_at}
use Rattle.ess_semantics.specs.Layers.{Layer}
use Rattle.ess_semantics.specs.Representations.{layer, width, own_part, child_part, places_in_use, value_of_cells}
use Rattle.ess_semantics.specs.Declarations.{axes_of}
use Rattle.ess_semantics.specs.CanonicalTest.{in_use_first}

-- No two slots in use stand for one value, where they must differ.
abbrev pub slots_differ : Layer → Option (List Value) → Bool
slots_differ l vs = if l.is_distinct then is_some_and vs (no_twice itself) else true

abbrev mutual
  -- Slots in use stand first and differ, so also inside each value in use.
  pub is_orderly : Repr → Domain → Cells → Bool
  is_orderly (repr k rs) d c =
      is_some_and (layer k d) (λ l.
      l.is_tidy (own_part k c) && in_use_first l (own_part k c) &&
      is_some_and (places_in_use l (own_part k c)) (are_orderly l rs l.children (child_part k c)))

  -- Each child at each place in use.
  pub are_orderly : Layer → Reprs → List Domain → Cells → List (List ℤ) → Bool
  are_orderly l (more_reprs r rs) (d ∷ ds) c js =
      list_all (λ j. is_orderly r d (behind j (take (width r) c))) js &&
      slots_differ l (each_of js (λ j. value_of_cells r d (behind j (take (width r) c)))) && are_orderly l rs ds (drop (width r) c) js
  are_orderly l _ _ c js = true

-- Whether cells are tidy.
abbrev pub tidy_cells : Repr → Domain → Cells → Bool
tidy_cells r d c = is_some_and (value_of_cells r d c) (member d) && is_orderly r d c

-- Each table is over exactly the declared axes, behind the axes of the index prefix.
abbrev pub over_axes : List ℤ → List Axes → Tables → Bool
over_axes i [] [] = true
over_axes i (as' ∷ ass) (t ∷ ts) = is_filled t && same_axes (drop (length i) t.axes) as' && over_axes i ass ts
over_axes i _ _ = false

-- Whether tables are tidy at an index prefix.
abbrev pub tidy : Repr → Domain → Tables → List ℤ → Bool
tidy r d ts i = over_axes i (axes_of r d) ts && tidy_cells r d (cells_at ts i)
