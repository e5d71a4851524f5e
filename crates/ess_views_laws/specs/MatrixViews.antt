-- An item of a view of a matrix is the view at its index: of a matrix over several index domains the one over those that are left.
use Rattle.std.specs.Prelude.{List, [], ◌∷◌, Option, Some, None}
use Rattle.ess_semantics.specs.declared.words.ReprKind.{ReprKind}
use Rattle.ess_semantics.specs.Values.{Text}
use Rattle.ess_semantics.specs.Trees.{Repr, repr, no_reprs, more_reprs, index, by_value, Ex, Exs, node_ex, seen_ex, no_exs, more_exs, Dom, Doms, no_doms, more_doms, matrix_dom}
use Rattle.ess_rules_laws.specs.SetListings.{put_last}

-- The view behind one more index: of the items, or of a matrix over the other index domains.
abbrev pub behind_index : Repr → Doms → Dom → List Text → Exs → Ex
behind_index r no_doms d ns js = seen_ex r d ns js
behind_index r is d ns js = seen_ex (repr ReprKind.Matrix (more_reprs r no_reprs)) (matrix_dom is d) ns js

-- `v[i]` of a view of a matrix, where i is an index.
abbrev pub item_view : Ex → Option Ex
item_view (node_ex b (index (by_value ∷ []))
    (more_exs (seen_ex (repr ReprKind.Matrix (more_reprs r no_reprs)) (matrix_dom (more_doms i is) d) ns js) (more_exs a no_exs))) =
    Some (behind_index r is d ns (put_last js a))
item_view e = None
