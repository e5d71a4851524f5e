-- The tables that a representation declares, as trees: their names, the domains of their axes, and the domain of their cells, whose
-- bounds are expressions.
use Rattle.std.specs.Prelude.{Bool, true, false, ◌||◌, if◌then◌else◌, List, [], ◌∷◌, ◌++◌, map}
use Rattle.ess_semantics.specs.declared.words.ReprKind.{ReprKind}
use Rattle.ess_semantics.specs.Values.{Text}
use Rattle.ess_semantics.specs.Kinds.{dom_list}
use Rattle.ess_semantics.specs.Trees.{Ends, one_value, both_ends, Repr, Reprs, repr, more_reprs, Ex, Exs, no_exs, more_exs, Dom, bool_dom, int_dom, name_dom, tuple_dom, record_dom, matrix_dom, set_dom, mset_dom, function_dom, relation_dom, partition_dom}
use Rattle.ess_semantics.specs.Lists.{zip}
use Rattle.ess_semantics.specs.TableNames.{Named, own_names, child_names, free_name}
use Rattle.ess_semantics.specs.DeclaredTables.{TableDecl}
use Rattle.ess_repr_laws.specs.StructureParts.{upto}
use Rattle.ess_repr_declare_laws.specs.SizeTerms.{zero_ex, one_ex, listed_ex, bound_ex, slots_ex, occurrences_ex, dummy_ex, bound_or_0}
use Rattle.ess_repr_declare_laws.specs.ChildDomains.{child_doms}

-- ---- domains of axes and cells

-- From a number to a number.
abbrev pub from_to : Ex → Ex → Dom
from_to a b = int_dom (both_ends ∷ []) (more_exs a (more_exs b no_exs))

-- An axis over an atom: bool is `int(0..1)`, a type of n values is `int(1..n)`.
abbrev pub axis_dom : Dom → Dom
axis_dom bool_dom = from_to zero_ex one_ex
axis_dom (name_dom a) = upto (listed_ex (name_dom a))
axis_dom d = d

-- The cell of an atom: bool stays one.
abbrev pub cell_dom : Dom → Dom
cell_dom (name_dom a) = upto (listed_ex (name_dom a))
cell_dom d = d

-- With 0 as one more member: `int(RANGES)` becomes `int(0, RANGES)`. All else stays.
abbrev pub widened_dom : Dom → Dom
widened_dom (int_dom (r ∷ rs) es) = int_dom (one_value ∷ r ∷ rs) (more_exs zero_ex es)
widened_dom d = d

-- Widened where the cell can be out of use.
abbrev pub widened_if : Bool → Dom → Dom
widened_if out d = if out then widened_dom d else d

-- An atom with its dummy as one more member.
abbrev pub with_dummy : Dom → Dom
with_dummy (int_dom (both_ends ∷ []) (more_exs a (more_exs b no_exs))) =
    int_dom (both_ends ∷ one_value ∷ [])
    (more_exs a (more_exs b (more_exs (dummy_ex (int_dom (both_ends ∷ []) (more_exs a (more_exs b no_exs)))) no_exs)))
with_dummy (name_dom a) =
    int_dom (both_ends ∷ one_value ∷ []) (more_exs one_ex (more_exs (listed_ex (name_dom a)) (more_exs (dummy_ex (name_dom a)) no_exs)))
with_dummy d = d

-- The axes over the first domain of a function: one for each component of a tuple.
abbrev pub argument_axes : Dom → List Dom
argument_axes (tuple_dom ds) = map axis_dom (dom_list ds)
argument_axes d = axis_dom d ∷ []

-- The axis of the slots.
abbrev pub slot_axis : Dom → List Dom
slot_axis d = upto (slots_ex d) ∷ []

-- ---- one layer

-- A table.
abbrev pub decl : Text → List Dom → Dom → TableDecl
decl n as' c = record { name = n; axes = as'; cell = c }

-- The axes and the cells' domain of each of the layer's own tables, where its cells can be out of use or not.
abbrev pub own_cells : Bool → ReprKind → Dom → List (List Dom × Dom)
own_cells out ReprKind.Atom d = ([], widened_if out (cell_dom d)) ∷ []
own_cells out ReprKind.Occurrence (set_dom ms es d) = (axis_dom d ∷ [], bool_dom) ∷ []
own_cells out ReprKind.ExplicitVarSizeWithMarker (set_dom ms es d) = ([], from_to zero_ex (slots_ex (set_dom ms es d))) ∷ []
own_cells out ReprKind.ExplicitVarSizeWithFlags (set_dom ms es d) = (slot_axis (set_dom ms es d), bool_dom) ∷ []
own_cells out ReprKind.ExplicitVarSizeWithDummy (set_dom ms es d) = (slot_axis (set_dom ms es d), widened_if out (with_dummy d)) ∷ []
own_cells out ReprKind.MSetOccurrence (mset_dom ms es d) = (axis_dom d ∷ [], from_to zero_ex (occurrences_ex ms es)) ∷ []
own_cells out ReprKind.MSetExplicitWithRepetition (mset_dom ms es d) = ([], from_to zero_ex (slots_ex (mset_dom ms es d))) ∷ []
own_cells out ReprKind.MSetExplicitWithFlags (mset_dom ms es d) =
    (slot_axis (mset_dom ms es d), from_to zero_ex (occurrences_ex ms es)) ∷ []
own_cells out ReprKind.Function1DPartial (function_dom ms es d c) = (axis_dom d ∷ [], bool_dom) ∷ []
own_cells out ReprKind.FunctionNDPartial (function_dom ms es d c) = (argument_axes d, bool_dom) ∷ []
own_cells out ReprKind.RelationAsMatrix (relation_dom ms es ds) = (map axis_dom (dom_list ds), bool_dom) ∷ []
own_cells out ReprKind.PartitionOccurrence (partition_dom ms es d) =
    ([], from_to zero_ex (bound_ex d)) ∷ (axis_dom d ∷ [], widened_if out (upto (bound_ex d))) ∷ []
own_cells out _ d = []

-- Tables with the ends of their names.
abbrev pub with_names : List Named → List (List Dom × Dom) → List TableDecl
with_names (n ∷ ns) (c ∷ cs) = decl n.0 c.0 c.1 ∷ with_names ns cs
with_names _ _ = []

-- The layer's own tables.
abbrev pub own_trees : Bool → ReprKind → Dom → List TableDecl
own_trees out k d = with_names (own_names k d) (own_cells out k d)

-- The axes that the layer puts before those of its children.
abbrev pub layer_axes : ReprKind → Dom → List Dom
layer_axes ReprKind.Matrix (matrix_dom is d) = map axis_dom (dom_list is)
layer_axes ReprKind.Explicit (set_dom ms es d) = slot_axis (set_dom ms es d)
layer_axes ReprKind.ExplicitVarSizeWithMarker (set_dom ms es d) = slot_axis (set_dom ms es d)
layer_axes ReprKind.ExplicitVarSizeWithFlags (set_dom ms es d) = slot_axis (set_dom ms es d)
layer_axes ReprKind.MSetExplicitWithRepetition (mset_dom ms es d) = slot_axis (mset_dom ms es d)
layer_axes ReprKind.MSetExplicitWithFlags (mset_dom ms es d) = slot_axis (mset_dom ms es d)
layer_axes ReprKind.Function1D (function_dom ms es d c) = axis_dom d ∷ []
layer_axes ReprKind.Function1DPartial (function_dom ms es d c) = axis_dom d ∷ []
layer_axes ReprKind.FunctionND (function_dom ms es d c) = argument_axes d
layer_axes ReprKind.FunctionNDPartial (function_dom ms es d c) = argument_axes d
layer_axes _ d = []

-- Whether the cells of the layer's children can be out of use.
abbrev pub frees_children : ReprKind → Bool
frees_children ReprKind.ExplicitVarSizeWithMarker = true
frees_children ReprKind.ExplicitVarSizeWithFlags = true
frees_children ReprKind.MSetExplicitWithRepetition = true
frees_children ReprKind.MSetExplicitWithFlags = true
frees_children ReprKind.Function1DPartial = true
frees_children ReprKind.FunctionNDPartial = true
frees_children _ = false

-- ---- all layers

-- A table below an outer layer: the outer name and axes stand in front.
abbrev pub below_layer : Text → List Dom → TableDecl → TableDecl
below_layer n as' t = record { name = n ++ t.name; axes = as' ++ t.axes; cell = t.cell }

abbrev mutual
  -- The tables of a representation, below a layer that can be out of use or not. Their names are the ends of names.
  pub trees_below : Bool → Repr → Dom → List TableDecl
  trees_below out (repr k rs) d =
      own_trees out k d ++ trees_of_children (out || frees_children k) rs (zip (child_names k d) (child_doms k d)) (layer_axes k d)

  -- Those of the children, behind what stands between the names, and behind the layer's axes.
  pub trees_of_children : Bool → Reprs → List (Named × Dom) → List Dom → List TableDecl
  trees_of_children out (more_reprs r rs) (c ∷ cs) as' =
      map (below_layer c.0.0 as') (trees_below out r c.1) ++ trees_of_children out rs cs as'
  trees_of_children out _ _ as' = []

-- ---- names

-- The tables of a variable, where names that are taken get `_`.
abbrev pub named_trees : Text → List TableDecl → List Text → List TableDecl
named_trees x [] taken = []
named_trees x (t ∷ ts) taken =
    let a : Text = free_name taken (x ++ t.name) in decl a t.axes t.cell ∷ named_trees x ts (a ∷ taken)

-- The tables that a representation of a domain declares for the name x, behind names that are taken.
abbrev pub declared_trees : Repr → Dom → Text → List Text → List TableDecl
declared_trees r d x taken = named_trees x (trees_below false r d) taken
