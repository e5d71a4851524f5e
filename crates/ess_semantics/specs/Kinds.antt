-- Which representations fit a domain, which one is chosen where none is named, and the names of the tables of each.
-- None of this looks at a number: of the domains of children only the attributes' names count here.
use Rattle.std.specs.Prelude.{Bool, true, false, ◌&&◌, ◌||◌, not, if◌then◌else◌, List, [], ◌∷◌, ◌++◌, Option, Some, None}
use Rattle.std.specs.List.{list_all, list_any}
use Rattle.ess_semantics.specs.declared.words.Key.{Key}
use Rattle.ess_semantics.specs.declared.words.ReprKind.{ReprKind}
use Rattle.ess_semantics.specs.Domains.{same_key}
use Rattle.ess_semantics.specs.Trees.{Ends, one_value, both_ends, Mark, flag, valued, Repr, Reprs, repr, no_reprs, more_reprs, no_exs, Dom, Doms, bool_dom, int_dom, name_dom, tuple_dom, record_dom, matrix_dom, set_dom, mset_dom, function_dom, relation_dom, partition_dom, no_doms, more_doms}

-- The attribute of a mark.
abbrev pub key_of : Mark → Key
key_of (flag k) = k
key_of (valued k) = k

-- Whether an attribute is among the marks.
abbrev pub has_key : Key → List Mark → Bool
has_key k ms = list_any (λ m. same_key k (key_of m)) ms

-- The domains as a list.
abbrev pub dom_list : Doms → List Dom
dom_list no_doms = []
dom_list (more_doms d ds) = d ∷ dom_list ds

-- A list of domains as components.
abbrev pub doms_of : List Dom → Doms
doms_of [] = no_doms
doms_of (d ∷ ds) = more_doms d (doms_of ds)

-- ---- atoms

-- Whether a range has both bounds.
abbrev pub is_closed_end : Ends → Bool
is_closed_end one_value = true
is_closed_end both_ends = true
is_closed_end _ = false

-- An int domain is finite where it has ranges and each range has its bounds.
abbrev pub is_bounded : List Ends → Bool
is_bounded [] = false
is_bounded (r ∷ rs) = list_all is_closed_end (r ∷ rs)

-- A finite int, bool, enumerated or unnamed domain.
abbrev pub is_atom : Dom → Bool
is_atom bool_dom = true
is_atom (int_dom rs es) = is_bounded rs
is_atom (name_dom a) = true
is_atom _ = false

-- An atom or an infinite int.
abbrev pub is_one_cell : Dom → Bool
is_one_cell (int_dom rs es) = true
is_one_cell d = is_atom d

-- An atom that has a least number above its members: one range with both bounds, or a named type.
abbrev pub has_dummy : Dom → Bool
has_dummy (int_dom (both_ends ∷ []) es) = true
has_dummy (name_dom a) = true
has_dummy _ = false

-- Whether all of the domains are atoms.
abbrev pub are_atoms : Doms → Bool
are_atoms ds = list_all is_atom (dom_list ds)

-- Whether a domain is one of tuples of atoms.
abbrev pub is_atom_tuple : Dom → Bool
is_atom_tuple (tuple_dom ds) = are_atoms ds
is_atom_tuple _ = false

-- ---- children

-- Of the marks those that a child set or relation takes over.
abbrev pub size_marks : Bool → Bool → Bool → List Mark
size_marks s a b =
    (if s then valued Key.Size ∷ [] else []) ++ (if a then valued Key.MinSize ∷ [] else []) ++ (if b then valued Key.MaxSize ∷ [] else [])

-- The relation of a function's pairs.
abbrev pub child_relation_form : List Mark → Dom → Dom → Dom
child_relation_form ms d c =
    relation_dom (size_marks (has_key Key.Total ms || has_key Key.Size ms) (has_key Key.MinSize ms) (has_key Key.MaxSize ms || not (has_key Key.Total ms || has_key Key.Size ms))) no_exs
    (more_doms d (more_doms c no_doms))

-- The set of a relation's tuples.
abbrev pub child_set_form : List Mark → Doms → Dom
child_set_form ms ds = set_dom (size_marks (has_key Key.Size ms) (has_key Key.MinSize ms) (has_key Key.MaxSize ms)) no_exs (tuple_dom ds)

-- The set of a partition's parts.
abbrev pub child_parts_form : List Mark → Dom → Dom
child_parts_form ms d =
    set_dom (size_marks (has_key Key.NumParts ms) (has_key Key.MinNumParts ms) (has_key Key.MaxNumParts ms || not (has_key Key.NumParts ms))) no_exs
    (set_dom (size_marks (has_key Key.PartSize ms) (has_key Key.MinPartSize ms) (has_key Key.MaxPartSize ms)) no_exs d)

-- The domains of a kind's children, where the kind is one for this domain. The attributes of a constructed domain stand
-- without their numbers.
abbrev pub child_forms : ReprKind → Dom → Option (List Dom)
child_forms ReprKind.Atom d = if is_one_cell d then Some [] else None
child_forms ReprKind.Tuple (tuple_dom ds) = Some (dom_list ds)
child_forms ReprKind.Rec (record_dom fs ds) = Some (dom_list ds)
child_forms ReprKind.Matrix (matrix_dom is d) = Some (d ∷ [])
child_forms ReprKind.Occurrence (set_dom ms es d) = if is_atom d then Some [] else None
child_forms ReprKind.Explicit (set_dom ms es d) = if has_key Key.Size ms then Some (d ∷ []) else None
child_forms ReprKind.ExplicitVarSizeWithMarker (set_dom ms es d) = Some (d ∷ [])
child_forms ReprKind.ExplicitVarSizeWithFlags (set_dom ms es d) = Some (d ∷ [])
child_forms ReprKind.ExplicitVarSizeWithDummy (set_dom ms es d) = if has_dummy d then Some [] else None
child_forms ReprKind.MSetOccurrence (mset_dom ms es d) = if is_atom d then Some [] else None
child_forms ReprKind.MSetExplicitWithRepetition (mset_dom ms es d) = Some (d ∷ [])
child_forms ReprKind.MSetExplicitWithFlags (mset_dom ms es d) = Some (d ∷ [])
child_forms ReprKind.Function1D (function_dom ms es d c) = if has_key Key.Total ms && is_atom d then Some (c ∷ []) else None
child_forms ReprKind.Function1DPartial (function_dom ms es d c) = if is_atom d then Some (c ∷ []) else None
child_forms ReprKind.FunctionND (function_dom ms es d c) = if has_key Key.Total ms && is_atom_tuple d then Some (c ∷ []) else None
child_forms ReprKind.FunctionNDPartial (function_dom ms es d c) = if is_atom_tuple d then Some (c ∷ []) else None
child_forms ReprKind.FunctionAsRelation (function_dom ms es d c) = Some (child_relation_form ms d c ∷ [])
child_forms ReprKind.RelationAsMatrix (relation_dom ms es ds) = if are_atoms ds then Some [] else None
child_forms ReprKind.RelationAsSet (relation_dom ms es ds) = Some (child_set_form ms ds ∷ [])
child_forms ReprKind.PartitionOccurrence (partition_dom ms es d) = if is_atom d then Some [] else None
child_forms ReprKind.PartitionAsSet (partition_dom ms es d) = Some (child_parts_form ms d ∷ [])
child_forms _ d = None

abbrev mutual
  -- Whether a representation fits a domain.
  pub fits : Repr → Dom → Bool
  fits (repr k rs) d = elim (child_forms k d) [ None ↦ false | Some ds ↦ all_fit rs ds ]

  -- Whether each representation fits its domain.
  pub all_fit : Reprs → List Dom → Bool
  all_fit no_reprs [] = true
  all_fit (more_reprs r rs) (d ∷ ds) = fits r d && all_fit rs ds
  all_fit _ _ = false
