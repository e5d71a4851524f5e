-- A resolved domain has the form that it had: it is judged as it was, and the same representations fit.
use Rattle.std.proofs.Common.{◌≡◌, refl, ap, ◌∙◌, Bool, true, false, ◌&&◌, ◌||◌, if◌then◌else◌, List, [], ◌∷◌, ◌++◌, map, Option, Some, None, option_map, is_some}
use Rattle.std.specs.List.{list_all}
use Rattle.ess_semantics.specs.declared.words.Key.{Key}
use Rattle.ess_semantics.specs.declared.words.ReprKind.{ReprKind}
use Rattle.ess_semantics.specs.Values.{a_tuple, a_record, a_matrix, a_set, a_mset, a_function, a_relation, a_partition}
use Rattle.ess_semantics.specs.Types.{Ty, compound, compound1, compound2, more_tys, join, type_of_dom, types_of_doms, nested_ty}
use Rattle.ess_semantics.specs.Kinds.{dom_list, has_key, is_atom, is_one_cell, has_dummy, are_atoms, is_atom_tuple, child_forms, fits, all_fit}
use Rattle.ess_semantics.specs.DomainJudgements.{size_keys, marks_among, marks_distinct, marks_fit, is_finite, are_finite, is_enumerable, are_enumerable, needs_known_slots, all_need_known_slots, bounds_occurrences}
use Rattle.ess_semantics.specs.Trees.{both_ends, Mark, Repr, Reprs, repr, no_reprs, more_reprs, Exs, Dom, Doms, bool_dom, int_dom, name_dom, tuple_dom, record_dom, matrix_dom, set_dom, mset_dom, function_dom, relation_dom, partition_dom, no_doms, more_doms}
use Rattle.ess_repr_structure_laws.specs.OrderlyDomains.{LayerIsOrderly, Orderly, AllOrderly}
use Rattle.ess_semantics.specs.Names.{Names}
use Rattle.ess_semantics.specs.Resolving.{resolve_exs, resolve_dom, resolve_doms}

module _ (g : Names Ty) where
  abbrev G : Dom → Dom
  G = λ d. resolve_dom d g

  abbrev Gs : Doms → Doms
  Gs = λ ds. resolve_doms ds g

  listed-kept : (ds : Doms) → dom_list (Gs ds) ≡ map G (dom_list ds)
  listed-kept no_doms = refl
  listed-kept (more_doms d ds) = ap (λ l. G d ∷ l) (listed-kept ds)

  -- ---- tests of forms

  atom-kept : (d : Dom) → is_atom (G d) ≡ is_atom d
  atom-kept bool_dom = refl
  atom-kept (int_dom rs es) = refl
  atom-kept _ = refl

  one-cell-kept : (d : Dom) → is_one_cell (G d) ≡ is_one_cell d
  one-cell-kept (int_dom rs es) = refl
  one-cell-kept _ = refl

  dummy-kept : (d : Dom) → has_dummy (G d) ≡ has_dummy d
  dummy-kept (int_dom (both_ends ∷ []) es) = refl
  dummy-kept (name_dom a) = refl
  dummy-kept _ = refl

  atoms-kept : (ds : Doms) → are_atoms (Gs ds) ≡ are_atoms ds
  atoms-kept no_doms = refl
  atoms-kept (more_doms d ds) = ap (λ b. b && are_atoms (Gs ds)) (atom-kept d) ∙ ap (λ b. is_atom d && b) (atoms-kept ds)

  atom-tuple-kept : (d : Dom) → is_atom_tuple (G d) ≡ is_atom_tuple d
  atom-tuple-kept (tuple_dom ds) = atoms-kept ds
  atom-tuple-kept _ = refl

  both-kept : {a b c d : Bool} → a ≡ b → c ≡ d → a && c ≡ b && d
  both-kept {a} {b} {c} {d} p q = ap (λ z. z && c) p ∙ ap (λ z. b && z) q

  mutual
    finite-kept : (d : Dom) → is_finite (G d) ≡ is_finite d
    finite-kept bool_dom = refl
    finite-kept (int_dom rs es) = refl
    finite-kept (name_dom a) = refl
    finite-kept (tuple_dom ds) = all-finite-kept ds
    finite-kept (record_dom fs ds) = all-finite-kept ds
    finite-kept (matrix_dom is d) = both-kept (all-finite-kept is) (finite-kept d)
    finite-kept (set_dom ms es d) = finite-kept d
    finite-kept (mset_dom ms es d) = ap (λ b. b && bounds_occurrences ms) (finite-kept d)
    finite-kept (function_dom ms es d c) = both-kept (finite-kept d) (finite-kept c)
    finite-kept (relation_dom ms es ds) = all-finite-kept ds
    finite-kept (partition_dom ms es d) = finite-kept d

    all-finite-kept : (ds : Doms) → are_finite (Gs ds) ≡ are_finite ds
    all-finite-kept no_doms = refl
    all-finite-kept (more_doms d ds) = both-kept (finite-kept d) (all-finite-kept ds)

  mutual
    -- Slots that must be known are.
    pub slots-kept : (d : Dom) → needs_known_slots (G d) ≡ needs_known_slots d
    slots-kept bool_dom = refl
    slots-kept (int_dom rs es) = refl
    slots-kept (name_dom a) = refl
    slots-kept (tuple_dom ds) = all-slots-kept ds
    slots-kept (record_dom fs ds) = all-slots-kept ds
    slots-kept (matrix_dom is d) = both-kept (all-finite-kept is) (slots-kept d)
    slots-kept (set_dom ms es d) = finite-kept (set_dom ms es d)
    slots-kept (mset_dom ms es d) = finite-kept (mset_dom ms es d)
    slots-kept (function_dom ms es d c) = both-kept (finite-kept d) (slots-kept c)
    slots-kept (relation_dom ms es ds) = finite-kept (relation_dom ms es ds)
    slots-kept (partition_dom ms es d) = finite-kept (partition_dom ms es d)

    all-slots-kept : (ds : Doms) → all_need_known_slots (Gs ds) ≡ all_need_known_slots ds
    all-slots-kept no_doms = refl
    all-slots-kept (more_doms d ds) = both-kept (slots-kept d) (all-slots-kept ds)

  mutual
    enumerable-kept : (d : Dom) → is_enumerable (G d) ≡ is_enumerable d
    enumerable-kept (tuple_dom ds) = all-enumerable-kept ds
    enumerable-kept (record_dom fs ds) = all-enumerable-kept ds
    enumerable-kept bool_dom = refl
    enumerable-kept (int_dom rs es) = refl
    enumerable-kept _ = refl

    all-enumerable-kept : (ds : Doms) → are_enumerable (Gs ds) ≡ are_enumerable ds
    all-enumerable-kept no_doms = refl
    all-enumerable-kept (more_doms d ds) = both-kept (enumerable-kept d) (all-enumerable-kept ds)

  -- ---- children and representations

  if-kept : (a b : Bool) (ds : List Dom) → a ≡ b → (if a then Some (map G ds) else None) ≡ option_map (map G) (if b then Some ds else None)
  if-kept true true ds e = refl
  if-kept false false ds e = refl
  if-kept true false ds e = cc
  if-kept false true ds e = cc

  forms-kept : (k : ReprKind) (d : Dom) → child_forms k (G d) ≡ option_map (map G) (child_forms k d)
  forms-kept ReprKind.Atom d = if-kept (is_one_cell (G d)) (is_one_cell d) [] (one-cell-kept d)
  forms-kept ReprKind.Tuple (tuple_dom ds) = ap Some (listed-kept ds)
  forms-kept ReprKind.Rec (record_dom fs ds) = ap Some (listed-kept ds)
  forms-kept ReprKind.Matrix (matrix_dom is d) = refl
  forms-kept ReprKind.Occurrence (set_dom ms es d) = if-kept (is_atom (G d)) (is_atom d) [] (atom-kept d)
  forms-kept ReprKind.Explicit (set_dom ms es d) = if-kept (has_key Key.Size ms) (has_key Key.Size ms) (d ∷ []) refl
  forms-kept ReprKind.ExplicitVarSizeWithMarker (set_dom ms es d) = refl
  forms-kept ReprKind.ExplicitVarSizeWithFlags (set_dom ms es d) = refl
  forms-kept ReprKind.ExplicitVarSizeWithDummy (set_dom ms es d) = if-kept (has_dummy (G d)) (has_dummy d) [] (dummy-kept d)
  forms-kept ReprKind.MSetOccurrence (mset_dom ms es d) = if-kept (is_atom (G d)) (is_atom d) [] (atom-kept d)
  forms-kept ReprKind.MSetExplicitWithRepetition (mset_dom ms es d) = refl
  forms-kept ReprKind.MSetExplicitWithFlags (mset_dom ms es d) = refl
  forms-kept ReprKind.Function1D (function_dom ms es d c) =
      if-kept (has_key Key.Total ms && is_atom (G d)) (has_key Key.Total ms && is_atom d) (c ∷ [])
      (ap (λ b. has_key Key.Total ms && b) (atom-kept d))
  forms-kept ReprKind.Function1DPartial (function_dom ms es d c) = if-kept (is_atom (G d)) (is_atom d) (c ∷ []) (atom-kept d)
  forms-kept ReprKind.FunctionND (function_dom ms es d c) =
      if-kept (has_key Key.Total ms && is_atom_tuple (G d)) (has_key Key.Total ms && is_atom_tuple d) (c ∷ [])
      (ap (λ b. has_key Key.Total ms && b) (atom-tuple-kept d))
  forms-kept ReprKind.FunctionNDPartial (function_dom ms es d c) = if-kept (is_atom_tuple (G d)) (is_atom_tuple d) (c ∷ [])
      (atom-tuple-kept d)
  forms-kept ReprKind.FunctionAsRelation (function_dom ms es d c) = refl
  forms-kept ReprKind.RelationAsMatrix (relation_dom ms es ds) = if-kept (are_atoms (Gs ds)) (are_atoms ds) [] (atoms-kept ds)
  forms-kept ReprKind.RelationAsSet (relation_dom ms es ds) = refl
  forms-kept ReprKind.PartitionOccurrence (partition_dom ms es d) = if-kept (is_atom (G d)) (is_atom d) [] (atom-kept d)
  forms-kept ReprKind.PartitionAsSet (partition_dom ms es d) = refl
  forms-kept _ d = refl

  -- Whether children that are there fit.
  abbrev fit_there : Reprs → Option (List Dom) → Bool
  fit_there rs o = elim o [ None ↦ false | Some ds ↦ all_fit rs ds ]

  there-kept : (rs : Reprs) (o : Option (List Dom)) → ((ds : List Dom) → all_fit rs (map G ds) ≡ all_fit rs ds) → fit_there rs
      (option_map (map G) o) ≡ fit_there rs o
  there-kept rs None h = refl
  there-kept rs (Some ds) h = h ds

  mutual
    -- The same representations fit.
    pub fits-kept : (r : Repr) (d : Dom) → fits r (G d) ≡ fits r d
    fits-kept (repr k rs) d = ap (fit_there rs) (forms-kept k d) ∙ there-kept rs (child_forms k d) (all-fit-kept rs)

    all-fit-kept : (rs : Reprs) (ds : List Dom) → all_fit rs (map G ds) ≡ all_fit rs ds
    all-fit-kept no_reprs [] = refl
    all-fit-kept no_reprs (d ∷ ds) = refl
    all-fit-kept (more_reprs r rs) [] = refl
    all-fit-kept (more_reprs r rs) (d ∷ ds) = both-kept (fits-kept r d) (all-fit-kept rs ds)

  -- ---- types

  mutual
    type-kept : (d : Dom) → type_of_dom (G d) ≡ type_of_dom d
    type-kept bool_dom = refl
    type-kept (int_dom rs es) = refl
    type-kept (name_dom a) = refl
    type-kept (tuple_dom ds) = ap (compound a_tuple) (types-kept ds)
    type-kept (record_dom fs ds) = ap (compound (a_record fs)) (types-kept ds)
    type-kept (matrix_dom is d) = nested-kept is (type_of_dom (G d)) ∙ ap (nested_ty is) (type-kept d)
    type-kept (set_dom ms es d) = ap (compound1 a_set) (type-kept d)
    type-kept (mset_dom ms es d) = ap (compound1 a_mset) (type-kept d)
    type-kept (function_dom ms es d c) = ap (λ t. compound2 a_function t (type_of_dom (G c))) (type-kept d) ∙ ap
        (compound2 a_function (type_of_dom d)) (type-kept c)
    type-kept (relation_dom ms es ds) = ap (compound a_relation) (types-kept ds)
    type-kept (partition_dom ms es d) = ap (compound1 a_partition) (type-kept d)

    types-kept : (ds : Doms) → types_of_doms (Gs ds) ≡ types_of_doms ds
    types-kept no_doms = refl
    types-kept (more_doms d ds) = ap (λ t. more_tys t (types_of_doms (Gs ds))) (type-kept d) ∙ ap (more_tys (type_of_dom d)) (types-kept ds)

    nested-kept : (is : Doms) (t : Ty) → nested_ty (Gs is) t ≡ nested_ty is t
    nested-kept no_doms t = refl
    nested-kept (more_doms d ds) t = ap (λ u. compound2 a_matrix u (nested_ty (Gs ds) t)) (type-kept d) ∙ ap
        (compound2 a_matrix (type_of_dom d)) (nested-kept ds t)

  -- ---- judgements

  if-listed : (b : Bool) (d : Dom) → list_all is_enumerable (if b then G d ∷ [] else []) ≡ list_all is_enumerable (if b then d ∷ [] else [])
  if-listed true d = ap (λ b. b && true) (enumerable-kept d)
  if-listed false d = refl

  two-listed : (a b : Bool) (d c : Dom) → list_all is_enumerable ((if a then G d ∷ [] else []) ++ (if b then G c ∷ [] else []))
      ≡ list_all is_enumerable ((if a then d ∷ [] else []) ++ (if b then c ∷ [] else []))
  two-listed true b d c = both-kept (enumerable-kept d) (if-listed b c)
  two-listed false b d c = if-listed b c

  function-orderly : (d c : Dom) (ms : List _) (es : Exs) → LayerIsOrderly (function_dom ms es d c) → LayerIsOrderly
      (function_dom ms (resolve_exs es g) (G d) (G c))
  function-orderly d c ms es o = (o.0, two-listed (has_key Key.Total ms) (has_key Key.Surjective ms || has_key Key.Bijective ms) d c ∙ o.1)

  flags-kept : (ms : List Mark) (es : Exs) (d c : Dom) →
      marks_fit (relation_dom ms (resolve_exs es g) (more_doms (G d) (more_doms (G c) no_doms))) ≡ marks_fit
      (relation_dom ms es (more_doms d (more_doms c no_doms)))
  flags-kept ms es d c =
      ap (λ o. marks_among size_keys (if is_some o then Key.Reflexive ∷ Key.Irreflexive ∷ Key.Symmetric ∷ Key.AntiSymmetric ∷ Key.ASymmetric
      ∷ Key.Transitive ∷ [] else []) ms && marks_distinct ms)
      (ap (λ t. join t (type_of_dom (G c))) (type-kept d) ∙ ap (join (type_of_dom d)) (type-kept c))

  relation-orderly : (ds : Doms) (ms : List _) (es : Exs) → LayerIsOrderly (relation_dom ms es ds) → LayerIsOrderly
      (relation_dom ms (resolve_exs es g) (Gs ds))
  relation-orderly no_doms ms es o = o
  relation-orderly (more_doms d no_doms) ms es o = (o.0, if-listed (has_key Key.Reflexive ms) d ∙ o.1)
  relation-orderly (more_doms d (more_doms c no_doms)) ms es o = (flags-kept ms es d c ∙ o.0, if-listed (has_key Key.Reflexive ms) d ∙ o.1)
  relation-orderly (more_doms d (more_doms c (more_doms b ds))) ms es o = (o.0, if-listed (has_key Key.Reflexive ms) d ∙ o.1)

  mutual
    -- What is orderly stays so.
    pub orderly-kept : (d : Dom) → Orderly d → Orderly (G d)
    orderly-kept (tuple_dom ds) o = all-orderly-kept ds o
    orderly-kept (record_dom fs ds) o = all-orderly-kept ds o
    orderly-kept (matrix_dom is d) o = (atoms-kept is ∙ o.0, orderly-kept d o.1)
    orderly-kept (set_dom ms es d) o = (o.0, orderly-kept d o.1)
    orderly-kept (mset_dom ms es d) o = (o.0, orderly-kept d o.1)
    orderly-kept (function_dom ms es d c) o = (function-orderly d c ms es o.0, orderly-kept d o.1, orderly-kept c o.2)
    orderly-kept (relation_dom ms es ds) o = (relation-orderly ds ms es o.0, all-orderly-kept ds o.1)
    orderly-kept (partition_dom ms es d) o = ((o.0.0, ap (λ b. b && true) (enumerable-kept d) ∙ o.0.1), orderly-kept d o.1)
    orderly-kept bool_dom o = tt
    orderly-kept (int_dom rs es) o = tt
    orderly-kept (name_dom a) o = tt

    all-orderly-kept : (ds : Doms) → AllOrderly ds → AllOrderly (Gs ds)
    all-orderly-kept no_doms o = tt
    all-orderly-kept (more_doms d ds) o = (orderly-kept d o.0, all-orderly-kept ds o.1)
