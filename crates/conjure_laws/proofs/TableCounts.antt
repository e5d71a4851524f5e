-- A representation that fits a domain has as many tables' names as tables are declared.
use Rattle.std.proofs.Common.{◌≡◌, refl, sym, ap, ◌∙◌, subst, ℕ, suc, ◌+◌, Bool, true, false, ◌&&◌, if◌then◌else◌, List, [], ◌∷◌, ◌++◌, length, Option, Some, None, codes, arith, length-append}
use Rattle.ess_semantics.specs.declared.words.ReprKind.{ReprKind}
use Rattle.ess_semantics.specs.declared.words.Key.{Key}
use Rattle.ess_semantics.specs.Lists.{zip, list_or_none}
use Rattle.ess_semantics.specs.Values.{Text}
use Rattle.ess_semantics.specs.Trees.{Repr, Reprs, repr, no_reprs, more_reprs, Dom, Doms, tuple_dom, record_dom, matrix_dom, set_dom, mset_dom, function_dom, relation_dom, partition_dom, no_doms, more_doms}
use Rattle.ess_semantics.specs.Domains.{Domain}
use Rattle.ess_semantics.specs.Representations.{width, widths, own_width}
use Rattle.ess_semantics.specs.Declarations.{Declaration, declarations}
use Rattle.ess_semantics.specs.Kinds.{has_key, dom_list, is_atom, is_one_cell, has_dummy, are_atoms, is_atom_tuple, child_forms, fits, all_fit}
use Rattle.ess_semantics.specs.TableNames.{Named, own_names, numbered_names, child_names, below_child, table_names, names_of_children, free_name, named_tables}
use Rattle.ess_semantics.specs.Contexts.{Each}
use Rattle.ess_semantics.proofs.Tests.{and-left, and-right}
use Rattle.ess_repr_laws.specs.Rooms.{Covered}
use Rattle.ess_repr_laws.proofs.CellDomains.{axes-wide}
use Rattle.ess_repr_laws.proofs.CellsOfMembers.{map-long}
use Rattle.conjure_laws.specs.Fields.{HasFields, AllHaveFields}

-- ---- one layer

-- The layer has a name for each table of its own and for each child.
record Counted (k : ReprKind) (d : Dom) (es : List Dom) : Type 0 where
  own : length (own_names k d) ≡ own_width k
  children : length (child_names k d) ≡ length es
  fields : Each es HasFields

each-fields : (ds : Doms) → AllHaveFields ds → Each (dom_list ds) HasFields
each-fields no_doms h = tt
each-fields (more_doms d ds) h = (h.0, each-fields ds h.1)

numbered-long : (k : ℕ) (ds : List Dom) → length (numbered_names k ds) ≡ length ds
numbered-long k [] = refl
numbered-long k (d ∷ ds) = ap suc (numbered-long (suc k) ds)

-- a layer without children, and with one, whatever it asks
none : (k : ReprKind) (d : Dom) (b : Bool) → length (own_names k d) ≡ own_width k → length (child_names k d) ≡ 0 →
    (es : List Dom) → (if b then Some [] else None) ≡ Some es → Counted k d es
none k d true o c es h = let z : [] ≡ es = cc in subst (Counted k d) z (record { own = o; children = c; fields = tt })
none k d false o c es h = cc

only : (k : ReprKind) (d e : Dom) (b : Bool) → length (own_names k d) ≡ own_width k → length (child_names k d) ≡ 1 → HasFields e →
    (es : List Dom) → (if b then Some (e ∷ []) else None) ≡ Some es → Counted k d es
only k d e true o c f es h = let z : e ∷ [] ≡ es = cc in subst (Counted k d) z (record { own = o; children = c; fields = (f, tt) })
only k d e false o c f es h = cc

-- a layer of components
all : (k : ReprKind) (d : Dom) (ds : List Dom) → length (own_names k d) ≡ own_width k → length (child_names k d) ≡ length ds →
    Each ds HasFields → (es : List Dom) → Some ds ≡ Some es → Counted k d es
all k d ds o c f es h = let z : ds ≡ es = cc in subst (Counted k d) z (record { own = o; children = c; fields = f })

counted : (k : ReprKind) (d : Dom) → HasFields d → (es : List Dom) → child_forms k d ≡ Some es → Counted k d es
counted ReprKind.Atom d f = none ReprKind.Atom d (is_one_cell d) refl refl
counted ReprKind.Tuple (tuple_dom ds) f =
    all ReprKind.Tuple (tuple_dom ds) (dom_list ds) refl (numbered-long 1 (dom_list ds)) (each-fields ds f)
counted ReprKind.Rec (record_dom fs ds) f =
    all ReprKind.Rec (record_dom fs ds) (dom_list ds) refl (map-long (λ (f : Text). (codes "_" ++ f, 0)) fs ∙ f.0) (each-fields ds f.1)
counted ReprKind.Matrix (matrix_dom is d) f = only ReprKind.Matrix (matrix_dom is d) d true refl refl f
counted ReprKind.Occurrence (set_dom ms es d) f = none ReprKind.Occurrence (set_dom ms es d) (is_atom d) refl refl
counted ReprKind.Explicit (set_dom ms es d) f = only ReprKind.Explicit (set_dom ms es d) d (has_key Key.Size ms) refl refl f
counted ReprKind.ExplicitVarSizeWithMarker (set_dom ms es d) f =
    only ReprKind.ExplicitVarSizeWithMarker (set_dom ms es d) d true refl refl f
counted ReprKind.ExplicitVarSizeWithFlags (set_dom ms es d) f =
    only ReprKind.ExplicitVarSizeWithFlags (set_dom ms es d) d true refl refl f
counted ReprKind.ExplicitVarSizeWithDummy (set_dom ms es d) f =
    none ReprKind.ExplicitVarSizeWithDummy (set_dom ms es d) (has_dummy d) refl refl
counted ReprKind.MSetOccurrence (mset_dom ms es d) f = none ReprKind.MSetOccurrence (mset_dom ms es d) (is_atom d) refl refl
counted ReprKind.MSetExplicitWithRepetition (mset_dom ms es d) f =
    only ReprKind.MSetExplicitWithRepetition (mset_dom ms es d) d true refl refl f
counted ReprKind.MSetExplicitWithFlags (mset_dom ms es d) f =
    only ReprKind.MSetExplicitWithFlags (mset_dom ms es d) d true refl refl f
counted ReprKind.Function1D (function_dom ms es d c) f =
    only ReprKind.Function1D (function_dom ms es d c) c (has_key Key.Total ms && is_atom d) refl refl f.1
counted ReprKind.Function1DPartial (function_dom ms es d c) f =
    only ReprKind.Function1DPartial (function_dom ms es d c) c (is_atom d) refl refl f.1
counted ReprKind.FunctionND (function_dom ms es d c) f =
    only ReprKind.FunctionND (function_dom ms es d c) c (has_key Key.Total ms && is_atom_tuple d) refl refl f.1
counted ReprKind.FunctionNDPartial (function_dom ms es d c) f =
    only ReprKind.FunctionNDPartial (function_dom ms es d c) c (is_atom_tuple d) refl refl f.1
counted ReprKind.FunctionAsRelation (function_dom ms es d c) f =
    only ReprKind.FunctionAsRelation (function_dom ms es d c) _ true refl refl (f.0, (f.1, tt))
counted ReprKind.RelationAsMatrix (relation_dom ms es ds) f =
    none ReprKind.RelationAsMatrix (relation_dom ms es ds) (are_atoms ds) refl refl
counted ReprKind.RelationAsSet (relation_dom ms es ds) f = only ReprKind.RelationAsSet (relation_dom ms es ds) _ true refl refl f
counted ReprKind.PartitionOccurrence (partition_dom ms es d) f =
    none ReprKind.PartitionOccurrence (partition_dom ms es d) (is_atom d) refl refl
counted ReprKind.PartitionAsSet (partition_dom ms es d) f = only ReprKind.PartitionAsSet (partition_dom ms es d) _ true refl refl f
counted k d f = λ es h. cc

-- ---- all layers

-- the forms of the children are known, and where the representation fits they are there
at-forms : (k : ReprKind) (rs : Reprs) (d : Dom) (o : Option (List Dom)) → child_forms k d ≡ o → HasFields d →
    elim o [ None ↦ false | Some ds ↦ all_fit rs ds ] ≡ true →
    ((es : List Dom) → Counted k d es → all_fit rs es ≡ true → length (names_of_children rs (zip (child_names k d) es)) ≡ widths rs) →
    length (own_names k d ++ names_of_children rs (zip (child_names k d) (list_or_none o))) ≡ own_width k + widths rs
at-forms k rs d None e f h g = cc
at-forms k rs d (Some es) e f h g =
    let c = counted k d f es e in
    let a = length-append (own_names k d) (names_of_children rs (zip (child_names k d) es)) in
    let b = g es c h in
    let o = c.own in
    omega (a, b, o, arith)

mutual
  -- A representation that fits has as many names as tables.
  pub names-wide : (r : Repr) (d : Dom) → HasFields d → fits r d ≡ true → length (table_names r d) ≡ width r
  names-wide (repr k rs) d f h =
      at-forms k rs d (child_forms k d) refl f h (λ es c. children-wide rs (child_names k d) es c.children c.fields)

  children-wide : (rs : Reprs) (ns : List Named) (es : List Dom) → length ns ≡ length es → Each es HasFields → all_fit rs es ≡ true →
      length (names_of_children rs (zip ns es)) ≡ widths rs
  children-wide no_reprs ns es l f h = refl
  children-wide (more_reprs r rs) ns [] l f h = cc
  children-wide (more_reprs r rs) [] (e ∷ es) l f h = let z : 0 ≡ suc (length es) = l in absurd (omega (z, arith))
  children-wide (more_reprs r rs) (n ∷ ns) (e ∷ es) l f h =
      let g : suc (length ns) ≡ suc (length es) = l in
      let a = length-append (below_child n (table_names r e)) (names_of_children rs (zip ns es)) in
      let b : length (below_child n (table_names r e)) ≡ width r =
      map-long (λ (m : Named). (n.0 ++ m.0, n.1 + m.1)) (table_names r e) ∙ names-wide r e f.0 (and-left (fits r e) (all_fit rs es) h) in
      let c = children-wide rs ns es (omega (g, arith)) f.1 (and-right (fits r e) (all_fit rs es) h) in
      omega (a, b, c, arith)

-- Each name is made free alone.
pub named-long : (x : Text) (ns : List Named) (taken : List Text) → length (named_tables x ns taken) ≡ length ns
named-long x [] taken = refl
named-long x (n ∷ ns) taken = ap suc (named-long x ns (free_name taken (x ++ n.0) ∷ taken))

-- As many tables are declared as a representation has.
pub declared-long : (r : Repr) (e : Domain) → Covered r e → length (declarations r e) ≡ width r
declared-long r e h = sym (map-long (λ (t : Declaration). t.axes) (declarations r e)) ∙ axes-wide r e h
