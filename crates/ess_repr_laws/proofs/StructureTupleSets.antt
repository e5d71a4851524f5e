-- The structure constraint of a relation whose tuples are a set: that of the set, and what is asked of its pairs.
use Rattle.std.proofs.Common.{◌≡◌, refl, sym, ap, ◌∙◌, subst, ℕ, ◌+◌, ◌<◌, Bool, true, false, ◌&&◌, ◌||◌, List, [], ◌∷◌, ◌++◌, map, length, ℤ, Some, arith, append-nil}
use Rattle.std.specs.List.{list_all}
use Rattle.ess_semantics.specs.declared.words.Key.{Key}
use Rattle.ess_semantics.specs.declared.words.ReprKind.{ReprKind}
use Rattle.ess_semantics.specs.Lists.{and_then, is_some_and, only_of}
use Rattle.ess_semantics.specs.Values.{Text, Value, a_set, node, to_list, of_list, truth, items_of}
use Rattle.ess_semantics.specs.Order.{same_text}
use Rattle.ess_semantics.specs.Trees.{Mark, Repr, repr, no_reprs, more_reprs, Ex, Exs, Dom, Doms, relation_dom}
use Rattle.ess_semantics.specs.Domains.{Attribute, Domain, Domains, relations, tuples}
use Rattle.ess_semantics.specs.Membership.{tuple_member, member}
use Rattle.ess_semantics.specs.Operators.{as_truth}
use Rattle.ess_semantics.specs.Attributes.{each_holds, head_members, relation_holds, relation_attributes_hold, set_attributes_hold}
use Rattle.ess_semantics.specs.Sizes.{child_set}
use Rattle.ess_semantics.specs.Tables.{Tables}
use Rattle.ess_semantics.specs.Cells.{Cells, behind, cells_of}
use Rattle.ess_semantics.specs.Layers.{only_child}
use Rattle.ess_semantics.specs.RelationLayers.{relation_from}
use Rattle.ess_semantics.specs.Representations.{width, value_of_cells}
use Rattle.ess_semantics.specs.Declarations.{Declaration, under, declarations_below}
use Rattle.ess_semantics.specs.CanonicalTest.{canonical}
use Rattle.ess_semantics.specs.Meaning.{Env, meaning, meanings}
use Rattle.ess_semantics.proofs.Connectives.{and-means}
use Rattle.ess_semantics.proofs.Tests.{and-right}
use Rattle.ess_repr_laws.specs.RelationParts.{relation_key_ex}
use Rattle.ess_repr_laws.specs.StructureParts.{Terms, keys_ex, tuple_set_dom}
use Rattle.ess_repr_laws.specs.Structure.{shapes, structure}
use Rattle.ess_repr_laws.specs.StructureMeaning.{Bound, M, Placed, Attributes, EachFlag, RelationKeyReady, tuple_set_sizes, AreSizes, axes_members}
use Rattle.ess_repr_laws.specs.ViewParts.{view_ex}
use Rattle.ess_repr_laws.proofs.Behind.{behind-length}
use Rattle.ess_repr_laws.proofs.CanonicalConversions.{set-member-form}
use Rattle.ess_repr_laws.proofs.CanonicalForms.{right}
use Rattle.ess_repr_laws.proofs.CanonicalRelations.{tuples-of-members}
use Rattle.ess_repr_laws.proofs.CellDomains.{axes-wide}
use Rattle.ess_repr_laws.proofs.CellsOfMembers.{map-long}
use Rattle.ess_repr_laws.proofs.RelationsOfViews.{relation-attributes-apart, relation-key-settled, relation-key-asked}
use Rattle.ess_repr_laws.proofs.StructureConversions.{conversion-asked, flags-means, all-flags, each-flag}
use Rattle.ess_repr_laws.proofs.StructureFits.{Fit}
use Rattle.ess_repr_laws.proofs.StructureOf.{StructureOf}
use Rattle.ess_repr_laws.proofs.StructurePlaces.{placed-long}
use Rattle.ess_repr_laws.proofs.StructureRows.{Steady}
use Rattle.ess_repr_laws.proofs.StructureTuples.{under-none}
use Rattle.ess_repr_laws.proofs.ViewsOfCells.{view-stands}

-- What stands under no axes stands as it is.
pub plain : (ds : List Declaration) → under [] ds ++ [] ≡ ds
plain ds = append-nil (under [] ds) ∙ under-none ds

module _ (env0 : Env) (q : ℕ → Text) (q-apart : (m l : ℕ) → l < m → same_text (q m) (q l) ≡ false) (terms : Terms) where
  module _ (r : Repr) (ms : List Mark) (es : Exs) (ds : Doms) (ks : List Attribute) (xs : Domains)
      (sizes : AreSizes (tuple_set_sizes ks) ks)
      (keys : EachFlag (RelationKeyReady env0 q q-apart ds xs (tuple_set_dom ms es ds) (child_set ks xs)) ks)
      (at : Attributes env0 q q-apart terms ms es ks)
      (child : StructureOf env0 q q-apart terms r (tuple_set_dom ms es ds) (child_set ks xs)) where
    abbrev D : Dom
    D = tuple_set_dom ms es ds

    abbrev E : Domain
    E = child_set ks xs

    abbrev asked : Cells → List (List Value) → Bool
    asked c vss = is_some_and (and_then (only_of (only_child vss)) relation_from) (λ v. relation_attributes_hold ks xs (items_of v))

    module _ (out : Bool) (ns : List Text) (ts : Tables) (l : ℕ) (is : Exs) (i : List ℤ) (bs : Bound env0 q q-apart)
        (p : Placed env0 q q-apart (shapes q terms r D ns) (axes_members r E) ts) (st : Steady env0 q q-apart l is i bs) where
      abbrev seen : Ex
      seen = view_ex r D (shapes q terms r D ns) is

      abbrev F : Key → Bool
      F k = as_truth (meaning (relation_key_ex q l ds seen k) (M env0 q q-apart bs))

      -- What the attributes ask of the relation of a set is what they say of the view.
      attributes : (v : Value) → value_of_cells r E (behind i (cells_of ts)) ≡ Some v → member E v ≡ true →
          asked [] ((v ∷ []) ∷ []) ≡ each_holds ks (λ k n. true) F
      attributes v h m =
          let s = set-member-form (tuple_set_sizes ks) (tuples xs) v m in
          let f : items_of v ≡ to_list s.0 = ap items_of s.1 in
          let z = sym (ap (member E) s.1) ∙ m in
          let inside : list_all (tuple_member xs) (items_of v) ≡ true = ap (list_all (tuple_member xs)) f
          ∙ tuples-of-members xs (to_list s.0) s.3 in
          ap (λ w. is_some_and (relation_from w) (λ v. relation_attributes_hold ks xs (items_of v))) s.1
          ∙ ap (relation_attributes_hold ks xs) (sym f)
          ∙ relation-attributes-apart ks xs (items_of v) (length (items_of v)) F
          (each-flag (RelationKeyReady env0 q q-apart ds xs D E) (λ k. relation_holds k (head_members xs) (items_of v) ≡ F k) ks
          (relation-key-asked env0 q q-apart l bs seen v ds xs D E (λ dm. view-stands env0 q q-apart r D E (shapes q terms r D ns)
          (axes_members r E) ts l is i bs v refl dm p st h) inside) keys)
          ∙ ap (λ b. b && each_holds ks (λ k n. true) F)
          (ap (λ ys. set_attributes_hold ks (length ys)) f ∙ sizes (length (to_list s.0))
          (and-right _ (set_attributes_hold (tuple_set_sizes ks) (length (to_list s.0))) z))

    -- The structure constraint of a relation as a set means that its cells are canonical.
    pub tuple-set-structure : StructureOf env0 q q-apart terms (repr ReprKind.RelationAsSet (more_reprs r no_reprs))
        (relation_dom ms es ds) (relations ks xs)
    tuple-set-structure = record {
      covered = child.covered;
      long = λ ns. child.long ns ∙ (let z : width r ≡ 0 + (width r + 0) = omega arith in z);
      axes = child.axes ∙ ap (map (λ (t : Declaration). t.axes)) (sym (plain (declarations_below false r E)));
      found = λ ns ts w h. child.found ns ts (omega (arith, w)) h;
      there = λ out ns ts i p c. child.there (out || false) ns ts i p (subst (λ l. Fit l (behind i (cells_of ts)))
          (plain (declarations_below (out || false) r E)) c);
      means = λ out ns ts l is i bs p c st.
          and-means (M env0 q q-apart bs) (structure q terms r D ns l is)
          (keys_ex (relation_key_ex q l ds (seen out ns ts l is i bs p st)) ms) (canonical r E (behind i (cells_of ts)))
          (each_holds ks (λ k n. true) (F out ns ts l is i bs p st))
          (child.means (out || false) ns ts l is i bs p (subst (λ l. Fit l (behind i (cells_of ts)))
          (plain (declarations_below (out || false) r E)) c) st)
          (let a = at bs in
          flags-means (M env0 q q-apart bs) (relation_key_ex q l ds (seen out ns ts l is i bs p st)) (F out ns ts l is i bs p st) ms
          (meanings es (M env0 q q-apart bs)) ks a.1
          (all-flags (λ k. meaning (relation_key_ex q l ds (seen out ns ts l is i bs p st) k) (M env0 q q-apart bs) ≡ Some
          (truth (F out ns ts l is i bs p st k))) ks
          (relation-key-settled env0 q q-apart l ds (seen out ns ts l is i bs p st) (M env0 q q-apart bs))))
          ∙ ap (λ b. Some (truth b))
          (sym (conversion-asked r E (right r E child.covered) (axes-wide r E child.covered) ReprKind.RelationAsSet (relations ks xs)
          (λ v. Some (node a_set (of_list (items_of v))) ∷ [])
          (λ c vss. and_then (only_of (only_child vss)) relation_from) asked (behind i (cells_of ts))
          (each_holds ks (λ k n. true) (F out ns ts l is i bs p st))
          (behind-length i (cells_of ts) ∙ map-long _ ts ∙ placed-long env0 q q-apart (shapes q terms r D ns) (axes_members r E) ts p
          ∙ child.long ns)
          (attributes out ns ts l is i bs p st)));
    }
