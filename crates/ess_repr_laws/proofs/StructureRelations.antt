-- The structure constraint of a relation of which is kept which tuples occur: its size, and what is asked of its pairs.
use Rattle.std.proofs.Common.{◌≡◌, refl, sym, ap, ◌∙◌, ℕ, ◌+◌, ◌<◌, Bool, true, false, ◌&&◌, List, [], ◌∷◌, map, length, ℤ, pos, Some, option_map, arith}
use Rattle.ess_semantics.specs.declared.words.ReprKind.{ReprKind}
use Rattle.ess_semantics.specs.Lists.{is_some_and, or_default}
use Rattle.ess_semantics.specs.Values.{Text, Value, a_relation, node, of_list, truth, items_of}
use Rattle.ess_semantics.specs.Order.{same_text}
use Rattle.ess_semantics.specs.Kinds.{dom_list}
use Rattle.ess_semantics.specs.Trees.{Mark, Repr, repr, no_reprs, Ex, Exs, Doms, relation_dom}
use Rattle.ess_semantics.specs.Domains.{Attribute, Domain, Domains, booleans, relations, tuples, domain_list, member_list}
use Rattle.ess_semantics.specs.Attributes.{each_holds, head_members, relation_holds, relation_attributes_hold, set_attributes_hold}
use Rattle.ess_semantics.specs.Membership.{member, tuple_member}
use Rattle.ess_semantics.specs.Operators.{as_truth}
use Rattle.ess_semantics.specs.declared.words.Key.{Key}
use Rattle.std.specs.List.{list_all}
use Rattle.ess_semantics.specs.Tables.{Table, Tables, is_cell}
use Rattle.ess_semantics.specs.Cells.{Grid, Axes, behind, cells_of, every_cell, row}
use Rattle.ess_semantics.specs.Layers.{codes_of, chosen, count_true}
use Rattle.ess_semantics.specs.Declarations.{declarations_below}
use Rattle.ess_semantics.specs.CanonicalTest.{canonical}
use Rattle.ess_semantics.specs.Meaning.{Env, meaning, meanings}
use Rattle.ess_semantics.specs.Atoms.{AreAtoms}
use Rattle.ess_semantics.proofs.Connectives.{and-means}
use Rattle.ess_semantics.proofs.Orders.{to_list-of_list}
use Rattle.ess_repr_laws.specs.RelationParts.{bare_relation_dom, relation_key_ex, relation_ex}
use Rattle.ess_repr_laws.specs.ViewParts.{view_ex}
use Rattle.ess_repr_laws.specs.StructureParts.{Terms, first_name, own_shape, keys_ex, size_ex, true_count_ex}
use Rattle.ess_repr_laws.specs.StructureMeaning.{Bound, M, AxesAre, Placed, Attributes, index_members, EachFlag, DomainIs, RelationKeyReady}
use Rattle.ess_repr_laws.proofs.Arguments.{Arguments, tuple-arguments, cell-arguments}
use Rattle.ess_repr_laws.proofs.CanonicalForms.{atoms-listed}
use Rattle.ess_repr_laws.proofs.CanonicalPlaces.{all-of-map}
use Rattle.ess_repr_laws.proofs.Chosen.{Bit, chosen-there, chosen-count, chosen-all}
use Rattle.ess_repr_laws.proofs.PlacesOfTables.{row-places}
use Rattle.ess_repr_laws.proofs.SlotsUsed.{bit-cell}
use Rattle.ess_repr_laws.proofs.RelationsOfViews.{relation-attributes-apart, relation-key-settled, relation-key-asked}
use Rattle.ess_repr_laws.proofs.StructureConversions.{flags-means, all-flags, each-flag}
use Rattle.ess_repr_laws.proofs.ViewsOfCells.{Stands, view-stands}
use Rattle.ess_repr_laws.proofs.CanonicalRelations.{tuples-of-members}
use Rattle.ess_repr_laws.proofs.StructureFits.{Fit, first-fit}
use Rattle.ess_repr_laws.proofs.StructureMatrices.{index-codes}
use Rattle.ess_repr_laws.proofs.StructureNumbers.{size-means}
use Rattle.ess_repr_laws.proofs.StructureOccurrences.{true-count-means}
use Rattle.ess_repr_laws.proofs.StructureOf.{StructureOf, own-found}
use Rattle.ess_repr_laws.proofs.StructureRows.{Steady, There, codes, grid_at}
use Rattle.ess_repr_laws.proofs.TupleMembers.{place_of, tuples-listed}

-- The row of a table over the places of arguments.
pub row-arguments : (x : Domain) (as' : Axes) (index : Value → List ℤ) → Arguments x as' index → (f : Grid) → row as' f ≡ map (λ v. or_default (f (index v)) (pos 0)) (member_list x)
row-arguments x as' index args f = row-places as' f ∙ ap (map (λ p. or_default (f p) (pos 0))) args.places ∙ under (member_list x)
  where
    under : (vs : List Value) → map (λ p. or_default (f p) (pos 0)) (map index vs) ≡ map (λ v. or_default (f (index v)) (pos 0)) vs
    under [] = refl
    under (v ∷ vs) = ap (λ l. or_default (f (index v)) (pos 0) ∷ l) (under vs)

-- Of arguments with a truth value some are chosen, as many as cells are true.
pub arguments-chosen : (x : Domain) (as' : Axes) (index : Value → List ℤ) → Arguments x as' index → (f : Grid) → every_cell as' (is_cell booleans) f ≡ true →
    (ys : List Value) × (chosen (member_list x) (λ v. f (index v)) ≡ Some ys) × (count_true (row as' f) ≡ length ys)
arguments-chosen x as' index args f h =
    let bits = all-of-map (member_list x) (λ v. is_some_and (f (index v)) (is_cell booleans) ≡ true) (λ v. Bit (f (index v))) (λ v e. bit-cell (f (index v)) e) (cell-arguments x as' index args (is_cell booleans) f h) in
    let r = chosen-there (member_list x) (λ v. f (index v)) bits in
    (r.0, r.1, ap count_true (row-arguments x as' index args f) ∙ chosen-count (member_list x) (λ v. f (index v)) r.0 r.1 bits)

module _ (env0 : Env) (q : ℕ → Text) (q-apart : (m l : ℕ) → l < m → same_text (q m) (q l) ≡ false) (terms : Terms)
    (ms : List Mark) (es : Exs) (ds : Doms) (ks : List Attribute) (xs : Domains) (a : AreAtoms xs)
    (keys : EachFlag (RelationKeyReady env0 q q-apart ds xs (bare_relation_dom ds) (relations [] xs)) ks)
    (ax : AxesAre env0 q q-apart (dom_list ds) (index_members xs)) (at : Attributes env0 q q-apart terms ms es ks) where
  abbrev kind : Repr
  kind = repr ReprKind.RelationAsMatrix no_reprs

  abbrev axes : Axes
  axes = map codes_of (domain_list xs)

  same : codes env0 q q-apart (index_members xs) ≡ axes
  same = index-codes env0 q q-apart xs

  bits : (out : Bool) (t : Table) (i : List ℤ) → Fit (declarations_below out kind (relations ks xs)) (behind i (cells_of (t ∷ []))) → every_cell axes (is_cell booleans) (grid_at env0 q q-apart t i) ≡ true
  bits true t i c = let f = first-fit (record { axes = axes; cell = booleans }) [] (grid_at env0 q q-apart t i) [] c in f.inside
  bits false t i c = let f = first-fit (record { axes = axes; cell = booleans }) [] (grid_at env0 q q-apart t i) [] c in f.inside

  matrix-there : (out : Bool) (ns : List Text) (ts : Tables) (i : List ℤ) → Placed env0 q q-apart (own_shape ns true (dom_list ds) ∷ []) (index_members xs ∷ []) ts →
      Fit (declarations_below out kind (relations ks xs)) (behind i (cells_of ts)) → There env0 q q-apart (own_shape ns true (dom_list ds) ∷ []) (index_members xs ∷ []) ts i
  matrix-there out ns (t ∷ []) i p c = (ap (λ z. every_cell z (is_cell booleans) (grid_at env0 q q-apart t i)) same ∙ bits out t i c, tt)
  matrix-there out ns [] i p c = absurd p
  matrix-there out ns (t ∷ u ∷ ts) i p c = absurd p.2

  -- its view
  abbrev seen : List Text → Exs → Ex
  seen ns is = view_ex kind (bare_relation_dom ds) (own_shape ns true (dom_list ds) ∷ []) is

  module _ (out : Bool) (ns : List Text) (t : Table) (l : ℕ) (is : Exs) (i : List ℤ) (bs : Bound env0 q q-apart)
      (p : Placed env0 q q-apart (own_shape ns true (dom_list ds) ∷ []) (index_members xs ∷ []) (t ∷ []))
      (c : Fit (declarations_below out kind (relations ks xs)) (behind i (cells_of (t ∷ [])))) (st : Steady env0 q q-apart l is i bs) where
    abbrev grid : Grid
    grid = grid_at env0 q q-apart t i

    abbrev key_ex : Key → Ex
    key_ex = relation_key_ex q l ds (seen ns is)

    abbrev F : Key → Bool
    F k = as_truth (meaning (key_ex k) (M env0 q q-apart bs))

    settled : (k : Key) → meaning (key_ex k) (M env0 q q-apart bs) ≡ Some (truth (F k))
    settled k = relation-key-settled env0 q q-apart l ds (seen ns is) (M env0 q q-apart bs) k

    fits : every_cell axes (is_cell booleans) grid ≡ true
    fits = bits out t i c

    -- What an attribute without a number asks is asked of the tuples ys that occur.
    module _ (ys : List Value) (e : chosen (member_list (tuples xs)) (λ v. grid (place_of v)) ≡ Some ys) where
      abbrev v : Value
      v = node a_relation (of_list ys)

      stands : DomainIs env0 q q-apart (bare_relation_dom ds) (relations [] xs) → Stands env0 q q-apart l (seen ns is) v bs
      stands dm =
          view-stands env0 q q-apart kind (bare_relation_dom ds) (relations [] xs) (own_shape ns true (dom_list ds) ∷ [])
          (index_members xs ∷ []) (t ∷ []) l is i bs v refl dm p st
          (ap (option_map (λ ys. node a_relation (of_list ys))) e)

      inside : list_all (tuple_member xs) ys ≡ true
      inside = let m = tuples-listed xs (atoms-listed xs a) in tuples-of-members xs ys
          (chosen-all (member (tuples xs)) (member_list (tuples xs)) (λ v. grid (place_of v)) ys e m.members)

      of-view : (k : Key) → RelationKeyReady env0 q q-apart ds xs (bare_relation_dom ds) (relations [] xs) k →
          relation_holds k (head_members xs) (items_of v) ≡ as_truth (meaning (relation_key_ex q l ds (seen ns is) k) (M env0 q q-apart bs))
      of-view k h =
          relation-key-asked env0 q q-apart l bs (seen ns is) v ds xs (bare_relation_dom ds) (relations [] xs) stands
          (ap (list_all (tuple_member xs)) (to_list-of_list ys) ∙ inside) k h

      asked : (k : Key) → RelationKeyReady env0 q q-apart ds xs (bare_relation_dom ds) (relations [] xs) k → relation_holds k (head_members xs) ys ≡ F k
      asked k h = ap (relation_holds k (head_members xs)) (sym (to_list-of_list ys)) ∙ of-view k h

    one-means : meaning (relation_ex q l ms es ds (dom_list ds) (first_name ns) is (seen ns is)) (M env0 q q-apart bs) ≡ Some
        (truth (canonical kind (relations ks xs) (behind i (cells_of (t ∷ [])))))
    one-means =
        let z = at bs in
        let x = matrix-there out ns (t ∷ []) i p c in
        let y = arguments-chosen (tuples xs) axes place_of (tuple-arguments xs (atoms-listed xs a)) grid fits in
        and-means (M env0 q q-apart bs) (size_ex ms es (true_count_ex q l (dom_list ds) (first_name ns) is)) (keys_ex key_ex ms)
        (set_attributes_hold ks (count_true (row (codes env0 q q-apart (index_members xs)) grid))) (each_holds ks (λ k n. true) F)
        (size-means (M env0 q q-apart bs) ms es (true_count_ex q l (dom_list ds) (first_name ns) is)
        (count_true (row (codes env0 q q-apart (index_members xs)) grid)) ks z.0 z.1
        (true-count-means env0 q q-apart l (dom_list ds) (index_members xs) (first_name ns) is i bs t ax p.0 x.0 st))
        (flags-means (M env0 q q-apart bs) key_ex F ms (meanings es (M env0 q q-apart bs)) ks z.1
        (all-flags (λ k. meaning (key_ex k) (M env0 q q-apart bs) ≡ Some (truth (F k))) ks settled))
        ∙ ap (λ s. Some (truth s))
        (ap (λ a. set_attributes_hold ks (count_true (row a grid)) && each_holds ks (λ k n. true) F) same
        ∙ ap (λ n. set_attributes_hold ks n && each_holds ks (λ k n. true) F) y.2
        ∙ sym (relation-attributes-apart ks xs y.0 (length y.0) F (each-flag (RelationKeyReady env0 q q-apart ds xs (bare_relation_dom ds) (relations [] xs))
        (λ k. relation_holds k (head_members xs) y.0 ≡ F k) ks (asked y.0 y.1) keys))
        ∙ ap (relation_attributes_hold ks xs) (sym (to_list-of_list y.0))
        ∙ sym (ap (λ o. (((every_cell axes (is_cell booleans) grid && true) && true) && true) && is_some_and
        (option_map (λ ys. node a_relation (of_list ys)) o) (λ v. relation_attributes_hold ks xs (items_of v))) y.1
        ∙ ap (λ b. (((b && true) && true) && true) && relation_attributes_hold ks xs (items_of (node a_relation (of_list y.0)))) fits))

  matrix-means : (out : Bool) (ns : List Text) (ts : Tables) (l : ℕ) (is : Exs) (i : List ℤ) (bs : Bound env0 q q-apart) → Placed env0 q q-apart (own_shape ns true (dom_list ds) ∷ []) (index_members xs ∷ []) ts →
      Fit (declarations_below out kind (relations ks xs)) (behind i (cells_of ts)) → Steady env0 q q-apart l is i bs →
      meaning (relation_ex q l ms es ds (dom_list ds) (first_name ns) is (seen ns is)) (M env0 q q-apart bs) ≡ Some
      (truth (canonical kind (relations ks xs) (behind i (cells_of ts))))
  matrix-means out ns (t ∷ []) l is i bs p c st = one-means out ns t l is i bs p c st
  matrix-means out ns [] l is i bs p c st = absurd p
  matrix-means out ns (t ∷ u ∷ ts) l is i bs p c st = absurd p.2

  -- The structure constraint of a relation as a matrix means that its cells are canonical.
  pub relation-structure : StructureOf env0 q q-apart terms kind (relation_dom ms es ds) (relations ks xs)
  relation-structure = record {
    covered = a;
    long = λ ns. let z : 1 ≡ 1 + 0 = omega arith in z;
    axes = ap (λ l. l ∷ []) same;
    found = own-found env0 q q-apart terms true (dom_list ds) (index_members xs) ax;
    there = matrix-there;
    means = matrix-means;
  }
