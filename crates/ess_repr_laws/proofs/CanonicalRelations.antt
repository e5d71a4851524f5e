-- Relations as truth values of tuples, and as sets of tuples, are right.
use Rattle.std.proofs.Common.{◌≡◌, refl, sym, ap, ◌∙◌, subst, Bool, true, false, ◌&&◌, List, [], ◌∷◌, map, Option, Some, option_map}
use Rattle.std.specs.List.{list_all}
use Rattle.ess_semantics.specs.declared.words.ReprKind.{ReprKind}
use Rattle.ess_semantics.specs.Lists.{and_then, only_of, is_some_and}
use Rattle.ess_semantics.specs.Values.{a_tuple, a_matrix, a_set, a_mset, a_function, a_relation, a_partition, a_record, Value, number, truth, item, node, nil, cons, to_list, of_list, itself, items_of}
use Rattle.ess_semantics.specs.Collections.{rises}
use Rattle.ess_semantics.specs.Trees.{Repr, Reprs, repr, no_reprs, more_reprs}
use Rattle.ess_semantics.specs.Domains.{Attribute, Domain, Domains, booleans, tuples, relations, no_domains, more_domains, domain_list, member_list}
use Rattle.ess_semantics.specs.Attributes.{relation_attributes_hold}
use Rattle.ess_semantics.specs.Membership.{tuple_member, member}
use Rattle.ess_semantics.specs.Tables.{is_cell}
use Rattle.ess_semantics.specs.Cells.{Grid, Cells, Axes, every_cell, rows}
use Rattle.ess_semantics.specs.Layers.{Layer, codes_of, chosen, only_child}
use Rattle.ess_semantics.specs.RelationLayers.{relation_matrix_layer}
use Rattle.ess_semantics.specs.Representations.{value_of_cells, values_of_children}
use Rattle.ess_semantics.specs.Declarations.{axes_of}
use Rattle.ess_semantics.specs.CanonicalTest.{canonical}
use Rattle.ess_semantics.specs.Tidy.{are_orderly, tidy_cells}
use Rattle.ess_repr_laws.specs.CanonicalTables.{Right}
use Rattle.ess_semantics.proofs.Tests.{and-left, and-right, and-both}
use Rattle.ess_semantics.proofs.Orders.{to_list-of_list}
use Rattle.ess_repr_laws.proofs.RowsOfCells.{agree-row, axes_of_children}
use Rattle.ess_repr_laws.proofs.SlotsUsed.{bit-cell}
use Rattle.ess_repr_laws.proofs.CanonicalParts.{Parts, parts-of, asked_of, value_of_layer, value-of-parts}
use Rattle.ess_repr_laws.proofs.CanonicalPlaces.{AllOf, all-of-map, all_places, children-once, AllMembers, children-members, children-orderly}
use Rattle.ess_repr_laws.proofs.CanonicalScalars.{singles}
use Rattle.ess_repr_laws.proofs.Chosen.{Bit, chosen-there, chosen-once, chosen-rises, chosen-all}
use Rattle.ess_repr_laws.proofs.TupleMembers.{AllListed, tuples-listed, place_of}
use Rattle.ess_repr_laws.proofs.Arguments.{tuple-arguments, cell-arguments, agree-arguments}

-- ---- tuples as members

tuple-of-member : (ds : Domains) (v : Value) → member (tuples ds) v ≡ true → tuple_member ds v ≡ true
tuple-of-member no_domains (node a_tuple nil) h = refl
tuple-of-member no_domains (node a_tuple (cons v vs)) h = cc
tuple-of-member (more_domains d ds) (node a_tuple nil) h = cc
tuple-of-member (more_domains d ds) (node a_tuple (cons v vs)) h = h
tuple-of-member ds (number n) h = cc
tuple-of-member ds (truth b) h = cc
tuple-of-member ds (item t k) h = cc
tuple-of-member ds (node a_matrix vs) h = cc
tuple-of-member ds (node a_set vs) h = cc
tuple-of-member ds (node a_mset vs) h = cc
tuple-of-member ds (node a_function vs) h = cc
tuple-of-member ds (node a_relation vs) h = cc
tuple-of-member ds (node a_partition vs) h = cc
tuple-of-member ds (node (a_record fs) vs) h = cc

-- Members of a domain of tuples are tuples of members.
pub tuples-of-members : (ds : Domains) (vs : List Value) → list_all (member (tuples ds)) vs ≡ true → list_all (tuple_member ds) vs ≡ true
tuples-of-members ds [] h = refl
tuples-of-members ds (v ∷ vs) h =
    and-both (tuple_member ds v) (list_all (tuple_member ds) vs) (tuple-of-member ds v (and-left (member (tuples ds) v) (list_all (member (tuples ds)) vs) h))
    (tuples-of-members ds vs (and-right (member (tuples ds) v) (list_all (member (tuples ds)) vs) h))

-- ---- as truth values

module _ (ks : List Attribute) (ds : Domains) (all : AllListed ds) where
  abbrev as_matrix : Repr
  as_matrix = repr ReprKind.RelationAsMatrix no_reprs

  abbrev xs : List Value
  xs = member_list (tuples ds)

  abbrev axes : Axes
  axes = map codes_of (domain_list ds)

  record Chosen (f : Grid) : Type 0 where
    parts : Parts (relation_matrix_layer ks ds) no_reprs (f ∷ []) []
    bits : AllOf xs (λ x. Bit (f (place_of x)))
    ys : List Value
    found : chosen xs (λ x. f (place_of x)) ≡ Some ys
    value : value_of_cells as_matrix (relations ks ds) (f ∷ []) ≡ Some (node a_relation (of_list ys))
    attributes : relation_attributes_hold ks ds (to_list (of_list ys)) ≡ true

  relation-chosen : (f : Grid) → canonical as_matrix (relations ks ds) (f ∷ []) ≡ true → Chosen f
  relation-chosen f h =
      let p = parts-of (relation_matrix_layer ks ds) no_reprs (f ∷ []) [] h in
      let bits = all-of-map xs (λ x. is_some_and (f (place_of x)) (is_cell booleans) ≡ true) (λ x. Bit (f (place_of x))) (λ x e. bit-cell (f (place_of x)) e)
      (cell-arguments (tuples ds) axes place_of (tuple-arguments ds all) (is_cell booleans) f (and-left (every_cell axes (is_cell booleans) f) true p.fit)) in
      let r = chosen-there xs (λ x. f (place_of x)) bits in
      record {
        parts = p;
        bits = bits;
        ys = r.0;
        found = r.1;
        value = ap (option_map (λ ys. node a_relation (of_list ys))) r.1;
        attributes = ap (λ o. is_some_and (option_map (λ ys. node a_relation (of_list ys)) o) (λ v. relation_attributes_hold ks ds (items_of v))) (sym r.1) ∙ p.attributes;
      }

  too-many : (f g : Grid) (gs : Cells) → canonical as_matrix (relations ks ds) (f ∷ g ∷ gs) ≡ true → ⊥
  too-many f g gs h = let p = parts-of (relation_matrix_layer ks ds) no_reprs (f ∷ []) (g ∷ gs) h in let z : false ≡ true = p.inside in cc

  matrix-sound : (c : Cells) → canonical as_matrix (relations ks ds) c ≡ true → (v : Value) × (value_of_cells as_matrix (relations ks ds) c ≡ Some v)
  matrix-sound [] h = cc
  matrix-sound (f ∷ []) h = let x = relation-chosen f h in (node a_relation (of_list x.ys), x.value)
  matrix-sound (f ∷ g ∷ gs) h = absurd (too-many f g gs h)

  matrix-unique : (c c' : Cells) → canonical as_matrix (relations ks ds) c ≡ true → canonical as_matrix (relations ks ds) c' ≡ true →
      value_of_cells as_matrix (relations ks ds) c ≡ value_of_cells as_matrix (relations ks ds) c' → rows (axes_of as_matrix (relations ks ds)) c ≡ rows (axes_of as_matrix (relations ks ds)) c'
  matrix-unique [] c' h h' q = cc
  matrix-unique (f ∷ g ∷ gs) c' h h' q = absurd (too-many f g gs h)
  matrix-unique (f ∷ []) [] h h' q = cc
  matrix-unique (f ∷ []) (f' ∷ g ∷ gs) h h' q = absurd (too-many f' g gs h')
  matrix-unique (f ∷ []) (g ∷ []) h h' q =
      let x = relation-chosen f h in
      let y = relation-chosen g h' in
      let w : Some (node a_relation (of_list x.ys)) ≡ Some (node a_relation (of_list y.ys)) = sym x.value ∙ q ∙ y.value in
      let l : of_list x.ys ≡ of_list y.ys = cc in
      let ys : x.ys ≡ y.ys = sym (to_list-of_list x.ys) ∙ ap to_list l ∙ to_list-of_list y.ys in
      ap (λ r. r ∷ []) (agree-row axes f g (agree-arguments (tuples ds) axes place_of (tuple-arguments ds all) f g
      (chosen-once xs x.ys (λ x. f (place_of x)) (λ x. g (place_of x)) x.found (y.found ∙ ap Some (sym ys)) xs (λ w e. e) x.bits y.bits)))

  matrix-tidies : (c : Cells) → canonical as_matrix (relations ks ds) c ≡ true → tidy_cells as_matrix (relations ks ds) c ≡ true
  matrix-tidies [] h = cc
  matrix-tidies (f ∷ g ∷ gs) h = absurd (too-many f g gs h)
  matrix-tidies (f ∷ []) h =
      let x = relation-chosen f h in
      let l = tuples-listed ds all in
      and-both (is_some_and (value_of_cells as_matrix (relations ks ds) (f ∷ [])) (member (relations ks ds))) true
      (ap (λ o. is_some_and o (member (relations ks ds))) x.value
      ∙ and-both (rises itself (to_list (of_list x.ys)) && list_all (tuple_member ds) (to_list (of_list x.ys))) (relation_attributes_hold ks ds (to_list (of_list x.ys)))
      (ap (λ l. rises itself l && list_all (tuple_member ds) l) (to_list-of_list x.ys)
      ∙ and-both (rises itself x.ys) (list_all (tuple_member ds) x.ys) (chosen-rises xs (λ x. f (place_of x)) x.ys x.found l.sorted)
      (tuples-of-members ds x.ys (chosen-all (member (tuples ds)) xs (λ x. f (place_of x)) x.ys x.found l.members))) x.attributes) refl

  -- Canonical cells of relations as the tuples that occur.
  pub relation-matrix-right : Right as_matrix (relations ks ds)
  relation-matrix-right = record { sound = matrix-sound; unique = matrix-unique; tidies = matrix-tidies }

-- ---- over one value of a child

-- f makes the value, g is what else is asked
module _ (r : Repr) (e : Domain) (right : Right r e) (f : Value → Option Value) (t : Value → List (List (Option Value))) (g : Cells → List (List Value) → Bool) where
  abbrev child : Reprs
  child = more_reprs r no_reprs

  abbrev made : Cells → List (List Value) → Option Value
  made c vss = and_then (only_of (only_child vss)) f

  -- A layer over one value of its child.
  abbrev pub over_value : Layer
  over_value = all_places (e ∷ []) [] made t g

  -- the child's only value
  pub record OneValue (own inner : Cells) : Type 0 where
    pub parts : Parts over_value child own inner
    pub v : Value
    pub values : values_of_children child (e ∷ []) inner ([] ∷ []) ≡ Some ((v ∷ []) ∷ [])
    pub member_of : member e v ≡ true
    pub value : value_of_layer over_value child own inner ≡ f v
    pub attributes : g own ((v ∷ []) ∷ []) ≡ true

  -- Its child stands for one value.
  pub one-value : (own inner : Cells) → asked_of over_value child own inner ≡ true → OneValue own inner
  one-value own inner h =
      let p = parts-of over_value child own inner h in
      let js : p.js ≡ [] ∷ [] = let z : Some p.js ≡ Some ([] ∷ []) = sym p.used in cc in
      let q = ap (values_of_children child (e ∷ []) inner) (sym js) ∙ p.values in
      let s = singles child (e ∷ []) (right, tt) inner p.vss q in
      go p q s.0 s.1
    where
      go : (p : Parts over_value child own inner) → values_of_children child (e ∷ []) inner ([] ∷ []) ≡ Some p.vss → (vs : List Value) → p.vss ≡ map (λ v. v ∷ []) vs → OneValue own inner
      go p q [] w = absurd (subst (AllMembers (e ∷ []) [] made t g (e ∷ [])) w (children-members (e ∷ []) [] made t g own child (e ∷ []) (right, tt) inner p.vss p.inside q))
      go p q (v ∷ u ∷ vs) w = let m = subst (AllMembers (e ∷ []) [] made t g (e ∷ [])) w (children-members (e ∷ []) [] made t g own child (e ∷ []) (right, tt) inner p.vss p.inside q) in absurd m.1
      go p q (v ∷ []) w =
          let m = subst (AllMembers (e ∷ []) [] made t g (e ∷ [])) w (children-members (e ∷ []) [] made t g own child (e ∷ []) (right, tt) inner p.vss p.inside q) in
          record {
            parts = p;
            v = v;
            values = q ∙ ap Some w;
            member_of = and-left (member e v) true m.0;
            value = value-of-parts over_value child own inner p ∙ ap (made own) w;
            attributes = ap (g own) (sym w) ∙ p.attributes;
          }

  -- The child's cells are one for each value.
  pub value-once : (own own' inner inner' : Cells) (x : OneValue own inner) (y : OneValue own' inner') → x.v ≡ y.v → rows (axes_of_children child (e ∷ []) []) inner ≡ rows (axes_of_children child (e ∷ []) []) inner'
  value-once own own' inner inner' x y q =
      let p = x.parts in
      let p' = y.parts in
      children-once (e ∷ []) [] made t g own own' child (e ∷ []) (right, tt) inner inner' ((x.v ∷ []) ∷ []) p.inside p'.inside x.values (y.values ∙ ap (λ v. Some ((v ∷ []) ∷ [])) (sym q))

  -- They are in order.
  pub value-orderly : (own inner : Cells) → OneValue own inner → are_orderly over_value child (e ∷ []) inner ([] ∷ []) ≡ true
  value-orderly own inner x = let p = x.parts in children-orderly (e ∷ []) [] made t g own child (e ∷ []) (right, tt) inner p.inside
