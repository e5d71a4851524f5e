-- Functions as a flag and a value at each argument are right where the codomain's representation is.
use Rattle.std.proofs.Common.{◌≡◌, refl, sym, ap, ◌∙◌, subst, zero, suc, Bool, true, false, ◌&&◌, ◌||◌, not, List, [], ◌∷◌, map, take, drop, length, ℤ, pos, negsuc, Option, Some, None, option_map, nat_eq, inl, inr}
use Rattle.std.specs.List.{list_all}
use Rattle.ess_semantics.specs.declared.words.ReprKind.{ReprKind}
use Rattle.ess_semantics.specs.Lists.{each_of, is_some_and}
use Rattle.ess_semantics.specs.Values.{Value, items_of}
use Rattle.ess_semantics.specs.Order.{same, same_int}
use Rattle.ess_semantics.specs.Collections.{holds}
use Rattle.ess_semantics.specs.Trees.{Repr, Reprs, repr, no_reprs, more_reprs}
use Rattle.ess_semantics.specs.Domains.{Attribute, Domain, Domains, booleans, tuples, functions, domain_list, member_list, lists_of}
use Rattle.ess_semantics.specs.Attributes.{function_attributes_hold}
use Rattle.ess_semantics.specs.Membership.{member}
use Rattle.ess_semantics.specs.Tables.{code, is_cell}
use Rattle.ess_semantics.specs.Cells.{Grid, Cells, Axes, behind, every_cell, are_zero, row, rows}
use Rattle.ess_semantics.specs.Layers.{Layer, where_flagged, codes_of, only_child, chosen}
use Rattle.ess_semantics.specs.FunctionLayers.{function_with, partial_layer}
use Rattle.ess_semantics.specs.Representations.{width, places_in_use, is_used, value_of_cells}
use Rattle.ess_semantics.specs.Declarations.{axes_of}
use Rattle.ess_semantics.specs.CanonicalTest.{child_is_canonical, canonical}
use Rattle.ess_semantics.specs.Tidy.{is_orderly, are_orderly}
use Rattle.ess_repr_laws.specs.CanonicalTables.{Right}
use Rattle.ess_semantics.specs.Atoms.{Listed}
use Rattle.ess_semantics.proofs.Tests.{and-left, and-right, and-both, if-so, if-not, or-yes}
use Rattle.ess_semantics.proofs.Orders.{same-itself}
use Rattle.ess_repr_laws.proofs.RowsOfCells.{agree-row, zeros-same, axes-of-layer, axes_of_children}
use Rattle.ess_repr_laws.proofs.SlotsUsed.{bit-cell}
use Rattle.ess_repr_laws.proofs.OneForm.{values-length}
use Rattle.ess_repr_laws.proofs.CanonicalParts.{Parts, parts-of, asked_of, value_of_layer, value-of-parts, OnlyChild, only-child, only-child-rows}
use Rattle.ess_repr_laws.proofs.CanonicalPlaces.{AllOf, all-of-list, all-of-map, values-same, values-all, list-of-all}
use Rattle.ess_repr_laws.proofs.Chosen.{Bit, on, chosen-there, chosen-holds, chosen-once, chosen-rises, chosen-all}
use Rattle.ess_repr_laws.proofs.TupleMembers.{AllListed, place_of}
use Rattle.ess_repr_laws.proofs.Arguments.{Arguments, atom-arguments, tuple-arguments, arguments-index, cell-arguments, agree-arguments, chosen-map, each_of-under, of-held, all-of-under, under-all-of}
use Rattle.ess_repr_laws.proofs.CanonicalFunctions.{function-member, same-pairs}

module _ (r : Repr) (ks : List Attribute) (d c : Domain) (as' : Axes) (index : Value → List ℤ) (args : Arguments d as' index) (right : Right r c) where
  abbrev child : Reprs
  child = more_reprs r no_reprs

  abbrev xs : List Value
  xs = member_list d

  abbrev whole : Layer
  whole = partial_layer ks as' index d c

  abbrev inner_cells : Cells → Cells
  inner_cells inner = take (width r) inner

  -- what the value's cells at an argument stand for
  abbrev value_there : Cells → Value → Option Value
  value_there inner x = value_of_cells r c (behind (index x) (inner_cells inner))

  list-arguments : (g : List ℤ → Bool) → list_all g (lists_of as') ≡ true → AllOf xs (λ x. g (index x) ≡ true)
  list-arguments g h = under-all-of index xs (λ js. g js ≡ true) (subst (λ l. AllOf l (λ js. g js ≡ true)) args.places (all-of-list (lists_of as') g h))

  record Partial (f : Grid) (inner : Cells) : Type 0 where
    parts : Parts whole child (f ∷ []) inner
    bits : AllOf xs (λ x. Bit (f (index x)))
    ys : List Value
    found : chosen xs (λ x. f (index x)) ≡ Some ys
    only : OnlyChild r c whole (f ∷ []) inner parts.js parts.vss
    places : parts.js ≡ map index ys
    values : each_of ys (value_there inner) ≡ Some only.vs
    long : length only.vs ≡ length ys
    value : value_of_layer whole child (f ∷ []) inner ≡ Some (function_with ys only.vs)
    attributes : function_attributes_hold ks d c (items_of (function_with ys only.vs)) ≡ true

  partial-of : (f : Grid) (inner : Cells) → asked_of whole child (f ∷ []) inner ≡ true → Partial f inner
  partial-of f inner h =
      let p = parts-of whole child (f ∷ []) inner h in
      let bits = all-of-map xs (λ x. is_some_and (f (index x)) (is_cell booleans) ≡ true) (λ x. Bit (f (index x))) (λ x e. bit-cell (f (index x)) e)
      (cell-arguments d as' index args (is_cell booleans) f (and-left (every_cell as' (is_cell booleans) f) true p.fit)) in
      let s = chosen-there xs (λ x. f (index x)) bits in
      let o = only-child r c whole (f ∷ []) inner p.js p.vss p.inside p.values in
      let places : p.js ≡ map index s.0 =
      let z : Some p.js ≡ Some (map index s.0) = sym p.used ∙ ap (λ l. chosen l f) args.places ∙ chosen-map index f xs ∙ ap (option_map (map index)) s.1 in cc in
      let values = sym (each_of-under index (λ j. value_of_cells r c (behind j (inner_cells inner))) s.0) ∙ ap (λ l. each_of l (λ j. value_of_cells r c (behind j (inner_cells inner)))) (sym places) ∙ o.values in
      record {
        parts = p;
        bits = bits;
        ys = s.0;
        found = s.1;
        only = o;
        places = places;
        values = values;
        long = values-length (value_there inner) s.0 o.vs values;
        value = value-of-parts whole child (f ∷ []) inner p ∙ ap (λ vss. option_map (λ ys. function_with ys (only_child vss)) (chosen xs (λ x. f (index x)))) o.only
            ∙ ap (option_map (λ ys. function_with ys o.vs)) s.1;
        attributes =
            ap (λ q. is_some_and (option_map (λ ys. function_with ys o.vs) q) (λ v. function_attributes_hold ks d c (items_of v))) (sym s.1)
            ∙ ap (λ vss. is_some_and (option_map (λ ys. function_with ys (only_child vss)) (chosen xs (λ x. f (index x)))) (λ v. function_attributes_hold ks d c (items_of v))) (sym o.only) ∙ p.attributes;
      }

  -- the cells at an argument: canonical where its flag is true, else out of use
  abbrev used : Grid → Value → Bool
  used f x = is_used where_flagged (f ∷ []) (index x)

  inside-used : (f : Grid) (inner : Cells) → child_is_canonical whole (f ∷ []) (axes_of r c) (canonical r c) (inner_cells inner) ≡ true → AllOf xs (λ x. not (used f x) || canonical r c (behind (index x) (inner_cells inner)) ≡ true)
  inside-used f inner h =
      let a : Bool = list_all (λ js. not (is_used where_flagged (f ∷ []) js) || canonical r c (behind js (inner_cells inner))) (lists_of as') in
      let l : Bool = nat_eq (length (inner_cells inner)) (length (axes_of r c)) in
      let z : Bool = list_all (λ js. is_used where_flagged (f ∷ []) js || are_zero (axes_of r c) (behind js (inner_cells inner))) (lists_of as') in
      list-arguments (λ js. not (is_used where_flagged (f ∷ []) js) || canonical r c (behind js (inner_cells inner))) (and-right l a (and-left (l && a) true (and-left (l && a && true) z h)))

  outside-used : (f : Grid) (inner : Cells) → child_is_canonical whole (f ∷ []) (axes_of r c) (canonical r c) (inner_cells inner) ≡ true → AllOf xs (λ x. used f x || are_zero (axes_of r c) (behind (index x) (inner_cells inner)) ≡ true)
  outside-used f inner h =
      let a : Bool = list_all (λ js. not (is_used where_flagged (f ∷ []) js) || canonical r c (behind js (inner_cells inner))) (lists_of as') in
      let l : Bool = nat_eq (length (inner_cells inner)) (length (axes_of r c)) in
      let z : Bool = list_all (λ js. is_used where_flagged (f ∷ []) js || are_zero (axes_of r c) (behind js (inner_cells inner))) (lists_of as') in
      list-arguments (λ js. is_used where_flagged (f ∷ []) js || are_zero (axes_of r c) (behind js (inner_cells inner))) (and-right (l && a && true) z h)

  partial-sound : (f : Grid) (inner : Cells) → asked_of whole child (f ∷ []) inner ≡ true → (v : Value) × (value_of_layer whole child (f ∷ []) inner ≡ Some v)
  partial-sound f inner h = let x = partial-of f inner h in let o = x.only in (function_with x.ys o.vs, x.value)

  -- the rows at arguments agree, where the flags do, and the values where they are true
  rows-agree : (f g : Grid) (inner inner' : Cells) (ys : List Value) → chosen xs (λ x. f (index x)) ≡ Some ys → AllOf ys (λ x. value_there inner x ≡ value_there inner' x) →
      (zs : List Value) → ((w : Value) → holds zs w ≡ true → holds xs w ≡ true) → AllOf zs (λ x. Bit (f (index x))) → AllOf zs (λ x. f (index x) ≡ g (index x)) →
      AllOf zs (λ x. not (used f x) || canonical r c (behind (index x) (inner_cells inner)) ≡ true) → AllOf zs (λ x. not (used g x) || canonical r c (behind (index x) (inner_cells inner')) ≡ true) →
      AllOf zs (λ x. used f x || are_zero (axes_of r c) (behind (index x) (inner_cells inner)) ≡ true) → AllOf zs (λ x. used g x || are_zero (axes_of r c) (behind (index x) (inner_cells inner')) ≡ true) →
      AllOf zs (λ x. rows (axes_of r c) (behind (index x) (inner_cells inner)) ≡ rows (axes_of r c) (behind (index x) (inner_cells inner')))
  rows-agree f g inner inner' ys q e [] inc b s i j k l = tt
  rows-agree f g inner inner' ys q e (z ∷ zs) inc b s i j k l = (go b.0, rows-agree f g inner inner' ys q e zs (λ v h. inc v (ap (λ t. same z v || t) h ∙ or-yes (same z v))) b.1 s.1 i.1 j.1 k.1 l.1)
    where
      go : Bit (f (index z)) → rows (axes_of r c) (behind (index z) (inner_cells inner)) ≡ rows (axes_of r c) (behind (index z) (inner_cells inner'))
      go (inl o) =
          let u : used f z ≡ false = ap (λ p. is_some_and p (same_int (pos 1))) o in
          let u' : used g z ≡ false = ap (λ p. is_some_and p (same_int (pos 1))) (sym s.0 ∙ o) in
          zeros-same (axes_of r c) (behind (index z) (inner_cells inner)) (behind (index z) (inner_cells inner'))
          (if-not (used f z) (are_zero (axes_of r c) (behind (index z) (inner_cells inner))) u k.0) (if-not (used g z) (are_zero (axes_of r c) (behind (index z) (inner_cells inner'))) u' l.0)
      go (inr o) =
          let u : used f z ≡ true = ap (λ p. is_some_and p (same_int (pos 1))) o in
          let u' : used g z ≡ true = ap (λ p. is_some_and p (same_int (pos 1))) (sym s.0 ∙ o) in
          let held : holds ys z ≡ true = chosen-holds xs (λ x. f (index x)) ys z q ∙ ap (λ t. t && on (f (index z))) (inc z (ap (λ t. t || holds zs z) (same-itself z))) ∙ ap on o in
          right.unique (behind (index z) (inner_cells inner)) (behind (index z) (inner_cells inner'))
          (if-so (used f z) (canonical r c (behind (index z) (inner_cells inner))) u i.0) (if-so (used g z) (canonical r c (behind (index z) (inner_cells inner'))) u' j.0)
          (of-held ys (λ x. value_there inner x ≡ value_there inner' x) z e held)

  -- Cells with flags are one for each function.
  pub partial-unique : (f g : Grid) (inner inner' : Cells) → asked_of whole child (f ∷ []) inner ≡ true → asked_of whole child (g ∷ []) inner' ≡ true →
      value_of_layer whole child (f ∷ []) inner ≡ value_of_layer whole child (g ∷ []) inner' →
      (row as' f ≡ row as' g) × (rows (axes_of_children child (c ∷ []) as') inner ≡ rows (axes_of_children child (c ∷ []) as') inner')
  partial-unique f g inner inner' h h' q =
      let x = partial-of f inner h in
      let y = partial-of g inner' h' in
      let o = x.only in
      let o' = y.only in
      let s = same-pairs x.ys y.ys o.vs o'.vs x.long y.long (sym x.value ∙ q ∙ y.value) in
      let flags = chosen-once xs x.ys (λ x. f (index x)) (λ x. g (index x)) x.found (y.found ∙ ap Some (sym s.0)) xs (λ w e. e) x.bits y.bits in
      let eqs = values-same x.ys (value_there inner) (value_there inner') o.vs x.values (ap (λ l. each_of l (value_there inner')) s.0 ∙ y.values ∙ ap Some (sym s.1)) in (
        agree-row as' f g (agree-arguments d as' index args f g flags),
        only-child-rows r c as' inner inner' o.long o'.long
            (arguments-index d as' index args (λ js. rows (axes_of r c) (behind js (inner_cells inner)) ≡ rows (axes_of r c) (behind js (inner_cells inner')))
            (rows-agree f g inner inner' x.ys x.found eqs xs (λ w e. e) x.bits flags (inside-used f inner o.inside) (inside-used g inner' o'.inside) (outside-used f inner o.inside) (outside-used g inner' o'.inside))),
      )

  -- what holds of each argument in use
  used-all : (P : Value → Type 0) (f : Grid) (inner : Cells) (ys : List Value) → chosen xs (λ x. f (index x)) ≡ Some ys → AllOf xs (λ x. not (used f x) || canonical r c (behind (index x) (inner_cells inner)) ≡ true) →
      ((x : Value) → canonical r c (behind (index x) (inner_cells inner)) ≡ true → P x) → (zs : List Value) → ((w : Value) → holds zs w ≡ true → holds ys w ≡ true) → AllOf zs P
  used-all P f inner ys q i k [] inc = tt
  used-all P f inner ys q i k (z ∷ zs) inc = (k z inside, used-all P f inner ys q i k zs (λ v h. inc v (ap (λ t. same z v || t) h ∙ or-yes (same z v))))
    where
      held : holds xs z && on (f (index z)) ≡ true
      held = sym (chosen-holds xs (λ x. f (index x)) ys z q) ∙ inc z (ap (λ t. t || holds zs z) (same-itself z))

      used-on : (o : Option ℤ) → on o ≡ true → is_some_and o (same_int (pos 1)) ≡ true
      used-on None e = cc
      used-on (Some (pos zero)) e = cc
      used-on (Some (pos (suc zero))) e = refl
      used-on (Some (pos (suc (suc n)))) e = cc
      used-on (Some (negsuc n)) e = cc

      inside : canonical r c (behind (index z) (inner_cells inner)) ≡ true
      inside = if-so (used f z) (canonical r c (behind (index z) (inner_cells inner))) (used-on (f (index z)) (and-right (holds xs z) (on (f (index z))) held))
          (of-held xs (λ x. not (used f x) || canonical r c (behind (index x) (inner_cells inner)) ≡ true) z i (and-left (holds xs z) (on (f (index z))) held))

  -- They are tidy.
  pub partial-tidies : (f : Grid) (inner : Cells) → asked_of whole child (f ∷ []) inner ≡ true →
      is_some_and (value_of_layer whole child (f ∷ []) inner) (member (functions ks d c)) && (true && true && is_some_and (places_in_use whole (f ∷ [])) (are_orderly whole child (c ∷ []) inner)) ≡ true
  partial-tidies f inner h =
      let x = partial-of f inner h in
      let o = x.only in
      let p = x.parts in
      let l = args.listed in
      let i = inside-used f inner o.inside in
      let ms = values-all x.ys (value_there inner) (member c) o.vs x.values
      (used-all (λ y. (v : Value) → value_there inner y ≡ Some v → member c v ≡ true) f inner x.ys x.found i
      (λ y k v e. ap (λ u. is_some_and u (member c)) (sym e) ∙ and-left (is_some_and (value_there inner y) (member c)) (is_orderly r c (behind (index y) (inner_cells inner))) (right.tidies (behind (index y) (inner_cells inner)) k)) x.ys (λ w e. e)) in
      let orderly = used-all (λ y. is_orderly r c (behind (index y) (inner_cells inner)) ≡ true) f inner x.ys x.found i
      (λ y k. and-right (is_some_and (value_there inner y) (member c)) (is_orderly r c (behind (index y) (inner_cells inner))) (right.tidies (behind (index y) (inner_cells inner)) k)) x.ys (λ w e. e) in
      and-both (is_some_and (value_of_layer whole child (f ∷ []) inner) (member (functions ks d c))) (is_some_and (places_in_use whole (f ∷ [])) (are_orderly whole child (c ∷ []) inner))
      (ap (λ u. is_some_and u (member (functions ks d c))) x.value
      ∙ function-member ks d c x.ys o.vs (chosen-rises xs (λ x. f (index x)) x.ys x.found l.sorted) (chosen-all (member d) xs (λ x. f (index x)) x.ys x.found l.members) ms x.attributes)
      (ap (λ u. is_some_and u (are_orderly whole child (c ∷ []) inner)) p.used
      ∙ and-both (list_all (λ j. is_orderly r c (behind j (inner_cells inner))) p.js && true) true
      (and-both (list_all (λ j. is_orderly r c (behind j (inner_cells inner))) p.js) true
      (ap (list_all (λ j. is_orderly r c (behind j (inner_cells inner)))) x.places
      ∙ list-of-all (map index x.ys) (λ j. is_orderly r c (behind j (inner_cells inner))) (all-of-under index x.ys (λ j. is_orderly r c (behind j (inner_cells inner)) ≡ true) orderly)) refl) refl)

-- ---- the two kinds

module _ (r : Repr) (ks : List Attribute) (d c : Domain) (as' : Axes) (index : Value → List ℤ) (args : Arguments d as' index) (right : Right r c) where
  -- The whole cells stand for a function.
  pub of-partial-sound : (x : Cells) → asked_of (partial_layer ks as' index d c) (more_reprs r no_reprs) (take 1 x) (drop 1 x) ≡ true →
      (v : Value) × (value_of_layer (partial_layer ks as' index d c) (more_reprs r no_reprs) (take 1 x) (drop 1 x) ≡ Some v)
  of-partial-sound [] h = cc
  of-partial-sound (f ∷ fs) h = partial-sound r ks d c as' index args right f fs h

  -- They are one for each function.
  pub of-partial-unique : (x y : Cells) → asked_of (partial_layer ks as' index d c) (more_reprs r no_reprs) (take 1 x) (drop 1 x) ≡ true →
      asked_of (partial_layer ks as' index d c) (more_reprs r no_reprs) (take 1 y) (drop 1 y) ≡ true →
      value_of_layer (partial_layer ks as' index d c) (more_reprs r no_reprs) (take 1 x) (drop 1 x) ≡ value_of_layer (partial_layer ks as' index d c) (more_reprs r no_reprs) (take 1 y) (drop 1 y) →
      rows (as' ∷ axes_of_children (more_reprs r no_reprs) (c ∷ []) as') x ≡ rows (as' ∷ axes_of_children (more_reprs r no_reprs) (c ∷ []) as') y
  of-partial-unique [] y h h' q = cc
  of-partial-unique (f ∷ fs) [] h h' q = cc
  of-partial-unique (f ∷ fs) (g ∷ gs) h h' q =
      let u = partial-unique r ks d c as' index args right f g fs gs h h' q in
      ap (λ l. l ∷ rows (axes_of_children (more_reprs r no_reprs) (c ∷ []) as') fs) u.0 ∙ ap (λ l. row as' g ∷ l) u.1

  -- They are tidy.
  pub of-partial-tidies : (x : Cells) → asked_of (partial_layer ks as' index d c) (more_reprs r no_reprs) (take 1 x) (drop 1 x) ≡ true →
      is_some_and (value_of_layer (partial_layer ks as' index d c) (more_reprs r no_reprs) (take 1 x) (drop 1 x)) (member (functions ks d c)) &&
      (true && true && is_some_and (places_in_use (partial_layer ks as' index d c) (take 1 x)) (are_orderly (partial_layer ks as' index d c) (more_reprs r no_reprs) (c ∷ []) (drop 1 x))) ≡ true
  of-partial-tidies [] h = cc
  of-partial-tidies (f ∷ fs) h = partial-tidies r ks d c as' index args right f fs h

-- Canonical cells of functions from an atom, with flags.
pub function-1d-partial-right : (r : Repr) (ks : List Attribute) (d c : Domain) → Listed d → Right r c → Right (repr ReprKind.Function1DPartial (more_reprs r no_reprs)) (functions ks d c)
function-1d-partial-right r ks d c l right = record {
  sound = λ x h. of-partial-sound r ks d c (codes_of d ∷ []) (λ x. code x ∷ []) (atom-arguments d l) right x h;
  unique = λ x y h h' q. ap (λ a. rows a x) (axes-of-layer (partial_layer ks (codes_of d ∷ []) (λ x. code x ∷ []) d c) (more_reprs r no_reprs))
      ∙ of-partial-unique r ks d c (codes_of d ∷ []) (λ x. code x ∷ []) (atom-arguments d l) right x y h h' q
      ∙ sym (ap (λ a. rows a y) (axes-of-layer (partial_layer ks (codes_of d ∷ []) (λ x. code x ∷ []) d c) (more_reprs r no_reprs)));
  tidies = λ x h. of-partial-tidies r ks d c (codes_of d ∷ []) (λ x. code x ∷ []) (atom-arguments d l) right x h;
}

-- Canonical cells of functions from tuples of atoms, with flags.
pub function-nd-partial-right : (r : Repr) (ks : List Attribute) (ds : Domains) (c : Domain) → AllListed ds → Right r c → Right (repr ReprKind.FunctionNDPartial (more_reprs r no_reprs)) (functions ks (tuples ds) c)
function-nd-partial-right r ks ds c l right = record {
  sound = λ x h. of-partial-sound r ks (tuples ds) c (map codes_of (domain_list ds)) place_of (tuple-arguments ds l) right x h;
  unique = λ x y h h' q. ap (λ a. rows a x) (axes-of-layer (partial_layer ks (map codes_of (domain_list ds)) place_of (tuples ds) c) (more_reprs r no_reprs))
      ∙ of-partial-unique r ks (tuples ds) c (map codes_of (domain_list ds)) place_of (tuple-arguments ds l) right x y h h' q
      ∙ sym (ap (λ a. rows a y) (axes-of-layer (partial_layer ks (map codes_of (domain_list ds)) place_of (tuples ds) c) (more_reprs r no_reprs)));
  tidies = λ x h. of-partial-tidies r ks (tuples ds) c (map codes_of (domain_list ds)) place_of (tuple-arguments ds l) right x h;
}
