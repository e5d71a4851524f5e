-- Functions as a value at each argument, total or where a flag is true, are right where the codomain's representation is.
use Rattle.std.proofs.Common.{◌≡◌, refl, sym, ap, ◌∙◌, Bool, true, ◌&&◌, List, [], ◌∷◌, map, take, drop, length, ℤ, Option, Some, suc}
use Rattle.std.specs.List.{list_all}
use Rattle.ess_semantics.specs.declared.words.ReprKind.{ReprKind}
use Rattle.ess_semantics.specs.Lists.{is_some_and}
use Rattle.ess_semantics.specs.Values.{Value, to_list, of_list, from_of, to_of, itself, items_of}
use Rattle.ess_semantics.specs.Collections.{rises, value_at}
use Rattle.ess_semantics.specs.Trees.{Repr, Reprs, repr, no_reprs, more_reprs}
use Rattle.ess_semantics.specs.Domains.{Attribute, Domain, Domains, tuples, functions, domain_list, member_list, lists_of}
use Rattle.ess_semantics.specs.Attributes.{function_attributes_hold}
use Rattle.ess_semantics.specs.Membership.{is_pair, member}
use Rattle.ess_semantics.specs.Tables.{code}
use Rattle.ess_semantics.specs.Cells.{Cells, Axes, behind, rows}
use Rattle.ess_semantics.specs.Layers.{Layer, codes_of, only_child}
use Rattle.ess_semantics.specs.FunctionLayers.{with_arguments, function_with, total_layer}
use Rattle.ess_semantics.specs.Representations.{width, value_of_cells, values_of_children}
use Rattle.ess_semantics.specs.Tidy.{are_orderly}
use Rattle.ess_repr_laws.specs.CanonicalTables.{Right}
use Rattle.ess_semantics.specs.Atoms.{Listed}
use Rattle.ess_semantics.proofs.Tests.{and-both}
use Rattle.ess_semantics.proofs.Orders.{to_list-of_list}
use Rattle.ess_repr_laws.proofs.RowsOfCells.{axes-of-layer, axes_of_children}
use Rattle.ess_repr_laws.proofs.OneForm.{values-length}
use Rattle.ess_repr_laws.proofs.CanonicalParts.{Parts, parts-of, asked_of, value_of_layer, value-of-parts}
use Rattle.ess_repr_laws.proofs.CanonicalPlaces.{all_places, children-once, children-members, children-orderly, first-child}
use Rattle.ess_repr_laws.proofs.TupleMembers.{AllListed, place_of}
use Rattle.ess_repr_laws.proofs.Arguments.{Arguments, atom-arguments, tuple-arguments, arguments-once, arguments-rise, arguments-members}

map-length : {A B : Type 0} (f : A → B) (xs : List A) → length (map f xs) ≡ length xs
map-length f [] = refl
map-length f (x ∷ xs) = ap suc (map-length f xs)

-- a function with rising arguments that are members, and values that are, is one where the attributes hold
pub function-member : (ks : List Attribute) (d c : Domain) (xs vs : List Value) → rises itself xs ≡ true → list_all (member d) xs ≡ true → list_all (member c) vs ≡ true →
    function_attributes_hold ks d c (items_of (function_with xs vs)) ≡ true → member (functions ks d c) (function_with xs vs) ≡ true
function-member ks d c xs vs r m n a =
    let ps : List Value = with_arguments xs vs in
    and-both (rises from_of (to_list (of_list ps)) && list_all (λ p. is_pair p && member d (from_of p) && member c (to_of p)) (to_list (of_list ps))) (function_attributes_hold ks d c (to_list (of_list ps)))
    (ap (λ l. rises from_of l && list_all (λ p. is_pair p && member d (from_of p) && member c (to_of p)) l) (to_list-of_list ps)
    ∙ and-both (rises from_of ps) (list_all (λ p. is_pair p && member d (from_of p) && member c (to_of p)) ps) (arguments-rise xs vs r) (arguments-members d c xs vs m n)) a

-- functions with the same pairs
pub same-pairs : (xs xs' vs vs' : List Value) → length vs ≡ length xs → length vs' ≡ length xs' → Some (function_with xs vs) ≡ Some (function_with xs' vs') → (xs ≡ xs') × (vs ≡ vs')
same-pairs xs xs' vs vs' l m e =
    let f : of_list (with_arguments xs vs) ≡ of_list (with_arguments xs' vs') = cc in
    arguments-once xs xs' vs vs' l m (sym (to_list-of_list (with_arguments xs vs)) ∙ ap to_list f ∙ to_list-of_list (with_arguments xs' vs'))

module _ (r : Repr) (ks : List Attribute) (d c : Domain) (as' : Axes) (index : Value → List ℤ) (args : Arguments d as' index) (right : Right r c) where
  abbrev child : Reprs
  child = more_reprs r no_reprs

  abbrev xs : List Value
  xs = member_list d

  -- ---- total

  abbrev build : Cells → List (List Value) → Option Value
  build cs vss = Some (function_with xs (only_child vss))

  abbrev contents_of : Value → List (List (Option Value))
  contents_of v = map (value_at (items_of v)) xs ∷ []

  abbrev asked : Cells → List (List Value) → Bool
  asked cs vss = is_some_and (build cs vss) (λ v. function_attributes_hold ks d c (items_of v))

  abbrev whole : Layer
  whole = all_places (c ∷ []) as' build contents_of asked

  record Total (own inner : Cells) : Type 0 where
    parts : Parts whole child own inner
    vs : List Value
    values : values_of_children child (c ∷ []) inner (lists_of as') ≡ Some (vs ∷ [])
    long : length vs ≡ length xs
    value : value_of_layer whole child own inner ≡ Some (function_with xs vs)
    attributes : function_attributes_hold ks d c (items_of (function_with xs vs)) ≡ true

  total-of : (own inner : Cells) → asked_of whole child own inner ≡ true → Total own inner
  total-of own inner h =
      let p = parts-of whole child own inner h in
      let js : p.js ≡ lists_of as' = let z : Some p.js ≡ Some (lists_of as') = sym p.used in cc in
      let q = ap (values_of_children child (c ∷ []) inner) (sym js) ∙ p.values in
      let x = first-child r c no_reprs [] inner (lists_of as') p.vss q in
      let none : x.others ≡ [] = let z : Some x.others ≡ Some [] = sym x.rest in cc in
      let one : p.vss ≡ x.vs ∷ [] = x.whole ∙ ap (λ l. x.vs ∷ l) none in
      record {
        parts = p;
        vs = x.vs;
        values = q ∙ ap Some one;
        long = values-length (λ j. value_of_cells r c (behind j (take (width r) inner))) (lists_of as') x.vs x.values ∙ ap length args.places ∙ map-length index xs;
        value = value-of-parts whole child own inner p ∙ ap (λ vss. Some (function_with xs (only_child vss))) one;
        attributes = ap (λ vss. function_attributes_hold ks d c (items_of (function_with xs (only_child vss)))) (sym one) ∙ p.attributes;
      }

  -- Cells with a value at each argument stand for a function.
  pub total-sound : (own inner : Cells) → asked_of whole child own inner ≡ true → (v : Value) × (value_of_layer whole child own inner ≡ Some v)
  total-sound own inner h = let x = total-of own inner h in (function_with xs x.vs, x.value)

  -- They are one for each function.
  pub total-unique : (own own' inner inner' : Cells) → asked_of whole child own inner ≡ true → asked_of whole child own' inner' ≡ true →
      value_of_layer whole child own inner ≡ value_of_layer whole child own' inner' → rows (axes_of_children child (c ∷ []) as') inner ≡ rows (axes_of_children child (c ∷ []) as') inner'
  total-unique own own' inner inner' h h' q =
      let x = total-of own inner h in
      let y = total-of own' inner' h' in
      let p = x.parts in
      let p' = y.parts in
      let s = same-pairs xs xs x.vs y.vs x.long y.long (sym x.value ∙ q ∙ y.value) in
      children-once (c ∷ []) as' build contents_of asked own own' child (c ∷ []) (right, tt) inner inner' (x.vs ∷ []) p.inside p'.inside x.values (y.values ∙ ap (λ l. Some (l ∷ [])) (sym s.1))

  -- They are tidy.
  pub total-tidies : (own inner : Cells) → asked_of whole child own inner ≡ true →
      is_some_and (value_of_layer whole child own inner) (member (functions ks d c)) && (true && true && are_orderly whole child (c ∷ []) inner (lists_of as')) ≡ true
  total-tidies own inner h =
      let x = total-of own inner h in
      let p = x.parts in
      let l = args.listed in
      let m = children-members (c ∷ []) as' build contents_of asked own child (c ∷ []) (right, tt) inner (x.vs ∷ []) p.inside x.values in
      and-both (is_some_and (value_of_layer whole child own inner) (member (functions ks d c))) (are_orderly whole child (c ∷ []) inner (lists_of as'))
      (ap (λ o. is_some_and o (member (functions ks d c))) x.value ∙ function-member ks d c xs x.vs l.sorted l.members m.0 x.attributes)
      (children-orderly (c ∷ []) as' build contents_of asked own child (c ∷ []) (right, tt) inner p.inside)

-- ---- the two kinds of total functions

-- Canonical cells of total functions from an atom.
pub function-1d-right : (r : Repr) (ks : List Attribute) (d c : Domain) → Listed d → Right r c → Right (repr ReprKind.Function1D (more_reprs r no_reprs)) (functions ks d c)
function-1d-right r ks d c l right = record {
  sound = λ x h. total-sound r ks d c (codes_of d ∷ []) (λ x. code x ∷ []) (atom-arguments d l) right (take 0 x) (drop 0 x) h;
  unique = λ x x' h h' q. ap (λ a. rows a x) (axes-of-layer (total_layer ks (codes_of d ∷ []) d c) (more_reprs r no_reprs))
      ∙ total-unique r ks d c (codes_of d ∷ []) (λ x. code x ∷ []) (atom-arguments d l) right (take 0 x) (take 0 x') (drop 0 x) (drop 0 x') h h' q
      ∙ sym (ap (λ a. rows a x') (axes-of-layer (total_layer ks (codes_of d ∷ []) d c) (more_reprs r no_reprs)));
  tidies = λ x h. total-tidies r ks d c (codes_of d ∷ []) (λ x. code x ∷ []) (atom-arguments d l) right (take 0 x) (drop 0 x) h;
}

-- Canonical cells of total functions from tuples of atoms.
pub function-nd-right : (r : Repr) (ks : List Attribute) (ds : Domains) (c : Domain) → AllListed ds → Right r c → Right (repr ReprKind.FunctionND (more_reprs r no_reprs)) (functions ks (tuples ds) c)
function-nd-right r ks ds c l right = record {
  sound = λ x h. total-sound r ks (tuples ds) c (map codes_of (domain_list ds)) place_of (tuple-arguments ds l) right (take 0 x) (drop 0 x) h;
  unique = λ x x' h h' q. ap (λ a. rows a x) (axes-of-layer (total_layer ks (map codes_of (domain_list ds)) (tuples ds) c) (more_reprs r no_reprs))
      ∙ total-unique r ks (tuples ds) c (map codes_of (domain_list ds)) place_of (tuple-arguments ds l) right (take 0 x) (take 0 x') (drop 0 x) (drop 0 x') h h' q
      ∙ sym (ap (λ a. rows a x') (axes-of-layer (total_layer ks (map codes_of (domain_list ds)) (tuples ds) c) (more_reprs r no_reprs)));
  tidies = λ x h. total-tidies r ks (tuples ds) c (map codes_of (domain_list ds)) place_of (tuple-arguments ds l) right (take 0 x) (drop 0 x) h;
}
