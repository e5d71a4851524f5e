-- What is shown of the canonical cells of a representation, and the parts of a canonical layer.
use Rattle.std.proofs.Common.{◌≡◌, refl, sym, ap, ◌∙◌, ℕ, zero, suc, Bool, true, ◌&&◌, List, [], ◌∷◌, ◌++◌, map, take, drop, length, ℤ, Option, Some, None, option_map, nat_eq}
use Rattle.std.proofs.lemmas.Bool.{eqb-true}
use Rattle.ess_semantics.specs.Lists.{and_then, each_of, is_some_and}
use Rattle.ess_semantics.specs.Values.{Value}
use Rattle.ess_semantics.specs.Trees.{Repr, Reprs, no_reprs, more_reprs}
use Rattle.ess_semantics.specs.Domains.{Domain}
use Rattle.ess_semantics.specs.Cells.{Cells, Axes, behind, rows}
use Rattle.ess_semantics.specs.Layers.{Layer}
use Rattle.ess_semantics.specs.Representations.{width, places_in_use, value_of_cells, values_of_children}
use Rattle.ess_semantics.specs.Declarations.{axes_of}
use Rattle.ess_semantics.specs.CanonicalTest.{own_cells_fit, in_use_first, child_is_canonical, children_are_canonical, canonical}
use Rattle.ess_semantics.proofs.Tests.{and-left, and-right, some-and}
use Rattle.ess_repr_laws.proofs.RowsOfCells.{EachIndex, axes_of_children, rows-append, rows-under}

-- ---- the parts of a layer

-- what is asked of a layer whose own cells and whose children's cells are these
abbrev pub asked_of : Layer → Reprs → Cells → Cells → Bool
asked_of l rs own inner =
    own_cells_fit l.own own && in_use_first l own && children_are_canonical l own rs l.children inner &&
    is_some_and (and_then (places_in_use l own) (values_of_children rs l.children inner)) (l.is_canonical own)

-- What is asked of a layer, part by part.
pub record Parts (l : Layer) (rs : Reprs) (own inner : Cells) : Type 0 where
  pub fit : own_cells_fit l.own own ≡ true
  pub first : in_use_first l own ≡ true
  pub inside : children_are_canonical l own rs l.children inner ≡ true
  pub js : List (List ℤ)
  pub used : places_in_use l own ≡ Some js
  pub vss : List (List Value)
  pub values : values_of_children rs l.children inner js ≡ Some vss
  pub attributes : l.is_canonical own vss ≡ true

-- Where it is asked, each part holds.
pub parts-of : (l : Layer) (rs : Reprs) (own inner : Cells) → asked_of l rs own inner ≡ true → Parts l rs own inner
parts-of l rs own inner e =
    let a : Bool = own_cells_fit l.own own in
    let b : Bool = in_use_first l own in
    let c : Bool = children_are_canonical l own rs l.children inner in
    let x : Bool = is_some_and (and_then (places_in_use l own) (values_of_children rs l.children inner)) (l.is_canonical own) in
    let abc = and-left (a && b && c) x e in
    let s = some-and (and_then (places_in_use l own) (values_of_children rs l.children inner)) (l.is_canonical own) (and-right (a && b && c) x e) in
    let u = placed (places_in_use l own) refl s.0 s.1 in
    record {
      fit = and-left a b (and-left (a && b) c abc);
      first = and-right a b (and-left (a && b) c abc);
      inside = and-right (a && b) c abc;
      js = u.0;
      used = u.1;
      vss = s.0;
      values = u.2;
      attributes = s.2;
    }
  where
    placed : (o : Option (List (List ℤ))) → places_in_use l own ≡ o → (vss : List (List Value)) → and_then o (values_of_children rs l.children inner) ≡ Some vss →
        (js : List (List ℤ)) × (places_in_use l own ≡ Some js) × (values_of_children rs l.children inner js ≡ Some vss)
    placed None q vss e = cc
    placed (Some js) q vss e = (js, q, e)

-- the value that a layer's cells stand for
abbrev pub value_of_layer : Layer → Reprs → Cells → Cells → Option Value
value_of_layer l rs own inner = and_then (places_in_use l own) (λ js. and_then (values_of_children rs l.children inner js) (l.built own))

-- The value that the layer builds.
pub value-of-parts : (l : Layer) (rs : Reprs) (own inner : Cells) (p : Parts l rs own inner) → value_of_layer l rs own inner ≡ l.built own p.vss
value-of-parts l rs own inner p =
    ap (λ o. and_then o (λ js. and_then (values_of_children rs l.children inner js) (l.built own))) p.used ∙ ap (λ o. and_then o (l.built own)) p.values

-- ---- an only child

-- The values of an only child: there, the only list, and canonical cells at each place in use.
pub record OnlyChild (r : Repr) (e : Domain) (l : Layer) (own inner : Cells) (js : List (List ℤ)) (vss : List (List Value)) : Type 0 where
  pub vs : List Value
  pub values : each_of js (λ j. value_of_cells r e (behind j (take (width r) inner))) ≡ Some vs
  pub only : vss ≡ vs ∷ []
  pub inside : child_is_canonical l own (axes_of r e) (canonical r e) (take (width r) inner) ≡ true
  pub long : length (take (width r) inner) ≡ length (axes_of r e)

-- the length of a child's cells
pub child-long : (l : Layer) (own : Cells) (ass : List Axes) (p : Cells → Bool) (c : Cells) → child_is_canonical l own ass p c ≡ true → length c ≡ length ass
child-long l own ass p c e = eqb-true (length c) (length ass) (and-left (nat_eq (length c) (length ass)) _ (and-left _ _ (and-left _ _ e)))

-- An only child has such values.
pub only-child : (r : Repr) (e : Domain) (l : Layer) (own inner : Cells) (js : List (List ℤ)) (vss : List (List Value)) →
    children_are_canonical l own (more_reprs r no_reprs) (e ∷ []) inner ≡ true → values_of_children (more_reprs r no_reprs) (e ∷ []) inner js ≡ Some vss → OnlyChild r e l own inner js vss
only-child r e l own inner js vss h q =
    let x = and-left (child_is_canonical l own (axes_of r e) (canonical r e) (take (width r) inner)) _ h in
    go (each_of js (λ j. value_of_cells r e (behind j (take (width r) inner)))) refl q x (child-long l own (axes_of r e) (canonical r e) (take (width r) inner) x)
  where
    go : (o : Option (List Value)) → each_of js (λ j. value_of_cells r e (behind j (take (width r) inner))) ≡ o → and_then o (λ vs. option_map (λ vss. vs ∷ vss) (Some [])) ≡ Some vss →
        child_is_canonical l own (axes_of r e) (canonical r e) (take (width r) inner) ≡ true → length (take (width r) inner) ≡ length (axes_of r e) → OnlyChild r e l own inner js vss
    go None p q x y = cc
    go (Some vs) p q x y = record { vs = vs; values = p; only = sym (let z : vs ∷ [] ≡ vss = cc in z); inside = x; long = y }

-- ---- rows of children

take-same : (n m : ℕ) (c : Cells) → length (take n c) ≡ m → take m c ≡ take n c
take-same zero zero c e = refl
take-same zero (suc m) c e = cc
take-same (suc n) zero [] e = refl
take-same (suc n) (suc m) [] e = cc
take-same (suc n) zero (f ∷ fs) e = cc
take-same (suc n) (suc m) (f ∷ fs) e = let e' : length (take n fs) ≡ m = cc in ap (λ l. f ∷ l) (take-same n m fs e')

drop-same : (n m : ℕ) (c : Cells) → length (take n c) ≡ m → drop m c ≡ drop n c
drop-same zero zero c e = refl
drop-same zero (suc m) c e = cc
drop-same (suc n) zero [] e = refl
drop-same (suc n) (suc m) [] e = cc
drop-same (suc n) zero (f ∷ fs) e = cc
drop-same (suc n) (suc m) (f ∷ fs) e = let e' : length (take n fs) ≡ m = cc in drop-same n m fs e'

map-length : {A B : Type 0} (f : A → B) (xs : List A) → length (map f xs) ≡ length xs
map-length f [] = refl
map-length f (x ∷ xs) = ap suc (map-length f xs)

-- The rows of a first child and of the others.
pub rows-of-child : (r : Repr) (e : Domain) (rs : Reprs) (ds : List Domain) (bs : Axes) (inner : Cells) → length (take (width r) inner) ≡ length (axes_of r e) →
    rows (axes_of_children (more_reprs r rs) (e ∷ ds) bs) inner ≡ rows (map (λ as'. bs ++ as') (axes_of r e)) (take (width r) inner) ++ rows (axes_of_children rs ds bs) (drop (width r) inner)
rows-of-child r e rs ds bs inner h =
    let xs : List Axes = map (λ as'. bs ++ as') (axes_of r e) in
    let l : length (take (width r) inner) ≡ length xs = h ∙ sym (map-length (λ as'. bs ++ as') (axes_of r e)) in
    rows-append xs (axes_of_children rs ds bs) inner
    ∙ ap (λ c. rows xs c ++ rows (axes_of_children rs ds bs) (drop (length xs) inner)) (take-same (width r) (length xs) inner l)
    ∙ ap (λ c. rows xs (take (width r) inner) ++ rows (axes_of_children rs ds bs) c) (drop-same (width r) (length xs) inner l)

-- Where an only child's rows agree behind each index list, so do its rows under the axes.
pub only-child-rows : (r : Repr) (e : Domain) (bs : Axes) (inner inner' : Cells) → length (take (width r) inner) ≡ length (axes_of r e) → length (take (width r) inner') ≡ length (axes_of r e) →
    EachIndex bs (λ js. rows (axes_of r e) (behind js (take (width r) inner)) ≡ rows (axes_of r e) (behind js (take (width r) inner'))) →
    rows (axes_of_children (more_reprs r no_reprs) (e ∷ []) bs) inner ≡ rows (axes_of_children (more_reprs r no_reprs) (e ∷ []) bs) inner'
only-child-rows r e bs inner inner' l l' h =
    rows-of-child r e no_reprs [] bs inner l ∙ ap (λ x. x ++ rows [] (drop (width r) inner)) (rows-under bs (axes_of r e) (take (width r) inner) (take (width r) inner') l l' h)
    ∙ ap (λ x. rows (map (λ as'. bs ++ as') (axes_of r e)) (take (width r) inner') ++ x) (none (drop (width r) inner) ∙ sym (none (drop (width r) inner'))) ∙ sym (rows-of-child r e no_reprs [] bs inner' l')
  where
    none : (c : Cells) → rows [] c ≡ []
    none [] = refl
    none (f ∷ fs) = refl
