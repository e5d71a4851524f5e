-- The value of a view of a matrix, and of its rows: its indices are the members of its index domain, with an item each.
use Rattle.std.proofs.Common.{◌≡◌, refl, sym, ap, ◌∙◌, subst, ℕ, zero, suc, Bool, true, false, ◌||◌, if◌then◌else◌, List, [], ◌∷◌, length, drop, ℤ, Option, Some, None, option_map, is_some}
use Rattle.ess_semantics.specs.declared.words.ReprKind.{ReprKind}
use Rattle.ess_semantics.specs.Lists.{and_then, each_of}
use Rattle.ess_semantics.specs.Values.{Text, Value, Values, nil, cons, of_list, matrix}
use Rattle.ess_semantics.specs.Order.{same}
use Rattle.ess_semantics.specs.Collections.{holds}
use Rattle.ess_semantics.specs.Trees.{Repr, repr, Exs, seen_ex, Dom, Doms, matrix_dom}
use Rattle.ess_semantics.specs.Operators.{item_at, at_index}
use Rattle.ess_semantics.specs.Domains.{Domain, Domains, more_domains, matrices, member_list}
use Rattle.ess_semantics.specs.Layers.{Layer}
use Rattle.ess_semantics.specs.Cells.{Cells}
use Rattle.ess_semantics.specs.ScalarLayers.{in_lists_of, count_of_places, nested_of, matrix_layer}
use Rattle.ess_semantics.specs.Representations.{layer, own_part, child_part, places_in_use, value_of_cells, values_of_children}
use Rattle.ess_semantics.specs.Tables.{Tables}
use Rattle.ess_semantics.specs.Meaning.{Env, meaning, meanings, domain_of, domains_of, seen_in, tables_in, indices}

-- A nested matrix over these index domains.
abbrev pub IsNested : Domains → Value → Type 0
IsNested ds w = (vs : List Value) × (nested_of ds vs ≡ Some w)

-- Each of the values is one.
abbrev EachNested : Domains → List Value → Type 0
EachNested ds [] = Unit {0}
EachNested ds (y ∷ ys) = IsNested ds y × EachNested ds ys

-- A matrix with these indices and as many items.
abbrev pub HasAxis : Domain → Domains → Value → Type 0
HasAxis d ds w = (ys : List Value) × (length ys ≡ length (member_list d)) × (w ≡ matrix (of_list (member_list d)) (of_list ys)) × EachNested ds ys

each-nested : (ds : Domains) (xs : List (List Value)) (ys : List Value) → each_of xs (nested_of ds) ≡ Some ys → (length ys ≡ length xs) × EachNested ds ys
each-nested ds [] ys e = let q : ys ≡ [] = ap (λ o. elim o [ None ↦ ys | Some z ↦ z ]) (sym e) in (ap length q, subst (EachNested ds) (sym q) tt)
each-nested ds (x ∷ xs) ys e = go (nested_of ds x) (each_of xs (nested_of ds)) refl e (λ zs q. each-nested ds xs zs q)
  where
    go : (o : Option Value) (r : Option (List Value)) → nested_of ds x ≡ o → and_then o (λ y. option_map (λ zs. y ∷ zs) r) ≡ Some ys →
        ((zs : List Value) → r ≡ Some zs → (length zs ≡ length xs) × EachNested ds zs) → (length ys ≡ suc (length xs)) × EachNested ds ys
    go None r p e h = cc
    go (Some y) None p e h = cc
    go (Some y) (Some zs) p e h =
        let q : ys ≡ y ∷ zs = ap (λ o. elim o [ None ↦ ys | Some z ↦ z ]) (sym e) in
        (ap length q ∙ ap suc (h zs refl).0, subst (EachNested ds) (sym q) ((x, p), (h zs refl).1))

lists-length : (k n : ℕ) (xs : List Value) → length (in_lists_of k n xs) ≡ k
lists-length zero n xs = refl
lists-length (suc k) n xs = ap suc (lists-length k n (drop n xs))

-- A nested matrix has its first axis, and its items are nested over the others.
pub nested-axis : (d : Domain) (ds : Domains) (w : Value) → IsNested (more_domains d ds) w → HasAxis d ds w
nested-axis d ds w h = go (each_of (in_lists_of (length (member_list d)) (count_of_places ds) h.0) (nested_of ds)) refl h.1
  where
    go : (o : Option (List Value)) → each_of (in_lists_of (length (member_list d)) (count_of_places ds) h.0) (nested_of ds) ≡ o → option_map (λ ys. matrix (of_list (member_list d)) (of_list ys)) o ≡ Some w → HasAxis d ds w
    go None p q = cc
    go (Some ys) p q =
        let r = each-nested ds (in_lists_of (length (member_list d)) (count_of_places ds) h.0) ys p in
        (ys, r.0 ∙ lists-length (length (member_list d)) (count_of_places ds) h.0, ap (λ o. elim o [ None ↦ w | Some z ↦ z ]) (sym q), r.1)

-- Only one representation is one of matrices.
matrix-layer-only : (k : ReprKind) (is : Domains) (d : Domain) (l : Layer) → layer k (matrices is d) ≡ Some l → l ≡ matrix_layer is d
matrix-layer-only ReprKind.Matrix is d l e = ap (λ o. elim o [ None ↦ l | Some z ↦ z ]) (sym e)
matrix-layer-only k is d l e = cc

cells-nested : (r : Repr) (ds : Domains) (x : Domain) (c : Cells) (w : Value) → value_of_cells r (matrices ds x) c ≡ Some w → IsNested ds w
cells-nested (repr k rs) ds x c w e = go (layer k (matrices ds x)) refl e
  where
    last : (j : Option (List (List ℤ))) → and_then j (λ js. and_then (values_of_children rs (matrix_layer ds x).children (child_part k c) js) ((matrix_layer ds x).built (own_part k c))) ≡ Some w → IsNested ds w
    last None e = cc
    last (Some js) e = inner (values_of_children rs (matrix_layer ds x).children (child_part k c) js) e
      where
        inner : (o : Option (List (List Value))) → and_then o ((matrix_layer ds x).built (own_part k c)) ≡ Some w → IsNested ds w
        inner None e = cc
        inner (Some vss) e = (_, e)

    go : (o : Option Layer) → layer k (matrices ds x) ≡ o →
        and_then o (λ l. and_then (places_in_use l (own_part k c)) (λ js. and_then (values_of_children rs l.children (child_part k c) js) (l.built (own_part k c)))) ≡ Some w → IsNested ds w
    go None p q = cc
    go (Some l) p q = last (places_in_use (matrix_layer ds x) (own_part k c))
        (subst (λ z. and_then (places_in_use z (own_part k c)) (λ js. and_then (values_of_children rs z.children (child_part k c) js) (z.built (own_part k c))) ≡ Some w) (matrix-layer-only k ds x l p) q)

-- A view of a matrix that has a value.
pub view-nested : (r : Repr) (ds : Doms) (e : Dom) (ns : List Text) (es : Exs) (env : Env) (w : Value) → meaning (seen_ex r (matrix_dom ds e) ns es) env ≡ Some w → (as' : Domains) × (domains_of ds env ≡ Some as') × IsNested as' w
view-nested r ds e ns es env w q = go (domains_of ds env) (domain_of e env) (tables_in env.cells ns) (indices (meanings es env)) refl q
  where
    go : (p : Option Domains) (x : Option Domain) (c : Option Tables) (i : Option (List ℤ)) → domains_of ds env ≡ p →
        seen_in r (and_then p (λ js. option_map (matrices js) x)) c i ≡ Some w → (as' : Domains) × (domains_of ds env ≡ Some as') × IsNested as' w
    go None x c i z q = cc
    go (Some bs) None c i z q = cc
    go (Some bs) (Some b) None i z q = cc
    go (Some bs) (Some b) (Some t) None z q = cc
    go (Some bs) (Some b) (Some t) (Some j) z q = (bs, z, cells-nested r bs b _ w q)

-- ---- items at indices

-- There is an item at the members alone.
pub items-inside : (is : List Value) (xs : Values) (z : Value) → is_some (item_at (of_list is) xs z) ≡ true → holds is z ≡ true
items-inside [] xs z e = cc
items-inside (i ∷ is) nil z e = cc
items-inside (i ∷ is) (cons x xs) z e = go (same i z) e (items-inside is xs z)
  where
    go : (b : Bool) → is_some (if b then Some x else item_at (of_list is) xs z) ≡ true → (is_some (item_at (of_list is) xs z) ≡ true → holds is z ≡ true) → b || holds is z ≡ true
    go true e h = refl
    go false e h = h e

-- An index with an item is one of the axis.
pub axis-inside : (d : Domain) (ds : Domains) (w z : Value) → HasAxis d ds w → is_some (at_index w z) ≡ true → holds (member_list d) z ≡ true
axis-inside d ds w z h e = items-inside (member_list d) (of_list h.0) z (ap (λ v. is_some (at_index v z)) (sym h.2) ∙ e)

item-nested : (ds : Domains) (is ys : List Value) (z u : Value) → EachNested ds ys → item_at (of_list is) (of_list ys) z ≡ Some u → IsNested ds u
item-nested ds [] ys z u h e = cc
item-nested ds (i ∷ is) [] z u h e = cc
item-nested ds (i ∷ is) (y ∷ ys) z u h e = go (same i z) e (item-nested ds is ys z u h.1)
  where
    go : (b : Bool) → (if b then Some y else item_at (of_list is) (of_list ys) z) ≡ Some u → (item_at (of_list is) (of_list ys) z ≡ Some u → IsNested ds u) → IsNested ds u
    go true e k = subst (IsNested ds) (ap (λ o. elim o [ None ↦ y | Some v ↦ v ]) e) h.0
    go false e k = k e

-- The item at an index is nested over the other index domains.
pub axis-item : (d : Domain) (ds : Domains) (w z u : Value) → HasAxis d ds w → at_index w z ≡ Some u → IsNested ds u
axis-item d ds w z u h e = item-nested ds (member_list d) h.0 z u h.3 (ap (λ v. at_index v z) (sym h.2) ∙ e)
