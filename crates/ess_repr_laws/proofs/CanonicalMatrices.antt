-- Matrices are right over finite index domains, where their elements' representation is.
use Rattle.std.proofs.Common.{◌≡◌, refl, sym, ap, ◌∙◌, ℕ, zero, suc, ◌+◌, ◌*◌, Bool, true, ◌&&◌, List, [], ◌∷◌, ◌++◌, map, take, drop, length, Option, Some, None, option_map, is_some, IsTrue, nat_eq, arith, suc-mul, zero-mul, length-append}
use Rattle.std.proofs.lemmas.Bool.{eq-eqb}
use Rattle.std.specs.List.{list_all}
use Rattle.std.specs.Ordering.{is_eq}
use Rattle.std.proofs.lemmas.Cmp.{tied_itself}
use Rattle.ess_semantics.specs.declared.words.ReprKind.{ReprKind}
use Rattle.ess_semantics.specs.Lists.{and_then, each_of, only_of, is_some_and, list_or_none}
use Rattle.ess_semantics.specs.Values.{Value, to_list, of_list, matrix}
use Rattle.ess_semantics.specs.Trees.{Repr, Reprs, repr, no_reprs, more_reprs}
use Rattle.ess_semantics.specs.Domains.{Domain, Domains, matrices, no_domains, more_domains, domain_list, members, member_list, add_heads, lists_of}
use Rattle.ess_semantics.specs.Membership.{same_list, nested_matrix, member}
use Rattle.ess_semantics.specs.Tables.{code}
use Rattle.ess_semantics.specs.Cells.{Cells, Axes, behind, rows}
use Rattle.ess_semantics.specs.Layers.{Layer, codes_of, some_each, always_canonical, only_child}
use Rattle.ess_semantics.specs.ScalarLayers.{elements, in_lists_of, count_of_places, nested_of}
use Rattle.ess_semantics.specs.Representations.{width, value_of_cells, values_of_children}
use Rattle.ess_semantics.specs.Tidy.{are_orderly}
use Rattle.ess_repr_laws.specs.CanonicalTables.{Right}
use Rattle.ess_repr_laws.specs.Finite.{HaveLists}
use Rattle.ess_semantics.proofs.Tests.{and-left, and-right, and-both}
use Rattle.ess_semantics.proofs.Orders.{to_list-of_list, orders_total}
use Rattle.ess_repr_laws.proofs.RowsOfCells.{axes_of_children, axes-of-layer}
use Rattle.ess_repr_laws.proofs.OneForm.{values-length}
use Rattle.ess_repr_laws.proofs.CanonicalParts.{Parts, parts-of, asked_of, value_of_layer, value-of-parts}
use Rattle.ess_repr_laws.proofs.CanonicalPlaces.{all_places, children-once, children-members, children-orderly, first-child}

-- ---- lists cut into lists of n items

take-length : {A : Type 0} (n m : ℕ) (xs : List A) → length xs ≡ n + m → length (take n xs) ≡ n
take-length zero m xs e = refl
take-length (suc n) m [] e = absurd (omega arith)
take-length (suc n) m (x ∷ xs) e = ap suc (take-length n m xs (omega arith))

drop-length : {A : Type 0} (n m : ℕ) (xs : List A) → length xs ≡ n + m → length (drop n xs) ≡ m
drop-length zero m xs e = omega arith
drop-length (suc n) m [] e = absurd (omega arith)
drop-length (suc n) m (x ∷ xs) e = drop-length n m xs (omega arith)

take-drop : {A : Type 0} (n : ℕ) (xs : List A) → take n xs ++ drop n xs ≡ xs
take-drop zero xs = refl
take-drop (suc n) [] = refl
take-drop (suc n) (x ∷ xs) = ap (λ l. x ∷ l) (take-drop n xs)

-- where f has an answer for each list of n items, it has one for each part of a list of k times n items
parts-there : {B : Type 0} (f : List Value → Option B) (n : ℕ) → ((xs : List Value) → length xs ≡ n → (y : B) × (f xs ≡ Some y)) → (k : ℕ) (vs : List Value) → length vs ≡ k * n →
    (ys : List B) × (each_of (in_lists_of k n vs) f ≡ Some ys) × (length ys ≡ k)
parts-there f n h zero vs e = ([], refl, refl)
parts-there f n h (suc k) vs e =
    let l : length vs ≡ n + k * n = e ∙ (let x = suc-mul k n in omega arith) in
    let y = h (take n vs) (take-length n (k * n) vs l) in
    let r = parts-there f n h k (drop n vs) (drop-length n (k * n) vs l) in
    (y.0 ∷ r.0, ap (λ o. and_then o (λ z. option_map (λ zs. z ∷ zs) (each_of (in_lists_of k n (drop n vs)) f))) y.1 ∙ ap (option_map (λ zs. y.0 ∷ zs)) r.1, ap suc r.2)

-- where f tells lists of n items apart, its answers tell lists of k times n items apart
parts-once : {B : Type 0} (f : List Value → Option B) (n : ℕ) → ((xs xs' : List Value) (y : B) → length xs ≡ n → length xs' ≡ n → f xs ≡ Some y → f xs' ≡ Some y → xs ≡ xs') →
    (k : ℕ) (vs vs' : List Value) (ys : List B) → length vs ≡ k * n → length vs' ≡ k * n → each_of (in_lists_of k n vs) f ≡ Some ys → each_of (in_lists_of k n vs') f ≡ Some ys → vs ≡ vs'
parts-once f n h zero vs vs' ys e e' p q = none vs vs' (e ∙ zero-mul n) (e' ∙ zero-mul n)
  where
    none : (vs vs' : List Value) → length vs ≡ 0 → length vs' ≡ 0 → vs ≡ vs'
    none [] [] a b = refl
    none [] (v ∷ vs) a b = absurd (omega arith)
    none (v ∷ vs) vs' a b = absurd (omega arith)
parts-once {B = B} f n h (suc k) vs vs' ys e e' p q =
    let l : length vs ≡ n + k * n = e ∙ (let x = suc-mul k n in omega arith) in
    let l' : length vs' ≡ n + k * n = e' ∙ (let x = suc-mul k n in omega arith) in
    go (f (take n vs)) (f (take n vs')) (each_of (in_lists_of k n (drop n vs)) f) (each_of (in_lists_of k n (drop n vs')) f) refl refl refl refl p q
    (λ y a b. h (take n vs) (take n vs') y (take-length n (k * n) vs l) (take-length n (k * n) vs' l') a b)
    (λ zs a b. parts-once f n h k (drop n vs) (drop n vs') zs (drop-length n (k * n) vs l) (drop-length n (k * n) vs' l') a b)
  where
    go : (x y : Option B) (xs zs : Option (List B)) → f (take n vs) ≡ x → f (take n vs') ≡ y → each_of (in_lists_of k n (drop n vs)) f ≡ xs → each_of (in_lists_of k n (drop n vs')) f ≡ zs →
        and_then x (λ v. option_map (λ l. v ∷ l) xs) ≡ Some ys → and_then y (λ v. option_map (λ l. v ∷ l) zs) ≡ Some ys →
        ((y : B) → f (take n vs) ≡ Some y → f (take n vs') ≡ Some y → take n vs ≡ take n vs') →
        ((zs : List B) → each_of (in_lists_of k n (drop n vs)) f ≡ Some zs → each_of (in_lists_of k n (drop n vs')) f ≡ Some zs → drop n vs ≡ drop n vs') → vs ≡ vs'
    go None y xs zs a b c d p q r s = cc
    go (Some x) None xs zs a b c d p q r s = cc
    go (Some x) (Some y) None zs a b c d p q r s = cc
    go (Some x) (Some y) (Some xs) None a b c d p q r s = cc
    go (Some x) (Some y) (Some xs) (Some zs) a b c d p q r s =
        let w : Some (x ∷ xs) ≡ Some (y ∷ zs) = p ∙ sym q in
        let xy : y ≡ x = cc in let xz : zs ≡ xs = cc in
        sym (take-drop n vs) ∙ ap (λ l. l ++ drop n vs) (r x a (b ∙ ap Some xy)) ∙ ap (λ l. take n vs' ++ l) (s xs c (d ∙ ap Some xz)) ∙ take-drop n vs'

-- what f makes of items with the property g has the property g'
parts-all : {B : Type 0} (f : List Value → Option B) (g : Value → Bool) (g' : B → Bool) (n : ℕ) → ((xs : List Value) (y : B) → length xs ≡ n → list_all g xs ≡ true → f xs ≡ Some y → g' y ≡ true) →
    (k : ℕ) (vs : List Value) (ys : List B) → length vs ≡ k * n → list_all g vs ≡ true → each_of (in_lists_of k n vs) f ≡ Some ys → list_all g' ys ≡ true
parts-all f g g' n h zero vs ys e a p = let z : [] ≡ ys = cc in ap (list_all g') (sym z)
parts-all {B = B} f g g' n h (suc k) vs ys e a p =
    let l : length vs ≡ n + k * n = e ∙ (let x = suc-mul k n in omega arith) in
    go (f (take n vs)) (each_of (in_lists_of k n (drop n vs)) f) refl refl p
    (λ y q. h (take n vs) y (take-length n (k * n) vs l) (all-take n vs a) q) (λ zs q. parts-all f g g' n h k (drop n vs) zs (drop-length n (k * n) vs l) (all-drop n vs a) q)
  where
    all-take : (n : ℕ) (vs : List Value) → list_all g vs ≡ true → list_all g (take n vs) ≡ true
    all-take zero vs a = refl
    all-take (suc n) [] a = refl
    all-take (suc n) (v ∷ vs) a = and-both (g v) (list_all g (take n vs)) (and-left (g v) (list_all g vs) a) (all-take n vs (and-right (g v) (list_all g vs) a))

    all-drop : (n : ℕ) (vs : List Value) → list_all g vs ≡ true → list_all g (drop n vs) ≡ true
    all-drop zero vs a = a
    all-drop (suc n) [] a = refl
    all-drop (suc n) (v ∷ vs) a = all-drop n vs (and-right (g v) (list_all g vs) a)

    go : (x : Option B) (xs : Option (List B)) → f (take n vs) ≡ x → each_of (in_lists_of k n (drop n vs)) f ≡ xs → and_then x (λ v. option_map (λ l. v ∷ l) xs) ≡ Some ys →
        ((y : B) → f (take n vs) ≡ Some y → g' y ≡ true) → ((zs : List B) → each_of (in_lists_of k n (drop n vs)) f ≡ Some zs → list_all g' zs ≡ true) → list_all g' ys ≡ true
    go None xs a b p r s = cc
    go (Some x) None a b p r s = cc
    go (Some x) (Some xs) a b p r s = let w : x ∷ xs ≡ ys = cc in ap (list_all g') (sym w) ∙ and-both (g' x) (list_all g' xs) (r x a) (s xs b)

-- ---- nested matrices

nested-there : (is : Domains) (vs : List Value) → length vs ≡ count_of_places is → (v : Value) × (nested_of is vs ≡ Some v)
nested-there no_domains [] e = absurd (omega arith)
nested-there no_domains (v ∷ []) e = (v, refl)
nested-there no_domains (v ∷ w ∷ vs) e = absurd (omega arith)
nested-there (more_domains d ds) vs e =
    let r = parts-there (nested_of ds) (count_of_places ds) (nested-there ds) (length (member_list d)) vs e in
    (matrix (of_list (member_list d)) (of_list r.0), ap (option_map (λ ys. matrix (of_list (member_list d)) (of_list ys))) r.1)

-- the items of a nested matrix
nested-items : (d : Domain) (ds : Domains) (vs : List Value) (v : Value) → nested_of (more_domains d ds) vs ≡ Some v →
    (ys : List Value) × (each_of (in_lists_of (length (member_list d)) (count_of_places ds) vs) (nested_of ds) ≡ Some ys) × (v ≡ matrix (of_list (member_list d)) (of_list ys))
nested-items d ds vs v e = go (each_of (in_lists_of (length (member_list d)) (count_of_places ds) vs) (nested_of ds)) refl e
  where
    go : (o : Option (List Value)) → each_of (in_lists_of (length (member_list d)) (count_of_places ds) vs) (nested_of ds) ≡ o → option_map (λ ys. matrix (of_list (member_list d)) (of_list ys)) o ≡ Some v →
        (ys : List Value) × (each_of (in_lists_of (length (member_list d)) (count_of_places ds) vs) (nested_of ds) ≡ Some ys) × (v ≡ matrix (of_list (member_list d)) (of_list ys))
    go None q e = cc
    go (Some ys) q e = (ys, q, sym (let z : matrix (of_list (member_list d)) (of_list ys) ≡ v = cc in z))

nested-once : (is : Domains) (vs vs' : List Value) (v : Value) → length vs ≡ count_of_places is → length vs' ≡ count_of_places is → nested_of is vs ≡ Some v → nested_of is vs' ≡ Some v → vs ≡ vs'
nested-once no_domains vs vs' v e e' p q = only vs vs' p q
  where
    only : (vs vs' : List Value) → only_of vs ≡ Some v → only_of vs' ≡ Some v → vs ≡ vs'
    only [] vs' p q = cc
    only (x ∷ y ∷ xs) vs' p q = cc
    only (x ∷ []) [] p q = cc
    only (x ∷ []) (y ∷ z ∷ ys) p q = cc
    only (x ∷ []) (y ∷ []) p q = let a : x ≡ y = cc in ap (λ z. z ∷ []) a
nested-once (more_domains d ds) vs vs' v e e' p q =
    let r = nested-items d ds vs v p in
    let r' = nested-items d ds vs' v q in
    let m : matrix (of_list (member_list d)) (of_list r.0) ≡ matrix (of_list (member_list d)) (of_list r'.0) = sym r.2 ∙ r'.2 in
    let l : of_list r.0 ≡ of_list r'.0 = cc in
    let ys : r'.0 ≡ r.0 = sym (to_list-of_list r'.0) ∙ ap to_list (sym l) ∙ to_list-of_list r.0 in
    parts-once (nested_of ds) (count_of_places ds) (λ xs xs' y a b f g. nested-once ds xs xs' y a b f g) (length (member_list d)) vs vs' r.0 e e' r.1 (r'.1 ∙ ap Some ys)

in-lists-length : (k n : ℕ) (vs : List Value) → length (in_lists_of k n vs) ≡ k
in-lists-length zero n vs = refl
in-lists-length (suc k) n vs = ap suc (in-lists-length k n (drop n vs))

nested-member : (is : Domains) → HaveLists is → (f : Value → Bool) (vs : List Value) (v : Value) → length vs ≡ count_of_places is → list_all f vs ≡ true → nested_of is vs ≡ Some v → nested_matrix is f v ≡ true
nested-member no_domains a f vs v e h p = only vs h p
  where
    only : (vs : List Value) → list_all f vs ≡ true → only_of vs ≡ Some v → f v ≡ true
    only [] h p = cc
    only (x ∷ y ∷ xs) h p = cc
    only (x ∷ []) h p = let z : x ≡ v = cc in ap f (sym z) ∙ and-left (f x) true h
nested-member (more_domains d ds) a f vs v e h p =
    let r = nested-items d ds vs v p in
    let k = length (member_list d) in
    let inner = parts-all (nested_of ds) f (nested_matrix ds f) (count_of_places ds) (λ xs y l g q. nested-member ds a.1 f xs y l g q) k vs r.0 e h r.1 in
    let l : length r.0 ≡ k = values-length (nested_of ds) (in_lists_of k (count_of_places ds) vs) r.0 r.1 ∙ in-lists-length k (count_of_places ds) vs in
    ap (nested_matrix (more_domains d ds) f) r.2
    ∙ ap (λ xs. is_some_and (members d) (λ ms. same_list ms (to_list (of_list (member_list d)))) && nat_eq (length (to_list (of_list (member_list d)))) (length xs) && list_all (nested_matrix ds f) xs) (to_list-of_list r.0)
    ∙ ap (λ ms. is_some_and (members d) (λ vs. same_list vs ms) && nat_eq (length ms) (length r.0) && list_all (nested_matrix ds f) r.0) (to_list-of_list (member_list d))
    ∙ and-both (is_some_and (members d) (λ vs. same_list vs (member_list d)) && nat_eq k (length r.0)) (list_all (nested_matrix ds f) r.0)
    (and-both (is_some_and (members d) (λ vs. same_list vs (member_list d))) (nat_eq k (length r.0)) (listed (members d) a.0) (eq-eqb k (length r.0) (sym l))) inner
  where
    listed : (o : Option (List Value)) → IsTrue (is_some o) → is_some_and o (λ vs. same_list vs (list_or_none o)) ≡ true
    listed None h = cc
    listed (Some vs) h = ap is_eq (tied_itself orders_total (of_list vs))

-- ---- places

heads-length : {A : Type 0} (xs : List A) (ls : List (List A)) → length (add_heads xs ls) ≡ length xs * length ls
heads-length [] ls = sym (zero-mul (length ls))
heads-length (x ∷ xs) ls =
    length-append (map (λ l. x ∷ l) ls) (add_heads xs ls)
    ∙ (let a = map-long (λ l. x ∷ l) ls in let b = heads-length xs ls in let c = suc-mul (length xs) (length ls) in omega arith)
  where
    map-long : {A B : Type 0} (f : A → B) (xs : List A) → length (map f xs) ≡ length xs
    map-long f [] = refl
    map-long f (x ∷ xs) = ap suc (map-long f xs)

codes-length : (vs : List Value) → length (map code vs) ≡ length vs
codes-length [] = refl
codes-length (v ∷ vs) = ap suc (codes-length vs)

places-count : (is : Domains) → length (lists_of (map codes_of (domain_list is))) ≡ count_of_places is
places-count no_domains = refl
places-count (more_domains d ds) =
    heads-length (codes_of d) (lists_of (map codes_of (domain_list ds))) ∙ ap (λ n. n * length (lists_of (map codes_of (domain_list ds)))) (codes-length (member_list d))
    ∙ ap (λ n. length (member_list d) * n) (places-count ds)

-- ---- the layer

module _ (r : Repr) (is : Domains) (d : Domain) (finite : HaveLists is) (right : Right r d) where
  abbrev grid : Repr
  grid = repr ReprKind.Matrix (more_reprs r no_reprs)

  abbrev child : Reprs
  child = more_reprs r no_reprs

  abbrev index_axes : Axes
  index_axes = map codes_of (domain_list is)

  abbrev build : Cells → List (List Value) → Option Value
  build c vss = nested_of is (only_child vss)

  abbrev contents_of : Value → List (List (Option Value))
  contents_of v = some_each (elements is v) ∷ []

  abbrev whole : Layer
  whole = all_places (d ∷ []) index_axes build contents_of always_canonical

  record Elements (own inner : Cells) : Type 0 where
    parts : Parts whole child own inner
    vs : List Value
    values : values_of_children child (d ∷ []) inner (lists_of index_axes) ≡ Some (vs ∷ [])
    long : length vs ≡ count_of_places is
    v : Value
    built : nested_of is vs ≡ Some v
    value : value_of_layer whole child own inner ≡ Some v

  elements-of : (own inner : Cells) → asked_of whole child own inner ≡ true → Elements own inner
  elements-of own inner h =
      let p = parts-of whole child own inner h in
      let js : p.js ≡ lists_of index_axes = let z : Some p.js ≡ Some (lists_of index_axes) = sym p.used in cc in
      let q = ap (values_of_children child (d ∷ []) inner) (sym js) ∙ p.values in
      let x = first-child r d no_reprs [] inner (lists_of index_axes) p.vss q in
      let none : x.others ≡ [] = let z : Some x.others ≡ Some [] = sym x.rest in cc in
      let one : p.vss ≡ x.vs ∷ [] = x.whole ∙ ap (λ l. x.vs ∷ l) none in
      let l = values-length (λ j. value_of_cells r d (behind j (take (width r) inner))) (lists_of index_axes) x.vs x.values ∙ places-count is in
      let n = nested-there is x.vs l in
      record {
        parts = p;
        vs = x.vs;
        values = q ∙ ap Some one;
        long = l;
        v = n.0;
        built = n.1;
        value = value-of-parts whole child own inner p ∙ ap (λ vss. nested_of is (only_child vss)) one ∙ n.1;
      }

  matrix-unique : (own own' inner inner' : Cells) → asked_of whole child own inner ≡ true → asked_of whole child own' inner' ≡ true →
      value_of_layer whole child own inner ≡ value_of_layer whole child own' inner' → rows (axes_of_children child (d ∷ []) index_axes) inner ≡ rows (axes_of_children child (d ∷ []) index_axes) inner'
  matrix-unique own own' inner inner' h h' q =
      let x = elements-of own inner h in
      let y = elements-of own' inner' h' in
      let p = x.parts in
      let p' = y.parts in
      let e : Some x.v ≡ Some y.v = sym x.value ∙ q ∙ y.value in
      let v : y.v ≡ x.v = cc in
      let vs = nested-once is x.vs y.vs x.v x.long y.long x.built (y.built ∙ ap Some v) in
      children-once (d ∷ []) index_axes build contents_of always_canonical own own' child (d ∷ []) (right, tt) inner inner' (x.vs ∷ []) p.inside p'.inside x.values (y.values ∙ ap (λ l. Some (l ∷ [])) (sym vs))

  matrix-tidies : (own inner : Cells) → asked_of whole child own inner ≡ true → is_some_and (value_of_layer whole child own inner) (member (matrices is d)) && (true && true && are_orderly whole child (d ∷ []) inner (lists_of index_axes)) ≡ true
  matrix-tidies own inner h =
      let x = elements-of own inner h in
      let p = x.parts in
      let m = children-members (d ∷ []) index_axes build contents_of always_canonical own child (d ∷ []) (right, tt) inner (x.vs ∷ []) p.inside x.values in
      and-both (is_some_and (value_of_layer whole child own inner) (member (matrices is d))) (are_orderly whole child (d ∷ []) inner (lists_of index_axes))
      (ap (λ o. is_some_and o (member (matrices is d))) x.value ∙ nested-member is finite (member d) x.vs x.v x.long m.0 x.built)
      (children-orderly (d ∷ []) index_axes build contents_of always_canonical own child (d ∷ []) (right, tt) inner p.inside)

  -- Canonical cells of matrices.
  pub matrix-right : Right grid (matrices is d)
  matrix-right = record {
    sound = λ c h. let x = elements-of (take 0 c) (drop 0 c) h in (x.v, x.value);
    unique = λ c c' h h' q. ap (λ x. rows x c) (axes-of-layer whole child) ∙ matrix-unique (take 0 c) (take 0 c') (drop 0 c) (drop 0 c') h h' q ∙ sym (ap (λ x. rows x c') (axes-of-layer whole child));
    tidies = λ c h. matrix-tidies (take 0 c) (drop 0 c) h;
  }
