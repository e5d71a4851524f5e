-- The structure constraint of a function whose pairs are a relation: that of the relation, and that no argument stands twice. Its
-- attributes without a number are asked of the relation's view, the sizes are the relation's own.
use Rattle.std.proofs.Common.{◌≡◌, refl, sym, ap, ◌∙◌, subst, ℕ, ◌+◌, ◌≤◌, ◌<◌, Bool, true, false, ◌&&◌, ◌||◌, not, if◌then◌else◌, List, [], ◌∷◌, map, length, pos, int_le, Option, Some, None, arith}
use Rattle.std.proofs.lemmas.Bool.{leb-true}
use Rattle.std.specs.List.{list_all}
use Rattle.ess_semantics.specs.declared.words.ReprKind.{ReprKind}
use Rattle.ess_semantics.specs.declared.words.Key.{Key}
use Rattle.ess_semantics.specs.Lists.{and_then, when, is_some_and, only_of, or_else}
use Rattle.ess_semantics.specs.Values.{Text, Value, a_function, a_relation, node, to_list, of_list, truth, from_of, to_of, itself, items_of, number}
use Rattle.ess_semantics.specs.Order.{same, same_text}
use Rattle.ess_semantics.specs.Collections.{holds, rises, no_twice, function_of}
use Rattle.ess_semantics.specs.Trees.{Mark, Repr, repr, no_reprs, more_reprs, Ex, Exs, name_ex, Dom, function_dom, ex1, unary}
use Rattle.ess_semantics.specs.Domains.{Attribute, Domain, no_domains, more_domains, functions, members, member_list, has, attribute}
use Rattle.ess_semantics.specs.Membership.{member}
use Rattle.ess_semantics.specs.Attributes.{each_holds, function_attributes_hold, function_holds, relation_attributes_hold, set_attributes_hold, size_holds, is_total}
use Rattle.ess_semantics.specs.Operators.{as_truth, value_of_node}
use Rattle.ess_semantics.specs.Sizes.{bound, child_relation, pair_sizes, size_attributes}
use Rattle.ess_semantics.specs.Cells.{Cells, behind, cells_of}
use Rattle.ess_semantics.specs.Layers.{only_child}
use Rattle.ess_semantics.specs.FunctionLayers.{function_from}
use Rattle.ess_semantics.specs.Representations.{width}
use Rattle.ess_semantics.specs.Declarations.{Declaration, declarations_below}
use Rattle.ess_semantics.specs.CanonicalTest.{canonical}
use Rattle.ess_semantics.specs.Meaning.{Env, meaning, meanings}
use Rattle.ess_semantics.proofs.Connectives.{and-means}
use Rattle.ess_semantics.proofs.Orders.{same-equal, to_list-of_list}
use Rattle.ess_semantics.proofs.Sorting.{sorted_once-itself, holds-all, all-holds}
use Rattle.ess_semantics.proofs.Tests.{and-left, and-right, and-both, both-ways}
use Rattle.ess_repr_laws.specs.Finite.{Enumerated}
use Rattle.ess_repr_laws.specs.StructureParts.{Terms, keys_ex, and_ex}
use Rattle.ess_repr_laws.specs.Structure.{shapes, structure}
use Rattle.ess_repr_laws.specs.StructureMeaning.{Bound, M, Attributes, DomainIs, EachFlag, BoolIs, PairKeyReady, has_flags_among, no_key, ArePairSizes, exact_sizes_hold, axes_members}
use Rattle.ess_repr_laws.specs.ViewParts.{view_ex, component_ex, components_differ_ex, pair_key_ex, pair_relation_dom, pairs_ex, total_size_ex}
use Rattle.ess_semantics.specs.declared.words.Op1.{Op1}
use Rattle.ess_repr_laws.proofs.Behind.{behind-length}
use Rattle.ess_repr_laws.proofs.CanonicalConversions.{is_pair_of, pairs-of-tuples, relation-member-form}
use Rattle.ess_repr_laws.proofs.CanonicalForms.{right}
use Rattle.ess_repr_laws.proofs.CanonicalPlaces.{AllOf, all-of-list, all-of-map}
use Rattle.ess_repr_laws.proofs.CellDomains.{axes-wide}
use Rattle.ess_repr_laws.proofs.CellsOfMembers.{map-long}
use Rattle.ess_repr_laws.proofs.ExactSizes.{exact-sizes, total-size-means}
use Rattle.ess_repr_laws.proofs.PairsOfViews.{Pair, pair-is, PairTo, seconds-means, all-taken-means, one-to-one-means}
use Rattle.ess_repr_laws.proofs.StructureAttributes.{relation-sizes}
use Rattle.ess_repr_laws.proofs.StructureConversions.{conversion-asked, flags-means, each-flag}
use Rattle.ess_repr_laws.proofs.StructureFits.{Fit}
use Rattle.ess_repr_laws.proofs.StructureKeys.{attributes-apart}
use Rattle.ess_repr_laws.proofs.StructureOf.{StructureOf}
use Rattle.ess_repr_laws.proofs.StructurePlaces.{placed-long}
use Rattle.ess_repr_laws.proofs.StructureTupleSets.{plain}
use Rattle.ess_repr_laws.proofs.Universes.{no-longer}
use Rattle.ess_repr_laws.proofs.ViewsOfCells.{Stands, components-differ, different-distinct, first-means, images-differ, view-stands}

-- ---- sizes

-- Sizes have numbers.
sizes-numbered : (s a b : Option ℕ) → has_flags_among no_key (size_attributes s a b) ≡ true
sizes-numbered None None None = refl
sizes-numbered None None (Some n) = refl
sizes-numbered None (Some n) None = refl
sizes-numbered None (Some n) (Some m) = refl
sizes-numbered (Some n) None None = refl
sizes-numbered (Some n) None (Some m) = refl
sizes-numbered (Some n) (Some m) None = refl
sizes-numbered (Some n) (Some m) (Some o) = refl

pairs-numbered : (ks : List Attribute) (x : Domain) → has_flags_among no_key (pair_sizes ks x) ≡ true
pairs-numbered ks x = go (has Key.Total ks) (has Key.Size ks)
  where
    go : (t s : Bool) → has_flags_among no_key (if t then size_attributes (Some (bound x)) (attribute Key.MinSize ks) (attribute Key.MaxSize ks) else size_attributes (attribute Key.Size ks) (attribute Key.MinSize ks)
        (if s then attribute Key.MaxSize ks else or_else (attribute Key.MaxSize ks) (Some (bound x)))) ≡ true
    go true s = sizes-numbered (Some (bound x)) (attribute Key.MinSize ks) (attribute Key.MaxSize ks)
    go false true = sizes-numbered (attribute Key.Size ks) (attribute Key.MinSize ks) (attribute Key.MaxSize ks)
    go false false = sizes-numbered (attribute Key.Size ks) (attribute Key.MinSize ks) (or_else (attribute Key.MaxSize ks) (Some (bound x)))

-- The relation of the pairs of a total function has at least as many pairs as there are arguments.
total-size : (ks : List Attribute) (x : Domain) (n : ℕ) → has Key.Total ks ≡ true → set_attributes_hold (pair_sizes ks x) n ≡ true → bound x ≤ n
total-size ks x n t h = go (has Key.Total ks) t h
  where
    go : (b : Bool) → b ≡ true → set_attributes_hold (if b then size_attributes (Some (bound x)) (attribute Key.MinSize ks) (attribute Key.MaxSize ks) else size_attributes (attribute Key.Size ks) (attribute Key.MinSize ks)
        (if has Key.Size ks then attribute Key.MaxSize ks else or_else (attribute Key.MaxSize ks) (Some (bound x)))) n ≡ true → bound x ≤ n
    go true e h = leb-true (bound x) n (and-left (int_le (pos (bound x)) (pos n)) (int_le (pos n) (pos (bound x))) (and-left (int_le (pos (bound x)) (pos n) && int_le (pos n) (pos (bound x))) _ h))
    go false e h = cc

-- Of so many pairs with different arguments each member is one.
all-are-arguments : (x : Domain) → Enumerated x → (ps : List Value) → no_twice from_of ps ≡ true → AllOf ps (λ p. member x (from_of p) ≡ true) → bound x ≤ length ps → list_all (λ z. holds (map from_of ps) z) (member_list x) ≡ true
all-are-arguments x e ps d m n = holds-all (λ z. holds (map from_of ps) z) (member_list x) (λ z h. go z h (holds (map from_of ps) z) refl)
  where
    inside : (qs : List Value) → AllOf qs (λ p. member x (from_of p) ≡ true) → list_all (member x) (map from_of qs) ≡ true
    inside [] a = refl
    inside (p ∷ qs) a = and-both (member x (from_of p)) (list_all (member x) (map from_of qs)) a.0 (inside qs a.1)

    go : (z : Value) → holds (member_list x) z ≡ true → (b : Bool) → holds (map from_of ps) z ≡ b → holds (map from_of ps) z ≡ true
    go z h true e' = e'
    go z h false e' =
        let a = no-longer (z ∷ map from_of ps) (member_list x) (e', different-distinct (map from_of ps) (images-differ from_of ps ∙ d)) (λ w k. listed w (same z w) refl k) in
        let b = map-long from_of ps in
        let c = e.exact in absurd (omega (arith, a, b, c, n))
      where
        listed : (w : Value) → (b : Bool) → same z w ≡ b → b || holds (map from_of ps) w ≡ true → holds (member_list x) w ≡ true
        listed w true s k = ap (holds (member_list x)) (sym (same-equal z w s)) ∙ h
        listed w false s k = e.complete w (all-holds (member x) (map from_of ps) w (inside ps m) k)

-- ---- pairs

-- The function that a list of pairs gives, and what is asked of it.
pairs-asked : (ks : List Attribute) (x y : Domain) (ps : List Value) → rises itself ps ≡ true →
    is_some_and (function_of ps) (λ v. function_attributes_hold ks x y (items_of v)) ≡ no_twice from_of ps && function_attributes_hold ks x y ps
pairs-asked ks x y ps h =
    ap (λ l. is_some_and (when (not (not (no_twice from_of l))) (node a_function (of_list l))) (λ v. function_attributes_hold ks x y (items_of v))) (sorted_once-itself ps h) ∙ go (no_twice from_of ps)
  where
    go : (b : Bool) → is_some_and (when (not (not b)) (node a_function (of_list ps))) (λ v. function_attributes_hold ks x y (items_of v)) ≡ b && function_attributes_hold ks x y ps
    go true = ap (function_attributes_hold ks x y) (to_list-of_list ps)
    go false = refl

module _ (env0 : Env) (q : ℕ → Text) (q-apart : (m l : ℕ) → l < m → same_text (q m) (q l) ≡ false) (terms : Terms) where
  abbrev N : Bound env0 q q-apart → Env
  N = M env0 q q-apart

  module _ (ms : List Mark) (es : Exs) (d c : Dom) (ks : List Attribute) (x y : Domain) (bx : BoolIs d x) (by' : BoolIs c y)
      (sizes : ArePairSizes ks x) (keys : EachFlag (PairKeyReady env0 q q-apart c ks x y) ks)
      (at : Attributes env0 q q-apart terms ms es ks) (l : ℕ) (bs : Bound env0 q q-apart) (e : Ex) (v : Value) (st : Stands env0 q q-apart l e v bs) (pairs : AllOf (items_of v) (Pair x y)) where
    abbrev ps : List Value
    ps = items_of v

    firsts-means : meaning (components_differ_ex q l d 1 e) (N bs) ≡ Some (truth (no_twice from_of ps))
    firsts-means =
        components-differ env0 q q-apart l d 1 e bs v from_of (st [] tt)
        (all-of-map ps (Pair x y) (λ p. meaning (component_ex d 1 (name_ex (q l))) (N ((l, p) ∷ bs)) ≡ Some (from_of p))
        (λ p h. ap (λ z. meaning (component_ex d 1 (name_ex (q l))) (N ((l, z) ∷ bs))) h.0 ∙ first-means env0 q q-apart l d x (from_of p) (to_of p) bs bx h.1) pairs)

    second_parts : AllOf ps (PairTo y)
    second_parts = all-of-map ps (Pair x y) (PairTo y) (λ p h. (h.0, h.2)) pairs

    key-means : no_twice from_of ps ≡ true → (has Key.Total ks ≡ true → bound x ≤ length ps) → (k : Key) → PairKeyReady env0 q q-apart c ks x y k →
        meaning (pair_key_ex q l c e k) (N bs) ≡ Some (truth (function_holds k (members x) (members y) ps))
    key-means d n Key.Total h =
        ap (λ b. Some (truth b)) (sym (ap (λ o. is_total o ps) h.1 ∙ all-are-arguments x h.2 ps d (all-of-map ps (Pair x y) (λ p. member x (from_of p) ≡ true) (λ p z. z.1) pairs) (n h.0)))
    key-means d n Key.Injective h = seconds-means env0 q q-apart c y by' l bs e v st second_parts
    key-means d n Key.Surjective h = all-taken-means env0 q q-apart c y by' l bs e v st second_parts h
    key-means d n Key.Bijective h = one-to-one-means env0 q q-apart c y by' l bs e v st second_parts h
    key-means d n _ h = refl

    -- All sizes hold where `size` does beside `total`.
    sizes-apart : set_attributes_hold (pair_sizes ks x) (length ps) ≡ true →
        set_attributes_hold ks (length ps) ≡ (if has Key.Total ks then exact_sizes_hold ks (length ps) else true)
    sizes-apart s = both-ways (set_attributes_hold ks (length ps)) (if has Key.Total ks then exact_sizes_hold ks (length ps) else true)
        (to (has Key.Total ks)) (λ h. sizes (length ps) s (λ t. from (has Key.Total ks) t h))
      where
        to : (b : Bool) → set_attributes_hold ks (length ps) ≡ true → (if b then exact_sizes_hold ks (length ps) else true) ≡ true
        to true h = exact-sizes ks (length ps) h
        to false h = refl

        from : (b : Bool) → b ≡ true → (if b then exact_sizes_hold ks (length ps) else true) ≡ true → exact_sizes_hold ks (length ps) ≡ true
        from true t h = h
        from false t h = cc

    -- What is asked of the pairs.
    pub pairs-means : meaning (ex1 false Op1.Bar e) (N bs) ≡ Some (number (pos (length ps))) →
        set_attributes_hold (pair_sizes ks x) (length ps) ≡ true →
        meaning (pairs_ex q l ms es d c e) (N bs) ≡ Some (truth (no_twice from_of ps && function_attributes_hold ks x y ps))
    pairs-means size s =
        ap (λ o. Some (truth (as_truth o && as_truth (meaning attribute_part (N bs))))) firsts-means ∙ go (no_twice from_of ps) refl
      where
        attribute_part : Ex
        attribute_part = and_ex (total_size_ex ms es e) (keys_ex (pair_key_ex q l c e) ms)

        keys_hold : Bool
        keys_hold = each_holds ks (λ k n. true) (λ k. function_holds k (members x) (members y) ps)

        go : (b : Bool) → no_twice from_of ps ≡ b → Some (truth (b && as_truth (meaning attribute_part (N bs)))) ≡ Some
            (truth (b && function_attributes_hold ks x y ps))
        go false h = refl
        go true h =
            let a = at bs in
            ap (λ o. Some (truth (as_truth o)))
            (and-means (N bs) (total_size_ex ms es e) (keys_ex (pair_key_ex q l c e) ms)
            (if has Key.Total ks then exact_sizes_hold ks (length ps) else true) keys_hold
            (total-size-means (N bs) e (length ps) size ms es ks a.0 a.1)
            (flags-means (N bs) (pair_key_ex q l c e) (λ k. function_holds k (members x) (members y) ps) ms (meanings es (N bs)) ks a.1
            (each-flag (PairKeyReady env0 q q-apart c ks x y) (λ k. meaning (pair_key_ex q l c e k) (N bs) ≡ Some (truth (function_holds k (members x) (members y) ps))) ks
            (key-means h (λ t. total-size ks x (length ps) t s)) keys)))
            ∙ ap (λ b. Some (truth b))
            (sym (attributes-apart ks (λ k n. size_holds k n (length ps)) (λ k. function_holds k (members x) (members y) ps)
            ∙ ap (λ b. b && keys_hold) (sizes-apart s)))

  -- The structure constraint of a function as a relation means that its cells are canonical.
  pub pairs-structure : (r : Repr) (ms : List Mark) (es : Exs) (d c : Dom) (ks : List Attribute) (x y : Domain) → BoolIs d x → BoolIs c y →
      ArePairSizes ks x → EachFlag (PairKeyReady env0 q q-apart c ks x y) ks →
      Attributes env0 q q-apart terms ms es ks → DomainIs env0 q q-apart (pair_relation_dom terms ms es d c) (child_relation ks x y) → StructureOf env0 q q-apart terms r (pair_relation_dom terms ms es d c) (child_relation ks x y) →
      StructureOf env0 q q-apart terms (repr ReprKind.FunctionAsRelation (more_reprs r no_reprs)) (function_dom ms es d c) (functions ks x y)
  pairs-structure r ms es d c ks x y bx by' sizes keys at dm child = record {
    covered = child.covered;
    long = λ ns. child.long ns ∙ (let z : width r ≡ 0 + (width r + 0) = omega arith in z);
    axes = child.axes ∙ ap (map (λ (t : Declaration). t.axes)) (sym (plain (declarations_below false r E)));
    found = λ ns ts w h. child.found ns ts (omega (arith, w)) h;
    there = λ out ns ts i p c'. child.there (out || false) ns ts i p (subst (λ l. Fit l (behind i (cells_of ts))) (plain (declarations_below (out || false) r E)) c');
    means = λ out ns ts l is i bs p c' st.
        let second : Ex = pairs_ex q l ms es d c (view_ex r D (shapes q terms r D ns) is) in
        let inner : Cells = behind i (cells_of ts) in
        and-means (N bs) (structure q terms r D ns l is) second (canonical r E inner) (as_truth (meaning second (N bs)))
        (child.means (out || false) ns ts l is i bs p (subst (λ l. Fit l inner) (plain (declarations_below (out || false) r E)) c') st) refl
        ∙ ap (λ b. Some (truth b))
        (sym (conversion-asked r E (right r E child.covered) (axes-wide r E child.covered) ReprKind.FunctionAsRelation (functions ks x y) (λ v. Some (node a_relation (of_list (items_of v))) ∷ [])
        (λ cs vss. and_then (only_of (only_child vss)) function_from) asked inner (as_truth (meaning second (N bs)))
        (behind-length i (cells_of ts) ∙ map-long _ ts ∙ placed-long env0 q q-apart (shapes q terms r D ns) (axes_members r E) ts p ∙ child.long ns)
        (λ v h m.
        let s = relation-member-form (pair_sizes ks x) (more_domains x (more_domains y no_domains)) v m in
        let f : items_of v ≡ to_list s.0 = ap items_of s.1 in
        let ps = pairs-of-tuples x y (to_list s.0) s.3 in
        let pairs : AllOf (items_of v) (Pair x y) = subst (λ l. AllOf l (Pair x y)) (sym f) (all-of-map (to_list s.0) (λ p. is_pair_of x y p ≡ true) (Pair x y) (pair-is x y) (all-of-list (to_list s.0) (is_pair_of x y) ps)) in
        let w = sym (ap (member E) s.1) ∙ m in
        let z : relation_attributes_hold (pair_sizes ks x) (more_domains x (more_domains y no_domains)) (to_list s.0) ≡ true = and-right _ (relation_attributes_hold (pair_sizes ks x) (more_domains x (more_domains y no_domains)) (to_list s.0)) w in
        let n : set_attributes_hold (pair_sizes ks x) (length (items_of v)) ≡ true =
        ap (λ l. set_attributes_hold (pair_sizes ks x) (length l)) f ∙ sym (relation-sizes (pair_sizes ks x) (more_domains x (more_domains y no_domains)) (to_list s.0) (pairs-numbered ks x)) ∙ z in
        ap (λ w. is_some_and (function_from w) (λ v. function_attributes_hold ks x y (items_of v))) s.1 ∙ pairs-asked ks x y (to_list s.0) s.2
        ∙ ap (λ l. no_twice from_of l && function_attributes_hold ks x y l) (sym f)
        ∙ sym (ap as_truth (pairs-means ms es d c ks x y bx by' sizes keys at l bs (view_ex r D (shapes q terms r D ns) is) v
        (view-stands env0 q q-apart r D E (shapes q terms r D ns) (axes_members r E) ts l is i bs v refl dm p st h) pairs
        (ap (λ o. value_of_node (unary Op1.Bar) (o ∷ [])) (view-stands env0 q q-apart r D E (shapes q terms r D ns) (axes_members r E) ts l
        is i bs v refl dm p st h [] tt)
        ∙ ap (λ w. value_of_node (unary Op1.Bar) (Some w ∷ [])) s.1 ∙ ap (λ l. Some (number (pos (length l)))) (sym f)) n)))));
  }
    where
      D : Dom
      D = pair_relation_dom terms ms es d c

      E : Domain
      E = child_relation ks x y

      asked : Cells → List (List Value) → Bool
      asked cs vss = is_some_and (and_then (only_of (only_child vss)) function_from) (λ v. function_attributes_hold ks x y (items_of v))
