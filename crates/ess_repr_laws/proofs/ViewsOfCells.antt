-- What a view means where its tables are found, and what comprehensions over its items mean.
use Rattle.std.proofs.Common.{◌≡◌, refl, sym, ap, ◌∙◌, ℕ, ◌<◌, Bool, true, false, ◌&&◌, ◌||◌, not, List, [], ◌∷◌, ◌++◌, map, ℤ, Option, Some, option_map}
use Rattle.std.specs.List.{list_all, list_any}
use Rattle.ess_semantics.specs.declared.words.Fun.{Fun}
use Rattle.ess_semantics.specs.Lists.{and_then, all_some}
use Rattle.ess_semantics.specs.Values.{a_tuple, a_matrix, a_set, a_mset, a_function, a_relation, a_partition, a_record, Text, Value, number, truth, item, node, pair, items_of}
use Rattle.ess_semantics.specs.Order.{same, same_text}
use Rattle.ess_semantics.specs.Collections.{holds, no_twice}
use Rattle.ess_semantics.specs.Names.{look}
use Rattle.ess_semantics.specs.Trees.{to_component, index, word, Repr, Ex, Exs, name_ex, Gens, no_gens, over, name_pat, Dom}
use Rattle.ess_semantics.specs.Domains.{Domain, booleans}
use Rattle.ess_semantics.specs.Membership.{member}
use Rattle.ess_semantics.specs.Operators.{all_true, all_different, list_value, false_where_undefined, value_of_node}
use Rattle.ess_semantics.specs.Tables.{Tables}
use Rattle.ess_semantics.specs.Meaning.{Env, collect, domain_of, indices, is_bool_dom, items_under, meaning, meanings, members_in, seen_in, tables_in}
use Rattle.ess_semantics.specs.Representations.{value_of_tables}
use Rattle.ess_semantics.proofs.Connectives.{all-means}
use Rattle.ess_semantics.proofs.Orders.{same-itself, same-equal, to_list-of_list}
use Rattle.ess_semantics.proofs.Sorting.{Distinct}
use Rattle.ess_semantics.proofs.Tests.{and-left, and-right, both-ways, not-true}
use Rattle.ess_repr_laws.specs.StructureParts.{Shape}
use Rattle.ess_repr_laws.specs.StructureMeaning.{Bound, M, Placed, DomainIs}
use Rattle.ess_repr_laws.specs.ViewParts.{shape_names, view_ex, component_ex, each_item, every_item_ex, components_differ_ex}
use Rattle.ess_repr_laws.proofs.CanonicalPlaces.{AllOf, all-of-map}
use Rattle.ess_repr_laws.proofs.StructureRows.{From, Steady, looked}

-- ---- lists

-- Each value gives one item.
pub collect-items : (vs : List Value) (F : Value → Option (List Value)) (g : Value → Value) → AllOf vs (λ v. F v ≡ Some (g v ∷ [])) → collect vs F ≡ Some (map g vs)
collect-items [] F g h = refl
collect-items (v ∷ vs) F g h =
    ap (λ o. and_then o (λ xs. option_map (λ ys. xs ++ ys) (collect vs F))) h.0 ∙ ap (option_map (λ ys. g v ∷ ys)) (collect-items vs F g h.1)

same-turned : (a b : Value) → same a b ≡ same b a
same-turned a b =
    both-ways (same a b) (same b a) (λ h. ap (λ z. same z a) (sym (same-equal a b h)) ∙ same-itself a) (λ h. ap (λ z. same z b) (sym (same-equal b a h)) ∙ same-itself b)

images-held : (f : Value → Value) (v : Value) (ps : List Value) → holds (map f ps) v ≡ list_any (λ y. same v (f y)) ps
images-held f v [] = refl
images-held f v (p ∷ ps) = ap (λ b. b || holds (map f ps) v) (same-turned (f p) v) ∙ ap (λ b. same v (f p) || b) (images-held f v ps)

-- Images differ where none stands twice.
pub images-differ : (f : Value → Value) (ps : List Value) → all_different (map f ps) ≡ no_twice f ps
images-differ f [] = refl
images-differ f (p ∷ ps) = ap (λ b. not b && all_different (map f ps)) (images-held f (f p) ps) ∙ ap (λ b. not (list_any (λ y. same (f p) (f y)) ps) && b) (images-differ f ps)

-- Values that differ.
pub different-distinct : (xs : List Value) → all_different xs ≡ true → Distinct xs
different-distinct [] h = tt
different-distinct (x ∷ xs) h = (not-true (holds xs x) (and-left (not (holds xs x)) (all_different xs) h), different-distinct xs (and-right (not (holds xs x)) (all_different xs) h))

-- ---- truth values

truth-of-member : (v : Value) → member booleans v ≡ true → (b : Bool) × (v ≡ truth b)
truth-of-member (truth b) h = (b, refl)
truth-of-member (number n) h = cc
truth-of-member (item t k) h = cc
truth-of-member (node a_tuple xs) h = cc
truth-of-member (node a_matrix xs) h = cc
truth-of-member (node a_set xs) h = cc
truth-of-member (node a_mset xs) h = cc
truth-of-member (node a_function xs) h = cc
truth-of-member (node a_relation xs) h = cc
truth-of-member (node a_partition xs) h = cc
truth-of-member (node (a_record fs) xs) h = cc

-- A Boolean component is a truth value.
pub settled-member : (b : Bool) (e : Domain) → (b ≡ true → e ≡ booleans) → (v : Value) → member e v ≡ true → false_where_undefined b (Some v) ≡ Some v
settled-member false e h v m = refl
settled-member true e h v m =
    let t = truth-of-member v (sym (ap (λ x. member x v) (h refl)) ∙ m) in ap (λ w. false_where_undefined true (Some w)) t.1 ∙ ap Some (sym t.1)

module _ (env0 : Env) (q : ℕ → Text) (q-apart : (m l : ℕ) → l < m → same_text (q m) (q l) ≡ false) where
  abbrev N : Bound env0 q q-apart → Env
  N = M env0 q q-apart

  -- Tables are found by the names of their shapes.
  pub tables-found : (ss : List Shape) (vsss : List (List (List Value))) (ts : Tables) → Placed env0 q q-apart ss vsss ts → tables_in env0.cells (shape_names ss) ≡ Some ts
  tables-found [] [] [] h = refl
  tables-found (s ∷ ss) (vss ∷ vsss) (t ∷ ts) h =
      ap (λ o. and_then o (λ x. option_map (λ xs. x ∷ xs) (all_some (map (look env0.cells) (shape_names ss))))) h.0 ∙ ap (option_map (λ xs. t ∷ xs)) (tables-found ss vsss ts h.2)
  tables-found [] [] (t ∷ ts) h = absurd h
  tables-found [] (vss ∷ vsss) ts h = absurd h
  tables-found (s ∷ ss) [] ts h = absurd h
  tables-found (s ∷ ss) (vss ∷ vsss) [] h = absurd h

  -- A view means the value of its tables.
  pub view-means : (r : Repr) (d : Dom) (e : Domain) (ss : List Shape) (vsss : List (List (List Value))) (ts : Tables) (l : ℕ) (is : Exs) (i : List ℤ) (bs : Bound env0 q q-apart) →
      is_bool_dom d ≡ false → DomainIs env0 q q-apart d e → Placed env0 q q-apart ss vsss ts → Steady env0 q q-apart l is i bs →
      meaning (view_ex r d ss is) (N bs) ≡ value_of_tables r e ts i
  view-means r d e ss vsss ts l is i bs nb dm p st =
      ap (λ b. false_where_undefined b (seen_in r (domain_of d (N bs)) (tables_in env0.cells (shape_names ss)) (indices (meanings is (N bs))))) nb
      ∙ ap (λ o. seen_in r o (tables_in env0.cells (shape_names ss)) (indices (meanings is (N bs)))) (dm bs)
      ∙ ap (λ o. seen_in r (Some e) o (indices (meanings is (N bs)))) (tables-found ss vsss ts p) ∙ ap (seen_in r (Some e) (Some ts)) (st [] tt)

  -- The expression means this value, whatever else is bound from q l on.
  abbrev pub Stands : ℕ → Ex → Value → Bound env0 q q-apart → Type 0
  Stands l e v bs = (cs : Bound env0 q q-apart) → From env0 q q-apart l cs → meaning e (N (cs ++ bs)) ≡ Some v

  -- So does a view, whose value is v.
  pub view-stands : (r : Repr) (d : Dom) (e : Domain) (ss : List Shape) (vsss : List (List (List Value))) (ts : Tables) (l : ℕ) (is : Exs) (i : List ℤ) (bs : Bound env0 q q-apart) (v : Value) →
      is_bool_dom d ≡ false → DomainIs env0 q q-apart d e → Placed env0 q q-apart ss vsss ts → Steady env0 q q-apart l is i bs → value_of_tables r e ts i ≡ Some v → Stands l (view_ex r d ss is) v bs
  view-stands r d e ss vsss ts l is i bs v nb dm p st h cs f =
      ap (λ b. false_where_undefined b (seen_in r (domain_of d (N (cs ++ bs))) (tables_in env0.cells (shape_names ss)) (indices (meanings is (N (cs ++ bs)))))) nb
      ∙ ap (λ o. seen_in r o (tables_in env0.cells (shape_names ss)) (indices (meanings is (N (cs ++ bs))))) (dm (cs ++ bs))
      ∙ ap (λ o. seen_in r (Some e) o (indices (meanings is (N (cs ++ bs))))) (tables-found ss vsss ts p) ∙ ap (seen_in r (Some e) (Some ts)) (st cs f) ∙ h

  -- ---- generators

  -- Over the items of a value.
  pub items-run : (l : ℕ) (e : Ex) (gs : Gens) (bs : Bound env0 q q-apart) (k : Env → Option (List Value)) (v : Value) (g : Value → Value) → meaning e (N bs) ≡ Some v →
      AllOf (items_of v) (λ x. items_under gs (N ((l, x) ∷ bs)) k ≡ Some (g x ∷ [])) → items_under (each_item q l e gs) (N bs) k ≡ Some (map g (items_of v))
  items-run l e gs bs k v g h a =
      ap (λ o. and_then o (λ s. collect (items_of s) (λ x. items_under gs (N ((l, x) ∷ bs)) k))) h ∙ collect-items (items_of v) (λ x. items_under gs (N ((l, x) ∷ bs)) k) g a

  -- A test of each item.
  pub every-item-means : (l : ℕ) (e : Ex) (bs : Bound env0 q q-apart) (v : Value) (test : Ex) (f : Value → Bool) →
      meaning e (N bs) ≡ Some v → AllOf (items_of v) (λ p. meaning test (N ((l, p) ∷ bs)) ≡ Some (truth (f p))) →
      meaning (every_item_ex q l e test) (N bs) ≡ Some (truth (list_all f (items_of v)))
  every-item-means l e bs v test f h a =
      all-means (N bs) test (each_item q l e no_gens) (map (λ p. truth (f p)) (items_of v))
      (items-run l e no_gens bs (λ here. option_map (λ z. z ∷ []) (meaning test here)) v (λ p. truth (f p)) h
      (all-of-map (items_of v) (λ p. meaning test (N ((l, p) ∷ bs)) ≡ Some (truth (f p)))
      (λ p. option_map (λ z. z ∷ []) (meaning test (N ((l, p) ∷ bs))) ≡ Some (truth (f p) ∷ []))
      (λ p z. ap (option_map (λ z. z ∷ [])) z) a))
      ∙ ap (λ b. Some (truth b)) (all-bits (items_of v))
    where
      all-bits : (ps : List Value) → all_true (map (λ p. truth (f p)) ps) ≡ list_all f ps
      all-bits [] = refl
      all-bits (p ∷ ps) = ap (λ b. f p && b) (all-bits ps)

  -- Over the members of a domain.
  pub members-run : (l : ℕ) (d : Dom) (gs : Gens) (bs : Bound env0 q q-apart) (k : Env → Option (List Value)) (vs : List Value) (g : Value → Value) → members_in (domain_of d (N bs)) ≡ Some vs →
      AllOf vs (λ x. items_under gs (N ((l, x) ∷ bs)) k ≡ Some (g x ∷ [])) → items_under (over (name_pat (q l)) d gs) (N bs) k ≡ Some (map g vs)
  members-run l d gs bs k vs g h a =
      ap (λ o. and_then o (λ xs. collect xs (λ x. items_under gs (N ((l, x) ∷ bs)) k))) h ∙ collect-items vs (λ x. items_under gs (N ((l, x) ∷ bs)) k) g a

  -- A component of the pair that q l is.
  pub first-means : (l : ℕ) (d : Dom) (e : Domain) (u w : Value) (bs : Bound env0 q q-apart) → (is_bool_dom d ≡ true → e ≡ booleans) → member e u ≡ true →
      meaning (component_ex d 1 (name_ex (q l))) (N ((l, pair u w) ∷ bs)) ≡ Some u
  first-means l d e u w bs h m =
      ap (λ o. false_where_undefined (is_bool_dom d) (value_of_node (index (to_component 1 ∷ [])) (o ∷ []))) (looked env0 q q-apart l (pair u w) bs [] tt) ∙ settled-member (is_bool_dom d) e h u m

  pub second-means : (l : ℕ) (d : Dom) (e : Domain) (u w : Value) (bs : Bound env0 q q-apart) → (is_bool_dom d ≡ true → e ≡ booleans) → member e w ≡ true →
      meaning (component_ex d 2 (name_ex (q l))) (N ((l, pair u w) ∷ bs)) ≡ Some w
  second-means l d e u w bs h m =
      ap (λ o. false_where_undefined (is_bool_dom d) (value_of_node (index (to_component 2 ∷ [])) (o ∷ []))) (looked env0 q q-apart l (pair u w) bs [] tt) ∙ settled-member (is_bool_dom d) e h w m

  -- Whether components of tuples differ.
  pub components-differ : (l : ℕ) (d : Dom) (k : ℕ) (e : Ex) (bs : Bound env0 q q-apart) (v : Value) (g : Value → Value) → meaning e (N bs) ≡ Some v →
      AllOf (items_of v) (λ x. meaning (component_ex d k (name_ex (q l))) (N ((l, x) ∷ bs)) ≡ Some (g x)) → meaning (components_differ_ex q l d k e) (N bs) ≡ Some (truth (no_twice g (items_of v)))
  components-differ l d k e bs v g h a =
      ap (λ o. false_where_undefined true (value_of_node (word Fun.AllDiff) (option_map list_value o ∷ [])))
      (items-run l e no_gens bs (λ here. option_map (λ x. x ∷ []) (meaning (component_ex d k (name_ex (q l))) here)) v g h (each (items_of v) a))
      ∙ ap (λ vs. Some (truth (all_different vs))) (to_list-of_list (map g (items_of v))) ∙ ap (λ b. Some (truth b)) (images-differ g (items_of v))
    where
      each : (xs : List Value) → AllOf xs (λ x. meaning (component_ex d k (name_ex (q l))) (N ((l, x) ∷ bs)) ≡ Some (g x)) →
          AllOf xs (λ x. items_under no_gens (N ((l, x) ∷ bs)) (λ here. option_map (λ x. x ∷ []) (meaning (component_ex d k (name_ex (q l))) here)) ≡ Some (g x ∷ []))
      each [] a = tt
      each (x ∷ xs) a = (ap (option_map (λ x. x ∷ [])) a.0, each xs a.1)
