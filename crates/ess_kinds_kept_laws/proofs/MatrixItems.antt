-- A view of a matrix offers its items, in order, and its item at an index is looked up.
use Rattle.std.proofs.Common.{◌≡◌, refl, sym, ap, ◌∙◌, subst, zero, suc, Bool, true, false, ◌||◌, if◌then◌else◌, List, [], ◌∷◌, ◌++◌, length, Option, Some, None, option_map, nat_eq, arith}
use Rattle.std.proofs.lemmas.Bool.{eqb-true}
use Rattle.ess_semantics.specs.declared.words.Op2.{Op2}
use Rattle.ess_semantics.specs.declared.words.ReprKind.{ReprKind}
use Rattle.ess_semantics.specs.Lists.{and_then, is_some_and, list_or_none}
use Rattle.ess_semantics.specs.Values.{Text, Value, Values, truth, nil, cons, to_list, matrix, items_of, itself}
use Rattle.ess_semantics.specs.Order.{same}
use Rattle.ess_semantics.specs.Collections.{holds, rises}
use Rattle.ess_semantics.specs.Trees.{binary, index, by_value, Repr, repr, no_reprs, more_reprs, name_pat, Ex, Exs, name_ex, node_ex, comp_ex, seen_ex, ex2, no_exs, more_exs, no_gens, over, cond, Dom, Doms, more_doms, matrix_dom}
use Rattle.ess_semantics.specs.Domains.{Domain, Domains, more_domains, matrices, members}
use Rattle.ess_semantics.specs.Membership.{member, nested_matrix, same_list}
use Rattle.ess_semantics.specs.Operators.{value_of_node, false_where_undefined, list_value, item_at}
use Rattle.ess_semantics.specs.Meaning.{Env, meaning, domain_of, domains_of, members_in, collect, where_true}
use Rattle.ess_semantics.specs.Contexts.{EachOf}
use Rattle.ess_semantics.specs.Meets.{Meets, MeetsDom}
use Rattle.ess_semantics.proofs.Tests.{and-left, and-right, some-and, or-left-no, or-right-no, or-yes}
use Rattle.ess_semantics.proofs.Orders.{to_list-of_list, same-equal, same-itself}
use Rattle.ess_semantics.proofs.Sorting.{Distinct, sorted-of}
use Rattle.ess_semantics.proofs.Repeats.{sorted-distinct}
use Rattle.ess_repr_laws.proofs.AllMembersListed.{domain-listed}
use Rattle.ess_rules_laws.specs.Rules.{Unused}
use Rattle.ess_rules_laws.specs.Listings.{Alternative}
use Rattle.ess_rules_laws.specs.ListedSources.{OffersInOrder}
use Rattle.ess_rules_laws.specs.SetListings.{InOrderWhereMet, put_last}
use Rattle.ess_rules_laws.specs.FunctionLookups.{unmarked}
use Rattle.ess_rules_laws.specs.Lookups.{found, Looked}
use Rattle.ess_rules_laws.proofs.Simulation.{but}
use Rattle.ess_rules_laws.proofs.Agreement.{agree-but, domain-agree}
use Rattle.ess_rules_laws.proofs.Connectives.{binary-means}
use Rattle.ess_rules_laws.proofs.FunctionLookups.{AnswerLooks, looks}
use Rattle.ess_rules_laws.proofs.Listing.{append-none}
use Rattle.ess_rules_laws.proofs.Lookups.{single, collect-found}
use Rattle.ess_rules_laws.proofs.RuleAnswers.{behind, meaning-behind, meets-behind, name-behind}
use Rattle.ess_views_laws.specs.MatrixViews.{behind_index}
use Rattle.ess_views_kept_laws.specs.ComponentsKept.{fits_place}
use Rattle.ess_views_kept_laws.proofs.MatrixViews.{items-keep}
use Rattle.ess_views_kept_laws.proofs.OpenedViews.{opened, opened-means, opened-value}
use Rattle.ess_views_kept_laws.proofs.ParticipantViews.{list-equal}
use Rattle.ess_kind_rules_laws.specs.ViewListings.{matrix_listing}
use Rattle.ess_kind_rules_laws.specs.TermLookups.{view_item_lookup}

no : {A : Type 0} → false ≡ true → A
no h = cc

-- ---- items at indices that differ

item-there : (is xs : Values) (w : Value) → length (to_list is) ≡ length (to_list xs) → holds (to_list is) w ≡ true →
    (v : Value) × (item_at is xs w ≡ Some v)
item-there nil xs w n h = no h
item-there (cons i is) nil w n h = absurd (let z : suc (length (to_list is)) ≡ zero = n in omega arith)
item-there (cons i is) (cons x xs) w n h = go (same i w) h (λ z. item-there is xs w (omega arith) z)
  where
    go : (b : Bool) → b || holds (to_list is) w ≡ true → (holds (to_list is) w ≡ true → (v : Value) × (item_at is xs w ≡ Some v)) →
        (v : Value) × ((if b then Some x else item_at is xs w) ≡ Some v)
    go true h r = (x, refl)
    go false h r = r h

item-nowhere : (is xs : Values) (w : Value) → holds (to_list is) w ≡ false → item_at is xs w ≡ None
item-nowhere nil xs w h = refl
item-nowhere (cons i is) nil w h = refl
item-nowhere (cons i is) (cons x xs) w h = ap (λ b. if b then Some x else item_at is xs w) (or-left-no (same i w) (holds (to_list is) w) h)
    ∙ item-nowhere is xs w (or-right-no (same i w) (holds (to_list is) w) h)

-- The items at all indices are the items.
items-collected : (is xs : Values) → length (to_list is) ≡ length (to_list xs) → Distinct (to_list is) → (G : Value → Option (List Value)) →
    ((v : Value) → holds (to_list is) v ≡ true → G v ≡ single (item_at is xs v)) → collect (to_list is) G ≡ Some (to_list xs)
items-collected nil nil n d G h = refl
items-collected nil (cons x xs) n d G h = absurd (let z : zero ≡ suc (length (to_list xs)) = n in omega arith)
items-collected (cons i is) nil n d G h = absurd (let z : suc (length (to_list is)) ≡ zero = n in omega arith)
items-collected (cons i is) (cons x xs) n d G h =
    ap (λ o. and_then o (λ zs. option_map (λ ys. zs ++ ys) (collect (to_list is) G)))
    (h i (ap (λ b. b || holds (to_list is) i) (same-itself i)) ∙ ap (λ b. single (if b then Some x else item_at is xs i)) (same-itself i))
    ∙ ap (option_map (λ ys. x ∷ ys)) (items-collected is xs (omega arith) d.1 G (λ v z. h v (ap (λ b. same i v || b) z ∙ or-yes (same i v))
    ∙ ap (λ b. single (if b then Some x else item_at is xs v)) (other v z (same i v) refl)))
  where
    other : (v : Value) → holds (to_list is) v ≡ true → (b : Bool) → same i v ≡ b → b ≡ false
    other v z true e = no (sym d.0 ∙ ap (holds (to_list is)) (same-equal i v e) ∙ z)
    other v z false e = refl

-- What stands behind one value.
one-collected : (w : Value) (K : Option (List Value)) (is : List Value) → Distinct is → (G : Value → Option (List Value)) →
    ((v : Value) → holds is v ≡ true → G v ≡ where_true (Some (truth (same v w))) (λ u. K)) →
    collect is G ≡ (if holds is w then K else Some [])
one-collected w K [] d G h = refl
one-collected w K (j ∷ js) d G h =
    ap (λ o. and_then o (λ xs. option_map (λ ys. xs ++ ys) (collect js G))) (h j (ap (λ b. b || holds js j) (same-itself j)))
    ∙ go (same j w) refl (one-collected w K js d.1 G (λ v z. h v (ap (λ b. same j v || b) z ∙ or-yes (same j v))))
  where
    go : (b : Bool) → same j w ≡ b → collect js G ≡ (if holds js w then K else Some []) →
        and_then (where_true (Some (truth b)) (λ u. K)) (λ xs. option_map (λ ys. xs ++ ys) (collect js G)) ≡
        (if b || holds js w then K else Some [])
    go true q r = let e : holds js w ≡ false = ap (holds js) (sym (same-equal j w q)) ∙ d.0 in
        ap (λ o. and_then K (λ xs. option_map (λ ys. xs ++ ys) o)) (r ∙ ap (λ b. if b then K else Some []) e) ∙ collect-found K
    go false q r = append-none (collect js G) ∙ r

-- ---- matrices

matrix-form : (f : Domain) (ds : Domains) (g : Value → Bool) (v : Value) → nested_matrix (more_domains f ds) g v ≡ true →
    (ix : Values) × (xs : Values) × (v ≡ matrix ix xs) × (is_some_and (members f) (λ vs. same_list vs (to_list ix)) ≡ true)
    × (nat_eq (length (to_list ix)) (length (to_list xs)) ≡ true)
matrix-form f ds g (matrix ix xs) h = (ix, xs, refl, and-left _ _ (and-left _ _ h), and-right _ _ (and-left _ _ h))
matrix-form f ds g _ h = no h

matrix-parts : (a : Option Domain) (p : Option Domains) (e : Option Domain) (d : Domain) →
    and_then (and_then a (λ x. option_map (more_domains x) p)) (λ js. option_map (matrices js) e) ≡ Some d →
    (f : Domain) × (ds : Domains) × (x : Domain) × (a ≡ Some f) × (d ≡ matrices (more_domains f ds) x)
matrix-parts None p e d q = cc
matrix-parts (Some f) None e d q = cc
matrix-parts (Some f) (Some ds) None d q = cc
matrix-parts (Some f) (Some ds) (Some x) d q = (f, ds, x, refl, sym (let z : matrices (more_domains f ds) x ≡ d = cc in z))

fits-false : (f : Ex) → fits_place false f ≡ true
fits-false (seen_ex r d ns js) = refl
fits-false _ = refl

module _ (r : Repr) (i : Dom) (is : Doms) (d : Dom) (ns : List Text) (js : Exs) (env : Env) where
  abbrev R : Repr
  R = repr ReprKind.Matrix (more_reprs r no_reprs)

  abbrev View : Ex
  View = seen_ex R (matrix_dom (more_doms i is) d) ns js

  -- The indices and the items.
  record MatrixSeen : Type 0 where
    pub ix : Values
    pub xs : Values
    pub is_value : meaning View env ≡ Some (matrix ix xs)
    pub are_members : members_in (domain_of i env) ≡ Some (to_list ix)
    pub different : Distinct (to_list ix)
    pub long : length (to_list ix) ≡ length (to_list xs)

  matrix-seen : Meets View env → MatrixSeen
  matrix-seen h = let o = opened R (matrix_dom (more_doms i is) d) ns js env h in
      let p = matrix-parts (domain_of i env) (domains_of is env) (domain_of d env) o.d o.domain_is in
      let v = opened-value R (matrix_dom (more_doms i is) d) ns js env o in
      let f = matrix-form p.0 p.1 (member p.2) v.0 (ap (λ z. member z v.0) (sym p.4) ∙ v.2) in
      let us = some-and (members p.0) (λ vs. same_list vs (to_list f.0)) f.3 in
      let list-is : us.0 ≡ to_list f.0 = list-equal us.0 (to_list f.0) us.2 in
      let sorted : rises itself (to_list f.0) ≡ true =
      ap (rises itself) (sym (ap list_or_none us.1 ∙ list-is)) ∙ (domain-listed p.0).sorted in record {
        ix = f.0;
        xs = f.1;
        is_value = opened-means R (matrix_dom (more_doms i is) d) ns js env refl o ∙ v.1 ∙ ap Some f.2;
        are_members = ap members_in p.3 ∙ us.1 ∙ ap Some list-is;
        different = sorted-distinct (to_list f.0) (sorted-of (to_list f.0) sorted);
        long = eqb-true _ _ f.4;
      }

  module _ (met : Meets View env) (x : Text) (new : Unused x View) where
    abbrev Behind : Ex
    Behind = behind_index r is d ns (put_last js (name_ex x))

    s : MatrixSeen
    s = matrix-seen met

    -- The view at an index.
    behind-kept : (u : Value) → holds (to_list s.ix) u ≡ true →
        (meaning (node_ex false (index (by_value ∷ [])) (more_exs View (more_exs (name_ex x) no_exs))) (behind x u env) ≡
        meaning Behind (behind x u env)) × Meets Behind (behind x u env)
    behind-kept u h = items-keep (node_ex false (index (by_value ∷ [])) (more_exs View (more_exs (name_ex x) no_exs))) Behind refl
        (fits-false Behind) (behind x u env) (record {
          value = u;
          members = to_list s.ix;
          is_value = name-behind x u env;
          are_members = ap members_in (domain-agree env.positions env.types env.cells (but x) i env.vals ((x, u) ∷ env.vals) new.0.0.0
              (agree-but x u env.vals)) ∙ s.are_members;
          is_held = h;
        }) (meets-behind x u View env new met, (tt, tt))

    behind-means : (u : Value) → holds (to_list s.ix) u ≡ true → meaning Behind (behind x u env) ≡ item_at s.ix s.xs u
    behind-means u h = sym (behind-kept u h).0
        ∙ ap (λ o. value_of_node (index (by_value ∷ [])) (o ∷ meaning (name_ex x) (behind x u env) ∷ []))
        (meaning-behind x u View env new ∙ s.is_value)
        ∙ ap (λ o. value_of_node (index (by_value ∷ [])) (Some (matrix s.ix s.xs) ∷ o ∷ [])) (name-behind x u env)
        ∙ itself-again (item_at s.ix s.xs u)
      where
        itself-again : (o : Option Value) → and_then o (λ z. Some z) ≡ o
        itself-again None = refl
        itself-again (Some z) = refl

    each-held : (o : Option (List Value)) (P : Value → Type 0) → o ≡ Some (to_list s.ix) →
        ((u : Value) → holds (to_list s.ix) u ≡ true → P u) → EachOf o P
    each-held o P q f = subst (λ z. EachOf z P) (sym q) (go (to_list s.ix) (λ u h. h))
      where
        go : (us : List Value) → ((u : Value) → holds us u ≡ true → holds (to_list s.ix) u ≡ true) → EachOf (Some us) P
        go [] h = tt
        go (u ∷ us) h = (
          f u (h u (ap (λ b. b || holds us u) (same-itself u))),
          go us (λ v z. h v (ap (λ b. same u v || b) z ∙ or-yes (same u v))),
        )

    index-met : MeetsDom i env
    index-met = met.1.0.0

    -- ---- its items

    abbrev Listing : Alternative
    Listing = record { gens = over (name_pat x) i no_gens; item = Behind }

    items-offered : OffersInOrder View Listing env
    items-offered = record {
      items = ap (option_map items_of) s.is_value
          ∙ sym (ap (λ o. and_then o (λ vs. collect vs (λ v. single (meaning Behind (behind x v env))))) s.are_members
          ∙ items-collected s.ix s.xs s.long s.different (λ v. single (meaning Behind (behind x v env)))
          (λ v h. ap single (behind-means v h)));
      met = (index-met, each-held (members_in (domain_of i env)) _ s.are_members (λ u h. (behind-kept u h).1));
    }

    -- ---- its item at an index

    module _ (a : Ex) (new-a : Unused x a) (ma : Meets a env) where
      abbrev Is : Ex
      Is = ex2 true Op2.Eq (name_ex x) a

      abbrev At : Value → Option (List Value)
      At v = where_true (meaning Is (behind x v env)) (λ z. single (meaning Behind (behind x v env)))

      abbrev Item : Ex
      Item = node_ex false (index (by_value ∷ [])) (more_exs View (more_exs a no_exs))

      is-means : (w : Value) → meaning a env ≡ Some w → (v : Value) → meaning Is (behind x v env) ≡ Some (truth (same v w))
      is-means w q v = binary-means (behind x v env) true Op2.Eq (name_ex x) a v w (name-behind x v env)
          (meaning-behind x v a env new-a ∙ q)

      is-not : meaning a env ≡ None → (v : Value) → meaning Is (behind x v env) ≡ Some (truth false)
      is-not q v = ap (λ o. false_where_undefined true (value_of_node (binary Op2.Eq) (o ∷ meaning a (behind x v env) ∷ [])))
          (name-behind x v env)
          ∙ ap (λ o. false_where_undefined true (value_of_node (binary Op2.Eq) (Some v ∷ o ∷ []))) (meaning-behind x v a env new-a ∙ q)

      none-collected : (us : List Value) → meaning a env ≡ None → collect us At ≡ Some []
      none-collected [] q = refl
      none-collected (u ∷ us) q =
          ap (λ o. and_then (where_true o (λ z. single (meaning Behind (behind x u env)))) (λ xs. option_map (λ ys. xs ++ ys) (collect us At)))
          (is-not q u) ∙ ap (option_map (λ ys. ys)) (none-collected us q)

      at-index : (w : Value) → meaning a env ≡ Some w → (v : Value) → holds (to_list s.ix) v ≡ true →
          At v ≡ where_true (Some (truth (same v w))) (λ z. single (item_at s.ix s.xs w))
      at-index w q v h = ap (λ o. where_true o (λ z. single (meaning Behind (behind x v env)))) (is-means w q v) ∙ go (same v w) refl
        where
          go : (b : Bool) → same v w ≡ b → where_true (Some (truth b)) (λ z. single (meaning Behind (behind x v env))) ≡
              where_true (Some (truth b)) (λ z. single (item_at s.ix s.xs w))
          go true e = ap single (behind-means v h ∙ ap (item_at s.ix s.xs) (same-equal v w e))
          go false e = refl

      whole-means : (w : Value) → meaning a env ≡ Some w → meaning Item env ≡ item_at s.ix s.xs w
      whole-means w q = ap (λ o. value_of_node (index (by_value ∷ [])) (o ∷ meaning a env ∷ [])) s.is_value
          ∙ ap (λ o. value_of_node (index (by_value ∷ [])) (Some (matrix s.ix s.xs) ∷ o ∷ [])) q
          ∙ itself-again (item_at s.ix s.xs w)
        where
          itself-again : (o : Option Value) → and_then o (λ z. Some z) ≡ o
          itself-again None = refl
          itself-again (Some z) = refl

      collected : collect (to_list s.ix) At ≡ Some (found (meaning Item env))
      collected = go (meaning a env) refl
        where
          held : (w : Value) (b : Bool) → holds (to_list s.ix) w ≡ b →
              (if b then single (item_at s.ix s.xs w) else Some []) ≡ Some (found (item_at s.ix s.xs w))
          held w true h = let t = item-there s.ix s.xs w s.long h in
              ap single t.1 ∙ sym (ap (λ o. Some (found o)) t.1)
          held w false h = sym (ap (λ o. Some (found o)) (item-nowhere s.ix s.xs w h))

          go : (o : Option Value) → meaning a env ≡ o → collect (to_list s.ix) At ≡ Some (found (meaning Item env))
          go None q = none-collected (to_list s.ix) q
              ∙ sym (ap (λ o. Some (found (value_of_node (index (by_value ∷ [])) (o ∷ meaning a env ∷ [])))) s.is_value
              ∙ ap (λ o. Some (found (value_of_node (index (by_value ∷ [])) (Some (matrix s.ix s.xs) ∷ o ∷ [])))) q)
          go (Some w) q = one-collected w (single (item_at s.ix s.xs w)) (to_list s.ix) s.different At (at-index w q)
              ∙ held w (holds (to_list s.ix) w) refl ∙ sym (ap (λ o. Some (found o)) (whole-means w q))

      item-looked : Looked Item (comp_ex Behind (over (name_pat x) i (cond Is no_gens))) env
      item-looked = record {
        items = ap (λ o. option_map items_of (option_map list_value (and_then o (λ vs. collect vs At)))) s.are_members
            ∙ ap (λ o. option_map items_of (option_map list_value o)) collected
            ∙ ap Some (to_list-of_list (found (meaning Item env)));
        met = (
          index-met,
          each-held (members_in (domain_of i env)) _ s.are_members
              (λ u h. ((tt, (meets-behind x u a env new-a ma, tt)), λ z. (behind-kept u h).1)),
        );
      }

-- The items of a matrix.
pub matrix-listed : (x : Text) (e : Ex) (env : Env) → Unused x e → Meets e env → InOrderWhereMet (matrix_listing x e) e env
matrix-listed x (seen_ex (repr ReprKind.Matrix (more_reprs r no_reprs)) (matrix_dom (more_doms i is) d) ns js) env new m =
    items-offered r i is d ns js env m x new
matrix-listed x _ env new m = tt

item-answer : (x : Text) (e : Ex) (env : Env) → Unused x e → Meets e env → AnswerLooks (view_item_lookup x e) (unmarked e) env
item-answer x (node_ex b (index (by_value ∷ []))
    (more_exs (seen_ex (repr ReprKind.Matrix (more_reprs r no_reprs)) (matrix_dom (more_doms i is) d) ns js) (more_exs a no_exs))) env new m =
    item-looked r i is d ns js env m.0 x new.0 a new.1.0 m.1.0
item-answer x _ env new m = tt

-- An item of a matrix.
pub view_item-looked : (x : Text) (e l : Ex) → view_item_lookup x e ≡ Some l → (env : Env) → Unused x e → Meets e env →
    Looked (unmarked e) l env
view_item-looked x e l q env new m = looks (view_item_lookup x e) (unmarked e) l env (item-answer x e env new m) q
