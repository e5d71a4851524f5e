-- A value of a type has each type with which another one agrees: where two types agree, the values of both have the type
-- of both.
use Rattle.std.proofs.Common.{◌≡◌, refl, sym, ap, ◌∙◌, subst, Bool, true, false, ◌&&◌, not, if◌then◌else◌, List, [], ◌∷◌, Option, Some, None, option_map, nat_eq, length}
use Rattle.std.specs.List.{list_all}
use Rattle.std.specs.Ordering.{ordering_then}
use Rattle.std.specs.declared.cmp.Ordering.TheVariants.{Equal}
use Rattle.ess_semantics.specs.Lists.{and_then, when, is_empty}
use Rattle.ess_semantics.specs.Values.{Text, Kind, a_tuple, a_matrix, a_set, a_mset, a_function, a_relation, a_partition, a_record, Value, node, nil, cons, to_list, tuple, matrix, from_of, to_of, items_of, itself}
use Rattle.ess_semantics.specs.Order.{order_text, order_kind, same_text, same_texts, same_kind}
use Rattle.ess_semantics.specs.Collections.{rises, rises_weakly, has_overlap}
use Rattle.ess_semantics.specs.Types.{Ty, Tys, any_ty, bool_ty, int_ty, named_ty, compound, no_tys, more_tys, is_open, join, joins, join_all}
use Rattle.ess_semantics.specs.Membership.{is_pair, is_part, is_set}
use Rattle.ess_semantics.specs.Meaning.{TypeEntry, type_entry}
use Rattle.ess_semantics.specs.TypeMembers.{is_of_named, is_of, is_tuple_of, are_of}
use Rattle.ess_semantics.proofs.Orders.{text_exact, order_exact, equal-of}
use Rattle.ess_semantics.proofs.Tests.{and-left, and-right, and-both}

-- ---- tests on lists

-- What holds of each item where f does.
pub all-map : {A : Type 0} (f h : A → Bool) (xs : List A) → ((x : A) → f x ≡ true → h x ≡ true) → list_all f xs ≡ true →
    list_all h xs ≡ true
all-map f h [] k p = refl
all-map f h (x ∷ xs) k p = and-both (h x) (list_all h xs) (k x (and-left (f x) (list_all f xs) p))
    (all-map f h xs k (and-right (f x) (list_all f xs) p))

-- Of no item a test holds that fails always.
all-never : {A : Type 0} (f : A → Bool) (xs : List A) → ((x : A) → f x ≡ false) → list_all f xs ≡ true → xs ≡ []
all-never f [] n p = refl
all-never f (x ∷ xs) n p = let e : f x ≡ true = and-left (f x) (list_all f xs) p in let q : false ≡ true = sym (n x) ∙ e in cc

-- Both of two tests.
pub two-map : (a b a' b' : Bool) → (a ≡ true → a' ≡ true) → (b ≡ true → b' ≡ true) → a && b ≡ true → a' && b' ≡ true
two-map a b a' b' f g p = and-both a' b' (f (and-left a b p)) (g (and-right a b p))

-- Names that count as equal are equal.
same_text-equal : (a b : Text) → same_text a b ≡ true → a ≡ b
same_text-equal a b e = text_exact a b (equal-of (order_text a b) e)

-- Kinds that count as equal are equal.
kind-equal : (k l : Kind) → same_kind k l ≡ true → k ≡ l
kind-equal k l e = let q : node k nil ≡ node l nil = order_exact (node k nil) (node l nil)
    (ap (λ o. ordering_then o Equal) (equal-of (order_kind k l) e)) in cc

module _ (p : Bool) (es : List TypeEntry) where
  -- The value has the type.
  abbrev pub Of : Ty → Value → Type 0
  Of t v = is_of p es t v ≡ true

  -- Each value of the first type has the second one.
  abbrev pub Sub : Ty → Ty → Type 0
  Sub t w = (v : Value) → Of t v → Of w v

  -- The same of lists of types, one by one.
  abbrev pub Subs : Tys → Tys → Type 0
  Subs no_tys no_tys = Unit {0}
  Subs (more_tys t ts) (more_tys w ws) = Sub t w × Subs ts ws
  Subs _ _ = ⊥

  -- ---- compound types

  pub are-sub : (ts ws : Tys) (vs : List Value) → Subs ts ws → are_of p es ts vs ≡ true → are_of p es ws vs ≡ true
  are-sub no_tys no_tys vs s h = h
  are-sub (more_tys t ts) (more_tys w ws) [] s h = cc
  are-sub (more_tys t ts) (more_tys w ws) (v ∷ vs) s h = two-map (is_of p es t v) (are_of p es ts vs) (is_of p es w v) (are_of p es ws vs)
      (s.0 v) (are-sub ts ws vs s.1) h
  are-sub no_tys (more_tys w ws) vs s h = absurd s
  are-sub (more_tys t ts) no_tys vs s h = absurd s

  tuple-sub : (ts ws : Tys) (v : Value) → Subs ts ws → is_tuple_of p es ts v ≡ true → is_tuple_of p es ws v ≡ true
  tuple-sub (more_tys t ts) (more_tys w ws) (tuple (cons v vs)) s h =
      two-map (is_of p es t v) (are_of p es ts (to_list vs)) (is_of p es w v) (are_of p es ws (to_list vs)) (s.0 v)
      (are-sub ts ws (to_list vs) s.1) h
  tuple-sub no_tys (more_tys w ws) v s h = absurd s
  tuple-sub (more_tys t ts) no_tys v s h = absurd s
  tuple-sub _ ws v s h = cc

  part-sub : (t w : Ty) (x : Value) → Sub t w → is_part (is_of p es t) x ≡ true → is_part (is_of p es w) x ≡ true
  part-sub t w x s h =
      and-both (is_set x && rises itself (items_of x) && not (is_empty (items_of x))) (list_all (is_of p es w) (items_of x))
      (and-left (is_set x && rises itself (items_of x) && not (is_empty (items_of x))) (list_all (is_of p es t) (items_of x)) h)
      (all-map (is_of p es t) (is_of p es w) (items_of x) s
      (and-right (is_set x && rises itself (items_of x) && not (is_empty (items_of x))) (list_all (is_of p es t) (items_of x)) h))

  pair-sub : (t u t' u' : Ty) (x : Value) → Sub t t' → Sub u u' → is_pair x && is_of p es t (from_of x) && is_of p es u (to_of x) ≡ true →
      is_pair x && is_of p es t' (from_of x) && is_of p es u' (to_of x) ≡ true
  pair-sub t u t' u' x s r h =
      two-map (is_pair x && is_of p es t (from_of x)) (is_of p es u (to_of x)) (is_pair x && is_of p es t' (from_of x))
      (is_of p es u' (to_of x))
      (two-map (is_pair x) (is_of p es t (from_of x)) (is_pair x) (is_of p es t' (from_of x)) (λ q. q) (s (from_of x))) (r (to_of x)) h

  -- Parts of wider types make a wider type.
  pub compound-sub : (k : Kind) (ts ws : Tys) → Subs ts ws → Sub (compound k ts) (compound k ws)
  compound-sub a_tuple ts ws s (tuple vs) o = are-sub ts ws (to_list vs) s o
  compound-sub (a_record fs) ts ws s (node (a_record gs) vs) o =
      two-map (same_texts fs gs) (are_of p es ts (to_list vs)) (same_texts fs gs) (are_of p es ws (to_list vs)) (λ q. q)
      (are-sub ts ws (to_list vs) s) o
  compound-sub a_matrix (more_tys t (more_tys u no_tys)) (more_tys t' (more_tys u' no_tys)) s (matrix is xs) o =
      two-map (rises itself (to_list is) && nat_eq (length (to_list is)) (length (to_list xs)) && list_all (is_of p es t) (to_list is))
      (list_all (is_of p es u) (to_list xs))
      (rises itself (to_list is) && nat_eq (length (to_list is)) (length (to_list xs)) && list_all (is_of p es t') (to_list is))
      (list_all (is_of p es u') (to_list xs))
      (two-map (rises itself (to_list is) && nat_eq (length (to_list is)) (length (to_list xs))) (list_all (is_of p es t) (to_list is))
      (rises itself (to_list is) && nat_eq (length (to_list is)) (length (to_list xs))) (list_all (is_of p es t') (to_list is)) (λ q. q)
      (all-map (is_of p es t) (is_of p es t') (to_list is) s.0))
      (all-map (is_of p es u) (is_of p es u') (to_list xs) s.1.0) o
  compound-sub a_set (more_tys t no_tys) (more_tys t' no_tys) s (node a_set vs) o =
      two-map (rises itself (to_list vs)) (list_all (is_of p es t) (to_list vs)) (rises itself (to_list vs))
      (list_all (is_of p es t') (to_list vs)) (λ q. q)
      (all-map (is_of p es t) (is_of p es t') (to_list vs) s.0) o
  compound-sub a_mset (more_tys t no_tys) (more_tys t' no_tys) s (node a_mset vs) o =
      two-map (rises_weakly (to_list vs)) (list_all (is_of p es t) (to_list vs)) (rises_weakly (to_list vs))
      (list_all (is_of p es t') (to_list vs)) (λ q. q)
      (all-map (is_of p es t) (is_of p es t') (to_list vs) s.0) o
  compound-sub a_function (more_tys t (more_tys u no_tys)) (more_tys t' (more_tys u' no_tys)) s (node a_function ps) o =
      two-map (rises from_of (to_list ps)) (list_all (λ x. is_pair x && is_of p es t (from_of x) && is_of p es u (to_of x)) (to_list ps))
      (rises from_of (to_list ps)) (list_all (λ x. is_pair x && is_of p es t' (from_of x) && is_of p es u' (to_of x)) (to_list ps)) (λ q. q)
      (all-map (λ x. is_pair x && is_of p es t (from_of x) && is_of p es u (to_of x))
      (λ x. is_pair x && is_of p es t' (from_of x) && is_of p es u' (to_of x)) (to_list ps)
      (λ x. pair-sub t u t' u' x s.0 s.1.0)) o
  compound-sub a_relation ts ws s (node a_relation xs) o =
      two-map (rises itself (to_list xs)) (list_all (is_tuple_of p es ts) (to_list xs)) (rises itself (to_list xs))
      (list_all (is_tuple_of p es ws) (to_list xs)) (λ q. q)
      (all-map (is_tuple_of p es ts) (is_tuple_of p es ws) (to_list xs) (λ x. tuple-sub ts ws x s)) o
  compound-sub a_partition (more_tys t no_tys) (more_tys t' no_tys) s (node a_partition ps) o =
      two-map (rises itself (to_list ps) && list_all (is_part (is_of p es t)) (to_list ps)) (not (has_overlap (to_list ps)))
      (rises itself (to_list ps) && list_all (is_part (is_of p es t')) (to_list ps)) (not (has_overlap (to_list ps)))
      (two-map (rises itself (to_list ps)) (list_all (is_part (is_of p es t)) (to_list ps)) (rises itself (to_list ps))
      (list_all (is_part (is_of p es t')) (to_list ps)) (λ q. q)
      (all-map (is_part (is_of p es t)) (is_part (is_of p es t')) (to_list ps) (λ x. part-sub t t' x s.0))) (λ q. q) o
  compound-sub a_matrix (more_tys t (more_tys u no_tys)) no_tys s v o = absurd s
  compound-sub a_matrix (more_tys t (more_tys u no_tys)) (more_tys t' no_tys) s v o = absurd s.1
  compound-sub a_matrix (more_tys t (more_tys u no_tys)) (more_tys t' (more_tys u' (more_tys x xs))) s v o = absurd s.1.1
  compound-sub a_function (more_tys t (more_tys u no_tys)) no_tys s v o = absurd s
  compound-sub a_function (more_tys t (more_tys u no_tys)) (more_tys t' no_tys) s v o = absurd s.1
  compound-sub a_function (more_tys t (more_tys u no_tys)) (more_tys t' (more_tys u' (more_tys x xs))) s v o = absurd s.1.1
  compound-sub a_set (more_tys t no_tys) no_tys s v o = absurd s
  compound-sub a_set (more_tys t no_tys) (more_tys t' (more_tys x xs)) s v o = absurd s.1
  compound-sub a_mset (more_tys t no_tys) no_tys s v o = absurd s
  compound-sub a_mset (more_tys t no_tys) (more_tys t' (more_tys x xs)) s v o = absurd s.1
  compound-sub a_partition (more_tys t no_tys) no_tys s v o = absurd s
  compound-sub a_partition (more_tys t no_tys) (more_tys t' (more_tys x xs)) s v o = absurd s.1
  compound-sub _ ts ws s v o = cc

  -- ---- named types

  named-sub : (a b : Text) → same_text a b ≡ true → Sub (named_ty b) (named_ty a)
  named-sub a b e v o = subst (λ c. is_of_named p c (type_entry es c) v ≡ true) (sym (same_text-equal a b e)) o

  -- ---- relations of unknown arity

  -- The only one is the empty relation, which has every relation's type.
  open-sub : (k : Kind) (ws : Tys) → is_open k no_tys ≡ true → Sub (compound k no_tys) (compound k ws)
  open-sub a_relation ws e (node a_relation xs) o =
      let n : to_list xs ≡ [] = all-never (is_tuple_of p es no_tys) (to_list xs) (λ x. no-tuple x)
      (and-right (rises itself (to_list xs)) (list_all (is_tuple_of p es no_tys) (to_list xs)) o) in
      subst (λ l. rises itself l && list_all (is_tuple_of p es ws) l ≡ true) (sym n) refl
    where
      no-tuple : (x : Value) → is_tuple_of p es no_tys x ≡ false
      no-tuple x = refl
  open-sub _ ws e v o = cc

  -- ---- types that agree

  -- The values of both types have the third one.
  abbrev pub BothSub : Ty → Ty → Ty → Type 0
  BothSub t u w = Sub t w × Sub u w

  -- The same of lists of types.
  abbrev pub BothSubs : Tys → Tys → Tys → Type 0
  BothSubs ts us ws = Subs ts ws × Subs us ws

  same-sub : (t w : Ty) → t ≡ w → Sub t w
  same-sub t w e v o = subst (λ x. Of x v) e o

  from-any : (w : Ty) → Sub any_ty w
  from-any w v o = cc

  with-any : (t w : Ty) → Some t ≡ Some w → BothSub t any_ty w
  with-any t w e = let q : t ≡ w = cc in (same-sub t w q, from-any w)

  whole-sub : (k : Kind) (ts ws : Tys) → ts ≡ ws → Sub (compound k ts) (compound k ws)
  whole-sub k ts ws e v o = subst (λ x. Of (compound k x) v) e o

  named-both : (a b : Text) (w : Ty) (q : Bool) → same_text a b ≡ q → when q (named_ty a) ≡ Some w → BothSub (named_ty a) (named_ty b) w
  named-both a b w true h e = let r : named_ty a ≡ w = cc in (same-sub (named_ty a) w r, λ v o. subst (λ x. Of x v) r (named-sub a b h v o))
  named-both a b w false h e = cc

  -- the join of the parts of two compound types of one kind
  abbrev parts_joined : Kind → Tys → Tys → Option Tys
  parts_joined k ts us = if is_open k ts then Some us else (if is_open k us then Some ts else joins ts us)

  none-open : (k : Kind) (ts : Tys) → is_open k ts ≡ true → (ws : Tys) → Sub (compound k ts) (compound k ws)
  none-open k no_tys e ws = open-sub k ws e
  none-open a_relation (more_tys t ts) e ws = cc
  none-open a_tuple (more_tys t ts) e ws = cc
  none-open a_matrix (more_tys t ts) e ws = cc
  none-open a_set (more_tys t ts) e ws = cc
  none-open a_mset (more_tys t ts) e ws = cc
  none-open a_function (more_tys t ts) e ws = cc
  none-open a_partition (more_tys t ts) e ws = cc
  none-open (a_record fs) (more_tys t ts) e ws = cc

  compound-both : (k : Kind) (ts us ws : Tys) → ((vs : Tys) → joins ts us ≡ Some vs → BothSubs ts us vs) → parts_joined k ts us ≡ Some ws →
      BothSub (compound k ts) (compound k us) (compound k ws)
  compound-both k ts us ws f e = go (is_open k ts) (is_open k us) refl refl e
    where
      go : (a b : Bool) → is_open k ts ≡ a → is_open k us ≡ b → (if a then Some us else (if b then Some ts else joins ts us)) ≡ Some ws →
          BothSub (compound k ts) (compound k us) (compound k ws)
      go true b p q e = let r : us ≡ ws = cc in (none-open k ts p ws, whole-sub k us ws r)
      go false true p q e = let r : ts ≡ ws = cc in (whole-sub k ts ws r, none-open k us q ws)
      go false false p q e = let s = f ws e in (compound-sub k ts ws s.0, compound-sub k us ws s.1)

  kinds-both : (k l : Kind) (ts us : Tys) (w : Ty) → ((vs : Tys) → joins ts us ≡ Some vs → BothSubs ts us vs) →
      (if same_kind k l then option_map (compound k) (parts_joined k ts us) else None) ≡ Some w → BothSub (compound k ts) (compound l us) w
  kinds-both k l ts us w f e = go (same_kind k l) refl e
    where
      at : (l : Kind) → k ≡ l → (o : Option Tys) → parts_joined k ts us ≡ o → option_map (compound k) o ≡ Some w →
          BothSub (compound k ts) (compound l us) w
      at l r None q e = cc
      at l r (Some ws) q e =
          let z : compound k ws ≡ w = cc in
          subst (λ x. BothSub (compound k ts) (compound l us) x) z
          (subst (λ j. BothSub (compound k ts) (compound j us) (compound k ws)) r (compound-both k ts us ws f q))

      go : (b : Bool) → same_kind k l ≡ b → (if b then option_map (compound k) (parts_joined k ts us) else None) ≡ Some w →
          BothSub (compound k ts) (compound l us) w
      go true q e = at l (kind-equal k l q) (parts_joined k ts us) refl e
      go false q e = cc

  pair-both : (t u : Ty) (ts us ws : Tys) → ((w : Ty) → join t u ≡ Some w → BothSub t u w) →
      ((vs : Tys) → joins ts us ≡ Some vs → BothSubs ts us vs) →
      and_then (join t u) (λ v. option_map (more_tys v) (joins ts us)) ≡ Some ws → BothSubs (more_tys t ts) (more_tys u us) ws
  pair-both t u ts us ws f g e = go (join t u) (joins ts us) refl refl e
    where
      go : (a : Option Ty) (b : Option Tys) → join t u ≡ a → joins ts us ≡ b → and_then a (λ v. option_map (more_tys v) b) ≡ Some ws →
          BothSubs (more_tys t ts) (more_tys u us) ws
      go None b p q e = cc
      go (Some w) None p q e = cc
      go (Some w) (Some vs) p q e =
          let z : more_tys w vs ≡ ws = cc in let x = f w p in let y = g vs q in
          subst (λ x. BothSubs (more_tys t ts) (more_tys u us) x) z ((x.0, y.0), (x.1, y.1))

  mutual
    -- The values of two types that agree have the type with which both agree.
    pub join-both : (t u w : Ty) → join t u ≡ Some w → BothSub t u w
    join-both any_ty u w e = let q : u ≡ w = cc in (from-any w, same-sub u w q)
    join-both bool_ty any_ty w e = with-any bool_ty w e
    join-both bool_ty bool_ty w e = let q : bool_ty ≡ w = cc in (same-sub bool_ty w q, same-sub bool_ty w q)
    join-both int_ty any_ty w e = with-any int_ty w e
    join-both int_ty int_ty w e = let q : int_ty ≡ w = cc in (same-sub int_ty w q, same-sub int_ty w q)
    join-both (named_ty a) any_ty w e = with-any (named_ty a) w e
    join-both (named_ty a) (named_ty b) w e = named-both a b w (same_text a b) refl e
    join-both (compound k ts) any_ty w e = with-any (compound k ts) w e
    join-both (compound k ts) (compound l us) w e = kinds-both k l ts us w (joins-both ts us) e
    join-both _ u w e = cc

    joins-both : (ts us ws : Tys) → joins ts us ≡ Some ws → BothSubs ts us ws
    joins-both no_tys no_tys no_tys e = (tt, tt)
    joins-both no_tys no_tys (more_tys w ws) e = cc
    joins-both (more_tys t ts) (more_tys u us) ws e = pair-both t u ts us ws (join-both t u) (joins-both ts us) e
    joins-both no_tys (more_tys u us) ws e = cc
    joins-both (more_tys t ts) no_tys ws e = cc

  -- ---- all types of a list agree

  -- Each value has its type.
  abbrev pub OfEach : List Ty → List Value → Type 0
  OfEach [] [] = Unit {0}
  OfEach (t ∷ ts) (v ∷ vs) = Of t v × OfEach ts vs
  OfEach _ _ = ⊥

  -- Where all types agree with one, all values have it.
  pub all-joined : (ts : List Ty) (vs : List Value) (w : Ty) → join_all ts ≡ Some w → OfEach ts vs → list_all (is_of p es w) vs ≡ true
  all-joined [] [] w e o = refl
  all-joined (t ∷ ts) (v ∷ vs) w e o = go (λ u q. all-joined ts vs u q o.1) (join_all ts) refl e
    where
      go : ((u : Ty) → join_all ts ≡ Some u → list_all (is_of p es u) vs ≡ true) → (u : Option Ty) → join_all ts ≡ u →
          and_then u (join t) ≡ Some w → list_all (is_of p es w) (v ∷ vs) ≡ true
      go ih None q r = cc
      go ih (Some u) q r =
          let b = join-both t u w r in
          and-both (is_of p es w v) (list_all (is_of p es w) vs) (b.0 v o.0) (all-map (is_of p es u) (is_of p es w) vs b.1 (ih u q))
  all-joined [] (v ∷ vs) w e o = absurd o
  all-joined (t ∷ ts) [] w e o = absurd o
