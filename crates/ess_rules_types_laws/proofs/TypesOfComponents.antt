-- Rules of `=` by components and fields, and of a field of a literal, keep types.
use Rattle.std.proofs.Common.{◌≡◌, refl, sym, ap, ◌∙◌, subst, ℕ, suc, arith, ◌+◌, Bool, true, false, not, ◌&&◌, ◌||◌, if◌then◌else◌, List, [], ◌∷◌, map, Option, Some, None, option_map}
use Rattle.std.specs.Prelude.{is_some}
use Rattle.std.specs.declared.cmp.Ordering.{Ordering}
use Rattle.std.specs.declared.cmp.Ordering.TheVariants.{Less, Equal, Greater}
use Rattle.std.specs.Ordering.{is_eq}
use Rattle.ess_semantics.specs.declared.words.Op2.{Op2}
use Rattle.ess_semantics.specs.Lists.{and_then, all_some, zip}
use Rattle.ess_semantics.specs.Values.{Text, a_tuple, a_record}
use Rattle.ess_semantics.specs.Order.{same_text, order_text, order_texts, same_texts}
use Rattle.ess_semantics.specs.Names.{Names, look, keys, by_name, insert_name, insert_by}
use Rattle.ess_semantics.specs.Trees.{to_component, to_field, binary, index, record_literal, Ex, Exs, node_ex, ex2, no_exs, more_exs}
use Rattle.ess_semantics.specs.Types.{Ty, Tys, bool_ty, no_tys, more_tys, compound, join, joins, tys_of}
use Rattle.ess_semantics.specs.OperatorTypes.{type_of_op}
use Rattle.ess_semantics.specs.Typing.{static, component_ty, field_ty, path_ty, type_of_node, type_of, types_of}
use Rattle.ess_semantics.proofs.Orders.{texts_exact, equal-of}
use Rattle.ess_semantics.proofs.Tests.{and-left, and-right, or-yes}
use Rattle.ess_semantics.proofs.Texts.{same_text-equal, same_text-itself}
use Rattle.ess_rules_laws.specs.ComponentRules.{component_of, equal_from, components, equal_where, equal_components, field_of, has_text, are_fields, equal_each, equal_where_fields, equal_fields}
use Rattle.ess_rules_laws.specs.FieldLiterals.{field_term, field_listed}
use Rattle.ess_guard_types_laws.proofs.JoinedTypes.{Agree}
use Rattle.ess_refine_types_laws.proofs.TypeParts.{two-is, two-to, given-is, TypeKept, truth-for, when-so, equation-type}
use Rattle.ess_refine_types_laws.proofs.TypesOfListed.{heads}

-- ---- types that agree

of-map : (f : Tys → Ty) (o : Option Tys) → is_some (option_map f o) ≡ true → is_some o ≡ true
of-map f None h = h
of-map f (Some x) h = refl

of-test : (c : Bool) (o : Option Ty) → is_some (if c then o else None) ≡ true → is_some o ≡ true
of-test true o h = h
of-test false o h = cc

pub tuples-join : (ts us : Tys) → is_some (join (compound a_tuple ts) (compound a_tuple us)) ≡ true → is_some (joins ts us) ≡ true
tuples-join no_tys no_tys h = refl
tuples-join no_tys (more_tys u us) h = h
tuples-join (more_tys t ts) no_tys h = h
tuples-join (more_tys t ts) (more_tys u us) h = of-map (compound a_tuple) (joins (more_tys t ts) (more_tys u us)) h

pub records-join : (fs gs : List Text) (ts us : Tys) → is_some (join (compound (a_record fs) ts) (compound (a_record gs) us)) ≡ true →
    is_some (joins ts us) ≡ true
records-join fs gs no_tys no_tys h = refl
records-join fs gs no_tys (more_tys u us) h = of-test (same_texts fs gs) None h
records-join fs gs (more_tys t ts) no_tys h = of-test (same_texts fs gs) None h
records-join fs gs (more_tys t ts) (more_tys u us) h =
    of-map (compound (a_record fs)) (joins (more_tys t ts) (more_tys u us))
    (of-test (same_texts fs gs) (option_map (compound (a_record fs)) (joins (more_tys t ts) (more_tys u us))) h)

-- The first types and the others.
pub first-join : (o : Option Ty) (p : Option Tys) → is_some (and_then o (λ v. option_map (more_tys v) p)) ≡ true →
    (is_some o ≡ true) × (is_some p ≡ true)
first-join None p h = (h, cc)
first-join (Some v) None h = (refl, h)
first-join (Some v) (Some vs) h = (refl, refl)

pub some-same : (v w : Ty) → Some v ≡ Some w → v ≡ w
some-same v w e = cc

-- ---- components

pub shifted : (us : Tys) (k : ℕ) (t : Ty) (ts : Tys) → ((j : ℕ) → component_ty us (suc (j + k)) ≡ component_ty (more_tys t ts) (suc j)) →
    (j : ℕ) →
    component_ty us (suc (j + suc k)) ≡ component_ty ts (suc j)
shifted us k t ts h j = ap (λ n. component_ty us (suc n)) (let e : j + suc k ≡ suc j + k = omega arith in e) ∙ h (suc j)

pub here : (us : Tys) (k : ℕ) (t : Ty) (ts : Tys) → ((j : ℕ) → component_ty us (suc (j + k)) ≡ component_ty (more_tys t ts) (suc j)) →
    component_ty us (suc k) ≡ Some t
here us k t ts h = ap (λ n. component_ty us (suc n)) (let e : k ≡ 0 + k = omega arith in e) ∙ h 0

pub start : (us : Tys) (j : ℕ) → component_ty us (suc (j + 0)) ≡ component_ty us (suc j)
start us j = ap (λ n. component_ty us (suc n)) (let e : j + 0 ≡ j = omega arith in e)

module _ (g : Names Ty) where
  pub component-type : (t : Ty) (k : ℕ) (a : Ex) (us : Tys) → type_of a g ≡ Some (compound a_tuple us) → component_ty us k ≡ Some t →
      type_of (component_of t k a) g ≡ Some t
  component-type t k a us p c = ap (λ o. type_of_node (index (to_component k ∷ [])) (static a ∷ []) (o ∷ [])) p
      ∙ ap (λ o. and_then o (λ v. path_ty v [] [] [])) c

  pub field-type : (t : Ty) (f : Text) (a : Ex) (fs : List Text) (us : Tys) → type_of a g ≡ Some (compound (a_record fs) us) →
      field_ty fs us f ≡ Some t → type_of (field_of t f a) g ≡ Some t
  field-type t f a fs us p c = ap (λ o. type_of_node (index (to_field f ∷ [])) (static a ∷ []) (o ∷ [])) p
      ∙ ap (λ o. and_then o (λ v. path_ty v [] [] [])) c

  and-type : (a b : Ex) → type_of a g ≡ Some bool_ty → type_of b g ≡ Some bool_ty → type_of (ex2 true Op2.And a b) g ≡ Some bool_ty
  and-type a b p q = two-to (type_of a g) (type_of b g) (type_of_op (binary Op2.And)) bool_ty bool_ty bool_ty p q refl

  module _ (a b : Ex) (xs ys : Tys) (p : type_of a g ≡ Some (compound a_tuple xs)) (q : type_of b g ≡ Some (compound a_tuple ys)) where
    each-component : (ts us : Tys) (k : ℕ) → is_some (joins ts us) ≡ true →
        ((j : ℕ) → component_ty xs (suc (j + k)) ≡ component_ty ts (suc j)) → ((j : ℕ) →
        component_ty ys (suc (j + k)) ≡ component_ty us (suc j)) →
        type_of (equal_from (suc k) ts us a b) g ≡ Some bool_ty
    each-component no_tys no_tys k h i j = refl
    each-component no_tys (more_tys u us) k h i j = refl
    each-component (more_tys t ts) no_tys k h i j = refl
    each-component (more_tys t ts) (more_tys u us) k h i j =
        let r = first-join (join t u) (joins ts us) h in
        and-type (ex2 true Op2.Eq (component_of t (suc k) a) (component_of u (suc k) b)) (equal_from (suc (suc k)) ts us a b)
        (equation-type g (component_of t (suc k) a) (component_of u (suc k) b) t u
        (component-type t (suc k) a xs p (here xs k t ts i)) (component-type u (suc k) b ys q (here ys k u us j)) r.0)
        (each-component ts us (suc k) r.1 (shifted xs k t ts i) (shifted ys k u us j))

  -- What an equation of these types gives.
  equation-is : (a b : Ex) (v w : Ty) → type_of a g ≡ Some v → type_of b g ≡ Some w → (t : Ty) → type_of (ex2 true Op2.Eq a b) g ≡ Some t →
      Agree v w × (t ≡ bool_ty)
  equation-is a b v w p q t e =
      let r = two-is (type_of a g) (type_of b g) (type_of_op (binary Op2.Eq)) t e in
      let k = given-is (join r.0 r.1) bool_ty t r.4 in (
        subst (λ z. Agree v z) (some-same r.1 w (sym r.3 ∙ q)) (subst (λ z. Agree z r.1) (some-same r.0 v (sym r.2 ∙ p)) k.0),
        k.1,
      )

  pub by-components : (x : Text) (e : Ex) → TypeKept g e (equal_components g x e)
  by-components x (ex2 true Op2.Eq a b) = go (type_of a g) (type_of b g) refl refl
    where
      go : (o p : Option Ty) → type_of a g ≡ o → type_of b g ≡ p →
          TypeKept g (ex2 true Op2.Eq a b) (equal_where (components o) (components p) a b)
      go (Some (compound a_tuple ts)) (Some (compound a_tuple us)) i j =
          truth-for g (ex2 true Op2.Eq a b) (equal_from 1 ts us a b) (λ t q.
          let r = equation-is a b (compound a_tuple ts) (compound a_tuple us) i j t q in
          (r.1, each-component a b ts us i j ts us 0 (tuples-join ts us r.0) (start ts) (start us)))
      go _ _ i j = tt
  by-components x _ = tt

  -- ---- fields

  pub behind-first : (gs : List Text) (ws : Tys) (f : Text) (fs : List Text) (t : Ty) (ts : Tys) → not (has_text fs f) ≡ true →
      ((a : Text) → has_text (f ∷ fs) a ≡ true → field_ty gs ws a ≡ field_ty (f ∷ fs) (more_tys t ts) a) → (a : Text) →
      has_text fs a ≡ true →
      field_ty gs ws a ≡ field_ty fs ts a
  behind-first gs ws f fs t ts n h a q = h a (ap (λ b. same_text f a || b) q ∙ or-yes (same_text f a)) ∙ go (same_text f a) refl
    where
      go : (b : Bool) → same_text f a ≡ b → (if b then Some t else field_ty fs ts a) ≡ field_ty fs ts a
      go true r = let e : has_text fs f ≡ true = ap (has_text fs) (same_text-equal f a r) ∙ q in cc
      go false r = refl

  pub first-field : (gs : List Text) (ws : Tys) (f : Text) (fs : List Text) (t : Ty) (ts : Tys) →
      ((a : Text) → has_text (f ∷ fs) a ≡ true → field_ty gs ws a ≡ field_ty (f ∷ fs) (more_tys t ts) a) → field_ty gs ws f ≡ Some t
  first-field gs ws f fs t ts h =
      h f (ap (λ b. b || has_text fs f) (same_text-itself f)) ∙ ap (λ b. if b then Some t else field_ty fs ts f) (same_text-itself f)

  module _ (a b : Ex) (gs hs : List Text) (xs ys : Tys) (p : type_of a g ≡ Some (compound (a_record gs) xs))
      (q : type_of b g ≡ Some (compound (a_record hs) ys)) where
    each-field : (fs : List Text) (ts us : Tys) → are_fields fs ts us ≡ true → is_some (joins ts us) ≡ true →
        ((c : Text) → has_text fs c ≡ true → field_ty gs xs c ≡ field_ty fs ts c) →
        ((c : Text) → has_text fs c ≡ true → field_ty hs ys c ≡ field_ty fs us c) → type_of (equal_each fs ts us a b) g ≡ Some bool_ty
    each-field [] no_tys no_tys d h i j = refl
    each-field (f ∷ fs) (more_tys t ts) (more_tys u us) d h i j =
        let r = first-join (join t u) (joins ts us) h in
        and-type (ex2 true Op2.Eq (field_of t f a) (field_of u f b)) (equal_each fs ts us a b)
        (equation-type g (field_of t f a) (field_of u f b) t u
        (field-type t f a gs xs p (first-field gs xs f fs t ts i)) (field-type u f b hs ys q (first-field hs ys f fs u us j)) r.0)
        (each-field fs ts us (and-right (not (has_text fs f)) (are_fields fs ts us) d) r.1
        (behind-first gs xs f fs t ts (and-left (not (has_text fs f)) (are_fields fs ts us) d) i)
        (behind-first hs ys f fs u us (and-left (not (has_text fs f)) (are_fields fs ts us) d) j))
    each-field _ _ _ d h i j = cc

  pub by-fields : (x : Text) (e : Ex) → TypeKept g e (equal_fields g x e)
  by-fields x (ex2 true Op2.Eq a b) = go (type_of a g) (type_of b g) refl refl
    where
      go : (o p : Option Ty) → type_of a g ≡ o → type_of b g ≡ p → TypeKept g (ex2 true Op2.Eq a b) (equal_where_fields o p a b)
      go (Some (compound (a_record fs) ts)) (Some (compound (a_record gs) us)) i j =
          when-so g (same_texts fs gs && are_fields fs ts us) (ex2 true Op2.Eq a b) (equal_each fs ts us a b) (λ c.
          truth-for g (ex2 true Op2.Eq a b) (equal_each fs ts us a b) (λ t q.
          let r = equation-is a b (compound (a_record fs) ts) (compound (a_record gs) us) i j t q in
          let l : fs ≡ gs = texts_exact fs gs (equal-of (order_texts fs gs) (and-left (same_texts fs gs) (are_fields fs ts us) c)) in (
            r.1,
            each-field a b fs gs ts us i j fs ts us (and-right (same_texts fs gs) (are_fields fs ts us) c) (records-join fs gs ts us r.0)
                (λ z y. refl) (λ z y. ap (λ k. field_ty k us z) (sym l)),
          )))
      go _ _ i j = tt
  by-fields x _ = tt

  -- ---- a field of a literal

  field-look : (bs : Names Ty) (a : Text) → field_ty (keys bs) (tys_of (map (λ b. b.1) bs)) a ≡ look bs a
  field-look [] a = refl
  field-look (b ∷ bs) a = ap (λ o. if same_text b.0 a then Some b.1 else o) (field-look bs a)

  look-insert : (b : Text × Ty) (cs : Names Ty) (a : Text) → look (insert_name b cs) a ≡ (if same_text b.0 a then Some b.1 else look cs a)
  look-insert b [] a = refl
  look-insert b (c ∷ cs) a = go (order_text b.0 c.0) refl (look-insert b cs a)
    where
      both : order_text b.0 c.0 ≡ Greater → (s t : Bool) → same_text b.0 a ≡ s → same_text c.0 a ≡ t →
          (if t then Some c.1 else (if s then Some b.1 else look cs a)) ≡ (if s then Some b.1 else (if t then Some c.1 else look cs a))
      both q true true i j = absurd (let e : false ≡ true = sym (ap is_eq q) ∙ ap (λ z. same_text z c.0) (same_text-equal b.0 a i
          ∙ sym (same_text-equal c.0 a j)) ∙ same_text-itself c.0 in cc)
      both q true false i j = refl
      both q false true i j = refl
      both q false false i j = refl

      go : (o : Ordering) → order_text b.0 c.0 ≡ o → look (insert_name b cs) a ≡ (if same_text b.0 a then Some b.1 else look cs a) →
          look (insert_by o b c cs (insert_name b cs)) a
          ≡ (if same_text b.0 a then Some b.1 else (if same_text c.0 a then Some c.1 else look cs a))
      go Less q h = refl
      go Equal q h = refl
      go Greater q h = ap (λ o. if same_text c.0 a then Some c.1 else o) h ∙ both q (same_text b.0 a) (same_text c.0 a) refl refl

  look-sorted : (bs : Names Ty) (a : Text) → look (by_name bs) a ≡ look bs a
  look-sorted [] a = refl
  look-sorted (b ∷ bs) a = look-insert b (by_name bs) a ∙ ap (λ o. if same_text b.0 a then Some b.1 else o) (look-sorted bs a)

  term-type : (fs : List Text) (es : Exs) (ts : List Ty) (a : Text) (e : Ex) (t : Ty) → all_some (types_of es g) ≡ Some ts →
      field_term fs es a ≡ Some e → look (zip fs ts) a ≡ Some t → type_of e g ≡ Some t
  term-type [] es ts a e t p q l = cc
  term-type (f ∷ fs) no_exs ts a e t p q l = cc
  term-type (f ∷ fs) (more_exs d es) ts a e t p q l =
      let r = heads (type_of d g) (all_some (types_of es g)) ts p in
      go r.0 r.1 r.2 (subst (λ z. look (zip (f ∷ fs) z) a ≡ Some t) (sym r.4) l) (same_text f a) refl q
      (λ i j. term-type fs es r.1 a e t r.3 i j)
    where
      typed : Option Ex → Option Ty
      typed None = None
      typed (Some c) = type_of c g

      go : (u : Ty) (us : List Ty) → type_of d g ≡ Some u → (if same_text f a then Some u else look (zip fs us) a) ≡ Some t → (s : Bool) →
          same_text f a ≡ s → (if s then Some d else field_term fs es a) ≡ Some e →
          (field_term fs es a ≡ Some e → look (zip fs us) a ≡ Some t → type_of e g ≡ Some t) → type_of e g ≡ Some t
      go u us i l true k q h = ap typed (sym q) ∙ i ∙ ap (λ s. if s then Some u else look (zip fs us) a) (sym k) ∙ l
      go u us i l false k q h = h q (ap (λ s. if s then Some u else look (zip fs us) a) (sym k) ∙ l)

  pub of-literal : (e : Ex) → TypeKept g e (field_listed e)
  of-literal (node_ex b (index (to_field a ∷ [])) (more_exs (node_ex false (record_literal fs) es) no_exs)) = go (field_term fs es a) refl
    where
      root : Ex
      root = node_ex b (index (to_field a ∷ [])) (more_exs (node_ex false (record_literal fs) es) no_exs)

      some-then : (o : Option Ty) (t : Ty) → and_then o (λ v. path_ty v [] [] []) ≡ Some t → o ≡ Some t
      some-then None t q = cc
      some-then (Some v) t q = q

      typed : (e : Ex) → field_term fs es a ≡ Some e → (o : Option (List Ty)) → all_some (types_of es g) ≡ o → (t : Ty) →
          type_of_node (index (to_field a ∷ [])) (static (node_ex false (record_literal fs) es) ∷ [])
          (and_then o (type_of_op (record_literal fs)) ∷ []) ≡ Some t →
          type_of e g ≡ Some t
      typed e q None p t k = cc
      typed e q (Some ts) p t k =
          term-type fs es ts a e t p q (sym (look-sorted (zip fs ts) a) ∙ sym (field-look (by_name (zip fs ts)) a)
          ∙ some-then (field_ty (keys (by_name (zip fs ts))) (tys_of (map (λ b. b.1) (by_name (zip fs ts)))) a) t k)

      go : (o : Option Ex) → field_term fs es a ≡ o → TypeKept g root o
      go None q = tt
      go (Some e) q = typed e q (all_some (types_of es g)) refl
  of-literal _ = tt
