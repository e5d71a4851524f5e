-- Rules of parts of views keep types: components and items, children asked, flags and results at an argument.
use Rattle.std.proofs.Common.{◌≡◌, refl, sym, ap, ◌∙◌, ℕ, suc, Bool, true, false, List, [], ◌∷◌, Some, drop, take, Option, None, zero, if◌then◌else◌}
use Rattle.ess_semantics.specs.declared.words.Fun.{Fun}
use Rattle.ess_semantics.specs.declared.words.Op1.{Op1}
use Rattle.ess_semantics.specs.declared.words.Op2.{Op2}
use Rattle.ess_semantics.specs.declared.words.ReprKind.{ReprKind}
use Rattle.ess_semantics.specs.Lists.{and_then, all_some}
use Rattle.ess_semantics.specs.Names.{Names}
use Rattle.ess_semantics.specs.OperatorTypes.{type_of_op, member_ty}
use Rattle.ess_semantics.specs.Order.{same_text}
use Rattle.ess_semantics.specs.Representations.{width}
use Rattle.ess_semantics.specs.Trees.{Repr, Ex, Exs, name_ex, Dom, word, repr, no_reprs, more_reprs, Reprs, Doms, more_doms, fun1, no_exs, more_exs, no_doms, tuple_dom, record_dom, matrix_dom, function_dom, relation_dom, partition_dom, ex1, ex2, seen_ex, node_ex, tuple_literal, index, to_component, Op, to_field, by_value, application}
use Rattle.ess_semantics.specs.Types.{Ty, type_of_dom, compound, compound2, compound1, types_of_doms, nested_ty, bool_ty}
use Rattle.ess_semantics.specs.Typing.{type_of, static, component_ty, field_ty}
use Rattle.ess_semantics.specs.Values.{Text, a_tuple, a_set, a_function, a_relation, a_partition}
use Rattle.ess_kind_rules_laws.specs.KindRules.{asks_truth, asked_of_its_child}
use Rattle.ess_refine_laws.specs.AllRules.{Supply, OfSome}
use Rattle.ess_refine_laws.specs.TypesStay.{KeepsType}
use Rattle.ess_refine_types_laws.proofs.TypeParts.{new-name, TypeKept, some-over}
use Rattle.ess_rules_laws.specs.FunctionKeys.{result_at_argument, lookup_behind_flag, flag_of, defined_where_flagged, flagged_view_at, result_behind_flag, view_at, fitting_result, fits_mark}
use Rattle.ess_rules_laws.specs.FunctionViews.{result_at}
use Rattle.ess_rules_laws.specs.Lookups.{select_whole}
use Rattle.ess_rules_laws.specs.SetListings.{put_last}
use Rattle.ess_views_laws.specs.ChildViews.{kept_as, asked_of_child}
use Rattle.ess_views_laws.specs.ComponentViews.{component_view, child_at, child_of_field}
use Rattle.ess_views_laws.specs.MatrixViews.{item_view, behind_index}
use Rattle.ess_kinds_typed_laws.proofs.PlacesTyped.{step-is, none-typed, same-asked, tuples-of, applied-is, in-truth, image-is, none-asked, item-is}
use Rattle.ess_kinds_typed_laws.specs.KindsTyped.{KeptTyped, KindsTyped}

module _ (g : Names Ty) where
  -- ---- components

  -- Where there is a type the tree has it.
  abbrev Gives : Option Ty → Ex → Type 0
  Gives o f = (t : Ty) → o ≡ Some t → type_of f g ≡ Some t

  child-type : (k : ℕ) (rs : Reprs) (ds : Doms) (ns : List Text) (js : Exs) →
      OfSome (child_at k rs ds ns js) (Gives (component_ty (types_of_doms ds) k))
  child-type (suc zero) (more_reprs r rs) (more_doms d ds) ns js = λ t q. q
  child-type (suc (suc k)) (more_reprs r rs) (more_doms d ds) ns js = child-type (suc k) rs ds (drop (width r) ns) js
  child-type zero rs ds ns js = tt
  child-type (suc zero) no_reprs ds ns js = tt
  child-type (suc zero) (more_reprs r rs) no_doms ns js = tt
  child-type (suc (suc k)) no_reprs ds ns js = tt
  child-type (suc (suc k)) (more_reprs r rs) no_doms ns js = tt

  field-type : (a : Text) (fs : List Text) (rs : Reprs) (ds : Doms) (ns : List Text) (js : Exs) →
      OfSome (child_of_field a fs rs ds ns js) (Gives (field_ty fs (types_of_doms ds) a))
  field-type a [] rs ds ns js = tt
  field-type a (f ∷ fs) no_reprs ds ns js = tt
  field-type a (f ∷ fs) (more_reprs r rs) no_doms ns js = tt
  field-type a (f ∷ fs) (more_reprs r rs) (more_doms d ds) ns js =
      go (same_text f a) (field-type a fs rs ds (drop (width r) ns) js)
    where
      go : (c : Bool) → OfSome (child_of_field a fs rs ds (drop (width r) ns) js) (Gives (field_ty fs (types_of_doms ds) a)) →
          OfSome (if c then Some (seen_ex r d (take (width r) ns) js) else child_of_field a fs rs ds (drop (width r) ns) js)
          (Gives (if c then Some (type_of_dom d) else field_ty fs (types_of_doms ds) a))
      go true h = λ t q. q
      go false h = h

  stepped : (e : Ex) (o : Option Ty) → type_of e g ≡ and_then o (λ v. Some v) → (p : Option Ex) → OfSome p (Gives o) → TypeKept g e p
  stepped e o i None h = tt
  stepped e o i (Some f) h = λ t q. h t (step-is o t (sym i ∙ q))

  -- Components and fields.
  pub component-type : (e : Ex) → TypeKept g e (component_view e)
  component-type (node_ex b (index (to_component k ∷ [])) (more_exs (seen_ex (repr ReprKind.Tuple rs) (tuple_dom ds) ns js) no_exs)) =
      stepped (node_ex b (index (to_component k ∷ [])) (more_exs (seen_ex (repr ReprKind.Tuple rs) (tuple_dom ds) ns js) no_exs))
      (component_ty (types_of_doms ds) k) refl (child_at k rs ds ns js) (child-type k rs ds ns js)
  component-type (node_ex b (index (to_field a ∷ [])) (more_exs (seen_ex (repr ReprKind.Rec rs) (record_dom fs ds) ns js) no_exs)) =
      stepped (node_ex b (index (to_field a ∷ [])) (more_exs (seen_ex (repr ReprKind.Rec rs) (record_dom fs ds) ns js) no_exs))
      (field_ty fs (types_of_doms ds) a) refl (child_of_field a fs rs ds ns js) (field-type a fs rs ds ns js)
  component-type _ = tt

  -- ---- items

  -- An item of a matrix.
  pub behind-type : (r : Repr) (is : Doms) (d : Dom) (ns : List Text) (js : Exs) →
      type_of (behind_index r is d ns js) g ≡ Some (nested_ty is (type_of_dom d))
  behind-type r no_doms d ns js = refl
  behind-type r (more_doms i is) d ns js = refl

  item-type : (e : Ex) → TypeKept g e (item_view e)
  item-type (node_ex b (index (by_value ∷ []))
      (more_exs (seen_ex (repr ReprKind.Matrix (more_reprs r no_reprs)) (matrix_dom (more_doms i is) d) ns js) (more_exs a no_exs))) =
      λ t q. behind-type r is d ns (put_last js a)
      ∙ ap Some (sym (item-is (type_of_dom i) (nested_ty is (type_of_dom d)) (static a) (type_of a g) t q))
  item-type _ = tt

  -- A rule that asks for the place of a truth value.
  pub at-truth : (c : Bool) (e : Ex) (o : Option Ex) → TypeKept g e o → TypeKept g e (if c then o else None)
  at-truth true e o h = h
  at-truth false e o h = tt

  -- Items at a place for truth values.
  pub truth-item-type : (e : Ex) → TypeKept g e (if asks_truth e then item_view e else None)
  truth-item-type e = at-truth (asks_truth e) e (item_view e) (item-type e)

  -- ---- flags

  flag-type : (f a : Ex) → TypeKept g (ex2 true Op2.Member a (fun1 false Fun.Defined f)) (flag_of f a)
  flag-type (seen_ex (repr ReprKind.Function1DPartial (more_reprs r no_reprs)) (function_dom ms es d c) (m ∷ ns) js) a =
      λ t q. ap Some (sym (in-truth (type_of a g) (Some (compound1 a_set (type_of_dom d))) t q))
  flag-type (seen_ex (repr ReprKind.FunctionNDPartial (more_reprs r no_reprs)) (function_dom ms es (tuple_dom ds) c) (m ∷ ns) js)
      (node_ex false tuple_literal as') =
      λ t q. ap Some (sym (in-truth (type_of (node_ex false tuple_literal as') g) (Some (compound1 a_set (type_of_dom (tuple_dom ds)))) t
      q))
  flag-type _ a = tt

  -- Arguments of functions with flags.
  pub flagged-type : (e : Ex) → TypeKept g e (defined_where_flagged e)
  flagged-type (ex2 true Op2.Member a (fun1 false Fun.Defined f)) = flag-type f a
  flagged-type _ = tt

  -- ---- results

  -- The second tree is a result of the first one, which is a function.
  abbrev IsResult : Ex → Ex → Type 0
  IsResult f e = (d c : Ty) → type_of f g ≡ Some (compound2 a_function d c) → (t : Ty) → type_of e g ≡ Some t → t ≡ c

  application-gives : (b : Bool) (f a : Ex) → IsResult f (node_ex b application (more_exs f (more_exs a no_exs)))
  application-gives b f a d c p t q =
      applied-is d c (type_of a g) t (sym (ap (λ o. and_then (all_some (o ∷ type_of a g ∷ [])) (type_of_op application)) p) ∙ q)

  image-gives : (b : Bool) (f a : Ex) → IsResult f (node_ex b (word Fun.Image) (more_exs f (more_exs a no_exs)))
  image-gives b f a d c p t q =
      image-is d c (type_of a g) t (sym (ap (λ o. and_then (all_some (o ∷ type_of a g ∷ [])) (type_of_op (word Fun.Image))) p) ∙ q)

  fitting-type : (b : Bool) (r : Repr) (c : Dom) (ns : List Text) (js ks : Exs) (e : Ex) →
      ((t : Ty) → type_of e g ≡ Some t → t ≡ type_of_dom c) → TypeKept g e (fitting_result b r c ns js ks)
  fitting-type b r c ns js ks e h = go (fits_mark b c)
    where
      go : (x : Bool) → TypeKept g e (if x then Some (result_at r c ns js ks) else None)
      go true = λ t q. ap Some (sym (h t q))
      go false = tt

  view-type : (b : Bool) (f a e : Ex) → IsResult f e → TypeKept g e (view_at b f a)
  view-type b (seen_ex (repr ReprKind.Function1D (more_reprs r no_reprs)) (function_dom ms es d c) ns js) a e h =
      fitting-type b r c ns js (more_exs a no_exs) e (h (type_of_dom d) (type_of_dom c) refl)
  view-type b (seen_ex (repr ReprKind.FunctionND (more_reprs r no_reprs)) (function_dom ms es (tuple_dom ds) c) ns js)
      (node_ex false tuple_literal as') e h =
      fitting-type b r c ns js as' e (h (type_of_dom (tuple_dom ds)) (type_of_dom c) refl)
  view-type b _ a e h = tt

  result-type : (e : Ex) → TypeKept g e (result_at_argument e)
  result-type (node_ex b application (more_exs f (more_exs a no_exs))) =
      view-type b f a (node_ex b application (more_exs f (more_exs a no_exs))) (application-gives b f a)
  result-type (node_ex b (word Fun.Image) (more_exs f (more_exs a no_exs))) =
      view-type b f a (node_ex b (word Fun.Image) (more_exs f (more_exs a no_exs))) (image-gives b f a)
  result-type _ = tt

  -- Results of total functions at a place for truth values.
  pub truth-result-type : (e : Ex) → TypeKept g e (if asks_truth e then result_at_argument e else None)
  truth-result-type e = at-truth (asks_truth e) e (result_at_argument e) (result-type e)

  -- ---- results behind a flag

  -- The list of a truth value that is looked up.
  truths-type : (r : Repr) (c : Dom) (m : Text) (ns : List Text) (js ks : Exs) → type_of_dom c ≡ bool_ty →
      and_then (type_of (result_behind_flag r c m ns js ks) g) member_ty ≡ Some bool_ty
  truths-type r c m ns js ks h = ap Some h

  picked-type : (x : Text) (r : Repr) (c : Dom) (m : Text) (ns : List Text) (js ks : Exs) (op : Op) (es : Exs) →
      type_of (node_ex true op es) g ≡ Some bool_ty → ((t : Ty) → type_of (node_ex true op es) g ≡ Some t → t ≡ type_of_dom c) →
      TypeKept g (node_ex true op es) (select_whole x (result_behind_flag r c m ns js ks) (node_ex true op es))
  picked-type x r c m ns js ks op es p h = λ t q.
      some-over g x (result_behind_flag r c m ns js ks) (name_ex x) bool_ty (truths-type r c m ns js ks (sym (h bool_ty p)))
      (new-name g x bool_ty) ∙ sym p ∙ q

  flagged-view-type : (x : Text) (f a : Ex) (op : Op) (es : Exs) → type_of (node_ex true op es) g ≡ Some bool_ty →
      IsResult f (node_ex true op es) →
      TypeKept g (node_ex true op es) (and_then (flagged_view_at f a) (λ l. select_whole x l (node_ex true op es)))
  flagged-view-type x (seen_ex (repr ReprKind.Function1DPartial (more_reprs r no_reprs)) (function_dom ms os d c) (m ∷ ns) js) a op es p h =
      picked-type x r c m ns js (more_exs a no_exs) op es p (h (type_of_dom d) (type_of_dom c) refl)
  flagged-view-type x (seen_ex (repr ReprKind.FunctionNDPartial (more_reprs r no_reprs)) (function_dom ms os (tuple_dom ds) c) (m ∷ ns) js)
      (node_ex false tuple_literal as') op es p h =
      picked-type x r c m ns js as' op es p (h (type_of_dom (tuple_dom ds)) (type_of_dom c) refl)
  flagged-view-type x _ a op es p h = tt

  -- Results behind a flag, at a truth value.
  pub behind-flag-type : (x : Text) (e : Ex) → type_of e g ≡ Some bool_ty →
      TypeKept g e (if asks_truth e then and_then (lookup_behind_flag e) (λ l. select_whole x l e) else None)
  behind-flag-type x (node_ex true application (more_exs f (more_exs a no_exs))) p =
      flagged-view-type x f a application (more_exs f (more_exs a no_exs)) p (application-gives true f a)
  behind-flag-type x (node_ex true (word Fun.Image) (more_exs f (more_exs a no_exs))) p =
      flagged-view-type x f a (word Fun.Image) (more_exs f (more_exs a no_exs)) p (image-gives true f a)
  behind-flag-type x _ p = tt

  -- ---- children

  in-child : (a v : Ex) → KeptTyped g v → OfSome (kept_as v) (λ c. KeepsType g (ex2 true Op2.Member a v) (ex2 true Op2.Member a c))
  in-child a (seen_ex (repr ReprKind.RelationAsSet (more_reprs r no_reprs)) (relation_dom ms es ds) ns js) h =
      λ t q. sym (same-asked (type_of a g) (compound a_relation (types_of_doms ds)) (compound1 a_set (compound a_tuple (types_of_doms ds)))
      (ap Some (tuples-of (types_of_doms ds) h))) ∙ q
  in-child a (seen_ex (repr ReprKind.FunctionAsRelation (more_reprs r no_reprs)) (function_dom ms es d c) ns js) h =
      λ t q. absurd (none-asked (type_of a g) (compound2 a_function (type_of_dom d) (type_of_dom c)) t refl q)
  in-child a (seen_ex (repr ReprKind.PartitionAsSet (more_reprs r no_reprs)) (partition_dom ms es d) ns js) h =
      λ t q. absurd (none-asked (type_of a g) (compound1 a_partition (type_of_dom d)) t refl q)
  in-child a _ h = tt

  in-pairs : (a v : Ex) →
      OfSome (kept_as v) (λ c. KeepsType g (ex2 true Op2.Member a (fun1 false Fun.ToRelation v)) (ex2 true Op2.Member a c))
  in-pairs a (seen_ex (repr ReprKind.RelationAsSet (more_reprs r no_reprs)) (relation_dom ms es ds) ns js) =
      λ t q. absurd (none-typed (type_of a g) t q)
  in-pairs a (seen_ex (repr ReprKind.FunctionAsRelation (more_reprs r no_reprs)) (function_dom ms es d c) ns js) = λ t q. q
  in-pairs a (seen_ex (repr ReprKind.PartitionAsSet (more_reprs r no_reprs)) (partition_dom ms es d) ns js) =
      λ t q. absurd (none-typed (type_of a g) t q)
  in-pairs a _ = tt

  child-size : (v : Ex) → OfSome (kept_as v) (λ c. KeepsType g (ex1 false Op1.Bar v) (ex1 false Op1.Bar c))
  child-size (seen_ex (repr ReprKind.RelationAsSet (more_reprs r no_reprs)) (relation_dom ms es ds) ns js) = λ t q. q
  child-size (seen_ex (repr ReprKind.FunctionAsRelation (more_reprs r no_reprs)) (function_dom ms es d c) ns js) = λ t q. q
  child-size (seen_ex (repr ReprKind.PartitionAsSet (more_reprs r no_reprs)) (partition_dom ms es d) ns js) = λ t q. cc
  child-size _ = tt

  parts-size : (v : Ex) → OfSome (kept_as v) (λ c. KeepsType g (ex1 false Op1.Bar (fun1 false Fun.Parts v)) (ex1 false Op1.Bar c))
  parts-size (seen_ex (repr ReprKind.RelationAsSet (more_reprs r no_reprs)) (relation_dom ms es ds) ns js) = λ t q. cc
  parts-size (seen_ex (repr ReprKind.FunctionAsRelation (more_reprs r no_reprs)) (function_dom ms es d c) ns js) = λ t q. cc
  parts-size (seen_ex (repr ReprKind.PartitionAsSet (more_reprs r no_reprs)) (partition_dom ms es d) ns js) = λ t q. q
  parts-size _ = tt

  child-kept : (e : Ex) (F : Ex → Ex) (o : Option Ex) → OfSome o (λ c. KeepsType g e (F c)) → TypeKept g e (and_then o (λ c. Some (F c)))
  child-kept e F None h = tt
  child-kept e F (Some c) h = h

  -- What children are asked in the place of their views.
  pub asked-type : (s : Supply) (e : Ex) → KindsTyped s g asked_of_its_child e → TypeKept g e (asked_of_child e)
  asked-type s (ex2 true Op2.Member a (fun1 false Fun.ToRelation v)) h =
      child-kept (ex2 true Op2.Member a (fun1 false Fun.ToRelation v)) (λ c. ex2 true Op2.Member a c) (kept_as v) (in-pairs a v)
  asked-type s (ex2 true Op2.Member a (seen_ex r d ns js)) h =
      child-kept (ex2 true Op2.Member a (seen_ex r d ns js)) (λ c. ex2 true Op2.Member a c) (kept_as (seen_ex r d ns js))
      (in-child a (seen_ex r d ns js) h)
  asked-type s (ex2 true Op2.Member a _) h = tt
  asked-type s (ex1 false Op1.Bar (fun1 false Fun.Parts v)) h =
      child-kept (ex1 false Op1.Bar (fun1 false Fun.Parts v)) (λ c. ex1 false Op1.Bar c) (kept_as v) (parts-size v)
  asked-type s (ex1 false Op1.Bar (seen_ex r d ns js)) h =
      child-kept (ex1 false Op1.Bar (seen_ex r d ns js)) (λ c. ex1 false Op1.Bar c) (kept_as (seen_ex r d ns js))
      (child-size (seen_ex r d ns js))
  asked-type s (ex1 false Op1.Bar _) h = tt
  asked-type s _ h = tt
