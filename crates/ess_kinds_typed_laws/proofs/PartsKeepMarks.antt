-- Rules of parts of views keep marks: components and items, children asked, flags and results at an argument.
use Rattle.std.proofs.Common.{refl, ℕ, suc, Bool, true, false, List, [], ◌∷◌, Some, drop, take, Option, None, zero, if◌then◌else◌}
use Rattle.ess_semantics.specs.declared.words.Fun.{Fun}
use Rattle.ess_semantics.specs.declared.words.Op1.{Op1}
use Rattle.ess_semantics.specs.declared.words.Op2.{Op2}
use Rattle.ess_semantics.specs.declared.words.ReprKind.{ReprKind}
use Rattle.ess_semantics.specs.Lists.{and_then}
use Rattle.ess_semantics.specs.Names.{Names}
use Rattle.ess_semantics.specs.Order.{same_text}
use Rattle.ess_semantics.specs.Representations.{width}
use Rattle.ess_semantics.specs.Trees.{Repr, Ex, Exs, name_ex, Dom, word, repr, no_reprs, more_reprs, Reprs, Doms, more_doms, fun1, no_exs, more_exs, no_doms, tuple_dom, record_dom, matrix_dom, function_dom, ex1, ex2, seen_ex, node_ex, tuple_literal, index, to_component, Op, to_field, by_value, application}
use Rattle.ess_semantics.specs.Types.{Ty}
use Rattle.ess_semantics.specs.Values.{Text}
use Rattle.ess_kind_rules_laws.specs.KindRules.{asks_truth, asked_of_its_child}
use Rattle.ess_kind_types_laws.proofs.ListingsTyped.{last-marked}
use Rattle.ess_kind_types_laws.proofs.SetsKeepMarks.{append-marked}
use Rattle.ess_refine_laws.specs.AllRules.{Supply, OfSome}
use Rattle.ess_refine_laws.specs.MarksStay.{HasMarks, HaveMarks, DomHasMarks, DomsHaveMarks}
use Rattle.ess_rules_laws.specs.FunctionKeys.{result_at_argument, lookup_behind_flag, flag_of, defined_where_flagged, flagged_view_at, result_behind_flag, view_at, fitting_result, fits_mark}
use Rattle.ess_rules_laws.specs.FunctionViews.{append_exs, result_at}
use Rattle.ess_rules_laws.specs.Lookups.{select_whole, picking}
use Rattle.ess_rules_laws.specs.SetListings.{put_last}
use Rattle.ess_rules_marks_laws.proofs.Grows.{Grows, as_it_is, a_node, a_comp, none_grow, more_grow, no_gens_grow, from_grows, MarksGrow}
use Rattle.ess_views_laws.specs.ChildViews.{kept_as, asked_of_child}
use Rattle.ess_views_laws.specs.ComponentViews.{component_view, child_at, child_of_field}
use Rattle.ess_views_laws.specs.MatrixViews.{item_view, behind_index}
use Rattle.ess_kinds_typed_laws.proofs.KeptMarks.{kept-marks}
use Rattle.ess_kinds_typed_laws.specs.KindsTyped.{KeptTyped, KindsTyped}

module _ (g : Names Ty) where
  -- ---- components and items

  child-marks : (k : ℕ) (rs : Reprs) (ds : Doms) (ns : List Text) (js : Exs) → DomsHaveMarks ds g → HaveMarks js g →
      OfSome (child_at k rs ds ns js) (λ f. HasMarks f g)
  child-marks (suc zero) (more_reprs r rs) (more_doms d ds) ns js h l = (h.0, l)
  child-marks (suc (suc k)) (more_reprs r rs) (more_doms d ds) ns js h l = child-marks (suc k) rs ds (drop (width r) ns) js h.1 l
  child-marks zero rs ds ns js h l = tt
  child-marks (suc zero) no_reprs ds ns js h l = tt
  child-marks (suc zero) (more_reprs r rs) no_doms ns js h l = tt
  child-marks (suc (suc k)) no_reprs ds ns js h l = tt
  child-marks (suc (suc k)) (more_reprs r rs) no_doms ns js h l = tt

  field-marks : (a : Text) (fs : List Text) (rs : Reprs) (ds : Doms) (ns : List Text) (js : Exs) → DomsHaveMarks ds g → HaveMarks js g →
      OfSome (child_of_field a fs rs ds ns js) (λ f. HasMarks f g)
  field-marks a [] rs ds ns js h l = tt
  field-marks a (f ∷ fs) no_reprs ds ns js h l = tt
  field-marks a (f ∷ fs) (more_reprs r rs) no_doms ns js h l = tt
  field-marks a (f ∷ fs) (more_reprs r rs) (more_doms d ds) ns js h l =
      go (same_text f a) (field-marks a fs rs ds (drop (width r) ns) js h.1 l)
    where
      go : (c : Bool) → OfSome (child_of_field a fs rs ds (drop (width r) ns) js) (λ f. HasMarks f g) →
          OfSome (if c then Some (seen_ex r d (take (width r) ns) js) else child_of_field a fs rs ds (drop (width r) ns) js)
          (λ f. HasMarks f g)
      go true k = (h.0, l)
      go false k = k

  as-marked : (e : Ex) (o : Option Ex) → (HasMarks e g → OfSome o (λ f. HasMarks f g)) → MarksGrow g e o
  as-marked e None h = tt
  as-marked e (Some f) h = λ m. as_it_is (h m)

  -- Components and fields.
  pub component-marks : (e : Ex) → MarksGrow g e (component_view e)
  component-marks (node_ex b (index (to_component k ∷ [])) (more_exs (seen_ex (repr ReprKind.Tuple rs) (tuple_dom ds) ns js) no_exs)) =
      as-marked (node_ex b (index (to_component k ∷ [])) (more_exs (seen_ex (repr ReprKind.Tuple rs) (tuple_dom ds) ns js) no_exs))
      (child_at k rs ds ns js) (λ m. child-marks k rs ds ns js m.1.0.0 m.1.0.1)
  component-marks (node_ex b (index (to_field a ∷ [])) (more_exs (seen_ex (repr ReprKind.Rec rs) (record_dom fs ds) ns js) no_exs)) =
      as-marked (node_ex b (index (to_field a ∷ [])) (more_exs (seen_ex (repr ReprKind.Rec rs) (record_dom fs ds) ns js) no_exs))
      (child_of_field a fs rs ds ns js) (λ m. field-marks a fs rs ds ns js m.1.0.0 m.1.0.1)
  component-marks _ = tt

  -- An item of a matrix.
  pub behind-marks : (r : Repr) (is : Doms) (d : Dom) (ns : List Text) (js : Exs) → DomsHaveMarks is g → DomHasMarks d g → HaveMarks js g →
      HasMarks (behind_index r is d ns js) g
  behind-marks r no_doms d ns js h k l = (k, l)
  behind-marks r (more_doms i is) d ns js h k l = ((h, k), l)

  item-marks : (e : Ex) → MarksGrow g e (item_view e)
  item-marks (node_ex b (index (by_value ∷ []))
      (more_exs (seen_ex (repr ReprKind.Matrix (more_reprs r no_reprs)) (matrix_dom (more_doms i is) d) ns js) (more_exs a no_exs))) =
      λ m. as_it_is (behind-marks r is d ns (put_last js a) m.1.0.0.0.1 m.1.0.0.1 (last-marked js a g m.1.0.1 m.1.1.0))
  item-marks _ = tt

  at-truth-marks : (c : Bool) (e : Ex) (o : Option Ex) → MarksGrow g e o → MarksGrow g e (if c then o else None)
  at-truth-marks true e o h = h
  at-truth-marks false e o h = tt

  -- Items at a place for truth values.
  pub truth-item-marks : (e : Ex) → MarksGrow g e (if asks_truth e then item_view e else None)
  truth-item-marks e = at-truth-marks (asks_truth e) e (item_view e) (item-marks e)

  -- ---- flags and results

  flag-marks : (f a : Ex) → MarksGrow g (ex2 true Op2.Member a (fun1 false Fun.Defined f)) (flag_of f a)
  flag-marks (seen_ex (repr ReprKind.Function1DPartial (more_reprs r no_reprs)) (function_dom ms es d c) (m ∷ ns) js) a =
      λ h. as_it_is (append-marked g js (more_exs a no_exs) h.1.1.0.1.0.1 (h.1.0, tt))
  flag-marks (seen_ex (repr ReprKind.FunctionNDPartial (more_reprs r no_reprs)) (function_dom ms es (tuple_dom ds) c) (m ∷ ns) js)
      (node_ex false tuple_literal as') =
      λ h. as_it_is (append-marked g js as' h.1.1.0.1.0.1 h.1.0.1)
  flag-marks _ a = tt

  -- Arguments of functions with flags.
  pub flagged-marks : (e : Ex) → MarksGrow g e (defined_where_flagged e)
  flagged-marks (ex2 true Op2.Member a (fun1 false Fun.Defined f)) = flag-marks f a
  flagged-marks _ = tt

  fitting-marks : (b : Bool) (r : Repr) (c : Dom) (ns : List Text) (js ks : Exs) (e : Ex) →
      (HasMarks e g → DomHasMarks c g × HaveMarks js g × HaveMarks ks g) → MarksGrow g e (fitting_result b r c ns js ks)
  fitting-marks b r c ns js ks e h = go (fits_mark b c)
    where
      go : (x : Bool) → MarksGrow g e (if x then Some (result_at r c ns js ks) else None)
      go true = λ m. let p = h m in as_it_is (p.0, append-marked g js ks p.1 p.2)
      go false = tt

  view-marks : (b : Bool) (op : Op) (f a : Ex) →
      MarksGrow g (node_ex b op (more_exs f (more_exs a no_exs))) (view_at b f a)
  view-marks b op (seen_ex (repr ReprKind.Function1D (more_reprs r no_reprs)) (function_dom ms es d c) ns js) a =
      fitting-marks b r c ns js (more_exs a no_exs) (node_ex b op (more_exs (seen_ex (repr ReprKind.Function1D (more_reprs r no_reprs))
      (function_dom ms es d c) ns js) (more_exs a no_exs))) (λ m. (m.1.0.0.2, m.1.0.1, (m.1.1.0, tt)))
  view-marks b op (seen_ex (repr ReprKind.FunctionND (more_reprs r no_reprs)) (function_dom ms es (tuple_dom ds) c) ns js)
      (node_ex false tuple_literal as') =
      fitting-marks b r c ns js as' (node_ex b op (more_exs (seen_ex (repr ReprKind.FunctionND (more_reprs r no_reprs))
      (function_dom ms es (tuple_dom ds) c) ns js) (more_exs (node_ex false tuple_literal as') no_exs)))
      (λ m. (m.1.0.0.2, m.1.0.1, m.1.1.0.1))
  view-marks b op _ a = tt

  result-marks : (e : Ex) → MarksGrow g e (result_at_argument e)
  result-marks (node_ex b application (more_exs f (more_exs a no_exs))) = view-marks b application f a
  result-marks (node_ex b (word Fun.Image) (more_exs f (more_exs a no_exs))) = view-marks b (word Fun.Image) f a
  result-marks _ = tt

  -- Results of total functions at a place for truth values.
  pub truth-result-marks : (e : Ex) → MarksGrow g e (if asks_truth e then result_at_argument e else None)
  truth-result-marks e = at-truth-marks (asks_truth e) e (result_at_argument e) (result-marks e)

  picked-marks : (x : Text) (r : Repr) (c : Dom) (m : Text) (ns : List Text) (js ks : Exs) → DomHasMarks c g → HaveMarks js g →
      HaveMarks ks g → Grows g (picking true x (result_behind_flag r c m ns js ks) (name_ex x))
  picked-marks x r c m ns js ks h k l =
      let j : HaveMarks (append_exs js ks) g = append-marked g js ks k l in
      a_node refl (more_grow (a_comp (from_grows (as_it_is ((j, tt), (h, j))) no_gens_grow) (as_it_is tt)) none_grow)

  flagged-view-marks : (x : Text) (op : Op) (f a : Ex) →
      MarksGrow g (node_ex true op (more_exs f (more_exs a no_exs)))
      (and_then (flagged_view_at f a) (λ l. select_whole x l (node_ex true op (more_exs f (more_exs a no_exs)))))
  flagged-view-marks x op (seen_ex (repr ReprKind.Function1DPartial (more_reprs r no_reprs)) (function_dom ms es d c) (m ∷ ns) js) a =
      λ h. picked-marks x r c m ns js (more_exs a no_exs) h.1.0.0.2 h.1.0.1 (h.1.1.0, tt)
  flagged-view-marks x op (seen_ex (repr ReprKind.FunctionNDPartial (more_reprs r no_reprs)) (function_dom ms es (tuple_dom ds) c)
      (m ∷ ns) js) (node_ex false tuple_literal as') =
      λ h. picked-marks x r c m ns js as' h.1.0.0.2 h.1.0.1 h.1.1.0.1
  flagged-view-marks x op _ a = tt

  -- Results behind a flag.
  pub behind-flag-marks : (x : Text) (e : Ex) →
      MarksGrow g e (if asks_truth e then and_then (lookup_behind_flag e) (λ l. select_whole x l e) else None)
  behind-flag-marks x (node_ex true application (more_exs f (more_exs a no_exs))) = flagged-view-marks x application f a
  behind-flag-marks x (node_ex true (word Fun.Image) (more_exs f (more_exs a no_exs))) = flagged-view-marks x (word Fun.Image) f a
  behind-flag-marks x _ = tt

  -- ---- children

  child-grows : (e v : Ex) (F : Ex → Ex) → KeptTyped g v → (HasMarks e g → HasMarks v g) →
      ((c : Ex) → HasMarks e g → HasMarks c g → Grows g (F c)) → MarksGrow g e (and_then (kept_as v) (λ c. Some (F c)))
  child-grows e v F i h k = go (kept_as v) (kept-marks g v i)
    where
      go : (o : Option Ex) → (HasMarks v g → OfSome o (λ c. HasMarks c g)) → MarksGrow g e (and_then o (λ c. Some (F c)))
      go None l = tt
      go (Some c) l = λ m. k c m (l (h m))

  -- What children are asked in the place of their views.
  pub asked-marks : (s : Supply) (e : Ex) → KindsTyped s g asked_of_its_child e → MarksGrow g e (asked_of_child e)
  asked-marks s (ex2 true Op2.Member a (fun1 false Fun.ToRelation v)) h =
      child-grows (ex2 true Op2.Member a (fun1 false Fun.ToRelation v)) v (λ c. ex2 true Op2.Member a c) h (λ m. m.1.1.0.1.0)
      (λ c m k. a_node refl (more_grow (as_it_is m.1.0) (more_grow (as_it_is k) none_grow)))
  asked-marks s (ex2 true Op2.Member a (seen_ex r d ns js)) h =
      child-grows (ex2 true Op2.Member a (seen_ex r d ns js)) (seen_ex r d ns js) (λ c. ex2 true Op2.Member a c) h (λ m. m.1.1.0)
      (λ c m k. a_node refl (more_grow (as_it_is m.1.0) (more_grow (as_it_is k) none_grow)))
  asked-marks s (ex2 true Op2.Member a _) h = tt
  asked-marks s (ex1 false Op1.Bar (fun1 false Fun.Parts v)) h =
      child-grows (ex1 false Op1.Bar (fun1 false Fun.Parts v)) v (λ c. ex1 false Op1.Bar c) h (λ m. m.1.0.1.0)
      (λ c m k. a_node refl (more_grow (as_it_is k) none_grow))
  asked-marks s (ex1 false Op1.Bar (seen_ex r d ns js)) h =
      child-grows (ex1 false Op1.Bar (seen_ex r d ns js)) (seen_ex r d ns js) (λ c. ex1 false Op1.Bar c) h (λ m. m.1.0)
      (λ c m k. a_node refl (more_grow (as_it_is k) none_grow))
  asked-marks s (ex1 false Op1.Bar _) h = tt
  asked-marks s _ h = tt
