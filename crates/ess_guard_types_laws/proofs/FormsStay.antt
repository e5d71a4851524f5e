-- Guarded, a tree says what it said, and its domains have the types that they had.
use Rattle.std.proofs.Common.{◌≡◌, refl, ap, ◌∙◌, Bool, true, false, ◌&&◌, not, if◌then◌else◌, List, [], ◌∷◌}
use Rattle.ess_semantics.specs.Values.{Text, a_tuple, a_matrix, a_set, a_mset, a_function, a_relation, a_partition, a_record}
use Rattle.ess_semantics.specs.Names.{Names}
use Rattle.ess_semantics.specs.Trees.{Op, index, matrix_literal, Ex, Exs, number_ex, truth_ex, name_ex, node_ex, matrix_ex, comp_ex, cell_ex, seen_ex, no_exs, more_exs, Dom, Doms, bool_dom, int_dom, name_dom, tuple_dom, record_dom, matrix_dom, set_dom, mset_dom, function_dom, relation_dom, partition_dom, no_doms, more_doms}
use Rattle.ess_semantics.specs.Types.{Ty, compound, more_tys, compound1, compound2, type_of_dom, types_of_doms, nested_ty}
use Rattle.ess_semantics.specs.Typing.{static, other, statics}
use Rattle.ess_guard_laws.specs.Origins.{Origin}
use Rattle.ess_guard_laws.specs.Conditions.{chained}
use Rattle.ess_guard_laws.specs.Guard.{connects, guarded, guarded_all, guarded_dom, guarded_doms, conditions, conditions_all}
use Rattle.ess_guard_types_laws.specs.HasTypes.{is_empty_list, indexes_items}

chained-static : (cs : List Ex) (b : Ex) → static b ≡ other → static (chained cs b) ≡ other
chained-static [] b e = e
chained-static (c ∷ cs) b e = refl

chained-full : (cs : List Ex) (b : Ex) → is_empty_list b ≡ false → is_empty_list (chained cs b) ≡ false
chained-full [] b e = e
chained-full (c ∷ cs) b e = refl

chosen-static : (t : Bool) (cs : List Ex) (n m : Ex) → static n ≡ other → static m ≡ other → static (if t then chained cs n else m) ≡ other
chosen-static true cs n m e f = chained-static cs n e
chosen-static false cs n m e f = f

chosen-full : (t : Bool) (cs : List Ex) (n m : Ex) → is_empty_list n ≡ false → is_empty_list m ≡ false →
    is_empty_list (if t then chained cs n else m) ≡ false
chosen-full true cs n m e f = chained-full cs n e
chosen-full false cs n m e f = f

nested-same : (is js : Doms) (t u : Ty) → types_of_doms is ≡ types_of_doms js → t ≡ u → nested_ty is t ≡ nested_ty js u
nested-same no_doms no_doms t u e f = f
nested-same no_doms (more_doms j js) t u e f = cc
nested-same (more_doms i is) no_doms t u e f = cc
nested-same (more_doms i is) (more_doms j js) t u e f =
    let p : type_of_dom i ≡ type_of_dom j = cc in
    let q : types_of_doms is ≡ types_of_doms js = cc in
    ap (λ z. compound2 a_matrix z (nested_ty is t)) p ∙ ap (compound2 a_matrix (type_of_dom j)) (nested-same is js t u q f)

module _ (natural : Bool) (x y : Text) where
  abbrev G : Names Origin → Ex → Ex
  G = guarded natural x y

  abbrev Gs : Names Origin → Exs → Exs
  Gs = guarded_all natural x y

  abbrev C : Names Origin → Bool → Ex → List Ex
  C = conditions natural x y

  abbrev Cs : Names Origin → Bool → Exs → List Ex
  Cs = conditions_all natural x y

  -- ---- what stays of forms

  static-kept : (e : Ex) (k : Names Origin) → static (G k e) ≡ static e
  static-kept (number_ex n) k = refl
  static-kept (truth_ex b) k = refl
  static-kept (name_ex a) k = refl
  static-kept (node_ex b op es) k = chosen-static (b && not (connects op)) _ (node_ex true op (Gs k es)) (node_ex b op (Gs k es)) refl refl
  static-kept (matrix_ex es d) k = refl
  static-kept (comp_ex e gs) k = refl
  static-kept (cell_ex true n es) k = chained-static (Cs k false es) (cell_ex true n (Gs k es)) refl
  static-kept (cell_ex false n es) k = refl
  static-kept (seen_ex r d ns es) k = refl

  pub statics-kept : (es : Exs) (k : Names Origin) → statics (Gs k es) ≡ statics es
  statics-kept no_exs k = refl
  statics-kept (more_exs e es) k = ap (λ s. s ∷ statics (Gs k es)) (static-kept e k) ∙ ap (λ ss. static e ∷ ss) (statics-kept es k)

  full-kept : (e : Ex) (k : Names Origin) → is_empty_list e ≡ false → is_empty_list (G k e) ≡ false
  full-kept (node_ex true op es) k h =
      chosen-full (true && not (connects op)) _ (node_ex true op (Gs k es)) (node_ex true op (Gs k es)) refl refl
  full-kept (node_ex false matrix_literal no_exs) k h = h
  full-kept (node_ex false matrix_literal (more_exs e es)) k h = refl
  full-kept (node_ex false op es) k h = refl
  full-kept (cell_ex true n es) k h = chained-full (Cs k false es) (cell_ex true n (Gs k es)) refl
  full-kept (cell_ex false n es) k h = refl
  full-kept (number_ex n) k h = refl
  full-kept (truth_ex b) k h = refl
  full-kept (name_ex a) k h = refl
  full-kept (matrix_ex es d) k h = refl
  full-kept (comp_ex e gs) k h = refl
  full-kept (seen_ex r d ns es) k h = refl

  not-full : (b : Bool) → not b ≡ true → b ≡ false
  not-full true h = cc
  not-full false h = refl

  pub indexes-kept : (op : Op) (es : Exs) (k : Names Origin) → indexes_items op es ≡ true → indexes_items op (Gs k es) ≡ true
  indexes-kept (index qs) no_exs k h = refl
  indexes-kept (index qs) (more_exs m is) k h = ap not (full-kept m k (not-full (is_empty_list m) h))
  indexes-kept op es k h = refl

  mutual
    -- A domain's type stays.
    pub dom-type : (d : Dom) (k : Names Origin) → type_of_dom (guarded_dom natural x y k d) ≡ type_of_dom d
    dom-type bool_dom k = refl
    dom-type (int_dom rs es) k = refl
    dom-type (name_dom a) k = refl
    dom-type (tuple_dom ds) k = ap (compound a_tuple) (doms-type ds k)
    dom-type (record_dom fs ds) k = ap (compound (a_record fs)) (doms-type ds k)
    dom-type (matrix_dom is d) k = nested-same (guarded_doms natural x y k is) is _ (type_of_dom d) (doms-type is k) (dom-type d k)
    dom-type (set_dom ms es d) k = ap (compound1 a_set) (dom-type d k)
    dom-type (mset_dom ms es d) k = ap (compound1 a_mset) (dom-type d k)
    dom-type (function_dom ms es d c) k =
        ap (λ t. compound2 a_function t (type_of_dom (guarded_dom natural x y k c))) (dom-type d k)
        ∙ ap (compound2 a_function (type_of_dom d)) (dom-type c k)
    dom-type (relation_dom ms es ds) k = ap (compound a_relation) (doms-type ds k)
    dom-type (partition_dom ms es d) k = ap (compound1 a_partition) (dom-type d k)

    doms-type : (ds : Doms) (k : Names Origin) → types_of_doms (guarded_doms natural x y k ds) ≡ types_of_doms ds
    doms-type no_doms k = refl
    doms-type (more_doms d ds) k =
        ap (λ t. more_tys t (types_of_doms (guarded_doms natural x y k ds))) (dom-type d k)
        ∙ ap (more_tys (type_of_dom d)) (doms-type ds k)
