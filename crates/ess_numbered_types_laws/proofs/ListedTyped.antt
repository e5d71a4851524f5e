-- Lists in place of matrices that aren't numbered from 1 have their types, and marks.
use Rattle.std.proofs.Common.{◌≡◌, refl, sym, ap, ◌∙◌, subst, ℕ, zero, suc, Bool, true, false, not, if◌then◌else◌, List, [], ◌∷◌, Option, Some, None, option_map}
use Rattle.std.specs.Prelude.{is_some}
use Rattle.ess_semantics.specs.Lists.{and_then, all_some}
use Rattle.ess_semantics.specs.Values.{Text, a_matrix}
use Rattle.ess_semantics.specs.Order.{same_text}
use Rattle.ess_semantics.specs.Names.{Names}
use Rattle.ess_semantics.specs.Trees.{Repr, by_value, index, matrix_literal, Ex, Exs, node_ex, matrix_ex, seen_ex, no_exs, more_exs, Dom, int_dom, matrix_dom, more_doms}
use Rattle.ess_semantics.specs.Types.{Ty, any_ty, int_ty, compound2, is_bool, join_all, type_of_dom, nested_ty}
use Rattle.ess_semantics.specs.OperatorTypes.{type_of_list, type_of_op}
use Rattle.ess_semantics.specs.Typing.{Static, static, type_of_node, type_of, types_of}
use Rattle.ess_guard_laws.specs.IndexDomains.{first_index, plain_axis, are_plain_bounds}
use Rattle.ess_rules_laws.specs.SourceRules.{list_of}
use Rattle.ess_refine_laws.specs.MarksStay.{MarkFits, HasMarks, HaveMarks}
use Rattle.ess_refine_types_laws.specs.MarksOfContainers.{IsNewTo, AllUseNames}
use Rattle.ess_refine_types_laws.proofs.TypesOfListed.{heads, all-is}
use Rattle.ess_ordered_laws.specs.NumberedItems.{is_from_one}
use Rattle.ess_ordered_types_laws.proofs.SourcesTyped.{item-is, item-marks}
use Rattle.ess_numbered_laws.specs.ListedPicks.{shifted_axis, literal_as_list, view_as_list, with_lists, each_with_lists}

-- ---- an index

-- What the matrix says of itself doesn't matter to its item.
index-type : (o u : Option Ty) (p q s : Static) →
    type_of_node (index (by_value ∷ [])) (p ∷ s ∷ []) (o ∷ u ∷ []) ≡ type_of_node (index (by_value ∷ [])) (q ∷ s ∷ []) (o ∷ u ∷ [])
index-type None u p q s = refl
index-type (Some t) u p q s = refl

-- The matrix has a type where its item has.
index-is : (o u : Option Ty) (p s : Static) (t : Ty) → type_of_node (index (by_value ∷ [])) (p ∷ s ∷ []) (o ∷ u ∷ []) ≡ Some t →
    (v : Ty) × (o ≡ Some v)
index-is None u p s t q = (any_ty, cc)
index-is (Some v) u p s t q = (v, refl)

-- ---- lists

-- A list that has items has the type of a matrix over numbers.
list-type : (o : Option Ty) (p : Option (List Ty)) → and_then (and_then o (λ x. option_map (λ xs. x ∷ xs) p)) type_of_list ≡
    and_then (and_then o (λ x. option_map (λ xs. x ∷ xs) p)) (λ ts. option_map (compound2 a_matrix int_ty) (join_all ts))
list-type None p = refl
list-type (Some x) None = refl
list-type (Some x) (Some xs) = refl

-- It is no truth value.
list-fits : (o : Option (List Ty)) (t : Ty) → and_then o type_of_list ≡ Some t → false ≡ is_bool (Some t)
list-fits None t q = cc
list-fits (Some []) t q = ap (λ p. is_bool p) q
list-fits (Some (x ∷ xs)) t q = go (join_all (x ∷ xs)) q
  where
    go : (p : Option Ty) → option_map (compound2 a_matrix int_ty) p ≡ Some t → false ≡ is_bool (Some t)
    go None q = cc
    go (Some y) q = ap (λ p. is_bool p) q

module _ (x : Text) (g : Names Ty) where
  -- ---- one matrix

  literal-type : (es : Exs) (d : Dom) → type_of (literal_as_list es d) g ≡ type_of (matrix_ex es d) g
  literal-type no_exs d = refl
  literal-type (more_exs e es) (int_dom rs bs) = go (is_from_one (int_dom rs bs))
    where
      go : (b : Bool) → type_of (if is_some (if b then None else Some (int_dom rs bs)) then list_of (more_exs e es)
          else matrix_ex (more_exs e es) (int_dom rs bs)) g ≡ type_of (matrix_ex (more_exs e es) (int_dom rs bs)) g
      go true = refl
      go false = list-type (type_of e g) (all_some (types_of es g))
  literal-type (more_exs e es) _ = refl

  literal-marks : (es : Exs) (d : Dom) (t : Ty) → type_of (matrix_ex es d) g ≡ Some t → HasMarks (matrix_ex es d) g →
      HasMarks (literal_as_list es d) g
  literal-marks no_exs d t q m = m
  literal-marks (more_exs e es) (int_dom rs bs) t q m = go (is_from_one (int_dom rs bs))
    where
      typed : type_of (list_of (more_exs e es)) g ≡ Some t
      typed = list-type (type_of e g) (all_some (types_of es g)) ∙ q

      go : (b : Bool) → HasMarks (if is_some (if b then None else Some (int_dom rs bs)) then list_of (more_exs e es)
          else matrix_ex (more_exs e es) (int_dom rs bs)) g
      go true = m
      go false = (
        subst (λ o. MarkFits false matrix_literal o) (sym typed) (list-fits (all_some (types_of (more_exs e es) g)) t typed),
        m.0,
      )
  literal-marks (more_exs e es) _ t q m = m

  module _ (r : Repr) (ns : List Text) (es : Exs) where
    view-type : (d : Dom) → IsNewTo x (seen_ex r d ns es) →
        type_of (view_as_list x (seen_ex r d ns es) (type_of_dom d) (shifted_axis (plain_axis (first_index (Some d))))) g
        ≡ Some (type_of_dom d)
    view-type (matrix_dom (more_doms (int_dom rs bs) is) c) new = go (are_plain_bounds bs)
      where
        v : Ex
        v = seen_ex r (matrix_dom (more_doms (int_dom rs bs) is) c) ns es

        t : Ty
        t = type_of_dom (matrix_dom (more_doms (int_dom rs bs) is) c)

        shifted : (b : Bool) → type_of (view_as_list x v t (if b then None else Some (int_dom rs bs))) g ≡ Some t
        shifted true = refl
        shifted false =
            ap (option_map (compound2 a_matrix int_ty)) (item-is g x v new int_ty (nested_ty is (type_of_dom c)) int_ty refl refl)

        go : (b : Bool) → type_of (view_as_list x v t (shifted_axis (if b then Some (int_dom rs bs) else None))) g ≡ Some t
        go true = shifted (is_from_one (int_dom rs bs))
        go false = refl
    view-type _ new = refl

    view-marks : (d : Dom) → IsNewTo x (seen_ex r d ns es) → HasMarks (seen_ex r d ns es) g →
        HasMarks (view_as_list x (seen_ex r d ns es) (type_of_dom d) (shifted_axis (plain_axis (first_index (Some d))))) g
    view-marks (matrix_dom (more_doms (int_dom rs bs) is) c) new m = go (are_plain_bounds bs)
      where
        v : Ex
        v = seen_ex r (matrix_dom (more_doms (int_dom rs bs) is) c) ns es

        t : Ty
        t = type_of_dom (matrix_dom (more_doms (int_dom rs bs) is) c)

        shifted : (b : Bool) → HasMarks (view_as_list x v t (if b then None else Some (int_dom rs bs))) g
        shifted true = m
        shifted false = ((m.0.0.0, tt), item-marks g x v new int_ty (nested_ty is (type_of_dom c)) int_ty refl refl m)

        go : (b : Bool) → HasMarks (view_as_list x v t (shifted_axis (if b then Some (int_dom rs bs) else None))) g
        go true = shifted (is_from_one (int_dom rs bs))
        go false = m
    view-marks _ new m = m

  -- ---- what is picked

  mutual
    -- It has the same type.
    pub with-lists-type : (k : ℕ) (e : Ex) → IsNewTo x e → type_of (with_lists x k e) g ≡ type_of e g
    with-lists-type k (node_ex false (index (by_value ∷ [])) (more_exs t (more_exs i no_exs))) n =
        ap (λ o. type_of_node (index (by_value ∷ [])) (static (with_lists x (suc k) t) ∷ static i ∷ []) (o ∷ type_of i g ∷ []))
        (with-lists-type (suc k) t n.0)
        ∙ index-type (type_of t g) (type_of i g) (static (with_lists x (suc k) t)) (static t) (static i)
    with-lists-type (suc k) (node_ex false matrix_literal es) n =
        ap (λ ts. and_then (all_some ts) (type_of_op matrix_literal)) (each-types k es n)
    with-lists-type (suc k) (matrix_ex es d) n =
        ap (λ ts. and_then (all_some ts) (λ us. option_map (compound2 a_matrix (type_of_dom d)) (join_all us))) (each-types k es n.0)
    with-lists-type zero (matrix_ex es d) n = literal-type es d
    with-lists-type zero (seen_ex r d ns es) n = view-type r ns es d n
    with-lists-type k e n = refl

    each-types : (k : ℕ) (es : Exs) → AllUseNames (λ a. not (same_text x a)) es → types_of (each_with_lists x k es) g ≡ types_of es g
    each-types k no_exs n = refl
    each-types k (more_exs e es) n =
        ap (λ o. o ∷ types_of (each_with_lists x k es) g) (with-lists-type k e n.0) ∙ ap (λ ts. type_of e g ∷ ts) (each-types k es n.1)

  mutual
    -- And has marks, where it has a type.
    pub with-lists-marks : (k : ℕ) (e : Ex) (t : Ty) → type_of e g ≡ Some t → IsNewTo x e → HasMarks e g → HasMarks (with_lists x k e) g
    with-lists-marks k (node_ex false (index (by_value ∷ [])) (more_exs a (more_exs i no_exs))) t q n m =
        let r = index-is (type_of a g) (type_of i g) (static a) (static i) t q in (
          subst (λ o. MarkFits false (index (by_value ∷ [])) o)
              (sym (with-lists-type k (node_ex false (index (by_value ∷ [])) (more_exs a (more_exs i no_exs))) n)) m.0,
          (with-lists-marks (suc k) a r.0 r.1 n.0 m.1.0, m.1.1),
        )
    with-lists-marks (suc k) (node_ex false matrix_literal es) t q n m =
        let r = all-is (all_some (types_of es g)) (type_of_op matrix_literal) t q in (
          subst (λ o. MarkFits false matrix_literal o) (sym (with-lists-type (suc k) (node_ex false matrix_literal es) n)) m.0,
          each-marks k es r.0 r.1 n m.1,
        )
    with-lists-marks (suc k) (matrix_ex es d) t q n m =
        let r = all-is (all_some (types_of es g)) (λ ts. option_map (compound2 a_matrix (type_of_dom d)) (join_all ts)) t q in
        (each-marks k es r.0 r.1 n.0 m.0, m.1)
    with-lists-marks zero (matrix_ex es d) t q n m = literal-marks es d t q m
    with-lists-marks zero (seen_ex r d ns es) t q n m = view-marks r ns es d n m
    with-lists-marks k e t q n m = m

    each-marks : (k : ℕ) (es : Exs) (ts : List Ty) → all_some (types_of es g) ≡ Some ts → AllUseNames (λ a. not (same_text x a)) es →
        HaveMarks es g → HaveMarks (each_with_lists x k es) g
    each-marks k no_exs ts q n m = tt
    each-marks k (more_exs e es) ts q n m =
        let r = heads (type_of e g) (all_some (types_of es g)) ts q in
        (with-lists-marks k e r.0 r.2 n.0 m.0, each-marks k es r.1 r.3 n.1 m.1)
