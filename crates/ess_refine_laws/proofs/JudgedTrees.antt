-- Typed trees with right marks and told types are judged.
use Rattle.std.proofs.Common.{◌≡◌, refl, sym, ap, ◌∙◌, subst, Bool, true, false, ◌&&◌, ◌||◌, not, List, [], ◌∷◌, Option, Some, None, option_map}
use Rattle.std.specs.Prelude.{is_some}
use Rattle.std.specs.List.{list_all}
use Rattle.ess_semantics.specs.Lists.{and_then, all_some}
use Rattle.ess_semantics.specs.Names.{Names}
use Rattle.ess_semantics.specs.Operators.{iff}
use Rattle.ess_semantics.specs.Trees.{Op, unary, binary, word, index, application, tuple_literal, set_literal, mset_literal, function_literal, relation_literal, partition_literal, matrix_literal, record_literal, is_truth_op, Ex, Exs, number_ex, truth_ex, name_ex, node_ex, matrix_ex, comp_ex, cell_ex, seen_ex, no_exs, more_exs, Gens, no_gens, over, from, cond, Dom, bool_dom, int_dom, name_dom, tuple_dom, record_dom}
use Rattle.ess_semantics.specs.Types.{Ty, any_ty, bool_ty, int_ty, named_ty, compound, compound2, join, is_bool, or_any, type_of_dom, bind_types}
use Rattle.ess_semantics.specs.Values.{a_matrix}
use Rattle.ess_semantics.specs.OperatorTypes.{member_ty, type_of_op}
use Rattle.ess_semantics.specs.Typing.{Static, statics, type_of_node, type_of, types_of, types_under, source_ty}
use Rattle.ess_semantics.specs.Kinds.{is_bounded}
use Rattle.ess_semantics.specs.ExpressionJudgements.{pattern_fits}
use Rattle.ess_semantics.specs.NamesAt.{names_behind}
use Rattle.ess_semantics.proofs.Tests.{and-left, and-right, and-both}
use Rattle.ess_rules_laws.specs.Progress.{is_told, are_told, is_plain_source, has_members}
use Rattle.ess_refine_laws.specs.ScalarItems.{is_scalar}
use Rattle.ess_refine_laws.specs.MarksStay.{MarkFits, HasMarks, HaveMarks, GensHaveMarks, DomHasMarks}
use Rattle.ess_refine_laws.specs.Progress.{is_known, is_picked, is_judged, are_judged, gens_judged, dom_judged}
use Rattle.ess_refine_laws.specs.JudgedTrees.{has_told_operands, are_types_told, all_types_told, gens_types_told, dom_types_told, TypedTreesAreJudged}
use Rattle.ess_refine_laws.proofs.Progress.{trees-make-progress}
use Rattle.ess_refine_laws.proofs.TruthTypes.{no-truth, is-truth}

-- ---- types that are there

known-there : (o : Option Ty) → is_known o ≡ true → is_some o ≡ true
known-there None k = cc
known-there (Some t) k = refl

scalar-there : (o : Option Ty) → is_scalar o ≡ true → is_some o ≡ true
scalar-there None k = cc
scalar-there (Some t) k = refl

told-there : (o : Option Ty) → is_told o ≡ true → is_some o ≡ true
told-there None k = cc
told-there (Some t) k = refl

each-there : (f : Option Ty → Bool) → ((o : Option Ty) → f o ≡ true → is_some o ≡ true) → (os : List (Option Ty)) → list_all f os ≡ true →
    list_all is_some os ≡ true
each-there f h [] k = refl
each-there f h (o ∷ os) k =
    and-both (is_some o) (list_all is_some os) (h o (and-left (f o) (list_all f os) k)) (each-there f h os (and-right (f o)
    (list_all f os) k))

-- A told condition is a truth value.
condition-scalar : (o : Option Ty) (F : Option (Names Ty)) → is_told o ≡ true →
    is_some (and_then o (λ t. and_then (join t bool_ty) (λ u. F))) ≡ true → (is_scalar o ≡ true) × (is_some F ≡ true)
condition-scalar None F k h = cc
condition-scalar (Some any_ty) F k h = cc
condition-scalar (Some bool_ty) F k h = (refl, h)
condition-scalar (Some int_ty) F k h = cc
condition-scalar (Some (named_ty a)) F k h = cc
condition-scalar (Some (compound c ts)) F k h = cc

members-there : (o : Option Ty) → is_told o ≡ true → is_some (and_then o member_ty) ≡ true → has_members o ≡ true
members-there None k h = cc
members-there (Some any_ty) k h = cc
members-there (Some bool_ty) k h = h
members-there (Some int_ty) k h = h
members-there (Some (named_ty a)) k h = h
members-there (Some (compound c ts)) k h = h

-- ---- marks

-- The type of a node that isn't left.
plain-node : (b : Bool) (op : Op) (es : Exs) (ss : List Static) (us : List (Option Ty)) → is_picked (node_ex b op es) ≡ false →
    type_of_node op ss us ≡ and_then (all_some us) (type_of_op op)
plain-node b (unary o) es ss us p = refl
plain-node b (binary o) es ss us p = refl
plain-node b (word f) es ss us p = refl
plain-node b (index qs) es ss us p = cc
plain-node b application es ss us p = refl
plain-node b tuple_literal es ss us p = refl
plain-node b set_literal es ss us p = refl
plain-node b mset_literal es ss us p = refl
plain-node b function_literal es ss us p = refl
plain-node b relation_literal es ss us p = refl
plain-node b partition_literal es ss us p = refl
plain-node b matrix_literal es ss us p = refl
plain-node b (record_literal fs) es ss us p = refl

-- A right mark says whether the operator has truth values.
mark-says : (b : Bool) (op : Op) (es : Exs) (o : Option (List Ty)) → is_picked (node_ex b op es) ≡ false →
    MarkFits b op (and_then o (type_of_op op)) → iff b (is_truth_op op) ≡ true
mark-says b op es None p m = absurd m
mark-says b op es (Some ts) p m = go (is_truth_op op) refl (type_of_op op ts) refl m
  where
    same : (c d : Bool) → c ≡ d → iff c d ≡ true
    same true d e = sym e
    same false d e = ap not (sym e)

    go : (c : Bool) → is_truth_op op ≡ c → (r : Option Ty) → type_of_op op ts ≡ r → MarkFits b op r → iff b (is_truth_op op) ≡ true
    go c q None j m = absurd m
    go true q (Some t) j m = same b (is_truth_op op) (m ∙ ap (λ x. x || is_bool (Some t)) q ∙ sym q)
    go false q (Some t) j m = same b (is_truth_op op)
        (m ∙ ap (λ x. x || is_bool (Some t)) q ∙ ap is_bool (sym j) ∙ no-truth b op es ts p q ∙ sym q)

-- A source that has members isn't Boolean.
truth-node : (op : Op) (ss : List Static) (us : List (Option Ty)) → is_truth_op op ≡ true →
    type_of_node op ss us ≡ and_then (all_some us) (type_of_op op)
truth-node (unary o) ss us k = refl
truth-node (binary o) ss us k = refl
truth-node (word f) ss us k = refl
truth-node _ ss us k = cc

plain-source : (e : Ex) (g : Names Ty) → HasMarks e g → has_members (type_of e g) ≡ true → has_told_operands e g ≡ true →
    is_plain_source g e ≡ true
plain-source (node_ex b op es) g m k h = go (type_of (node_ex b op es) g) refl m.0 k
  where
    not-bool : (t : Ty) → has_members (Some t) ≡ true → is_bool (Some t) ≡ false
    not-bool bool_ty k = cc
    not-bool any_ty k = cc
    not-bool int_ty k = cc
    not-bool (named_ty a) k = cc
    not-bool (compound c ts) k = refl

    bool-none : (t : Ty) → has_members (Some t) ≡ true → t ≡ bool_ty → false ≡ true
    bool-none t k e = let i : has_members (Some bool_ty) ≡ true = ap (λ u. has_members (Some u)) (sym e) ∙ k in cc

    is-op : (o : Option (List Ty)) (t : Ty) → is_truth_op op ≡ true → and_then o (type_of_op op) ≡ Some t → t ≡ bool_ty
    is-op None t q j = cc
    is-op (Some ts) t q j = is-truth op ts q t j

    no : {A : Type 0} → false ≡ true → A
    no e = cc

    go : (o : Option Ty) → type_of (node_ex b op es) g ≡ o → MarkFits b op o → has_members o ≡ true →
        not b && not (is_truth_op op) && are_told g es ≡ true
    go None j m k = absurd m
    go (Some t) j m k = at (is_truth_op op) refl
      where
        at : (c : Bool) → is_truth_op op ≡ c → not b && not (is_truth_op op) && are_told g es ≡ true
        at true q = no (bool-none t k (is-op (all_some (types_of es g)) t q (sym (truth-node op (statics es) (types_of es g) q) ∙ j)))
        at false q = and-both (not b && not (is_truth_op op)) (are_told g es)
            (and-both (not b) (not (is_truth_op op)) (ap not (m ∙ ap (λ x. x || is_bool (Some t)) q ∙ not-bool t k)) (ap not q)) h
plain-source (number_ex n) g m k h = refl
plain-source (truth_ex b) g m k h = refl
plain-source (name_ex a) g m k h = refl
plain-source (matrix_ex es d) g m k h = refl
plain-source (comp_ex e gs) g m k h = refl
plain-source (cell_ex b n es) g m k h = refl
plain-source (seen_ex r d ns es) g m k h = refl

-- ---- generators that are typed

under-there : (o : Option (Names Ty)) (F : Names Ty → Option Ty) → is_some (and_then o F) ≡ true → is_some o ≡ true
under-there None F h = cc
under-there (Some u) F h = refl

source-under : (o : Option Ty) (F : Ty → Option (Names Ty)) → is_some (and_then o F) ≡ true → is_some (F (or_any o)) ≡ true
source-under None F h = cc
source-under (Some u) F h = h

-- ---- trees

-- What is left, or what is judged.
left-or : (p a b : Bool) → (p ≡ false → a ≡ true → b ≡ true) → p || a ≡ true → p || b ≡ true
left-or true a b h k = refl
left-or false a b h k = h refl k

mutual
  judged : (e : Ex) (g : Names Ty) → HasMarks e g → is_some (type_of e g) ≡ true → are_types_told e g ≡ true → is_judged e g ≡ true
  judged (number_ex n) g m t k = refl
  judged (truth_ex b) g m t k = refl
  judged (name_ex a) g m t k = refl
  judged (node_ex b op es) g m t k = left-or (is_picked (node_ex b op es)) (list_all is_known (types_of es g) && all_types_told es g)
      (iff b (is_truth_op op) && (list_all is_known (types_of es g) && are_judged es g))
      (λ p h. and-both (iff b (is_truth_op op)) (list_all is_known (types_of es g) && are_judged es g)
      (mark-says b op es (all_some (types_of es g)) p
      (subst (λ o. MarkFits b op o) (plain-node b op es (statics es) (types_of es g) p) m.0))
      (and-both (list_all is_known (types_of es g)) (are_judged es g) (and-left (list_all is_known (types_of es g)) (all_types_told es g) h)
      (each-judged es g m.1
      (each-there is_known known-there (types_of es g) (and-left (list_all is_known (types_of es g)) (all_types_told es g) h))
      (and-right (list_all is_known (types_of es g)) (all_types_told es g) h)))) k
  judged (matrix_ex es d) g m t k = refl
  judged (comp_ex e gs) g m t k =
      let h = and-right (is_known (type_of e (names_behind gs g))) (are_types_told e (names_behind gs g) && gens_types_told gs g) k in
      let l = and-left (is_known (type_of e (names_behind gs g))) (are_types_told e (names_behind gs g) && gens_types_told gs g) k in
      and-both (is_known (type_of e (names_behind gs g))) (is_judged e (names_behind gs g) && gens_judged gs g) l
      (and-both (is_judged e (names_behind gs g)) (gens_judged gs g)
      (judged e (names_behind gs g) m.1 (known-there (type_of e (names_behind gs g)) l)
      (and-left (are_types_told e (names_behind gs g)) (gens_types_told gs g) h))
      (gens-are-judged gs g m.0 (under-there (types_under gs g) (λ h. option_map (compound2 a_matrix int_ty) (type_of e h)) t)
      (and-right (are_types_told e (names_behind gs g)) (gens_types_told gs g) h)))
  judged (cell_ex b n es) g m t k =
      and-both (list_all is_scalar (types_of es g)) (are_judged es g) (and-left (list_all is_scalar (types_of es g))
      (all_types_told es g) k)
      (each-judged es g m
      (each-there is_scalar scalar-there (types_of es g) (and-left (list_all is_scalar (types_of es g)) (all_types_told es g) k))
      (and-right (list_all is_scalar (types_of es g)) (all_types_told es g) k))
  judged (seen_ex r d ns es) g m t k = refl

  each-judged : (es : Exs) (g : Names Ty) → HaveMarks es g → list_all is_some (types_of es g) ≡ true → all_types_told es g ≡ true →
      are_judged es g ≡ true
  each-judged no_exs g m t k = refl
  each-judged (more_exs e es) g m t k = and-both (is_judged e g) (are_judged es g)
      (judged e g m.0 (and-left (is_some (type_of e g)) (list_all is_some (types_of es g)) t) (and-left (are_types_told e g)
      (all_types_told es g) k))
      (each-judged es g m.1 (and-right (is_some (type_of e g)) (list_all is_some (types_of es g)) t)
      (and-right (are_types_told e g) (all_types_told es g) k))

  gens-are-judged : (gs : Gens) (g : Names Ty) → GensHaveMarks gs g → is_some (types_under gs g) ≡ true → gens_types_told gs g ≡ true →
      gens_judged gs g ≡ true
  gens-are-judged no_gens g m t k = refl
  gens-are-judged (over p d gs) g m t k =
      let l = and-left (pattern_fits p (type_of_dom d)) (dom_types_told d g && gens_types_told gs (bind_types p (type_of_dom d) g)) k in
      let h = and-right (pattern_fits p (type_of_dom d)) (dom_types_told d g && gens_types_told gs (bind_types p (type_of_dom d) g)) k in
      and-both (pattern_fits p (type_of_dom d)) (dom_judged d g && gens_judged gs (bind_types p (type_of_dom d) g)) l
      (and-both (dom_judged d g) (gens_judged gs (bind_types p (type_of_dom d) g))
      (dom-is-judged d g m.0 (and-left (dom_types_told d g) (gens_types_told gs (bind_types p (type_of_dom d) g)) h))
      (gens-are-judged gs (bind_types p (type_of_dom d) g) m.1 t
      (and-right (dom_types_told d g) (gens_types_told gs (bind_types p (type_of_dom d) g)) h)))
  gens-are-judged (from p e gs) g m t k =
      let l = and-left (is_told (type_of e g)) (has_told_operands e g && gens_types_told gs (bind_types p (source_ty e g) g)) k in
      let h = and-right (is_told (type_of e g)) (has_told_operands e g && gens_types_told gs (bind_types p (source_ty e g) g)) k in
      let w = members-there (type_of e g) l m.0 in
      and-both (has_members (type_of e g)) (is_plain_source g e && gens_judged gs (bind_types p (source_ty e g) g)) w
      (and-both (is_plain_source g e) (gens_judged gs (bind_types p (source_ty e g) g))
      (plain-source e g m.1 w (and-left (has_told_operands e g) (gens_types_told gs (bind_types p (source_ty e g) g)) h))
      (gens-are-judged gs (bind_types p (source_ty e g) g) m.2
      (source-under (and_then (type_of e g) member_ty) (λ u. types_under gs (bind_types p u g)) t)
      (and-right (has_told_operands e g) (gens_types_told gs (bind_types p (source_ty e g) g)) h)))
  gens-are-judged (cond c gs) g m t k =
      let l = and-left (is_told (type_of c g)) (are_types_told c g && gens_types_told gs g) k in
      let h = and-right (is_told (type_of c g)) (are_types_told c g && gens_types_told gs g) k in
      let w = condition-scalar (type_of c g) (types_under gs g) l t in
      and-both (is_scalar (type_of c g)) (is_judged c g && gens_judged gs g) w.0
      (and-both (is_judged c g) (gens_judged gs g)
      (judged c g m.0 (told-there (type_of c g) l) (and-left (are_types_told c g) (gens_types_told gs g) h))
      (gens-are-judged gs g m.1 w.1 (and-right (are_types_told c g) (gens_types_told gs g) h)))

  dom-is-judged : (d : Dom) (g : Names Ty) → DomHasMarks d g → dom_types_told d g ≡ true → dom_judged d g ≡ true
  dom-is-judged bool_dom g m k = refl
  dom-is-judged (name_dom a) g m k = refl
  dom-is-judged (int_dom rs es) g m k =
      let h = and-right (is_bounded rs) (list_all is_scalar (types_of es g) && all_types_told es g) k in
      let l = and-left (list_all is_scalar (types_of es g)) (all_types_told es g) h in
      and-both (is_bounded rs) (list_all is_scalar (types_of es g) && are_judged es g)
      (and-left (is_bounded rs) (list_all is_scalar (types_of es g) && all_types_told es g) k)
      (and-both (list_all is_scalar (types_of es g)) (are_judged es g) l
      (each-judged es g m (each-there is_scalar scalar-there (types_of es g) l)
      (and-right (list_all is_scalar (types_of es g)) (all_types_told es g) h)))
  dom-is-judged (tuple_dom ds) g m k = refl
  dom-is-judged (record_dom fs ds) g m k = k
  dom-is-judged _ g m k = cc

-- What is judged.
pub typed-trees-are-judged : TypedTreesAreJudged
typed-trees-are-judged = record {
  are_judged = λ e g m t k. judged e g m t k;
  make_progress = λ s e g m t k. trees-make-progress.moves s g e (judged e g m (scalar-there (type_of e g) t) k) t;
}
