-- Resolved again, a resolved tree stays as it is. So are the statements of a specification, with lettings put in.
use Rattle.std.proofs.Common.{◌≡◌, refl, sym, ap, ◌∙◌, ◌||◌, List, [], ◌∷◌, Option, Some}
use Rattle.ess_semantics.specs.Lists.{and_then}
use Rattle.ess_semantics.specs.Values.{a_function}
use Rattle.ess_semantics.specs.Names.{Names}
use Rattle.ess_semantics.specs.Trees.{Step, by_value, to_component, to_field, Op, index, application, is_truth_op, Ex, Exs, number_ex, truth_ex, name_ex, node_ex, matrix_ex, comp_ex, cell_ex, seen_ex, no_exs, more_exs, Gens, no_gens, over, from, cond, Dom, Doms, bool_dom, int_dom, name_dom, tuple_dom, record_dom, matrix_dom, set_dom, mset_dom, function_dom, relation_dom, partition_dom, no_doms, more_doms, Stm, given, given_enum, let_ex, let_dom, let_enum, let_unnamed, needs, find, such_that, minimise, maximise}
use Rattle.ess_semantics.specs.Types.{Ty, compound2, is_bool, or_any, type_of_dom, bind_types}
use Rattle.ess_semantics.specs.OperatorTypes.{member_ty}
use Rattle.ess_semantics.specs.Typing.{Static, statics, type_of_node, type_of, types_of, source_ty}
use Rattle.ess_semantics.specs.Lettings.{types_after}
use Rattle.ess_semantics.specs.Resolving.{kept_indices, resolved_op, resolved_node, resolve, resolve_exs, resolve_dom, resolve_doms}
use Rattle.ess_semantics.specs.Prepared.{resolve_stm, resolve_all}
use Rattle.ess_semantics.specs.NamesAt.{names_behind}
use Rattle.ess_types_laws.proofs.ResolvedSteps.{kept-same, resolved_from, steps-again}
use Rattle.ess_types_laws.proofs.ResolvedTypes.{gens_resolved, comp-resolved, statics-resolved, dom-type, application-type, node-type, type-resolved, types-resolved}

-- ---- operands that are kept

kept-resolved : (g : Names Ty) (qs rs : List Step) (es : Exs) → resolve_exs es g ≡ es →
    resolve_exs (kept_indices qs rs es) g ≡ kept_indices qs rs es
kept-resolved g [] rs es p = p
kept-resolved g (by_value ∷ qs) [] es p = p
kept-resolved g (to_component k ∷ qs) [] es p = p
kept-resolved g (to_field a ∷ qs) [] es p = p
kept-resolved g (by_value ∷ qs) (by_value ∷ rs) (more_exs e es) p =
    let h : resolve e g ≡ e = cc in let t : resolve_exs es g ≡ es = cc in
    ap (λ x. more_exs x (resolve_exs (kept_indices qs rs es) g)) h ∙ ap (more_exs e) (kept-resolved g qs rs es t)
kept-resolved g (by_value ∷ qs) (to_component k ∷ rs) (more_exs e es) p = let t : resolve_exs es g ≡ es = cc in kept-resolved g qs rs es t
kept-resolved g (by_value ∷ qs) (to_field a ∷ rs) (more_exs e es) p = let t : resolve_exs es g ≡ es = cc in kept-resolved g qs rs es t
kept-resolved g (by_value ∷ qs) (by_value ∷ rs) no_exs p = kept-resolved g qs rs no_exs p
kept-resolved g (by_value ∷ qs) (to_component k ∷ rs) no_exs p = kept-resolved g qs rs no_exs p
kept-resolved g (by_value ∷ qs) (to_field a ∷ rs) no_exs p = kept-resolved g qs rs no_exs p
kept-resolved g (to_component k ∷ qs) (r ∷ rs) es p = kept-resolved g qs rs es p
kept-resolved g (to_field a ∷ qs) (r ∷ rs) es p = kept-resolved g qs rs es p

-- ---- nodes

application-again : (us : List (Option Ty)) (ss : List Static) (es : Exs) →
    resolved_node (type_of_node (resolved_op application us) ss us) (resolved_op application us) es ss us ≡ node_ex
    (is_bool (type_of_node application ss us)) (resolved_op application us) es
application-again (Some (compound2 a_function a b) ∷ u ∷ []) ss es =
    ap (λ t. node_ex (is_bool t) (resolved_op application (Some (compound2 a_function a b) ∷ u ∷ [])) es)
    (application-type (Some (compound2 a_function a b) ∷ u ∷ []) ss)
application-again _ ss es = refl

-- A node over resolved operands, resolved.
abbrev node_resolved : Op → Exs → Names Ty → Ex
node_resolved op es g = resolved_node (type_of_node op (statics es) (types_of es g)) op es (statics es) (types_of es g)

index-again : (qs : List Step) (e : Ex) (es : Exs) (g : Names Ty) → resolve e g ≡ e → resolve_exs es g ≡ es →
    resolve (node_resolved (index qs) (more_exs e es) g) g ≡ node_resolved (index qs) (more_exs e es) g
index-again qs e es g p q = go (resolved_from g (type_of e g) qs es) refl
  where
    go : (rs : List Step) → resolved_from g (type_of e g) qs es ≡ rs →
        resolve (node_resolved (index qs) (more_exs e es) g) g ≡ node_resolved (index qs) (more_exs e es) g
    go rs r =
        let ks : Exs = kept_indices qs (resolved_from g (type_of e g) qs es) es in
        let os : List Step = resolved_from g (type_of e g) qs es in
        let a : resolve_exs ks g ≡ ks = kept-resolved g qs os es q in
        let b : resolved_from g (type_of e g) os ks ≡ os = steps-again g (type_of e g) qs es in
        let c : type_of (node_resolved (index qs) (more_exs e es) g) g ≡ type_of_node (index qs) (statics (more_exs e es))
        (types_of (more_exs e es) g) =
        node-type (type_of_node (index qs) (statics (more_exs e es)) (types_of (more_exs e es) g)) (index qs) (more_exs e es) g in
        ap (λ t. node_ex (is_bool t) (index (resolved_from g (type_of e g) os ks))
        (more_exs (resolve e g) (kept_indices os (resolved_from g (type_of e g) os ks) (resolve_exs ks g)))) c
        ∙ ap (λ x. node_ex (is_bool (type_of_node (index qs) (statics (more_exs e es)) (types_of (more_exs e es) g))) (index x)
        (more_exs (resolve e g) (kept_indices os x (resolve_exs ks g)))) b
        ∙ ap (λ x. node_ex (is_bool (type_of_node (index qs) (statics (more_exs e es)) (types_of (more_exs e es) g))) (index os)
        (more_exs x (kept_indices os os (resolve_exs ks g)))) p
        ∙ ap (λ x. node_ex (is_bool (type_of_node (index qs) (statics (more_exs e es)) (types_of (more_exs e es) g))) (index os)
        (more_exs e (kept_indices os os x))) a
        ∙ ap (λ x. node_ex (is_bool (type_of_node (index qs) (statics (more_exs e es)) (types_of (more_exs e es) g))) (index os)
        (more_exs e x)) (kept-same os ks)

node-again : (op : Op) (es : Exs) (g : Names Ty) → resolve_exs es g ≡ es → resolve (node_resolved op es g) g ≡ node_resolved op es g
node-again (index qs) no_exs g p = refl
node-again (index qs) (more_exs e es) g p = let h : resolve e g ≡ e = cc in let t : resolve_exs es g ≡ es = cc in index-again qs e es g h t
node-again application es g p =
    ap (λ x. resolved_node (type_of_node (resolved_op application (types_of es g)) (statics es) (types_of es g))
    (resolved_op application (types_of es g)) x (statics es) (types_of es g)) p
    ∙ application-again (types_of es g) (statics es) es
node-again op es g p = ap (node_ex (is_truth_op op || is_bool (type_of_node op (statics es) (types_of es g))) op) p

node-direct : (b : _) (op : Op) (es : Exs) (g : Names Ty) → resolve (node_ex b op es) g ≡ node_resolved op (resolve_exs es g) g
node-direct b op es g =
    ap (λ ss. resolved_node (type_of_node op ss (types_of es g)) op (resolve_exs es g) ss (types_of es g)) (sym (statics-resolved es g))
    ∙ ap (λ us. resolved_node (type_of_node op (statics (resolve_exs es g)) us) op (resolve_exs es g) (statics (resolve_exs es g)) us)
    (sym (types-resolved es g))

-- ---- generators

-- A resolved source gives what it gave.
pub source-resolved : (e : Ex) (g : Names Ty) → source_ty (resolve e g) g ≡ source_ty e g
source-resolved e g = ap (λ o. or_any (and_then o member_ty)) (type-resolved e g)

-- Behind resolved generators the same names are in scope, with the same types.
pub behind-resolved : (gs : Gens) (g : Names Ty) → names_behind (gens_resolved gs g) g ≡ names_behind gs g
behind-resolved no_gens g = refl
behind-resolved (over p d gs) g =
    ap (λ t. names_behind (gens_resolved gs (bind_types p (type_of_dom d) g)) (bind_types p t g)) (dom-type d g)
    ∙ behind-resolved gs (bind_types p (type_of_dom d) g)
behind-resolved (from p e gs) g =
    ap (λ t. names_behind (gens_resolved gs (bind_types p (source_ty e g) g)) (bind_types p t g)) (source-resolved e g)
    ∙ behind-resolved gs (bind_types p (source_ty e g) g)
behind-resolved (cond e gs) g = behind-resolved gs g

-- ---- trees

mutual
  -- A resolved expression is resolved.
  pub resolved-again : (e : Ex) (g : Names Ty) → resolve (resolve e g) g ≡ resolve e g
  resolved-again (number_ex n) g = refl
  resolved-again (truth_ex b) g = refl
  resolved-again (name_ex a) g = refl
  resolved-again (node_ex b op es) g =
      ap (λ x. resolve x g) (node-direct b op es g) ∙ node-again op (resolve_exs es g) g (exs-again es g) ∙ sym (node-direct b op es g)
  resolved-again (matrix_ex es d) g =
      ap (λ x. matrix_ex x (resolve_dom (resolve_dom d g) g)) (exs-again es g) ∙ ap (matrix_ex (resolve_exs es g)) (dom-again d g)
  resolved-again (comp_ex e gs) g =
      ap (λ x. resolve x g) (comp-resolved e gs g) ∙ comp-resolved (resolve e (names_behind gs g)) (gens_resolved gs g) g
      ∙ ap (λ h. comp_ex (resolve (resolve e (names_behind gs g)) h) (gens_resolved (gens_resolved gs g) g)) (behind-resolved gs g)
      ∙ ap (λ x. comp_ex x (gens_resolved (gens_resolved gs g) g)) (resolved-again e (names_behind gs g))
      ∙ ap (comp_ex (resolve e (names_behind gs g))) (gens-again gs g)
      ∙ sym (comp-resolved e gs g)
  resolved-again (cell_ex b n es) g = ap (cell_ex b n) (exs-again es g)
  resolved-again (seen_ex r d ns es) g =
      ap (λ x. seen_ex r x ns (resolve_exs (resolve_exs es g) g)) (dom-again d g) ∙ ap (seen_ex r (resolve_dom d g) ns) (exs-again es g)

  exs-again : (es : Exs) (g : Names Ty) → resolve_exs (resolve_exs es g) g ≡ resolve_exs es g
  exs-again no_exs g = refl
  exs-again (more_exs e es) g = ap (λ x. more_exs x (resolve_exs (resolve_exs es g) g)) (resolved-again e g)
      ∙ ap (more_exs (resolve e g)) (exs-again es g)

  gens-again : (gs : Gens) (g : Names Ty) → gens_resolved (gens_resolved gs g) g ≡ gens_resolved gs g
  gens-again no_gens g = refl
  gens-again (over p d gs) g =
      ap (λ x. over p x
      (gens_resolved (gens_resolved gs (bind_types p (type_of_dom d) g)) (bind_types p (type_of_dom (resolve_dom d g)) g)))
      (dom-again d g)
      ∙ ap (λ t. over p (resolve_dom d g) (gens_resolved (gens_resolved gs (bind_types p (type_of_dom d) g)) (bind_types p t g)))
      (dom-type d g)
      ∙ ap (over p (resolve_dom d g)) (gens-again gs (bind_types p (type_of_dom d) g))
  gens-again (from p e gs) g =
      ap (λ x. from p x (gens_resolved (gens_resolved gs (bind_types p (source_ty e g) g)) (bind_types p (source_ty (resolve e g) g) g)))
      (resolved-again e g)
      ∙ ap (λ t. from p (resolve e g) (gens_resolved (gens_resolved gs (bind_types p (source_ty e g) g)) (bind_types p t g)))
      (source-resolved e g)
      ∙ ap (from p (resolve e g)) (gens-again gs (bind_types p (source_ty e g) g))
  gens-again (cond e gs) g = ap (λ x. cond x (gens_resolved (gens_resolved gs g) g)) (resolved-again e g)
      ∙ ap (cond (resolve e g)) (gens-again gs g)

  -- A resolved domain is resolved.
  pub dom-again : (d : Dom) (g : Names Ty) → resolve_dom (resolve_dom d g) g ≡ resolve_dom d g
  dom-again bool_dom g = refl
  dom-again (int_dom rs es) g = ap (int_dom rs) (exs-again es g)
  dom-again (name_dom a) g = refl
  dom-again (tuple_dom ds) g = ap tuple_dom (doms-again ds g)
  dom-again (record_dom fs ds) g = ap (record_dom fs) (doms-again ds g)
  dom-again (matrix_dom is d) g = ap (λ x. matrix_dom x (resolve_dom (resolve_dom d g) g)) (doms-again is g)
      ∙ ap (matrix_dom (resolve_doms is g)) (dom-again d g)
  dom-again (set_dom ms es d) g = ap (λ x. set_dom ms x (resolve_dom (resolve_dom d g) g)) (exs-again es g)
      ∙ ap (set_dom ms (resolve_exs es g)) (dom-again d g)
  dom-again (mset_dom ms es d) g = ap (λ x. mset_dom ms x (resolve_dom (resolve_dom d g) g)) (exs-again es g)
      ∙ ap (mset_dom ms (resolve_exs es g)) (dom-again d g)
  dom-again (function_dom ms es d c) g =
      ap (λ x. function_dom ms x (resolve_dom (resolve_dom d g) g) (resolve_dom (resolve_dom c g) g)) (exs-again es g)
      ∙ ap (λ x. function_dom ms (resolve_exs es g) x (resolve_dom (resolve_dom c g) g)) (dom-again d g)
      ∙ ap (function_dom ms (resolve_exs es g) (resolve_dom d g)) (dom-again c g)
  dom-again (relation_dom ms es ds) g = ap (λ x. relation_dom ms x (resolve_doms (resolve_doms ds g) g)) (exs-again es g)
      ∙ ap (relation_dom ms (resolve_exs es g)) (doms-again ds g)
  dom-again (partition_dom ms es d) g = ap (λ x. partition_dom ms x (resolve_dom (resolve_dom d g) g)) (exs-again es g)
      ∙ ap (partition_dom ms (resolve_exs es g)) (dom-again d g)

  doms-again : (ds : Doms) (g : Names Ty) → resolve_doms (resolve_doms ds g) g ≡ resolve_doms ds g
  doms-again no_doms g = refl
  doms-again (more_doms d ds) g = ap (λ x. more_doms x (resolve_doms (resolve_doms ds g) g)) (dom-again d g)
      ∙ ap (more_doms (resolve_dom d g)) (doms-again ds g)

-- ---- statements

stm-again : (s : Stm) (g : Names Ty) → resolve_stm (resolve_stm s g) g ≡ resolve_stm s g
stm-again (given x d) g = ap (given x) (dom-again d g)
stm-again (given_enum t) g = refl
stm-again (let_ex x e) g = ap (let_ex x) (resolved-again e g)
stm-again (let_dom x d) g = ap (let_dom x) (dom-again d g)
stm-again (let_enum t ns) g = refl
stm-again (let_unnamed t e) g = ap (let_unnamed t) (resolved-again e g)
stm-again (needs e) g = ap needs (resolved-again e g)
stm-again (find x d) g = ap (find x) (dom-again d g)
stm-again (such_that e) g = ap such_that (resolved-again e g)
stm-again (minimise e) g = ap minimise (resolved-again e g)
stm-again (maximise e) g = ap maximise (resolved-again e g)

-- Behind a resolved statement names have the types that they had.
pub types-behind : (s : Stm) (g : Names Ty) → types_after (resolve_stm s g) g ≡ types_after s g
types-behind (given x d) g = ap (λ t. (x, t) ∷ g) (dom-type d g)
types-behind (given_enum t) g = refl
types-behind (let_ex x e) g = ap (λ o. (x, or_any o) ∷ g) (type-resolved e g)
types-behind (let_dom x d) g = refl
types-behind (let_enum t ns) g = refl
types-behind (let_unnamed t e) g = refl
types-behind (needs e) g = refl
types-behind (find x d) g = ap (λ t. (x, t) ∷ g) (dom-type d g)
types-behind (such_that e) g = refl
types-behind (minimise e) g = refl
types-behind (maximise e) g = refl

-- Resolved statements are resolved.
pub all-again : (ss : List Stm) (g : Names Ty) → resolve_all (resolve_all ss g) g ≡ resolve_all ss g
all-again [] g = refl
all-again (s ∷ ss) g =
    ap (λ t. t ∷ resolve_all (resolve_all ss (types_after s g)) (types_after (resolve_stm s g) g)) (stm-again s g)
    ∙ ap (λ h. resolve_stm s g ∷ resolve_all (resolve_all ss (types_after s g)) h) (types-behind s g)
    ∙ ap (λ ts. resolve_stm s g ∷ ts) (all-again ss (types_after s g))
