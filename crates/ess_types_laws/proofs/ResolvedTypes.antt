-- A resolved expression has the type that it had before.
use Rattle.std.proofs.Common.{◌≡◌, refl, sym, ap, ◌∙◌, List, [], ◌∷◌, Option, Some, None, option_map}
use Rattle.ess_semantics.specs.declared.words.Fun.{Fun}
use Rattle.ess_semantics.specs.Lists.{and_then, all_some}
use Rattle.ess_semantics.specs.Values.{a_tuple, a_matrix, a_set, a_mset, a_function, a_relation, a_partition, a_record}
use Rattle.ess_semantics.specs.Names.{Names}
use Rattle.ess_semantics.specs.Trees.{Step, Op, index, application, Ex, Exs, number_ex, truth_ex, name_ex, node_ex, matrix_ex, comp_ex, cell_ex, seen_ex, no_exs, more_exs, Gens, no_gens, over, from, cond, Dom, Doms, bool_dom, int_dom, name_dom, tuple_dom, record_dom, matrix_dom, set_dom, mset_dom, function_dom, relation_dom, partition_dom, no_doms, more_doms}
use Rattle.ess_semantics.specs.Types.{Ty, any_ty, bool_ty, int_ty, named_ty, compound, no_tys, more_tys, compound2, join, join_all, fit, or_any, type_of_dom, types_of_doms, nested_ty, bind_types}
use Rattle.ess_semantics.specs.OperatorTypes.{member_ty, type_of_word2}
use Rattle.ess_semantics.specs.Typing.{Static, other, static, statics, path_ty, type_of_node, type_of, types_of, types_under, source_ty}
use Rattle.ess_semantics.specs.Resolving.{resolved_steps, kept_indices, resolved_op, resolved_node, resolve, resolve_exs, resolve_gens, resolve_dom, resolve_doms}
use Rattle.ess_semantics.specs.NamesAt.{names_behind}
use Rattle.ess_types_laws.proofs.ResolvedSteps.{steps-type}

-- ---- comprehensions, without a continuation

-- The generators, resolved.
abbrev pub gens_resolved : Gens → Names Ty → Gens
gens_resolved no_gens g = no_gens
gens_resolved (over p d gs) g = over p (resolve_dom d g) (gens_resolved gs (bind_types p (type_of_dom d) g))
gens_resolved (from p e gs) g = from p (resolve e g) (gens_resolved gs (bind_types p (source_ty e g) g))
gens_resolved (cond e gs) g = cond (resolve e g) (gens_resolved gs g)

gens-direct : (gs : Gens) (g : Names Ty) (k : Gens → Names Ty → Ex) → resolve_gens gs g k ≡ k (gens_resolved gs g) (names_behind gs g)
gens-direct no_gens g k = refl
gens-direct (over p d gs) g k = gens-direct gs (bind_types p (type_of_dom d) g) (λ hs h. k (over p (resolve_dom d g) hs) h)
gens-direct (from p e gs) g k = gens-direct gs (bind_types p (source_ty e g) g) (λ hs h. k (from p (resolve e g) hs) h)
gens-direct (cond e gs) g k = gens-direct gs g (λ hs h. k (cond (resolve e g) hs) h)

-- A comprehension has its parts resolved, each under the types of the names in scope.
pub comp-resolved : (e : Ex) (gs : Gens) (g : Names Ty) →
    resolve (comp_ex e gs) g ≡ comp_ex (resolve e (names_behind gs g)) (gens_resolved gs g)
comp-resolved e gs g = gens-direct gs g (λ hs h. comp_ex (resolve e h) hs)

-- ---- what an index says

node-static : (t : Option Ty) (op : Op) (es : Exs) (ss : List Static) (us : List (Option Ty)) → static (resolved_node t op es ss us) ≡ other
node-static t (index qs) es ss us = refl
node-static t _ es ss us = refl

static-resolved : (e : Ex) (g : Names Ty) → static (resolve e g) ≡ static e
static-resolved (number_ex n) g = refl
static-resolved (truth_ex b) g = refl
static-resolved (name_ex a) g = refl
static-resolved (node_ex b op es) g = node-static (type_of (node_ex b op es) g) op (resolve_exs es g) (statics es) (types_of es g)
static-resolved (matrix_ex es d) g = refl
static-resolved (comp_ex e gs) g = ap static (comp-resolved e gs g)
static-resolved (cell_ex b n es) g = refl
static-resolved (seen_ex r d ns es) g = refl

-- Resolved operands say what they said.
pub statics-resolved : (es : Exs) (g : Names Ty) → statics (resolve_exs es g) ≡ statics es
statics-resolved no_exs g = refl
statics-resolved (more_exs e es) g = ap (λ s. s ∷ statics (resolve_exs es g)) (static-resolved e g)
    ∙ ap (λ ss. static e ∷ ss) (statics-resolved es g)

-- ---- domains

mutual
  -- A resolved domain's members have the type that they had.
  pub dom-type : (d : Dom) (g : Names Ty) → type_of_dom (resolve_dom d g) ≡ type_of_dom d
  dom-type bool_dom g = refl
  dom-type (int_dom rs es) g = refl
  dom-type (name_dom a) g = refl
  dom-type (tuple_dom ds) g = ap (compound a_tuple) (doms-type ds g)
  dom-type (record_dom fs ds) g = ap (compound (a_record fs)) (doms-type ds g)
  dom-type (matrix_dom is d) g = nested-type is g (type_of_dom (resolve_dom d g)) (type_of_dom d) (dom-type d g)
  dom-type (set_dom ms es d) g = ap (λ t. compound a_set (more_tys t no_tys)) (dom-type d g)
  dom-type (mset_dom ms es d) g = ap (λ t. compound a_mset (more_tys t no_tys)) (dom-type d g)
  dom-type (function_dom ms es d c) g =
      ap (λ t. compound2 a_function t (type_of_dom (resolve_dom c g))) (dom-type d g)
      ∙ ap (compound2 a_function (type_of_dom d)) (dom-type c g)
  dom-type (relation_dom ms es ds) g = ap (compound a_relation) (doms-type ds g)
  dom-type (partition_dom ms es d) g = ap (λ t. compound a_partition (more_tys t no_tys)) (dom-type d g)

  doms-type : (ds : Doms) (g : Names Ty) → types_of_doms (resolve_doms ds g) ≡ types_of_doms ds
  doms-type no_doms g = refl
  doms-type (more_doms d ds) g = ap (λ t. more_tys t (types_of_doms (resolve_doms ds g))) (dom-type d g)
      ∙ ap (more_tys (type_of_dom d)) (doms-type ds g)

  nested-type : (is : Doms) (g : Names Ty) (t u : Ty) → t ≡ u → nested_ty (resolve_doms is g) t ≡ nested_ty is u
  nested-type no_doms g t u e = e
  nested-type (more_doms d is) g t u e =
      ap (λ i. compound2 a_matrix i (nested_ty (resolve_doms is g) t)) (dom-type d g)
      ∙ ap (compound2 a_matrix (type_of_dom d)) (nested-type is g t u e)

-- ---- applications

-- A function at an argument has the type that the application has.
pub image-type : (a b x : Ty) → type_of_word2 Fun.Image (compound2 a_function a b) x ≡ fit a x b
image-type a b x = go b (join a x) refl
  where
    go : (b : Ty) (o : Option Ty) → join a x ≡ o → type_of_word2 Fun.Image (compound2 a_function a b) x ≡ fit a x b
    go b None e = rw e
    go any_ty (Some c) e = rw e
    go bool_ty (Some c) e = rw e
    go int_ty (Some c) e = rw e
    go (named_ty n) (Some c) e = rw e
    go (compound k ts) (Some c) e = rw e

-- What becomes of an application has its type.
pub application-type : (us : List (Option Ty)) (ss : List Static) →
    type_of_node (resolved_op application us) ss us ≡ type_of_node application ss us
application-type (Some (compound2 a_function a b) ∷ Some x ∷ []) ss = image-type a b x
application-type (Some (compound2 a_function a b) ∷ None ∷ []) ss = refl
application-type (Some (compound2 a_function a b) ∷ None ∷ u ∷ us) ss = refl
application-type (Some (compound2 a_function a b) ∷ Some x ∷ u ∷ us) ss = refl
application-type _ ss = refl

-- ---- nodes

index-type : (o : Option Ty) (qs : List Step) (s : Static) (ss : List Static) (us : List (Option Ty)) →
    type_of_node (index qs) (s ∷ ss) (o ∷ us) ≡ and_then o (λ t. path_ty t qs ss us)
index-type None qs s ss us = refl
index-type (Some t) qs s ss us = refl

-- A resolved node has the type of the node.
pub node-type : (t : Option Ty) (op : Op) (es : Exs) (g : Names Ty) →
    type_of (resolved_node t op es (statics es) (types_of es g)) g ≡ type_of_node op (statics es) (types_of es g)
node-type t (index qs) no_exs g = refl
node-type t (index qs) (more_exs e es) g =
    index-type (type_of e g) rs (static e) (statics (kept_indices qs rs es)) (types_of (kept_indices qs rs es) g)
    ∙ steps-type g (type_of e g) qs es ∙ sym (index-type (type_of e g) qs (static e) (statics es) (types_of es g))
  where
    rs : List Step
    rs = resolved_steps qs (static e ∷ statics es) (type_of e g ∷ types_of es g)
node-type t application es g = application-type (types_of es g) (statics es)
node-type t _ es g = refl

-- ---- generators

source-behind : (o : Option Ty) (f : Ty → Option (Names Ty)) (h : Names Ty) → and_then o f ≡ Some h → f (or_any o) ≡ Some h
source-behind None f h e = cc
source-behind (Some t) f h e = e

cond-behind : (o : Option Ty) (x : Option (Names Ty)) (h : Names Ty) → and_then o (λ t. and_then (join t bool_ty) (λ u. x)) ≡ Some h →
    x ≡ Some h
cond-behind None x h e = cc
cond-behind (Some t) x h e = go (join t bool_ty) e
  where
    go : (o : Option Ty) → and_then o (λ u. x) ≡ Some h → x ≡ Some h
    go None e = cc
    go (Some u) e = e

-- Where generators fit, the names behind them have the types that `types_under` says.
pub behind-types : (gs : Gens) (g h : Names Ty) → types_under gs g ≡ Some h → names_behind gs g ≡ h
behind-types no_gens g h e = cc
behind-types (over p d gs) g h e = behind-types gs (bind_types p (type_of_dom d) g) h e
behind-types (from p e gs) g h q =
    behind-types gs (bind_types p (source_ty e g) g) h
    (source-behind (and_then (type_of e g) member_ty) (λ t. types_under gs (bind_types p t g)) h q)
behind-types (cond e gs) g h q = behind-types gs g h (cond-behind (type_of e g) (types_under gs g) h q)

-- the types under a generator over a source, whose type is o
source-under : (o : Option Ty) (f f' : Ty → Option (Names Ty)) → f' (or_any o) ≡ f (or_any o) → and_then o f' ≡ and_then o f
source-under None f f' e = refl
source-under (Some t) f f' e = e

comp-type : (o : Option (Names Ty)) (h : Names Ty) (e e' : Ex) → ((k : Names Ty) → o ≡ Some k → h ≡ k) → type_of e' h ≡ type_of e h →
    and_then o (λ k. option_map (compound2 a_matrix int_ty) (type_of e' k)) ≡ and_then o
    (λ k. option_map (compound2 a_matrix int_ty) (type_of e k))
comp-type None h e e' f q = refl
comp-type (Some k) h e e' f q =
    ap (λ j. option_map (compound2 a_matrix int_ty) (type_of e' j)) (sym (f k refl)) ∙ ap (option_map (compound2 a_matrix int_ty)) q
    ∙ ap (λ j. option_map (compound2 a_matrix int_ty) (type_of e j)) (f k refl)

mutual
  -- A resolved expression has the type that it had.
  pub type-resolved : (e : Ex) (g : Names Ty) → type_of (resolve e g) g ≡ type_of e g
  type-resolved (number_ex n) g = refl
  type-resolved (truth_ex b) g = refl
  type-resolved (name_ex a) g = refl
  type-resolved (node_ex b op es) g =
      ap (λ ss. type_of (resolved_node (type_of (node_ex b op es) g) op (resolve_exs es g) ss (types_of es g)) g)
      (sym (statics-resolved es g))
      ∙ ap (λ us. type_of (resolved_node (type_of (node_ex b op es) g) op (resolve_exs es g) (statics (resolve_exs es g)) us) g)
      (sym (types-resolved es g))
      ∙ node-type (type_of (node_ex b op es) g) op (resolve_exs es g) g
      ∙ ap (λ ss. type_of_node op ss (types_of (resolve_exs es g) g)) (statics-resolved es g)
      ∙ ap (type_of_node op (statics es)) (types-resolved es g)
  type-resolved (matrix_ex es d) g =
      ap (λ t. and_then (all_some (types_of (resolve_exs es g) g)) (λ ts. option_map (compound2 a_matrix t) (join_all ts))) (dom-type d g)
      ∙ ap (λ us. and_then (all_some us) (λ ts. option_map (compound2 a_matrix (type_of_dom d)) (join_all ts))) (types-resolved es g)
  type-resolved (comp_ex e gs) g =
      ap (λ x. type_of x g) (comp-resolved e gs g)
      ∙ ap (λ o. and_then o (λ k. option_map (compound2 a_matrix int_ty) (type_of (resolve e (names_behind gs g)) k))) (under-resolved gs g)
      ∙ comp-type (types_under gs g) (names_behind gs g) e (resolve e (names_behind gs g)) (behind-types gs g)
      (type-resolved e (names_behind gs g))
  type-resolved (cell_ex b n es) g = refl
  type-resolved (seen_ex r d ns es) g = ap Some (dom-type d g)

  -- The same of operands.
  pub types-resolved : (es : Exs) (g : Names Ty) → types_of (resolve_exs es g) g ≡ types_of es g
  types-resolved no_exs g = refl
  types-resolved (more_exs e es) g = ap (λ t. t ∷ types_of (resolve_exs es g) g) (type-resolved e g)
      ∙ ap (λ ts. type_of e g ∷ ts) (types-resolved es g)

  -- Behind resolved generators names have the types that they had.
  pub under-resolved : (gs : Gens) (g : Names Ty) → types_under (gens_resolved gs g) g ≡ types_under gs g
  under-resolved no_gens g = refl
  under-resolved (over p d gs) g =
      ap (λ t. types_under (gens_resolved gs (bind_types p (type_of_dom d) g)) (bind_types p t g)) (dom-type d g)
      ∙ under-resolved gs (bind_types p (type_of_dom d) g)
  under-resolved (from p e gs) g =
      ap (λ o. and_then (and_then o member_ty) (λ t. types_under (gens_resolved gs (bind_types p (source_ty e g) g)) (bind_types p t g)))
      (type-resolved e g)
      ∙ source-under (and_then (type_of e g) member_ty) (λ t. types_under gs (bind_types p t g))
      (λ t. types_under (gens_resolved gs (bind_types p (source_ty e g) g)) (bind_types p t g))
      (under-resolved gs (bind_types p (source_ty e g) g))
  under-resolved (cond e gs) g =
      ap (λ o. and_then o (λ t. and_then (join t bool_ty) (λ u. types_under (gens_resolved gs g) g))) (type-resolved e g)
      ∙ ap (λ x. and_then (type_of e g) (λ t. and_then (join t bool_ty) (λ u. x))) (under-resolved gs g)
