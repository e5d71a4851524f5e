-- A part that keeps its type keeps that of the whole.
use Rattle.std.proofs.Common.{◌≡◌, refl, sym, ap, ◌∙◌, subst, List, [], ◌∷◌, Option, Some, None, option_map}
use Rattle.ess_semantics.specs.Lists.{and_then, all_some}
use Rattle.ess_semantics.specs.Values.{a_tuple, a_matrix, a_set, a_mset, a_function, a_relation, a_partition, a_record}
use Rattle.ess_semantics.specs.Names.{Names}
use Rattle.ess_semantics.specs.Trees.{Step, by_value, to_component, to_field, Op, unary, binary, word, index, application, tuple_literal, set_literal, mset_literal, function_literal, relation_literal, partition_literal, matrix_literal, record_literal, Ex, Exs, no_exs, more_exs}
use Rattle.ess_semantics.specs.Types.{Ty, any_ty, bool_ty, int_ty, compound, compound2, no_tys, more_tys, join, join_all, or_any, type_of_dom, types_of_doms, nested_ty, bind_types}
use Rattle.ess_semantics.specs.OperatorTypes.{type_of_op, member_ty}
use Rattle.ess_semantics.specs.Typing.{Static, a_number, a_name, other, static, statics, step_ty, part_ty, path_ty, type_of_node, type_of, types_of, types_under, source_ty}
use Rattle.ess_semantics.specs.Typed.{Typed}
use Rattle.ess_semantics.specs.Contexts.{In, Ins, InGens, InDom, InDoms, hole, in_operand, in_item, in_index_domain, in_body, in_generators, in_cell_index, in_view_domain, in_view_index, in_first, in_later, in_generator_domain, behind_over, in_source, behind_from, in_condition, behind_condition, in_bound, in_component, in_field, in_index, in_element, in_set_number, in_set_member, in_mset_number, in_mset_member, in_function_number, in_argument, in_result, in_relation_number, in_relation_component, in_partition_number, in_partition_member, in_first_domain, in_later_domain, fill, fill_exs, fill_gens, fill_dom, fill_doms}
use Rattle.ess_semantics.specs.NamesAt.{names_behind, names_at, names_at_exs, names_at_gens}
use Rattle.ess_types_laws.proofs.ResolvedTypes.{behind-types}
use Rattle.ess_rules_laws.specs.Rewriting.{Rewritten, as_it_was, rewritten_at}
use Rattle.ess_rules_laws.proofs.KeptUnder.{rewritten-kept}
use Rattle.ess_refine_laws.specs.TypesStay.{KeepsType, KeptTyped, WholesKeepTypes}

-- ---- what is there stays

-- What the first one is, where it is there, the second is too.
abbrev Stays : {A : Type 0} → Option A → Option A → Type 0
Stays {A = A} o p = (t : A) → o ≡ Some t → p ≡ Some t

then-stays : {A B : Type 0} (o p : Option A) (F G : A → Option B) → Stays o p → ((t : A) → Stays (F t) (G t)) →
    Stays (and_then o F) (and_then p G)
then-stays None p F G h k t e = cc
then-stays (Some u) p F G h k t e = ap (λ q. and_then q G) (h u refl) ∙ k u t e

map-stays : {A B : Type 0} (f : A → B) (o p : Option A) → Stays o p → Stays (option_map f o) (option_map f p)
map-stays f None p h t e = cc
map-stays f (Some u) p h t e = ap (option_map f) (h u refl) ∙ e

-- The source of a generator, by its own type.
source-stays : {B : Type 0} (o : Option Ty) (F G : Ty → Option B) → Stays (F (or_any o)) (G (or_any o)) →
    Stays (and_then o F) (and_then o G)
source-stays None F G h t e = cc
source-stays (Some u) F G h t e = h t e

-- ---- what operands say, and their types

-- What says something says the same.
abbrev Says : Static → Static → Type 0
Says other u = Unit {0}
Says (a_number k) u = a_number k ≡ u
Says (a_name a) u = a_name a ≡ u

says-itself : (s : Static) → Says s s
says-itself other = tt
says-itself (a_number k) = refl
says-itself (a_name a) = refl

-- Each operand says the same, and its type stays.
abbrev Follows : List Static → List Static → List (Option Ty) → List (Option Ty) → Type 0
Follows [] [] [] [] = Unit {0}
Follows (s ∷ ss) (v ∷ vs) (u ∷ us) (w ∷ ws) = Says s v × Stays u w × Follows ss vs us ws
Follows ss vs us ws = ⊥

follow-itself : (es : Exs) (g : Names Ty) → Follows (statics es) (statics es) (types_of es g) (types_of es g)
follow-itself no_exs g = tt
follow-itself (more_exs e es) g = (says-itself (static e), (λ t q. q), follow-itself es g)

all-stay : (ss vs : List Static) (us ws : List (Option Ty)) → Follows ss vs us ws → Stays (all_some us) (all_some ws)
all-stay [] [] [] [] f = λ t e. e
all-stay (s ∷ ss) (v ∷ vs) (u ∷ us) (w ∷ ws) f =
    then-stays u w (λ x. option_map (λ xs. x ∷ xs) (all_some us)) (λ x. option_map (λ xs. x ∷ xs) (all_some ws)) f.1
    (λ x. map-stays (λ xs. x ∷ xs) (all_some us) (all_some ws) (all-stay ss vs us ws f.2))
all-stay [] [] [] (w ∷ ws) f = absurd f
all-stay [] [] (u ∷ us) ws f = absurd f
all-stay [] (v ∷ vs) us ws f = absurd f
all-stay (s ∷ ss) [] us ws f = absurd f
all-stay (s ∷ ss) (v ∷ vs) [] ws f = absurd f
all-stay (s ∷ ss) (v ∷ vs) (u ∷ us) [] f = absurd f

-- ---- indices

step-stays : (p : Ty) (s v : Static) (u w : Option Ty) → Says s v → Stays u w → Stays (step_ty p s u) (step_ty p v w)
step-stays (compound a_matrix (more_tys i (more_tys e no_tys))) s v None w h k t q = cc
step-stays (compound a_matrix (more_tys i (more_tys e no_tys))) s v (Some u) w h k t q =
    ap (step_ty (compound a_matrix (more_tys i (more_tys e no_tys))) v) (k u refl) ∙ q
step-stays (compound a_tuple ts) (a_number n) v u w h k t q = ap (λ z. step_ty (compound a_tuple ts) z w) (sym h) ∙ q
step-stays (compound (a_record fs) ts) (a_name a) v u w h k t q = ap (λ z. step_ty (compound (a_record fs) ts) z w) (sym h) ∙ q
step-stays any_ty s v None w h k t q = cc
step-stays any_ty s v (Some u) w h k t q = ap (step_ty any_ty v) (k u refl) ∙ q
step-stays _ s v u w h k t q = cc

path-stays : (p : Ty) (qs : List Step) (ss vs : List Static) (us ws : List (Option Ty)) → Follows ss vs us ws →
    Stays (path_ty p qs ss us) (path_ty p qs vs ws)
path-stays p [] [] [] [] [] f = λ t e. e
path-stays p (by_value ∷ qs) (s ∷ ss) (v ∷ vs) (u ∷ us) (w ∷ ws) f =
    then-stays (step_ty p s u) (step_ty p v w) (λ z. path_ty z qs ss us) (λ z. path_ty z qs vs ws) (step-stays p s v u w f.0 f.1)
    (λ z. path-stays z qs ss vs us ws f.2)
path-stays p (to_component k ∷ qs) ss vs us ws f =
    then-stays (part_ty p (a_number k)) (part_ty p (a_number k)) (λ z. path_ty z qs ss us) (λ z. path_ty z qs vs ws) (λ t e. e)
    (λ z. path-stays z qs ss vs us ws f)
path-stays p (to_field a ∷ qs) ss vs us ws f =
    then-stays (part_ty p (a_name a)) (part_ty p (a_name a)) (λ z. path_ty z qs ss us) (λ z. path_ty z qs vs ws) (λ t e. e)
    (λ z. path-stays z qs ss vs us ws f)
path-stays p (by_value ∷ qs) [] [] [] [] f = λ t e. cc
path-stays p [] (s ∷ ss) (v ∷ vs) (u ∷ us) (w ∷ ws) f = λ t e. cc
path-stays p qs [] [] [] (w ∷ ws) f = absurd f
path-stays p qs [] [] (u ∷ us) ws f = absurd f
path-stays p qs [] (v ∷ vs) us ws f = absurd f
path-stays p qs (s ∷ ss) [] us ws f = absurd f
path-stays p qs (s ∷ ss) (v ∷ vs) [] ws f = absurd f
path-stays p qs (s ∷ ss) (v ∷ vs) (u ∷ us) [] f = absurd f

-- ---- nodes

plain-stays : (op : Op) → ((ss : List Static) (us : List (Option Ty)) → type_of_node op ss us ≡ and_then (all_some us) (type_of_op op)) →
    (ss vs : List Static) (us ws : List (Option Ty)) → Follows ss vs us ws → Stays (type_of_node op ss us) (type_of_node op vs ws)
plain-stays op h ss vs us ws f t e =
    h vs ws ∙ then-stays (all_some us) (all_some ws) (type_of_op op) (type_of_op op) (all-stay ss vs us ws f) (λ x u q. q) t (sym
    (h ss us) ∙ e)

index-stays : (qs : List Step) (ss vs : List Static) (us ws : List (Option Ty)) → Follows ss vs us ws →
    Stays (type_of_node (index qs) ss us) (type_of_node (index qs) vs ws)
index-stays qs [] [] [] [] f = λ t e. cc
index-stays qs (s ∷ ss) (v ∷ vs) (None ∷ us) (w ∷ ws) f = λ t e. cc
index-stays qs (s ∷ ss) (v ∷ vs) (Some u ∷ us) (w ∷ ws) f = λ t e.
    ap (λ z. type_of_node (index qs) (v ∷ vs) (z ∷ ws)) (f.1 u refl) ∙ path-stays u qs ss vs us ws f.2 t e
index-stays qs [] [] [] (w ∷ ws) f = absurd f
index-stays qs [] [] (u ∷ us) ws f = absurd f
index-stays qs [] (v ∷ vs) us ws f = absurd f
index-stays qs (s ∷ ss) [] us ws f = absurd f
index-stays qs (s ∷ ss) (v ∷ vs) [] ws f = absurd f
index-stays qs (s ∷ ss) (v ∷ vs) (u ∷ us) [] f = absurd f

node-stays : (op : Op) (ss vs : List Static) (us ws : List (Option Ty)) → Follows ss vs us ws →
    Stays (type_of_node op ss us) (type_of_node op vs ws)
node-stays (index qs) = index-stays qs
node-stays (unary o) = plain-stays (unary o) (λ ss us. refl)
node-stays (binary o) = plain-stays (binary o) (λ ss us. refl)
node-stays (word f) = plain-stays (word f) (λ ss us. refl)
node-stays application = plain-stays application (λ ss us. refl)
node-stays tuple_literal = plain-stays tuple_literal (λ ss us. refl)
node-stays set_literal = plain-stays set_literal (λ ss us. refl)
node-stays mset_literal = plain-stays mset_literal (λ ss us. refl)
node-stays function_literal = plain-stays function_literal (λ ss us. refl)
node-stays relation_literal = plain-stays relation_literal (λ ss us. refl)
node-stays partition_literal = plain-stays partition_literal (λ ss us. refl)
node-stays matrix_literal = plain-stays matrix_literal (λ ss us. refl)
node-stays (record_literal fs) = plain-stays (record_literal fs) (λ ss us. refl)

-- ---- trees

module _ (a b : Ex) where
  mutual
    -- No expression changes the type of a domain.
    pub dom-type : (c : InDom) → type_of_dom (fill_dom c a) ≡ type_of_dom (fill_dom c b)
    dom-type (in_bound rs c) = refl
    dom-type (in_component c) = ap (compound a_tuple) (doms-type c)
    dom-type (in_field fs c) = ap (compound (a_record fs)) (doms-type c)
    dom-type (in_index c d) = nested-type c (type_of_dom d)
    dom-type (in_element is c) = ap (nested_ty is) (dom-type c)
    dom-type (in_set_number ms c d) = refl
    dom-type (in_set_member ms es c) = ap (λ t. compound a_set (more_tys t no_tys)) (dom-type c)
    dom-type (in_mset_number ms c d) = refl
    dom-type (in_mset_member ms es c) = ap (λ t. compound a_mset (more_tys t no_tys)) (dom-type c)
    dom-type (in_function_number ms c d r) = refl
    dom-type (in_argument ms es c r) = ap (λ t. compound a_function (more_tys t (more_tys (type_of_dom r) no_tys))) (dom-type c)
    dom-type (in_result ms es d c) = ap (λ t. compound a_function (more_tys (type_of_dom d) (more_tys t no_tys))) (dom-type c)
    dom-type (in_relation_number ms c ds) = refl
    dom-type (in_relation_component ms es c) = ap (compound a_relation) (doms-type c)
    dom-type (in_partition_number ms c d) = refl
    dom-type (in_partition_member ms es c) = ap (λ t. compound a_partition (more_tys t no_tys)) (dom-type c)

    doms-type : (c : InDoms) → types_of_doms (fill_doms c a) ≡ types_of_doms (fill_doms c b)
    doms-type (in_first_domain c ds) = ap (λ t. more_tys t (types_of_doms ds)) (dom-type c)
    doms-type (in_later_domain d c) = ap (more_tys (type_of_dom d)) (doms-type c)

    nested-type : (c : InDoms) (t : Ty) → nested_ty (fill_doms c a) t ≡ nested_ty (fill_doms c b) t
    nested-type (in_first_domain c ds) t = ap (λ u. compound a_matrix (more_tys u (more_tys (nested_ty ds t) no_tys))) (dom-type c)
    nested-type (in_later_domain d c) t = ap (λ u. compound a_matrix (more_tys (type_of_dom d) (more_tys u no_tys))) (nested-type c t)

  module _ (nothing : static a ≡ other) where
    -- A tree with the part says nothing either.
    says-nothing : (c : In) → static (fill c a) ≡ other
    says-nothing hole = nothing
    says-nothing (in_operand m op c) = refl
    says-nothing (in_item c d) = refl
    says-nothing (in_index_domain es c) = refl
    says-nothing (in_body c gs) = refl
    says-nothing (in_generators x c) = refl
    says-nothing (in_cell_index m n c) = refl
    says-nothing (in_view_domain r c ns es) = refl
    says-nothing (in_view_index r d ns c) = refl

    body-stays : (c : In) (o : Option (Names Ty)) → ((h : Names Ty) → o ≡ Some h → KeepsType h (fill c a) (fill c b)) →
        Stays (and_then o (λ h. option_map (compound2 a_matrix int_ty) (type_of (fill c a) h)))
        (and_then o (λ h. option_map (compound2 a_matrix int_ty) (type_of (fill c b) h)))
    body-stays c None h t e = cc
    body-stays c (Some k) h t e = map-stays (compound2 a_matrix int_ty) (type_of (fill c a) k) (type_of (fill c b) k) (h k refl) t e

    mutual
      pub part-stays : (c : In) (g : Names Ty) → KeepsType (names_at c g) a b → KeepsType g (fill c a) (fill c b)
      part-stays hole g k = k
      part-stays (in_operand m op c) g k =
          node-stays op (statics (fill_exs c a)) (statics (fill_exs c b)) (types_of (fill_exs c a) g) (types_of (fill_exs c b) g)
          (operands-follow c g k)
      part-stays (in_item c d) g k =
          then-stays (all_some (types_of (fill_exs c a) g)) (all_some (types_of (fill_exs c b) g))
          (λ ts. option_map (compound2 a_matrix (type_of_dom d)) (join_all ts)) (λ ts. option_map (compound2 a_matrix (type_of_dom d))
          (join_all ts))
          (all-stay (statics (fill_exs c a)) (statics (fill_exs c b)) (types_of (fill_exs c a) g) (types_of (fill_exs c b) g)
          (operands-follow c g k)) (λ ts t e. e)
      part-stays (in_index_domain es c) g k = λ t e.
          ap (λ z. and_then (all_some (types_of es g)) (λ ts. option_map (compound2 a_matrix z) (join_all ts))) (sym (dom-type c)) ∙ e
      part-stays (in_body c gs) g k =
          let r = part-stays c (names_behind gs g) k in
          body-stays c (types_under gs g) (λ h q. subst (λ z. KeepsType z (fill c a) (fill c b)) (behind-types gs g h q) r)
      part-stays (in_generators x c) g k =
          then-stays (types_under (fill_gens c a) g) (types_under (fill_gens c b) g)
          (λ h. option_map (compound2 a_matrix int_ty) (type_of x h)) (λ h. option_map (compound2 a_matrix int_ty) (type_of x h))
          (gens-stay c g k) (λ h t e. e)
      part-stays (in_cell_index m n c) g k = λ t e. e
      part-stays (in_view_domain r c ns es) g k = λ t e. ap Some (sym (dom-type c)) ∙ e
      part-stays (in_view_index r d ns c) g k = λ t e. e

      operands-follow : (c : Ins) (g : Names Ty) → KeepsType (names_at_exs c g) a b →
          Follows (statics (fill_exs c a)) (statics (fill_exs c b)) (types_of (fill_exs c a) g) (types_of (fill_exs c b) g)
      operands-follow (in_first c es) g k =
          (subst (λ z. Says z (static (fill c b))) (sym (says-nothing c)) tt, part-stays c g k, follow-itself es g)
      operands-follow (in_later x c) g k = (says-itself (static x), (λ t e. e), operands-follow c g k)

      gens-stay : (c : InGens) (g : Names Ty) → KeepsType (names_at_gens c g) a b →
          Stays (types_under (fill_gens c a) g) (types_under (fill_gens c b) g)
      gens-stay (in_generator_domain p c gs) g k = λ t e. ap (λ z. types_under gs (bind_types p z g)) (sym (dom-type c)) ∙ e
      gens-stay (behind_over p d c) g k = gens-stay c (bind_types p (type_of_dom d) g) k
      gens-stay (in_source p c gs) g k =
          then-stays (and_then (type_of (fill c a) g) member_ty) (and_then (type_of (fill c b) g) member_ty)
          (λ t. types_under gs (bind_types p t g)) (λ t. types_under gs (bind_types p t g))
          (then-stays (type_of (fill c a) g) (type_of (fill c b) g) member_ty member_ty (part-stays c g k) (λ v t e. e)) (λ v t e. e)
      gens-stay (behind_from p x c) g k =
          source-stays (and_then (type_of x g) member_ty) (λ t. types_under (fill_gens c a) (bind_types p t g))
          (λ t. types_under (fill_gens c b) (bind_types p t g)) (gens-stay c (bind_types p (source_ty x g) g) k)
      gens-stay (in_condition c gs) g k =
          then-stays (type_of (fill c a) g) (type_of (fill c b) g) (λ t. and_then (join t bool_ty) (λ u. types_under gs g))
          (λ t. and_then (join t bool_ty) (λ u. types_under gs g)) (part-stays c g k) (λ v t e. e)
      gens-stay (behind_condition x c) g k =
          then-stays (type_of x g) (type_of x g) (λ t. and_then (join t bool_ty) (λ u. types_under (fill_gens c a) g))
          (λ t. and_then (join t bool_ty) (λ u. types_under (fill_gens c b) g)) (λ t e. e)
          (λ v. then-stays (join v bool_ty) (join v bool_ty) (λ u. types_under (fill_gens c a) g) (λ u. types_under (fill_gens c b) g)
          (λ t e. e) (λ u. gens-stay c g k))

-- Any number of rules, each at some part.
rewritten-types : (g : Names Ty) (old new : Ex) → Rewritten Typed KeptTyped g old new → KeepsType g old new
rewritten-types g e d as_it_was t q = q
rewritten-types g old e (rewritten_at {a = a} {b = b} c s r u) t q =
    rewritten-types g (fill c b) e u t (part-stays a b r.says_nothing c g r.type_stays t q)

-- What stays.
pub types-stay : WholesKeepTypes
types-stay = record {
  at_a_part = λ c g a b n k. part-stays a b n c g k;
  by_any_rules = λ g old new u. rewritten-kept Typed KeptTyped (λ g a b k. k.kept) g old new u;
  by_any_rules_types = λ g old new u. rewritten-types g old new u;
}
