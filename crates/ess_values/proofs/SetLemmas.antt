-- The values of literals whose types join to that of a set are sets.
use Rattle.std.proofs.Common.{◌≡◌, refl, sym, ap, ◌∙◌, Bool, true, false, ◌&&◌, if◌then◌else◌, List, [], ◌∷◌, Option, Some, None, option_map, pos}
use lib.IntN.{negsuc}
use Rattle.std.specs.List.{list_all}
use Rattle.ess_semantics.specs.declared.words.Op1.{Op1}
use Rattle.ess_semantics.specs.Lists.{and_then, when, all_some}
use Rattle.ess_semantics.specs.Values.{Kind, Value, number, truth, item, node, a_tuple, a_matrix, a_set, a_mset, a_function, a_relation, a_partition, a_record}
use Rattle.ess_semantics.specs.Order.{same_kind, same_text}
use Rattle.ess_semantics.specs.Types.{Ty, Tys, any_ty, bool_ty, int_ty, named_ty, compound, no_tys, more_tys, is_open, join, joins, join_all, compound2, type_of_dom}
use Rattle.ess_semantics.specs.Trees as pure
use Rattle.ess_semantics.specs.Trees.{Op, unary, binary, word, index, application, tuple_literal, set_literal, mset_literal, function_literal, relation_literal, partition_literal, matrix_literal, record_literal, Exs, number_ex, truth_ex, name_ex, node_ex, matrix_ex, comp_ex, cell_ex, seen_ex, no_exs, more_exs}
use Rattle.ess_semantics.specs.OperatorTypes.{type_of_op, type_of_list, function_ty, relation_ty, partition_ty}
use Rattle.ess_semantics.specs.Operators.{value_of_op}
use Rattle.ess_semantics.specs.Collections.{set_of}
use Rattle.ess_semantics.specs.Meaning.{Env}
use Rattle.ess_semantics.specs.Literals.{types_of_literals, value_of_literal, values_of_literals, is_literal_op, is_literal_index, is_number_literal, type_of_item, item_of_name}
use Rattle.ess_semantics.specs.Membership.{is_set}
use Rattle.ess_values.specs.TypedLiterals.{both, typed_literal, typed_literals, SetsWhereTyped}
use Rattle.ess_values.proofs.Joins.{kinds_equal}
use Rattle.ess_values.proofs.Reading.{literals_more, typed_more}

-- ---- types that a set may have

abbrev is_set_kind : Kind → Bool
is_set_kind a_set = true
is_set_kind _ = false

abbrev may_be_set : Ty → Bool
may_be_set any_ty = true
may_be_set bool_ty = false
may_be_set int_ty = false
may_be_set (named_ty a) = false
may_be_set (compound k ts) = is_set_kind k

parts_may : (t u : Ty) → partition_ty t ≡ Some u → may_be_set t ≡ true
parts_may any_ty u e = refl
parts_may bool_ty u e = cc
parts_may int_ty u e = cc
parts_may (named_ty a) u e = cc
parts_may (compound a_tuple ts) u e = cc
parts_may (compound a_matrix ts) u e = cc
parts_may (compound a_set ts) u e = refl
parts_may (compound a_mset ts) u e = cc
parts_may (compound a_function ts) u e = cc
parts_may (compound a_relation ts) u e = cc
parts_may (compound a_partition ts) u e = cc
parts_may (compound (a_record fs) ts) u e = cc

-- two compound types that join are of one kind, and so is their join
abbrev JoinsTo : Kind → Kind → Ty → Type 0
JoinsTo k l t = (may_be_set t ≡ is_set_kind k) × (l ≡ k)

one_kind : (k l : Kind) (ts us : Tys) (t : Ty) → join (compound k ts) (compound l us) ≡ Some t → JoinsTo k l t
one_kind k l ts us t e = go (same_kind k l) (if is_open k ts then Some us else (if is_open k us then Some ts else joins ts us)) refl e
  where
    go : (b : Bool) (o : Option Tys) → same_kind k l ≡ b → (if b then option_map (compound k) o else None) ≡ Some t → JoinsTo k l t
    go true None h e = cc
    go true (Some vs) h e = let q : t ≡ compound k vs = cc in (ap may_be_set q, sym (kinds_equal k l h))
    go false o h e = cc

both_may : (t u w : Ty) → join t u ≡ Some w → may_be_set w ≡ true → (may_be_set t ≡ true) × (may_be_set u ≡ true)
both_may any_ty u w e h = let q : u ≡ w = cc in (refl, ap may_be_set q ∙ h)
both_may bool_ty any_ty w e h = let q : w ≡ bool_ty = cc in let r = sym (ap may_be_set q) ∙ h in cc
both_may bool_ty bool_ty w e h = let q : w ≡ bool_ty = cc in let r = sym (ap may_be_set q) ∙ h in cc
both_may bool_ty int_ty w e h = cc
both_may bool_ty (named_ty b) w e h = cc
both_may bool_ty (compound l us) w e h = cc
both_may int_ty any_ty w e h = let q : w ≡ int_ty = cc in let r = sym (ap may_be_set q) ∙ h in cc
both_may int_ty bool_ty w e h = cc
both_may int_ty int_ty w e h = let q : w ≡ int_ty = cc in let r = sym (ap may_be_set q) ∙ h in cc
both_may int_ty (named_ty b) w e h = cc
both_may int_ty (compound l us) w e h = cc
both_may (named_ty a) any_ty w e h = let q : w ≡ named_ty a = cc in let r = sym (ap may_be_set q) ∙ h in cc
both_may (named_ty a) bool_ty w e h = cc
both_may (named_ty a) int_ty w e h = cc
both_may (named_ty a) (named_ty b) w e h = go (same_text a b) e
  where
    go : (c : Bool) → when c (named_ty a) ≡ Some w → (may_be_set (named_ty a) ≡ true) × (may_be_set (named_ty b) ≡ true)
    go true e = let q : w ≡ named_ty a = cc in let r = sym (ap may_be_set q) ∙ h in cc
    go false e = cc
both_may (named_ty a) (compound l us) w e h = cc
both_may (compound k ts) any_ty w e h = let q : w ≡ compound k ts = cc in (sym (ap may_be_set q) ∙ h, refl)
both_may (compound k ts) bool_ty w e h = cc
both_may (compound k ts) int_ty w e h = cc
both_may (compound k ts) (named_ty b) w e h = cc
both_may (compound k ts) (compound l us) w e h = let j = one_kind k l ts us w e in let s = sym j.0 ∙ h in (s, ap is_set_kind j.1 ∙ s)

-- ---- a literal's type and its value

-- Whether a value is one of a type, as far as sets are concerned. No literal has the type of an empty one's members.
abbrev suits : Ty → Value → Bool
suits any_ty v = false
suits bool_ty v = true
suits int_ty v = true
suits (named_ty a) v = true
suits (compound k ts) v = if is_set_kind k then is_set v else true

suits_set : (t : Ty) (v : Value) → suits t v ≡ true → may_be_set t ≡ true → is_set v ≡ true
suits_set any_ty v s m = cc
suits_set bool_ty v s m = cc
suits_set int_ty v s m = cc
suits_set (named_ty a) v s m = cc
suits_set (compound k ts) v s m = ap (λ b. if b then is_set v else true) (sym m) ∙ s

suited : (t u : Ty) (v : Value) → Some u ≡ Some t → suits u v ≡ true → suits t v ≡ true
suited t u v e h = let q : t ≡ u = cc in ap (λ w. suits w v) q ∙ h

function_suits : (s t : Ty) (v : Value) → function_ty s ≡ Some t → suits t v ≡ true
function_suits any_ty t v e = suited t _ v e refl
function_suits bool_ty t v e = cc
function_suits int_ty t v e = cc
function_suits (named_ty a) t v e = cc
function_suits (compound a_tuple no_tys) t v e = cc
function_suits (compound a_tuple (more_tys a no_tys)) t v e = cc
function_suits (compound a_tuple (more_tys a (more_tys b no_tys))) t v e = suited t _ v e refl
function_suits (compound a_tuple (more_tys a (more_tys b (more_tys c ts)))) t v e = cc
function_suits (compound a_matrix ts) t v e = cc
function_suits (compound a_set ts) t v e = cc
function_suits (compound a_mset ts) t v e = cc
function_suits (compound a_function ts) t v e = cc
function_suits (compound a_relation ts) t v e = cc
function_suits (compound a_partition ts) t v e = cc
function_suits (compound (a_record fs) ts) t v e = cc

relation_suits : (s t : Ty) (v : Value) → relation_ty s ≡ Some t → suits t v ≡ true
relation_suits any_ty t v e = suited t _ v e refl
relation_suits bool_ty t v e = cc
relation_suits int_ty t v e = cc
relation_suits (named_ty a) t v e = cc
relation_suits (compound a_tuple ts) t v e = suited t _ v e refl
relation_suits (compound a_matrix ts) t v e = cc
relation_suits (compound a_set ts) t v e = cc
relation_suits (compound a_mset ts) t v e = cc
relation_suits (compound a_function ts) t v e = cc
relation_suits (compound a_relation ts) t v e = cc
relation_suits (compound a_partition ts) t v e = cc
relation_suits (compound (a_record fs) ts) t v e = cc

partition_suits : (s t : Ty) (v : Value) → partition_ty s ≡ Some t → suits t v ≡ true
partition_suits any_ty t v e = suited t _ v e refl
partition_suits bool_ty t v e = cc
partition_suits int_ty t v e = cc
partition_suits (named_ty a) t v e = cc
partition_suits (compound a_tuple ts) t v e = cc
partition_suits (compound a_matrix ts) t v e = cc
partition_suits (compound a_set no_tys) t v e = cc
partition_suits (compound a_set (more_tys a no_tys)) t v e = suited t _ v e refl
partition_suits (compound a_set (more_tys a (more_tys b ts))) t v e = cc
partition_suits (compound a_mset ts) t v e = cc
partition_suits (compound a_function ts) t v e = cc
partition_suits (compound a_relation ts) t v e = cc
partition_suits (compound a_partition ts) t v e = cc
partition_suits (compound (a_record fs) ts) t v e = cc

-- f of the join of types
after_join : (o : Option Ty) (f : Ty → Option Ty) (t : Ty) (v : Value) → ((s : Ty) → f s ≡ Some t → suits t v ≡ true) → and_then o f ≡ Some t → suits t v ≡ true
after_join None f t v h e = cc
after_join (Some s) f t v h e = h s e

made_suits : (o : Option Ty) (f : Ty → Ty) (t : Ty) (v : Value) → ((s : Ty) → suits (f s) v ≡ true) → option_map f o ≡ Some t → suits t v ≡ true
made_suits None f t v h e = cc
made_suits (Some s) f t v h e = suited t (f s) v e (h s)

list_suits : (ts : List Ty) (t : Ty) (v : Value) → type_of_list ts ≡ Some t → suits t v ≡ true
list_suits [] t v e = suited t _ v e refl
list_suits (s ∷ ss) t v e = made_suits (join_all (s ∷ ss)) (compound2 a_matrix int_ty) t v (λ r. refl) e

set_suits : (o : Option Ty) (t : Ty) (vs : List Value) (v : Value) → option_map (λ a. compound a_set (more_tys a no_tys)) o ≡ Some t → Some (set_of vs) ≡ Some v → suits t v ≡ true
set_suits o t vs v e d = let q : set_of vs ≡ v = cc in made_suits o (λ a. compound a_set (more_tys a no_tys)) t v (λ s. ap is_set (sym q)) e

op_suits : (op : Op) (ts : List Ty) (vs : List Value) (t : Ty) (v : Value) → is_literal_op op ≡ true → type_of_op op ts ≡ Some t → value_of_op op vs ≡ Some v → suits t v ≡ true
op_suits (unary o) ts vs t v l e d = cc
op_suits (binary o) ts vs t v l e d = cc
op_suits (word f) ts vs t v l e d = cc
op_suits (index qs) ts vs t v l e d = cc
op_suits application ts vs t v l e d = cc
op_suits tuple_literal ts vs t v l e d = suited t _ v e refl
op_suits set_literal ts vs t v l e d = set_suits (join_all ts) t vs v e d
op_suits mset_literal ts vs t v l e d = made_suits (join_all ts) (λ a. compound a_mset (more_tys a no_tys)) t v (λ s. refl) e
op_suits function_literal ts vs t v l e d = after_join (join_all ts) function_ty t v (λ s. function_suits s t v) e
op_suits relation_literal ts vs t v l e d = after_join (join_all ts) relation_ty t v (λ s. relation_suits s t v) e
op_suits partition_literal ts vs t v l e d = after_join (join_all ts) partition_ty t v (λ s. partition_suits s t v) e
op_suits matrix_literal ts vs t v l e d = list_suits ts t v e
op_suits (record_literal fs) ts vs t v l e d = suited t _ v e refl

-- both answers of a node, where both are there
node_suits : (op : Op) (b : Bool) (o : Option (List Ty)) (p : Option (List Value)) (x : Ty × Value) → is_literal_op op ≡ b
    → both (if b then and_then o (type_of_op op) else None) (and_then p (value_of_op op)) ≡ Some x → suits x.0 x.1 ≡ true
node_suits op true None p x l e = cc
node_suits op true (Some ts) None x l e = nothing (type_of_op op ts) e
  where
    nothing : (r : Option Ty) → both {B = Value} r None ≡ Some x → suits x.0 x.1 ≡ true
    nothing None e = cc
    nothing (Some t) e = cc
node_suits op true (Some ts) (Some vs) x l e = go (type_of_op op ts) (value_of_op op vs) refl refl e
  where
    go : (r : Option Ty) (q : Option Value) → type_of_op op ts ≡ r → value_of_op op vs ≡ q → both r q ≡ Some x → suits x.0 x.1 ≡ true
    go None q d c e = cc
    go (Some t) None d c e = cc
    go (Some t) (Some v) d c e = let z : (t, v) ≡ x = cc in ap (λ (y : Ty × Value). suits y.0 y.1) (sym z) ∙ op_suits op ts vs t v l d c
node_suits op false o p x l e = cc

item_suits : (o : Option Value) (x : Ty × Value) → both (type_of_item o) o ≡ Some x → suits x.0 x.1 ≡ true
item_suits None x e = cc
item_suits (Some (number n)) x e = cc
item_suits (Some (truth b)) x e = cc
item_suits (Some (item t k)) x e = let z : (named_ty t, item t k) ≡ x = cc in ap (λ (y : Ty × Value). suits y.0 y.1) (sym z)
item_suits (Some (node k xs)) x e = cc

int_suits : (b : Bool) (o : Option Value) (x : Ty × Value) → both (when b int_ty) o ≡ Some x → suits x.0 x.1 ≡ true
int_suits true None x e = cc
int_suits true (Some v) x e = let z : (int_ty, v) ≡ x = cc in ap (λ (y : Ty × Value). suits y.0 y.1) (sym z)
int_suits false o x e = cc

matrix_suits : (b : Bool) (o : Option (List Ty)) (s : Ty) (p : Option Value) (x : Ty × Value)
    → both (if b then and_then o (λ ts. and_then (join_all ts) (λ t. Some (compound2 a_matrix s t))) else None) p ≡ Some x → suits x.0 x.1 ≡ true
matrix_suits true None s p x e = cc
matrix_suits true (Some ts) s p x e = go (join_all ts) p e
  where
    go : (o : Option Ty) (p : Option Value) → both (and_then o (λ t. Some (compound2 a_matrix s t))) p ≡ Some x → suits x.0 x.1 ≡ true
    go None p e = cc
    go (Some t) None e = cc
    go (Some t) (Some v) e = let z : (compound2 a_matrix s t, v) ≡ x = cc in ap (λ (y : Ty × Value). suits y.0 y.1) (sym z)
matrix_suits false o s p x e = cc

op_read : (b : Bool) (op : Op) (es : Exs) (env : Env) (x : Ty × Value) → typed_literal (node_ex b op es) env ≡ Some x → suits x.0 x.1 ≡ true
op_read b (unary Op1.Minus) es env x e = int_suits (is_number_literal (node_ex b (unary Op1.Minus) es)) (value_of_literal (node_ex b (unary Op1.Minus) es) env) x e
op_read b (unary Op1.Not) es env x e = cc
op_read b (unary Op1.Bar) es env x e = cc
op_read b (binary o) es env x e = cc
op_read b (word f) es env x e = cc
op_read b (index qs) es env x e = cc
op_read b application es env x e = cc
op_read b tuple_literal es env x e = node_suits tuple_literal true (all_some (types_of_literals es env)) (all_some (values_of_literals es env)) x refl e
op_read b set_literal es env x e = node_suits set_literal true (all_some (types_of_literals es env)) (all_some (values_of_literals es env)) x refl e
op_read b mset_literal es env x e = node_suits mset_literal true (all_some (types_of_literals es env)) (all_some (values_of_literals es env)) x refl e
op_read b function_literal es env x e = node_suits function_literal true (all_some (types_of_literals es env)) (all_some (values_of_literals es env)) x refl e
op_read b relation_literal es env x e = node_suits relation_literal true (all_some (types_of_literals es env)) (all_some (values_of_literals es env)) x refl e
op_read b partition_literal es env x e = node_suits partition_literal true (all_some (types_of_literals es env)) (all_some (values_of_literals es env)) x refl e
op_read b matrix_literal es env x e = node_suits matrix_literal true (all_some (types_of_literals es env)) (all_some (values_of_literals es env)) x refl e
op_read b (record_literal fs) es env x e = node_suits (record_literal fs) (is_literal_op (record_literal fs)) (all_some (types_of_literals es env)) (all_some (values_of_literals es env)) x refl e

literal_suits : (e : pure.Ex) (env : Env) (x : Ty × Value) → typed_literal e env ≡ Some x → suits x.0 x.1 ≡ true
literal_suits (number_ex (pos n)) env x h = let z : (int_ty, number (pos n)) ≡ x = cc in ap (λ (y : Ty × Value). suits y.0 y.1) (sym z)
literal_suits (number_ex (negsuc n)) env x h = cc
literal_suits (truth_ex b) env x h = let z : (bool_ty, truth b) ≡ x = cc in ap (λ (y : Ty × Value). suits y.0 y.1) (sym z)
literal_suits (name_ex a) env x h = item_suits (item_of_name env.types a) x h
literal_suits (node_ex b op es) env x h = op_read b op es env x h
literal_suits (matrix_ex es d) env x h = matrix_suits (is_literal_index d) (all_some (types_of_literals es env)) (type_of_dom d) (value_of_literal (matrix_ex es d) env) x h
literal_suits (comp_ex e gs) env x h = cc
literal_suits (cell_ex b n es) env x h = cc
literal_suits (seen_ex r d ns es) env x h = cc

-- ---- several literals

all_sets : (es : Exs) (env : Env) (p : List Ty × List Value) (t : Ty) → typed_literals es env ≡ Some p → join_all p.0 ≡ Some t → may_be_set t ≡ true → list_all is_set p.1 ≡ true
all_sets no_exs env p t e j m = let z : ([], []) ≡ p = cc in ap (λ (q : List Ty × List Value). list_all is_set q.1) (sym z)
all_sets (more_exs e es) env p t d j m = go (typed_literal e env) (typed_literals es env) (literal_suits e env) (λ q s. all_sets es env q s) refl refl (sym (literals_more e es env) ∙ d)
  where
    member : (x : Ty × Value) (q : List Ty × List Value) (o : Option Ty) → join_all q.0 ≡ o → and_then o (join x.0) ≡ Some t
        → suits x.0 x.1 ≡ true → ((s : Ty) → join_all q.0 ≡ Some s → may_be_set s ≡ true → list_all is_set q.1 ≡ true) → list_all is_set (x.1 ∷ q.1) ≡ true
    member x q None c k s ih = cc
    member x q (Some u) c k s ih =
        let w = both_may x.0 u t k m in
        ap (λ b. b && list_all is_set q.1) (suits_set x.0 x.1 s w.0) ∙ ih u c w.1

    go : (o : Option (Ty × Value)) (r : Option (List Ty × List Value)) → ((x : Ty × Value) → typed_literal e env ≡ Some x → suits x.0 x.1 ≡ true)
        → ((q : List Ty × List Value) (s : Ty) → typed_literals es env ≡ Some q → join_all q.0 ≡ Some s → may_be_set s ≡ true → list_all is_set q.1 ≡ true)
        → typed_literal e env ≡ o → typed_literals es env ≡ r → and_then o (λ x. option_map (typed_more x) r) ≡ Some p → list_all is_set p.1 ≡ true
    go None r f ih a b c = cc
    go (Some x) None f ih a b c = cc
    go (Some x) (Some q) f ih a b c =
        let z : (x.0 ∷ q.0, x.1 ∷ q.1) ≡ p = cc in
        ap (λ (y : List Ty × List Value). list_all is_set y.1) (sym z)
        ∙ member x q (join_all q.0) refl (ap (λ (y : List Ty × List Value). join_all y.0) z ∙ j) (f x a) (λ s. ih q s b)

pub sets_there : (es : Exs) (env : Env) (p : List Ty × List Value) → typed_literals es env ≡ Some p → SetsWhereTyped p
sets_there es env p e t u j k = all_sets es env p t e j (parts_may t u k)
