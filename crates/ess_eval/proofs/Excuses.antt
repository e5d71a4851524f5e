-- Where a number in a part lies outside 64 bits, so does one of the whole.
use Rattle.std.proofs.Common.{◌≡◌, Bool, true, false, ◌||◌, Option, None, refl, List, [], ◌∷◌, map, option_map}
use Rattle.ess_semantics.specs.declared.words.Op1.{Op1}
use Rattle.ess_semantics.specs.declared.words.Op2.{Op2}
use Rattle.ess_semantics.specs.declared.words.Fun.{Fun}
use Rattle.ess_semantics.specs.Values.{Value}
use Rattle.ess_semantics.specs.Trees as pure
use Rattle.ess_semantics.specs.Trees.{Op, node_ex, unary, binary, word, index, application, tuple_literal, set_literal, mset_literal, relation_literal, partition_literal, matrix_literal, function_literal, record_literal, more_exs, no_exs, comp_ex, matrix_ex, is_truth_op1, is_truth_op2, ex1, ex2}
use Rattle.ess_semantics.specs.Names.{keys}
use Rattle.ess_semantics.specs.Operators.{value_of_node, false_where_undefined, list_value}
use Rattle.ess_semantics.specs.Meaning.{Env, meaning, meanings}
use Rattle.ess_semantics.specs.Large.{is_large, any_large, is_large_dom, is_big}
use Rattle.ess_core.specs.ValueViews.{pure_val}
use Rattle.ess_core.specs.TreeViews.{pure_ex, pure_exs, pure_field_ex, pure_pair_ex, exs_of, field_values, call_mark, pure_gen, pure_gens}
use Rattle.ess_core.specs.declared.values.Val.{Val}
use Rattle.ess_core.specs.declared.expressions.Gen.{Gen}
use Rattle.ess_eval.specs.Items.{items_at, large_items}
use Rattle.ess_core.specs.declared.expressions.Ex.{Ex}
use Rattle.ess_core.specs.declared.expressions.FieldEx.{FieldEx}
use Rattle.ess_core.specs.declared.expressions.PairEx.{PairEx}
use Rattle.ess_core.specs.declared.expressions.Gen.{Gen}
use Rattle.ess_core.specs.declared.expressions.Ex.TheVariants as variant
use Rattle.ess_core.specs.declared.domains.Dom.TheViews.{out-PairEx}
use Rattle.ess_core.proofs.PartEquations.{pure_pair_ex_is}
use Rattle.ess_core.proofs.ExpressionEquations.{pure_one, pure_tuple, pure_rec, pure_set, pure_mset, pure_function, pure_relation, pure_partition, pure_plain_matrix}

-- A disjunction holds where its right side does.
pub or_right : (a b : Bool) → b ≡ true → (a || b) ≡ true
or_right true b h = refl
or_right false b h = h

-- A disjunction holds where its left side does.
pub or_left : (a b : Bool) → a ≡ true → (a || b) ≡ true
or_left true b h = refl
or_left false b h = cc

-- An operand of a node.
pub large_operand : (b : Bool) (op : Op) (es : pure.Exs) (env : Env) → any_large es env ≡ true → is_large (node_ex b op es) env ≡ true
large_operand b op es env h = or_right _ _ h

-- The node itself.
pub large_node : (b : Bool) (op : Op) (es : pure.Exs) (env : Env)
    → is_big (false_where_undefined b (value_of_node op (meanings es env))) ≡ true → is_large (node_ex b op es) env ≡ true
large_node b op es env h = or_left _ _ h

-- The first of several operands.
pub large_first : (e : pure.Ex) (es : pure.Exs) (env : Env) → is_large e env ≡ true → any_large (more_exs e es) env ≡ true
large_first e es env h = or_left _ _ h

-- One of the others.
pub large_later : (e : pure.Ex) (es : pure.Exs) (env : Env) → any_large es env ≡ true → any_large (more_exs e es) env ≡ true
large_later e es env h = or_right _ _ h

-- ---- one operand

pub large_in_one : (o : Op1) (a : Ex) (env : Env) → is_large (pure_ex a) env ≡ true → is_large (pure_ex (variant.One o a)) env ≡ true
large_in_one o a env h =
    rw (pure_one o a) (large_operand (is_truth_op1 o) (unary o) (more_exs (pure_ex a) no_exs) env (large_first (pure_ex a) no_exs env h))

pub large_one : (o : Op1) (a : Ex) (env : Env) (x : Option Val) → option_map pure_val x ≡ meaning (pure_ex a) env
    → is_big (false_where_undefined (is_truth_op1 o) (value_of_node (unary o) (option_map pure_val x ∷ []))) ≡ true
    → is_large (pure_ex (variant.One o a)) env ≡ true
large_one o a env x e h =
    let k : is_big (false_where_undefined (is_truth_op1 o) (value_of_node (unary o) (meaning (pure_ex a) env ∷ []))) ≡ true = rw (← e) h in
    rw (pure_one o a) (large_node (is_truth_op1 o) (unary o) (more_exs (pure_ex a) no_exs) env k)

-- ---- two operands

pub large_in_left : (o : Op2) (a b : pure.Ex) (env : Env) → is_large a env ≡ true → is_large (ex2 (is_truth_op2 o) o a b) env ≡ true
large_in_left o a b env h =
    large_operand (is_truth_op2 o) (binary o) (more_exs a (more_exs b no_exs)) env (large_first a (more_exs b no_exs) env h)

pub large_in_right : (o : Op2) (a b : pure.Ex) (env : Env) → is_large b env ≡ true → is_large (ex2 (is_truth_op2 o) o a b) env ≡ true
large_in_right o a b env h =
    large_operand (is_truth_op2 o) (binary o) (more_exs a (more_exs b no_exs)) env (large_later a (more_exs b no_exs) env (large_first b no_exs env h))

pub large_two : (o : Op2) (a b : pure.Ex) (env : Env) (x y : Option Value) → x ≡ meaning a env → y ≡ meaning b env
    → is_big (false_where_undefined (is_truth_op2 o) (value_of_node (binary o) (x ∷ y ∷ []))) ≡ true
    → is_large (ex2 (is_truth_op2 o) o a b) env ≡ true
large_two o a b env x y e f h =
    let k : is_big (false_where_undefined (is_truth_op2 o) (value_of_node (binary o) (meaning a env ∷ meaning b env ∷ []))) ≡ true = rw (← e, ← f) h in
    large_node (is_truth_op2 o) (binary o) (more_exs a (more_exs b no_exs)) env k

-- ---- calls of function words

pub large_word_in : (b : Bool) (f : Fun) (a : pure.Ex) (env : Env) → is_large a env ≡ true
    → is_large (node_ex (call_mark b f) (word f) (more_exs a no_exs)) env ≡ true
large_word_in b f a env h = large_operand (call_mark b f) (word f) (more_exs a no_exs) env (large_first a no_exs env h)

pub large_word_one : (b : Bool) (f : Fun) (a : pure.Ex) (env : Env) (x : Option Value) → x ≡ meaning a env
    → is_big (false_where_undefined (call_mark b f) (value_of_node (word f) (x ∷ []))) ≡ true
    → is_large (node_ex (call_mark b f) (word f) (more_exs a no_exs)) env ≡ true
large_word_one b f a env x e h =
    let k : is_big (false_where_undefined (call_mark b f) (value_of_node (word f) (meaning a env ∷ []))) ≡ true = rw (← e) h in
    large_node (call_mark b f) (word f) (more_exs a no_exs) env k

-- On a comprehension: of its items, and of the value.
pub large_word_items : (f : Fun) (e : pure.Ex) (gs : List Gen) (env : Env) → large_items e (map pure_gen gs) env ≡ true
    → is_large (node_ex (call_mark false f) (word f) (more_exs (comp_ex e (pure_gens gs)) no_exs)) env ≡ true
large_word_items f e gs env h = large_word_in false f (comp_ex e (pure_gens gs)) env h

pub large_word : (f : Fun) (e : pure.Ex) (gs : List Gen) (env : Env)
    → is_big (false_where_undefined (call_mark false f)
    (value_of_node (word f) (option_map list_value (items_at e (map pure_gen gs) env) ∷ []))) ≡ true
    → is_large (node_ex (call_mark false f) (word f) (more_exs (comp_ex e (pure_gens gs)) no_exs)) env ≡ true
large_word f e gs env h = large_word_one false f (comp_ex e (pure_gens gs)) env (meaning (comp_ex e (pure_gens gs)) env) refl h

pub large_word_left : (m : Bool) (f : Fun) (a b : pure.Ex) (env : Env) → is_large a env ≡ true
    → is_large (node_ex (call_mark m f) (word f) (more_exs a (more_exs b no_exs))) env ≡ true
large_word_left m f a b env h =
    large_operand (call_mark m f) (word f) (more_exs a (more_exs b no_exs)) env (large_first a (more_exs b no_exs) env h)

pub large_word_right : (m : Bool) (f : Fun) (a b : pure.Ex) (env : Env) → is_large b env ≡ true
    → is_large (node_ex (call_mark m f) (word f) (more_exs a (more_exs b no_exs))) env ≡ true
large_word_right m f a b env h =
    large_operand (call_mark m f) (word f) (more_exs a (more_exs b no_exs)) env
    (large_later a (more_exs b no_exs) env (large_first b no_exs env h))

pub large_word_two : (m : Bool) (f : Fun) (a b : pure.Ex) (env : Env) (x y : Option Value) → x ≡ meaning a env → y ≡ meaning b env
    → is_big (false_where_undefined (call_mark m f) (value_of_node (word f) (x ∷ y ∷ []))) ≡ true
    → is_large (node_ex (call_mark m f) (word f) (more_exs a (more_exs b no_exs))) env ≡ true
large_word_two m f a b env x y e g h =
    let k : is_big (false_where_undefined (call_mark m f) (value_of_node (word f) (meaning a env ∷ meaning b env ∷ []))) ≡ true =
    rw (← e, ← g) h in
    large_node (call_mark m f) (word f) (more_exs a (more_exs b no_exs)) env k

pub large_word_all : (b : Bool) (f : Fun) (es : pure.Exs) (env : Env) (xs : List (Option Value)) → xs ≡ meanings es env
    → is_big (false_where_undefined (call_mark b f) (value_of_node (word f) xs)) ≡ true
    → is_large (node_ex (call_mark b f) (word f) es) env ≡ true
large_word_all b f es env xs e h =
    let k : is_big (false_where_undefined (call_mark b f) (value_of_node (word f) (meanings es env))) ≡ true = rw (← e) h in
    large_node (call_mark b f) (word f) es env k

-- ---- many operands

-- An index, and an application: of what is looked into, of the other operands, of the value.
pub large_in_head : (b : Bool) (op : Op) (e : pure.Ex) (es : pure.Exs) (env : Env) → is_large e env ≡ true
    → is_large (node_ex b op (more_exs e es)) env ≡ true
large_in_head b op e es env h = large_operand b op (more_exs e es) env (large_first e es env h)

pub large_in_tail : (b : Bool) (op : Op) (e : pure.Ex) (es : pure.Exs) (env : Env) → any_large es env ≡ true
    → is_large (node_ex b op (more_exs e es)) env ≡ true
large_in_tail b op e es env h = large_operand b op (more_exs e es) env (large_later e es env h)

pub large_head : (b : Bool) (op : Op) (e : pure.Ex) (es : pure.Exs) (env : Env) (o : Option Value) (xs : List (Option Val))
    → o ≡ meaning e env → map (option_map pure_val) xs ≡ meanings es env
    → is_big (false_where_undefined b (value_of_node op (o ∷ map (option_map pure_val) xs))) ≡ true
    → is_large (node_ex b op (more_exs e es)) env ≡ true
large_head b op e es env o xs f g h =
    let k : is_big (false_where_undefined b (value_of_node op (meaning e env ∷ meanings es env))) ≡ true = rw (← f, ← g) h in
    large_node b op (more_exs e es) env k

-- ---- literals

pub large_in_tuple : (es : List Ex) (env : Env) → any_large (pure_exs es) env ≡ true → is_large (pure_ex (variant.Tuple es)) env ≡ true
large_in_tuple es env h = rw (pure_tuple es) (large_operand false tuple_literal (pure_exs es) env h)

pub large_in_set : (es : List Ex) (env : Env) → any_large (pure_exs es) env ≡ true → is_large (pure_ex (variant.Set es)) env ≡ true
large_in_set es env h = rw (pure_set es) (large_operand false set_literal (pure_exs es) env h)

pub large_in_mset : (es : List Ex) (env : Env) → any_large (pure_exs es) env ≡ true → is_large (pure_ex (variant.MSet es)) env ≡ true
large_in_mset es env h = rw (pure_mset es) (large_operand false mset_literal (pure_exs es) env h)

pub large_in_relation : (es : List Ex) (env : Env) → any_large (pure_exs es) env ≡ true
    → is_large (pure_ex (variant.Relation es)) env ≡ true
large_in_relation es env h = rw (pure_relation es) (large_operand false relation_literal (pure_exs es) env h)

pub large_in_partition : (es : List Ex) (env : Env) → any_large (pure_exs es) env ≡ true
    → is_large (pure_ex (variant.Partition es)) env ≡ true
large_in_partition es env h = rw (pure_partition es) (large_operand false partition_literal (pure_exs es) env h)

pub large_in_list : (es : List Ex) (env : Env) → any_large (pure_exs es) env ≡ true → is_large (pure_ex (variant.Matrix es None)) env ≡ true
large_in_list es env h = rw (pure_plain_matrix es) (large_operand false matrix_literal (pure_exs es) env h)

pub large_in_record : (fs : List FieldEx) (env : Env) → any_large (exs_of (field_values (map pure_field_ex fs))) env ≡ true
    → is_large (pure_ex (variant.Rec fs)) env ≡ true
large_in_record fs env h =
    rw (pure_rec fs) (large_operand false (record_literal (keys (map pure_field_ex fs))) (exs_of (field_values (map pure_field_ex fs))) env h)

pub large_in_function : (ps : List PairEx) (env : Env) → any_large (exs_of (map pure_pair_ex ps)) env ≡ true
    → is_large (pure_ex (variant.Function ps)) env ≡ true
large_in_function ps env h = rw (pure_function ps) (large_operand false function_literal (exs_of (map pure_pair_ex ps)) env h)

-- ---- matrices with an index domain

pub large_in_items : (es : pure.Exs) (d : pure.Dom) (env : Env) → any_large es env ≡ true → is_large (matrix_ex es d) env ≡ true
large_in_items es d env h = or_left _ _ h

pub large_in_axis : (es : pure.Exs) (d : pure.Dom) (env : Env) → is_large_dom d env ≡ true → is_large (matrix_ex es d) env ≡ true
large_in_axis es d env h = or_right _ _ h

-- ---- pairs of function literals

pub large_in_from : (p : PairEx) (env : Env) → is_large (pure_ex (out-PairEx p).from) env ≡ true → is_large (pure_pair_ex p) env ≡ true
large_in_from p env h =
    rw (pure_pair_ex_is p) (large_in_head false tuple_literal (pure_ex (out-PairEx p).from) (more_exs (pure_ex (out-PairEx p).to) no_exs) env h)

pub large_in_to : (p : PairEx) (env : Env) → is_large (pure_ex (out-PairEx p).to) env ≡ true → is_large (pure_pair_ex p) env ≡ true
large_in_to p env h =
    rw (pure_pair_ex_is p)
    (large_in_tail false tuple_literal (pure_ex (out-PairEx p).from) (more_exs (pure_ex (out-PairEx p).to) no_exs) env (large_first (pure_ex (out-PairEx p).to) no_exs env h))

pub ruleset large_in_parts = (
  large_in_one,
  large_one,
  large_in_tuple,
  large_in_set,
  large_in_mset,
  large_in_relation,
  large_in_partition,
  large_in_list,
  large_in_record,
  large_in_function,
)
