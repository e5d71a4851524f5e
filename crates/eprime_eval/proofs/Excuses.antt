-- Where a number in a part lies outside 64 bits, so does one of the whole.
use Rattle.std.proofs.Common.{◌≡◌, Bool, true, false, ◌||◌, Option, refl, [], ◌∷◌, option_map}
use Rattle.ess_semantics.specs.declared.words.Op2.{Op2}
use Rattle.ess_semantics.specs.Values.{Text}
use Rattle.ess_semantics.specs.Trees as pure
use Rattle.ess_semantics.specs.Trees.{Op, node_ex, binary, cell_ex, more_exs, no_exs, is_truth_op2, ex2}
use Rattle.ess_semantics.specs.Operators.{value_of_node, false_where_undefined}
use Rattle.ess_semantics.specs.Meaning.{Env, meaning, meanings}
use Rattle.ess_semantics.specs.Large.{is_large, any_large, is_big}
use Rattle.eprime_eval_scalars.specs.declared.scalars.Scalar.{Scalar}
use Rattle.eprime_eval_scalars.specs.ScalarViews.{pure_scalar}

-- A disjunction holds where its right side does.
pub or_right : (a b : Bool) → b ≡ true → (a || b) ≡ true
or_right true b h = refl
or_right false b h = h

-- A disjunction holds where its left side does.
pub or_left : (a b : Bool) → a ≡ true → (a || b) ≡ true
or_left true b h = refl
or_left false b h = cc

-- An operand of a node.
pub large_operand : (b : Bool) (op : Op) (es : pure.Exs) (env : Env) → any_large es env ≡ true → is_large (node_ex b op es) env ≡ true
large_operand b op es env h = or_right _ _ h

-- The node itself.
pub large_node : (b : Bool) (op : Op) (es : pure.Exs) (env : Env)
    → is_big (false_where_undefined b (value_of_node op (meanings es env))) ≡ true → is_large (node_ex b op es) env ≡ true
large_node b op es env h = or_left _ _ h

-- The first of several operands.
pub large_first : (e : pure.Ex) (es : pure.Exs) (env : Env) → is_large e env ≡ true → any_large (more_exs e es) env ≡ true
large_first e es env h = or_left _ _ h

-- One of the others.
pub large_later : (e : pure.Ex) (es : pure.Exs) (env : Env) → any_large es env ≡ true → any_large (more_exs e es) env ≡ true
large_later e es env h = or_right _ _ h

-- An index of a cell.
pub large_in_cell : (b : Bool) (n : Text) (es : pure.Exs) (env : Env) → any_large es env ≡ true → is_large (cell_ex b n es) env ≡ true
large_in_cell b n es env h = or_right _ _ h

-- ---- one operand

pub large_in_operand : (b : Bool) (op : Op) (e : pure.Ex) (env : Env) → is_large e env ≡ true → is_large (node_ex b op (more_exs e no_exs)) env ≡ true
large_in_operand b op e env h = large_operand b op (more_exs e no_exs) env (large_first e no_exs env h)

pub large_one : (b : Bool) (op : Op) (e : pure.Ex) (env : Env) (x : Option Scalar) → option_map pure_scalar x ≡ meaning e env
    → is_big (false_where_undefined b (value_of_node op (option_map pure_scalar x ∷ []))) ≡ true → is_large (node_ex b op (more_exs e no_exs)) env ≡ true
large_one b op e env x f h =
    let k : is_big (false_where_undefined b (value_of_node op (meaning e env ∷ []))) ≡ true = rw (← f) h in
    large_node b op (more_exs e no_exs) env k

-- ---- two operands

pub large_in_left : (o : Op2) (a b : pure.Ex) (env : Env) → is_large a env ≡ true → is_large (ex2 (is_truth_op2 o) o a b) env ≡ true
large_in_left o a b env h =
    large_operand (is_truth_op2 o) (binary o) (more_exs a (more_exs b no_exs)) env (large_first a (more_exs b no_exs) env h)

pub large_in_right : (o : Op2) (a b : pure.Ex) (env : Env) → is_large b env ≡ true → is_large (ex2 (is_truth_op2 o) o a b) env ≡ true
large_in_right o a b env h =
    large_operand (is_truth_op2 o) (binary o) (more_exs a (more_exs b no_exs)) env (large_later a (more_exs b no_exs) env (large_first b no_exs env h))

pub large_two : (o : Op2) (a b : pure.Ex) (env : Env) (x y : Option Scalar) → option_map pure_scalar x ≡ meaning a env
    → option_map pure_scalar y ≡ meaning b env
    → is_big (false_where_undefined (is_truth_op2 o) (value_of_node (binary o) (option_map pure_scalar x ∷ option_map pure_scalar y ∷ []))) ≡ true
    → is_large (ex2 (is_truth_op2 o) o a b) env ≡ true
large_two o a b env x y e f h =
    let k : is_big (false_where_undefined (is_truth_op2 o) (value_of_node (binary o) (meaning a env ∷ meaning b env ∷ []))) ≡ true = rw (← e, ← f) h in
    large_node (is_truth_op2 o) (binary o) (more_exs a (more_exs b no_exs)) env k
