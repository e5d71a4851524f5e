-- A Boolean always has a truth value, and the composed law.
use Rattle.std.proofs.Common.{◌≡◌, refl, sym, subst, Bool, true, false, ◌||◌, List, Option, Some}
use Rattle.ess_semantics.specs.Values.{Value, truth}
use Rattle.ess_semantics.specs.Names.{Names}
use Rattle.ess_semantics.specs.Trees.{Op, unary, binary, word, index, application, tuple_literal, set_literal, mset_literal, function_literal, relation_literal, partition_literal, matrix_literal, record_literal, is_truth_op, Exs, node_ex, Stm}
use Rattle.ess_semantics.specs.Types.{Ty, is_bool}
use Rattle.ess_semantics.specs.Typing.{Static, statics, type_of, types_of}
use Rattle.ess_semantics.specs.Resolving.{resolve, resolve_exs, resolved_node}
use Rattle.ess_semantics.specs.Tables.{Table}
use Rattle.ess_semantics.specs.Operators.{false_where_undefined, as_truth}
use Rattle.ess_semantics.specs.Meaning.{Env, meaning}
use Rattle.ess_semantics.specs.Assignments.{Assignment}
use Rattle.ess_semantics.specs.Parameters.{Param}
use Rattle.ess_semantics.specs.Solutions.{Sol}
use Rattle.ess_semantics.specs.Plans.{Options, Stands, given_tables}
use Rattle.ess_semantics.specs.ModelTrees.{Header, Model}
use Rattle.ess_semantics.specs.Satisfaction.{Sat}
use Rattle.ess_semantics.specs.Models.{Models, Represents}

abbrev pub Truth : Option Value → Type 0
Truth o = (b : Bool) × (o ≡ Some (truth b))

pub settled : (s : Bool) (o : Option Value) → s ≡ true → Truth (false_where_undefined s o)
settled true o e = (as_truth o, refl)
settled false o e = cc

right-or : (a b : Bool) → b ≡ true → a || b ≡ true
right-or true b e = refl
right-or false b e = e

node-truth : (t : Option Ty) (op : Op) (es : Exs) (ss : List Static) (us : List (Option Ty)) (env : Env) → is_bool t ≡ true → Truth (meaning (resolved_node t op es ss us) env)
node-truth t (index qs) es ss us env h = settled (is_bool t) _ h
node-truth t (unary o) es ss us env h = settled (is_truth_op (unary o) || is_bool t) _ (right-or (is_truth_op (unary o)) (is_bool t) h)
node-truth t (binary o) es ss us env h = settled (is_truth_op (binary o) || is_bool t) _ (right-or (is_truth_op (binary o)) (is_bool t) h)
node-truth t (word f) es ss us env h = settled (is_truth_op (word f) || is_bool t) _ (right-or (is_truth_op (word f)) (is_bool t) h)
node-truth t (record_literal fs) es ss us env h = settled (is_bool t) _ h
node-truth t application es ss us env h = settled (is_bool t) _ h
node-truth t tuple_literal es ss us env h = settled (is_bool t) _ h
node-truth t set_literal es ss us env h = settled (is_bool t) _ h
node-truth t mset_literal es ss us env h = settled (is_bool t) _ h
node-truth t function_literal es ss us env h = settled (is_bool t) _ h
node-truth t relation_literal es ss us env h = settled (is_bool t) _ h
node-truth t partition_literal es ss us env h = settled (is_bool t) _ h
node-truth t matrix_literal es ss us env h = settled (is_bool t) _ h

pub boolean : (b : Bool) (op : Op) (es : Exs) (g : Names Ty) (env : Env) → is_bool (type_of (node_ex b op es) g) ≡ true → Truth (meaning (resolve (node_ex b op es) g) env)
boolean b op es g env h = node-truth (type_of (node_ex b op es) g) op (resolve_exs es g) (statics es) (types_of es g) env h

-- ---- the composed law

pub composed : (S : List Stm) (o : Options) (H : Header) (E : Model) (p a : Assignment) (q c : Names Table) →
    Models S o H E → Param S p → given_tables S o p ≡ Some q → Sat E q c → Stands S o p a c → Sol S p a
composed S o H E p a q c m h d s t = go (r.one_solution c s)
  where
    r : Represents S o E p q
    r = m.represents p q h d

    go : ((b : Assignment) × Stands S o p b c × Sol S p b × ((x : Assignment) → Stands S o p x c → x ≡ b)) → Sol S p a
    go g = subst (Sol S p) (sym (g.3 a t)) g.2
