-- The findings that the code keeps, as the definitions have them.
use Rattle.std.specs.Prelude.{if◌then◌else◌, map, Some, None, option_map}
use Rattle.ess_semantics.specs.Names.{keys}
use Rattle.ess_semantics.specs.Trees.{Op, unary, binary, word, application, tuple_literal, set_literal, mset_literal, function_literal, relation_literal, partition_literal, matrix_literal, record_literal}
use Rattle.ess_core.specs.TypeViews.{pure_ty}
use Rattle.ess_core.specs.TreeViews.{pure_field_ex}
use Rattle.ess_types_judging_laws.specs.Found as pure
use Rattle.ess_types_judging_laws.specs.Judged as pure_judging
use Rattle.ess_types_judging_laws.specs.Accumulated.{Several}
use Rattle.ess_types_judging.specs.declared.found.Found.{Found}
use Rattle.ess_types_judging.specs.declared.judged.Judged.{Judged}
use Rattle.ess_types_judging.specs.declared.judged.Operands.{Operands}
use Rattle.ess_types_judging.specs.declared.nodes.Node.{Node}
use Rattle.ess_types_judging.specs.declared.nodes.Node.TheVariants.{Unary, Binary, Word, Application, Tuple, Record, Set, MSet, Function, Relation, Partition, List as ListNode}

-- What is found of a part.
abbrev pub pure_found : Found → pure.Found
pure_found f =
    record {
      known = f.known;
      new = f.fresh;
      fits = f.fits;
      fixed = f.fixed;
      in_order = f.in_order;
      unordered = f.unordered;
      finite = f.finite;
      enumerable = f.enumerable;
    }

-- What is found of an expression.
abbrev pub pure_judged : Judged → pure_judging.Judged
pure_judged j = record { ty = option_map pure_ty j.ty; ordered = j.ordered; found = pure_found j.found }

-- What is found of operands.
abbrev pub pure_operands : Operands → Several
pure_operands o = record { tys = if o.typed then Some (map pure_ty o.tys) else None; found = pure_found o.found }

-- The operator of a node.
abbrev pub pure_node : Node → Op
pure_node (Unary o) = unary o
pure_node (Binary o) = binary o
pure_node (Word f) = word f
pure_node Application = application
pure_node Tuple = tuple_literal
pure_node (Record fs) = record_literal (keys (map pure_field_ex fs.now))
pure_node Set = set_literal
pure_node MSet = mset_literal
pure_node Function = function_literal
pure_node Relation = relation_literal
pure_node Partition = partition_literal
pure_node ListNode = matrix_literal
