use Rattle.std.proofs.Common.{◌≡◌, ◌-◌, map, take, drop, length}
use Rattle.ess_semantics.specs.Types.{type_of_dom, nested_ty}
use Rattle.ess_core.specs.TypeViews.{pure_ty}
use Rattle.ess_core_nodes.specs.NodeViews.{pure_dom, pure_doms}
use Rattle.ess_node_types.proofs.domains.+type_of_dom.Given as goal

abbrev pub invariant-each_type-loop-dom : goal.invariant-each_type-loop-dom
invariant-each_type-loop-dom l = map pure_ty l.tys ≡ map (λ d. type_of_dom (pure_dom d)) (take l.dom-index l.doms)

abbrev pub invariant-nested-loop-k : goal.invariant-nested-loop-k
invariant-nested-loop-k l = pure_ty l.ty ≡ nested_ty (pure_doms (drop (length l.axes - l.k) l.axes)) (pure_ty l.fn.item)
