use Rattle.std.proofs.Common.{◌≡◌, ◌-◌, map, take, drop, length}
use Rattle.ess_semantics.specs.Types.{type_of_dom, nested_ty}
use Rattle.ess_core.specs.TreeViews.{pure_dom, pure_doms, pure_field_dom}
use Rattle.ess_core.specs.TypeViews.{pure_ty, pure_field_ty}
use Rattle.ess_types_operators.proofs.domains.+type_of_dom.Given as goal

abbrev pub invariant-each_type-loop-dom : goal.invariant-each_type-loop-dom
invariant-each_type-loop-dom l = map pure_ty l.tys ≡ map (λ d. type_of_dom (pure_dom d)) (take l.dom-index l.doms)

abbrev pub invariant-each_field-loop-field : goal.invariant-each_field-loop-field
invariant-each_field-loop-field l = map pure_field_ty l.tys ≡ map (λ f. ((pure_field_dom f).0, type_of_dom (pure_field_dom f).1)) (take l.field-index l.fields)

abbrev pub invariant-nested-loop-k : goal.invariant-nested-loop-k
invariant-nested-loop-k l = pure_ty l.ty ≡ nested_ty (pure_doms (drop (length l.axes - l.k) l.axes)) (pure_ty l.fn.item)
