use Rattle.std.proofs.Common.{rules, ◌≡◌, ◌<◌, ◌∙◌, [], ◌∷◌, ◌++◌, length, get_or, map, option_map}
use Rattle.std.proofs.lemmas.Result.{IfOk-weaker}
use Rattle.ess_semantics.specs.Trees.{comp_ex}
use Rattle.ess_semantics.specs.Typing.{type_of}
use Rattle.ess_semantics.specs.Resolving.{resolve}
use Rattle.ess_core.specs.TypeViews.{pure_ty}
use Rattle.ess_core.specs.TreeViews.{pure_ex, pure_pair_ex, pure_field_ex, pure_gen, pure_gens}
use Rattle.ess_types_names.specs.Tables.{pure_table}
use Rattle.ess_types_resolving.specs.Generators.{resolved_items, names_behind}
use Rattle.ess_types_resolving.specs.Parts.{joined, resolved_field}
use Rattle.ess_types_resolving.proofs.Comprehensions.{comp_made}
use Rattle.ess_types_resolving.proofs.Items.{exs_more, pairs_more, fields_more, field_names_more}
use Rattle.ess_types_resolving.proofs.Operands.{exs_types_more, pairs_types_more, fields_types_more}
use Rattle.ess_types_resolving.proofs.+resolve.Goals as goal

pub expressions::resolve_typed-returns-in_ok-body-in-Comp-clause-tree : goal.expressions::resolve_typed-returns-in_ok-body-in-Comp-clause-tree
expressions::resolve_typed-returns-in_ok-body-in-Comp-clause-tree t c =
    let xs = c.in-Comp.gens in
    let ys = c.in_ok-gens-in-Comp.gens in
    let e = c.in-Comp.body in
    let b = c.in_ok-body-in-Comp.body.0 in
    let g = pure_table c.args.table.now in
    let h = pure_table c.resolve_gens.new.table in
    let ts : map pure_gen ys ≡ resolved_items (map pure_gen xs) g = search rules in
    let ns : h ≡ names_behind (map pure_gen xs) g = search rules in
    let bs : pure_ex b ≡ resolve (pure_ex e) h = search rules in
    IfOk-weaker c.comp_node.result (λ r. pure_ex r.0 ≡ comp_ex (pure_ex b) (pure_gens ys))
    (λ r. pure_ex r.0 ≡ resolve (pure_ex c.args.ex.now) g)
    (λ r p. p ∙ comp_made c.args.ex.now e b xs ys g h c.in-Comp.is ts ns bs) c.comp_node.ensures.tree

pub rows::resolve_exs-loop-ex-preserved : goal.rows::resolve_exs-loop-ex-preserved
rows::resolve_exs-loop-ex-preserved t c =
    let xs = c.args.exs.now in
    let i = c.loop-ex.ex-index in
    let x = c.ex-item.result in
    let g = pure_table c.args.table.now in
    let l : i < length xs = search rules in
    let is : x ≡ get_or xs i x = search rules in
    let e : pure_ex c.in_ok-item.item ≡ resolve (pure_ex x) g = search rules in
    let p : c.push.new.self ≡ c.loop-ex.resolved ++ c.in_ok-item.item ∷ [] = search rules in
    let t : option_map pure_ty c.in_ok-item.ty ≡ type_of (pure_ex x) g = search rules in
    let u : option_map (map pure_ty) c.in_ok-tys.tys
    ≡ joined (option_map (map pure_ty) c.loop-ex.tys) (option_map (λ t. t ∷ []) (option_map pure_ty c.in_ok-item.ty)) = search rules in
    record {
      kept = search rules;
      trees = exs_more xs c.loop-ex.resolved c.push.new.self i x c.in_ok-item.item g l is e p ∙ c.loop-ex.invariant.trees;
      types = exs_types_more xs i x g c.loop-ex.tys c.in_ok-tys.tys c.in_ok-item.ty l is t u ∙ c.loop-ex.invariant.types;
    }

pub rows::resolve_pairs-loop-pair-preserved : goal.rows::resolve_pairs-loop-pair-preserved
rows::resolve_pairs-loop-pair-preserved t c =
    let xs = c.args.pairs.now in
    let i = c.loop-pair.pair-index in
    let x = c.pair-item.result in
    let g = pure_table c.args.table.now in
    let l : i < length xs = search rules in
    let is : x ≡ get_or xs i x = search rules in
    let e : pure_pair_ex c.in_ok-item.item ≡ resolve (pure_pair_ex x) g = search rules in
    let p : c.push.new.self ≡ c.loop-pair.resolved ++ c.in_ok-item.item ∷ [] = search rules in
    let t : option_map pure_ty c.in_ok-item.ty ≡ type_of (pure_pair_ex x) g = search rules in
    let u : option_map (map pure_ty) c.in_ok-tys.tys
    ≡ joined (option_map (map pure_ty) c.loop-pair.tys) (option_map (λ t. t ∷ []) (option_map pure_ty c.in_ok-item.ty)) = search rules in
    record {
      kept = search rules;
      trees = pairs_more xs c.loop-pair.resolved c.push.new.self i x c.in_ok-item.item g l is e p ∙ c.loop-pair.invariant.trees;
      types = pairs_types_more xs i x g c.loop-pair.tys c.in_ok-tys.tys c.in_ok-item.ty l is t u ∙ c.loop-pair.invariant.types;
    }

pub rows::resolve_fields-loop-field-preserved : goal.rows::resolve_fields-loop-field-preserved
rows::resolve_fields-loop-field-preserved t c =
    let xs = c.args.fields.now in
    let i = c.loop-field.field-index in
    let x = c.field-item.result in
    let g = pure_table c.args.table.now in
    let l : i < length xs = search rules in
    let is : x ≡ get_or xs i x = search rules in
    let e : pure_field_ex c.in_ok-item.item ≡ resolved_field (pure_field_ex x) g = search rules in
    let p : c.push.new.self ≡ c.loop-field.resolved ++ c.in_ok-item.item ∷ [] = search rules in
    let t : option_map pure_ty c.in_ok-item.ty ≡ type_of (pure_field_ex x).1 g = search rules in
    let u : option_map (map pure_ty) c.in_ok-tys.tys
    ≡ joined (option_map (map pure_ty) c.loop-field.tys) (option_map (λ t. t ∷ []) (option_map pure_ty c.in_ok-item.ty)) = search rules in
    record {
      kept = search rules;
      names = field_names_more xs c.loop-field.resolved c.push.new.self i x c.in_ok-item.item g l is e p ∙ c.loop-field.invariant.names;
      trees = fields_more xs c.loop-field.resolved c.push.new.self i x c.in_ok-item.item g l is e p ∙ c.loop-field.invariant.trees;
      types = fields_types_more xs i x g c.loop-field.tys c.in_ok-tys.tys c.in_ok-item.ty l is t u ∙ c.loop-field.invariant.types;
    }
