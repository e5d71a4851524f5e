use Rattle.std.proofs.Common.{rules, ◌≡◌, ap, ◌∙◌, ◌<◌, [], ◌∷◌, ◌++◌, length, map, get_or, option_map}
use Rattle.std.proofs.lemmas.List.{map_push}
use Rattle.std.proofs.lemmas.Result.{IfOk-weaker}
use Rattle.ess_semantics.specs.Typing.{type_of}
use Rattle.ess_semantics.specs.Lettings.{put_ex}
use Rattle.ess_core.specs.TypeViews.{pure_ty}
use Rattle.ess_core.specs.TreeViews.{field_values, pure_ex, pure_pair_ex, pure_field_ex, pure_range, pure_attr, pure_step}
use Rattle.ess_types_names.specs.Tables.{pure_table}
use Rattle.ess_types_nodes.specs.Parts.{joined}
use Rattle.ess_types_nodes.proofs.PartTypes.{types_more}
use Rattle.ess_types_scopes.specs.Kept.{pure_lettings}
use Rattle.ess_types_lettings.specs.Putting.{put_field}
use Rattle.ess_types_lettings.proofs.Paths.{path_more, path_all, leads_at}
use Rattle.ess_types_lettings.proofs.Putting.{part_more, exs_put, pairs_put, fields_named, fields_put, doms_put, field_doms_named, field_doms_put, words_named, within_put}
use Rattle.ess_types_lettings.proofs.Steps.{comp_put, words_more, operands_more, puts_at}
use Rattle.ess_types_lettings.proofs.+put.Goals as goal

pub rows::put_exs-returns-clause-ok : goal.rows::put_exs-returns-clause-ok
rows::put_exs-returns-clause-ok t c = exs_put c.args.exs.now _ _ _ c.in_ok-each_ex.ensures.ok

pub rows::put_pairs-returns-clause-ok : goal.rows::put_pairs-returns-clause-ok
rows::put_pairs-returns-clause-ok t c = pairs_put c.args.pairs.now _ _ _ c.in_ok-each_pair.ensures.ok

pub rows::put_fields-returns-clause-names : goal.rows::put_fields-returns-clause-names
rows::put_fields-returns-clause-names t c = fields_named c.args.fields.now _ _ _ c.in_ok-each_field.ensures.ok

pub rows::put_fields-returns-clause-ok : goal.rows::put_fields-returns-clause-ok
rows::put_fields-returns-clause-ok t c = fields_put c.args.fields.now _ _ _ c.in_ok-each_field.ensures.ok

pub domain_rows::put_doms-returns-clause-ok : goal.domain_rows::put_doms-returns-clause-ok
domain_rows::put_doms-returns-clause-ok t c = doms_put c.args.doms.now _ _ _ c.in_ok-each_dom.ensures.ok

pub domain_rows::put_record-returns-clause-names : goal.domain_rows::put_record-returns-clause-names
domain_rows::put_record-returns-clause-names t c = field_doms_named c.args.fields.now _ _ _ c.in_ok-each_field_dom.ensures.ok

pub domain_rows::put_record-returns-clause-ok : goal.domain_rows::put_record-returns-clause-ok
domain_rows::put_record-returns-clause-ok t c = field_doms_put c.args.fields.now _ _ _ c.in_ok-each_field_dom.ensures.ok

pub ranges::put_ranges-returns-clause-words : goal.ranges::put_ranges-returns-clause-words
ranges::put_ranges-returns-clause-words t c = words_named pure_range c.args.ranges.now _ _ _ c.in_ok-each_range.ensures.ok

pub ranges::put_ranges-returns-clause-ok : goal.ranges::put_ranges-returns-clause-ok
ranges::put_ranges-returns-clause-ok t c = within_put pure_range c.args.ranges.now _ _ _ c.in_ok-each_range.ensures.ok

pub attributes::put_attrs-returns-clause-words : goal.attributes::put_attrs-returns-clause-words
attributes::put_attrs-returns-clause-words t c = words_named pure_attr c.args.attrs.now _ _ _ c.in_ok-each_attr.ensures.ok

pub attributes::put_attrs-returns-clause-ok : goal.attributes::put_attrs-returns-clause-ok
attributes::put_attrs-returns-clause-ok t c = within_put pure_attr c.args.attrs.now _ _ _ c.in_ok-each_attr.ensures.ok

pub expressions::put_typed-returns-in_ok-body-in-Comp-clause-ok : goal.expressions::put_typed-returns-in_ok-body-in-Comp-clause-ok
expressions::put_typed-returns-in_ok-body-in-Comp-clause-ok t c =
    IfOk-weaker c.comp_node.result _ _
    (λ y h. h ∙ comp_put c.args.ex.now c.in-Comp.body _ c.in_ok-body-in-Comp.body.0 c.in-Comp.gens _ c.in_ok-gens-in-Comp.gens.0 _ _ _
    c.in-Comp.is c.as_slice-in-Comp.ensures c.get-in-Comp.ensures c.in_ok-gens-in-Comp.ensures.ok
    c.in_ok-gens-in-Comp.ensures.names c.in_ok-body-in-Comp.ensures.ok)
    c.comp_node.ensures.tree

-- One expression more.
pub rows::each_ex-loop-ex-preserved : goal.rows::each_ex-loop-ex-preserved
rows::each_ex-loop-ex-preserved t c =
    let i = c.loop-ex.ex-index in
    let x = c.ex-item.result in
    let y = c.in_ok-put.put in
    let g = pure_table c.args.table.now in
    let l = pure_lettings c.args.lettings.now in
    let lt : i < length c.args.exs.now = search rules in
    let is : x ≡ get_or c.args.exs.now i x = search rules in
    let e : pure_ex y ≡ put_ex (pure_ex x) l g = search rules in
    let p : c.push.new.self ≡ c.loop-ex.puts ++ y ∷ [] = search rules in
    let u : option_map (map pure_ty) c.in_ok-tys.tys
    ≡ joined (option_map (map pure_ty) c.loop-ex.tys) (option_map (λ t. t ∷ []) (option_map pure_ty c.in_ok-put.ty)) = search rules in
    record {
      kept = search rules;
      puts = part_more pure_ex (λ x. put_ex (pure_ex x) l g) c.args.exs.now c.loop-ex.puts c.push.new.self i x y
          lt is p e c.loop-ex.invariant.puts;
      types = λ h.
          let q : option_map pure_ty c.in_ok-put.ty ≡ type_of (pure_ex y) g = cc (c.in_ok-put.ensures.typed h) in
          types_more (map pure_ex c.loop-ex.puts) (map pure_ex c.push.new.self) (pure_ex y) g c.loop-ex.tys c.in_ok-tys.tys c.in_ok-put.ty
          (ap (map pure_ex) p ∙ map_push pure_ex c.loop-ex.puts y) u q
          (c.loop-ex.invariant.types h);
    }

-- One pair more.
pub rows::each_pair-loop-pair-preserved : goal.rows::each_pair-loop-pair-preserved
rows::each_pair-loop-pair-preserved t c =
    let i = c.loop-pair.pair-index in
    let x = c.pair-item.result in
    let y = c.in_ok-put.put in
    let g = pure_table c.args.table.now in
    let l = pure_lettings c.args.lettings.now in
    let lt : i < length c.args.pairs.now = search rules in
    let is : x ≡ get_or c.args.pairs.now i x = search rules in
    let e : pure_pair_ex y ≡ put_ex (pure_pair_ex x) l g = search rules in
    let p : c.push.new.self ≡ c.loop-pair.puts ++ y ∷ [] = search rules in
    let u : option_map (map pure_ty) c.in_ok-tys.tys
    ≡ joined (option_map (map pure_ty) c.loop-pair.tys) (option_map (λ t. t ∷ []) (option_map pure_ty c.in_ok-put.ty)) = search rules in
    record {
      kept = search rules;
      puts = part_more pure_pair_ex (λ x. put_ex (pure_pair_ex x) l g) c.args.pairs.now c.loop-pair.puts c.push.new.self i x y
          lt is p e c.loop-pair.invariant.puts;
      types = λ h.
          let q : option_map pure_ty c.in_ok-put.ty ≡ type_of (pure_pair_ex y) g = cc (c.in_ok-put.ensures.types h) in
          types_more (map pure_pair_ex c.loop-pair.puts) (map pure_pair_ex c.push.new.self) (pure_pair_ex y) g
          c.loop-pair.tys c.in_ok-tys.tys c.in_ok-put.ty
          (ap (map pure_pair_ex) p ∙ map_push pure_pair_ex c.loop-pair.puts y) u q
          (c.loop-pair.invariant.types h);
    }

-- One field more.
pub rows::each_field-loop-field-preserved : goal.rows::each_field-loop-field-preserved
rows::each_field-loop-field-preserved t c =
    let i = c.loop-field.field-index in
    let x = c.field-item.result in
    let y = c.in_ok-put.put in
    let g = pure_table c.args.table.now in
    let l = pure_lettings c.args.lettings.now in
    let lt : i < length c.args.fields.now = search rules in
    let is : x ≡ get_or c.args.fields.now i x = search rules in
    let e : pure_field_ex y ≡ put_field (pure_field_ex x) l g = search rules in
    let p : c.push.new.self ≡ c.loop-field.puts ++ y ∷ [] = search rules in
    let u : option_map (map pure_ty) c.in_ok-tys.tys
    ≡ joined (option_map (map pure_ty) c.loop-field.tys) (option_map (λ t. t ∷ []) (option_map pure_ty c.in_ok-put.ty)) = search rules in
    record {
      kept = search rules;
      puts = part_more pure_field_ex (λ x. put_field (pure_field_ex x) l g) c.args.fields.now c.loop-field.puts c.push.new.self i x y
          lt is p e c.loop-field.invariant.puts;
      types = λ h.
          let q : option_map pure_ty c.in_ok-put.ty ≡ type_of ((pure_field_ex y).1) g = cc (c.in_ok-put.ensures.types h) in
          types_more (field_values (map pure_field_ex c.loop-field.puts)) (field_values (map pure_field_ex c.push.new.self))
          ((pure_field_ex y).1) g c.loop-field.tys c.in_ok-tys.tys c.in_ok-put.ty
          (ap (λ s. field_values (map pure_field_ex s)) p ∙ ap field_values (map_push pure_field_ex c.loop-field.puts y)
          ∙ map_push (λ f. f.1) (map pure_field_ex c.loop-field.puts) (pure_field_ex y)) u q
          (c.loop-field.invariant.types h);
    }

-- One step more.
pub indices::put_steps-loop-i-preserved : goal.indices::put_steps-loop-i-preserved
indices::put_steps-loop-i-preserved t c =
    let is-put : c.into_inner.result ≡ c.in_ok-put.field-0.step = search rules in
    let more : c.push.new.self ≡ c.loop-i.puts ++ c.into_inner.result ∷ [] = search rules in
    record {
      kept = c.in_ok-put.ensures.kept ∙ c.loop-i.invariant.kept;
      words = words_more c.args.steps.now c.loop-i.i c.index-steps-i.result c.into_inner.result c.loop-i.puts c.push.new.self
          c.loop-i-test.true c.index-steps-i.is (ap (λ x. (pure_step x).0) is-put ∙ c.in_ok-put.ensures.word) more
          ∙ c.loop-i.invariant.words;
      operands = operands_more c.args.steps.now c.loop-i.i c.is_followed-further.result c.index-steps-i.result c.into_inner.result
          c.loop-i.puts c.push.new.self c.loop-i.reached c.in_ok-put.field-0.behind (pure_lettings c.args.lettings.now)
          (pure_table c.args.table.now) c.loop-i-test.true c.index-steps-i.is c.is_followed-further.ensures.last
          (puts_at c.is_followed-further.result (option_map pure_ty c.loop-i.reached) (option_map pure_ty c.in_ok-put.field-0.behind)
          c.index-steps-i.result c.into_inner.result c.in_ok-put.field-0.step (pure_lettings c.args.lettings.now) c.loop-i.table
          c.args.table.now c.loop-i.invariant.kept is-put c.in_ok-put.ensures.operands)
          more ∙ c.loop-i.invariant.operands;
      behind = path_more c.loop-i.puts c.push.new.self c.into_inner.result (option_map pure_ty c.args.place)
          (option_map pure_ty c.loop-i.reached) (option_map pure_ty c.in_ok-put.field-0.behind) (pure_table c.args.table.now)
          c.args.asked c.is_followed-further.result c.loop-i.invariant.behind
          (leads_at c.is_followed-further.result (option_map pure_ty c.loop-i.reached) (option_map pure_ty c.in_ok-put.field-0.behind)
          c.into_inner.result c.in_ok-put.field-0.step c.loop-i.table c.args.table.now c.loop-i.invariant.kept is-put
          c.in_ok-put.ensures.leads)
          more c.is_followed-further.ensures.asked;
    }

pub indices::put_steps-returns-clause-behind : goal.indices::put_steps-returns-clause-behind
indices::put_steps-returns-clause-behind t c =
    path_all c.loop-i.puts (option_map pure_ty c.args.place) (option_map pure_ty c.loop-i.reached) (pure_table c.args.table.now)
    c.args.asked c.loop-i.invariant.behind
