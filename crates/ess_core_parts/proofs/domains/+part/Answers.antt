use Rattle.std.proofs.Common.{◌≡◌, ◌+◌, ◌++◌, length, slice_get, IfOk, IfErr, Some, refl, ap, sym, subst, ◌∙◌, arith}
use Rattle.ess_core_parts.specs.Numbered.{row}
use Rattle.ess_core_parts.specs.Parts.{parted_attr, parted_dom, parted_field_dom}
use Rattle.ess_core_parts.proofs.DomainParts.{parts_of_matrix, parts_of_function, parts_of_relation, parts_of_field}
use Rattle.ess_core_parts.proofs.Searches.{seen-first, seen-behind, past-behind, part-here, part-next, length-next}
use Rattle.ess_core_parts.proofs.domains.+part.Goals as goal

pub part_behind-returns-in-Ok-clause-is : goal.part_behind-returns-in-Ok-clause-is
part_behind-returns-in-Ok-clause-is t c =
    seen-first _ (row parted_attr c.args.attrs.now).parts (parted_dom c.args.dom.now).parts refl c.args.k c.in-Ok.part.now c.in-Ok.ensures.is

pub part_behind-returns-in-Err-clause-is : goal.part_behind-returns-in-Err-clause-is
part_behind-returns-in-Err-clause-is t c =
    seen-behind _ (row parted_attr c.args.attrs.now).parts (parted_dom c.args.dom.now).parts refl c.args.k c.in-Err.past c.in-Err.ensures.past c.part_of_dom.result c.part_of_dom.ensures.is

pub part_of_dom-returns-in-Ok-clause-is : goal.part_of_dom-returns-in-Ok-clause-is
part_of_dom-returns-in-Ok-clause-is t c =
    seen-first (parted_dom c.args.dom.now).parts (row parted_dom c.in-Matrix.axes).parts (parted_dom c.in-Matrix.item).parts (ap (λ d. (parted_dom d).parts) c.in-Matrix.is ∙ parts_of_matrix c.in-Matrix.axes c.in-Matrix.item) c.args.k c.in-Ok.part.now c.in-Ok.ensures.is

pub part_of_dom-returns-in-Err-clause-is : goal.part_of_dom-returns-in-Err-clause-is
part_of_dom-returns-in-Err-clause-is t c =
    seen-behind (parted_dom c.args.dom.now).parts (row parted_dom c.in-Matrix.axes).parts (parted_dom c.in-Matrix.item).parts (ap (λ d. (parted_dom d).parts) c.in-Matrix.is ∙ parts_of_matrix c.in-Matrix.axes c.in-Matrix.item) c.args.k c.in-Err.past c.in-Err.ensures.past c.part_of_dom.result (subst (λ x. IfOk c.part_of_dom.result (λ e. slice_get (parted_dom x).parts c.in-Err.past ≡ Some e.now)) c.get.ensures c.part_of_dom.ensures.is)

pub part_of_dom-returns-in-Err-clause-past : goal.part_of_dom-returns-in-Err-clause-past
part_of_dom-returns-in-Err-clause-past t c =
    past-behind (parted_dom c.args.dom.now).parts (row parted_dom c.in-Matrix.axes).parts (parted_dom c.in-Matrix.item).parts (ap (λ d. (parted_dom d).parts) c.in-Matrix.is ∙ parts_of_matrix c.in-Matrix.axes c.in-Matrix.item) c.args.k c.in-Err.past c.in-Err.ensures.past c.part_of_dom.result (subst (λ x. IfErr c.part_of_dom.result (λ n. c.in-Err.past ≡ n + length (parted_dom x).parts)) c.get.ensures c.part_of_dom.ensures.past)

pub part_of_dom-returns-in-Ok-part_behind-clause-is : goal.part_of_dom-returns-in-Ok-part_behind-clause-is
part_of_dom-returns-in-Ok-part_behind-clause-is t c =
    seen-first (parted_dom c.args.dom.now).parts ((row parted_attr c.in-Function.attrs).parts ++ (parted_dom c.in-Function.from).parts) (parted_dom c.in-Function.to).parts (ap (λ d. (parted_dom d).parts) c.in-Function.is ∙ parts_of_function c.in-Function.attrs c.in-Function.from c.in-Function.to) c.args.k c.in-Ok-part_behind.part.now
    (subst (λ x. slice_get ((row parted_attr c.in-Function.attrs).parts ++ (parted_dom x).parts) c.args.k ≡ Some c.in-Ok-part_behind.part.now) c.get-in-Function.ensures c.in-Ok-part_behind.ensures.is)

pub part_of_dom-returns-in-Err-part_behind-clause-is : goal.part_of_dom-returns-in-Err-part_behind-clause-is
part_of_dom-returns-in-Err-part_behind-clause-is t c =
    seen-behind (parted_dom c.args.dom.now).parts ((row parted_attr c.in-Function.attrs).parts ++ (parted_dom c.in-Function.from).parts) (parted_dom c.in-Function.to).parts (ap (λ d. (parted_dom d).parts) c.in-Function.is ∙ parts_of_function c.in-Function.attrs c.in-Function.from c.in-Function.to) c.args.k c.in-Err-part_behind.past
    (subst (λ x. c.args.k ≡ c.in-Err-part_behind.past + length ((row parted_attr c.in-Function.attrs).parts ++ (parted_dom x).parts)) c.get-in-Function.ensures c.in-Err-part_behind.ensures.past)
    c.part_of_dom-in-Err-part_behind.result (subst (λ x. IfOk c.part_of_dom-in-Err-part_behind.result (λ e. slice_get (parted_dom x).parts c.in-Err-part_behind.past ≡ Some e.now)) c.get-in-Err-part_behind.ensures c.part_of_dom-in-Err-part_behind.ensures.is)

pub part_of_dom-returns-in-Err-part_behind-clause-past : goal.part_of_dom-returns-in-Err-part_behind-clause-past
part_of_dom-returns-in-Err-part_behind-clause-past t c =
    past-behind (parted_dom c.args.dom.now).parts ((row parted_attr c.in-Function.attrs).parts ++ (parted_dom c.in-Function.from).parts) (parted_dom c.in-Function.to).parts (ap (λ d. (parted_dom d).parts) c.in-Function.is ∙ parts_of_function c.in-Function.attrs c.in-Function.from c.in-Function.to) c.args.k c.in-Err-part_behind.past
    (subst (λ x. c.args.k ≡ c.in-Err-part_behind.past + length ((row parted_attr c.in-Function.attrs).parts ++ (parted_dom x).parts)) c.get-in-Function.ensures c.in-Err-part_behind.ensures.past)
    c.part_of_dom-in-Err-part_behind.result (subst (λ x. IfErr c.part_of_dom-in-Err-part_behind.result (λ n. c.in-Err-part_behind.past ≡ n + length (parted_dom x).parts)) c.get-in-Err-part_behind.ensures c.part_of_dom-in-Err-part_behind.ensures.past)

pub part_of_dom-returns-in-Ok-part-clause-is : goal.part_of_dom-returns-in-Ok-part-clause-is
part_of_dom-returns-in-Ok-part-clause-is t c =
    seen-first (parted_dom c.args.dom.now).parts (row parted_attr c.in-Relation.attrs).parts (row parted_dom c.in-Relation.doms).parts (ap (λ d. (parted_dom d).parts) c.in-Relation.is ∙ parts_of_relation c.in-Relation.attrs c.in-Relation.doms) c.args.k c.in-Ok-part.part.now c.in-Ok-part.ensures.is

pub part_of_dom-returns-in-Err-part-clause-is : goal.part_of_dom-returns-in-Err-part-clause-is
part_of_dom-returns-in-Err-part-clause-is t c =
    seen-behind (parted_dom c.args.dom.now).parts (row parted_attr c.in-Relation.attrs).parts (row parted_dom c.in-Relation.doms).parts (ap (λ d. (parted_dom d).parts) c.in-Relation.is ∙ parts_of_relation c.in-Relation.attrs c.in-Relation.doms) c.args.k c.in-Err-part.past c.in-Err-part.ensures.past c.part_of_doms-in-Err-part.result c.part_of_doms-in-Err-part.ensures.is

pub part_of_dom-returns-in-Err-part-clause-past : goal.part_of_dom-returns-in-Err-part-clause-past
part_of_dom-returns-in-Err-part-clause-past t c =
    past-behind (parted_dom c.args.dom.now).parts (row parted_attr c.in-Relation.attrs).parts (row parted_dom c.in-Relation.doms).parts (ap (λ d. (parted_dom d).parts) c.in-Relation.is ∙ parts_of_relation c.in-Relation.attrs c.in-Relation.doms) c.args.k c.in-Err-part.past c.in-Err-part.ensures.past c.part_of_doms-in-Err-part.result c.part_of_doms-in-Err-part.ensures.past

pub part_of_doms-returns-in-Ok-clause-is : goal.part_of_doms-returns-in-Ok-clause-is
part_of_doms-returns-in-Ok-clause-is t c =
    ap (λ xs. slice_get (row parted_dom xs).parts c.args.k) (sym c.as_slice-dom-items.ensures) ∙ c.loop-dom.invariant.0
    ∙ part-here parted_dom c.as_slice-dom-items.result.now c.loop-dom.dom-index c.dom-item.result c.loop-dom-test.true c.dom-item.is c.loop-dom.past c.in-Ok.part.now c.in-Ok.ensures.is

pub part_of_doms-loop-dom-preserved : goal.part_of_doms-loop-dom-preserved
part_of_doms-loop-dom-preserved t c =
    let longer = length-next parted_dom c.as_slice-dom-items.result.now c.loop-dom.dom-index c.dom-item.result c.loop-dom-test.true c.dom-item.is in
    let past = c.in-Err.ensures.past in (
      c.loop-dom.invariant.0 ∙ part-next parted_dom c.as_slice-dom-items.result.now c.loop-dom.dom-index c.dom-item.result c.loop-dom-test.true c.dom-item.is c.loop-dom.past c.in-Err.left past,
      omega (arith, past, longer, c.loop-dom.invariant.1),
    )

pub part_of_fields-returns-in-Ok-clause-is : goal.part_of_fields-returns-in-Ok-clause-is
part_of_fields-returns-in-Ok-clause-is t c =
    ap (λ xs. slice_get (row parted_field_dom xs).parts c.args.k) (sym c.as_slice-field-items.ensures) ∙ c.loop-field.invariant.0
    ∙ part-here parted_field_dom c.as_slice-field-items.result.now c.loop-field.field-index c.field-item.result c.loop-field-test.true c.field-item.is c.loop-field.past c.in-Ok.part.now c.in-Ok.ensures.is

pub part_of_fields-loop-field-preserved : goal.part_of_fields-loop-field-preserved
part_of_fields-loop-field-preserved t c =
    let longer = length-next parted_field_dom c.as_slice-field-items.result.now c.loop-field.field-index c.field-item.result c.loop-field-test.true c.field-item.is in
    let past = c.in-Err.ensures.past in (
      c.loop-field.invariant.0 ∙ part-next parted_field_dom c.as_slice-field-items.result.now c.loop-field.field-index c.field-item.result c.loop-field-test.true c.field-item.is c.loop-field.past c.in-Err.left past,
      omega (arith, past, longer, c.loop-field.invariant.1),
    )

pub part_of_field-returns-clause-is : goal.part_of_field-returns-clause-is
part_of_field-returns-clause-is t c =
    subst (λ ps. IfOk c.part_of_dom.result (λ e. slice_get ps c.args.k ≡ Some e.now)) (sym (parts_of_field c.args.field.now)) c.part_of_dom.ensures.is

pub part_of_field-returns-clause-past : goal.part_of_field-returns-clause-past
part_of_field-returns-clause-past t c =
    subst (λ ps. IfErr c.part_of_dom.result (λ n. c.args.k ≡ n + length ps)) (sym (parts_of_field c.args.field.now)) c.part_of_dom.ensures.past
