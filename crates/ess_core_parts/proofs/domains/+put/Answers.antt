use Rattle.std.proofs.Common.{◌≡◌, ℕ, ◌+◌, ◌-◌, ◌<◌, ◌≤◌, ◌++◌, length, slice_get, get_or, take, drop, Some, Ok, Err, nat_lt, refl, ap, sym, subst, ◌∙◌, arith}
use Rattle.std.specs.Prelude.{if◌then◌else◌}
use Rattle.std.proofs.lemmas.List.{get_or-set_other, length-set}
use Rattle.ess_core.specs.declared.domains.Dom.{Dom}
use Rattle.ess_core.specs.declared.domains.FieldDom.{FieldDom}
use Rattle.ess_core.specs.declared.domains.Attr.{Attr}
use Rattle.ess_core.specs.declared.expressions.Ex.{Ex}
use Rattle.ess_core.specs.declared.domains.Dom.TheVariants as dom
use Rattle.ess_core_parts.specs.Numbered.{Parted, beside, row, found}
use Rattle.ess_core_parts.specs.Parts.{parted_attr, parted_dom, parted_field_dom}
use Rattle.ess_core_parts.proofs.DomainParts.{parts_of_matrix, parts_of_function, parts_of_relation, put_in_matrix, put_in_function, put_in_relation, known_was, known_put}
use Rattle.ess_core_parts.proofs.Searches.{found-first, found-behind, pair-same, put-first, put-behind, lent-found, lent-put, turn, none-lent}
use Rattle.ess_core_parts.proofs.domains.+put.Goals as goal
use Rattle.ess_core_parts.proofs.domains.+put.Goals.{put_in_doms-in-Some+in-Err, put_in_doms-in_default, put_in_fields-in-Some+in-Err, put_in_fields-in_default}

pub put_in_dom-returns-in-Ok-clause-was : goal.put_in_dom-returns-in-Ok-clause-was
put_in_dom-returns-in-Ok-clause-was t c =
    let split = ap (λ d. found (parted_dom d).parts c.args.k c.args.new) c.in-Matrix.is ∙ ap (λ ps. found ps c.args.k c.args.new) (parts_of_matrix c.in-Matrix.axes c.in-Matrix.item) in
    sym (split ∙ found-first (row parted_dom c.in-Matrix.axes).parts (parted_dom c.in-Matrix.item).parts c.args.k c.args.new c.in-Ok.was (subst (λ z. Ok c.in-Ok.was ≡ found (row parted_dom z).parts c.args.k c.args.new) c.in-Matrix.axes-is c.in-Ok.ensures.was))

pub put_in_dom-returns-in-Ok-clause-after : goal.put_in_dom-returns-in-Ok-clause-after
put_in_dom-returns-in-Ok-clause-after t c =
    let split = ap (λ d. (parted_dom d).put c.args.k c.args.new) c.in-Matrix.is ∙ put_in_matrix c.in-Matrix.axes c.in-Matrix.item c.args.k c.args.new in
    put-first dom.Matrix (row parted_dom c.in-Matrix.axes) c.in-Matrix.item (parted_dom c.in-Matrix.item) c.args.k c.args.new c.in-Ok.was (subst (λ z. Ok c.in-Ok.was ≡ found (row parted_dom z).parts c.args.k c.args.new) c.in-Matrix.axes-is c.in-Ok.ensures.was) _ (subst (λ z. c.put_in_doms-in-Matrix.new.doms ≡ (row parted_dom z).put c.args.k c.args.new) c.in-Matrix.axes-is c.in-Ok.ensures.after) _ c.in-Matrix.item-is ∙ sym split

pub put_in_dom-returns-in-Err-clause-was : goal.put_in_dom-returns-in-Err-clause-was
put_in_dom-returns-in-Err-clause-was t c =
    let split = ap (λ d. found (parted_dom d).parts c.args.k c.args.new) c.in-Matrix.is ∙ ap (λ ps. found ps c.args.k c.args.new) (parts_of_matrix c.in-Matrix.axes c.in-Matrix.item) in
    subst (λ z. c.put_in_dom.result ≡ found (parted_dom z).parts c.in-Err.past c.in-Err.new) (c.get_mut.ensures.value ∙ c.in-Matrix.item-is) c.put_in_dom.ensures.was
    ∙ sym (split ∙ found-behind (row parted_dom c.in-Matrix.axes).parts (parted_dom c.in-Matrix.item).parts c.args.k c.args.new c.in-Err.past c.in-Err.new (subst (λ z. Err (c.in-Err.past, c.in-Err.new) ≡ found (row parted_dom z).parts c.args.k c.args.new) c.in-Matrix.axes-is c.in-Err.ensures.was))

pub put_in_dom-returns-in-Err-clause-after : goal.put_in_dom-returns-in-Err-clause-after
put_in_dom-returns-in-Err-clause-after t c =
    let split = ap (λ d. (parted_dom d).put c.args.k c.args.new) c.in-Matrix.is ∙ put_in_matrix c.in-Matrix.axes c.in-Matrix.item c.args.k c.args.new in
    put-behind dom.Matrix (row parted_dom c.in-Matrix.axes) c.in-Matrix.item (parted_dom c.in-Matrix.item) c.args.k c.args.new c.in-Err.past c.in-Err.new (subst (λ z. Err (c.in-Err.past, c.in-Err.new) ≡ found (row parted_dom z).parts c.args.k c.args.new) c.in-Matrix.axes-is c.in-Err.ensures.was) _ (subst (λ z. c.put_in_doms-in-Matrix.new.doms ≡ (row parted_dom z).put c.args.k c.args.new) c.in-Matrix.axes-is c.in-Err.ensures.after) _
    (subst (λ z. c.put_in_dom.new.dom ≡ (parted_dom z).put c.in-Err.past c.in-Err.new) (c.get_mut.ensures.value ∙ c.in-Matrix.item-is) c.put_in_dom.ensures.after) ∙ sym split

pub put_in_dom-returns-in-Ok-put_behind-clause-was : goal.put_in_dom-returns-in-Ok-put_behind-clause-was
put_in_dom-returns-in-Ok-put_behind-clause-was t c =
    let split = ap (λ d. found (parted_dom d).parts c.args.k c.args.new) c.in-Function.is ∙ ap (λ ps. found ps c.args.k c.args.new) (parts_of_function c.in-Function.attrs c.in-Function.from c.in-Function.to) in
    let from_now = c.get_mut-in-Function.ensures.value ∙ c.in-Function.from-is in
    sym (split ∙ found-first (beside (row parted_attr c.in-Function.attrs) c.in-Function.from (parted_dom c.in-Function.from)).parts (parted_dom c.in-Function.to).parts c.args.k c.args.new c.in-Ok-put_behind.was (known_was c.in-Function.attrs _ c.in-Function.from _ c.in-Function.attrs-is from_now c.args.k c.args.new (Ok c.in-Ok-put_behind.was) c.in-Ok-put_behind.ensures.was))

pub put_in_dom-returns-in-Ok-put_behind-clause-after : goal.put_in_dom-returns-in-Ok-put_behind-clause-after
put_in_dom-returns-in-Ok-put_behind-clause-after t c =
    let split = ap (λ d. (parted_dom d).put c.args.k c.args.new) c.in-Function.is ∙ put_in_function c.in-Function.attrs c.in-Function.from c.in-Function.to c.args.k c.args.new in
    let from_now = c.get_mut-in-Function.ensures.value ∙ c.in-Function.from-is in
    put-first (λ md x. dom.Function md.0 md.1 x) (beside (row parted_attr c.in-Function.attrs) c.in-Function.from (parted_dom c.in-Function.from)) c.in-Function.to (parted_dom c.in-Function.to) c.args.k c.args.new c.in-Ok-put_behind.was (known_was c.in-Function.attrs _ c.in-Function.from _ c.in-Function.attrs-is from_now c.args.k c.args.new (Ok c.in-Ok-put_behind.was) c.in-Ok-put_behind.ensures.was) (c.put_behind-in-Function.new.attrs, c.put_behind-in-Function.new.dom) (known_put c.in-Function.attrs _ c.in-Function.from _ c.in-Function.attrs-is from_now c.args.k c.args.new c.put_behind-in-Function.new.attrs c.put_behind-in-Function.new.dom c.in-Ok-put_behind.ensures.attrs c.in-Ok-put_behind.ensures.dom) _ c.in-Function.to-is ∙ sym split

pub put_in_dom-returns-in-Err-put_behind-clause-was : goal.put_in_dom-returns-in-Err-put_behind-clause-was
put_in_dom-returns-in-Err-put_behind-clause-was t c =
    let split = ap (λ d. found (parted_dom d).parts c.args.k c.args.new) c.in-Function.is ∙ ap (λ ps. found ps c.args.k c.args.new) (parts_of_function c.in-Function.attrs c.in-Function.from c.in-Function.to) in
    let from_now = c.get_mut-in-Function.ensures.value ∙ c.in-Function.from-is in
    subst (λ z. c.put_in_dom-in-Err-put_behind.result ≡ found (parted_dom z).parts c.in-Err-put_behind.past c.in-Err-put_behind.new) (c.get_mut-in-Err-put_behind.ensures.value ∙ c.in-Function.to-is) c.put_in_dom-in-Err-put_behind.ensures.was
    ∙ sym (split ∙ found-behind (beside (row parted_attr c.in-Function.attrs) c.in-Function.from (parted_dom c.in-Function.from)).parts (parted_dom c.in-Function.to).parts c.args.k c.args.new c.in-Err-put_behind.past c.in-Err-put_behind.new (known_was c.in-Function.attrs _ c.in-Function.from _ c.in-Function.attrs-is from_now c.args.k c.args.new (Err (c.in-Err-put_behind.past, c.in-Err-put_behind.new)) c.in-Err-put_behind.ensures.was))

pub put_in_dom-returns-in-Err-put_behind-clause-after : goal.put_in_dom-returns-in-Err-put_behind-clause-after
put_in_dom-returns-in-Err-put_behind-clause-after t c =
    let split = ap (λ d. (parted_dom d).put c.args.k c.args.new) c.in-Function.is ∙ put_in_function c.in-Function.attrs c.in-Function.from c.in-Function.to c.args.k c.args.new in
    let from_now = c.get_mut-in-Function.ensures.value ∙ c.in-Function.from-is in
    put-behind (λ md x. dom.Function md.0 md.1 x) (beside (row parted_attr c.in-Function.attrs) c.in-Function.from (parted_dom c.in-Function.from)) c.in-Function.to (parted_dom c.in-Function.to) c.args.k c.args.new c.in-Err-put_behind.past c.in-Err-put_behind.new (known_was c.in-Function.attrs _ c.in-Function.from _ c.in-Function.attrs-is from_now c.args.k c.args.new (Err (c.in-Err-put_behind.past, c.in-Err-put_behind.new)) c.in-Err-put_behind.ensures.was) (c.put_behind-in-Function.new.attrs, c.put_behind-in-Function.new.dom) (known_put c.in-Function.attrs _ c.in-Function.from _ c.in-Function.attrs-is from_now c.args.k c.args.new c.put_behind-in-Function.new.attrs c.put_behind-in-Function.new.dom c.in-Err-put_behind.ensures.attrs c.in-Err-put_behind.ensures.dom) _
    (subst (λ z. c.put_in_dom-in-Err-put_behind.new.dom ≡ (parted_dom z).put c.in-Err-put_behind.past c.in-Err-put_behind.new) (c.get_mut-in-Err-put_behind.ensures.value ∙ c.in-Function.to-is) c.put_in_dom-in-Err-put_behind.ensures.after) ∙ sym split

pub put_in_dom-returns-in-Ok-put_part-clause-was : goal.put_in_dom-returns-in-Ok-put_part-clause-was
put_in_dom-returns-in-Ok-put_part-clause-was t c =
    let split = ap (λ d. found (parted_dom d).parts c.args.k c.args.new) c.in-Relation.is ∙ ap (λ ps. found ps c.args.k c.args.new) (parts_of_relation c.in-Relation.attrs c.in-Relation.doms) in
    sym (split ∙ found-first (row parted_attr c.in-Relation.attrs).parts (row parted_dom c.in-Relation.doms).parts c.args.k c.args.new c.in-Ok-put_part.was (subst (λ z. Ok c.in-Ok-put_part.was ≡ found (row parted_attr z).parts c.args.k c.args.new) c.in-Relation.attrs-is c.in-Ok-put_part.ensures.was))

pub put_in_dom-returns-in-Ok-put_part-clause-after : goal.put_in_dom-returns-in-Ok-put_part-clause-after
put_in_dom-returns-in-Ok-put_part-clause-after t c =
    let split = ap (λ d. (parted_dom d).put c.args.k c.args.new) c.in-Relation.is ∙ put_in_relation c.in-Relation.attrs c.in-Relation.doms c.args.k c.args.new in
    put-first dom.Relation (row parted_attr c.in-Relation.attrs) c.in-Relation.doms (row parted_dom c.in-Relation.doms) c.args.k c.args.new c.in-Ok-put_part.was (subst (λ z. Ok c.in-Ok-put_part.was ≡ found (row parted_attr z).parts c.args.k c.args.new) c.in-Relation.attrs-is c.in-Ok-put_part.ensures.was) _ (subst (λ z. c.put_part-in-Relation.new.self ≡ (row parted_attr z).put c.args.k c.args.new) c.in-Relation.attrs-is c.in-Ok-put_part.ensures.after) _ c.in-Relation.doms-is ∙ sym split

pub put_in_dom-returns-in-Err-put_part-clause-was : goal.put_in_dom-returns-in-Err-put_part-clause-was
put_in_dom-returns-in-Err-put_part-clause-was t c =
    let split = ap (λ d. found (parted_dom d).parts c.args.k c.args.new) c.in-Relation.is ∙ ap (λ ps. found ps c.args.k c.args.new) (parts_of_relation c.in-Relation.attrs c.in-Relation.doms) in
    subst (λ z. c.put_in_doms-in-Err-put_part.result ≡ found (row parted_dom z).parts c.in-Err-put_part.past c.in-Err-put_part.new) c.in-Relation.doms-is c.put_in_doms-in-Err-put_part.ensures.was
    ∙ sym (split ∙ found-behind (row parted_attr c.in-Relation.attrs).parts (row parted_dom c.in-Relation.doms).parts c.args.k c.args.new c.in-Err-put_part.past c.in-Err-put_part.new (subst (λ z. Err (c.in-Err-put_part.past, c.in-Err-put_part.new) ≡ found (row parted_attr z).parts c.args.k c.args.new) c.in-Relation.attrs-is c.in-Err-put_part.ensures.was))

pub put_in_dom-returns-in-Err-put_part-clause-after : goal.put_in_dom-returns-in-Err-put_part-clause-after
put_in_dom-returns-in-Err-put_part-clause-after t c =
    let split = ap (λ d. (parted_dom d).put c.args.k c.args.new) c.in-Relation.is ∙ put_in_relation c.in-Relation.attrs c.in-Relation.doms c.args.k c.args.new in
    put-behind dom.Relation (row parted_attr c.in-Relation.attrs) c.in-Relation.doms (row parted_dom c.in-Relation.doms) c.args.k c.args.new c.in-Err-put_part.past c.in-Err-put_part.new (subst (λ z. Err (c.in-Err-put_part.past, c.in-Err-put_part.new) ≡ found (row parted_attr z).parts c.args.k c.args.new) c.in-Relation.attrs-is c.in-Err-put_part.ensures.was) _ (subst (λ z. c.put_part-in-Relation.new.self ≡ (row parted_attr z).put c.args.k c.args.new) c.in-Relation.attrs-is c.in-Err-put_part.ensures.after) _
    (subst (λ z. c.put_in_doms-in-Err-put_part.new.doms ≡ (row parted_dom z).put c.in-Err-put_part.past c.in-Err-put_part.new) c.in-Relation.doms-is c.put_in_doms-in-Err-put_part.ensures.after) ∙ sym split

pub put_in_doms-returns-in-Ok-clause-was : goal.put_in_doms-returns-in-Ok-clause-was
put_in_doms-returns-in-Ok-clause-was t c =
    sym (c.loop-i.invariant.0 ∙ lent-found parted_dom c.loop-i.doms c.loop-i.i c.in-Some.dom.now (sym c.in-Some.ensures.value) c.loop-i.past c.loop-i.new c.in-Ok.was c.in-Ok.ensures.was)

pub put_in_doms-returns-in-Ok-clause-after : goal.put_in_doms-returns-in-Ok-clause-after
put_in_doms-returns-in-Ok-clause-after t c =
    sym (c.loop-i.invariant.1 ∙ lent-put parted_dom c.loop-i.doms c.loop-i.i c.in-Some.dom.now c.put_in_dom.new.dom (sym c.in-Some.ensures.value) c.loop-i.past c.loop-i.new c.in-Ok.was c.in-Ok.ensures.was c.in-Ok.ensures.after)

pub put_in_doms-loop-i-preserved : goal.put_in_doms-loop-i-preserved
put_in_doms-loop-i-preserved t c =
    elim c.match-get_mut.branch [
      | put_in_doms-in-Some+in-Err w ↦
          let t = turn parted_dom c.loop-i.doms c.loop-i.i w.in-Some.dom.now w.put_in_dom.new.dom (sym w.in-Some.ensures.value)
          c.loop-i.past c.loop-i.new w.in-Err.left w.in-Err.back w.in-Err.ensures.was w.put_in_dom.ensures.after
          c.match-get_mut.doms c.match-get_mut.past c.match-get_mut.new w.doms-is w.past-is w.new-is in (
            c.loop-i.invariant.0 ∙ t.0,
            c.loop-i.invariant.1 ∙ t.1,
            t.2 ∙ c.loop-i.invariant.2,
            λ k d h. ap (λ xs. get_or xs k d) w.doms-is ∙ get_or-set_other c.loop-i.doms c.loop-i.i k w.put_in_dom.new.dom d (λ e. omega arith) ∙ c.loop-i.invariant.3 k d (omega arith),
          )
      | put_in_doms-in_default w ↦
          absurd (none-lent parted_dom c.loop-i.doms c.loop-i.i (sym w.in_default.ensures.value) (omega (arith, c.loop-i-test.true, c.len-i-end.ensures, c.loop-i.invariant.2)))
    ]

pub put_in_fields-returns-in-Ok-clause-was : goal.put_in_fields-returns-in-Ok-clause-was
put_in_fields-returns-in-Ok-clause-was t c =
    sym (c.loop-i.invariant.0 ∙ lent-found parted_field_dom c.loop-i.fields c.loop-i.i c.in-Some.field.now (sym c.in-Some.ensures.value) c.loop-i.past c.loop-i.new c.in-Ok.was c.in-Ok.ensures.was)

pub put_in_fields-returns-in-Ok-clause-after : goal.put_in_fields-returns-in-Ok-clause-after
put_in_fields-returns-in-Ok-clause-after t c =
    sym (c.loop-i.invariant.1 ∙ lent-put parted_field_dom c.loop-i.fields c.loop-i.i c.in-Some.field.now c.put_in_field.new.field (sym c.in-Some.ensures.value) c.loop-i.past c.loop-i.new c.in-Ok.was c.in-Ok.ensures.was c.in-Ok.ensures.after)

pub put_in_fields-loop-i-preserved : goal.put_in_fields-loop-i-preserved
put_in_fields-loop-i-preserved t c =
    elim c.match-get_mut.branch [
      | put_in_fields-in-Some+in-Err w ↦
          let t = turn parted_field_dom c.loop-i.fields c.loop-i.i w.in-Some.field.now w.put_in_field.new.field (sym w.in-Some.ensures.value)
          c.loop-i.past c.loop-i.new w.in-Err.left w.in-Err.back w.in-Err.ensures.was w.put_in_field.ensures.after
          c.match-get_mut.fields c.match-get_mut.past c.match-get_mut.new w.fields-is w.past-is w.new-is in (
            c.loop-i.invariant.0 ∙ t.0,
            c.loop-i.invariant.1 ∙ t.1,
            t.2 ∙ c.loop-i.invariant.2,
            λ k d h. ap (λ xs. get_or xs k d) w.fields-is ∙ get_or-set_other c.loop-i.fields c.loop-i.i k w.put_in_field.new.field d (λ e. omega arith) ∙ c.loop-i.invariant.3 k d (omega arith),
          )
      | put_in_fields-in_default w ↦
          absurd (none-lent parted_field_dom c.loop-i.fields c.loop-i.i (sym w.in_default.ensures.value) (omega (arith, c.loop-i-test.true, c.len-i-end.ensures, c.loop-i.invariant.2)))
    ]
