use Rattle.std.proofs.lemmas.Result.{on_ok_weaker}
use Rattle.ess_print.proofs.RepresentationParts.{children-put, repr-put}
use Rattle.ess_print.proofs.Writing.{comma-item, items-end, not-empty}
use Rattle.ess_print.proofs.Items.{reprs-by-item}
use Rattle.ess_print.proofs.representations.+put_repr.Goals as goal

pub put_children-loop-index-preserved : goal.put_children-loop-index-preserved
put_children-loop-index-preserved t c =
    comma-item reprs-by-item c.args.reprs.now c.loop-index.index c.index-reprs-index.result c.loop-index-test.true c.index-reprs-index.is c.loop-index.invariant
    c.in_ok-put_comma.ensures c.in_ok-put_repr.ensures

pub put_children-returns : goal.put_children-returns
put_children-returns t c =
    on_ok_weaker c.push_str-2.result
    (λ g. children-put (not-empty c.args.reprs.now c.if-is_empty.ensures) c.in_ok-push_str.ensures.ok
    (items-end reprs-by-item c.args.reprs.now c.loop-index.index c.loop-index-test.false c.loop-index.invariant) g)
    c.push_str-2.ensures.ok

pub put_repr-returns : goal.put_repr-returns
put_repr-returns t c = on_ok_weaker c.put_children.result (λ h. repr-put c.args.repr.now c.in_ok-push_str.ensures.ok c.kind_name.ensures c.as_slice.ensures h) c.put_children.ensures
