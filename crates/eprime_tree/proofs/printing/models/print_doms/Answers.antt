use Rattle.std.proofs.Common.{subst}
use Rattle.eprime_tree.specs.Printed.{PrintsDoms}
use Rattle.eprime_tree.proofs.PrintedModels.{doms_listed-none, doms_listed-more, prints-doms}
use Rattle.eprime_tree.proofs.printing.models.print_doms.Goals as goal

pub loop-index-init : goal.loop-index-init
loop-index-init c = doms_listed-none c.args.out.now c.as_slice-dom-items.result.now

pub loop-index-preserved : goal.loop-index-preserved
loop-index-preserved c =
    doms_listed-more c.args.out.now c.loop-index.out c.print_comma.new.out c.print_dom.new.out c.loop-index.index c.as_slice-dom-items.result.now c.dom-item.result
    c.loop-index.invariant c.loop-index-test.true c.dom-item.is c.in_ok-print_comma.ensures c.in_ok-print_dom.ensures

pub returns : goal.returns
returns c =
    subst (λ ds. PrintsDoms c.args.out.now c.loop-index.out ds) c.as_slice-dom-items.ensures
    (prints-doms c.args.out.now c.loop-index.out c.loop-index.index c.as_slice-dom-items.result.now c.loop-index.invariant c.loop-index-test.false)
