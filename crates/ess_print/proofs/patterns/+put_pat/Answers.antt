use Rattle.ess_print.proofs.Writing.{comma-item, items-end}
use Rattle.ess_print.proofs.Items.{pats-by-item}
use Rattle.ess_print.proofs.patterns.+put_pat.Goals as goal

pub put_pats-loop-index-preserved : goal.put_pats-loop-index-preserved
put_pats-loop-index-preserved t c =
    comma-item pats-by-item c.args.pats.now c.loop-index.index c.index-pats-index.result c.loop-index-test.true c.index-pats-index.is c.loop-index.invariant
    c.in_ok-put_comma.ensures c.in_ok-put_pat.ensures

pub put_pats-returns : goal.put_pats-returns
put_pats-returns t c = items-end pats-by-item c.args.pats.now c.loop-index.index c.loop-index-test.false c.loop-index.invariant
