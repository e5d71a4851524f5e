use Rattle.conjure_options.proofs.Cuts.{cut_found, cut_last}
use Rattle.conjure_options.proofs.pieces.cut.Goals as goal

-- src/pieces.rt
pub returns-in-Some-clause-cut : goal.returns-in-Some-clause-cut
returns-in-Some-clause-cut c =
    cut_found c.args.byte c.run_to.result _ c.args.text.now c.split_at.result.0.now c.split_at.result.1.now c.in-Some.behind.now
    c.run_to.ensures.len c.split_at.ensures.front c.split_at.ensures.back c.in-Some.ensures.cases.0

pub returns-in-None-clause-cut : goal.returns-in-None-clause-cut
returns-in-None-clause-cut c =
    cut_last c.args.byte c.run_to.result c.args.text.now c.split_at.result.0.now c.split_at.result.1.now
    c.run_to.ensures.len c.split_at.ensures.front c.split_at.ensures.back c.in-None.ensures.cases
