use Rattle.std.proofs.Common.{sym, ◌∙◌, map}
use Rattle.std.specs.Vec.Iter.{into_iter_items}
use Rattle.ess_core.specs.StatementViews.{pure_stm}
use Rattle.ess_parse.proofs.LettingStatements.{only-these, no-more}
use Rattle.ess_parse.proofs.lettings.statements.lettings_of.Goals as goal

pub returns : goal.returns
returns c =
    only-these (map pure_stm c.args.stms) c.loop-stm.list
    (no-more c.loop-stm.list (into_iter_items c.loop-stm.stm-iterator) (map pure_stm c.args.stms) (sym (c.loop-stm.invariant).lengths ∙ (c.in-None.ensures.steps).0) (c.loop-stm.invariant).kept)
