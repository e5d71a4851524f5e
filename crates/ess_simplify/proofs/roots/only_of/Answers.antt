use Rattle.std.proofs.Common.{sym, ◌∙◌, true}
use Rattle.ess_simplify.proofs.NodeForms.{pure_truth}
use Rattle.ess_simplify.proofs.RootRows.{only_other}
use Rattle.ess_simplify.proofs.roots.only_of.Goals as goal

pub returns-then-len-ne1 : goal.returns-then-len-ne1
returns-then-len-ne1 c = pure_truth true ∙ sym (only_other c.args.nodes (λ e. c.if-len-ne1.true (c.len.ensures ∙ e)))
