use Rattle.std.proofs.Common.{subst, option_map}
use Rattle.ess_core_nodes.specs.NodeViews.{pure_dom}
use Rattle.eprime_tree.specs.Views.{pure_dom as pure_model_dom}
use Rattle.eprime_read_convert.specs.Lines.{scope_of}
use Rattle.ess_model_written.specs.DeclarationsWritten.{DomComes}
use Rattle.ess_model_written.proofs.DomainSteps.{domain_more, domain_fails}
use Rattle.ess_model_written.proofs.domains.doms_written.Goals as goal

pub returns-in-None : goal.returns-in-None
returns-in-None c =
    domain_fails (scope_of c.args.lines.now) c.args.taken.now c.args.number c.args.doms.now c.loop-dom.dom-index c.dom-item.result
    c.loop-dom-test.true c.dom-item.is
    (subst (λ o. DomComes (scope_of c.args.lines.now) c.args.taken.now c.args.number (pure_dom c.dom-item.result)
    (option_map (pure_model_dom (scope_of c.args.lines.now)) o)) c.in-None.is c.in_ok-made.ensures)

pub loop-dom-preserved : goal.loop-dom-preserved
loop-dom-preserved c =
    domain_more (scope_of c.args.lines.now) c.args.taken.now c.args.number c.args.doms.now c.loop-dom.dom-index c.dom-item.result
    c.in-Some.made c.loop-dom.written c.push.new.self c.loop-dom-test.true c.dom-item.is
    (subst (λ o. DomComes (scope_of c.args.lines.now) c.args.taken.now c.args.number (pure_dom c.dom-item.result)
    (option_map (pure_model_dom (scope_of c.args.lines.now)) o)) c.in-Some.is c.in_ok-made.ensures)
    c.in_ok-push-in-Some.ensures.ok c.loop-dom.invariant
