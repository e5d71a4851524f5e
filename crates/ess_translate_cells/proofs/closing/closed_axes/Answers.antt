use Rattle.std.proofs.Common.{ap, is_some, Err}
use Rattle.ess_semantics.specs.ModelTrees.{all_decls}
use Rattle.ess_semantics.specs.ModelMeaning.{model_domain}
use Rattle.ess_semantics.specs.LargeModels.{dom_is_large}
use Rattle.eprime_tree.specs.Views.{pure_dom}
use Rattle.eprime_eval.specs.declared.closing.EvalNo.TheVariants.{Undefined, Big}
use Rattle.eprime_verdicts.specs.Denoting.{Denotes}
use Rattle.eprime_verdicts.proofs.Stops.{same_stop}
use Rattle.eprime_verdicts.proofs.Denoting.{beside-more, all-not, any-one}
use Rattle.ess_translate_cells.proofs.closing.closed_axes.Goals as goal

pub returns-in_err-closed_in-clause-undefined : goal.returns-in_err-closed_in-clause-undefined
returns-in_err-closed_in-clause-undefined c h E q s u =
    all-not (λ a. is_some (model_domain (all_decls E) q a))
    (pure_dom s) c.args.doms.now c.loop-dom.dom-index c.dom-item.result c.loop-dom-test.true c.dom-item.is
    (ap is_some (c.in_err-closed_in.ensures.undefined (ap (λ no. Err no)
    (same_stop c.from_residual.result c.in_err-closed_in.field-0.0 Undefined c.from_residual.ensures.1 h)) (all_decls E) s q u))

pub returns-in_err-closed_in-clause-big : goal.returns-in_err-closed_in-clause-big
returns-in_err-closed_in-clause-big c h E q s u =
    any-one (dom_is_large (all_decls E) q)
    (pure_dom s) c.args.doms.now c.loop-dom.dom-index c.dom-item.result c.loop-dom-test.true c.dom-item.is
    (c.in_err-closed_in.ensures.big (ap (λ no. Err no)
    (same_stop c.from_residual.result c.in_err-closed_in.field-0.0 Big c.from_residual.ensures.1 h)) (all_decls E) s q u)

pub loop-dom-preserved : goal.loop-dom-preserved
loop-dom-preserved c =
    beside-more (Denotes c.args.under.now) c.args.doms.now c.loop-dom.dom-index c.dom-item.result c.loop-dom.closed c.push.new.self
    c.in_ok-closed_in.field-0
    c.loop-dom-test.true c.dom-item.is c.loop-dom.invariant (λ E q s u. c.in_ok-closed_in.ensures.ok
    (all_decls E) s q u) c.in_ok-push.ensures.ok
