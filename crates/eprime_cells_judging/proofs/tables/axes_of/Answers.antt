use Rattle.std.proofs.Common.{ap}
use Rattle.ess_semantics.specs.DeclaredTables.{axis_members}
use Rattle.ess_semantics.specs.Satisfaction.{axis_of}
use Rattle.ess_semantics.specs.LargeModels.{dom_is_large}
use Rattle.ess_core.specs.TableViews.{pure_cells}
use Rattle.eprime_eval.specs.DomainsOf.{given_decls}
use Rattle.eprime_cells_judging.proofs.AxesCome.{axes_more, axes_stop, axes_large, axes_all}
use Rattle.eprime_cells_judging.proofs.tables.axes_of.Goals as goal

pub returns-in-Err-Undefined : goal.returns-in-Err-Undefined
returns-in-Err-Undefined c =
    axes_stop (axis_of (given_decls c.args.known.now) (pure_cells c.args.givens.now)) (dom_is_large (given_decls c.args.known.now) (pure_cells c.args.givens.now)) c.args.doms.now c.loop-dom.dom-index c.dom-item.result c.loop-dom.axes c.loop-dom.invariant c.loop-dom-test.true c.dom-item.is
    (λ s. ap axis_members (c.axis.ensures.undefined (cc (c.in-Err-Undefined.is, c.in-Err-Undefined.field-0-is)) s))

pub returns-in-Err-Big : goal.returns-in-Err-Big
returns-in-Err-Big c =
    axes_large (axis_of (given_decls c.args.known.now) (pure_cells c.args.givens.now)) (dom_is_large (given_decls c.args.known.now) (pure_cells c.args.givens.now)) c.args.doms.now c.loop-dom.dom-index c.dom-item.result c.loop-dom.axes c.loop-dom.invariant c.loop-dom-test.true c.dom-item.is
    (λ s. c.axis.ensures.big (cc (c.in-Err-Big.is, c.in-Err-Big.field-0-is)) s)

pub loop-dom-preserved : goal.loop-dom-preserved
loop-dom-preserved c =
    axes_more (axis_of (given_decls c.args.known.now) (pure_cells c.args.givens.now)) (dom_is_large (given_decls c.args.known.now) (pure_cells c.args.givens.now)) c.args.doms.now c.loop-dom.dom-index c.dom-item.result c.loop-dom.axes c.push.new.self c.in-Ok.members c.loop-dom.invariant c.loop-dom-test.true c.dom-item.is
    c.in-Ok.ensures.ok c.in_ok-push-in-Ok.ensures.ok

pub returns : goal.returns
returns c = axes_all (axis_of (given_decls c.args.known.now) (pure_cells c.args.givens.now)) (dom_is_large (given_decls c.args.known.now) (pure_cells c.args.givens.now)) c.args.doms.now c.loop-dom.dom-index c.loop-dom.axes c.loop-dom.invariant c.loop-dom-test.false
