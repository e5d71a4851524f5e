use Rattle.ess_semantics.specs.Satisfaction.{axis_of}
use Rattle.ess_semantics.specs.LargeModels.{dom_is_large}
use Rattle.ess_core.specs.TableViews.{pure_cells}
use Rattle.eprime_eval.specs.DomainsOf.{given_decls}
use Rattle.eprime_cells_judging.proofs.AxesCome.{AxesCome}
use Rattle.eprime_cells_judging.proofs.tables.axes_of.Given as goal

abbrev pub invariant-loop-dom : goal.invariant-loop-dom
invariant-loop-dom l = AxesCome (axis_of (given_decls l.known) (pure_cells l.givens)) (dom_is_large (given_decls l.known) (pure_cells l.givens)) l.doms l.dom-index l.axes
