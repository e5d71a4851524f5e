use Rattle.std.proofs.Common.{ap, Err}
use Rattle.ess_semantics.specs.ModelTrees.{all_decls}
use Rattle.ess_semantics.specs.LargeModels.{decl_is_large}
use Rattle.ess_semantics.specs.Satisfaction.{domain_has_meaning}
use Rattle.eprime_eval.specs.declared.closing.EvalNo.TheVariants.{Undefined, Big}
use Rattle.ess_translate_cells.specs.ClosedTables.{IsClosedTable}
use Rattle.eprime_verdicts.proofs.Stops.{same_stop}
use Rattle.eprime_verdicts.proofs.Denoting.{beside-more, decls-not, decls-one}
use Rattle.ess_translate_cells.proofs.closing.closed_tables.Goals as goal

pub returns-in_err-closed_table-clause-undefined : goal.returns-in_err-closed_table-clause-undefined
returns-in_err-closed_table-clause-undefined c h E q s u add =
    decls-not (domain_has_meaning E q) add s c.args.decls.now c.loop-decl.decl-index c.decl-item.result c.loop-decl-test.true c.decl-item.is
    (λ t. c.in_err-closed_table.ensures.undefined (ap (λ no. Err no)
    (same_stop c.from_residual.result c.in_err-closed_table.field-0.0 Undefined c.from_residual.ensures.1 h)) E q t u)

pub returns-in_err-closed_table-clause-big : goal.returns-in_err-closed_table-clause-big
returns-in_err-closed_table-clause-big c h E q s u add =
    decls-one (decl_is_large (all_decls E) q) add s c.args.decls.now c.loop-decl.decl-index c.decl-item.result c.loop-decl-test.true
    c.decl-item.is
    (λ t. c.in_err-closed_table.ensures.big (ap (λ no. Err no)
    (same_stop c.from_residual.result c.in_err-closed_table.field-0.0 Big c.from_residual.ensures.1 h)) E q t u)

pub loop-decl-preserved : goal.loop-decl-preserved
loop-decl-preserved c =
    beside-more (IsClosedTable c.args.under.now) c.args.decls.now c.loop-decl.decl-index c.decl-item.result c.loop-decl.closed
    c.push.new.self c.in_ok-closed_table.field-0
    c.loop-decl-test.true c.decl-item.is c.loop-decl.invariant c.in_ok-closed_table.ensures.ok c.in_ok-push.ensures.ok
