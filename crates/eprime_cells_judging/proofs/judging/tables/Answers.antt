use Rattle.std.proofs.Common.{sym, ap, ◌∙◌, subst, [], ◌∷◌, ◌++◌, map, Ok, Err}
use Rattle.std.proofs.lemmas.List.{map-append}
use Rattle.ess_core.specs.TableViews.{pure_cells, pure_table, pure_named_table}
use Rattle.eprime_eval.specs.DomainsOf.{given_decls}
use Rattle.eprime_cells_laws.specs.TableReading.{outside_domain}
use Rattle.eprime_cells_machine.specs.ValueViews.{pure_lettings}
use Rattle.eprime_cells_judging.specs.Fitting.{IsTableOf, AreTables}
use Rattle.eprime_cells_judging.proofs.Fitting.{Judged, judged_none, judged_more, judged_stop, judged_all}
use Rattle.eprime_cells_judging.proofs.TableAnswers.{judged_err}
use Rattle.eprime_cells_judging.proofs.judging.tables.Goals as goal

pub loop-decl-init : goal.loop-decl-init
loop-decl-init c = subst (λ l. Judged (given_decls c.args.known.now) (pure_cells c.args.givens.now) (pure_lettings c.args.lettings.now) c.args.decls.now 0 (map pure_named_table l)) (sym c.new-list.ensures) (judged_none (given_decls c.args.known.now) (pure_cells c.args.givens.now) (pure_lettings c.args.lettings.now) c.args.decls.now)

pub returns-in-Err : goal.returns-in-Err
returns-in-Err c =
    subst (λ w. AreTables c.args.known.now c.args.givens.now c.args.decls.now (pure_lettings c.args.lettings.now) (Err w)) (sym c.no_of.ensures)
    (judged_err c.args.known.now c.args.givens.now c.args.decls.now (pure_lettings c.args.lettings.now) c.loop-decl.decl-index c.decl-item.result (map pure_named_table c.loop-decl.list) c.in-Err.why
    c.loop-decl.invariant c.loop-decl-test.true c.decl-item.is
    (subst (λ r. IsTableOf c.args.known.now c.args.givens.now c.decl-item.result (pure_lettings c.args.lettings.now) r) c.in-Err.is c.table.ensures))

pub returns-in-None : goal.returns-in-None
returns-in-None c add s =
    judged_stop (given_decls c.args.known.now) (pure_cells c.args.givens.now) (pure_lettings c.args.lettings.now) c.args.decls.now c.loop-decl.decl-index c.decl-item.result (map pure_named_table c.loop-decl.list) c.loop-decl.invariant c.loop-decl-test.true c.decl-item.is
    (subst (λ r. IsTableOf c.args.known.now c.args.givens.now c.decl-item.result (pure_lettings c.args.lettings.now) r) (c.in-Ok.is ∙ ap (λ o. Ok o) c.in-None.is) c.table.ensures) add s
    ∙ ap outside_domain (sym c.in_ok-copy-in-None.ensures)

pub loop-decl-preserved : goal.loop-decl-preserved
loop-decl-preserved c =
    judged_more (given_decls c.args.known.now) (pure_cells c.args.givens.now) (pure_lettings c.args.lettings.now) c.args.decls.now c.loop-decl.decl-index c.decl-item.result (map pure_named_table c.loop-decl.list) (map pure_named_table c.push.new.self) (pure_table c.in-Some.table)
    c.loop-decl.invariant c.loop-decl-test.true c.decl-item.is
    (subst (λ r. IsTableOf c.args.known.now c.args.givens.now c.decl-item.result (pure_lettings c.args.lettings.now) r) (c.in-Ok.is ∙ ap (λ o. Ok o) c.in-Some.is) c.table.ensures)
    (ap (map pure_named_table) c.in_ok-push-in-Some.ensures.ok ∙ map-append pure_named_table c.loop-decl.list _ ∙ ap (λ a. map pure_named_table c.loop-decl.list ++ (a, pure_table c.in-Some.table) ∷ []) c.in_ok-name-in-Some.ensures)

pub returns : goal.returns
returns c = judged_all (given_decls c.args.known.now) (pure_cells c.args.givens.now) (pure_lettings c.args.lettings.now) c.args.decls.now c.loop-decl.decl-index (map pure_named_table c.loop-decl.list) c.loop-decl.invariant c.loop-decl-test.false
