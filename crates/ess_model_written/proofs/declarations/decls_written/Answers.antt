use Rattle.std.proofs.Common.{subst, option_map}
use Rattle.ess_declared_trees.specs.TableViews.{pure_declared}
use Rattle.eprime_tree.specs.Views.{pure_decl}
use Rattle.eprime_read_convert.specs.Lines.{scope_of}
use Rattle.ess_model_written.specs.DeclarationsWritten.{DeclComes}
use Rattle.ess_model_written.proofs.DeclarationSteps.{declaration_more}
use Rattle.ess_model_written.proofs.declarations.decls_written.Goals as goal

pub loop-table-preserved : goal.loop-table-preserved
loop-table-preserved c =
    declaration_more c.args.found c.args.taken.now c.args.shows.now.next (scope_of c.args.lines) c.args.tables.now
    c.loop-table.table-index c.table-item.result c.in-Some.declaration c.loop-table.written c.push.new.self c.in_ok-line-in-Some.line
    c.loop-table.lines c.in_ok-lines-in-Some.lines c.loop-table-test.true c.table-item.is
    (subst (λ o. DeclComes (scope_of c.loop-table.lines) c.args.taken.now c.args.shows.now.next (pure_declared c.table-item.result)
    (option_map (pure_decl (scope_of c.loop-table.lines)) o)) c.in-Some.is c.in_ok-declaration.ensures)
    c.in_ok-push-in-Some.ensures.ok c.in_ok-lines-in-Some.ensures c.in_ok-line-in-Some.ensures.name
    c.in_ok-line-in-Some.ensures.truth c.in_ok-line-in-Some.ensures.found c.loop-table.invariant
