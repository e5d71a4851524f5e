use Rattle.std.proofs.Common.{subst}
use Rattle.eprime_tree.specs.Printed.{PrintsDecls}
use Rattle.eprime_tree.proofs.PrintedModels.{decls_listed-none, decls_listed-more, prints-decls}
use Rattle.eprime_tree.proofs.printing.models.print_decls.Goals as goal

pub loop-decl-init : goal.loop-decl-init
loop-decl-init c = decls_listed-none c.args.out.now c.args.word.now c.as_slice-decl-items.result.now

pub loop-decl-preserved : goal.loop-decl-preserved
loop-decl-preserved c =
    decls_listed-more c.args.out.now c.loop-decl.out c.print_decl.new.out c.args.word.now c.loop-decl.decl-index c.as_slice-decl-items.result.now c.decl-item.result
    c.loop-decl.invariant c.loop-decl-test.true c.decl-item.is c.in_ok-print_decl.ensures

pub returns : goal.returns
returns c =
    subst (λ ds. PrintsDecls c.args.out.now c.loop-decl.out c.args.word.now ds) c.as_slice-decl-items.ensures
    (prints-decls c.args.out.now c.loop-decl.out c.args.word.now c.loop-decl.decl-index c.as_slice-decl-items.result.now c.loop-decl.invariant c.loop-decl-test.false)
