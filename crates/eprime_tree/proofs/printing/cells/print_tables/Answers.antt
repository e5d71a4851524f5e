use Rattle.std.proofs.Common.{inl, inr}
use Rattle.ess_grammar.specs.Models.{empty_scope}
use Rattle.eprime_tree.proofs.PrintedCells.{lines_more, lines_all}
use Rattle.eprime_tree.proofs.printing.cells.print_tables.Goals as goal

pub loop-named-preserved : goal.loop-named-preserved
loop-named-preserved c =
    lines_more c.loop-named.out c.print_letting.new.out _ c.has_truths.result c.in-Some.decl.now c.loop-named.named-iterator.b.rest.now
    c.next.new.self.b.rest.now
    c.in-Some.named.now c.loop-named.named-iterator.a.rest.now c.next.new.self.a.rest.now c.in-Some.ensures.steps.0
    c.in-Some.ensures.steps.1
    (c.has_truths.ensures empty_scope) c.in_ok-print_letting.ensures c.loop-named.invariant

pub returns : goal.returns
returns c add s =
    lines_all c.args.out.now c.loop-named.out add s c.args.decls.now c.loop-named.named-iterator.b.rest.now c.args.tables.now
    c.loop-named.named-iterator.a.rest.now
    (elim c.in-None.ensures.steps [ inl h ↦ inl h.1.0 | inr h ↦ inr h.1.0 ]) c.loop-named.invariant
