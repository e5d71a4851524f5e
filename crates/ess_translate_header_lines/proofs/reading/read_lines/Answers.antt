use Rattle.std.proofs.Common.{ap, ◌∙◌, ◌++◌, ◌∷◌, []}
use Rattle.ess_translate_header_lines.proofs.Turns.{lines_none, lines_late, lines_end, lines_other, lines_statement, lines_reprs, lines_all}
use Rattle.ess_translate_header_lines.proofs.reading.read_lines.Goals.{in-Statement+in-Statements+in_ok-push-in-Statements, in-Representations+in_ok-push-in-Representations}
use Rattle.ess_translate_header_lines.proofs.reading.read_lines.Goals as goal

pub loop-line-init : goal.loop-line-init
loop-line-init c = lines_none c.new-statements.result c.new-reprs.result c.args.lines.now c.new-statements.ensures c.new-reprs.ensures

pub returns-in-Representations-wanted : goal.returns-in-Representations-wanted
returns-in-Representations-wanted c =
    let l = c.loop-line in
    lines_late l.wanted l.statements l.reprs c.args.lines.now l.line-index c.line-item.result c.in_ok-stm.field-0 c.in-Statement.stm
    (record { item = c.line-item.is; within = c.loop-line-test.true; read = l.invariant; line = c.in_ok-stm.ensures })
    c.in-Representations-wanted.is c.in-Statement.is

pub returns-in-End : goal.returns-in-End
returns-in-End c =
    let l = c.loop-line in
    lines_end l.wanted l.statements l.reprs c.args.lines.now l.line-index c.line-item.result c.in_ok-stm.field-0
    (record { item = c.line-item.is; within = c.loop-line-test.true; read = l.invariant; line = c.in_ok-stm.ensures }) c.in-End.is

pub returns-in-Other : goal.returns-in-Other
returns-in-Other c =
    let l = c.loop-line in
    lines_other l.wanted l.statements l.reprs c.args.lines.now l.line-index c.line-item.result c.in_ok-stm.field-0
    (record { item = c.line-item.is; within = c.loop-line-test.true; read = l.invariant; line = c.in_ok-stm.ensures }) c.in-Other.is

pub loop-line-preserved : goal.loop-line-preserved
loop-line-preserved c =
    let l = c.loop-line in let m = c.match-branch-2 in
    elim c.match-branch-2.branch [
      | in-Statement+in-Statements+in_ok-push-in-Statements w ↦
          lines_statement l.wanted m.wanted l.statements m.statements l.reprs m.reprs c.args.lines.now l.line-index c.line-item.result
          c.in_ok-stm.field-0 w.in-Statement.stm
          (record { item = c.line-item.is; within = c.loop-line-test.true; read = l.invariant; line = c.in_ok-stm.ensures })
          w.in-Statements.is w.in-Statement.is w.wanted-is
          (w.statements-is ∙ w.in_ok-push-in-Statements.ensures.ok ∙ ap (λ s. l.statements ++ s ∷ []) w.into_inner.ensures) w.reprs-is
      | in-Representations+in_ok-push-in-Representations w ↦
          lines_reprs l.wanted m.wanted l.statements m.statements l.reprs m.reprs c.args.lines.now l.line-index c.line-item.result
          c.in_ok-stm.field-0 w.in-Representations.named
          (record { item = c.line-item.is; within = c.loop-line-test.true; read = l.invariant; line = c.in_ok-stm.ensures })
          w.in-Representations.is w.wanted-is w.statements-is (w.reprs-is ∙ w.in_ok-push-in-Representations.ensures.ok)
    ]

pub returns : goal.returns
returns c =
    lines_all c.loop-line.wanted c.loop-line.statements c.loop-line.reprs c.args.lines.now c.loop-line.line-index
    c.loop-line-test.false c.loop-line.invariant
