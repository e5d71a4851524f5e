use Rattle.std.proofs.Common.{sym, ◌∙◌, [], ◌<◌, length, arith}
use Rattle.ess_grammar.specs.declared.kind.Kind.{Kind}
use Rattle.ess_lex.proofs.tables.kind_in.Goals as goal
use Rattle.ess_lex.proofs.TableSearch.{look-found, look-passed}

pub returns-then-eq : goal.returns-then-eq
returns-then-eq c =
    let h : c.loop-spelling.spelling-index < length c.args.table.now = omega arith in
    sym (c.loop-spelling.invariant
    ∙ look-found c.args.table.now c.loop-spelling.spelling-index (record { ref_ptr = (0, 0); now = [] }, Kind.Name) c.args.text.now h
    (cc))

pub loop-spelling-preserved : goal.loop-spelling-preserved
loop-spelling-preserved c =
    let h : c.loop-spelling.spelling-index < length c.args.table.now = omega arith in
    c.loop-spelling.invariant
    ∙ look-passed c.args.table.now c.loop-spelling.spelling-index (record { ref_ptr = (0, 0); now = [] }, Kind.Name) c.args.text.now h (cc)
