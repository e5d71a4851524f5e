use Rattle.std.proofs.Common.{sym, ◌∙◌, [], ◌<◌, length, arith}
use Rattle.ess_semantics.specs.declared.words.ReprKind.{ReprKind}
use Rattle.ess_parse.proofs.representations.kinds.kind_in.Goals as goal
use Rattle.ess_parse.proofs.KindSearch.{look-found, look-passed}

pub returns-then-eq : goal.returns-then-eq
returns-then-eq c =
    let h : c.loop-spelling.spelling-index < length c.args.table.now = omega arith in
    sym (c.loop-spelling.invariant ∙ look-found c.args.table.now c.loop-spelling.spelling-index (record { ref_ptr = (0, 0); now = [] }, ReprKind.Atom) c.args.name.now h (cc))

pub loop-spelling-preserved : goal.loop-spelling-preserved
loop-spelling-preserved c =
    let h : c.loop-spelling.spelling-index < length c.args.table.now = omega arith in
    c.loop-spelling.invariant ∙ look-passed c.args.table.now c.loop-spelling.spelling-index (record { ref_ptr = (0, 0); now = [] }, ReprKind.Atom) c.args.name.now h (cc)
