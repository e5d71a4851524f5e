use Rattle.std.proofs.Common.{sym, ◌∙◌, [], ◌<◌, length, arith}
use Rattle.ess_semantics.specs.declared.words.Key.{Key}
use Rattle.ess_parse_domains.proofs.attributes.key_in.Goals as goal
use Rattle.ess_parse_domains.proofs.KeySearch.{look-found, look-passed}

pub returns-then-eq : goal.returns-then-eq
returns-then-eq c =
    let h : c.loop-spelling.spelling-index < length c.args.table.now = omega arith in
    sym (c.loop-spelling.invariant ∙ look-found c.args.table.now c.loop-spelling.spelling-index (record { ref_ptr = (0, 0); now = [] }, Key.Size) c.args.word.now h (cc))

pub loop-spelling-preserved : goal.loop-spelling-preserved
loop-spelling-preserved c =
    let h : c.loop-spelling.spelling-index < length c.args.table.now = omega arith in
    c.loop-spelling.invariant ∙ look-passed c.args.table.now c.loop-spelling.spelling-index (record { ref_ptr = (0, 0); now = [] }, Key.Size) c.args.word.now h (cc)
