use Rattle.std.proofs.Common.{◌≡◌, ◌++◌, map, take}
use Rattle.ess_core.specs.StatementViews.{pure_stm}
use Rattle.ess_print_laws.specs.Texts.{stm_text}
use Rattle.ess_translate_header_lines.proofs.writing.push_statements.Given as goal

abbrev pub invariant-loop-stm : goal.invariant-loop-stm
invariant-loop-stm l = l.lines ≡ l.fn.lines ++ map stm_text (map pure_stm (take l.stm-index l.stms))
