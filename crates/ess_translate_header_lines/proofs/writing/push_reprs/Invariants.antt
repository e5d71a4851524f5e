use Rattle.std.proofs.Common.{◌≡◌, ◌++◌, map, take}
use Rattle.ess_parse.specs.NamedReprViews.{pure_named_reprs}
use Rattle.ess_translate_header_laws.specs.WrittenLines.{reprs_line_texts}
use Rattle.ess_translate_header_lines.proofs.writing.push_reprs.Given as goal

abbrev pub invariant-loop-named : goal.invariant-loop-named
invariant-loop-named l = l.lines ≡ l.fn.lines ++ reprs_line_texts (map pure_named_reprs (take l.named-index l.reprs))
