use Rattle.std.proofs.Common.{map, drop}
use Rattle.ess_core.specs.StatementViews.{pure_stm}
use Rattle.ess_parse.specs.NamedReprViews.{pure_named_reprs}
use Rattle.ess_translate_header_laws.proofs.Reading.{IsRead}
use Rattle.ess_translate_header_lines.specs.Views.{pure_wanted}
use Rattle.ess_translate_header_lines.proofs.reading.read_lines.Given as goal

abbrev pub invariant-loop-line : goal.invariant-loop-line
invariant-loop-line l =
    IsRead (pure_wanted l.wanted) (map pure_stm l.statements) (map pure_named_reprs l.reprs) (drop l.line-index l.lines) l.lines
