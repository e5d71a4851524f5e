-- What the lines of the code stand for.
use Rattle.std.specs.Prelude.{List, map}
use Rattle.ess_semantics.specs.ModelTrees.{Header}
use Rattle.ess_core.specs.TreeViews.{pure_repr}
use Rattle.ess_core.specs.StatementViews.{pure_stm}
use Rattle.ess_core.specs.declared.statements.Stm.{Stm}
use Rattle.ess_parse.specs.declared.representations.named.NamedReprs.{NamedReprs}
use Rattle.ess_parse.specs.NamedReprViews.{pure_named_reprs}
use Rattle.ess_translate_header_laws.specs.HeadLines.{statements_wanted, reprs_wanted, statement_line, reprs_line, last_line, other_line}
use Rattle.ess_translate_header_laws.specs.HeadLines as lines
use Rattle.ess_translate_header_lines.specs.declared.lines.HeadLine.{HeadLine}
use Rattle.ess_translate_header_lines.specs.declared.reading.Wanted.{Wanted}

-- The header of these statements and representations.
abbrev pub header_with : List Stm → List NamedReprs → Header
header_with ss rs = record { statements = map pure_stm ss; reprs = map pure_named_reprs rs }

-- The line.
abbrev pub pure_line : HeadLine → lines.HeadLine
pure_line (HeadLine.Statement s) = statement_line (pure_stm s)
pure_line (HeadLine.Representations n) = reprs_line n.name (map pure_repr n.trees)
pure_line HeadLine.End = last_line
pure_line HeadLine.Other = other_line

-- Which lines are wanted.
abbrev pub pure_wanted : Wanted → lines.Wanted
pure_wanted Wanted.Statements = statements_wanted
pure_wanted Wanted.Representations = reprs_wanted
