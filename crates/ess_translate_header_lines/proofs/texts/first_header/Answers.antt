use Rattle.std.proofs.Common.{rules}
use Rattle.ess_translate_header_lines.proofs.Answered.{version_first}
use Rattle.ess_translate_header_lines.proofs.texts.first_header.Goals as goal

pub returns-then-eq : goal.returns-then-eq
returns-then-eq c =
    version_first c.in-Some.first.now c.in-Some.rest.now c.args.lines.now c.read_lines.result (search rules)
    (search rules) c.read_lines.ensures
