use Rattle.std.proofs.Common.{rules, ◌∙◌}
use Rattle.ess_translate_header_lines.proofs.Answered.{language_first}
use Rattle.ess_translate_header_lines.proofs.texts.read_header_lines.Goals as goal

pub returns : goal.returns
returns c =
    language_first c.args.text.now c.as_slice.result.now c.first_header.result (search rules) (c.as_slice.ensures ∙ c.in_ok-lines.ensures)
    c.first_header.ensures
