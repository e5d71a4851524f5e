use Rattle.ess_translate_header_lines.specs.Views.{header_with}
use Rattle.ess_translate_header_lines.proofs.Answered.{written_again}
use Rattle.ess_translate_header_lines.proofs.writing.write_header_lines.Goals as goal

-- src/writing.rt
pub returns-clause-found : goal.returns-clause-found
returns-clause-found c = λ r. written_again (header_with c.args.stms.now c.args.reprs.now) c.all_lines.result c.all_lines.ensures r
