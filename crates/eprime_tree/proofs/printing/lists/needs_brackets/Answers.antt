use Rattle.std.proofs.Common.{sym, ap, ◌∙◌, ◌&&◌}
use Rattle.ess_print_laws.specs.Brackets.{is_written_as_pattern}
use Rattle.eprime_tree.specs.Printed.{read_ex}
use Rattle.eprime_tree.proofs.printing.lists.needs_brackets.Goals as goal

pub returns-then-before_generator : goal.returns-then-before_generator
returns-then-before_generator c = λ s. c.is_name.ensures s ∙ ap (λ b. b && is_written_as_pattern (read_ex s c.args.ex.now)) (sym c.if-before_generator.true)
