use Rattle.std.proofs.Common.{ap, inr}
use Rattle.std.specs.Prelude.{Err}
use Rattle.ess_core.specs.TableViews.{pure_cells}
use Rattle.ess_translate_solutions.proofs.Transported.{large_here}
use Rattle.ess_translate_solutions.proofs.solutions.pass_model.Goals as goal

-- src/solutions.rt
pub returns-in-Err-Big-clause-refused : goal.returns-in-Err-Big-clause-refused
returns-in-Err-Big-clause-refused c = λ text a.
    inr (inr (
      pure_cells c.args.found.now,
      a,
      large_here c.args.file.now.model c.get.result.now (pure_cells c.args.given.now.tables)
          (pure_cells c.args.found.now) c.get.ensures (c.in-Err-Big.ensures.big (ap Err c.in-Err-Big.field-0-is)),
    ))
