use Rattle.std.proofs.Common.{sym, ap, ◌∙◌, map}
use Rattle.ess_translate_header.specs.Views.{pure_header}
use Rattle.ess_translate_plans.specs.Views.{pure_plan}
use Rattle.ess_translate_files.proofs.Transported.{tables_here}
use Rattle.ess_translate_files.proofs.models.with_plans.Goals as goal

-- src/models.rt
pub returns-then-declares-clause-whole : goal.returns-then-declares-clause-whole
returns-then-declares-clause-whole c = record {
  header = c.requires.read;
  ready = c.requires.ready;
  plans = c.in_ok-plans.ensures c.requires.read;
  tables = tables_here (pure_header c.args.header) c.args.model c.get.result.now c.get.ensures
      (c.declares.ensures.yes (pure_header c.args.header)
      (ap (map pure_plan) c.as_slice.ensures ∙ c.in_ok-plans.ensures c.requires.read) c.if-declares.true);
  readable = c.requires.readable;
}

-- src/models.rt
pub returns-else-declares-clause-bad : goal.returns-else-declares-clause-bad
returns-else-declares-clause-bad c = λ e d.
    c.declares.ensures.no (pure_header c.args.header)
    (ap (map pure_plan) c.as_slice.ensures ∙ c.in_ok-plans.ensures c.requires.read) c.if-declares.false
    (tables_here (pure_header c.args.header) c.get.result.now c.args.model (sym c.get.ensures) d)
