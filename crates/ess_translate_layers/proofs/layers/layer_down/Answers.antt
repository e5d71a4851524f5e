use Rattle.std.proofs.Common.{◌≡◌, map, option_map}
use Rattle.ess_core.specs.TableViews.{pure_table}
use Rattle.ess_core.specs.ValueViews.{pure_val}
use Rattle.ess_eval_domains.specs.ClosedViews.{pure_closed}
use Rattle.ess_repr_tables.specs.SlotViews.{pure_tables}
use Rattle.ess_translate_layers.specs.declared.families.Family.TheVariants as variant
use Rattle.ess_translate_layers.proofs.FamilyAnswers.{down_of_relations}
use Rattle.ess_translate_layers.proofs.layers.layer_down.Goals as goal

pub returns-in_ok-down-in-Relations : goal.returns-in_ok-down-in-Relations
returns-in_ok-down-in-Relations c =
    let is = c.in-Relations.is in
    let q : c.domain_family.result ≡ variant.Relations = cc in
    down_of_relations c.args.kind (pure_closed c.args.domain.now) c.domain_family.result c.domain_family.ensures (pure_val c.args.value.now)
    c.args.axes.now (map pure_tables c.args.inner) (option_map (map pure_table) c.in_ok-down-in-Relations.field-0) q
    c.in_ok-down-in-Relations.ensures
