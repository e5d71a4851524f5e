use Rattle.std.proofs.Common.{sym, ap, ◌∙◌, option_map}
use Rattle.ess_core.specs.TreeViews.{pure_exs}
use Rattle.ess_core.specs.TableViews.{pure_env}
use Rattle.ess_values.specs.Literals.{pure_parts}
use Rattle.ess_values.proofs.SetLemmas.{sets_there}
use Rattle.ess_values.proofs.literals.reading.+literal.Goals as goal

pub read_partition-partition-requires : goal.read_partition-partition-requires
read_partition-partition-requires t c =
    λ x e. sets_there (pure_exs c.args.items.now) (pure_env c.args.env.now) (pure_parts x) (sym c.in_ok-parts.ensures ∙ ap (option_map pure_parts) e)
