use Rattle.std.proofs.Common.{◌∙◌}
use Rattle.std.proofs.lemmas.Result.{on_ok_weaker}
use Rattle.ess_core.specs.ValueViews.{pure_pair}
use Rattle.ess_core.specs.TableViews.{pure_type_entries}
use Rattle.ess_values_laws.specs.ItemNames.{item_name}
use Rattle.ess_values.specs.Printing.{pair_text}
use Rattle.ess_values.proofs.Commas.{items_step}
use Rattle.ess_values.proofs.Written.{function_written}
use Rattle.ess_values.proofs.printing.+print.Goals as goal

pub push_pairs-loop-i-preserved : goal.push_pairs-loop-i-preserved
push_pairs-loop-i-preserved t c =
    items_step (pair_text (item_name (pure_type_entries c.args.env.now.types))) pure_pair c.args.pairs.now c.loop-i.i c.index-pairs-i.result c.loop-i.out _ _
    c.loop-i-test.true c.index-pairs-i.is c.in_ok-push_comma.ensures c.in_ok-push_pair.ensures ∙ c.loop-i.invariant

pub push_function-returns : goal.push_function-returns
push_function-returns t c =
    on_ok_weaker c.push_str-2.result (λ e. function_written (item_name (pure_type_entries c.args.env.now.types)) c.args.pairs.now c.args.out.now _ _ _ c.in_ok-push_str.ensures.ok c.in_ok-push_pairs.ensures e) c.push_str-2.ensures.ok
