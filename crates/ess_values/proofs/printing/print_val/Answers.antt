use Rattle.std.proofs.Common.{◌≡◌, ◌∙◌, ap, ◌++◌}
use Rattle.ess_core.specs.ValueViews.{pure_val}
use Rattle.ess_core.specs.TableViews.{pure_type_entries, pure_env}
use Rattle.ess_grammar.specs.ValueTexts.{value_text}
use Rattle.ess_values_laws.specs.ItemNames.{item_name}
use Rattle.ess_values.proofs.ReadTexts.{value_is_read, value_is_in_letting, value_is_read_back}
use Rattle.ess_values.proofs.printing.print_val.Goals as goal

pub returns-clause-read : goal.returns-clause-read
returns-clause-read c =
    let written = c.in_ok-push_val.ensures in let empty = c.new-out.ensures in
    let whole : c.push_val.new.out ≡ value_text (item_name (pure_type_entries c.args.env.now.types)) (pure_val c.args.val.now) =
    written ∙ ap (λ w. w ++ value_text (item_name (pure_type_entries c.args.env.now.types)) (pure_val c.args.val.now)) empty in
    value_is_read (item_name (pure_type_entries c.args.env.now.types)) (pure_val c.args.val.now) c.push_val.new.out whole

pub returns-clause-letting : goal.returns-clause-letting
returns-clause-letting c =
    let written = c.in_ok-push_val.ensures in let empty = c.new-out.ensures in
    let whole : c.push_val.new.out ≡ value_text (item_name (pure_type_entries c.args.env.now.types)) (pure_val c.args.val.now) =
    written ∙ ap (λ w. w ++ value_text (item_name (pure_type_entries c.args.env.now.types)) (pure_val c.args.val.now)) empty in
    value_is_in_letting (item_name (pure_type_entries c.args.env.now.types)) (pure_val c.args.val.now) c.push_val.new.out whole

pub returns-clause-value : goal.returns-clause-value
returns-clause-value c =
    let written = c.in_ok-push_val.ensures in let empty = c.new-out.ensures in
    let whole : c.push_val.new.out ≡ value_text (item_name (pure_type_entries c.args.env.now.types)) (pure_val c.args.val.now) =
    written ∙ ap (λ w. w ++ value_text (item_name (pure_type_entries c.args.env.now.types)) (pure_val c.args.val.now)) empty in
    value_is_read_back (pure_env c.args.env.now) (pure_val c.args.val.now) c.push_val.new.out whole
