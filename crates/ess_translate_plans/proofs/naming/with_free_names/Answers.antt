use Rattle.std.proofs.Common.{sym, ap, ◌∙◌, ◌++◌, Some, rules}
use Rattle.std.specs.Option.{option_copied}
use Rattle.ess_core.specs.TreeViews.{pure_repr, pure_dom}
use Rattle.ess_translate_plans_laws.specs.Requests.{declared_beside}
use Rattle.ess_translate_plans.proofs.Trying.{is_taken_anew}
use Rattle.ess_translate_plans.proofs.naming.with_free_names.Goals as goal

pub returns-in-Some : goal.returns-in-Some
returns-in-Some c =
    is_taken_anew (pure_repr c.args.tree.now) (pure_dom c.args.dom.now) c.args.name.now
    (declared_beside c.args.all c.args.own.now c.args.declared.now ++ c.args.tables.now) c.args.avoided.now c.as_slice.result.now
    c.in_ok-copy-in-Some.field-0 (search rules)
    (sym c.first_taken.ensures ∙ ap option_copied c.in-Some.is ∙ ap Some (sym c.in_ok-copy-in-Some.ensures))
