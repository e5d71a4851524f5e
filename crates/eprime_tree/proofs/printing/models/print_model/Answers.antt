use Rattle.std.proofs.Common.{◌≡◌, ap, ◌∙◌, ◌++◌}
use Rattle.std.specs.Prelude.{codes}
use Rattle.eprime_tree.specs.Views.{pure_model}
use Rattle.eprime_tree.specs.ModelText.{model_text}
use Rattle.eprime_tree.proofs.PrintedModels.{prints-model}
use Rattle.eprime_tree.proofs.WholeModels.{model-read, model-inside}
use Rattle.eprime_tree.proofs.printing.models.print_model.Goals as goal

is-text : (c : goal.After-into_bytes) → c.into_bytes.result.items ≡ model_text c.args.model.now.head (pure_model c.args.model.now)
is-text c =
    ap (λ v. v.items) c.into_bytes.ensures.value
    ∙ c.into_string.ensures
    ∙ prints-model c.push_str.new.self c.print_head.new.out c.print_decls.new.out c.print_decls-2.new.out c.print_goal.new.out c.print_rules.new.out c.args.model.now
    (c.in_ok-push_str.ensures.ok ∙ ap (λ x. x ++ codes "language ESSENCE' 1.0\n") c.new-out.ensures)
    c.in_ok-print_head.ensures c.in_ok-print_decls.ensures c.in_ok-print_decls-2.ensures c.in_ok-print_goal.ensures c.in_ok-print_rules.ensures

pub returns-clause-text : goal.returns-clause-text
returns-clause-text c = is-text c

pub returns-clause-read : goal.returns-clause-read
returns-clause-read c = model-read c.into_bytes.result.items c.args.model.now (is-text c)

pub returns-clause-inside : goal.returns-clause-inside
returns-clause-inside c = model-inside c.into_bytes.result.items c.args.model.now (is-text c)
