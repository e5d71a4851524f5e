use Rattle.std.proofs.Common.{◌≡◌, sym, ap, ◌∙◌, subst, option_map}
use Rattle.std.specs.Prelude.{IfOk, is_some}
use Rattle.ess_semantics.specs.Lists.{when}
use Rattle.ess_semantics.specs.Types.{join}
use Rattle.ess_core.specs.ValueViews.{pure_val}
use Rattle.ess_core.specs.TreeViews.{pure_ex}
use Rattle.ess_core.specs.TypeViews.{pure_ty}
use Rattle.ess_core.specs.TableViews.{pure_env}
use Rattle.ess_values.specs.Shapes.{pure_shape}
use Rattle.ess_values.specs.Literals.{pure_literal}
use Rattle.ess_values.proofs.Reading.{typed_value, no_value}
use Rattle.ess_values.proofs.literals.typed.Goals as goal

pub returns-in-Some : goal.returns-in-Some
returns-in-Some c =
    let found = c.in-Some.found in
    let is = typed_value (pure_ex c.args.ex.now) (pure_ty c.args.ty.now) (pure_env c.args.env.now) (pure_literal found) (sym c.in_ok-found.ensures ∙ ap (option_map pure_literal) c.in-Some.is) in
    subst (λ v. IfOk c.of_shape.result (λ o. option_map pure_val o ≡ v))
    (ap (λ t. when (is_some (join (pure_shape found.shape) t)) (pure_val found.val)) (ap pure_shape (c.get.ensures ∙ c.in_ok-shape.ensures) ∙ c.in_ok-shape_of.ensures) ∙ sym is) c.of_shape.ensures

pub returns : goal.returns
returns c = sym (no_value (pure_ex c.args.ex.now) (pure_ty c.args.ty.now) (pure_env c.args.env.now) (sym c.in_ok-found.ensures ∙ ap (option_map pure_literal) c.in-None.is))
