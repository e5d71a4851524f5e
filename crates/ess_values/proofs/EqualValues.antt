-- The order of two values is Equal exactly where they are equal.
use Rattle.std.proofs.Common.{◌≡◌, sym, ap, ◌∙◌}
use Rattle.std.specs.Prelude.{◌↔◌}
use Rattle.std.specs.declared.cmp.Ordering.{Ordering}
use Rattle.std.specs.declared.cmp.Ordering.TheVariants.{Equal}
use Rattle.std.proofs.lemmas.Cmp.{tied_itself}
use Rattle.ess_semantics.specs.Order.{order}
use Rattle.ess_semantics.proofs.Orders.{order_exact, order_total}
use Rattle.ess_core.specs.declared.values.Val.{Val}
use Rattle.ess_core.specs.ValueViews.{pure_val}
use Rattle.ess_core.proofs.InjectiveValues.{pure_val-injective}

pub equal-exactly : (a b : Val) (o : Ordering) → o ≡ order (pure_val a) (pure_val b) → (o ≡ Equal) ↔ (a ≡ b)
equal-exactly a b o h = (
  λ e. pure_val-injective a b (order_exact (pure_val a) (pure_val b) (sym h ∙ e)),
  λ e. h ∙ ap (λ v. order (pure_val a) (pure_val v)) (sym e) ∙ tied_itself order_total (pure_val a),
)
