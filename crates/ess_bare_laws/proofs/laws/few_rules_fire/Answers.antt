use Rattle.std.proofs.Common.{refl}
use Rattle.ess_bare_laws.specs.BareParts.{marked_types}
use Rattle.ess_bare_laws.proofs.PlainRules.{fires, no-list}
use Rattle.ess_bare_laws.proofs.Rulings.{no-ruling, no-ruling-list}
use Rattle.ess_bare_laws.proofs.Gathering.{no-gathering}
use Rattle.ess_bare_laws.proofs.OrderRules.{no-order, no-order-list}
use Rattle.ess_bare_laws.proofs.NumberRules.{no-number-rule, no-number-list}
use Rattle.ess_bare_laws.proofs.laws.few_rules_fire.Goals as goal

pub returns : goal.returns
returns c = record {
  plainly = λ cells s r u e f m b q. fires cells s r u e f m b q;
  by_kind = λ cells s r u e m b. no-ruling cells s (marked_types r) r b u;
  gathering = λ cells r e m b. no-gathering cells r b;
  in_order = λ cells s r u e m b. no-order cells s (marked_types r) r u b;
  by_number = λ cells s r u e m b. no-number-rule cells r s (marked_types r) u b;
  at_a_list = λ cells s g r t e gs k. (
    λ u. no-list cells s g r t e gs k u,
    λ u. no-ruling-list cells s g r e k u,
    refl,
    λ u. no-order-list cells s g r u e k,
    λ u. no-number-list s g u e gs,
  );
}
