-- Worked examples of places of rules that are asked.
use Rattle.std.proofs.Common.{◌≡◌, refl, Some, None}
use Rattle.ess_refine_laws.specs.AllRules.{in_a_term, least_under_a_condition}
use Rattle.ess_refine.specs.ess_rules.Ruled.{plainly, rules_asked}
use Rattle.ess_seen_settled_laws.proofs.Asked.{asked_at}

-- That of `in` of any term, the last one, and none behind it.
of_memberships : asked_at 68 rules_asked ≡ Some (plainly in_a_term)
of_memberships = refl

last : asked_at 85 rules_asked ≡ Some (plainly least_under_a_condition)
last = refl

behind : asked_at 86 rules_asked ≡ None
behind = refl
