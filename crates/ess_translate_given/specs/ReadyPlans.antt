-- What a plan of a given needs for its tables: its value is a member of its domain, for which its representation has room.
use Rattle.std.specs.Prelude.{◌≡◌, true, List, map, Some, Option}
use Rattle.ess_semantics.specs.Values.{Value}
use Rattle.ess_semantics.specs.Trees.{Repr}
use Rattle.ess_semantics.specs.Domains.{Domain}
use Rattle.ess_semantics.specs.Membership.{member}
use Rattle.ess_semantics.specs.Positions.{with_positions, domain_with_positions}
use Rattle.ess_semantics.specs.Meaning.{Env, domain_of}
use Rattle.ess_semantics.specs.Contexts.{Each}
use Rattle.ess_semantics.specs.Assignments.{Assignment, value_of}
use Rattle.ess_semantics.specs.Plans.{givens_side, finds_side, Plan, size_plan, value_plan}
use Rattle.ess_repr_laws.specs.Rooms.{Roomy}
use Rattle.ess_translate_members_laws.specs.PlanDomains.{plan_closed}

-- The value with positions is a member of the domain with positions, and the representation has room for it.
pub record HasRoom (r : Repr) (e : Domain) (v : Value) : Type 0 where
  pub roomy : Roomy r (domain_with_positions e)
  pub member : member (domain_with_positions e) (with_positions v) ≡ true

-- Where a plan is one of a given, whatever its domain and its value are, there is room.
abbrev pub PlanReady : Env → Assignment → Plan → Type 0
PlanReady env a (size_plan t n) = Unit {0}
PlanReady env a (value_plan finds_side x r d ns) = Unit {0}
PlanReady env a (value_plan givens_side x r d ns) =
    (e : Domain) (v : Value) → domain_of d env ≡ Some e → value_of a x ≡ Some v → HasRoom r e v

-- The plans of an env, with their domains, are ready.
pub record PlansReady (env : Env) (a : Assignment) (ps : List Plan) (os : List (Option Domain)) : Type 0 where
  pub closed : os ≡ map (plan_closed env) ps
  pub each : Each ps (PlanReady env a)
