-- What is asked of finds: that their tables are canonical, and that their views stand for one value.
use Rattle.std.specs.Prelude.{Bool, true, false, if◌then◌else◌, List, [], ◌∷◌, map, filter, Option, Some, None}
use Rattle.ess_semantics.specs.declared.words.Op2.{Op2}
use Rattle.ess_semantics.specs.declared.words.ReprKind.{ReprKind}
use Rattle.ess_semantics.specs.Values.{Text}
use Rattle.ess_semantics.specs.Lists.{append_all}
use Rattle.ess_semantics.specs.Trees.{Repr, repr, Ex, truth_ex, ex2, Stm, find}
use Rattle.ess_semantics.specs.Plans.{Plan, size_plan, value_plan, finds_side, side_of, same_side, is_plan_of}
use Rattle.conjure_model_laws.specs.Shown.{Shows, view_by, domain_shown}
use Rattle.conjure_model_laws.specs.IsBuiltFrom.{structure_tree, channel_trees}

-- The view by a plan.
abbrev pub view_of : Shows → Plan → Ex
view_of sh P = view_by (domain_shown sh P) P

-- The views of a find.
abbrev pub views_of : Shows → List Plan → Text → List Ex
views_of sh Ps x = map (view_of sh) (filter (is_plan_of x) Ps)

-- That the first and each other one are equal.
abbrev pub equal_first : List Ex → List Ex
equal_first [] = []
equal_first (v ∷ vs) = map (ex2 true Op2.Eq v) vs

-- Whether a representation is that of a scalar.
abbrev pub is_atom : Repr → Bool
is_atom (repr ReprKind.Atom rs) = true
is_atom r = false

-- What is asked of the tables of a plan: that they are canonical. Nothing is asked of a scalar, whose cell lies in its declared domain.
abbrev pub asked_of : Shows → Plan → Ex
asked_of sh (size_plan t n) = truth_ex true
asked_of sh (value_plan f x r d ns) = if is_atom r then truth_ex true else structure_tree sh (value_plan f x r d ns)

-- The same of the finds, plan by plan.
abbrev pub structures_of : Shows → List Plan → List Ex
structures_of sh Ps = map (asked_of sh) (filter (λ p. same_side (side_of p) finds_side) Ps)

-- The channels of these finds.
abbrev pub channels_of : Shows → List Plan → List Text → List Ex
channels_of sh Ps xs = append_all (map (λ x. channel_trees sh (filter (is_plan_of x) Ps)) xs)

-- The name that a statement finds.
abbrev pub found_in : Stm → Option Text
found_in (find x d) = Some x
found_in s = None
