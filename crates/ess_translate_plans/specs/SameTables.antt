-- Whether declared tables have the names that plans give, in order, with as many axes.
use Rattle.std.specs.Prelude.{Bool, true, false, ◌&&◌, nat_eq, if◌then◌else◌, List, [], ◌∷◌, map, filter, length, Option, Some, None}
use denote.Bor.{Bor}
use Rattle.ess_semantics.specs.Order.{same_text}
use Rattle.ess_semantics.specs.TableNames.{Named}
use Rattle.ess_semantics.specs.Plans.{Side, same_side, side_of, Plan, names_of_plan, names_of_plans}
use Rattle.eprime_tree.specs.declared.models.PDecl.{PDecl}

-- Whether two names have the same bytes and the same number of axes.
abbrev pub same_named : Named → Named → Bool
same_named a b = same_text a.0 b.0 && nat_eq a.1 b.1

-- Whether two lists of names are one.
abbrev pub are_same : List Named → List Named → Bool
are_same [] [] = true
are_same (a ∷ ns) (b ∷ ms) = same_named a b && are_same ns ms
are_same _ _ = false

-- The declared name with its number of axes.
abbrev pub pure_declared : PDecl → Named
pure_declared d = (d.name, length d.axes)

-- The names of a plan, where it is one of this side.
abbrev pub names_on : Side → Plan → List Named
names_on f p = if same_side (side_of p) f then names_of_plan p else []

-- The names of all plans of this side.
abbrev pub names_on_side : Side → List Plan → List Named
names_on_side f ps = names_of_plans (filter (λ p. same_side (side_of p) f) ps)

-- Whether these names are those of the declarations that are left, if any are.
abbrev pub are_left : List Named → Option (Bor (List PDecl)) → Bool
are_left ns None = false
are_left ns (Some r) = are_same ns (map pure_declared r.now)
