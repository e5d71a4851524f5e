-- Tables over declarations whose domains have their meaning.
use Rattle.std.specs.Prelude.{Bool, true, false, ◌&&◌, if◌then◌else◌, List, [], ◌∷◌, ℤ, Option, Some, None}
use Rattle.std.specs.List.{list_all}
use Rattle.ess_semantics.specs.Lists.{is_some_and}
use Rattle.ess_semantics.specs.Values.{Text}
use Rattle.ess_semantics.specs.Order.{same_ints}
use Rattle.ess_semantics.specs.Names.{Names}
use Rattle.ess_semantics.specs.DeclaredTables.{axis_members}
use Rattle.ess_semantics.specs.Tables.{Table, is_filled, is_cell}
use Rattle.eprime_eval.specs.declared.members.Closed.{Closed}
use Rattle.eprime_eval.specs.ClosedDomains.{pure_closed}
use Rattle.eprime_verdicts.specs.declared.domains.ClosedDecl.{ClosedDecl}

-- Whether numbers are the members of a domain, rising.
abbrev pub has_axis : Closed → List ℤ → Bool
has_axis d a = is_some_and (axis_members (Some (pure_closed d))) (λ ns. same_ints ns a)

-- Whether axes are the members of domains, each of its own.
abbrev pub are_over : List Closed → List (List ℤ) → Bool
are_over [] [] = true
are_over (d ∷ ds) (a ∷ as') = has_axis d a && are_over ds as'
are_over _ _ = false

-- Whether a table is over these axes and has its items in this domain.
abbrev pub fits : ClosedDecl → Table → Bool
fits d t = is_filled t && are_over d.axes t.axes && list_all (is_cell (pure_closed d.cell)) t.items

-- The first declared name whose table doesn't fit, or has none in its place.
abbrev pub outside_of : List ClosedDecl → Names Table → Option Text
outside_of [] ts = None
outside_of (d ∷ ds) [] = Some d.name
outside_of (d ∷ ds) (t ∷ ts) = if fits d t.1 then outside_of ds ts else Some d.name
