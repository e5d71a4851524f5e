-- The kinds of the names that generators bind.
use Rattle.std.specs.Prelude.{List, map, reverse}
use Rattle.ess_semantics.specs.Values.{Text}
use Rattle.ess_semantics.specs.Names.{Names}
use Rattle.ess_semantics.specs.Types.{Ty}
use Rattle.eprime_eval_kinds.specs.declared.scope.BoundName.{BoundName}
use Rattle.eprime_eval_kinds.specs.KindedViews.{pure_kind}

-- A bound name with the type of its kind.
abbrev pub bound_kind : BoundName → Text × Ty
bound_kind b = (b.name, pure_kind b.kind)

-- The bound names with their kinds, the newest first.
abbrev pub scope_kinds : List BoundName → Names Ty
scope_kinds bs = reverse (map bound_kind bs)
