-- Options with which each given and find is a set that is kept by which members occur, and in no other way.
use Rattle.std.specs.Prelude.{Bool, true, false, List, [], ◌∷◌}
use Rattle.std.specs.List.{list_all}
use Rattle.ess_semantics.specs.declared.words.ReprKind.{ReprKind}
use Rattle.ess_semantics.specs.Trees.{Repr, repr, no_reprs, Stm}
use Rattle.ess_semantics.specs.Plans.{Options, all_chosen}

-- Whether the representation is `Occurrence`, and the only one.
abbrev pub is_occurrence_alone : List Repr → Bool
is_occurrence_alone (repr ReprKind.Occurrence no_reprs ∷ []) = true
is_occurrence_alone rs = false

-- Whether each given and find has this representation alone.
abbrev pub are_kept_by_occurrence : List Stm → Options → Bool
are_kept_by_occurrence S o = list_all (λ c. is_occurrence_alone c.1) (all_chosen S o)
