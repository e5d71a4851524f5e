-- Worked examples of the sizes of views of sets in slots.
use Rattle.std.specs.Prelude.{◌≡◌, refl, false, [], ◌∷◌, pos, Some, None}
use Rattle.ess_semantics.specs.declared.words.Op1.{Op1}
use Rattle.ess_semantics.specs.declared.words.Key.{Key}
use Rattle.ess_semantics.specs.declared.words.ReprKind.{ReprKind}
use Rattle.ess_semantics.specs.Trees.{Ex, cell_ex, seen_ex, no_exs}
use Rattle.ess_semantics.specs.Tables.{row_of, one_cell}
use Rattle.ess_semantics.specs.Meaning.{Env, empty_env, meaning}
use Rattle.ess_semantics.proofs.Shorthands.{n, v, un, upto, sized}
use Rattle.ess_rules_laws.specs.SetSizes.{size_by_marker, size_by_slots}
use Rattle.ess_rules_laws.proofs.ExamplesLookups.{f}
use Rattle.ess_rules_laws.proofs.ExamplesSetListings.{s}
use Rattle.ess_rules_laws.proofs.ExamplesFunctionViews.{over_atoms}

-- 5 and 3 in two of three slots.
abbrev marked : Env
marked = record empty_env { cells = (s, row_of (pos 1 ∷ pos 2 ∷ pos 3 ∷ []) (pos 5 ∷ pos 3 ∷ pos 0 ∷ [])) ∷ (f, one_cell (pos 2)) ∷ [] }

abbrev view : Ex
view = seen_ex (over_atoms ReprKind.ExplicitVarSizeWithMarker) (sized Key.MaxSize 3 (upto 9)) (f ∷ s ∷ []) no_exs

-- `|v|` is the marker, which is 2.
marker_size : size_by_marker (un Op1.Bar view) ≡ Some (cell_ex false f no_exs)
marker_size = refl

two_members : (meaning (un Op1.Bar view) marked ≡ Some (v 2)) × (meaning (cell_ex false f no_exs) marked ≡ Some (v 2))
two_members = (refl, refl)

-- In two slots all in use it is 2.
abbrev pair_view : Ex
pair_view = seen_ex (over_atoms ReprKind.Explicit) (sized Key.Size 2 (upto 9)) (s ∷ []) no_exs

slots_size : size_by_slots (n 2) (un Op1.Bar pair_view) ≡ Some (n 2)
slots_size = refl

-- Slots up to a marker aren't all in use.
not_all_in_use : size_by_slots (n 3) (un Op1.Bar view) ≡ None
not_all_in_use = refl
