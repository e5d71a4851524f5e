-- The law of refined trees over views, stated at a function that does nothing.
use Rattle.std.specs.Prelude.{◌≡◌, ℕ, Bool, true, [], Option, List}
use Rattle.ess_semantics.specs.Values.{Text}
use Rattle.ess_semantics.specs.Trees.{Ex}
use Rattle.ess_semantics.specs.Refined.{is_refined}
use Rattle.ess_seen_laws.specs.ess_bare_laws.Lean.{Ended}
use Rattle.ess_seen_laws.specs.Seen.{counted_axes, Seen}

-- A refined tree of these is one that rules end in, where no name is bound around it: no view, no source and no set is left in it.
abbrev pub SeenTreesEnd : Type 0
SeenTreesEnd = (cells : Text → Option (Bool × List ℕ)) (e : Ex) (m : Bool) → Seen cells [] e m → is_refined e ≡ true → Ended (counted_axes cells) [] e m
