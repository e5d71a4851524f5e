-- The law of rules that fire as long as something abstract is left in a tree over views, stated at a function that does nothing.
use Rattle.std.specs.Prelude.{◌≡◌, ◌⊎◌, ℕ, Bool, true, List, Option}
use Rattle.ess_semantics.specs.Values.{Text}
use Rattle.ess_semantics.specs.Names.{Names}
use Rattle.ess_semantics.specs.Trees.{Ex}
use Rattle.ess_semantics.specs.Refined.{is_refined}
use Rattle.ess_seen_laws.specs.Seen.{Bound, Seen}
use Rattle.ess_seen_progress_laws.specs.MovesOn.{NoneDrawn, MovesWithin}

-- In a tree over views nothing abstract is left, or one of these rules fires at a part of it. Around it no name is bound over members of a
-- set: the fold that binds such a name is rewritten first.
abbrev pub SeenTreesMoveOn : Type 0
SeenTreesMoveOn = (cells : Text → Option (Bool × List ℕ)) (r : Names Bound) (e : Ex) (m : Bool) → NoneDrawn r → Seen cells r e m →
    (is_refined e ≡ true) ⊎ MovesWithin cells r e
