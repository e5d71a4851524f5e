-- Worked examples of channels: a set of numbers as the members that occur, and in slots.
use Rattle.std.proofs.Common.{◌≡◌, refl, true, false, [], ◌∷◌, pos, Some}
use Rattle.std.specs.Prelude.{codes}
use Rattle.ess_semantics.specs.declared.words.ReprKind.{ReprKind}
use Rattle.ess_semantics.specs.declared.words.Key.{Key}
use Rattle.ess_semantics.specs.Values.{truth}
use Rattle.ess_semantics.specs.Trees.{both_ends, valued, Repr, repr, no_reprs, more_reprs, number_ex, no_exs, more_exs, Dom, int_dom, set_dom}
use Rattle.ess_semantics.specs.Tables.{Table, row_of}
use Rattle.ess_semantics.specs.Meaning.{Env, meaning}
use Rattle.ess_repr_laws.specs.Channel.{channel}

-- Sets of one number from 1 to 2.
abbrev singletons : Dom
singletons = set_dom (valued Key.Size ∷ []) (more_exs (number_ex (pos 1)) no_exs) (int_dom (both_ends ∷ []) (more_exs (number_ex (pos 1))
    (more_exs (number_ex (pos 2)) no_exs)))

abbrev occurring : Repr
occurring = repr ReprKind.Occurrence no_reprs

abbrev in_slots : Repr
in_slots = repr ReprKind.Explicit (more_reprs (repr ReprKind.Atom no_reprs) no_reprs)

-- The table a says which members occur, the table b what stands in the one slot.
abbrev under : Table → Table → Env
under a b = record { positions = true; types = []; vals = []; cells = (codes "a", a) ∷ (codes "b", b) ∷ [] }

-- Both stand for {2}.
pub of-one : meaning (channel singletons occurring ((codes "a") ∷ []) in_slots ((codes "b") ∷ []))
    (under (row_of (pos 1 ∷ pos 2 ∷ []) (pos 0 ∷ pos 1 ∷ [])) (row_of (pos 1 ∷ []) (pos 2 ∷ [])))
    ≡ Some (truth true)
of-one = refl

-- One stands for {1}, the other one for {2}.
pub of-two : meaning (channel singletons occurring ((codes "a") ∷ []) in_slots ((codes "b") ∷ []))
    (under (row_of (pos 1 ∷ pos 2 ∷ []) (pos 1 ∷ pos 0 ∷ [])) (row_of (pos 1 ∷ []) (pos 2 ∷ [])))
    ≡ Some (truth false)
of-two = refl

-- A table without a cell in the slot stands for nothing.
pub of-none : meaning (channel singletons occurring ((codes "a") ∷ []) in_slots ((codes "b") ∷ []))
    (under (row_of (pos 1 ∷ pos 2 ∷ []) (pos 0 ∷ pos 1 ∷ [])) (row_of [] []))
    ≡ Some (truth false)
of-none = refl
