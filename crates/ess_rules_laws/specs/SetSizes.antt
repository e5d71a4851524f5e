-- The sizes of views of sets in slots: the marker, or the number of slots where all are in use.
use Rattle.std.specs.Prelude.{false, ◌∷◌, Option, Some, None}
use Rattle.ess_semantics.specs.declared.words.Op1.{Op1}
use Rattle.ess_semantics.specs.declared.words.ReprKind.{ReprKind}
use Rattle.ess_semantics.specs.Trees.{repr, no_reprs, more_reprs, Ex, cell_ex, seen_ex, ex1, set_dom}
use Rattle.ess_semantics.specs.Meaning.{Env}
use Rattle.ess_rules_laws.specs.SlotListings.{SlotsAre}

-- `|v|` of a set with a marker is the marker.
abbrev pub size_by_marker : Ex → Option Ex
size_by_marker (ex1 false Op1.Bar (seen_ex (repr ReprKind.ExplicitVarSizeWithMarker (more_reprs r no_reprs)) (set_dom ms es d)
    (m ∷ ns) js)) =
    Some (cell_ex false m js)
size_by_marker e = None

-- `|v|` of a set in n slots all in use is n.
abbrev pub size_by_slots : Ex → Ex → Option Ex
size_by_slots n (ex1 false Op1.Bar (seen_ex (repr ReprKind.Explicit (more_reprs r no_reprs)) (set_dom ms es d) ns js)) = Some n
size_by_slots n e = None

-- The expression says how many slots the set has whose size is taken.
abbrev pub SizeOf : Ex → Ex → Env → Type 0
SizeOf n (ex1 b o v) env = SlotsAre n v env
SizeOf n e env = Unit {0}
