-- Worked examples of one layer up and down, and of cells at an index prefix.
use Rattle.std.specs.Prelude.{◌≡◌, refl, true, false, [], ◌∷◌, pos, Some, None, negsuc}
use Rattle.ess_semantics.specs.declared.words.Key.{Key}
use Rattle.ess_semantics.specs.declared.words.ReprKind.{ReprKind}
use Rattle.ess_semantics.specs.Values.{Value}
use Rattle.ess_semantics.specs.Collections.{set_of}
use Rattle.ess_semantics.specs.Trees.{Repr}
use Rattle.ess_semantics.specs.Domains.{Domain, sets}
use Rattle.ess_semantics.specs.Tables.{Tables, one_cell}
use Rattle.ess_semantics.specs.Choice.{alone, over_child}
use Rattle.ess_semantics.specs.Representations.{value_of_tables}
use Rattle.ess_semantics.specs.Tidy.{tidy}
use Rattle.ess_semantics.specs.OneLayer.{layer_tables, inner_tables, layer_value}
use Rattle.ess_semantics.proofs.CellWords.{upto, with, set, table, table2}

-- ---- one layer of a set of sets: the inner tables in another order than that of the values

abbrev two_sets : Domain
two_sets = sets (with Key.MaxSize 2) (sets [] (upto 2))

abbrev marked : Repr
marked = over_child ReprKind.ExplicitVarSizeWithMarker (alone ReprKind.Occurrence)

abbrev both : Value
both = set_of (set (1 ∷ []) ∷ set (2 ∷ []) ∷ [])

abbrev first : Tables
first = table (1 ∷ 2 ∷ []) (1 ∷ 0 ∷ []) ∷ []

abbrev second : Tables
second = table (1 ∷ 2 ∷ []) (0 ∷ 1 ∷ []) ∷ []

abbrev whole : Tables
whole = one_cell (pos 2) ∷ table2 (1 ∷ 2 ∷ []) (1 ∷ 2 ∷ []) (0 ∷ 1 ∷ 1 ∷ 0 ∷ []) ∷ []

down : layer_tables marked two_sets both (first ∷ second ∷ []) ≡ Some whole
down = refl

slots : inner_tables ReprKind.ExplicitVarSizeWithMarker two_sets whole ≡ Some (second ∷ first ∷ [])
slots = refl

up : layer_value ReprKind.ExplicitVarSizeWithMarker two_sets whole (set (2 ∷ []) ∷ set (1 ∷ []) ∷ []) ≡ Some both
up = refl

no_slots : inner_tables ReprKind.Occurrence (sets [] (upto 2)) first ≡ Some []
no_slots = refl

marker_above : inner_tables ReprKind.ExplicitVarSizeWithMarker two_sets (one_cell (pos 3) ∷ table2 (1 ∷ 2 ∷ []) (1 ∷ 2 ∷ []) (0 ∷ 1 ∷ 1 ∷ 0 ∷ []) ∷ []) ≡ None
marker_above = refl

marker_below_0 : layer_value ReprKind.ExplicitVarSizeWithMarker two_sets (one_cell (negsuc 0) ∷ []) [] ≡ None
marker_below_0 = refl

-- ---- behind an index

abbrev inner : Tables
inner = table2 (1 ∷ 2 ∷ []) (1 ∷ 2 ∷ []) (0 ∷ 1 ∷ 1 ∷ 0 ∷ []) ∷ []

at_two : value_of_tables (alone ReprKind.Occurrence) (sets [] (upto 2)) inner (pos 2 ∷ []) ≡ Some (set (1 ∷ []))
at_two = refl

at_three : value_of_tables (alone ReprKind.Occurrence) (sets [] (upto 2)) inner (pos 3 ∷ []) ≡ None
at_three = refl

tidy_at_two : tidy (alone ReprKind.Occurrence) (sets [] (upto 2)) inner (pos 2 ∷ []) ≡ true
tidy_at_two = refl

-- a table over more than the declared axes isn't tidy, though it stands for a member
over_more : tidy (alone ReprKind.Occurrence) (sets [] (upto 1)) inner (pos 2 ∷ []) ≡ false
over_more = refl

over_more_stands : value_of_tables (alone ReprKind.Occurrence) (sets [] (upto 1)) inner (pos 2 ∷ []) ≡ Some (set (1 ∷ []))
over_more_stands = refl
