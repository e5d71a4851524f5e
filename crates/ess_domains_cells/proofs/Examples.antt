-- Worked examples of numbers kept at the limit, of numbers that ranges hold, and of cells counted on the way down.
use Rattle.std.specs.Prelude.{◌≡◌, refl, ℕ, ◌+◌, [], ◌∷◌, pos, Some}
use Rattle.ess_semantics.specs.declared.words.Key.{Key}
use Rattle.ess_semantics.specs.declared.words.ReprKind.{ReprKind}
use Rattle.ess_semantics.specs.Domains.{Span, sets}
use Rattle.ess_semantics.specs.Choice.{alone, over_child}
use Rattle.ess_semantics.proofs.CellWords.{upto, with}
use Rattle.ess_domains_cells.specs.Kept.{limit, kept, greater}
use Rattle.ess_domains_cells.specs.Uncovered.{uncovered, counted_once}
use Rattle.ess_domains_cells.specs.Counted.{counted}

-- ---- numbers at the limit

small : kept 5 ≡ 5
small = refl

at : kept limit ≡ limit
at = refl

above : kept (limit + 1) ≡ limit
above = refl

larger : greater 3 7 ≡ 7
larger = refl

-- ---- ranges: 1 to 2, 2 to 4 and 9 hold five numbers

abbrev run : ℕ → ℕ → Span
run a b = record { low = Some (pos a); high = Some (pos b) }

apart : uncovered (run 2 4 ∷ []) (pos 1) 2 ≡ 1
apart = refl

once : counted_once (run 1 2 ∷ run 2 4 ∷ run 9 9 ∷ []) ≡ 5
once = refl

-- ---- cells: a truth value for each of five numbers; a marker and two rows of as many behind a set of sets; behind axes of
-- volume 3, the longest of which has 3 members, three times as many

occurrence : counted (alone ReprKind.Occurrence) (sets [] (upto 5)) 1 0 ≡ 5
occurrence = refl

nested : counted (over_child ReprKind.ExplicitVarSizeWithMarker (alone ReprKind.Occurrence)) (sets (with Key.MaxSize 2) (sets [] (upto 5))) 1 0 ≡ 11
nested = refl

behind : counted (alone ReprKind.Occurrence) (sets [] (upto 5)) 3 3 ≡ 15
behind = refl
