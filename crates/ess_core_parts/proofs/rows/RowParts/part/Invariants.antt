use Rattle.std.proofs.Common.{◌≡◌, ◌+◌, length, slice_get, drop}
use Rattle.ess_core_parts.specs.Numbered.{row}
use Rattle.ess_core_parts.proofs.rows.RowParts.part.Given as goal

abbrev pub invariant-loop-tree : goal.invariant-loop-tree
invariant-loop-tree g l =
    (slice_get (row g.T.Parts.parted l.tree-items).parts l.k ≡ slice_get (row g.T.Parts.parted (drop l.tree-index l.tree-items)).parts l.past)
    × (l.k + length (row g.T.Parts.parted (drop l.tree-index l.tree-items)).parts ≡ l.past + length (row g.T.Parts.parted l.tree-items).parts)
