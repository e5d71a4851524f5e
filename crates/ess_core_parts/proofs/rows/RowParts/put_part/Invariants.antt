use Rattle.std.proofs.Common.{◌≡◌, ◌++◌, length, take, drop}
use Rattle.ess_core_parts.specs.Numbered.{row, found}
use Rattle.ess_core_parts.proofs.rows.RowParts.put_part.Given as goal

abbrev pub invariant-loop-i : goal.invariant-loop-i
invariant-loop-i g l =
    (found (row g.T.Parts.parted l.initial.self).parts l.k l.initial.new ≡ found (row g.T.Parts.parted (drop l.i l.self)).parts l.past l.new)
    × ((row g.T.Parts.parted l.initial.self).put l.k l.initial.new ≡ take l.i l.self ++ (row g.T.Parts.parted (drop l.i l.self)).put l.past l.new)
    × (length l.self ≡ length l.initial.self)
