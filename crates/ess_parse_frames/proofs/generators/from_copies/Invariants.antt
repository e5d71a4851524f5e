use Rattle.std.proofs.Common.{◌≡◌, take}
use Rattle.ess_parse_laws.specs.Reversed.{push_all_from}
use Rattle.ess_core.specs.TreeViews.{pure_ex}
use Rattle.ess_parse_frames.specs.Rows.{back_gens}
use Rattle.ess_parse_frames.specs.Patterns.{pats_in_order}
use Rattle.ess_parse_frames.proofs.generators.from_copies.Given as goal

abbrev pub invariant-loop-pattern : goal.invariant-loop-pattern
invariant-loop-pattern l = back_gens l.items ≡ push_all_from (pats_in_order (take l.pattern-index l.fn.patterns)) (pure_ex l.fn.value) (back_gens l.fn.items)
