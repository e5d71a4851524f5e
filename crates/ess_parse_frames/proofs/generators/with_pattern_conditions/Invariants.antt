use Rattle.std.proofs.Common.{◌≡◌, take}
use Rattle.ess_semantics.specs.Trees.{no_exs}
use Rattle.ess_parse_laws.specs.Reversed.{push_conditions}
use Rattle.ess_parse_frames.specs.Rows.{back_gens}
use Rattle.ess_parse_frames.specs.Patterns.{back_pats}
use Rattle.ess_parse_frames.proofs.generators.with_pattern_conditions.Given as goal

abbrev pub invariant-loop-pattern : goal.invariant-loop-pattern
invariant-loop-pattern l = back_gens l.items ≡ push_conditions (back_pats (take l.pattern-index l.fn.patterns) no_exs) (back_gens l.fn.items)
