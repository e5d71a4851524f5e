use Rattle.std.proofs.Common.{◌≡◌, ◌++◌, take}
use Rattle.ess_grammar.specs.Patterns.{all_bound_by}
use Rattle.ess_parse_frames.specs.Patterns.{pats_in_order}
use Rattle.ess_parse_frames.proofs.generators.+names.Given as goal

abbrev pub invariant-with_all_names-loop-pattern : goal.invariant-with_all_names-loop-pattern
invariant-with_all_names-loop-pattern l = l.names ≡ l.fn.names ++ all_bound_by (pats_in_order (take l.pattern-index l.pattern-items))
