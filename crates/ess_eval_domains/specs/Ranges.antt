-- The numbers of ranges that have both bounds.
use Rattle.std.specs.Prelude.{Bool, ◌&&◌, List, map, is_some}
use Rattle.std.specs.List.{list_all}
use Rattle.ess_semantics.specs.Lists.{append_all, list_or_none}
use Rattle.ess_semantics.specs.Values.{Value}
use Rattle.ess_semantics.specs.Domains.{Span, span_members}

-- Whether a range has both bounds.
abbrev pub is_bounded : Span → Bool
is_bounded s = is_some s.low && is_some s.high

-- Whether each range has both bounds.
abbrev pub all_bounded : List Span → Bool
all_bounded ss = list_all is_bounded ss

-- The numbers of a range; none where it lacks a bound.
abbrev pub span_numbers : Span → List Value
span_numbers s = list_or_none (span_members s)

-- The numbers of all ranges, range by range.
abbrev pub numbers_of_spans : List Span → List Value
numbers_of_spans ss = append_all (map span_numbers ss)
