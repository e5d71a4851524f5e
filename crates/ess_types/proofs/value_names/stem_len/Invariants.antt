use Rattle.std.proofs.Common.{◌≡◌, ◌≤◌, drop, length, true}
use Rattle.std.specs.List.{list_all}
use Rattle.ess_semantics.specs.NameTokens.{is_digit}
use Rattle.ess_types.proofs.value_names.stem_len.Given as goal

abbrev pub invariant-loop-behind : goal.invariant-loop-behind
invariant-loop-behind l = record {
  within : l.behind ≤ length l.name;
  digits : list_all is_digit (drop l.behind l.name) ≡ true;
}

abbrev pub decreases-loop-behind : goal.decreases-loop-behind
decreases-loop-behind l = l.behind
