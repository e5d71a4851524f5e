use Rattle.std.proofs.Common.{◌≡◌, ◌||◌, drop}
use Rattle.std.specs.List.{list_any}
use Rattle.ess_semantics.specs.Values.{Text}
use Rattle.ess_semantics.specs.Names.{is_among}
use Rattle.ess_semantics.specs.Judgements.{is_value_name}
use Rattle.ess_types.proofs.value_names.add_stems.Given as goal

abbrev pub invariant-loop-name : goal.invariant-loop-name
invariant-loop-name l =
    (u : Text) → list_any (is_value_name u) (drop l.name-index l.names) || is_among l.stems u
    ≡ list_any (is_value_name u) l.names || is_among l.initial.stems u
