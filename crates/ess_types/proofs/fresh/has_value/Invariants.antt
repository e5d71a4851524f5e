use Rattle.std.proofs.Common.{◌≡◌, drop}
use Rattle.std.specs.List.{list_any}
use Rattle.ess_semantics.specs.Lists.{is_some_and}
use Rattle.ess_semantics.specs.Names.{is_among}
use Rattle.ess_types.specs.ValueNames.{stem_of}
use Rattle.ess_types.proofs.fresh.has_value.Given as goal

abbrev pub invariant-loop-name : goal.invariant-loop-name
invariant-loop-name l =
    list_any (λ a. is_some_and (stem_of a) (is_among l.unnamed)) (drop l.name-index l.names)
    ≡ list_any (λ a. is_some_and (stem_of a) (is_among l.unnamed)) l.names
