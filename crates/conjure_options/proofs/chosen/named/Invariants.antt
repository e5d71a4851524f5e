use Rattle.std.proofs.Common.{◌≡◌, map, drop}
use Rattle.ess_semantics.specs.Names.{look}
use Rattle.ess_parse.specs.NamedReprViews.{pure_named_reprs}
use Rattle.conjure_options.proofs.chosen.named.Given as goal

abbrev pub invariant-loop-option : goal.invariant-loop-option
invariant-loop-option l = look (map pure_named_reprs (drop l.option-index l.options)) l.name ≡ look (map pure_named_reprs l.options) l.name
