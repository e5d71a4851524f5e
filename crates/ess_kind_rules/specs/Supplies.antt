-- What rules take, as the code holds it.
use Rattle.std.specs.Prelude.{List}
use Rattle.ess_semantics.specs.Lists.{or_default}
use Rattle.ess_semantics.specs.Values.{Text}
use Rattle.ess_semantics.specs.Trees.{Ex, Dom, bool_dom}
use Rattle.ess_guard_laws.specs.IndexDomains.{index_dom}
use Rattle.ess_refine_laws.specs.AllRules.{Supply}
use Rattle.conjure_model_laws.specs.ToldApart.{told_apart}
use Rattle.ess_rules_listings.specs.Offered.{supply_of}
use Rattle.ess_kind_rules.specs.declared.supplies.Taken.{Taken}

-- The index domain that the form of a matrix tells, or bool where it tells none.
abbrev pub told_axis : Ex → Dom
told_axis e = or_default (index_dom e) bool_dom

-- The names that are taken, index domains as the form of a matrix tells them, and a copy with the names behind.
abbrev pub taken_supply : Taken → Supply
taken_supply t = supply_of t.one.now t.other.now t.third.now t.parts.now told_axis (told_apart t.next)
