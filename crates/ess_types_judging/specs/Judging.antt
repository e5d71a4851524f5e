-- What is judged of rows of trees, and of generators one after another.
use Rattle.ess_semantics.specs.Scopes as scopes
use Rattle.ess_core.specs.TreeViews.{Item, over_item, from_item, cond_item}
use Rattle.ess_types_judging_laws.specs.Judged.{judged, judged_dom}
use Rattle.ess_types_judging_laws.specs.Combined as combined
use Rattle.ess_types_judging_laws.specs.Combined.{over_gathered, from_gathered, cond_gathered}
use Rattle.ess_types_judging_laws.specs.Accumulated.{Numbers}
use Rattle.ess_types_judging.specs.declared.gathered.Gathered.{Gathered}
use Rattle.ess_types_judging.specs.declared.gathered.Numbers as code
use Rattle.ess_types_judging.specs.Findings.{pure_found}

-- What is gathered of generators, with the scope behind them.
abbrev pub pure_gathered : Gathered → scopes.Scope → combined.Gathered
pure_gathered g s = record { typed = g.typed; ordered = g.ordered; found = pure_found g.found; scope = s }

-- Behind one generator or condition more.
abbrev pub gathered_one : Item → combined.Gathered → combined.Gathered
gathered_one (over_item p d) a = over_gathered p d (judged_dom d a.scope) a
gathered_one (from_item p e) a = from_gathered p (judged e a.scope) a
gathered_one (cond_item e) a = cond_gathered (judged e a.scope) a

-- What is found of numbers.
abbrev pub pure_numbers : code.Numbers → Numbers
pure_numbers n = record { ints = n.ints; found = pure_found n.found }
