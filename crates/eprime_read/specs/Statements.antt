-- The parts of a model as statements.
use Rattle.std.specs.Prelude.{true, List, [], ◌∷◌, Option, Some, None}
use Rattle.ess_semantics.specs.Values.{Text}
use Rattle.ess_semantics.specs.Trees as pure
use Rattle.ess_semantics.specs.Trees.{Stm, given, find, such_that, minimise, maximise}
use Rattle.ess_core.specs.declared.domains.Dom.{Dom}
use Rattle.ess_core.specs.TreeViews.{pure_dom}
use Rattle.ess_semantics.specs.Lists.{and_then, each_of}
use Rattle.ess_grammar.specs.Models.{Scope}
use Rattle.eprime_read_convert.specs.Converted.{model_ex}

-- The item of a list that has one.
abbrev pub only : {A : Type 0} → List A → Option A
only (x ∷ []) = Some x
only _ = None

-- A name with its domain.
abbrev pub pure_named : Text × Dom → Text × pure.Dom
pure_named p = (p.0, pure_dom p.1)

-- The name and domain of a given.
abbrev pub given_in : Stm → Option (Text × pure.Dom)
given_in (given a d) = Some (a, d)
given_in _ = None

-- The name and domain of a find.
abbrev pub find_in : Stm → Option (Text × pure.Dom)
find_in (find a d) = Some (a, d)
find_in _ = None

-- What is minimised.
abbrev pub least_in : Stm → Option pure.Ex
least_in (minimise e) = Some e
least_in _ = None

-- What is maximised.
abbrev pub greatest_in : Stm → Option pure.Ex
greatest_in (maximise e) = Some e
greatest_in _ = None

-- A constraint.
abbrev pub constraint_in : Stm → Option pure.Ex
constraint_in (such_that e) = Some e
constraint_in _ = None

-- The constraint of a model that a statement is, where it is one.
abbrev pub model_rule : Scope → Stm → Option pure.Ex
model_rule s q = and_then (constraint_in q) (model_ex s true [])

-- The constraints of a model that the statements are, where all are such.
abbrev pub model_rules : Scope → List Stm → Option (List pure.Ex)
model_rules s ss = each_of ss (model_rule s)
