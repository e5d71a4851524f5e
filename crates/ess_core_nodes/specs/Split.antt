-- The words of code trees, and what stands in them, as the two rows that a node has.
use Rattle.std.specs.Prelude.{List, map}
use Rattle.ess_semantics.specs.Trees as pure
use Rattle.ess_core.specs.TreeViews.{With, words_of, within}
use Rattle.ess_core.specs.declared.domains.Range.{Range}
use Rattle.ess_core.specs.declared.domains.Attr.{Attr}
use Rattle.ess_core.specs.declared.expressions.Step as code
use Rattle.ess_core.specs.TreeViews.{pure_range, pure_attr, pure_step}

-- The forms of ranges.
abbrev pub forms_of : List Range → List pure.Ends
forms_of rs = words_of (map pure_range rs)

-- Their bounds.
abbrev pub bounds_of : List Range → List pure.Ex
bounds_of rs = within (map pure_range rs)

-- Attributes without their numbers.
abbrev pub marks_of : List Attr → List pure.Mark
marks_of as' = words_of (map pure_attr as')

-- Their numbers.
abbrev pub numbers_of : List Attr → List pure.Ex
numbers_of as' = within (map pure_attr as')
