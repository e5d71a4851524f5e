-- What the literals of the tool stand for: a type and a value each.
use Rattle.std.specs.Prelude.{List, map, ℤ}
use Rattle.ess_semantics.specs.Values.{Text, Value}
use Rattle.ess_semantics.specs.Names.{Names}
use Rattle.ess_semantics.specs.Types.{Ty}
use Rattle.ess_semantics.specs.Trees as pure
use Rattle.ess_semantics.specs.Trees.{int_dom}
use Rattle.ess_core.specs.declared.domains.Range.{Range}
use Rattle.ess_core.specs.TreeViews.{pure_range, words_of, within, exs_of}
use Rattle.ess_core.specs.ValueViews.{pure_val, pure_pair}
use Rattle.ess_values.specs.Shapes.{pure_shape}
use Rattle.ess_values.specs.declared.literals.parts.Literal.{Literal}
use Rattle.ess_values.specs.declared.literals.parts.Parts.{Parts}
use Rattle.ess_values.specs.declared.literals.parts.PairLiteral.{PairLiteral}
use Rattle.ess_values.specs.declared.literals.parts.PairParts.{PairParts}
use Rattle.ess_values.specs.declared.literals.parts.Field.{Field}
use Rattle.ess_values.specs.declared.literals.index.Index.{Index}
use Rattle.ess_values.specs.declared.literals.index.Interval.{Interval}

-- The type and the value of a literal.
abbrev pub pure_literal : Literal → Ty × Value
pure_literal l = (pure_shape l.shape, pure_val l.val)

-- The types and the values of parts.
abbrev pub pure_parts : Parts → List Ty × List Value
pure_parts p = (map pure_shape p.shapes, map pure_val p.vals)

-- The type and the value of a pair.
abbrev pub pure_pair_literal : PairLiteral → Ty × Value
pure_pair_literal l = (pure_shape l.shape, pure_pair l.pair)

-- The types and the values of pairs.
abbrev pub pure_pair_parts : PairParts → List Ty × List Value
pure_pair_parts p = (map pure_shape p.shapes, map pure_pair p.pairs)

-- A field with its name.
abbrev pub pure_field : Field → Text × (Ty × Value)
pure_field f = (f.name, (pure_shape f.shape, pure_val f.val))

-- The fields by name.
abbrev pub pure_fields : List Field → Names (Ty × Value)
pure_fields fs = map pure_field fs

-- The type and the members of an index domain.
abbrev pub pure_index : Index → Ty × List Value
pure_index i = (pure_shape i.shape, map pure_val i.members)

-- The bounds of an interval.
abbrev pub pure_interval : Interval → ℤ × ℤ
pure_interval i = (i.low, i.high)

-- The int domain with these ranges.
abbrev pub pure_int_dom : List Range → pure.Dom
pure_int_dom rs = int_dom (words_of (map pure_range rs)) (exs_of (within (map pure_range rs)))
