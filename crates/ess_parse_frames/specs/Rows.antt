-- Rows of the parser, which stand in the order of the text, as lists of the machine, which stand in reverse.
use Rattle.std.specs.Prelude.{List, [], map}
use Rattle.ess_semantics.specs.Values.{Text}
use Rattle.ess_semantics.specs.Names.{keys}
use Rattle.ess_semantics.specs.Kinds.{doms_of}
use Rattle.ess_semantics.specs.Trees as pure
use Rattle.ess_semantics.specs.Trees.{Ends, Mark, no_exs, no_doms, no_gens}
use Rattle.ess_parse_laws.specs.Reversed.{reverse_exs, reverse_list, reverse_doms, reverse_gens}
use Rattle.ess_core.specs.TreeViews.{pure_exs, pure_doms, pure_gens, pure_pair_ex, pure_field_ex, pure_field_dom, pure_range, pure_attr, exs_of, words_of, within, field_values}
use Rattle.ess_core.specs.StatementViews.{pure_stm}
use Rattle.ess_core.specs.declared.domains.Dom.{Dom}
use Rattle.ess_core.specs.declared.domains.FieldDom.{FieldDom}
use Rattle.ess_core.specs.declared.domains.Range.{Range}
use Rattle.ess_core.specs.declared.domains.Attr.{Attr}
use Rattle.ess_core.specs.declared.expressions.Ex.{Ex}
use Rattle.ess_core.specs.declared.expressions.FieldEx.{FieldEx}
use Rattle.ess_core.specs.declared.expressions.PairEx.{PairEx}
use Rattle.ess_core.specs.declared.expressions.Gen.{Gen}
use Rattle.ess_core.specs.declared.statements.Stm.{Stm}

-- The expressions of a row in reverse, before others.
unfoldable pub back_exs : List Ex → pure.Exs → pure.Exs
back_exs es before = reverse_exs (pure_exs es) before

-- The pairs of a row in reverse.
unfoldable pub back_pairs : List PairEx → pure.Exs
back_pairs ps = reverse_exs (exs_of (map pure_pair_ex ps)) no_exs

-- The names of a row in reverse.
unfoldable pub back_names : List Text → List Text
back_names ns = reverse_list ns []

-- The names of the fields of a record literal in reverse, and their values.
unfoldable pub back_field_names : List FieldEx → List Text
back_field_names fs = reverse_list (keys (map pure_field_ex fs)) []

unfoldable pub back_field_values : List FieldEx → pure.Exs
back_field_values fs = reverse_exs (exs_of (field_values (map pure_field_ex fs))) no_exs

-- Generators and conditions in reverse.
unfoldable pub back_gens : List Gen → pure.Gens
back_gens gs = reverse_gens (pure_gens gs) no_gens

-- The forms of ranges in reverse, and their bounds.
unfoldable pub back_ends : List Range → List Ends
back_ends rs = reverse_list (words_of (map pure_range rs)) []

unfoldable pub back_bounds : List Range → pure.Exs
back_bounds rs = reverse_exs (exs_of (within (map pure_range rs))) no_exs

-- The domains of a row in reverse.
unfoldable pub back_doms : List Dom → pure.Doms
back_doms ds = reverse_doms (pure_doms ds) no_doms

-- The names of the fields of a record domain in reverse, and their domains.
unfoldable pub back_dom_names : List FieldDom → List Text
back_dom_names fs = reverse_list (keys (map pure_field_dom fs)) []

unfoldable pub back_field_doms : List FieldDom → pure.Doms
back_field_doms fs = reverse_doms (doms_of (field_values (map pure_field_dom fs))) no_doms

-- Attributes in order, and their numbers.
unfoldable pub marks_of : List Attr → List Mark
marks_of as' = words_of (map pure_attr as')

unfoldable pub numbers_of : List Attr → pure.Exs
numbers_of as' = exs_of (within (map pure_attr as'))

-- The same in reverse.
unfoldable pub back_marks : List Attr → List Mark
back_marks as' = reverse_list (words_of (map pure_attr as')) []

unfoldable pub back_numbers : List Attr → pure.Exs
back_numbers as' = reverse_exs (exs_of (within (map pure_attr as'))) no_exs

-- Statements in reverse.
unfoldable pub back_stms : List Stm → List pure.Stm
back_stms ss = reverse_list (map pure_stm ss) []
