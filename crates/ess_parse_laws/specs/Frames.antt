-- The frames of the machine: a frame is a rule of the grammar that is read in part, with what was read of it. The rules
-- are those of `ess_grammar` (Essence, Constraints 13, 2008, its grammar). Lists in frames stand in reverse, the last
-- item first.
use Rattle.std.specs.Prelude.{Bool, List}
use Rattle.ess_semantics.specs.declared.words.Fun.{Fun}
use Rattle.ess_semantics.specs.declared.words.Key.{Key}
use Rattle.ess_semantics.specs.declared.words.Op2.{Op2}
use Rattle.ess_semantics.specs.Trees.{Dom, Doms, Ends, Ex, Exs, Gens, Mark, Op, Stm}
use Rattle.ess_semantics.specs.Values.{Text}
use Rattle.ess_grammar.specs.Patterns.{Shape}
use Rattle.ess_grammar.specs.Words.{Symbol}

-- What a list in brackets becomes: an expression in brackets or a tuple, the expressions of an index, or a node of the
-- operator.
pub data Listing : Type 0 where
  round_list index_list : Listing
  node_list : Op → Listing

-- The kinds of domains with one inner domain.
pub data Inner : Type 0 where
  set_inner mset_inner partition_inner : Inner

-- The kinds of domains that have attributes.
pub data Owner : Type 0 where
  inner_owner : Inner → Owner
  relation_owner function_owner : Owner

-- What items belong to: a quantifier with its fold, a comprehension with its body, or `sum` before a bracket with two or
-- more patterns, whose first item has to be a generator.
pub data Head : Type 0 where
  quantifier_head : Fun → Head
  sum_head : Head
  comprehension_head : Ex → Head

-- A rule that is read in part.
pub data Frame : Type 0 where
  -- an operator before its operand: `-`, `!`, or the bar of a bar's expression
  minus_frame not_frame bar_frame : Frame
  -- a binary operator and its left operand
  binary_frame : Op2 → Ex → Frame
  -- a quantifier's fold and its items, before its body
  body_frame : Fun → Gens → Frame
  -- a list that this symbol closes; whether all its items are patterns; and its items
  list_frame : Listing → Symbol → Bool → Exs → Frame
  -- the pairs of a function literal, before the left part of one, or before the right part of the one that begins with this
  pair_left_frame : Exs → Frame
  pair_right_frame : Exs → Ex → Frame
  -- the names and the values of a record literal's fields, before a name, or before a value
  fields_frame : List Text → Exs → Frame
  field_value_frame : List Text → Exs → Frame
  -- the names that earlier items bind, the items, and the patterns that wait: before an item
  items_frame : Head → List Text → Gens → Exs → Frame
  -- the same with a generator's patterns, before its value, or before its domain
  generator_source_frame : Head → List Text → Gens → Exs → Frame
  generator_domain_frame : Head → List Text → Gens → Exs → Frame
  -- the items of a matrix, before its index domain
  index_domain_frame : Exs → Frame
  -- the ranges of an int domain and their bounds: before a range; behind a lower bound and dots; behind dots alone
  ranges_frame : List Ends → Exs → Frame
  high_bound_frame : List Ends → Exs → Ex → Frame
  lone_high_bound_frame : List Ends → Exs → Frame
  -- the index domains of a matrix: before one, or behind all
  axes_frame : Doms → Frame
  element_frame : Doms → Frame
  -- a tuple's domains; the flag says that two are needed
  tuple_domains_frame : Bool → Doms → Frame
  -- the fields of a record domain, before a name, or before a domain
  field_names_frame field_domain_frame : List Text → Doms → Frame
  -- the attributes of a domain with one inner domain, before it
  inner_domain_frame : Inner → List Mark → Exs → Frame
  -- a relation's attributes and domains
  relation_domains_frame : List Mark → Exs → Doms → Frame
  -- a function's attributes, before its first domain, or before its second behind the first
  function_from_frame : List Mark → Exs → Frame
  function_to_frame : List Mark → Exs → Dom → Frame
  -- attributes and their numbers: before one, or before the number of one
  attributes_frame : Owner → List Mark → Exs → Frame
  attribute_value_frame : Owner → Key → List Mark → Exs → Frame
  -- a part of a statement, behind the statements before it: a letting's value, size or domain, a condition, a constraint
  letting_frame unnamed_frame letting_domain_frame : Text → List Stm → Frame
  where_frame such_that_frame : List Stm → Frame
  -- an objective, to be maximised (true) or minimised
  objective_frame : Bool → List Stm → Frame
  -- given (true) or found names, before their domain
  declaration_frame : Bool → List Text → List Stm → Frame
