-- Literals stand where types allow them: none is a Boolean, and those that stand directly in a fold or beside a lexicographic sign,
-- where their items aren't counted, are lists, sets and multisets. Each well-typed tree is so.
use Rattle.std.specs.Prelude.{◌≡◌, Bool, true, false, not}
use Rattle.ess_semantics.specs.Trees.{Op, tuple_literal, set_literal, mset_literal, function_literal, relation_literal, partition_literal, matrix_literal, record_literal, Ex, Exs, number_ex, truth_ex, name_ex, node_ex, matrix_ex, comp_ex, cell_ex, seen_ex, no_exs, more_exs, Gens, no_gens, over, from, cond, Dom, Doms, bool_dom, int_dom, name_dom, tuple_dom, record_dom, matrix_dom, set_dom, mset_dom, function_dom, relation_dom, partition_dom, no_doms, more_doms}
use Rattle.ess_semantics.specs.Constants.{drops_items}

-- Whether the operator is that of a literal.
abbrev pub is_literal : Op → Bool
is_literal tuple_literal = true
is_literal set_literal = true
is_literal mset_literal = true
is_literal function_literal = true
is_literal relation_literal = true
is_literal partition_literal = true
is_literal matrix_literal = true
is_literal (record_literal fs) = true
is_literal op = false

-- Whether the operator may stand there: `inside` a fold, or marked as a Boolean.
abbrev pub may_stand : Bool → Bool → Op → Bool
may_stand inside true op = not (is_literal op)
may_stand true false function_literal = false
may_stand true false relation_literal = false
may_stand true false partition_literal = false
may_stand inside false op = true

abbrev mutual
  -- Each literal of the tree may stand where it does.
  pub LiteralsFit : Bool → Ex → Type 0
  LiteralsFit inside (number_ex n) = Unit {0}
  LiteralsFit inside (truth_ex b) = Unit {0}
  LiteralsFit inside (name_ex a) = Unit {0}
  LiteralsFit inside (node_ex b op es) = (may_stand inside b op ≡ true) × AllLiteralsFit (drops_items op) es
  LiteralsFit inside (matrix_ex es d) = AllLiteralsFit false es × DomLiteralsFit d
  LiteralsFit inside (comp_ex e gs) = LiteralsFit false e × GensLiteralsFit gs
  LiteralsFit inside (cell_ex b n es) = AllLiteralsFit false es
  LiteralsFit inside (seen_ex r d ns es) = Unit {0}

  -- The same of operands.
  pub AllLiteralsFit : Bool → Exs → Type 0
  AllLiteralsFit inside no_exs = Unit {0}
  AllLiteralsFit inside (more_exs e es) = LiteralsFit inside e × AllLiteralsFit inside es

  -- The same of generators.
  pub GensLiteralsFit : Gens → Type 0
  GensLiteralsFit no_gens = Unit {0}
  GensLiteralsFit (over p d gs) = DomLiteralsFit d × GensLiteralsFit gs
  GensLiteralsFit (from p e gs) = LiteralsFit false e × GensLiteralsFit gs
  GensLiteralsFit (cond c gs) = LiteralsFit false c × GensLiteralsFit gs

  -- The same of a domain.
  pub DomLiteralsFit : Dom → Type 0
  DomLiteralsFit bool_dom = Unit {0}
  DomLiteralsFit (int_dom rs es) = AllLiteralsFit false es
  DomLiteralsFit (name_dom a) = Unit {0}
  DomLiteralsFit (tuple_dom ds) = DomsLiteralsFit ds
  DomLiteralsFit (record_dom fs ds) = DomsLiteralsFit ds
  DomLiteralsFit (matrix_dom is d) = DomsLiteralsFit is × DomLiteralsFit d
  DomLiteralsFit (set_dom ms es d) = AllLiteralsFit false es × DomLiteralsFit d
  DomLiteralsFit (mset_dom ms es d) = AllLiteralsFit false es × DomLiteralsFit d
  DomLiteralsFit (function_dom ms es d c) = AllLiteralsFit false es × DomLiteralsFit d × DomLiteralsFit c
  DomLiteralsFit (relation_dom ms es ds) = AllLiteralsFit false es × DomsLiteralsFit ds
  DomLiteralsFit (partition_dom ms es d) = AllLiteralsFit false es × DomLiteralsFit d

  -- The same of several domains.
  pub DomsLiteralsFit : Doms → Type 0
  DomsLiteralsFit no_doms = Unit {0}
  DomsLiteralsFit (more_doms d ds) = DomLiteralsFit d × DomsLiteralsFit ds
