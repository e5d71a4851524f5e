-- Trees whose forms are known: what the guard needs beside index domains and relations that forms tell. Function literals are of pairs,
-- as in each text, and operands of connectives and conditions ask for nothing, as what has the type bool does.
use Rattle.std.specs.Prelude.{◌≡◌, Bool, true}
use Rattle.ess_semantics.specs.Trees.{Op, function_literal, Ex, Exs, number_ex, truth_ex, name_ex, node_ex, matrix_ex, comp_ex, cell_ex, seen_ex, no_exs, more_exs, Gens, no_gens, over, from, cond, Dom, Doms, bool_dom, int_dom, name_dom, tuple_dom, record_dom, matrix_dom, set_dom, mset_dom, function_dom, relation_dom, partition_dom, no_doms, more_doms}
use Rattle.ess_guard_laws.specs.Guard.{connects}
use Rattle.ess_guard_laws.specs.Covered.{are_pairs, asks_nothing, AskNothing}

-- Whether a function literal is of pairs.
abbrev pub holds_pairs : Op → Exs → Bool
holds_pairs function_literal es = are_pairs es
holds_pairs op es = true

abbrev mutual
  -- The forms of the tree are known.
  pub FormsKnown : Ex → Type 0
  FormsKnown (number_ex n) = Unit {0}
  FormsKnown (truth_ex b) = Unit {0}
  FormsKnown (name_ex a) = Unit {0}
  FormsKnown (node_ex b op es) = (holds_pairs op es ≡ true) × AskNothing (connects op) es × AllFormsKnown es
  FormsKnown (matrix_ex es d) = AllFormsKnown es × DomFormsKnown d
  FormsKnown (comp_ex e gs) = FormsKnown e × GensFormsKnown gs
  FormsKnown (cell_ex b n es) = AllFormsKnown es
  FormsKnown (seen_ex r d ns es) = Unit {0}

  -- The same of operands.
  pub AllFormsKnown : Exs → Type 0
  AllFormsKnown no_exs = Unit {0}
  AllFormsKnown (more_exs e es) = FormsKnown e × AllFormsKnown es

  -- The same of generators.
  pub GensFormsKnown : Gens → Type 0
  GensFormsKnown no_gens = Unit {0}
  GensFormsKnown (over p d gs) = DomFormsKnown d × GensFormsKnown gs
  GensFormsKnown (from p e gs) = FormsKnown e × GensFormsKnown gs
  GensFormsKnown (cond c gs) = (asks_nothing c ≡ true) × FormsKnown c × GensFormsKnown gs

  -- The same of a domain.
  pub DomFormsKnown : Dom → Type 0
  DomFormsKnown bool_dom = Unit {0}
  DomFormsKnown (int_dom rs es) = AllFormsKnown es
  DomFormsKnown (name_dom a) = Unit {0}
  DomFormsKnown (tuple_dom ds) = DomsFormsKnown ds
  DomFormsKnown (record_dom fs ds) = DomsFormsKnown ds
  DomFormsKnown (matrix_dom is d) = DomsFormsKnown is × DomFormsKnown d
  DomFormsKnown (set_dom ms es d) = AllFormsKnown es × DomFormsKnown d
  DomFormsKnown (mset_dom ms es d) = AllFormsKnown es × DomFormsKnown d
  DomFormsKnown (function_dom ms es d c) = AllFormsKnown es × DomFormsKnown d × DomFormsKnown c
  DomFormsKnown (relation_dom ms es ds) = AllFormsKnown es × DomsFormsKnown ds
  DomFormsKnown (partition_dom ms es d) = AllFormsKnown es × DomFormsKnown d

  -- The same of several domains.
  pub DomsFormsKnown : Doms → Type 0
  DomsFormsKnown no_doms = Unit {0}
  DomsFormsKnown (more_doms d ds) = DomFormsKnown d × DomsFormsKnown ds
