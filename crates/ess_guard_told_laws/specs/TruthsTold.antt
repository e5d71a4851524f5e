-- Trees whose operands of connectives and conditions are told to be truth values, and whose function literals are of pairs: what judgements
-- don't give of the forms that the guard needs. Types say of such operands that they are truth values or of the type of an empty literal's
-- members, as `image(function(), 1)` is; the latter is no Boolean to the conditions, which ask of it as of a term.
use Rattle.std.specs.Prelude.{◌≡◌, Bool, true}
use Rattle.ess_semantics.specs.Names.{Names}
use Rattle.ess_semantics.specs.Trees.{Ex, Exs, number_ex, truth_ex, name_ex, node_ex, matrix_ex, comp_ex, cell_ex, seen_ex, no_exs, more_exs, Gens, no_gens, over, from, cond, Dom, Doms, bool_dom, int_dom, name_dom, tuple_dom, record_dom, matrix_dom, set_dom, mset_dom, function_dom, relation_dom, partition_dom, no_doms, more_doms}
use Rattle.ess_semantics.specs.Types.{Ty, is_bool, type_of_dom, bind_types}
use Rattle.ess_semantics.specs.Typing.{type_of, source_ty}
use Rattle.ess_semantics.specs.NamesAt.{names_behind}
use Rattle.ess_guard_laws.specs.Guard.{connects}
use Rattle.ess_guard_tests_laws.specs.FormsKnown.{holds_pairs}

-- Whether an operand of a connective or a condition has the type bool. Of a name, which has a value, nothing is asked.
abbrev pub is_told_truth : Ex → Names Ty → Bool
is_told_truth (name_ex a) g = true
is_told_truth e g = is_bool (type_of e g)

-- Operands of connectives do.
abbrev pub AreToldTruths : Bool → Exs → Names Ty → Type 0
AreToldTruths true (more_exs e es) g = (is_told_truth e g ≡ true) × AreToldTruths true es g
AreToldTruths b es g = Unit {0}

abbrev mutual
  -- A function literal in it is of pairs, and operands of connectives and conditions have the type bool or are names.
  pub TruthsAreTold : Ex → Names Ty → Type 0
  TruthsAreTold (number_ex n) g = Unit {0}
  TruthsAreTold (truth_ex b) g = Unit {0}
  TruthsAreTold (name_ex a) g = Unit {0}
  TruthsAreTold (node_ex b op es) g = (holds_pairs op es ≡ true) × AreToldTruths (connects op) es g × AllTruthsAreTold es g
  TruthsAreTold (matrix_ex es d) g = AllTruthsAreTold es g × DomTruthsAreTold d g
  TruthsAreTold (comp_ex e gs) g = TruthsAreTold e (names_behind gs g) × GensTruthsAreTold gs g
  TruthsAreTold (cell_ex b n es) g = AllTruthsAreTold es g
  TruthsAreTold (seen_ex r d ns es) g = Unit {0}

  -- The same of operands.
  pub AllTruthsAreTold : Exs → Names Ty → Type 0
  AllTruthsAreTold no_exs g = Unit {0}
  AllTruthsAreTold (more_exs e es) g = TruthsAreTold e g × AllTruthsAreTold es g

  -- The same of generators.
  pub GensTruthsAreTold : Gens → Names Ty → Type 0
  GensTruthsAreTold no_gens g = Unit {0}
  GensTruthsAreTold (over p d gs) g = DomTruthsAreTold d g × GensTruthsAreTold gs (bind_types p (type_of_dom d) g)
  GensTruthsAreTold (from p e gs) g = TruthsAreTold e g × GensTruthsAreTold gs (bind_types p (source_ty e g) g)
  GensTruthsAreTold (cond c gs) g = (is_told_truth c g ≡ true) × TruthsAreTold c g × GensTruthsAreTold gs g

  -- The same of a domain.
  pub DomTruthsAreTold : Dom → Names Ty → Type 0
  DomTruthsAreTold bool_dom g = Unit {0}
  DomTruthsAreTold (int_dom rs es) g = AllTruthsAreTold es g
  DomTruthsAreTold (name_dom a) g = Unit {0}
  DomTruthsAreTold (tuple_dom ds) g = DomsTruthsAreTold ds g
  DomTruthsAreTold (record_dom fs ds) g = DomsTruthsAreTold ds g
  DomTruthsAreTold (matrix_dom is d) g = DomsTruthsAreTold is g × DomTruthsAreTold d g
  DomTruthsAreTold (set_dom ms es d) g = AllTruthsAreTold es g × DomTruthsAreTold d g
  DomTruthsAreTold (mset_dom ms es d) g = AllTruthsAreTold es g × DomTruthsAreTold d g
  DomTruthsAreTold (function_dom ms es d c) g = AllTruthsAreTold es g × DomTruthsAreTold d g × DomTruthsAreTold c g
  DomTruthsAreTold (relation_dom ms es ds) g = AllTruthsAreTold es g × DomsTruthsAreTold ds g
  DomTruthsAreTold (partition_dom ms es d) g = AllTruthsAreTold es g × DomTruthsAreTold d g

  -- The same of several domains.
  pub DomsTruthsAreTold : Doms → Names Ty → Type 0
  DomsTruthsAreTold no_doms g = Unit {0}
  DomsTruthsAreTold (more_doms d ds) g = DomTruthsAreTold d g × DomsTruthsAreTold ds g
