-- Trees whose forms are told: what judgements don't give of a covered tree. Types say of operands of connectives and of conditions that
-- they are truth values or of the type of an empty literal's members, as `image(function(), 1)` is; the latter is no Boolean to the
-- conditions, which ask of it as of a term. And they don't say which index domain a matrix has, or that a relation is one by its form.
use Rattle.std.specs.Prelude.{◌≡◌, Bool, true}
use Rattle.ess_semantics.specs.Names.{Names}
use Rattle.ess_semantics.specs.Trees.{Ex, Exs, number_ex, truth_ex, name_ex, node_ex, matrix_ex, comp_ex, cell_ex, seen_ex, no_exs, more_exs, Gens, no_gens, over, from, cond, Dom, Doms, bool_dom, int_dom, name_dom, tuple_dom, record_dom, matrix_dom, set_dom, mset_dom, function_dom, relation_dom, partition_dom, no_doms, more_doms}
use Rattle.ess_semantics.specs.Types.{Ty, is_bool, type_of_dom, bind_types}
use Rattle.ess_semantics.specs.Typing.{type_of, source_ty}
use Rattle.ess_semantics.specs.NamesAt.{names_behind}
use Rattle.ess_guard_laws.specs.Guard.{connects}
use Rattle.ess_guard_laws.specs.Covered.{covers}

-- Whether an operand of a connective or a condition has the type bool. Of a name, which has a value, nothing is asked.
abbrev pub is_told_truth : Ex → Names Ty → Bool
is_told_truth (name_ex a) g = true
is_told_truth e g = is_bool (type_of e g)

-- Operands of connectives do.
abbrev pub AreToldTruths : Bool → Exs → Names Ty → Type 0
AreToldTruths true (more_exs e es) g = (is_told_truth e g ≡ true) × AreToldTruths true es g
AreToldTruths b es g = Unit {0}

abbrev mutual
  -- The forms of each part are told: an index has domains that its form tells, what is applied is a relation by its form, a function
  -- literal is of pairs; and operands of connectives and conditions have the type bool.
  pub FormsAreTold : Ex → Names Ty → Type 0
  FormsAreTold (number_ex n) g = Unit {0}
  FormsAreTold (truth_ex b) g = Unit {0}
  FormsAreTold (name_ex a) g = Unit {0}
  FormsAreTold (node_ex b op es) g = (covers op es ≡ true) × AreToldTruths (connects op) es g × AllFormsAreTold es g
  FormsAreTold (matrix_ex es d) g = AllFormsAreTold es g × DomFormsAreTold d g
  FormsAreTold (comp_ex e gs) g = FormsAreTold e (names_behind gs g) × GensFormsAreTold gs g
  FormsAreTold (cell_ex b n es) g = AllFormsAreTold es g
  FormsAreTold (seen_ex r d ns es) g = Unit {0}

  -- The same of operands.
  pub AllFormsAreTold : Exs → Names Ty → Type 0
  AllFormsAreTold no_exs g = Unit {0}
  AllFormsAreTold (more_exs e es) g = FormsAreTold e g × AllFormsAreTold es g

  -- The same of generators.
  pub GensFormsAreTold : Gens → Names Ty → Type 0
  GensFormsAreTold no_gens g = Unit {0}
  GensFormsAreTold (over p d gs) g = DomFormsAreTold d g × GensFormsAreTold gs (bind_types p (type_of_dom d) g)
  GensFormsAreTold (from p e gs) g = FormsAreTold e g × GensFormsAreTold gs (bind_types p (source_ty e g) g)
  GensFormsAreTold (cond c gs) g = (is_told_truth c g ≡ true) × FormsAreTold c g × GensFormsAreTold gs g

  -- The same of a domain.
  pub DomFormsAreTold : Dom → Names Ty → Type 0
  DomFormsAreTold bool_dom g = Unit {0}
  DomFormsAreTold (int_dom rs es) g = AllFormsAreTold es g
  DomFormsAreTold (name_dom a) g = Unit {0}
  DomFormsAreTold (tuple_dom ds) g = DomsFormsAreTold ds g
  DomFormsAreTold (record_dom fs ds) g = DomsFormsAreTold ds g
  DomFormsAreTold (matrix_dom is d) g = DomsFormsAreTold is g × DomFormsAreTold d g
  DomFormsAreTold (set_dom ms es d) g = AllFormsAreTold es g × DomFormsAreTold d g
  DomFormsAreTold (mset_dom ms es d) g = AllFormsAreTold es g × DomFormsAreTold d g
  DomFormsAreTold (function_dom ms es d c) g = AllFormsAreTold es g × DomFormsAreTold d g × DomFormsAreTold c g
  DomFormsAreTold (relation_dom ms es ds) g = AllFormsAreTold es g × DomsFormsAreTold ds g
  DomFormsAreTold (partition_dom ms es d) g = AllFormsAreTold es g × DomFormsAreTold d g

  -- The same of several domains.
  pub DomsFormsAreTold : Doms → Names Ty → Type 0
  DomsFormsAreTold no_doms g = Unit {0}
  DomsFormsAreTold (more_doms d ds) g = DomFormsAreTold d g × DomsFormsAreTold ds g
