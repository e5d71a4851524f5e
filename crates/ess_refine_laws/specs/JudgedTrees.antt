-- Typed trees are judged as progress counts on it: where marks are right, and types are told.
use Rattle.std.specs.Prelude.{◌≡◌, Bool, true, false, ◌&&◌, ◌||◌, IsTrue, is_some}
use Rattle.std.specs.List.{list_all}
use Rattle.ess_semantics.specs.Names.{Names}
use Rattle.ess_semantics.specs.Trees.{Ex, Exs, number_ex, truth_ex, name_ex, node_ex, matrix_ex, comp_ex, cell_ex, seen_ex, no_exs, more_exs, Gens, no_gens, over, from, cond, Dom, bool_dom, int_dom, name_dom, tuple_dom, record_dom}
use Rattle.ess_semantics.specs.Types.{Ty, type_of_dom, bind_types}
use Rattle.ess_semantics.specs.Typing.{type_of, types_of, source_ty}
use Rattle.ess_semantics.specs.Kinds.{is_bounded}
use Rattle.ess_semantics.specs.ExpressionJudgements.{pattern_fits}
use Rattle.ess_semantics.specs.NamesAt.{names_behind}
use Rattle.ess_rules_laws.specs.Progress.{is_told, are_told}
use Rattle.ess_refine_laws.specs.RecordNames.{are_in_order}
use Rattle.ess_refine_laws.specs.ScalarItems.{is_scalar}
use Rattle.ess_refine_laws.specs.MarksStay.{HasMarks}
use Rattle.ess_refine_laws.specs.AllRules.{Supply}
use Rattle.ess_refine_laws.specs.Progress.{is_known, is_picked, is_judged, Progress}

-- Whether each operand of the source has a type other than that of an empty literal's members.
abbrev pub has_told_operands : Ex → Names Ty → Bool
has_told_operands (node_ex b op es) g = are_told g es
has_told_operands e g = true

abbrev mutual
  -- What is asked beside marks: that operands, items, sources and conditions have types other than that of an empty literal's members,
  -- that patterns fit, that generators run over atoms, tuples and records of domains, with bounds that are scalars, and that indices of
  -- cells are scalars. Nothing is asked of what is left to a kind or a lookup.
  pub are_types_told : Ex → Names Ty → Bool
  are_types_told (number_ex n) g = true
  are_types_told (truth_ex b) g = true
  are_types_told (name_ex a) g = true
  are_types_told (node_ex b op es) g = is_picked (node_ex b op es) || (list_all is_known (types_of es g) && all_types_told es g)
  are_types_told (matrix_ex es d) g = true
  are_types_told (comp_ex e gs) g =
      is_known (type_of e (names_behind gs g)) && (are_types_told e (names_behind gs g) && gens_types_told gs g)
  are_types_told (cell_ex b n es) g = list_all is_scalar (types_of es g) && all_types_told es g
  are_types_told (seen_ex r d ns es) g = true

  -- The same of operands.
  pub all_types_told : Exs → Names Ty → Bool
  all_types_told no_exs g = true
  all_types_told (more_exs e es) g = are_types_told e g && all_types_told es g

  -- The same of generators.
  pub gens_types_told : Gens → Names Ty → Bool
  gens_types_told no_gens g = true
  gens_types_told (over p d gs) g =
      pattern_fits p (type_of_dom d) && (dom_types_told d g && gens_types_told gs (bind_types p (type_of_dom d) g))
  gens_types_told (from p e gs) g =
      is_told (type_of e g) && (has_told_operands e g && gens_types_told gs (bind_types p (source_ty e g) g))
  gens_types_told (cond c gs) g = is_told (type_of c g) && (are_types_told c g && gens_types_told gs g)

  -- The same of the domain of a generator.
  pub dom_types_told : Dom → Names Ty → Bool
  dom_types_told bool_dom g = true
  dom_types_told (name_dom t) g = true
  dom_types_told (int_dom rs es) g = is_bounded rs && (list_all is_scalar (types_of es g) && all_types_told es g)
  dom_types_told (tuple_dom ds) g = true
  dom_types_told (record_dom fs ds) g = are_in_order fs ds
  dom_types_told d g = false

-- So a typed tree with right marks, whose types are told, is judged; and one of a scalar makes progress.
pub record TypedTreesAreJudged : Type 0 where
  pub are_judged : (e : Ex) (g : Names Ty) → HasMarks e g → IsTrue (is_some (type_of e g)) → are_types_told e g ≡ true →
      is_judged e g ≡ true
  pub make_progress : (s : Supply) (e : Ex) (g : Names Ty) → HasMarks e g → is_scalar (type_of e g) ≡ true → are_types_told e g ≡ true →
      Progress s g e
