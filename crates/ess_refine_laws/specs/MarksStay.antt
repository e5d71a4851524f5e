-- Rewriting that keeps marks: each node has a type, and says that it is Boolean where its type is.
use Rattle.std.specs.Prelude.{◌≡◌, Bool, ◌||◌, Option, Some, None, IsTrue, is_some}
use Rattle.ess_semantics.specs.Lists.{and_then}
use Rattle.ess_semantics.specs.Names.{Names}
use Rattle.ess_semantics.specs.Trees.{Op, is_truth_op, Ex, Exs, number_ex, truth_ex, name_ex, node_ex, matrix_ex, comp_ex, cell_ex, seen_ex, no_exs, more_exs, Gens, no_gens, over, from, cond, Dom, Doms, bool_dom, int_dom, name_dom, tuple_dom, record_dom, matrix_dom, set_dom, mset_dom, function_dom, relation_dom, partition_dom, no_doms, more_doms}
use Rattle.ess_semantics.specs.Types.{Ty, is_bool, type_of_dom, bind_types}
use Rattle.ess_semantics.specs.OperatorTypes.{member_ty}
use Rattle.ess_semantics.specs.Typing.{static, other, type_of, source_ty}
use Rattle.ess_semantics.specs.Typed.{Typed}
use Rattle.ess_semantics.specs.Contexts.{In, fill}
use Rattle.ess_semantics.specs.NamesAt.{names_behind, names_at}
use Rattle.ess_semantics.specs.Kept.{Kept}
use Rattle.ess_rules_laws.specs.Rewriting.{Rewritten}
use Rattle.ess_refine_laws.specs.TypesStay.{KeepsType}

-- The mark of a node of this type is right.
abbrev pub MarkFits : Bool → Op → Option Ty → Type 0
MarkFits b op None = ⊥
MarkFits b op (Some t) = b ≡ (is_truth_op op || is_bool (Some t))

abbrev mutual
  -- Each node of the tree has a type and the right mark, and each source has members.
  pub HasMarks : Ex → Names Ty → Type 0
  HasMarks (number_ex n) g = Unit {0}
  HasMarks (truth_ex b) g = Unit {0}
  HasMarks (name_ex a) g = Unit {0}
  HasMarks (node_ex b op es) g = MarkFits b op (type_of (node_ex b op es) g) × HaveMarks es g
  HasMarks (matrix_ex es d) g = HaveMarks es g × DomHasMarks d g
  HasMarks (comp_ex e gs) g = GensHaveMarks gs g × HasMarks e (names_behind gs g)
  HasMarks (cell_ex b n es) g = HaveMarks es g
  HasMarks (seen_ex r d ns es) g = DomHasMarks d g × HaveMarks es g

  -- The same of operands.
  pub HaveMarks : Exs → Names Ty → Type 0
  HaveMarks no_exs g = Unit {0}
  HaveMarks (more_exs e es) g = HasMarks e g × HaveMarks es g

  -- The same of generators.
  pub GensHaveMarks : Gens → Names Ty → Type 0
  GensHaveMarks no_gens g = Unit {0}
  GensHaveMarks (over p d gs) g = DomHasMarks d g × GensHaveMarks gs (bind_types p (type_of_dom d) g)
  GensHaveMarks (from p e gs) g =
      IsTrue (is_some (and_then (type_of e g) member_ty)) × HasMarks e g × GensHaveMarks gs (bind_types p (source_ty e g) g)
  GensHaveMarks (cond e gs) g = HasMarks e g × GensHaveMarks gs g

  -- The same of a domain.
  pub DomHasMarks : Dom → Names Ty → Type 0
  DomHasMarks bool_dom g = Unit {0}
  DomHasMarks (int_dom rs es) g = HaveMarks es g
  DomHasMarks (name_dom a) g = Unit {0}
  DomHasMarks (tuple_dom ds) g = DomsHaveMarks ds g
  DomHasMarks (record_dom fs ds) g = DomsHaveMarks ds g
  DomHasMarks (matrix_dom is d) g = DomsHaveMarks is g × DomHasMarks d g
  DomHasMarks (set_dom ms es d) g = HaveMarks es g × DomHasMarks d g
  DomHasMarks (mset_dom ms es d) g = HaveMarks es g × DomHasMarks d g
  DomHasMarks (function_dom ms es d c) g = HaveMarks es g × DomHasMarks d g × DomHasMarks c g
  DomHasMarks (relation_dom ms es ds) g = HaveMarks es g × DomsHaveMarks ds g
  DomHasMarks (partition_dom ms es d) g = HaveMarks es g × DomHasMarks d g

  -- The same of several domains.
  pub DomsHaveMarks : Doms → Names Ty → Type 0
  DomsHaveMarks no_doms g = Unit {0}
  DomsHaveMarks (more_doms d ds) g = DomHasMarks d g × DomsHaveMarks ds g

-- The second tree keeps the first one, its type and its marks; the first is no numeral and no name.
pub record KeptMarked (g : Names Ty) (a b : Ex) : Type 0 where
  pub kept : Kept g a b
  pub type_stays : KeepsType g a b
  pub says_nothing : static a ≡ other
  pub marks_stay : HasMarks a g → HasMarks b g

-- A part that keeps its type and marks keeps the marks of the whole, and so do any number of such rules, each at some part.
pub record WholesKeepMarks : Type 0 where
  pub at_a_part : (c : In) (g : Names Ty) (a b : Ex) → static a ≡ other → KeepsType (names_at c g) a b →
      (HasMarks a (names_at c g) → HasMarks b (names_at c g)) → HasMarks (fill c a) g → HasMarks (fill c b) g
  pub by_any_rules : (g : Names Ty) (old new : Ex) → Rewritten Typed KeptMarked g old new → HasMarks old g →
      Kept g old new × KeepsType g old new × HasMarks new g
