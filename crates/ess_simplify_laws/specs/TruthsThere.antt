-- Trees in which the operands of connectives have truth values wherever they are evaluated. Such a tree means what the simplified one
-- does.
use Rattle.std.specs.Prelude.{◌≡◌, Bool, true, false, is_some}
use Rattle.ess_semantics.specs.Trees.{Ex, Exs, number_ex, truth_ex, name_ex, node_ex, matrix_ex, comp_ex, cell_ex, seen_ex, no_exs, more_exs, Gens, no_gens, over, from, cond, Dom, Doms, bool_dom, int_dom, name_dom, tuple_dom, record_dom, matrix_dom, set_dom, mset_dom, function_dom, relation_dom, partition_dom, no_doms, more_doms}
use Rattle.ess_semantics.specs.Operators.{connective}
use Rattle.ess_semantics.specs.Meaning.{Env, meaning, with_pat, domain_of, members_in}
use Rattle.ess_semantics.specs.Contexts.{guards, Guarded, EachOf, EachIn, WhenTrue}
use Rattle.ess_semantics.specs.Kept.{Keeps}
use Rattle.ess_simplify_laws.specs.Simplifying.{simplified}
use Rattle.ess_simplify_laws.specs.SimplerRoots.{AreTruths}

abbrev mutual
  -- Wherever a connective of the tree is evaluated, its operands have truth values.
  pub HasTruths : Ex → Env → Type 0
  HasTruths (number_ex n) env = Unit {0}
  HasTruths (truth_ex b) env = Unit {0}
  HasTruths (name_ex a) env = Unit {0}
  HasTruths (node_ex b op es) env = (is_some (connective op) ≡ true → AreTruths (guards op) es env) × HaveTruths (guards op) es env
  HasTruths (matrix_ex es d) env = HaveTruths false es env × DomHasTruths d env
  HasTruths (comp_ex e gs) env = GensHaveTruths gs env (λ here. HasTruths e here)
  HasTruths (cell_ex b n es) env = HaveTruths false es env
  HasTruths (seen_ex r d ns es) env = DomHasTruths d env × HaveTruths false es env

  -- The same of operands; `g` says whether the first one guards those behind it.
  pub HaveTruths : Bool → Exs → Env → Type 0
  HaveTruths g no_exs env = Unit {0}
  HaveTruths g (more_exs e es) env = HasTruths e env × Guarded g (meaning e env) (HaveTruths false es env)

  -- The same of generators, and P at each of their bindings whose conditions hold.
  pub GensHaveTruths : Gens → Env → (Env → Type 0) → Type 0
  GensHaveTruths no_gens env P = P env
  GensHaveTruths (over p d gs) env P =
      DomHasTruths d env × EachOf (members_in (domain_of d env)) (λ v. GensHaveTruths gs (with_pat p v env) P)
  GensHaveTruths (from p e gs) env P = HasTruths e env × EachIn (meaning e env) (λ v. GensHaveTruths gs (with_pat p v env) P)
  GensHaveTruths (cond e gs) env P = HasTruths e env × WhenTrue (meaning e env) (GensHaveTruths gs env P)

  -- The same of a domain.
  pub DomHasTruths : Dom → Env → Type 0
  DomHasTruths bool_dom env = Unit {0}
  DomHasTruths (int_dom rs es) env = HaveTruths false es env
  DomHasTruths (name_dom a) env = Unit {0}
  DomHasTruths (tuple_dom ds) env = DomsHaveTruths ds env
  DomHasTruths (record_dom fs ds) env = DomsHaveTruths ds env
  DomHasTruths (matrix_dom is d) env = DomsHaveTruths is env × DomHasTruths d env
  DomHasTruths (set_dom ms es d) env = HaveTruths false es env × DomHasTruths d env
  DomHasTruths (mset_dom ms es d) env = HaveTruths false es env × DomHasTruths d env
  DomHasTruths (function_dom ms es d c) env = HaveTruths false es env × DomHasTruths d env × DomHasTruths c env
  DomHasTruths (relation_dom ms es ds) env = HaveTruths false es env × DomsHaveTruths ds env
  DomHasTruths (partition_dom ms es d) env = HaveTruths false es env × DomHasTruths d env

  -- The same of several domains.
  pub DomsHaveTruths : Doms → Env → Type 0
  DomsHaveTruths no_doms env = Unit {0}
  DomsHaveTruths (more_doms d ds) env = DomHasTruths d env × DomsHaveTruths ds env

-- So the simplified tree keeps the tree.
abbrev pub SimplifyingKeeps : Type 0
SimplifyingKeeps = (e : Ex) (env : Env) → HasTruths e env → Keeps e (simplified e) env
