-- Whatever tables there are, they are full for a domain whose numbers read none.
use Rattle.std.proofs.Common.{◌++◌}
use Rattle.ess_semantics.specs.Names.{Names}
use Rattle.ess_semantics.specs.Types.{Ty, bind_types, type_of_dom}
use Rattle.ess_semantics.specs.Typing.{source_ty}
use Rattle.ess_semantics.specs.Trees.{Ex, Exs, number_ex, truth_ex, name_ex, node_ex, matrix_ex, comp_ex, cell_ex, seen_ex, no_exs, more_exs, Gens, no_gens, over, from, cond, Dom, Doms, bool_dom, int_dom, name_dom, tuple_dom, record_dom, matrix_dom, set_dom, mset_dom, function_dom, relation_dom, partition_dom, no_doms, more_doms}
use Rattle.ess_semantics.specs.Meaning.{Env, domain_of, members_in}
use Rattle.ess_semantics.specs.Full.{Full, FullUnder}
use Rattle.ess_semantics.specs.Occurrences.{parts_of, parts_of_all, parts_of_gens, parts_of_dom, parts_of_doms, has_cells}
use Rattle.ess_guard_laws.proofs.MetRows.{each-of-always}
use Rattle.ess_repr_structure_laws.proofs.BuiltStructures as B
use Rattle.ess_repr_structure_laws.proofs.JudgedNumbers.{Plain, left-plain, right-plain}
use Rattle.ess_repr_structure_laws.proofs.MetParts.{Any}
use Rattle.ess_repr_structure_laws.proofs.FullParts.{Anywhere, operands-anywhere, dom-anywhere, reached}

-- Domains and items of generators read no table, nor do conditions.
abbrev GensFree : Gens → Type 0
GensFree no_gens = Unit {0}
GensFree (over p d gs) = B.DomHas Anywhere d × GensFree gs
GensFree (from p e gs) = Anywhere e × GensFree gs
GensFree (cond e gs) = Anywhere e × GensFree gs

under-free : (gs : Gens) (e : Ex) → Anywhere e → GensFree gs → (g : Names Ty) (env : Env) → FullUnder gs g env (λ h here. Full e h here)
under-free no_gens e a h g env = a.at g env
under-free (over p d gs) e a h g env = (
  dom-anywhere d h.0 g env,
  each-of-always (members_in (domain_of d env)) _ (λ v. under-free gs e a h.1 (bind_types p (type_of_dom d) g) _),
)
under-free (from p x gs) e a h g env = (
  (let f : Anywhere x = h.0 in f.at g env),
  λ v t. under-free gs e a h.1 (bind_types p (source_ty x g) g) _,
)
under-free (cond x gs) e a h g env = (
  (let f : Anywhere x = h.0 in f.at g env),
  reached (has_cells x) x env _ (under-free gs e a h.1 g env),
)

mutual
  -- An expression without cells and views.
  pub free-anywhere : (e : Ex) → Plain (parts_of e) → Anywhere e
  free-anywhere (number_ex n) h = record { at = λ g env. tt }
  free-anywhere (truth_ex b) h = record { at = λ g env. tt }
  free-anywhere (name_ex a) h = record { at = λ g env. tt }
  free-anywhere (node_ex b op es) h = let a = all-free es h in record { at = λ g env. operands-anywhere es a g env }
  free-anywhere (matrix_ex es d) h =
      let a = all-free es (left-plain (parts_of_all es) (parts_of_dom d) h) in
      let b = dom-free d (right-plain (parts_of_all es) (parts_of_dom d) h) in record {
        at = λ g env. (operands-anywhere es a g env, dom-anywhere d (B.good-has Anywhere Any d b) g env);
      }
  free-anywhere (comp_ex e gs) h =
      let a = free-anywhere e (left-plain (parts_of e) (parts_of_gens gs) h) in
      let b = gens-free gs (right-plain (parts_of e) (parts_of_gens gs) h) in record { at = λ g env. under-free gs e a b g env }
  free-anywhere (cell_ex b n es) h = cc
  free-anywhere (seen_ex r d ns es) h = cc

  all-free : (es : Exs) → Plain (parts_of_all es) → B.AllHave Anywhere es
  all-free no_exs h = tt
  all-free (more_exs e es) h = (
    free-anywhere e (left-plain (parts_of e) (parts_of_all es) h),
    all-free es (right-plain (parts_of e) (parts_of_all es) h),
  )

  gens-free : (gs : Gens) → Plain (parts_of_gens gs) → GensFree gs
  gens-free no_gens h = tt
  gens-free (over p d gs) h = (
    B.good-has Anywhere Any d (dom-free d (left-plain (parts_of_dom d) (parts_of_gens gs) h)),
    gens-free gs (right-plain (parts_of_dom d) (parts_of_gens gs) h),
  )
  gens-free (from p e gs) h = (
    free-anywhere e (left-plain (parts_of e) (parts_of_gens gs) h),
    gens-free gs (right-plain (parts_of e) (parts_of_gens gs) h),
  )
  gens-free (cond e gs) h = (
    free-anywhere e (left-plain (parts_of e) (parts_of_gens gs) h),
    gens-free gs (right-plain (parts_of e) (parts_of_gens gs) h),
  )

  -- A domain without cells and views.
  pub dom-free : (d : Dom) → Plain (parts_of_dom d) → B.Good Anywhere Any d
  dom-free bool_dom h = tt
  dom-free (int_dom rs es) h = (tt, all-free es h)
  dom-free (name_dom a) h = tt
  dom-free (tuple_dom ds) h = doms-free ds h
  dom-free (record_dom fs ds) h = doms-free ds h
  dom-free (matrix_dom is d) h = (
    doms-free is (left-plain (parts_of_doms is) (parts_of_dom d) h),
    dom-free d (right-plain (parts_of_doms is) (parts_of_dom d) h),
  )
  dom-free (set_dom ms es d) h = (
    all-free es (left-plain (parts_of_all es) (parts_of_dom d) h),
    dom-free d (right-plain (parts_of_all es) (parts_of_dom d) h),
  )
  dom-free (mset_dom ms es d) h = (
    tt,
    all-free es (left-plain (parts_of_all es) (parts_of_dom d) h),
    dom-free d (right-plain (parts_of_all es) (parts_of_dom d) h),
  )
  dom-free (function_dom ms es d c) h =
      let k = left-plain (parts_of_all es ++ parts_of_dom d) (parts_of_dom c) h in (
        all-free es (left-plain (parts_of_all es) (parts_of_dom d) k),
        dom-free d (right-plain (parts_of_all es) (parts_of_dom d) k),
        dom-free c (right-plain (parts_of_all es ++ parts_of_dom d) (parts_of_dom c) h),
      )
  dom-free (relation_dom ms es ds) h = (
    all-free es (left-plain (parts_of_all es) (parts_of_doms ds) h),
    doms-free ds (right-plain (parts_of_all es) (parts_of_doms ds) h),
  )
  dom-free (partition_dom ms es d) h = (
    all-free es (left-plain (parts_of_all es) (parts_of_dom d) h),
    dom-free d (right-plain (parts_of_all es) (parts_of_dom d) h),
  )

  doms-free : (ds : Doms) → Plain (parts_of_doms ds) → B.AllGood Anywhere Any ds
  doms-free no_doms h = tt
  doms-free (more_doms d ds) h = (
    dom-free d (left-plain (parts_of_dom d) (parts_of_doms ds) h),
    doms-free ds (right-plain (parts_of_dom d) (parts_of_doms ds) h),
  )
