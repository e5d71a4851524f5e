-- Properties of an env under the types of its names, and where such a property stays: for the values that a generator
-- really binds, on the way to an open part of a tree. Rules that rewrite a part count on one.
use Rattle.ess_semantics.specs.Names.{Names}
use Rattle.ess_semantics.specs.Trees.{Pat, Ex, Gens, no_gens, over, from, cond, Dom}
use Rattle.ess_semantics.specs.Types.{Ty, type_of_dom, bind_types}
use Rattle.ess_semantics.specs.Typing.{source_ty}
use Rattle.ess_semantics.specs.Meaning.{Env, meaning, with_pat, domain_of, members_in}
use Rattle.ess_semantics.specs.Contexts.{EachOf, EachIn, In, Ins, InGens, InDom, InDoms, hole, in_operand, in_item, in_index_domain, in_body, in_generators, in_cell_index, in_view_domain, in_view_index, in_first, in_later, in_generator_domain, behind_over, in_source, behind_from, in_condition, behind_condition, in_bound, in_component, in_field, in_index, in_element, in_set_number, in_set_member, in_mset_number, in_mset_member, in_function_number, in_argument, in_result, in_relation_number, in_relation_component, in_partition_number, in_partition_member, in_first_domain, in_later_domain}
use Rattle.ess_semantics.specs.NamesAt.{names_behind}

-- P speaks of an env under the types of its names.
module _ (P : Names Ty → Env → Type 0) where
  -- P stays for each member of the domain that a generator over it binds.
  abbrev pub OverStays : Names Ty → Pat → Dom → Type 0
  OverStays g p d =
      (env : Env) → P g env → EachOf (members_in (domain_of d env)) (λ v. P (bind_types p (type_of_dom d) g) (with_pat p v env))

  -- P stays for each item of the source that a generator from it binds.
  abbrev pub FromStays : Names Ty → Pat → Ex → Type 0
  FromStays g p e = (env : Env) → P g env → EachIn (meaning e env) (λ v. P (bind_types p (source_ty e g) g) (with_pat p v env))

  -- P stays behind these generators.
  abbrev pub StaysBehind : Gens → Names Ty → Type 0
  StaysBehind no_gens g = Unit {0}
  StaysBehind (over p d gs) g = OverStays g p d × StaysBehind gs (bind_types p (type_of_dom d) g)
  StaysBehind (from p e gs) g = FromStays g p e × StaysBehind gs (bind_types p (source_ty e g) g)
  StaysBehind (cond e gs) g = StaysBehind gs g

  abbrev mutual
    -- P stays at each generator on the way to the open part.
    pub StaysAt : In → Names Ty → Type 0
    StaysAt hole g = Unit {0}
    StaysAt (in_operand b op c) g = StaysAtExs c g
    StaysAt (in_item c d) g = StaysAtExs c g
    StaysAt (in_index_domain es c) g = StaysAtDom c g
    StaysAt (in_body c gs) g = StaysBehind gs g × StaysAt c (names_behind gs g)
    StaysAt (in_generators x c) g = StaysAtGens c g
    StaysAt (in_cell_index b n c) g = StaysAtExs c g
    StaysAt (in_view_domain r c ns es) g = StaysAtDom c g
    StaysAt (in_view_index r d ns c) g = StaysAtExs c g

    -- The same of several expressions.
    pub StaysAtExs : Ins → Names Ty → Type 0
    StaysAtExs (in_first c es) g = StaysAt c g
    StaysAtExs (in_later x c) g = StaysAtExs c g

    -- The same of generators.
    pub StaysAtGens : InGens → Names Ty → Type 0
    StaysAtGens (in_generator_domain p c gs) g = StaysAtDom c g
    StaysAtGens (behind_over p d c) g = OverStays g p d × StaysAtGens c (bind_types p (type_of_dom d) g)
    StaysAtGens (in_source p c gs) g = StaysAt c g
    StaysAtGens (behind_from p x c) g = FromStays g p x × StaysAtGens c (bind_types p (source_ty x g) g)
    StaysAtGens (in_condition c gs) g = StaysAt c g
    StaysAtGens (behind_condition x c) g = StaysAtGens c g

    -- The same of a domain.
    pub StaysAtDom : InDom → Names Ty → Type 0
    StaysAtDom (in_bound rs c) g = StaysAtExs c g
    StaysAtDom (in_component c) g = StaysAtDoms c g
    StaysAtDom (in_field fs c) g = StaysAtDoms c g
    StaysAtDom (in_index c d) g = StaysAtDoms c g
    StaysAtDom (in_element is c) g = StaysAtDom c g
    StaysAtDom (in_set_number ms c d) g = StaysAtExs c g
    StaysAtDom (in_set_member ms es c) g = StaysAtDom c g
    StaysAtDom (in_mset_number ms c d) g = StaysAtExs c g
    StaysAtDom (in_mset_member ms es c) g = StaysAtDom c g
    StaysAtDom (in_function_number ms c d r) g = StaysAtExs c g
    StaysAtDom (in_argument ms es c r) g = StaysAtDom c g
    StaysAtDom (in_result ms es d c) g = StaysAtDom c g
    StaysAtDom (in_relation_number ms c ds) g = StaysAtExs c g
    StaysAtDom (in_relation_component ms es c) g = StaysAtDoms c g
    StaysAtDom (in_partition_number ms c d) g = StaysAtExs c g
    StaysAtDom (in_partition_member ms es c) g = StaysAtDom c g

    -- The same of several domains.
    pub StaysAtDoms : InDoms → Names Ty → Type 0
    StaysAtDoms (in_first_domain c ds) g = StaysAtDom c g
    StaysAtDoms (in_later_domain d c) g = StaysAtDoms c g
