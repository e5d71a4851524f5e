-- What is present is supplied, where marks are right and applications have the type bool.
use Rattle.std.proofs.Common.{◌≡◌, refl, ◌∙◌, Bool, true, false, Option, Some, None}
use Rattle.ess_semantics.specs.Names.{Names}
use Rattle.ess_semantics.specs.Trees.{Op, application, function_literal, Ex, Exs, number_ex, truth_ex, name_ex, node_ex, matrix_ex, comp_ex, cell_ex, seen_ex, no_exs, more_exs, Gens, no_gens, over, from, cond, Dom, Doms, bool_dom, int_dom, name_dom, tuple_dom, record_dom, matrix_dom, set_dom, mset_dom, function_dom, relation_dom, partition_dom, no_doms, more_doms}
use Rattle.ess_semantics.specs.Types.{Ty, is_bool, type_of_dom, bind_types}
use Rattle.ess_semantics.specs.Typing.{type_of, source_ty}
use Rattle.ess_semantics.specs.NamesAt.{names_behind}
use Rattle.ess_semantics.specs.Meaning.{Env, meaning, domain_of, members_in, with_pat}
use Rattle.ess_rules_laws.proofs.Bindings.{each-of-map, each-in-map}
use Rattle.ess_guard_laws.specs.Guard.{connects}
use Rattle.ess_guard_laws.specs.Supplied.{is_known, Unless, Supplied, SuppliedAll, SuppliedUnder, SuppliedDom, SuppliedDoms}
use Rattle.ess_refine_laws.specs.MarksStay.{MarkFits, HasMarks, HaveMarks, GensHaveMarks, DomHasMarks, DomsHaveMarks}
use Rattle.ess_guard_supplied_laws.specs.Present.{Present, AllPresent, PresentUnder, DomPresent, DomsPresent}
use Rattle.ess_guard_supplied_laws.specs.Applications.{is_told, ApplicationsAreTold, AllApplicationsAreTold, GensApplicationsAreTold, DomApplicationsAreTold, DomsApplicationsAreTold}

-- An unmarked application has no type bool.
no-application : (o : Option Ty) → MarkFits false application o → is_bool o ≡ true → ⊥
no-application None m t = m
no-application (Some u) m t = no (m ∙ t)
  where
    no : false ≡ true → ⊥
    no e = cc

-- An unmarked operator is known.
known : (op : Op) (es : Exs) (o : Option Ty) → MarkFits false op o → is_told op es o ≡ true → is_known op es ≡ true
known application es o m t = absurd (no-application o m t)
known function_literal es o m t = t
known op es o m t = refl

-- What is asked of an unmarked operator that is no connective.
unless-both : (c : Bool) (P Q R : Type 0) → R → (P → Q) → Unless c P → Unless c (R × Q)
unless-both true P Q R r f p = tt
unless-both false P Q R r f p = (r, f p)

unless-second : (c : Bool) (P Q R : Type 0) → (P → Q) → Unless c (R × P) → Unless c (R × Q)
unless-second true P Q R f p = tt
unless-second false P Q R f p = (p.0, f p.1)

mutual
  pub supplied : (e : Ex) (g : Names Ty) (env : Env) → HasMarks e g → ApplicationsAreTold e g → Present e env → Supplied e env
  supplied (number_ex n) g env m t p = tt
  supplied (truth_ex b) g env m t p = tt
  supplied (name_ex a) g env m t p = p
  supplied (node_ex true op es) g env m t p = tt
  supplied (node_ex false op es) g env m t p =
      unless-both (connects op) (AllPresent es env) (SuppliedAll es env) (is_known op es ≡ true)
      (known op es (type_of (node_ex false op es) g) m.0 t.0) (λ q. all-supplied es g env m.1 t.1 q) p
  supplied (matrix_ex es d) g env m t p = all-supplied es g env m.0 t.0 p
  supplied (comp_ex e gs) g env m t p =
      under-supplied gs g env e (λ here q. supplied e (names_behind gs g) here m.1 t.0 q) m.0 t.1 p
  supplied (cell_ex b n es) g env m t p =
      unless-second b (AllPresent es env) (SuppliedAll es env) _ (λ q. all-supplied es g env m t q) p
  supplied (seen_ex r d ns es) g env m t p = p

  all-supplied : (es : Exs) (g : Names Ty) (env : Env) → HaveMarks es g → AllApplicationsAreTold es g → AllPresent es env →
      SuppliedAll es env
  all-supplied no_exs g env m t p = tt
  all-supplied (more_exs e es) g env m t p = (supplied e g env m.0 t.0 p.0, all-supplied es g env m.1 t.1 p.1)

  under-supplied : (gs : Gens) (g : Names Ty) (env : Env) (e : Ex) → ((here : Env) → Present e here → Supplied e here) →
      GensHaveMarks gs g → GensApplicationsAreTold gs g → PresentUnder gs env (λ here. Present e here) →
      SuppliedUnder gs env (λ here. Supplied e here)
  under-supplied no_gens g env e f m t p = f env p
  under-supplied (over q d gs) g env e f m t p = (
    dom-supplied d g env m.0 t.0 p.0,
    p.1,
    each-of-map (members_in (domain_of d env)) _ _
        (λ v. under-supplied gs (bind_types q (type_of_dom d) g) (with_pat q v env) e f m.1 t.1) p.2,
  )
  under-supplied (from q s gs) g env e f m t p = (
    supplied s g env m.1 t.0 p.0,
    each-in-map (meaning s env) _ _ (λ v. under-supplied gs (bind_types q (source_ty s g) g) (with_pat q v env) e f m.2 t.1) p.1,
  )
  under-supplied (cond c gs) g env e f m t p = λ h. under-supplied gs g env e f m.1 t.1 (p h)

  dom-supplied : (d : Dom) (g : Names Ty) (env : Env) → DomHasMarks d g → DomApplicationsAreTold d g → DomPresent d env → SuppliedDom d env
  dom-supplied bool_dom g env m t p = tt
  dom-supplied (int_dom rs es) g env m t p = all-supplied es g env m t p
  dom-supplied (name_dom a) g env m t p = tt
  dom-supplied (tuple_dom ds) g env m t p = doms-supplied ds g env m t p
  dom-supplied (record_dom fs ds) g env m t p = doms-supplied ds g env m t p
  dom-supplied (matrix_dom is d) g env m t p = (doms-supplied is g env m.0 t.0 p.0, dom-supplied d g env m.1 t.1 p.1)
  dom-supplied (set_dom ms es d) g env m t p = (all-supplied es g env m.0 t.0 p.0, dom-supplied d g env m.1 t.1 p.1)
  dom-supplied (mset_dom ms es d) g env m t p = (all-supplied es g env m.0 t.0 p.0, dom-supplied d g env m.1 t.1 p.1)
  dom-supplied (function_dom ms es d c) g env m t p =
      (all-supplied es g env m.0 t.0 p.0, dom-supplied d g env m.1 t.1 p.1, dom-supplied c g env m.2 t.2 p.2)
  dom-supplied (relation_dom ms es ds) g env m t p = (all-supplied es g env m.0 t.0 p.0, doms-supplied ds g env m.1 t.1 p.1)
  dom-supplied (partition_dom ms es d) g env m t p = (all-supplied es g env m.0 t.0 p.0, dom-supplied d g env m.1 t.1 p.1)

  doms-supplied : (ds : Doms) (g : Names Ty) (env : Env) → DomsHaveMarks ds g → DomsApplicationsAreTold ds g → DomsPresent ds env →
      SuppliedDoms ds env
  doms-supplied no_doms g env m t p = tt
  doms-supplied (more_doms d ds) g env m t p = (dom-supplied d g env m.0 t.0 p.0, doms-supplied ds g env m.1 t.1 p.1)
