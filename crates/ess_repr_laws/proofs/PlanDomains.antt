-- What a domain expression denotes has its form with positions too. So a representation that fits it has room for the members
-- of the domain at which a plan speaks.
use Rattle.std.proofs.Common.{◌≡◌, refl, true, Option, Some, None, option_map, subst}
use Rattle.ess_semantics.specs.Trees.{Repr, Dom, Doms, bool_dom, int_dom, name_dom, tuple_dom, record_dom, matrix_dom, set_dom, mset_dom, function_dom, relation_dom, partition_dom, no_doms, more_doms}
use Rattle.ess_semantics.specs.Domains.{Domain, Domains, booleans, integers, named, tuples, records, matrices, sets, msets, functions, relations, partitions, no_domains, more_domains}
use Rattle.ess_semantics.specs.Kinds.{fits}
use Rattle.ess_semantics.specs.DomainJudgements.{needs_known_slots}
use Rattle.ess_semantics.specs.Meaning.{Env, domain_of}
use Rattle.ess_semantics.specs.Positions.{domain_with_positions, domains_with_positions}
use Rattle.ess_semantics.specs.Plans.{plan_domain}
use Rattle.ess_repr_laws.specs.Rooms.{Roomy}
use Rattle.ess_repr_laws.specs.WellFormed.{Well, AllWell}
use Rattle.ess_repr_laws.proofs.DomainForms.{Formed, AllFormed, same_form, formed-same}
use Rattle.ess_repr_laws.proofs.Fitting.{fits-roomy}
use Rattle.ess_repr_laws.proofs.DenotedDomains.{domain-formed, enumerable, dom-known}

mutual
  -- With positions the domain has the form of the expression still.
  pub formed-positions : (d : Dom) (e : Domain) → Well d → Formed d e → same_form d e ≡ true → Formed d (domain_with_positions e)
  formed-positions bool_dom booleans w f s = tt
  formed-positions (int_dom rs es) (integers ss) w f s = f
  formed-positions (name_dom a) (named t n) w f s = ((refl, refl), tt)
  formed-positions (name_dom a) (integers ss) w f s = f
  formed-positions (tuple_dom ds) (tuples es) w f s = all-positions ds es w f
  formed-positions (record_dom fs ds) (records gs es) w f s = all-positions ds es w f
  formed-positions (matrix_dom is d) (matrices js e) w f s =
      (f.0, all-positions is js w.1 f.1, formed-positions d e w.2 f.2 (formed-same d e f.2))
  formed-positions (set_dom ms es d) (sets ks e) w f s = (f.0, formed-positions d e w.1 f.1 (formed-same d e f.1))
  formed-positions (mset_dom ms es d) (msets ks e) w f s = (f.0, f.1, formed-positions d e w.1 f.2 (formed-same d e f.2))
  formed-positions (function_dom ms es d c) (functions ks e g) w f s =
      let x = formed-positions d e w.2 f.2 (formed-same d e f.2) in
      (f.0, (λ t. let n = enumerable d (domain_with_positions e) x (formed-same d (domain_with_positions e) x) (w.1 t) in n.enumerated), x, formed-positions c g w.3 f.3 (formed-same c g f.3))
  formed-positions (relation_dom ms es ds) (relations ks gs) w f s = (f.0, all-positions ds gs w.1 f.1)
  formed-positions (partition_dom ms es d) (partitions ks e) w f s = (f.0, formed-positions d e w.1 f.1 (formed-same d e f.1))
  formed-positions d e w f s = cc

  all-positions : (ds : Doms) (es : Domains) → AllWell ds → AllFormed ds es → AllFormed ds (domains_with_positions es)
  all-positions no_doms no_domains w f = tt
  all-positions no_doms (more_domains e es) w f = absurd f
  all-positions (more_doms d ds) no_domains w f = absurd f
  all-positions (more_doms d ds) (more_domains e es) w f = (formed-positions d e w.0 f.0 (formed-same d e f.0), all-positions ds es w.1 f.1)

-- The domain of a plan has the form of the expression.
plan-formed : (d : Dom) (env : Env) (e : Domain) → Well d → plan_domain d env ≡ Some e → Formed d e
plan-formed d env e w q = go (domain_of d env) refl q
  where
    go : (o : Option Domain) → domain_of d env ≡ o → option_map domain_with_positions o ≡ Some e → Formed d e
    go None h q = cc
    go (Some x) h q =
        let f = domain-formed d env x w h in let z : domain_with_positions x ≡ e = cc in
        subst (Formed d) z (formed-positions d x w f (formed-same d x f))

-- A representation that fits a well-formed expression has room for the members of the plan's domain.
pub plan-roomy : (r : Repr) (d : Dom) (env : Env) (e : Domain) → Well d → needs_known_slots d ≡ true → fits r d ≡ true →
    plan_domain d env ≡ Some e → Roomy r e
plan-roomy r d env e w k h q = let f = plan-formed d env e w q in fits-roomy r d e f (dom-known d e f (formed-same d e f) k) h
