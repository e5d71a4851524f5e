-- A rule that keeps a part under the types of its names keeps the whole, wherever the part stands.
use Rattle.std.proofs.Common.{Bool, false}
use Rattle.ess_semantics.specs.Names.{Names}
use Rattle.ess_semantics.specs.Trees.{Ex, Gens, no_gens, over, from, cond}
use Rattle.ess_semantics.specs.Types.{Ty, type_of_dom, bind_types}
use Rattle.ess_semantics.specs.Typing.{source_ty}
use Rattle.ess_semantics.specs.Meaning.{Env, with_pat, meaning, domain_of, members_in}
use Rattle.ess_semantics.specs.Contexts.{In, Ins, InGens, InDom, InDoms, hole, in_operand, in_item, in_index_domain, in_body, in_generators, in_cell_index, in_view_domain, in_view_index, in_first, in_later, in_generator_domain, behind_over, in_source, behind_from, in_condition, behind_condition, in_bound, in_component, in_field, in_index, in_element, in_set_number, in_set_member, in_mset_number, in_mset_member, in_function_number, in_argument, in_result, in_relation_number, in_relation_component, in_partition_number, in_partition_member, in_first_domain, in_later_domain, fill, guards, AtEach, Where, WhereIn, WhereGens, WhereDom, WhereDoms}
use Rattle.ess_rules_laws.proofs.Bindings.{each-of-map, each-in-map}
use Rattle.ess_rules_laws.proofs.Kept.{kept-itself, kept-chain, guarded-true}
use Rattle.ess_rules_laws.proofs.Steps.{step}
use Rattle.ess_semantics.specs.NamesAt.{names_behind, names_at, names_at_exs, names_at_gens, names_at_dom, names_at_doms}
use Rattle.ess_semantics.specs.StaysAt.{StaysBehind, StaysAt, StaysAtExs, StaysAtGens, StaysAtDom, StaysAtDoms}
use Rattle.ess_semantics.specs.Kept.{Keeps, KeptUnder}
use Rattle.ess_rules_laws.specs.Rewriting.{Rewritten, as_it_was, rewritten_at}

-- What keeps a part wherever the context of the part holds keeps the whole.
pub step-here : (c : In) (old new : Ex) (env : Env) → Where c env (Keeps old new) → Keeps (fill c old) (fill c new) env
step-here c old new env w m = step (Keeps old new) old new (λ here k n. k n) c env w m

module _ (P : Names Ty → Env → Type 0) where
  at-each-under : (gs : Gens) (g : Names Ty) (env : Env) (Q : Env → Type 0) → ((here : Env) → P (names_behind gs g) here → Q here) →
      StaysBehind P gs g → P g env → AtEach gs env Q
  at-each-under no_gens g env Q f s p = f env p
  at-each-under (over x d gs) g env Q f s p =
      each-of-map (members_in (domain_of d env)) _ _ (λ v. at-each-under gs (bind_types x (type_of_dom d) g) (with_pat x v env) Q f s.1)
      (s.0 env p)
  at-each-under (from x e gs) g env Q f s p =
      each-in-map (meaning e env) _ _ (λ v. at-each-under gs (bind_types x (source_ty e g) g) (with_pat x v env) Q f s.1) (s.0 env p)
  at-each-under (cond e gs) g env Q f s p = λ t. at-each-under gs g env Q f s p

  mutual
    -- The property holds wherever the context of the open part does, under the types there.
    pub where-under : (c : In) (g : Names Ty) (env : Env) → StaysAt P c g → P g env → Where c env (P (names_at c g))
    where-under hole g env s p = p
    where-under (in_operand b op c) g env s p = exs-under (guards op) c g env s p
    where-under (in_item c d) g env s p = exs-under false c g env s p
    where-under (in_index_domain es c) g env s p = dom-under c g env s p
    where-under (in_body c gs) g env s p = at-each-under gs g env _ (λ here q. where-under c (names_behind gs g) here s.1 q) s.0 p
    where-under (in_generators x c) g env s p = gens-under c g env s p
    where-under (in_cell_index b n c) g env s p = exs-under false c g env s p
    where-under (in_view_domain r c ns es) g env s p = dom-under c g env s p
    where-under (in_view_index r d ns c) g env s p = exs-under false c g env s p

    pub exs-under : (b : Bool) (c : Ins) (g : Names Ty) (env : Env) → StaysAtExs P c g → P g env → WhereIn b c env (P (names_at_exs c g))
    exs-under b (in_first c es) g env s p = where-under c g env s p
    exs-under b (in_later x c) g env s p = guarded-true b (meaning x env) _ (exs-under false c g env s p)

    pub gens-under : (c : InGens) (g : Names Ty) (env : Env) → StaysAtGens P c g → P g env → WhereGens c env (P (names_at_gens c g))
    gens-under (in_generator_domain y c gs) g env s p = dom-under c g env s p
    gens-under (behind_over y d c) g env s p = each-of-map (members_in (domain_of d env)) _ _
        (λ v. gens-under c (bind_types y (type_of_dom d) g) (with_pat y v env) s.1) (s.0 env p)
    gens-under (in_source y c gs) g env s p = where-under c g env s p
    gens-under (behind_from y x c) g env s p = each-in-map (meaning x env) _ _
        (λ v. gens-under c (bind_types y (source_ty x g) g) (with_pat y v env) s.1) (s.0 env p)
    gens-under (in_condition c gs) g env s p = where-under c g env s p
    gens-under (behind_condition x c) g env s p = λ t. gens-under c g env s p

    pub dom-under : (c : InDom) (g : Names Ty) (env : Env) → StaysAtDom P c g → P g env → WhereDom c env (P (names_at_dom c g))
    dom-under (in_bound rs c) g env s p = exs-under false c g env s p
    dom-under (in_component c) g env s p = doms-under c g env s p
    dom-under (in_field fs c) g env s p = doms-under c g env s p
    dom-under (in_index c d) g env s p = doms-under c g env s p
    dom-under (in_element is c) g env s p = dom-under c g env s p
    dom-under (in_set_number ms c d) g env s p = exs-under false c g env s p
    dom-under (in_set_member ms es c) g env s p = dom-under c g env s p
    dom-under (in_mset_number ms c d) g env s p = exs-under false c g env s p
    dom-under (in_mset_member ms es c) g env s p = dom-under c g env s p
    dom-under (in_function_number ms c d r) g env s p = exs-under false c g env s p
    dom-under (in_argument ms es c r) g env s p = dom-under c g env s p
    dom-under (in_result ms es d c) g env s p = dom-under c g env s p
    dom-under (in_relation_number ms c ds) g env s p = exs-under false c g env s p
    dom-under (in_relation_component ms es c) g env s p = doms-under c g env s p
    dom-under (in_partition_number ms c d) g env s p = exs-under false c g env s p
    dom-under (in_partition_member ms es c) g env s p = dom-under c g env s p

    pub doms-under : (c : InDoms) (g : Names Ty) (env : Env) → StaysAtDoms P c g → P g env → WhereDoms c env (P (names_at_doms c g))
    doms-under (in_first_domain c ds) g env s p = dom-under c g env s p
    doms-under (in_later_domain d c) g env s p = doms-under c g env s p

  -- A rule that keeps a part under the types there keeps the whole.
  pub step-under : (c : In) (g : Names Ty) (old new : Ex) → StaysAt P c g → KeptUnder P (names_at c g) old new →
      KeptUnder P g (fill c old) (fill c new)
  step-under c g old new s k env p m = step (P (names_at c g)) old new k c env (where-under c g env s p) m

  -- Rules one after the other.
  pub chain-under : (g : Names Ty) (a b c : Ex) → KeptUnder P g a b → KeptUnder P g b c → KeptUnder P g a c
  chain-under g = kept-chain (P g)

  -- Nothing is rewritten.
  pub itself-under : (g : Names Ty) (e : Ex) → KeptUnder P g e e
  itself-under g = kept-itself (P g)

-- Rules one after the other, each at some part, keep the whole where each keeps its part.
pub rewritten-kept : (P : Names Ty → Env → Type 0) (R : Names Ty → Ex → Ex → Type 0) →
    ((g : Names Ty) (a b : Ex) → R g a b → KeptUnder P g a b) →
    (g : Names Ty) (old new : Ex) → Rewritten P R g old new → KeptUnder P g old new
rewritten-kept P R k g e d as_it_was = itself-under P g e
rewritten-kept P R k g old e (rewritten_at {a = a} {b = b} c s r t) =
    chain-under P g (fill c a) (fill c b) e (step-under P c g a b s (k (names_at c g) a b r)) (rewritten-kept P R k g (fill c b) e t)
