-- Tables that meet the structures of a tree meet those of the tree with its Booleans guarded, and of the conditions of a term.
use Rattle.std.proofs.Common.{◌≡◌, refl, sym, ap, ◌∙◌, subst, Bool, true, false, ◌&&◌, not, if◌then◌else◌, List, ◌++◌}
use Rattle.ess_semantics.specs.declared.words.Op2.{Op2}
use Rattle.ess_semantics.specs.Values.{Text}
use Rattle.ess_semantics.specs.Names.{Names}
use Rattle.ess_semantics.specs.Trees.{Op, binary, Ex, Exs, number_ex, truth_ex, name_ex, node_ex, matrix_ex, comp_ex, cell_ex, seen_ex, no_exs, more_exs, Gens, no_gens, over, from, cond, Dom, Doms, bool_dom, int_dom, name_dom, tuple_dom, record_dom, matrix_dom, set_dom, mset_dom, function_dom, relation_dom, partition_dom, no_doms, more_doms}
use Rattle.ess_semantics.specs.Operators.{as_truth}
use Rattle.ess_semantics.specs.Meaning.{Env, meaning, meanings, domain_of, members_in, with_pat}
use Rattle.ess_semantics.specs.Contexts.{EachOf, EachIn, guards}
use Rattle.ess_semantics.specs.Meets.{Meets, MeetsAll, MeetsGens, MeetsDom, MeetsDoms}
use Rattle.ess_semantics.proofs.Tests.{and-right, not-true}
use Rattle.ess_rules_laws.proofs.Bindings.{each-of-map, each-in-map, guarded-map}
use Rattle.ess_guard_laws.specs.Origins.{Origin, with_any, with_over, known_behind}
use Rattle.ess_guard_laws.specs.Conditions.{own}
use Rattle.ess_guard_laws.specs.Guard.{is_plain, connects, own_at, opens, passes, guarded, guarded_all, guarded_gens, guarded_dom, guarded_doms, conditions, conditions_all, conditions_gens, conditions_dom, conditions_doms}
use Rattle.ess_guard_laws.proofs.MetRows.{Met, met-append, met-choose, chained-met, over-met, from-met, given-met, matrix-met, own-met}
use Rattle.ess_guard_laws.proofs.Rows.{own-holds}
use Rattle.ess_guard_laws.proofs.LiteralRows.{matrix-holds}
use Rattle.ess_guard_laws.proofs.Meanings as M

-- Only connectives guard.
guards-none : (op : Op) → connects op ≡ false → guards op ≡ false
guards-none (binary Op2.And) c = cc
guards-none (binary Op2.Implies) c = cc
guards-none op c = refl

choose-met : (t : Bool) (a b : Ex) (env : Env) → (t ≡ true → Meets a env) → (t ≡ false → Meets b env) → Meets (if t then a else b) env
choose-met true a b env f g = f refl
choose-met false a b env f g = g refl

module _ (natural : Bool) (x y : Text) where
  abbrev G : Names Origin → Ex → Ex
  G = guarded natural x y

  abbrev Gs : Names Origin → Exs → Exs
  Gs = guarded_all natural x y

  abbrev C : Names Origin → Bool → Ex → List Ex
  C = conditions natural x y

  abbrev Cs : Names Origin → Bool → Exs → List Ex
  Cs = conditions_all natural x y

  -- Guarded, a tree means the same.
  abbrev pub same : (e : Ex) (k : Names Origin) (env : Env) → meaning (G k e) env ≡ meaning e env
  same = M.same natural x y (own-holds x y) (matrix-holds x)

  -- So do operands.
  abbrev pub same-all : (es : Exs) (k : Names Origin) (env : Env) → meanings (Gs k es) env ≡ meanings es env
  same-all = M.same-all natural x y (own-holds x y) (matrix-holds x)

  -- A domain too.
  abbrev pub same-dom : (d : Dom) (k : Names Origin) (env : Env) → domain_of (guarded_dom natural x y k d) env ≡ domain_of d env
  same-dom = M.same-dom natural x y (own-holds x y) (matrix-holds x)

  -- The conditions of a node's operands and its own.
  node-met : (w u : Bool) (op : Op) (es fs : Exs) (k : Names Origin) (env : Env) → (MeetsAll false es env → Met (Cs k w es) env) → (MeetsAll false es env → MeetsAll false fs env) → connects op ≡ false →
      MeetsAll (guards op) es env → Met (Cs k w es ++ own_at natural x y k u op fs) env
  node-met w u op es fs k env f g c m =
      let s : MeetsAll false es env = subst (λ z. MeetsAll z es env) (guards-none op c) m in
      met-append (Cs k w es) (own_at natural x y k u op fs) env (f s) (met-choose (u && is_plain op) (own k x y op fs) env (λ t. own-met k x y op fs env (g s)))

  mutual
    -- A tree with its Booleans guarded.
    pub met : (e : Ex) (k : Names Origin) (env : Env) → Meets e env → Meets (G k e) env
    met (number_ex n) k env m = tt
    met (truth_ex b) k env m = tt
    met (name_ex a) k env m = tt
    met (node_ex b op es) k env m = choose-met (b && not (connects op)) _ _ env
        (λ t. let c : connects op ≡ false = not-true (connects op) (and-right b (not (connects op)) t) in
        chained-met (Cs k (opens natural x y op) es ++ own_at natural x y k false op (Gs k es)) (node_ex true op (Gs k es)) env
        (node-met (opens natural x y op) false op es (Gs k es) k env (asked-all es k (opens natural x y op) env) (met-all es k false env) c m) (met-all es k (guards op) env m))
        (λ t. met-all es k (guards op) env m)
    met (matrix_ex es d) k env m = (met-all es k false env m.0, met-dom d k env m.1)
    met (comp_ex e gs) k env m = met-gens gs k env e (G (known_behind gs k) e) (λ here q. met e (known_behind gs k) here q) m
    met (cell_ex true n es) k env m = chained-met (Cs k false es) (cell_ex true n (Gs k es)) env (asked-all es k false env m) (met-all es k false env m)
    met (cell_ex false n es) k env m = met-all es k false env m
    met (seen_ex r d ns es) k env m = m

    -- The same of operands.
    pub met-all : (es : Exs) (k : Names Origin) (g : Bool) (env : Env) → MeetsAll g es env → MeetsAll g (Gs k es) env
    met-all no_exs k g env m = tt
    met-all (more_exs e es) k g env m = (met e k env m.0, guarded-map g (meaning e env) (meaning (G k e) env) _ _ (same e k env) (met-all es k false env) m.1)

    -- The same of generators.
    pub met-gens : (gs : Gens) (k : Names Origin) (env : Env) (a b : Ex) → ((here : Env) → Meets a here → Meets b here) → MeetsGens gs env (λ here. Meets a here) → MeetsGens (guarded_gens natural x y k gs) env (λ here. Meets b here)
    met-gens no_gens k env a b f m = f env m
    met-gens (over p d gs) k env a b f m = (
      met-dom d k env m.0,
      subst (λ o. EachOf (members_in o) (λ v. MeetsGens (guarded_gens natural x y (with_over p d k) gs) (with_pat p v env) (λ here. Meets b here))) (sym (same-dom d k env))
          (each-of-map (members_in (domain_of d env)) _ _ (λ v. met-gens gs (with_over p d k) (with_pat p v env) a b f) m.1),
    )
    met-gens (from p e gs) k env a b f m = (
      met e k env m.0,
      subst (λ o. EachIn o (λ v. MeetsGens (guarded_gens natural x y (with_any p k) gs) (with_pat p v env) (λ here. Meets b here))) (sym (same e k env))
          (each-in-map (meaning e env) _ _ (λ v. met-gens gs (with_any p k) (with_pat p v env) a b f) m.1),
    )
    met-gens (cond c gs) k env a b f m = (met c k env m.0, λ t. met-gens gs k env a b f (m.1 (ap as_truth (sym (same c k env)) ∙ t)))

    -- The same of a domain.
    pub met-dom : (d : Dom) (k : Names Origin) (env : Env) → MeetsDom d env → MeetsDom (guarded_dom natural x y k d) env
    met-dom bool_dom k env m = tt
    met-dom (int_dom rs es) k env m = met-all es k false env m
    met-dom (name_dom a) k env m = tt
    met-dom (tuple_dom ds) k env m = met-doms ds k env m
    met-dom (record_dom fs ds) k env m = met-doms ds k env m
    met-dom (matrix_dom is d) k env m = (met-doms is k env m.0, met-dom d k env m.1)
    met-dom (set_dom ms es d) k env m = (met-all es k false env m.0, met-dom d k env m.1)
    met-dom (mset_dom ms es d) k env m = (met-all es k false env m.0, met-dom d k env m.1)
    met-dom (function_dom ms es d c) k env m = (met-all es k false env m.0, met-dom d k env m.1, met-dom c k env m.2)
    met-dom (relation_dom ms es ds) k env m = (met-all es k false env m.0, met-doms ds k env m.1)
    met-dom (partition_dom ms es d) k env m = (met-all es k false env m.0, met-dom d k env m.1)

    -- The same of several domains.
    pub met-doms : (ds : Doms) (k : Names Origin) (env : Env) → MeetsDoms ds env → MeetsDoms (guarded_doms natural x y k ds) env
    met-doms no_doms k env m = tt
    met-doms (more_doms d ds) k env m = (met-dom d k env m.0, met-doms ds k env m.1)

    -- The conditions of a term.
    pub asked : (e : Ex) (k : Names Origin) (w : Bool) (env : Env) → Meets e env → Met (C k w e) env
    asked (number_ex n) k w env m = tt
    asked (truth_ex b) k w env m = tt
    asked (name_ex a) k w env m = tt
    asked (node_ex true op es) k w env m = tt
    asked (node_ex false op es) k w env m = met-choose (connects op) _ env
        (λ c. node-met (passes natural x y w op) w op es (Gs k es) k env (asked-all es k (passes natural x y w op) env) (met-all es k false env) c m)
    asked (matrix_ex es d) k w env m = met-append (Cs k false es) _ env (asked-all es k false env m.0)
        (met-append (conditions_dom natural x y k d) _ env (asked-dom d k env m.1) (matrix-met x es (guarded_dom natural x y k d) env (met-dom d k env m.1)))
    asked (comp_ex e gs) k w env m = asked-gens gs k env (C (known_behind gs k) false e) e (λ here q. asked e (known_behind gs k) false here q) m
    asked (cell_ex true n es) k w env m = tt
    asked (cell_ex false n es) k w env m = asked-all es k false env m
    asked (seen_ex r d ns es) k w env m = tt

    -- The same of operands.
    pub asked-all : (es : Exs) (k : Names Origin) (w : Bool) (env : Env) → MeetsAll false es env → Met (Cs k w es) env
    asked-all no_exs k w env m = tt
    asked-all (more_exs e es) k w env m = met-append (C k w e) (Cs k w es) env (asked e k w env m.0) (asked-all es k w env m.1)

    -- The same of generators.
    pub asked-gens : (gs : Gens) (k : Names Origin) (env : Env) (cs : List Ex) (a : Ex) → ((here : Env) → Meets a here → Met cs here) → MeetsGens gs env (λ here. Meets a here) → Met (conditions_gens natural x y k gs cs) env
    asked-gens no_gens k env cs a f m = f env m
    asked-gens (over p d gs) k env cs a f m = met-append (conditions_dom natural x y k d) _ env (asked-dom d k env m.0)
        (over-met p (guarded_dom natural x y k d) (conditions_gens natural x y (with_over p d k) gs cs) env (met-dom d k env m.0)
        (subst (λ o. EachOf (members_in o) (λ v. Met (conditions_gens natural x y (with_over p d k) gs cs) (with_pat p v env))) (sym (same-dom d k env))
        (each-of-map (members_in (domain_of d env)) _ _ (λ v. asked-gens gs (with_over p d k) (with_pat p v env) cs a f) m.1)))
    asked-gens (from p e gs) k env cs a f m = met-append (C k false e) _ env (asked e k false env m.0)
        (from-met p (G k e) (conditions_gens natural x y (with_any p k) gs cs) env (met e k env m.0)
        (subst (λ o. EachIn o (λ v. Met (conditions_gens natural x y (with_any p k) gs cs) (with_pat p v env))) (sym (same e k env))
        (each-in-map (meaning e env) _ _ (λ v. asked-gens gs (with_any p k) (with_pat p v env) cs a f) m.1)))
    asked-gens (cond c gs) k env cs a f m = given-met (G k c) (conditions_gens natural x y k gs cs) env (met c k env m.0) (λ t. asked-gens gs k env cs a f (m.1 (ap as_truth (sym (same c k env)) ∙ t)))

    -- The same of a domain.
    pub asked-dom : (d : Dom) (k : Names Origin) (env : Env) → MeetsDom d env → Met (conditions_dom natural x y k d) env
    asked-dom bool_dom k env m = tt
    asked-dom (int_dom rs es) k env m = asked-all es k false env m
    asked-dom (name_dom a) k env m = tt
    asked-dom (tuple_dom ds) k env m = asked-doms ds k env m
    asked-dom (record_dom fs ds) k env m = asked-doms ds k env m
    asked-dom (matrix_dom is d) k env m = met-append (conditions_doms natural x y k is) (conditions_dom natural x y k d) env (asked-doms is k env m.0) (asked-dom d k env m.1)
    asked-dom (set_dom ms es d) k env m = met-append (Cs k false es) (conditions_dom natural x y k d) env (asked-all es k false env m.0) (asked-dom d k env m.1)
    asked-dom (mset_dom ms es d) k env m = met-append (Cs k false es) (conditions_dom natural x y k d) env (asked-all es k false env m.0) (asked-dom d k env m.1)
    asked-dom (function_dom ms es d c) k env m = met-append (Cs k false es) _ env (asked-all es k false env m.0)
        (met-append (conditions_dom natural x y k d) (conditions_dom natural x y k c) env (asked-dom d k env m.1) (asked-dom c k env m.2))
    asked-dom (relation_dom ms es ds) k env m = met-append (Cs k false es) (conditions_doms natural x y k ds) env (asked-all es k false env m.0) (asked-doms ds k env m.1)
    asked-dom (partition_dom ms es d) k env m = met-append (Cs k false es) (conditions_dom natural x y k d) env (asked-all es k false env m.0) (asked-dom d k env m.1)

    -- The same of several domains.
    pub asked-doms : (ds : Doms) (k : Names Origin) (env : Env) → MeetsDoms ds env → Met (conditions_doms natural x y k ds) env
    asked-doms no_doms k env m = tt
    asked-doms (more_doms d ds) k env m = met-append (conditions_dom natural x y k d) (conditions_doms natural x y k ds) env (asked-dom d k env m.0) (asked-doms ds k env m.1)
