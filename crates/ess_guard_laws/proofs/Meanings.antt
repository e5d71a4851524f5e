-- What a tree with guarded Booleans means, and that the conditions of a term hold where it has a value: in every env, whatever
-- is known of names, in natural places or not.
use Rattle.std.proofs.Common.{◌≡◌, refl, sym, ap, ◌∙◌, Bool, true, false, ◌&&◌, not, List, [], ◌∷◌, ◌++◌, Option, Some, option_map, is_some}
use Rattle.ess_semantics.specs.Lists.{and_then, all_some}
use Rattle.ess_semantics.specs.Values.{Text, Value, truth, items_of}
use Rattle.ess_semantics.specs.Names.{Names, look}
use Rattle.ess_semantics.specs.Trees.{Op, Ex, Exs, number_ex, truth_ex, name_ex, node_ex, matrix_ex, comp_ex, cell_ex, seen_ex, no_exs, more_exs, Gens, no_gens, over, from, cond, Dom, Doms, bool_dom, int_dom, name_dom, tuple_dom, record_dom, matrix_dom, set_dom, mset_dom, function_dom, relation_dom, partition_dom, no_doms, more_doms}
use Rattle.ess_semantics.specs.Operators.{as_truth, value_of_node, value_of_op, list_value, false_where_undefined}
use Rattle.ess_semantics.specs.Domains.{members, integers, tuples, records, matrices, sets, msets, functions, relations, partitions, more_domains}
use Rattle.ess_semantics.specs.Meaning.{Env, meaning, meanings, items_under, domain_of, domains_of, members_in, with_pat, collect, where_true, matrix_value, cell_in, indices, spans_of, attributes_of}
use Rattle.ess_semantics.proofs.Tests.{and-left, and-right, not-true}
use Rattle.ess_guard_laws.specs.Origins.{Origin, with_any, with_over, known_behind}
use Rattle.ess_guard_laws.specs.Conditions.{matrix_conditions, own}
use Rattle.ess_guard_laws.specs.Guard.{is_plain, connects, own_at, opens, passes, guarded, guarded_all, guarded_gens, guarded_dom, guarded_doms, conditions, conditions_all, conditions_gens, conditions_dom, conditions_doms}
use Rattle.ess_guard_laws.specs.Holds.{Hold}
use Rattle.ess_guard_laws.proofs.Holding.{true-of, all-split, then-first, the-value, map-some, hold-append, choose-holds, chained-means, over-holds, from-holds, given-holds, collected, node-value}
use Rattle.ess_guard_laws.proofs.Needs.{spans-need, attributes-need, both-some, three-some, true-some, choose-same, cell-needs, matrix-domain, collect-all, collect-in, numbered-same}

-- What is asked of each row: an operator's own conditions hold where it has a value, and a matrix literal's do.
abbrev pub RowsHold : Text → Text → Type 0
RowsHold x y = (k : Names Origin) (op : Op) (es : Exs) (env : Env) → is_some (and_then (all_some (meanings es env)) (value_of_op op)) ≡ true → Hold (own k x y op es) env

abbrev pub MatricesHold : Text → Type 0
MatricesHold x = (es : Exs) (d : Dom) (env : Env) → is_some (and_then (all_some (meanings es env)) (matrix_value (members_in (domain_of d env)))) ≡ true → Hold (matrix_conditions x es d) env

module _ (natural : Bool) (x y : Text) (own-holds : RowsHold x y) (matrix-holds : MatricesHold x) where
  abbrev G : Names Origin → Ex → Ex
  G = guarded natural x y

  abbrev Gs : Names Origin → Exs → Exs
  Gs = guarded_all natural x y

  abbrev C : Names Origin → Bool → Ex → List Ex
  C = conditions natural x y

  abbrev Cs : Names Origin → Bool → Exs → List Ex
  Cs = conditions_all natural x y

  -- An operator that has a value, at operands that mean the same.
  own-at-holds : (k : Names Origin) (w : Bool) (op : Op) (es fs : Exs) (env : Env) → meanings fs env ≡ meanings es env →
      is_some (and_then (all_some (meanings es env)) (value_of_op op)) ≡ true → Hold (own_at natural x y k w op fs) env
  own-at-holds k w op es fs env e h = choose-holds (w && is_plain op) (own k x y op fs) env
      (λ q. own-holds k op fs env (ap (λ os. is_some (and_then (all_some os) (value_of_op op))) e ∙ h))

  -- The conditions of a node's operands and its own hold where it has a value.
  node-holds : (w u : Bool) (op : Op) (es : Exs) (k : Names Origin) (env : Env) → meanings (Gs k es) env ≡ meanings es env → (is_some (all_some (meanings es env)) ≡ true → Hold (Cs k w es) env) →
      connects op ≡ false → is_some (value_of_node op (meanings es env)) ≡ true → Hold (Cs k w es ++ own_at natural x y k u op (Gs k es)) env
  node-holds w u op es k env e f c h =
      let s : is_some (and_then (all_some (meanings es env)) (value_of_op op)) ≡ true = ap is_some (sym (node-value op (meanings es env) c)) ∙ h in
      hold-append (Cs k w es) (own_at natural x y k u op (Gs k es)) env (f (then-first (all_some (meanings es env)) (value_of_op op) s)) (own-at-holds k u op es (Gs k es) env e s)

  mutual
    -- A tree with its Booleans guarded means the same.
    pub same : (e : Ex) (k : Names Origin) (env : Env) → meaning (G k e) env ≡ meaning e env
    same (number_ex n) k env = refl
    same (truth_ex b) k env = refl
    same (name_ex a) k env = refl
    same (node_ex b op es) k env = choose-same (b && not (connects op)) _ _ env (meaning (node_ex b op es) env)
        (λ t. let c : connects op ≡ false = not-true (connects op) (and-right b (not (connects op)) t) in
        let r : b ≡ true = and-left b (not (connects op)) t in
        chained-means (Cs k (opens natural x y op) es ++ own_at natural x y k false op (Gs k es)) (node_ex true op (Gs k es)) env
        (as_truth (value_of_node op (meanings es env))) (ap (λ os. Some (truth (as_truth (value_of_node op os)))) (same-all es k env))
        (λ h. node-holds (opens natural x y op) false op es k env (same-all es k env) (all-hold es k (opens natural x y op) env) c (true-some (value_of_node op (meanings es env)) h))
        ∙ ap (λ z. false_where_undefined z (value_of_node op (meanings es env))) (sym r))
        (λ t. ap (λ os. false_where_undefined b (value_of_node op os)) (same-all es k env))
    same (matrix_ex es d) k env =
        ap (λ os. and_then (all_some os) (matrix_value (members_in (domain_of (guarded_dom natural x y k d) env)))) (same-all es k env)
        ∙ ap (λ o. and_then (all_some (meanings es env)) (matrix_value (members_in o))) (same-dom d k env)
    same (comp_ex e gs) k env = ap (option_map list_value) (same-gens gs k env _ _ (λ here. ap (option_map (λ v. v ∷ [])) (same e (known_behind gs k) here)))
    same (cell_ex true n es) k env = chained-means (Cs k false es) (cell_ex true n (Gs k es)) env
        (as_truth (cell_in true (look env.cells n) (indices (meanings es env)))) (ap (λ os. Some (truth (as_truth (cell_in true (look env.cells n) (indices os))))) (same-all es k env))
        (λ h. all-hold es k false env (cell-needs true (look env.cells n) (meanings es env) (true-some _ h)))
    same (cell_ex false n es) k env = ap (λ os. cell_in false (look env.cells n) (indices os)) (same-all es k env)
    same (seen_ex r d ns es) k env = refl

    -- The same of operands.
    pub same-all : (es : Exs) (k : Names Origin) (env : Env) → meanings (Gs k es) env ≡ meanings es env
    same-all no_exs k env = refl
    same-all (more_exs e es) k env = ap (λ o. o ∷ meanings (Gs k es) env) (same e k env) ∙ ap (λ os. meaning e env ∷ os) (same-all es k env)

    -- The same of generators.
    pub same-gens : (gs : Gens) (k : Names Origin) (env : Env) (i j : Env → Option (List Value)) → ((here : Env) → i here ≡ j here) → items_under (guarded_gens natural x y k gs) env i ≡ items_under gs env j
    same-gens no_gens k env i j h = h env
    same-gens (over p d gs) k env i j h =
        ap (λ o. and_then (members_in o) (λ vs. collect vs (λ v. items_under (guarded_gens natural x y (with_over p d k) gs) (with_pat p v env) i))) (same-dom d k env)
        ∙ collect-all (members_in (domain_of d env)) _ _ (λ v. same-gens gs (with_over p d k) (with_pat p v env) i j h)
    same-gens (from p e gs) k env i j h =
        ap (λ o. and_then o (λ s. collect (items_of s) (λ v. items_under (guarded_gens natural x y (with_any p k) gs) (with_pat p v env) i))) (same e k env)
        ∙ collect-in (meaning e env) _ _ (λ v. same-gens gs (with_any p k) (with_pat p v env) i j h)
    same-gens (cond c gs) k env i j h =
        ap (λ o. where_true o (λ u. items_under (guarded_gens natural x y k gs) env i)) (same c k env)
        ∙ ap (λ l. where_true (meaning c env) (λ u. l)) (same-gens gs k env i j h)

    -- The same of a domain.
    pub same-dom : (d : Dom) (k : Names Origin) (env : Env) → domain_of (guarded_dom natural x y k d) env ≡ domain_of d env
    same-dom bool_dom k env = refl
    same-dom (int_dom rs es) k env = ap (λ os. option_map integers (spans_of rs os)) (same-all es k env)
    same-dom (name_dom a) k env = refl
    same-dom (tuple_dom ds) k env = ap (option_map tuples) (same-doms ds k env)
    same-dom (record_dom fs ds) k env = ap (option_map (records fs)) (same-doms ds k env)
    same-dom (matrix_dom is d) k env = ap (λ o. and_then o (λ js. option_map (matrices js) (domain_of (guarded_dom natural x y k d) env))) (same-doms is k env)
        ∙ ap (λ o. and_then (domains_of is env) (λ js. option_map (matrices js) o)) (same-dom d k env)
    same-dom (set_dom ms es d) k env = numbered-same sets ms _ _ _ _ (same-all es k env) (same-dom d k env)
    same-dom (mset_dom ms es d) k env = numbered-same msets ms _ _ _ _ (same-all es k env) (same-dom d k env)
    same-dom (function_dom ms es d c) k env =
        ap (λ os. and_then (attributes_of ms os) (λ ks. and_then (domain_of (guarded_dom natural x y k d) env) (λ z. option_map (functions ks z) (domain_of (guarded_dom natural x y k c) env)))) (same-all es k env)
        ∙ ap (λ o. and_then (attributes_of ms (meanings es env)) (λ ks. and_then o (λ z. option_map (functions ks z) (domain_of (guarded_dom natural x y k c) env)))) (same-dom d k env)
        ∙ ap (λ o. and_then (attributes_of ms (meanings es env)) (λ ks. and_then (domain_of d env) (λ z. option_map (functions ks z) o))) (same-dom c k env)
    same-dom (relation_dom ms es ds) k env = numbered-same relations ms _ _ _ _ (same-all es k env) (same-doms ds k env)
    same-dom (partition_dom ms es d) k env = numbered-same partitions ms _ _ _ _ (same-all es k env) (same-dom d k env)

    -- The same of several domains.
    pub same-doms : (ds : Doms) (k : Names Origin) (env : Env) → domains_of (guarded_doms natural x y k ds) env ≡ domains_of ds env
    same-doms no_doms k env = refl
    same-doms (more_doms d ds) k env = ap (λ o. and_then o (λ z. option_map (more_domains z) (domains_of (guarded_doms natural x y k ds) env))) (same-dom d k env)
        ∙ ap (λ o. and_then (domain_of d env) (λ z. option_map (more_domains z) o)) (same-doms ds k env)

    -- The conditions of a term hold where it has a value.
    pub hold : (e : Ex) (k : Names Origin) (w : Bool) (env : Env) → is_some (meaning e env) ≡ true → Hold (C k w e) env
    hold (number_ex n) k w env h = tt
    hold (truth_ex b) k w env h = tt
    hold (name_ex a) k w env h = tt
    hold (node_ex true op es) k w env h = tt
    hold (node_ex false op es) k w env h = choose-holds (connects op) _ env (λ c. node-holds (passes natural x y w op) w op es k env (same-all es k env) (all-hold es k (passes natural x y w op) env) c h)
    hold (matrix_ex es d) k w env h =
        let s : is_some (all_some (meanings es env)) ≡ true = then-first (all_some (meanings es env)) (matrix_value (members_in (domain_of d env))) h in
        hold-append (Cs k false es) _ env (all-hold es k false env s)
        (hold-append (conditions_dom natural x y k d) _ env (dom-holds d k env (matrix-domain (all_some (meanings es env)) (domain_of d env) h))
        (matrix-holds es (guarded_dom natural x y k d) env (ap (λ o. is_some (and_then (all_some (meanings es env)) (matrix_value (members_in o)))) (same-dom d k env) ∙ h)))
    hold (comp_ex e gs) k w env h = gens-hold gs k env (C (known_behind gs k) false e) (λ here. option_map (λ v. v ∷ []) (meaning e here))
        (λ here q. hold e (known_behind gs k) false here (sym (map-some (λ v. v ∷ []) (meaning e here)) ∙ q))
        (sym (map-some list_value (items_under gs env (λ here. option_map (λ v. v ∷ []) (meaning e here)))) ∙ h)
    hold (cell_ex true n es) k w env h = tt
    hold (cell_ex false n es) k w env h = all-hold es k false env (cell-needs false (look env.cells n) (meanings es env) h)
    hold (seen_ex r d ns es) k w env h = tt

    -- The same of operands.
    pub all-hold : (es : Exs) (k : Names Origin) (w : Bool) (env : Env) → is_some (all_some (meanings es env)) ≡ true → Hold (Cs k w es) env
    all-hold no_exs k w env h = tt
    all-hold (more_exs e es) k w env h =
        let s = all-split (meaning e env) (all_some (meanings es env)) h in
        hold-append (C k w e) (Cs k w es) env (hold e k w env s.0) (all-hold es k w env s.1)

    -- The same of generators.
    pub gens-hold : (gs : Gens) (k : Names Origin) (env : Env) (cs : List Ex) (j : Env → Option (List Value)) → ((here : Env) → is_some (j here) ≡ true → Hold cs here) →
        is_some (items_under gs env j) ≡ true → Hold (conditions_gens natural x y k gs cs) env
    gens-hold no_gens k env cs j f h = f env h
    gens-hold (over p d gs) k env cs j f h =
        let F : Value → Option (List Value) = λ v. items_under gs (with_pat p v env) j in
        let m = the-value (members_in (domain_of d env)) (then-first (members_in (domain_of d env)) (λ vs. collect vs F) h) in
        hold-append (conditions_dom natural x y k d) _ env (dom-holds d k env (then-first (domain_of d env) members (then-first (members_in (domain_of d env)) (λ vs. collect vs F) h)))
        (over-holds p (guarded_dom natural x y k d) (conditions_gens natural x y (with_over p d k) gs cs) env m.0 (ap members_in (same-dom d k env) ∙ m.1)
        (collected m.0 F _ (λ v q. gens-hold gs (with_over p d k) (with_pat p v env) cs j f q) (ap (λ o. is_some (and_then o (λ vs. collect vs F))) (sym m.1) ∙ h)))
    gens-hold (from p e gs) k env cs j f h =
        let F : Value → Option (List Value) = λ v. items_under gs (with_pat p v env) j in
        let s : is_some (meaning e env) ≡ true = then-first (meaning e env) (λ s. collect (items_of s) F) h in
        let m = the-value (meaning e env) s in
        hold-append (C k false e) _ env (hold e k false env s)
        (from-holds p (G k e) (conditions_gens natural x y (with_any p k) gs cs) env m.0 (same e k env ∙ m.1)
        (collected (items_of m.0) F _ (λ v q. gens-hold gs (with_any p k) (with_pat p v env) cs j f q) (ap (λ o. is_some (and_then o (λ s. collect (items_of s) F))) (sym m.1) ∙ h)))
    gens-hold (cond c gs) k env cs j f h = given-holds (G k c) (conditions_gens natural x y k gs cs) env
        (λ t. gens-hold gs k env cs j f (ap (λ o. is_some (where_true o (λ u. items_under gs env j))) (sym (true-of (meaning c env) (ap as_truth (sym (same c k env)) ∙ t))) ∙ h))

    -- The same of a domain.
    pub dom-holds : (d : Dom) (k : Names Origin) (env : Env) → is_some (domain_of d env) ≡ true → Hold (conditions_dom natural x y k d) env
    dom-holds bool_dom k env h = tt
    dom-holds (int_dom rs es) k env h = all-hold es k false env (spans-need rs (meanings es env) (sym (map-some integers (spans_of rs (meanings es env))) ∙ h))
    dom-holds (name_dom a) k env h = tt
    dom-holds (tuple_dom ds) k env h = doms-hold ds k env (sym (map-some tuples (domains_of ds env)) ∙ h)
    dom-holds (record_dom fs ds) k env h = doms-hold ds k env (sym (map-some (records fs) (domains_of ds env)) ∙ h)
    dom-holds (matrix_dom is d) k env h =
        let s = both-some (domains_of is env) (domain_of d env) matrices h in
        hold-append (conditions_doms natural x y k is) (conditions_dom natural x y k d) env (doms-hold is k env s.0) (dom-holds d k env s.1)
    dom-holds (set_dom ms es d) k env h =
        let s = both-some (attributes_of ms (meanings es env)) (domain_of d env) sets h in
        hold-append (Cs k false es) (conditions_dom natural x y k d) env (all-hold es k false env (attributes-need ms (meanings es env) s.0)) (dom-holds d k env s.1)
    dom-holds (mset_dom ms es d) k env h =
        let s = both-some (attributes_of ms (meanings es env)) (domain_of d env) msets h in
        hold-append (Cs k false es) (conditions_dom natural x y k d) env (all-hold es k false env (attributes-need ms (meanings es env) s.0)) (dom-holds d k env s.1)
    dom-holds (function_dom ms es d c) k env h =
        let s = three-some (attributes_of ms (meanings es env)) (domain_of d env) (domain_of c env) functions h in
        hold-append (Cs k false es) _ env (all-hold es k false env (attributes-need ms (meanings es env) s.0))
        (hold-append (conditions_dom natural x y k d) (conditions_dom natural x y k c) env (dom-holds d k env s.1) (dom-holds c k env s.2))
    dom-holds (relation_dom ms es ds) k env h =
        let s = both-some (attributes_of ms (meanings es env)) (domains_of ds env) relations h in
        hold-append (Cs k false es) (conditions_doms natural x y k ds) env (all-hold es k false env (attributes-need ms (meanings es env) s.0)) (doms-hold ds k env s.1)
    dom-holds (partition_dom ms es d) k env h =
        let s = both-some (attributes_of ms (meanings es env)) (domain_of d env) partitions h in
        hold-append (Cs k false es) (conditions_dom natural x y k d) env (all-hold es k false env (attributes-need ms (meanings es env) s.0)) (dom-holds d k env s.1)

    -- The same of several domains.
    pub doms-hold : (ds : Doms) (k : Names Origin) (env : Env) → is_some (domains_of ds env) ≡ true → Hold (conditions_doms natural x y k ds) env
    doms-hold no_doms k env h = tt
    doms-hold (more_doms d ds) k env h =
        let s = both-some (domain_of d env) (domains_of ds env) more_domains h in
        hold-append (conditions_dom natural x y k d) (conditions_doms natural x y k ds) env (dom-holds d k env s.0) (doms-hold ds k env s.1)
