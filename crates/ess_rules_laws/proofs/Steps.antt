-- One step of rewriting anywhere in a tree: a rule that keeps a part keeps the whole, its meaning as well as that tables
-- meet its structures. A rule may count on a property of the env wherever the context of the part holds.
use Rattle.std.proofs.Common.{◌≡◌, refl, sym, ap, ◌∙◌, subst, Bool, true, false, List, [], ◌∷◌, Option, option_map}
use Rattle.ess_semantics.specs.Lists.{and_then, all_some}
use Rattle.ess_semantics.specs.Values.{Value, items_of}
use Rattle.ess_semantics.specs.Names.{look}
use Rattle.ess_semantics.specs.Trees.{Op, Ex, Gens, no_gens, over, from, cond}
use Rattle.ess_semantics.specs.Operators.{as_truth, value_of_node, false_where_undefined, list_value}
use Rattle.ess_semantics.specs.Domains.{integers, tuples, records, matrices, sets, msets, functions, relations, partitions, more_domains}
use Rattle.ess_semantics.specs.Meaning.{Env, with_pat, collect, where_true, meaning, meanings, items_under, domain_of, domains_of, members_in, spans_of, attributes_of, matrix_value, seen_in, cell_in, indices, tables_in, is_bool_dom}
use Rattle.ess_semantics.specs.Contexts.{In, Ins, InGens, InDom, InDoms, hole, in_operand, in_item, in_index_domain, in_body, in_generators, in_cell_index, in_view_domain, in_view_index, in_first, in_later, in_generator_domain, behind_over, in_source, behind_from, in_condition, behind_condition, in_bound, in_component, in_field, in_index, in_element, in_set_number, in_set_member, in_mset_number, in_mset_member, in_function_number, in_argument, in_result, in_relation_number, in_relation_component, in_partition_number, in_partition_member, in_first_domain, in_later_domain, fill, fill_exs, fill_gens, fill_dom, fill_doms, guards, Guarded, EachOf, EachIn, AtEach, Where, WhereIn, WhereGens, WhereDom, WhereDoms}
use Rattle.ess_semantics.specs.Meets.{Meets, MeetsAll, MeetsGens, MeetsDom, MeetsDoms, tidy_in}
use Rattle.ess_semantics.specs.Kept.{KeptWhere}
use Rattle.ess_rules_laws.proofs.Bindings.{collect-each-of, collect-each-in, where-true-same, each-of-join, each-in-join, items-at-each}
use Rattle.ess_rules_laws.proofs.Replacement.{behind-guard, bool-same}

-- ---- generators

-- What follows from P and Q at every binding holds where both do.
pub meets-gens-join : (gs : Gens) (env : Env) (P Q R : Env → Type 0) → ((h : Env) → P h → Q h → R h) → AtEach gs env P → MeetsGens gs env Q → MeetsGens gs env R
meets-gens-join no_gens env P Q R f p q = f env p q
meets-gens-join (over x d gs) env P Q R f p q = (q.0, each-of-join (members_in (domain_of d env)) _ _ _ (λ v. meets-gens-join gs (with_pat x v env) P Q R f) p q.1)
meets-gens-join (from x e gs) env P Q R f p q = (q.0, each-in-join (meaning e env) _ _ _ (λ v. meets-gens-join gs (with_pat x v env) P Q R f) p q.1)
meets-gens-join (cond e gs) env P Q R f p q = (q.0, λ t. meets-gens-join gs env P Q R f (p t) (q.1 t))

-- What holds at each binding, without what is met by the generators themselves.
pub at-each-met : (gs : Gens) (env : Env) (P Q R : Env → Type 0) → ((h : Env) → P h → Q h → R h) → AtEach gs env P → MeetsGens gs env Q → AtEach gs env R
at-each-met no_gens env P Q R f p q = f env p q
at-each-met (over x d gs) env P Q R f p q = each-of-join (members_in (domain_of d env)) _ _ _ (λ v. at-each-met gs (with_pat x v env) P Q R f) p q.1
at-each-met (from x e gs) env P Q R f p q = each-in-join (meaning e env) _ _ _ (λ v. at-each-met gs (with_pat x v env) P Q R f) p q.1
at-each-met (cond e gs) env P Q R f p q = λ t. at-each-met gs env P Q R f (p t) (q.1 t)

-- ---- one step

-- a stands in the part, and a' is put there by the rule; P is what it counts on
module _ (P : Env → Type 0) (a a' : Ex) (rule : KeptWhere P a a') where
  -- What follows for the two wholes: they mean the same, and the structures of the second are met.
  abbrev Follows : In → Env → Type 0
  Follows c env = (meaning (fill c a) env ≡ meaning (fill c a') env) × Meets (fill c a') env

  mutual
    -- Used where the context of the part holds, the rule keeps the whole.
    pub step : (c : In) (env : Env) → Where c env P → Meets (fill c a) env → Follows c env
    step hole env p m = rule env p m
    step (in_operand b op c) env p m = let r = step-operands op c env (guards op) refl p m in (ap (false_where_undefined b) r.0, r.1)
    step (in_item c d) env p m = let r = step-exs c env p m.0 in (ap (λ x. and_then (all_some x) (matrix_value (members_in (domain_of d env)))) r.0, (r.1, m.1))
    step (in_index_domain es c) env p m = let r = step-dom c env p m.1 in (ap (λ x. and_then (all_some (meanings es env)) (matrix_value (members_in x))) r.0, (m.0, r.1))
    step (in_body c gs) env p m = (
      ap (option_map list_value) (items-at-each gs env _ _ (at-each-met gs env _ _ _ (λ h q n. ap (option_map (λ v. v ∷ [])) (step c h q n).0) p m)),
      meets-gens-join gs env _ _ _ (λ h q n. (step c h q n).1) p m,
    )
    step (in_generators x c) env p m = let r = step-gens c env x (λ here. option_map (λ v. v ∷ []) (meaning x here)) p m in (ap (option_map list_value) r.0, r.1)
    step (in_cell_index b n c) env p m = let r = step-exs c env p m in (ap (λ x. false_where_undefined b (cell_in b (look env.cells n) (indices x))) r.0, r.1)
    step (in_view_domain r c ns es) env p m = let s = step-dom c env p m.1 in (
      ap (λ q. false_where_undefined q (seen_in r (domain_of (fill_dom c a) env) (tables_in env.cells ns) (indices (meanings es env)))) (bool-same a a' c)
          ∙ ap (λ x. false_where_undefined (is_bool_dom (fill_dom c a')) (seen_in r x (tables_in env.cells ns) (indices (meanings es env)))) s.0,
      (ap (λ x. tidy_in r x (tables_in env.cells ns) (indices (meanings es env))) (sym s.0) ∙ m.0, s.1, m.2),
    )
    step (in_view_index r d ns c) env p m = let s = step-exs c env p m.2 in (
      ap (λ x. false_where_undefined (is_bool_dom d) (seen_in r (domain_of d env) (tables_in env.cells ns) (indices x))) s.0,
      (ap (λ x. tidy_in r (domain_of d env) (tables_in env.cells ns) (indices x)) (sym s.0) ∙ m.0, m.1, s.1),
    )

    step-operands : (op : Op) (c : Ins) (env : Env) (g : Bool) → guards op ≡ g → WhereIn g c env P → MeetsAll g (fill_exs c a) env →
        (value_of_node op (meanings (fill_exs c a) env) ≡ value_of_node op (meanings (fill_exs c a') env)) × MeetsAll g (fill_exs c a') env
    step-operands op (in_first c es) env g e p m = let r = step c env p m.0 in
        (ap (λ x. value_of_node op (x ∷ meanings es env)) r.0, (r.1, subst (λ o. Guarded g o (MeetsAll false es env)) r.0 m.1))
    step-operands op (in_later x c) env true e p m = (behind-guard a a' op x c env e (λ t. (step-exs c env (p t) (m.1 t)).0), (m.0, λ t. (step-exs c env (p t) (m.1 t)).1))
    step-operands op (in_later x c) env false e p m = let r = step-exs c env p m.1 in (ap (λ l. value_of_node op (meaning x env ∷ l)) r.0, (m.0, r.1))

    step-exs : (c : Ins) (env : Env) → WhereIn false c env P → MeetsAll false (fill_exs c a) env →
        (meanings (fill_exs c a) env ≡ meanings (fill_exs c a') env) × MeetsAll false (fill_exs c a') env
    step-exs (in_first c es) env p m = let r = step c env p m.0 in (ap (λ x. x ∷ meanings es env) r.0, (r.1, m.1))
    step-exs (in_later x c) env p m = let r = step-exs c env p m.1 in (ap (λ l. meaning x env ∷ l) r.0, (m.0, r.1))

    step-gens : (c : InGens) (env : Env) → (e : Ex) (k : Env → Option (List Value)) → WhereGens c env P → MeetsGens (fill_gens c a) env (λ here. Meets e here) →
        (items_under (fill_gens c a) env k ≡ items_under (fill_gens c a') env k) × MeetsGens (fill_gens c a') env (λ here. Meets e here)
    step-gens (in_generator_domain x c gs) env e k p m = let r = step-dom c env p m.0 in (
      ap (λ y. and_then (members_in y) (λ vs. collect vs (λ v. items_under gs (with_pat x v env) k))) r.0,
      (r.1, subst (λ y. EachOf (members_in y) (λ v. MeetsGens gs (with_pat x v env) (λ here. Meets e here))) r.0 m.1),
    )
    step-gens (behind_over x d c) env e k p m = (
      collect-each-of (members_in (domain_of d env)) _ _ (each-of-join (members_in (domain_of d env)) _ _ _ (λ v q n. (step-gens c (with_pat x v env) e k q n).0) p m.1),
      (m.0, each-of-join (members_in (domain_of d env)) _ _ _ (λ v q n. (step-gens c (with_pat x v env) e k q n).1) p m.1),
    )
    step-gens (in_source x c gs) env e k p m = let r = step c env p m.0 in (
      ap (λ y. and_then y (λ s. collect (items_of s) (λ v. items_under gs (with_pat x v env) k))) r.0,
      (r.1, subst (λ y. EachIn y (λ v. MeetsGens gs (with_pat x v env) (λ here. Meets e here))) r.0 m.1),
    )
    step-gens (behind_from x s c) env e k p m = (
      collect-each-in (meaning s env) _ _ (each-in-join (meaning s env) _ _ _ (λ v q n. (step-gens c (with_pat x v env) e k q n).0) p m.1),
      (m.0, each-in-join (meaning s env) _ _ _ (λ v q n. (step-gens c (with_pat x v env) e k q n).1) p m.1),
    )
    step-gens (in_condition c gs) env e k p m = let r = step c env p m.0 in
        (ap (λ x. where_true x (λ u. items_under gs env k)) r.0, (r.1, λ t. m.1 (ap as_truth r.0 ∙ t)))
    step-gens (behind_condition x c) env e k p m =
        (where-true-same (meaning x env) _ _ (λ t. (step-gens c env e k (p t) (m.1 t)).0), (m.0, λ t. (step-gens c env e k (p t) (m.1 t)).1))

    step-dom : (c : InDom) (env : Env) → WhereDom c env P → MeetsDom (fill_dom c a) env → (domain_of (fill_dom c a) env ≡ domain_of (fill_dom c a') env) × MeetsDom (fill_dom c a') env
    step-dom (in_bound rs c) env p m = let r = step-exs c env p m in (ap (λ x. option_map integers (spans_of rs x)) r.0, r.1)
    step-dom (in_component c) env p m = let r = step-doms c env p m in (ap (option_map tuples) r.0, r.1)
    step-dom (in_field fs c) env p m = let r = step-doms c env p m in (ap (option_map (records fs)) r.0, r.1)
    step-dom (in_index c d) env p m = let r = step-doms c env p m.0 in (ap (λ x. and_then x (λ js. option_map (matrices js) (domain_of d env))) r.0, (r.1, m.1))
    step-dom (in_element is c) env p m = let r = step-dom c env p m.1 in (ap (λ x. and_then (domains_of is env) (λ js. option_map (matrices js) x)) r.0, (m.0, r.1))
    step-dom (in_set_number ms c d) env p m = let r = step-exs c env p m.0 in (ap (λ x. and_then (attributes_of ms x) (λ ks. option_map (sets ks) (domain_of d env))) r.0, (r.1, m.1))
    step-dom (in_set_member ms es c) env p m = let r = step-dom c env p m.1 in (ap (λ x. and_then (attributes_of ms (meanings es env)) (λ ks. option_map (sets ks) x)) r.0, (m.0, r.1))
    step-dom (in_mset_number ms c d) env p m = let r = step-exs c env p m.0 in (ap (λ x. and_then (attributes_of ms x) (λ ks. option_map (msets ks) (domain_of d env))) r.0, (r.1, m.1))
    step-dom (in_mset_member ms es c) env p m = let r = step-dom c env p m.1 in (ap (λ x. and_then (attributes_of ms (meanings es env)) (λ ks. option_map (msets ks) x)) r.0, (m.0, r.1))
    step-dom (in_function_number ms c d t) env p m = let r = step-exs c env p m.0 in
        (ap (λ y. and_then (attributes_of ms y) (λ ks. and_then (domain_of d env) (λ x. option_map (functions ks x) (domain_of t env)))) r.0, (r.1, m.1, m.2))
    step-dom (in_argument ms es c t) env p m = let r = step-dom c env p m.1 in
        (ap (λ y. and_then (attributes_of ms (meanings es env)) (λ ks. and_then y (λ x. option_map (functions ks x) (domain_of t env)))) r.0, (m.0, r.1, m.2))
    step-dom (in_result ms es d c) env p m = let r = step-dom c env p m.2 in
        (ap (λ y. and_then (attributes_of ms (meanings es env)) (λ ks. and_then (domain_of d env) (λ x. option_map (functions ks x) y))) r.0, (m.0, m.1, r.1))
    step-dom (in_relation_number ms c ds) env p m = let r = step-exs c env p m.0 in (ap (λ x. and_then (attributes_of ms x) (λ ks. option_map (relations ks) (domains_of ds env))) r.0, (r.1, m.1))
    step-dom (in_relation_component ms es c) env p m = let r = step-doms c env p m.1 in (ap (λ x. and_then (attributes_of ms (meanings es env)) (λ ks. option_map (relations ks) x)) r.0, (m.0, r.1))
    step-dom (in_partition_number ms c d) env p m = let r = step-exs c env p m.0 in (ap (λ x. and_then (attributes_of ms x) (λ ks. option_map (partitions ks) (domain_of d env))) r.0, (r.1, m.1))
    step-dom (in_partition_member ms es c) env p m = let r = step-dom c env p m.1 in (ap (λ x. and_then (attributes_of ms (meanings es env)) (λ ks. option_map (partitions ks) x)) r.0, (m.0, r.1))

    step-doms : (c : InDoms) (env : Env) → WhereDoms c env P → MeetsDoms (fill_doms c a) env → (domains_of (fill_doms c a) env ≡ domains_of (fill_doms c a') env) × MeetsDoms (fill_doms c a') env
    step-doms (in_first_domain c ds) env p m = let r = step-dom c env p m.0 in (ap (λ o. and_then o (λ x. option_map (more_domains x) (domains_of ds env))) r.0, (r.1, m.1))
    step-doms (in_later_domain d c) env p m = let r = step-doms c env p m.1 in (ap (λ o. and_then (domain_of d env) (λ x. option_map (more_domains x) o)) r.0, (m.0, r.1))
