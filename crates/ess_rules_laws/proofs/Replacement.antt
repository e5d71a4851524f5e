-- A part of a tree may be replaced by one that means the same wherever the context of the part holds.
use Rattle.std.proofs.Common.{◌≡◌, refl, sym, ap, ◌∙◌, Bool, true, false, ◌&&◌, List, [], ◌∷◌, Option, Some, option_map}
use Rattle.ess_semantics.specs.declared.words.Op2.{Op2}
use Rattle.ess_semantics.specs.Lists.{and_then, all_some}
use Rattle.ess_semantics.specs.Values.{Value, truth, items_of}
use Rattle.ess_semantics.specs.Names.{look}
use Rattle.ess_semantics.specs.Trees.{Op, binary, Ex, no_exs, more_exs}
use Rattle.ess_semantics.specs.Operators.{implies, as_truth, value_of_node, false_where_undefined, list_value}
use Rattle.ess_semantics.specs.Domains.{integers, tuples, records, matrices, sets, msets, functions, relations, partitions, more_domains}
use Rattle.ess_semantics.specs.Meaning.{Env, with_pat, collect, where_true, meaning, meanings, items_under, domain_of, domains_of, members_in, spans_of, attributes_of, matrix_value, seen_in, cell_in, indices, tables_in, is_bool_dom}
use Rattle.ess_semantics.specs.Contexts.{In, Ins, InGens, InDom, InDoms, hole, in_operand, in_item, in_index_domain, in_body, in_generators, in_cell_index, in_view_domain, in_view_index, in_first, in_later, in_generator_domain, behind_over, in_source, behind_from, in_condition, behind_condition, in_bound, in_component, in_field, in_index, in_element, in_set_number, in_set_member, in_mset_number, in_mset_member, in_function_number, in_argument, in_result, in_relation_number, in_relation_component, in_partition_number, in_partition_member, in_first_domain, in_later_domain, fill, fill_exs, fill_gens, fill_dom, fill_doms, guards, Where, WhereIn, WhereGens, WhereDom, WhereDoms}
use Rattle.ess_rules_laws.proofs.Bindings.{collect-each-of, collect-each-in, each-of-map, each-in-map, where-true-same, items-at-each, at-each-map}

-- a stands in the part, and a' is put there
module _ (a a' : Ex) where
  -- Both mean the same.
  abbrev pub MeansSame : Env → Type 0
  MeansSame here = meaning a here ≡ meaning a' here

  -- Where the first operand of an operator that guards isn't true, the part behind it doesn't count.
  idle : (op : Op) (o : Option Value) (c : Ins) (env : Env) → guards op ≡ true → as_truth o ≡ false →
      value_of_node op (o ∷ meanings (fill_exs c a) env) ≡ value_of_node op (o ∷ meanings (fill_exs c a') env)
  idle (binary Op2.And) o (in_first c no_exs) env g e =
      ap (λ b. Some (truth (b && as_truth (meaning (fill c a) env)))) e ∙ ap (λ b. Some (truth (b && as_truth (meaning (fill c a') env)))) (sym e)
  idle (binary Op2.Implies) o (in_first c no_exs) env g e =
      ap (λ b. Some (truth (implies b (as_truth (meaning (fill c a) env))))) e ∙ ap (λ b. Some (truth (implies b (as_truth (meaning (fill c a') env))))) (sym e)
  idle (binary Op2.And) o (in_first c (more_exs y es)) env g e = refl
  idle (binary Op2.And) o (in_later y (in_first c es)) env g e = refl
  idle (binary Op2.And) o (in_later y (in_later z c)) env g e = refl
  idle (binary Op2.Implies) o (in_first c (more_exs y es)) env g e = refl
  idle (binary Op2.Implies) o (in_later y (in_first c es)) env g e = refl
  idle (binary Op2.Implies) o (in_later y (in_later z c)) env g e = refl
  idle _ o c env g e = cc

  -- Behind the first operand of an operator that guards only what holds where it is true counts.
  pub behind-guard : (op : Op) (x : Ex) (c : Ins) (env : Env) → guards op ≡ true →
      (as_truth (meaning x env) ≡ true → meanings (fill_exs c a) env ≡ meanings (fill_exs c a') env) →
      value_of_node op (meaning x env ∷ meanings (fill_exs c a) env) ≡ value_of_node op (meaning x env ∷ meanings (fill_exs c a') env)
  behind-guard op x c env g f = go (as_truth (meaning x env)) refl
    where
      go : (b : Bool) → as_truth (meaning x env) ≡ b → value_of_node op (meaning x env ∷ meanings (fill_exs c a) env) ≡ value_of_node op (meaning x env ∷ meanings (fill_exs c a') env)
      go true e = ap (λ l. value_of_node op (meaning x env ∷ l)) (f e)
      go false e = idle op (meaning x env) c env g e

  -- A domain with an open part is no `bool`, whatever stands in the part.
  pub bool-same : (c : InDom) → is_bool_dom (fill_dom c a) ≡ is_bool_dom (fill_dom c a')
  bool-same (in_bound rs c) = refl
  bool-same (in_component c) = refl
  bool-same (in_field fs c) = refl
  bool-same (in_index c d) = refl
  bool-same (in_element is c) = refl
  bool-same (in_set_number ms c d) = refl
  bool-same (in_set_member ms es c) = refl
  bool-same (in_mset_number ms c d) = refl
  bool-same (in_mset_member ms es c) = refl
  bool-same (in_function_number ms c d r) = refl
  bool-same (in_argument ms es c r) = refl
  bool-same (in_result ms es d c) = refl
  bool-same (in_relation_number ms c ds) = refl
  bool-same (in_relation_component ms es c) = refl
  bool-same (in_partition_number ms c d) = refl
  bool-same (in_partition_member ms es c) = refl

  mutual
    -- With the one or the other in the part an expression means the same.
    pub filled : (c : In) (env : Env) → Where c env MeansSame → meaning (fill c a) env ≡ meaning (fill c a') env
    filled hole env h = h
    filled (in_operand b op c) env h = ap (false_where_undefined b) (filled-operands op c env (guards op) refl h)
    filled (in_item c d) env h = ap (λ x. and_then (all_some x) (matrix_value (members_in (domain_of d env)))) (filled-exs c env h)
    filled (in_index_domain es c) env h = ap (λ x. and_then (all_some (meanings es env)) (matrix_value (members_in x))) (filled-dom c env h)
    filled (in_body c gs) env h =
        ap (option_map list_value) (items-at-each gs env _ _ (at-each-map gs env _ _ (λ here p. ap (option_map (λ v. v ∷ [])) (filled c here p)) h))
    filled (in_generators x c) env h = ap (option_map list_value) (filled-gens c env (λ here. option_map (λ v. v ∷ []) (meaning x here)) h)
    filled (in_cell_index b n c) env h = ap (λ x. false_where_undefined b (cell_in b (look env.cells n) (indices x))) (filled-exs c env h)
    filled (in_view_domain r c ns es) env h =
        ap (λ q. false_where_undefined q (seen_in r (domain_of (fill_dom c a) env) (tables_in env.cells ns) (indices (meanings es env)))) (bool-same c)
        ∙ ap (λ x. false_where_undefined (is_bool_dom (fill_dom c a')) (seen_in r x (tables_in env.cells ns) (indices (meanings es env)))) (filled-dom c env h)
    filled (in_view_index r d ns c) env h = ap (λ x. false_where_undefined (is_bool_dom d) (seen_in r (domain_of d env) (tables_in env.cells ns) (indices x))) (filled-exs c env h)

    filled-operands : (op : Op) (c : Ins) (env : Env) (g : Bool) → guards op ≡ g → WhereIn g c env MeansSame →
        value_of_node op (meanings (fill_exs c a) env) ≡ value_of_node op (meanings (fill_exs c a') env)
    filled-operands op (in_first c es) env g e h = ap (λ x. value_of_node op (x ∷ meanings es env)) (filled c env h)
    filled-operands op (in_later x c) env true e h = behind-guard op x c env e (λ t. filled-exs c env (h t))
    filled-operands op (in_later x c) env false e h = ap (λ l. value_of_node op (meaning x env ∷ l)) (filled-exs c env h)

    -- The same of several expressions.
    pub filled-exs : (c : Ins) (env : Env) → WhereIn false c env MeansSame → meanings (fill_exs c a) env ≡ meanings (fill_exs c a') env
    filled-exs (in_first c es) env h = ap (λ x. x ∷ meanings es env) (filled c env h)
    filled-exs (in_later x c) env h = ap (λ l. meaning x env ∷ l) (filled-exs c env h)

    -- Generators give the same items.
    pub filled-gens : (c : InGens) (env : Env) (k : Env → Option (List Value)) → WhereGens c env MeansSame → items_under (fill_gens c a) env k ≡ items_under (fill_gens c a') env k
    filled-gens (in_generator_domain p c gs) env k h = ap (λ x. and_then (members_in x) (λ vs. collect vs (λ v. items_under gs (with_pat p v env) k))) (filled-dom c env h)
    filled-gens (behind_over p d c) env k h =
        collect-each-of (members_in (domain_of d env)) _ _ (each-of-map (members_in (domain_of d env)) _ _ (λ v. filled-gens c (with_pat p v env) k) h)
    filled-gens (in_source p c gs) env k h = ap (λ x. and_then x (λ s. collect (items_of s) (λ v. items_under gs (with_pat p v env) k))) (filled c env h)
    filled-gens (behind_from p x c) env k h =
        collect-each-in (meaning x env) _ _ (each-in-map (meaning x env) _ _ (λ v. filled-gens c (with_pat p v env) k) h)
    filled-gens (in_condition c gs) env k h = ap (λ x. where_true x (λ u. items_under gs env k)) (filled c env h)
    filled-gens (behind_condition x c) env k h = where-true-same (meaning x env) _ _ (λ t. filled-gens c env k (h t))

    -- A domain expression denotes the same domain.
    pub filled-dom : (c : InDom) (env : Env) → WhereDom c env MeansSame → domain_of (fill_dom c a) env ≡ domain_of (fill_dom c a') env
    filled-dom (in_bound rs c) env h = ap (λ x. option_map integers (spans_of rs x)) (filled-exs c env h)
    filled-dom (in_component c) env h = ap (option_map tuples) (filled-doms c env h)
    filled-dom (in_field fs c) env h = ap (option_map (records fs)) (filled-doms c env h)
    filled-dom (in_index c d) env h = ap (λ x. and_then x (λ js. option_map (matrices js) (domain_of d env))) (filled-doms c env h)
    filled-dom (in_element is c) env h = ap (λ x. and_then (domains_of is env) (λ js. option_map (matrices js) x)) (filled-dom c env h)
    filled-dom (in_set_number ms c d) env h = ap (λ x. and_then (attributes_of ms x) (λ ks. option_map (sets ks) (domain_of d env))) (filled-exs c env h)
    filled-dom (in_set_member ms es c) env h = ap (λ x. and_then (attributes_of ms (meanings es env)) (λ ks. option_map (sets ks) x)) (filled-dom c env h)
    filled-dom (in_mset_number ms c d) env h = ap (λ x. and_then (attributes_of ms x) (λ ks. option_map (msets ks) (domain_of d env))) (filled-exs c env h)
    filled-dom (in_mset_member ms es c) env h = ap (λ x. and_then (attributes_of ms (meanings es env)) (λ ks. option_map (msets ks) x)) (filled-dom c env h)
    filled-dom (in_function_number ms c d r) env h =
        ap (λ y. and_then (attributes_of ms y) (λ ks. and_then (domain_of d env) (λ x. option_map (functions ks x) (domain_of r env)))) (filled-exs c env h)
    filled-dom (in_argument ms es c r) env h =
        ap (λ y. and_then (attributes_of ms (meanings es env)) (λ ks. and_then y (λ x. option_map (functions ks x) (domain_of r env)))) (filled-dom c env h)
    filled-dom (in_result ms es d c) env h =
        ap (λ y. and_then (attributes_of ms (meanings es env)) (λ ks. and_then (domain_of d env) (λ x. option_map (functions ks x) y))) (filled-dom c env h)
    filled-dom (in_relation_number ms c ds) env h = ap (λ x. and_then (attributes_of ms x) (λ ks. option_map (relations ks) (domains_of ds env))) (filled-exs c env h)
    filled-dom (in_relation_component ms es c) env h = ap (λ x. and_then (attributes_of ms (meanings es env)) (λ ks. option_map (relations ks) x)) (filled-doms c env h)
    filled-dom (in_partition_number ms c d) env h = ap (λ x. and_then (attributes_of ms x) (λ ks. option_map (partitions ks) (domain_of d env))) (filled-exs c env h)
    filled-dom (in_partition_member ms es c) env h = ap (λ x. and_then (attributes_of ms (meanings es env)) (λ ks. option_map (partitions ks) x)) (filled-dom c env h)

    -- Several domain expressions denote the same domains.
    pub filled-doms : (c : InDoms) (env : Env) → WhereDoms c env MeansSame → domains_of (fill_doms c a) env ≡ domains_of (fill_doms c a') env
    filled-doms (in_first_domain c ds) env h = ap (λ o. and_then o (λ x. option_map (more_domains x) (domains_of ds env))) (filled-dom c env h)
    filled-doms (in_later_domain d c) env h = ap (λ o. and_then (domain_of d env) (λ x. option_map (more_domains x) o)) (filled-doms c env h)
