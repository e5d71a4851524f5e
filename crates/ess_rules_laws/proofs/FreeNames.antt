-- Values of names that agree on the free names of a tree give it the same meaning, whatever they say of other names, also
-- of those that the tree binds.
use Rattle.std.proofs.Common.{◌≡◌, refl, sym, ap, ◌∙◌, Bool, true, false, ◌||◌, List, [], ◌∷◌, Option, Some, option_map, if◌then◌else◌}
use Rattle.std.specs.Prelude.{IsTrue}
use Rattle.ess_semantics.specs.Lists.{and_then, all_some}
use Rattle.ess_semantics.specs.Values.{Text, Value, items_of}
use Rattle.ess_semantics.specs.Order.{same_text}
use Rattle.ess_semantics.specs.Names.{Names, look}
use Rattle.ess_semantics.specs.Trees.{Pat, Pats, name_pat, tuple_pat, no_pats, more_pats, Ex, Exs, number_ex, truth_ex, name_ex, node_ex, matrix_ex, comp_ex, cell_ex, seen_ex, no_exs, more_exs, Gens, no_gens, over, from, cond, Dom, Doms, bool_dom, int_dom, name_dom, tuple_dom, record_dom, matrix_dom, set_dom, mset_dom, function_dom, relation_dom, partition_dom, no_doms, more_doms}
use Rattle.ess_semantics.specs.Operators.{misfit, value_of_node, false_where_undefined, list_value}
use Rattle.ess_semantics.specs.Domains.{integers, tuples, records, matrices, sets, msets, functions, relations, partitions, more_domains}
use Rattle.ess_semantics.specs.Tables.{Table}
use Rattle.ess_semantics.specs.Scoped.{is_bound, is_bound_by_some, with_names}
use Rattle.ess_semantics.specs.FreeNames.{with_bound_names, FreeNamesAre, FreeNamesAreExs, FreeNamesAreGens, FreeNamesAreDom, FreeNamesAreDoms}
use Rattle.ess_semantics.specs.Meaning.{Env, TypeEntry, bind, bind_all, with_pat, collect, meaning, meanings, items_under, domain_of, domains_of, members_in, spans_of, attributes_of, matrix_value, seen_in, cell_in, indices, tables_in, is_bool_dom}
use Rattle.ess_rules_laws.proofs.Simulation.{Vals, E, but, collect-same, and_then-same, where-same, two}
use Rattle.ess_rules_laws.proofs.Agreement.{AgreeOn, agree-but}

-- ---- names that patterns bind

or-left : (u b : Bool) → b ≡ false → IsTrue (u || b) → IsTrue u
or-left true b e t = refl
or-left false true e t = cc
or-left false false e t = cc

or-shifted : (u a b : Bool) → IsTrue (u || (a || b)) → IsTrue ((u || a) || b)
or-shifted true a b t = refl
or-shifted false a b t = t

name-agrees : (u : Text → Bool) (b : Text) (v : Value) (g h : Vals) → AgreeOn u g h →
    AgreeOn (with_names u (name_pat b)) ((b, v) ∷ g) ((b, v) ∷ h)
name-agrees u b v g h s a t = go (same_text b a) refl
  where
    go : (q : Bool) → same_text b a ≡ q → (if same_text b a then Some v else look g a) ≡ (if same_text b a then Some v else look h a)
    go true e = ap (λ c. if c then Some v else look g a) e ∙ sym (ap (λ c. if c then Some v else look h a) e)
    go false e = ap (λ o. if same_text b a then Some v else o) (s a (or-left (u a) (same_text b a) e t))

mutual
  -- With a pattern bound at one value on both sides they agree on its names too.
  pub bind-agrees : (p : Pat) (u : Text → Bool) (v : Value) (g h : Vals) → AgreeOn u g h →
      AgreeOn (with_names u p) (bind p v g) (bind p v h)
  bind-agrees (name_pat b) u v g h s = name-agrees u b v g h s
  bind-agrees (tuple_pat ps) u v g h s = all-agree ps u (items_of v) g h s

  all-agree : (ps : Pats) (u : Text → Bool) (vs : List Value) (g h : Vals) → AgreeOn u g h → (a : Text) →
      IsTrue (u a || is_bound_by_some ps a) → look (bind_all ps vs g) a ≡ look (bind_all ps vs h) a
  all-agree no_pats u vs g h s a t = s a (or-left (u a) false refl t)
  all-agree (more_pats p ps) u [] g h s a t =
      all-agree ps (with_names u p) [] (bind p misfit g) (bind p misfit h) (bind-agrees p u misfit g h s) a
      (or-shifted (u a) (is_bound p a) (is_bound_by_some ps a) t)
  all-agree (more_pats p ps) u (v ∷ vs) g h s a t =
      all-agree ps (with_names u p) vs (bind p v g) (bind p v h) (bind-agrees p u v g h s) a
      (or-shifted (u a) (is_bound p a) (is_bound_by_some ps a) t)

-- ---- trees

module _ (pl : Bool) (ts : List TypeEntry) (cs : Names Table) where
  abbrev M : Vals → Env
  M g = E pl ts cs g

  mutual
    -- An expression whose free names are in u means the same under values that agree on u.
    pub meaning-free : (e : Ex) (u : Text → Bool) (g h : Vals) → FreeNamesAre u e → AgreeOn u g h → meaning e (M g) ≡ meaning e (M h)
    meaning-free (number_ex m) u g h o s = refl
    meaning-free (truth_ex m) u g h o s = refl
    meaning-free (name_ex a) u g h o s = s a o
    meaning-free (node_ex q op es) u g h o s = ap (λ x. false_where_undefined q (value_of_node op x)) (meanings-free es u g h o s)
    meaning-free (matrix_ex es d) u g h o s =
        ap (λ x. and_then (all_some x) (matrix_value (members_in (domain_of d (M g))))) (meanings-free es u g h o.0 s)
        ∙ ap (λ x. and_then (all_some (meanings es (M h))) (matrix_value (members_in x))) (domain-free d u g h o.1 s)
    meaning-free (comp_ex e gs) u g h o s =
        ap (option_map list_value) (items-free gs u g h (λ here. option_map (λ v. v ∷ []) (meaning e here)) o.0 s
        (λ g' h' s'. ap (option_map (λ v. v ∷ [])) (meaning-free e (with_bound_names u gs) g' h' o.1 s')))
    meaning-free (cell_ex q c es) u g h o s = ap (λ x. false_where_undefined q (cell_in q (look cs c) (indices x)))
        (meanings-free es u g h o s)
    meaning-free (seen_ex r d ns es) u g h o s =
        ap (λ x. false_where_undefined (is_bool_dom d) (seen_in r x (tables_in cs ns) (indices (meanings es (M g)))))
        (domain-free d u g h o.0 s)
        ∙ ap (λ x. false_where_undefined (is_bool_dom d) (seen_in r (domain_of d (M h)) (tables_in cs ns) (indices x)))
        (meanings-free es u g h o.1 s)

    pub meanings-free : (es : Exs) (u : Text → Bool) (g h : Vals) → FreeNamesAreExs u es → AgreeOn u g h →
        meanings es (M g) ≡ meanings es (M h)
    meanings-free no_exs u g h o s = refl
    meanings-free (more_exs e es) u g h o s = ap (λ x. x ∷ meanings es (M g)) (meaning-free e u g h o.0 s)
        ∙ ap (λ x. meaning e (M h) ∷ x) (meanings-free es u g h o.1 s)

    pub items-free : (gs : Gens) (u : Text → Bool) (g h : Vals) (k : Env → Option (List Value)) → FreeNamesAreGens u gs → AgreeOn u g h →
        ((g' h' : Vals) → AgreeOn (with_bound_names u gs) g' h' → k (M g') ≡ k (M h')) → items_under gs (M g) k ≡ items_under gs (M h) k
    items-free no_gens u g h k o s f = f g h s
    items-free (over p d gs) u g h k o s f =
        and_then-same (members_in (domain_of d (M g))) (members_in (domain_of d (M h)))
        (λ vs. collect vs (λ v. items_under gs (with_pat p v (M g)) k)) (λ vs. collect vs (λ v. items_under gs (with_pat p v (M h)) k))
        (ap members_in (domain-free d u g h o.0 s))
        (λ vs. collect-same vs (λ v. items_under gs (with_pat p v (M g)) k) (λ v. items_under gs (with_pat p v (M h)) k)
        (λ v. items-free gs (with_names u p) (bind p v g) (bind p v h) k o.1 (bind-agrees p u v g h s) f))
    items-free (from p e gs) u g h k o s f =
        and_then-same (meaning e (M g)) (meaning e (M h))
        (λ w. collect (items_of w) (λ v. items_under gs (with_pat p v (M g)) k))
        (λ w. collect (items_of w) (λ v. items_under gs (with_pat p v (M h)) k))
        (meaning-free e u g h o.0 s)
        (λ w. collect-same (items_of w) (λ v. items_under gs (with_pat p v (M g)) k) (λ v. items_under gs (with_pat p v (M h)) k)
        (λ v. items-free gs (with_names u p) (bind p v g) (bind p v h) k o.1 (bind-agrees p u v g h s) f))
    items-free (cond e gs) u g h k o s f =
        where-same (meaning e (M g)) (meaning e (M h)) (items_under gs (M g) k) (items_under gs (M h) k) (meaning-free e u g h o.0 s)
        (items-free gs u g h k o.1 s f)

    pub domain-free : (d : Dom) (u : Text → Bool) (g h : Vals) → FreeNamesAreDom u d → AgreeOn u g h → domain_of d (M g) ≡ domain_of d (M h)
    domain-free bool_dom u g h o s = refl
    domain-free (int_dom rs es) u g h o s = ap (λ x. option_map integers (spans_of rs x)) (meanings-free es u g h o s)
    domain-free (name_dom a) u g h o s = refl
    domain-free (tuple_dom ds) u g h o s = ap (option_map tuples) (domains-free ds u g h o s)
    domain-free (record_dom fs ds) u g h o s = ap (option_map (records fs)) (domains-free ds u g h o s)
    domain-free (matrix_dom is d) u g h o s = two (domains_of is (M g)) (domains_of is (M h)) matrices (domains-free is u g h o.0 s)
        (domain-free d u g h o.1 s)
    domain-free (set_dom ks es d) u g h o s = two (attributes_of ks (meanings es (M g))) (attributes_of ks (meanings es (M h))) sets
        (ap (attributes_of ks) (meanings-free es u g h o.0 s)) (domain-free d u g h o.1 s)
    domain-free (mset_dom ks es d) u g h o s = two (attributes_of ks (meanings es (M g))) (attributes_of ks (meanings es (M h))) msets
        (ap (attributes_of ks) (meanings-free es u g h o.0 s)) (domain-free d u g h o.1 s)
    domain-free (function_dom ks es d c) u g h o s =
        and_then-same (attributes_of ks (meanings es (M g))) (attributes_of ks (meanings es (M h))) _ _
        (ap (attributes_of ks) (meanings-free es u g h o.0 s))
        (λ as'. two (domain_of d (M g)) (domain_of d (M h)) (functions as') (domain-free d u g h o.1 s) (domain-free c u g h o.2 s))
    domain-free (relation_dom ks es ds) u g h o s = two (attributes_of ks (meanings es (M g))) (attributes_of ks (meanings es (M h)))
        relations (ap (attributes_of ks) (meanings-free es u g h o.0 s)) (domains-free ds u g h o.1 s)
    domain-free (partition_dom ks es d) u g h o s = two (attributes_of ks (meanings es (M g))) (attributes_of ks (meanings es (M h)))
        partitions (ap (attributes_of ks) (meanings-free es u g h o.0 s)) (domain-free d u g h o.1 s)

    pub domains-free : (ds : Doms) (u : Text → Bool) (g h : Vals) → FreeNamesAreDoms u ds → AgreeOn u g h →
        domains_of ds (M g) ≡ domains_of ds (M h)
    domains-free no_doms u g h o s = refl
    domains-free (more_doms d ds) u g h o s = two (domain_of d (M g)) (domain_of d (M h)) more_domains (domain-free d u g h o.0 s)
        (domains-free ds u g h o.1 s)

-- A value of a name that isn't free in an expression changes no meaning.
pub meaning-unfree : (x : Text) (v : Value) (e : Ex) (env : Env) → FreeNamesAre (but x) e →
    meaning e (record env { vals = (x, v) ∷ env.vals }) ≡ meaning e env
meaning-unfree x v e env o =
    sym (meaning-free env.positions env.types env.cells e (but x) env.vals ((x, v) ∷ env.vals) o (agree-but x v env.vals))
