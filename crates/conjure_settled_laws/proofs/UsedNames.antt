-- The names that a tree uses: the free ones, and those of types. Values and types that agree on them give the tree the same meaning.
use Rattle.std.proofs.Common.{◌≡◌, refl, ap, ◌∙◌, Bool, List, [], ◌∷◌, Option, option_map}
use Rattle.std.specs.Prelude.{IsTrue}
use Rattle.ess_semantics.specs.Lists.{and_then, all_some}
use Rattle.ess_semantics.specs.Values.{Text, Value, items_of}
use Rattle.ess_semantics.specs.Names.{Names, look}
use Rattle.ess_semantics.specs.Trees.{Ex, Exs, number_ex, truth_ex, name_ex, node_ex, matrix_ex, comp_ex, cell_ex, seen_ex, no_exs, more_exs, Gens, no_gens, over, from, cond, Dom, Doms, bool_dom, int_dom, name_dom, tuple_dom, record_dom, matrix_dom, set_dom, mset_dom, function_dom, relation_dom, partition_dom, no_doms, more_doms}
use Rattle.ess_semantics.specs.Operators.{value_of_node, false_where_undefined, list_value}
use Rattle.ess_semantics.specs.Domains.{integers, tuples, records, matrices, sets, msets, functions, relations, partitions, more_domains}
use Rattle.ess_semantics.specs.Tables.{Table}
use Rattle.ess_semantics.specs.Scoped.{with_names}
use Rattle.ess_semantics.specs.FreeNames.{with_bound_names}
use Rattle.ess_semantics.specs.Meaning.{Env, TypeEntry, type_entry, named_domain, bind, with_pat, collect, meaning, meanings, items_under, domain_of, domains_of, members_in, spans_of, attributes_of, matrix_value, seen_in, cell_in, indices, tables_in, is_bool_dom}
use Rattle.ess_rules_laws.proofs.Simulation.{Vals, E, collect-same, and_then-same, where-same, two}
use Rattle.ess_rules_laws.proofs.Agreement.{AgreeOn}
use Rattle.ess_rules_laws.proofs.FreeNames.{bind-agrees}

module _ (v : Text → Bool) where
  abbrev mutual
    -- Each free name of the expression has the property u, and each name of a type the property v.
    pub UsesAre : (Text → Bool) → Ex → Type 0
    UsesAre u (number_ex n) = Unit {0}
    UsesAre u (truth_ex b) = Unit {0}
    UsesAre u (name_ex a) = IsTrue (u a)
    UsesAre u (node_ex b op es) = UsesAreExs u es
    UsesAre u (matrix_ex es d) = UsesAreExs u es × UsesAreDom u d
    UsesAre u (comp_ex e gs) = UsesAreGens u gs × UsesAre (with_bound_names u gs) e
    UsesAre u (cell_ex b n es) = UsesAreExs u es
    UsesAre u (seen_ex r d ns es) = UsesAreDom u d × UsesAreExs u es

    -- The same of several expressions.
    pub UsesAreExs : (Text → Bool) → Exs → Type 0
    UsesAreExs u no_exs = Unit {0}
    UsesAreExs u (more_exs e es) = UsesAre u e × UsesAreExs u es

    -- The same of generators.
    pub UsesAreGens : (Text → Bool) → Gens → Type 0
    UsesAreGens u no_gens = Unit {0}
    UsesAreGens u (over p d gs) = UsesAreDom u d × UsesAreGens (with_names u p) gs
    UsesAreGens u (from p e gs) = UsesAre u e × UsesAreGens (with_names u p) gs
    UsesAreGens u (cond e gs) = UsesAre u e × UsesAreGens u gs

    -- The same of a domain.
    pub UsesAreDom : (Text → Bool) → Dom → Type 0
    UsesAreDom u bool_dom = Unit {0}
    UsesAreDom u (int_dom rs es) = UsesAreExs u es
    UsesAreDom u (name_dom a) = IsTrue (v a)
    UsesAreDom u (tuple_dom ds) = UsesAreDoms u ds
    UsesAreDom u (record_dom fs ds) = UsesAreDoms u ds
    UsesAreDom u (matrix_dom is d) = UsesAreDoms u is × UsesAreDom u d
    UsesAreDom u (set_dom ms es d) = UsesAreExs u es × UsesAreDom u d
    UsesAreDom u (mset_dom ms es d) = UsesAreExs u es × UsesAreDom u d
    UsesAreDom u (function_dom ms es d c) = UsesAreExs u es × UsesAreDom u d × UsesAreDom u c
    UsesAreDom u (relation_dom ms es ds) = UsesAreExs u es × UsesAreDoms u ds
    UsesAreDom u (partition_dom ms es d) = UsesAreExs u es × UsesAreDom u d

    -- The same of several domains.
    pub UsesAreDoms : (Text → Bool) → Doms → Type 0
    UsesAreDoms u no_doms = Unit {0}
    UsesAreDoms u (more_doms d ds) = UsesAreDom u d × UsesAreDoms u ds

  -- Types that agree on the names in v.
  module _ (pl : Bool) (ts ts' : List TypeEntry) (cs : Names Table) (same : (a : Text) → IsTrue (v a) →
      type_entry ts a ≡ type_entry ts' a) where
    abbrev M : Vals → Env
    M g = E pl ts cs g

    abbrev N : Vals → Env
    N h = E pl ts' cs h

    mutual
      -- An expression whose names are so means the same under values and types that agree on them.
      pub meaning-used : (e : Ex) (u : Text → Bool) (g h : Vals) → UsesAre u e → AgreeOn u g h → meaning e (M g) ≡ meaning e (N h)
      meaning-used (number_ex m) u g h o s = refl
      meaning-used (truth_ex m) u g h o s = refl
      meaning-used (name_ex a) u g h o s = s a o
      meaning-used (node_ex q op es) u g h o s = ap (λ x. false_where_undefined q (value_of_node op x)) (meanings-used es u g h o s)
      meaning-used (matrix_ex es d) u g h o s =
          ap (λ x. and_then (all_some x) (matrix_value (members_in (domain_of d (M g))))) (meanings-used es u g h o.0 s)
          ∙ ap (λ x. and_then (all_some (meanings es (N h))) (matrix_value (members_in x))) (domain-used d u g h o.1 s)
      meaning-used (comp_ex e gs) u g h o s =
          ap (option_map list_value) (items-used gs u g h (λ here. option_map (λ v. v ∷ []) (meaning e here)) o.0 s
          (λ g' h' s'. ap (option_map (λ v. v ∷ [])) (meaning-used e (with_bound_names u gs) g' h' o.1 s')))
      meaning-used (cell_ex q c es) u g h o s = ap (λ x. false_where_undefined q (cell_in q (look cs c) (indices x)))
          (meanings-used es u g h o s)
      meaning-used (seen_ex r d ns es) u g h o s =
          ap (λ x. false_where_undefined (is_bool_dom d) (seen_in r x (tables_in cs ns) (indices (meanings es (M g)))))
          (domain-used d u g h o.0 s)
          ∙ ap (λ x. false_where_undefined (is_bool_dom d) (seen_in r (domain_of d (N h)) (tables_in cs ns) (indices x)))
          (meanings-used es u g h o.1 s)

      pub meanings-used : (es : Exs) (u : Text → Bool) (g h : Vals) → UsesAreExs u es → AgreeOn u g h →
          meanings es (M g) ≡ meanings es (N h)
      meanings-used no_exs u g h o s = refl
      meanings-used (more_exs e es) u g h o s = ap (λ x. x ∷ meanings es (M g)) (meaning-used e u g h o.0 s)
          ∙ ap (λ x. meaning e (N h) ∷ x) (meanings-used es u g h o.1 s)

      pub items-used : (gs : Gens) (u : Text → Bool) (g h : Vals) (k : Env → Option (List Value)) → UsesAreGens u gs → AgreeOn u g h →
          ((g' h' : Vals) → AgreeOn (with_bound_names u gs) g' h' → k (M g') ≡ k (N h')) → items_under gs (M g) k ≡ items_under gs (N h) k
      items-used no_gens u g h k o s f = f g h s
      items-used (over p d gs) u g h k o s f =
          and_then-same (members_in (domain_of d (M g))) (members_in (domain_of d (N h)))
          (λ vs. collect vs (λ v. items_under gs (with_pat p v (M g)) k)) (λ vs. collect vs (λ v. items_under gs (with_pat p v (N h)) k))
          (ap members_in (domain-used d u g h o.0 s))
          (λ vs. collect-same vs (λ v. items_under gs (with_pat p v (M g)) k) (λ v. items_under gs (with_pat p v (N h)) k)
          (λ v. items-used gs (with_names u p) (bind p v g) (bind p v h) k o.1 (bind-agrees p u v g h s) f))
      items-used (from p e gs) u g h k o s f =
          and_then-same (meaning e (M g)) (meaning e (N h))
          (λ w. collect (items_of w) (λ v. items_under gs (with_pat p v (M g)) k))
          (λ w. collect (items_of w) (λ v. items_under gs (with_pat p v (N h)) k))
          (meaning-used e u g h o.0 s)
          (λ w. collect-same (items_of w) (λ v. items_under gs (with_pat p v (M g)) k) (λ v. items_under gs (with_pat p v (N h)) k)
          (λ v. items-used gs (with_names u p) (bind p v g) (bind p v h) k o.1 (bind-agrees p u v g h s) f))
      items-used (cond e gs) u g h k o s f =
          where-same (meaning e (M g)) (meaning e (N h)) (items_under gs (M g) k) (items_under gs (N h) k) (meaning-used e u g h o.0 s)
          (items-used gs u g h k o.1 s f)

      pub domain-used : (d : Dom) (u : Text → Bool) (g h : Vals) → UsesAreDom u d → AgreeOn u g h → domain_of d (M g) ≡ domain_of d (N h)
      domain-used bool_dom u g h o s = refl
      domain-used (int_dom rs es) u g h o s = ap (λ x. option_map integers (spans_of rs x)) (meanings-used es u g h o s)
      domain-used (name_dom a) u g h o s = ap (named_domain pl a) (same a o)
      domain-used (tuple_dom ds) u g h o s = ap (option_map tuples) (domains-used ds u g h o s)
      domain-used (record_dom fs ds) u g h o s = ap (option_map (records fs)) (domains-used ds u g h o s)
      domain-used (matrix_dom is d) u g h o s = two (domains_of is (M g)) (domains_of is (N h)) matrices (domains-used is u g h o.0 s)
          (domain-used d u g h o.1 s)
      domain-used (set_dom ks es d) u g h o s = two (attributes_of ks (meanings es (M g))) (attributes_of ks (meanings es (N h))) sets
          (ap (attributes_of ks) (meanings-used es u g h o.0 s)) (domain-used d u g h o.1 s)
      domain-used (mset_dom ks es d) u g h o s = two (attributes_of ks (meanings es (M g))) (attributes_of ks (meanings es (N h))) msets
          (ap (attributes_of ks) (meanings-used es u g h o.0 s)) (domain-used d u g h o.1 s)
      domain-used (function_dom ks es d c) u g h o s =
          and_then-same (attributes_of ks (meanings es (M g))) (attributes_of ks (meanings es (N h))) _ _
          (ap (attributes_of ks) (meanings-used es u g h o.0 s))
          (λ as'. two (domain_of d (M g)) (domain_of d (N h)) (functions as') (domain-used d u g h o.1 s) (domain-used c u g h o.2 s))
      domain-used (relation_dom ks es ds) u g h o s = two (attributes_of ks (meanings es (M g))) (attributes_of ks (meanings es (N h)))
          relations (ap (attributes_of ks) (meanings-used es u g h o.0 s)) (domains-used ds u g h o.1 s)
      domain-used (partition_dom ks es d) u g h o s = two (attributes_of ks (meanings es (M g))) (attributes_of ks (meanings es (N h)))
          partitions (ap (attributes_of ks) (meanings-used es u g h o.0 s)) (domain-used d u g h o.1 s)

      pub domains-used : (ds : Doms) (u : Text → Bool) (g h : Vals) → UsesAreDoms u ds → AgreeOn u g h →
          domains_of ds (M g) ≡ domains_of ds (N h)
      domains-used no_doms u g h o s = refl
      domains-used (more_doms d ds) u g h o s = two (domain_of d (M g)) (domain_of d (N h)) more_domains (domain-used d u g h o.0 s)
          (domains-used ds u g h o.1 s)
