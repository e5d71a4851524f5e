-- A tree whose bound names are told apart means the same, where the names that it uses and doesn't bind are none of those that it gets.
use Rattle.std.proofs.Common.{◌≡◌, refl, ap, ◌∙◌, ℕ, ◌≤◌, Bool, false, ◌||◌, List, [], ◌∷◌, Option, option_map, arith}
use Rattle.ess_semantics.specs.Lists.{and_then, all_some}
use Rattle.ess_semantics.specs.Values.{Text, Value, items_of}
use Rattle.ess_semantics.specs.Names.{Names}
use Rattle.ess_semantics.specs.Trees.{Pat, Pats, name_pat, tuple_pat, no_pats, more_pats, Ex, Exs, number_ex, truth_ex, name_ex, node_ex, matrix_ex, comp_ex, cell_ex, seen_ex, no_exs, more_exs, Gens, no_gens, over, from, cond, Dom, Doms, bool_dom, int_dom, name_dom, tuple_dom, record_dom, matrix_dom, set_dom, mset_dom, function_dom, relation_dom, partition_dom, no_doms, more_doms}
use Rattle.ess_semantics.specs.Operators.{misfit, value_of_node, false_where_undefined, list_value}
use Rattle.ess_semantics.specs.Domains.{integers, tuples, records, matrices, sets, msets, functions, relations, partitions, more_domains}
use Rattle.ess_semantics.specs.Tables.{Table}
use Rattle.ess_semantics.specs.Scoped.{is_bound, is_bound_by_some, with_names}
use Rattle.ess_semantics.specs.FreeNames.{with_bound_names, FreeNamesAre, FreeNamesAreExs, FreeNamesAreGens, FreeNamesAreDom, FreeNamesAreDoms}
use Rattle.ess_semantics.specs.Meaning.{Env, TypeEntry, bind, bind_all, with_pat, collect, meaning, meanings, items_under, domain_of, domains_of, members_in, spans_of, attributes_of, matrix_value}
use Rattle.ess_rules_laws.proofs.Simulation.{Vals, E, collect-same, and_then-same, where-same, two}
use Rattle.conjure_laws.specs.PlainTrees.{Plain, PlainAll, PlainGens, PlainDom, PlainDoms}
use Rattle.conjure_model_laws.specs.ToldApart.{reserved, told_pat, told_pats, told, told_all, told_gens, told_dom, told_doms}
use Rattle.conjure_model_laws.proofs.Renames.{or-first, or-shifted, Differ, Renames, renames-within, renames-later, renames-bound}
use Rattle.conjure_model_laws.proofs.Counted.{le-on, pats-up, pat-up, ex-up, all-up, gens-up, dom-up, doms-up}

module _ (lim : ℕ) (differ : Differ reserved lim) where
  abbrev R : (Text → Bool) → Names Text → ℕ → Vals → Vals → Type 0
  R = Renames reserved lim

  later : (u : Text → Bool) (r : Names Text) (k m : ℕ) (g h : Vals) → k ≤ m → R u r k g h → R u r m g h
  later = renames-later reserved lim

  mutual
    -- Behind a pattern names keep their values.
    pub pat-told : (p : Pat) (v : Value) (u : Text → Bool) (r : Names Text) (k : ℕ) (g h : Vals) → (told_pat p r k).2 ≤ lim → R u r k g h →
        R (with_names u p) (told_pat p r k).1 (told_pat p r k).2 (bind p v g) (bind (told_pat p r k).0 v h)
    pat-told (name_pat a) v u r k g h l s = renames-bound reserved lim differ a v u r k g h (omega (arith, l)) s
    pat-told (tuple_pat ps) v u r k g h l s = pats-told ps (items_of v) u r k g h l s

    pats-told : (ps : Pats) (vs : List Value) (u : Text → Bool) (r : Names Text) (k : ℕ) (g h : Vals) → (told_pats ps r k).2 ≤ lim →
        R u r k g h →
        R (λ a. u a || is_bound_by_some ps a) (told_pats ps r k).1 (told_pats ps r k).2 (bind_all ps vs g)
        (bind_all (told_pats ps r k).0 vs h)
    pats-told no_pats vs u r k g h l s = renames-within reserved lim u _ r k g h (λ c t. or-first (u c) false refl t) s
    pats-told (more_pats p ps) [] u r k g h l s =
        let q = told_pat p r k in
        renames-within reserved lim (λ a. with_names u p a || is_bound_by_some ps a) _ _ _ _ _
        (λ c t. or-shifted (u c) (is_bound p c) (is_bound_by_some ps c) t)
        (pats-told ps [] (with_names u p) q.1 q.2 (bind p misfit g) (bind q.0 misfit h) l
        (pat-told p misfit u r k g h (le-on q.2 (told_pats ps q.1 q.2).2 lim (pats-up ps q.1 q.2) l) s))
    pats-told (more_pats p ps) (v ∷ vs) u r k g h l s =
        let q = told_pat p r k in
        renames-within reserved lim (λ a. with_names u p a || is_bound_by_some ps a) _ _ _ _ _
        (λ c t. or-shifted (u c) (is_bound p c) (is_bound_by_some ps c) t)
        (pats-told ps vs (with_names u p) q.1 q.2 (bind p v g) (bind q.0 v h) l
        (pat-told p v u r k g h (le-on q.2 (told_pats ps q.1 q.2).2 lim (pats-up ps q.1 q.2) l) s))

  module _ (pl : Bool) (ts : List TypeEntry) (cs : Names Table) where
    abbrev M : Vals → Env
    M g = E pl ts cs g

    mutual
      -- An expression.
      pub meaning-told : (e : Ex) (u : Text → Bool) (r : Names Text) (k : ℕ) (g h : Vals) → Plain e → FreeNamesAre u e →
          (told e r k).1 ≤ lim → R u r k g h → meaning (told e r k).0 (M h) ≡ meaning e (M g)
      meaning-told (number_ex m) u r k g h w o l s = refl
      meaning-told (truth_ex m) u r k g h w o l s = refl
      meaning-told (name_ex a) u r k g h w o l s = (s a o).0
      meaning-told (node_ex q op es) u r k g h w o l s =
          ap (λ x. false_where_undefined q (value_of_node op x)) (meanings-told es u r k g h w o l s)
      meaning-told (matrix_ex es d) u r k g h w o l s =
          let q = (told_all es r k).1 in
          ap (λ x. and_then (all_some x) (matrix_value (members_in (domain_of (told_dom d r q).0 (M h)))))
          (meanings-told es u r k g h w.0 o.0 (le-on q (told_dom d r q).1 lim (dom-up d r q) l) s)
          ∙ ap (λ x. and_then (all_some (meanings es (M g))) (matrix_value (members_in x)))
          (domain-told d u r q g h w.1 o.1 l (later u r k q g h (all-up es r k) s))
      meaning-told (comp_ex e gs) u r k g h w o l s =
          let q = told_gens gs r k in
          ap (option_map list_value) (items-told gs u r k g h (λ here. option_map (λ v. v ∷ []) (meaning e here))
          (λ here. option_map (λ v. v ∷ []) (meaning (told e q.1 q.2).0 here)) w.1 o.0
          (le-on q.2 (told e q.1 q.2).1 lim (ex-up e q.1 q.2) l) s
          (λ g' h' s'. ap (option_map (λ v. v ∷ [])) (meaning-told e (with_bound_names u gs) q.1 q.2 g' h' w.0 o.1 l s')))
      meaning-told (cell_ex q c es) u r k g h w o l s = absurd w
      meaning-told (seen_ex x d ns es) u r k g h w o l s = absurd w

      meanings-told : (es : Exs) (u : Text → Bool) (r : Names Text) (k : ℕ) (g h : Vals) → PlainAll es → FreeNamesAreExs u es →
          (told_all es r k).1 ≤ lim → R u r k g h → meanings (told_all es r k).0 (M h) ≡ meanings es (M g)
      meanings-told no_exs u r k g h w o l s = refl
      meanings-told (more_exs e es) u r k g h w o l s =
          let q = (told e r k).1 in
          ap (λ x. x ∷ meanings (told_all es r q).0 (M h))
          (meaning-told e u r k g h w.0 o.0 (le-on q (told_all es r q).1 lim (all-up es r q) l) s)
          ∙ ap (λ x. meaning e (M g) ∷ x) (meanings-told es u r q g h w.1 o.1 l (later u r k q g h (ex-up e r k) s))

      -- Generators, where what stands behind them means the same.
      pub items-told : (gs : Gens) (u : Text → Bool) (r : Names Text) (k : ℕ) (g h : Vals) (x y : Env → Option (List Value)) →
          PlainGens gs → FreeNamesAreGens u gs → (told_gens gs r k).2 ≤ lim → R u r k g h →
          ((g' h' : Vals) → R (with_bound_names u gs) (told_gens gs r k).1 (told_gens gs r k).2 g' h' → y (M h') ≡ x (M g')) →
          items_under (told_gens gs r k).0 (M h) y ≡ items_under gs (M g) x
      items-told no_gens u r k g h x y w o l s f = f g h s
      items-told (over p d gs) u r k g h x y w o l s f =
          let c = told_dom d r k in
          let q = told_pat p r c.1 in
          let rest = told_gens gs q.1 q.2 in
          let m = le-on q.2 rest.2 lim (gens-up gs q.1 q.2) l in
          and_then-same (members_in (domain_of c.0 (M h))) (members_in (domain_of d (M g)))
          (λ vs. collect vs (λ v. items_under rest.0 (with_pat q.0 v (M h)) y))
          (λ vs. collect vs (λ v. items_under gs (with_pat p v (M g)) x))
          (ap members_in (domain-told d u r k g h w.0 o.0 (le-on c.1 q.2 lim (pat-up p r c.1) m) s))
          (λ vs. collect-same vs (λ v. items_under rest.0 (with_pat q.0 v (M h)) y) (λ v. items_under gs (with_pat p v (M g)) x)
          (λ v. items-told gs (with_names u p) q.1 q.2 (bind p v g) (bind q.0 v h) x y w.1 o.1 l
          (pat-told p v u r c.1 g h m (later u r k c.1 g h (dom-up d r k) s)) f))
      items-told (from p e gs) u r k g h x y w o l s f =
          let c = told e r k in
          let q = told_pat p r c.1 in
          let rest = told_gens gs q.1 q.2 in
          let m = le-on q.2 rest.2 lim (gens-up gs q.1 q.2) l in
          and_then-same (meaning c.0 (M h)) (meaning e (M g))
          (λ z. collect (items_of z) (λ v. items_under rest.0 (with_pat q.0 v (M h)) y))
          (λ z. collect (items_of z) (λ v. items_under gs (with_pat p v (M g)) x))
          (meaning-told e u r k g h w.0 o.0 (le-on c.1 q.2 lim (pat-up p r c.1) m) s)
          (λ z. collect-same (items_of z) (λ v. items_under rest.0 (with_pat q.0 v (M h)) y) (λ v. items_under gs (with_pat p v (M g)) x)
          (λ v. items-told gs (with_names u p) q.1 q.2 (bind p v g) (bind q.0 v h) x y w.1 o.1 l
          (pat-told p v u r c.1 g h m (later u r k c.1 g h (ex-up e r k) s)) f))
      items-told (cond e gs) u r k g h x y w o l s f =
          let c = told e r k in
          let rest = told_gens gs r c.1 in
          where-same (meaning c.0 (M h)) (meaning e (M g)) (items_under rest.0 (M h) y) (items_under gs (M g) x)
          (meaning-told e u r k g h w.0 o.0 (le-on c.1 rest.2 lim (gens-up gs r c.1) l) s)
          (items-told gs u r c.1 g h x y w.1 o.1 l (later u r k c.1 g h (ex-up e r k) s) f)

      -- A domain.
      pub domain-told : (d : Dom) (u : Text → Bool) (r : Names Text) (k : ℕ) (g h : Vals) → PlainDom d → FreeNamesAreDom u d →
          (told_dom d r k).1 ≤ lim → R u r k g h → domain_of (told_dom d r k).0 (M h) ≡ domain_of d (M g)
      domain-told bool_dom u r k g h w o l s = refl
      domain-told (int_dom rs es) u r k g h w o l s = ap (λ x. option_map integers (spans_of rs x)) (meanings-told es u r k g h w o l s)
      domain-told (name_dom a) u r k g h w o l s = refl
      domain-told (tuple_dom ds) u r k g h w o l s = ap (option_map tuples) (domains-told ds u r k g h w o l s)
      domain-told (record_dom fs ds) u r k g h w o l s = ap (option_map (records fs)) (domains-told ds u r k g h w o l s)
      domain-told (matrix_dom is d) u r k g h w o l s =
          let q = told_doms is r k in
          two (domains_of q.0 (M h)) (domains_of is (M g)) matrices
          (domains-told is u r k g h w.0 o.0 (le-on q.1 (told_dom d r q.1).1 lim (dom-up d r q.1) l) s)
          (domain-told d u r q.1 g h w.1 o.1 l (later u r k q.1 g h (doms-up is r k) s))
      domain-told (set_dom ks es d) u r k g h w o l s =
          let q = told_all es r k in
          two (attributes_of ks (meanings q.0 (M h))) (attributes_of ks (meanings es (M g))) sets
          (ap (attributes_of ks) (meanings-told es u r k g h w.0 o.0 (le-on q.1 (told_dom d r q.1).1 lim (dom-up d r q.1) l) s))
          (domain-told d u r q.1 g h w.1 o.1 l (later u r k q.1 g h (all-up es r k) s))
      domain-told (mset_dom ks es d) u r k g h w o l s =
          let q = told_all es r k in
          two (attributes_of ks (meanings q.0 (M h))) (attributes_of ks (meanings es (M g))) msets
          (ap (attributes_of ks) (meanings-told es u r k g h w.0 o.0 (le-on q.1 (told_dom d r q.1).1 lim (dom-up d r q.1) l) s))
          (domain-told d u r q.1 g h w.1 o.1 l (later u r k q.1 g h (all-up es r k) s))
      domain-told (function_dom ks es d c) u r k g h w o l s =
          let q = told_all es r k in
          let t = told_dom d r q.1 in
          let m = le-on t.1 (told_dom c r t.1).1 lim (dom-up c r t.1) l in
          and_then-same (attributes_of ks (meanings q.0 (M h))) (attributes_of ks (meanings es (M g))) _ _
          (ap (attributes_of ks) (meanings-told es u r k g h w.0 o.0 (le-on q.1 t.1 lim (dom-up d r q.1) m) s))
          (λ as'. two (domain_of t.0 (M h)) (domain_of d (M g)) (functions as')
          (domain-told d u r q.1 g h w.1 o.1 m (later u r k q.1 g h (all-up es r k) s))
          (domain-told c u r t.1 g h w.2 o.2 l (later u r k t.1 g h (le-on k q.1 t.1 (all-up es r k) (dom-up d r q.1)) s)))
      domain-told (relation_dom ks es ds) u r k g h w o l s =
          let q = told_all es r k in
          two (attributes_of ks (meanings q.0 (M h))) (attributes_of ks (meanings es (M g))) relations
          (ap (attributes_of ks) (meanings-told es u r k g h w.0 o.0 (le-on q.1 (told_doms ds r q.1).1 lim (doms-up ds r q.1) l) s))
          (domains-told ds u r q.1 g h w.1 o.1 l (later u r k q.1 g h (all-up es r k) s))
      domain-told (partition_dom ks es d) u r k g h w o l s =
          let q = told_all es r k in
          two (attributes_of ks (meanings q.0 (M h))) (attributes_of ks (meanings es (M g))) partitions
          (ap (attributes_of ks) (meanings-told es u r k g h w.0 o.0 (le-on q.1 (told_dom d r q.1).1 lim (dom-up d r q.1) l) s))
          (domain-told d u r q.1 g h w.1 o.1 l (later u r k q.1 g h (all-up es r k) s))

      domains-told : (ds : Doms) (u : Text → Bool) (r : Names Text) (k : ℕ) (g h : Vals) → PlainDoms ds → FreeNamesAreDoms u ds →
          (told_doms ds r k).1 ≤ lim → R u r k g h → domains_of (told_doms ds r k).0 (M h) ≡ domains_of ds (M g)
      domains-told no_doms u r k g h w o l s = refl
      domains-told (more_doms d ds) u r k g h w o l s =
          let q = told_dom d r k in
          two (domain_of q.0 (M h)) (domain_of d (M g)) more_domains
          (domain-told d u r k g h w.0 o.0 (le-on q.1 (told_doms ds r q.1).1 lim (doms-up ds r q.1) l) s)
          (domains-told ds u r q.1 g h w.1 o.1 l (later u r k q.1 g h (dom-up d r k) s))
