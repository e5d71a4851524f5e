-- A tree that is in scope means what it meant once its bound names are told apart, with its cells and views.
use Rattle.std.proofs.Common.{◌≡◌, refl, ap, ◌∙◌, sym, ℕ, ◌<◌, ◌≤◌, Bool, false, List, [], ◌∷◌, Option, option_map}
use Rattle.std.specs.Prelude.{IsTrue}
use Rattle.ess_semantics.specs.Lists.{and_then, all_some}
use Rattle.ess_semantics.specs.Values.{Text, Value, items_of}
use Rattle.ess_semantics.specs.Order.{same_text}
use Rattle.ess_semantics.specs.Names.{Names, look}
use Rattle.ess_semantics.specs.Trees.{Ex, Exs, number_ex, truth_ex, name_ex, node_ex, matrix_ex, comp_ex, cell_ex, seen_ex, no_exs, more_exs, Gens, no_gens, over, from, cond, Dom, Doms, bool_dom, int_dom, name_dom, tuple_dom, record_dom, matrix_dom, set_dom, mset_dom, function_dom, relation_dom, partition_dom, no_doms, more_doms}
use Rattle.ess_semantics.specs.Operators.{value_of_node, false_where_undefined, list_value}
use Rattle.ess_semantics.specs.Domains.{integers, tuples, records, matrices, sets, msets, functions, relations, partitions, more_domains}
use Rattle.ess_semantics.specs.Tables.{Table}
use Rattle.ess_semantics.specs.Scoped.{with_names, IsPlainIndex, Scoped, ScopedExs, ScopedGens, ScopedDom, ScopedDoms}
use Rattle.ess_semantics.specs.Meaning.{Env, TypeEntry, bind, with_pat, collect, meaning, meanings, items_under, domain_of, domains_of, members_in, spans_of, attributes_of, matrix_value, seen_in, cell_in, indices, tables_in, is_bool_dom}
use Rattle.ess_rules_laws.proofs.Simulation.{Vals, E, collect-same, and_then-same, where-same, two}
use Rattle.ess_rules_laws.proofs.Agreement.{domain-agree}
use Rattle.conjure_model_laws.specs.ToldApart.{reserved, told, told_all, told_gens, told_pat, told_dom, told_doms}
use Rattle.ess_chain_names_laws.proofs.ToldNames.{on, pat-up, ex-up, all-up, gens-up, dom-up, doms-up}
use Rattle.ess_told_over_laws.proofs.Renamed.{Here, later, over-here, from-here}

module _ (z : Text → Bool) (lim : ℕ) (differ : (i j : ℕ) → i < j → j < lim → same_text (reserved j) (reserved i) ≡ false)
    (pl : Bool) (ts : List TypeEntry) (cs : Names Table) where
  abbrev M : Vals → Env
  M g = E pl ts cs g

  abbrev H : (Text → Bool) → (Text → Bool) → Names Text → ℕ → Vals → Vals → Type 0
  H s o r k g h = Here z lim differ s o r k g h

  on-later : (s o : Text → Bool) (r : Names Text) (k m : ℕ) (g h : Vals) → k ≤ m → H s o r k g h → H s o r m g h
  on-later s o r k m g h l x = later z lim differ s o r k m g h l x

  -- Numbers and names of an index list.
  pub index-told : (es : Exs) (s o : Text → Bool) (r : Names Text) (k : ℕ) (g h : Vals) → IsPlainIndex o es → H s o r k g h →
      meanings (told_all es r k).0 (M h) ≡ meanings es (M g)
  index-told no_exs s o r k g h w x = refl
  index-told (more_exs (number_ex n) es) s o r k g h w x = ap (λ y. meaning (number_ex n) (M g) ∷ y) (index-told es s o r k g h w x)
  index-told (more_exs (name_ex a) es) s o r k g h w x =
      ap (λ y. y ∷ meanings (told_all es r k).0 (M h)) ((x.values a (x.within a w.0)).0)
      ∙ ap (λ y. look g a ∷ y) (index-told es s o r k g h w.1 x)
  index-told (more_exs (truth_ex n) es) s o r k g h w x = absurd w
  index-told (more_exs (node_ex b op ds) es) s o r k g h w x = absurd w
  index-told (more_exs (matrix_ex ds d) es) s o r k g h w x = absurd w
  index-told (more_exs (comp_ex e gs) es) s o r k g h w x = absurd w
  index-told (more_exs (cell_ex b n ds) es) s o r k g h w x = absurd w
  index-told (more_exs (seen_ex r' d ns ds) es) s o r k g h w x = absurd w

  -- The values agree on the names that domains of declarations use.
  pub kept-names : (s o : Text → Bool) (r : Names Text) (k : ℕ) (g h : Vals) → H s o r k g h → (c : Text) → IsTrue (z c) →
      look g c ≡ look h c
  kept-names s o r k g h x c t = sym (ap (λ y. look h y) (sym (x.untouched c t)) ∙ (x.values c (x.around c t)).0)

  mutual
    -- An expression.
    pub meaning-told : (e : Ex) (s o : Text → Bool) (r : Names Text) (k : ℕ) (g h : Vals) → Scoped z s o e → (told e r k).1 ≤ lim →
        H s o r k g h → meaning (told e r k).0 (M h) ≡ meaning e (M g)
    meaning-told (number_ex m) s o r k g h w l x = refl
    meaning-told (truth_ex m) s o r k g h w l x = refl
    meaning-told (name_ex a) s o r k g h w l x = (x.values a w).0
    meaning-told (node_ex q op es) s o r k g h w l x =
        ap (λ y. false_where_undefined q (value_of_node op y)) (meanings-told es s o r k g h w l x)
    meaning-told (matrix_ex es d) s o r k g h w l x =
        let q = (told_all es r k).1 in
        ap (λ y. and_then (all_some y) (matrix_value (members_in (domain_of (told_dom d r q).0 (M h)))))
        (meanings-told es s o r k g h w.0 (on q (told_dom d r q).1 lim (dom-up d r q) l) x)
        ∙ ap (λ y. and_then (all_some (meanings es (M g))) (matrix_value (members_in y)))
        (domain-told d s o r q g h w.1 l (on-later s o r k q g h (all-up es r k) x))
    meaning-told (comp_ex e gs) s o r k g h w l x =
        let q = told_gens gs r k in
        ap (option_map list_value) (items-told gs s o e r k g h
        (λ here. option_map (λ v. v ∷ []) (meaning e here)) (λ here. option_map (λ v. v ∷ []) (meaning (told e q.1 q.2).0 here)) w
        (on q.2 (told e q.1 q.2).1 lim (ex-up e q.1 q.2) l) x
        (λ t p g' h' w' x'. ap (option_map (λ v. v ∷ [])) (meaning-told e t p q.1 q.2 g' h' w' l x')))
    meaning-told (cell_ex q n es) s o r k g h w l x =
        ap (λ y. false_where_undefined q (cell_in q (look cs n) (indices y))) (meanings-told es s o r k g h w l x)
    meaning-told (seen_ex y d ns es) s o r k g h w l x =
        ap (λ c. false_where_undefined (is_bool_dom d) (seen_in y c (tables_in cs ns) (indices (meanings (told_all es r k).0 (M h)))))
        (domain-agree pl ts cs z d g h w.0 (kept-names s o r k g h x))
        ∙ ap (λ i. false_where_undefined (is_bool_dom d) (seen_in y (domain_of d (M g)) (tables_in cs ns) (indices i)))
        (index-told es s o r k g h w.1 x)

    pub meanings-told : (es : Exs) (s o : Text → Bool) (r : Names Text) (k : ℕ) (g h : Vals) → ScopedExs z s o es →
        (told_all es r k).1 ≤ lim → H s o r k g h → meanings (told_all es r k).0 (M h) ≡ meanings es (M g)
    meanings-told no_exs s o r k g h w l x = refl
    meanings-told (more_exs e es) s o r k g h w l x =
        let q = (told e r k).1 in
        ap (λ y. y ∷ meanings (told_all es r q).0 (M h))
        (meaning-told e s o r k g h w.0 (on q (told_all es r q).1 lim (all-up es r q) l) x)
        ∙ ap (λ y. meaning e (M g) ∷ y) (meanings-told es s o r q g h w.1 l (on-later s o r k q g h (ex-up e r k) x))

    -- Generators, where what stands behind them means the same.
    pub items-told : (gs : Gens) (s o : Text → Bool) (K : Ex) (r : Names Text) (k : ℕ) (g h : Vals)
        (x y : Env → Option (List Value)) → ScopedGens z s o gs (λ t p. Scoped z t p K) → (told_gens gs r k).2 ≤ lim → H s o r k g h →
        ((t p : Text → Bool) (g' h' : Vals) → Scoped z t p K → H t p (told_gens gs r k).1 (told_gens gs r k).2 g' h' →
        y (M h') ≡ x (M g')) →
        items_under (told_gens gs r k).0 (M h) y ≡ items_under gs (M g) x
    items-told no_gens s o K r k g h x y w l i f = f s o g h w i
    items-told (over p d gs) s o K r k g h x y w l i f =
        let c = told_dom d r k in
        let q = told_pat p r c.1 in
        let rest = told_gens gs q.1 q.2 in
        let m = on q.2 rest.2 lim (gens-up gs q.1 q.2) l in
        and_then-same (members_in (domain_of c.0 (M h))) (members_in (domain_of d (M g)))
        (λ vs. collect vs (λ v. items_under rest.0 (with_pat q.0 v (M h)) y))
        (λ vs. collect vs (λ v. items_under gs (with_pat p v (M g)) x))
        (ap members_in (domain-told d s o r k g h w.1 (on c.1 q.2 lim (pat-up p r c.1) m) i))
        (λ vs. collect-same vs (λ v. items_under rest.0 (with_pat q.0 v (M h)) y) (λ v. items_under gs (with_pat p v (M g)) x)
        (λ v. items-told gs (with_names s p) (with_names o p) K q.1 q.2 (bind p v g) (bind q.0 v h) x y w.2 l
        (over-here z lim differ p v s o r c.1 g h m w.0 (on-later s o r k c.1 g h (dom-up d r k) i)) f))
    items-told (from p e gs) s o K r k g h x y w l i f =
        let c = told e r k in
        let q = told_pat p r c.1 in
        let rest = told_gens gs q.1 q.2 in
        let m = on q.2 rest.2 lim (gens-up gs q.1 q.2) l in
        and_then-same (meaning c.0 (M h)) (meaning e (M g))
        (λ a. collect (items_of a) (λ v. items_under rest.0 (with_pat q.0 v (M h)) y))
        (λ a. collect (items_of a) (λ v. items_under gs (with_pat p v (M g)) x))
        (meaning-told e s o r k g h w.1 (on c.1 q.2 lim (pat-up p r c.1) m) i)
        (λ a. collect-same (items_of a) (λ v. items_under rest.0 (with_pat q.0 v (M h)) y) (λ v. items_under gs (with_pat p v (M g)) x)
        (λ v. items-told gs (with_names s p) o K q.1 q.2 (bind p v g) (bind q.0 v h) x y w.2 l
        (from-here z lim differ p v s o r c.1 g h m w.0 (on-later s o r k c.1 g h (ex-up e r k) i)) f))
    items-told (cond e gs) s o K r k g h x y w l i f =
        let c = told e r k in
        let rest = told_gens gs r c.1 in
        where-same (meaning c.0 (M h)) (meaning e (M g)) (items_under rest.0 (M h) y) (items_under gs (M g) x)
        (meaning-told e s o r k g h w.0 (on c.1 rest.2 lim (gens-up gs r c.1) l) i)
        (items-told gs s o K r c.1 g h x y w.1 l (on-later s o r k c.1 g h (ex-up e r k) i) f)

    -- A domain.
    pub domain-told : (d : Dom) (s o : Text → Bool) (r : Names Text) (k : ℕ) (g h : Vals) → ScopedDom z s o d → (told_dom d r k).1 ≤ lim →
        H s o r k g h → domain_of (told_dom d r k).0 (M h) ≡ domain_of d (M g)
    domain-told bool_dom s o r k g h w l x = refl
    domain-told (int_dom rs es) s o r k g h w l x = ap (λ y. option_map integers (spans_of rs y)) (meanings-told es s o r k g h w l x)
    domain-told (name_dom a) s o r k g h w l x = refl
    domain-told (tuple_dom ds) s o r k g h w l x = ap (option_map tuples) (domains-told ds s o r k g h w l x)
    domain-told (record_dom fs ds) s o r k g h w l x = ap (option_map (records fs)) (domains-told ds s o r k g h w l x)
    domain-told (matrix_dom is d) s o r k g h w l x =
        let q = told_doms is r k in
        two (domains_of q.0 (M h)) (domains_of is (M g)) matrices
        (domains-told is s o r k g h w.0 (on q.1 (told_dom d r q.1).1 lim (dom-up d r q.1) l) x)
        (domain-told d s o r q.1 g h w.1 l (on-later s o r k q.1 g h (doms-up is r k) x))
    domain-told (set_dom ks es d) s o r k g h w l x =
        let q = told_all es r k in
        two (attributes_of ks (meanings q.0 (M h))) (attributes_of ks (meanings es (M g))) sets
        (ap (attributes_of ks) (meanings-told es s o r k g h w.0 (on q.1 (told_dom d r q.1).1 lim (dom-up d r q.1) l) x))
        (domain-told d s o r q.1 g h w.1 l (on-later s o r k q.1 g h (all-up es r k) x))
    domain-told (mset_dom ks es d) s o r k g h w l x =
        let q = told_all es r k in
        two (attributes_of ks (meanings q.0 (M h))) (attributes_of ks (meanings es (M g))) msets
        (ap (attributes_of ks) (meanings-told es s o r k g h w.0 (on q.1 (told_dom d r q.1).1 lim (dom-up d r q.1) l) x))
        (domain-told d s o r q.1 g h w.1 l (on-later s o r k q.1 g h (all-up es r k) x))
    domain-told (function_dom ks es d c) s o r k g h w l x =
        let q = told_all es r k in
        let t = told_dom d r q.1 in
        let m = on t.1 (told_dom c r t.1).1 lim (dom-up c r t.1) l in
        and_then-same (attributes_of ks (meanings q.0 (M h))) (attributes_of ks (meanings es (M g))) _ _
        (ap (attributes_of ks) (meanings-told es s o r k g h w.0 (on q.1 t.1 lim (dom-up d r q.1) m) x))
        (λ as'. two (domain_of t.0 (M h)) (domain_of d (M g)) (functions as')
        (domain-told d s o r q.1 g h w.1 m (on-later s o r k q.1 g h (all-up es r k) x))
        (domain-told c s o r t.1 g h w.2 l (on-later s o r k t.1 g h (on k q.1 t.1 (all-up es r k) (dom-up d r q.1)) x)))
    domain-told (relation_dom ks es ds) s o r k g h w l x =
        let q = told_all es r k in
        two (attributes_of ks (meanings q.0 (M h))) (attributes_of ks (meanings es (M g))) relations
        (ap (attributes_of ks) (meanings-told es s o r k g h w.0 (on q.1 (told_doms ds r q.1).1 lim (doms-up ds r q.1) l) x))
        (domains-told ds s o r q.1 g h w.1 l (on-later s o r k q.1 g h (all-up es r k) x))
    domain-told (partition_dom ks es d) s o r k g h w l x =
        let q = told_all es r k in
        two (attributes_of ks (meanings q.0 (M h))) (attributes_of ks (meanings es (M g))) partitions
        (ap (attributes_of ks) (meanings-told es s o r k g h w.0 (on q.1 (told_dom d r q.1).1 lim (dom-up d r q.1) l) x))
        (domain-told d s o r q.1 g h w.1 l (on-later s o r k q.1 g h (all-up es r k) x))

    domains-told : (ds : Doms) (s o : Text → Bool) (r : Names Text) (k : ℕ) (g h : Vals) → ScopedDoms z s o ds →
        (told_doms ds r k).1 ≤ lim → H s o r k g h → domains_of (told_doms ds r k).0 (M h) ≡ domains_of ds (M g)
    domains-told no_doms s o r k g h w l x = refl
    domains-told (more_doms d ds) s o r k g h w l x =
        let q = told_dom d r k in
        two (domain_of q.0 (M h)) (domain_of d (M g)) more_domains
        (domain-told d s o r k g h w.0 (on q.1 (told_doms ds r q.1).1 lim (doms-up ds r q.1) l) x)
        (domains-told ds s o r q.1 g h w.1 l (on-later s o r k q.1 g h (dom-up d r k) x))
