-- Values of names that agree on the free names of a tree leave it total, and its structures met.
use Rattle.std.proofs.Common.{sym, ap, ◌∙◌, subst, Bool, true, false, List, is_some}
use Rattle.ess_semantics.specs.Values.{Text}
use Rattle.ess_semantics.specs.Names.{Names}
use Rattle.ess_semantics.specs.Trees.{Ex, Exs, number_ex, truth_ex, name_ex, node_ex, matrix_ex, comp_ex, cell_ex, seen_ex, no_exs, more_exs, Gens, no_gens, over, from, cond, Dom, Doms, bool_dom, int_dom, name_dom, tuple_dom, record_dom, matrix_dom, set_dom, mset_dom, function_dom, relation_dom, partition_dom, no_doms, more_doms}
use Rattle.ess_semantics.specs.Operators.{as_truth, value_of_node}
use Rattle.ess_semantics.specs.Tables.{Table}
use Rattle.ess_semantics.specs.Contexts.{EachOf, EachIn, guards}
use Rattle.ess_semantics.specs.Scoped.{with_names}
use Rattle.ess_semantics.specs.FreeNames.{with_bound_names, FreeNamesAre, FreeNamesAreExs, FreeNamesAreGens, FreeNamesAreDom, FreeNamesAreDoms}
use Rattle.ess_semantics.specs.Meaning.{Env, TypeEntry, bind, with_pat, meaning, meanings, domain_of, members_in, indices, tables_in}
use Rattle.ess_semantics.specs.Meets.{Meets, MeetsAll, MeetsGens, MeetsDom, MeetsDoms, tidy_in}
use Rattle.ess_semantics.specs.Totality.{HasValue, Total, TotalAll, TotalUnder, TotalDom, TotalDoms}
use Rattle.ess_rules_laws.proofs.Agreement.{AgreeOn}
use Rattle.ess_rules_laws.proofs.Bindings.{each-of-map, each-in-map}
use Rattle.ess_rules_laws.proofs.FreeNames.{bind-agrees, meaning-free, meanings-free, domain-free}
use Rattle.ess_rules_laws.proofs.Simulation.{Vals, E}

module _ (pl : Bool) (ts : List TypeEntry) (cs : Names Table) where
  abbrev M : Vals → Env
  M g = E pl ts cs g

  abbrev U : Type 0
  U = Text → Bool

  -- ---- totality

  mutual
    total-free : (e : Ex) (u : U) (g h : Vals) → FreeNamesAre u e → AgreeOn u g h → Total e (M g) → Total e (M h)
    total-free (number_ex n) u g h o s t = tt
    total-free (truth_ex b) u g h o s t = tt
    total-free (name_ex a) u g h o s t = tt
    total-free (node_ex b op es) u g h o s t =
        (subst (λ x. HasValue (value_of_node op x) x) (meanings-free pl ts cs es u g h o s) t.0, totals-free es u g h o s t.1)
    total-free (matrix_ex es d) u g h o s t = (
      λ k. subst (λ x. HasValue (meaning (matrix_ex es d) (M h)) x) (meanings-free pl ts cs es u g h o.0 s)
          (subst (λ y. HasValue y (meanings es (M g))) (meaning-free pl ts cs (matrix_ex es d) u g h o s)
          (t.0 (ap is_some (domain-free pl ts cs d u g h o.1 s) ∙ k))),
      totals-free es u g h o.0 s t.1,
      total-dom-free d u g h o.1 s t.2,
    )
    total-free (comp_ex e gs) u g h o s t =
        under-free gs u g h e o.0 s (λ g' h' s' x. total-free e (with_bound_names u gs) g' h' o.1 s' x) t
    total-free (cell_ex b n es) u g h o s t = totals-free es u g h o s t
    total-free (seen_ex r d ns es) u g h o s t = tt

    totals-free : (es : Exs) (u : U) (g h : Vals) → FreeNamesAreExs u es → AgreeOn u g h → TotalAll es (M g) → TotalAll es (M h)
    totals-free no_exs u g h o s t = tt
    totals-free (more_exs e es) u g h o s t = (total-free e u g h o.0 s t.0, totals-free es u g h o.1 s t.1)

    under-free : (gs : Gens) (u : U) (g h : Vals) (b : Ex) → FreeNamesAreGens u gs → AgreeOn u g h →
        ((g' h' : Vals) → AgreeOn (with_bound_names u gs) g' h' → Total b (M g') → Total b (M h')) →
        TotalUnder gs (M g) (λ here. Total b here) → TotalUnder gs (M h) (λ here. Total b here)
    under-free no_gens u g h b o s f t = f g h s t
    under-free (over p d gs) u g h b o s f t = (
      total-dom-free d u g h o.0 s t.0,
      subst (λ z. EachOf z (λ v. TotalUnder gs (with_pat p v (M h)) (λ here. Total b here)))
          (ap members_in (domain-free pl ts cs d u g h o.0 s))
          (each-of-map (members_in (domain_of d (M g))) _ _
          (λ v x. under-free gs (with_names u p) (bind p v g) (bind p v h) b o.1 (bind-agrees p u v g h s) f x) t.1),
    )
    under-free (from p e gs) u g h b o s f t = (
      total-free e u g h o.0 s t.0,
      subst (λ z. EachIn z (λ v. TotalUnder gs (with_pat p v (M h)) (λ here. Total b here))) (meaning-free pl ts cs e u g h o.0 s)
          (each-in-map (meaning e (M g)) _ _
          (λ v x. under-free gs (with_names u p) (bind p v g) (bind p v h) b o.1 (bind-agrees p u v g h s) f x) t.1),
    )
    under-free (cond e gs) u g h b o s f t =
        (total-free e u g h o.0 s t.0, λ w. under-free gs u g h b o.1 s f (t.1 (ap as_truth (meaning-free pl ts cs e u g h o.0 s) ∙ w)))

    -- A domain whose free names are in u is total under values that agree on u.
    pub total-dom-free : (d : Dom) (u : U) (g h : Vals) → FreeNamesAreDom u d → AgreeOn u g h → TotalDom d (M g) → TotalDom d (M h)
    total-dom-free bool_dom u g h o s t = tt
    total-dom-free (int_dom rs es) u g h o s t = totals-free es u g h o s t
    total-dom-free (name_dom a) u g h o s t = tt
    total-dom-free (tuple_dom ds) u g h o s t = total-doms-free ds u g h o s t
    total-dom-free (record_dom fs ds) u g h o s t = total-doms-free ds u g h o s t
    total-dom-free (matrix_dom is d) u g h o s t = (total-doms-free is u g h o.0 s t.0, total-dom-free d u g h o.1 s t.1)
    total-dom-free (set_dom ms es d) u g h o s t = (totals-free es u g h o.0 s t.0, total-dom-free d u g h o.1 s t.1)
    total-dom-free (mset_dom ms es d) u g h o s t = (totals-free es u g h o.0 s t.0, total-dom-free d u g h o.1 s t.1)
    total-dom-free (function_dom ms es d c) u g h o s t =
        (totals-free es u g h o.0 s t.0, total-dom-free d u g h o.1 s t.1, total-dom-free c u g h o.2 s t.2)
    total-dom-free (relation_dom ms es ds) u g h o s t = (totals-free es u g h o.0 s t.0, total-doms-free ds u g h o.1 s t.1)
    total-dom-free (partition_dom ms es d) u g h o s t = (totals-free es u g h o.0 s t.0, total-dom-free d u g h o.1 s t.1)

    total-doms-free : (ds : Doms) (u : U) (g h : Vals) → FreeNamesAreDoms u ds → AgreeOn u g h → TotalDoms ds (M g) → TotalDoms ds (M h)
    total-doms-free no_doms u g h o s t = tt
    total-doms-free (more_doms d ds) u g h o s t = (total-dom-free d u g h o.0 s t.0, total-doms-free ds u g h o.1 s t.1)

  -- ---- structures

  mutual
    met-free : (e : Ex) (u : U) (g h : Vals) → FreeNamesAre u e → AgreeOn u g h → Meets e (M g) → Meets e (M h)
    met-free (number_ex n) u g h o s t = tt
    met-free (truth_ex b) u g h o s t = tt
    met-free (name_ex a) u g h o s t = tt
    met-free (node_ex b op es) u g h o s t = mets-free (guards op) es u g h o s t
    met-free (matrix_ex es d) u g h o s t = (mets-free false es u g h o.0 s t.0, met-dom-free d u g h o.1 s t.1)
    met-free (comp_ex e gs) u g h o s t =
        gens-free gs u g h e o.0 s (λ g' h' s' x. met-free e (with_bound_names u gs) g' h' o.1 s' x) t
    met-free (cell_ex b n es) u g h o s t = mets-free false es u g h o s t
    met-free (seen_ex r d ns es) u g h o s t = (
      sym (ap (λ z. tidy_in r z (tables_in cs ns) (indices (meanings es (M g)))) (domain-free pl ts cs d u g h o.0 s)
          ∙ ap (λ z. tidy_in r (domain_of d (M h)) (tables_in cs ns) (indices z)) (meanings-free pl ts cs es u g h o.1 s)) ∙ t.0,
      met-dom-free d u g h o.0 s t.1,
      mets-free false es u g h o.1 s t.2,
    )

    mets-free : (b : Bool) (es : Exs) (u : U) (g h : Vals) → FreeNamesAreExs u es → AgreeOn u g h → MeetsAll b es (M g) →
        MeetsAll b es (M h)
    mets-free b no_exs u g h o s t = tt
    mets-free true (more_exs e es) u g h o s t =
        (met-free e u g h o.0 s t.0, λ w. mets-free false es u g h o.1 s (t.1 (ap as_truth (meaning-free pl ts cs e u g h o.0 s) ∙ w)))
    mets-free false (more_exs e es) u g h o s t = (met-free e u g h o.0 s t.0, mets-free false es u g h o.1 s t.1)

    gens-free : (gs : Gens) (u : U) (g h : Vals) (b : Ex) → FreeNamesAreGens u gs → AgreeOn u g h →
        ((g' h' : Vals) → AgreeOn (with_bound_names u gs) g' h' → Meets b (M g') → Meets b (M h')) →
        MeetsGens gs (M g) (λ here. Meets b here) → MeetsGens gs (M h) (λ here. Meets b here)
    gens-free no_gens u g h b o s f t = f g h s t
    gens-free (over p d gs) u g h b o s f t = (
      met-dom-free d u g h o.0 s t.0,
      subst (λ z. EachOf z (λ v. MeetsGens gs (with_pat p v (M h)) (λ here. Meets b here)))
          (ap members_in (domain-free pl ts cs d u g h o.0 s))
          (each-of-map (members_in (domain_of d (M g))) _ _
          (λ v x. gens-free gs (with_names u p) (bind p v g) (bind p v h) b o.1 (bind-agrees p u v g h s) f x) t.1),
    )
    gens-free (from p e gs) u g h b o s f t = (
      met-free e u g h o.0 s t.0,
      subst (λ z. EachIn z (λ v. MeetsGens gs (with_pat p v (M h)) (λ here. Meets b here))) (meaning-free pl ts cs e u g h o.0 s)
          (each-in-map (meaning e (M g)) _ _
          (λ v x. gens-free gs (with_names u p) (bind p v g) (bind p v h) b o.1 (bind-agrees p u v g h s) f x) t.1),
    )
    gens-free (cond e gs) u g h b o s f t =
        (met-free e u g h o.0 s t.0, λ w. gens-free gs u g h b o.1 s f (t.1 (ap as_truth (meaning-free pl ts cs e u g h o.0 s) ∙ w)))

    -- So its structures are met.
    pub met-dom-free : (d : Dom) (u : U) (g h : Vals) → FreeNamesAreDom u d → AgreeOn u g h → MeetsDom d (M g) → MeetsDom d (M h)
    met-dom-free bool_dom u g h o s t = tt
    met-dom-free (int_dom rs es) u g h o s t = mets-free false es u g h o s t
    met-dom-free (name_dom a) u g h o s t = tt
    met-dom-free (tuple_dom ds) u g h o s t = met-doms-free ds u g h o s t
    met-dom-free (record_dom fs ds) u g h o s t = met-doms-free ds u g h o s t
    met-dom-free (matrix_dom is d) u g h o s t = (met-doms-free is u g h o.0 s t.0, met-dom-free d u g h o.1 s t.1)
    met-dom-free (set_dom ms es d) u g h o s t = (mets-free false es u g h o.0 s t.0, met-dom-free d u g h o.1 s t.1)
    met-dom-free (mset_dom ms es d) u g h o s t = (mets-free false es u g h o.0 s t.0, met-dom-free d u g h o.1 s t.1)
    met-dom-free (function_dom ms es d c) u g h o s t =
        (mets-free false es u g h o.0 s t.0, met-dom-free d u g h o.1 s t.1, met-dom-free c u g h o.2 s t.2)
    met-dom-free (relation_dom ms es ds) u g h o s t = (mets-free false es u g h o.0 s t.0, met-doms-free ds u g h o.1 s t.1)
    met-dom-free (partition_dom ms es d) u g h o s t = (mets-free false es u g h o.0 s t.0, met-dom-free d u g h o.1 s t.1)

    met-doms-free : (ds : Doms) (u : U) (g h : Vals) → FreeNamesAreDoms u ds → AgreeOn u g h → MeetsDoms ds (M g) → MeetsDoms ds (M h)
    met-doms-free no_doms u g h o s t = tt
    met-doms-free (more_doms d ds) u g h o s t = (met-dom-free d u g h o.0 s t.0, met-doms-free ds u g h o.1 s t.1)
