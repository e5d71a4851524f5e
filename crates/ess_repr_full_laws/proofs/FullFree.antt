-- Values of names that agree on the free names of a tree leave the tables full for it.
use Rattle.std.proofs.Common.{◌≡◌, sym, ap, ◌∙◌, subst, Bool, true, false, ◌||◌, List, Option, is_some, IsTrue}
use Rattle.ess_semantics.specs.Lists.{is_some_and}
use Rattle.ess_semantics.specs.Values.{Text, Value}
use Rattle.ess_semantics.specs.Names.{Names}
use Rattle.ess_semantics.specs.Trees.{Ex, Exs, number_ex, truth_ex, name_ex, node_ex, matrix_ex, comp_ex, cell_ex, seen_ex, no_exs, more_exs, Gens, no_gens, over, from, cond, Dom, Doms, bool_dom, int_dom, name_dom, tuple_dom, record_dom, matrix_dom, set_dom, mset_dom, function_dom, relation_dom, partition_dom, no_doms, more_doms}
use Rattle.ess_semantics.specs.Types.{Ty, type_of_dom, bind_types}
use Rattle.ess_semantics.specs.Typing.{source_ty}
use Rattle.ess_semantics.specs.Operators.{as_truth}
use Rattle.ess_semantics.specs.Tables.{Table}
use Rattle.ess_semantics.specs.Declarations.{declarations}
use Rattle.ess_semantics.specs.Contexts.{EachOf}
use Rattle.ess_semantics.specs.Scoped.{with_names}
use Rattle.ess_semantics.specs.FreeNames.{with_bound_names, FreeNamesAre, FreeNamesAreExs, FreeNamesAreGens, FreeNamesAreDom, FreeNamesAreDoms}
use Rattle.ess_semantics.specs.Meaning.{Env, TypeEntry, bind, with_pat, meaning, meanings, domain_of, members_in, indices, tables_in}
use Rattle.ess_semantics.specs.Occurrences.{has_cells}
use Rattle.ess_semantics.specs.Full.{are_there, Reached, Full, FullAll, FullUnder, FullDom, FullDoms}
use Rattle.ess_rules_laws.proofs.Agreement.{AgreeOn}
use Rattle.ess_rules_laws.proofs.Bindings.{each-of-map}
use Rattle.ess_rules_laws.proofs.FreeNames.{bind-agrees, meaning-free, meanings-free, domain-free}
use Rattle.ess_rules_laws.proofs.Simulation.{Vals, E}

-- What is reached under one value is reached under the same.
reached-same : (b : Bool) (o p : Option Value) (S T : Type 0) → o ≡ p → (S → T) → Reached b o S → Reached b p T
reached-same true o p S T e f t = f t
reached-same false o p S T e f t = λ w. f (t (ap as_truth e ∙ w))

module _ (pl : Bool) (ts : List TypeEntry) (cs : Names Table) where
  abbrev M : Vals → Env
  M g = E pl ts cs g

  abbrev U : Type 0
  U = Text → Bool

  mutual
    full-free : (e : Ex) (u : U) (k : Names Ty) (g h : Vals) → FreeNamesAre u e → AgreeOn u g h → Full e k (M g) → Full e k (M h)
    full-free (number_ex n) u k g h o s t = tt
    full-free (truth_ex b) u k g h o s t = tt
    full-free (name_ex a) u k g h o s t = tt
    full-free (node_ex b op es) u k g h o s t = fulls-free es u k g h o s t
    full-free (matrix_ex es d) u k g h o s t = (fulls-free es u k g h o.0 s t.0, full-dom-free d u k g h o.1 s t.1)
    full-free (comp_ex e gs) u k g h o s t =
        under-full gs u k g h e o.0 s (λ k' g' h' s' x. full-free e (with_bound_names u gs) k' g' h' o.1 s' x) t
    full-free (cell_ex b n es) u k g h o s t = (
      subst (λ v. IsTrue (b || is_some v)) (meaning-free pl ts cs (cell_ex b n es) u g h o s) t.0,
      fulls-free es u k g h o s t.1,
    )
    full-free (seen_ex r d ns es) u k g h o s t = (
      sym (ap (λ z. is_some_and z (λ e. is_some_and (tables_in cs ns) (λ c. is_some_and (indices (meanings es (M g)))
          (λ i. are_there i (declarations r e) c)))) (domain-free pl ts cs d u g h o.0 s)
          ∙ ap (λ z. is_some_and (domain_of d (M h)) (λ e. is_some_and (tables_in cs ns) (λ c. is_some_and (indices z)
          (λ i. are_there i (declarations r e) c)))) (meanings-free pl ts cs es u g h o.1 s)) ∙ t.0,
      full-dom-free d u k g h o.0 s t.1,
      fulls-free es u k g h o.1 s t.2,
    )

    fulls-free : (es : Exs) (u : U) (k : Names Ty) (g h : Vals) → FreeNamesAreExs u es → AgreeOn u g h → FullAll es k (M g) →
        FullAll es k (M h)
    fulls-free no_exs u k g h o s t = tt
    fulls-free (more_exs e es) u k g h o s t = (full-free e u k g h o.0 s t.0, fulls-free es u k g h o.1 s t.1)

    under-full : (gs : Gens) (u : U) (k : Names Ty) (g h : Vals) (b : Ex) → FreeNamesAreGens u gs → AgreeOn u g h →
        ((k' : Names Ty) (g' h' : Vals) → AgreeOn (with_bound_names u gs) g' h' → Full b k' (M g') → Full b k' (M h')) →
        FullUnder gs k (M g) (λ l here. Full b l here) → FullUnder gs k (M h) (λ l here. Full b l here)
    under-full no_gens u k g h b o s f t = f k g h s t
    under-full (over p d gs) u k g h b o s f t = (
      full-dom-free d u k g h o.0 s t.0,
      subst (λ z. EachOf z (λ v. FullUnder gs (bind_types p (type_of_dom d) k) (with_pat p v (M h)) (λ l here. Full b l here)))
          (ap members_in (domain-free pl ts cs d u g h o.0 s))
          (each-of-map (members_in (domain_of d (M g))) _ _
          (λ v x. under-full gs (with_names u p) (bind_types p (type_of_dom d) k) (bind p v g) (bind p v h) b o.1
          (bind-agrees p u v g h s) f x) t.1),
    )
    under-full (from p e gs) u k g h b o s f t = (
      full-free e u k g h o.0 s t.0,
      λ v w. under-full gs (with_names u p) (bind_types p (source_ty e k) k) (bind p v g) (bind p v h) b o.1
          (bind-agrees p u v g h s) f (t.1 v w),
    )
    under-full (cond e gs) u k g h b o s f t = (
      full-free e u k g h o.0 s t.0,
      reached-same (has_cells e) (meaning e (M g)) (meaning e (M h)) _ _ (meaning-free pl ts cs e u g h o.0 s)
          (λ x. under-full gs u k g h b o.1 s f x) t.1,
    )

    -- Tables that are full for a domain whose free names are in u are so under values that agree on u.
    pub full-dom-free : (d : Dom) (u : U) (k : Names Ty) (g h : Vals) → FreeNamesAreDom u d → AgreeOn u g h → FullDom d k (M g) →
        FullDom d k (M h)
    full-dom-free bool_dom u k g h o s t = tt
    full-dom-free (int_dom rs es) u k g h o s t = fulls-free es u k g h o s t
    full-dom-free (name_dom a) u k g h o s t = tt
    full-dom-free (tuple_dom ds) u k g h o s t = full-doms-free ds u k g h o s t
    full-dom-free (record_dom fs ds) u k g h o s t = full-doms-free ds u k g h o s t
    full-dom-free (matrix_dom is d) u k g h o s t = (full-doms-free is u k g h o.0 s t.0, full-dom-free d u k g h o.1 s t.1)
    full-dom-free (set_dom ms es d) u k g h o s t = (fulls-free es u k g h o.0 s t.0, full-dom-free d u k g h o.1 s t.1)
    full-dom-free (mset_dom ms es d) u k g h o s t = (fulls-free es u k g h o.0 s t.0, full-dom-free d u k g h o.1 s t.1)
    full-dom-free (function_dom ms es d c) u k g h o s t =
        (fulls-free es u k g h o.0 s t.0, full-dom-free d u k g h o.1 s t.1, full-dom-free c u k g h o.2 s t.2)
    full-dom-free (relation_dom ms es ds) u k g h o s t = (fulls-free es u k g h o.0 s t.0, full-doms-free ds u k g h o.1 s t.1)
    full-dom-free (partition_dom ms es d) u k g h o s t = (fulls-free es u k g h o.0 s t.0, full-dom-free d u k g h o.1 s t.1)

    full-doms-free : (ds : Doms) (u : U) (k : Names Ty) (g h : Vals) → FreeNamesAreDoms u ds → AgreeOn u g h → FullDoms ds k (M g) →
        FullDoms ds k (M h)
    full-doms-free no_doms u k g h o s t = tt
    full-doms-free (more_doms d ds) u k g h o s t = (full-dom-free d u k g h o.0 s t.0, full-doms-free ds u k g h o.1 s t.1)
