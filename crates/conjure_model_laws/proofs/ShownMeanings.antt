-- What is shown of a tree without views means over tables what the tree means over values, where what stands for names has their values,
-- and its structures are met.
use Rattle.std.proofs.Common.{◌≡◌, refl, sym, ap, ◌∙◌, Bool, true, false, not, if◌then◌else◌, List, [], ◌∷◌, Option, Some, None, option_map}
use Rattle.std.specs.Prelude.{IsTrue}
use Rattle.ess_semantics.specs.declared.words.Op2.{Op2}
use Rattle.ess_semantics.specs.Lists.{and_then, all_some, or_default}
use Rattle.ess_semantics.specs.Values.{Text, Value, items_of}
use Rattle.ess_semantics.specs.Order.{same_text}
use Rattle.ess_semantics.specs.Names.{look, keys, is_among}
use Rattle.ess_semantics.specs.Trees.{binary, Pat, Pats, name_pat, tuple_pat, no_pats, more_pats, Ex, Exs, number_ex, truth_ex, name_ex, node_ex, matrix_ex, comp_ex, cell_ex, seen_ex, no_exs, more_exs, Gens, no_gens, over, from, cond, Dom, Doms, bool_dom, int_dom, name_dom, tuple_dom, record_dom, matrix_dom, set_dom, mset_dom, function_dom, relation_dom, partition_dom, no_doms, more_doms}
use Rattle.ess_semantics.specs.Operators.{misfit, value_of_node, false_where_undefined, list_value}
use Rattle.ess_semantics.specs.Domains.{integers, tuples, records, matrices, sets, msets, functions, relations, partitions, more_domains}
use Rattle.ess_semantics.specs.Meaning.{Env, bind, bind_all, with_pat, collect, meaning, meanings, items_under, domain_of, domains_of, members_in, spans_of, attributes_of, matrix_value}
use Rattle.ess_semantics.specs.Substitution.{Binds, BindsAll, NamesAre, NamesAreExs, NamesAreGens, NamesAreDom, NamesAreDoms}
use Rattle.ess_semantics.proofs.Texts.{same_text-equal}
use Rattle.ess_rules_laws.proofs.Simulation.{Vals, collect-same, and_then-same, where-same, two}
use Rattle.conjure_laws.specs.PlainTrees.{Plain, PlainAll, PlainGens, PlainDom, PlainDoms}
use Rattle.conjure_laws.proofs.Lookups.{look-key}
use Rattle.conjure_laws.proofs.NamedTables.{in-among}
use Rattle.conjure_model_laws.specs.Shown.{Shows, in_place, shown, shown_all, shown_gens, shown_dom, shown_doms}
use Rattle.conjure_model_laws.specs.StandsFor.{with_values, StandsFor, is_unshown}

module _ (sh : Shows) (n : Text → Bool) (env there : Env) (S : StandsFor sh n env there) where
  abbrev M : Vals → Env
  M g = with_values env g

  abbrev N : Vals → Env
  N h = with_values there h

  -- Names that are shown keep their values, others have those of generators.
  abbrev pub R : Vals → Vals → Type 0
  R g h = (a : Text) → IsTrue (n a) →
      ((w : Ex) → look sh.first a ≡ Some w → look g a ≡ look env.vals a) × (look sh.first a ≡ None → look h a ≡ look g a)

  pub at-start : R env.vals there.vals
  at-start a k = (λ w e. refl, λ e. S.others a k e)

  at-first : (a : Text) (g h : Vals) → IsTrue (n a) → R g h → meaning (in_place sh.first a) (N h) ≡ look g a
  at-first a g h k r = go (look sh.first a) refl
    where
      go : (o : Option Ex) → look sh.first a ≡ o → meaning (or_default o (name_ex a)) (N h) ≡ look g a
      go None e = (r a k).1 e
      go (Some w) e = (S.first a w e h).0 ∙ sym ((r a k).0 w e)

  at-last : (a : Text) (g h : Vals) → IsTrue (n a) → R g h → meaning (in_place sh.last a) (N h) ≡ look g a
  at-last a g h k r = go (look sh.last a) (look sh.first a) refl refl
    where
      go : (o p : Option Ex) → look sh.last a ≡ o → look sh.first a ≡ p → meaning (or_default o (name_ex a)) (N h) ≡ look g a
      go None p e f = (r a k).1 ((S.both a).0 e)
      go (Some w) (Some v) e f = (S.last a w e h).0 ∙ sym ((r a k).0 v f)
      go (Some w) None e f = let z : None ≡ Some w = sym ((S.both a).1 f) ∙ e in cc

  at-bind : (b : Text) (v : Value) (g h : Vals) → IsTrue (is_unshown sh b) → R g h → R ((b, v) ∷ g) ((b, v) ∷ h)
  at-bind b v g h o r a k = (λ w e. inside w e (same_text b a) refl, λ e. ap (λ t. if same_text b a then Some v else t) ((r a k).1 e))
    where
      inside : (w : Ex) → look sh.first a ≡ Some w → (t : Bool) → same_text b a ≡ t → (if t then Some v else look g a) ≡ look env.vals a
      inside w e false q = (r a k).0 w e
      inside w e true q =
          let z : is_among (keys sh.first) b ≡ true = ap (is_among (keys sh.first)) (same_text-equal b a q)
          ∙ in-among (keys sh.first) a (look-key sh.first a w e) in
          let c : not true ≡ true = sym (ap not z) ∙ o in cc

  mutual
    pat-shown : (p : Pat) (v : Value) (g h : Vals) → Binds (is_unshown sh) p → R g h → R (bind p v g) (bind p v h)
    pat-shown (name_pat a) v g h o r = at-bind a v g h o r
    pat-shown (tuple_pat ps) v g h o r = pats-shown ps (items_of v) g h o r

    pats-shown : (ps : Pats) (vs : List Value) (g h : Vals) → BindsAll (is_unshown sh) ps → R g h → R (bind_all ps vs g) (bind_all ps vs h)
    pats-shown no_pats vs g h o r = r
    pats-shown (more_pats p ps) [] g h o r =
        pats-shown ps [] (bind p misfit g) (bind p misfit h) o.1 (pat-shown p misfit g h o.0 r)
    pats-shown (more_pats p ps) (v ∷ vs) g h o r = pats-shown ps vs (bind p v g) (bind p v h) o.1 (pat-shown p v g h o.0 r)

  mutual
    -- An expression.
    pub meaning-shown : (e : Ex) (g h : Vals) → Plain e → NamesAre n (is_unshown sh) e → R g h →
        meaning (shown sh e) (N h) ≡ meaning e (M g)
    meaning-shown (number_ex m) g h w o r = refl
    meaning-shown (truth_ex m) g h w o r = refl
    meaning-shown (name_ex a) g h w o r = at-first a g h o r
    meaning-shown (node_ex q (binary Op2.Member) (more_exs e (more_exs (name_ex a) no_exs))) g h w o r =
        ap (λ x. false_where_undefined q (value_of_node (binary Op2.Member) (x ∷ meaning (in_place sh.last a) (N h) ∷ [])))
        (meaning-shown e g h w.0 o.0 r)
        ∙ ap (λ x. false_where_undefined q (value_of_node (binary Op2.Member) (meaning e (M g) ∷ x ∷ []))) (at-last a g h o.1.0 r)
    meaning-shown (node_ex q op es) g h w o r = ap (λ x. false_where_undefined q (value_of_node op x)) (meanings-shown es g h w o r)
    meaning-shown (matrix_ex es d) g h w o r =
        ap (λ x. and_then (all_some x) (matrix_value (members_in (domain_of (shown_dom sh d) (N h))))) (meanings-shown es g h w.0 o.0 r)
        ∙ ap (λ x. and_then (all_some (meanings es (M g))) (matrix_value (members_in x))) (domain-shown d g h w.1 o.1 r)
    meaning-shown (comp_ex e gs) g h w o r =
        ap (option_map list_value) (items-shown gs g h (λ here. option_map (λ v. v ∷ []) (meaning e here))
        (λ here. option_map (λ v. v ∷ []) (meaning (shown sh e) here)) w.1 o.1 r
        (λ g' h' r'. ap (option_map (λ v. v ∷ [])) (meaning-shown e g' h' w.0 o.0 r')))
    meaning-shown (cell_ex q c es) g h w o r = absurd w
    meaning-shown (seen_ex x d ns es) g h w o r = absurd w

    meanings-shown : (es : Exs) (g h : Vals) → PlainAll es → NamesAreExs n (is_unshown sh) es → R g h →
        meanings (shown_all sh es) (N h) ≡ meanings es (M g)
    meanings-shown no_exs g h w o r = refl
    meanings-shown (more_exs e es) g h w o r =
        ap (λ x. x ∷ meanings (shown_all sh es) (N h)) (meaning-shown e g h w.0 o.0 r)
        ∙ ap (λ x. meaning e (M g) ∷ x) (meanings-shown es g h w.1 o.1 r)

    -- Generators, where what stands behind them means the same.
    pub items-shown : (gs : Gens) (g h : Vals) (x y : Env → Option (List Value)) → PlainGens gs → NamesAreGens n (is_unshown sh) gs →
        R g h → ((g' h' : Vals) → R g' h' → y (N h') ≡ x (M g')) → items_under (shown_gens sh gs) (N h) y ≡ items_under gs (M g) x
    items-shown no_gens g h x y w o r f = f g h r
    items-shown (over p d gs) g h x y w o r f =
        and_then-same (members_in (domain_of (shown_dom sh d) (N h))) (members_in (domain_of d (M g)))
        (λ vs. collect vs (λ v. items_under (shown_gens sh gs) (with_pat p v (N h)) y))
        (λ vs. collect vs (λ v. items_under gs (with_pat p v (M g)) x))
        (ap members_in (domain-shown d g h w.0 o.1 r))
        (λ vs. collect-same vs (λ v. items_under (shown_gens sh gs) (with_pat p v (N h)) y) (λ v. items_under gs (with_pat p v (M g)) x)
        (λ v. items-shown gs (bind p v g) (bind p v h) x y w.1 o.2 (pat-shown p v g h o.0 r) f))
    items-shown (from p e gs) g h x y w o r f =
        and_then-same (meaning (shown sh e) (N h)) (meaning e (M g))
        (λ z. collect (items_of z) (λ v. items_under (shown_gens sh gs) (with_pat p v (N h)) y))
        (λ z. collect (items_of z) (λ v. items_under gs (with_pat p v (M g)) x))
        (meaning-shown e g h w.0 o.1 r)
        (λ z. collect-same (items_of z) (λ v. items_under (shown_gens sh gs) (with_pat p v (N h)) y)
        (λ v. items_under gs (with_pat p v (M g)) x)
        (λ v. items-shown gs (bind p v g) (bind p v h) x y w.1 o.2 (pat-shown p v g h o.0 r) f))
    items-shown (cond e gs) g h x y w o r f =
        where-same (meaning (shown sh e) (N h)) (meaning e (M g)) (items_under (shown_gens sh gs) (N h) y) (items_under gs (M g) x)
        (meaning-shown e g h w.0 o.0 r) (items-shown gs g h x y w.1 o.1 r f)

    -- A domain.
    pub domain-shown : (d : Dom) (g h : Vals) → PlainDom d → NamesAreDom n (is_unshown sh) d → R g h →
        domain_of (shown_dom sh d) (N h) ≡ domain_of d (M g)
    domain-shown bool_dom g h w o r = refl
    domain-shown (int_dom rs es) g h w o r = ap (λ x. option_map integers (spans_of rs x)) (meanings-shown es g h w o r)
    domain-shown (name_dom t) g h w o r = S.types t h
    domain-shown (tuple_dom ds) g h w o r = ap (option_map tuples) (domains-shown ds g h w o r)
    domain-shown (record_dom fs ds) g h w o r = ap (option_map (records fs)) (domains-shown ds g h w o r)
    domain-shown (matrix_dom is d) g h w o r =
        two (domains_of (shown_doms sh is) (N h)) (domains_of is (M g)) matrices (domains-shown is g h w.0 o.0 r)
        (domain-shown d g h w.1 o.1 r)
    domain-shown (set_dom ks es d) g h w o r =
        two (attributes_of ks (meanings (shown_all sh es) (N h))) (attributes_of ks (meanings es (M g))) sets
        (ap (attributes_of ks) (meanings-shown es g h w.0 o.0 r)) (domain-shown d g h w.1 o.1 r)
    domain-shown (mset_dom ks es d) g h w o r =
        two (attributes_of ks (meanings (shown_all sh es) (N h))) (attributes_of ks (meanings es (M g))) msets
        (ap (attributes_of ks) (meanings-shown es g h w.0 o.0 r)) (domain-shown d g h w.1 o.1 r)
    domain-shown (function_dom ks es d c) g h w o r =
        and_then-same (attributes_of ks (meanings (shown_all sh es) (N h))) (attributes_of ks (meanings es (M g))) _ _
        (ap (attributes_of ks) (meanings-shown es g h w.0 o.0 r))
        (λ as'. two (domain_of (shown_dom sh d) (N h)) (domain_of d (M g)) (functions as') (domain-shown d g h w.1 o.1 r)
        (domain-shown c g h w.2 o.2 r))
    domain-shown (relation_dom ks es ds) g h w o r =
        two (attributes_of ks (meanings (shown_all sh es) (N h))) (attributes_of ks (meanings es (M g))) relations
        (ap (attributes_of ks) (meanings-shown es g h w.0 o.0 r)) (domains-shown ds g h w.1 o.1 r)
    domain-shown (partition_dom ks es d) g h w o r =
        two (attributes_of ks (meanings (shown_all sh es) (N h))) (attributes_of ks (meanings es (M g))) partitions
        (ap (attributes_of ks) (meanings-shown es g h w.0 o.0 r)) (domain-shown d g h w.1 o.1 r)

    domains-shown : (ds : Doms) (g h : Vals) → PlainDoms ds → NamesAreDoms n (is_unshown sh) ds → R g h →
        domains_of (shown_doms sh ds) (N h) ≡ domains_of ds (M g)
    domains-shown no_doms g h w o r = refl
    domains-shown (more_doms d ds) g h w o r =
        two (domain_of (shown_dom sh d) (N h)) (domain_of d (M g)) more_domains (domain-shown d g h w.0 o.0 r)
        (domains-shown ds g h w.1 o.1 r)
