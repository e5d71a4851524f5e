-- Where tables meet the structures of a tree that is in scope, they meet those of the tree with its bound names told apart; so it is kept.
use Rattle.std.proofs.Common.{◌≡◌, refl, sym, ap, subst, ◌∙◌, ℕ, ◌<◌, ◌≤◌, ◌^◌, Bool, true, false, List, [], Option}
use Rattle.std.specs.Prelude.{IsTrue}
use Rattle.ess_semantics.specs.Values.{Text, Value}
use Rattle.ess_semantics.specs.Order.{same_text}
use Rattle.ess_semantics.specs.Names.{Names}
use Rattle.ess_semantics.specs.Trees.{Repr, Ex, Exs, number_ex, truth_ex, name_ex, node_ex, matrix_ex, comp_ex, cell_ex, seen_ex, no_exs, more_exs, Gens, no_gens, over, from, cond, Dom, Doms, bool_dom, int_dom, name_dom, tuple_dom, record_dom, matrix_dom, set_dom, mset_dom, function_dom, relation_dom, partition_dom, no_doms, more_doms}
use Rattle.ess_semantics.specs.Tables.{Table}
use Rattle.ess_semantics.specs.Scoped.{with_names, IsPlainIndex, Scoped, ScopedExs, ScopedGens, ScopedDom, ScopedDoms}
use Rattle.ess_semantics.specs.Meaning.{Env, TypeEntry, bind, with_pat, meaning, meanings, domain_of, members_in, indices, tables_in}
use Rattle.ess_semantics.specs.Contexts.{EachOf, EachIn, WhenTrue, guards}
use Rattle.ess_semantics.specs.Meets.{Meets, MeetsAll, MeetsGens, MeetsDom, MeetsDoms, tidy_in}
use Rattle.ess_semantics.proofs.Texts.{same_text-equal}
use Rattle.ess_rules_laws.proofs.Simulation.{Vals, E}
use Rattle.ess_rules_laws.proofs.Bindings.{each-of-map, each-in-map, guarded-map}
use Rattle.ess_rules_laws.proofs.Agreement.{domain-agree}
use Rattle.ess_rules_laws.proofs.MeetsSimulation.{meets-agree-dom}
use Rattle.conjure_model_laws.specs.ToldApart.{reserved, told, told_apart, told_all, told_gens, told_pat, told_dom, told_doms}
use Rattle.conjure_model_laws.proofs.ToldLaws.{reserved-differ}
use Rattle.ess_chain_names_laws.proofs.ToldNames.{on, pat-up, ex-up, all-up, gens-up, dom-up, doms-up}
use Rattle.ess_told_over_laws.specs.ToldOverTables.{IsScopedBelow, ToldTreesKeep}
use Rattle.ess_told_over_laws.proofs.Renamed.{Here, later, over-here, from-here}
use Rattle.ess_told_over_laws.proofs.ToldScopes.{told-stays}
use Rattle.ess_told_over_laws.proofs.ToldMeanings.{meaning-told, index-told, kept-names, domain-told}

module _ (z : Text → Bool) (lim : ℕ) (differ : (i j : ℕ) → i < j → j < lim → same_text (reserved j) (reserved i) ≡ false)
    (pl : Bool) (ts : List TypeEntry) (cs : Names Table) where
  abbrev M : Vals → Env
  M g = E pl ts cs g

  abbrev H : (Text → Bool) → (Text → Bool) → Names Text → ℕ → Vals → Vals → Type 0
  H s o r k g h = Here z lim differ s o r k g h

  on-later : (s o : Text → Bool) (r : Names Text) (k m : ℕ) (g h : Vals) → k ≤ m → H s o r k g h → H s o r m g h
  on-later s o r k m g h l x = later z lim differ s o r k m g h l x

  means : (e : Ex) (s o : Text → Bool) (r : Names Text) (k : ℕ) (g h : Vals) → Scoped z s o e → (told e r k).1 ≤ lim →
      H s o r k g h → meaning (told e r k).0 (M h) ≡ meaning e (M g)
  means = meaning-told z lim differ pl ts cs

  domain-means : (d : Dom) (s o : Text → Bool) (r : Names Text) (k : ℕ) (g h : Vals) → ScopedDom z s o d → (told_dom d r k).1 ≤ lim →
      H s o r k g h → domain_of (told_dom d r k).0 (M h) ≡ domain_of d (M g)
  domain-means = domain-told z lim differ pl ts cs

  when-map : (o o' : Option Value) (P Q : Type 0) → o' ≡ o → (P → Q) → WhenTrue o P → WhenTrue o' Q
  when-map o o' P Q q f y = guarded-map true o o' P Q q f y

  -- Nothing is asked of an index list.
  index-met : (es : Exs) (o : Text → Bool) (r : Names Text) (k : ℕ) (h : Vals) → IsPlainIndex o es →
      MeetsAll false (told_all es r k).0 (M h)
  index-met no_exs o r k h w = tt
  index-met (more_exs (number_ex n) es) o r k h w = (tt, index-met es o r k h w)
  index-met (more_exs (name_ex a) es) o r k h w = (tt, index-met es o r k h w.1)
  index-met (more_exs (truth_ex n) es) o r k h w = absurd w
  index-met (more_exs (node_ex b op ds) es) o r k h w = absurd w
  index-met (more_exs (matrix_ex ds d) es) o r k h w = absurd w
  index-met (more_exs (comp_ex e gs) es) o r k h w = absurd w
  index-met (more_exs (cell_ex b n ds) es) o r k h w = absurd w
  index-met (more_exs (seen_ex r' d ns ds) es) o r k h w = absurd w

  -- Cells that are tidy stay so.
  tidy : (y : Repr) (d : Dom) (ns : List Text) (es : Exs) (s o : Text → Bool) (r : Names Text) (k : ℕ) (g h : Vals) →
      Scoped z s o (seen_ex y d ns es) → (told_all es r k).1 ≤ lim → H s o r k g h →
      IsTrue (tidy_in y (domain_of d (M g)) (tables_in cs ns) (indices (meanings es (M g)))) →
      IsTrue (tidy_in y (domain_of d (M h)) (tables_in cs ns) (indices (meanings (told_all es r k).0 (M h))))
  tidy y d ns es s o r k g h w l x n =
      ap (λ c. tidy_in y c (tables_in cs ns) (indices (meanings (told_all es r k).0 (M h))))
      (domain-agree pl ts cs z d g h w.0 (kept-names z lim differ pl ts cs s o r k g h x))
      ∙ ap (λ i. tidy_in y (domain_of d (M g)) (tables_in cs ns) (indices i)) (index-told z lim differ pl ts cs es s o r k g h w.1 x) ∙ n

  mutual
    pub meets-told : (e : Ex) (s o : Text → Bool) (r : Names Text) (k : ℕ) (g h : Vals) → Scoped z s o e → (told e r k).1 ≤ lim →
        H s o r k g h → Meets e (M g) → Meets (told e r k).0 (M h)
    meets-told (number_ex m) s o r k g h w l x n = tt
    meets-told (truth_ex m) s o r k g h w l x n = tt
    meets-told (name_ex a) s o r k g h w l x n = tt
    meets-told (node_ex q op es) s o r k g h w l x n = all-met (guards op) es s o r k g h w l x n
    meets-told (matrix_ex es d) s o r k g h w l x n =
        let q = (told_all es r k).1 in (
          all-met false es s o r k g h w.0 (on q (told_dom d r q).1 lim (dom-up d r q) l) x n.0,
          dom-met d s o r q g h w.1 l (on-later s o r k q g h (all-up es r k) x) n.1,
        )
    meets-told (comp_ex e gs) s o r k g h w l x n =
        let q = told_gens gs r k in
        gens-met gs s o e (told e q.1 q.2).0 r k g h w
        (on q.2 (told e q.1 q.2).1 lim (ex-up e q.1 q.2) l) x
        (λ t p g' h' w' x' n'. meets-told e t p q.1 q.2 g' h' w' l x' n') n
    meets-told (cell_ex q c es) s o r k g h w l x n = all-met false es s o r k g h w l x n
    meets-told (seen_ex y d ns es) s o r k g h w l x n =
        let a = kept-names z lim differ pl ts cs s o r k g h x in (
          tidy y d ns es s o r k g h w l x n.0,
          meets-agree-dom pl ts cs z d g h w.0 a n.1,
          index-met es o r k h w.1,
        )

    all-met : (b : Bool) (es : Exs) (s o : Text → Bool) (r : Names Text) (k : ℕ) (g h : Vals) → ScopedExs z s o es →
        (told_all es r k).1 ≤ lim → H s o r k g h → MeetsAll b es (M g) → MeetsAll b (told_all es r k).0 (M h)
    all-met b no_exs s o r k g h w l x n = tt
    all-met b (more_exs e es) s o r k g h w l x n =
        let q = told e r k in
        let m = on q.1 (told_all es r q.1).1 lim (all-up es r q.1) l in (
          meets-told e s o r k g h w.0 m x n.0,
          guarded-map b (meaning e (M g)) (meaning q.0 (M h)) _ _ (means e s o r k g h w.0 m x)
              (λ y. all-met false es s o r q.1 g h w.1 l (on-later s o r k q.1 g h (ex-up e r k) x) y) n.1,
        )

    gens-met : (gs : Gens) (s o : Text → Bool) (b b' : Ex) (r : Names Text) (k : ℕ) (g h : Vals) →
        ScopedGens z s o gs (λ t p. Scoped z t p b) → (told_gens gs r k).2 ≤ lim → H s o r k g h →
        ((t p : Text → Bool) (g' h' : Vals) → Scoped z t p b → H t p (told_gens gs r k).1 (told_gens gs r k).2 g' h' → Meets b (M g') →
        Meets b' (M h')) → MeetsGens gs (M g) (λ here. Meets b here) → MeetsGens (told_gens gs r k).0 (M h) (λ here. Meets b' here)
    gens-met no_gens s o b b' r k g h w l i f n = f s o g h w i n
    gens-met (over p d gs) s o b b' r k g h w l i f n =
        let c = told_dom d r k in
        let q = told_pat p r c.1 in
        let rest = told_gens gs q.1 q.2 in
        let m = on q.2 rest.2 lim (gens-up gs q.1 q.2) l in
        let u = on c.1 q.2 lim (pat-up p r c.1) m in (
          dom-met d s o r k g h w.1 u i n.0,
          each-of-map (members_in (domain_of c.0 (M h))) _ _
              (λ v y. gens-met gs (with_names s p) (with_names o p) b b' q.1 q.2 (bind p v g) (bind q.0 v h) w.2 l
              (over-here z lim differ p v s o r c.1 g h m w.0 (on-later s o r k c.1 g h (dom-up d r k) i)) f y)
              (subst (λ a. EachOf (members_in a) (λ v. MeetsGens gs (with_pat p v (M g)) (λ here. Meets b here)))
              (sym (domain-means d s o r k g h w.1 u i)) n.1),
        )
    gens-met (from p e gs) s o b b' r k g h w l i f n =
        let c = told e r k in
        let q = told_pat p r c.1 in
        let rest = told_gens gs q.1 q.2 in
        let m = on q.2 rest.2 lim (gens-up gs q.1 q.2) l in
        let u = on c.1 q.2 lim (pat-up p r c.1) m in (
          meets-told e s o r k g h w.1 u i n.0,
          each-in-map (meaning c.0 (M h)) _ _
              (λ v y. gens-met gs (with_names s p) o b b' q.1 q.2 (bind p v g) (bind q.0 v h) w.2 l
              (from-here z lim differ p v s o r c.1 g h m w.0 (on-later s o r k c.1 g h (ex-up e r k) i)) f y)
              (subst (λ a. EachIn a (λ v. MeetsGens gs (with_pat p v (M g)) (λ here. Meets b here)))
              (sym (means e s o r k g h w.1 u i)) n.1),
        )
    gens-met (cond e gs) s o b b' r k g h w l i f n =
        let c = told e r k in
        let rest = told_gens gs r c.1 in
        let u = on c.1 rest.2 lim (gens-up gs r c.1) l in (
          meets-told e s o r k g h w.0 u i n.0,
          when-map (meaning e (M g)) (meaning c.0 (M h)) _ _ (means e s o r k g h w.0 u i)
              (λ y. gens-met gs s o b b' r c.1 g h w.1 l (on-later s o r k c.1 g h (ex-up e r k) i) f y) n.1,
        )

    dom-met : (d : Dom) (s o : Text → Bool) (r : Names Text) (k : ℕ) (g h : Vals) → ScopedDom z s o d → (told_dom d r k).1 ≤ lim →
        H s o r k g h → MeetsDom d (M g) → MeetsDom (told_dom d r k).0 (M h)
    dom-met bool_dom s o r k g h w l x n = tt
    dom-met (int_dom rs es) s o r k g h w l x n = all-met false es s o r k g h w l x n
    dom-met (name_dom a) s o r k g h w l x n = tt
    dom-met (tuple_dom ds) s o r k g h w l x n = doms-met ds s o r k g h w l x n
    dom-met (record_dom fs ds) s o r k g h w l x n = doms-met ds s o r k g h w l x n
    dom-met (matrix_dom is d) s o r k g h w l x n =
        let q = (told_doms is r k).1 in (
          doms-met is s o r k g h w.0 (on q (told_dom d r q).1 lim (dom-up d r q) l) x n.0,
          dom-met d s o r q g h w.1 l (on-later s o r k q g h (doms-up is r k) x) n.1,
        )
    dom-met (set_dom ks es d) s o r k g h w l x n =
        let q = (told_all es r k).1 in (
          all-met false es s o r k g h w.0 (on q (told_dom d r q).1 lim (dom-up d r q) l) x n.0,
          dom-met d s o r q g h w.1 l (on-later s o r k q g h (all-up es r k) x) n.1,
        )
    dom-met (mset_dom ks es d) s o r k g h w l x n =
        let q = (told_all es r k).1 in (
          all-met false es s o r k g h w.0 (on q (told_dom d r q).1 lim (dom-up d r q) l) x n.0,
          dom-met d s o r q g h w.1 l (on-later s o r k q g h (all-up es r k) x) n.1,
        )
    dom-met (function_dom ks es d c) s o r k g h w l x n =
        let q = (told_all es r k).1 in
        let t = (told_dom d r q).1 in
        let m = on t (told_dom c r t).1 lim (dom-up c r t) l in (
          all-met false es s o r k g h w.0 (on q t lim (dom-up d r q) m) x n.0,
          dom-met d s o r q g h w.1 m (on-later s o r k q g h (all-up es r k) x) n.1,
          dom-met c s o r t g h w.2 l (on-later s o r k t g h (on k q t (all-up es r k) (dom-up d r q)) x) n.2,
        )
    dom-met (relation_dom ks es ds) s o r k g h w l x n =
        let q = (told_all es r k).1 in (
          all-met false es s o r k g h w.0 (on q (told_doms ds r q).1 lim (doms-up ds r q) l) x n.0,
          doms-met ds s o r q g h w.1 l (on-later s o r k q g h (all-up es r k) x) n.1,
        )
    dom-met (partition_dom ks es d) s o r k g h w l x n =
        let q = (told_all es r k).1 in (
          all-met false es s o r k g h w.0 (on q (told_dom d r q).1 lim (dom-up d r q) l) x n.0,
          dom-met d s o r q g h w.1 l (on-later s o r k q g h (all-up es r k) x) n.1,
        )

    doms-met : (ds : Doms) (s o : Text → Bool) (r : Names Text) (k : ℕ) (g h : Vals) → ScopedDoms z s o ds → (told_doms ds r k).1 ≤ lim →
        H s o r k g h → MeetsDoms ds (M g) → MeetsDoms (told_doms ds r k).0 (M h)
    doms-met no_doms s o r k g h w l x n = tt
    doms-met (more_doms d ds) s o r k g h w l x n =
        let q = (told_dom d r k).1 in (
          dom-met d s o r k g h w.0 (on q (told_doms ds r q).1 lim (doms-up ds r q) l) x n.0,
          doms-met ds s o r q g h w.1 l (on-later s o r k q g h (dom-up d r k) x) n.1,
        )

-- ---- the law

-- At first each name stands for itself.
start : (z s o : Text → Bool) (k : ℕ) (e : Ex) → IsScopedBelow z s o k e → (g : Vals) → Here z (2 ^ 64) reserved-differ s o [] k g g
start z s o k e i g = record {
  values = λ c t. (refl, λ j l m. spare c t j l m (same_text (reserved j) c) refl);
  untouched = λ c t. refl;
  within = i.within;
  around = i.around;
}
  where
    spare : (c : Text) → IsTrue (s c) → (j : ℕ) → k ≤ j → j < 2 ^ 64 → (b : Bool) → same_text (reserved j) c ≡ b →
        same_text (reserved j) c ≡ false
    spare c t j l m false q = q
    spare c t j l m true q =
        let a : true ≡ false = sym t ∙ ap s (sym (same_text-equal (reserved j) c q)) ∙ i.spared j l m in cc

told-means : (z s o : Text → Bool) (k : ℕ) (e : Ex) → IsScopedBelow z s o k e → (told e [] k).1 ≤ 2 ^ 64 → (env : Env) →
    meaning (told_apart k e) env ≡ meaning e env
told-means z s o k e i l env =
    meaning-told z (2 ^ 64) reserved-differ env.positions env.types env.cells e s o [] k env.vals env.vals i.scoped l
    (start z s o k e i env.vals)

told-met : (z s o : Text → Bool) (k : ℕ) (e : Ex) → IsScopedBelow z s o k e → (told e [] k).1 ≤ 2 ^ 64 → (env : Env) → Meets e env →
    Meets (told_apart k e) env
told-met z s o k e i l env m =
    meets-told z (2 ^ 64) reserved-differ env.positions env.types env.cells e s o [] k env.vals env.vals i.scoped l
    (start z s o k e i env.vals) m

-- What is proved of them.
pub told-trees-keep : ToldTreesKeep
told-trees-keep = record {
  means = told-means;
  keeps = λ z s o k e i l env m. (sym (told-means z s o k e i l env), told-met z s o k e i l env m);
  stays = told-stays;
}
