-- A tree over ranges whose parts have values wherever their contexts hold is so once its bound names are told apart.
use Rattle.std.proofs.Common.{◌≡◌, refl, sym, ap, subst, ◌∙◌, ℕ, ◌<◌, ◌≤◌, ◌^◌, Bool, true, false, ◌||◌, List, [], ◌∷◌, Option}
use Rattle.std.specs.Prelude.{IsTrue, is_some}
use Rattle.ess_semantics.specs.Values.{Text, Value}
use Rattle.ess_semantics.specs.Order.{same_text}
use Rattle.ess_semantics.specs.Names.{Names}
use Rattle.ess_semantics.specs.Trees.{Op, unary, binary, word, both_ends, name_pat, Ex, Exs, number_ex, truth_ex, name_ex, node_ex, matrix_ex, comp_ex, cell_ex, seen_ex, no_exs, more_exs, Gens, no_gens, over, from, cond, Dom, bool_dom, int_dom}
use Rattle.ess_semantics.specs.Tables.{Table}
use Rattle.ess_semantics.specs.Scoped.{with_names, Scoped, ScopedExs, ScopedGens, ScopedDom}
use Rattle.ess_semantics.specs.Meaning.{Env, TypeEntry, bind, with_pat, meaning, domain_of, members_in}
use Rattle.ess_semantics.specs.Contexts.{EachOf, WhenTrue, guards}
use Rattle.ess_guard_laws.specs.Supplied.{Unless}
use Rattle.ess_guard_natural_laws.specs.TotalButNatural.{opens_places}
use Rattle.ess_rules_laws.proofs.Simulation.{Vals, E}
use Rattle.ess_rules_laws.proofs.Bindings.{each-of-map, guarded-map}
use Rattle.ess_values_along_laws.specs.Valued.{lacks, Valued, AllValued, UnderValued, DomValued}
use Rattle.conjure_model_laws.specs.ToldApart.{reserved, told, told_all, told_gens, told_pat, told_dom, told_apart}
use Rattle.conjure_model_laws.proofs.ToldLaws.{reserved-differ}
use Rattle.ess_chain_names_laws.proofs.ToldNames.{on, pat-up, ex-up, all-up, gens-up, dom-up}
use Rattle.ess_told_over_laws.proofs.Renamed.{Here, later, over-here}
use Rattle.ess_told_over_laws.proofs.ToldMeanings.{meaning-told, domain-told}
use Rattle.ess_bare_structures_laws.specs.Laws.{none}
use Rattle.ess_bare_structures_laws.proofs.Ranged.{Ranged, AllRanged, RangedGens, RangedDom}

unless-map : (b : Bool) (P Q : Type 0) → (P → Q) → Unless b P → Unless b Q
unless-map true P Q f u = tt
unless-map false P Q f u = f u

module _ (lim : ℕ) (differ : (i j : ℕ) → i < j → j < lim → same_text (reserved j) (reserved i) ≡ false)
    (pl : Bool) (ts : List TypeEntry) (cs : Names Table) where
  abbrev M : Vals → Env
  M g = E pl ts cs g

  abbrev H : (Text → Bool) → (Text → Bool) → Names Text → ℕ → Vals → Vals → Type 0
  H s o r k g h = Here none lim differ s o r k g h

  on-later : (s o : Text → Bool) (r : Names Text) (k m : ℕ) (g h : Vals) → k ≤ m → H s o r k g h → H s o r m g h
  on-later s o r k m g h l x = later none lim differ s o r k m g h l x

  means : (e : Ex) (s o : Text → Bool) (r : Names Text) (k : ℕ) (g h : Vals) → Scoped none s o e → (told e r k).1 ≤ lim →
      H s o r k g h → meaning (told e r k).0 (M h) ≡ meaning e (M g)
  means = meaning-told none lim differ pl ts cs

  -- It has a value, as it had.
  there : (e : Ex) (s o : Text → Bool) (r : Names Text) (k : ℕ) (g h : Vals) → Scoped none s o e → (told e r k).1 ≤ lim →
      H s o r k g h → IsTrue (is_some (meaning e (M g))) → IsTrue (is_some (meaning (told e r k).0 (M h)))
  there e s o r k g h w l x v = ap is_some (means e s o r k g h w l x) ∙ v

  when-map : (o o' : Option Value) (P Q : Type 0) → o' ≡ o → (P → Q) → WhenTrue o P → WhenTrue o' Q
  when-map o o' P Q q f y = guarded-map true o o' P Q q f y

  -- A node, where its operands do.
  node-valued : (z b : Bool) (op : Op) (es : Exs) (s o : Text → Bool) (r : Names Text) (k : ℕ) (g h : Vals) → ScopedExs none s o es →
      (told_all es r k).1 ≤ lim → H s o r k g h →
      (AllValued (guards op) (opens_places z b op) es (M g) → AllValued (guards op) (opens_places z b op) (told_all es r k).0 (M h)) →
      Valued z (node_ex b op es) (M g) → Valued z (node_ex b op (told_all es r k).0) (M h)
  node-valued z b op es s o r k g h w l x f v =
      (unless-map (lacks z b op) _ _ (there (node_ex b op es) s o r k g h w l x) v.0, f v.1)

  mutual
    pub told-valued : (e : Ex) → Ranged e → (z : Bool) (s o : Text → Bool) (r : Names Text) (k : ℕ) (g h : Vals) → Scoped none s o e →
        (told e r k).1 ≤ lim → H s o r k g h → Valued z e (M g) → Valued z (told e r k).0 (M h)
    told-valued (number_ex m) y z s o r k g h w l x v = tt
    told-valued (truth_ex m) y z s o r k g h w l x v = tt
    told-valued (name_ex a) y z s o r k g h w l x v = there (name_ex a) s o r k g h w l x v
    told-valued (node_ex b (unary p) es) y z s o r k g h w l x v =
        node-valued z b (unary p) es s o r k g h w l x
        (all-valued (guards (unary p)) (opens_places z b (unary p)) es y s o r k g h w l x) v
    told-valued (node_ex b (binary p) es) y z s o r k g h w l x v =
        node-valued z b (binary p) es s o r k g h w l x
        (all-valued (guards (binary p)) (opens_places z b (binary p)) es y s o r k g h w l x) v
    told-valued (node_ex b (word p) es) y z s o r k g h w l x v =
        node-valued z b (word p) es s o r k g h w l x
        (all-valued (guards (word p)) (opens_places z b (word p)) es y s o r k g h w l x) v
    told-valued (node_ex b op es) y z s o r k g h w l x v = absurd y
    told-valued (matrix_ex es d) y z s o r k g h w l x v = absurd y
    told-valued (comp_ex e gs) y z s o r k g h w l x v =
        let q = told_gens gs r k in (
          there (comp_ex e gs) s o r k g h w l x v.0,
          gens-valued gs y.0 s o e (told e q.1 q.2).0 r k g h w (on q.2 (told e q.1 q.2).1 lim (ex-up e q.1 q.2) l) x
              (λ t p g' h' w' x' v'. told-valued e y.1 false t p q.1 q.2 g' h' w' l x' v') v.1,
        )
    told-valued (cell_ex b n es) y z s o r k g h w l x v = (
      unless-map (b || z) _ _ (there (cell_ex b n es) s o r k g h w l x) v.0,
      all-valued false false es y s o r k g h w l x v.1,
    )
    told-valued (seen_ex p d ns es) y z s o r k g h w l x v = absurd y

    all-valued : (gd wd : Bool) (es : Exs) → AllRanged es → (s o : Text → Bool) (r : Names Text) (k : ℕ) (g h : Vals) →
        ScopedExs none s o es → (told_all es r k).1 ≤ lim → H s o r k g h → AllValued gd wd es (M g) →
        AllValued gd wd (told_all es r k).0 (M h)
    all-valued gd wd no_exs y s o r k g h w l x v = tt
    all-valued gd wd (more_exs e es) y s o r k g h w l x v =
        let q = told e r k in
        let m = on q.1 (told_all es r q.1).1 lim (all-up es r q.1) l in (
          told-valued e y.0 wd s o r k g h w.0 m x v.0,
          guarded-map gd (meaning e (M g)) (meaning q.0 (M h)) _ _ (means e s o r k g h w.0 m x)
              (λ u. all-valued false wd es y.1 s o r q.1 g h w.1 l (on-later s o r k q.1 g h (ex-up e r k) x) u) v.1,
        )

    gens-valued : (gs : Gens) → RangedGens gs → (s o : Text → Bool) (b b' : Ex) (r : Names Text) (k : ℕ) (g h : Vals) →
        ScopedGens none s o gs (λ t p. Scoped none t p b) → (told_gens gs r k).2 ≤ lim → H s o r k g h →
        ((t p : Text → Bool) (g' h' : Vals) → Scoped none t p b → H t p (told_gens gs r k).1 (told_gens gs r k).2 g' h' →
        Valued false b (M g') → Valued false b' (M h')) → UnderValued gs (M g) (λ here. Valued false b here) →
        UnderValued (told_gens gs r k).0 (M h) (λ here. Valued false b' here)
    gens-valued no_gens y s o b b' r k g h w l i f v = f s o g h w i v
    gens-valued (over (name_pat a) d gs) y s o b b' r k g h w l i f v =
        let p = name_pat a in
        let c = told_dom d r k in
        let q = told_pat p r c.1 in
        let rest = told_gens gs q.1 q.2 in
        let m = on q.2 rest.2 lim (gens-up gs q.1 q.2) l in
        let u = on c.1 q.2 lim (pat-up p r c.1) m in (
          dom-valued d y.0 s o r k g h w.1 u i v.0,
          each-of-map (members_in (domain_of c.0 (M h))) _ _
              (λ x n. gens-valued gs y.1 (with_names s p) (with_names o p) b b' q.1 q.2 (bind p x g) (bind q.0 x h) w.2 l
              (over-here none lim differ p x s o r c.1 g h m w.0 (on-later s o r k c.1 g h (dom-up d r k) i)) f n)
              (subst (λ a. EachOf (members_in a) (λ x. UnderValued gs (with_pat p x (M g)) (λ here. Valued false b here)))
              (sym (domain-told none lim differ pl ts cs d s o r k g h w.1 u i)) v.1),
        )
    gens-valued (over p d gs) y s o b b' r k g h w l i f v = absurd y
    gens-valued (from p e gs) y s o b b' r k g h w l i f v = absurd y
    gens-valued (cond e gs) y s o b b' r k g h w l i f v =
        let c = told e r k in
        let rest = told_gens gs r c.1 in
        let u = on c.1 rest.2 lim (gens-up gs r c.1) l in (
          told-valued e y.0 false s o r k g h w.0 u i v.0,
          when-map (meaning e (M g)) (meaning c.0 (M h)) _ _ (means e s o r k g h w.0 u i)
              (λ n. gens-valued gs y.1 s o b b' r c.1 g h w.1 l (on-later s o r k c.1 g h (ex-up e r k) i) f n) v.1,
        )

    dom-valued : (d : Dom) → RangedDom d → (s o : Text → Bool) (r : Names Text) (k : ℕ) (g h : Vals) → ScopedDom none s o d →
        (told_dom d r k).1 ≤ lim → H s o r k g h → DomValued d (M g) → DomValued (told_dom d r k).0 (M h)
    dom-valued bool_dom y s o r k g h w l x v = tt
    dom-valued (int_dom (both_ends ∷ []) (more_exs a (more_exs b no_exs))) y s o r k g h w l x v =
        all-valued false false (more_exs a (more_exs b no_exs)) (y.0, (y.1, tt)) s o r k g h w l x v
    dom-valued d y s o r k g h w l x v = absurd y

-- So is a tree without free names.
pub told-values : (k : ℕ) (e : Ex) → Ranged e → Scoped none none none e → (told e [] k).1 ≤ 2 ^ 64 → (env : Env) → Valued false e env →
    Valued false (told_apart k e) env
told-values k e y w l env v =
    told-valued (2 ^ 64) reserved-differ env.positions env.types env.cells e y false none none [] k env.vals env.vals w l
    (record { values = λ c t. cc; untouched = λ c t. refl; within = λ c t. t; around = λ c t. t }) v
