-- Guarded with natural places, a covered tree is total under its conditions but for plain operators in these.
use Rattle.std.proofs.Common.{suc, ◌≡◌, refl, sym, ap, ◌∙◌, subst, Bool, true, false, ◌&&◌, ◌||◌, not, if◌then◌else◌, List, [], ◌++◌}
use Rattle.ess_semantics.specs.Values.{Text}
use Rattle.ess_semantics.specs.Names.{Names}
use Rattle.ess_semantics.specs.Trees.{Op, Ex, Exs, number_ex, truth_ex, name_ex, node_ex, matrix_ex, comp_ex, cell_ex, seen_ex, no_exs, more_exs, Gens, no_gens, over, from, cond, Dom, Doms, bool_dom, int_dom, name_dom, tuple_dom, record_dom, matrix_dom, set_dom, mset_dom, function_dom, relation_dom, partition_dom, no_doms, more_doms}
use Rattle.ess_semantics.specs.Operators.{value_of_node}
use Rattle.ess_semantics.specs.Tables.{Table}
use Rattle.ess_semantics.specs.Meaning.{Env, TypeEntry, bind, meaning, meanings, domain_of, members_in}
use Rattle.ess_semantics.specs.Totality.{HasValue}
use Rattle.ess_semantics.specs.Constants.{operand_count}
use Rattle.ess_rules_laws.proofs.Simulation.{Vals, E}
use Rattle.ess_guard_laws.specs.Origins.{Origin, with_any, with_over, known_behind}
use Rattle.ess_guard_laws.specs.Conditions.{chained, matrix_conditions, own}
use Rattle.ess_guard_laws.specs.Guard.{compares, counts, connects, own_at, opens, passes, guarded, guarded_all, guarded_gens, guarded_dom, guarded_doms, conditions, conditions_all, conditions_gens, conditions_dom, conditions_doms}
use Rattle.ess_guard_laws.specs.Covered.{covers, asks_nothing, AskNothing, Covered, CoveredAll, CoveredGens, CoveredDom, CoveredDoms}
use Rattle.ess_guard_laws.specs.Supplied.{Unless}
use Rattle.ess_guard_laws.proofs.Safe.{node-some}
use Rattle.ess_guard_laws.proofs.CoveredKept.{covers-kept}
use Rattle.ess_guard_laws.proofs.MetRows.{each-in-always}
use Rattle.ess_guard_laws.proofs.Behind.{each-member}
use Rattle.ess_guard_laws.proofs.KnownNames as K
use Rattle.ess_guard_laws.proofs.StructuresMet as S
use Rattle.ess_guard_laws.proofs.OwnTotals.{connects-some}
use Rattle.ess_guard_natural_laws.specs.TotalButNatural.{opens_places, may_lack, TotalButNatural, AllTotalButNatural, UnderTotalButNatural, DomTotalButNatural, DomsTotalButNatural}
use Rattle.ess_guard_natural_laws.proofs.Places.{T, TA, unless-there, placed}
use Rattle.ess_guard_natural_laws.proofs.Behind.{Behind, behind-append, chained-total, over-behind, from-behind, given-behind}
use Rattle.ess_guard_natural_laws.proofs.ConditionRows.{matrix-total}
use Rattle.ess_guard_natural_laws.proofs.PlainOperators.{quiet}
use Rattle.ess_guard_natural_laws.proofs.OwnTotals as O
use Rattle.ess_guard_natural_laws.proofs.OwnTotals.{behind-map}

behind-two : (cs ds : List Ex) (env : Env) (P Q : Type 0) → Behind cs env P → Behind ds env Q → Behind (cs ++ ds) env (P × Q)
behind-two cs ds env P Q p q = behind-append cs ds env P (P × Q) (λ t. behind-map ds env Q (P × Q) (λ u. (t, u)) q) p

-- A node that is marked as a Boolean.
truth-choice : (w c : Bool) (ds : List Ex) (n t : Ex) (env : Env) → (c ≡ true → TotalButNatural w n env) →
    (c ≡ false → Behind ds env (T t env)) → TotalButNatural w (if true && not c then chained ds t else n) env
truth-choice w true ds n t env f h = f refl
truth-choice w false ds n t env f h = placed w (chained ds t) env (chained-total ds t env (h refl))

-- One that isn't.
term-choice : (c : Bool) (cs : List Ex) (env : Env) (P : Type 0) → (c ≡ true → P) → (c ≡ false → Behind cs env P) →
    Behind (if false || c then [] else cs) env P
term-choice true cs env P f h = f refl
term-choice false cs env P f h = h refl

module _ (x y : Text) (pl : Bool) (ts : List TypeEntry) (cs : Names Table) where
  abbrev M : Vals → Env
  M g = E pl ts cs g

  abbrev Known : Names Origin → Vals → Type 0
  Known k g = K.Known pl ts cs k g

  abbrev G : Names Origin → Ex → Ex
  G = guarded true x y

  abbrev Gs : Names Origin → Exs → Exs
  Gs = guarded_all true x y

  abbrev C : Names Origin → Bool → Ex → List Ex
  C k w e = conditions true x y k w e

  abbrev Cs : Names Origin → Bool → Exs → List Ex
  Cs k w es = conditions_all true x y k w es

  -- ---- nodes

  -- An operator under its own conditions, in a natural place or not.
  row-behind : (w b : Bool) (k : Names Origin) (op : Op) (es : Exs) (g : Vals) → Known k g → covers op es ≡ true →
      AllTotalButNatural (opens_places w b op) es (M g) →
      Behind (if may_lack w b op then [] else own k x y op es) (M g) (TotalButNatural w (node_ex b op es) (M g))
  row-behind w b k op es g h v t = go (may_lack w b op) refl (opens_places w b op) refl
    where
      go : (l : Bool) → may_lack w b op ≡ l → (o : Bool) → opens_places w b op ≡ o →
          Behind (if l then [] else own k x y op es) (M g)
          (Unless l (HasValue (value_of_node op (meanings es (M g))) (meanings es (M g)))
          × AllTotalButNatural (opens_places w b op) es (M g))
      go true e o q = (tt, t)
      go false e false q = behind-map (own k x y op es) (M g) _ _ (λ u. (u, t))
          (O.own-total x y pl ts cs k op es g h v (subst (λ z. AllTotalButNatural z es (M g)) q t))
      go false e true q = let r = quiet w b k x y op es e q in
          subst (λ l. Behind l (M g) (HasValue (value_of_node op (meanings es (M g))) (meanings es (M g))
          × AllTotalButNatural (opens_places w b op) es (M g))) (sym r.1) ((λ u. node-some op (meanings es (M g)) r.0 u), t)

  -- ---- whole trees

  asks-none : (e : Ex) (k : Names Origin) (w : Bool) → asks_nothing e ≡ true → C k w e ≡ []
  asks-none (number_ex n) k w t = refl
  asks-none (truth_ex b) k w t = refl
  asks-none (name_ex a) k w t = refl
  asks-none (node_ex b op es) k w t =
      ap (λ z. if z then [] else Cs k (passes true x y w op) es ++ own_at true x y k w op (Gs k es)) t
  asks-none (matrix_ex es d) k w t = cc
  asks-none (comp_ex e gs) k w t = cc
  asks-none (cell_ex b n es) k w t = ap (λ z. if z then [] else Cs k false es) t
  asks-none (seen_ex r d ns es) k w t = refl

  -- What asks for nothing stands under no conditions.
  pub asked-none : (e : Ex) (k : Names Origin) (w : Bool) (env : Env) (P : Type 0) → asks_nothing e ≡ true → Behind (C k w e) env P → P
  asked-none e k w env P t b = subst (λ l. Behind l env P) (asks-none e k w t) b

  -- Operands stay as many.
  number-kept : (es : Exs) (k : Names Origin) → operand_count (Gs k es) ≡ operand_count es
  number-kept no_exs k = refl
  number-kept (more_exs e es) k = ap suc (number-kept es k)

  -- A connective at total operands.
  connective-total : (w b : Bool) (op : Op) (es : Exs) (g : Vals) → connects op ≡ true →
      AllTotalButNatural (opens_places w b op) es (M g) → TotalButNatural w (node_ex b op es) (M g)
  connective-total w b op es g c t = (unless-there (may_lack w b op) _ (λ q. connects-some op (meanings es (M g)) c), t)

  mutual
    -- Under its conditions a covered tree is total but for plain operators in natural places.
    pub total : (e : Ex) (k : Names Origin) (w : Bool) (g : Vals) → Known k g → Covered e →
        Behind (C k w e) (M g) (TotalButNatural w (G k e) (M g))
    total (number_ex n) k w g h v = tt
    total (truth_ex b) k w g h v = tt
    total (name_ex a) k w g h v = tt
    total (node_ex true op es) k w g h v =
        truth-choice w (connects op)
        (Cs k (opens true x y op) es ++ own_at true x y k false op (Gs k es))
        (node_ex true op (Gs k es)) (node_ex true op (Gs k es)) (M g)
        (λ c. connective-total w true op (Gs k es) g c
        (total-truths es k (opens_places w true op) g h (subst (λ z. AskNothing z es) c v.1) v.2))
        (λ c. behind-append (Cs k (opens true x y op) es) _ (M g)
        (AllTotalButNatural (opens_places false true op) (Gs k es) (M g)) (T (node_ex true op (Gs k es)) (M g))
        (λ t. row-behind false true k op (Gs k es) g h (covers-kept true x y op es k v.0) t)
        (total-all es k (opens true x y op) g h v.2))
    total (node_ex false op es) k w g h v =
        term-choice (connects op) (Cs k (passes true x y w op) es ++ own_at true x y k w op (Gs k es)) (M g)
        (TotalButNatural w (node_ex false op (Gs k es)) (M g))
        (λ c. connective-total w false op (Gs k es) g c
        (total-truths es k (opens_places w false op) g h (subst (λ z. AskNothing z es) c v.1) v.2))
        (λ c. behind-append (Cs k (passes true x y w op) es) (own_at true x y k w op (Gs k es)) (M g)
        (AllTotalButNatural (opens_places w false op) (Gs k es) (M g)) (TotalButNatural w (node_ex false op (Gs k es)) (M g))
        (λ t. row-behind w false k op (Gs k es) g h (covers-kept true x y op es k v.0) t)
        (total-all es k (passes true x y w op) g h v.2))
    total (matrix_ex es d) k w g h v = behind-append (Cs k false es) _ (M g) (TA (Gs k es) (M g)) _
        (λ t. behind-append (conditions_dom true x y k d) _ (M g) (DomTotalButNatural (guarded_dom true x y k d) (M g)) _
        (λ u. behind-map (matrix_conditions x es (guarded_dom true x y k d)) (M g) _ _ (λ f. ((λ m. f), t, u))
        (matrix-total x es (Gs k es) (guarded_dom true x y k d) (M g) (sym (number-kept es k)) u))
        (total-dom d k g h v.1)) (total-all es k false g h v.0)
    total (comp_ex e gs) k w g h v =
        total-gens gs k g (G (known_behind gs k) e) (C (known_behind gs k) false e) (λ i q. total e (known_behind gs k) false i q v.0) h v.1
    total (cell_ex true n es) k w g h v = placed w (chained (Cs k false es) (cell_ex true n (Gs k es))) (M g)
        (chained-total (Cs k false es) (cell_ex true n (Gs k es)) (M g) (total-all es k false g h v))
    total (cell_ex false n es) k w g h v = total-all es k false g h v
    total (seen_ex r d ns es) k w g h v = tt

    -- The same of operands.
    pub total-all : (es : Exs) (k : Names Origin) (w : Bool) (g : Vals) → Known k g → CoveredAll es →
        Behind (Cs k w es) (M g) (AllTotalButNatural w (Gs k es) (M g))
    total-all no_exs k w g h v = tt
    total-all (more_exs e es) k w g h v =
        behind-two (C k w e) (Cs k w es) (M g) (TotalButNatural w (G k e) (M g)) (AllTotalButNatural w (Gs k es) (M g))
        (total e k w g h v.0) (total-all es k w g h v.1)

    -- The same of the operands of connectives.
    pub total-truths : (es : Exs) (k : Names Origin) (w : Bool) (g : Vals) → Known k g → AskNothing true es → CoveredAll es →
        AllTotalButNatural w (Gs k es) (M g)
    total-truths no_exs k w g h a v = tt
    total-truths (more_exs e es) k w g h a v =
        (asked-none e k w (M g) (TotalButNatural w (G k e) (M g)) a.0 (total e k w g h v.0), total-truths es k w g h a.1 v.1)

    -- The same of generators.
    pub total-gens : (gs : Gens) (k : Names Origin) (g : Vals) (a : Ex) (ds : List Ex) →
        ((i : Vals) → Known (known_behind gs k) i → Behind ds (M i) (T a (M i))) → Known k g → CoveredGens gs →
        Behind (conditions_gens true x y k gs ds) (M g) (UnderTotalButNatural (guarded_gens true x y k gs) (M g) (λ here. T a here))
    total-gens no_gens k g a ds f h v = f g h
    total-gens (over p d gs) k g a ds f h v =
        behind-append (conditions_dom true x y k d) _ (M g) (DomTotalButNatural (guarded_dom true x y k d) (M g)) _
        (λ t. over-behind p (guarded_dom true x y k d) (conditions_gens true x y (with_over p d k) gs ds) (M g)
        (λ v. UnderTotalButNatural (guarded_gens true x y (with_over p d k) gs) (M (bind p v g)) (λ here. T a here)) t
        (each-member (members_in (domain_of (guarded_dom true x y k d) (M g))) _
        (λ vs w e q. total-gens gs (with_over p d k) (bind p w g) a ds f
        (K.known-over pl ts cs p d w k g (g, vs, ap members_in (sym (S.same-dom true x y d k (M g))) ∙ e, q) h) v.1)))
        (total-dom d k g h v.0)
    total-gens (from p e gs) k g a ds f h v = behind-append (C k false e) _ (M g) (T (G k e) (M g)) _
        (λ t. from-behind p (G k e) (conditions_gens true x y (with_any p k) gs ds) (M g)
        (λ v. UnderTotalButNatural (guarded_gens true x y (with_any p k) gs) (M (bind p v g)) (λ here. T a here)) t
        (each-in-always (meaning (G k e) (M g)) _
        (λ w. total-gens gs (with_any p k) (bind p w g) a ds f (K.known-any pl ts cs p w k g h) v.1)))
        (total e k false g h v.0)
    total-gens (cond c gs) k g a ds f h v =
        given-behind (G k c) (conditions_gens true x y k gs ds) (M g)
        (UnderTotalButNatural (guarded_gens true x y k gs) (M g) (λ here. T a here))
        (asked-none c k false (M g) (T (G k c) (M g)) v.0 (total c k false g h v.1)) (total-gens gs k g a ds f h v.2)

    -- The same of a domain.
    pub total-dom : (d : Dom) (k : Names Origin) (g : Vals) → Known k g → CoveredDom d →
        Behind (conditions_dom true x y k d) (M g) (DomTotalButNatural (guarded_dom true x y k d) (M g))
    total-dom bool_dom k g h v = tt
    total-dom (int_dom rs es) k g h v = total-all es k false g h v
    total-dom (name_dom a) k g h v = tt
    total-dom (tuple_dom ds) k g h v = total-doms ds k g h v
    total-dom (record_dom fs ds) k g h v = total-doms ds k g h v
    total-dom (matrix_dom is d) k g h v =
        behind-two (conditions_doms true x y k is) (conditions_dom true x y k d) (M g) _ _ (total-doms is k g h v.0)
        (total-dom d k g h v.1)
    total-dom (set_dom ms es d) k g h v =
        behind-two (Cs k false es) (conditions_dom true x y k d) (M g) _ _ (total-all es k false g h v.0) (total-dom d k g h v.1)
    total-dom (mset_dom ms es d) k g h v =
        behind-two (Cs k false es) (conditions_dom true x y k d) (M g) _ _ (total-all es k false g h v.0) (total-dom d k g h v.1)
    total-dom (function_dom ms es d c) k g h v = behind-append (Cs k false es) _ (M g) (TA (Gs k es) (M g)) _
        (λ t. behind-append (conditions_dom true x y k d) (conditions_dom true x y k c) (M g)
        (DomTotalButNatural (guarded_dom true x y k d) (M g)) _
        (λ u. behind-map (conditions_dom true x y k c) (M g) (DomTotalButNatural (guarded_dom true x y k c) (M g)) _ (λ w. (t, u, w))
        (total-dom c k g h v.2)) (total-dom d k g h v.1)) (total-all es k false g h v.0)
    total-dom (relation_dom ms es ds) k g h v =
        behind-two (Cs k false es) (conditions_doms true x y k ds) (M g) _ _ (total-all es k false g h v.0) (total-doms ds k g h v.1)
    total-dom (partition_dom ms es d) k g h v =
        behind-two (Cs k false es) (conditions_dom true x y k d) (M g) _ _ (total-all es k false g h v.0) (total-dom d k g h v.1)

    -- The same of several domains.
    pub total-doms : (ds : Doms) (k : Names Origin) (g : Vals) → Known k g → CoveredDoms ds →
        Behind (conditions_doms true x y k ds) (M g) (DomsTotalButNatural (guarded_doms true x y k ds) (M g))
    total-doms no_doms k g h v = tt
    total-doms (more_doms d ds) k g h v =
        behind-two (conditions_dom true x y k d) (conditions_doms true x y k ds) (M g) _ _ (total-dom d k g h v.0)
        (total-doms ds k g h v.1)
