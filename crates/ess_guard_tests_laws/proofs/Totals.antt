-- Under its conditions a tree with known forms is total but for tests.
use Rattle.std.proofs.Common.{suc, ◌≡◌, refl, sym, ap, ◌∙◌, subst, Bool, true, false, ◌&&◌, ◌||◌, not, if◌then◌else◌, List, [], ◌++◌}
use Rattle.ess_semantics.specs.Values.{Text}
use Rattle.ess_semantics.specs.Names.{Names}
use Rattle.ess_semantics.specs.Trees.{Op, function_literal, Ex, Exs, number_ex, truth_ex, name_ex, node_ex, matrix_ex, comp_ex, cell_ex, seen_ex, no_exs, more_exs, Gens, no_gens, over, from, cond, Dom, Doms, bool_dom, int_dom, name_dom, tuple_dom, record_dom, matrix_dom, set_dom, mset_dom, function_dom, relation_dom, partition_dom, no_doms, more_doms}
use Rattle.ess_semantics.specs.Tables.{Table}
use Rattle.ess_semantics.specs.Meaning.{Env, TypeEntry, bind, meaning, meanings, domain_of, members_in}
use Rattle.ess_semantics.specs.Constants.{operand_count}
use Rattle.ess_rules_laws.proofs.Simulation.{Vals, E}
use Rattle.ess_guard_laws.specs.Origins.{Origin, with_any, with_over, known_behind}
use Rattle.ess_guard_laws.specs.Conditions.{chained, matrix_conditions, own}
use Rattle.ess_guard_laws.specs.Guard.{connects, guarded, guarded_all, guarded_gens, guarded_dom, guarded_doms, conditions, conditions_all, conditions_gens, conditions_dom, conditions_doms}
use Rattle.ess_guard_laws.specs.Covered.{asks_nothing, AskNothing}
use Rattle.ess_guard_laws.proofs.CoveredKept.{pairs-kept}
use Rattle.ess_guard_laws.proofs.MetRows.{each-in-always}
use Rattle.ess_guard_laws.proofs.Behind.{each-member}
use Rattle.ess_guard_laws.proofs.KnownNames as K
use Rattle.ess_guard_laws.proofs.StructuresMet as S
use Rattle.ess_guard_laws.proofs.OwnTotals.{connects-some}
use Rattle.ess_guard_tests_laws.specs.TotalButTests.{HasItsValue, UnderTotalButTests, DomTotalButTests, DomsTotalButTests}
use Rattle.ess_guard_tests_laws.specs.FormsKnown.{holds_pairs, FormsKnown, AllFormsKnown, GensFormsKnown, DomFormsKnown, DomsFormsKnown}
use Rattle.ess_guard_tests_laws.proofs.Places.{T, TA, its-value, node-total}
use Rattle.ess_guard_tests_laws.proofs.Behind.{Behind, behind-append, chained-total, over-behind, from-behind, given-behind}
use Rattle.ess_guard_tests_laws.proofs.ConditionRows.{matrix-total}
use Rattle.ess_guard_tests_laws.proofs.OwnTotals as O
use Rattle.ess_guard_tests_laws.proofs.OwnTotals.{behind-map}

behind-two : (cs ds : List Ex) (env : Env) (P Q : Type 0) → Behind cs env P → Behind ds env Q → Behind (cs ++ ds) env (P × Q)
behind-two cs ds env P Q p q = behind-append cs ds env P (P × Q) (λ t. behind-map ds env Q (P × Q) (λ u. (t, u)) q) p

-- A node of each kind.
node-choice : (b c : Bool) (cs : List Ex) (n t : Ex) (env : Env) → (c ≡ true → T n env) → (c ≡ false → Behind cs env (T n env)) →
    (c ≡ false → Behind cs env (T t env)) →
    Behind (if b || c then [] else cs) env (T (if b && not c then chained cs t else n) env)
node-choice true true cs n t env f g h = f refl
node-choice true false cs n t env f g h = chained-total cs t env (h refl)
node-choice false true cs n t env f g h = f refl
node-choice false false cs n t env f g h = g refl

module _ (x y : Text) (pl : Bool) (ts : List TypeEntry) (cs : Names Table) where
  abbrev M : Vals → Env
  M g = E pl ts cs g

  abbrev Known : Names Origin → Vals → Type 0
  Known k g = K.Known pl ts cs k g

  abbrev G : Names Origin → Ex → Ex
  G = guarded false x y

  abbrev Gs : Names Origin → Exs → Exs
  Gs = guarded_all false x y

  abbrev C : Names Origin → Ex → List Ex
  C k e = conditions false x y k false e

  abbrev Cs : Names Origin → Exs → List Ex
  Cs k es = conditions_all false x y k false es

  abbrev own-total : (k : Names Origin) (op : Op) (es : Exs) (g : Vals) → Known k g → holds_pairs op es ≡ true → TA es (M g) →
      Behind (own k x y op es) (M g) (HasItsValue op (meanings es (M g)))
  own-total = O.own-total x y pl ts cs

  -- ---- whole trees

  asks-none : (e : Ex) (k : Names Origin) → asks_nothing e ≡ true → C k e ≡ []
  asks-none (number_ex n) k t = refl
  asks-none (truth_ex b) k t = refl
  asks-none (name_ex a) k t = refl
  asks-none (node_ex b op es) k t = ap (λ z. if z then [] else Cs k es ++ own k x y op (Gs k es)) t
  asks-none (matrix_ex es d) k t = cc
  asks-none (comp_ex e gs) k t = cc
  asks-none (cell_ex b n es) k t = ap (λ z. if z then [] else Cs k es) t
  asks-none (seen_ex r d ns es) k t = refl

  -- What asks for nothing stands under no conditions.
  pub asked-none : (e : Ex) (k : Names Origin) (env : Env) (P : Type 0) → asks_nothing e ≡ true → Behind (C k e) env P → P
  asked-none e k env P t b = subst (λ l. Behind l env P) (asks-none e k t) b

  -- Operands stay as many.
  pub number-kept : (es : Exs) (k : Names Origin) → operand_count (Gs k es) ≡ operand_count es
  number-kept no_exs k = refl
  number-kept (more_exs e es) k = ap suc (number-kept es k)

  kept : (op : Op) (es : Exs) (k : Names Origin) → holds_pairs op es ≡ true → holds_pairs op (Gs k es) ≡ true
  kept function_literal es k t = pairs-kept false x y es k t
  kept _ es k t = refl

  mutual
    -- Under its conditions a tree with known forms is total but for tests.
    pub total : (e : Ex) (k : Names Origin) (g : Vals) → Known k g → FormsKnown e → Behind (C k e) (M g) (T (G k e) (M g))
    total (number_ex n) k g h v = tt
    total (truth_ex b) k g h v = tt
    total (name_ex a) k g h v = tt
    total (node_ex b op es) k g h v =
        node-choice b (connects op) (Cs k es ++ own k x y op (Gs k es)) (node_ex b op (Gs k es)) (node_ex true op (Gs k es)) (M g)
        (λ c. node-total b op (Gs k es) (M g) (its-value op (meanings (Gs k es) (M g)) (λ q. connects-some op (meanings (Gs k es) (M g)) c))
        (total-truths es k g h (subst (λ z. AskNothing z es) c v.1) v.2))
        (λ c. behind-append (Cs k es) (own k x y op (Gs k es)) (M g) (TA (Gs k es) (M g)) (T (node_ex b op (Gs k es)) (M g))
        (λ t. behind-map (own k x y op (Gs k es)) (M g) _ _ (λ q. node-total b op (Gs k es) (M g) q t)
        (own-total k op (Gs k es) g h (kept op es k v.0) t)) (total-all es k g h v.2))
        (λ c. behind-append (Cs k es) (own k x y op (Gs k es)) (M g) (TA (Gs k es) (M g)) (T (node_ex true op (Gs k es)) (M g))
        (λ t. behind-map (own k x y op (Gs k es)) (M g) _ _ (λ q. node-total true op (Gs k es) (M g) q t)
        (own-total k op (Gs k es) g h (kept op es k v.0) t)) (total-all es k g h v.2))
    total (matrix_ex es d) k g h v = behind-append (Cs k es) _ (M g) (TA (Gs k es) (M g)) _
        (λ t. behind-append (conditions_dom false x y k d) _ (M g) (DomTotalButTests (guarded_dom false x y k d) (M g)) _
        (λ u. behind-map (matrix_conditions x es (guarded_dom false x y k d)) (M g) _ _ (λ f. ((λ m. f), t, u))
        (matrix-total x es (Gs k es) (guarded_dom false x y k d) (M g) (sym (number-kept es k)) u))
        (total-dom d k g h v.1)) (total-all es k g h v.0)
    total (comp_ex e gs) k g h v =
        total-gens gs k g (G (known_behind gs k) e) (C (known_behind gs k) e) (λ i q. total e (known_behind gs k) i q v.0) h v.1
    total (cell_ex true n es) k g h v = chained-total (Cs k es) (cell_ex true n (Gs k es)) (M g) (total-all es k g h v)
    total (cell_ex false n es) k g h v = total-all es k g h v
    total (seen_ex r d ns es) k g h v = tt

    -- The same of operands.
    pub total-all : (es : Exs) (k : Names Origin) (g : Vals) → Known k g → AllFormsKnown es → Behind (Cs k es) (M g) (TA (Gs k es) (M g))
    total-all no_exs k g h v = tt
    total-all (more_exs e es) k g h v =
        behind-two (C k e) (Cs k es) (M g) (T (G k e) (M g)) (TA (Gs k es) (M g)) (total e k g h v.0) (total-all es k g h v.1)

    -- The same of the operands of connectives.
    pub total-truths : (es : Exs) (k : Names Origin) (g : Vals) → Known k g → AskNothing true es → AllFormsKnown es → TA (Gs k es) (M g)
    total-truths no_exs k g h a v = tt
    total-truths (more_exs e es) k g h a v =
        (asked-none e k (M g) (T (G k e) (M g)) a.0 (total e k g h v.0), total-truths es k g h a.1 v.1)

    -- The same of generators.
    pub total-gens : (gs : Gens) (k : Names Origin) (g : Vals) (a : Ex) (ds : List Ex) →
        ((i : Vals) → Known (known_behind gs k) i → Behind ds (M i) (T a (M i))) → Known k g → GensFormsKnown gs →
        Behind (conditions_gens false x y k gs ds) (M g) (UnderTotalButTests (guarded_gens false x y k gs) (M g) (λ here. T a here))
    total-gens no_gens k g a ds f h v = f g h
    total-gens (over p d gs) k g a ds f h v =
        behind-append (conditions_dom false x y k d) _ (M g) (DomTotalButTests (guarded_dom false x y k d) (M g)) _
        (λ t. over-behind p (guarded_dom false x y k d) (conditions_gens false x y (with_over p d k) gs ds) (M g)
        (λ v. UnderTotalButTests (guarded_gens false x y (with_over p d k) gs) (M (bind p v g)) (λ here. T a here)) t
        (each-member (members_in (domain_of (guarded_dom false x y k d) (M g))) _
        (λ vs w e q. total-gens gs (with_over p d k) (bind p w g) a ds f
        (K.known-over pl ts cs p d w k g (g, vs, ap members_in (sym (S.same-dom false x y d k (M g))) ∙ e, q) h) v.1)))
        (total-dom d k g h v.0)
    total-gens (from p e gs) k g a ds f h v = behind-append (C k e) _ (M g) (T (G k e) (M g)) _
        (λ t. from-behind p (G k e) (conditions_gens false x y (with_any p k) gs ds) (M g)
        (λ v. UnderTotalButTests (guarded_gens false x y (with_any p k) gs) (M (bind p v g)) (λ here. T a here)) t
        (each-in-always (meaning (G k e) (M g)) _
        (λ w. total-gens gs (with_any p k) (bind p w g) a ds f (K.known-any pl ts cs p w k g h) v.1)))
        (total e k g h v.0)
    total-gens (cond c gs) k g a ds f h v =
        given-behind (G k c) (conditions_gens false x y k gs ds) (M g)
        (UnderTotalButTests (guarded_gens false x y k gs) (M g) (λ here. T a here))
        (asked-none c k (M g) (T (G k c) (M g)) v.0 (total c k g h v.1)) (total-gens gs k g a ds f h v.2)

    -- The same of a domain.
    pub total-dom : (d : Dom) (k : Names Origin) (g : Vals) → Known k g → DomFormsKnown d →
        Behind (conditions_dom false x y k d) (M g) (DomTotalButTests (guarded_dom false x y k d) (M g))
    total-dom bool_dom k g h v = tt
    total-dom (int_dom rs es) k g h v = total-all es k g h v
    total-dom (name_dom a) k g h v = tt
    total-dom (tuple_dom ds) k g h v = total-doms ds k g h v
    total-dom (record_dom fs ds) k g h v = total-doms ds k g h v
    total-dom (matrix_dom is d) k g h v =
        behind-two (conditions_doms false x y k is) (conditions_dom false x y k d) (M g) _ _ (total-doms is k g h v.0)
        (total-dom d k g h v.1)
    total-dom (set_dom ms es d) k g h v =
        behind-two (Cs k es) (conditions_dom false x y k d) (M g) _ _ (total-all es k g h v.0) (total-dom d k g h v.1)
    total-dom (mset_dom ms es d) k g h v =
        behind-two (Cs k es) (conditions_dom false x y k d) (M g) _ _ (total-all es k g h v.0) (total-dom d k g h v.1)
    total-dom (function_dom ms es d c) k g h v = behind-append (Cs k es) _ (M g) (TA (Gs k es) (M g)) _
        (λ t. behind-append (conditions_dom false x y k d) (conditions_dom false x y k c) (M g)
        (DomTotalButTests (guarded_dom false x y k d) (M g)) _
        (λ u. behind-map (conditions_dom false x y k c) (M g) (DomTotalButTests (guarded_dom false x y k c) (M g)) _ (λ w. (t, u, w))
        (total-dom c k g h v.2)) (total-dom d k g h v.1)) (total-all es k g h v.0)
    total-dom (relation_dom ms es ds) k g h v =
        behind-two (Cs k es) (conditions_doms false x y k ds) (M g) _ _ (total-all es k g h v.0) (total-doms ds k g h v.1)
    total-dom (partition_dom ms es d) k g h v =
        behind-two (Cs k es) (conditions_dom false x y k d) (M g) _ _ (total-all es k g h v.0) (total-dom d k g h v.1)

    -- The same of several domains.
    pub total-doms : (ds : Doms) (k : Names Origin) (g : Vals) → Known k g → DomsFormsKnown ds →
        Behind (conditions_doms false x y k ds) (M g) (DomsTotalButTests (guarded_doms false x y k ds) (M g))
    total-doms no_doms k g h v = tt
    total-doms (more_doms d ds) k g h v =
        behind-two (conditions_dom false x y k d) (conditions_doms false x y k ds) (M g) _ _ (total-dom d k g h v.0)
        (total-doms ds k g h v.1)
