-- Where its conditions hold a term has a value, whatever partial operators are in it, if what it reads is there.
use Rattle.std.proofs.Common.{◌≡◌, refl, sym, ap, ◌∙◌, subst, Bool, true, false, ◌&&◌, ◌||◌, if◌then◌else◌, List, [], ◌∷◌, ◌++◌, Option, Some, None, option_map, is_some}
use Rattle.std.specs.List.{list_all}
use Rattle.ess_semantics.specs.Lists.{and_then, all_some}
use Rattle.ess_semantics.specs.Values.{Text, Value, truth, number, item, node}
use Rattle.ess_semantics.specs.Names.{Names}
use Rattle.ess_semantics.specs.Trees.{Op, application, function_literal, Ex, Exs, number_ex, truth_ex, name_ex, node_ex, matrix_ex, comp_ex, cell_ex, seen_ex, no_exs, more_exs, Gens, no_gens, over, from, cond, Dom, Doms, bool_dom, int_dom, name_dom, tuple_dom, record_dom, matrix_dom, set_dom, mset_dom, function_dom, relation_dom, partition_dom, no_doms, more_doms}
use Rattle.ess_semantics.specs.Operators.{as_truth, value_of_node, false_where_undefined, list_value}
use Rattle.ess_semantics.specs.Tables.{Table}
use Rattle.ess_semantics.specs.Meaning.{Env, TypeEntry, bind, with_pat, meaning, meanings, items_under, where_true, domain_of, members_in, matrix_value}
use Rattle.ess_semantics.specs.Contexts.{EachOf, EachIn}
use Rattle.ess_semantics.proofs.Tests.{and-both}
use Rattle.ess_rules_laws.proofs.Simulation.{Vals, E}
use Rattle.ess_rules_laws.proofs.Bindings.{each-of-join, each-in-join}
use Rattle.ess_guard_laws.specs.Origins.{Origin, with_any, with_over, known_behind}
use Rattle.ess_guard_laws.specs.Conditions.{matrix_conditions, own}
use Rattle.ess_guard_laws.specs.Guard.{connects, guarded, guarded_all, guarded_dom, conditions, conditions_all, conditions_gens, conditions_dom, conditions_doms}
use Rattle.ess_guard_laws.specs.Holds.{Hold}
use Rattle.ess_guard_laws.specs.Supplied.{has_numbers, have_numbers, is_known, Unless, Supplied, SuppliedAll, SuppliedUnder, SuppliedDom, SuppliedDoms}
use Rattle.ess_guard_laws.proofs.Holding.{hold-left, hold-right, map-some}
use Rattle.ess_guard_laws.proofs.Behind.{each-member}
use Rattle.ess_guard_laws.proofs.StructuresMet as S
use Rattle.ess_guard_laws.proofs.KnownNames as K
use Rattle.ess_guard_laws.proofs.OwnTotals.{connects-some}
use Rattle.ess_guard_laws.proofs.RowsTell as R
use Rattle.ess_guard_laws.proofs.TotalMatrices.{matrix-tells}
use Rattle.ess_guard_laws.proofs.CoveredKept.{pairs-kept}
use Rattle.ess_guard_laws.proofs.RelationTerms.{relation-kept}
use Rattle.ess_guard_laws.proofs.Told.{over-told, from-told, given-told, collect-members, collect-items}

-- A node that is a Boolean or a connective has a value; any other one where its conditions hold.
node-case : (b : Bool) (op : Op) (os : List (Option Value)) (cs : List Ex) (env : Env) (S : Type 0) →
    (S → Hold cs env → is_some (value_of_node op os) ≡ true) →
    Unless (b || connects op) S → Hold (if b || connects op then [] else cs) env →
    is_some (false_where_undefined b (value_of_node op os)) ≡ true
node-case true op os cs env S f s h = refl
node-case false op os cs env S f s h = go (connects op) refl s h
  where
    go : (t : Bool) → connects op ≡ t → Unless t S → Hold (if t then [] else cs) env → is_some (value_of_node op os) ≡ true
    go true c s h = connects-some op os c
    go false c s h = f s h

-- What the conditions of two parts tell.
both-told : (cs ds : List Ex) (env : Env) (a b : Bool) → (Hold cs env → a ≡ true) → (Hold ds env → b ≡ true) → Hold (cs ++ ds) env →
    a && b ≡ true
both-told cs ds env a b f g h = and-both a b (f (hold-left cs ds env h)) (g (hold-right cs ds env h))

-- Behind a condition that isn't true there are no items.
behind : (o : Option Value) (l : Option (List Value)) → (as_truth o ≡ true → is_some l ≡ true) → is_some (where_true o (λ u. l)) ≡ true
behind (Some (truth true)) l f = f refl
behind (Some (truth false)) l f = refl
behind (Some (number n)) l f = refl
behind (Some (item t n)) l f = refl
behind (Some (node a b)) l f = refl
behind None l f = refl

-- The members at which two facts hold of each.
abbrev Both : (Value → Type 0) → (Value → Type 0) → Value → Type 0
Both P Q v = P v × Q v

module _ (x y : Text) (pl : Bool) (ts : List TypeEntry) (cs : Names Table) where
  abbrev M : Vals → Env
  M g = E pl ts cs g

  abbrev Known : Names Origin → Vals → Type 0
  Known k g = K.Known pl ts cs k g

  abbrev G : Names Origin → Ex → Ex
  G = guarded false x y

  abbrev Gs : Names Origin → Exs → Exs
  Gs = guarded_all false x y

  abbrev C : Names Origin → Ex → List Ex
  C k e = conditions false x y k false e

  abbrev Cs : Names Origin → Exs → List Ex
  Cs k es = conditions_all false x y k false es

  known-kept : (op : Op) (es : Exs) (k : Names Origin) → is_known op es ≡ true → is_known op (Gs k es) ≡ true
  known-kept application (more_exs f es) k t = relation-kept false x y f k t
  known-kept function_literal es k t = pairs-kept false x y es k t
  known-kept op es k t = refl

  -- An operator whose operands have values.
  node-tells : (op : Op) (es : Exs) (k : Names Origin) (g : Vals) → Known k g → is_known op es ≡ true →
      list_all is_some (meanings es (M g)) ≡ true → Hold (own k x y op (Gs k es)) (M g) →
      is_some (value_of_node op (meanings es (M g))) ≡ true
  node-tells op es k g n v t h =
      ap (λ os. is_some (value_of_node op os)) (sym (S.same-all false x y es k (M g)))
      ∙ R.own-tells x y pl ts cs k op (Gs k es) g n (known-kept op es k v) h (ap (list_all is_some) (S.same-all false x y es k (M g)) ∙ t)

  -- A matrix literal whose items have values.
  matrix-told : (es : Exs) (d : Dom) (k : Names Origin) (g : Vals) → list_all is_some (meanings es (M g)) ≡ true →
      Hold (matrix_conditions x es (guarded_dom false x y k d)) (M g) →
      is_some (meaning (matrix_ex es d) (M g)) ≡ true
  matrix-told es d k g t h =
      ap (λ o. is_some (and_then (all_some (meanings es (M g))) (matrix_value (members_in o)))) (sym (S.same-dom false x y d k (M g)))
      ∙ matrix-tells x es es (guarded_dom false x y k d) (M g) refl h t

  mutual
    -- Where its conditions hold a term has a value.
    pub tell : (e : Ex) (k : Names Origin) (g : Vals) → Known k g → Supplied e (M g) → Hold (C k e) (M g) → is_some (meaning e (M g)) ≡ true
    tell (number_ex n) k g n' s h = refl
    tell (truth_ex b) k g n s h = refl
    tell (name_ex a) k g n s h = s
    tell (node_ex b op es) k g n s h =
        node-case b op (meanings es (M g)) (Cs k es ++ own k x y op (Gs k es)) (M g) ((is_known op es ≡ true) × SuppliedAll es (M g))
        (λ u c. node-tells op es k g n u.0 (tell-all es k g n u.1 (hold-left (Cs k es) _ (M g) c)) (hold-right (Cs k es) _ (M g) c)) s h
    tell (matrix_ex es d) k g n s h =
        matrix-told es d k g (tell-all es k g n s (hold-left (Cs k es) _ (M g) h))
        (hold-right (conditions_dom false x y k d) _ (M g) (hold-right (Cs k es) _ (M g) h))
    tell (comp_ex e gs) k g n s h = map-some list_value (items_under gs (M g) (λ here. option_map (λ v. v ∷ []) (meaning e here)))
        ∙ tell-gens gs k g (C (known_behind gs k) e) (λ here. option_map (λ v. v ∷ []) (meaning e here)) e
        (λ i q u c. map-some (λ v. v ∷ []) (meaning e (M i)) ∙ tell e (known_behind gs k) i q u c) n s h
    tell (cell_ex true m es) k g n s h = refl
    tell (cell_ex false m es) k g n s h = s.0 (tell-all es k g n s.1 h)
    tell (seen_ex r d ns es) k g n s h = s

    -- The same of operands.
    pub tell-all : (es : Exs) (k : Names Origin) (g : Vals) → Known k g → SuppliedAll es (M g) → Hold (Cs k es) (M g) →
        list_all is_some (meanings es (M g)) ≡ true
    tell-all no_exs k g n s h = refl
    tell-all (more_exs e es) k g n s h = both-told (C k e) (Cs k es) (M g) _ _ (tell e k g n s.0) (tell-all es k g n s.1) h

    -- The same of generators.
    pub tell-gens : (gs : Gens) (k : Names Origin) (g : Vals) (ds : List Ex) (j : Env → Option (List Value)) (a : Ex) →
        ((i : Vals) → Known (known_behind gs k) i → Supplied a (M i) → Hold ds (M i) → is_some (j (M i)) ≡ true) → Known k g →
        SuppliedUnder gs (M g) (λ here. Supplied a here) →
        Hold (conditions_gens false x y k gs ds) (M g) → is_some (items_under gs (M g) j) ≡ true
    tell-gens no_gens k g ds j a f n s h = f g n s h
    tell-gens (over p d gs) k g ds j a f n s h =
        collect-members (members_in (domain_of d (M g))) (λ v. items_under gs (with_pat p v (M g)) j)
        (s.1 (tell-dom d k g n s.0 (hold-left (conditions_dom false x y k d) _ (M g) h)))
        (each-of-join (members_in (domain_of d (M g))) (λ v. K.Lies pl ts cs d v)
        (Both (λ v. SuppliedUnder gs (with_pat p v (M g)) (λ here. Supplied a here))
        (λ v. Hold (conditions_gens false x y (with_over p d k) gs ds) (with_pat p v (M g)))) _
        (λ v l q. tell-gens gs (with_over p d k) (bind p v g) ds j a f (K.known-over pl ts cs p d v k g l n) q.0 q.1)
        (each-member (members_in (domain_of d (M g))) _ (λ vs w e q. (g, vs, e, q)))
        (each-of-join (members_in (domain_of d (M g))) _ _ _ (λ v b c. (b, c)) s.2
        (subst (λ o. EachOf o (λ v. Hold (conditions_gens false x y (with_over p d k) gs ds) (with_pat p v (M g))))
        (ap members_in (S.same-dom false x y d k (M g)))
        (over-told p (guarded_dom false x y k d) (conditions_gens false x y (with_over p d k) gs ds) (M g)
        (hold-right (conditions_dom false x y k d) _ (M g) h)))))
    tell-gens (from p e gs) k g ds j a f n s h = collect-items (meaning e (M g)) (λ v. items_under gs (with_pat p v (M g)) j)
        (tell e k g n s.0 (hold-left (C k e) _ (M g) h))
        (each-in-join (meaning e (M g)) _ _ _
        (λ v b c. tell-gens gs (with_any p k) (bind p v g) ds j a f (K.known-any pl ts cs p v k g n) b c) s.1
        (subst (λ o. EachIn o (λ v. Hold (conditions_gens false x y (with_any p k) gs ds) (with_pat p v (M g))))
        (S.same false x y e k (M g))
        (from-told p (G k e) (conditions_gens false x y (with_any p k) gs ds) (M g) (hold-right (C k e) _ (M g) h))))
    tell-gens (cond c gs) k g ds j a f n s h = behind (meaning c (M g)) (items_under gs (M g) j)
        (λ t. tell-gens gs k g ds j a f n (s t)
        (given-told (G k c) (conditions_gens false x y k gs ds) (M g) h (ap as_truth (S.same false x y c k (M g)) ∙ t)))

    -- The same of a domain.
    pub tell-dom : (d : Dom) (k : Names Origin) (g : Vals) → Known k g → SuppliedDom d (M g) → Hold (conditions_dom false x y k d) (M g) →
        has_numbers d (M g) ≡ true
    tell-dom bool_dom k g n s h = refl
    tell-dom (int_dom rs es) k g n s h = tell-all es k g n s h
    tell-dom (name_dom a) k g n s h = refl
    tell-dom (tuple_dom ds) k g n s h = tell-doms ds k g n s h
    tell-dom (record_dom fs ds) k g n s h = tell-doms ds k g n s h
    tell-dom (matrix_dom is d) k g n s h =
        both-told (conditions_doms false x y k is) (conditions_dom false x y k d) (M g) _ _ (tell-doms is k g n s.0)
        (tell-dom d k g n s.1) h
    tell-dom (set_dom ms es d) k g n s h =
        both-told (Cs k es) (conditions_dom false x y k d) (M g) _ _ (tell-all es k g n s.0) (tell-dom d k g n s.1) h
    tell-dom (mset_dom ms es d) k g n s h =
        both-told (Cs k es) (conditions_dom false x y k d) (M g) _ _ (tell-all es k g n s.0) (tell-dom d k g n s.1) h
    tell-dom (function_dom ms es d c) k g n s h =
        both-told (Cs k es) (conditions_dom false x y k d ++ conditions_dom false x y k c) (M g) _ _ (tell-all es k g n s.0)
        (both-told (conditions_dom false x y k d) (conditions_dom false x y k c) (M g) _ _ (tell-dom d k g n s.1) (tell-dom c k g n s.2)) h
    tell-dom (relation_dom ms es ds) k g n s h =
        both-told (Cs k es) (conditions_doms false x y k ds) (M g) _ _ (tell-all es k g n s.0) (tell-doms ds k g n s.1) h
    tell-dom (partition_dom ms es d) k g n s h =
        both-told (Cs k es) (conditions_dom false x y k d) (M g) _ _ (tell-all es k g n s.0) (tell-dom d k g n s.1) h

    -- The same of several domains.
    pub tell-doms : (ds : Doms) (k : Names Origin) (g : Vals) → Known k g → SuppliedDoms ds (M g) →
        Hold (conditions_doms false x y k ds) (M g) → have_numbers ds (M g) ≡ true
    tell-doms no_doms k g n s h = refl
    tell-doms (more_doms d ds) k g n s h =
        both-told (conditions_dom false x y k d) (conditions_doms false x y k ds) (M g) _ _ (tell-dom d k g n s.0)
        (tell-doms ds k g n s.1) h
