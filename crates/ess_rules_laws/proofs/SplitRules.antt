-- The rule of generators over tuples of domains keeps what it rewrites.
use Rattle.std.proofs.Common.{◌≡◌, refl, sym, ap, ◌∙◌, subst, Bool, true, List, [], ◌∷◌, ◌++◌, map, Option, Some, None, option_map}
use Rattle.std.specs.Prelude.{is_some}
use Rattle.ess_semantics.specs.Lists.{and_then, all_some}
use Rattle.ess_semantics.specs.Values.{Text, Value, of_list, tuple, items_of}
use Rattle.ess_semantics.specs.Names.{Names}
use Rattle.ess_semantics.specs.Trees.{Pats, tuple_pat, no_pats, more_pats, Ex, comp_ex, Gens, over, Doms, tuple_dom, no_doms, more_doms}
use Rattle.ess_semantics.specs.Domains.{Domain, Domains, tuples, more_domains, add_heads, lists_of, members, members_of_each}
use Rattle.ess_semantics.specs.Operators.{list_value}
use Rattle.ess_semantics.specs.Tables.{Table}
use Rattle.ess_semantics.specs.Meaning.{Env, TypeEntry, bind, bind_all, meaning, items_under, domain_of, domains_of, members_in, collect}
use Rattle.ess_semantics.specs.Contexts.{Each, EachOf}
use Rattle.ess_semantics.specs.Meets.{Meets, MeetsGens, MeetsDoms}
use Rattle.ess_semantics.specs.Substitution.{BindsAll, NamesAreDoms}
use Rattle.ess_semantics.proofs.Orders.{to_list-of_list}
use Rattle.ess_rules_laws.specs.SplitRules.{as_many, each_over, split, DomainThere, DomainApart, SplitKeeps}
use Rattle.ess_rules_laws.proofs.Simulation.{Vals, E, any, collect-same}
use Rattle.ess_rules_laws.proofs.Agreement.{AgreeOn, outside, domain-agree}
use Rattle.ess_rules_laws.proofs.MeetsSimulation.{meets-agree-dom}
use Rattle.ess_rules_laws.proofs.Bindings.{each-map}
use Rattle.ess_rules_laws.proofs.Splices.{collect-append, agree-chain, bind-outside}
use Rattle.ess_rules_laws.proofs.ListedItems.{alone-listed}
use Rattle.ess_rules_laws.proofs.RuleAnswers.{AnswerKeeps, fires, when-so}

-- ---- tuples with one item from each list

abbrev T : List Value → Value
T l = tuple (of_list l)

-- What is collected from tuples, where a value is put in front of each.
collect-head : (v : Value) (ls : List (List Value)) (F : Value → Option (List Value)) → collect (map T (map (λ l. v ∷ l) ls)) F ≡ collect (map T ls) (λ u. F (T (v ∷ items_of u)))
collect-head v [] F = refl
collect-head v (l ∷ ls) F =
    ap (λ z. and_then (F (T (v ∷ z))) (λ xs. option_map (λ ys. xs ++ ys) (collect (map T (map (λ l. v ∷ l) ls)) F))) (sym (to_list-of_list l))
    ∙ ap (λ o. and_then (F (T (v ∷ items_of (T l)))) (λ xs. option_map (λ ys. xs ++ ys) o)) (collect-head v ls F)

tuples-append : (ls ms : List (List Value)) → map T (ls ++ ms) ≡ map T ls ++ map T ms
tuples-append [] ms = refl
tuples-append (l ∷ ls) ms = ap (λ z. T l ∷ z) (tuples-append ls ms)

collect-heads : (vs : List Value) (ls : List (List Value)) (F : Value → Option (List Value)) → collect (map T (add_heads vs ls)) F ≡ collect vs (λ v. collect (map T ls) (λ u. F (T (v ∷ items_of u))))
collect-heads [] ls F = refl
collect-heads (v ∷ vs) ls F =
    ap (λ l. collect l F) (tuples-append (map (λ l. v ∷ l) ls) (add_heads vs ls))
    ∙ collect-append (map T (map (λ l. v ∷ l) ls)) (map T (add_heads vs ls)) F
    ∙ ap (λ o. and_then o (λ xs. option_map (λ ys. xs ++ ys) (collect (map T (add_heads vs ls)) F))) (collect-head v ls F)
    ∙ ap (λ o. and_then (collect (map T ls) (λ u. F (T (v ∷ items_of u)))) (λ xs. option_map (λ ys. xs ++ ys) o)) (collect-heads vs ls F)

-- What holds of tuples.
each-head : (v : Value) (ls : List (List Value)) (R : Value → Type 0) → Each (map T (map (λ l. v ∷ l) ls)) R → Each (map T ls) (λ u. R (T (v ∷ items_of u)))
each-head v [] R h = tt
each-head v (l ∷ ls) R h = (subst (λ z. R (T (v ∷ z))) (sym (to_list-of_list l)) h.0, each-head v ls R h.1)

each-parts : (ls ms : List (List Value)) (R : Value → Type 0) → Each (map T (ls ++ ms)) R → Each (map T ls) R × Each (map T ms) R
each-parts [] ms R h = (tt, h)
each-parts (l ∷ ls) ms R h = let r = each-parts ls ms R h.1 in ((h.0, r.0), r.1)

each-heads : (vs : List Value) (ls : List (List Value)) (R : Value → Type 0) → Each (map T (add_heads vs ls)) R → Each vs (λ v. Each (map T ls) (λ u. R (T (v ∷ items_of u))))
each-heads [] ls R h = tt
each-heads (v ∷ vs) ls R h = let r = each-parts (map (λ l. v ∷ l) ls) (add_heads vs ls) R h in (each-head v ls R r.0, each-heads vs ls R r.1)

-- ---- the domains of the components

-- The domains have these members.
abbrev Known : Doms → List (List Value) → Env → Type 0
Known no_doms [] env = Unit {0}
Known (more_doms d ds) (vs ∷ vss) env = (members_in (domain_of d env) ≡ Some vs) × Known ds vss env
Known ds vss env = ⊥

-- The members of each.
abbrev listed : Option Domains → Option (List (List Value))
listed o = and_then o (λ e. all_some (members_of_each e))

each-known : (ds : Doms) (env : Env) → is_some (listed (domains_of ds env)) ≡ true → (vss : List (List Value)) × Known ds vss env × (listed (domains_of ds env) ≡ Some vss)
each-known no_doms env h = ([], tt, refl)
each-known (more_doms d ds) env h = go (domain_of d env) refl (domains_of ds env) h (λ k. each-known ds env k)
  where
    go : (o : Option Domain) → domain_of d env ≡ o → (p : Option Domains) → is_some (listed (and_then o (λ x. option_map (more_domains x) p))) ≡ true →
        (is_some (listed p) ≡ true → (vss : List (List Value)) × Known ds vss env × (listed p ≡ Some vss)) →
        (vss : List (List Value)) × Known (more_doms d ds) vss env × (listed (and_then o (λ x. option_map (more_domains x) p)) ≡ Some vss)
    go None j p h r = cc
    go (Some x) j None h r = cc
    go (Some x) j (Some e) h r = at (members x) refl (all_some (members_of_each e)) h r
      where
        at : (m : Option (List Value)) → members x ≡ m → (q : Option (List (List Value))) → is_some (and_then m (λ vs. option_map (λ vss. vs ∷ vss) q)) ≡ true →
            (is_some q ≡ true → (vss : List (List Value)) × Known ds vss env × (q ≡ Some vss)) →
            (vss : List (List Value)) × Known (more_doms d ds) vss env × (and_then m (λ vs. option_map (λ vss. vs ∷ vss) q) ≡ Some vss)
        at None k q h r = cc
        at (Some vs) k None h r = cc
        at (Some vs) k (Some vss) h r = let s = r refl in (vs ∷ s.0, (ap members_in j ∙ k, s.1), ap (option_map (λ l. vs ∷ l)) s.2)

-- The members of a tuple of domains.
tuple-members : (o : Option Domains) → members_in (option_map tuples o) ≡ option_map (λ ls. map T (lists_of ls)) (listed o)
tuple-members None = refl
tuple-members (Some e) = refl

there-before : (f : List (List Value) → List Value) (o : Option (List (List Value))) → is_some (option_map f o) ≡ true → is_some o ≡ true
there-before f None h = cc
there-before f (Some l) h = refl

-- ---- generators

module _ (pl : Bool) (ts : List TypeEntry) (cs : Names Table) (r : Text → Bool) (g0 : Vals) (hs : Gens) where
  abbrev M : Vals → Env
  M g = E pl ts cs g

  module _ (k : Env → Option (List Value)) where
    split-items : (ps : Pats) (ds : Doms) (vss : List (List Value)) (g : Vals) → as_many ps ds ≡ true → Known ds vss (M g0) → BindsAll r ps → NamesAreDoms (outside r) any ds → AgreeOn (outside r) g0 g →
        items_under (each_over ps ds hs) (M g) k ≡ collect (map T (lists_of vss)) (λ u. items_under hs (M (bind_all ps (items_of u) g)) k)
    split-items no_pats no_doms [] g q a b o s = sym (alone-listed (items_under hs (M g) k))
    split-items (more_pats p ps) (more_doms d ds) (vs ∷ vss) g q a b o s =
        ap (λ z. and_then z (λ us. collect us (λ v. items_under (each_over ps ds hs) (M (bind p v g)) k))) (ap members_in (domain-agree pl ts cs (outside r) d g0 g o.0 s) ∙ a.0)
        ∙ collect-same vs _ _ (λ v. split-items ps ds vss (bind p v g) q a.1 b.1 o.1 (agree-chain (outside r) g0 g (bind p v g) s (bind-outside r p v g b.0))
        ∙ collect-same (map T (lists_of vss)) _ _ (λ u. ap (λ l. items_under hs (M (bind_all ps l (bind p v g))) k) (sym (to_list-of_list (items_of u)))))
        ∙ sym (collect-heads vs (lists_of vss) (λ u. items_under hs (M (bind_all (more_pats p ps) (items_of u) g)) k))
    split-items no_pats no_doms (_ ∷ _) g q a b o s = absurd a
    split-items (more_pats p ps) (more_doms d ds) [] g q a b o s = absurd a
    split-items no_pats (more_doms d ds) vss g q a b o s = cc
    split-items (more_pats p ps) no_doms vss g q a b o s = cc

  module _ (P : Env → Type 0) where
    split-met : (ps : Pats) (ds : Doms) (vss : List (List Value)) (g : Vals) → as_many ps ds ≡ true → Known ds vss (M g0) → BindsAll r ps → NamesAreDoms (outside r) any ds → AgreeOn (outside r) g0 g →
        MeetsDoms ds (M g0) → Each (map T (lists_of vss)) (λ u. MeetsGens hs (M (bind_all ps (items_of u) g)) P) → MeetsGens (each_over ps ds hs) (M g) P
    split-met no_pats no_doms [] g q a b o s m h = h.0
    split-met (more_pats p ps) (more_doms d ds) (vs ∷ vss) g q a b o s m h = (
      meets-agree-dom pl ts cs (outside r) d g0 g o.0 s m.0,
      subst (λ z. EachOf z (λ v. MeetsGens (each_over ps ds hs) (M (bind p v g)) P)) (sym (ap members_in (domain-agree pl ts cs (outside r) d g0 g o.0 s) ∙ a.0))
          (each-map vs _ _ (λ v e. split-met ps ds vss (bind p v g) q a.1 b.1 o.1 (agree-chain (outside r) g0 g (bind p v g) s (bind-outside r p v g b.0)) m.1
          (each-map (map T (lists_of vss)) _ _ (λ u f. subst (λ l. MeetsGens hs (M (bind_all ps l (bind p v g))) P) (to_list-of_list (items_of u)) f) e))
          (each-heads vs (lists_of vss) (λ u. MeetsGens hs (M (bind_all (more_pats p ps) (items_of u) g)) P) h)),
    )
    split-met no_pats no_doms (_ ∷ _) g q a b o s m h = absurd a
    split-met (more_pats p ps) (more_doms d ds) [] g q a b o s m h = absurd a
    split-met no_pats (more_doms d ds) vss g q a b o s m h = cc
    split-met (more_pats p ps) no_doms vss g q a b o s m h = cc

-- ---- the rule

split-answer : (r : Text → Bool) (e : Ex) → DomainApart r e → (env : Env) → DomainThere e env → AnswerKeeps (split e) e env
split-answer r (comp_ex e (over (tuple_pat ps) (tuple_dom ds) hs)) o env t = when-so (as_many ps ds) _ (comp_ex e (over (tuple_pat ps) (tuple_dom ds) hs)) env (λ q m.
    let w = each-known ds env (there-before (λ ls. map T (lists_of ls)) (listed (domains_of ds env)) (subst (λ z. is_some z ≡ true) (tuple-members (domains_of ds env)) t)) in
    let us = tuple-members (domains_of ds env) ∙ ap (option_map (λ ls. map T (lists_of ls))) w.2 in (
      ap (option_map list_value)
          (ap (λ z. and_then z (λ vs. collect vs (λ u. items_under hs (E env.positions env.types env.cells (bind_all ps (items_of u) env.vals)) (λ here. option_map (λ v. v ∷ []) (meaning e here))))) us
          ∙ sym (split-items env.positions env.types env.cells r env.vals hs (λ here. option_map (λ v. v ∷ []) (meaning e here)) ps ds w.0 env.vals q w.1 o.0 o.1 (λ a p. refl))),
      split-met env.positions env.types env.cells r env.vals hs (λ here. Meets e here) ps ds w.0 env.vals q w.1 o.0 o.1 (λ a p. refl) m.0
          (subst (λ z. EachOf z (λ u. MeetsGens hs (E env.positions env.types env.cells (bind_all ps (items_of u) env.vals)) (λ here. Meets e here))) us m.1),
    ))
split-answer r _ o env t = tt

-- Generators over tuples of domains.
pub split-keeps : SplitKeeps
split-keeps r e f q o env t = fires (split e) e f env (split-answer r e o env t) q
