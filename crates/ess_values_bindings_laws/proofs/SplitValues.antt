-- Generators over the components of a tuple of domains have values, where the generator over the tuple has.
use Rattle.std.proofs.Common.{◌≡◌, refl, sym, ap, ◌∙◌, subst, Bool, true, List, [], ◌∷◌, ◌++◌, map, Option, Some, None, option_map}
use Rattle.std.specs.Prelude.{is_some}
use Rattle.ess_semantics.specs.Lists.{and_then, all_some}
use Rattle.ess_semantics.specs.Values.{Text, Value, of_list, tuple, items_of}
use Rattle.ess_semantics.specs.Names.{Names}
use Rattle.ess_semantics.specs.Trees.{Pats, no_pats, more_pats, Gens, Doms, tuple_dom, no_doms, more_doms}
use Rattle.ess_semantics.specs.Domains.{Domain, Domains, tuples, more_domains, add_heads, lists_of, members, members_of_each}
use Rattle.ess_semantics.specs.Tables.{Table}
use Rattle.ess_semantics.specs.Meaning.{Env, TypeEntry, bind, bind_all, domain_of, domains_of, members_in}
use Rattle.ess_semantics.specs.Contexts.{Each, EachOf}
use Rattle.ess_semantics.specs.Substitution.{BindsAll, NamesAreDoms}
use Rattle.ess_semantics.proofs.Orders.{to_list-of_list}
use Rattle.ess_rules_laws.specs.SplitRules.{as_many, each_over}
use Rattle.ess_rules_laws.proofs.Simulation.{Vals, E, any}
use Rattle.ess_rules_laws.proofs.Agreement.{AgreeOn, outside, domain-agree}
use Rattle.ess_rules_laws.proofs.Bindings.{each-map}
use Rattle.ess_rules_laws.proofs.Splices.{agree-chain, bind-outside}
use Rattle.ess_values_along_laws.specs.Valued.{UnderValued, DomsValued}
use Rattle.ess_values_sources_laws.proofs.ValuedSimulation.{dom-valued-agree}

-- ---- tuples with one item from each list

abbrev T : List Value → Value
T l = tuple (of_list l)

each-head : (v : Value) (ls : List (List Value)) (R : Value → Type 0) → Each (map T (map (λ l. v ∷ l) ls)) R →
    Each (map T ls) (λ u. R (T (v ∷ items_of u)))
each-head v [] R h = tt
each-head v (l ∷ ls) R h = (subst (λ z. R (T (v ∷ z))) (sym (to_list-of_list l)) h.0, each-head v ls R h.1)

each-parts : (ls ms : List (List Value)) (R : Value → Type 0) → Each (map T (ls ++ ms)) R → Each (map T ls) R × Each (map T ms) R
each-parts [] ms R h = (tt, h)
each-parts (l ∷ ls) ms R h = let r = each-parts ls ms R h.1 in ((h.0, r.0), r.1)

-- What holds of all tuples holds, for each first item, of those of the rest with it in front.
each-heads : (vs : List Value) (ls : List (List Value)) (R : Value → Type 0) → Each (map T (add_heads vs ls)) R →
    Each vs (λ v. Each (map T ls) (λ u. R (T (v ∷ items_of u))))
each-heads [] ls R h = tt
each-heads (v ∷ vs) ls R h =
    let r = each-parts (map (λ l. v ∷ l) ls) (add_heads vs ls) R h in (each-head v ls R r.0, each-heads vs ls R r.1)

-- ---- the domains of the components

-- The domains have these members.
abbrev pub Known : Doms → List (List Value) → Env → Type 0
Known no_doms [] env = Unit {0}
Known (more_doms d ds) (vs ∷ vss) env = (members_in (domain_of d env) ≡ Some vs) × Known ds vss env
Known ds vss env = ⊥

-- The members of each.
abbrev pub listed : Option Domains → Option (List (List Value))
listed o = and_then o (λ e. all_some (members_of_each e))

-- They are known where they can be listed.
each-known : (ds : Doms) (env : Env) → is_some (listed (domains_of ds env)) ≡ true →
    (vss : List (List Value)) × Known ds vss env × (listed (domains_of ds env) ≡ Some vss)
each-known no_doms env h = ([], tt, refl)
each-known (more_doms d ds) env h = go (domain_of d env) refl (domains_of ds env) h (λ k. each-known ds env k)
  where
    go : (o : Option Domain) → domain_of d env ≡ o → (p : Option Domains) →
        is_some (listed (and_then o (λ x. option_map (more_domains x) p))) ≡ true →
        (is_some (listed p) ≡ true → (vss : List (List Value)) × Known ds vss env × (listed p ≡ Some vss)) →
        (vss : List (List Value)) × Known (more_doms d ds) vss env
        × (listed (and_then o (λ x. option_map (more_domains x) p)) ≡ Some vss)
    go None j p h r = cc
    go (Some x) j None h r = cc
    go (Some x) j (Some e) h r = at (members x) refl (all_some (members_of_each e)) h r
      where
        at : (m : Option (List Value)) → members x ≡ m → (q : Option (List (List Value))) →
            is_some (and_then m (λ vs. option_map (λ vss. vs ∷ vss) q)) ≡ true →
            (is_some q ≡ true → (vss : List (List Value)) × Known ds vss env × (q ≡ Some vss)) →
            (vss : List (List Value)) × Known (more_doms d ds) vss env
            × (and_then m (λ vs. option_map (λ vss. vs ∷ vss) q) ≡ Some vss)
        at None k q h r = cc
        at (Some vs) k None h r = cc
        at (Some vs) k (Some vss) h r = let s = r refl in (vs ∷ s.0, (ap members_in j ∙ k, s.1), ap (option_map (λ l. vs ∷ l)) s.2)

-- The members of a tuple of domains.
tuple-members : (o : Option Domains) → members_in (option_map tuples o) ≡ option_map (λ ls. map T (lists_of ls)) (listed o)
tuple-members None = refl
tuple-members (Some e) = refl

there-before : (f : List (List Value) → List Value) (o : Option (List (List Value))) → is_some (option_map f o) ≡ true → is_some o ≡ true
there-before f None h = cc
there-before f (Some l) h = refl

-- ---- generators

module _ (pl : Bool) (ts : List TypeEntry) (cs : Names Table) (r : Text → Bool) (g0 : Vals) (hs : Gens) (P : Env → Type 0) where
  abbrev M : Vals → Env
  M g = E pl ts cs g

  split-values : (ps : Pats) (ds : Doms) (vss : List (List Value)) (g : Vals) → as_many ps ds ≡ true → Known ds vss (M g0) →
      BindsAll r ps → NamesAreDoms (outside r) any ds → AgreeOn (outside r) g0 g → DomsValued ds (M g0) →
      Each (map T (lists_of vss)) (λ u. UnderValued hs (M (bind_all ps (items_of u) g)) P) → UnderValued (each_over ps ds hs) (M g) P
  split-values no_pats no_doms [] g q a b o s m h = h.0
  split-values (more_pats p ps) (more_doms d ds) (vs ∷ vss) g q a b o s m h = (
    dom-valued-agree pl ts cs (outside r) d g0 g o.0 s m.0,
    subst (λ z. EachOf z (λ v. UnderValued (each_over ps ds hs) (M (bind p v g)) P))
        (sym (ap members_in (domain-agree pl ts cs (outside r) d g0 g o.0 s) ∙ a.0))
        (each-map vs _ _ (λ v e. split-values ps ds vss (bind p v g) q a.1 b.1 o.1
        (agree-chain (outside r) g0 g (bind p v g) s (bind-outside r p v g b.0)) m.1
        (each-map (map T (lists_of vss)) _ _
        (λ u f. subst (λ l. UnderValued hs (M (bind_all ps l (bind p v g))) P) (to_list-of_list (items_of u)) f) e))
        (each-heads vs (lists_of vss) (λ u. UnderValued hs (M (bind_all (more_pats p ps) (items_of u) g)) P) h)),
  )
  split-values no_pats no_doms (_ ∷ _) g q a b o s m h = absurd a
  split-values (more_pats p ps) (more_doms d ds) [] g q a b o s m h = absurd a
  split-values no_pats (more_doms d ds) vss g q a b o s m h = cc
  split-values (more_pats p ps) no_doms vss g q a b o s m h = cc

-- What holds behind the tuples holds behind generators over the components, whose domains have values.
pub split-under : (r : Text → Bool) (env : Env) (hs : Gens) (P : Env → Type 0) (ps : Pats) (ds : Doms) → as_many ps ds ≡ true →
    BindsAll r ps → NamesAreDoms (outside r) any ds → is_some (members_in (domain_of (tuple_dom ds) env)) ≡ true → DomsValued ds env →
    EachOf (members_in (domain_of (tuple_dom ds) env))
    (λ u. UnderValued hs (E env.positions env.types env.cells (bind_all ps (items_of u) env.vals)) P) →
    UnderValued (each_over ps ds hs) env P
split-under r env hs P ps ds q b o i m h =
    let w = each-known ds env (there-before (λ ls. map T (lists_of ls)) (listed (domains_of ds env))
    (subst (λ z. is_some z ≡ true) (tuple-members (domains_of ds env)) i)) in
    let us = tuple-members (domains_of ds env) ∙ ap (option_map (λ ls. map T (lists_of ls))) w.2 in
    split-values env.positions env.types env.cells r env.vals hs P ps ds w.0 env.vals q w.1 b o (λ a p. refl) m
    (subst (λ z. EachOf z (λ u. UnderValued hs (E env.positions env.types env.cells (bind_all ps (items_of u) env.vals)) P)) us h)
