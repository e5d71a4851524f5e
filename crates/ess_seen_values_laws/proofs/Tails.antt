-- Generators before others: what holds at each of their bindings of what stands behind them.
use Rattle.std.proofs.Common.{◌≡◌, refl, ap, Bool, true, false, List, [], ◌∷◌, Option, Some, None, option_map}
use Rattle.std.specs.Prelude.{IsTrue, is_some}
use Rattle.ess_semantics.specs.Lists.{and_then}
use Rattle.ess_semantics.specs.Values.{Text, Value, number, truth, item, node, items_of}
use Rattle.ess_semantics.specs.Trees.{Ex, Gens, no_gens, over, from, cond}
use Rattle.ess_semantics.specs.Operators.{as_truth}
use Rattle.ess_semantics.specs.Meaning.{Env, meaning, items_under, collect, where_true, domain_of, members_in, with_pat}
use Rattle.ess_semantics.specs.Contexts.{Each, EachOf, EachIn, AtEach}
use Rattle.ess_semantics.specs.Meets.{MeetsGens}
use Rattle.ess_semantics.specs.Scoped.{ScopedGens}
use Rattle.ess_rules_laws.specs.SpliceRules.{append_gens}
use Rattle.ess_rules_laws.proofs.Bindings.{each-of-map, each-in-map}
use Rattle.ess_refine_laws.specs.ScopesStay.{Scope, scope_behind}
use Rattle.ess_values_along_laws.specs.Valued.{Valued, UnderValued}
use Rattle.ess_values_sources_laws.proofs.CollectedLists.{each-some, some-each, each-both, left-of-both, right-of-both}
use Rattle.ess_rules_laws.proofs.Bindings.{each-join}

-- No generators behind others are none.
pub append-none : (gs : Gens) → append_gens gs no_gens ≡ gs
append-none no_gens = refl
append-none (over p d gs) = ap (over p d) (append-none gs)
append-none (from p e gs) = ap (from p e) (append-none gs)
append-none (cond c gs) = ap (cond c) (append-none gs)

-- ---- structures and scopes behind

-- Structures of what stands behind are met at each binding of those before.
pub met-behind : (gs hs : Gens) (env : Env) (P : Env → Type 0) → MeetsGens (append_gens gs hs) env P →
    AtEach gs env (λ here. MeetsGens hs here P)
met-behind no_gens hs env P h = h
met-behind (over p d gs) hs env P h =
    each-of-map (members_in (domain_of d env)) _ _ (λ v. met-behind gs hs (with_pat p v env) P) h.1
met-behind (from p e gs) hs env P h = each-in-map (meaning e env) _ _ (λ v. met-behind gs hs (with_pat p v env) P) h.1
met-behind (cond c gs) hs env P h = λ t. met-behind gs hs env P (h.1 t)

-- So have parts of it values.
pub under-behind : (gs hs : Gens) (env : Env) (P : Env → Type 0) → UnderValued (append_gens gs hs) env P →
    AtEach gs env (λ here. UnderValued hs here P)
under-behind no_gens hs env P h = h
under-behind (over p d gs) hs env P h =
    each-of-map (members_in (domain_of d env)) _ _ (λ v. under-behind gs hs (with_pat p v env) P) h.1
under-behind (from p e gs) hs env P h = each-in-map (meaning e env) _ _ (λ v. under-behind gs hs (with_pat p v env) P) h.1
under-behind (cond c gs) hs env P h = λ t. under-behind gs hs env P (h.1 t)

-- And it is in scope.
pub scoped-behind : (z : Text → Bool) (gs hs : Gens) (s : Scope) (K : (Text → Bool) → (Text → Bool) → Type 0) →
    ScopedGens z s.all s.over_domains (append_gens gs hs) K →
    ScopedGens z (scope_behind gs s).all (scope_behind gs s).over_domains hs K
scoped-behind z no_gens hs s K h = h
scoped-behind z (over p d gs) hs s K h = scoped-behind z gs hs _ K h.2
scoped-behind z (from p e gs) hs s K h = scoped-behind z gs hs _ K h.2
scoped-behind z (cond c gs) hs s K h = scoped-behind z gs hs s K h.1

-- ---- others behind

module _ (e f : Ex) (hs ks : Gens) where
  abbrev Items : Ex → Gens → Env → Option (List Value)
  Items x gs env = items_under gs env (λ here. option_map (λ v. v ∷ []) (meaning x here))

  -- The items are there, and parts have values.
  abbrev pub Tail : Ex → Gens → Env → Type 0
  Tail x gs env = IsTrue (is_some (Items x gs env)) × UnderValued gs env (λ here. Valued false x here)

  each-tail : (vs : List Value) (F G : Value → Option (List Value)) (P Q : Value → Type 0) →
      Each vs (λ v. IsTrue (is_some (F v)) × P v → IsTrue (is_some (G v)) × Q v) → IsTrue (is_some (collect vs F)) → Each vs P →
      IsTrue (is_some (collect vs G)) × Each vs Q
  each-tail vs F G P Q s t h =
      let b = each-join vs (λ v. IsTrue (is_some (F v)) × P v → IsTrue (is_some (G v)) × Q v) (λ v. IsTrue (is_some (F v)) × P v)
      (λ v. IsTrue (is_some (G v)) × Q v) (λ v a c. a c) s
      (each-both vs (λ v. IsTrue (is_some (F v))) P (each-some vs F t) h) in
      (some-each vs G (left-of-both vs (λ v. IsTrue (is_some (G v))) Q b), right-of-both vs (λ v. IsTrue (is_some (G v))) Q b)

  of-tail : (o : Option (List Value)) (F G : Value → Option (List Value)) (P Q : Value → Type 0) →
      EachOf o (λ v. IsTrue (is_some (F v)) × P v → IsTrue (is_some (G v)) × Q v) → IsTrue (is_some (and_then o (λ vs. collect vs F))) →
      EachOf o P → IsTrue (is_some (and_then o (λ vs. collect vs G))) × EachOf o Q
  of-tail None F G P Q s t h = cc
  of-tail (Some vs) F G P Q s t h = each-tail vs F G P Q s t h

  in-tail : (o : Option Value) (F G : Value → Option (List Value)) (P Q : Value → Type 0) →
      EachIn o (λ v. IsTrue (is_some (F v)) × P v → IsTrue (is_some (G v)) × Q v) →
      IsTrue (is_some (and_then o (λ s. collect (items_of s) F))) → EachIn o P →
      IsTrue (is_some (and_then o (λ s. collect (items_of s) G))) × EachIn o Q
  in-tail None F G P Q s t h = cc
  in-tail (Some v) F G P Q s t h = each-tail (items_of v) F G P Q s t h

  when-tail : (o : Option Value) (p q : Option (List Value)) (P Q : Type 0) →
      (as_truth o ≡ true → IsTrue (is_some p) × P → IsTrue (is_some q) × Q) → IsTrue (is_some (where_true o (λ u. p))) →
      (as_truth o ≡ true → P) → IsTrue (is_some (where_true o (λ u. q))) × (as_truth o ≡ true → Q)
  when-tail (Some (truth true)) p q P Q s t h = let r = s refl (t, h refl) in (r.0, λ z. r.1)
  when-tail (Some (truth false)) p q P Q s t h = (refl, λ z. cc)
  when-tail (Some (number n)) p q P Q s t h = (refl, λ z. cc)
  when-tail (Some (item a n)) p q P Q s t h = (refl, λ z. cc)
  when-tail (Some (node a vs)) p q P Q s t h = (refl, λ z. cc)
  when-tail None p q P Q s t h = (refl, λ z. cc)

  -- What so comes in the place of a tail has values behind the same generators.
  pub tails-valued : (gs : Gens) (env : Env) → AtEach gs env (λ here. Tail e hs here → Tail f ks here) → Tail e (append_gens gs hs) env →
      Tail f (append_gens gs ks) env
  tails-valued no_gens env s h = s h
  tails-valued (over p d gs) env s h =
      let r = of-tail (members_in (domain_of d env)) _ _ _ _ (each-of-map (members_in (domain_of d env)) _ _
      (λ v. tails-valued gs (with_pat p v env)) s) h.0 h.1.1 in
      (r.0, (h.1.0, r.1))
  tails-valued (from p x gs) env s h =
      let r = in-tail (meaning x env) _ _ _ _ (each-in-map (meaning x env) _ _ (λ v. tails-valued gs (with_pat p v env)) s) h.0 h.1.1 in
      (r.0, (h.1.0, r.1))
  tails-valued (cond c gs) env s h =
      let r = when-tail (meaning c env) (Items e (append_gens gs hs) env) (Items f (append_gens gs ks) env) _ _
      (λ t. tails-valued gs env (s t)) h.0 h.1.1 in
      (r.0, (h.1.0, r.1))
