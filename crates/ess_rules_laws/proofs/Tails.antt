-- What rewrites a comprehension at each binding of generators rewrites the one with these generators before its own.
use Rattle.std.proofs.Common.{◌≡◌, refl, sym, ap, ◌∙◌, List, [], ◌∷◌, Option, Some, None, option_map}
use Rattle.ess_semantics.specs.Values.{Value, items_of}
use Rattle.ess_semantics.specs.Trees.{Ex, comp_ex, Gens, no_gens, over, from, cond}
use Rattle.ess_semantics.specs.Operators.{list_value}
use Rattle.ess_semantics.specs.Meaning.{Env, with_pat, meaning, items_under, domain_of, members_in}
use Rattle.ess_semantics.specs.Contexts.{EachOf, EachIn, AtEach}
use Rattle.ess_semantics.specs.Meets.{Meets, MeetsGens}
use Rattle.ess_semantics.specs.Kept.{Keeps}
use Rattle.ess_semantics.proofs.Orders.{to_list-of_list}
use Rattle.ess_rules_laws.specs.SpliceRules.{append_gens, TailsAreCongruent}
use Rattle.ess_rules_laws.proofs.Bindings.{each-of-map, each-of-join, each-in-map, each-in-join, collect-each-of, collect-each-in, where-true-same}

-- Lists of one value are one.
one-list : (o p : Option (List Value)) → option_map list_value o ≡ option_map list_value p → o ≡ p
one-list o p q = sym (read o) ∙ ap (option_map items_of) q ∙ read p
  where
    read : (o : Option (List Value)) → option_map items_of (option_map list_value o) ≡ o
    read None = refl
    read (Some xs) = ap Some (to_list-of_list xs)

module _ (hs ks : Gens) (e f : Ex) where
  abbrev old : Env → Option (List Value)
  old here = option_map (λ v. v ∷ []) (meaning e here)

  abbrev new : Env → Option (List Value)
  new here = option_map (λ v. v ∷ []) (meaning f here)

  -- The items are the same, and structures are met.
  abbrev Same : Gens → Env → Type 0
  Same gs env = (items_under (append_gens gs hs) env old ≡ items_under (append_gens gs ks) env new) × MeetsGens (append_gens gs ks) env (λ here. Meets f here)

  same-behind : (gs : Gens) (env : Env) → AtEach gs env (Keeps (comp_ex e hs) (comp_ex f ks)) → MeetsGens (append_gens gs hs) env (λ here. Meets e here) → Same gs env
  same-behind no_gens env w m = let r = w m in (one-list (items_under hs env old) (items_under ks env new) r.0, r.1)
  same-behind (over p d gs) env w m =
      go (each-of-join (members_in (domain_of d env)) _ _ (λ v. Same gs (with_pat p v env)) (λ v x y. same-behind gs (with_pat p v env) x y) w m.1)
    where
      go : EachOf (members_in (domain_of d env)) (λ v. Same gs (with_pat p v env)) → Same (over p d gs) env
      go s = (collect-each-of (members_in (domain_of d env)) _ _ (each-of-map (members_in (domain_of d env)) _ _ (λ v x. x.0) s), (m.0, each-of-map (members_in (domain_of d env)) _ _ (λ v x. x.1) s))
  same-behind (from p x gs) env w m = go (each-in-join (meaning x env) _ _ (λ v. Same gs (with_pat p v env)) (λ v x y. same-behind gs (with_pat p v env) x y) w m.1)
    where
      go : EachIn (meaning x env) (λ v. Same gs (with_pat p v env)) → Same (from p x gs) env
      go s = (collect-each-in (meaning x env) _ _ (each-in-map (meaning x env) _ _ (λ v x. x.0) s), (m.0, each-in-map (meaning x env) _ _ (λ v x. x.1) s))
  same-behind (cond c gs) env w m = (where-true-same (meaning c env) _ _ (λ t. (same-behind gs env (w t) (m.1 t)).0), (m.0, λ t. (same-behind gs env (w t) (m.1 t)).1))

-- A rule for the first generator serves at a later one.
pub tails-congruent : TailsAreCongruent
tails-congruent gs hs ks e f env w m = let r = same-behind hs ks e f gs env w m in (ap (option_map list_value) r.0, r.1)
