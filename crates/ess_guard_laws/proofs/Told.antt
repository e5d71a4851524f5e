-- What Booleans built of conditions tell where they hold.
use Rattle.std.proofs.Common.{◌≡◌, refl, true, List, [], ◌∷◌, ◌++◌, Option, Some, None, option_map, is_some}
use Rattle.ess_semantics.specs.Lists.{and_then}
use Rattle.ess_semantics.specs.Values.{Value, items_of}
use Rattle.ess_semantics.specs.Trees.{Pat, Ex, no_gens, over, from, Dom}
use Rattle.ess_semantics.specs.Operators.{as_truth}
use Rattle.ess_semantics.specs.Meaning.{Env, meaning, with_pat, collect, domain_of, members_in}
use Rattle.ess_semantics.specs.Contexts.{Each, EachOf, EachIn}
use Rattle.ess_semantics.proofs.Tests.{if-so}
use Rattle.ess_rules_laws.proofs.Bindings.{each-of-map, each-in-map}
use Rattle.ess_guard_laws.specs.Conditions.{all_of, every, given_that}
use Rattle.ess_guard_laws.specs.Holds.{Hold}
use Rattle.ess_guard_laws.proofs.MetRows.{each-of-always, each-in-always}
use Rattle.ess_guard_laws.proofs.Behind.{all-of-hold, over-each, from-each}

-- Conditions that hold at each member of a domain.
pub over-told : (p : Pat) (d : Dom) (cs : List Ex) (env : Env) → Hold (every (over p d no_gens) cs) env →
    EachOf (members_in (domain_of d env)) (λ v. Hold cs (with_pat p v env))
over-told p d [] env h = each-of-always (members_in (domain_of d env)) _ (λ v. tt)
over-told p d (c ∷ cs) env h =
    each-of-map (members_in (domain_of d env)) _ _ (λ v q. all-of-hold (c ∷ cs) (with_pat p v env) q)
    (over-each (all_of (c ∷ cs)) p env (members_in (domain_of d env)) h.0)

-- Conditions that hold at each item of a source.
pub from-told : (p : Pat) (s : Ex) (cs : List Ex) (env : Env) → Hold (every (from p s no_gens) cs) env →
    EachIn (meaning s env) (λ v. Hold cs (with_pat p v env))
from-told p s [] env h = each-in-always (meaning s env) _ (λ v. tt)
from-told p s (c ∷ cs) env h =
    each-in-map (meaning s env) _ _ (λ v q. all-of-hold (c ∷ cs) (with_pat p v env) q)
    (from-each (all_of (c ∷ cs)) p env (meaning s env) h.0)

-- Conditions that hold where another one does.
pub given-told : (b : Ex) (cs : List Ex) (env : Env) → Hold (given_that b cs) env → as_truth (meaning b env) ≡ true → Hold cs env
given-told b [] env h t = tt
given-told b (c ∷ cs) env h t = all-of-hold (c ∷ cs) env (if-so (as_truth (meaning b env)) (as_truth (meaning (all_of (c ∷ cs)) env)) t h.0)

-- Answers are collected where each is there.
pub collect-some : (vs : List Value) (f : Value → Option (List Value)) → Each vs (λ v. is_some (f v) ≡ true) → is_some (collect vs f) ≡ true
collect-some [] f h = refl
collect-some (v ∷ vs) f h = go (f v) (collect vs f) h.0 (collect-some vs f h.1)
  where
    go : (o c : Option (List Value)) → is_some o ≡ true → is_some c ≡ true →
        is_some (and_then o (λ xs. option_map (λ ys. xs ++ ys) c)) ≡ true
    go None c a b = cc
    go (Some xs) None a b = cc
    go (Some xs) (Some ys) a b = refl

-- The same over the members of a domain that has some.
pub collect-members : (o : Option (List Value)) (f : Value → Option (List Value)) → is_some o ≡ true → EachOf o (λ v. is_some (f v) ≡ true) →
    is_some (and_then o (λ vs. collect vs f)) ≡ true
collect-members None f e h = cc
collect-members (Some vs) f e h = collect-some vs f h

-- The same over the items of a value.
pub collect-items : (o : Option Value) (f : Value → Option (List Value)) → is_some o ≡ true → EachIn o (λ v. is_some (f v) ≡ true) →
    is_some (and_then o (λ s. collect (items_of s) f)) ≡ true
collect-items None f e h = cc
collect-items (Some s) f e h = collect-some (items_of s) f h
