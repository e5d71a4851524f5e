-- What holds at each value of a list and at each binding of generators, and comprehensions that give the same there.
use Rattle.std.proofs.Common.{◌≡◌, refl, sym, ap, ◌∙◌, Bool, true, false, List, [], ◌∷◌, ◌++◌, Option, Some, None, option_map}
use Rattle.ess_semantics.specs.Lists.{and_then}
use Rattle.ess_semantics.specs.Values.{Value, number, truth, item, node, items_of}
use Rattle.ess_semantics.specs.Trees.{Gens, no_gens, over, from, cond}
use Rattle.ess_semantics.specs.Operators.{as_truth}
use Rattle.ess_semantics.specs.Meaning.{Env, with_pat, collect, where_true, meaning, items_under, domain_of, members_in}
use Rattle.ess_semantics.specs.Contexts.{Each, EachOf, EachIn, AtEach, Guarded}

-- ---- each value

-- What follows from P at every item holds at each item at which P holds.
pub each-map : {A : Type 0} (xs : List A) (P Q : A → Type 0) → ((x : A) → P x → Q x) → Each xs P → Each xs Q
each-map [] P Q f h = tt
each-map (x ∷ xs) P Q f h = (f x h.0, each-map xs P Q f h.1)

-- The same of the values that a domain has.
pub each-of-map : (o : Option (List Value)) (P Q : Value → Type 0) → ((v : Value) → P v → Q v) → EachOf o P → EachOf o Q
each-of-map None P Q f h = tt
each-of-map (Some vs) P Q f h = each-map vs P Q f h

-- The same of the items of a value.
pub each-in-map : (o : Option Value) (P Q : Value → Type 0) → ((v : Value) → P v → Q v) → EachIn o P → EachIn o Q
each-in-map None P Q f h = tt
each-in-map (Some s) P Q f h = each-map (items_of s) P Q f h

-- What follows from P and Q holds at each item at which both hold.
pub each-join : {A : Type 0} (xs : List A) (P Q R : A → Type 0) → ((x : A) → P x → Q x → R x) → Each xs P → Each xs Q → Each xs R
each-join [] P Q R f p q = tt
each-join (x ∷ xs) P Q R f p q = (f x p.0 q.0, each-join xs P Q R f p.1 q.1)

-- The same of the values that a domain has.
pub each-of-join : (o : Option (List Value)) (P Q R : Value → Type 0) → ((v : Value) → P v → Q v → R v) → EachOf o P → EachOf o Q → EachOf o R
each-of-join None P Q R f p q = tt
each-of-join (Some vs) P Q R f p q = each-join vs P Q R f p q

-- The same of the items of a value.
pub each-in-join : (o : Option Value) (P Q R : Value → Type 0) → ((v : Value) → P v → Q v → R v) → EachIn o P → EachIn o Q → EachIn o R
each-in-join None P Q R f p q = tt
each-in-join (Some s) P Q R f p q = each-join (items_of s) P Q R f p q

-- What follows from P behind a guard holds behind an equal guard.
pub guarded-map : (g : Bool) (o o' : Option Value) (P Q : Type 0) → o' ≡ o → (P → Q) → Guarded g o P → Guarded g o' Q
guarded-map true o o' P Q e f h = λ t. f (h (ap as_truth (sym e) ∙ t))
guarded-map false o o' P Q e f h = f h

-- ---- answers collected

-- Functions that answer the same at each value collect the same.
pub collect-each : {A : Type 0} (vs : List Value) (f f' : Value → Option (List A)) → Each vs (λ v. f v ≡ f' v) → collect vs f ≡ collect vs f'
collect-each [] f f' h = refl
collect-each (v ∷ vs) f f' h =
    ap (λ x. and_then x (λ xs. option_map (λ ys. xs ++ ys) (collect vs f))) h.0
    ∙ ap (λ y. and_then (f' v) (λ xs. option_map (λ ys. xs ++ ys) y)) (collect-each vs f f' h.1)

-- The same over the members of a domain.
pub collect-each-of : (o : Option (List Value)) (f f' : Value → Option (List Value)) → EachOf o (λ v. f v ≡ f' v) → and_then o (λ vs. collect vs f) ≡ and_then o (λ vs. collect vs f')
collect-each-of None f f' h = refl
collect-each-of (Some vs) f f' h = collect-each vs f f' h

-- The same over the items of a value.
pub collect-each-in : (o : Option Value) (f f' : Value → Option (List Value)) → EachIn o (λ v. f v ≡ f' v) →
    and_then o (λ s. collect (items_of s) f) ≡ and_then o (λ s. collect (items_of s) f')
collect-each-in None f f' h = refl
collect-each-in (Some s) f f' h = collect-each (items_of s) f f' h

-- Behind a condition only what holds where it is true counts.
pub where-true-same : (o : Option Value) (x x' : Option (List Value)) → (as_truth o ≡ true → x ≡ x') → where_true o (λ u. x) ≡ where_true o (λ u. x')
where-true-same None x x' h = refl
where-true-same (Some (truth true)) x x' h = h refl
where-true-same (Some (truth false)) x x' h = refl
where-true-same (Some (number n)) x x' h = refl
where-true-same (Some (item t k)) x x' h = refl
where-true-same (Some (node k vs)) x x' h = refl

-- ---- each binding

-- What follows from P at every binding holds at each binding at which P holds.
pub at-each-map : (gs : Gens) (env : Env) (P Q : Env → Type 0) → ((here : Env) → P here → Q here) → AtEach gs env P → AtEach gs env Q
at-each-map no_gens env P Q f h = f env h
at-each-map (over p d gs) env P Q f h = each-of-map (members_in (domain_of d env)) _ _ (λ v. at-each-map gs (with_pat p v env) P Q f) h
at-each-map (from p e gs) env P Q f h = each-in-map (meaning e env) _ _ (λ v. at-each-map gs (with_pat p v env) P Q f) h
at-each-map (cond e gs) env P Q f h = λ t. at-each-map gs env P Q f (h t)

-- Bodies that answer the same at each binding give the same items.
pub items-at-each : (gs : Gens) (env : Env) (k k' : Env → Option (List Value)) → AtEach gs env (λ here. k here ≡ k' here) → items_under gs env k ≡ items_under gs env k'
items-at-each no_gens env k k' h = h
items-at-each (over p d gs) env k k' h =
    collect-each-of (members_in (domain_of d env)) _ _ (each-of-map (members_in (domain_of d env)) _ _ (λ v. items-at-each gs (with_pat p v env) k k') h)
items-at-each (from p e gs) env k k' h =
    collect-each-in (meaning e env) _ _ (each-in-map (meaning e env) _ _ (λ v. items-at-each gs (with_pat p v env) k k') h)
items-at-each (cond e gs) env k k' h = where-true-same (meaning e env) _ _ (λ t. items-at-each gs env k k' (h t))
