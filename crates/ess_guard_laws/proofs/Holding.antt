-- What Booleans built of conditions mean, from the truth of the conditions.
use Rattle.std.proofs.Common.{◌≡◌, refl, sym, ap, ◌∙◌, Bool, true, false, ◌&&◌, if◌then◌else◌, List, [], ◌∷◌, ◌++◌, map, Option, Some, None, option_map, is_some}
use Rattle.std.specs.List.{list_all}
use Rattle.ess_semantics.specs.declared.words.Fun.{Fun}
use Rattle.ess_semantics.specs.Lists.{and_then, all_some}
use Rattle.ess_semantics.specs.Values.{Value, number, truth, item, node, items_of}
use Rattle.ess_semantics.specs.Trees.{Op, word, Ex, comp_ex, Gens, no_gens, over, from, fun1, Pat, Dom}
use Rattle.ess_semantics.specs.Operators.{as_truth, implies, connective, value_of_node, value_of_op, list_value, false_where_undefined}
use Rattle.ess_semantics.specs.Meaning.{Env, meaning, items_under, collect, where_true, with_pat, domain_of, members_in}
use Rattle.ess_semantics.specs.Contexts.{Each}
use Rattle.ess_semantics.proofs.Tests.{and-left, and-right, and-both}
use Rattle.ess_semantics.proofs.Connectives.{all-means, bits, collect-bits, all-bits}
use Rattle.ess_rules_laws.proofs.Bindings.{each-map}
use Rattle.ess_guard_laws.specs.Conditions.{conds, chained, all_of, every, given_that, unless}
use Rattle.ess_guard_laws.specs.Guard.{connects}
use Rattle.ess_guard_laws.specs.Holds.{Hold}

-- ---- options

-- A value that counts as true is true.
pub true-of : (o : Option Value) → as_truth o ≡ true → o ≡ Some (truth true)
true-of (Some (truth true)) e = refl
true-of (Some (truth false)) e = cc
true-of (Some (number n)) e = cc
true-of (Some (item t n)) e = cc
true-of (Some (node a b)) e = cc
true-of None e = cc

-- All operands are there, the first and those behind it.
pub all-split : {A : Type 0} (o : Option A) (q : Option (List A)) → is_some (and_then o (λ x. option_map (λ xs. x ∷ xs) q)) ≡ true →
    (is_some o ≡ true) × (is_some q ≡ true)
all-split None q e = cc
all-split (Some x) None e = cc
all-split (Some x) (Some xs) e = (refl, refl)

-- What is computed from a value needs it.
pub then-first : {A B : Type 0} (o : Option A) (f : A → Option B) → is_some (and_then o f) ≡ true → is_some o ≡ true
then-first None f e = cc
then-first (Some x) f e = refl

-- The value that is there.
pub the-value : {A : Type 0} (o : Option A) → is_some o ≡ true → (v : A) × (o ≡ Some v)
the-value None e = cc
the-value (Some v) e = (v, refl)

-- A value is there still.
pub map-some : {A B : Type 0} (f : A → B) (o : Option A) → is_some (option_map f o) ≡ is_some o
map-some f None = refl
map-some f (Some x) = refl

-- ---- what all conditions hold

-- Whether each condition holds.
abbrev pub all_hold : List Ex → Env → Bool
all_hold [] env = true
all_hold (c ∷ cs) env = as_truth (meaning c env) && all_hold cs env

-- Both lists hold.
pub hold-append : (cs ds : List Ex) (env : Env) → Hold cs env → Hold ds env → Hold (cs ++ ds) env
hold-append [] ds env p q = q
hold-append (c ∷ cs) ds env p q = (p.0, hold-append cs ds env p.1 q)

-- The first conditions hold.
pub hold-left : (cs ds : List Ex) (env : Env) → Hold (cs ++ ds) env → Hold cs env
hold-left [] ds env p = tt
hold-left (c ∷ cs) ds env p = (p.0, hold-left cs ds env p.1)

-- The later conditions hold.
pub hold-right : (cs ds : List Ex) (env : Env) → Hold (cs ++ ds) env → Hold ds env
hold-right [] ds env p = p
hold-right (c ∷ cs) ds env p = hold-right cs ds env p.1

-- What holds passes the test.
pub hold-tested : (cs : List Ex) (env : Env) → Hold cs env → all_hold cs env ≡ true
hold-tested [] env h = refl
hold-tested (c ∷ cs) env h = and-both (as_truth (meaning c env)) (all_hold cs env) h.0 (hold-tested cs env h.1)

-- What passes the test holds.
pub tested-hold : (cs : List Ex) (env : Env) → all_hold cs env ≡ true → Hold cs env
tested-hold [] env h = tt
tested-hold (c ∷ cs) env h = (and-left (as_truth (meaning c env)) (all_hold cs env) h, tested-hold cs env (and-right (as_truth (meaning c env)) (all_hold cs env) h))

-- A condition that is asked, or none.
pub unless-holds : (t : Bool) (c : Ex) (env : Env) → as_truth (meaning c env) ≡ true → Hold (unless t c) env
unless-holds true c env h = tt
unless-holds false c env h = (h, tt)

-- Conditions that are asked, or none.
pub choose-holds : (t : Bool) (cs : List Ex) (env : Env) → (t ≡ false → Hold cs env) → Hold (if t then [] else cs) env
choose-holds true cs env h = tt
choose-holds false cs env h = h refl

-- ---- Booleans under conditions

-- Conditions as generators have one binding where all hold, else none.
pub conds-items : (cs : List Ex) (env : Env) (k : Env → Option (List Value)) → items_under (conds cs) env k ≡ (if all_hold cs env then k env else Some [])
conds-items [] env k = refl
conds-items (c ∷ cs) env k = go (meaning c env) (conds-items cs env k)
  where
    go : (o : Option Value) → items_under (conds cs) env k ≡ (if all_hold cs env then k env else Some []) →
        where_true o (λ u. items_under (conds cs) env k) ≡ (if as_truth o && all_hold cs env then k env else Some [])
    go None e = refl
    go (Some (truth true)) e = e
    go (Some (truth false)) e = refl
    go (Some (number n)) e = refl
    go (Some (item t n)) e = refl
    go (Some (node a b)) e = refl

-- The truth of `or` over these items.
abbrev or_of : Option (List Value) → Bool
or_of o = as_truth (false_where_undefined true (value_of_node (word Fun.Or) (option_map list_value o ∷ [])))

or-alone : (o : Option Value) → or_of (option_map (λ v. v ∷ []) o) ≡ as_truth o
or-alone None = refl
or-alone (Some (truth true)) = refl
or-alone (Some (truth false)) = refl
or-alone (Some (number n)) = refl
or-alone (Some (item t n)) = refl
or-alone (Some (node a b)) = refl

-- A Boolean under conditions is true where they hold and it is.
pub chained-truth : (cs : List Ex) (b : Ex) (env : Env) → as_truth (meaning (chained cs b) env) ≡ all_hold cs env && as_truth (meaning b env)
chained-truth [] b env = refl
chained-truth (c ∷ cs) b env = ap or_of (conds-items (c ∷ cs) env (λ here. option_map (λ v. v ∷ []) (meaning b here))) ∙ go (all_hold (c ∷ cs) env)
  where
    go : (t : Bool) → or_of (if t then option_map (λ v. v ∷ []) (meaning b env) else Some []) ≡ t && as_truth (meaning b env)
    go true = or-alone (meaning b env)
    go false = refl

-- It means the same where the conditions hold wherever it is true.
pub chained-means : (cs : List Ex) (b : Ex) (env : Env) (t : Bool) → meaning b env ≡ Some (truth t) → (t ≡ true → Hold cs env) → meaning (chained cs b) env ≡ Some (truth t)
chained-means [] b env t e h = e
chained-means (c ∷ cs) b env t e h = ap (λ z. Some (truth z)) (chained-truth (c ∷ cs) b env ∙ ap (λ o. all_hold (c ∷ cs) env && as_truth o) e ∙ go t (λ q. hold-tested (c ∷ cs) env (h q)) (all_hold (c ∷ cs) env) refl)
  where
    go : (t : Bool) → (t ≡ true → all_hold (c ∷ cs) env ≡ true) → (a : Bool) → all_hold (c ∷ cs) env ≡ a → a && t ≡ t
    go true h a e = let r : a ≡ true = sym e ∙ h refl in ap (λ z. z && true) r
    go false h true e = refl
    go false h false e = refl

-- That all hold is true exactly where all do.
pub all-of-truth : (cs : List Ex) (env : Env) → as_truth (meaning (all_of cs) env) ≡ all_hold cs env
all-of-truth [] env = refl
all-of-truth (c ∷ []) env = go (as_truth (meaning c env))
  where
    go : (b : Bool) → b ≡ b && true
    go true = refl
    go false = refl
all-of-truth (c ∷ d ∷ cs) env = chained-truth (c ∷ []) (all_of (d ∷ cs)) env ∙ ap (λ z. (as_truth (meaning c env) && true) && z) (all-of-truth (d ∷ cs) env) ∙ go (as_truth (meaning c env)) (all_hold (d ∷ cs) env)
  where
    go : (a b : Bool) → (a && true) && b ≡ a && b
    go true b = refl
    go false b = refl

-- That all hold is true.
pub all-of-holds : (cs : List Ex) (env : Env) → Hold cs env → meaning (all_of cs) env ≡ Some (truth true)
all-of-holds cs env h = true-of (meaning (all_of cs) env) (all-of-truth cs env ∙ hold-tested cs env h)

-- ---- at each binding

yes-all : (vs : List Value) → list_all (λ v. true) vs ≡ true
yes-all [] = refl
yes-all (v ∷ vs) = yes-all vs

-- A conjunction whose items are all true.
pub every-true : (b : Ex) (g : Gens) (env : Env) (vs : List Value) (f : Value → Option (List Value)) →
    items_under g env (λ here. option_map (λ v. v ∷ []) (meaning b here)) ≡ collect vs f → Each vs (λ v. f v ≡ Some (truth true ∷ [])) →
    as_truth (meaning (fun1 true Fun.And (comp_ex b g)) env) ≡ true
every-true b g env vs f e h = ap as_truth (all-means env b g (bits (λ v. true) vs) (e ∙ collect-bits vs f (λ v. true) h)) ∙ all-bits (λ v. true) vs ∙ yes-all vs

-- What holds at each member of a domain.
pub over-holds : (p : Pat) (d : Dom) (cs : List Ex) (env : Env) (vs : List Value) → members_in (domain_of d env) ≡ Some vs → Each vs (λ v. Hold cs (with_pat p v env)) → Hold (every (over p d no_gens) cs) env
over-holds p d [] env vs e h = tt
over-holds p d (c ∷ cs) env vs e h = (
  every-true (all_of (c ∷ cs)) (over p d no_gens) env vs (λ v. option_map (λ w. w ∷ []) (meaning (all_of (c ∷ cs)) (with_pat p v env)))
      (ap (λ o. and_then o (λ us. collect us (λ v. option_map (λ w. w ∷ []) (meaning (all_of (c ∷ cs)) (with_pat p v env))))) e)
      (each-map vs _ _ (λ v q. ap (option_map (λ w. w ∷ [])) (all-of-holds (c ∷ cs) (with_pat p v env) q)) h),
  tt,
)

-- What holds at each item of a source.
pub from-holds : (p : Pat) (s : Ex) (cs : List Ex) (env : Env) (w : Value) → meaning s env ≡ Some w → Each (items_of w) (λ v. Hold cs (with_pat p v env)) → Hold (every (from p s no_gens) cs) env
from-holds p s [] env w e h = tt
from-holds p s (c ∷ cs) env w e h = (
  every-true (all_of (c ∷ cs)) (from p s no_gens) env (items_of w) (λ v. option_map (λ w. w ∷ []) (meaning (all_of (c ∷ cs)) (with_pat p v env)))
      (ap (λ o. and_then o (λ z. collect (items_of z) (λ v. option_map (λ w. w ∷ []) (meaning (all_of (c ∷ cs)) (with_pat p v env))))) e)
      (each-map (items_of w) _ _ (λ v q. ap (option_map (λ w. w ∷ [])) (all-of-holds (c ∷ cs) (with_pat p v env) q)) h),
  tt,
)

-- What holds where a condition does.
pub given-holds : (b : Ex) (cs : List Ex) (env : Env) → (as_truth (meaning b env) ≡ true → Hold cs env) → Hold (given_that b cs) env
given-holds b [] env h = tt
given-holds b (c ∷ cs) env h = (go (as_truth (meaning b env)) refl, tt)
  where
    go : (t : Bool) → as_truth (meaning b env) ≡ t → implies t (as_truth (meaning (all_of (c ∷ cs)) env)) ≡ true
    go true e = ap as_truth (all-of-holds (c ∷ cs) env (h e))
    go false e = refl

-- What follows at each value at which an answer is there.
pub collected : (vs : List Value) (f : Value → Option (List Value)) (P : Value → Type 0) → ((v : Value) → is_some (f v) ≡ true → P v) → is_some (collect vs f) ≡ true → Each vs P
collected [] f P h e = tt
collected (v ∷ vs) f P h e = go (f v) (collect vs f) (h v) (collected vs f P h) e
  where
    go : (o c : Option (List Value)) → (is_some o ≡ true → P v) → (is_some c ≡ true → Each vs P) → is_some (and_then o (λ xs. option_map (λ ys. xs ++ ys) c)) ≡ true → P v × Each vs P
    go None c a b e = cc
    go (Some x) None a b e = cc
    go (Some x) (Some y) a b e = (a refl, b refl)

-- ---- operators

-- An operator that doesn't connect needs all operands.
pub node-value : (op : Op) (os : List (Option Value)) → connects op ≡ false → value_of_node op os ≡ and_then (all_some os) (value_of_op op)
node-value op os e = go (connective op) refl
  where
    go : (o : Option (List Bool → Bool)) → connective op ≡ o → value_of_node op os ≡ and_then (all_some os) (value_of_op op)
    go None q = ap (λ x. elim x [ Some f ↦ Some (truth (f (map as_truth os))) | None ↦ and_then (all_some os) (value_of_op op) ]) q
    go (Some f) q = let r : true ≡ false = sym (ap is_some q) ∙ e in cc
