-- What is total under conditions, each of which is total under those before it.
use Rattle.std.proofs.Common.{◌≡◌, refl, sym, ap, ◌∙◌, Bool, true, false, ◌&&◌, ◌||◌, List, [], ◌∷◌, ◌++◌, Option, Some, None, option_map}
use Rattle.ess_semantics.specs.declared.words.Op2.{Op2}
use Rattle.ess_semantics.specs.declared.words.Fun.{Fun}
use Rattle.ess_semantics.specs.Lists.{and_then}
use Rattle.ess_semantics.specs.Values.{Value, number, truth, item, node, items_of}
use Rattle.ess_semantics.specs.Collections.{holds}
use Rattle.ess_semantics.specs.Order.{same}
use Rattle.ess_semantics.specs.Trees.{Op, binary, word, Pat, Ex, Exs, node_ex, comp_ex, no_exs, more_exs, no_gens, over, from, Dom}
use Rattle.ess_semantics.specs.Operators.{as_truth, truth_in, all_true, list_value, value_of_node, false_where_undefined}
use Rattle.ess_semantics.specs.Meaning.{Env, meaning, meanings, with_pat, collect, domain_of, members_in}
use Rattle.ess_semantics.specs.Contexts.{Each, EachOf, EachIn, WhenTrue}
use Rattle.ess_semantics.specs.Totality.{Total, TotalAll, TotalUnder, TotalDom}
use Rattle.ess_semantics.proofs.Orders.{to_list-of_list, same-itself}
use Rattle.ess_semantics.proofs.Tests.{and-left, and-right, if-so}
use Rattle.ess_rules_laws.proofs.Bindings.{each-of-map, each-in-map, each-of-join, each-in-join}
use Rattle.ess_guard_laws.specs.Conditions.{conds, chained, all_of, every, given_that, unless}
use Rattle.ess_guard_laws.specs.Holds.{Hold}
use Rattle.ess_guard_laws.proofs.Holding.{tested-hold, all-of-truth}
use Rattle.ess_guard_laws.proofs.Safe.{is_safe, node-some}

-- Each condition is total where those before it hold, and P holds where all do.
abbrev pub Behind : List Ex → Env → Type 0 → Type 0
Behind [] env P = P
Behind (c ∷ cs) env P = Total c env × WhenTrue (meaning c env) (Behind cs env P)

-- Conditions behind conditions.
pub behind-append : (cs ds : List Ex) (env : Env) (P Q : Type 0) → (P → Behind ds env Q) → Behind cs env P → Behind (cs ++ ds) env Q
behind-append [] ds env P Q f b = f b
behind-append (c ∷ cs) ds env P Q f b = (b.0, λ t. behind-append cs ds env P Q f (b.1 t))

-- What stands behind conditions that hold.
pub behind-hold : (cs : List Ex) (env : Env) (P : Type 0) → Behind cs env P → Hold cs env → P
behind-hold [] env P b h = b
behind-hold (c ∷ cs) env P b h = behind-hold cs env P (b.1 h.0) h.1

-- What holds where conditions that are total hold stands behind them.
pub behind-told : (cs : List Ex) (env : Env) (P : Type 0) → Behind cs env (Unit {0}) → (Hold cs env → P) → Behind cs env P
behind-told [] env P b f = f tt
behind-told (c ∷ cs) env P b f = (b.0, λ t. behind-told cs env P (b.1 t) (λ h. f (t, h)))

-- What stands behind one condition, or none.
pub behind-unless : (t : Bool) (c : Ex) (env : Env) (P : Type 0) → (t ≡ true → P) → Total c env → (as_truth (meaning c env) ≡ true → P) →
    Behind (unless t c) env P
behind-unless true c env P f t g = f refl
behind-unless false c env P f t g = (t, g)

-- ---- conditions that are total by themselves

-- Each condition is total.
abbrev pub EachTotal : List Ex → Env → Type 0
EachTotal [] env = Unit {0}
EachTotal (c ∷ cs) env = Total c env × EachTotal cs env

-- Both lists are.
pub each-total-append : (cs ds : List Ex) (env : Env) → EachTotal cs env → EachTotal ds env → EachTotal (cs ++ ds) env
each-total-append [] ds env t u = u
each-total-append (c ∷ cs) ds env t u = (t.0, each-total-append cs ds env t.1 u)

-- One condition, or none.
pub each-total-unless : (t : Bool) (c : Ex) (env : Env) → Total c env → EachTotal (unless t c) env
each-total-unless true c env u = tt
each-total-unless false c env u = (u, tt)

-- What holds where they hold stands behind them.
pub behind-asked : (cs : List Ex) (env : Env) (P : Type 0) → EachTotal cs env → (Hold cs env → P) → Behind cs env P
behind-asked [] env P t f = f tt
behind-asked (c ∷ cs) env P t f = (t.0, λ h. behind-asked cs env P t.1 (λ g. f (h, g)))

-- ---- nodes

-- A node of an operator that asks for nothing.
pub safe-total : (b : Bool) (op : Op) (es : Exs) (env : Env) → is_safe op ≡ true → TotalAll es env → Total (node_ex b op es) env
safe-total b op es env s t = ((λ h. node-some op (meanings es env) s h), t)

-- Conditions as generators.
pub conds-total : (cs : List Ex) (env : Env) (b : Ex) → Behind cs env (Total b env) → TotalUnder (conds cs) env (λ here. Total b here)
conds-total [] env b t = t
conds-total (c ∷ cs) env b t = (t.0, λ q. conds-total cs env b (t.1 q))

-- A Boolean under conditions is total where it is total behind them.
pub chained-total : (cs : List Ex) (b : Ex) (env : Env) → Behind cs env (Total b env) → Total (chained cs b) env
chained-total [] b env t = t
chained-total (c ∷ cs) b env t =
    safe-total true (word Fun.Or) (more_exs (comp_ex b (conds (c ∷ cs))) no_exs) env refl (conds-total (c ∷ cs) env b t, tt)

-- That all conditions hold is total.
pub all-of-total : (cs : List Ex) (env : Env) (P : Type 0) → Behind cs env P → Total (all_of cs) env
all-of-total [] env P b = tt
all-of-total (c ∷ []) env P b = b.0
all-of-total (c ∷ d ∷ cs) env P b = chained-total (c ∷ []) (all_of (d ∷ cs)) env (b.0, λ t. all-of-total (d ∷ cs) env P (b.1 t))

-- Where all conditions are told to hold they do.
pub all-of-hold : (cs : List Ex) (env : Env) → as_truth (meaning (all_of cs) env) ≡ true → Hold cs env
all-of-hold cs env h = tested-hold cs env (sym (all-of-truth cs env) ∙ h)

-- ---- at each binding

truth-read : (v : Value) → truth_in v ≡ true → as_truth (Some v) ≡ true
truth-read (truth b) e = e
truth-read (number n) e = e
truth-read (item t k) e = e
truth-read (node a b) e = e

module _ (b : Ex) (at : Value → Env) where
  -- The item at a value.
  abbrev pub F : Value → Option (List Value)
  F v = option_map (λ w. w ∷ []) (meaning b (at v))

  each-collected : (vs xs : List Value) → collect vs F ≡ Some xs → all_true xs ≡ true → Each vs (λ v. as_truth (meaning b (at v)) ≡ true)
  each-collected [] xs e h = tt
  each-collected (v ∷ vs) xs e h = go (meaning b (at v)) (collect vs F) refl e (λ ys q r. each-collected vs ys q r)
    where
      go : (o : Option Value) (c : Option (List Value)) → meaning b (at v) ≡ o →
          and_then (option_map (λ w. w ∷ []) o) (λ zs. option_map (λ ys. zs ++ ys) c) ≡ Some xs →
          ((ys : List Value) → c ≡ Some ys → all_true ys ≡ true → Each vs (λ v. as_truth (meaning b (at v)) ≡ true)) →
          (as_truth (meaning b (at v)) ≡ true) × Each vs (λ v. as_truth (meaning b (at v)) ≡ true)
      go None c q e k = cc
      go (Some w) None q e k = cc
      go (Some w) (Some ys) q e k =
          let r : truth_in w && all_true ys ≡ true = ap (λ o. elim o [ None ↦ true | Some z ↦ all_true z ]) e ∙ h in
          (ap as_truth q ∙ truth-read w (and-left (truth_in w) (all_true ys) r), k ys refl (and-right (truth_in w) (all_true ys) r))

  -- Where a conjunction is true, each item is.
  pub all-true-each : (vs : List Value) →
      as_truth (false_where_undefined true (value_of_node (word Fun.And) (option_map list_value (collect vs F) ∷ []))) ≡ true →
      Each vs (λ v. as_truth (meaning b (at v)) ≡ true)
  all-true-each vs h = go (collect vs F) refl h
    where
      go : (o : Option (List Value)) → collect vs F ≡ o →
          as_truth (false_where_undefined true (value_of_node (word Fun.And) (option_map list_value o ∷ []))) ≡ true →
          Each vs (λ v. as_truth (meaning b (at v)) ≡ true)
      go None e h = cc
      go (Some xs) e h = each-collected vs xs e (ap all_true (sym (to_list-of_list xs)) ∙ h)

-- What a conjunction over the members of a domain tells.
pub over-each : (b : Ex) (p : Pat) (env : Env) (o : Option (List Value)) →
    as_truth (false_where_undefined true
    (value_of_node (word Fun.And)
    (option_map list_value
    (and_then o (λ vs. collect vs (λ v. option_map (λ w. w ∷ []) (meaning b (with_pat p v env))))) ∷ []))) ≡ true →
    EachOf o (λ v. as_truth (meaning b (with_pat p v env)) ≡ true)
over-each b p env None h = tt
over-each b p env (Some vs) h = all-true-each b (λ v. with_pat p v env) vs h

-- What a conjunction over the items of a source tells.
pub from-each : (b : Ex) (p : Pat) (env : Env) (o : Option Value) →
    as_truth (false_where_undefined true
    (value_of_node (word Fun.And)
    (option_map list_value
    (and_then o (λ s. collect (items_of s) (λ v. option_map (λ w. w ∷ []) (meaning b (with_pat p v env))))) ∷ []))) ≡ true →
    EachIn o (λ v. as_truth (meaning b (with_pat p v env)) ≡ true)
from-each b p env None h = tt
from-each b p env (Some s) h = all-true-each b (λ v. with_pat p v env) (items_of s) h

-- Conditions at each member of a domain.
pub over-behind : (p : Pat) (d : Dom) (cs : List Ex) (env : Env) (Q : Value → Type 0) → TotalDom d env →
    EachOf (members_in (domain_of d env)) (λ v. Behind cs (with_pat p v env) (Q v)) →
    Behind (every (over p d no_gens) cs) env (TotalDom d env × EachOf (members_in (domain_of d env)) Q)
over-behind p d [] env Q t e = (t, e)
over-behind p d (c ∷ cs) env Q t e = (
  safe-total true (word Fun.And) (more_exs (comp_ex (all_of (c ∷ cs)) (over p d no_gens)) no_exs) env refl
      ((t, each-of-map (members_in (domain_of d env)) _ _ (λ v q. all-of-total (c ∷ cs) (with_pat p v env) (Q v) q) e), tt),
  λ h. (
    t,
    each-of-join (members_in (domain_of d env)) _ _ _
        (λ v q r. behind-hold (c ∷ cs) (with_pat p v env) (Q v) q (all-of-hold (c ∷ cs) (with_pat p v env) r)) e
        (over-each (all_of (c ∷ cs)) p env (members_in (domain_of d env)) h),
  ),
)

-- Conditions at each item of a source.
pub from-behind : (p : Pat) (s : Ex) (cs : List Ex) (env : Env) (Q : Value → Type 0) → Total s env →
    EachIn (meaning s env) (λ v. Behind cs (with_pat p v env) (Q v)) →
    Behind (every (from p s no_gens) cs) env (Total s env × EachIn (meaning s env) Q)
from-behind p s [] env Q t e = (t, e)
from-behind p s (c ∷ cs) env Q t e = (
  safe-total true (word Fun.And) (more_exs (comp_ex (all_of (c ∷ cs)) (from p s no_gens)) no_exs) env refl
      ((t, each-in-map (meaning s env) _ _ (λ v q. all-of-total (c ∷ cs) (with_pat p v env) (Q v) q) e), tt),
  λ h. (
    t,
    each-in-join (meaning s env) _ _ _
        (λ v q r. behind-hold (c ∷ cs) (with_pat p v env) (Q v) q (all-of-hold (c ∷ cs) (with_pat p v env) r)) e
        (from-each (all_of (c ∷ cs)) p env (meaning s env) h),
  ),
)

-- Conditions behind another one.
pub given-behind : (b : Ex) (cs : List Ex) (env : Env) (Q : Type 0) → Total b env → Behind cs env Q →
    Behind (given_that b cs) env (Total b env × WhenTrue (meaning b env) Q)
given-behind b [] env Q t q = (t, λ h. q)
given-behind b (c ∷ cs) env Q t q = (
  safe-total true (binary Op2.Implies) (more_exs b (more_exs (all_of (c ∷ cs)) no_exs)) env refl (t, (all-of-total (c ∷ cs) env Q q, tt)),
  λ h. (
    t,
    λ r. behind-hold (c ∷ cs) env Q q
        (all-of-hold (c ∷ cs) env (if-so (as_truth (meaning b env)) (as_truth (meaning (all_of (c ∷ cs)) env)) r h)),
  ),
)

-- ---- what holds at a member

each-held : (xs ys : List Value) (P : Value → Type 0) → ((v : Value) → holds ys v ≡ true → P v) →
    ((v : Value) → holds xs v ≡ true → holds ys v ≡ true) → Each xs P
each-held [] ys P f g = tt
each-held (x ∷ xs) ys P f g =
    (f x (g x (ap (λ b. b || holds xs x) (same-itself x))), each-held xs ys P f (λ v h. g v (later (same x v) (holds xs v) h)))
  where
    later : (a b : Bool) → b ≡ true → a || b ≡ true
    later true b e = refl
    later false b e = e

-- What follows of each member holds at each.
pub each-member : (o : Option (List Value)) (P : Value → Type 0) → ((vs : List Value) (v : Value) → o ≡ Some vs → holds vs v ≡ true → P v) →
    EachOf o P
each-member None P f = tt
each-member (Some vs) P f = each-held vs vs P (λ v h. f vs v refl h) (λ v h. h)
