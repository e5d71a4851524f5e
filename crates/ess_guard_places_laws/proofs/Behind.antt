-- What is total but for plain operators and tests, under conditions, each of which is total so under those before it.
use Rattle.std.proofs.Common.{◌≡◌, refl, Bool, true, false, List, [], ◌∷◌, ◌++◌}
use Rattle.ess_semantics.specs.declared.words.Op2.{Op2}
use Rattle.ess_semantics.specs.declared.words.Fun.{Fun}
use Rattle.ess_semantics.specs.Values.{Value}
use Rattle.ess_semantics.specs.Trees.{binary, word, Pat, Ex, comp_ex, no_exs, more_exs, no_gens, over, from, Dom}
use Rattle.ess_semantics.specs.Operators.{as_truth}
use Rattle.ess_semantics.specs.Meaning.{Env, meaning, with_pat, domain_of, members_in}
use Rattle.ess_semantics.specs.Contexts.{EachOf, EachIn, WhenTrue}
use Rattle.ess_semantics.proofs.Tests.{if-so}
use Rattle.ess_rules_laws.proofs.Bindings.{each-of-map, each-in-map, each-of-join, each-in-join}
use Rattle.ess_guard_laws.specs.Conditions.{conds, chained, all_of, every, given_that, unless}
use Rattle.ess_guard_laws.specs.Holds.{Hold}
use Rattle.ess_guard_laws.proofs.Behind.{all-of-hold, over-each, from-each}
use Rattle.ess_guard_places_laws.proofs.Places.{T, safe-total}
use Rattle.ess_guard_places_laws.specs.TotalInPlaces.{UnderTotalInPlaces, DomTotalInPlaces}

-- Each condition is total where those before it hold, and P holds where all do.
abbrev pub Behind : List Ex → Env → Type 0 → Type 0
Behind [] env P = P
Behind (c ∷ cs) env P = T c env × WhenTrue (meaning c env) (Behind cs env P)

-- Conditions behind conditions.
pub behind-append : (cs ds : List Ex) (env : Env) (P Q : Type 0) → (P → Behind ds env Q) → Behind cs env P → Behind (cs ++ ds) env Q
behind-append [] ds env P Q f b = f b
behind-append (c ∷ cs) ds env P Q f b = (b.0, λ t. behind-append cs ds env P Q f (b.1 t))

-- What stands behind conditions that hold.
pub behind-hold : (cs : List Ex) (env : Env) (P : Type 0) → Behind cs env P → Hold cs env → P
behind-hold [] env P b h = b
behind-hold (c ∷ cs) env P b h = behind-hold cs env P (b.1 h.0) h.1

-- What holds where conditions that are total hold stands behind them.
pub behind-told : (cs : List Ex) (env : Env) (P : Type 0) → Behind cs env (Unit {0}) → (Hold cs env → P) → Behind cs env P
behind-told [] env P b f = f tt
behind-told (c ∷ cs) env P b f = (b.0, λ t. behind-told cs env P (b.1 t) (λ h. f (t, h)))

-- What stands behind one condition, or none.
pub behind-unless : (t : Bool) (c : Ex) (env : Env) (P : Type 0) → (t ≡ true → P) → T c env → (as_truth (meaning c env) ≡ true → P) →
    Behind (unless t c) env P
behind-unless true c env P f t g = f refl
behind-unless false c env P f t g = (t, g)

-- ---- conditions that are total by themselves

-- Each condition is total.
abbrev pub EachTotal : List Ex → Env → Type 0
EachTotal [] env = Unit {0}
EachTotal (c ∷ cs) env = T c env × EachTotal cs env

-- Both lists are.
pub each-total-append : (cs ds : List Ex) (env : Env) → EachTotal cs env → EachTotal ds env → EachTotal (cs ++ ds) env
each-total-append [] ds env t u = u
each-total-append (c ∷ cs) ds env t u = (t.0, each-total-append cs ds env t.1 u)

-- One condition, or none.
pub each-total-unless : (t : Bool) (c : Ex) (env : Env) → T c env → EachTotal (unless t c) env
each-total-unless true c env u = tt
each-total-unless false c env u = (u, tt)

-- What holds where they hold stands behind them.
pub behind-asked : (cs : List Ex) (env : Env) (P : Type 0) → EachTotal cs env → (Hold cs env → P) → Behind cs env P
behind-asked [] env P t f = f tt
behind-asked (c ∷ cs) env P t f = (t.0, λ h. behind-asked cs env P t.1 (λ g. f (h, g)))

-- ---- trees

-- Conditions as generators.
pub conds-total : (cs : List Ex) (env : Env) (b : Ex) → Behind cs env (T b env) → UnderTotalInPlaces (conds cs) env (λ here. T b here)
conds-total [] env b t = t
conds-total (c ∷ cs) env b t = (t.0, λ q. conds-total cs env b (t.1 q))

-- A Boolean under conditions is total where it is total behind them.
pub chained-total : (cs : List Ex) (b : Ex) (env : Env) → Behind cs env (T b env) → T (chained cs b) env
chained-total [] b env t = t
chained-total (c ∷ cs) b env t =
    safe-total true (word Fun.Or) (more_exs (comp_ex b (conds (c ∷ cs))) no_exs) env refl (conds-total (c ∷ cs) env b t, tt)

-- That all conditions hold is total.
pub all-of-total : (cs : List Ex) (env : Env) (P : Type 0) → Behind cs env P → T (all_of cs) env
all-of-total [] env P b = tt
all-of-total (c ∷ []) env P b = b.0
all-of-total (c ∷ d ∷ cs) env P b = chained-total (c ∷ []) (all_of (d ∷ cs)) env (b.0, λ t. all-of-total (d ∷ cs) env P (b.1 t))

-- ---- at each binding

-- Conditions at each member of a domain.
pub over-behind : (p : Pat) (d : Dom) (cs : List Ex) (env : Env) (Q : Value → Type 0) → DomTotalInPlaces d env →
    EachOf (members_in (domain_of d env)) (λ v. Behind cs (with_pat p v env) (Q v)) →
    Behind (every (over p d no_gens) cs) env (DomTotalInPlaces d env × EachOf (members_in (domain_of d env)) Q)
over-behind p d [] env Q t e = (t, e)
over-behind p d (c ∷ cs) env Q t e = (
  safe-total true (word Fun.And) (more_exs (comp_ex (all_of (c ∷ cs)) (over p d no_gens)) no_exs) env refl
      ((t, each-of-map (members_in (domain_of d env)) _ _ (λ v q. all-of-total (c ∷ cs) (with_pat p v env) (Q v) q) e), tt),
  λ h. (
    t,
    each-of-join (members_in (domain_of d env)) _ _ _
        (λ v q r. behind-hold (c ∷ cs) (with_pat p v env) (Q v) q (all-of-hold (c ∷ cs) (with_pat p v env) r)) e
        (over-each (all_of (c ∷ cs)) p env (members_in (domain_of d env)) h),
  ),
)

-- Conditions at each item of a source.
pub from-behind : (p : Pat) (s : Ex) (cs : List Ex) (env : Env) (Q : Value → Type 0) → T s env →
    EachIn (meaning s env) (λ v. Behind cs (with_pat p v env) (Q v)) →
    Behind (every (from p s no_gens) cs) env (T s env × EachIn (meaning s env) Q)
from-behind p s [] env Q t e = (t, e)
from-behind p s (c ∷ cs) env Q t e = (
  safe-total true (word Fun.And) (more_exs (comp_ex (all_of (c ∷ cs)) (from p s no_gens)) no_exs) env refl
      ((t, each-in-map (meaning s env) _ _ (λ v q. all-of-total (c ∷ cs) (with_pat p v env) (Q v) q) e), tt),
  λ h. (
    t,
    each-in-join (meaning s env) _ _ _
        (λ v q r. behind-hold (c ∷ cs) (with_pat p v env) (Q v) q (all-of-hold (c ∷ cs) (with_pat p v env) r)) e
        (from-each (all_of (c ∷ cs)) p env (meaning s env) h),
  ),
)

-- Conditions behind another one.
pub given-behind : (b : Ex) (cs : List Ex) (env : Env) (Q : Type 0) → T b env → Behind cs env Q →
    Behind (given_that b cs) env (T b env × WhenTrue (meaning b env) Q)
given-behind b [] env Q t q = (t, λ h. q)
given-behind b (c ∷ cs) env Q t q = (
  safe-total true (binary Op2.Implies) (more_exs b (more_exs (all_of (c ∷ cs)) no_exs)) env refl (t, (all-of-total (c ∷ cs) env Q q, tt)),
  λ h. (
    t,
    λ r. behind-hold (c ∷ cs) env Q q
        (all-of-hold (c ∷ cs) env (if-so (as_truth (meaning b env)) (as_truth (meaning (all_of (c ∷ cs)) env)) r h)),
  ),
)
