-- Rules of comprehensions over sources whose items are counted keep scopes, where the three names that they take are new.
use Rattle.std.specs.Prelude.{◌≡◌, Bool, true, false, not, Some}
use Rattle.ess_semantics.specs.Values.{Text}
use Rattle.ess_semantics.specs.Order.{same_text}
use Rattle.ess_semantics.specs.Names.{Names}
use Rattle.ess_semantics.specs.Trees.{Ex, ex2}
use Rattle.ess_semantics.specs.Types.{Ty}
use Rattle.ess_semantics.specs.Scoped.{ScopedDom}
use Rattle.ess_semantics.specs.Substitution.{NamesAreDom}
use Rattle.ess_refine_laws.specs.AllRules.{Supply, OfSome}
use Rattle.ess_refine_laws.specs.ScopesStay.{Scope, KeepsScope}
use Rattle.ess_refine_laws.specs.ScopesOfRules.{IsNew}
use Rattle.ess_numbered_laws.specs.EqualByNumber.{other_side}
use Rattle.ess_numbered_laws.specs.NumberRules.{NumberRule, equality_of_lists, number_rewrite}

-- The names that domains of declarations may use are in scope: index domains are copied out of views.
abbrev pub DeclaredInScope : (Text → Bool) → Scope → Type 0
DeclaredInScope z s = (a : Text) → z a ≡ true → s.all a ≡ true

-- The names for numbers, for items that are counted, and for members of index domains are new, and the first one is none of the others.
abbrev pub ThreeNew : Supply → Scope → Ex → Type 0
ThreeNew t s e = IsNew s t.one e × IsNew s t.other e × IsNew s t.third e × (same_text t.one t.other ≡ false)
    × (same_text t.one t.third ≡ false)

-- The index domain of an operand, where it is told, is in scope, and doesn't bind the name for numbers.
abbrev pub SideScoped : (Text → Bool) → Supply → Scope → Ex → Type 0
SideScoped z t s b = OfSome (other_side b) (λ o. OfSome o
    (λ d. ScopedDom z s.all s.over_domains d × NamesAreDom (λ a. true) (λ a. not (same_text t.one a)) d))

-- What single rules ask.
abbrev pub NumberScoped : (Text → Bool) → Supply → Scope → NumberRule → Ex → Type 0
NumberScoped z t s equality_of_lists (ex2 m o a b) = SideScoped z t s a × SideScoped z t s b
NumberScoped z t s r e = Unit {0}

-- So each of these rules keeps the scope where it fires; z are the names that the domains of declarations may use.
abbrev pub NumberRulesKeepScopes : Type 0
NumberRulesKeepScopes = (z : Text → Bool) (t : Supply) (g : Names Ty) (r : NumberRule) (s : Scope) (e f : Ex) →
    number_rewrite t g r e ≡ Some f → DeclaredInScope z s → ThreeNew t s e → NumberScoped z t s r e → KeepsScope z s e f
