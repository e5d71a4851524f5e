-- Rules that keep scopes, and what they count on: that the names which they take are new, and that bound names are apart.
use Rattle.std.specs.Prelude.{◌≡◌, Bool, true, false, not, List, [], ◌∷◌, Option, Some, None, IsTrue}
use Rattle.ess_semantics.specs.declared.words.Fun.{Fun}
use Rattle.ess_semantics.specs.Values.{Text}
use Rattle.ess_semantics.specs.Order.{same_text}
use Rattle.ess_semantics.specs.Names.{Names}
use Rattle.ess_semantics.specs.Trees.{Pats, more_pats, name_pat, tuple_pat, Ex, node_ex, comp_ex, ex2, fun1, Gens, over, from, Doms, more_doms, tuple_dom, record_dom}
use Rattle.ess_semantics.specs.Types.{Ty}
use Rattle.ess_semantics.specs.Scoped.{is_bound, with_names, AllBindNew, Scoped, ScopedGens, ScopedDom}
use Rattle.ess_semantics.specs.Substitution.{NamesAre, NamesAreDom, NamesAreDoms}
use Rattle.ess_rules_laws.specs.Listings.{Alternative, each_item}
use Rattle.ess_rules_laws.specs.ListedSources.{laid_out}
use Rattle.ess_refine_laws.specs.LeavingConditions.{Parted, at_last_condition}
use Rattle.ess_refine_laws.specs.ScopesStay.{Scope, KeepsScope}
use Rattle.ess_refine_laws.specs.AllRules.{Rule, over_a_literal, over_a_source, of_one_source, over_a_comprehension, over_tuples, over_a_tuple, over_a_record, equal_matrices_at, condition_behind, least_under_a_condition, least_of_alternatives, Supply, offered, OfSome, opposite_copied, rewrite}

-- The tree binds no name of n.
abbrev pub BindsNone : (Text → Bool) → Ex → Type 0
BindsNone n e = NamesAre (λ a. true) (λ a. not (n a)) e

-- The name isn't in scope, and the tree doesn't bind it.
abbrev pub IsNew : Scope → Text → Ex → Type 0
IsNew s x e = IsTrue (not (s.all x)) × BindsNone (same_text x) e

-- None of these names is in scope.
abbrev pub AreNew : Scope → List Text → Type 0
AreNew s [] = Unit {0}
AreNew s (y ∷ ys) = IsTrue (not (s.all y)) × AreNew s ys

-- The names that rules take are new.
abbrev pub NewSupply : Supply → Scope → Ex → Type 0
NewSupply t s e = IsNew s t.one e × IsNew s t.other e × (same_text t.one t.other ≡ false) × AreNew s t.parts
    × IsNew s t.third e × (same_text t.one t.third ≡ false) × (same_text t.other t.third ≡ false)

-- What a pattern binds no pattern and no domain behind it binds.
abbrev pub PartsApart : Pats → Doms → Type 0
PartsApart (more_pats p ps) (more_doms d ds) =
    AllBindNew (is_bound p) ps × NamesAreDoms (λ a. true) (λ a. not (is_bound p a)) ds × PartsApart ps ds
PartsApart ps ds = Unit {0}

-- The generator that a condition moves behind binds no name that the condition binds.
abbrev pub BindsLater : Ex → Gens → Type 0
BindsLater c (over p d hs) = BindsNone (is_bound p) c
BindsLater c hs = Unit {0}

abbrev pub LaterBinds : Option Parted → Type 0
LaterBinds None = Unit {0}
LaterBinds (Some t) = BindsLater t.condition t.after

-- What stands in the place of a copy is in scope behind the generators before the condition.
abbrev pub CopyScoped : (Text → Bool) → Scope → Ex → Option Parted → Type 0
CopyScoped z s m None = Unit {0}
CopyScoped z s m (Some t) = ScopedGens z s.all s.over_domains t.before (λ all over_domains. Scoped z all over_domains m)

-- No alternative binds one of these names.
abbrev pub EachBindsNone : (Text → Bool) → List Alternative → Type 0
EachBindsNone u [] = Unit {0}
EachBindsNone u (a ∷ l) = BindsNone u (laid_out a) × EachBindsNone u l

-- What is asked where the alternatives stand for y in `[e | y <- .., hs]`: y is no name of a declaration's domain and none over a domain,
-- and what stands behind y binds names u alone, which no alternative binds.
abbrev pub TermsApart : (Text → Bool) → Scope → Text → Ex → Gens → List Alternative → Type 0
TermsApart z s y e hs l =
    (z y ≡ false) × (s.over_domains y ≡ false) × (u : Text → Bool) × NamesAre (λ a. true) u (comp_ex e hs) × EachBindsNone u l

-- The name that the first generator of a set of items binds over a domain is none that domains of declarations use.
abbrev pub SetApart : (Text → Bool) → Ex → Type 0
SetApart z (fun1 false Fun.ToSet (comp_ex e (over (name_pat x) d gs))) = z x ≡ false
SetApart z e = Unit {0}

-- What is asked where the source k is listed.
abbrev pub ListedFits : (Text → Bool) → Supply → Names Ty → Scope → Text → Ex → Ex → Gens → Type 0
ListedFits z t g s y k e hs = OfSome (offered t g k) (TermsApart z s y e hs) × SetApart z k

-- What single rules count on: patterns and the domains that they take are apart; a name over a tuple or record of domains is no index of
-- a view; index domains are in scope and don't bind new names; so a copy; and terms for names are apart.
abbrev pub ScopeFits : (Text → Bool) → Supply → Names Ty → Scope → Rule → Ex → Type 0
ScopeFits z t g s over_tuples (comp_ex e (over (tuple_pat ps) (tuple_dom ds) hs)) = PartsApart ps ds
ScopeFits z t g s over_a_tuple (comp_ex e (over (name_pat x) (tuple_dom ds) hs)) =
    ScopedGens z (with_names s.all (name_pat x)) s.over_domains hs (λ all over_domains. Scoped z all over_domains e)
ScopeFits z t g s over_a_record (comp_ex e (over (name_pat x) (record_dom fs ds) hs)) =
    ScopedGens z (with_names s.all (name_pat x)) s.over_domains hs (λ all over_domains. Scoped z all over_domains e)
ScopeFits z t g s equal_matrices_at (ex2 m o a b) =
    ScopedDom z s.all s.over_domains (t.index_domain a) × ScopedDom z s.all s.over_domains (t.index_domain b)
    × NamesAreDom (λ a. true) (λ c. not (same_text t.one c)) (t.index_domain a)
    × NamesAreDom (λ a. true) (λ c. not (same_text t.one c)) (t.index_domain b)
ScopeFits z t g s condition_behind (fun1 m f (comp_ex e gs)) = LaterBinds (at_last_condition gs)
ScopeFits z t g s least_under_a_condition (fun1 m f (comp_ex e gs)) =
    CopyScoped z s (opposite_copied t (fun1 m f (comp_ex e gs))) (at_last_condition gs)
ScopeFits z t g s over_a_comprehension (comp_ex e (from (name_pat y) (comp_ex h ks) hs)) =
    TermsApart z s y e hs (record { gens = ks; item = h } ∷ [])
ScopeFits z t g s over_a_literal (fun1 m f (comp_ex e (from (name_pat y) (node_ex b op es) hs))) = TermsApart z s y e hs (each_item es)
ScopeFits z t g s over_a_source (fun1 m f (comp_ex e (from (name_pat y) k hs))) = ListedFits z t g s y k e hs
ScopeFits z t g s of_one_source (fun1 m f (comp_ex e (from (name_pat y) k hs))) = ListedFits z t g s y k e hs
ScopeFits z t g s least_of_alternatives (fun1 m f (comp_ex e (from (name_pat y) k hs))) = ListedFits z t g s y k e hs
ScopeFits z t g s r e = Unit {0}

-- Each rule keeps the scope where it fires.
abbrev pub RulesKeepScopes : Type 0
RulesKeepScopes = (z : Text → Bool) (t : Supply) (g : Names Ty) (r : Rule) (s : Scope) (e f : Ex) → rewrite t g r e ≡ Some f →
    NewSupply t s e → ScopeFits z t g s r e → KeepsScope z s e f
