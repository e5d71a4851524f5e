-- Declared domains under declarations and tables.
use Rattle.std.proofs.Common.{◌≡◌, refl, sym, ap, ◌∙◌, Bool, true, List, [], ◌∷◌, map, Option, option_map}
use Rattle.ess_semantics.specs.Names.{Names}
use Rattle.ess_semantics.specs.Tables as pure
use Rattle.ess_semantics.specs.Domains.{Domain}
use Rattle.ess_semantics.specs.DeclaredTables.{TableDecl}
use Rattle.ess_semantics.specs.Values.{Value}
use Rattle.ess_semantics.specs.Meaning.{meaning, is_true, domain_of}
use Rattle.ess_semantics.specs.Large.{is_large, is_large_dom}
use Rattle.ess_semantics.specs.ModelMeaning.{kinded, kinded_dom, env_of_tables, model_domain, model_value}
use Rattle.ess_semantics.specs.LargeModels.{dom_is_large, ex_is_large}
use Rattle.ess_grammar.specs.Models.{Scope}
use Rattle.eprime_tree.specs.declared.models.PDecl.{PDecl}
use Rattle.eprime_tree.specs.declared.expressions.PDom.{PDom}
use Rattle.eprime_tree.specs.declared.expressions.PEx.{PEx}
use Rattle.eprime_tree.specs.Views.{pure_dom, pure_ex}
use Rattle.eprime_eval_kinds.specs.declared.declared.Shape.{Shape}
use Rattle.eprime_eval_kinds.specs.declared.nodes.KindedEx.{KindedEx}
use Rattle.eprime_eval_kinds.specs.declared.tree.KDom.{KDom}
use Rattle.eprime_eval_kinds.specs.KindedViews.{pure_kex, pure_kdom, pure_kinded}
use Rattle.eprime_eval_kinds.specs.Shapes.{decl_shape, shape_of, names_of}
use Rattle.eprime_eval.specs.declared.names.Bound.{Bound}
use Rattle.eprime_eval.specs.declared.under.Under.{Under}
use Rattle.eprime_eval.specs.declared.members.Closed.{Closed}
use Rattle.eprime_eval.specs.ClosedDomains.{pure_closed}
use Rattle.eprime_eval.specs.KnownTables.{cells_of, IsKnown}
use Rattle.eprime_eval.specs.Environments.{env_at}
use Rattle.eprime_eval.specs.UnderTables.{IsUnder}

names-shaped : (ds : List PDecl) → map (λ d. d.name) ds ≡ names_of (map decl_shape ds)
names-shaped [] = refl
names-shaped (d ∷ ds) = ap (λ ns. d.name ∷ ns) (names-shaped ds)

-- Shapes and tables that were made of one list of declarations.
pub is_under : (u : Under) (ds : List PDecl) (c : Names pure.Table) → IsKnown u.known → u.known.names ≡ map (λ d. d.name) ds
    → cells_of u.known ≡ c → u.shapes ≡ map decl_shape ds → IsUnder u (map decl_shape ds) c
is_under u ds c k n e s = record { known = k; shapes = s; names = n ∙ names-shaped ds; cells = e }

-- ---- a domain that was closed

-- What the kinding pass says of its tree.
abbrev pub KindedAs : KDom → PDom → List Shape → Type 0
KindedAs k d ss = (ds : List TableDecl) (s : Scope) → map shape_of ds ≡ ss → pure_kdom (names_of ss) k ≡ kinded_dom ds (pure_dom s d) []

tree-is : (u : Under) (k : KDom) (d : PDom) (ds : List TableDecl) (s : Scope) (c : Names pure.Table) → KindedAs k d u.shapes → IsUnder u (map shape_of ds) c
    → pure_kdom u.known.names k ≡ kinded_dom ds (pure_dom s d) []
tree-is u k d ds s c h g =
    ap (λ ns. pure_kdom ns k) (g.names ∙ ap names_of (sym g.shapes)) ∙ h ds s (sym g.shapes)

env-is : (u : Under) (bs : List Bound) (ss : List Shape) (c : Names pure.Table) → bs ≡ [] → IsUnder u ss c → env_at u.known bs ≡ env_of_tables c
env-is u bs ss c e g = rw (e, g.cells) refl

pub closed_there : (u : Under) (k : KDom) (d : PDom) (bs : List Bound) (o : Option Closed) (x : Option Domain) → KindedAs k d u.shapes → bs ≡ []
    → option_map pure_closed o ≡ domain_of (pure_kdom u.known.names k) (env_at u.known bs) → option_map pure_closed o ≡ x
    → (ds : List TableDecl) (s : Scope) (c : Names pure.Table) → IsUnder u (map shape_of ds) c → model_domain ds c (pure_dom s d) ≡ x
closed_there u k d bs o x h e g f ds s c i =
    sym (ap (λ t. domain_of t (env_at u.known bs)) (tree-is u k d ds s c h i) ∙ ap (λ v. domain_of (kinded_dom ds (pure_dom s d) []) v) (env-is u bs (map shape_of ds) c e i))
    ∙ sym g ∙ f

pub closed_large : (u : Under) (k : KDom) (d : PDom) (bs : List Bound) → KindedAs k d u.shapes → bs ≡ []
    → is_large_dom (pure_kdom u.known.names k) (env_at u.known bs) ≡ true
    → (ds : List TableDecl) (s : Scope) (c : Names pure.Table) → IsUnder u (map shape_of ds) c → dom_is_large ds c (pure_dom s d) ≡ true
closed_large u k d bs h e g ds s c i =
    sym (ap (λ t. is_large_dom t (env_at u.known bs)) (tree-is u k d ds s c h i) ∙ ap (λ v. is_large_dom (kinded_dom ds (pure_dom s d) []) v) (env-is u bs (map shape_of ds) c e i))
    ∙ g

pub ruleset closings = (closed_there, closed_large)

-- ---- an expression that was evaluated

abbrev pub KindedExAs : KindedEx → PEx → List Shape → Type 0
KindedExAs k e ss = (ds : List TableDecl) (s : Scope) → map shape_of ds ≡ ss → pure_kinded (names_of ss) k ≡ kinded ds (pure_ex s e) []

ex-is : (u : Under) (k : KindedEx) (e : PEx) (ds : List TableDecl) (s : Scope) (c : Names pure.Table) → KindedExAs k e u.shapes → IsUnder u (map shape_of ds) c
    → pure_kex u.known.names k.ex ≡ (kinded ds (pure_ex s e) []).0
ex-is u k e ds s c h g =
    ap (λ ns. pure_kex ns k.ex) (g.names ∙ ap names_of (sym g.shapes)) ∙ ap (λ x. x.0) (h ds s (sym g.shapes))

pub truth_there : (u : Under) (k : KindedEx) (e : PEx) (bs : List Bound) (o : Option Value) (b : Bool) → KindedExAs k e u.shapes → bs ≡ []
    → o ≡ meaning (pure_kex u.known.names k.ex) (env_at u.known bs) → b ≡ is_true o
    → (ds : List TableDecl) (s : Scope) (c : Names pure.Table) → IsUnder u (map shape_of ds) c → is_true (model_value ds c (pure_ex s e)) ≡ b
truth_there u k e bs o b h z g f ds s c i =
    ap is_true (sym (g ∙ ap (λ t. meaning t (env_at u.known bs)) (ex-is u k e ds s c h i)
    ∙ ap (λ v. meaning (kinded ds (pure_ex s e) []).0 v) (env-is u bs (map shape_of ds) c z i))) ∙ sym f

pub truth_large : (u : Under) (k : KindedEx) (e : PEx) (bs : List Bound) → KindedExAs k e u.shapes → bs ≡ []
    → is_large (pure_kex u.known.names k.ex) (env_at u.known bs) ≡ true
    → (ds : List TableDecl) (s : Scope) (c : Names pure.Table) → IsUnder u (map shape_of ds) c → ex_is_large ds c (pure_ex s e) ≡ true
truth_large u k e bs h z g ds s c i =
    sym (ap (λ t. is_large t (env_at u.known bs)) (ex-is u k e ds s c h i) ∙ ap (λ v. is_large (kinded ds (pure_ex s e) []).0 v) (env-is u bs (map shape_of ds) c z i)) ∙ g

pub ruleset truths = (truth_there, truth_large)
