-- A judged expression or domain means the same under an env and a later one, which differ in names that aren't in scope.
use Rattle.std.proofs.Common.{◌≡◌, refl, sym, ap, ◌∙◌, Bool, true, false, ◌||◌, not, List, ◌++◌, is_some}
use Rattle.ess_semantics.specs.Values.{Text}
use Rattle.ess_semantics.specs.Names.{keys, is_among}
use Rattle.ess_semantics.specs.Trees.{Ex, Dom}
use Rattle.ess_semantics.specs.Typing.{type_of}
use Rattle.ess_semantics.specs.Scopes.{Scope, names_in_scope, Asked, every, every_dom}
use Rattle.ess_semantics.specs.Resolving.{resolve, resolve_dom}
use Rattle.ess_semantics.specs.Meaning.{Env, meaning, domain_of}
use Rattle.ess_semantics.proofs.Tests.{not-true}
use Rattle.ess_rules_laws.proofs.Simulation.{E}
use Rattle.conjure_laws.proofs.FreeNames.{among-append}
use Rattle.conjure_settled_laws.proofs.UsedNames.{meaning-used, domain-used}
use Rattle.conjure_settled_laws.proofs.KnownIndices.{known_parts, Covers}
use Rattle.conjure_settled_laws.proofs.KnownNames.{known-uses, dom-uses}
use Rattle.conjure_settled_laws.proofs.ScopesGrow.{in-scope}
use Rattle.conjure_settled_laws.proofs.LaterEnvs.{Agrees}

-- The name is none of these.
abbrev off : List Text → Text → Bool
off ns a = not (is_among ns a)

-- None of these names is in scope.
abbrev pub AreOutside : List Text → Scope → Type 0
AreOutside ns s = (a : Text) → is_among (names_in_scope s) a ≡ true → is_among ns a ≡ false

type-too : (k e u d : Bool) → (e || u) || d ≡ true → ((k || e) || u) || d ≡ true
type-too true e u d h = refl
type-too false e u d h = h

covers : (ns : List Text) (s : Scope) → AreOutside ns s → Covers (off ns) s (off ns)
covers ns s n = record {
  names = λ a i. ap not (n a i);
  types = λ a i. ap not (n a (in-scope s a ∙ type-too (is_among (keys s.tys) a) (is_among s.enums a) (is_among s.unnamed a)
      (is_among (keys s.lets.doms) a)
      (sym (among-append (s.enums ++ s.unnamed) (keys s.lets.doms) a
      ∙ ap (λ b. b || is_among (keys s.lets.doms) a) (among-append s.enums s.unnamed a)) ∙ i)));
}

at-later : {A : Type 0} (f : Env → A) (ns : List Text) (env later : Env) → Agrees ns env later →
    f (E env.positions later.types env.cells later.vals) ≡ f later
at-later f ns env later h =
    ap (λ b. f (E b later.types env.cells later.vals)) h.positions ∙ ap (λ c. f (E later.positions later.types c later.vals)) h.cells

module _ (q : Asked) (typed : (x : Ex) (z : Scope) → q.of_ex x z ≡ true → is_some (type_of x z.tys) ≡ true) where
  -- The expression means the same.
  pub meaning-stays : (e : Ex) (s : Scope) (ns : List Text) (env later : Env) → every q e s ≡ true → every known_parts e s ≡ true →
      AreOutside ns s → Agrees ns env later → meaning (resolve e s.tys) env ≡ meaning (resolve e s.tys) later
  meaning-stays e s ns env later a f n h =
      meaning-used (off ns) env.positions env.types later.types env.cells (λ a i. h.types a (not-true (is_among ns a) i))
      (resolve e s.tys) (off ns) env.vals later.vals
      (known-uses (off ns) q typed e s s.depends_on_finds s.depends_on_finds (off ns) (covers ns s n) a f)
      (λ a i. h.vals a (not-true (is_among ns a) i))
      ∙ at-later (meaning (resolve e s.tys)) ns env later h

  -- The domain is the same.
  pub domain-stays : (d : Dom) (s : Scope) (ns : List Text) (env later : Env) → every_dom q d s ≡ true → every_dom known_parts d s ≡ true →
      AreOutside ns s → Agrees ns env later → domain_of (resolve_dom d s.tys) env ≡ domain_of (resolve_dom d s.tys) later
  domain-stays d s ns env later a f n h =
      domain-used (off ns) env.positions env.types later.types env.cells (λ a i. h.types a (not-true (is_among ns a) i))
      (resolve_dom d s.tys) (off ns) env.vals later.vals
      (dom-uses (off ns) q typed d s s.depends_on_finds s.depends_on_finds (off ns) (covers ns s n) a f)
      (λ a i. h.vals a (not-true (is_among ns a) i))
      ∙ at-later (domain_of (resolve_dom d s.tys)) ns env later h
