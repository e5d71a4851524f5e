-- Each find of a specification of sets has one plan.
use Rattle.std.proofs.Common.{◌≡◌, refl, sym, ap, ◌∙◌, subst, if◌then◌else◌, List, [], ◌∷◌, map, filter, inl, inr}
use Rattle.ess_semantics.specs.Values.{Text}
use Rattle.ess_semantics.specs.Names.{Names}
use Rattle.ess_semantics.specs.Trees.{Dom, Stm, find}
use Rattle.ess_semantics.specs.Contexts.{Each}
use Rattle.ess_semantics.specs.Plans.{Plan, value_plan, plans, finds_side, value_names, is_plan_of, is_plan_for}
use Rattle.ess_semantics.proofs.Texts.{same_text-itself}
use Rattle.conjure_laws.specs.Members.{In}
use Rattle.conjure_laws.specs.SideBySide.{Along}
use Rattle.conjure_laws.specs.ModelPremises.{ChannelsMean}
use Rattle.conjure_laws.specs.SetsOfAtoms.{Atom, Line, sets_of, spec, TypeKind, none_declared, after_all}
use Rattle.conjure_laws.specs.ModelsOfSets.{no_options, table_of, model_of}
use Rattle.conjure_laws.proofs.Lists.{in-filtered}
use Rattle.conjure_laws.proofs.Statements.{plan-is-found, one-domain}
use Rattle.conjure_laws.proofs.SetScopes.{Fine, prepared-itself}
use Rattle.conjure_laws.proofs.SetNames.{finds-new}
use Rattle.conjure_laws.proofs.SetPlans.{Occ, PlanFact, size_fact, occ_fact, all-facts}
use Rattle.conjure_laws.proofs.SetChannels.{none_of, channels-mean}
use Rattle.conjure_laws.proofs.SetValues.{planned, one-atom}

module _ (T : List Line) (ok : Fine none_declared T) where
  abbrev S' : List Stm
  S' = spec T

  abbrev ks : Names TypeKind
  ks = (after_all T none_declared).types

  abbrev Ps : List Plan
  Ps = plans S' no_options

  -- The plan of a find.
  abbrev pub plan_at : Text → Atom → Plan
  plan_at x A = value_plan finds_side x Occ (sets_of A) ((table_of Ps x, 1) ∷ [])

  -- The name is that of a find: one plan.
  pub one-plan : (x : Text) → In x (value_names finds_side S') → (P : Plan) × (filter (is_plan_of x) Ps ≡ P ∷ [])
  one-plan x i = go (value_names finds_side S') i (channels-mean T ok)
    where
      one : (Qs : List Plan) → ChannelsMean S' no_options (model_of T) Qs [] → (P : Plan) × (Qs ≡ P ∷ [])
      one [] h = absurd h
      one (P ∷ []) h = (P, refl)
      one (P ∷ Q ∷ Qs) h = absurd h

      go : (xs : List Text) → In x xs → Along xs (map (λ x. none_of) xs)
          (λ x css. ChannelsMean S' no_options (model_of T) (filter (is_plan_of x) Ps) css) →
          (P : Plan) × (filter (is_plan_of x) Ps ≡ P ∷ [])
      go [] i h = absurd i
      go (y ∷ ys) (inl e) h = one (filter (is_plan_of x) Ps)
          (subst (λ z. ChannelsMean S' no_options (model_of T) (filter (is_plan_of z) Ps) []) (sym e) h.0)
      go (y ∷ ys) (inr i) h = go ys i h.1

  same-tests : (x : Text) (Qs : List Plan) → Each Qs (PlanFact T ok) → filter (is_plan_for x) Qs ≡ filter (is_plan_of x) Qs
  same-tests x [] h = refl
  same-tests x (P ∷ Qs) h = ap (λ b. if b then P ∷ filter (is_plan_for x) Qs else filter (is_plan_for x) Qs) (one P h.0)
      ∙ ap (λ l. if is_plan_of x P then P ∷ l else l) (same-tests x Qs h.1)
    where
      one : (P : Plan) → PlanFact T ok P → is_plan_for x P ≡ is_plan_of x P
      one P (size_fact t n e) = subst (λ P. is_plan_for x P ≡ is_plan_of x P) (sym e) refl
      one P (occ_fact y A n e f) = subst (λ P. is_plan_for x P ≡ is_plan_of x P) (sym e) refl

  find-name : (U : List Stm) (x : Text) (d : Dom) → In (find x d) U → In x (value_names finds_side U)
  find-name [] x d i = absurd i
  find-name (s ∷ U) x d (inl e) = subst (λ s. In x (value_names finds_side (s ∷ U))) e (inl refl)
  find-name (s ∷ U) x d (inr i) = later s (find-name U x d i)
    where
      later : (s : Stm) → In x (value_names finds_side U) → In x (value_names finds_side (s ∷ U))
      later (find y c) h = inr h
      later s h = h

  -- The plans of a find are one.
  pub find-plans : (x : Text) (A : Atom) → In (find x (sets_of A)) S' → filter (is_plan_for x) Ps ≡ plan_at x A ∷ []
  find-plans x A i =
      let r = one-plan x (find-name S' x (sets_of A) i) in
      let pl = planned T ok x (sets_of A) i in
      let fi : In (find x (sets_of pl.0)) S' = subst (In (find x (sets_of pl.0))) (prepared-itself T)
      (plan-is-found S' no_options x Occ (sets_of pl.0) ((table_of Ps x, 1) ∷ []) pl.2) in
      let same : pl.0 ≡ A = one-atom T ok pl.0 A (one-domain (spec T) (finds-new T none_declared ok).1 x (sets_of pl.0) (sets_of A) fi i) in
      let j : In (plan_at x A) (r.0 ∷ []) = subst (In (plan_at x A)) r.1
      (in-filtered (is_plan_of x) (plan_at x A) Ps (subst (λ B. In (plan_at x B) Ps) same pl.2) (same_text-itself x)) in
      same-tests x Ps (all-facts T ok) ∙ r.1 ∙ ap (λ P. P ∷ []) (sym (only r.0 j))
    where
      only : (P : Plan) → In (plan_at x A) (P ∷ []) → plan_at x A ≡ P
      only P (inl e) = e
      only P (inr i) = absurd i
