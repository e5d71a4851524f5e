-- What is written for a membership spells constants of the specification alone.
use Rattle.std.proofs.Common.{◌≡◌, refl, subst, ℕ, Bool, true, false, ◌&&◌, List, [], ◌∷◌, ℤ, codes, Some}
use Rattle.std.specs.List.{list_any}
use Rattle.ess_semantics.specs.Values.{Text}
use Rattle.ess_semantics.specs.Order.{same_int}
use Rattle.ess_semantics.specs.Names.{Names}
use Rattle.ess_semantics.specs.Trees.{Ex, bool_dom, Stm}
use Rattle.ess_semantics.specs.Occurrences.{parts_of}
use Rattle.ess_semantics.specs.Constants.{constants_of, parts_of_decl}
use Rattle.ess_semantics.specs.Plans.{Plan, plans}
use Rattle.ess_semantics.proofs.Tests.{and-left, and-both}
use Rattle.conjure_laws.specs.ModelPremises.{spelled}
use Rattle.conjure_laws.specs.SetsOfAtoms.{Atom, range, boolean, typed, Lit, num, truth_lit, value_name, Line, spec, TypeKind, fixed, sized, none_declared, after_all}
use Rattle.conjure_laws.specs.ModelsOfSets.{no_options, axis_for, number_of, rule_of}
use Rattle.conjure_laws.proofs.SetScopes.{Fine}
use Rattle.conjure_laws.proofs.SetFacts.{AtomFact, LitFact}
use Rattle.ess_member_rules_laws.specs.WrittenForms.{Written, by_number, by_condition, by_conjunction}
use Rattle.ess_member_models_laws.specs.MemberModels.{shown_literal, axis_at}

module _ (T : List Line) (ok : Fine none_declared T) where
  abbrev S' : List Stm
  S' = spec T

  abbrev ks : Names TypeKind
  ks = (after_all T none_declared).types

  abbrev vs : Names (Text × ℕ)
  vs = (after_all T none_declared).values

  abbrev Ps : List Plan
  Ps = plans S' no_options

  -- Whether the number is a constant of the specification.
  abbrev isc : ℤ → Bool
  isc n = list_any (same_int n) (constants_of S')

  behind : (k : ℤ) (b : Bool) → isc k && true ≡ true → b ≡ true → isc k && b ≡ true
  behind k b s d = and-both (isc k) b (and-left (isc k) true s) d

  -- A value of a type.
  by-type : (n t a : Text) (k : TypeKind) (r : Ex) → spelled S' (parts_of_decl
      (record { name = n; axes = axis_for Ps t (Some k) ∷ []; cell = bool_dom })) ≡ true →
      isc (number_of vs (value_name a)) && true ≡ true →
      Written n (axis_for Ps t (Some k)) (shown_literal vs (value_name a)) (codes "q1") r → spelled S' (parts_of r) ≡ true
  by-type n t a (fixed m) r d s by_number = s
  by-type n t a (fixed m) r d s by_condition = behind (number_of vs (value_name a)) _ s d
  by-type n t a (fixed m) r d s by_conjunction = behind (number_of vs (value_name a)) _ s d
  by-type n t a sized r d s by_number = s
  by-type n t a sized r d s by_condition = behind (number_of vs (value_name a)) _ s d
  by-type n t a sized r d s by_conjunction = behind (number_of vs (value_name a)) _ s d

  -- What is written spells the numbers of the domain and of the literal.
  pub rule-spelled : (n x : Text) (A : Atom) → AtomFact T ok A → (l : Lit) → LitFact T ok l A → (r : Ex) → spelled S' (parts_of_decl
      (record { name = n; axes = axis_at T A ∷ []; cell = bool_dom })) ≡ true →
      spelled S' (parts_of (rule_of vs Ps l x)) ≡ true → Written n (axis_at T A) (shown_literal vs l) (codes "q1") r →
      spelled S' (parts_of r) ≡ true
  rule-spelled n x (range a b) f (num k) g r d s by_number = s
  rule-spelled n x (range a b) f (num k) g r d s by_condition = behind k _ s d
  rule-spelled n x (range a b) f (num k) g r d s by_conjunction = behind k _ s d
  rule-spelled n x boolean f (truth_lit true) g r d s by_number = s
  rule-spelled n x boolean f (truth_lit false) g r d s by_number = s
  rule-spelled n x boolean f (truth_lit b) g r d s by_condition = refl
  rule-spelled n x boolean f (truth_lit b) g r d s by_conjunction = refl
  rule-spelled n x (typed t) f (value_name a) g r d s w =
      by-type n t a f.0 r (subst (λ o. spelled S' (parts_of_decl (record {
        name = n;
        axes = axis_for Ps t o ∷ [];
        cell =
            bool_dom;
      })) ≡ true)
      f.1 d) s (subst (λ o. Written n (axis_for Ps t o) (shown_literal vs (value_name a)) (codes "q1") r) f.1 w)
  rule-spelled n x boolean f (num k) g r d s w = absurd g
  rule-spelled n x (typed t) f (num k) g r d s w = absurd g
  rule-spelled n x (range a b) f (truth_lit c) g r d s w = absurd g
  rule-spelled n x (typed t) f (truth_lit c) g r d s w = absurd g
  rule-spelled n x (range a b) f (value_name c) g r d s w = absurd g
  rule-spelled n x boolean f (value_name c) g r d s w = absurd g
