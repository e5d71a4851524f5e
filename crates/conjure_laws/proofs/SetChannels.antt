-- Sets without attributes that are kept by which members occur have neither structures nor channels, and there is no objective.
use Rattle.std.proofs.Common.{◌≡◌, refl, sym, ap, ◌∙◌, subst, ℕ, suc, Bool, true, false, ◌||◌, if◌then◌else◌, List, [], ◌∷◌, ◌++◌, map, filter, pos, inl, inr, Some, None, option_map, codes}
use Rattle.std.specs.List.{list_all}
use Rattle.ess_semantics.specs.Values.{Text}
use Rattle.ess_semantics.specs.Order.{same_text}
use Rattle.ess_semantics.specs.Names.{Names, is_among, without}
use Rattle.ess_semantics.specs.Trees.{Ex, number_ex, Stm, given_enum, let_enum, let_unnamed, find}
use Rattle.ess_semantics.specs.Domains.{Domain, sets}
use Rattle.ess_semantics.specs.Tables.{Tables}
use Rattle.ess_semantics.specs.Meaning.{Env, empty_env}
use Rattle.ess_semantics.specs.Assignments.{Assignment, placed_from, env_after}
use Rattle.ess_semantics.specs.Parameters.{all_declared}
use Rattle.ess_semantics.proofs.Tests.{or-yes}
use Rattle.ess_semantics.proofs.Texts.{same_text-itself}
use Rattle.conjure_laws.proofs.Lists.{each-map, all-items}
use Rattle.conjure_laws.specs.Members.{In}
use Rattle.conjure_laws.specs.SideBySide.{Along}
use Rattle.conjure_laws.specs.Premises.{is_on, tables_are}
use Rattle.conjure_laws.specs.ModelPremises.{StructureMeans, ChannelsMean, GoalMeans}
use Rattle.ess_semantics.specs.TableNames.{named_tables}
use Rattle.ess_semantics.specs.Plans.{Plan, value_plan, plans_from, plans, plans_for, value_names, is_plan_of, finds_side, givens_side}
use Rattle.ess_semantics.specs.ModelTrees.{Model}
use Rattle.ess_semantics.specs.Cells.{cells_of}
use Rattle.ess_semantics.specs.Declarations.{declarations}
use Rattle.ess_semantics.specs.Models.{objective_at}
use Rattle.ess_semantics.specs.Solutions.{objective_has_value, finds}
use Rattle.conjure_laws.specs.SetsOfAtoms.{Atom, Line, range, typed, boolean, enum, given_type, unnamed, set_find, holds_lit, sets_of, spec, TypeKind, Declared, none_declared, after, after_all}
use Rattle.conjure_laws.specs.ModelsOfSets.{no_options, first_name, model_of}
use Rattle.conjure_laws.proofs.SetScopes.{Fine, prepared-itself, known-later, other}
use Rattle.conjure_laws.proofs.SetPlans.{Occ, PlanFact, some-facts, size_fact, occ_fact, pos_at, atom-with, dom-closed}
use Rattle.conjure_laws.proofs.SetCells.{nones}
use Rattle.ess_semantics.specs.CanonicalTest.{canonical}
use Rattle.conjure_laws.proofs.Occurrence.{occurrence-structure}
use Rattle.ess_semantics.specs.Positions.{domain_with_positions}

-- No rules.
abbrev pub none : List Ex
none = []

-- No pairs of plans.
abbrev pub none_of : List (List Ex)
none_of = []

-- The name of the table of a find.
abbrev pub occ_name : Text → List Text → List Text → Text
occ_name y declared done = first_name (named_tables y ((codes "_Occurrence", 1) ∷ []) (without y declared ++ done))

-- The plans from a find on.
pub unfold-find : (y : Text) (A : Atom) (U : List Line) (declared done : List Text) →
    plans_from (spec (set_find y A ∷ U)) no_options declared done ≡ value_plan finds_side y Occ (sets_of A)
    ((occ_name y declared done, 1) ∷ []) ∷ plans_from (spec U) no_options declared (occ_name y declared done ∷ done)
unfold-find y (range a b) U declared done = refl
unfold-find y boolean U declared done = refl
unfold-find y (typed t) U declared done = refl

module _ (T : List Line) (ok : Fine none_declared T) where
  abbrev S' : List Stm
  S' = spec T

  abbrev ks : Names TypeKind
  ks = (after_all T none_declared).types

  abbrev vs : Names (Text × ℕ)
  vs = (after_all T none_declared).values

  abbrev Ps : List Plan
  Ps = plans S' no_options

  abbrev E : Model
  E = model_of T

  abbrev Gs : List Plan
  Gs = plans_for givens_side S' no_options

  abbrev Fs : List Plan
  Fs = plans_for finds_side S' no_options

  structure : (P : Plan) → PlanFact T ok P → StructureMeans S' no_options E P []
  structure P (size_fact t n e) = subst (λ P. StructureMeans S' no_options E P []) (sym e) tt
  structure P (occ_fact x A n e f) = subst (λ P. StructureMeans S' no_options E P []) (sym e) (λ p q c d ts I t h.
      go p d ts (sym (ap (option_map domain_with_positions) (dom-closed T ok p A f)) ∙ h.closed) h.are)
    where
      go : (p : Assignment) (d : Domain) (ts : Tables) → Some (sets [] (pos_at T ok p A f)) ≡ Some d →
          tables_are (declarations Occ d) ts ≡ true →
          true ≡ canonical Occ d (cells_of ts)
      go p d ts c h =
          let z : sets [] (pos_at T ok p A f) ≡ d = cc in
          subst (λ d. tables_are (declarations Occ d) ts ≡ true → true ≡ canonical Occ d (cells_of ts)) z
          (λ h. sym (occurrence-structure (pos_at T ok p A f) (atom-with T ok p A f).0 ts h)) h

  -- Structures need no rules.
  pub structures-mean : Along Fs (map (λ x. none) Fs) (StructureMeans S' no_options E)
  structures-mean = nones Fs (StructureMeans S' no_options E)
      (each-map Fs (PlanFact T ok) (λ P. StructureMeans S' no_options E P []) structure (some-facts T ok (is_on finds_side)))

  -- The plans of one find: one.
  one-plan : (U : List Line) (c : Declared) (declared done : List Text) → Fine c U → (x : Text) →
      (is_among c.names x ≡ true → filter (is_plan_of x) (plans_from (spec U) no_options declared done) ≡ []) ×
      (In x (finds (spec U)) → (P : Plan) × (filter (is_plan_of x) (plans_from (spec U) no_options declared done) ≡ P ∷ []))
  one-plan [] c declared done f x = (λ i. refl, λ i. absurd i)
  one-plan (enum t ns ∷ U) c declared done f x = let r = one-plan U (after (enum t ns) c) declared done f.1 x in
      (λ i. r.0 (known-later (enum t ns) c x i), r.1)
  one-plan (unnamed t n ∷ U) c declared done f x = let r = one-plan U (after (unnamed t n) c) declared done f.1 x in
      (λ i. r.0 (known-later (unnamed t n) c x i), r.1)
  one-plan (holds_lit l y ∷ U) c declared done f x = one-plan U c declared done f.1 x
  one-plan (given_type t ∷ U) c declared done f x = let r = one-plan U (after (given_type t) c) declared _ f.1 x in
      (λ i. r.0 (known-later (given_type t) c x i), r.1)
  one-plan (set_find y A ∷ U) c declared done f x =
      subst (λ l. (is_among c.names x ≡ true → filter (is_plan_of x) l ≡ []) ×
      (In x (y ∷ finds (spec U)) → (P : Plan) × (filter (is_plan_of x) l ≡ P ∷ []))) (sym (unfold-find y A U declared done))
      (go (same_text y x) refl (one-plan U (after (set_find y A) c) declared (occ_name y declared done ∷ done) f.2 x))
    where
      first : Plan
      first = value_plan finds_side y Occ (sets_of A) ((occ_name y declared done, 1) ∷ [])

      rest : List Plan
      rest = plans_from (spec U) no_options declared (occ_name y declared done ∷ done)

      go : (t : Bool) → same_text y x ≡ t → (is_among (y ∷ c.names) x ≡ true → filter (is_plan_of x) rest ≡ []) ×
          (In x (finds (spec U)) → (P : Plan) × (filter (is_plan_of x) rest ≡ P ∷ [])) →
          (is_among c.names x ≡ true → filter (is_plan_of x) (first ∷ rest) ≡ []) ×
          (In x (y ∷ finds (spec U)) → (P : Plan) × (filter (is_plan_of x) (first ∷ rest) ≡ P ∷ []))
      go true q h = (
        λ i. let z : false ≡ true = sym (other c.names y x f.0.0.0 i) ∙ q in cc,
        λ i. (
          first,
          ap (λ b. if b then first ∷ filter (is_plan_of x) rest else filter (is_plan_of x) rest) q
              ∙ ap (λ l. first ∷ l) (h.0 (ap (λ b. b || is_among c.names x) q)),
        ),
      )
      go false q h = (
        λ i. ap (λ b. if b then first ∷ filter (is_plan_of x) rest else filter (is_plan_of x) rest) q
            ∙ h.0 (ap (λ b. same_text y x || b) i ∙ or-yes (same_text y x)),
        λ i. later i,
      )
        where
          later : In x (y ∷ finds (spec U)) → (P : Plan) × (filter (is_plan_of x) (first ∷ rest) ≡ P ∷ [])
          later (inl e) = let z : false ≡ true = sym q ∙ ap (λ z. same_text z x) (sym e) ∙ same_text-itself x in cc
          later (inr i) = let r = h.1 i in (
            r.0,
            ap (λ b. if b then first ∷ filter (is_plan_of x) rest else filter (is_plan_of x) rest) q
                ∙ r.1,
          )

  -- Nor do channels, of which there are none.
  pub channels-mean : Along (value_names finds_side S') (map (λ x. none_of) (value_names finds_side S'))
      (λ x css. ChannelsMean S' no_options E (filter (is_plan_of x) Ps) css)
  channels-mean = nones (value_names finds_side S') (λ x css. ChannelsMean S' no_options E (filter (is_plan_of x) Ps) css)
      (all-items (λ x. ChannelsMean S' no_options E (filter (is_plan_of x) Ps) []) (value_names finds_side S')
      (λ x i. go x (group x i)))
    where
      group : (x : Text) → In x (finds S') → (P : Plan) × (filter (is_plan_of x) Ps ≡ P ∷ [])
      group x i = subst (λ l. (P : Plan) × (filter (is_plan_of x) (plans_from l no_options (all_declared S')
          (codes "alldifferent_except" ∷ [])) ≡ P ∷ [])) (sym (prepared-itself T))
          ((one-plan T none_declared (all_declared S') _ ok x).1 i)

      go : (x : Text) → ((P : Plan) × (filter (is_plan_of x) Ps ≡ P ∷ [])) →
          ChannelsMean S' no_options E (filter (is_plan_of x) Ps) []
      go x h = subst (λ l. ChannelsMean S' no_options E l []) (sym h.1) tt

  -- ---- no objective

  no-objective : (U : List Line) (k : ℕ) (p a : Assignment) (env : Env) →
      (list_all (λ l. objective_has_value l.stm l.env) (placed_from k (spec U) p a env) ≡ true) ×
      (objective_at (placed_from k (spec U) p a env) ≡ None)
  no-objective [] k p a env = (refl, refl)
  no-objective (enum t ns ∷ U) k p a env = no-objective U (suc k) p a (env_after (let_enum t ns) p a env)
  no-objective (given_type t ∷ U) k p a env = no-objective U (suc k) p a (env_after (given_enum t) p a env)
  no-objective (unnamed t n ∷ U) k p a env = no-objective U (suc k) p a (env_after (let_unnamed t (number_ex (pos n))) p a env)
  no-objective (set_find x A ∷ U) k p a env = no-objective U (suc k) p a (env_after (find x (sets_of A)) p a env)
  no-objective (holds_lit l x ∷ U) k p a env = no-objective U (suc k) p a env

  -- Nor does the objective.
  pub goals : GoalMeans S' no_options E none
  goals = record {
    has_value = λ p a q c I C. sym (subst (λ l. list_all (λ l. objective_has_value l.stm l.env)
        (placed_from 1 l p a empty_env) ≡ true)
        (sym (prepared-itself T)) (no-objective T 1 p a empty_env).0);
    value = λ p a q c I C h. sym (subst (λ l. objective_at (placed_from 1 l p a empty_env) ≡ None) (sym (prepared-itself T))
        (no-objective T 1 p a empty_env).1);
  }
