-- The rules of the plans of finds that are built: of one of nested sets they say that its tables are canonical, of others there are none.
use Rattle.std.proofs.Common.{◌≡◌, refl, sym, ap, ◌∙◌, subst, ℕ, ◌≤◌, ◌^◌, true, false, List, [], ◌∷◌, inl, inr, map, Some, None, arith}
use Rattle.ess_semantics.specs.Lists.{append_all}
use Rattle.ess_semantics.specs.Values.{Text}
use Rattle.ess_semantics.specs.Trees.{Repr, Ex, truth_ex, Dom, Stm}
use Rattle.ess_semantics.specs.Kinds.{fits}
use Rattle.ess_semantics.specs.TableNames.{table_names, named_tables}
use Rattle.ess_semantics.specs.Prepared.{prepared}
use Rattle.ess_semantics.specs.Judgements.{fault}
use Rattle.ess_semantics.specs.Plans.{Options, givens_side, finds_side, Plan, value_plan, chosen_reprs, plans, plans_for}
use Rattle.ess_semantics.specs.ModelTrees.{Model}
use Rattle.ess_grammar.specs.Models.{Scope}
use Rattle.conjure_laws.specs.Members.{In}
use Rattle.conjure_laws.specs.Premises.{is_on}
use Rattle.conjure_laws.specs.SideBySide.{Along}
use Rattle.conjure_laws.proofs.Lists.{at-item, in-filter}
use Rattle.conjure_model_laws.specs.Shown.{Shows, shows_of}
use Rattle.conjure_model_laws.specs.IsBuiltFrom.{taken_names}
use Rattle.conjure_modelling.specs.ess_model_finds.Finds.{asked_of}
use Rattle.conjure_modelling.specs.ess_model_written.Answered.{IsUsed}
use Rattle.conjure_modelling.specs.ess_model_written.RulesWritten.{TreeComes, unless_true}
use Rattle.conjure_standing_laws.proofs.MemberChains.{comes-true}
use Rattle.ess_nested_laws.specs.NestedDomains.{is_nested_dom}
use Rattle.ess_mixed_models_laws.specs.MixedSpecifications.{kinds, is_nested_plan, are_mixed_statements, types_come_first, have_bounds}
use Rattle.ess_mixed_models_laws.specs.MixedModels.{mixed_decl, mixed_decls, AreStructure}
use Rattle.ess_mixed_models_laws.proofs.MixedPlans.{PlanFact, size_fact, atom_fact, set_fact, nested_fact, atom-single, set-single, all-facts, ground}
use Rattle.conjure_standing_laws.specs.NestedLaws.{NestedRulesStand}
use Rattle.conjure_standing_laws.proofs.MixedTrees.{asked-none}
use Rattle.conjure_standing_laws.proofs.NestedFacts.{nested-find, nested-declared, few-tables}
use Rattle.conjure_standing_laws.proofs.ShownNext.{next-is}

low : (n : ℕ) → n ≡ 2 → n ≤ 2 ^ 62
low n e = omega (arith, e)

module _ (stand : NestedRulesStand) (S : List Stm) (o : Options) (h : are_mixed_statements S o ≡ true) (f : fault S ≡ None)
    (ts : types_come_first [] (prepared S) ≡ true) (bs : have_bounds (plans S o) [] (prepared S) ≡ true) where
  abbrev Ps : List Plan
  Ps = plans S o

  abbrev Fs : List Plan
  Fs = plans_for finds_side S o

  abbrev sh : Shows
  sh = shows_of S o

  abbrev taken : List Text
  taken = taken_names S o

  module _ (E : Model) (g : E.givens ≡ map (mixed_decl (kinds S) Ps) (plans_for givens_side S o))
      (e : E.finds ≡ append_all (map (mixed_decls (kinds S) Ps) Fs)) (s : Scope) where
    abbrev Used : Plan → List Ex → Type 0
    Used P row = IsUsed (TreeComes s taken sh.next) unless_true (asked_of sh P) row

    -- Of a plan of nested sets.
    nested-structure : (x : Text) (r : Repr) (d : Dom) (names : List Text) → is_nested_dom d ≡ true → fits r d ≡ true →
        chosen_reprs o x d ≡ r ∷ [] →
        is_nested_plan (kinds S) (value_plan finds_side x r d (named_tables x (table_names r d) names)) ≡ true →
        In (value_plan finds_side x r d (named_tables x (table_names r d) names)) Fs → (row : List Ex) →
        Used (value_plan finds_side x r d (named_tables x (table_names r d) names)) row →
        AreStructure S o E (value_plan finds_side x r d (named_tables x (table_names r d) names)) row
    nested-structure x r d names n k c y i row u =
        let ns = named_tables x (table_names r d) names in
        let j = (in-filter (is_on finds_side) (value_plan finds_side x r d (named_tables x (table_names r d) names)) Ps i).0 in
        let w = stand S o E x r d ns f (ground S o h f) (nested-find S o h x r d names j n k)
        (nested-declared S o h E g e x r d ns i y) (low sh.next (next-is S o h)) taken
        (few-tables S o h x r d ns j c y) s u.new u.comes in
        subst (AreStructure S o E (value_plan finds_side x r d ns)) (sym u.is) (record {
          none = λ q. let z : true ≡ false = sym y ∙ q in cc;
          means = λ q. w.0;
          spelled = w.1;
        })

    -- Of another one.
    no-structure : (P : Plan) → In P Ps → PlanFact S o P → is_nested_plan (kinds S) P ≡ false → (row : List Ex) → Used P row →
        AreStructure S o E P row
    no-structure P i w k row u =
        let z : u.new ≡ truth_ex true = comes-true s taken sh.next u.new
        (subst (λ c. TreeComes s taken sh.next c (Some u.new)) (asked-none S o h f ts bs P i w k) u.comes) in
        subst (AreStructure S o E P) (sym (u.is ∙ ap unless_true z)) (record {
          none = λ q. refl;
          means = λ q. let z : false ≡ true = sym k ∙ q in cc;
          spelled = tt;
        })

    structure-is : (P : Plan) → In P Fs → PlanFact S o P → (row : List Ex) → Used P row → AreStructure S o E P row
    structure-is P i (size_fact t n q) row u =
        no-structure P (in-filter (is_on finds_side) P Ps i).0 (size_fact t n q) (ap (is_nested_plan (kinds S)) q) row u
    structure-is P i (atom_fact a) row u =
        no-structure P (in-filter (is_on finds_side) P Ps i).0 (atom_fact a)
        (ap (is_nested_plan (kinds S)) a.is ∙ atom-single S o a.f a.x a.d a.n a.scalar) row u
    structure-is P i (set_fact x A n q m a) row u =
        no-structure P (in-filter (is_on finds_side) P Ps i).0 (set_fact x A n q m a)
        (ap (is_nested_plan (kinds S)) q ∙ set-single S o x n m) row u
    structure-is P i (nested_fact x r d names q n k y c) row u =
        subst (λ P. is_nested_plan (kinds S) P ≡ true → In P Fs → Used P row → AreStructure S o E P row) (sym q)
        (λ y i u. nested-structure x r d names n k c y i row u) y i u

    along : (Qs : List Plan) → ((P : Plan) → In P Qs → In P Fs) → (rows : List (List Ex)) →
        Along (map (asked_of sh) Qs) rows (IsUsed (TreeComes s taken sh.next) unless_true) → Along Qs rows (AreStructure S o E)
    along [] q [] w = tt
    along (P ∷ Qs) q (row ∷ rows) w =
        let i = q P (inl refl) in (
          structure-is P i (at-item (PlanFact S o) Ps P (all-facts S o h) (in-filter (is_on finds_side) P Ps i).0) row w.0,
          along Qs (λ Q j. q Q (inr j)) rows w.1,
        )
    along [] q (row ∷ rows) w = absurd w
    along (P ∷ Qs) q [] w = absurd w

    -- The rules that are built of the finds' structures.
    pub structures-are : (rows : List (List Ex)) → Along (map (asked_of sh) Fs) rows (IsUsed (TreeComes s taken sh.next) unless_true) →
        Along Fs rows (AreStructure S o E)
    structures-are rows w = along Fs (λ P i. i) rows w
