-- What is built of a specification of the class is a model of it, so a right one.
use Rattle.std.proofs.Common.{◌≡◌, refl, sym, ap, ◌∙◌, subst, Bool, true, false, ◌&&◌, ◌||◌, List, [], ◌∷◌, ◌++◌, ◌⊎◌, inl, inr, Option, Some, None, map}
use Rattle.std.specs.List.{list_all}
use Rattle.ess_semantics.specs.declared.words.Op2.{Op2}
use Rattle.ess_semantics.specs.Lists.{append_all, is_some_and}
use Rattle.ess_semantics.specs.Values.{Text}
use Rattle.ess_semantics.specs.Names.{look}
use Rattle.ess_semantics.specs.Trees.{Ex, name_ex, Dom, Stm, given, given_enum, let_ex, let_dom, let_enum, let_unnamed, needs, find, such_that, minimise, maximise, ex2}
use Rattle.ess_semantics.specs.Contexts.{Each}
use Rattle.ess_semantics.specs.DeclaredTables.{TableDecl}
use Rattle.ess_semantics.specs.Prepared.{prepared}
use Rattle.ess_semantics.specs.Judgements.{fault}
use Rattle.ess_semantics.specs.Plans.{Options, givens_side, finds_side, Plan, kept_names, plans, plans_for}
use Rattle.ess_semantics.specs.ModelTrees.{Header, no_goal, Model, goal_of}
use Rattle.ess_semantics.specs.Models.{Models, IsExact, constraint_of, constraints_of}
use Rattle.ess_semantics.proofs.Tests.{and-left, and-right}
use Rattle.ess_grammar.specs.Models.{Scope}
use Rattle.conjure_laws.specs.SideBySide.{Along}
use Rattle.conjure_laws.specs.ModelsOfSets.{table_of}
use Rattle.conjure_laws.proofs.Lists.{each-append}
use Rattle.conjure_model_laws.specs.Shown.{Shows, shows_of}
use Rattle.conjure_model_laws.specs.IsBuiltFrom.{constraint_tree, taken_names}
use Rattle.ess_flat_models_laws.specs.FlatSpecifications.{is_flat_truth, has_marks}
use Rattle.ess_flat_models_laws.specs.FlatModels.{goal_rules}
use Rattle.ess_flat_models_laws.proofs.PreparedStatements.{truth-flat}
use Rattle.conjure_modelling.specs.ess_model_trees.Written.{ComesFrom, next_behind}
use Rattle.conjure_modelling.specs.ess_model_written.RulesWritten.{ConstraintComes}
use Rattle.conjure_modelling.specs.ess_models.Parts.{scope_of_tables}
use Rattle.conjure_modelling.specs.ess_models.Built.{IsBuilt}
use Rattle.conjure_standing_laws.proofs.BuiltParts.{none-come}
use Rattle.conjure_standing_laws.proofs.MemberChains.{comes-written}
use Rattle.ess_mixed_models_laws.specs.MixedSpecifications.{is_setwise_constraint, kinds, places, members_of, is_of_kind, has_printed_name, is_kept_by_members, is_membership, is_mixed_statement, are_mixed_statements, types_come_first, have_bounds, is_mixed_specification}
use Rattle.ess_mixed_models_laws.specs.MixedModels.{mixed_decl, mixed_decls, shown_value, axis_of, IsRuleOf, of_flat, of_membership, IsMixedModel}
use Rattle.ess_mixed_models_laws.proofs.NamedKinds.{no-yes}
use Rattle.ess_mixed_models_laws.proofs.MixedPlans.{either-test}
use Rattle.ess_mixed_models_laws.proofs.MixedGoals.{goal-asked}
use Rattle.ess_mixed_models_laws.proofs.MixedHave.{mixed-right}
use Rattle.ess_mixed_models_laws.proofs.SetValues.{membership-fact}
use Rattle.conjure_standing_laws.specs.NestedLaws.{NestedRulesStand}
use Rattle.conjure_standing_laws.specs.SetwiseLaws.{SetwiseRulesStand, SetwiseObjectivesStand}
use Rattle.conjure_standing_laws.specs.MixedLaws.{BuiltMixedModelsAreRight}
use Rattle.conjure_standing_laws.proofs.SetwiseBuilt.{setwise-rule}
use Rattle.conjure_standing_laws.proofs.MixedTrees.{axis-is, literal-is, tree-is, member-tree, no-channels}
use Rattle.conjure_standing_laws.proofs.NestedBuilt.{structures-are}
use Rattle.conjure_standing_laws.proofs.GoalBuilt.{written-is, goal-is}
use Rattle.conjure_standing_laws.proofs.MixedTables.{givens-written, finds-written}

none-after : (xs : List Ex) → xs ++ [] ≡ xs
none-after [] = refl
none-after (x ∷ xs) = ap (λ l. x ∷ l) (none-after xs)

-- The rules, where there are no channels.
rules-joined : (all st as' ch go gs cs : List Ex) → all ≡ st ++ ch ++ go ++ cs → st ≡ as' → ch ≡ [] → go ≡ gs → all ≡ as' ++ gs ++ cs
rules-joined all st as' ch go gs cs p q r s =
    p ∙ ap (λ l. l ++ ch ++ go ++ cs) q ∙ ap (λ l. l ++ go ++ cs) (ap (λ l. as' ++ l) r ∙ none-after as') ∙ ap (λ l. as' ++ l ++ cs) s

module _ (S : List Stm) (o : Options) (h : are_mixed_statements S o ≡ true) (f : fault S ≡ None)
    (ts : types_come_first [] (prepared S) ≡ true) (bs : have_bounds (plans S o) [] (prepared S) ≡ true) where
  abbrev Ps : List Plan
  Ps = plans S o

  abbrev sh : Shows
  sh = shows_of S o

  abbrev taken : List Text
  taken = taken_names S o

  abbrev decl : Plan → TableDecl
  decl P = mixed_decl (kinds S) Ps P

  -- ---- rules

  -- The form of a membership.
  pub member-form : (e : Ex) → is_membership S o e ≡ true → (v : Ex) × (x : Text) × (e ≡ ex2 true Op2.Member v (name_ex x))
  member-form (ex2 true Op2.Member v (name_ex x)) t = (v, x, refl)
  member-form e t = absurd (no-yes t)

  pub some-members : (x : Text) (v : Ex) → is_membership S o (ex2 true Op2.Member v (name_ex x)) ≡ true →
      (A : Dom) × (members_of (look (kept_names S) x) ≡ Some A)
  some-members x v t = go (members_of (look (kept_names S) x))
      (and-left (is_some_and (members_of (look (kept_names S) x)) (is_of_kind (places S) v))
      (has_printed_name S o && is_kept_by_members S o x) t)
    where
      go : (r : Option Dom) → is_some_and r (is_of_kind (places S) v) ≡ true → (A : Dom) × (r ≡ Some A)
      go None q = absurd (no-yes q)
      go (Some A) q = (A, refl)

  -- What comes of a membership is a rule of it.
  member-rule : (E : Model) (s : Scope) (v : Ex) (x : Text) (r : Ex) → is_membership S o (ex2 true Op2.Member v (name_ex x)) ≡ true →
      ConstraintComes s taken sh (ex2 true Op2.Member v (name_ex x)) (Some r) → IsRuleOf S o E (ex2 true Op2.Member v (name_ex x)) r
  member-rule E s v x r t w =
      let a = some-members x v t in
      let k = membership-fact S o h f no_goal [] v x a.0 t a.1 in
      of_membership t (record {
        members = a.0;
        found = a.1;
        written = comes-written (table_of Ps x) (axis_of S o a.0) (shown_value (places S) v) (axis-is S o k.0.members) (literal-is
            (places S) k.1)
            s taken (next_behind sh (ex2 true Op2.Member v (name_ex x))) r
            (subst (λ c. ComesFrom s taken (next_behind sh (ex2 true Op2.Member v (name_ex x))) c (Some r))
            (member-tree S o h f ts bs v x a.0 k.0 k.1) w);
      })

  -- What comes of a constraint of the class is a rule of it.
  module _ (setwise : SetwiseRulesStand) (E : Model)
      (gs : E.givens ≡ map (mixed_decl (kinds S) Ps) (plans_for givens_side S o))
      (fs : E.finds ≡ append_all (map (mixed_decls (kinds S) Ps) (plans_for finds_side S o))) where
    rule-of : (s : Scope) (e r : Ex) → is_flat_truth Ps e || (is_membership S o e || is_setwise_constraint Ps S e) ≡ true →
        ConstraintComes s taken sh e (Some r) → IsRuleOf S o E e r
    rule-of s e r t w = go (is_flat_truth Ps e) refl t
      where
        rest : is_flat_truth Ps e ≡ false → (is_membership S o e ≡ true) ⊎ (is_setwise_constraint Ps S e ≡ true) → IsRuleOf S o E e r
        rest n (inl t) =
            let m = member-form e t in
            subst (λ e. is_membership S o e ≡ true → ConstraintComes s taken sh e (Some r) → IsRuleOf S o E e r) (sym m.2)
            (λ t w. member-rule E s m.0 m.1 r t w) t w
        rest n (inr t) = setwise-rule S o h f ts bs E gs fs setwise s e r n t w

        go : (b : Bool) → is_flat_truth Ps e ≡ b → b || (is_membership S o e || is_setwise_constraint Ps S e) ≡ true →
            IsRuleOf S o E e r
        go true t x =
            let k = truth-flat Ps e t in
            subst (IsRuleOf S o E e)
            (sym (written-is S o h f ts bs s (next_behind sh e) (constraint_tree sh e) e r true (tree-is S o h f ts bs e k) k w)) (of_flat t)
        go false n x = rest n (either-test (is_membership S o e) (is_setwise_constraint Ps S e) x)

    abbrev AskedOf : Ex → Type 0
    AskedOf e = is_flat_truth Ps e || (is_membership S o e || is_setwise_constraint Ps S e) ≡ true

    rules-are : (s : Scope) (es rs : List Ex) → Each es AskedOf → Along es rs (λ c e. ConstraintComes s taken sh c (Some e)) →
        Along es rs (IsRuleOf S o E)
    rules-are s [] [] a w = tt
    rules-are s (e ∷ es) (r ∷ rs) a w = (rule-of s e r a.0 w.0, rules-are s es rs a.1 w.1)
    rules-are s [] (r ∷ rs) a w = absurd w
    rules-are s (e ∷ es) [] a w = absurd w

  abbrev pub Asked : Ex → Type 0
  Asked e = is_flat_truth Ps e || (is_membership S o e || is_setwise_constraint Ps S e) ≡ true

  stm-asked : (s : Stm) → is_mixed_statement S o s ≡ true → Each (constraint_of s) Asked
  stm-asked (such_that e) k = (k, tt)
  stm-asked (given x d) k = tt
  stm-asked (find x d) k = tt
  stm-asked (given_enum t) k = tt
  stm-asked (let_enum t ns) k = tt
  stm-asked (let_unnamed t e) k = tt
  stm-asked (let_ex x e) k = tt
  stm-asked (let_dom x d) k = tt
  stm-asked (needs e) k = tt
  stm-asked (minimise e) k = tt
  stm-asked (maximise e) k = tt

  pub all-asked : (T : List Stm) → list_all (is_mixed_statement S o) T ≡ true → Each (constraints_of T) Asked
  all-asked [] k = tt
  all-asked (s ∷ T) k = each-append Asked (constraint_of s) (constraints_of T)
      (stm-asked s (and-left (is_mixed_statement S o s) (list_all (is_mixed_statement S o) T) k))
      (all-asked T (and-right (is_mixed_statement S o s) (list_all (is_mixed_statement S o) T) k))

  -- What is built is a model of the specification.
  pub built-model : NestedRulesStand → SetwiseRulesStand → SetwiseObjectivesStand → (H : Header) (E : Model) → IsBuilt S o H E →
      IsMixedModel S o E
  built-model stand setwise aims H E B =
      let sc : Scope = scope_of_tables E.givens E.finds in
      let R = B.rules in
      let gs = givens-written S o h f ts bs _ _ E.givens B.declared.givens in
      let fs = finds-written S o h f ts bs _ _ E.finds B.declared.finds in
      let st = R.structures_written in
      let ch = none-come _ _ R.channels (no-channels S o h f ts bs) R.channels_written in
      let go = goal-is S o h f ts bs aims E gs fs sc (goal_of (prepared S)) (goal-asked S o (prepared S) h) E.goal R.goals R.goal_written in
      record {
        structures = st.rows;
        constraints = R.constraints;
        givens = gs;
        finds = fs;
        goal = go.0;
        rules = rules-joined E.rules R.structures (append_all st.rows) R.channels R.goals (goal_rules (goal_of (prepared S))) R.constraints
            R.all st.all ch go.1;
        structured = structures-are stand S o h f ts bs E gs fs sc st.rows st.each;
        written = rules-are setwise E gs fs sc (constraints_of (prepared S)) R.constraints (all-asked (prepared S) h)
            R.constraints_written.each;
      }

-- So it is of each specification of the class, and the model is a right one.
pub built-mixed-right : NestedRulesStand → SetwiseRulesStand → SetwiseObjectivesStand → BuiltMixedModelsAreRight
built-mixed-right stand setwise aims = record {
  models = λ S o H E f h B. (B.header, model S o H E f h B);
  right = λ S o H E f h B. subst (λ H. Models S o H E × IsExact S o E) (sym B.header) (mixed-right S o E f h (model S o H E f h B));
}
  where
    model : (S : List Stm) (o : Options) (H : Header) (E : Model) → fault S ≡ None → is_mixed_specification S o ≡ true → IsBuilt S o H E →
        IsMixedModel S o E
    model S o H E f h B =
        let a : Bool = are_mixed_statements S o in
        let t : Bool = types_come_first [] (prepared S) in
        let b : Bool = have_bounds (plans S o) [] (prepared S) in
        let c : Bool = list_all (has_marks (plans S o)) (constraints_of S) in
        let r = and-right a (t && (b && c)) h in
        built-model S o (and-left a (t && (b && c)) h) f (and-left t (b && c) r) (and-left b c (and-right t (b && c) r)) stand
        setwise aims H E B
