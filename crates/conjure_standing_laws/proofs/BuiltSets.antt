-- What is built of a specification of sets of atoms is a model of it, so a right one.
use Rattle.std.proofs.Common.{◌≡◌, refl, sym, ap, ◌∙◌, subst, ℕ, Bool, true, false, List, [], ◌∷◌, ◌++◌, map, filter, pos, inl, inr, Option, Some, None}
use Rattle.ess_semantics.specs.Lists.{append_all}
use Rattle.ess_semantics.specs.Values.{Text}
use Rattle.ess_semantics.specs.Names.{Names}
use Rattle.ess_semantics.specs.Trees.{low_end, both_ends, Ex, Exs, number_ex, truth_ex, no_exs, more_exs, Dom, bool_dom, int_dom, Stm, such_that}
use Rattle.ess_semantics.specs.Contexts.{Each}
use Rattle.ess_semantics.specs.DeclaredTables.{TableDecl}
use Rattle.ess_semantics.specs.Judgements.{is_well_typed}
use Rattle.ess_semantics.specs.Plans.{Plan, size_plan, value_plan, plans, plans_for, givens_side, finds_side, value_names, is_plan_of}
use Rattle.ess_semantics.specs.ModelTrees.{Header, Goal, no_goal, least, greatest, Model, goal_of, header_of}
use Rattle.ess_semantics.specs.Models.{Models, IsExact, constraints_of}
use Rattle.ess_grammar.specs.Models.{Scope}
use Rattle.ess_repr_declare_laws.specs.DeclaredTrees.{axis_dom}
use Rattle.conjure_laws.specs.Members.{In}
use Rattle.conjure_laws.specs.SideBySide.{Along}
use Rattle.conjure_laws.specs.Premises.{is_on}
use Rattle.conjure_laws.specs.SetsOfAtoms.{Atom, Lit, Line, enum, given_type, unnamed, set_find, holds_lit, sets_of, membership, spec, TypeKind, none_declared, after_all}
use Rattle.conjure_laws.specs.ModelsOfSets.{no_options, table_of, decl_of, model_of}
use Rattle.conjure_laws.proofs.Lists.{at-item, all-items, in-filter}
use Rattle.conjure_laws.proofs.SetScopes.{Fine, prepared-itself}
use Rattle.conjure_laws.proofs.SetPlans.{PlanFact, size_fact, occ_fact, all-facts, some-facts}
use Rattle.conjure_laws.proofs.SetFacts.{AtomFact}
use Rattle.conjure_laws.proofs.SetDeclarations.{unfound}
use Rattle.conjure_laws.proofs.WellTypedSets.{well-typed-fine}
use Rattle.conjure_model_laws.specs.Shown.{Shows, shows_of}
use Rattle.conjure_model_laws.specs.IsBuiltFrom.{structure_tree, channel_trees, declared_of, taken_names}
use Rattle.conjure_model_laws.specs.Printed.{printed_name}
use Rattle.conjure_modelling.specs.ess_model_trees.Written.{ComesFrom, next_behind}
use Rattle.conjure_modelling.specs.ess_model_written.Answered.{AllCome, AllUsed, IsUsed}
use Rattle.conjure_modelling.specs.ess_model_written.RulesWritten.{TreeComes, ConstraintComes, GoalComes, unless_true}
use Rattle.conjure_modelling.specs.ess_model_finds.Finds.{asked_of}
use Rattle.conjure_modelling.specs.ess_model_written.DeclarationsWritten.{BoundComes, DomIsWritten, DeclIsWritten}
use Rattle.conjure_modelling.specs.ess_model_written.Coming.{DeclsAreWritten, none_written, one_written}
use Rattle.conjure_modelling.specs.ess_models.Parts.{scope_of_tables}
use Rattle.conjure_modelling.specs.ess_models.Built.{IsBuilt}
use Rattle.ess_member_trees_laws.specs.Memberships.{Bound, at_number, at_cell, Axis, truths, numbers}
use Rattle.ess_member_rules_laws.specs.WrittenForms.{Written}
use Rattle.ess_member_models_laws.specs.MemberModels.{shown_literal, axis_at, table_decl, IsRuleOf, AreRulesOf, IsMemberModel}
use Rattle.ess_member_models_laws.proofs.MemberTables.{axis-is}
use Rattle.ess_member_models_laws.proofs.MemberModels.{member-models}
use Rattle.ess_member_shows_laws.proofs.ShownTables.{memberships-shown}
use Rattle.conjure_standing_laws.proofs.MemberChains.{comes-written, comes-bound, comes-true}

-- ---- declarations

told-bound : (s : Scope) (taken : List Text) (k : ℕ) (e f : Ex) → Bound e → BoundComes s taken k e (Some f) → f ≡ e
told-bound s taken k e f at_number w = comes-bound s taken k e f at_number w
told-bound s taken k e f at_cell w = comes-bound s taken k e f at_cell w

-- A range is written as it is.
range-written : (s : Scope) (taken : List Text) (k : ℕ) (a b : Ex) (e : Dom) → Bound a → Bound b →
    DomIsWritten s taken k (int_dom (both_ends ∷ []) (more_exs a (more_exs b no_exs))) e →
    e ≡ int_dom (both_ends ∷ []) (more_exs a (more_exs b no_exs))
range-written s taken k a b (int_dom ss (more_exs f (more_exs g no_exs))) p q w =
    ap (λ z. int_dom z (more_exs f (more_exs g no_exs))) (sym w.0)
    ∙ ap (λ z. int_dom (both_ends ∷ []) (more_exs z (more_exs g no_exs))) (told-bound s taken k a f p w.1.0)
    ∙ ap (λ z. int_dom (both_ends ∷ []) (more_exs a (more_exs z no_exs))) (told-bound s taken k b g q w.1.1.0)
range-written s taken k a b (int_dom ss no_exs) p q w = absurd w.1
range-written s taken k a b (int_dom ss (more_exs f no_exs)) p q w = absurd w.1.1
range-written s taken k a b (int_dom ss (more_exs f (more_exs g (more_exs h hs)))) p q w = absurd w.1.1.1
range-written s taken k a b e p q w = absurd w

-- So is the domain of an axis.
axis-written : (s : Scope) (taken : List Text) (k : ℕ) (D e : Dom) → Axis D → DomIsWritten s taken k (axis_dom D) e → e ≡ axis_dom D
axis-written s taken k D e truths w = range-written s taken k (number_ex (pos 0)) (number_ex (pos 1)) e at_number at_number w
axis-written s taken k D e (numbers {a = a} {b = b} p q) w = range-written s taken k a b e p q w

no-axes : (s : Scope) (taken : List Text) (k : ℕ) (as' : List Dom) → Along [] as' (DomIsWritten s taken k) → as' ≡ []
no-axes s taken k [] w = refl
no-axes s taken k (a ∷ as') w = absurd w

one-axis : (s : Scope) (taken : List Text) (k : ℕ) (D : Dom) (as' : List Dom) → Axis D →
    Along (axis_dom D ∷ []) as' (DomIsWritten s taken k) → as' ≡ axis_dom D ∷ []
one-axis s taken k D [] x w = absurd w
one-axis s taken k D (a ∷ []) x w = ap (λ z. z ∷ []) (axis-written s taken k D a x w.0)
one-axis s taken k D (a ∷ b ∷ as') x w = absurd w.1

truths-written : (s : Scope) (taken : List Text) (k : ℕ) (e : Dom) → DomIsWritten s taken k bool_dom e → e ≡ bool_dom
truths-written s taken k bool_dom w = refl
truths-written s taken k e w = absurd w

size-written : (s : Scope) (taken : List Text) (k : ℕ) (e : Dom) →
    DomIsWritten s taken k (int_dom (low_end ∷ []) (more_exs (number_ex (pos 1)) no_exs)) e →
    e ≡ int_dom (low_end ∷ []) (more_exs (number_ex (pos 1)) no_exs)
size-written s taken k (int_dom ss (more_exs f no_exs)) w =
    ap (λ z. int_dom z (more_exs f no_exs)) (sym w.0)
    ∙ ap (λ z. int_dom (low_end ∷ []) (more_exs z no_exs)) (told-bound s taken k (number_ex (pos 1)) f at_number w.1.0)
size-written s taken k (int_dom ss no_exs) w = absurd w.1
size-written s taken k (int_dom ss (more_exs f (more_exs g gs))) w = absurd w.1.1
size-written s taken k e w = absurd w

module _ (T : List Line) (t : is_well_typed (spec T) ≡ true) where
  ok : Fine none_declared T
  ok = well-typed-fine T t

  abbrev S' : List Stm
  S' = spec T

  abbrev ks : Names TypeKind
  ks = (after_all T none_declared).types

  abbrev Ps : List Plan
  Ps = plans S' no_options

  abbrev sh : Shows
  sh = shows_of S' no_options

  abbrev taken : List Text
  taken = taken_names S' no_options

  abbrev Gs : List Plan
  Gs = plans_for givens_side S' no_options

  abbrev Fs : List Plan
  Fs = plans_for finds_side S' no_options

  -- A declared table is written as it is.
  table-written : (s : Scope) (P : Plan) → PlanFact T ok P → (u : TableDecl) → DeclIsWritten s taken sh.next (table_decl T P) u →
      u ≡ table_decl T P
  table-written s P (size_fact y n e) u w = subst (λ P. DeclIsWritten s taken sh.next (table_decl T P) u → u ≡ table_decl T P) (sym e)
      (λ w. ap (λ z. record { name = z; axes = u.axes; cell = u.cell }) (sym w.0)
      ∙ ap (λ z. record { name = n; axes = z; cell = u.cell }) (no-axes s taken sh.next u.axes w.1)
      ∙ ap (λ z. record { name = n; axes = []; cell = z }) (size-written s taken sh.next u.cell w.2)) w
  table-written s P (occ_fact x A n e f) u w = subst (λ P. DeclIsWritten s taken sh.next (table_decl T P) u → u ≡ table_decl T P) (sym e)
      (λ w. ap (λ z. record { name = z; axes = u.axes; cell = u.cell }) (sym w.0)
      ∙ ap (λ z. record { name = n; axes = z; cell = u.cell }) (one-axis s taken sh.next (axis_at T A) u.axes (axis-is T ok A f) w.1)
      ∙ ap (λ z. record { name = n; axes = axis_dom (axis_at T A) ∷ []; cell = z }) (truths-written s taken sh.next u.cell w.2)) w

  module _ (add : Scope → TableDecl → Scope) where
    one-by-one : (s : Scope) (D : TableDecl) (ts : List TableDecl) (Qs : List Plan) (gs : List TableDecl) →
        ((u : TableDecl) → DeclIsWritten s taken sh.next D u → u ≡ D) →
        ((s : Scope) (gs : List TableDecl) → DeclsAreWritten add taken sh.next s ts gs → gs ≡ map (table_decl T) Qs) →
        DeclsAreWritten add taken sh.next s (D ∷ ts) gs → gs ≡ D ∷ map (table_decl T) Qs
    one-by-one s D ts Qs gs f g (one_written {u = u} {us = us} w v) = ap (λ z. z ∷ us) (f u w) ∙ ap (λ l. D ∷ l) (g (add s u) us v)

    none-by-none : (s : Scope) (gs : List TableDecl) → DeclsAreWritten add taken sh.next s [] gs → gs ≡ []
    none-by-none s gs none_written = refl

    decls-written : (Qs : List Plan) → Each Qs (PlanFact T ok) → Each Qs (λ P. declared_of sh P ≡ table_decl T P ∷ []) → (s : Scope)
        (gs : List TableDecl) → DeclsAreWritten add taken sh.next s (append_all (map (declared_of sh) Qs)) gs → gs ≡ map (table_decl T) Qs
    decls-written [] h d s gs w = none-by-none s gs w
    decls-written (P ∷ Qs) h d s gs w =
        one-by-one s (table_decl T P) (append_all (map (declared_of sh) Qs)) Qs gs (table-written s P h.0) (decls-written Qs h.1 d.1)
        (subst (λ l. DeclsAreWritten add taken sh.next s (l ++ append_all (map (declared_of sh) Qs)) gs) d.0 w)

  given-tables : (Qs : List Plan) → Each Qs (PlanFact T ok) → Each Qs (λ P. is_on finds_side P ≡ false) →
      map (table_decl T) Qs ≡ map (decl_of ks Ps) Qs
  given-tables [] h o = refl
  given-tables (P ∷ Qs) h o = ap (λ l. table_decl T P ∷ l) (given-tables Qs h.1 o.1) ∙ ap (λ d. d ∷ map (decl_of ks Ps) Qs) (one P h.0 o.0)
    where
      one : (P : Plan) → PlanFact T ok P → is_on finds_side P ≡ false → table_decl T P ≡ decl_of ks Ps P
      one P (size_fact y n e) o = subst (λ P. table_decl T P ≡ decl_of ks Ps P) (sym e) refl
      one P (occ_fact x A n e f) o = let z : true ≡ false = ap (is_on finds_side) (sym e) ∙ o in cc

  some-of : (Q : Plan → Type 0) (g : Plan → Bool) → Each Ps Q → Each (filter g Ps) Q
  some-of Q g h = all-items Q (filter g Ps) (λ P i. at-item Q Ps P h (in-filter g P Ps i).0)

  -- ---- rules

  module _ (s : Scope) where
    none-used : (c : Ex) (row : List Ex) → c ≡ truth_ex true → IsUsed (TreeComes s taken sh.next) unless_true c row → row ≡ []
    none-used c row e w =
        let z : w.new ≡ truth_ex true = comes-true s taken sh.next w.new (subst (λ c. TreeComes s taken sh.next c
        (Some w.new)) e w.comes) in
        w.is ∙ ap unless_true z

    rows-none : (cs : List Ex) → Each cs (λ c. c ≡ truth_ex true) → (rows : List (List Ex)) →
        Along cs rows (IsUsed (TreeComes s taken sh.next) unless_true) → append_all rows ≡ []
    rows-none [] h [] w = refl
    rows-none (c ∷ cs) h (r ∷ rows) w = ap (λ l. l ++ append_all rows) (none-used c r h.0 w.0) ∙ rows-none cs h.1 rows w.1
    rows-none [] h (r ∷ rows) w = absurd w
    rows-none (c ∷ cs) h [] w = absurd w

    none-come : (cs es : List Ex) → cs ≡ [] → AllCome (TreeComes s taken sh.next) cs es → es ≡ []
    none-come cs es e w = go es (subst (λ l. Along l es (λ c e. TreeComes s taken sh.next c (Some e))) e w.each)
      where
        go : (es : List Ex) → Along [] es (λ c e. TreeComes s taken sh.next c (Some e)) → es ≡ []
        go [] w = refl
        go (x ∷ es) w = absurd w

    no-goal-comes : (g : Goal) (rs : List Ex) → GoalComes s taken sh no_goal g rs → (g ≡ no_goal) × (rs ≡ [])
    no-goal-comes no_goal rs w = (refl, w)
    no-goal-comes (least e) rs w = absurd w
    no-goal-comes (greatest e) rs w = absurd w

    -- The rules of constraints.
    rules-are : (U : List Line) → ((l : Lit) (x : Text) → In (such_that (membership l x)) (spec U) → In (such_that (membership l x)) S') →
        (rs : List Ex) → Along (constraints_of (spec U)) rs (λ c e. ConstraintComes s taken sh c (Some e)) → AreRulesOf T U rs
    rules-are [] i [] w = tt
    rules-are [] i (r ∷ rs) w = absurd w
    rules-are (enum y ns ∷ U) i rs w = rules-are U (λ l x j. i l x (inr j)) rs w
    rules-are (given_type y ∷ U) i rs w = rules-are U (λ l x j. i l x (inr j)) rs w
    rules-are (unnamed y n ∷ U) i rs w = rules-are U (λ l x j. i l x (inr j)) rs w
    rules-are (set_find x A ∷ U) i rs w = rules-are U (λ l x j. i l x (inr j)) rs w
    rules-are (holds_lit l x ∷ U) i [] w = absurd w
    rules-are (holds_lit l x ∷ U) i (r ∷ rs) w =
        let h = memberships-shown.trees T t l x (i l x (inl refl)) in (
          record {
            atom = h.atom;
            found = h.found;
            written = subst (λ y. Written (table_of Ps x) (axis_at T h.atom) (shown_literal (after_all T none_declared).values l) y r)
                (memberships-shown.first_name T t)
                (comes-written (table_of Ps x) (axis_at T h.atom) (shown_literal
                (after_all T none_declared).values l) h.axis h.literal s taken
                (next_behind sh (membership l x)) r
                (subst (λ c. ComesFrom s taken (next_behind sh (membership l x)) c (Some r)) h.tree w.0));
          },
          rules-are U (λ l x j. i l x (inr j)) rs w.1,
        )

  nothing-asked : (Qs : List Plan) → Each Qs (PlanFact T ok) → Each Qs (λ P. structure_tree sh P ≡ truth_ex true) →
      Each (map (asked_of sh) Qs) (λ c. c ≡ truth_ex true)
  nothing-asked [] h w = tt
  nothing-asked (P ∷ Qs) h w = (one P h.0 w.0, nothing-asked Qs h.1 w.1)
    where
      one : (P : Plan) → PlanFact T ok P → structure_tree sh P ≡ truth_ex true → asked_of sh P ≡ truth_ex true
      one P (size_fact y n e) w = subst (λ P. asked_of sh P ≡ truth_ex true) (sym e) refl
      one P (occ_fact x A n e f) w = subst (λ P. structure_tree sh P ≡ truth_ex true → asked_of sh P ≡ truth_ex true) (sym e) (λ w. w) w

  no-channels : (xs : List Text) → ((x : Text) → In x xs → In x (value_names finds_side S')) →
      append_all (map (λ x. channel_trees sh (filter (is_plan_of x) Ps)) xs) ≡ []
  no-channels [] g = refl
  no-channels (x ∷ xs) g =
      ap (λ l. l ++ append_all (map (λ x. channel_trees sh (filter (is_plan_of x) Ps)) xs)) (memberships-shown.channels T t x (g x
      (inl refl)))
      ∙ no-channels xs (λ y i. g y (inr i))

  no-goal-here : (U : List Line) → goal_of (spec U) ≡ no_goal
  no-goal-here [] = refl
  no-goal-here (enum y ns ∷ U) = no-goal-here U
  no-goal-here (given_type y ∷ U) = no-goal-here U
  no-goal-here (unnamed y n ∷ U) = no-goal-here U
  no-goal-here (set_find x A ∷ U) = no-goal-here U
  no-goal-here (holds_lit l x ∷ U) = no-goal-here U

  -- What is built is a model of the specification.
  pub built-model : (H : Header) (E : Model) → IsBuilt S' no_options H E → IsMemberModel T E
  built-model H E B =
      let sc : Scope = scope_of_tables E.givens E.finds in
      let R = B.rules in
      let gs = decls-written _ Gs (some-facts T ok (is_on givens_side))
      (some-of (λ P. declared_of sh P ≡ table_decl T P ∷ []) (is_on givens_side) (memberships-shown.declared T t)) _ E.givens
      B.declared.givens in
      let fs = decls-written _ Fs (some-facts T ok (is_on finds_side))
      (some-of (λ P. declared_of sh P ≡ table_decl T P ∷ []) (is_on finds_side) (memberships-shown.declared T t)) _ E.finds
      B.declared.finds in
      let st = R.structures_written.all ∙ rows-none sc _ (nothing-asked Fs (some-facts T ok (is_on finds_side))
      (some-of (λ P. structure_tree sh P ≡ truth_ex true) (is_on finds_side) (memberships-shown.structures T t)))
      R.structures_written.rows R.structures_written.each in
      let ch = none-come sc _ R.channels (no-channels (value_names finds_side S') (λ x i. i)) R.channels_written in
      let go = no-goal-comes sc E.goal R.goals
      (subst (λ g. GoalComes sc taken sh g E.goal R.goals) (ap goal_of (prepared-itself T) ∙ no-goal-here T) R.goal_written) in
      let rs : AreRulesOf T T R.constraints = rules-are sc T (λ l x i. i) R.constraints
      (subst (λ l. Along (constraints_of l) R.constraints (λ c e. ConstraintComes sc taken sh c (Some e))) (prepared-itself T)
      R.constraints_written.each) in
      record {
        givens = gs ∙ given-tables Gs (some-facts T ok (is_on givens_side)) (unfound T ok);
        finds = fs;
        goal = go.0;
        rules = subst (AreRulesOf T T) (sym (R.all
            ∙ ap (λ l. l ++ R.channels ++ R.goals ++ R.constraints) st ∙ ap (λ l. l ++ R.goals ++ R.constraints) ch
            ∙ ap (λ l. l ++ R.constraints) go.1)) rs;
      }

  right : (H : Header) (E : Model) → IsBuilt S' no_options H E → Models S' no_options H E × IsExact S' no_options E
  right H E B = subst (λ H. Models S' no_options H E × IsExact S' no_options E) (sym B.header) (member-models T E t (built-model H E B))

-- So each model that is built is a right one.
pub built-sets-right : (T : List Line) (H : Header) (E : Model) → is_well_typed (spec T) ≡ true → IsBuilt (spec T) no_options H E →
    Models (spec T) no_options H E × IsExact (spec T) no_options E
built-sets-right T H E t B = right T t H E B
