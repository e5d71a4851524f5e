-- The main theorem from what the layers deliver: a model stands for its specification, and each solution has exactly one
-- satisfying assignment.
use Rattle.std.proofs.Common.{◌≡◌, refl, sym, ap, ◌∙◌, ℕ, zero, suc, ◌-◌, Bool, true, ◌&&◌, List, [], ◌∷◌, ◌++◌, map, drop, length, ℤ, Some, append_assoc}
use Rattle.std.specs.List.{list_all, list_any}
use Rattle.ess_semantics.specs.Lists.{append_all, item_number}
use Rattle.ess_semantics.specs.Order.{same_int}
use Rattle.ess_semantics.specs.Names.{Names, keys}
use Rattle.ess_semantics.specs.Trees.{Ex, Stm}
use Rattle.ess_semantics.specs.Tables.{Table}
use Rattle.ess_semantics.specs.Meaning.{meaning, is_true}
use Rattle.ess_semantics.specs.Prepared.{prepared}
use Rattle.ess_semantics.specs.Assignments.{Assignment, placed, env_of}
use Rattle.ess_semantics.specs.Solutions.{Sol, constraint_holds}
use Rattle.ess_semantics.specs.Plans.{Options, plans, canonical_tables, finds_side, value_names}
use Rattle.ess_semantics.specs.ModelTrees.{Header, Model, all_decls}
use Rattle.ess_semantics.specs.Satisfaction.{rule_holds, Sat}
use Rattle.ess_semantics.specs.Occurrences.{parts_of}
use Rattle.ess_semantics.specs.Constants.{numbers_of_part, constants_of, parts_of_decl, parts_of_goal}
use Rattle.ess_semantics.specs.Models.{constraints_of, last_rules, constraint_truths, rule_truths, objective_at, is_flat, with_cells, Represents, Models, IsExact}
use Rattle.ess_semantics.proofs.Tests.{and-left, and-right, and-both}
use Rattle.ess_semantics.specs.Contexts.{Each}
use Rattle.conjure_laws.specs.SideBySide.{Along}
use Rattle.conjure_laws.proofs.Lists.{along-map, length-along, test-append, last-items}
use Rattle.conjure_laws.specs.Premises.{Instance}
use Rattle.conjure_laws.specs.ModelPremises.{Canonical, RuleMeans, Rules, Layers, spelled, Texts}
use Rattle.conjure_laws.proofs.Statements.{constraints-prepared}
use Rattle.conjure_laws.proofs.PlacedStatements.{constraints-hold, truths-placed}
use Rattle.conjure_laws.proofs.Matching.{Matched, matched-canonical, members-match}
use Rattle.conjure_laws.proofs.MatchedTables.{matched-fit, matched-structures, matched-stands, matched-channels}
use Rattle.conjure_laws.proofs.StoodTables.{stood, stood-matched, stood-members, stood-once, stood-keys}

-- ---- small

tests-same : {A B : Type 0} (f : A → Bool) (g : B → Bool) (xs : List A) (ys : List B) → Along xs ys (λ x y. g y ≡ f x) →
    list_all g ys ≡ list_all f xs
tests-same f g [] [] h = refl
tests-same f g (x ∷ xs) (y ∷ ys) h = ap (λ b. b && list_all g ys) h.0 ∙ ap (λ b. f x && b) (tests-same f g xs ys h.1)
tests-same f g [] (y ∷ ys) h = absurd h
tests-same f g (x ∷ xs) [] h = absurd h

maps-same : {A B : Type 0} (f : A → Bool) (g : B → Bool) (xs : List A) (ys : List B) → Along xs ys (λ x y. g y ≡ f x) →
    map g ys ≡ map f xs
maps-same f g [] [] h = refl
maps-same f g (x ∷ xs) (y ∷ ys) h = ap (λ b. b ∷ map g ys) h.0 ∙ ap (λ b. f x ∷ b) (maps-same f g xs ys h.1)
maps-same f g [] (y ∷ ys) h = absurd h
maps-same f g (x ∷ xs) [] h = absurd h

-- ---- the rules by their parts

-- The rules hold part by part.
pub record Parts (S : List Stm) (o : Options) (E : Model) (R : Rules S o E) (q c : Names Table) : Type 0 where
  pub structures : list_all (rule_holds E q c) (append_all R.structures) ≡ true
  pub channels : list_all (rule_holds E q c) (append_all (map append_all R.channels)) ≡ true
  pub goals : list_all (rule_holds E q c) R.goals ≡ true
  pub rules : list_all (rule_holds E q c) R.rules ≡ true

module _ (S : List Stm) (o : Options) (E : Model) (R : Rules S o E) (q c : Names Table) where
  abbrev f : Ex → Bool
  f = rule_holds E q c

  split : list_all f E.rules ≡ list_all f (append_all R.structures) && list_all f (append_all (map append_all R.channels)) && list_all
      f
      R.goals && list_all f R.rules
  split =
      ap (list_all f) R.all ∙ test-append f (append_all R.structures ++ append_all (map append_all R.channels) ++ R.goals) R.rules
      ∙ ap (λ b. b && list_all f R.rules) (test-append f (append_all R.structures ++ append_all (map append_all R.channels)) R.goals
      ∙ ap (λ b. b && list_all f R.goals) (test-append f (append_all R.structures) (append_all (map append_all R.channels))))

  -- So they do where all hold.
  pub parts-of-rules : list_all f E.rules ≡ true → Parts S o E R q c
  parts-of-rules h =
      let a : Bool = list_all f (append_all R.structures) in
      let b : Bool = list_all f (append_all (map append_all R.channels)) in
      let g : Bool = list_all f R.goals in
      let e = sym split ∙ h in
      let l = and-left (a && b && g) (list_all f R.rules) e in
      let m = and-left (a && b) g l in
      record {
        structures = and-left a b m;
        channels = and-right a b m;
        goals = and-right (a && b) g l;
        rules = and-right (a && b && g) (list_all f R.rules) e;
      }

  -- And the other way round.
  pub rules-of-parts : Parts S o E R q c → list_all f E.rules ≡ true
  rules-of-parts h =
      let a : Bool = list_all f (append_all R.structures) in
      let b : Bool = list_all f (append_all (map append_all R.channels)) in
      let g : Bool = list_all f R.goals in
      split ∙ and-both (a && b && g) (list_all f R.rules) (and-both (a && b) g (and-both a b h.structures h.channels) h.goals) h.rules

-- ---- an instance

module _ (S : List Stm) (o : Options) (E : Model) (L : Layers S o E) where
  -- The last rules are those of the constraints.
  pub last-are-rules : last_rules S E ≡ L.rules.rules
  last-are-rules =
      let front : List Ex = append_all L.rules.structures ++ append_all (map append_all L.rules.channels) ++ L.rules.goals in
      let n : length (constraints_of S) ≡ length L.rules.rules = sym (constraints-prepared S)
      ∙ length-along (constraints_of (prepared S)) L.rules.rules (RuleMeans S o E) L.rules.rules_mean in
      ap (λ l. drop (length l - length (constraints_of S)) l) L.rules.all
      ∙ ap (λ k. drop (length (front ++ L.rules.rules) - k) (front ++ L.rules.rules)) n ∙ last-items front L.rules.rules

  module _ (p : Assignment) (q : Names Table) (I : Instance S o p q) where
    -- At canonical tables of members.
    module _ (a : Assignment) (c : Names Table) (C : Canonical S o p a c) where
      rules-along : Along (constraints_of (prepared S)) L.rules.rules (λ e r. rule_holds E q c r ≡ is_true (meaning e (env_of S p a)))
      rules-along = along-map (constraints_of (prepared S)) L.rules.rules (RuleMeans S o E)
          (λ e r. rule_holds E q c r ≡ is_true (meaning e (env_of S p a))) (λ e r h. h p a q c I C) L.rules.rules_mean

      -- They hold at canonical tables exactly where the constraints do at the members.
      pub rules-are : list_all (rule_holds E q c) L.rules.rules ≡ list_all (λ l. constraint_holds l.stm l.env) (placed S p a)
      rules-are = tests-same (λ e. is_true (meaning e (env_of S p a))) (rule_holds E q c) (constraints_of (prepared S)) L.rules.rules
          rules-along ∙ sym (constraints-hold S p a (L.base.ground.settled.settled p a I.param))

      -- One by one.
      pub truths-are : rule_truths S E q c ≡ constraint_truths S p a
      truths-are =
          ap (map (rule_holds E q c)) last-are-rules
          ∙ maps-same (λ e. is_true (meaning e (env_of S p a))) (rule_holds E q c) (constraints_of (prepared S)) L.rules.rules
          rules-along
          ∙ sym (truths-placed S p a (L.base.ground.settled.settled p a I.param))

      -- Members whose canonical tables satisfy the rules are a solution.
      pub solution : Parts S o E L.rules q c → Sol S p a
      solution h = record {
        in_domains = C.members;
        constraints_hold = sym rules-are ∙ h.rules;
        has_objective = sym (L.rules.goals_mean.has_value p a q c I C) ∙ h.goals;
      }

      -- Tables that match a solution satisfy the model.
      pub satisfied : Matched S o p a c → Sol S p a → Sat E q c
      satisfied m s = record {
        declared = matched-fit S o E L.base p q I a c m;
        rules_hold = rules-of-parts S o E L.rules q c (record {
          structures = matched-structures S o E L.base p q I L.rules a c m;
          channels = matched-channels S o E L.base p q I L.rules a c m;
          goals = L.rules.goals_mean.has_value p a q c I C ∙ s.has_objective;
          rules = rules-are ∙ s.constraints_hold;
        });
      }

    -- What satisfies the model: it matches what it stands for, which is a solution.
    pub record Satisfied (c : Names Table) : Type 0 where
      pub matched : Matched S o p (stood S o E L.base p q I c) c
      pub canonical : Canonical S o p (stood S o E L.base p q I c) c
      -- Members whose canonical tables satisfy the rules are a solution.
      pub solution : Sol S p (stood S o E L.base p q I c)

    -- What satisfies the model stands for a solution.
    pub of-sat : (c : Names Table) → Sat E q c → Satisfied c
    of-sat c s =
        let h = parts-of-rules S o E L.rules q c s.rules_hold in
        let m = stood-matched S o E L.base p q I L.rules c (s.declared, h.structures, h.channels) in
        let C : Canonical S o p (stood S o E L.base p q I c) c =
        record { members = stood-members S o E L.base p q I c m; tables = matched-canonical S o p (stood S o E L.base p q I c) c m }
        in
        record { matched = m; canonical = C; solution = solution (stood S o E L.base p q I c) c C h }

    -- A solution has tables that satisfy it.
    pub of-solution : (a : Assignment) → Sol S p a → (c : Names Table) × Matched S o p a c ×
        (canonical_tables finds_side S o p a ≡ Some c)
        × Sat E q c
    of-solution a s =
        let m = members-match S o E L.base p q I a s.in_domains in
        let e = matched-canonical S o p a m.0 m.1 in
        (m.0, m.1, e, satisfied a m.0 (record { members = s.in_domains; tables = e }) m.1 s)

    -- Under the parameter the satisfying tables stand for exactly the solutions.
    pub represents : Represents S o E p q
    represents = record {
      one_solution = λ c s. let h = of-sat c s in (
        stood S o E L.base p q I c,
        matched-stands S o E L.base p q I (stood S o E L.base p q I c) c h.matched (keys-stood c) refl,
        h.solution,
        λ b t. stood-once S o E L.base p q I c h.matched b t,
      );
      each_solution = λ a s r. let h = of-solution a s in (h.0, h.3, matched-stands S o E L.base p q I a h.0 h.1 r.0 (ap keys r.1));
      same_goal = λ c a s t. let h = of-sat c s in
          L.rules.goals_mean.value p (stood S o E L.base p q I c) q c I h.canonical h.solution.has_objective
          ∙ ap (λ b. objective_at (placed S p b)) (sym (stood-once S o E L.base p q I c h.matched a t));
      same_constraints = λ a c D e. truths-are a c (record { members = D; tables = e });
    }
      where
        keys-stood : (c : Names Table) → keys (stood S o E L.base p q I c).vals ≡ value_names
            finds_side S
        keys-stood c = stood-keys S o E L.base p q I c

  -- From the layers: under each parameter the satisfying assignments are exactly the canonical tables of solutions.
  pub exact : IsExact S o E
  exact = record {
    canonical = λ p q c P e s. let h = of-sat p q (record { param = P; tables = e }) c s in
        (stood S o E L.base p q (record { param = P; tables = e }) c, h.solution, h.canonical.tables);
    satisfies = λ p a q P e s r. let h = of-solution p q (record { param = P; tables = e }) a s in (h.0, h.2, h.3);
  }

  -- ---- texts

  append-maps : {A B : Type 0} (g : A → List B) (xs ys : List A) →
      append_all (map g (xs ++ ys)) ≡ append_all (map g xs) ++ append_all (map g ys)
  append-maps g [] ys = refl
  append-maps g (x ∷ xs) ys = ap (λ l. g x ++ l) (append-maps g xs ys)
      ∙ sym (append_assoc (g x) (append_all (map g xs)) (append_all (map g ys)))

  spelled-append : (xs ys : List Ex) → spelled S xs ≡ true → spelled S ys ≡ true → spelled S (xs ++ ys) ≡ true
  spelled-append xs ys e h =
      let t : ℤ → Bool = λ n. list_any (same_int n) (constants_of S) in
      ap (list_all t) (append-maps numbers_of_part xs ys)
      ∙ test-append t (append_all (map numbers_of_part xs)) (append_all (map numbers_of_part ys))
      ∙ and-both (spelled S xs) (spelled S ys) e h

  spelled-all : {A : Type 0} (g : A → List Ex) (xs : List A) → Each xs (λ x. spelled S (g x) ≡ true) →
      spelled S (append_all (map g xs)) ≡ true
  spelled-all g [] h = refl
  spelled-all g (x ∷ xs) h = spelled-append (g x) (append_all (map g xs)) h.0 (spelled-all g xs h.1)

  -- From the layers: the model stands for the specification.
  pub models : (H : Header) → Texts S o H E L.rules.rules → Models S o H E
  models H T = record {
    header = T.header;
    given_names = L.base.declares.given_names;
    find_names = L.base.declares.find_names;
    given_domains = λ p q P e. L.base.declares.given_domains p q (record { param = P; tables = e });
    find_domains = λ p q P e. L.base.declares.find_domains p q (record { param = P; tables = e });
    goal_direction = T.direction;
    constants = spelled-append (append_all (map parts_of_decl (all_decls E)) ++ parts_of_goal E.goal)
        (append_all (map parts_of E.rules))
        (spelled-append (append_all (map parts_of_decl (all_decls E))) (parts_of_goal E.goal)
        (spelled-all parts_of_decl (all_decls E) T.decls) T.goal) (spelled-all parts_of E.rules T.spells);
    flat = λ k e h u. ap (λ l. item_number l k) last-are-rules ∙ item k e (constraints_of S) L.rules.rules T.flat h u;
    represents = λ p q P e. represents p q (record { param = P; tables = e });
    small_domains = λ p q P e. T.small p q (record { param = P; tables = e });
  }
    where
      item : (k : ℕ) (e : Ex) (es rs : List Ex) → Along es rs (λ e r. is_flat (plans S o) e ≡ true → r ≡ with_cells (plans S o) e) →
          item_number es k ≡ Some e → is_flat (plans S o) e ≡ true → item_number rs k ≡ Some (with_cells (plans S o) e)
      item k e [] [] h i u = cc
      item k e [] (r ∷ rs) h i u = absurd h
      item k e (x ∷ es) [] h i u = absurd h
      item zero e (x ∷ es) (r ∷ rs) h i u = let q : x ≡ e = cc in
          ap (λ y. Some y) (h.0 (ap (is_flat (plans S o)) q ∙ u) ∙ ap (with_cells (plans S o)) q)
      item (suc k) e (x ∷ es) (r ∷ rs) h i u = item k e es rs h.1 i u
