-- The declared tables of plans, plan by plan.
use Rattle.std.proofs.Common.{◌≡◌, sym, ap, ◌∙◌, ℕ, ◌+◌, ◌<◌, Bool, true, false, if◌then◌else◌, List, [], ◌∷◌, ◌++◌, length, map, filter, drop, get_or, append_assoc}
use Rattle.std.proofs.lemmas.List.{drop_more, map-append}
use Rattle.ess_semantics.specs.Lists.{append_all}
use Rattle.ess_semantics.specs.DeclaredTables.{TableDecl}
use Rattle.ess_semantics.specs.Plans as pure
use Rattle.ess_semantics.specs.Plans.{side_of, same_side}
use Rattle.conjure_model_laws.specs.Shown.{Shows}
use Rattle.conjure_model_laws.specs.IsBuiltFrom.{declared_of}
use Rattle.ess_declared_trees.specs.declared.tables.Declared.{Declared}
use Rattle.ess_declared_trees.specs.TableViews.{pure_declared}
use Rattle.ess_translate_plans.specs.declared.plans.Plan.{Plan}
use Rattle.ess_translate_plans.specs.Views.{pure_plan}

-- The declared tables of these plans that are of one side.
abbrev pub tables_of : Shows → pure.Side → List Plan → List TableDecl
tables_of sh f ps = append_all (map (declared_of sh) (filter (λ p. same_side (side_of p) f) (map pure_plan ps)))

module _ (sh : Shows) (f : pure.Side) where
  by_first : (p : Plan) (ps : List Plan) (b : Bool) → same_side (side_of (pure_plan p)) f ≡ b
      → tables_of sh f (p ∷ ps) ≡ (if b then declared_of sh (pure_plan p) ++ tables_of sh f ps else tables_of sh f ps)
  by_first p ps true e =
      ap (λ b. append_all (map (declared_of sh)
      (if b then pure_plan p ∷ filter (λ p. same_side (side_of p) f) (map pure_plan ps)
      else filter (λ p. same_side (side_of p) f) (map pure_plan ps)))) e
  by_first p ps false e =
      ap (λ b. append_all (map (declared_of sh)
      (if b then pure_plan p ∷ filter (λ p. same_side (side_of p) f) (map pure_plan ps)
      else filter (λ p. same_side (side_of p) f) (map pure_plan ps)))) e

  left : (ps : List Plan) (i : ℕ) (p : Plan) → i < length ps → p ≡ get_or ps i p
      → tables_of sh f (drop i ps) ≡ tables_of sh f (p ∷ drop (i + 1) ps)
  left ps i p lt is = ap (tables_of sh f) (drop_more ps i p lt ∙ ap (λ q. q ∷ drop (i + 1) ps) (sym is))

  -- A plan of the side gives its tables.
  pub one_plan_more : (ps : List Plan) (i : ℕ) (p : Plan) (done own new : List Declared) (all : List TableDecl) → i < length ps
      → p ≡ get_or ps i p → same_side (side_of (pure_plan p)) f ≡ true → map pure_declared own ≡ declared_of sh (pure_plan p)
      → new ≡ done ++ own → map pure_declared done ++ tables_of sh f (drop i ps) ≡ all
      → map pure_declared new ++ tables_of sh f (drop (i + 1) ps) ≡ all
  one_plan_more ps i p done own new all lt is b e n h =
      let rest : List TableDecl = tables_of sh f (drop (i + 1) ps) in
      ap (λ l. map pure_declared l ++ rest) n ∙ ap (λ l. l ++ rest) (map-append pure_declared done own)
      ∙ append_assoc (map pure_declared done) (map pure_declared own) rest
      ∙ ap (λ l. map pure_declared done ++ (l ++ rest)) e
      ∙ sym (ap (λ l. map pure_declared done ++ l) (left ps i p lt is ∙ by_first p (drop (i + 1) ps) true b)) ∙ h

  -- Another one gives none.
  pub other_side : (ps : List Plan) (i : ℕ) (p : Plan) (done : List Declared) (all : List TableDecl) → i < length ps → p ≡ get_or ps i p
      → same_side (side_of (pure_plan p)) f ≡ false → map pure_declared done ++ tables_of sh f (drop i ps) ≡ all
      → map pure_declared done ++ tables_of sh f (drop (i + 1) ps) ≡ all
  other_side ps i p done all lt is b h =
      sym (ap (λ l. map pure_declared done ++ l) (left ps i p lt is ∙ by_first p (drop (i + 1) ps) false b)) ∙ h
