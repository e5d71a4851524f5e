-- Views of a given or find, plan by plan.
use Rattle.std.proofs.Common.{◌≡◌, sym, ap, ◌∙◌, ℕ, ◌+◌, ◌<◌, Bool, true, false, if◌then◌else◌, List, [], ◌∷◌, ◌++◌, length, map, filter, drop, get_or, append_assoc}
use Rattle.std.proofs.lemmas.List.{map_push, drop_more}
use Rattle.ess_semantics.specs.Values.{Text}
use Rattle.ess_semantics.specs.Trees.{Ex, Dom}
use Rattle.ess_semantics.specs.Plans.{is_plan_for}
use Rattle.ess_core_nodes.specs.declared.nodes.Node.{Node}
use Rattle.ess_core_nodes.specs.NodeViews.{pure_node}
use Rattle.conjure_model_laws.specs.Shown.{view_by}
use Rattle.ess_translate_plans.specs.declared.plans.Plan.{Plan}
use Rattle.ess_translate_plans.specs.Views.{pure_plan}

module _ (c : Dom) (x : Text) where
  by_first : (p : Plan) (ps : List Plan) (b : Bool) → is_plan_for x (pure_plan p) ≡ b
      → map (view_by c) (filter (is_plan_for x) (map pure_plan (p ∷ ps)))
      ≡ map (view_by c) (if b then pure_plan p ∷ filter (is_plan_for x) (map pure_plan ps) else filter (is_plan_for x) (map pure_plan ps))
  by_first p ps b e =
      ap (λ b. map (view_by c)
      (if b then pure_plan p ∷ filter (is_plan_for x) (map pure_plan ps) else filter (is_plan_for x) (map pure_plan ps))) e

  left : (ps : List Plan) (i : ℕ) (p : Plan) → i < length ps → p ≡ get_or ps i p
      → map (view_by c) (filter (is_plan_for x) (map pure_plan (drop i ps)))
      ≡ map (view_by c) (filter (is_plan_for x) (map pure_plan (p ∷ drop (i + 1) ps)))
  left ps i p lt is =
      ap (λ l. map (view_by c) (filter (is_plan_for x) (map pure_plan l)))
      (drop_more ps i p lt ∙ ap (λ q. q ∷ drop (i + 1) ps) (sym is))

  -- A plan of it gives one view more.
  pub one_more : (ps : List Plan) (i : ℕ) (p : Plan) (done new : List Node) (v : Node) (all : List Ex) → i < length ps → p ≡ get_or ps i p
      → is_plan_for x (pure_plan p) ≡ true → pure_node v ≡ view_by c (pure_plan p) → new ≡ done ++ v ∷ []
      → map pure_node done ++ map (view_by c) (filter (is_plan_for x) (map pure_plan (drop i ps))) ≡ all
      → map pure_node new ++ map (view_by c) (filter (is_plan_for x) (map pure_plan (drop (i + 1) ps))) ≡ all
  one_more ps i p done new v all lt is b e n h =
      let rest = map (view_by c) (filter (is_plan_for x) (map pure_plan (drop (i + 1) ps))) in
      ap (λ l. map pure_node l ++ rest) n ∙ ap (λ l. l ++ rest) (map_push pure_node done v)
      ∙ append_assoc (map pure_node done) (pure_node v ∷ []) rest
      ∙ ap (λ y. map pure_node done ++ y ∷ rest) e
      ∙ sym (ap (λ l. map pure_node done ++ l) (left ps i p lt is ∙ by_first p (drop (i + 1) ps) true b)) ∙ h

  -- Another one gives none.
  pub none_more : (ps : List Plan) (i : ℕ) (p : Plan) (done : List Node) (all : List Ex) → i < length ps → p ≡ get_or ps i p
      → is_plan_for x (pure_plan p) ≡ false
      → map pure_node done ++ map (view_by c) (filter (is_plan_for x) (map pure_plan (drop i ps))) ≡ all
      → map pure_node done ++ map (view_by c) (filter (is_plan_for x) (map pure_plan (drop (i + 1) ps))) ≡ all
  none_more ps i p done all lt is b h =
      sym (ap (λ l. map pure_node done ++ l) (left ps i p lt is ∙ by_first p (drop (i + 1) ps) false b)) ∙ h
