-- What comes of an objective that speaks of nested sets: over tables it is the tree that it is in a constraint, so what is written is worth
-- what it is; and it always has a value.
use Rattle.std.proofs.Common.{◌≡◌, refl, ◌∙◌, subst, ◌++◌, Bool, true, false, Option, Some, None}
use Rattle.ess_semantics.specs.Assignments.{env_of}
use Rattle.ess_semantics.specs.Plans.{plans}
use Rattle.conjure_laws.specs.Views.{over_tables}
use Rattle.conjure_model_laws.specs.Shown.{shows_of}
use Rattle.conjure_model_laws.specs.Printed.{binders}
use Rattle.ess_flat_models_laws.specs.FlatSpecifications.{scalar_mark}
use Rattle.ess_bare_written_laws.specs.Laws.{EndedTreesAreWritten}
use Rattle.ess_depth_laws.specs.Laws.{DepthsAreBounded}
use Rattle.ess_mixed_models_laws.specs.ess_setwise_laws.Setwise.{is_mark, setwise_mark}
use Rattle.ess_mixed_models_laws.specs.ess_setwise_laws.Laws.{SetwiseTreesAreSeen}
use Rattle.ess_mixed_models_laws.specs.ess_setwise_laws.Objectives.{SetwiseNumbersAreThere}
use Rattle.conjure_modelling.specs.ess_model_trees.Written.{ComesFrom, next_behind}
use Rattle.conjure_standing_laws.specs.SeenLaws.{SeenTreesStaySeen}
use Rattle.conjure_standing_laws.specs.SetwiseLaws.{SetwiseObjectivesStand}
use Rattle.conjure_standing_laws.proofs.SetwiseRules.{enough, worth-of, spells-of}

-- The mark of a number.
pub mark-is : (o : Option Bool) → is_mark false o ≡ true → o ≡ Some false
mark-is (Some false) q = refl
mark-is (Some true) q = cc
mark-is None q = cc

-- From the laws of trees over views, and of numbers.
pub setwise-objectives-by : SeenTreesStaySeen → EndedTreesAreWritten → SetwiseTreesAreSeen → SetwiseNumbersAreThere → DepthsAreBounded →
    SetwiseObjectivesStand
setwise-objectives-by stay written seen there depths S o E sets cells H e t low taken few s f c =
    let u = mark-is (setwise_mark (scalar_mark (plans S o)) sets e) t in
    let z = there (shows_of S o) (scalar_mark (plans S o)) sets cells H.shown e t (enough (shows_of S o).next (binders e) low) in
    let d = subst (λ x. ComesFrom s taken (next_behind (shows_of S o) e) x (Some f)) z.tree c in (
      λ p a q b I C.
          let n = z.there (env_of S p a) (over_tables S p (q ++ b)) (H.names p a q b I C) (H.values p a q b I C) (H.scalars p a q b I C)
          (H.met p a q b I C) in
          (n.0, n.1, worth-of stay written seen depths S o E sets cells H e false u low taken few s f d p a q b I C ∙ n.1),
      λ h. spells-of stay written seen depths S o E sets cells H e false u low taken few s f d h,
      z.condition,
    )
