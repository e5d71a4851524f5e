-- That `==` decides which models are equal.
use Rattle.std.proofs.Common.{◌≡◌, refl, Bool, true, ◌↔◌, IsTrue}
use denote.Enum.Compared.{Each}
use Rattle.eprime_tree.specs.declared.models.PDecl.{PDecl}
use Rattle.eprime_tree.specs.declared.models.PGoal.{PGoal}
use Rattle.eprime_tree.specs.declared.models.PGoal.TheVariants.{Free, Minimise, Maximise}
use Rattle.eprime_tree.specs.declared.models.PModel.{PModel}
use Rattle.eprime_tree.specs.contracts.models.PGoal as goal_of
use Rattle.eprime_tree.specs.contracts.models.PDeclPartialEq.TheImpl as decl_test
use Rattle.eprime_tree.specs.contracts.models.PGoalPartialEq.TheImpl as goal_test
use Rattle.eprime_tree.specs.contracts.models.PModelPartialEq.TheImpl as model_test
use Rattle.ess_core_equality.proofs.Known.{Knows, decides, known_none, known_last, known_field, known_whole, known_text, known_texts}
use Rattle.ess_core_equality.proofs.Known.{known_all, Chooses, here, later, ◌▹◌, known_enum}
use Rattle.eprime_equality.proofs.ExpressionLayers.{ex_same}
use Rattle.eprime_equality.proofs.KnownExpressions.{known_dom, known_ex}

-- ---- the derived tests

-- Of declarations.
abbrev pub decl_same : PDecl → PDecl → Bool
decl_same = decl_test.ghosts.eq

-- Of objectives.
abbrev pub goal_same : PGoal → PGoal → Bool
goal_same = goal_test.ghosts.eq

-- Of models.
abbrev pub model_same : PModel → PModel → Bool
model_same = model_test.ghosts.eq

-- ---- they know all

-- Each declaration is known.
pub known_decl : (x : PDecl) → Knows decl_same x
known_decl x = known_whole (λ s. (s.name, (s.axes, (s.cell, tt)))) (λ c. record { name = c.0; axes = c.1.0; cell = c.1.1.0 }) (λ s. refl)
    (λ x y. refl) x (known_field (known_text x.name) (known_field (known_all known_dom x.axes) (known_last (known_dom x.cell))))

abbrev goal_tests : Each Bool goal_of.enum.parts
goal_tests =
    (λ a b. true) ▹
    (λ a b. ex_same a.0 b.0) ▹
    (λ a b. ex_same a.0 b.0) ▹
    tt

layer_goal : (x : PGoal) → Chooses goal_of.enum.parts goal_tests (goal_of.as_values x) → Knows goal_same x
layer_goal x k = known_enum goal_of.enum goal_tests (λ x y. refl) x k

-- Each objective is known.
pub known_goal : (x : PGoal) → Knows goal_same x
known_goal Free = layer_goal _ (here known_none)
known_goal (Minimise a) = layer_goal _ (later (here (known_last (known_ex a))))
known_goal (Maximise a) = layer_goal _ (later (later (here (known_last (known_ex a)))))

-- Each model is known.
pub known_model : (x : PModel) → Knows model_same x
known_model x = known_whole (λ s. (s.head, (s.givens, (s.finds, (s.goal, (s.rules, tt))))))
    (λ c. record { head = c.0; givens = c.1.0; finds = c.1.1.0; goal = c.1.1.1.0; rules = c.1.1.1.1.0 }) (λ s. refl) (λ x y. refl) x
    (known_field (known_texts x.head) (known_field (known_all known_decl x.givens) (known_field (known_all known_decl x.finds)
    (known_field (known_goal x.goal) (known_last (known_all known_ex x.rules))))))

-- The test of two models holds exactly where they are one.
pub decides_model : (x y : PModel) → IsTrue (model_same x y) ↔ (x ≡ y)
decides_model x y = decides (known_model x) y
