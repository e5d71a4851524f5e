-- What rules make keeps names, numbers and scopes.
use Rattle.std.proofs.Common.{refl}
use Rattle.ess_semantics.specs.Values.{Text}
use Rattle.ess_semantics.specs.Trees.{Ex}
use Rattle.ess_seen_names_laws.specs.Shapes.{Shape}
use Rattle.ess_seen_names_laws.specs.Laws.{KeepsNames, SeenRulesKeepNames}
use Rattle.ess_seen_names_laws.proofs.SaidOfTrees.{names-have, has-names, numbers-have, has-numbers}
use Rattle.ess_seen_names_laws.proofs.ShapesHave.{shape-has}
use Rattle.ess_seen_names_laws.proofs.ShapesScoped.{shape-scoped}
use Rattle.ess_seen_names_laws.proofs.ShapesMade.{shapes-plainly, shapes-by-kind}

pub shape-kept : (x : Text) (e f : Ex) → Shape x e f → KeepsNames x e f
shape-kept x e f h = record {
  scoped = shape-scoped x h;
  spells = λ q q0 q1 q2 k. has-numbers q _ f (shape-has q _ q0 q1 q2 x refl h (numbers-have q e k));
  names = λ u ux k. has-names _ u f (shape-has _ u refl refl refl x ux h (names-have u e k));
}

-- What is proved of rules.
pub seen-rules-keep-names : SeenRulesKeepNames
seen-rules-keep-names = record { plainly = shapes-plainly; by_kind = shapes-by-kind; kept = shape-kept }
