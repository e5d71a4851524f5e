-- The pure statements that a specification stands for.
use Rattle.std.specs.Prelude.{List, map}
use Rattle.ess_semantics.specs.Trees as pure
use Rattle.ess_semantics.specs.Trees.{given, given_enum, let_ex, let_dom, let_enum, let_unnamed, needs, find, such_that, minimise, maximise}
use Rattle.ess_core.specs.TreeViews.{pure_ex, pure_dom}
use Rattle.ess_core.specs.declared.statements.Stm.{Stm}
use Rattle.ess_core.specs.declared.statements.Stm.TheVariants.{Given, GivenEnum, LetEx, LetDom, LetEnum, LetUnnamed, Needs, Find, SuchThat, Minimise, Maximise}
use Rattle.ess_core.specs.declared.statements.Spec.{Spec}

-- The pure statement of a statement.
abbrev pub pure_stm : Stm → pure.Stm
pure_stm (Given a d) = given a (pure_dom d)
pure_stm (GivenEnum a) = given_enum a
pure_stm (LetEx a e) = let_ex a (pure_ex e)
pure_stm (LetDom a d) = let_dom a (pure_dom d)
pure_stm (LetEnum a ns) = let_enum a ns
pure_stm (LetUnnamed a e) = let_unnamed a (pure_ex e)
pure_stm (Needs e) = needs (pure_ex e)
pure_stm (Find a d) = find a (pure_dom d)
pure_stm (SuchThat e) = such_that (pure_ex e)
pure_stm (Minimise e) = minimise (pure_ex e)
pure_stm (Maximise e) = maximise (pure_ex e)

-- The statements of a specification, in order.
abbrev pub pure_spec : Spec → List pure.Stm
pure_spec s = map pure_stm s.stms
