-- Laws of trees that are expressions of models, each stated at a function that does nothing, so that its proof is checked with the code.
use Rattle.std.specs.Prelude.{◌≡◌, true, ◌&&◌}
use Rattle.ess_semantics.specs.Trees.{Ex}
use Rattle.ess_semantics.specs.Refined.{is_refined}
use Rattle.ess_grammar.specs.Models.{Scope}
use Rattle.eprime_lowering_laws.specs.Lowerable.{is_lowerable}
use Rattle.eprime_lowering_laws.specs.Formed.{is_formed}

-- A refined tree that is formed so is an expression of a model.
abbrev pub RefinedTreesAreLowerable : Type 0
RefinedTreesAreLowerable = (s : Scope) (e : Ex) → is_refined e ≡ true → is_formed s e ≡ true → is_lowerable s e ≡ true

-- An expression of a model is refined and formed so.
abbrev pub LowerableTreesAreRefined : Type 0
LowerableTreesAreRefined = (s : Scope) (e : Ex) → is_lowerable s e ≡ true → (is_refined e && is_formed s e) ≡ true
