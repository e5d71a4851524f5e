use Rattle.ess_guard_laws.proofs.laws.constants_stay.Goals as goal
use Rattle.std.specs.Prelude.{◌≡◌, Bool, true, false}
use Rattle.ess_semantics.specs.Values.{Text}
use Rattle.ess_semantics.specs.Trees.{Ex}
use Rattle.ess_semantics.specs.Constants.{constants_of_tree, among_constants}
use Rattle.ess_guard_laws.specs.Guard.{make_total_term}
use Rattle.ess_guard_laws.specs.LiteralsFit.{LiteralsFit}
use Rattle.ess_guard_laws.proofs.ConstantLaws.{guarded-constants, there-constants, number-constants}

term-constants : (x y : Text) (b : Bool) (e : Ex) → LiteralsFit false e → among_constants (constants_of_tree ((make_total_term x y b e).1)) (constants_of_tree e) ≡ true
term-constants x y true e f = number-constants x y e f
term-constants x y false e f = guarded-constants false x y e f

pub returns : goal.returns
returns c = record {
  total = λ x y e f. guarded-constants false x y e f;
  natural = λ x y e f. guarded-constants true x y e f;
  there = λ x y b e f. there-constants x y e f;
  term = term-constants;
}
