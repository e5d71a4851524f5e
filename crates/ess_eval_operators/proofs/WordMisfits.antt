-- Function words on two operands that take one alone.
use Rattle.std.proofs.Common.{◌≡◌, refl, Some}
use Rattle.ess_semantics.specs.declared.words.Fun.{Fun}
use Rattle.ess_semantics.specs.Values.{Value, truth}
use Rattle.std.specs.Prelude.{false}
use Rattle.ess_semantics.specs.Operators.{value_of_word2}

-- No value of two operands is there for these but the misfit.
pub misfit_of_two : (f : Fun) (a b : Value) → (f ≡ Fun.Image → ⊥) → (f ≡ Fun.PreImage → ⊥) → (f ≡ Fun.Freq → ⊥) → (f ≡ Fun.Party → ⊥)
    → (f ≡ Fun.Together → ⊥)
    → value_of_word2 f a b ≡ Some (truth false)
misfit_of_two Fun.Sum a b h0 h1 h2 h3 h4 = refl
misfit_of_two Fun.Product a b h0 h1 h2 h3 h4 = refl
misfit_of_two Fun.And a b h0 h1 h2 h3 h4 = refl
misfit_of_two Fun.Or a b h0 h1 h2 h3 h4 = refl
misfit_of_two Fun.Min a b h0 h1 h2 h3 h4 = refl
misfit_of_two Fun.Max a b h0 h1 h2 h3 h4 = refl
misfit_of_two Fun.AllDiff a b h0 h1 h2 h3 h4 = refl
misfit_of_two Fun.ToInt a b h0 h1 h2 h3 h4 = refl
misfit_of_two Fun.Image a b h0 h1 h2 h3 h4 = absurd (h0 refl)
misfit_of_two Fun.PreImage a b h0 h1 h2 h3 h4 = absurd (h1 refl)
misfit_of_two Fun.Defined a b h0 h1 h2 h3 h4 = refl
misfit_of_two Fun.Range a b h0 h1 h2 h3 h4 = refl
misfit_of_two Fun.ToSet a b h0 h1 h2 h3 h4 = refl
misfit_of_two Fun.ToMSet a b h0 h1 h2 h3 h4 = refl
misfit_of_two Fun.ToRelation a b h0 h1 h2 h3 h4 = refl
misfit_of_two Fun.Freq a b h0 h1 h2 h3 h4 = absurd (h2 refl)
misfit_of_two Fun.Parts a b h0 h1 h2 h3 h4 = refl
misfit_of_two Fun.Party a b h0 h1 h2 h3 h4 = absurd (h3 refl)
misfit_of_two Fun.Participants a b h0 h1 h2 h3 h4 = refl
misfit_of_two Fun.Together a b h0 h1 h2 h3 h4 = absurd (h4 refl)
