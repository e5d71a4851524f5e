-- Sums and differences that have no two operands.
use Rattle.std.proofs.Common.{◌≡◌, refl, false, Some, None}
use Rattle.ess_semantics.specs.declared.words.Op2.{Op2}
use Rattle.ess_semantics.specs.Trees.{binary, Ex, Exs, node_ex, no_exs, more_exs, ex2}
use Rattle.ess_guard_laws.specs.Origins.{same_bound}
use Rattle.ess_guard_forms.specs.PartForms.{both_operands}

-- What isn't a sum of two operands is no bound that is known to be another one.
pub no_sum : (es : Exs) (e : Ex) → None ≡ both_operands es → false ≡ same_bound (node_ex false (binary Op2.Plus) es) e
no_sum no_exs e h = refl
no_sum (more_exs a no_exs) e h = refl
no_sum (more_exs a (more_exs b no_exs)) e h = let k : None ≡ Some (a, b) = h in cc
no_sum (more_exs a (more_exs b (more_exs c es))) e h = refl

-- The same where the second isn't one.
pub no_other_sum : (a b : Ex) (es : Exs) → None ≡ both_operands es
    → false ≡ same_bound (ex2 false Op2.Plus a b) (node_ex false (binary Op2.Plus) es)
no_other_sum a b no_exs h = refl
no_other_sum a b (more_exs c no_exs) h = refl
no_other_sum a b (more_exs c (more_exs d no_exs)) h = let k : None ≡ Some (c, d) = h in cc
no_other_sum a b (more_exs c (more_exs d (more_exs e es))) h = refl

-- What isn't a difference of two operands is no bound that is known to be another one.
pub no_difference : (es : Exs) (e : Ex) → None ≡ both_operands es → false ≡ same_bound (node_ex false (binary Op2.Minus) es) e
no_difference no_exs e h = refl
no_difference (more_exs a no_exs) e h = refl
no_difference (more_exs a (more_exs b no_exs)) e h = let k : None ≡ Some (a, b) = h in cc
no_difference (more_exs a (more_exs b (more_exs c es))) e h = refl

-- The same where the second isn't one.
pub no_other_difference : (a b : Ex) (es : Exs) → None ≡ both_operands es
    → false ≡ same_bound (ex2 false Op2.Minus a b) (node_ex false (binary Op2.Minus) es)
no_other_difference a b no_exs h = refl
no_other_difference a b (more_exs c no_exs) h = refl
no_other_difference a b (more_exs c (more_exs d no_exs)) h = let k : None ≡ Some (c, d) = h in cc
no_other_difference a b (more_exs c (more_exs d (more_exs e es))) h = refl
