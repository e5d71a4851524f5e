-- The conditions of operators with one or two operands, by what these are.
use Rattle.std.proofs.Common.{◌≡◌, refl}
use Rattle.ess_semantics.specs.declared.words.Op2.{Op2}
use Rattle.ess_semantics.specs.declared.words.Fun.{Fun}
use Rattle.ess_semantics.specs.Values.{Text}
use Rattle.ess_semantics.specs.Names.{Names}
use Rattle.ess_semantics.specs.Trees.{binary, word, Exs, no_exs, more_exs}
use Rattle.ess_guard_laws.specs.Origins.{Origin}
use Rattle.ess_guard_laws.specs.Conditions.{own, quotient_conditions, power_conditions, some_item, image_conditions, party_conditions}
use Rattle.ess_guard_forms.specs.PartForms.{both_operands}
use Rattle.ess_guard_conditions.specs.ConditionForms.{of_pair, of_only}

pub own_div : (k : Names Origin) (x y : Text) (es : Exs)
    → own k x y (binary Op2.Div) es ≡ of_pair (both_operands es) (λ a b. quotient_conditions k b)
own_div k x y no_exs = refl
own_div k x y (more_exs a no_exs) = refl
own_div k x y (more_exs a (more_exs b no_exs)) = refl
own_div k x y (more_exs a (more_exs b (more_exs c es))) = refl

pub own_mod : (k : Names Origin) (x y : Text) (es : Exs)
    → own k x y (binary Op2.Mod) es ≡ of_pair (both_operands es) (λ a b. quotient_conditions k b)
own_mod k x y no_exs = refl
own_mod k x y (more_exs a no_exs) = refl
own_mod k x y (more_exs a (more_exs b no_exs)) = refl
own_mod k x y (more_exs a (more_exs b (more_exs c es))) = refl

pub own_pow : (k : Names Origin) (x y : Text) (es : Exs)
    → own k x y (binary Op2.Pow) es ≡ of_pair (both_operands es) (λ a b. power_conditions k a b)
own_pow k x y no_exs = refl
own_pow k x y (more_exs a no_exs) = refl
own_pow k x y (more_exs a (more_exs b no_exs)) = refl
own_pow k x y (more_exs a (more_exs b (more_exs c es))) = refl

pub own_min : (k : Names Origin) (x y : Text) (es : Exs) → own k x y (word Fun.Min) es ≡ of_only es (λ s. some_item x s)
own_min k x y no_exs = refl
own_min k x y (more_exs a no_exs) = refl
own_min k x y (more_exs a (more_exs b es)) = refl

pub own_max : (k : Names Origin) (x y : Text) (es : Exs) → own k x y (word Fun.Max) es ≡ of_only es (λ s. some_item x s)
own_max k x y no_exs = refl
own_max k x y (more_exs a no_exs) = refl
own_max k x y (more_exs a (more_exs b es)) = refl

pub own_image : (k : Names Origin) (x y : Text) (es : Exs)
    → own k x y (word Fun.Image) es ≡ of_pair (both_operands es) (λ f a. image_conditions k f a)
own_image k x y no_exs = refl
own_image k x y (more_exs a no_exs) = refl
own_image k x y (more_exs a (more_exs b no_exs)) = refl
own_image k x y (more_exs a (more_exs b (more_exs c es))) = refl

pub own_party : (k : Names Origin) (x y : Text) (es : Exs)
    → own k x y (word Fun.Party) es ≡ of_pair (both_operands es) (λ a p. party_conditions a p)
own_party k x y no_exs = refl
own_party k x y (more_exs a no_exs) = refl
own_party k x y (more_exs a (more_exs b no_exs)) = refl
own_party k x y (more_exs a (more_exs b (more_exs c es))) = refl
