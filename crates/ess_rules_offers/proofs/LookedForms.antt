-- What is looked up, by what is picked within.
use Rattle.std.proofs.Common.{◌≡◌, ap, List, ◌∷◌, Option, Some, None}
use Rattle.ess_semantics.specs.Lists.{and_then}
use Rattle.ess_semantics.specs.Values.{Text}
use Rattle.ess_semantics.specs.Names.{Names}
use Rattle.ess_semantics.specs.Trees.{Ex}
use Rattle.ess_semantics.specs.Types.{Ty}
use Rattle.ess_rules_laws.specs.AlternativeLookups.{lookup_through_each}
use Rattle.ess_kind_rules_laws.specs.TermLookups.{picked_within, looked_up_alone, looked_up}

-- Where nothing is picked within.
pub looked_alone : (g : Names Ty) (x y : Text) (zs : List Text) (e : Ex) → None ≡ picked_within e
    → looked_up_alone g x y zs e ≡ looked_up g x (y ∷ zs) e
looked_alone g x y zs e p = ap (λ o. elim o [
  | None ↦ looked_up_alone g x y zs e
  | Some t ↦ and_then (looked_up g x zs t) (λ l. lookup_through_each y 1 l e)
]) p

-- Where something is, through the alternatives of that.
pub looked_within : (g : Names Ty) (x y : Text) (zs : List Text) (e t : Ex) → Some t ≡ picked_within e
    → and_then (looked_up g x zs t) (λ l. lookup_through_each y 1 l e) ≡ looked_up g x (y ∷ zs) e
looked_within g x y zs e t p = ap (λ o. elim o [
  | None ↦ looked_up_alone g x y zs e
  | Some u ↦ and_then (looked_up g x zs u) (λ l. lookup_through_each y 1 l e)
]) p
