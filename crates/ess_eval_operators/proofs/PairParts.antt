-- The parts of a tuple of two, and the pairs of a function.
use Rattle.std.proofs.Common.{◌≡◌, refl, sym, ap, ◌∙◌, List, [], ◌∷◌, map, length, get_or}
use Rattle.ess_semantics.specs.Values.{from_of, to_of, items_of}
use Rattle.ess_semantics.proofs.Orders.{to_list-of_list}
use Rattle.ess_core.specs.declared.values.Val.{Val}
use Rattle.ess_core.specs.declared.values.Pair.{Pair}
use Rattle.ess_core.specs.declared.values.Val.TheVariants as variant
use Rattle.ess_core.specs.ValueViews.{pure_val, pure_pair}
use Rattle.ess_core.proofs.ValueEquations.{pure_tuple, pure_function}

pub first_of_two : (v : Val) (ps : List Val) (x : Val) → v ≡ variant.Tuple ps → length ps ≡ 2 → x ≡ get_or ps 0 x
    → pure_val x ≡ from_of (pure_val v)
first_of_two v [] x e l h = cc
first_of_two v (a ∷ []) x e l h = cc
first_of_two v (a ∷ b ∷ []) x e l h = ap pure_val h ∙ sym (ap (λ w. from_of (pure_val w)) e ∙ ap from_of (pure_tuple (a ∷ b ∷ [])))
first_of_two v (a ∷ b ∷ c ∷ ps) x e l h = cc

pub second_of_two : (v : Val) (ps : List Val) (x : Val) → v ≡ variant.Tuple ps → length ps ≡ 2 → x ≡ get_or ps 1 x
    → pure_val x ≡ to_of (pure_val v)
second_of_two v [] x e l h = cc
second_of_two v (a ∷ []) x e l h = cc
second_of_two v (a ∷ b ∷ []) x e l h = ap pure_val h ∙ sym (ap (λ w. to_of (pure_val w)) e ∙ ap to_of (pure_tuple (a ∷ b ∷ [])))
second_of_two v (a ∷ b ∷ c ∷ ps) x e l h = cc

pub first_of_others : (v : Val) (ps : List Val) → v ≡ variant.Tuple ps → (length ps ≡ 2 → ⊥) → pure_val v ≡ from_of (pure_val v)
first_of_others v [] e l = let q = ap pure_val e ∙ pure_tuple [] in q ∙ sym (ap from_of q)
first_of_others v (a ∷ []) e l = let q = ap pure_val e ∙ pure_tuple (a ∷ []) in q ∙ sym (ap from_of q)
first_of_others v (a ∷ b ∷ []) e l = absurd (l refl)
first_of_others v (a ∷ b ∷ c ∷ ps) e l = let q = ap pure_val e ∙ pure_tuple (a ∷ b ∷ c ∷ ps) in q ∙ sym (ap from_of q)

pub second_of_others : (v : Val) (ps : List Val) → v ≡ variant.Tuple ps → (length ps ≡ 2 → ⊥) → pure_val v ≡ to_of (pure_val v)
second_of_others v [] e l = let q = ap pure_val e ∙ pure_tuple [] in q ∙ sym (ap to_of q)
second_of_others v (a ∷ []) e l = let q = ap pure_val e ∙ pure_tuple (a ∷ []) in q ∙ sym (ap to_of q)
second_of_others v (a ∷ b ∷ []) e l = absurd (l refl)
second_of_others v (a ∷ b ∷ c ∷ ps) e l = let q = ap pure_val e ∙ pure_tuple (a ∷ b ∷ c ∷ ps) in q ∙ sym (ap to_of q)

-- The items of a function are its pairs.
pub pairs_read : (v : Val) (ps : List Pair) → v ≡ variant.Function ps → map pure_pair ps ≡ items_of (pure_val v)
pairs_read v ps e = sym (ap (λ w. items_of (pure_val w)) e ∙ ap items_of (pure_function ps) ∙ to_list-of_list (map pure_pair ps))

pub ruleset pair_parts = (first_of_two, second_of_two, first_of_others, second_of_others)
