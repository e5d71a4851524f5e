-- A tree of numbers and truth values is true over values with positions where it is over values.
use Rattle.std.proofs.Common.{◌≡◌, refl, ap, ◌∙◌, Bool, true, ◌&&◌, not, List, ◌∷◌, Option, Some, None, option_map, is_some}
use Rattle.ess_semantics.specs.Values.{Text, Value}
use Rattle.ess_semantics.specs.Names.{Names, look}
use Rattle.ess_semantics.specs.Trees.{Ex, Exs, number_ex, truth_ex, name_ex, node_ex, no_exs, more_exs, Stm}
use Rattle.ess_semantics.specs.Tables.{Table}
use Rattle.ess_semantics.specs.Operators.{false_where_undefined}
use Rattle.ess_semantics.specs.Operators.{value_of_node}
use Rattle.ess_semantics.specs.Meaning.{Env, meaning, meanings, is_true}
use Rattle.ess_semantics.specs.Positions.{with_positions, with_tables}
use Rattle.ess_semantics.specs.Assignments.{env_of}
use Rattle.ess_semantics.specs.Plans.{Options, Plan, plans}
use Rattle.ess_semantics.specs.Models.{is_flat_op, is_not, begins_with_not, scalar_cell, is_flat, are_flat}
use Rattle.ess_semantics.proofs.Tests.{and-left, and-right}
use Rattle.conjure_laws.specs.Numeric.{IsMadeOf, AreMadeOf, HaveNoItems}
use Rattle.conjure_laws.specs.Views.{PositionsKeepTruth}
use Rattle.conjure_laws.proofs.Views.{look-with}

-- ---- one env

module _ (n : Text → Bool) (env : Env) (cs : Names Table)
    (same : (x : Text) → n x ≡ true → (v : Value) → look env.vals x ≡ Some v → with_positions v ≡ v) where
  of-name : (x : Text) → n x ≡ true → look (with_tables env cs).vals x ≡ look env.vals x
  of-name x h = look-with env.vals x ∙ go (look env.vals x) (same x h)
    where
      go : (o : Option Value) → ((v : Value) → o ≡ Some v → with_positions v ≡ v) → option_map with_positions o ≡ o
      go None f = refl
      go (Some v) f = ap Some (f v refl)

  mutual
    same-meaning : (e : Ex) → IsMadeOf n e → meaning e (with_tables env cs) ≡ meaning e env
    same-meaning (number_ex k) h = refl
    same-meaning (truth_ex b) h = refl
    same-meaning (name_ex a) h = of-name a h
    same-meaning (node_ex b op es) h = ap (λ us. false_where_undefined b (value_of_node op us)) (same-meanings es h)
    same-meaning e h = absurd h

    same-meanings : (es : Exs) → AreMadeOf n es → meanings es (with_tables env cs) ≡ meanings es env
    same-meanings no_exs h = refl
    same-meanings (more_exs e es) h =
        ap (λ u. u ∷ meanings es (with_tables env cs)) (same-meaning e h.0) ∙ ap (λ us. meaning e env ∷ us) (same-meanings es h.1)

-- ---- specifications

-- Positions keep the truth of a tree of numbers and truth values.
pub positions-keep : (S : List Stm) (n : Text → Bool) → HaveNoItems S n → (e : Ex) → IsMadeOf n e → PositionsKeepTruth S e
positions-keep S n f e h p a cs P D = ap is_true (same-meaning n (env_of S p a) cs (f p a P D) e h)

-- The names that flat constraints have.
abbrev pub is_scalar : List Plan → Text → Bool
is_scalar ps a = is_some (scalar_cell ps a)

mutual
  flat-made : (ps : List Plan) (e : Ex) → is_flat ps e ≡ true → IsMadeOf (is_scalar ps) e
  flat-made ps (number_ex k) h = tt
  flat-made ps (name_ex a) h = h
  flat-made ps (node_ex b op es) h =
      are-flat-made ps es (and-right (is_flat_op op && not (is_not op && begins_with_not es)) (are_flat ps es) h)
  flat-made ps e h = cc

  are-flat-made : (ps : List Plan) (es : Exs) → are_flat ps es ≡ true → AreMadeOf (is_scalar ps) es
  are-flat-made ps no_exs h = tt
  are-flat-made ps (more_exs e es) h =
      (flat-made ps e (and-left (is_flat ps e) (are_flat ps es) h), are-flat-made ps es (and-right (is_flat ps e) (are_flat ps es) h))

-- So they do of a flat constraint.
pub flat-keep : (S : List Stm) (o : Options) → HaveNoItems S (is_scalar (plans S o)) → (e : Ex) → is_flat (plans S o) e ≡ true →
    PositionsKeepTruth S e
flat-keep S o f e h = positions-keep S (is_scalar (plans S o)) f e (flat-made (plans S o) e h)
