-- Steps of refining and chains of them, which count the reserved names: at a part a rule is used, or its bound names are told apart anew.
use Rattle.std.specs.Prelude.{◌≡◌, false, ℕ, zero, suc, ◌+◌, ◌≤◌, List, [], ◌∷◌, Some, None}
use Rattle.ess_semantics.specs.Lists.{or_default}
use Rattle.ess_semantics.specs.Values.{Text}
use Rattle.ess_semantics.specs.Names.{Names}
use Rattle.ess_semantics.specs.Trees.{Ex, Dom, comp_ex, fun1, bool_dom}
use Rattle.ess_semantics.specs.Types.{Ty}
use Rattle.ess_semantics.specs.Contexts.{In, fill}
use Rattle.ess_semantics.specs.NamesAt.{names_at}
use Rattle.ess_refine_laws.specs.LeavingConditions.{at_last_condition}
use Rattle.ess_refine_laws.specs.Copies.{opposite_of}
use Rattle.ess_refine_laws.specs.AllRules.{Rule, Supply, rewrite, least_under_a_condition}
use Rattle.ess_guard_laws.specs.IndexDomains.{index_dom}
use Rattle.conjure_model_laws.specs.ToldApart.{reserved, told_apart, told}

-- As many reserved names, from the n-th on.
abbrev pub reserved_from : ℕ → ℕ → List Text
reserved_from n zero = []
reserved_from n (suc k) = reserved n ∷ reserved_from (suc n) k

-- The index domain that the form of a matrix tells, or bool where it tells none.
abbrev pub told_axis : Ex → Dom
told_axis e = or_default (index_dom e) bool_dom

-- What a rule takes at the n-th reserved name: three names, k for the components of a domain, and those behind them for a copy.
abbrev pub supply_at : ℕ → ℕ → Supply
supply_at n k = record {
  one = reserved n;
  other = reserved (n + 1);
  third = reserved (n + 2);
  parts = reserved_from (n + 3) k;
  index_domain = told_axis;
  copy = told_apart (n + 3 + k);
}

-- The number behind the names of the copy that `min` or `max` under a condition takes, from the j-th on.
abbrev pub behind_copy : ℕ → Ex → ℕ
behind_copy j (fun1 false f (comp_ex e gs)) = elim (at_last_condition gs) [
  | None ↦ j
  | Some t ↦ (told (opposite_of f e t) [] j).1
]
behind_copy j e = j

-- The number behind the names that a rule takes: only one takes any from the j-th on.
abbrev pub behind_names : ℕ → Rule → Ex → ℕ
behind_names j least_under_a_condition e = behind_copy j e
behind_names j r e = j

-- What makes b of a, where names have the types g, with reserved names from the n-th on and none from the m-th on: a rule, or that the
-- bound names of a are told apart.
pub data IsStep : ℕ → Names Ty → Ex → Ex → ℕ → Type 0 where
  by_a_rule : {n m : ℕ} {g : Names Ty} {a b : Ex} (count : ℕ) (rule : Rule) → rewrite (supply_at n count) g rule a ≡ Some b →
      n + 3 + count ≤ m → behind_names (n + 3 + count) rule a ≤ m → IsStep n g a b m
  told_anew : {n m : ℕ} {g : Names Ty} {a : Ex} → (told a [] n).1 ≤ m → IsStep n g a (told_apart n a) m

-- Steps of the relation R one after the other, each at some part of what the ones before left. A step takes its names from a number on
-- that no step before it has passed.
module _ (R : ℕ → Names Ty → Ex → Ex → ℕ → Type 0) where
  pub data Chain : ℕ → Names Ty → Ex → Ex → ℕ → Type 0 where
    at_rest : {n m : ℕ} {g : Names Ty} {e : Ex} → n ≤ m → Chain n g e e m
    one_more : {n s k m : ℕ} {g : Names Ty} {a b e : Ex} (c : In) → n ≤ s → R s (names_at c g) a b k → Chain k g (fill c b) e m →
        Chain n g (fill c a) e m
