-- What is given in domains, and comprehensions where order counts, stay along chains of all rules but those of counted
-- sources, with reserved names.
use Rattle.std.specs.Prelude.{◌≡◌, Bool, ℕ, suc, ◌+◌, ◌≤◌, ◌^◌, Some}
use Rattle.ess_semantics.specs.Values.{Text}
use Rattle.ess_semantics.specs.Names.{Names}
use Rattle.ess_semantics.specs.NamesAt.{names_at}
use Rattle.ess_semantics.specs.Trees.{Ex, ex2}
use Rattle.ess_semantics.specs.Types.{Ty}
use Rattle.ess_semantics.specs.Contexts.{In, fill}
use Rattle.ess_refine_laws.specs.AllRules.{equal_matrices_at, rewrite}
use Rattle.ess_chain_names_laws.specs.Steps.{supply_at}
use Rattle.ess_open_rules_laws.specs.OpenRules.{OpenRule, open_rewrite}
use Rattle.ess_gathered_laws.specs.GatheredConditions.{conditions_gathered}
use Rattle.ess_ordered_laws.specs.OrderedRules.{OrderedRule, ordered_rewrite}
use Rattle.ess_given_laws.specs.Given.{GivenIn}
use Rattle.ess_given_conditions_laws.specs.GivenAxes.{CountsFixed}
use Rattle.ess_given_conditions_laws.specs.GivenChains.{IsGivenStep, SparesAll}
use Rattle.ess_given_conditions_laws.specs.GrowingNames.{HasNoneFrom, Grows}
use Rattle.ess_given_order_laws.specs.InOrder.{Ordered}
use Rattle.ess_given_order_laws.specs.OrderStays.{StaysOrdered}
use Rattle.ess_given_offers_laws.specs.Seen.{Counts}
use Rattle.ess_given_kind_steps_laws.specs.GivenKindSteps.{IsKindStep}
use Rattle.ess_given_rulings_laws.specs.OpeningSteps.{PicksKept}
use Rattle.ess_given_rulings_laws.specs.OrderedSteps.{SourcesKept}

-- What both operands count, as comprehensions, is fixed.
abbrev pub BothCountFixed : (Text → Bool) → Ex → Type 0
BothCountFixed v (ex2 m o a b) = CountsFixed v a × CountsFixed v b
BothCountFixed v e = Unit {0}

-- A step of refining with reserved names from the n-th on, which leaves those from the m-th on, where the names of z are fixed: of the
-- rules that read no kind, or of new bound names; of rules that read the kind of a view; of openings, where what a name picks in order is
-- picked by what is fixed; where conditions are gathered; of comprehensions whose items have an order, where what counts the items of a
-- source or picks it is fixed; and of matrices compared over index domains, where these count nothing but what is fixed.
pub data IsRulingStep : (Text → Bool) → ℕ → Names Ty → Ex → Ex → ℕ → Type 0 where
  plainly : {z : Text → Bool} {n m : ℕ} {g : Names Ty} {a b : Ex} → IsGivenStep n g a b m → IsRulingStep z n g a b m
  by_kinds : {z : Text → Bool} {n m : ℕ} {g : Names Ty} {a b : Ex} → IsKindStep n g a b m → IsRulingStep z n g a b m
  by_opening : {z : Text → Bool} {n m : ℕ} {g : Names Ty} {a b : Ex} (count : ℕ) (rule : OpenRule) →
      open_rewrite (supply_at n count) g rule a ≡ Some b → n + 3 + count ≤ m →
      ((v : Text → Bool) → Grows n m z v → PicksKept z n count g v rule a) → IsRulingStep z n g a b m
  by_gathering : {z : Text → Bool} {n m : ℕ} {g : Names Ty} {a b : Ex} → conditions_gathered a ≡ Some b → n ≤ m → IsRulingStep z n g a b m
  by_order : {z : Text → Bool} {n m : ℕ} {g : Names Ty} {a b : Ex} (count : ℕ) (rule : OrderedRule) →
      ordered_rewrite (supply_at n count) g rule a ≡ Some b → n + 3 + count ≤ m →
      ((v : Text → Bool) → Grows n m z v → SourcesKept z n count v rule a) → IsRulingStep z n g a b m
  by_matrices : {z : Text → Bool} {n m : ℕ} {g : Names Ty} {a b : Ex} (count : ℕ) →
      rewrite (supply_at n count) g equal_matrices_at a ≡ Some b → n + 3 + count ≤ m →
      ((v : Text → Bool) → Grows n m z v → BothCountFixed v a) → IsRulingStep z n g a b m

-- So many steps, each at a part of the tree, whatever names come to be fixed with the reserved ones that are taken.
pub data RulingChain : ℕ → (Text → Bool) → ℕ → Names Ty → Ex → Ex → ℕ → Type 0 where
  at_rest : {z : Text → Bool} {n m : ℕ} {g : Names Ty} {e : Ex} → n ≤ m → RulingChain 0 z n g e e m
  one_more : {j : ℕ} {z : Text → Bool} {n s k m : ℕ} {g : Names Ty} {a b e : Ex} (c : In) → n ≤ s → s ≤ k → k ≤ m →
      IsRulingStep z s (names_at c g) a b k → ((v : Text → Bool) → Grows s k z v → RulingChain j v k g (fill c b) e m) →
      RulingChain (suc j) z n g (fill c a) e m

-- So what is given is given at the end, and comprehensions are in order where order counts, for names that grow by reserved ones: numbers
-- in domains, and conditions where order counts, read given tables alone. Of z is asked that it has no reserved name that may be taken, and
-- the name that sizes bind, which stands in no text.
pub record RulingChainsKeepGiven : Type 0 where
  pub at_a_part : (z : Text → Bool) (n m : ℕ) (g : Names Ty) (a b : Ex) (c : In) → IsRulingStep z n (names_at c g) a b m → m ≤ 2 ^ 64 →
      Counts z → HasNoneFrom n z → SparesAll n (fill c a) → GivenIn z (fill c a) → Ordered z (fill c a) → StaysOrdered n m z (fill c b)
  pub along : (j : ℕ) (z : Text → Bool) (n m : ℕ) (g : Names Ty) (old new : Ex) → RulingChain j z n g old new m → m ≤ 2 ^ 64 → Counts z →
      HasNoneFrom n z → SparesAll n old → GivenIn z old → Ordered z old → StaysOrdered n m z new
