-- What each rule of comprehensions whose items have an order counts on beside values, and that it keeps what it rewrites where each part of
-- the tree has a value wherever its context holds, but for numbers in natural places.
use Rattle.std.specs.Prelude.{◌≡◌, Bool, not, ℕ, List, [], ◌∷◌, Some, None, IsTrue, is_some}
use Rattle.ess_semantics.specs.Values.{Text}
use Rattle.ess_semantics.specs.Names.{Names}
use Rattle.ess_semantics.specs.Trees.{name_pat, Ex, node_ex, comp_ex, from, fun1}
use Rattle.ess_semantics.specs.Types.{Ty}
use Rattle.ess_semantics.specs.Typed.{Typed}
use Rattle.ess_semantics.specs.Meaning.{Env}
use Rattle.ess_semantics.specs.Kept.{Keeps}
use Rattle.ess_rules_laws.specs.Rules.{Unused}
use Rattle.ess_rules_laws.specs.LiteralRules.{nth}
use Rattle.ess_refine_laws.specs.AllRules.{Supply, OfSome}
use Rattle.ess_values_along_laws.specs.Valued.{Valued}
use Rattle.ess_kind_rules_laws.specs.TermLookups.{picked_within}
use Rattle.ess_kind_rules_laws.specs.KindRules.{asks_truth}
use Rattle.ess_kinds_kept_laws.specs.LookupAsks.{OrAsks}
use Rattle.ess_open_counted_laws.specs.LookupsBeside.{LookupBeside}
use Rattle.ess_open_counted_laws.specs.PicksBeside.{RootTyped}
use Rattle.ess_ordered_laws.specs.NumberedItems.{ordered_lookup}
use Rattle.ess_ordered_laws.specs.Laws.{NumberedApart}
use Rattle.ess_ordered_laws.specs.OrderedRules.{OrderedRule, an_item, of_an_item, source_by_indices, source_of_an_item, at_operand, ordered_rewrite}
use Rattle.ess_ordered_kept_laws.specs.OrderedAsks.{BehindAsks, IndexedBehindAsks}

-- At any depth: names are told apart, and what is picked within isn't read as Boolean.
abbrev pub OrderedLookupBeside : Text → List Text → Ex → Type 0
OrderedLookupBeside z [] e = Unit {0}
OrderedLookupBeside z (y ∷ ys) e = elim (picked_within e) [
  | None ↦ NumberedApart z ys e
  | Some t ↦ Unused y e × IsTrue (not (asks_truth t)) × OrderedLookupBeside z ys t
]

-- Of a comprehension over what is picked: the new name doesn't stand in it, its source isn't read as Boolean, and has what its lookup asks.
abbrev pub SourcePickedBeside : Supply → Names Ty → Ex → Env → Type 0
SourcePickedBeside s g (comp_ex e (from (name_pat y) t hs)) env =
    Unused s.other (comp_ex e (from (name_pat y) t hs)) × IsTrue (not (asks_truth t))
    × OrAsks (ordered_lookup s.third s.parts t) (λ l. OrderedLookupBeside s.third s.parts t) (LookupBeside g s.third s.parts t env)
SourcePickedBeside s g e env = Unit {0}

-- Of an operand: what is picked out of an item isn't read as Boolean; else it is such a comprehension.
abbrev pub OperandBeside : Supply → Names Ty → Ex → Env → Type 0
OperandBeside s g t env = OrAsks (ordered_lookup s.third s.parts t)
    (λ l. IsTrue (not (asks_truth t)) × OrderedLookupBeside s.third s.parts t) (SourcePickedBeside s g t env)

-- Of the k-th operand.
abbrev pub AtOperandBeside : Supply → Names Ty → ℕ → Ex → Env → Type 0
AtOperandBeside s g k (node_ex b op es) env = OfSome (nth es k) (λ t. OperandBeside s g t env)
AtOperandBeside s g k e env = Unit {0}

-- Of a source that is an item.
abbrev pub ItemBeside : Supply → Ex → Env → Type 0
ItemBeside s (comp_ex e (from (name_pat y) t hs)) env =
    Unused s.other (comp_ex e (from (name_pat y) t hs)) × IsTrue (not (asks_truth t)) × OrderedLookupBeside s.third s.parts t
ItemBeside s e env = Unit {0}

-- The same of the operand of a word, or of the comprehension itself.
abbrev pub ItemBehindBeside : Supply → Ex → Env → Type 0
ItemBehindBeside s (fun1 m f (comp_ex e gs)) env = BehindAsks (λ ks. ItemBeside s) (comp_ex e gs) env
ItemBehindBeside s e env = BehindAsks (λ ks. ItemBeside s) e env

-- What the rule counts on beside values. Sources by their indices ask that index domains are told rightly.
abbrev pub OrderedBeside : Supply → Names Ty → OrderedRule → Ex → Env → Type 0
OrderedBeside s g an_item e env = OrderedLookupBeside s.third s.parts e × RootTyped g e
OrderedBeside s g of_an_item e env = Unused s.one e × RootTyped g e × (IsTrue (is_some (at_operand s g 1 e)) → AtOperandBeside s g 1 e env)
    × (IsTrue (is_some (at_operand s g 2 e)) → AtOperandBeside s g 2 e env)
OrderedBeside s g source_by_indices e env = IndexedBehindAsks s g e env
OrderedBeside s g source_of_an_item e env = ItemBehindBeside s e env

-- So each that fires keeps what it rewrites. w says that the tree stands in a natural place.
abbrev pub OrdersAreCountedOn : Type 0
OrdersAreCountedOn = (s : Supply) (g : Names Ty) (r : OrderedRule) (e f : Ex) → ordered_rewrite s g r e ≡ Some f → (env : Env) →
    Typed g env → OrderedBeside s g r e env → (w : Bool) → Valued w e env → Keeps e f env
