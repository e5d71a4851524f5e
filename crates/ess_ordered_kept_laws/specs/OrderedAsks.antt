-- What each rule of comprehensions whose items have an order counts on, and that it then keeps what it rewrites. Names come from the supply,
-- values are there by the guard, index domains are told by forms.
use Rattle.std.specs.Prelude.{◌≡◌, false, not, ℕ, List, [], ◌∷◌, Some, None, IsTrue, is_some}
use Rattle.ess_semantics.specs.Values.{Text}
use Rattle.ess_semantics.specs.Names.{Names}
use Rattle.ess_semantics.specs.NamesAt.{names_behind}
use Rattle.ess_semantics.specs.Trees.{name_pat, Ex, node_ex, comp_ex, Gens, from, fun1}
use Rattle.ess_semantics.specs.Types.{Ty}
use Rattle.ess_semantics.specs.Typed.{Typed}
use Rattle.ess_semantics.specs.Contexts.{AtEach}
use Rattle.ess_semantics.specs.Meaning.{Env, meaning}
use Rattle.ess_semantics.specs.Kept.{Keeps}
use Rattle.ess_rules_laws.specs.Rules.{Unused}
use Rattle.ess_rules_laws.specs.LiteralRules.{nth}
use Rattle.ess_rules_laws.specs.PartLookups.{FitsWhereThere}
use Rattle.ess_rules_laws.specs.AlternativeLookups.{FirstOperandThere}
use Rattle.ess_refine_laws.specs.AllRules.{Supply, OfSome}
use Rattle.ess_kind_rules_laws.specs.TermLookups.{picked_within}
use Rattle.ess_kind_rules_laws.specs.KindRules.{asks_truth}
use Rattle.ess_kinds_kept_laws.specs.LookupAsks.{OrAsks, FitsWithin, LookupAsks}
use Rattle.ess_kinds_kept_laws.specs.KindAsks.{RootFits}
use Rattle.ess_open_rules_laws.specs.OpenGenerators.{at_first_open}
use Rattle.ess_ordered_laws.specs.NumberedItems.{ordered_lookup}
use Rattle.ess_ordered_laws.specs.Laws.{NumberedApart, SourceTold}
use Rattle.ess_ordered_laws.specs.OrderedRules.{OrderedRule, an_item, of_an_item, source_by_indices, source_of_an_item, at_operand, ordered_rewrite}

-- At any depth: the comprehension is there, and its names are told apart; what is picked within isn't read as Boolean.
abbrev pub OrderedLookupAsks : Text → List Text → Ex → Env → Type 0
OrderedLookupAsks z [] e env = Unit {0}
OrderedLookupAsks z (y ∷ ys) e env = elim (picked_within e) [
  | None ↦ NumberedApart z ys e × FirstOperandThere e env
  | Some t ↦ Unused y e × IsTrue (not (asks_truth t)) × FitsWithin t e env × OrderedLookupAsks z ys t env
]

-- Of a comprehension over what is picked: names have values of their types, the new one doesn't stand in it, its source isn't read as
-- Boolean, and where that has a value so has the comprehension. The source has what its lookup asks, as an item by its number or as any
-- other term.
abbrev pub SourcePickedAsks : Supply → Names Ty → Ex → Env → Type 0
SourcePickedAsks s g (comp_ex e (from (name_pat y) t hs)) env = Typed g env × Unused s.other (comp_ex e (from (name_pat y) t hs))
    × IsTrue (not (asks_truth t)) × FitsWhereThere (Some t) false (comp_ex e (from (name_pat y) t hs)) env
    × OrAsks (ordered_lookup s.third s.parts t) (λ l. OrderedLookupAsks s.third s.parts t env) (LookupAsks g s.third s.parts t env)
SourcePickedAsks s g e env = Unit {0}

-- Of an operand: what is picked out of an item isn't read as Boolean; else it is such a comprehension.
abbrev pub OperandAsks : Supply → Names Ty → Ex → Env → Type 0
OperandAsks s g t env = OrAsks (ordered_lookup s.third s.parts t)
    (λ l. IsTrue (not (asks_truth t)) × OrderedLookupAsks s.third s.parts t env) (SourcePickedAsks s g t env)

-- Of the k-th operand.
abbrev pub AtOperandAsks : Supply → Names Ty → ℕ → Ex → Env → Type 0
AtOperandAsks s g k (node_ex b op es) env = OfSome (nth es k) (λ t. OperandAsks s g t env)
AtOperandAsks s g k e env = Unit {0}

-- What a rule at the first generator that isn't plain counts on, at each binding of the plain ones before it; P is told these.
abbrev pub BehindAsks : (Gens → Ex → Env → Type 0) → Ex → Env → Type 0
BehindAsks P (comp_ex e gs) env = OfSome (at_first_open gs) (λ t. AtEach t.before env (P t.before (comp_ex e t.after)))
BehindAsks P e env = Unit {0}

-- Of a source that is taken by its indices.
abbrev pub IndexedBehindAsks : Supply → Names Ty → Ex → Env → Type 0
IndexedBehindAsks s g e env = BehindAsks (λ gs. SourceTold (names_behind gs g) s.one) e env

-- Of a source that is an item: the new name doesn't stand in the comprehension, and the source isn't read as Boolean, has a value, and has
-- what its lookup asks.
abbrev pub ItemAsks : Supply → Ex → Env → Type 0
ItemAsks s (comp_ex e (from (name_pat y) t hs)) env = Unused s.other (comp_ex e (from (name_pat y) t hs)) × IsTrue (not (asks_truth t))
    × IsTrue (is_some (meaning t env)) × OrderedLookupAsks s.third s.parts t env
ItemAsks s e env = Unit {0}

-- The same of the operand of a word, or of the comprehension itself.
abbrev pub ItemBehindAsks : Supply → Ex → Env → Type 0
ItemBehindAsks s (fun1 m f (comp_ex e gs)) env = BehindAsks (λ ks. ItemAsks s) (comp_ex e gs) env
ItemBehindAsks s e env = BehindAsks (λ ks. ItemAsks s) e env

-- What the rule counts on at a root.
abbrev pub OrderedAsks : Supply → Names Ty → OrderedRule → Ex → Env → Type 0
OrderedAsks s g an_item e env = OrderedLookupAsks s.third s.parts e env × RootFits e env
OrderedAsks s g of_an_item e env = Unused s.one e × RootFits e env × (IsTrue (is_some (at_operand s g 1 e)) → AtOperandAsks s g 1 e env)
    × (IsTrue (is_some (at_operand s g 2 e)) → AtOperandAsks s g 2 e env)
OrderedAsks s g source_by_indices e env = IndexedBehindAsks s g e env
OrderedAsks s g source_of_an_item e env = ItemBehindAsks s e env

-- So each keeps what it rewrites.
abbrev pub OrderedRulesKeep : Type 0
OrderedRulesKeep = (s : Supply) (g : Names Ty) (r : OrderedRule) (e f : Ex) → ordered_rewrite s g r e ≡ Some f → (env : Env) →
    OrderedAsks s g r e env → Keeps e f env
