-- What each rule counts on that reads the kind of a view, and that it then keeps what it rewrites.
use Rattle.std.specs.Prelude.{◌≡◌, Bool, not, List, [], ◌∷◌, Some, IsTrue, is_some}
use Rattle.ess_semantics.specs.Values.{Text}
use Rattle.ess_semantics.specs.Names.{Names}
use Rattle.ess_semantics.specs.Trees.{name_pat, Ex, node_ex, comp_ex, fun1, from}
use Rattle.ess_semantics.specs.Types.{Ty}
use Rattle.ess_semantics.specs.Typed.{Typed}
use Rattle.ess_semantics.specs.Meaning.{Env, meaning}
use Rattle.ess_semantics.specs.Contexts.{Each}
use Rattle.ess_semantics.specs.Kept.{Keeps}
use Rattle.ess_rules_laws.specs.Rules.{Unused, OperandsThere}
use Rattle.ess_rules_laws.specs.Listings.{Alternative}
use Rattle.ess_rules_laws.specs.ListedSources.{SourceApart}
use Rattle.ess_rules_laws.specs.AtomViews.{AtomCounts}
use Rattle.ess_rules_laws.specs.SetSizes.{SizeOf}
use Rattle.ess_rules_laws.specs.OccurrenceViews.{MemberTold}
use Rattle.ess_rules_laws.specs.FunctionKeys.{ArgumentHeld, DefinedTold, ArgumentTold}
use Rattle.ess_rules_laws.specs.Lookups.{FitsNumber}
use Rattle.ess_views_laws.specs.ComponentViews.{component_view}
use Rattle.ess_views_laws.specs.MatrixViews.{item_view}
use Rattle.ess_views_kept_laws.specs.ComponentsKept.{FitsMark, ChildrenCovered}
use Rattle.ess_views_kept_laws.specs.ItemsKept.{IndexHeld}
use Rattle.ess_views_kept_laws.specs.ChildrenKept.{KnownChild, asked_view}
use Rattle.ess_views_kept_laws.specs.MultisetsKept.{LastNumbers}
use Rattle.ess_refine_laws.specs.AllRules.{Supply, OfSome}
use Rattle.ess_kind_rules_laws.specs.ViewListings.{slots_of_operand, partitioned_second, view_listing}
use Rattle.ess_kind_rules_laws.specs.KindRules.{KindRule, cell_of_an_atom, component_of_a_view, truth_in_a_matrix, asked_of_its_child, over_a_view, of_one_view, member_at_a_cell, member_of_a_multiset, argument_with_a_flag, member_of_a_part, size_at_the_marker, size_of_slots, size_of_a_multiset, size_of_a_function, size_of_the_parts, frequency_by_cells, lie_together, party_by_number, truth_at_an_argument, truth_behind_a_flag, of_what_is_picked, picked, asks_truth, first_picked, kind_rewrite, kind_rules, first_of_kinds}
use Rattle.ess_kinds_kept_laws.specs.NewNames.{TwoNew}
use Rattle.ess_kinds_kept_laws.specs.PartitionAsks.{PartyAsks, TogetherAsks}
use Rattle.ess_kinds_kept_laws.specs.MultisetAsks.{SizeAsks, FrequencyAsks}
use Rattle.ess_kinds_kept_laws.specs.FunctionAsks.{FunctionSizeAsks}
use Rattle.ess_kinds_kept_laws.specs.ViewAsks.{ViewAsks}
use Rattle.ess_kinds_kept_laws.specs.LookupAsks.{LookupAsks}

-- ---- folds

-- Names are told apart, and the first source is there and has what its listing asks.
abbrev pub ViewApart : Supply → Alternative → Ex → Ex → Env → Type 0
ViewApart s a t e env = (r : Text → Bool) × (u : Text → Bool) × SourceApart r u (a ∷ []) e × IsTrue (is_some (meaning t env))
    × ViewAsks s.one s.other s.parts t env

-- So it is of a fold over a view.
abbrev pub SourceAsks : Supply → Ex → Env → Type 0
SourceAsks s (fun1 m w (comp_ex e (from (name_pat y) t hs))) env =
    OfSome (view_listing s.one s.other s.parts t) (λ a. ViewApart s a t (fun1 m w (comp_ex e (from (name_pat y) t hs))) env)
SourceAsks s e env = Unit {0}

-- ---- what is picked

-- There is a number, where the root isn't Boolean.
abbrev pub RootFits : Ex → Env → Type 0
RootFits (node_ex b op es) env = FitsNumber b (meaning (node_ex b op es) env)
RootFits e env = Unit {0}

-- The first operand that picks a compound value isn't read as Boolean, and has what its lookup asks.
abbrev pub PickedAsks : Supply → Names Ty → Ex → Env → Type 0
PickedAsks s g (node_ex b op es) env = OfSome (first_picked g 1 es)
    (λ p. IsTrue (not (asks_truth p.1)) × LookupAsks g s.third (s.other ∷ s.parts) p.1 env)
PickedAsks s g e env = Unit {0}

-- ---- each rule

-- What the rule counts on at a root, beside that names have values of their types.
abbrev pub KindAsks : Supply → Names Ty → KindRule → Ex → Env → Type 0
KindAsks s g cell_of_an_atom e env = AtomCounts e env
KindAsks s g component_of_a_view e env = OfSome (component_view e) (FitsMark e) × ChildrenCovered e env
KindAsks s g truth_in_a_matrix e env = OfSome (item_view e) (FitsMark e) × IndexHeld e env
KindAsks s g asked_of_its_child e env = KnownChild (asked_view e) env
KindAsks s g over_a_view e env = SourceAsks s e env × OperandsThere e env
KindAsks s g of_one_view e env = SourceAsks s e env
KindAsks s g member_at_a_cell e env = MemberTold e env
KindAsks s g member_of_a_multiset e env = Unused s.one e × LastNumbers e env
KindAsks s g argument_with_a_flag e env = DefinedTold e env
KindAsks s g member_of_a_part e env = Unused s.one e
KindAsks s g size_at_the_marker e env = Unit {0}
KindAsks s g size_of_slots e env = SizeOf (slots_of_operand e) e env
KindAsks s g size_of_a_multiset e env = Unused s.one e × SizeAsks (slots_of_operand e) e env
KindAsks s g size_of_a_function e env = FunctionSizeAsks e env
KindAsks s g size_of_the_parts e env = Unit {0}
KindAsks s g frequency_by_cells e env = Unused s.one e × OperandsThere e env × FrequencyAsks (slots_of_operand e) e env
KindAsks s g lie_together e env = TwoNew s.one s.other e × Unused s.one (partitioned_second e) × OperandsThere e env
    × TogetherAsks (partitioned_second e) e env
KindAsks s g party_by_number e env = PartyAsks (partitioned_second e) e env
KindAsks s g truth_at_an_argument e env = ArgumentHeld e env
KindAsks s g truth_behind_a_flag e env = ArgumentTold e env
KindAsks s g of_what_is_picked e env = Unused s.one e × PickedAsks s g e env × RootFits e env
KindAsks s g picked e env = LookupAsks g s.third (s.other ∷ s.parts) e env × RootFits e env

-- Each rule that fires has what it counts on.
abbrev pub KindsFit : Supply → Names Ty → List KindRule → Ex → Env → Type 0
KindsFit s g rs e env = Each rs (λ r. IsTrue (is_some (kind_rewrite s g r e)) → KindAsks s g r e env)

-- So each rule keeps what it rewrites, and so do all together.
pub record KindRulesKeep : Type 0 where
  pub each : (s : Supply) (g : Names Ty) (r : KindRule) (e f : Ex) → kind_rewrite s g r e ≡ Some f → (env : Env) → Typed g env →
      KindAsks s g r e env → Keeps e f env
  pub together : (s : Supply) (g : Names Ty) (e f : Ex) → first_of_kinds s g kind_rules e ≡ Some f → (env : Env) → Typed g env →
      KindsFit s g kind_rules e env → Keeps e f env
