-- Steps of rules of openings with reserved names: what is given stays, for names that grow by those that a step takes.
use Rattle.std.specs.Prelude.{◌≡◌, Bool, true, false, ℕ}
use Rattle.ess_semantics.specs.Values.{Text}
use Rattle.ess_semantics.specs.Names.{Names}
use Rattle.ess_semantics.specs.NamesAt.{names_behind}
use Rattle.ess_semantics.specs.Trees.{name_pat, Ex, comp_ex, Gens, from}
use Rattle.ess_semantics.specs.Types.{Ty}
use Rattle.ess_refine_laws.specs.AllRules.{OfSome}
use Rattle.ess_chain_names_laws.specs.Steps.{supply_at}
use Rattle.ess_open_rules_laws.specs.OpenGenerators.{at_first_open}
use Rattle.ess_open_rules_laws.specs.OpenSources.{in_order_told}
use Rattle.ess_open_rules_laws.specs.OpenRules.{OpenRule, in_order_of_its_source}
use Rattle.ess_given_laws.specs.Given.{is_fixed}
use Rattle.ess_given_ordered_laws.specs.ess_given_opened_laws.OpenedStays.{GensKept}
use Rattle.ess_given_ordered_laws.specs.OrderedNames.{NamesAlong}

-- Where a source that isn't fixed is picked in order, its conditions are fixed where they read no table, for names v in which the third new
-- name is, and those for components, and those aren't that are bound over what is picked.
abbrev pub PickKept : (Text → Bool) → ℕ → ℕ → Names Ty → (Text → Bool) → Gens → Type 0
PickKept z n k g v (from (name_pat y) t hs) = is_fixed z t ≡ false → v (supply_at n k).third ≡ true →
    NamesAlong v (supply_at n k).parts t → OfSome (in_order_told (supply_at n k) g t) (λ a. GensKept v a.gens)
PickKept z n k g v gs = Unit {0}

-- So it is at the root that a rule rewrites. Who uses the rule delivers it where the names of an index are bound over domains, or over what
-- is fixed.
abbrev pub PicksKept : (Text → Bool) → ℕ → ℕ → Names Ty → (Text → Bool) → OpenRule → Ex → Type 0
PicksKept z n k g v in_order_of_its_source (comp_ex e gs) =
    OfSome (at_first_open gs) (λ t. PickKept z n k (names_behind t.before g) v t.after)
PicksKept z n k g v r e = Unit {0}
