-- Steps of rules of comprehensions whose items have an order, with reserved names: what they count on at a source that isn't fixed.
use Rattle.std.specs.Prelude.{◌≡◌, Bool, true, false, ℕ}
use Rattle.ess_semantics.specs.Values.{Text}
use Rattle.ess_semantics.specs.Trees.{name_pat, Ex, Gens, from}
use Rattle.ess_refine_laws.specs.AllRules.{OfSome, only_one}
use Rattle.ess_chain_names_laws.specs.Steps.{supply_at}
use Rattle.ess_ordered_laws.specs.NumberedItems.{ordered_lookup}
use Rattle.ess_ordered_laws.specs.ToldAxes.{counted_axis}
use Rattle.ess_ordered_laws.specs.OrderedRules.{OrderedRule, source_by_indices, source_of_an_item}
use Rattle.ess_given_laws.specs.Given.{is_fixed, is_fixed_dom}
use Rattle.ess_given_ordered_laws.specs.ess_given_opened_laws.OpenedStays.{GensKept}
use Rattle.ess_given_ordered_laws.specs.OrderedNames.{AtSource, NamesAlong}

-- Where its index domain counts the items of written lists, that is fixed for names v.
abbrev pub CountsKept : (Text → Bool) → (Text → Bool) → Gens → Type 0
CountsKept z v (from (name_pat y) t hs) = is_fixed z t ≡ false → OfSome (counted_axis t) (λ d. is_fixed_dom v d ≡ true)
CountsKept z v gs = Unit {0}

-- Where it is an item, its conditions are fixed where they read no table, for names v in which the third new name is, and those for
-- generators, and those aren't that are bound over what is picked.
abbrev pub ItemKept : (Text → Bool) → ℕ → ℕ → (Text → Bool) → Gens → Type 0
ItemKept z n k v (from (name_pat y) t hs) = is_fixed z t ≡ false → v (supply_at n k).third ≡ true →
    NamesAlong v (supply_at n k).parts t →
    OfSome (only_one (ordered_lookup (supply_at n k).third (supply_at n k).parts t)) (λ a. GensKept v a.gens)
ItemKept z n k v gs = Unit {0}

-- So it is at the comprehension that a rule rewrites; under a word nothing is asked. Who uses the rule delivers it where the names of an
-- index are bound over domains, or over what is fixed.
abbrev pub SourcesKept : (Text → Bool) → ℕ → ℕ → (Text → Bool) → OrderedRule → Ex → Type 0
SourcesKept z n k v source_by_indices e = AtSource (CountsKept z v) e
SourcesKept z n k v source_of_an_item e = AtSource (ItemKept z n k v) e
SourcesKept z n k v r e = Unit {0}
