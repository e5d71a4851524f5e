-- What is said of items of comprehensions by their numbers, of comprehensions over what is picked or over an item, and of sources by their
-- indices.
use Rattle.std.specs.Prelude.{◌≡◌, true, false, ◌||◌, not, [], ◌∷◌, List, length, Option, Some, IsTrue, is_some}
use Rattle.ess_semantics.specs.Values.{Text, Value, of_list, matrix, a_matrix}
use Rattle.ess_semantics.specs.Order.{same_text}
use Rattle.ess_semantics.specs.Names.{Names}
use Rattle.ess_semantics.specs.Trees.{by_value, index, name_pat, Ex, name_ex, node_ex, comp_ex, no_exs, more_exs, Gens, no_gens, over, from, cond, Dom}
use Rattle.ess_semantics.specs.Substitution.{substitute, substitute_gens, for_name, NamesAre}
use Rattle.ess_semantics.specs.Types.{Ty, compound2, is_bool}
use Rattle.ess_semantics.specs.Typing.{type_of}
use Rattle.ess_semantics.specs.Meaning.{Env, meaning, domain_of, members_in}
use Rattle.ess_semantics.specs.Contexts.{Each}
use Rattle.ess_semantics.specs.Meets.{Meets, MeetsDom}
use Rattle.ess_semantics.specs.Kept.{Keeps}
use Rattle.ess_rules_laws.specs.Rules.{Unused, IsTruth}
use Rattle.ess_rules_laws.specs.MatrixRules.{UnusedDom}
use Rattle.ess_rules_laws.specs.Listings.{Alternative}
use Rattle.ess_rules_laws.specs.FunctionLookups.{unmarked}
use Rattle.ess_rules_laws.specs.PartLookups.{FitsWhereThere}
use Rattle.ess_rules_laws.specs.AlternativeLookups.{LookedBy, FirstOperandThere}
use Rattle.ess_ordered_laws.specs.NumberedItems.{number_behind, numbered_lookup}
use Rattle.ess_ordered_laws.specs.PickedSources.{each_source}
use Rattle.ess_ordered_laws.specs.SourcesOfItems.{over_the_item}
use Rattle.ess_ordered_laws.specs.ToldAxes.{told_axis}
use Rattle.ess_ordered_laws.specs.IndexedSources.{indexed_source}

-- Names are told apart along the generators: a new name stands neither in the number nor in what it is put into; the name that it takes the
-- place of doesn't stand in its own domain; and neither is bound behind it.
abbrev pub GensApart : List Text → Ex → Gens → Ex → Type 0
GensApart [] e gs i = Unit {0}
GensApart (w ∷ ws) e (cond c gs) i = GensApart ws e gs i
GensApart (w ∷ ws) e (over (name_pat x) d gs) i =
    Unused w i × Unused w (comp_ex e gs) × UnusedDom w d × UnusedDom x d × (same_text x w ≡ false)
    × NamesAre (λ a. true) (λ a. not (same_text x a || same_text w a)) (comp_ex e gs)
    × GensApart ws (substitute (for_name x (name_ex w)) e) (substitute_gens (for_name x (name_ex w)) gs) (number_behind w x d gs i)
GensApart (w ∷ ws) e gs i = Unit {0}

-- Over the domain of an atom alone the bound name stands neither in the number nor in its own domain, and the one for members that are
-- counted is another one, which doesn't stand in the domain.
abbrev pub NumberedApart : Text → List Text → Ex → Type 0
NumberedApart z ws (node_ex b (index (by_value ∷ [])) (more_exs (comp_ex e (over (name_pat x) d no_gens)) (more_exs i no_exs))) =
    Unused x i × UnusedDom x d × UnusedDom z d × (same_text z x ≡ false)
NumberedApart z ws (node_ex b (index (by_value ∷ [])) (more_exs (comp_ex e gs) (more_exs i no_exs))) = GensApart ws e gs i
NumberedApart z ws e = Unit {0}

-- The alternatives look the item up, where the comprehension has a value.
abbrev pub ItemsAreNumbered : Type 0
ItemsAreNumbered = (z : Text) (ws : List Text) (t : Ex) (l : List Alternative) → numbered_lookup z ws t ≡ Some l → NumberedApart z ws t →
    (env : Env) → FirstOperandThere t env → Meets t env → LookedBy (unmarked t) l env

-- ---- comprehensions over what is picked

-- The alternatives of its source look the comprehension up, where it has a value wherever its source has one. The new name doesn't stand in it.
abbrev pub SourcesArePicked : Type 0
SourcesArePicked = (x y : Text) (t e : Ex) (hs : Gens) (l : List Alternative) → Unused x (comp_ex e (from (name_pat y) t hs)) → (env : Env) →
    FitsWhereThere (Some t) false (comp_ex e (from (name_pat y) t hs)) env → LookedBy t l env →
    Meets (comp_ex e (from (name_pat y) t hs)) env → LookedBy (comp_ex e (from (name_pat y) t hs)) (each_source x y l e hs) env

-- ---- sources that are items

-- A generator over the one value that the alternative picks, and over what that holds, has the items of the source, in order, where that has
-- a value and the alternative looks it up. The new name doesn't stand in the comprehension.
abbrev pub ItemsAreSources : Type 0
ItemsAreSources = (z y : Text) (t e : Ex) (hs : Gens) (a : Alternative) → Unused z (comp_ex e (from (name_pat y) t hs)) → (env : Env) →
    IsTrue (is_some (meaning t env)) → LookedBy t (a ∷ []) env →
    Keeps (comp_ex e (from (name_pat y) t hs)) (over_the_item z y e hs a) env

-- ---- sources by their indices

-- The term is a matrix over the domain: its indices are the members, in order, and there is an item at each.
pub record MatrixOver (t : Ex) (d : Dom) (env : Env) : Type 0 where
  pub indices : List Value
  pub items : List Value
  pub value : meaning t env ≡ Some (matrix (of_list indices) (of_list items))
  pub as_many : length indices ≡ length items
  pub axis : members_in (domain_of d env) ≡ Some indices
  pub met : MeetsDom d env

-- Where the domain is told, and the type of the items: so it is, and items of the type of truth values are such.
abbrev pub IndicesTold : Option Dom → Option Ty → Ex → Env → Type 0
IndicesTold (Some d) (Some (compound2 a_matrix i u)) t env =
    (m : MatrixOver t d env) × (is_bool (Some u) ≡ true → Each m.items (λ v. IsTruth (Some v)))
IndicesTold o p t env = Unit {0}

-- The new name doesn't stand in the first source, and its index domain is told rightly.
abbrev pub SourceTold : Names Ty → Text → Ex → Env → Type 0
SourceTold g x (comp_ex e (from (name_pat y) t hs)) env = Unused x t × IndicesTold (told_axis t) (type_of t g) t env
SourceTold g x e env = Unit {0}

-- So a source by its indices keeps the comprehension, in order.
abbrev pub SourcesKeep : Type 0
SourcesKeep = (g : Names Ty) (x : Text) (e f : Ex) → indexed_source g x e ≡ Some f → (env : Env) → SourceTold g x e env → Keeps e f env
