-- What a lookup counts on, whatever the term that a value is picked out of, and that the value is then looked up.
use Rattle.std.specs.Prelude.{◌≡◌, false, not, List, [], ◌∷◌, Option, Some, None, IsTrue}
use Rattle.ess_semantics.specs.Values.{Text}
use Rattle.ess_semantics.specs.Names.{Names}
use Rattle.ess_semantics.specs.Trees.{Ex, node_ex}
use Rattle.ess_semantics.specs.Types.{Ty}
use Rattle.ess_semantics.specs.Typed.{Typed}
use Rattle.ess_semantics.specs.Meaning.{Env}
use Rattle.ess_semantics.specs.Meets.{Meets}
use Rattle.ess_rules_laws.specs.Rules.{Unused, SoundOperands, OperandsThere}
use Rattle.ess_rules_laws.specs.Listings.{Alternative}
use Rattle.ess_rules_laws.specs.Function1DViews.{function_1d_lookup}
use Rattle.ess_rules_laws.specs.Function1DPartialViews.{function_1d_partial_lookup}
use Rattle.ess_rules_laws.specs.FunctionNDViews.{function_nd_lookup}
use Rattle.ess_rules_laws.specs.FunctionNDPartialViews.{function_nd_partial_lookup}
use Rattle.ess_rules_laws.specs.FunctionViews.{AppliedThere, NamesUnused}
use Rattle.ess_rules_laws.specs.FunctionLookups.{function_lookup, unmarked}
use Rattle.ess_rules_laws.specs.PartLookups.{FitsWhereThere}
use Rattle.ess_rules_laws.specs.Lookups.{Looked}
use Rattle.ess_rules_laws.specs.AlternativeLookups.{LookedBy, list_lookup, function_literal_lookup, FirstOperandThere}
use Rattle.ess_kind_rules_laws.specs.TermLookups.{picked_within, view_item_lookup, domain_list_lookup, party_lookup, names_of_argument, function_view_lookup, one_lookup, looked_up_alone, looked_up}
use Rattle.ess_kind_rules_laws.specs.KindRules.{asks_truth}
use Rattle.ess_kinds_kept_laws.specs.PartyAsks.{LastParted}

-- P of what is there, else Q.
abbrev pub OrAsks : {A : Type 0} → Option A → (A → Type 0) → Type 0 → Type 0
OrAsks (Some a) P Q = P a
OrAsks None P Q = Q

-- Of a view of a function: the members of its first domain can be listed.
abbrev pub FunctionAsks : Text → List Text → Ex → Env → Type 0
FunctionAsks x zs e env =
    OrAsks (function_1d_lookup x e) (λ l. Unused x e × AppliedThere e env)
    (OrAsks (function_1d_partial_lookup x e) (λ l. Unused x e × AppliedThere e env)
    (OrAsks (function_nd_lookup zs e) (λ l. NamesUnused zs e × AppliedThere e env)
    (OrAsks (function_nd_partial_lookup zs e) (λ l. NamesUnused zs e × AppliedThere e env) (Unit {0}))))

-- Of one lookup: other functions are there, and partitions are such.
abbrev pub OneAsks : Names Ty → Text → List Text → Ex → Env → Type 0
OneAsks g x zs e env =
    OrAsks (function_view_lookup x (names_of_argument zs e) e) (λ l. FunctionAsks x (names_of_argument zs e) e env)
    (OrAsks (view_item_lookup x e) (λ l. Unused x e)
    (OrAsks (party_lookup x e) (λ l. Unused x e × LastParted e env)
    (OrAsks (function_lookup g x e) (λ l. Unused x e × SoundOperands g e × OperandsThere e env) (Unit {0}))))

-- By alternatives: literals are there.
abbrev pub AloneAsks : Names Ty → Text → List Text → Ex → Env → Type 0
AloneAsks g x zs e env =
    OrAsks (list_lookup e) (λ l. FirstOperandThere e env)
    (OrAsks (domain_list_lookup x e) (λ l. Unused x e × FirstOperandThere e env)
    (OrAsks (function_literal_lookup e) (λ l. FirstOperandThere e env) (OneAsks g x zs e env)))

-- Where the term within is there the root has a value that fits its place.
abbrev pub FitsWithin : Ex → Ex → Env → Type 0
FitsWithin t (node_ex b op es) env = FitsWhereThere (Some t) b (node_ex false op es) env
FitsWithin t e env = Unit {0}

-- At any depth: what is picked within isn't read as Boolean.
abbrev pub LookupAsks : Names Ty → Text → List Text → Ex → Env → Type 0
LookupAsks g x [] e env = Unit {0}
LookupAsks g x (y ∷ zs) e env = elim (picked_within e) [
  | None ↦ AloneAsks g x zs e env
  | Some t ↦ Unused y e × IsTrue (not (asks_truth t)) × FitsWithin t e env × LookupAsks g x zs t env
]

-- So the value is looked up.
pub record TermsAreLookedUp : Type 0 where
  pub by_one : (g : Names Ty) (x : Text) (zs : List Text) (e l : Ex) → one_lookup g x zs e ≡ Some l → (env : Env) → Typed g env →
      OneAsks g x zs e env → Meets e env → Looked (unmarked e) l env
  pub alone : (g : Names Ty) (x y : Text) (zs : List Text) (e : Ex) (l : List Alternative) → looked_up_alone g x y zs e ≡ Some l →
      (env : Env) → Typed g env → AloneAsks g x zs e env → Meets e env → LookedBy (unmarked e) l env
  pub at_any_depth : (g : Names Ty) (x : Text) (ys : List Text) (e : Ex) (l : List Alternative) → looked_up g x ys e ≡ Some l →
      (env : Env) → Typed g env → LookupAsks g x ys e env → Meets e env → LookedBy (unmarked e) l env
