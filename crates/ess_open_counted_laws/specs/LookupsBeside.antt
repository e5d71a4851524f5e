-- What a lookup counts on beside values, and that the rest follows where each part of the term has a value wherever its context holds.
use Rattle.std.specs.Prelude.{◌≡◌, Bool, true, not, List, [], ◌∷◌, Some, None, IsTrue}
use Rattle.ess_semantics.specs.Values.{Text, a_partition}
use Rattle.ess_semantics.specs.Names.{Names}
use Rattle.ess_semantics.specs.Trees.{Ex, node_ex, no_exs, more_exs}
use Rattle.ess_semantics.specs.Types.{Ty, compound1}
use Rattle.ess_semantics.specs.Typed.{Typed}
use Rattle.ess_semantics.specs.Meaning.{Env}
use Rattle.ess_rules_laws.specs.Rules.{Unused, SoundOperands}
use Rattle.ess_rules_laws.specs.FunctionLookups.{function_lookup}
use Rattle.ess_rules_laws.specs.AlternativeLookups.{list_lookup, function_literal_lookup}
use Rattle.ess_values_along_laws.specs.Valued.{Valued}
use Rattle.ess_counted_more_laws.specs.MoreCounted.{IsTyped}
use Rattle.ess_kind_rules_laws.specs.TermLookups.{picks, picked_within, view_item_lookup, domain_list_lookup, party_lookup, names_of_argument, function_view_lookup}
use Rattle.ess_kind_rules_laws.specs.KindRules.{asks_truth}
use Rattle.ess_kinds_kept_laws.specs.LookupAsks.{OrAsks, FunctionAsks, LookupAsks}

-- The last of two operands is a partition by its type.
abbrev pub LastPartition : Names Ty → Ex → Type 0
LastPartition g (node_ex b op (more_exs a (more_exs p no_exs))) = (t : Ty) × IsTyped g (compound1 a_partition t) p
LastPartition g e = Unit {0}

-- Of one lookup: names are new, the first domain of a view of a function can be listed, what a part is looked up in is a partition by its
-- type, and operands have values of their types.
abbrev pub OneBeside : Names Ty → Text → List Text → Ex → Env → Type 0
OneBeside g x zs e env =
    OrAsks (function_view_lookup x (names_of_argument zs e) e) (λ l. FunctionAsks x (names_of_argument zs e) e env)
    (OrAsks (view_item_lookup x e) (λ l. Unused x e)
    (OrAsks (party_lookup x e) (λ l. Unused x e × LastPartition g e)
    (OrAsks (function_lookup g x e) (λ l. Unused x e × SoundOperands g e) (Unit {0}))))

-- By alternatives.
abbrev pub AloneBeside : Names Ty → Text → List Text → Ex → Env → Type 0
AloneBeside g x zs e env =
    OrAsks (list_lookup e) (λ l. Unit {0})
    (OrAsks (domain_list_lookup x e) (λ l. Unused x e)
    (OrAsks (function_literal_lookup e) (λ l. Unit {0}) (OneBeside g x zs e env)))

-- At any depth: what is picked within isn't read as Boolean.
abbrev pub LookupBeside : Names Ty → Text → List Text → Ex → Env → Type 0
LookupBeside g x [] e env = Unit {0}
LookupBeside g x (y ∷ zs) e env = elim (picked_within e) [
  | None ↦ AloneBeside g x zs e env
  | Some t ↦ Unused y e × IsTrue (not (asks_truth t)) × LookupBeside g x zs t env
]

-- So a term that picks a value and isn't read as Boolean has what its lookup asks. w says that it stands in a natural place.
abbrev pub LookupsAreCountedOn : Type 0
LookupsAreCountedOn = (g : Names Ty) (x : Text) (ys : List Text) (e : Ex) → picks e ≡ true → IsTrue (not (asks_truth e)) → (env : Env) →
    Typed g env → (w : Bool) → Valued w e env → LookupBeside g x ys e env → LookupAsks g x ys e env
