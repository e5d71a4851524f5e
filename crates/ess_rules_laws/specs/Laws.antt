-- Laws of rewriting, each stated at a function that does nothing, so that its proof is checked with the code.
use Rattle.std.specs.Prelude.{◌≡◌, Bool, true, not, ◌∷◌}
use Rattle.ess_semantics.specs.Values.{Text, Value}
use Rattle.ess_semantics.specs.Order.{same_text}
use Rattle.ess_semantics.specs.Names.{Names}
use Rattle.ess_semantics.specs.Trees.{word, Ex, Gens, comp_ex, fun1}
use Rattle.ess_semantics.specs.Types.{Ty}
use Rattle.ess_semantics.specs.FreeNames.{FreeNamesAre}
use Rattle.ess_semantics.specs.Meaning.{Env, meaning}
use Rattle.ess_semantics.specs.Contexts.{In, fill, Where}
use Rattle.ess_semantics.specs.NamesAt.{names_at}
use Rattle.ess_semantics.specs.StaysAt.{StaysAt}
use Rattle.ess_semantics.specs.Typed.{Typed}
use Rattle.ess_semantics.specs.Kept.{Keeps, Kept, SameItems}
use Rattle.ess_semantics.specs.ExpressionJudgements.{forgets_order}
use Rattle.ess_semantics.specs.declared.words.Fun.{Fun}
use Rattle.ess_rules_laws.specs.Rewriting.{Rewritten}

-- A value of a name that isn't free in an expression changes no meaning, with tables or without. So a bound name may be any
-- name that isn't free there, and one that a parameter brings may be bound.
abbrev pub UnusedNamesChangeNothing : Type 0
UnusedNamesChangeNothing = (x : Text) (v : Value) (e : Ex) (env : Env) → FreeNamesAre (λ a. not (same_text x a)) e →
    meaning e (record env { vals = (x, v) ∷ env.vals }) ≡ meaning e env

-- A part of a tree may be replaced by one that means the same wherever the context of the part holds.
abbrev pub PartsMayBeReplaced : Type 0
PartsMayBeReplaced = (c : In) (a b : Ex) (env : Env) → Where c env (λ here. meaning a here ≡ meaning b here) → meaning (fill c a) env ≡ meaning (fill c b) env

-- What keeps a part wherever the context of the part holds keeps the whole.
abbrev pub StepsKeepTheWhole : Type 0
StepsKeepTheWhole = (c : In) (old new : Ex) (env : Env) → Where c env (Keeps old new) → Keeps (fill c old) (fill c new) env

-- A rule that keeps a part under the types of the names there, used anywhere in a tree, keeps the whole under the types of
-- the names in scope, where each generator on the way binds values of the types that it gives.
abbrev pub KeptPartsKeepTheWhole : Type 0
KeptPartsKeepTheWhole = (c : In) (g : Names Ty) (old new : Ex) → StaysAt Typed c g → Kept (names_at c g) old new → Kept g (fill c old) (fill c new)

-- Any number of such rules, one after the other at any parts, keep the whole.
abbrev pub RewritingKeepsTheWhole : Type 0
RewritingKeepsTheWhole = (g : Names Ty) (old new : Ex) → Rewritten Typed Kept g old new → Kept g old new

-- A word that forgets the order of a list means the same over comprehensions that have the same items equally often. So a rule
-- may change the order of a comprehension under one.
abbrev pub WordsForgetOrder : Type 0
WordsForgetOrder = (f : Fun) → forgets_order (word f) ≡ true → (b : Bool) (e e' : Ex) (gs hs : Gens) (env : Env) →
    SameItems (meaning (comp_ex e gs) env) (meaning (comp_ex e' hs) env) → meaning (fun1 b f (comp_ex e gs)) env ≡ meaning (fun1 b f (comp_ex e' hs)) env
