-- What a term offers from which a value is picked: a lookup, a comprehension that has the picked value as its one item, and
-- no item where there is nothing to pick. An operator on the picked value becomes one on that item.
use Rattle.std.specs.Prelude.{◌≡◌, Bool, true, false, ◌&&◌, not, ℕ, zero, suc, List, [], ◌∷◌, Option, Some, None, option_map, is_some, if◌then◌else◌}
use Rattle.ess_semantics.specs.declared.words.Fun.{Fun}
use Rattle.ess_semantics.specs.Values.{Text, Value, items_of}
use Rattle.ess_semantics.specs.Trees.{Op, name_pat, Ex, Exs, name_ex, node_ex, comp_ex, fun1, more_exs, no_gens, from}
use Rattle.ess_semantics.specs.Operators.{connective}
use Rattle.ess_semantics.specs.Contexts.{guards}
use Rattle.ess_semantics.specs.Meaning.{Env, meaning}
use Rattle.ess_semantics.specs.Meets.{Meets}
use Rattle.ess_semantics.specs.Kept.{Keeps}
use Rattle.ess_rules_laws.specs.Rules.{Unused, IsNumber}
use Rattle.ess_rules_laws.specs.LiteralRules.{nth}

-- A value that is there, as a list.
abbrev pub found : Option Value → List Value
found None = []
found (Some v) = v ∷ []

-- The second expression looks up the value of the first: it has that value as its one item, or no item where there is none.
-- The tables meet its structures.
pub record Looked (t l : Ex) (env : Env) : Type 0 where
  pub items : option_map items_of (meaning l env) ≡ Some (found (meaning t env))
  pub met : Meets l env

-- ---- an operator on a picked value

-- The operands, with another one in the place of the k-th, from 1.
abbrev pub put_nth : Exs → ℕ → Ex → Exs
put_nth (more_exs a es) (suc zero) b = more_exs b es
put_nth (more_exs a es) (suc n) b = more_exs a (put_nth es n b)
put_nth es k b = es

-- Whether an operator has nothing where an operand has nothing: each but the connectives.
abbrev pub is_plain : Op → Bool
is_plain op = not (guards op) && not (is_some (connective op))

-- What picks the one item of a lookup, which is called x: of truth values `or([e | x <- l])`, of numbers `sum([e | x <- l])`.
abbrev pub picking : Bool → Text → Ex → Ex → Ex
picking true x l e = fun1 true Fun.Or (comp_ex e (from (name_pat x) l no_gens))
picking false x l e = fun1 false Fun.Sum (comp_ex e (from (name_pat x) l no_gens))

-- `N[t]` is `or([N[x] | x <- l])` or `sum([N[x] | x <- l])`, where t is the k-th operand of N, l looks it up, and x is a new name.
abbrev pub select : Text → ℕ → Ex → Ex → Option Ex
select x k l (node_ex b op es) =
    if is_plain op && is_some (nth es k) then Some (picking b x l (node_ex b op (put_nth es k (name_ex x)))) else None
select x k l e = None

-- There is a number, where the place isn't Boolean.
abbrev pub FitsNumber : Bool → Option Value → Type 0
FitsNumber true o = Unit {0}
FitsNumber false o = IsNumber o

-- The expression looks up the operand that is there.
abbrev pub LooksUp : Option Ex → Ex → Env → Type 0
LooksUp None l env = ⊥
LooksUp (Some t) l env = Looked t l env

-- What it counts on: l looks up the operand, and what isn't Boolean has a number.
abbrev pub Selects : ℕ → Ex → Ex → Env → Type 0
Selects k l (node_ex b op es) env = LooksUp (nth es k) l env × FitsNumber b (meaning (node_ex b op es) env)
Selects k l e env = Unit {0}

-- ---- a picked scalar by itself

-- `t` is `or([x | x <- l])` or `sum([x | x <- l])`, where l looks up t.
abbrev pub select_whole : Text → Ex → Ex → Option Ex
select_whole x l (node_ex b op es) = Some (picking b x l (name_ex x))
select_whole x l e = None

-- What it counts on: l looks up the term, not read as Boolean, and what isn't Boolean has a number.
abbrev pub SelectsWhole : Ex → Ex → Env → Type 0
SelectsWhole l (node_ex b op es) env = Looked (node_ex false op es) l env × FitsNumber b (meaning (node_ex b op es) env)
SelectsWhole l e env = Unit {0}

-- ---- the law

-- So they keep what they rewrite.
pub record SelectRulesKeep : Type 0 where
  pub of_an_operand : (x : Text) (k : ℕ) (l e f : Ex) → select x k l e ≡ Some f → Unused x e → (env : Env) → Selects k l e env → Keeps e f env
  pub of_the_whole : (x : Text) (l e f : Ex) → select_whole x l e ≡ Some f → (env : Env) → SelectsWhole l e env → Keeps e f env
