-- Shorter rules of `|..|` and `freq`, of containers that are made of others and of literals.
use Rattle.std.specs.Prelude.{◌≡◌, Bool, true, false, pos, Option, Some, None, if◌then◌else◌}
use Rattle.ess_semantics.specs.declared.words.Op1.{Op1}
use Rattle.ess_semantics.specs.declared.words.Op2.{Op2}
use Rattle.ess_semantics.specs.declared.words.Fun.{Fun}
use Rattle.ess_semantics.specs.Values.{Text, a_function, a_partition}
use Rattle.ess_semantics.specs.Names.{Names}
use Rattle.ess_semantics.specs.Trees.{word, mset_literal, matrix_literal, name_pat, Ex, Exs, number_ex, node_ex, comp_ex, ex1, ex2, fun1, no_exs, more_exs, no_gens, from}
use Rattle.ess_semantics.specs.Types.{Ty, compound}
use Rattle.ess_semantics.specs.Typing.{type_of}
use Rattle.ess_semantics.specs.Typed.{Typed}
use Rattle.ess_semantics.specs.Meaning.{Env}
use Rattle.ess_semantics.specs.Kept.{Keeps}
use Rattle.ess_rules_laws.specs.Rules.{Unused, SoundOperands, OperandsThere}
use Rattle.ess_rules_laws.specs.InclusionRules.{both_sets}
use Rattle.ess_rules_laws.specs.SizeRules.{is_counted}

-- ---- what these rules count on

-- The operands of each operand are sound.
abbrev pub SoundInEach : Names Ty → Exs → Type 0
SoundInEach g no_exs = Unit {0}
SoundInEach g (more_exs e es) = SoundOperands g e × SoundInEach g es

-- The same of the operands of a tree.
abbrev pub SoundWithin : Names Ty → Ex → Type 0
SoundWithin g (node_ex b op es) = SoundInEach g es
SoundWithin g e = Unit {0}

-- A rule that reads the types of what its operands are made of keeps what it rewrites.
abbrev pub RuleKeepsWithin : (Names Ty → Text → Ex → Option Ex) → Type 0
RuleKeepsWithin rule =
    (g : Names Ty) (x : Text) (e f : Ex) → rule g x e ≡ Some f → Unused x e → SoundWithin g e → (env : Env) → Typed g env → Keeps e f env

-- The same where the operands have values.
abbrev pub RuleKeepsWithinThere : (Names Ty → Text → Ex → Option Ex) → Type 0
RuleKeepsWithinThere rule = (g : Names Ty) (x : Text) (e f : Ex) → rule g x e ≡ Some f → Unused x e → SoundWithin g e →
    (env : Env) → Typed g env → OperandsThere e env → Keeps e f env

-- ---- types

-- Whether the type is of functions.
abbrev pub is_function : Option Ty → Bool
is_function (Some (compound a_function ts)) = true
is_function t = false

-- Whether the type is of partitions.
abbrev pub is_partition : Option Ty → Bool
is_partition (Some (compound a_partition ts)) = true
is_partition t = false

-- ---- the rules

-- `|defined(f)|` and `|toRelation(f)|` are `|f|`, `|toMSet(s)|` is `|s|`, so is `|toSet(s)|` of a set or relation s, and
-- `|parts(p)|` is `sum([1 | x <- p])`.
abbrev pub size_made : Names Ty → Text → Ex → Option Ex
size_made g x (ex1 false Op1.Bar (fun1 false Fun.Defined f)) = if is_function (type_of f g) then Some (ex1 false Op1.Bar f) else None
size_made g x (ex1 false Op1.Bar (fun1 false Fun.ToRelation f)) = if is_function (type_of f g) then Some (ex1 false Op1.Bar f) else None
size_made g x (ex1 false Op1.Bar (fun1 false Fun.ToMSet s)) = if is_counted (type_of s g) then Some (ex1 false Op1.Bar s) else None
size_made g x (ex1 false Op1.Bar (fun1 false Fun.ToSet s)) =
    if both_sets (type_of s g) (type_of s g) then Some (ex1 false Op1.Bar s) else None
size_made g x (ex1 false Op1.Bar (fun1 false Fun.Parts p)) =
    if is_partition (type_of p g) then Some (fun1 false Fun.Sum (comp_ex (number_ex (pos 1)) (from (name_pat x) p no_gens))) else None
size_made g x e = None

-- `freq(toMSet(s), a)` is `toInt(a in s)`, where s is a set or a relation.
abbrev pub frequency_made : Names Ty → Text → Ex → Option Ex
frequency_made g x (node_ex false (word Fun.Freq) (more_exs (fun1 false Fun.ToMSet s) (more_exs a no_exs))) =
    if both_sets (type_of s g) (type_of s g) then Some (fun1 false Fun.ToInt (ex2 true Op2.Member a s)) else None
frequency_made g x e = None

-- For each of these, 1 where it is a, else 0.
abbrev pub ones_where : Ex → Exs → Exs
ones_where a no_exs = no_exs
ones_where a (more_exs b es) = more_exs (fun1 false Fun.ToInt (ex2 true Op2.Eq b a)) (ones_where a es)

-- `freq(mset(b, c, ..), a)` is `sum([toInt(b = a), toInt(c = a), ..])`.
abbrev pub frequency_listed : Ex → Option Ex
frequency_listed (node_ex false (word Fun.Freq) (more_exs (node_ex false mset_literal es) (more_exs a no_exs))) =
    Some (fun1 false Fun.Sum (node_ex false matrix_literal (ones_where a es)))
frequency_listed e = None
