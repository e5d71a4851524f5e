-- Generators over a set or relation that is made of others become generators over one of these. The order of items stays.
use Rattle.std.specs.Prelude.{◌≡◌, true, false, Option, Some, None, if◌then◌else◌}
use Rattle.ess_semantics.specs.declared.words.Op1.{Op1}
use Rattle.ess_semantics.specs.declared.words.Op2.{Op2}
use Rattle.ess_semantics.specs.declared.words.Fun.{Fun}
use Rattle.ess_semantics.specs.Names.{Names}
use Rattle.ess_semantics.specs.Trees.{name_pat, Ex, name_ex, node_ex, comp_ex, ex1, ex2, fun1, from, cond}
use Rattle.ess_semantics.specs.Types.{Ty}
use Rattle.ess_semantics.specs.Typing.{type_of}
use Rattle.ess_semantics.specs.Typed.{Typed}
use Rattle.ess_semantics.specs.Meaning.{Env}
use Rattle.ess_semantics.specs.Kept.{Keeps}
use Rattle.ess_rules_laws.specs.Rules.{Unused, SoundExs}
use Rattle.ess_rules_laws.specs.InclusionRules.{both_sets}
use Rattle.ess_rules_laws.specs.Listings.{is_strict}
use Rattle.ess_rules_laws.specs.SpliceRules.{SourceThere}

-- `y <- a intersect b` is `y <- a, y in b`, `y <- a - b` is `y <- a, !(y in b)`, and `y <- toSet(s)` and `y <- parts(s)`
-- are `y <- s` where the list of s rises strictly.
abbrev pub generate : Names Ty → Ex → Option Ex
generate g (comp_ex e (from (name_pat y) (ex2 false Op2.Intersect a b) hs)) =
    if both_sets (type_of a g) (type_of b g) then Some (comp_ex e (from (name_pat y) a (cond (ex2 true Op2.Member (name_ex y) b) hs))) else None
generate g (comp_ex e (from (name_pat y) (ex2 false Op2.Minus a b) hs)) =
    if both_sets (type_of a g) (type_of b g) then Some (comp_ex e (from (name_pat y) a (cond (ex1 true Op1.Not (ex2 true Op2.Member (name_ex y) b)) hs))) else None
generate g (comp_ex e (from (name_pat y) (fun1 false Fun.ToSet s) hs)) = if is_strict (type_of s g) then Some (comp_ex e (from (name_pat y) s hs)) else None
generate g (comp_ex e (from (name_pat y) (fun1 false Fun.Parts s) hs)) = if is_strict (type_of s g) then Some (comp_ex e (from (name_pat y) s hs)) else None
generate g e = None

-- What it counts on: the bound name is none of the source, and the operands of the source are sound.
abbrev pub SourceSound : Names Ty → Ex → Type 0
SourceSound g (comp_ex e (from (name_pat y) (node_ex b op es) hs)) = Unused y (node_ex b op es) × SoundExs g es
SourceSound g e = Unit {0}

-- So it keeps what it rewrites, where the source has a value.
abbrev pub GenerateKeeps : Type 0
GenerateKeeps = (g : Names Ty) (e f : Ex) → generate g e ≡ Some f → SourceSound g e → (env : Env) → Typed g env → SourceThere e env → Keeps e f env
