-- Rules of literals that keep types at the root: `in`, `freq` and `allDiff` of items that are laid open.
use Rattle.std.specs.Prelude.{◌≡◌, Bool, true, false, Some, IsTrue}
use Rattle.ess_semantics.specs.Names.{Names}
use Rattle.ess_semantics.specs.Trees.{Ex, node_ex, ex2}
use Rattle.ess_semantics.specs.Types.{Ty}
use Rattle.ess_semantics.specs.Typing.{types_of}
use Rattle.ess_types_laws.specs.WellBound.{tuples_have_parts}
use Rattle.ess_refine_laws.specs.TypesStay.{KeepsType}
use Rattle.ess_refine_laws.specs.AllRules.{Rule, in_a_literal, frequency_in_a_literal, different_items, Supply, rewrite}

-- Rules that are shown to keep types.
abbrev pub is_of_literals : Rule → Bool
is_of_literals in_a_literal = true
is_of_literals frequency_in_a_literal = true
is_of_literals different_items = true
is_of_literals r = false

-- What they count on: the tuples of a relation literal have parts, as they have in each text.
abbrev pub PartsTold : Names Ty → Rule → Ex → Type 0
PartsTold g in_a_literal (ex2 m o x (node_ex b op es)) = IsTrue (tuples_have_parts op (types_of es g))
PartsTold g r e = Unit {0}

-- So each of them keeps the type where it fires.
abbrev pub LiteralRulesKeepTypes : Type 0
LiteralRulesKeepTypes = (s : Supply) (g : Names Ty) (r : Rule) (e f : Ex) → rewrite s g r e ≡ Some f → is_of_literals r ≡ true →
    PartsTold g r e → KeepsType g e f
