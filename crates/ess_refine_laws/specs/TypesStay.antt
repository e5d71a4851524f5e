-- Rewriting that keeps types: where the old tree has a type the new one has the same, at a part and so in the whole.
use Rattle.std.specs.Prelude.{◌≡◌, Some}
use Rattle.ess_semantics.specs.Names.{Names}
use Rattle.ess_semantics.specs.Trees.{Ex}
use Rattle.ess_semantics.specs.Types.{Ty}
use Rattle.ess_semantics.specs.Typing.{static, other, type_of}
use Rattle.ess_semantics.specs.Typed.{Typed}
use Rattle.ess_semantics.specs.Contexts.{In, fill}
use Rattle.ess_semantics.specs.NamesAt.{names_at}
use Rattle.ess_semantics.specs.Kept.{Kept}
use Rattle.ess_rules_laws.specs.Rewriting.{Rewritten}

-- Where the first tree has a type the second one has it too.
abbrev pub KeepsType : Names Ty → Ex → Ex → Type 0
KeepsType g a b = (t : Ty) → type_of a g ≡ Some t → type_of b g ≡ Some t

-- The second tree keeps the first one and its type; the first is no numeral and no name, which an index might read for what it
-- says and not for its value.
pub record KeptTyped (g : Names Ty) (a b : Ex) : Type 0 where
  pub kept : Kept g a b
  pub type_stays : KeepsType g a b
  pub says_nothing : static a ≡ other

-- A part that keeps its type keeps that of the whole, and so do any number of such rules, each at some part.
pub record WholesKeepTypes : Type 0 where
  pub at_a_part : (c : In) (g : Names Ty) (a b : Ex) → static a ≡ other → KeepsType (names_at c g) a b → KeepsType g (fill c a) (fill c b)
  pub by_any_rules : (g : Names Ty) (old new : Ex) → Rewritten Typed KeptTyped g old new → Kept g old new
  pub by_any_rules_types : (g : Names Ty) (old new : Ex) → Rewritten Typed KeptTyped g old new → KeepsType g old new
