-- Rewriting that brings no new free names: a tree keeps mentioning no name of a kind, be it a find, or what isn't in scope.
use Rattle.std.specs.Prelude.{Bool}
use Rattle.ess_semantics.specs.Values.{Text}
use Rattle.ess_semantics.specs.Names.{Names}
use Rattle.ess_semantics.specs.Trees.{Ex}
use Rattle.ess_semantics.specs.Types.{Ty}
use Rattle.ess_semantics.specs.Typed.{Typed}
use Rattle.ess_semantics.specs.FreeNames.{FreeNamesAre}
use Rattle.ess_semantics.specs.Contexts.{In, fill}
use Rattle.ess_semantics.specs.Kept.{Kept}
use Rattle.ess_rules_laws.specs.Rewriting.{Rewritten}

-- Each free name of the second tree is one of the first: what all free names of the first have, those of the second have.
abbrev pub AddsNoNames : Ex → Ex → Type 0
AddsNoNames a b = (u : Text → Bool) → FreeNamesAre u a → FreeNamesAre u b

-- The second tree is kept and brings no new free name.
pub record KeptWithin (g : Names Ty) (a b : Ex) : Type 0 where
  pub kept : Kept g a b
  pub names : AddsNoNames a b

-- A part that brings no new name brings none to the whole. Any number of rules that keep what they rewrite and bring no new
-- name, each at some part, keep the whole and bring it none.
pub record NamesStay : Type 0 where
  pub at_a_part : (c : In) (a b : Ex) → AddsNoNames a b → AddsNoNames (fill c a) (fill c b)
  pub by_any_rules : (g : Names Ty) (old new : Ex) → Rewritten Typed KeptWithin g old new → KeptWithin g old new
