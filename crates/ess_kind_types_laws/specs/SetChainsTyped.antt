-- Chains of rules of views of sets, with other rewriting that keeps types and marks between them, keep types and marks.
use Rattle.std.specs.Prelude.{◌≡◌, true, Some}
use Rattle.ess_semantics.specs.Names.{Names}
use Rattle.ess_semantics.specs.Trees.{Ex}
use Rattle.ess_semantics.specs.Types.{Ty}
use Rattle.ess_semantics.specs.Typing.{type_of}
use Rattle.ess_semantics.specs.Contexts.{In, fill}
use Rattle.ess_semantics.specs.NamesAt.{names_at}
use Rattle.ess_refine_laws.specs.TypesStay.{KeepsType}
use Rattle.ess_refine_laws.specs.MarksStay.{HasMarks}
use Rattle.ess_refine_laws.specs.AllRules.{Supply}
use Rattle.ess_kind_rules_laws.specs.KindRules.{KindRule, kind_rewrite}
use Rattle.ess_kind_sizes_laws.specs.SetRules.{is_of_sets}
use Rattle.ess_kind_types_laws.specs.SetsTyped.{SetsTyped}

-- Rewriting that keeps the type and, where there is one, the marks.
pub record KeepsMarked (g : Names Ty) (a b : Ex) : Type 0 where
  pub type_stays : KeepsType g a b
  pub marks_stay : HasMarks a g → HasMarks b g

-- The second tree comes from the first one by rules of views of sets, each at some part that has a type, where it has what it asks, and by
-- other rewriting that keeps types and marks.
pub data TypedSetChain : Names Ty → Ex → Ex → Type 0 where
  as_typed : {g : Names Ty} {e : Ex} → TypedSetChain g e e
  set_at : {g : Names Ty} {e : Ex} (a b : Ex) (s : Supply) (r : KindRule) (c : In) (t : Ty) → kind_rewrite s (names_at c g) r a ≡ Some b →
      is_of_sets r ≡ true → SetsTyped s (names_at c g) r a → type_of a (names_at c g) ≡ Some t → TypedSetChain g (fill c b) e →
      TypedSetChain g (fill c a) e
  otherwise : {g : Names Ty} {a b e : Ex} → KeepsMarked g a b → TypedSetChain g b e → TypedSetChain g a e

-- So such a chain keeps both.
abbrev pub SetChainsKeepTypes : Type 0
SetChainsKeepTypes = (g : Names Ty) (old new : Ex) → TypedSetChain g old new → KeepsMarked g old new
