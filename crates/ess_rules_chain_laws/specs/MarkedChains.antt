-- Chains of rules: each of the rules at any part, where it has what it asks, keeps meanings, types and marks of the whole.
use Rattle.std.specs.Prelude.{◌≡◌, true, Some}
use Rattle.ess_semantics.specs.Names.{Names}
use Rattle.ess_semantics.specs.Trees.{Ex}
use Rattle.ess_semantics.specs.Types.{Ty}
use Rattle.ess_semantics.specs.Scopes.{Scope, every}
use Rattle.ess_semantics.specs.Resolving.{resolve}
use Rattle.ess_semantics.specs.Typing.{static, other, type_of}
use Rattle.ess_semantics.specs.Typed.{Typed}
use Rattle.ess_semantics.specs.Contexts.{In, fill}
use Rattle.ess_semantics.specs.NamesAt.{names_at}
use Rattle.ess_semantics.specs.Kept.{Kept}
use Rattle.ess_semantics.specs.StaysAt.{StaysAt}
use Rattle.ess_types_laws.specs.SoundParts.{sound_parts}
use Rattle.ess_refine_laws.specs.TypesStay.{KeepsType}
use Rattle.ess_refine_laws.specs.MarksStay.{HasMarks}
use Rattle.ess_refine_laws.specs.AllRules.{Rule, Supply, rewrite}
use Rattle.ess_refine_types_laws.specs.TypesOfContainers.{MembersTold}
use Rattle.ess_refine_types_laws.specs.MarksOfContainers.{IsNewTo, keeps_marks}
use Rattle.ess_rules_types_laws.specs.TypesOfSources.{puts_terms, TermsFit}
use Rattle.ess_rules_marks_laws.specs.MarksOfRules.{is_marking}
use Rattle.ess_put_marks_laws.specs.MarksOfTerms.{OfferedMarked}
use Rattle.ess_put_marks_laws.specs.MarksOfOthers.{has_parts, PartsMarked}
use Rattle.ess_put_marks_laws.specs.MarksOfConditions.{is_of_conditions, ConditionsMarked}

-- What each rule asks so as to keep marks, group by group.
pub record MarksAsked (s : Supply) (g : Names Ty) (r : Rule) (e : Ex) : Type 0 where
  pub where_it_marks : is_marking r ≡ true → IsNewTo s.one e
  pub of_containers : keeps_marks r ≡ true → IsNewTo s.one e × MembersTold g r e
  pub of_terms : puts_terms r ≡ true → TermsFit s g r e × OfferedMarked s g r e
  pub of_parts : has_parts r ≡ true → PartsMarked s g r e
  pub of_conditions : is_of_conditions r ≡ true → ConditionsMarked s g r e

-- The second tree comes from the first one by rules, each at some part that has a type, where it keeps the part and its type and has
-- what it asks so as to keep marks.
pub data MarkedRewriting : Names Ty → Ex → Ex → Type 0 where
  as_marked : {g : Names Ty} {e : Ex} → MarkedRewriting g e e
  marked_at : {g : Names Ty} {a b e : Ex} (s : Supply) (r : Rule) (c : In) (t : Ty) → rewrite s (names_at c g) r a ≡ Some b →
      StaysAt Typed c g → type_of a (names_at c g) ≡ Some t → Kept (names_at c g) a b → KeepsType (names_at c g) a b →
      MarksAsked s (names_at c g) r a → MarkedRewriting g (fill c b) e → MarkedRewriting g (fill c a) e

-- Every rule keeps marks where it fires, has what it asks, and makes what has a type. It fires at no numeral and at no name, which an index
-- might read for what it says. So any number of them at parts keep meanings, types and marks; and a judged expression has marks, resolved,
-- so that a chain may begin there.
pub record ChainsKeepMarks : Type 0 where
  pub by_each_rule : (s : Supply) (g : Names Ty) (r : Rule) (e f : Ex) → rewrite s g r e ≡ Some f → MarksAsked s g r e → (t : Ty) →
      type_of f g ≡ Some t → HasMarks e g → HasMarks f g
  pub says_nothing : (s : Supply) (g : Names Ty) (r : Rule) (e f : Ex) → rewrite s g r e ≡ Some f → static e ≡ other
  pub by_any_rules : (g : Names Ty) (old new : Ex) → MarkedRewriting g old new → HasMarks old g →
      Kept g old new × KeepsType g old new × HasMarks new g
  pub from_judged : (s : Scope) (e new : Ex) → every sound_parts e s ≡ true → MarkedRewriting s.tys (resolve e s.tys) new →
      Kept s.tys (resolve e s.tys) new × KeepsType s.tys (resolve e s.tys) new × HasMarks new s.tys
