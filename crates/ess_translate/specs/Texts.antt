-- What a text is read as, and why a reader refuses it.
use Rattle.std.specs.Prelude.{◌≡◌, List, Ok, Err}
use Rattle.std.specs.declared.result.Result.{Result}
use Rattle.ess_semantics.specs.Values.{Text}
use Rattle.ess_semantics.specs.Trees.{Stm}
use Rattle.ess_grammar.specs.Words.{Token}
use Rattle.ess_grammar.specs.Texts.{Reads, IsWithinLimits}
use Rattle.ess_grammar.specs.Statements.{IsSpecification, IsLettingsFile}
use Rattle.ess_parse.specs.declared.refusal.ReadNo.{ReadNo}
use Rattle.ess_parse.specs.Readers.{IsRefusedFirst, IsUnread, IsPlaced}

-- The rules derive the tree a for the text and no other one; no word stands outside the subset, and the load is within the
-- limit.
pub record Spells {A : Type 0} (Derives : A → List Token → Type 0) (text : Text) (a : A) : Type 0 where
  pub reads : Reads text (Derives a)
  pub limits : IsWithinLimits text
  pub only : (b : A) → Reads text (Derives b) → b ≡ a

-- A reader's answer other than a tree: the reason of a refusal, which want of memory is none.
abbrev pub IsReason : ReadNo → Type 0
IsReason ReadNo.NoMemory = ⊥
IsReason _ = Unit {0}

-- The text is refused for this reason: before its grammar is looked at, or since the rules derive no tree, at this place.
pub record IsRefusedFor {A : Type 0} (Derives : A → List Token → Type 0) (text : Text) (why : ReadNo) : Type 0 where
  pub reason : IsReason why
  pub first : IsRefusedFirst {T = A} text (Err why)
  pub unread : IsUnread {T = A} Derives text (Err why)
  pub placed : IsPlaced {T = A} Derives text (Err why)

-- What a reader answers: the tree that the text spells, the reason why it is refused, or want of memory.
abbrev pub IsReadAs : {T A : Type 0} → (A → List Token → Type 0) → (T → A) → Text → Result T ReadNo → Type 0
IsReadAs Derives view text (Ok t) = Spells Derives text (view t)
IsReadAs Derives view text (Err ReadNo.NoMemory) = Unit {0}
IsReadAs Derives view text (Err why) = IsRefusedFor Derives text why

-- The text is the specification S.
abbrev pub SpellsSpecification : Text → List Stm → Type 0
SpellsSpecification text S = Spells IsSpecification text S

-- The text is the file of lettings F.
abbrev pub SpellsLettings : Text → List Stm → Type 0
SpellsLettings text F = Spells IsLettingsFile text F
