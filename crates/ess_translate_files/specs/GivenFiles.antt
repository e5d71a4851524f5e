-- What is answered on the text of a parameter for a model with its header: the given tables, or why there are none.
use Rattle.std.specs.Prelude.{◌≡◌, ◌⊎◌, ℕ, true, List, Some, None}
use Rattle.ess_semantics.specs.Values.{Text}
use Rattle.ess_semantics.specs.Names.{Names}
use Rattle.ess_semantics.specs.Trees.{Stm}
use Rattle.ess_semantics.specs.Tables.{Table}
use Rattle.ess_semantics.specs.Assignments.{Assignment}
use Rattle.ess_semantics.specs.ModelTrees.{Header, Model}
use Rattle.ess_semantics.specs.Plans.{given_tables}
use Rattle.ess_semantics.specs.LargeSpecifications.{tables_are_large}
use Rattle.ess_semantics.specs.LargeModels.{declares_large}
use Rattle.ess_domains_cells.specs.Kept.{kept}
use Rattle.ess_translate_laws.specs.FileAssignments.{parameter_in}
use Rattle.ess_translate_given_laws.specs.Counts.{too_many}
use Rattle.ess_translate_members_laws.specs.DeclaresMembers.{DeclaresMembers}
use Rattle.ess_translate.specs.declared.refusal.TransNo.{TransNo}
use Rattle.ess_translate.specs.Texts.{SpellsLettings}
use Rattle.ess_translate.specs.Answers.{IsParameter, IsNoParameter}

-- Under the parameter p no given or find of the header has too many cells, q are its tables, and the model declares them with their
-- members.
pub record HasTables (H : Header) (E : Model) (p : Assignment) (q : Names Table) : Type 0 where
  pub few : too_many H p ≡ None
  pub tables : given_tables H.statements H.reprs p ≡ Some q
  pub members : DeclaresMembers H E p q

-- The text is a file F of lettings that stands for the parameter p of the header, and q are its tables.
pub record IsGiven (H : Header) (E : Model) (text : Text) (F : List Stm) (p : Assignment) (q : Names Table) : Type 0 where
  pub parameter : IsParameter H.statements text F p
  pub has : HasTables H E p q

-- Some number lies outside 64 bits: in what the parameter p is asked for, or in a declared domain over its tables.
abbrev pub IsLargeFor : Header → Model → Assignment → Type 0
IsLargeFor H E p =
    (tables_are_large H.statements H.reprs p ≡ true) ⊎
    ((q : Names Table) × (given_tables H.statements H.reprs p ≡ Some q) × (declares_large E q ≡ true))

-- The parameter p has no tables: a given or find has too many cells, with their number, or the model declares other members, or a
-- number lies outside 64 bits.
abbrev pub HasNoTables : Header → Model → Assignment → TransNo → Type 0
HasNoTables H E p (TransNo.TooManyCells x k) = (n : ℕ) × (too_many H p ≡ Some (x, n)) × (k ≡ kept n)
HasNoTables H E p TransNo.HeaderBad =
    (q : Names Table) × (too_many H p ≡ None) × (given_tables H.statements H.reprs p ≡ Some q) × (DeclaresMembers H E p q → ⊥)
HasNoTables H E p TransNo.Big = IsLargeFor H E p
HasNoTables H E p TransNo.NoMemory = Unit {0}
HasNoTables H E p _ = ⊥

-- The text stands for a parameter that has no tables.
abbrev pub StandsForNoTables : Header → Model → Text → TransNo → Type 0
StandsForNoTables H E text why = (F : List Stm) × (p : Assignment) × IsParameter H.statements text F p × HasNoTables H E p why

-- The text gives no tables: it is no parameter of the header, or the parameter has none. A number outside 64 bits may lie in what is
-- asked of the parameter, before it is known to fit.
abbrev pub IsNotGiven : Header → Model → Text → TransNo → Type 0
IsNotGiven H E text (TransNo.TooManyCells x k) = StandsForNoTables H E text (TransNo.TooManyCells x k)
IsNotGiven H E text TransNo.HeaderBad = StandsForNoTables H E text TransNo.HeaderBad
IsNotGiven H E text TransNo.Big = (F : List Stm) × SpellsLettings text F × IsLargeFor H E (parameter_in H.statements F)
IsNotGiven H E text why = IsNoParameter H.statements text why
