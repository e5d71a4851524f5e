-- What is answered on the texts of a specification, a parameter and a solution, file after file.
use Rattle.std.specs.Prelude.{◌≡◌, ◌≢◌, ◌⊎◌, true, List, Some, None, option_map, Ok, Err}
use Rattle.std.specs.declared.result.Result.{Result}
use Rattle.ess_semantics.specs.Values.{Text}
use Rattle.ess_semantics.specs.Trees.{Stm}
use Rattle.ess_semantics.specs.Judgements.{fault}
use Rattle.ess_semantics.specs.Prepared.{prepared}
use Rattle.ess_semantics.specs.Assignments as pure
use Rattle.ess_semantics.specs.Parameters.{fits_param, param_verdict}
use Rattle.ess_semantics.specs.Solutions as solutions
use Rattle.ess_semantics.specs.Solutions.{verdict}
use Rattle.ess_semantics.specs.LargeSpecifications.{parameter_is_large, solution_is_large}
use Rattle.ess_grammar.specs.Statements.{IsSpecification, IsLettingsFile}
use Rattle.ess_translate_laws.specs.FileAssignments.{parameter_in, solution_in, judged, files_verdict}
use Rattle.ess_types.specs.Refusals.{refusal}
use Rattle.ess_types.specs.declared.checking.Typed.{Typed}
use Rattle.ess_core.specs.StatementViews.{pure_spec}
use Rattle.ess_domains.specs.declared.verdicts.ParamVerdict.{ParamVerdict}
use Rattle.ess_domains.specs.declared.verdicts.Verdict.{Verdict}
use Rattle.ess_domains.specs.declared.assignments.Assignment.{Assignment}
use Rattle.ess_domains.specs.Assignments.{pure_assignment}
use Rattle.ess_domains.specs.Verdicts.{pure_param_verdict, pure_verdict, cut_param, cut}
use Rattle.ess_translate.specs.declared.refusal.Which.{Which}
use Rattle.ess_translate.specs.declared.refusal.TransNo.{TransNo}
use Rattle.ess_translate.specs.Texts.{SpellsSpecification, SpellsLettings, IsRefusedFor}

-- ---- the specification

-- A specification that is well typed, and beside it its statements prepared.
pub record IsTyped (t : Typed) : Type 0 where
  pub well : fault (pure_spec t.spec) ≡ None
  pub whole : pure_spec t.prepared ≡ prepared (pure_spec t.spec)

-- The text is the well typed specification S.
pub record IsEssence (text : Text) (S : List Stm) : Type 0 where
  pub spells : SpellsSpecification text S
  pub typed : fault S ≡ None

-- The text is no well typed specification: its reader refuses it, or a statement fails a judgement.
abbrev pub IsNoEssence : Text → TransNo → Type 0
IsNoEssence text (TransNo.Read Which.Essence why) = IsRefusedFor IsSpecification text why
IsNoEssence text (TransNo.Typing why) = (S : List Stm) × SpellsSpecification text S × (option_map refusal (fault S) ≡ Some why)
IsNoEssence text TransNo.NoMemory = Unit {0}
IsNoEssence text _ = ⊥

-- ---- the parameter

-- The text is a file of lettings that stands for the parameter p of the specification S.
pub record IsParameter (S : List Stm) (text : Text) (F : List Stm) (p : pure.Assignment) : Type 0 where
  pub spells : SpellsLettings text F
  pub stands : p ≡ parameter_in S F
  pub fits : param_verdict S p ≡ fits_param

-- What the file stands for doesn't fit, for the first reason, as it is told.
pub record IsUnfit (S : List Stm) (F : List Stm) (why : ParamVerdict) : Type 0 where
  pub told : pure_param_verdict why ≡ cut_param (param_verdict S (parameter_in S F))
  pub unfit : param_verdict S (parameter_in S F) ≢ fits_param

-- The text is no parameter of S: its reader refuses it, it doesn't fit, or a number is outside 64 bits.
abbrev pub IsNoParameter : List Stm → Text → TransNo → Type 0
IsNoParameter S text (TransNo.Read Which.Param why) = IsRefusedFor IsLettingsFile text why
IsNoParameter S text (TransNo.InvalidParameter why) = (F : List Stm) × SpellsLettings text F × IsUnfit S F why
IsNoParameter S text TransNo.Big = (F : List Stm) × SpellsLettings text F × (parameter_is_large S (parameter_in S F) ≡ true)
IsNoParameter S text TransNo.NoMemory = Unit {0}
IsNoParameter S text _ = ⊥

-- What is answered on a file F of a parameter that is read: the parameter that it stands for, or why it doesn't fit.
abbrev pub FitsOrNot : List Stm → List Stm → Result Assignment TransNo → Type 0
FitsOrNot S F (Ok p) = (pure_assignment p ≡ parameter_in S F) × (param_verdict S (parameter_in S F) ≡ fits_param)
FitsOrNot S F (Err (TransNo.InvalidParameter why)) = IsUnfit S F why
FitsOrNot S F (Err TransNo.Big) = parameter_is_large S (parameter_in S F) ≡ true
FitsOrNot S F (Err TransNo.NoMemory) = Unit {0}
FitsOrNot S F (Err _) = ⊥

-- ---- the solution

-- The text is a file of lettings, and the verdict on what it stands for under the parameter p of S is this one, as it is told.
abbrev pub IsJudged : List Stm → pure.Assignment → Text → Verdict → Type 0
IsJudged S p text v = (G : List Stm) × SpellsLettings text G × (pure_verdict v ≡ cut (verdict S p (solution_in S p G)))

-- There is no verdict: the reader of the text refuses it, or a number is outside 64 bits.
abbrev pub IsNotJudged : List Stm → pure.Assignment → Text → TransNo → Type 0
IsNotJudged S p text (TransNo.Read Which.Solution why) = IsRefusedFor IsLettingsFile text why
IsNotJudged S p text TransNo.Big = (G : List Stm) × SpellsLettings text G × (solution_is_large S p (solution_in S p G) ≡ true)
IsNotJudged S p text TransNo.NoMemory = Unit {0}
IsNotJudged S p text _ = ⊥

-- What is answered on a file G of a solution that is read.
abbrev pub JudgedOrNot : List Stm → pure.Assignment → List Stm → Result Verdict TransNo → Type 0
JudgedOrNot S p G (Ok v) = pure_verdict v ≡ cut (verdict S p (solution_in S p G))
JudgedOrNot S p G (Err TransNo.Big) = solution_is_large S p (solution_in S p G) ≡ true
JudgedOrNot S p G (Err TransNo.NoMemory) = Unit {0}
JudgedOrNot S p G (Err _) = ⊥

-- ---- all three

-- The three texts are a specification, a file of a parameter and a file of a solution, with this verdict as it is told.
pub record IsValidated (essence param sol : Text) (v : Verdict) : Type 0 where
  pub S : List Stm
  pub F : List Stm
  pub G : List Stm
  pub specification : IsEssence essence S
  pub parameter : SpellsLettings param F
  pub solution : SpellsLettings sol G
  pub w : solutions.Verdict
  pub judges : files_verdict S F G ≡ judged w
  pub told : pure_verdict v ≡ cut w

-- The first of the texts that is refused, and why: a text is looked at where those before it aren't refused.
abbrev pub IsNotValidated : Text → Text → Text → TransNo → Type 0
IsNotValidated essence param sol why =
    IsNoEssence essence why ⊎
    ((S : List Stm) × IsEssence essence S × IsNoParameter S param why) ⊎
    ((S : List Stm) × (F : List Stm) × (p : pure.Assignment) × IsEssence essence S × IsParameter S param F p × IsNotJudged S p sol why)
