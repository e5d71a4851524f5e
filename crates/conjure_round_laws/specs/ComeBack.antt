-- Tables that come back: what they stand for is written as a text of lettings, which is read again as a valid solution.
use Rattle.std.specs.Prelude.{◌≡◌, List, map, Some}
use Rattle.ess_semantics.specs.Values.{Text, Value}
use Rattle.ess_semantics.specs.Names.{Names}
use Rattle.ess_semantics.specs.Trees.{Stm}
use Rattle.ess_semantics.specs.Tables.{Table}
use Rattle.ess_semantics.specs.Assignments.{Assignment}
use Rattle.ess_semantics.specs.Solutions.{Sol, valid, verdict}
use Rattle.ess_semantics.specs.Plans.{Options, values_stood_for}
use Rattle.ess_grammar.specs.Statements.{IsLettingsFile}
use Rattle.ess_grammar.specs.Texts.{Reads}
use Rattle.ess_print_laws.specs.Laws.{ReadsInSubset}
use Rattle.ess_letting_texts_laws.specs.LettingTexts.{lettings_text, lettings_of}
use Rattle.ess_translate_laws.specs.FileAssignments.{parameter_in, solution_in, judged, files_verdict}
use Rattle.conjure_round_laws.specs.LetLiterals.{names_under}

-- The text is a file of lettings and no other one, what it stands for under the parameter p is a solution, and the verdict on it is valid.
pub record IsValidFile (S : List Stm) (p : Assignment) (text : Text) : Type 0 where
  pub file : List Stm
  pub reads : ReadsInSubset text (IsLettingsFile file)
  pub only : (G : List Stm) → Reads text (IsLettingsFile G) → G ≡ file
  pub solution : Sol S p (solution_in S p file)
  pub judges : verdict S p (solution_in S p file) ≡ valid
  pub files : (F : List Stm) → parameter_in S F ≡ p → files_verdict S F file ≡ judged valid

-- The tables c stand for a value of each find; the text of these values is a valid file, which stands for them.
pub record ComeBack (S : List Stm) (o : Options) (p : Assignment) (c : Names Table) : Type 0 where
  pub values : Names Value
  pub stood_for : values_stood_for S o p c ≡ map (λ v. (v.0, Some v.1)) values
  pub again : (solution_in S p (lettings_of (names_under S p) values)).vals ≡ values_stood_for S o p c
  pub text : IsValidFile S p (lettings_text (names_under S p) values)
