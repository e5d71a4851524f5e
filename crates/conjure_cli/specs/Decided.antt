-- What the texts of the three files decide, where a solution is judged.
use Rattle.std.specs.Prelude.{◌≡◌, ℕ, ◌+◌, ◌≤◌, ◌⊎◌, false, List, length, IfSome}
use Rattle.ess_semantics.specs.Trees.{Stm}
use Rattle.ess_semantics.specs.Parameters.{fits_param, param_verdict}
use Rattle.ess_semantics.specs.Solutions.{Verdict, valid, verdict}
use Rattle.ess_semantics.specs.LargeSpecifications.{parameter_is_large, solution_is_large}
use Rattle.ess_io.specs.Trees.{start_of_file}
use Rattle.ess_translate_laws.specs.FileAssignments.{parameter_in, solution_in}
use Rattle.ess_translate.specs.Texts.{SpellsLettings}
use Rattle.ess_translate.specs.Answers.{IsEssence}
use Rattle.conjure_cli.specs.Seen.{FilesSeen, SinkSeen, limit}
use Rattle.conjure_cli.specs.Ending.{NoFault}

-- 0 where the solution is valid, else 1
abbrev pub status_by : Verdict → ℕ
status_by valid = 0
status_by _ = 1

-- The texts are those of a well typed specification S, a file F of a parameter that fits, and a file G of a solution, and no
-- number in S lies outside 64 bits under what they stand for.
pub record AreGood (essence param sol : List ℕ) (S F G : List Stm) : Type 0 where
  pub specification : IsEssence essence S
  pub parameter : SpellsLettings param F
  pub fits : param_verdict S (parameter_in S F) ≡ fits_param
  pub solution : SpellsLettings sol G
  pub small_parameter : parameter_is_large S (parameter_in S F) ≡ false
  pub small_solution : solution_is_large S (parameter_in S F) (solution_in S (parameter_in S F) G) ≡ false

-- Where the texts are good and within the limit the verdict decides the status, but for want of memory.
abbrev pub IsJudgeDecided : ℕ → List ℕ → List ℕ → List ℕ → Type 0
IsJudgeDecided status essence param sol =
    length essence ≤ limit → length param ≤ limit → length sol ≤ limit → (S F G : List Stm) → AreGood essence param sol S F G →
    (status ≡ status_by (verdict S (parameter_in S F) (solution_in S (parameter_in S F) G))) ⊎ (status ≡ 6)

-- Where a told tree has the three files and no fault came, their texts decide.
abbrev pub FilesDecide : ℕ → List ℕ → List ℕ → List ℕ → FilesSeen → FilesSeen → SinkSeen → SinkSeen → Type 0
FilesDecide status e p s before after out_before out_after = IfSome before.tree (λ tree.
    IfSome (start_of_file tree e (limit + 1)) (λ essence. IfSome (start_of_file tree p (limit + 1)) (λ param.
    IfSome (start_of_file tree s (limit + 1)) (λ sol. NoFault before after out_before out_after
    → IsJudgeDecided status essence param sol))))
