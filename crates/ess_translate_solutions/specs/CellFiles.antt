-- What is answered on a text of cells for a model with its header and given tables: the text of the solution for which they stand, or
-- why there is none.
use Rattle.std.specs.Prelude.{◌≡◌, ◌⊎◌, ℕ, true, List, [], ◌∷◌, ◌++◌, map, flat_map, Option, Some, None, codes}
use Rattle.std.specs.List.{list_any}
use Rattle.ess_semantics.specs.Values.{Text, Value}
use Rattle.ess_semantics.specs.Names.{Names}
use Rattle.ess_semantics.specs.Trees.{Stm, Ex}
use Rattle.ess_semantics.specs.Tables.{Table}
use Rattle.ess_semantics.specs.Assignments.{Assignment, nothing_given, env_of}
use Rattle.ess_semantics.specs.ModelTrees.{Header, Model}
use Rattle.ess_semantics.specs.Satisfaction.{Sat, model_verdict}
use Rattle.ess_semantics.specs.Plans.{values_stood_for}
use Rattle.ess_semantics.specs.LargeModels.{decl_is_large, declares_large, model_is_large}
use Rattle.ess_grammar.specs.CellTexts.{IsCells}
use Rattle.ess_grammar.specs.ValueTexts.{value_text}
use Rattle.ess_values_laws.specs.ItemNames.{item_name}
use Rattle.eprime_cells_laws.specs.TableReading.{cells_answer, tables, missing_letting, extra_letting, outside_domain}
use Rattle.eprime_verdicts.specs.declared.satisfying.PVerdict.{PVerdict}
use Rattle.eprime_verdicts.specs.ModelVerdicts.{IsVerdict}
use Rattle.ess_translate.specs.declared.refusal.Which.{Which}
use Rattle.ess_translate.specs.declared.refusal.TransNo.{TransNo}
use Rattle.ess_translate.specs.Texts.{Spells, IsRefusedFor}

-- ---- the text of a solution

-- The letting of a find: `letting x be {1, 2}`.
abbrev pub value_line : (Text → ℕ → Text) → Text × Value → Text
value_line f v = codes "letting " ++ v.0 ++ codes " be " ++ value_text f v.1 ++ codes "\n"

-- The lettings of several.
abbrev pub value_lines : (Text → ℕ → Text) → Names Value → Text
value_lines f vs = flat_map (value_line f) vs

-- The text of the values of finds under the parameter p of S: the language line, and the letting of each find in order.
abbrev pub solution_text : List Stm → Assignment → Names Value → Text
solution_text S p vs = codes "language Essence 1.3\n" ++ value_lines (item_name (env_of S p nothing_given).types) vs

-- ---- what cells stand for

-- The values that are all there.
abbrev pub all_there : Names Value → Names (Option Value)
all_there vs = map (λ v. (v.0, Some v.1)) vs

-- The values that are there.
abbrev pub there_of : Names (Option Value) → Names Value
there_of [] = []
there_of ((x, None) ∷ vs) = there_of vs
there_of ((x, Some v) ∷ vs) = (x, v) ∷ there_of vs

-- The first name without a value.
abbrev pub first_without : Names (Option Value) → Option Text
first_without [] = None
first_without ((x, None) ∷ vs) = Some x
first_without ((x, Some v) ∷ vs) = first_without vs

-- A refusal of values names the first that isn't there, or is for want of memory.
abbrev pub IsWithout : Names (Option Value) → TransNo → Type 0
IsWithout vs (TransNo.NotRepresented x) = first_without vs ≡ Some x
IsWithout vs TransNo.NoMemory = Unit {0}
IsWithout vs _ = ⊥

-- The text is one of the cells c for what the model is to find over the given tables q.
pub record AreCells (E : Model) (q : Names Table) (text : Text) (c : Names Table) : Type 0 where
  pub literals : Names Ex
  pub spells : Spells IsCells text literals
  pub are : cells_answer E.givens q E.finds literals ≡ tables c

-- The bytes are the text of the solution for which the cells in the text stand, under the parameter p.
pub record IsSolved (H : Header) (E : Model) (p : Assignment) (q : Names Table) (text bytes : Text) : Type 0 where
  pub c : Names Table
  pub vs : Names Value
  pub cells : AreCells E q text c
  pub satisfy : Sat E q c
  pub stand : values_stood_for H.statements H.reprs p c ≡ all_there vs
  pub written : bytes ≡ solution_text H.statements p vs

-- The cells in the text fail first at this.
abbrev pub FailsAt : Model → Names Table → Names Ex → PVerdict → Type 0
FailsAt E q cs (PVerdict.Missing x) = cells_answer E.givens q E.finds cs ≡ missing_letting x
FailsAt E q cs (PVerdict.Extra x) = cells_answer E.givens q E.finds cs ≡ extra_letting x
FailsAt E q cs (PVerdict.OutOfDomain x) = cells_answer E.givens q E.finds cs ≡ outside_domain x
FailsAt E q cs (PVerdict.False n) =
    (c : Names Table) × (cells_answer E.givens q E.finds cs ≡ tables c) × IsVerdict (PVerdict.False n) (model_verdict E q c)
FailsAt E q cs PVerdict.Yes = ⊥

-- Some number lies outside 64 bits: in a declared domain over the given tables, also where finds count as not declared, as while the
-- text is read, or in a constraint or the objective over the cells in the text.
abbrev pub IsLargeOver : Model → Names Table → Text → Type 0
IsLargeOver E q text =
    (declares_large E q ≡ true) ⊎ (list_any (decl_is_large E.givens q) E.finds ≡ true) ⊎
    ((c : Names Table) × AreCells E q text c × (model_is_large E q c ≡ true))

-- There is no solution: the reader of the text refuses it, the cells don't satisfy the model, a find has no value by all of its
-- representations, or a number lies outside 64 bits.
abbrev pub IsNotSolved : Header → Model → Assignment → Names Table → Text → TransNo → Type 0
IsNotSolved H E p q text (TransNo.Read Which.Solution why) = IsRefusedFor IsCells text why
IsNotSolved H E p q text (TransNo.Unsatisfied v) = (cs : Names Ex) × Spells IsCells text cs × FailsAt E q cs v
IsNotSolved H E p q text (TransNo.NotRepresented x) =
    (c : Names Table) × AreCells E q text c × Sat E q c × (first_without (values_stood_for H.statements H.reprs p c) ≡ Some x)
IsNotSolved H E p q text TransNo.Big = IsLargeOver E q text
IsNotSolved H E p q text TransNo.NoMemory = Unit {0}
IsNotSolved H E p q text _ = ⊥
