-- What is counted, count by count: over the calls of the self-test with the number N, each on the texts that those before it answered.
use Rattle.std.specs.Prelude.{◌≡◌, ◌⊎◌, ℕ, ◌+◌, ◌*◌, Bool, true, false, List, [], None, length, IsTrue}
use Rattle.std.specs.List.{list_all}
use Rattle.ess_semantics.specs.Values.{Text}
use Rattle.ess_semantics.specs.Trees.{Stm}
use Rattle.ess_semantics.specs.Plans.{Options, all_chosen}
use Rattle.ess_grammar.specs.Models.{is_readable_model}
use Rattle.ess_grammar.specs.ModelTexts.{ReadsModel}
use Rattle.eprime_tree.specs.ModelText.{model_text, is_head_line}
use Rattle.eprime_tree.specs.Views.{pure_model}
use Rattle.eprime_tree.specs.declared.models.PModel.{PModel}
use Rattle.ess_domains.specs.declared.verdicts.Verdict.{Verdict}
use Rattle.ess_translate.specs.declared.refusal.TransNo.{TransNo}
use Rattle.ess_translate.specs.Texts.{SpellsLettings}
use Rattle.ess_translate.specs.Answers.{IsEssence, IsValidated, IsNotValidated}
use Rattle.ess_translate_solutions.specs.Translations.{AreNotGiven, IsParameterText, IsSolutionText, IsNoSolutionText}
use Rattle.ess_models.specs.Modelled.{IsTextOf}
use Rattle.conjure_modelling.specs.declared.refusal.ModelNo.{ModelNo}
use Rattle.conjure_modelling.specs.Modelled.{IsTold, IsUnmodelled}
use Rattle.conjure_cli.specs.Texts.{pairs, specification_text, parameter_text}
use Rattle.conjure_cli.specs.CellTexts.{cells_text}
use Rattle.conjure_cli.specs.Members.{all_members}
use Rattle.conjure_cli.specs.declared.counts_line.Counts.{Counts}

-- ---- the constraints of the model

-- The text is that of the model m, which has n constraints, and it is read as this model where some text is.
pub record IsPrinted (m : PModel) (text : Text) (n : ℕ) : Type 0 where
  pub spells : text ≡ model_text m.head (pure_model m)
  pub read : IsTrue (is_readable_model (pure_model m)) → IsTrue (list_all is_head_line m.head) → ReadsModel text m.head (pure_model m)
  pub count : n ≡ length (pure_model m).rules

-- The text `model` is written for the specification S with these representations, and the model in it has n constraints.
pub record IsMadeWith (S : List Stm) (o : Options) (model : Text) (n : ℕ) : Type 0 where
  pub written : IsTextOf S o model
  pub count : n ≡ length written.model.rules

-- The same with the default representations.
abbrev pub IsMade : List Stm → Text → ℕ → Type 0
IsMade S model n = IsMadeWith S (all_chosen S []) model n

-- The text `model` is that of a model that is built for the specification that `text` is, and this model has n constraints.
abbrev pub IsMadeFor : Text → Text → ℕ → Type 0
IsMadeFor text model n = (S : List Stm) × IsEssence text S × IsMade S model n

-- A refusal of `modelling` that is told; want of memory is another one.
abbrev pub IsToldOfModel : ModelNo → Type 0
IsToldOfModel ModelNo.NoMemory = ⊥
IsToldOfModel _ = Unit {0}

-- `modelling` refuses the text.
abbrev pub HasNoModel : Text → Type 0
HasNoModel text = (why : ModelNo) × IsToldOfModel why × IsUnmodelled text None why

-- ---- the members of the sets

-- Whether the verdict is that a solution is one.
abbrev pub is_valid : Verdict → Bool
is_valid Verdict.Valid = true
is_valid _ = false

-- The text is a file of lettings in which the sets have n members.
pub record HasMembers (N : ℕ) (sol : Text) (n : ℕ) : Type 0 where
  pub file : List Stm
  pub spells : SpellsLettings sol file
  pub count : n ≡ all_members file (pairs N)

-- The texts aren't a specification, a parameter and a solution of it: one is refused, or the verdict is another one.
abbrev pub AreNotValid : Text → Text → Text → Type 0
AreNotValid essence param sol =
    ((v : Verdict) × (is_valid v ≡ false) × IsValidated essence param sol v)
    ⊎ ((why : TransNo) × IsTold why × IsNotValidated essence param sol why)

-- The solution in this text is valid and has n members, or it isn't valid and none are counted.
abbrev pub CountsValid : ℕ → Text → ℕ → Type 0
CountsValid N sol n =
    (IsValidated (specification_text N) parameter_text sol Verdict.Valid × HasMembers N sol n)
    ⊎ ((n ≡ 0) × AreNotValid (specification_text N) parameter_text sol)

-- The same of the solution for which the cells stand, or they stand for none and none are counted.
abbrev pub CountsSolution : ℕ → Text → ℕ → Type 0
CountsSolution N model n =
    ((sol : Text) × IsSolutionText model parameter_text (cells_text N) sol × CountsValid N sol n)
    ⊎ ((n ≡ 0) × ((why : TransNo) × IsTold why × IsNoSolutionText model parameter_text (cells_text N) why))

-- The same behind the translation of the parameter.
abbrev pub CountsMembers : ℕ → Text → ℕ → Type 0
CountsMembers N model n =
    ((tables : Text) × IsParameterText model parameter_text tables × CountsSolution N model n)
    ⊎ ((n ≡ 0) × ((why : TransNo) × IsTold why × AreNotGiven model parameter_text why))

-- ---- all four

-- Where a model is built its constraints are counted, and the members under it; else there are none.
abbrev pub CountsModel : ℕ → ℕ → ℕ → Type 0
CountsModel N rules n =
    ((model : Text) × IsMadeFor (specification_text N) model rules × CountsMembers N model n)
    ⊎ ((rules ≡ 0) × (n ≡ 0) × HasNoModel (specification_text N))

-- The counts of the self-test: the statements of its specification, the cells of its sets and functions, the constraints of its model,
-- and the members of its sets.
pub record HasCounts (N : ℕ) (c : Counts) : Type 0 where
  pub statements : c.statements ≡ 3 * pairs N + 1
  pub cells : c.cells ≡ 60 * pairs N
  pub model : CountsModel N c.constraints c.members
