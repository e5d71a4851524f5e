-- Laws of solutions and their tables, each stated at a function that does nothing, so that its proof is checked with the code.
use Rattle.std.specs.Prelude.{◌≡◌, false, List, map, Some, None}
use Rattle.ess_semantics.specs.Values.{Text, Value}
use Rattle.ess_semantics.specs.Names.{Names}
use Rattle.ess_semantics.specs.Trees.{Stm}
use Rattle.ess_semantics.specs.Tables.{Table}
use Rattle.ess_semantics.specs.Judgements.{fault}
use Rattle.ess_semantics.specs.ChosenOptions.{OptionsFit}
use Rattle.ess_semantics.specs.LargeSpecifications.{parameter_is_large}
use Rattle.ess_semantics.specs.Satisfaction.{Sat}
use Rattle.ess_semantics.specs.Assignments.{Assignment}
use Rattle.ess_semantics.specs.Parameters.{Param}
use Rattle.ess_semantics.specs.Solutions.{Sol}
use Rattle.ess_semantics.specs.Plans.{Options, given_tables, values_stood_for}
use Rattle.ess_semantics.specs.ModelTrees.{Header, Model}
use Rattle.ess_semantics.specs.Models.{Ordered, Models, IsExact}
use Rattle.ess_grammar.specs.Readable.{ReadableStms}
use Rattle.ess_letting_texts_laws.specs.LettingTexts.{lettings_text}
use Rattle.conjure_round_laws.specs.LetLiterals.{names_under}
use Rattle.conjure_round_laws.specs.ComeBack.{IsValidFile}
use Rattle.conjure_exact_laws.specs.OneTables.{HasItsTables}

-- Each solution in order of declaration has its tables: of a model that stands for a well typed specification of the grammar with options
-- that it takes, and under which satisfying tables are exactly the canonical ones of solutions.
abbrev pub EachSolutionHasItsTables : Type 0
EachSolutionHasItsTables =
    (S : List Stm) (o : Options) (H : Header) (E : Model) (p a : Assignment) (q : Names Table) → fault S ≡ None → ReadableStms S →
    OptionsFit S o → Models S o H E → IsExact S o E → Param S p → given_tables S o p ≡ Some q → Sol S p a → Ordered S a →
    HasItsTables S o E p q a

-- What a model's header says of tables that satisfy the model is written as a valid file: the values for which they stand under the header,
-- in the text of lettings that is printed for them. This is what the translation of cells writes.
abbrev pub HeaderTextsAreValid : Type 0
HeaderTextsAreValid =
    (S : List Stm) (o : Options) (H : Header) (E : Model) (p : Assignment) (q c : Names Table) (vs : Names Value) (text : Text) →
    fault S ≡ None → ReadableStms S → Models S o H E → Param S p → parameter_is_large S p ≡ false → given_tables S o p ≡ Some q →
    Sat E q c → values_stood_for H.statements H.reprs p c ≡ map (λ v. (v.0, Some v.1)) vs →
    text ≡ lettings_text (names_under H.statements p) vs → IsValidFile S p text
