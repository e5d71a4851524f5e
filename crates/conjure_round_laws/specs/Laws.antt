-- Laws of what comes back from a model, each stated at a function that does nothing, so that its proof is checked with the code.
use Rattle.std.specs.Prelude.{◌≡◌, false, List, Some, None}
use Rattle.ess_semantics.specs.Names.{Names}
use Rattle.ess_semantics.specs.Trees.{Stm}
use Rattle.ess_semantics.specs.Tables.{Table}
use Rattle.ess_semantics.specs.Assignments.{Assignment}
use Rattle.ess_semantics.specs.Parameters.{Param}
use Rattle.ess_semantics.specs.Plans.{Options, given_tables, values_stood_for}
use Rattle.ess_semantics.specs.ModelTrees.{Header, Model, header_of}
use Rattle.ess_semantics.specs.Satisfaction.{Sat}
use Rattle.ess_semantics.specs.Models.{Ordered, Models}
use Rattle.ess_semantics.specs.Judgements.{fault}
use Rattle.ess_semantics.specs.LargeSpecifications.{parameter_is_large}
use Rattle.ess_semantics.specs.Solutions.{Sol}
use Rattle.ess_grammar.specs.Readable.{ReadableStms}
use Rattle.ess_translate_given_laws.specs.Ready.{Ready}
use Rattle.conjure_round_laws.specs.Stood.{StandForSolution}
use Rattle.conjure_round_laws.specs.LetLiterals.{IsReadAgain}
use Rattle.conjure_round_laws.specs.ComeBack.{ComeBack}
use Rattle.conjure_laws.specs.Premises.{here}

-- Found tables that satisfy a model of a specification under the given tables of a parameter stand for a solution, by all
-- representations of each find.
abbrev pub SatisfyingTablesStandForSolutions : Type 0
SatisfyingTablesStandForSolutions =
    (S : List Stm) (o : Options) (H : Header) (E : Model) (p : Assignment) (q c : Names Table) → Ready S → Models S o H E → Param S p →
    given_tables S o p ≡ Some q → Sat E q c → StandForSolution S o p c

-- A solution of a well typed specification of the grammar, under a parameter without a number outside 64 bits, is what the lettings of
-- its values' literals stand for, and each value has a text.
abbrev pub SolutionsAreReadAgain : Type 0
SolutionsAreReadAgain = (S : List Stm) (p a : Assignment) → fault S ≡ None → ReadableStms S → Param S p → parameter_is_large S p ≡ false →
    Sol S p a → Ordered S a → IsReadAgain S p a

-- Found tables that satisfy a model of a well typed specification of the grammar, under a parameter without a number outside 64 bits, come
-- back: the text of what they stand for is read again as it, and is valid.
abbrev pub SatisfyingTablesComeBack : Type 0
SatisfyingTablesComeBack =
    (S : List Stm) (o : Options) (H : Header) (E : Model) (p : Assignment) (q c : Names Table) → fault S ≡ None → ReadableStms S →
    Models S o H E → Param S p → parameter_is_large S p ≡ false → given_tables S o p ≡ Some q → Sat E q c → ComeBack S o p c

-- Under the header of a model tables stand for what they stand for under the specification, and values have the same names.
pub record HeadersStandForTheSame : Type 0 where
  pub values : (S : List Stm) (o : Options) (p : Assignment) (c : Names Table) → fault S ≡ None →
      values_stood_for (header_of S o).statements (header_of S o).reprs p c ≡ values_stood_for S o p c
  pub env : (S : List Stm) (o : Options) (p : Assignment) → here (header_of S o).statements p ≡ here S p
