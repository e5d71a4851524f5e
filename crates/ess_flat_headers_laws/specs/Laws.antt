-- Laws of headers of models of scalars, each stated at a function that does nothing.
use Rattle.std.specs.Prelude.{◌≡◌, true, List, None}
use Rattle.ess_semantics.specs.Trees.{Stm}
use Rattle.ess_semantics.specs.Judgements.{fault}
use Rattle.ess_semantics.specs.Plans.{Options, all_chosen}
use Rattle.ess_semantics.specs.ModelTrees.{header_of}
use Rattle.ess_grammar.specs.Readable.{ReadableStms}
use Rattle.ess_grammar.specs.HeaderTexts.{IsHeader}
use Rattle.ess_translate_header_laws.specs.WrittenLines.{header_texts}
use Rattle.ess_flat_models_laws.specs.FlatSpecifications.{is_flat_specification}
use Rattle.ess_flat_models_laws.specs.FlatModels.{flat_model}

-- Of a specification of the class whose statements some text has, the lines of the header are that header by the rules, however deeply they
-- are nested. A condition with many signs in a row may be printed with a larger load than it was written with.
abbrev pub FlatHeadersAreRead : Type 0
FlatHeadersAreRead = (S : List Stm) (o : Options) → ReadableStms S → is_flat_specification S o ≡ true →
    IsHeader (header_of S o) (header_texts (header_of S o))

-- The representations of all givens and finds, as options, choose themselves: with them the specification is of the class too, and has the
-- same header and the same model.
pub record ChosenAreOfTheClass : Type 0 where
  pub flat : (S : List Stm) (o : Options) → fault S ≡ None → is_flat_specification S o ≡ true →
      is_flat_specification S (all_chosen S o) ≡ true
  pub header : (S : List Stm) (o : Options) → fault S ≡ None → header_of S (all_chosen S o) ≡ header_of S o
  pub model : (S : List Stm) (o : Options) → fault S ≡ None → flat_model S (all_chosen S o) ≡ flat_model S o
