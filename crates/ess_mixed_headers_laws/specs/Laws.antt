-- Laws of headers of models of scalars and sets, each stated at a function that does nothing.
use Rattle.std.specs.Prelude.{◌≡◌, true, List, None}
use Rattle.ess_semantics.specs.Trees.{Stm}
use Rattle.ess_semantics.specs.Judgements.{fault}
use Rattle.ess_semantics.specs.Plans.{Options, all_chosen, plans}
use Rattle.ess_semantics.specs.ModelTrees.{header_of}
use Rattle.ess_grammar.specs.Readable.{ReadableStms}
use Rattle.ess_grammar.specs.HeaderTexts.{IsHeader}
use Rattle.ess_translate_header_laws.specs.WrittenLines.{header_texts}
use Rattle.ess_mixed_models_laws.specs.MixedSpecifications.{is_mixed_specification}

-- Of a specification of the class whose statements some text has, the lines of the header are that header by the rules, however deeply they
-- are nested.
abbrev pub MixedHeadersAreRead : Type 0
MixedHeadersAreRead = (S : List Stm) (o : Options) → ReadableStms S → is_mixed_specification S o ≡ true →
    IsHeader (header_of S o) (header_texts (header_of S o))

-- The representations of all givens and finds, as options, choose themselves: with them the specification is of the class too, and has the
-- same plans and the same header.
pub record ChosenOptionsKeepTheClass : Type 0 where
  pub mixed : (S : List Stm) (o : Options) → fault S ≡ None → is_mixed_specification S o ≡ true →
      is_mixed_specification S (all_chosen S o) ≡ true
  pub same_plans : (S : List Stm) (o : Options) → fault S ≡ None → plans S (all_chosen S o) ≡ plans S o
  pub same_header : (S : List Stm) (o : Options) → fault S ≡ None → header_of S (all_chosen S o) ≡ header_of S o
