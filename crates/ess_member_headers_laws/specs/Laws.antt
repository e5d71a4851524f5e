-- Laws of headers of models of sets of atoms, each stated at a function that does nothing.
use Rattle.std.specs.Prelude.{◌≡◌, true, List, None}
use Rattle.ess_semantics.specs.Judgements.{fault}
use Rattle.ess_semantics.specs.Plans.{Options, plans, all_chosen}
use Rattle.ess_semantics.specs.ModelTrees.{header_of}
use Rattle.ess_grammar.specs.Readable.{ReadableStms}
use Rattle.ess_grammar.specs.HeaderTexts.{IsHeader}
use Rattle.ess_translate_header_laws.specs.WrittenLines.{header_texts}
use Rattle.conjure_laws.specs.SetsOfAtoms.{Line, spec}
use Rattle.conjure_laws.specs.ModelsOfSets.{no_options}
use Rattle.ess_member_headers_laws.specs.KeptSets.{are_kept_by_occurrence}

-- The lines of the header of a specification of sets whose statements some text has are that header by the rules, where each set is kept by
-- which members occur.
abbrev pub MemberHeadersAreRead : Type 0
MemberHeadersAreRead = (T : List Line) (o : Options) → ReadableStms (spec T) → are_kept_by_occurrence (spec T) o ≡ true →
    IsHeader (header_of (spec T) o) (header_texts (header_of (spec T) o))

-- Where no option is named each set is kept so. With options that keep each so, and with the representations of all as options, the plans
-- and the header are those without options.
pub record KeptAreChosen : Type 0 where
  pub kept : (T : List Line) → are_kept_by_occurrence (spec T) no_options ≡ true
  pub same_plans : (T : List Line) (o : Options) → are_kept_by_occurrence (spec T) o ≡ true → plans (spec T) o ≡ plans (spec T) no_options
  pub same_header : (T : List Line) (o : Options) → are_kept_by_occurrence (spec T) o ≡ true →
      header_of (spec T) o ≡ header_of (spec T) no_options
  pub chosen : (T : List Line) (o : Options) → fault (spec T) ≡ None → are_kept_by_occurrence (spec T) o ≡ true →
      are_kept_by_occurrence (spec T) (all_chosen (spec T) o) ≡ true
