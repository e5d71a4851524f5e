-- Texts of specifications of sets of atoms.
use Rattle.std.specs.Prelude.{◌≡◌, true, List, Option}
use Rattle.ess_semantics.specs.Values.{Text}
use Rattle.ess_semantics.specs.Plans.{Options, kept_names}
use Rattle.ess_grammar.specs.Texts.{ReadsSpecification}
use Rattle.conjure_laws.specs.SetsOfAtoms.{Line, spec}
use Rattle.ess_member_headers_laws.specs.KeptSets.{are_kept_by_occurrence}
use Rattle.conjure_modelling.specs.Modelled.{AreOptionsOf}

-- The text is a specification whose finds are sets of numbers of a range, of truth values or of values of a type, without attributes,
-- and whose constraints say that a number, a truth value or a value of a type is in a find; and with the options that the list names each
-- find is kept by which members occur. Where there is no list it always is.
pub record IsMemberText (list : Option Text) (text : Text) : Type 0 where
  pub T : List Line
  pub specification : ReadsSpecification text (spec T)
  pub kept : (o : Options) → AreOptionsOf (kept_names (spec T)) list o → are_kept_by_occurrence (spec T) o ≡ true
