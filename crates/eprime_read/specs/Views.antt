-- The models and stages that drafts and the machine stand for.
use Rattle.ess_semantics.specs.ModelTrees.{Model}
use Rattle.ess_parse_machine.specs.Parsers.{view_parser}
use Rattle.eprime_read_laws.specs.ModelMachine.{Stage, at_begin, behind_language, behind_prime, behind_first_number, behind_dot, in_part, first_part}
use Rattle.eprime_tree.specs.Views.{pure_model}
use Rattle.eprime_read.specs.declared.drafts.Draft.{Draft}
use Rattle.eprime_read.specs.declared.parts.Part.{Part}
use Rattle.eprime_read.specs.declared.machine.LanguageLine.{LanguageLine}
use Rattle.eprime_read.specs.declared.machine.Machine.{Machine}
use Rattle.eprime_read.specs.Openings.{word_of}
use Rattle.eprime_read.specs.Drafts.{Fits, HasRead}

-- The model of a draft.
abbrev pub view_draft : Draft → Model
view_draft d = pure_model d.model

-- The stage in a part.
abbrev pub view_part : Part → Stage
view_part p = in_part (word_of p.opening) (view_draft p.draft) (view_parser p.parser).mode (view_parser p.parser).frames

-- What holds of a part: the model before it has nothing yet that stands behind it, and its parser has read fit tokens.
pub record IsPart (p : Part) : Type 0 where
  pub fits : Fits (word_of p.opening) p.draft.model
  pub read : HasRead (view_parser p.parser)

-- The stage in the language line.
abbrev pub view_language : LanguageLine → Stage
view_language LanguageLine.Nothing = at_begin
view_language LanguageLine.Word = behind_language
view_language LanguageLine.Prime = behind_prime
view_language LanguageLine.FirstNumber = behind_first_number
view_language LanguageLine.Dot = behind_dot

-- The stage of the machine.
abbrev pub view_machine : Machine → Stage
view_machine (Machine.Language l) = view_language l
view_machine Machine.Headed = first_part
view_machine (Machine.Part p) = view_part p

-- What holds of the machine in a part.
abbrev pub IsMachine : Machine → Type 0
IsMachine (Machine.Part p) = IsPart p
IsMachine _ = Unit {0}
