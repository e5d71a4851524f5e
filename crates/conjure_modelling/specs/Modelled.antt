-- What is written for the text of a specification, with a list of representations or without one, and why nothing is.
use Rattle.std.specs.Prelude.{◌≡◌, ◌⊎◌, false, List, [], Option, Some, None}
use Rattle.ess_semantics.specs.Values.{Text}
use Rattle.ess_semantics.specs.Names.{Names}
use Rattle.ess_semantics.specs.Trees.{Repr, Dom, Stm}
use Rattle.ess_semantics.specs.Plans.{Options, kept_names, all_chosen}
use Rattle.ess_semantics.specs.ModelTrees.{Model, header_of}
use Rattle.ess_grammar.specs.Tokens.{lexed}
use Rattle.ess_grammar.specs.Load.{too_deep}
use Rattle.ess_grammar.specs.Models.{is_readable_model}
use Rattle.ess_grammar.specs.ModelTexts.{IsModel, header_lines}
use Rattle.ess_grammar.specs.HeaderTexts.{IsHeader}
use Rattle.eprime_read.specs.Derived.{IsModelText}
use Rattle.ess_translate.specs.declared.refusal.TransNo.{TransNo}
use Rattle.ess_translate.specs.Texts.{Spells}
use Rattle.ess_translate.specs.Answers.{IsEssence, IsNoEssence}
use Rattle.ess_translate_header_laws.specs.Headers.{HasHeader, IsOurs, are_reprs_of}
use Rattle.ess_translate_header_laws.specs.WrittenLines.{header_texts, AreShallow}
use Rattle.ess_models.specs.declared.parts.Part.{Part}
use Rattle.ess_models.specs.Built.{IsBuilt, NoneIsBuilt}
use Rattle.ess_models.specs.Modelled.{IsTextOf}
use Rattle.conjure_options.specs.Pieces.{pieces}
use Rattle.conjure_options.specs.Items.{AreItems}
use Rattle.conjure_options.specs.Refused.{IsFirstRefused, IsRefusedAt}
use Rattle.conjure_options.specs.declared.options.OptionsNo.{OptionsNo}
use Rattle.conjure_modelling.specs.declared.refusal.ModelNo.{ModelNo}

-- The options that a list names for names with these domains; none where there is no list.
abbrev pub AreOptionsOf : Names Dom → Option Text → Options → Type 0
AreOptionsOf ds None o = o ≡ []
AreOptionsOf ds (Some list) o = AreItems ds [] (pieces 47 list) o

-- Why a list isn't taken.
abbrev pub IsNoOptionOf : Names Dom → Option Text → OptionsNo → Type 0
IsNoOptionOf ds None why = ⊥
IsNoOptionOf ds (Some list) why = IsRefusedAt ds (pieces 47 list) why

-- The text spells a model that is built from the specification S with these representations, and is this model by the rules of models, and
-- no other. Under its language line stand the lines of the header of S with these representations, and no others. They are that header by
-- the rules, and it is one of this tool. Where the load of the text is within the limit it is read as this model, and where that of each
-- line of its header is, this header is read of it.
pub record IsWritten (S : List Stm) (rs : Names (List Repr)) (text : Text) : Type 0 where
  pub spelled : IsTextOf S rs text
  pub derived : IsModelText text spelled.model
  pub head : header_lines text ≡ header_texts (header_of S rs)
  pub header : IsHeader (header_of S rs) (header_lines text)
  pub ours : IsOurs (header_of S rs)
  pub read : too_deep (lexed text) ≡ None → Spells IsModel text spelled.model
  pub begins : AreShallow (header_lines text) → HasHeader text (header_of S rs)

-- A model is built from the specification with these representations, but no text has it: a name or a number of it is no token of its own, or
-- something stands where the rules of models have it not.
pub record IsTextless (S : List Stm) (rs : Names (List Repr)) : Type 0 where
  pub model : Model
  pub built : IsBuilt S rs (header_of S rs) model
  pub unreadable : is_readable_model model ≡ false

-- The model can't be written: a part of it can't, or no text has it.
abbrev pub IsLacking : List Stm → Names (List Repr) → Type 0
IsLacking S rs = ((p : Part) × NoneIsBuilt S rs p) ⊎ IsTextless S rs

-- Why the text of the model E isn't written: no text has it, or for want of memory.
abbrev pub IsUnreadable : Model → ModelNo → Type 0
IsUnreadable E ModelNo.NotYet = is_readable_model E ≡ false
IsUnreadable E ModelNo.NoMemory = Unit {0}
IsUnreadable E _ = ⊥

-- Why nothing is written for S with these representations: the model can't be written, they don't fit, or for want of memory.
abbrev pub IsUnwritten : List Stm → Names (List Repr) → ModelNo → Type 0
IsUnwritten S rs ModelNo.NotYet = IsLacking S rs ⊎ (are_reprs_of (kept_names S) rs ≡ false)
IsUnwritten S rs ModelNo.NoMemory = Unit {0}
IsUnwritten S rs _ = ⊥

-- It is written for S with the representations that the list names, and else the defaults.
pub record IsModelFor (S : List Stm) (list : Option Text) (model : Text) : Type 0 where
  pub o : Options
  pub options : AreOptionsOf (kept_names S) list o
  pub written : IsWritten S (all_chosen S o) model

-- Why nothing is written for S. Representations that are chosen fit.
abbrev pub IsNoModelFor : List Stm → Option Text → ModelNo → Type 0
IsNoModelFor S list ModelNo.NotYet = (o : Options) × AreOptionsOf (kept_names S) list o × IsLacking S (all_chosen S o)
IsNoModelFor S None (ModelNo.BadRepresentation k) = ⊥
IsNoModelFor S (Some list) (ModelNo.BadRepresentation k) = IsFirstRefused (kept_names S) (pieces 47 list) k
IsNoModelFor S list ModelNo.NoMemory = Unit {0}
IsNoModelFor S list (ModelNo.Specification why) = ⊥

-- The list is taken for S, where there is one.
abbrev pub TakesList : List Stm → Option Text → Type 0
TakesList S list = (o : Options) × AreOptionsOf (kept_names S) list o

-- The text `model` is written for that of a well typed specification.
abbrev pub IsModelled : Text → Option Text → Text → Type 0
IsModelled text list model = (S : List Stm) × IsEssence text S × IsModelFor S list model

-- A refusal of a specification that is told; want of memory is another one.
abbrev pub IsTold : TransNo → Type 0
IsTold TransNo.NoMemory = ⊥
IsTold _ = Unit {0}

-- Why nothing is written for a text.
abbrev pub IsUnmodelled : Text → Option Text → ModelNo → Type 0
IsUnmodelled text list (ModelNo.Specification why) = IsNoEssence text why × IsTold why
IsUnmodelled text list ModelNo.NoMemory = Unit {0}
IsUnmodelled text list why = (S : List Stm) × IsEssence text S × IsNoModelFor S list why
