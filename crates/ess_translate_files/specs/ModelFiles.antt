-- What is answered on the text of a model: the model with its header, or why it is refused.
use Rattle.std.specs.Prelude.{◌≡◌, ◌⊎◌}
use Rattle.ess_semantics.specs.Values.{Text}
use Rattle.ess_semantics.specs.ModelTrees.{Header, Model}
use Rattle.ess_grammar.specs.ModelTexts.{IsModel}
use Rattle.ess_translate_header_laws.specs.Headers.{HasHeader}
use Rattle.ess_translate_tables_laws.specs.HeaderTables.{DeclaresTables}
use Rattle.ess_translate.specs.declared.refusal.Which.{Which}
use Rattle.ess_translate.specs.declared.refusal.TransNo.{TransNo}
use Rattle.ess_translate.specs.Texts.{Spells, IsRefusedFor}

-- The text is the model E with the header H, which is one of this tool, and the model declares the tables of its header.
pub record IsModelFile (text : Text) (H : Header) (E : Model) : Type 0 where
  pub header : HasHeader text H
  pub spells : Spells IsModel text E
  pub tables : DeclaresTables H E

-- The text doesn't begin with a header of this tool, or the model behind it declares other tables.
abbrev pub HasBadHeader : Text → Type 0
HasBadHeader text =
    ((H : Header) → HasHeader text H → ⊥) ⊎
    ((H : Header) × (E : Model) × HasHeader text H × Spells IsModel text E × (DeclaresTables H E → ⊥))

-- The text is no model with a header of this tool: first the header is looked at, then the reader refuses it, then the tables
-- that it declares are looked at.
abbrev pub IsNoModelFile : Text → TransNo → Type 0
IsNoModelFile text TransNo.HeaderBad = HasBadHeader text
IsNoModelFile text (TransNo.Read Which.Model why) = (H : Header) × HasHeader text H × IsRefusedFor IsModel text why
IsNoModelFile text TransNo.NoMemory = Unit {0}
IsNoModelFile text _ = ⊥
