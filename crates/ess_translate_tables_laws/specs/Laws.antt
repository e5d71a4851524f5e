-- Laws of declared tables, each stated at a function that does nothing, so that its proof is checked with the code.
use Rattle.std.specs.Prelude.{◌≡◌, List, None}
use Rattle.ess_semantics.specs.Trees.{Stm}
use Rattle.ess_semantics.specs.Judgements.{fault}
use Rattle.ess_semantics.specs.Plans.{Options, kept_names, plans}
use Rattle.ess_semantics.specs.ModelTrees.{Header, Model, header_of}
use Rattle.ess_semantics.specs.Models.{Models}
use Rattle.ess_translate_tables_laws.specs.HeaderTables.{DeclaresTables}

-- The header of a model with these options has the same names with their domains, and the same plans.
pub record HeadersKeepNames : Type 0 where
  pub names : (S : List Stm) (o : Options) → kept_names (header_of S o).statements ≡ kept_names S
  pub plans : (S : List Stm) (o : Options) → fault S ≡ None → plans (header_of S o).statements (header_of S o).reprs ≡ plans S o

-- A right model declares the tables of its header.
abbrev pub RightModelsDeclareTheirTables : Type 0
RightModelsDeclareTheirTables =
    (S : List Stm) (o : Options) (H : Header) (E : Model) → fault S ≡ None → Models S o H E → DeclaresTables H E
