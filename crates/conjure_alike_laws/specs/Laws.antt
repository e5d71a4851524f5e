-- The law of options with which the same is kept, stated at a function that does nothing.
use Rattle.std.specs.Prelude.{◌≡◌, List}
use Rattle.ess_semantics.specs.Trees.{Stm}
use Rattle.ess_semantics.specs.Plans.{Options, plans}
use Rattle.ess_semantics.specs.ModelTrees.{Header, Model, header_of}
use Rattle.ess_semantics.specs.Models.{Models, IsExact}

-- Options with the same plans and the same header have the same models; and with the same plans each solution has exactly one satisfying
-- assignment with either.
pub record AlikeOptionsHaveTheSameModels : Type 0 where
  pub models : (S : List Stm) (o p : Options) (H : Header) (E : Model) → plans S o ≡ plans S p → header_of S o ≡ header_of S p →
      Models S p H E → Models S o H E
  pub exact : (S : List Stm) (o p : Options) (E : Model) → plans S o ≡ plans S p → IsExact S p E → IsExact S o E
