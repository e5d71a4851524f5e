-- Texts of representations by rules: the name of a kind, and where it has any its children in square brackets, with commas
-- between (the names of kinds are those of the Conjure manual's representations). Whether a representation fits a domain
-- isn't said here.
use Rattle.std.specs.Prelude.{◌≡◌, List, [], ◌∷◌, Option, Some, codes}
use Rattle.std.specs.Str.{bytes_eq}
use Rattle.ess_semantics.specs.declared.words.ReprKind.{ReprKind}
use Rattle.ess_semantics.specs.Values.{Text}
use Rattle.ess_semantics.specs.Trees.{Repr, Reprs, repr, no_reprs, more_reprs}
use Rattle.ess_semantics.specs.Names.{look_by}
use Rattle.ess_grammar.specs.Words.{Token, name, symbol, open_square, close_square, comma}

-- The names of the kinds.
abbrev pub kinds : List (Text × ReprKind)
kinds =
    (codes "Atom", ReprKind.Atom) ∷ (codes "Tuple", ReprKind.Tuple) ∷ (codes "Rec", ReprKind.Rec) ∷ (codes "Matrix", ReprKind.Matrix) ∷
    (codes "Occurrence", ReprKind.Occurrence) ∷ (codes "Explicit", ReprKind.Explicit) ∷
    (codes "ExplicitVarSizeWithMarker", ReprKind.ExplicitVarSizeWithMarker) ∷
    (codes "ExplicitVarSizeWithFlags", ReprKind.ExplicitVarSizeWithFlags) ∷
    (codes "ExplicitVarSizeWithDummy", ReprKind.ExplicitVarSizeWithDummy) ∷
    (codes "MSetOccurrence", ReprKind.MSetOccurrence) ∷ (codes "MSetExplicitWithRepetition", ReprKind.MSetExplicitWithRepetition) ∷
    (codes "MSetExplicitWithFlags", ReprKind.MSetExplicitWithFlags) ∷
    (codes "Function1D", ReprKind.Function1D) ∷ (codes "Function1DPartial", ReprKind.Function1DPartial) ∷
    (codes "FunctionND", ReprKind.FunctionND) ∷ (codes "FunctionNDPartial", ReprKind.FunctionNDPartial) ∷
    (codes "FunctionAsRelation", ReprKind.FunctionAsRelation) ∷
    (codes "RelationAsMatrix", ReprKind.RelationAsMatrix) ∷ (codes "RelationAsSet", ReprKind.RelationAsSet) ∷
    (codes "PartitionOccurrence", ReprKind.PartitionOccurrence) ∷ (codes "PartitionAsSet", ReprKind.PartitionAsSet) ∷ []

-- The kind that a name is, where it is one.
abbrev pub kind_of : Text → Option ReprKind
kind_of a = look_by bytes_eq kinds a

mutual
  -- A representation.
  pub data Representation : Repr → List Token → List Token → Type 0 where
    childless : {a : Text} {k : ReprKind} {us : List Token} → kind_of a ≡ Some k → Representation (repr k no_reprs) (name a ∷ us) us
    with_children : {a : Text} {k : ReprKind} {rs : Reprs} {ts us : List Token} → kind_of a ≡ Some k →
        Representations rs ts (symbol close_square ∷ us) → Representation (repr k rs) (name a ∷ symbol open_square ∷ ts) us

  -- One or more representations with commas between.
  pub data Representations : Reprs → List Token → List Token → Type 0 where
    last_representation : {r : Repr} {ts us : List Token} → Representation r ts us → Representations (more_reprs r no_reprs) ts us
    next_representation : {r : Repr} {rs : Reprs} {ts us vs : List Token} → Representation r ts (symbol comma ∷ us) →
        Representations rs us vs → Representations (more_reprs r rs) ts vs

-- The tokens are a representation.
abbrev pub IsRepresentation : Repr → List Token → Type 0
IsRepresentation r ts = Representation r ts []
