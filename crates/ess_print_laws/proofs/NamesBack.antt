-- The names of attributes and of kinds of representations are read back, and are name tokens.
use Rattle.std.proofs.Common.{◌≡◌, refl, true, Some}
use Rattle.ess_semantics.specs.declared.words.Key.{Key}
use Rattle.ess_semantics.specs.declared.words.ReprKind.{ReprKind}
use Rattle.ess_grammar.specs.Words.{key_of}
use Rattle.ess_grammar.specs.Representations.{kind_of}
use Rattle.ess_grammar.specs.Readable.{is_name_token}
use Rattle.ess_print_laws.specs.TokenTexts.{key_text, kind_text}

-- The attribute of its name.
pub key-back : (k : Key) → key_of (key_text k) ≡ Some k
key-back Key.Size = refl
key-back Key.MinSize = refl
key-back Key.MaxSize = refl
key-back Key.Reflexive = refl
key-back Key.Irreflexive = refl
key-back Key.Symmetric = refl
key-back Key.AntiSymmetric = refl
key-back Key.ASymmetric = refl
key-back Key.Transitive = refl
key-back Key.MinOccur = refl
key-back Key.MaxOccur = refl
key-back Key.Total = refl
key-back Key.Injective = refl
key-back Key.Surjective = refl
key-back Key.Bijective = refl
key-back Key.NumParts = refl
key-back Key.MinNumParts = refl
key-back Key.MaxNumParts = refl
key-back Key.PartSize = refl
key-back Key.MinPartSize = refl
key-back Key.MaxPartSize = refl
key-back Key.Regular = refl

-- It is a name token.
pub key-named : (k : Key) → is_name_token (key_text k) ≡ true
key-named Key.Size = refl
key-named Key.MinSize = refl
key-named Key.MaxSize = refl
key-named Key.Reflexive = refl
key-named Key.Irreflexive = refl
key-named Key.Symmetric = refl
key-named Key.AntiSymmetric = refl
key-named Key.ASymmetric = refl
key-named Key.Transitive = refl
key-named Key.MinOccur = refl
key-named Key.MaxOccur = refl
key-named Key.Total = refl
key-named Key.Injective = refl
key-named Key.Surjective = refl
key-named Key.Bijective = refl
key-named Key.NumParts = refl
key-named Key.MinNumParts = refl
key-named Key.MaxNumParts = refl
key-named Key.PartSize = refl
key-named Key.MinPartSize = refl
key-named Key.MaxPartSize = refl
key-named Key.Regular = refl

-- The kind of its name.
pub kind-back : (k : ReprKind) → kind_of (kind_text k) ≡ Some k
kind-back ReprKind.Atom = refl
kind-back ReprKind.Tuple = refl
kind-back ReprKind.Rec = refl
kind-back ReprKind.Matrix = refl
kind-back ReprKind.Occurrence = refl
kind-back ReprKind.Explicit = refl
kind-back ReprKind.ExplicitVarSizeWithMarker = refl
kind-back ReprKind.ExplicitVarSizeWithFlags = refl
kind-back ReprKind.ExplicitVarSizeWithDummy = refl
kind-back ReprKind.MSetOccurrence = refl
kind-back ReprKind.MSetExplicitWithRepetition = refl
kind-back ReprKind.MSetExplicitWithFlags = refl
kind-back ReprKind.Function1D = refl
kind-back ReprKind.Function1DPartial = refl
kind-back ReprKind.FunctionND = refl
kind-back ReprKind.FunctionNDPartial = refl
kind-back ReprKind.FunctionAsRelation = refl
kind-back ReprKind.RelationAsMatrix = refl
kind-back ReprKind.RelationAsSet = refl
kind-back ReprKind.PartitionOccurrence = refl
kind-back ReprKind.PartitionAsSet = refl

-- It is a name token.
pub kind-named : (k : ReprKind) → is_name_token (kind_text k) ≡ true
kind-named ReprKind.Atom = refl
kind-named ReprKind.Tuple = refl
kind-named ReprKind.Rec = refl
kind-named ReprKind.Matrix = refl
kind-named ReprKind.Occurrence = refl
kind-named ReprKind.Explicit = refl
kind-named ReprKind.ExplicitVarSizeWithMarker = refl
kind-named ReprKind.ExplicitVarSizeWithFlags = refl
kind-named ReprKind.ExplicitVarSizeWithDummy = refl
kind-named ReprKind.MSetOccurrence = refl
kind-named ReprKind.MSetExplicitWithRepetition = refl
kind-named ReprKind.MSetExplicitWithFlags = refl
kind-named ReprKind.Function1D = refl
kind-named ReprKind.Function1DPartial = refl
kind-named ReprKind.FunctionND = refl
kind-named ReprKind.FunctionNDPartial = refl
kind-named ReprKind.FunctionAsRelation = refl
kind-named ReprKind.RelationAsMatrix = refl
kind-named ReprKind.RelationAsSet = refl
kind-named ReprKind.PartitionOccurrence = refl
kind-named ReprKind.PartitionAsSet = refl
