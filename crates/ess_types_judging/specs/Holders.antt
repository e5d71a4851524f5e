-- The attributes that each kind of domain may have.
use Rattle.std.specs.Prelude.{List, [], ◌∷◌}
use Rattle.ess_semantics.specs.declared.words.Key.{Key}
use Rattle.ess_semantics.specs.DomainJudgements.{size_keys}
use Rattle.ess_types_judging.specs.declared.attributes.Holder.{Holder}

-- Those with a number.
abbrev pub numbered_keys : Holder → List Key
numbered_keys Holder.Set = size_keys
numbered_keys Holder.MSet = Key.MinOccur ∷ Key.MaxOccur ∷ size_keys
numbered_keys Holder.Function = size_keys
numbered_keys Holder.Relation = size_keys
numbered_keys Holder.BinaryRelation = size_keys
numbered_keys Holder.Partition =
    Key.NumParts ∷ Key.MinNumParts ∷ Key.MaxNumParts ∷ Key.PartSize ∷ Key.MinPartSize ∷ Key.MaxPartSize ∷ []

-- Those without one.
abbrev pub flag_keys : Holder → List Key
flag_keys Holder.Set = []
flag_keys Holder.MSet = []
flag_keys Holder.Function = Key.Total ∷ Key.Injective ∷ Key.Surjective ∷ Key.Bijective ∷ []
flag_keys Holder.Relation = []
flag_keys Holder.BinaryRelation =
    Key.Reflexive ∷ Key.Irreflexive ∷ Key.Symmetric ∷ Key.AntiSymmetric ∷ Key.ASymmetric ∷ Key.Transitive ∷ []
flag_keys Holder.Partition = Key.Regular ∷ []
