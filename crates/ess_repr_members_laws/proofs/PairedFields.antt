-- The fields of a record with their domains are as many as its components: so each record of a tree has a component for each field.
use Rattle.std.proofs.Common.{◌≡◌, refl, true, List, [], ◌∷◌, map}
use Rattle.ess_semantics.specs.Values.{Text}
use Rattle.ess_semantics.specs.Names.{Names, keys}
use Rattle.ess_semantics.specs.Kinds.{doms_of}
use Rattle.ess_semantics.specs.Trees.{Dom}
use Rattle.ess_repr_members_laws.specs.Fields.{are_paired}

-- Fields that stand with their domains are paired.
pub paired-with : (fs : Names Dom) → are_paired (keys fs) (doms_of (map (λ f. f.1) fs)) ≡ true
paired-with [] = refl
paired-with (f ∷ fs) = paired-with fs
