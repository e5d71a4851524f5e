-- The headline for specifications of scalars and sets side by side, with nothing left open: what comes of finds of nested sets and of
-- constraints over scalars, ranges and nested sets, and of objectives over them, is right.
use Rattle.conjure_standing_laws.proofs.NestedLaws.{nested-rules-stand}
use Rattle.conjure_standing_laws.proofs.SetwiseLaws.{setwise-rules-stand, setwise-objectives-stand}
use Rattle.conjure_standing_laws.specs.MixedLaws.{BuiltMixedModelsAreRight}
use Rattle.conjure_standing_laws.proofs.BuiltMixed.{built-mixed-right}

-- Each model that is built of such a specification stands for it.
pub built-mixed : BuiltMixedModelsAreRight
built-mixed = built-mixed-right nested-rules-stand setwise-rules-stand setwise-objectives-stand
