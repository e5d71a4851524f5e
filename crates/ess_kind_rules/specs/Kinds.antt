-- What one of the rules of kinds makes of a root.
use Rattle.std.specs.Prelude.{◌≡◌, Bool, List, [], ◌∷◌, Option, Some, None}
use Rattle.ess_semantics.specs.Names.{Names}
use Rattle.ess_semantics.specs.Trees.{Ex}
use Rattle.ess_semantics.specs.Types.{Ty}
use Rattle.ess_refine_laws.specs.AllRules.{Supply}
use Rattle.ess_open_rules_laws.specs.OpenRules.{KindRuling, kind_ruled, puts_in}

-- None of these rules fires at the root.
abbrev pub NoneOfKinds : Supply → Names Ty → List KindRuling → Ex → Type 0
NoneOfKinds s g [] a = Unit {0}
NoneOfKinds s g (r ∷ rs) a = (kind_ruled s g r a ≡ None) × NoneOfKinds s g rs a

-- One of the rules makes this of the root: one that puts a source in, or one that puts none in. Where nothing is made, none of those that
-- are asked fires.
abbrev pub IsOfKind : Bool → List KindRuling → Supply → Names Ty → Ex → Option Ex → Type 0
IsOfKind p asked s g a None = NoneOfKinds s g asked a
IsOfKind p asked s g a (Some b) = (r : KindRuling) × (kind_ruled s g r a ≡ Some b) × (puts_in r ≡ p)
