-- Operators in natural places: those that are plain ask for nothing there, and the others have a value wherever their operands have.
use Rattle.std.proofs.Common.{◌≡◌, refl, Bool, true, false, List, []}
use Rattle.ess_semantics.specs.declared.words.Op1.{Op1}
use Rattle.ess_semantics.specs.declared.words.Op2.{Op2}
use Rattle.ess_semantics.specs.Values.{Text}
use Rattle.ess_semantics.specs.Names.{Names}
use Rattle.ess_semantics.specs.Trees.{Op, unary, binary, Exs}
use Rattle.ess_guard_laws.specs.Origins.{Origin}
use Rattle.ess_guard_laws.specs.Conditions.{own}
use Rattle.ess_guard_laws.specs.Guard.{compares, counts, is_plain}
use Rattle.ess_guard_laws.proofs.Safe.{is_safe}
use Rattle.ess_guard_natural_laws.specs.TotalButNatural.{opens_places, may_lack}

compare-quiet : (k : Names Origin) (x y : Text) (op : Op) (es : Exs) → compares op ≡ true → (is_safe op ≡ true) × (own k x y op es ≡ [])
compare-quiet k x y (binary Op2.Eq) es e = (refl, refl)
compare-quiet k x y (binary Op2.Ne) es e = (refl, refl)
compare-quiet k x y (binary Op2.Lt) es e = (refl, refl)
compare-quiet k x y (binary Op2.Le) es e = (refl, refl)
compare-quiet k x y (binary Op2.Gt) es e = (refl, refl)
compare-quiet k x y (binary Op2.Ge) es e = (refl, refl)
compare-quiet k x y op es e = cc

count-quiet : (k : Names Origin) (x y : Text) (op : Op) (es : Exs) → is_plain op ≡ false → counts op ≡ true →
    (is_safe op ≡ true) × (own k x y op es ≡ [])
count-quiet k x y (unary Op1.Minus) es e q = (refl, refl)
count-quiet k x y (unary Op1.Bar) es e q = (refl, refl)
count-quiet k x y (binary Op2.Plus) es e q = (refl, refl)
count-quiet k x y (binary Op2.Minus) es e q = (refl, refl)
count-quiet k x y (binary Op2.Times) es e q = (refl, refl)
count-quiet k x y (binary Op2.Div) es e q = cc
count-quiet k x y (binary Op2.Mod) es e q = cc
count-quiet k x y (binary Op2.Pow) es e q = cc
count-quiet k x y op es e q = cc

-- An operator whose operands stand in natural places, and that isn't plain in one, asks for nothing.
pub quiet : (w b : Bool) (k : Names Origin) (x y : Text) (op : Op) (es : Exs) → may_lack w b op ≡ false → opens_places w b op ≡ true →
    (is_safe op ≡ true) × (own k x y op es ≡ [])
quiet w true k x y op es e q = compare-quiet k x y op es q
quiet true false k x y op es e q = count-quiet k x y op es e q
quiet false false k x y op es e q = cc
