use Rattle.std.proofs.Common.{◌≡◌, take}
use Rattle.ess_repr.proofs.doms.several.Given as goal

abbrev pub invariant-loop-dom : goal.invariant-loop-dom
invariant-loop-dom l = l.copies ≡ take l.dom-index l.doms
