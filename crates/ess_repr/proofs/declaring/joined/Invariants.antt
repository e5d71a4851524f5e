use Rattle.std.proofs.Common.{◌≡◌, ◌++◌, take}
use Rattle.ess_repr.proofs.declaring.joined.Given as goal

abbrev pub invariant-loop-dom : goal.invariant-loop-dom
invariant-loop-dom l = l.doms ≡ l.first ++ take l.dom-index l.second
