use Rattle.std.proofs.Common.{◌≡◌, take}
use Rattle.ess_core.proofs.+copy_pat.Given as goal

abbrev pub invariant-copies::expressions::copy_pats-loop-pat : goal.invariant-copies::expressions::copy_pats-loop-pat
invariant-copies::expressions::copy_pats-loop-pat l = l.copies ≡ take l.pat-index l.pat-items
