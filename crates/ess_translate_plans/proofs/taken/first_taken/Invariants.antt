use Rattle.std.proofs.Common.{◌≡◌, ◌++◌, drop}
use Rattle.ess_translate_plans_laws.specs.Requests.{declared_beside}
use Rattle.ess_translate_plans.proofs.Turns.{first_of}
use Rattle.ess_translate_plans.proofs.taken.first_taken.Given as goal

abbrev pub invariant-loop-decl : goal.invariant-loop-decl
invariant-loop-decl l =
    first_of (declared_beside l.all l.own l.declared ++ l.tables) l.decls
    ≡ first_of (declared_beside l.all l.own l.declared ++ l.tables) (drop l.decl-index l.decls)
