use Rattle.std.proofs.Common.{◌≡◌, drop}
use Rattle.std.specs.Str.{bytes_eq}
use Rattle.ess_semantics.specs.Names.{look_by}
use Rattle.ess_parse.specs.Machines.{shown_table}
use Rattle.ess_parse.proofs.representations.kinds.kind_in.Given as goal

abbrev pub invariant-loop-spelling : goal.invariant-loop-spelling
invariant-loop-spelling l =
    look_by bytes_eq (shown_table l.table) l.name ≡ look_by bytes_eq (shown_table (drop l.spelling-index l.table)) l.name
