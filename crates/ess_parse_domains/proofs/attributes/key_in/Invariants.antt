use Rattle.std.proofs.Common.{◌≡◌, drop}
use Rattle.std.specs.Str.{bytes_eq}
use Rattle.ess_semantics.specs.Names.{look_by}
use Rattle.ess_parse_domains.specs.Attributes.{shown_keys}
use Rattle.ess_parse_domains.proofs.attributes.key_in.Given as goal

abbrev pub invariant-loop-spelling : goal.invariant-loop-spelling
invariant-loop-spelling l =
    look_by bytes_eq (shown_keys l.table) l.word ≡ look_by bytes_eq (shown_keys (drop l.spelling-index l.table)) l.word
