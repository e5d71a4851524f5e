use Rattle.std.proofs.Common.{◌≡◌, map, drop}
use Rattle.ess_parse.specs.NamedReprViews.{pure_named_reprs}
use Rattle.ess_translate_header_laws.specs.Headers.{are_reprs_of}
use Rattle.ess_translate_header.proofs.NamesFit.{names_in}
use Rattle.ess_translate_header.proofs.represented.are_reprs_of.Given as goal

abbrev pub invariant-loop-stm : goal.invariant-loop-stm
invariant-loop-stm l =
    are_reprs_of (names_in l.stms) (map pure_named_reprs l.reprs) ≡ are_reprs_of (names_in (drop l.stm-index l.stms)) (map pure_named_reprs l.rest)
