use Rattle.std.proofs.Common.{◌≡◌, take}
use Rattle.ess_core.specs.TreeViews.{pure_dom}
use Rattle.ess_parse_laws.specs.StatementEnds.{declarations}
use Rattle.ess_parse_frames.specs.Rows.{back_names, back_stms}
use Rattle.ess_parse_frames.specs.Views.{is_given}
use Rattle.ess_parse_frames.proofs.statements.declaration_copies.Given as goal

abbrev pub invariant-loop-name : goal.invariant-loop-name
invariant-loop-name l = back_stms l.stms ≡ declarations (is_given l.fn.word) (back_names (take l.name-index l.fn.names)) (pure_dom l.fn.domain) (back_stms l.fn.stms)
