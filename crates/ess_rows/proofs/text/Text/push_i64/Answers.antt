use Rattle.std.proofs.Common.{rules}
use Rattle.std.proofs.lemmas.Fmt.{IsAscii-signed}
use Rattle.ess_rows.proofs.Decimals.{slice-drop}
use Rattle.ess_rows.proofs.text.Text.push_i64.Goals as goal

pub ascii_str-requires : goal.ascii_str-requires
ascii_str-requires c = rw (slice-drop _ 21 _ c.write_signed-start.array_long, c.write_signed-start.ensures.digits) (search (rules, IsAscii-signed))
