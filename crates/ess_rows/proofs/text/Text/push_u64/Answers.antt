use Rattle.std.proofs.lemmas.Fmt.{IsAscii-decimal}
use Rattle.ess_rows.proofs.Decimals.{slice-drop}
use Rattle.ess_rows.proofs.text.Text.push_u64.Goals as goal

pub ascii_str-requires : goal.ascii_str-requires
ascii_str-requires c = rw (slice-drop _ 21 _ c.write-start.array_long, c.write-start.ensures.digits) (IsAscii-decimal _ c.ranges.number.fits)
