use Rattle.ess_member_headers_laws.proofs.MemberHeaders.{member-headers-are-read}
use Rattle.ess_member_headers_laws.proofs.laws.member_headers_are_read.Goals as goal

pub returns : goal.returns
returns c = member-headers-are-read
