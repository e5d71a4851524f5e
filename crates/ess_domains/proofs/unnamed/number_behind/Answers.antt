use Rattle.std.proofs.Common.{rules, ◌≡◌, Ok}
use Rattle.std.specs.Fmt.{decimal}
use Rattle.std.proofs.lemmas.Fmt.{parse-decimal}
use Rattle.ess_domains.proofs.UnnamedNames.{digits_read}
use Rattle.ess_domains.proofs.unnamed.number_behind.Goals as goal

pub returns-in-Some : goal.returns-in-Some
returns-in-Some c = λ k small e.
    let s = c.in-Some.ensures.cases in
    let q : c.in-Some.digits.now ≡ decimal k =
    digits_read c.args.prefix.now c.as_str-2.result.now c.args.name.now c.as_str.result.now c.in-Some.digits.now s.0 k c.as_str-2.ensures c.as_str.ensures s.1.0 s.2 e in
    let r : c.parse.result ≡ Ok k = parse-decimal 64 k c.in-Some.digits.now c.parse.result small small q c.parse.ensures.value.0 in
    search (rules, r)
