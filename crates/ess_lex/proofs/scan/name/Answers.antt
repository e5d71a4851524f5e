use Rattle.std.proofs.Common.{◌≡◌, sym, true, take}
use Rattle.std.proofs.lemmas.Slice.Eq.{bytes_eq-Decides}
use Rattle.std.specs.Str.{bytes_eq}
use Rattle.ess_grammar.specs.Tokens.{prime_text}
use Rattle.ess_lex.proofs.scan.name.Goals as goal
use Rattle.ess_lex.proofs.FrontTokens.{prime-first, name-first, name-natural}

pub returns-then-starts_with : goal.returns-then-starts_with
returns-then-starts_with c =
    let e : prime_text ≡ take 8 c.args.text.now =
    (bytes_eq-Decides prime_text (take 8 c.args.text.now)).0 (cc (c.starts_with.ensures.value)) in
    (prime-first c.args.text.now (sym e), tt)

pub returns : goal.returns
returns c = (
  name-first c.args.text.now c.word_kind.result c.name_len-len.result c.requires.some c.requires.letter
      (λ h. let begins : bytes_eq prime_text (take 8 c.args.text.now) ≡ true =
      (bytes_eq-Decides prime_text (take 8 c.args.text.now)).1 (sym h) in cc (c.starts_with.ensures.value))
      c.name_len-len.ensures c.word_kind.ensures,
  name-natural _ c.word_kind.result c.word_kind.ensures,
)
