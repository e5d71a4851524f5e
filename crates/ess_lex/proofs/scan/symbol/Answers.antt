use Rattle.std.proofs.Common.{◌≡◌, sym, ◌∙◌, take, drop, Option, arith}
use Rattle.std.specs.Option.{option_map}
use Rattle.ess_grammar.specs.declared.kind.Kind.{Kind}
use Rattle.ess_grammar.specs.Kinds.{token}
use Rattle.ess_grammar.specs.Words.{Text}
use Rattle.ess_grammar.specs.Tokens.{symbol_of}
use Rattle.ess_lex.proofs.scan.symbol.Goals as goal
use Rattle.ess_lex.proofs.FrontTokens.{symbol-passed, symbol-here}

abbrev symbol_is : Option Kind → Text → Text → Type 0
symbol_is o t rest = option_map (λ k. token k t) o ≡ symbol_of t rest

pub returns-in-Some : goal.returns-in-Some
returns-in-Some c =
    let read : symbol_is c.symbol_kind.result (take c.loop-len.len c.args.text.now) (drop c.loop-len.len c.args.text.now) =
    rw (← c.split_at.ensures.front, ← c.split_at.ensures.back) c.symbol_kind.ensures in
    symbol-here c.args.text.now c.loop-len.len c.symbol_kind.result c.in-Some.kind c.loop-len-test.true read c.in-Some.is
    ∙ sym c.loop-len.invariant.longest

pub loop-len-preserved : goal.loop-len-preserved
loop-len-preserved c =
    let read : symbol_is c.symbol_kind.result (take c.loop-len.len c.args.text.now) (drop c.loop-len.len c.args.text.now) =
    rw (← c.split_at.ensures.front, ← c.split_at.ensures.back) c.symbol_kind.ensures in
    record {
      within = omega arith;
      longest =
          c.loop-len.invariant.longest
          ∙ symbol-passed c.args.text.now c.loop-len.len c.symbol_kind.result c.loop-len-test.true read c.in_default.is;
    }
