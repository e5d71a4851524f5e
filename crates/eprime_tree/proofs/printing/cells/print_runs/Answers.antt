use Rattle.std.proofs.Common.{◌∙◌, ap, ◌∷◌, ◌++◌, map, rules}
use mir.Syntax.{w64}
use mir.Val.{to_z, of_z}
use Rattle.std.proofs.lemmas.Int.{to_z-of_z}
use Rattle.ess_semantics.specs.Values.{number, of_list}
use Rattle.ess_grammar.specs.ValueTexts.{runs_of, runs_text}
use Rattle.eprime_tree.proofs.PrintedCells.{runs_end}
use Rattle.eprime_tree.proofs.printing.cells.print_runs.Goals as goal

pub returns : goal.returns
returns c =
    runs_end c.args.out.now c.push_i64.new.self c.push_str.new.self c.loop-next.out c.push_i64-2.new.self
    (to_z w64 (of_z w64 c.args.first)) (to_z w64 c.loop-next.last-bits)
    c.args.others.now c.loop-next.next-index c.in_ok-push_i64.ensures.ok c.in_ok-push_str.ensures.ok c.loop-next-test.false
    c.loop-next.invariant c.in_ok-push_i64-2.ensures.ok
    ∙ ap (λ n. c.args.out.now ++ runs_text (runs_of (of_list (map number (n ∷ c.args.others.now)))))
    (to_z-of_z w64 c.args.first (search rules))
