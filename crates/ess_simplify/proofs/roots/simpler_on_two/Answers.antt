use Rattle.std.proofs.Common.{◌≡◌, sym, ◌∙◌, true, false, length, get_or}
use Rattle.std.specs.Prelude.{is_some}
use Rattle.ess_semantics.specs.Trees.{binary}
use Rattle.ess_semantics.specs.Operators.{connective}
use Rattle.ess_core_nodes.specs.NodeViews.{pure_node}
use Rattle.ess_simplify_laws.specs.declared.words.Outcome.{Outcome}
use Rattle.ess_simplify_laws.specs.Simplifying.{said, outcome}
use Rattle.ess_core_nodes.specs.declared.words.Op.{Op}
use Rattle.ess_simplify.proofs.NodeForms.{pure_truth, pure_op_node}
use Rattle.ess_simplify.proofs.RootRows.{other_connected, two_stay, two_say}
use Rattle.ess_simplify.proofs.roots.simpler_on_two.Goals as goal

pub returns-then-is_connective : goal.returns-then-is_connective
returns-then-is_connective c =
    let joins : is_some (connective (binary c.args.op)) ≡ true = cc in
    pure_truth false ∙ sym (other_connected c.args.mark c.args.op c.args.operands (λ e. c.if-len-ne2.true (c.len.ensures ∙ e)) joins)

pub returns-in-Stays : goal.returns-in-Stays
returns-in-Stays c =
    let two : length c.args.operands ≡ 2 = sym c.len.ensures ∙ c.if-len-ne2.false in
    let is : c.index-as_slice-0.result ≡ get_or c.args.operands 0 c.index-as_slice-0.result = cc in
    let it : c.index-as_slice-1.result ≡ get_or c.args.operands 1 c.index-as_slice-1.result = cc in
    let first : c.truth_of.result ≡ said (pure_node c.index-as_slice-0.result) = cc in
    let second : c.truth_of-2.result ≡ said (pure_node c.index-as_slice-1.result) = cc in
    let by : c.outcome_of.result ≡ outcome c.args.op c.truth_of.result c.truth_of-2.result = cc in
    let stays : c.outcome_of.result ≡ Outcome.Stays = cc in
    pure_op_node c.args.mark (Op.Binary c.args.op) c.args.operands ∙ sym (two_stay c.args.mark c.args.op c.args.operands c.index-as_slice-0.result c.index-as_slice-1.result c.truth_of.result
    c.truth_of-2.result c.outcome_of.result two is it first second by stays)

pub returns-in-Says : goal.returns-in-Says
returns-in-Says c =
    let two : length c.args.operands ≡ 2 = sym c.len.ensures ∙ c.if-len-ne2.false in
    let is : c.index-as_slice-0.result ≡ get_or c.args.operands 0 c.index-as_slice-0.result = cc in
    let it : c.index-as_slice-1.result ≡ get_or c.args.operands 1 c.index-as_slice-1.result = cc in
    let first : c.truth_of.result ≡ said (pure_node c.index-as_slice-0.result) = cc in
    let second : c.truth_of-2.result ≡ said (pure_node c.index-as_slice-1.result) = cc in
    let by : c.outcome_of.result ≡ outcome c.args.op c.truth_of.result c.truth_of-2.result = cc in
    let says : c.outcome_of.result ≡ Outcome.Says c.in-Says.value = cc in
    pure_truth c.in-Says.value ∙ sym (two_say c.args.mark c.args.op c.args.operands c.index-as_slice-0.result c.index-as_slice-1.result c.truth_of.result
    c.truth_of-2.result c.outcome_of.result two is it first second by c.in-Says.value says)
