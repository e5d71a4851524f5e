use Rattle.std.proofs.Common.{◌≡◌, sym, ◌∙◌, false, length, get_or}
use Rattle.ess_core_nodes.specs.NodeViews.{pure_node}
use Rattle.ess_simplify.specs.declared.roots.Denial.{Denial}
use Rattle.ess_simplify.specs.Roots.{denial}
use Rattle.ess_semantics.specs.declared.words.Op1.{Op1}
use Rattle.ess_core_nodes.specs.declared.words.Op.{Op}
use Rattle.ess_simplify.proofs.NodeForms.{pure_truth, pure_op_node}
use Rattle.ess_simplify.proofs.RootRows.{other_false, one_says, one_stays}
use Rattle.ess_simplify.proofs.roots.denied.Goals as goal

pub returns-then-len-ne1 : goal.returns-then-len-ne1
returns-then-len-ne1 c = pure_truth false ∙ sym (other_false c.args.mark c.args.operands (λ e. c.if-len-ne1.true (c.len.ensures ∙ e)))

pub returns-in-Says : goal.returns-in-Says
returns-in-Says c =
    let one : length c.args.operands ≡ 1 = sym c.len.ensures ∙ c.if-len-ne1.false in
    let is : c.index-as_slice-0.result ≡ get_or c.args.operands 0 c.index-as_slice-0.result = cc in
    let by : c.denial_of.result ≡ denial (pure_node c.index-as_slice-0.result) = cc in
    let says : c.denial_of.result ≡ Denial.Says c.in-Says.value = cc in
    pure_truth c.in-Says.value ∙ sym (one_says c.args.mark c.args.operands c.index-as_slice-0.result c.denial_of.result c.in-Says.value one is by says)

pub returns-in-Stays : goal.returns-in-Stays
returns-in-Stays c =
    let one : length c.args.operands ≡ 1 = sym c.len.ensures ∙ c.if-len-ne1.false in
    let is : c.index-as_slice-0.result ≡ get_or c.args.operands 0 c.index-as_slice-0.result = cc in
    let by : c.denial_of.result ≡ denial (pure_node c.index-as_slice-0.result) = cc in
    let stays : c.denial_of.result ≡ Denial.Stays = cc in
    pure_op_node c.args.mark (Op.Unary Op1.Not) c.args.operands ∙ sym (one_stays c.args.mark c.args.operands c.index-as_slice-0.result c.denial_of.result one is by stays)
