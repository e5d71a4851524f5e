use Rattle.std.proofs.Common.{◌≡◌, sym, ap, ◌∙◌, true, false, ◌++◌, [], ◌∷◌}
use Rattle.std.proofs.lemmas.Result.{on_ok_weaker}
use Rattle.eprime_tree.specs.Views.{pure_ex}
use Rattle.ess_model_written.specs.RulesWritten.{is_true}
use Rattle.ess_model_written.proofs.Truths.{used_not, used_one}
use Rattle.ess_model_written.proofs.trees.push_unless_true.Goals as goal

pub returns-then-is_true : goal.returns-then-is_true
returns-then-is_true c =
    let same : c.get.result.now ≡ c.args.rule = c.get.ensures in
    let yes : c.is_true.result ≡ true = c.if-is_true.true in
    used_not c.args.rule c.args.rules.now (λ s. sym yes ∙ c.is_true.ensures s ∙ ap (λ e. is_true (pure_ex s e)) same)

pub returns-else-is_true : goal.returns-else-is_true
returns-else-is_true c =
    let same : c.get.result.now ≡ c.args.rule = c.get.ensures in
    let no : c.is_true.result ≡ false = c.if-is_true.false in
    let inner : c.into_inner.result ≡ c.args.rule = c.into_inner.ensures in
    on_ok_weaker c.push.result
    (λ n. used_one c.args.rule c.args.rules.now c.push.new.self
    (λ s. sym no ∙ c.is_true.ensures s ∙ ap (λ e. is_true (pure_ex s e)) same) (n ∙ ap (λ r. c.args.rules.now ++ r ∷ []) inner))
    c.push.ensures.ok
