use Rattle.ess_guard_laws.proofs.laws.terms_under_conditions.Goals as goal
use Rattle.std.specs.Prelude.{Bool, true, false, [], is_some}
use Rattle.std.proofs.Common.{sym, ap, ◌∙◌}
use Rattle.ess_semantics.specs.Values.{Text}
use Rattle.ess_semantics.specs.Trees.{Ex}
use Rattle.ess_semantics.specs.Meaning.{Env}
use Rattle.ess_semantics.specs.Meets.{Meets}
use Rattle.ess_semantics.specs.Totality.{Total}
use Rattle.ess_guard_laws.specs.Guard.{there, make_total, make_total_term}
use Rattle.ess_guard_laws.proofs.Holding.{all-of-holds, all-of-truth, tested-hold}
use Rattle.ess_guard_laws.proofs.Rows.{own-holds}
use Rattle.ess_guard_laws.proofs.LiteralRows.{matrix-holds}
use Rattle.ess_guard_laws.proofs.Meanings.{same}
use Rattle.ess_guard_laws.proofs.StructuresMet as S
use Rattle.ess_guard_laws.proofs.Behind.{behind-hold, all-of-total}
use Rattle.ess_guard_laws.proofs.Terms.{summed-means, summed-elsewhere, summed-met, summed-total}
use Rattle.ess_guard_laws.proofs.TermLaws.{held, tells-values, told-met}
use Rattle.ess_guard_laws.proofs.TotalLaws.{behind-there}

answer-met : (x y : Text) (b : Bool) (e : Ex) (env : Env) → Meets e env → Meets ((make_total_term x y b e).1) env
answer-met x y true e env m = summed-met (there x y e) (make_total x y e) env (S.asked false x y e [] false env m) (S.met false x y e [] env m)
answer-met x y false e env m = S.met false x y e [] env m

pub returns : goal.returns
returns c = record {
  there = λ x y b e env s. tells-values x y e env s;
  met = λ x y b e env m. (told-met x y e env m, answer-met x y b e env m);
  there_total = λ x y b e env v. all-of-total (there x y e) env (Total (make_total x y e) env) (behind-there x y e env v);
  term_same = λ x y e env. same false x y (own-holds x y) (matrix-holds x) e [] env;
  term_total = λ x y e env v t. behind-hold (there x y e) env (Total (make_total x y e) env) (behind-there x y e env v) (tested-hold (there x y e) env (sym (all-of-truth (there x y e) env) ∙ t));
  number_there = λ x y e env n q. all-of-holds (there x y e) env (held x y e env (ap is_some q));
  number_same = λ x y e env n q. summed-means (there x y e) (make_total x y e) env n (held x y e env (ap is_some q)) (same false x y (own-holds x y) (matrix-holds x) e [] env ∙ q);
  number_elsewhere = λ x y e env t. summed-elsewhere (there x y e) (make_total x y e) env t;
  number_total = λ x y e env v. summed-total (there x y e) (make_total x y e) env (behind-there x y e env v);
}
