use Rattle.std.proofs.Common.{rules, ◌≡◌, refl, sym, ap, ◌∙◌, ◌<◌, [], ◌∷◌, ◌++◌, length, map, drop, get_or}
use Rattle.ess_core.specs.TreeViews.{pure_pat}
use Rattle.conjure_model_laws.specs.ToldApart.{told_pats}
use Rattle.ess_model_names.specs.Renames.{pure_scope}
use Rattle.ess_model_names.proofs.ScopeLaws.{extends_on}
use Rattle.ess_model_names.proofs.Loops.{pats_done}
use Rattle.ess_model_names.proofs.ToldLoops.{told_pat_more, told_pat_names, told_pat_next}
use Rattle.ess_model_names.proofs.told_patterns.+told_pat.Goals as goal

pub told_pats-loop-pat-preserved : goal.told_pats-loop-pat-preserved
told_pats-loop-pat-preserved t c =
    let i = c.loop-pat.pat-index in
    let x = c.pat-item.result in
    let y = c.in_ok-item.item in
    let lt : i < length c.args.pats.now = search rules in
    let is : x ≡ get_or c.args.pats.now i x = search rules in
    let p : c.push.new.self ≡ c.loop-pat.told ++ y ∷ [] = search rules in
    record {
      tree = told_pat_more c.args.pats.now i x y c.loop-pat.told c.push.new.self _ _ _ _ lt is p
          c.in_ok-item.ensures.tree c.in_ok-item.ensures.names c.in_ok-item.ensures.next ∙ c.loop-pat.invariant.tree;
      names = told_pat_names c.args.pats.now i x _ _ _ _ lt is c.in_ok-item.ensures.names c.in_ok-item.ensures.next
          ∙ c.loop-pat.invariant.names;
      next = told_pat_next c.args.pats.now i x _ _ _ _ lt is c.in_ok-item.ensures.names c.in_ok-item.ensures.next
          ∙ c.loop-pat.invariant.next;
      kept = extends_on c.args.scope.now c.loop-pat.scope _ c.loop-pat.invariant.kept c.in_ok-item.ensures.kept;
    }

pub told_pats-returns-clause-tree : goal.told_pats-returns-clause-tree
told_pats-returns-clause-tree t c =
    pats_done (λ ps. (told_pats ps (pure_scope c.loop-pat.scope) c.loop-pat.next).0) c.args.pats.now c.loop-pat.pat-index c.loop-pat.told _
    (search rules) refl c.loop-pat.invariant.tree
