use Rattle.std.proofs.Common.{◌≡◌, map, drop}
use Rattle.ess_core.specs.TreeViews.{pure_pat, pats_of}
use Rattle.conjure_model_laws.specs.ToldApart.{told_pats}
use Rattle.ess_model_names.specs.Renames.{pure_scope, Extends}
use Rattle.ess_model_names.specs.Before.{pats_before}
use Rattle.ess_model_names.proofs.told_patterns.+told_pat.Given as goal

abbrev pub invariant-told_pats-loop-pat : goal.invariant-told_pats-loop-pat
invariant-told_pats-loop-pat l = record {
  tree : pats_before (map pure_pat l.told) (told_pats (pats_of (map pure_pat (drop l.pat-index l.pats))) (pure_scope l.scope) l.next).0
      ≡ (told_pats (pats_of (map pure_pat l.pats)) (pure_scope l.initial.scope) l.initial.next).0;
  names : (told_pats (pats_of (map pure_pat (drop l.pat-index l.pats))) (pure_scope l.scope) l.next).1
      ≡ (told_pats (pats_of (map pure_pat l.pats)) (pure_scope l.initial.scope) l.initial.next).1;
  next : (told_pats (pats_of (map pure_pat (drop l.pat-index l.pats))) (pure_scope l.scope) l.next).2
      ≡ (told_pats (pats_of (map pure_pat l.pats)) (pure_scope l.initial.scope) l.initial.next).2;
  kept : Extends l.initial.scope l.scope;
}
