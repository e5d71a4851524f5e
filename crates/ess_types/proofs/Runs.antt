-- The verdict, from statement to statement of the code's specification.
use Rattle.std.proofs.Common.{◌≡◌, sym, ap, ◌∙◌, ℕ, suc, ◌+◌, ◌<◌, ◌≤◌, subst, List, [], ◌∷◌, ◌++◌, map, drop, length, get_or, arith, Option, Some, None, option_map}
use Rattle.std.proofs.lemmas.List.{at_drop_more, at_drop_all, append-nil}
use Rattle.ess_semantics.specs.Trees as pure
use Rattle.ess_semantics.specs.Scopes.{Scope, empty_scope}
use Rattle.ess_semantics.specs.Prepared.{resolve_stm, prepared}
use Rattle.ess_semantics.specs.Judgements.{put_in_scope, scope_after, names_by, fault, declared_types}
use Rattle.ess_core.specs.declared.statements.Stm.{Stm}
use Rattle.ess_core.specs.StatementViews.{pure_stm}
use Rattle.ess_types_judging.specs.ScopeViews.{pure_scope}
use Rattle.ess_types.specs.declared.refusal.Judgement.{Judgement}
use Rattle.ess_types.specs.declared.refusal.TypeNo.{TypeNo}
use Rattle.ess_types.specs.declared.progress.Progress.{Progress}
use Rattle.ess_types.specs.Refusals.{pure_judgement, refusal, IsRefused}
use Rattle.ess_types.specs.Judging.{IsJudged}
use Rattle.ess_types.specs.Progress.{pure_named_ty, verdict_behind, IsBehind}
use Rattle.ess_types.specs.Verdicts.{verdict, verdict_from}
use Rattle.ess_types.proofs.VerdictLemmas.{verdict-more, verdict-failed}

-- Before the first statement the verdict is that on all.
pub run_none : (xs : List Stm) (p : Progress) → pure_scope p.scope ≡ empty_scope → p.names ≡ [] → p.prepared ≡ []
    → verdict_behind (0 + 1) (map pure_stm (drop 0 xs)) p ≡ verdict (map pure_stm xs)
run_none xs p s n t =
    ap (λ z. verdict_from 1 (map pure_stm xs) z (map pure_named_ty p.names) (map pure_stm p.prepared)) s
    ∙ ap (λ l. verdict_from 1 (map pure_stm xs) empty_scope (map pure_named_ty l) (map pure_stm p.prepared)) n
    ∙ ap (λ l. verdict_from 1 (map pure_stm xs) empty_scope [] (map pure_stm l)) t

module _ (xs : List Stm) (i : ℕ) (x : Stm) (p : Progress) (o : i < length xs) (is : x ≡ get_or xs i x) where
  abbrev w : pure.Stm
  w = pure_stm x

  abbrev s : Scope
  s = pure_scope p.scope

  left : verdict_behind (i + 1) (map pure_stm (drop i xs)) p ≡ verdict_behind (i + 1) (pure_stm x ∷ map pure_stm (drop (i + 1) xs)) p
  left =
      at_drop_more (λ l. verdict_behind (i + 1) (map pure_stm l) p) xs i x o
      ∙ ap (λ y. verdict_behind (i + 1) (map pure_stm (y ∷ drop (i + 1) xs)) p) (sym is)

  -- A statement that meets all judgements.
  pub run_more : (q : Progress) (f : Option Judgement) → IsJudged w s f → f ≡ None
      → IsBehind (put_in_scope w s) p q
      → verdict_behind (i + 1 + 1) (map pure_stm (drop (i + 1) xs)) q ≡ verdict_behind (i + 1) (map pure_stm (drop i xs)) p
  run_more q f h e b =
      let next : i + 1 + 1 ≡ suc (i + 1) = omega arith in
      ap (λ z. verdict_from (i + 1 + 1) (map pure_stm (drop (i + 1) xs)) z (map pure_named_ty q.names) (map pure_stm q.prepared)) b.scope
      ∙ ap (λ l. verdict_from (i + 1 + 1) (map pure_stm (drop (i + 1) xs)) (scope_after (put_in_scope w s) s) l
      (map pure_stm q.prepared)) b.names
      ∙ ap (λ l. verdict_from (i + 1 + 1) (map pure_stm (drop (i + 1) xs)) (scope_after (put_in_scope w s) s)
      (map pure_named_ty p.names ++ names_by (put_in_scope w s) s) l) b.prepared
      ∙ ap (λ k. verdict_from k (map pure_stm (drop (i + 1) xs)) (scope_after (put_in_scope w s) s)
      (map pure_named_ty p.names ++ names_by (put_in_scope w s) s)
      (map pure_stm p.prepared ++ resolve_stm (put_in_scope w s) s.tys ∷ [])) next
      ∙ sym (left ∙ verdict-more (i + 1) w (map pure_stm (drop (i + 1) xs)) s (map pure_named_ty p.names) (map pure_stm p.prepared)
      (sym h.first ∙ ap (option_map pure_judgement) e))

  -- A statement that fails one.
  fault-there : (f : Option Judgement) (j : Judgement) → IsJudged w s f → f ≡ Some j
      → verdict_behind (i + 1) (map pure_stm (drop i xs)) p ≡ verdict (map pure_stm xs)
      → fault (map pure_stm xs) ≡ Some (pure_judgement j, i + 1)
  fault-there f j h g e =
      sym (ap (λ v. v.fault) (sym left ∙ e))
      ∙ verdict-failed (i + 1) w (map pure_stm (drop (i + 1) xs)) s (map pure_named_ty p.names) (map pure_stm p.prepared) (pure_judgement j)
      (sym h.first ∙ ap (option_map pure_judgement) g)

-- The refusal is that of the fault.
refused-as : (S : List pure.Stm) (j : Judgement) (k : ℕ) → fault S ≡ Some (pure_judgement j, k)
    → IsRefused S (refusal (pure_judgement j, k))
refused-as S Judgement.UnknownName k h = ap (option_map refusal) h
refused-as S Judgement.DoubleName k h = ap (option_map refusal) h
refused-as S Judgement.IllTyped k h = ap (option_map refusal) h
refused-as S Judgement.NotFinite k h = ap (option_map refusal) h
refused-as S Judgement.NotEnumerable k h = ap (option_map refusal) h
refused-as S Judgement.OpenGiven k h = ap (option_map refusal) h

pub run_failed : (xs : List Stm) (i : ℕ) (x : Stm) (p : Progress) → i < length xs → x ≡ get_or xs i x
    → (f : Option Judgement) (j : Judgement) → IsJudged (pure_stm x) (pure_scope p.scope) f
    → f ≡ Some j → verdict_behind (i + 1) (map pure_stm (drop i xs)) p ≡ verdict (map pure_stm xs) → (why : TypeNo)
    → why ≡ refusal (pure_judgement j, i + 1)
    → IsRefused (map pure_stm xs) why
run_failed xs i x p o is f j h g e why r =
    subst (IsRefused (map pure_stm xs)) (sym r) (refused-as (map pure_stm xs) j (i + 1) (fault-there xs i x p o is f j h g e))

module _ (xs : List Stm) (i : ℕ) (p : Progress) (o : length xs ≤ i)
    (e : verdict_behind (i + 1) (map pure_stm (drop i xs)) p ≡ verdict (map pure_stm xs)) where
  done : verdict (map pure_stm xs) ≡ verdict_behind (i + 1) [] p
  done = sym e ∙ at_drop_all (λ l. verdict_behind (i + 1) (map pure_stm l) p) xs i o

  -- Behind the last statement there is no fault.
  pub run_all : fault (map pure_stm xs) ≡ None
  run_all = ap (λ v. v.fault) done

  -- The names are all names.
  pub run_names : map pure_named_ty p.names ≡ declared_types (map pure_stm xs)
  run_names = sym (ap (λ v. v.names) done ∙ append-nil (map pure_named_ty p.names))

  -- The statements are all, prepared.
  pub run_prepared : map pure_stm p.prepared ≡ prepared (map pure_stm xs)
  run_prepared = sym (ap (λ v. v.stms) done ∙ append-nil (map pure_stm p.prepared))

-- The statements are judged one after another.
pub ruleset all_judged = (run_none, run_more, run_all, run_names, run_prepared)
