-- The verdict from statement to statement.
use Rattle.std.proofs.Common.{◌≡◌, sym, ap, ℕ, suc, List, [], ◌∷◌, ◌++◌, Option, Some, None}
use Rattle.std.proofs.lemmas.List.{append_assoc}
use Rattle.ess_semantics.specs.Names.{Names}
use Rattle.ess_semantics.specs.Trees.{Stm}
use Rattle.ess_semantics.specs.Types.{Ty}
use Rattle.ess_semantics.specs.Scopes.{Scope}
use Rattle.ess_semantics.specs.Lettings.{put_all}
use Rattle.ess_semantics.specs.Prepared.{resolve_stm, resolve_all}
use Rattle.ess_semantics.specs.Judgements.{Judgement, judgements, first_failed, put_in_scope, scope_after, names_by, first_fault, types_from}
use Rattle.ess_types.specs.Verdicts.{verdict_from}

module _ (k : ℕ) (w : Stm) (ws : List Stm) (s : Scope) (ns : Names Ty) (ts : List Stm) where
  abbrev put : Stm
  put = put_in_scope w s

  abbrev behind : Scope
  behind = scope_after put s

  fault-is : (o : Option Judgement) → first_failed judgements w put s ≡ o
      → first_fault k (w ∷ ws) s ≡ (elim o [ None ↦ first_fault (suc k) ws behind | Some j ↦ Some (j, k) ])
  fault-is o h = ap (λ o. elim o [ None ↦ first_fault (suc k) ws behind | Some j ↦ Some (j, k) ]) h

  -- Behind a statement that meets all judgements.
  pub verdict-more : first_failed judgements w put s ≡ None
      → verdict_from k (w ∷ ws) s ns ts ≡ verdict_from (suc k) ws behind (ns ++ names_by put s) (ts ++ resolve_stm put s.tys ∷ [])
  verdict-more h =
      let f = fault-is None h in
      let n = sym (append_assoc ns (names_by put s) (types_from ws behind)) in
      let t = sym (append_assoc ts (resolve_stm put s.tys ∷ []) (resolve_all (put_all ws behind.lets behind.tys) behind.tys)) in
      λ i. record { fault = f i; names = n i; stms = t i }

  -- At a statement that fails one.
  pub verdict-failed : (j : Judgement) → first_failed judgements w put s ≡ Some j → (verdict_from k (w ∷ ws) s ns ts).fault ≡ Some (j, k)
  verdict-failed j h = fault-is (Some j) h
