-- From one statement to the next.
use Rattle.std.proofs.Common.{◌≡◌, refl, sym, ap, ◌∙◌, subst, List, [], ◌∷◌, ◌++◌, map, Option, None, option_map}
use Rattle.std.proofs.lemmas.List.{map_push}
use Rattle.ess_semantics.specs.Values.{Text}
use Rattle.ess_semantics.specs.Names.{Names}
use Rattle.ess_semantics.specs.Trees as pure
use Rattle.ess_semantics.specs.Types.{Ty}
use Rattle.ess_semantics.specs.Scopes.{Scope, names_in_scope, empty_scope}
use Rattle.ess_semantics.specs.Prepared.{resolve_stm}
use Rattle.ess_semantics.specs.Judgements.{judgements, first_failed, put_in_scope, scope_after, declares, names_by}
use Rattle.ess_core.specs.declared.statements.Stm.{Stm}
use Rattle.ess_core.specs.StatementViews.{pure_stm}
use Rattle.ess_types_judging.specs.ScopeViews.{pure_scope}
use Rattle.ess_types_judging_laws.specs.Verdicts.{findings}
use Rattle.ess_types_judging_laws.proofs.Verdicts.{first_failed_found}
use Rattle.ess_types.specs.declared.refusal.Judgement.{Judgement}
use Rattle.ess_types_judging.specs.declared.scope.Scope as code
use Rattle.ess_types.specs.Refusals.{pure_judgement}
use Rattle.ess_types.specs.Entering.{AreNew, AreStems, AreTyped, names_of}
use Rattle.ess_types.specs.ValueNames.{StemsAdded}
use Rattle.ess_types.specs.Judging.{IsFirstFound, IsJudged}
use Rattle.ess_types.specs.Progress.{IsOutside, IsBetween}
use Rattle.ess_types.proofs.ScopeLemmas.{declares-put, names-found, stems-after, typed-after, met-new}

-- ---- before the first statement

-- No name is in scope, so what holds between statements holds.
pub between_none : (s : code.Scope) (ns : List Text) → s.table.bound ≡ [] → s.bound ≡ [] → ns ≡ [] → pure_scope s ≡ empty_scope
    → IsBetween s ns
between_none s ns t b n e =
    record {
      outside = record { table = t; bound = b };
      stems = subst (λ z. AreStems ns z) (sym e) (subst (λ ns. AreStems ns empty_scope) (sym n) (λ u. refl));
      typed = subst AreTyped (sym e) (λ a h. (refl, refl));
    }

-- ---- the judgements

-- What is found to fail is what fails.
judged_first : (w t : pure.Stm) (s : Scope) (o : Option Judgement) → IsFirstFound w t s o → t ≡ put_in_scope w s → IsJudged w s o
judged_first w t s o h p =
    record { first = h.first ∙ sym (first_failed_found judgements w t s) ∙ ap (λ t. first_failed judgements w t s) p }

-- A statement that meets all declares new names.
met_new : (w t : pure.Stm) (s : Scope) (o : Option Judgement) → IsFirstFound w t s o → o ≡ None → t ≡ put_in_scope w s
    → AreNew (names_in_scope s) (declares t)
met_new w t s o h e p =
    met-new w t (findings w s) (findings t s) s (sym h.first ∙ ap (option_map pure_judgement) e)
    (ap declares p ∙ declares-put w s.lets s.tys)

module _ (w : pure.Stm) (t u : Stm) (s z : code.Scope) (o v : Option Judgement) (a : u ≡ t)
    (b : pure_stm t ≡ put_in_scope w (pure_scope s)) (c : z ≡ s)
    (h : IsFirstFound w (pure_stm u) (pure_scope z) o) (e : o ≡ v) where
  found-there : IsFirstFound w (pure_stm t) (pure_scope s) v
  found-there =
      subst (λ v. IsFirstFound w (pure_stm t) (pure_scope s) v) e
      (subst (λ s. IsFirstFound w (pure_stm t) (pure_scope s) o) c (subst (λ t. IsFirstFound w (pure_stm t) (pure_scope z) o) a h))

  -- The same in a scope that is as it was, of a statement that is borrowed.
  pub judged_there : IsJudged w (pure_scope s) v
  judged_there = judged_first w (pure_stm t) (pure_scope s) v found-there b

  pub new_there : v ≡ None → AreNew (names_in_scope (pure_scope z)) (declares (pure_stm t))
  new_there n = subst (λ s. AreNew (names_in_scope (pure_scope s)) (declares (pure_stm t))) (sym c)
      (met_new w (pure_stm t) (pure_scope s) v found-there n b)

-- ---- behind a statement that meets all

module _ (t : pure.Stm) (s z : Scope) (e : z ≡ scope_after t s) where
  -- The stems of its names are added.
  stems_behind : (ns ms names : List Text) → AreStems ns s → names ≡ declares t → StemsAdded names ns ms → AreStems ms z
  stems_behind ns ms names h d a = subst (AreStems ms) (sym e) (stems-after t s ns ms h (subst (λ l. StemsAdded l ns ms) d a))

  -- What is typed stays typed.
  typed_behind : AreTyped s → AreTyped z
  typed_behind h = subst AreTyped (sym e) (typed-after t s h)

-- So what holds between statements holds behind it.
pub between_behind : (t : pure.Stm) (s z : code.Scope) (ns ms names : List Text) → IsBetween s ns → IsOutside z
    → pure_scope z ≡ scope_after t (pure_scope s)
    → names ≡ declares t → StemsAdded names ns ms → IsBetween z ms
between_behind t s z ns ms names b o e d a =
    record {
      outside = o;
      stems = stems_behind t (pure_scope s) (pure_scope z) e ns ms names b.stems d a;
      typed = typed_behind t (pure_scope s) (pure_scope z) e b.typed;
    }

-- Its names are added with their types.
pub names_behind : (t : pure.Stm) (s : Scope) (o : Option Ty) (ns ms : Names Ty) → ms ≡ ns ++ names_of t o → o ≡ (findings t s).ty
    → ms ≡ ns ++ names_by t s
names_behind t s o ns ms h e = h ∙ ap (λ o. ns ++ names_of t o) e ∙ ap (λ l. ns ++ l) (names-found t s)

-- It is added as it is resolved.
pub stms_behind : (t : pure.Stm) (s : Scope) (ts us : List Stm) (u : Stm) → us ≡ ts ++ u ∷ [] → pure_stm u ≡ resolve_stm t s.tys
    → map pure_stm us ≡ map pure_stm ts ++ resolve_stm t s.tys ∷ []
stms_behind t s ts us u h e = ap (map pure_stm) h ∙ map_push pure_stm ts u ∙ ap (λ x. map pure_stm ts ++ x ∷ []) e
