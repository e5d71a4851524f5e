-- Names in use have values as rewriting asks for it.
use Rattle.std.proofs.Common.{◌≡◌, refl, sym, ◌∙◌, Bool, true, false, ◌⊎◌, inl, inr, List, None}
use Rattle.ess_semantics.specs.Values.{Text}
use Rattle.ess_semantics.specs.Names.{Names, look, keys, is_among}
use Rattle.ess_semantics.specs.NameTokens.{is_name_token}
use Rattle.ess_semantics.specs.Trees.{Ex, Stm, given, find}
use Rattle.ess_semantics.specs.Prepared.{prepared}
use Rattle.ess_semantics.specs.Judgements.{fault}
use Rattle.ess_semantics.specs.Assignments.{Assignment, env_of}
use Rattle.ess_semantics.specs.Parameters.{Param, all_declared}
use Rattle.conjure_laws.proofs.Lists.{at-item}
use Rattle.conjure_settled_laws.specs.EndValues.{IsInEnv, valued_in}
use Rattle.conjure_settled_laws.specs.Laws.{TypedNamesHaveValues}
use Rattle.conjure_settled_laws.proofs.EndValues.{typed-has-end-values}

-- A name in use for which nothing stands has no value.
no-other : (S : List Stm) (vs : Names Ex) (p a : Assignment) (x : Text) → fault S ≡ None → Param S p →
    ((x : Text) → is_among (valued_in S) x ≡ true → is_among (keys vs) x ≡ true) →
    (is_among (all_declared S) x ≡ true) ⊎ ((is_among (all_declared S) x ≡ false) × (is_name_token x ≡ false)) →
    is_among (keys vs) x ≡ false → look (env_of S p a).vals x ≡ None
no-other S vs p a x e P s (inl d) k = let h = typed-has-end-values S p a e P in h.others x d (unvalued (is_among (valued_in S) x) (s x) k)
  where
    unvalued : {c : Bool} (b : Bool) → (b ≡ true → c ≡ true) → c ≡ false → b ≡ false
    unvalued false f k = refl
    unvalued true f k = let z : true ≡ false = sym (f refl) ∙ k in cc
no-other S vs p a x e P s (inr u) k = let h = typed-has-end-values S p a e P in h.unspelled x u.0 u.1

-- Names in use have values.
pub typed-names-have-values : TypedNamesHaveValues
typed-names-have-values S vs n e s u = record {
  types = λ p a P. let h = typed-has-end-values S p a e P in h.types;
  of_given = λ p a x d v P i q. let h = typed-has-end-values S p a e P in
      at-item (IsInEnv S p a (env_of S p a)) (prepared S) (given x d) h.declared i ∙ q;
  of_find = λ p a x d v P i q. let h = typed-has-end-values S p a e P in
      at-item (IsInEnv S p a (env_of S p a)) (prepared S) (find x d) h.declared i ∙ q;
  of_no_other = λ p a x P i k. no-other S vs p a x e P s (u x i) k;
}
