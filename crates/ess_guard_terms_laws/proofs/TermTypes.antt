-- What types say of the values of judged terms.
use Rattle.std.proofs.Common.{◌≡◌, refl, true, false, Option, Some, None}
use Rattle.std.specs.Prelude.{IsTrue}
use Rattle.ess_semantics.specs.Values.{a_tuple, a_matrix, a_set, a_mset, a_function, a_relation, a_partition, a_record, Value, Values, number, truth, item, node}
use Rattle.ess_semantics.specs.Types.{Tys, any_ty, compound}
use Rattle.ess_semantics.specs.TypeMembers.{is_of_type}
use Rattle.ess_semantics.specs.Resolving.{resolve}
use Rattle.ess_semantics.specs.Meaning.{Env, meaning}
use Rattle.ess_types_laws.specs.Laws.{JudgedExpressionsAreSound}
use Rattle.ess_guard_supplied_laws.specs.Laws.{PresentIsSupplied}
use Rattle.ess_refine_types_laws.specs.MarksOfJudged.{JudgedTreesHaveMarks}
use Rattle.ess_guard_terms_laws.specs.Laws.{JudgedConditionsTellValues}

-- A value of the type of a relation is one.
relation-is : (ts : Tys) (env : Env) (v : Value) → IsTrue (is_of_type (compound a_relation ts) env v) →
    (ps : Values) × (v ≡ node a_relation ps)
relation-is ts env (node a_relation ps) h = (ps, refl)
relation-is ts env (node a_tuple ps) h = cc
relation-is ts env (node a_matrix ps) h = cc
relation-is ts env (node a_set ps) h = cc
relation-is ts env (node a_mset ps) h = cc
relation-is ts env (node a_function ps) h = cc
relation-is ts env (node a_partition ps) h = cc
relation-is ts env (node (a_record fs) ps) h = cc
relation-is ts env (number n) h = cc
relation-is ts env (truth b) h = cc
relation-is ts env (item t k) h = cc

-- No value has the type of an empty literal's members.
none-of-any : (env : Env) (o : Option Value) → ((v : Value) → o ≡ Some v → IsTrue (is_of_type any_ty env v)) → o ≡ None
none-of-any env None h = refl
none-of-any env (Some v) h = let r : false ≡ true = h v refl in cc

pub conditions-tell : JudgedTreesHaveMarks → PresentIsSupplied → JudgedExpressionsAreSound → JudgedConditionsTellValues
conditions-tell m p j = record {
  tells = λ x y e s env h a r. p.tells x y (resolve e s.tys) s.tys env (m e s h) a r;
  applied = λ e s env ts c h t k v q. relation-is ts env v (j e s env c h t (compound a_relation ts) k v q);
  nothing = λ e s env c h t k. none-of-any env (meaning (resolve e s.tys) env) (λ v q. j e s env c h t any_ty k v q);
}
