-- Forms of trees that have values: what stands in no natural place, and words and indices that are never without a value.
use Rattle.std.proofs.Common.{◌≡◌, refl, sym, subst, Bool, true, false, ◌&&◌, not, ℕ, [], ◌∷◌, Option, Some, None}
use Rattle.std.specs.Prelude.{IsTrue, is_some}
use Rattle.std.specs.List.{list_all}
use Rattle.ess_semantics.specs.declared.words.Op1.{Op1}
use Rattle.ess_semantics.specs.declared.words.Op2.{Op2}
use Rattle.ess_semantics.specs.declared.words.Fun.{Fun}
use Rattle.ess_semantics.specs.Values.{Text, Value, number, truth, item, node}
use Rattle.ess_semantics.specs.Trees.{Step, to_component, to_field, Op, unary, binary, index, word, Ex, Exs, number_ex, truth_ex, name_ex, node_ex, matrix_ex, comp_ex, cell_ex, seen_ex, ex1, ex2, fun1, no_exs, more_exs}
use Rattle.ess_semantics.specs.Operators.{value_of_unary, value_of_binary, value_of_word1, path_value, value_of_node}
use Rattle.ess_semantics.specs.Meaning.{Env, meaning, meanings}
use Rattle.ess_semantics.specs.Contexts.{guards}
use Rattle.ess_semantics.proofs.Tests.{and-left, and-right, and-both}
use Rattle.ess_guard_laws.specs.Guard.{counts}
use Rattle.ess_guard_laws.specs.Supplied.{Unless}
use Rattle.ess_guard_natural_laws.specs.TotalButNatural.{opens_places}
use Rattle.ess_rules_laws.specs.InclusionRules.{frequency}
use Rattle.ess_values_along_laws.specs.Valued.{lacks, Valued, AllValued}
use Rattle.ess_values_along_laws.specs.ValuesAlong.{may_lack_there}
use Rattle.ess_values_along_laws.proofs.ValuesAlong.{values-along}
use Rattle.ess_values_terms_laws.specs.TermsKeepValues.{is_compound}

-- ---- flags

-- `w && false` is false.
pub and-no : (w : Bool) → w && false ≡ false
and-no true = refl
and-no false = refl

-- `w && true` is w.
pub and-yes : (w : Bool) → w && true ≡ w
and-yes true = refl
and-yes false = refl

-- What is said unless b, where b is false.
pub said : (b : Bool) (P : Type 0) → b ≡ false → Unless b P → P
said true P q h = cc
said false P q h = h

-- What holds, holds unless b.
pub unless-more : (b : Bool) (P : Type 0) → P → Unless b P
unless-more true P h = tt
unless-more false P h = h

-- A negation that is true.
pub not-true : (b : Bool) → not b ≡ true → b ≡ false
not-true true h = cc
not-true false h = refl

-- ---- places

-- What has values in a place that is no natural one has them in any.
pub anywhere : (z w : Bool) (e : Ex) (env : Env) → z ≡ false → Valued z e env → Valued w e env
anywhere z w e env q v = values-along.in_places w e env (subst (λ b. Valued b e env) q v)

-- It has a value.
pub there : (e : Ex) (env : Env) → Valued false e env → IsTrue (is_some (meaning e env))
there e env v = values-along.value false e env refl v

-- So have all of several.
pub all-there : (es : Exs) (env : Env) → AllValued false false es env → IsTrue (list_all is_some (meanings es env))
all-there no_exs env v = refl
all-there (more_exs e es) env v = and-both (is_some (meaning e env)) (list_all is_some (meanings es env)) (there e env v.0)
    (all-there es env v.1)

-- What is no number and no cell by its form needs its values in a natural place too.
by-form : (e : Ex) (env : Env) (w : Bool) → may_lack_there e ≡ false → Valued w e env → Valued false e env
by-form e env false q v = v
by-form (number_ex n) env true q v = tt
by-form (truth_ex b) env true q v = tt
by-form (name_ex a) env true q v = v
by-form (node_ex true op es) env true q v = v
by-form (node_ex false op es) env true q v = (
  said (counts op) (IsTrue (is_some (meaning (node_ex false op es) env))) q v.0,
  subst (λ z. AllValued (guards op) z es env) q v.1,
)
by-form (matrix_ex es d) env true q v = v
by-form (comp_ex e gs) env true q v = v
by-form (cell_ex true n es) env true q v = v
by-form (cell_ex false n es) env true q v = cc
by-form (seen_ex r d ns es) env true q v = v

-- ---- nodes that are never without a value

-- A difference is there where both operands are.
minus-there : (a b : Ex) (env : Env) → IsTrue (is_some (meaning a env)) → IsTrue (is_some (meaning b env)) →
    IsTrue (is_some (meaning (ex2 false Op2.Minus a b) env))
minus-there a b env h k = go (meaning a env) (meaning b env) h k
  where
    both : (v u : Value) → IsTrue (is_some (value_of_binary Op2.Minus v u))
    both (number n) u = refl
    both (truth t) u = refl
    both (item t n) u = refl
    both (node s vs) u = refl

    go : (o p : Option Value) → IsTrue (is_some o) → IsTrue (is_some p) → IsTrue (is_some (value_of_node (binary Op2.Minus) (o ∷ p ∷ [])))
    go None p h k = cc
    go (Some v) None h k = cc
    go (Some v) (Some u) h k = both v u

-- So what is compound by its form needs its values in a natural place too.
pub by-compound : (e : Ex) (env : Env) (w : Bool) → is_compound e ≡ true → Valued w e env → Valued false e env
by-compound e env false q v = v
by-compound (ex2 false Op2.Minus a b) env true q v =
    let h = by-compound a env true (and-left (is_compound a) (is_compound b) q) v.1.0 in
    let k = by-compound b env true (and-right (is_compound a) (is_compound b) q) v.1.1.0 in
    (minus-there a b env (there a env h) (there b env k), (h, (k, tt)))
by-compound e env true q v = by-form e env true (not-true (may_lack_there e) q) v

-- A size is there where the operand is.
pub size-there : (a : Ex) (env : Env) → IsTrue (is_some (meaning a env)) → IsTrue (is_some (meaning (ex1 false Op1.Bar a) env))
size-there a env h = go (meaning a env) h
  where
    one : (v : Value) → IsTrue (is_some (value_of_unary Op1.Bar v))
    one (number n) = refl
    one (truth t) = refl
    one (item t n) = refl
    one (node s vs) = refl

    go : (o : Option Value) → IsTrue (is_some o) → IsTrue (is_some (value_of_node (unary Op1.Bar) (o ∷ [])))
    go None h = cc
    go (Some v) h = one v

-- The value of a word that is never without one.
pub word-there : (f : Fun) (a : Ex) (env : Env) → ((v : Value) → IsTrue (is_some (value_of_word1 f v))) → IsTrue (is_some (meaning a env)) →
    IsTrue (is_some (meaning (fun1 false f a) env))
word-there f a env t h = go (meaning a env) h
  where
    go : (o : Option Value) → IsTrue (is_some o) → IsTrue (is_some (value_of_node (word f) (o ∷ [])))
    go None h = cc
    go (Some v) h = t v

-- How often a value is in a container is there where both are.
frequency-there : (m a : Ex) (env : Env) → IsTrue (is_some (meaning m env)) → IsTrue (is_some (meaning a env)) →
    IsTrue (is_some (meaning (frequency m a) env))
frequency-there m a env h k = go (meaning m env) (meaning a env) h k
  where
    go : (o p : Option Value) → IsTrue (is_some o) → IsTrue (is_some p) → IsTrue (is_some (value_of_node (word Fun.Freq) (o ∷ p ∷ [])))
    go None p h k = cc
    go (Some v) None h k = cc
    go (Some v) (Some u) h k = refl

-- A component or field of a term is there where the term is.
part-there : (b : Bool) (q : Step) (a : Ex) (env : Env) → ((v : Value) → IsTrue (is_some (path_value v (q ∷ []) []))) →
    IsTrue (is_some (meaning a env)) → IsTrue (is_some (meaning (node_ex b (index (q ∷ [])) (more_exs a no_exs)) env))
part-there true q a env t h = refl
part-there false q a env t h = go (meaning a env) h
  where
    go : (o : Option Value) → IsTrue (is_some o) → IsTrue (is_some (value_of_node (index (q ∷ [])) (o ∷ [])))
    go None h = cc
    go (Some v) h = t v

-- ---- their parts

-- A node whose operands have values in no natural place.
pub node-valued : (b w : Bool) (op : Op) (es : Exs) (env : Env) → guards op ≡ false → IsTrue (is_some (meaning (node_ex b op es) env)) →
    AllValued false false es env → Valued w (node_ex b op es) env
node-valued b w op es env g h v = (
  unless-more (lacks w b op) (IsTrue (is_some (meaning (node_ex b op es) env))) h,
  subst (λ z. AllValued z (opens_places w b op) es env) (sym g) (in-any es (opens_places w b op) v),
)
  where
    in-any : (es : Exs) (z : Bool) → AllValued false false es env → AllValued false z es env
    in-any no_exs z v = tt
    in-any (more_exs e es) z v = (values-along.in_places z e env v.0, in-any es z v.1)

-- A word that is never without a value, on such an operand.
pub word-valued : (w : Bool) (f : Fun) (a : Ex) (env : Env) → ((v : Value) → IsTrue (is_some (value_of_word1 f v))) → Valued false a env →
    Valued w (fun1 false f a) env
word-valued w f a env t h = node-valued false w (word f) (more_exs a no_exs) env refl (word-there f a env t (there a env h)) (h, tt)

-- How often a value is in a container.
pub frequency-valued : (w : Bool) (m a : Ex) (env : Env) → Valued false m env → Valued false a env → Valued w (frequency m a) env
frequency-valued w m a env h k =
    node-valued false w (word Fun.Freq) (more_exs m (more_exs a no_exs)) env refl
    (frequency-there m a env (there m env h) (there a env k)) (h, (k, tt))

-- A size.
pub size-valued : (w : Bool) (a : Ex) (env : Env) → Valued false a env → Valued w (ex1 false Op1.Bar a) env
size-valued w a env h = node-valued false w (unary Op1.Bar) (more_exs a no_exs) env refl (size-there a env (there a env h)) (h, tt)

-- A component.
pub component-valued : (b w : Bool) (k : ℕ) (a : Ex) (env : Env) → Valued false a env →
    Valued w (node_ex b (index (to_component k ∷ [])) (more_exs a no_exs)) env
component-valued b w k a env h = node-valued b w (index (to_component k ∷ [])) (more_exs a no_exs) env refl
    (part-there b (to_component k) a env (λ v. refl) (there a env h)) (h, tt)

-- A field.
pub field-valued : (b w : Bool) (f : Text) (a : Ex) (env : Env) → Valued false a env →
    Valued w (node_ex b (index (to_field f ∷ [])) (more_exs a no_exs)) env
field-valued b w f a env h = node-valued b w (index (to_field f ∷ [])) (more_exs a no_exs) env refl
    (part-there b (to_field f) a env (λ v. refl) (there a env h)) (h, tt)
