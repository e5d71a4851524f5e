-- The conditions that an item is none of those before it: those that the form answers are left out, and the others say what they say.
use Rattle.std.proofs.Common.{◌≡◌, refl, sym, ap, ◌∙◌, Bool, true, false, ◌||◌, not, if◌then◌else◌, List, [], ◌∷◌, Option, Some}
use Rattle.ess_semantics.specs.declared.words.Op1.{Op1}
use Rattle.ess_semantics.specs.declared.words.Op2.{Op2}
use Rattle.ess_semantics.specs.Values.{Value, truth}
use Rattle.ess_semantics.specs.Order.{same}
use Rattle.ess_semantics.specs.Collections.{holds}
use Rattle.ess_semantics.specs.Trees.{unary, binary, Ex, ex1, ex2, Gens, cond}
use Rattle.ess_semantics.specs.Operators.{value_of_node, false_where_undefined}
use Rattle.ess_semantics.specs.Meaning.{Env, meaning, items_under, where_true}
use Rattle.ess_semantics.specs.Meets.{Meets, MeetsGens}
use Rattle.ess_rules_laws.specs.Apart.{are_apart}
use Rattle.ess_rules_laws.specs.Listings.{none_of}
use Rattle.ess_rules_laws.specs.AlternativeLookups.{none_at}
use Rattle.ess_rules_laws.proofs.Apart.{apart-unequal}
use Rattle.ess_rules_laws.proofs.Connectives.{binary-means, not-means}

-- What it means that two terms differ, from what they mean.
abbrev different : Option Value → Option Value → Option Value
different o p =
    false_where_undefined true (value_of_node (unary Op1.Not)
    (false_where_undefined true (value_of_node (binary Op2.Eq) (o ∷ p ∷ [])) ∷ []))

-- The condition that b isn't a.
abbrev pub is_other : Ex → Ex → Ex
is_other b a = ex1 true Op1.Not (ex2 true Op2.Eq b a)

-- What holds of the conditions of all items but one, with and without the one on that, holds of the conditions of all.
pub none_of-more : (P : Gens → Type 0) (b a : Ex) (bs : List Ex) → P (none_of bs a) →
    (P (none_of bs a) → P (cond (is_other b a) (none_of bs a))) →
    P (none_of (b ∷ bs) a)
none_of-more P b a bs h k = go (are_apart b a)
  where
    go : (c : Bool) → P (if c then none_of bs a else cond (is_other b a) (none_of bs a))
    go true = h
    go false = k h

-- A condition that is left out would be true.
pub none_of-means : (b a : Ex) (bs : List Ex) (env : Env) (k : Env → Option (List Value)) →
    items_under (none_of (b ∷ bs) a) env k ≡ where_true (meaning (is_other b a) env) (λ u. items_under (none_of bs a) env k)
none_of-means b a bs env k = go (are_apart b a) refl
  where
    go : (c : Bool) → are_apart b a ≡ c → items_under (if c then none_of bs a else cond (is_other b a) (none_of bs a)) env k ≡
        where_true (meaning (is_other b a) env) (λ u. items_under (none_of bs a) env k)
    go true q = sym (ap (λ o. where_true o (λ u. items_under (none_of bs a) env k)) (apart-unequal b a env q))
    go false q = refl

-- The same of those that a term is asked for where it is a.
pub none_at-more : (P : Gens → Type 0) (b a x : Ex) (bs : List Ex) → P (none_at bs a x) →
    (P (none_at bs a x) → P (cond (is_other b x) (none_at bs a x))) →
    P (none_at (b ∷ bs) a x)
none_at-more P b a x bs h k = go (are_apart b a || are_apart b x)
  where
    go : (c : Bool) → P (if c then none_at bs a x else cond (is_other b x) (none_at bs a x))
    go true = h
    go false = k h

-- Where x is a, a condition that is left out would be true.
pub none_at-means : (b a x : Ex) (bs : List Ex) (env : Env) (k : Env → Option (List Value)) → meaning a env ≡ meaning x env →
    items_under (none_at (b ∷ bs) a x) env k ≡ where_true (meaning (is_other b x) env) (λ u. items_under (none_at bs a x) env k)
none_at-means b a x bs env k e = go (are_apart b a) refl (are_apart b x) refl
  where
    left-out : meaning (is_other b x) env ≡ Some (truth true) →
        items_under (none_at bs a x) env k ≡ where_true (meaning (is_other b x) env) (λ u. items_under (none_at bs a x) env k)
    left-out q = sym (ap (λ o. where_true o (λ u. items_under (none_at bs a x) env k)) q)

    go : (c : Bool) → are_apart b a ≡ c → (d : Bool) → are_apart b x ≡ d →
        items_under (if c || d then none_at bs a x else cond (is_other b x) (none_at bs a x)) env k ≡
        where_true (meaning (is_other b x) env) (λ u. items_under (none_at bs a x) env k)
    go true q d r = left-out (ap (different (meaning b env)) (sym e) ∙ apart-unequal b a env q)
    go false q true r = left-out (apart-unequal b x env r)
    go false q false r = refl

-- ---- what they say

-- The expressions have these values.
abbrev pub Known : List Ex → List Value → Env → Type 0
Known [] [] env = Unit {0}
Known (b ∷ bs) (u ∷ us) env = (meaning b env ≡ Some u) × Known bs us env
Known bs us env = ⊥

-- One condition more, of terms that have values.
one-more : (b a : Ex) (u v : Value) (env : Env) (rest : Unit {0} → Option (List Value)) (held : Bool) (items : Option (List Value)) →
    meaning b env ≡ Some u → meaning a env ≡ Some v → rest tt ≡ (if held then Some [] else items) →
    where_true (meaning (is_other b a) env) rest ≡ (if same u v || held then Some [] else items)
one-more b a u v env rest held items p q e =
    ap (λ o. where_true o rest) (not-means env (ex2 true Op2.Eq b a) (same u v) (binary-means env true Op2.Eq b a u v p q))
    ∙ go (same u v)
  where
    go : (c : Bool) → where_true (Some (truth (not c))) rest ≡ (if c || held then Some [] else items)
    go true = refl
    go false = e

-- Under the conditions there is nothing where the value is one of those before it.
pub none_of-listed : (bs : List Ex) (us : List Value) (a : Ex) (v : Value) (env : Env) (k : Env → Option (List Value)) → Known bs us env →
    meaning a env ≡ Some v → items_under (none_of bs a) env k ≡ (if holds us v then Some [] else k env)
none_of-listed [] [] a v env k h q = refl
none_of-listed (b ∷ bs) (u ∷ us) a v env k h q =
    none_of-means b a bs env k
    ∙ one-more b a u v env (λ z. items_under (none_of bs a) env k) (holds us v) (k env) h.0 q (none_of-listed bs us a v env k h.1 q)
none_of-listed [] (u ∷ us) a v env k h q = absurd h
none_of-listed (b ∷ bs) [] a v env k h q = absurd h

-- The same where the term has the value of a.
pub none_at-listed : (bs : List Ex) (us : List Value) (a x : Ex) (v : Value) (env : Env) (k : Env → Option (List Value)) → Known bs us env →
    meaning a env ≡ meaning x env → meaning x env ≡ Some v →
    items_under (none_at bs a x) env k ≡ (if holds us v then Some [] else k env)
none_at-listed [] [] a x v env k h e q = refl
none_at-listed (b ∷ bs) (u ∷ us) a x v env k h e q =
    none_at-means b a x bs env k e
    ∙ one-more b x u v env (λ z. items_under (none_at bs a x) env k) (holds us v) (k env) h.0 q (none_at-listed bs us a x v env k h.1 e q)
none_at-listed [] (u ∷ us) a x v env k h e q = absurd h
none_at-listed (b ∷ bs) [] a x v env k h e q = absurd h

-- ---- their structures

-- The structures of several expressions.
abbrev pub AllMeet : List Ex → Env → Type 0
AllMeet [] env = Unit {0}
AllMeet (b ∷ bs) env = Meets b env × AllMeet bs env

-- The structures of the conditions, and what is met behind them.
pub none_of-met : (bs : List Ex) (a : Ex) (env : Env) (P : Env → Type 0) → AllMeet bs env → Meets a env → P env →
    MeetsGens (none_of bs a) env P
none_of-met [] a env P k m p = p
none_of-met (b ∷ bs) a env P k m p =
    none_of-more (λ gs. MeetsGens gs env P) b a bs (none_of-met bs a env P k.1 m p) (λ r. (((k.0, (m, tt)), tt), λ z. r))

-- The same of those that a term is asked for.
pub none_at-met : (bs : List Ex) (a x : Ex) (env : Env) (P : Env → Type 0) → AllMeet bs env → Meets x env → P env →
    MeetsGens (none_at bs a x) env P
none_at-met [] a x env P k m p = p
none_at-met (b ∷ bs) a x env P k m p =
    none_at-more (λ gs. MeetsGens gs env P) b a x bs (none_at-met bs a x env P k.1 m p) (λ r. (((k.0, (m, tt)), tt), λ z. r))
