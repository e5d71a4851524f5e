-- What a domain, a cell and a comprehension need to have a value.
use Rattle.std.proofs.Common.{◌≡◌, refl, sym, ap, ◌∙◌, Bool, true, false, ◌||◌, if◌then◌else◌, List, [], ◌∷◌, map, ℤ, Option, Some, None, option_map, is_some}
use Rattle.ess_semantics.specs.declared.words.Key.{Key}
use Rattle.ess_semantics.specs.Lists.{and_then, all_some}
use Rattle.ess_semantics.specs.Values.{Value, items_of}
use Rattle.ess_semantics.specs.Trees.{Ends, one_value, both_ends, low_end, high_end, Mark, flag, valued, Ex}
use Rattle.ess_semantics.specs.Operators.{number_in, as_truth}
use Rattle.ess_semantics.specs.Domains.{Span, Attribute, numbered, flagged, Domain}
use Rattle.ess_semantics.specs.Tables.{Table, code}
use Rattle.ess_semantics.specs.Meaning.{Env, meaning, members_in, collect, matrix_value, cell_in, indices, as_int, with_span, spans_of, attributes_of}
use Rattle.ess_semantics.specs.Contexts.{Each}
use Rattle.ess_rules_laws.proofs.Bindings.{collect-each}
use Rattle.ess_guard_laws.proofs.Holding.{map-some}

-- ---- numbers in domains

-- All operands are there.
pub all-there : {A : Type 0} (o : Option A) (q : Option (List A)) → is_some o ≡ true → is_some q ≡ true → is_some (and_then o (λ x. option_map (λ xs. x ∷ xs) q)) ≡ true
all-there None q e f = cc
all-there (Some x) None e f = cc
all-there (Some x) (Some xs) e f = refl

-- A range with one bound.
pub span-needs : (a : Option Value) (os : List (Option Value)) (f : ℤ → Option (List Span)) (q : Option (List Span)) → ((n : ℤ) → is_some (f n) ≡ true → is_some q ≡ true) →
    (is_some q ≡ true → is_some (all_some os) ≡ true) → is_some (and_then (as_int a) f) ≡ true → is_some (all_some (a ∷ os)) ≡ true
span-needs None os f q h k e = cc
span-needs (Some v) os f q h k e = all-there (Some v) (all_some os) refl (k (h (number_in v) e))

-- One more range.
pub with-needs : (a b : Option ℤ) (q : Option (List Span)) → is_some (with_span a b q) ≡ true → is_some q ≡ true
with-needs a b None e = cc
with-needs a b (Some ss) e = refl

-- A range with two bounds.
pub both-need : (a b : Option Value) (os : List (Option Value)) (q : Option (List Span)) → (is_some q ≡ true → is_some (all_some os) ≡ true) →
    is_some (and_then (as_int a) (λ n. and_then (as_int b) (λ m. with_span (Some n) (Some m) q))) ≡ true → is_some (all_some (a ∷ b ∷ os)) ≡ true
both-need None b os q k e = cc
both-need (Some v) None os q k e = cc
both-need (Some v) (Some w) os q k e = all-there (Some v) (all_some (Some w ∷ os)) refl (all-there (Some w) (all_some os) refl (k (with-needs (Some (number_in v)) (Some (number_in w)) q e)))

-- Ranges need all their bounds.
pub spans-need : (rs : List Ends) (os : List (Option Value)) → is_some (spans_of rs os) ≡ true → is_some (all_some os) ≡ true
spans-need [] [] e = refl
spans-need [] (a ∷ os) e = cc
spans-need (one_value ∷ rs) [] e = cc
spans-need (one_value ∷ rs) (a ∷ os) e = span-needs a os _ (spans_of rs os) (λ n. with-needs (Some n) (Some n) (spans_of rs os)) (spans-need rs os) e
spans-need (both_ends ∷ rs) [] e = cc
spans-need (both_ends ∷ rs) (a ∷ []) e = cc
spans-need (both_ends ∷ rs) (a ∷ b ∷ os) e = both-need a b os (spans_of rs os) (spans-need rs os) e
spans-need (low_end ∷ rs) [] e = cc
spans-need (low_end ∷ rs) (a ∷ os) e = span-needs a os _ (spans_of rs os) (λ n. with-needs (Some n) None (spans_of rs os)) (spans-need rs os) e
spans-need (high_end ∷ rs) [] e = cc
spans-need (high_end ∷ rs) (a ∷ os) e = span-needs a os _ (spans_of rs os) (λ n. with-needs None (Some n) (spans_of rs os)) (spans-need rs os) e

-- An attribute with a number.
pub number-needs : (k : Key) (o : Option Value) (os : List (Option Value)) (q : Option (List Attribute)) → (is_some q ≡ true → is_some (all_some os) ≡ true) →
    is_some (and_then (as_int o) (λ n. option_map (λ ks. numbered k n ∷ ks) q)) ≡ true → is_some (all_some (o ∷ os)) ≡ true
number-needs k None os q h e = cc
number-needs k (Some v) os q h e = all-there (Some v) (all_some os) refl (h (sym (map-some (λ ks. numbered k (number_in v) ∷ ks) q) ∙ e))

-- Attributes need all their numbers.
pub attributes-need : (ms : List Mark) (os : List (Option Value)) → is_some (attributes_of ms os) ≡ true → is_some (all_some os) ≡ true
attributes-need [] [] e = refl
attributes-need [] (a ∷ os) e = cc
attributes-need (flag k ∷ ms) os e = attributes-need ms os (sym (map-some (λ ks. flagged k ∷ ks) (attributes_of ms os)) ∙ e)
attributes-need (valued k ∷ ms) [] e = cc
attributes-need (valued k ∷ ms) (o ∷ os) e = number-needs k o os (attributes_of ms os) (attributes-need ms os) e

-- ---- two parts

-- Both parts are there.
pub both-some : {A B C : Type 0} (o : Option A) (p : Option B) (f : A → B → C) → is_some (and_then o (λ x. option_map (f x) p)) ≡ true → (is_some o ≡ true) × (is_some p ≡ true)
both-some None p f e = cc
both-some (Some x) None f e = cc
both-some (Some x) (Some z) f e = (refl, refl)

-- All three parts are there.
pub three-some : {A B C D : Type 0} (o : Option A) (p : Option B) (q : Option C) (f : A → B → C → D) →
    is_some (and_then o (λ x. and_then p (λ z. option_map (f x z) q))) ≡ true → (is_some o ≡ true) × (is_some p ≡ true) × (is_some q ≡ true)
three-some None p q f e = cc
three-some (Some x) None q f e = cc
three-some (Some x) (Some z) None f e = cc
three-some (Some x) (Some z) (Some w) f e = (refl, refl, refl)

-- An operator that counts as true has a value.
pub true-some : (o : Option Value) → as_truth o ≡ true → is_some o ≡ true
true-some None e = cc
true-some (Some v) e = refl

-- One tree or another.
pub choose-same : (t : Bool) (a b : Ex) (env : Env) (o : Option Value) → (t ≡ true → meaning a env ≡ o) → (t ≡ false → meaning b env ≡ o) → meaning (if t then a else b) env ≡ o
choose-same true a b env o f g = f refl
choose-same false a b env o f g = g refl

-- A cell needs all its indices.
pub cell-needs : (b : Bool) (t : Option Table) (os : List (Option Value)) → is_some (cell_in b t (indices os)) ≡ true → is_some (all_some os) ≡ true
cell-needs b None os e = cc
cell-needs b (Some t) os e = go (all_some os) e
  where
    go : (o : Option (List Value)) → is_some (cell_in b (Some t) (option_map (map code) o)) ≡ true → is_some o ≡ true
    go None e = cc
    go (Some vs) e = refl

-- A matrix literal needs its index domain.
pub matrix-domain : (o : Option (List Value)) (d : Option Domain) → is_some (and_then o (matrix_value (members_in d))) ≡ true → is_some d ≡ true
matrix-domain None d e = cc
matrix-domain (Some xs) None e = cc
matrix-domain (Some xs) (Some d) e = refl

-- What always holds.
pub each-always : (xs : List Value) (P : Value → Type 0) → ((v : Value) → P v) → Each xs P
each-always [] P f = tt
each-always (v ∷ vs) P f = (f v, each-always vs P f)

-- The same over members.
pub collect-all : (o : Option (List Value)) (f g : Value → Option (List Value)) → ((v : Value) → f v ≡ g v) → and_then o (λ vs. collect vs f) ≡ and_then o (λ vs. collect vs g)
collect-all None f g h = refl
collect-all (Some vs) f g h = collect-each vs f g (each-always vs (λ v. f v ≡ g v) h)

-- The same over items.
pub collect-in : (o : Option Value) (f g : Value → Option (List Value)) → ((v : Value) → f v ≡ g v) → and_then o (λ s. collect (items_of s) f) ≡ and_then o (λ s. collect (items_of s) g)
collect-in None f g h = refl
collect-in (Some s) f g h = collect-each (items_of s) f g (each-always (items_of s) (λ v. f v ≡ g v) h)

-- The same of numbers and an inner domain.
pub numbered-same : {A : Type 0} (f : List Attribute → A → Domain) (ms : List Mark) (os ps : List (Option Value)) (o p : Option A) → os ≡ ps → o ≡ p →
    and_then (attributes_of ms os) (λ ks. option_map (f ks) o) ≡ and_then (attributes_of ms ps) (λ ks. option_map (f ks) p)
numbered-same f ms os ps o p e h = ap (λ z. and_then (attributes_of ms z) (λ ks. option_map (f ks) o)) e ∙ ap (λ z. and_then (attributes_of ms ps) (λ ks. option_map (f ks) z)) h

-- The left of two that fail.
pub or-left : (a b : Bool) → a || b ≡ false → a ≡ false
or-left true b e = e
or-left false b e = refl

-- The right of two that fail.
pub or-right : (a b : Bool) → a || b ≡ false → b ≡ false
or-right true b e = cc
or-right false b e = e
