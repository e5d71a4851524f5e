-- What holds of an answer, where there is one.
use Rattle.std.proofs.Common.{◌≡◌, refl, Bool, true, false, if◌then◌else◌, Option, Some, None, option_map}
use Rattle.ess_semantics.specs.Lists.{and_then}

-- P of the answer, if there is one.
abbrev pub Answered : {A : Type 0} → Option A → (A → Type 0) → Type 0
Answered None P = Unit {0}
Answered (Some x) P = P x

-- What is made of an answer.
pub answered-map : {A B : Type 0} {P : A → Type 0} (Q : B → Type 0) (o : Option A) (f : A → B) → Answered o P → ((x : A) → P x → Q (f x)) →
    Answered (option_map f o) Q
answered-map Q None f h g = tt
answered-map Q (Some x) f h g = g x h

-- What is answered behind an answer.
pub answered-then : {A B : Type 0} {P : A → Type 0} (Q : B → Type 0) (o : Option A) (f : A → Option B) → Answered o P →
    ((x : A) → P x → Answered (f x) Q) → Answered (and_then o f) Q
answered-then Q None f h g = tt
answered-then Q (Some x) f h g = g x h

-- What is answered under a test.
pub answered-under : {A : Type 0} (Q : A → Type 0) (c : Bool) (x : A) → (c ≡ true → Q x) → Answered (if c then Some x else None) Q
answered-under Q true x h = h refl
answered-under Q false x h = tt

-- What follows of the same answer.
pub answered-weaker : {A : Type 0} (P Q : A → Type 0) (o : Option A) → Answered o P → ((x : A) → P x → Q x) → Answered o Q
answered-weaker P Q None h g = tt
answered-weaker P Q (Some x) h g = g x h

-- Two facts of one answer.
pub answered-both : {A : Type 0} (P Q : A → Type 0) (o : Option A) → Answered o P → Answered o Q → Answered o (λ x. P x × Q x)
answered-both P Q None h k = tt
answered-both P Q (Some x) h k = (h, k)
