-- Conjunctions of which some parts are true.
use Rattle.std.proofs.Common.{◌≡◌, refl, ap, Bool, true, false, ◌&&◌, not, Option, Some, None}
use Rattle.std.specs.Option.{option_map, is_some}
use Rattle.ess_semantics.specs.Lists.{when}

pub and_more : (a b c : Bool) → (a && (b && c)) ≡ ((a && b) && c)
and_more true b c = refl
and_more false b c = refl

pub and_true : (b : Bool) → (b && true) ≡ b
and_true true = refl
and_true false = refl

-- Behind givens that may stand stands what a new one adds.
pub givens_new : (a n t : Bool) → (((a && true) && true) && true) ≡ true → t ≡ (a && n) → (((t && true) && true) && true) ≡ n
givens_new true true t h k = ap (λ b. ((b && true) && true) && true) k
givens_new true false t h k = ap (λ b. ((b && true) && true) && true) k
givens_new false n t h k = cc

-- The same of finds.
pub finds_new : (g a n t : Bool) → (((g && a) && true) && true) ≡ true → t ≡ (a && n) → (((g && t) && true) && true) ≡ n
finds_new true true true t h k = ap (λ b. (b && true) && true) k
finds_new true true false t h k = ap (λ b. (b && true) && true) k
finds_new true false n t h k = cc
finds_new false a n t h k = cc

-- A middle part in place of a true one.
pub middle : (a g r x : Bool) → ((a && g) && r) ≡ true → ((a && x) && r) ≡ x
middle true g true true h = refl
middle true g true false h = refl
middle true true false x h = cc
middle true false false x h = cc
middle false g r x h = cc

-- The last part in place of a true one.
pub last : (a r x : Bool) → (a && r) ≡ true → (a && x) ≡ x
last true r x h = refl
last false r x h = cc

-- What holds under a test, and the same of what it is made of.
pub chosen : {A B : Type 0} (b : Bool) (x : A) (f : A → B) → (elim b [ true ↦ Some (f x) | false ↦ None ]) ≡ option_map f (when b x)
chosen true x f = refl
chosen false x f = refl

-- A new table, where its name is new.
pub new_table : {A B : Type 0} (n y c b : Bool) (o : Option Bool) (x : A) (f : A → B) → n ≡ true → b ≡ (((n && not (is_some o)) && y) && c) →
    (elim b [ true ↦ Some (f x) | false ↦ None ]) ≡ option_map f (elim o [ Some q ↦ None | None ↦ when (y && c) x ])
new_table true true true b None x f h k = ap (λ q. elim q [ true ↦ Some (f x) | false ↦ None ]) k
new_table true true false b None x f h k = ap (λ q. elim q [ true ↦ Some (f x) | false ↦ None ]) k
new_table true false c b None x f h k = ap (λ q. elim q [ true ↦ Some (f x) | false ↦ None ]) k
new_table true y c b (Some q) x f h k = ap (λ q. elim q [ true ↦ Some (f x) | false ↦ None ]) k
new_table false y c b o x f h k = cc
