-- What holds of an answer where there is one.
use Rattle.std.proofs.Common.{◌≡◌, ◌∙◌, Ok, Err, IfOk, OnOk}
use Rattle.std.specs.declared.result.Result.{Result}

-- What follows of an answer from what holds of it.
pub if_ok : {T E : Type 0} {P Q : T → Type 0} (r : Result T E) → IfOk r P → ((o : T) → P o → Q o) → IfOk r Q
if_ok (Ok o) h f = f o h
if_ok (Err e) h f = tt

-- What follows where there is an answer, from what holds then.
pub on_ok : {T E : Type 0} {P Q : Type 0} (r : Result T E) → OnOk r P → (P → Q) → OnOk r Q
on_ok (Ok o) h f = f h
on_ok (Err e) h f = tt

-- What is the first thing is the other where these are the same.
pub is_same : {T E A : Type 0} (f : T → A) (x y : A) (r : Result T E) → x ≡ y → IfOk r (λ o. f o ≡ x) → IfOk r (λ o. f o ≡ y)
is_same f x y r e h = if_ok r h (λ o k. k ∙ e)
