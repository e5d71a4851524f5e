-- What is said of an answer that is there.
use Rattle.std.proofs.Common.{IfOk, Result, Ok, Err}

-- What follows from it.
pub ok-map : {A E : Type 0} {P Q : A → Type 0} (r : Result A E) → ((x : A) → P x → Q x) → IfOk r P → IfOk r Q
ok-map (Ok x) f h = f x h
ok-map (Err e) f h = tt
