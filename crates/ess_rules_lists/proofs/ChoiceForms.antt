-- Numbers that conditions choose.
use Rattle.std.proofs.Common.{◌≡◌, refl, arith, Bool, true, false, cond, zero, suc, ℤ, pos, negsuc, Option, Some, None, if◌then◌else◌, int_eq, is_eq, nat_lt, Less, Equal, Greater}
use Rattle.std.proofs.lemmas.Bool.{le-ltb, lt-ltb}
use Rattle.ess_semantics.specs.declared.words.Op2.{Op2}
use Rattle.ess_semantics.specs.declared.words.Fun.{Fun}
use Rattle.ess_semantics.specs.Trees.{Ex, number_ex, ex2, fun1}
use Rattle.ess_rules_laws.specs.ChoiceRules.{choice_shorter}

other-case : (a b : Bool) (x : Option Ex) → a ≡ false → b ≡ true → None ≡ (if is_eq (cond a Less (cond b Greater Equal)) then x else None)
other-case true b x e f = let k : true ≡ false = e in cc
other-case false true x e f = refl
other-case false false x e f = let k : false ≡ true = f in cc

-- What a condition chooses times a numeral is shorter where that is 1.
pub times_one : (c : Ex) (n : ℤ) → choice_shorter (ex2 false Op2.Times (fun1 false Fun.ToInt c) (number_ex n))
    ≡ if int_eq n (pos 1) then Some (fun1 false Fun.ToInt c) else None
times_one c (pos zero) = refl
times_one c (pos (suc zero)) = refl
times_one c (pos (suc (suc n))) =
    let low : nat_lt (suc (suc n)) 1 ≡ false = le-ltb (suc (suc n)) 1 (omega arith) in
    let high : nat_lt 1 (suc (suc n)) ≡ true = lt-ltb 1 (suc (suc n)) (omega arith) in
    other-case (nat_lt (suc (suc n)) 1) (nat_lt 1 (suc (suc n))) (Some (fun1 false Fun.ToInt c)) low high
times_one c (negsuc n) = refl
