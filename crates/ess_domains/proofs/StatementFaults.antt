-- What a statement fails is what its parts fail.
use Rattle.std.proofs.Common.{◌≡◌, refl, ap, sym, ◌∙◌, ℕ, Bool, true, false, ◌&&◌, [], ◌∷◌, Option}
use Rattle.std.specs.Prelude.{is_some, not, pos, int_le}
use Rattle.ess_semantics.specs.Lists.{is_some_and, is_empty}
use Rattle.ess_semantics.specs.Values.{Text, Value}
use Rattle.ess_semantics.specs.Names.{look}
use Rattle.ess_semantics.specs.Trees.{Ex, Dom, given, given_enum, let_unnamed, find}
use Rattle.ess_semantics.specs.Meaning.{Env, meaning, domain_of, as_int}
use Rattle.ess_semantics.specs.Membership.{member, no_negative_attribute}
use Rattle.ess_semantics.specs.Assignments.{Assignment, value_of}
use Rattle.ess_semantics.specs.Parameters.{ParamVerdict, no_meaning, below_0, not_member, false_need, first_unmet, statement_verdict}
use Rattle.ess_domains.specs.Faults.{domain_verdict, given_verdict, type_verdict, size_verdict}

three : (a b c : Bool) (x y z w : ParamVerdict)
    → first_unmet ((a && true, x) ∷ (b && true, y) ∷ (c, z) ∷ (true, w) ∷ []) ≡ first_unmet ((a, x) ∷ (b, y) ∷ (c, z) ∷ [])
three true true true x y z w = refl
three true true false x y z w = refl
three true false c x y z w = refl
three false b c x y z w = refl

two : (a b : Bool) (x y z w : ParamVerdict)
    → first_unmet ((a && true, x) ∷ (b && true, y) ∷ (true, z) ∷ (true, w) ∷ []) ≡ first_unmet ((a, x) ∷ (b, y) ∷ [])
two true true x y z w = refl
two true false x y z w = refl
two false b x y z w = refl

sizes_two : (a b : Bool) (x y z w : ParamVerdict)
    → first_unmet ((a, x) ∷ (b, y) ∷ (true, z) ∷ (true, w) ∷ []) ≡ first_unmet ((a, x) ∷ (b, y) ∷ [])
sizes_two true true x y z w = refl
sizes_two true false x y z w = refl
sizes_two false b x y z w = refl

one : (a : Bool) (z w : ParamVerdict) → first_unmet ((a, z) ∷ (true, w) ∷ []) ≡ first_unmet ((a, z) ∷ [])
one true z w = refl
one false z w = refl

-- A given.
pub of_given : (k : ℕ) (p : Assignment) (x : Text) (d : Dom) (env : Env)
    → statement_verdict p (record { stm = given x d; number = k; env = env }) ≡ given_verdict k (domain_of d env) (value_of p x)
of_given k p x d env =
    three (is_some (domain_of d env)) (is_some_and (domain_of d env) no_negative_attribute) (is_some_and (value_of p x) (λ w. is_some_and (domain_of d env) (λ e. member e w)))
    (no_meaning k) (below_0 k) (not_member k) (false_need k)

-- A given, whose value is v.
pub told_given : (k : ℕ) (p : Assignment) (x : Text) (d : Dom) (env : Env) (o : Option ParamVerdict) (v : Option Value) → v ≡ value_of p x
    → o ≡ given_verdict k (domain_of d env) v → o ≡ statement_verdict p (record { stm = given x d; number = k; env = env })
told_given k p x d env o v h e = e ∙ ap (given_verdict k (domain_of d env)) h ∙ sym (of_given k p x d env)

-- A given type.
pub of_type : (k : ℕ) (p : Assignment) (t : Text) (env : Env)
    → statement_verdict p (record { stm = given_enum t; number = k; env = env }) ≡ type_verdict k (look p.types t)
of_type k p t env = one (is_some_and (look p.types t) (λ ns. not (is_empty ns))) (not_member k) (false_need k)

-- An unnamed type.
pub of_size : (k : ℕ) (p : Assignment) (t : Text) (e : Ex) (env : Env)
    → statement_verdict p (record { stm = let_unnamed t e; number = k; env = env }) ≡ size_verdict k (as_int (meaning e env))
of_size k p t e env =
    sizes_two (is_some (as_int (meaning e env))) (is_some_and (as_int (meaning e env)) (λ n. int_le (pos 0) n)) (no_meaning k) (below_0 k) (not_member k) (false_need k)

-- A find.
pub of_find : (k : ℕ) (p : Assignment) (x : Text) (d : Dom) (env : Env)
    → statement_verdict p (record { stm = find x d; number = k; env = env }) ≡ domain_verdict k (domain_of d env)
of_find k p x d env =
    two (is_some (domain_of d env)) (is_some_and (domain_of d env) no_negative_attribute) (no_meaning k) (below_0 k) (not_member k) (false_need k)

-- The statements that ask for something.
pub ruleset statements = (told_given, of_type, of_size, of_find)
