-- The value of a bare tree has the mark of the tree, where names have values of their marks.
use Rattle.std.proofs.Common.{◌≡◌, refl, ℕ, Bool, true, false, List, [], ◌∷◌, ℤ, Option, Some, None, option_map}
use Rattle.std.specs.Prelude.{IsTrue, is_some}
use Rattle.ess_semantics.specs.declared.words.Op1.{Op1}
use Rattle.ess_semantics.specs.declared.words.Op2.{Op2}
use Rattle.ess_semantics.specs.declared.words.Fun.{Fun}
use Rattle.ess_semantics.specs.Values.{Text, Value, number as number_value, truth as truth_value, item, node}
use Rattle.ess_semantics.specs.Names.{Names, look}
use Rattle.ess_semantics.specs.Numbers.{power_of}
use Rattle.ess_semantics.specs.Operators.{value_of_node, number_in}
use Rattle.ess_semantics.specs.Trees.{unary, binary, word, Ex, comp_ex}
use Rattle.ess_semantics.specs.Tables.{Table, cell_at}
use Rattle.ess_semantics.specs.Typed.{Typed}
use Rattle.ess_semantics.specs.TypeMembers.{is_of_type}
use Rattle.ess_semantics.specs.Meaning.{Env, meaning, meanings, cell_in, cell_value, indices}
use Rattle.ess_rules_laws.specs.Rules.{IsTruth, IsNumber}
use Rattle.ess_flat_laws.specs.Flat.{denied, negative, absolute, both, either, implied, agreeing, equal, unequal, below, at_most, above, at_least, sum, difference, product}
use Rattle.ess_bare_laws.specs.Bare.{all_hold, some_holds, Bare, number, truth, named, cell, one, two, power, chosen, folded, added, ordered}
use Rattle.ess_bare_laws.specs.BareParts.{mark_ty, marked_types}
use Rattle.ess_bare_laws.proofs.Types.{look-marked}

-- What is there has the mark.
abbrev pub HasMark : Bool → Option Value → Type 0
HasMark m None = Unit {0}
HasMark true (Some (truth_value b)) = Unit {0}
HasMark false (Some (number_value n)) = Unit {0}
HasMark m (Some v) = ⊥

of-mark : (m : Bool) (env : Env) (v : Value) → IsTrue (is_of_type (mark_ty m) env v) → HasMark m (Some v)
of-mark true env (truth_value b) h = tt
of-mark true env (number_value n) h = cc
of-mark true env (item a n) h = cc
of-mark true env (node k vs) h = cc
of-mark false env (truth_value b) h = cc
of-mark false env (number_value n) h = tt
of-mark false env (item a n) h = cc
of-mark false env (node k vs) h = cc

number-there : (o : Option ℤ) → HasMark false (option_map number_value o)
number-there None = tt
number-there (Some n) = tt

cell-number : (t : Option Table) (is : Option (List ℤ)) → HasMark false (cell_in false t is)
cell-number None is = tt
cell-number (Some t) None = tt
cell-number (Some t) (Some is) = go (cell_at t is)
  where
    go : (o : Option ℤ) → HasMark false (option_map (cell_value false) o)
    go None = tt
    go (Some n) = tt

negated : (o : Option Value) → HasMark false (value_of_node (unary Op1.Minus) (o ∷ []))
negated None = tt
negated (Some v) = tt

sized : (o : Option Value) → HasMark false (value_of_node (unary Op1.Bar) (o ∷ []))
sized None = tt
sized (Some (number_value n)) = tt
sized (Some (truth_value b)) = tt
sized (Some (item a n)) = tt
sized (Some (node k vs)) = tt

added-up : (o p : Option Value) → HasMark false (value_of_node (binary Op2.Plus) (o ∷ p ∷ []))
added-up None p = tt
added-up (Some v) None = tt
added-up (Some v) (Some w) = tt

taken-off : (o p : Option Value) → HasMark false o → HasMark false (value_of_node (binary Op2.Minus) (o ∷ p ∷ []))
taken-off None p h = tt
taken-off (Some v) None h = tt
taken-off (Some (number_value n)) (Some w) h = tt
taken-off (Some (truth_value b)) (Some w) h = absurd h
taken-off (Some (item a n)) (Some w) h = absurd h
taken-off (Some (node k vs)) (Some w) h = absurd h

multiplied : (o p : Option Value) → HasMark false (value_of_node (binary Op2.Times) (o ∷ p ∷ []))
multiplied None p = tt
multiplied (Some v) None = tt
multiplied (Some v) (Some w) = tt

raised : (o p : Option Value) → HasMark false (value_of_node (binary Op2.Pow) (o ∷ p ∷ []))
raised None p = tt
raised (Some v) None = tt
raised (Some v) (Some w) = number-there (power_of (number_in v) (number_in w))

chosen-number : (o : Option Value) → HasMark false (value_of_node (word Fun.ToInt) (o ∷ []))
chosen-number None = tt
chosen-number (Some v) = tt

summed : (o : Option Value) → HasMark false (value_of_node (word Fun.Sum) (o ∷ []))
summed None = tt
summed (Some v) = tt

module _ (cells : Text → Option (Bool × ℕ)) (r : Names Bool) (env : Env) (typed : Typed (marked_types r) env) where
  named-mark : (a : Text) (m : Bool) → look r a ≡ Some m → (o : Option Value) → look env.vals a ≡ o → HasMark m o
  named-mark a m h None q = tt
  named-mark a m h (Some v) q = of-mark m env v (typed a (mark_ty m) v (look-marked r a m h) q)

  -- The value of a bare tree has its mark.
  pub bare-mark : {e : Ex} {m : Bool} → Bare cells r e m → HasMark m (meaning e env)
  bare-mark number = tt
  bare-mark truth = tt
  bare-mark (named {a = a} {m = m} h) = named-mark a m h (look env.vals a) refl
  bare-mark (cell {b = true} h i) = tt
  bare-mark (cell {b = false} {n = n} {es = es} h i) = cell-number (look env.cells n) (indices (meanings es env))
  bare-mark (one denied f) = tt
  bare-mark (one {x = x} negative f) = negated (meaning x env)
  bare-mark (one {x = x} absolute f) = sized (meaning x env)
  bare-mark (two both f h) = tt
  bare-mark (two either f h) = tt
  bare-mark (two implied f h) = tt
  bare-mark (two agreeing f h) = tt
  bare-mark (two equal f h) = tt
  bare-mark (two unequal f h) = tt
  bare-mark (two below f h) = tt
  bare-mark (two at_most f h) = tt
  bare-mark (two above f h) = tt
  bare-mark (two at_least f h) = tt
  bare-mark (two {x = x} {y = y} sum f h) = added-up (meaning x env) (meaning y env)
  bare-mark (two {x = x} {y = y} difference f h) = taken-off (meaning x env) (meaning y env) (bare-mark f)
  bare-mark (two {x = x} {y = y} product f h) = multiplied (meaning x env) (meaning y env)
  bare-mark (power {x = x} {y = y} f h) = raised (meaning x env) (meaning y env)
  bare-mark (chosen {x = x} f) = chosen-number (meaning x env)
  bare-mark (folded all_hold g f) = tt
  bare-mark (folded some_holds g f) = tt
  bare-mark (added {e = x} {gs = gs} g f) = summed (meaning (comp_ex x gs) env)
  bare-mark (ordered w f h) = tt

truth-said : (o : Option Value) → HasMark true o → IsTrue (is_some o) → IsTruth o
truth-said None h q = cc
truth-said (Some (truth_value b)) h q = tt
truth-said (Some (number_value n)) h q = absurd h
truth-said (Some (item a n)) h q = absurd h
truth-said (Some (node k vs)) h q = absurd h

number-said : (o : Option Value) → HasMark false o → IsTrue (is_some o) → IsNumber o
number-said None h q = cc
number-said (Some (truth_value b)) h q = absurd h
number-said (Some (number_value n)) h q = tt
number-said (Some (item a n)) h q = absurd h
number-said (Some (node k vs)) h q = absurd h

-- A number that is there is one, and a truth value.
pub bare-truth : (cells : Text → Option (Bool × ℕ)) (r : Names Bool) (e : Ex) → Bare cells r e true → (env : Env) →
    Typed (marked_types r) env → IsTrue (is_some (meaning e env)) → IsTruth (meaning e env)
bare-truth cells r e f env t h = truth-said (meaning e env) (bare-mark cells r env t f) h

pub bare-number : (cells : Text → Option (Bool × ℕ)) (r : Names Bool) (e : Ex) → Bare cells r e false → (env : Env) →
    Typed (marked_types r) env → IsTrue (is_some (meaning e env)) → IsNumber (meaning e env)
bare-number cells r e f env t h = number-said (meaning e env) (bare-mark cells r env t f) h
