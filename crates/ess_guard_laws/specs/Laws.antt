-- Laws of undefined terms, each stated at a function that does nothing, so that its proof is checked with the code. x and y
-- are names that are bound where a condition needs one; for meanings it doesn't count what they are.
use Rattle.std.specs.Prelude.{◌≡◌, Bool, true, false, List, ℤ, pos, Some, IsTrue, is_some}
use Rattle.ess_semantics.specs.Values.{Text, number, truth}
use Rattle.ess_semantics.specs.Names.{Names}
use Rattle.ess_semantics.specs.Trees.{Ex}
use Rattle.ess_semantics.specs.Types.{Ty}
use Rattle.ess_semantics.specs.Operators.{as_truth}
use Rattle.ess_semantics.specs.Plans.{Plan}
use Rattle.ess_semantics.specs.Models.{is_flat, with_cells}
use Rattle.ess_semantics.specs.Meaning.{Env, meaning}
use Rattle.ess_semantics.specs.Meets.{Meets}
use Rattle.ess_semantics.specs.Kept.{Kept}
use Rattle.ess_semantics.specs.Totality.{Total}
use Rattle.ess_semantics.specs.Scoped.{Scoped}
use Rattle.ess_semantics.specs.Constants.{constants_of_tree, among_constants}
use Rattle.ess_guard_laws.specs.Guard.{there, has_value, make_total, make_natural, make_total_term}
use Rattle.ess_guard_laws.specs.Holds.{Hold}
use Rattle.ess_guard_laws.specs.Covered.{is_boolean, asks_nothing, Covered}
use Rattle.ess_guard_laws.specs.Supplied.{Supplied}
use Rattle.ess_guard_laws.specs.Reserved.{AreReserved}
use Rattle.ess_guard_laws.specs.LiteralsFit.{LiteralsFit}

-- ---- meanings

-- Where a term has a value its conditions hold.
abbrev pub ConditionsHoldAtValues : Type 0
ConditionsHoldAtValues = (x y : Text) (e : Ex) (env : Env) → IsTrue (is_some (meaning e env)) → Hold (there x y e) env

-- Tables that meet the structures of a term meet those of its conditions.
abbrev pub ConditionsAreMet : Type 0
ConditionsAreMet = (x y : Text) (e : Ex) (env : Env) → Meets e env → Meets (has_value x y e) env

-- A tree whose Booleans stand under their conditions means the same, everywhere.
abbrev pub GuardingKeepsMeanings : Type 0
GuardingKeepsMeanings = (x y : Text) (e : Ex) (env : Env) → meaning (make_total x y e) env ≡ meaning e env

-- So it is kept as a rule keeps a tree: tables that meet its structures meet those of the guarded one too.
abbrev pub GuardedIsKept : Type 0
GuardedIsKept = (x y : Text) (g : Names Ty) (e : Ex) → Kept g e (make_total x y e)

-- So it is where quotients, remainders and powers stand as they are in natural places.
abbrev pub NaturalIsKept : Type 0
NaturalIsKept = (x y : Text) (g : Names Ty) (e : Ex) → Kept g e (make_natural x y e)

-- ---- totality

-- A guarded Boolean is total, in every env, where its tree is covered.
abbrev pub GuardedIsTotal : Type 0
GuardedIsTotal = (x y : Text) (e : Ex) (env : Env) → Covered e → IsTrue (asks_nothing e) → Total (make_total x y e) env

-- The conditions of a covered term, each under those before it, are total; and where they hold the term is: each operator in it
-- has a value where its operands have one.
pub record ConditionsMakeTotal : Type 0 where
  pub conditions : (x y : Text) (e : Ex) (env : Env) → Covered e → Total (has_value x y e) env
  pub term : (x y : Text) (e : Ex) (env : Env) → Covered e → Hold (there x y e) env → Total (make_total x y e) env

-- ---- terms

-- That its conditions hold is a truth value: whether a term has a value, where what it reads is there.
abbrev pub ConditionsTellValues : Type 0
ConditionsTellValues = (x y : Text) (e : Ex) (env : Env) → Supplied e env →
    meaning (has_value x y e) env ≡ Some (truth (is_some (meaning e env)))

-- The two answers for a term: the first says whether it has a value; the second means the same where it has one, and is total
-- there. Tables that meet the term's structures meet those of both. A number's second answer is 0 where the first one is false,
-- and total everywhere.
pub record TermsUnderConditions : Type 0 where
  pub there : (x y : Text) (is_int : Bool) (e : Ex) (env : Env) → Supplied e env →
      meaning ((make_total_term x y is_int e).0) env ≡ Some (truth (is_some (meaning e env)))
  pub met : (x y : Text) (is_int : Bool) (e : Ex) (env : Env) → Meets e env →
      Meets ((make_total_term x y is_int e).0) env × Meets ((make_total_term x y is_int e).1) env
  pub there_total : (x y : Text) (is_int : Bool) (e : Ex) (env : Env) → Covered e → Total ((make_total_term x y is_int e).0) env
  pub term_same : (x y : Text) (e : Ex) (env : Env) → meaning ((make_total_term x y false e).1) env ≡ meaning e env
  pub term_total : (x y : Text) (e : Ex) (env : Env) → Covered e → IsTrue (as_truth (meaning ((make_total_term x y false e).0) env)) →
      Total ((make_total_term x y false e).1) env
  pub number_there : (x y : Text) (e : Ex) (env : Env) (n : ℤ) → meaning e env ≡ Some (number n) →
      meaning ((make_total_term x y true e).0) env ≡ Some (truth true)
  pub number_same : (x y : Text) (e : Ex) (env : Env) (n : ℤ) → meaning e env ≡ Some (number n) →
      meaning ((make_total_term x y true e).1) env ≡ Some (number n)
  pub number_elsewhere : (x y : Text) (e : Ex) (env : Env) → as_truth (meaning ((make_total_term x y true e).0) env) ≡ false →
      meaning ((make_total_term x y true e).1) env ≡ Some (number (pos 0))
  pub number_total : (x y : Text) (e : Ex) (env : Env) → Covered e → Total ((make_total_term x y true e).1) env

-- ---- what stays

-- Flat constraints over cells stay as they are.
abbrev pub FlatConstraintsStay : Type 0
FlatConstraintsStay = (x y : Text) (ps : List Plan) (e : Ex) → IsTrue (is_flat ps e) →
    (make_total x y (with_cells ps e) ≡ with_cells ps e) × (make_natural x y (with_cells ps e) ≡ with_cells ps e)

-- A Boolean is marked as one still, and nothing else is.
abbrev pub MarksStay : Type 0
MarksStay = (x y : Text) (e : Ex) → (is_boolean (make_total x y e) ≡ is_boolean e) × (is_boolean (make_natural x y e) ≡ is_boolean e)

-- Guarded, a tree is in scope as it was, and so are the conditions of a term and a number under them: where x and y are reserved
-- at the tree, and the names that the domains of declarations use are in scope.
pub record ScopesStay : Type 0 where
  pub total : (x y : Text) (z s o : Text → Bool) (e : Ex) → AreReserved x y s e → ((a : Text) → z a ≡ true → s a ≡ true) → Scoped z s o e →
      Scoped z s o (make_total x y e)
  pub natural : (x y : Text) (z s o : Text → Bool) (e : Ex) → AreReserved x y s e → ((a : Text) → z a ≡ true → s a ≡ true) →
      Scoped z s o e →
      Scoped z s o (make_natural x y e)
  pub terms : (x y : Text) (z s o : Text → Bool) (is_int : Bool) (e : Ex) → AreReserved x y s e → ((a : Text) → z a ≡ true → s a ≡ true) →
      Scoped z s o e →
      Scoped z s o ((make_total_term x y is_int e).0) × Scoped z s o ((make_total_term x y is_int e).1)

-- Guarded, a tree spells constants that it had, and so do the conditions of a term and a number under them: where each literal
-- stands where types allow one.
pub record ConstantsStay : Type 0 where
  pub total : (x y : Text) (e : Ex) → LiteralsFit false e →
      IsTrue (among_constants (constants_of_tree (make_total x y e)) (constants_of_tree e))
  pub natural : (x y : Text) (e : Ex) → LiteralsFit false e →
      IsTrue (among_constants (constants_of_tree (make_natural x y e)) (constants_of_tree e))
  pub there : (x y : Text) (is_int : Bool) (e : Ex) → LiteralsFit false e →
      IsTrue (among_constants (constants_of_tree ((make_total_term x y is_int e).0)) (constants_of_tree e))
  pub term : (x y : Text) (is_int : Bool) (e : Ex) → LiteralsFit false e →
      IsTrue (among_constants (constants_of_tree ((make_total_term x y is_int e).1)) (constants_of_tree e))
