-- When what stands in the place of names over tables has their values.
use Rattle.std.specs.Prelude.{◌≡◌, Bool, not, Some, None, IsTrue, ℕ, ◌≤◌, ◌^◌, false, []}
use Rattle.ess_semantics.specs.Values.{Text, Value}
use Rattle.ess_semantics.specs.Names.{Names, look, keys, is_among}
use Rattle.ess_semantics.specs.Trees.{Ex, Dom, name_dom}
use Rattle.ess_semantics.specs.Meaning.{Env, meaning, domain_of}
use Rattle.ess_semantics.specs.Meets.{Meets, MeetsDom}
use Rattle.ess_semantics.specs.FreeNames.{FreeNamesAre, FreeNamesAreDom}
use Rattle.conjure_laws.specs.PlainTrees.{Plain, PlainDom}
use Rattle.conjure_model_laws.specs.ToldApart.{reserved, told, told_dom}
use Rattle.conjure_model_laws.specs.Shown.{Shows, range_of_type}

-- The env with other values of names.
abbrev pub with_values : Env → Names Value → Env
with_values env h = record env { vals = h }

-- The expression has under these tables the value of the name, whatever values names have there, and its structures are met.
abbrev pub HasValueOf : Env → Env → Text → Ex → Type 0
HasValueOf env there a w = (h : Names Value) → (meaning w (with_values there h) ≡ look env.vals a) × Meets w (with_values there h)

-- What is shown stands for the values of an env: `there` has the tables. n are the names in use. The first view of a name has its value,
-- and so has the last one; other names have their values still. The range of a named type is its domain.
pub record StandsFor (sh : Shows) (n : Text → Bool) (env there : Env) : Type 0 where
  pub first : (a : Text) (w : Ex) → look sh.first a ≡ Some w → HasValueOf env there a w
  pub last : (a : Text) (w : Ex) → look sh.last a ≡ Some w → HasValueOf env there a w
  pub both : (a : Text) → (look sh.last a ≡ None → look sh.first a ≡ None) × (look sh.first a ≡ None → look sh.last a ≡ None)
  pub others : (a : Text) → IsTrue (n a) → look sh.first a ≡ None → look there.vals a ≡ look env.vals a
  pub types : (t : Text) (h : Names Value) → domain_of (range_of_type sh.sizes t) (with_values there h) ≡ domain_of (name_dom t) env
  pub types_met : (t : Text) (h : Names Value) → MeetsDom (range_of_type sh.sizes t) (with_values there h)

-- A name in whose place nothing is shown.
abbrev pub is_unshown : Shows → Text → Bool
is_unshown sh a = not (is_among (keys sh.first) a)

-- A tree of a specification may be told apart from the k-th reserved name on and shown: what is shown stands for the values, none of it
-- for a reserved name, and the names that the tree uses and doesn't bind (u) are in use and not among those that it gets.
pub record IsReady (sh : Shows) (n : Text → Bool) (env there : Env) (k : ℕ) (u : Text → Bool) (e : Ex) : Type 0 where
  pub stands : StandsFor sh n env there
  pub plain : Plain e
  pub free : FreeNamesAre u e
  pub in_use : (a : Text) → IsTrue (u a) → IsTrue (n a)
  pub reserved_in_use : (j : ℕ) → IsTrue (n (reserved j))
  pub reserved_unshown : (j : ℕ) → IsTrue (is_unshown sh (reserved j))
  pub unreserved : (j : ℕ) → k ≤ j → u (reserved j) ≡ false
  pub few : (told e [] k).1 ≤ 2 ^ 64

-- A declared domain may be told apart and shown so.
pub record DomIsReady (sh : Shows) (n : Text → Bool) (env there : Env) (k : ℕ) (u : Text → Bool) (d : Dom) : Type 0 where
  pub stands : StandsFor sh n env there
  pub plain : PlainDom d
  pub free : FreeNamesAreDom u d
  pub in_use : (a : Text) → IsTrue (u a) → IsTrue (n a)
  pub reserved_in_use : (j : ℕ) → IsTrue (n (reserved j))
  pub reserved_unshown : (j : ℕ) → IsTrue (is_unshown sh (reserved j))
  pub unreserved : (j : ℕ) → k ≤ j → u (reserved j) ≡ false
  pub few : (told_dom d [] k).1 ≤ 2 ^ 64
