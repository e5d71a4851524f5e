-- Nodes in natural places and as sides of tests, and elsewhere.
use Rattle.std.proofs.Common.{◌≡◌, Bool, true, false, ◌&&◌, ◌||◌, ◌⊎◌, inl, inr, List, Option}
use Rattle.ess_semantics.specs.Trees.{Op, application, Ex, Exs, number_ex, truth_ex, name_ex, node_ex, matrix_ex, comp_ex, cell_ex, seen_ex, no_exs, more_exs, Gens, no_gens, over, from, cond}
use Rattle.ess_semantics.specs.Values.{Value}
use Rattle.ess_semantics.specs.Operators.{value_of_node}
use Rattle.ess_semantics.specs.Meaning.{Env, meaning, meanings, domain_of, members_in, with_pat}
use Rattle.ess_semantics.specs.Totality.{HasValue}
use Rattle.ess_rules_laws.proofs.Bindings.{each-of-map, each-in-map}
use Rattle.ess_guard_laws.proofs.Safe.{is_safe, node-some}
use Rattle.ess_guard_tests_laws.specs.TotalButTests.{IsTest, HasItsValue}
use Rattle.ess_guard_natural_laws.specs.TotalButNatural.{opens_places, may_lack}
use Rattle.ess_guard_laws.specs.Guard.{counts, is_plain}
use Rattle.ess_guard_laws.specs.Supplied.{Unless}
use Rattle.ess_guard_places_laws.specs.TotalInPlaces.{TotalInPlaces, AllTotalInPlaces, UnderTotalInPlaces}

-- In no natural place and as no side of a test.
abbrev pub T : Ex → Env → Type 0
T e env = TotalInPlaces false ⊥ e env

-- The same of operands.
abbrev pub TA : Exs → Env → Type 0
TA es env = AllTotalInPlaces false ⊥ es env

-- What holds is asked or not.
pub unless-there : (t : Bool) (P : Type 0) → P → Unless t P
unless-there true P p = tt
unless-there false P p = p

-- What has a value where all operands have one has it where it should.
pub its-value : (op : Op) (os : List (Option Value)) → HasValue (value_of_node op os) os → HasItsValue op os
its-value application os h = λ ps e. h
its-value _ os h = h

-- What holds is there or something else is.
value-or : (W P : Type 0) → P ⊎ ⊥ → P ⊎ W
value-or W P (inl p) = inl p
value-or W P (inr z) = absurd z

-- Where nothing is a side of a test.
value-so : (W P : Type 0) → (W → ⊥) → P ⊎ W → P ⊎ ⊥
value-so W P n (inl p) = inl p
value-so W P n (inr w) = absurd (n w)

-- In a natural place less is asked.
less : (t : Bool) (W P : Type 0) → P ⊎ W → Unless t P ⊎ W
less t W P (inl p) = inl (unless-there t P p)
less t W P (inr w) = inr w

-- What is total as no side of a test is so as one.
sides : (w : Bool) (W : Type 0) (e : Ex) (env : Env) → TotalInPlaces w ⊥ e env → TotalInPlaces w W e env
sides w W (number_ex n) env t = tt
sides w W (truth_ex b) env t = tt
sides w W (name_ex a) env t = tt
sides w W (node_ex b op es) env t = (value-or W (Unless (may_lack w b op) (HasItsValue op (meanings es env))) t.0, t.1)
sides w W (matrix_ex es d) env t = t
sides w W (comp_ex e gs) env t = t
sides w W (cell_ex b n es) env t = t
sides w W (seen_ex r d ns es) env t = tt

pub all-sides : (w : Bool) (W : Type 0) (es : Exs) (env : Env) → AllTotalInPlaces w ⊥ es env → AllTotalInPlaces w W es env
all-sides w W no_exs env t = tt
all-sides w W (more_exs e es) env t = (sides w W e env t.0, all-sides w W es env t.1)

mutual
  -- What is total in no natural place is so in one.
  places : (w : Bool) (W : Type 0) (e : Ex) (env : Env) → TotalInPlaces false W e env → TotalInPlaces w W e env
  places w W (number_ex n) env t = tt
  places w W (truth_ex b) env t = tt
  places w W (name_ex a) env t = tt
  places w W (node_ex true op es) env t = t
  places w W (node_ex false op es) env t = (
    less (w && is_plain op) W (HasItsValue op (meanings es env)) t.0,
    all-places (w && counts op) (IsTest false op es) es env t.1,
  )
  places w W (matrix_ex es d) env t = t
  places w W (comp_ex e gs) env t = t
  places w W (cell_ex b n es) env t = t
  places w W (seen_ex r d ns es) env t = tt

  all-places : (w : Bool) (W : Type 0) (es : Exs) (env : Env) → AllTotalInPlaces false W es env → AllTotalInPlaces w W es env
  all-places w W no_exs env t = tt
  all-places w W (more_exs e es) env t = (places w W e env t.0, all-places w W es env t.1)

-- So everywhere.
pub placed : (w : Bool) (W : Type 0) (e : Ex) (env : Env) → T e env → TotalInPlaces w W e env
placed w W e env t = places w W e env (sides false W e env t)

-- The same of operands.
pub all-placed : (w : Bool) (W : Type 0) (es : Exs) (env : Env) → TA es env → AllTotalInPlaces w W es env
all-placed w W no_exs env t = tt
all-placed w W (more_exs e es) env t = (placed w W e env t.0, all-placed w W es env t.1)

-- What is total as a side of a test is so elsewhere, where there is no such test.
pub unplaced : (W : Type 0) → (W → ⊥) → (e : Ex) (env : Env) → TotalInPlaces false W e env → T e env
unplaced W n (number_ex k) env t = tt
unplaced W n (truth_ex b) env t = tt
unplaced W n (name_ex a) env t = tt
unplaced W n (node_ex b op es) env t = (value-so W (Unless (may_lack false b op) (HasItsValue op (meanings es env))) n t.0, t.1)
unplaced W n (matrix_ex es d) env t = t
unplaced W n (comp_ex e gs) env t = t
unplaced W n (cell_ex b k es) env t = t
unplaced W n (seen_ex r d ns es) env t = tt

-- A term is no test.
pub no-test : (op : Op) (es : Exs) → IsTest false op es → ⊥
no-test op es t = let e : false ≡ true = t.marked in cc

-- A node that has its value.
pub node-total : (w b : Bool) (op : Op) (es : Exs) (env : Env) → HasItsValue op (meanings es env) → TA es env →
    TotalInPlaces w ⊥ (node_ex b op es) env
node-total w b op es env h t = (
  inl (unless-there (may_lack w b op) (HasItsValue op (meanings es env)) h),
  all-placed (opens_places w b op) (IsTest b op es) es env t,
)

-- A node of an operator that asks for nothing.
pub safe-total : (b : Bool) (op : Op) (es : Exs) (env : Env) → is_safe op ≡ true → TA es env → T (node_ex b op es) env
safe-total b op es env s t = node-total false b op es env (its-value op (meanings es env) (λ h. node-some op (meanings es env) s h)) t

-- What follows at each binding.
pub under-map : (gs : Gens) (env : Env) (P Q : Env → Type 0) → ((h : Env) → P h → Q h) → UnderTotalInPlaces gs env P →
    UnderTotalInPlaces gs env Q
under-map no_gens env P Q f m = f env m
under-map (over p d gs) env P Q f m =
    (m.0, each-of-map (members_in (domain_of d env)) _ _ (λ v. under-map gs (with_pat p v env) P Q f) m.1)
under-map (from p e gs) env P Q f m = (m.0, each-in-map (meaning e env) _ _ (λ v. under-map gs (with_pat p v env) P Q f) m.1)
under-map (cond c gs) env P Q f m = (m.0, λ t. under-map gs env P Q f (m.1 t))
