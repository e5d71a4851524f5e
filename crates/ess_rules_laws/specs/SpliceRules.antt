-- Generators over comprehensions: the inner generators stand in the place of the outer one, and the inner item in that of its
-- name. The order of items stays.
use Rattle.std.specs.Prelude.{◌≡◌, Bool, true, not, Option, Some, None, IsTrue, is_some}
use Rattle.ess_semantics.specs.Values.{Text}
use Rattle.ess_semantics.specs.Trees.{name_pat, Ex, comp_ex, Gens, no_gens, over, from, cond}
use Rattle.ess_semantics.specs.Meaning.{Env, meaning}
use Rattle.ess_semantics.specs.Contexts.{AtEach}
use Rattle.ess_semantics.specs.Kept.{Keeps}
use Rattle.ess_semantics.specs.Substitution.{substitute, substitute_gens, for_name, NamesAre, NamesAreGens}

-- The generators one list behind the other.
abbrev pub append_gens : Gens → Gens → Gens
append_gens no_gens hs = hs
append_gens (over p d gs) hs = over p d (append_gens gs hs)
append_gens (from p e gs) hs = from p e (append_gens gs hs)
append_gens (cond e gs) hs = cond e (append_gens gs hs)

-- `[e | y <- [h | ks], hs]` is `[e' | ks, hs']`, with h for y in e and in hs.
abbrev pub splice : Ex → Option Ex
splice (comp_ex e (from (name_pat y) (comp_ex h ks) hs)) = Some (comp_ex (substitute (for_name y h) e) (append_gens ks (substitute_gens (for_name y h) hs)))
splice e = None

-- What it counts on: the inner comprehension has a value.
abbrev pub SourceThere : Ex → Env → Type 0
SourceThere (comp_ex e (from p s hs)) env = IsTrue (is_some (meaning s env))
SourceThere e env = Unit {0}

-- And bound names are told apart: r has those that the inner generators bind, none of which stands behind them outside, and
-- s has y and the names of h, none of which is bound behind them outside.
abbrev pub NamesApart : (Text → Bool) → (Text → Bool) → Ex → Type 0
NamesApart r s (comp_ex e (from (name_pat y) (comp_ex h ks) hs)) =
    IsTrue (s y) × NamesAre s (λ a. true) h × NamesAreGens (λ a. true) r ks × NamesAreGens (λ a. not (r a)) (λ a. not (s a)) hs × NamesAre (λ a. not (r a)) (λ a. not (s a)) e
NamesApart r s e = Unit {0}

-- So it keeps what it rewrites.
abbrev pub SpliceKeeps : Type 0
SpliceKeeps = (r s : Text → Bool) (e f : Ex) → splice e ≡ Some f → NamesApart r s e → (env : Env) → SourceThere e env → Keeps e f env

-- What rewrites a comprehension at each binding of generators rewrites the one with these generators before its own: so a rule
-- for the first generator serves at a later one.
abbrev pub TailsAreCongruent : Type 0
TailsAreCongruent = (gs hs ks : Gens) (e f : Ex) (env : Env) → AtEach gs env (Keeps (comp_ex e hs) (comp_ex f ks)) → Keeps (comp_ex e (append_gens gs hs)) (comp_ex f (append_gens gs ks)) env
