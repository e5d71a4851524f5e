-- Worked examples: `letting C be new type enum {red, blue}  find x : C`.
use Rattle.std.proofs.Common.{◌≡◌, refl, true, false, ◌||◌, if◌then◌else◌, [], ◌∷◌, pos, codes, Option, Some, None}
use Rattle.ess_semantics.specs.declared.words.Op2.{Op2}
use Rattle.ess_semantics.specs.Values.{Text}
use Rattle.ess_semantics.specs.Order.{same_text}
use Rattle.ess_semantics.specs.Trees.{Ex, number_ex, name_ex, cell_ex, no_exs, ex2}
use Rattle.conjure_model_laws.specs.Shown.{Shows, shown}
use Rattle.ess_named_flat_laws.specs.NamedFlat.{Sort, truths, values_of, named_sort}

abbrev x : Text
x = codes "x"

abbrev red : Text
red = codes "red"

abbrev blue : Text
blue = codes "blue"

-- The find and the two values are of the type.
abbrev names : Text → Option Sort
names a = if same_text a x || (same_text a red || same_text a blue) then Some (values_of (codes "C")) else None

abbrev sh : Shows
sh = record {
  first = (x, cell_ex false (codes "x") no_exs) ∷ (red, number_ex (pos 1)) ∷ (blue, number_ex (pos 2)) ∷ [];
  last = [];
  sizes = [];
  doms = [];
  next = 2;
}

abbrev compared : Op2 → Ex → Ex
compared o e = ex2 true o (name_ex x) e

-- `x != blue` is a truth value, and `x != 2` over tables.
its-sort : named_sort names (compared Op2.Ne (name_ex blue)) ≡ Some truths
its-sort = refl

its-form : shown sh (compared Op2.Ne (name_ex blue)) ≡ ex2 true Op2.Ne (cell_ex false (codes "x") no_exs) (number_ex (pos 2))
its-form = refl

-- A value is compared with no number, and nothing is reckoned with it.
with-number : named_sort names (compared Op2.Eq (number_ex (pos 1))) ≡ None
with-number = refl

no-sum : named_sort names (ex2 false Op2.Plus (name_ex x) (name_ex red)) ≡ None
no-sum = refl
