-- The law of numbers that have a value everywhere: the number of such a tree is a number, has a value, and means the same there.
use Rattle.std.proofs.Common.{◌≡◌, refl, sym, ap, ◌∙◌, subst, ℕ, Bool, true, false, List, [], ◌∷◌, ℤ, Option, Some, None, option_map}
use Rattle.std.specs.Prelude.{IsTrue, is_some}
use Rattle.ess_semantics.specs.declared.words.Op1.{Op1}
use Rattle.ess_semantics.specs.declared.words.Op2.{Op2}
use Rattle.ess_semantics.specs.declared.words.Fun.{Fun}
use Rattle.ess_semantics.specs.Values.{Text, Value, number as number_value, truth as truth_value, item, node}
use Rattle.ess_semantics.specs.Names.{Names, look}
use Rattle.ess_semantics.specs.Tables.{Table, cell_at}
use Rattle.ess_semantics.specs.Operators.{value_of_node}
use Rattle.ess_semantics.specs.Refined.{is_refined}
use Rattle.ess_semantics.specs.Trees.{unary, binary, word, Ex}
use Rattle.ess_semantics.specs.Typed.{Typed}
use Rattle.ess_semantics.specs.TypeMembers.{is_of_type}
use Rattle.ess_semantics.specs.Meaning.{Env, meaning, meanings, indices, cell_in, cell_value}
use Rattle.ess_rules_laws.specs.Rules.{IsNumber}
use Rattle.ess_refine_laws.specs.Everywhere.{everywhere}
use Rattle.ess_values_along_laws.specs.Valued.{Valued}
use Rattle.ess_refine_laws.proofs.RefinedTrees.{everywhere-refined}
use Rattle.ess_flat_laws.specs.Flat.{denied, negative, absolute, sum, difference, product}
use Rattle.ess_seen_laws.specs.ess_bare_laws.Lean.{of_all, of_some, of_sum}
use Rattle.ess_seen_laws.specs.Seen.{scalars, kind_ty, Bound, bound_kind, bound_types, Seen, number, truth, named, counted, figure, flag, atom, one, two, chosen, folded, of_items, size, within, set_within, compared}
use Rattle.ess_seen_laws.proofs.Counts.{counted-means}
use Rattle.ess_seen_laws.proofs.Lookups.{look-bound}
use Rattle.ess_seen_everywhere_laws.specs.Laws.{IsFilled, SeenNumbersAreEverywhere}
use Rattle.ess_seen_everywhere_laws.proofs.Operands.{both-refined}
use Rattle.ess_seen_everywhere_laws.proofs.FineParts.{Fine}
use Rattle.ess_seen_everywhere_laws.proofs.FilledTrees.{Fills, filled-fine}
use Rattle.ess_seen_everywhere_laws.proofs.ValuedOperators.{there}
use Rattle.ess_seen_everywhere_laws.proofs.Stays.{seen-everywhere}
use Rattle.ess_seen_everywhere_laws.proofs.SameEverywhere.{same-everywhere}

-- ---- numbers

-- A value that is there is a number.
abbrev pub NumberIfThere : Option Value → Type 0
NumberIfThere None = Unit {0}
NumberIfThere (Some v) = IsNumber (Some v)

-- So it is a number where it is there.
pub number-there : (o : Option Value) → NumberIfThere o → IsTrue (is_some o) → IsNumber o
number-there None n h = cc
number-there (Some v) n h = n

of-numbers : (env : Env) (v : Value) → IsTrue (is_of_type (kind_ty (scalars false)) env v) → IsNumber (Some v)
of-numbers env (number_value n) h = tt
of-numbers env (truth_value b) h = cc
of-numbers env (item a n) h = cc
of-numbers env (node k vs) h = cc

cell-number : (t : Option Table) (is : Option (List ℤ)) → NumberIfThere (cell_in false t is)
cell-number None is = tt
cell-number (Some t) None = tt
cell-number (Some t) (Some is) = go (cell_at t is)
  where
    go : (o : Option ℤ) → NumberIfThere (option_map (cell_value false) o)
    go None = tt
    go (Some n) = tt

negated : (o : Option Value) → NumberIfThere (value_of_node (unary Op1.Minus) (o ∷ []))
negated None = tt
negated (Some v) = tt

size-number : (o : Option Value) → NumberIfThere (value_of_node (unary Op1.Bar) (o ∷ []))
size-number None = tt
size-number (Some (number_value n)) = tt
size-number (Some (truth_value b)) = tt
size-number (Some (item a n)) = tt
size-number (Some (node k vs)) = tt

added-up : (o p : Option Value) → NumberIfThere (value_of_node (binary Op2.Plus) (o ∷ p ∷ []))
added-up None p = tt
added-up (Some v) None = tt
added-up (Some v) (Some w) = tt

taken-off : (o p : Option Value) → NumberIfThere o → NumberIfThere (value_of_node (binary Op2.Minus) (o ∷ p ∷ []))
taken-off None p h = tt
taken-off (Some v) None h = tt
taken-off (Some (number_value n)) (Some w) h = tt
taken-off (Some (truth_value b)) (Some w) h = absurd h
taken-off (Some (item a n)) (Some w) h = absurd h
taken-off (Some (node k vs)) (Some w) h = absurd h

multiplied : (o p : Option Value) → NumberIfThere (value_of_node (binary Op2.Times) (o ∷ p ∷ []))
multiplied None p = tt
multiplied (Some v) None = tt
multiplied (Some v) (Some w) = tt

chosen-number : (o : Option Value) → NumberIfThere (value_of_node (word Fun.ToInt) (o ∷ []))
chosen-number None = tt
chosen-number (Some v) = tt

summed : (o : Option Value) → NumberIfThere (value_of_node (word Fun.Sum) (o ∷ []))
summed None = tt
summed (Some v) = tt

-- ---- trees

module _ (cells : Text → Option (Bool × List ℕ)) (r : Names Bound) (env : Env) (typed : Typed (bound_types r) env) where
  -- The value of a name that is bound over numbers.
  name-number : (a : Text) (b : Bound) → look r a ≡ Some b → bound_kind b ≡ scalars false → NumberIfThere (look env.vals a)
  name-number a b q k = go (look env.vals a) (λ v e. typed a (kind_ty (bound_kind b)) v (look-bound r a b q) e)
    where
      go : (o : Option Value) → ((v : Value) → o ≡ Some v → IsTrue (is_of_type (kind_ty (bound_kind b)) env v)) → NumberIfThere o
      go None h = tt
      go (Some v) h = of-numbers env v (subst (λ z. IsTrue (is_of_type (kind_ty z) env v)) k (h v refl))

  -- The value of a refined number is a number.
  pub seen-number : {e : Ex} {m : Bool} → Seen cells r e m → m ≡ false → is_refined e ≡ true → NumberIfThere (meaning e env)
  seen-number number q h = tt
  seen-number truth q h = cc
  seen-number (named {a = a} {b = b} k l) q h = name-number a b k (l ∙ ap scalars q)
  seen-number (counted c) q h = subst NumberIfThere (sym (counted-means c env)) tt
  seen-number (figure {n = n} {es = es} k p) q h = cell-number (look env.cells n) (indices (meanings es env))
  seen-number (flag k i) q h = cc
  seen-number (atom k p) q h = cc
  seen-number (one denied f) q h = cc
  seen-number (one {x = x} negative f) q h = negated (meaning x env)
  seen-number (one {x = x} absolute f) q h = size-number (meaning x env)
  seen-number (two {b = true} o f g) q h = cc
  seen-number (two {b = false} {x = x} {y = y} sum f g) q h = added-up (meaning x env) (meaning y env)
  seen-number (two {b = false} {x = x} {y = y} difference f g) q h =
      let s = both-refined (is_refined x) (is_refined y) h in taken-off (meaning x env) (meaning y env) (seen-number f refl s.0)
  seen-number (two {b = false} {x = x} {y = y} product f g) q h = multiplied (meaning x env) (meaning y env)
  seen-number (chosen {x = x} f) q h = chosen-number (meaning x env)
  seen-number (folded of_all g f) q h = cc
  seen-number (folded of_some g f) q h = cc
  seen-number (folded of_sum g f) q h = summed _
  seen-number (of_items of_all l) q h = cc
  seen-number (of_items of_some l) q h = cc
  seen-number (of_items of_sum l) q h = summed _
  seen-number (size {s = s} t) q h = size-number (meaning s env)
  seen-number (within f s) q h = cc
  seen-number (set_within u v) q h = cc
  seen-number (compared c u v) q h = cc

-- ---- the law

fills : (cells : Text → Option (Bool × List ℕ)) (r : Names Bound) (env : Env) → IsFilled cells r env → Fills cells r env
fills cells r env i = record { slots = i.slots; filled = i.filled }

-- Each part of a refined tree has a value.
seen-valued : (cells : Text → Option (Bool × List ℕ)) (r : Names Bound) (e : Ex) (m : Bool) → Seen cells r e m → is_refined e ≡ true →
    (env : Env) → IsFilled cells r env → Valued false e env
seen-valued cells r e m s h env i = let v : Fine e env = filled-fine cells s (record { is = h }) env (fills cells r env i) in v.parts

-- What is proved of numbers in trees over views that have a value everywhere.
pub seen-numbers-are-everywhere : SeenNumbersAreEverywhere
seen-numbers-are-everywhere = record {
  stays = λ cells r e s h. seen-everywhere cells s;
  serves = λ cells r e s h env i.
      let w = same-everywhere cells s env in record {
        is_number = subst IsNumber (sym w) (number-there (meaning e env) (seen-number cells r env i.typed s refl h)
            (there e env (seen-valued cells r e false s h env i)));
        is_same = λ v q. w ∙ q;
      };
  valued = λ cells r e s h env i. seen-valued cells r (everywhere e) false (seen-everywhere cells s) (everywhere-refined e h) env i;
  truths = λ cells r e s h env i. seen-valued cells r e true s h env i;
}
