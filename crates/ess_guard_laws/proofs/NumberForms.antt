-- Terms that are numbers by their form have a number wherever they have a value.
use Rattle.std.proofs.Common.{◌≡◌, refl, sym, ap, ◌∙◌, subst, Bool, true, false, if◌then◌else◌, List, [], ◌∷◌, ℤ, pos, ◌-ℤ◌, Option, Some, None, option_map}
use Rattle.std.proofs.Math.IntN.{+ℤ_idr}
use Rattle.ess_semantics.specs.declared.words.Op1.{Op1}
use Rattle.ess_semantics.specs.declared.words.Op2.{Op2}
use Rattle.ess_semantics.specs.declared.words.Fun.{Fun}
use Rattle.ess_semantics.specs.Values.{Text, Value, number, truth, item, node}
use Rattle.ess_semantics.specs.Names.{Names, look}
use Rattle.ess_semantics.specs.Trees.{unary, binary, word, Ex, number_ex, name_ex, node_ex, cell_ex, no_exs, more_exs, ex2}
use Rattle.ess_semantics.specs.Operators.{number_in, whole, value_of_node}
use Rattle.ess_semantics.specs.Tables.{Table, cell_at}
use Rattle.ess_semantics.specs.Meaning.{Env, meaning, meanings, cell_in, indices}
use Rattle.ess_guard_laws.specs.Origins.{Origin, runs_over_numbers, is_number}
use Rattle.ess_guard_laws.specs.Conditions.{nil_ex, as_number}

-- Names that run over numbers have numbers.
abbrev pub NumbersIn : Names Origin → Env → Type 0
NumbersIn k env = (a : Text) → runs_over_numbers (look k a) ≡ true → (v : Value) → look env.vals a ≡ Some v → v ≡ number (number_in v)

-- Of no names nothing is known.
pub no-names : (env : Env) → NumbersIn [] env
no-names env a e v q = cc

wholly : (n : ℤ) (v : Value) → whole n ≡ Some v → v ≡ number (number_in v)
wholly n v e = subst (λ w. w ≡ number (number_in w)) (ap (λ o. elim o [ None ↦ v | Some z ↦ z ]) e) refl

partly : (o : Option ℤ) (v : Value) → option_map number o ≡ Some v → v ≡ number (number_in v)
partly None v e = cc
partly (Some n) v e = wholly n v e

cell-number : (t : Option Table) (i : Option (List ℤ)) (v : Value) → cell_in false t i ≡ Some v → v ≡ number (number_in v)
cell-number None i v e = cc
cell-number (Some t) None v e = cc
cell-number (Some t) (Some i) v e = partly (cell_at t i) v e

minus-number : (o p : Option Value) (v : Value) → ((w : Value) → o ≡ Some w → w ≡ number (number_in w)) → value_of_node (binary Op2.Minus) (o ∷ p ∷ []) ≡ Some v → v ≡ number (number_in v)
minus-number None p v h e = cc
minus-number (Some w) None v h e = cc
minus-number (Some w) (Some u) v h e = wholly (number_in w -ℤ number_in u) v (ap (λ z. value_of_node (binary Op2.Minus) (Some z ∷ Some u ∷ [])) (sym (h w refl)) ∙ e)

bar-number : (o : Option Value) (v : Value) → value_of_node (unary Op1.Bar) (o ∷ []) ≡ Some v → v ≡ number (number_in v)
bar-number None v e = cc
bar-number (Some (number n)) v e = wholly _ v e
bar-number (Some (truth b)) v e = wholly _ v e
bar-number (Some (item t k)) v e = wholly _ v e
bar-number (Some (node a b)) v e = wholly _ v e

mutual
  -- A term that is a number by its form.
  pub number-form : (k : Names Origin) (e : Ex) (env : Env) → NumbersIn k env → is_number k e ≡ true → (v : Value) → meaning e env ≡ Some v → v ≡ number (number_in v)
  number-form k (number_ex n) env h t v e = wholly n v e
  number-form k (name_ex a) env h t v e = h a t v e
  number-form k (cell_ex false n es) env h t v e = cell-number (look env.cells n) (indices (meanings es env)) v e
  number-form k (node_ex false (unary Op1.Minus) (more_exs a no_exs)) env h t v e = minus (meaning a env) e
    where
      minus : (o : Option Value) → value_of_node (unary Op1.Minus) (o ∷ []) ≡ Some v → v ≡ number (number_in v)
      minus None e = cc
      minus (Some w) e = wholly _ v e
  number-form k (node_ex false (unary Op1.Bar) (more_exs a no_exs)) env h t v e = bar-number (meaning a env) v e
  number-form k (node_ex false (binary Op2.Plus) (more_exs a (more_exs b no_exs))) env h t v e = go (meaning a env) (meaning b env) e
    where
      go : (o p : Option Value) → value_of_node (binary Op2.Plus) (o ∷ p ∷ []) ≡ Some v → v ≡ number (number_in v)
      go None p e = cc
      go (Some w) None e = cc
      go (Some w) (Some u) e = wholly _ v e
  number-form k (node_ex false (binary Op2.Times) (more_exs a (more_exs b no_exs))) env h t v e = go (meaning a env) (meaning b env) e
    where
      go : (o p : Option Value) → value_of_node (binary Op2.Times) (o ∷ p ∷ []) ≡ Some v → v ≡ number (number_in v)
      go None p e = cc
      go (Some w) None e = cc
      go (Some w) (Some u) e = wholly _ v e
  number-form k (node_ex false (binary Op2.Div) (more_exs a (more_exs b no_exs))) env h t v e = go (meaning a env) (meaning b env) e
    where
      go : (o p : Option Value) → value_of_node (binary Op2.Div) (o ∷ p ∷ []) ≡ Some v → v ≡ number (number_in v)
      go None p e = cc
      go (Some w) None e = cc
      go (Some w) (Some u) e = partly _ v e
  number-form k (node_ex false (binary Op2.Mod) (more_exs a (more_exs b no_exs))) env h t v e = go (meaning a env) (meaning b env) e
    where
      go : (o p : Option Value) → value_of_node (binary Op2.Mod) (o ∷ p ∷ []) ≡ Some v → v ≡ number (number_in v)
      go None p e = cc
      go (Some w) None e = cc
      go (Some w) (Some u) e = partly _ v e
  number-form k (node_ex false (binary Op2.Pow) (more_exs a (more_exs b no_exs))) env h t v e = go (meaning a env) (meaning b env) e
    where
      go : (o p : Option Value) → value_of_node (binary Op2.Pow) (o ∷ p ∷ []) ≡ Some v → v ≡ number (number_in v)
      go None p e = cc
      go (Some w) None e = cc
      go (Some w) (Some u) e = partly _ v e
  number-form k (node_ex false (binary Op2.Minus) (more_exs a (more_exs b no_exs))) env h t v e =
      minus-number (meaning a env) (meaning b env) v (λ w q. number-form k a env h t w q) e
  number-form k (node_ex false (word Fun.Sum) (more_exs a no_exs)) env h t v e = go (meaning a env) e
    where
      go : (o : Option Value) → value_of_node (word Fun.Sum) (o ∷ []) ≡ Some v → v ≡ number (number_in v)
      go None e = cc
      go (Some w) e = wholly _ v e
  number-form k (node_ex false (word Fun.Product) (more_exs a no_exs)) env h t v e = go (meaning a env) e
    where
      go : (o : Option Value) → value_of_node (word Fun.Product) (o ∷ []) ≡ Some v → v ≡ number (number_in v)
      go None e = cc
      go (Some w) e = wholly _ v e
  number-form k (node_ex false (word Fun.ToInt) (more_exs a no_exs)) env h t v e = go (meaning a env) e
    where
      go : (o : Option Value) → value_of_node (word Fun.ToInt) (o ∷ []) ≡ Some v → v ≡ number (number_in v)
      go None e = cc
      go (Some w) e = wholly _ v e
  number-form k (node_ex false (word Fun.Freq) (more_exs a (more_exs b no_exs))) env h t v e = go (meaning a env) (meaning b env) e
    where
      go : (o p : Option Value) → value_of_node (word Fun.Freq) (o ∷ p ∷ []) ≡ Some v → v ≡ number (number_in v)
      go None p e = cc
      go (Some w) None e = cc
      go (Some w) (Some u) e = wholly _ v e
  number-form k e env h t v q = cc

-- The number that an operator reads, as a number.
pub read-number : (k : Names Origin) (b : Ex) (env : Env) (v : Value) → NumbersIn k env → meaning b env ≡ Some v → meaning (as_number k b) env ≡ Some (number (number_in v))
read-number k b env v h e = go (is_number k b) refl
  where
    go : (t : Bool) → is_number k b ≡ t → meaning (if t then b else ex2 false Op2.Plus b nil_ex) env ≡ Some (number (number_in v))
    go true q = e ∙ ap Some (number-form k b env h q v e)
    go false q = ap (λ o. value_of_node (binary Op2.Plus) (o ∷ Some (number (pos 0)) ∷ [])) e ∙ ap (λ n. Some (number n)) (+ℤ_idr (number_in v))
