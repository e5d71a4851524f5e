-- The values of cells.
use Rattle.std.proofs.Common.{◌≡◌, refl, sym, ap, ◌∙◌, Bool, true, false, ℤ, List, [], ◌∷◌, map, Option, Some, None, option_map}
use Rattle.ess_semantics.specs.Lists.{all_some, when}
use Rattle.ess_semantics.specs.Values.{Text, Value}
use Rattle.ess_semantics.specs.Names.{look}
use Rattle.ess_semantics.specs.Tables as pure
use Rattle.ess_semantics.specs.Tables.{cell_at, code}
use Rattle.ess_semantics.specs.Trees.{Exs, cell_ex}
use Rattle.ess_semantics.specs.Meaning.{Env, meaning, meanings, cell_in, cell_value}
use Rattle.ess_semantics.specs.Operators.{false_where_undefined}
use Rattle.ess_semantics.specs.Large.{is_large, any_large}
use Rattle.eprime_tree.specs.Views.{exs_of}
use Rattle.eprime_eval_kinds.specs.declared.tree.KEx.{KEx}
use Rattle.eprime_eval_kinds.specs.KindedViews.{pure_kex}
use Rattle.eprime_eval_scalars.specs.declared.scalars.Scalar.{Scalar}
use Rattle.eprime_eval_scalars.specs.declared.grids.Grid.{Grid}
use Rattle.eprime_eval_scalars.specs.ScalarViews.{pure_scalar}
use Rattle.eprime_eval_scalars.specs.Grids.{pure_grid}
use Rattle.eprime_eval.specs.Items.{Gathered}
use Rattle.eprime_eval.proofs.Gathering.{gathered_when}
use Rattle.eprime_eval.proofs.Excuses.{or_left, or_right}

when-map : {A B : Type 0} (t : Bool) (f : A → B) (xs : List A) → option_map (map f) (when t xs) ≡ when t (map f xs)
when-map true f xs = refl
when-map false f xs = refl

-- A cell, from the values of its indices.
pub cell_there : (b : Bool) (n : Text) (es : Exs) (env : Env) (t : Bool) (old new : List Scalar) (o : Option Value) → old ≡ []
    → Gathered t (map pure_scalar old) (map pure_scalar new) (all_some (meanings es env))
    → o ≡ false_where_undefined b (cell_in b (look env.cells n) (when t (map code (map pure_scalar new)))) → o ≡ meaning (cell_ex b n es) env
cell_there b n es env t old new o e h k =
    let all = gathered_when pure_scalar t old new (all_some (meanings es env)) e h in
    k ∙ ap (λ is. false_where_undefined b (cell_in b (look env.cells n) is))
    (sym (ap (option_map (map code)) all ∙ when-map t code (map pure_scalar new)))

-- A table at an index list that is there.
pub cell_found : (b : Bool) (g : Grid) (is : List ℤ) (o : Option pure.Table) (t : Bool) (x : Option ℤ) → Some (pure_grid g) ≡ o → t ≡ true
    → x ≡ cell_at (pure_grid g) is → false_where_undefined b (option_map (cell_value b) x) ≡ false_where_undefined b (cell_in b o (when t is))
cell_found b g is o true x h e k = rw (← h) (ap (λ y. false_where_undefined b (option_map (cell_value b) y)) k)
cell_found b g is o false x h e k = cc

-- One that isn't there.
pub cell_without : (b : Bool) (g : Grid) (is : List ℤ) (o : Option pure.Table) (t : Bool) → Some (pure_grid g) ≡ o → t ≡ false
    → false_where_undefined b None ≡ false_where_undefined b (cell_in b o (when t is))
cell_without b g is o true h e = cc
cell_without b g is o false h e = rw (← h) refl

pub ruleset cell_values = (cell_found, cell_without)

-- ---- cells with one index or two

-- The value of one, from that of its index.
pub cell_one : (b : Bool) (n : Text) (ns : List Text) (es : List KEx) (a : KEx) (env : Env) (x : Option Scalar)
    (o : Option Value) → es ≡ a ∷ []
    → option_map pure_scalar x ≡ meaning (pure_kex ns a) env
    → o ≡ false_where_undefined b (cell_in b (look env.cells n) (option_map (map code) (all_some (option_map pure_scalar x ∷ []))))
    → o ≡ meaning (cell_ex b n (exs_of (map (pure_kex ns) es))) env
cell_one b n ns es a env x o h e k = let m = rw e at k in rw h m

-- The same of two.
pub cell_two : (b : Bool) (n : Text) (ns : List Text) (es : List KEx) (a c : KEx) (env : Env)
    (x y : Option Scalar) (o : Option Value) → es ≡ a ∷ c ∷ []
    → option_map pure_scalar x ≡ meaning (pure_kex ns a) env → option_map pure_scalar y ≡ meaning (pure_kex ns c) env
    → o ≡ false_where_undefined b (cell_in b (look env.cells n)
    (option_map (map code) (all_some (option_map pure_scalar x ∷ option_map pure_scalar y ∷ []))))
    → o ≡ meaning (cell_ex b n (exs_of (map (pure_kex ns) es))) env
cell_two b n ns es a c env x y o h e f k = let m = rw (e, f) at k in rw h m

-- A number outside 64 bits in the first or in the second index.
pub large_index_one : (b : Bool) (n : Text) (ns : List Text) (es rest : List KEx) (a : KEx) (env : Env)
    → es ≡ a ∷ rest → is_large (pure_kex ns a) env ≡ true
    → is_large (cell_ex b n (exs_of (map (pure_kex ns) es))) env ≡ true
large_index_one b n ns es rest a env h k = rw h (or_right _ _ (or_left _ (any_large (exs_of (map (pure_kex ns) rest)) env) k))

pub large_index_two : (b : Bool) (n : Text) (ns : List Text) (es rest : List KEx) (a c : KEx) (env : Env)
    → es ≡ a ∷ c ∷ rest → is_large (pure_kex ns c) env ≡ true
    → is_large (cell_ex b n (exs_of (map (pure_kex ns) es))) env ≡ true
large_index_two b n ns es rest a c env h k =
    rw h (or_right _ _ (or_right (is_large (pure_kex ns a) env) _ (or_left _ (any_large (exs_of (map (pure_kex ns) rest)) env) k)))

pub ruleset short_cells = (cell_one, cell_two, large_index_one, large_index_two)
