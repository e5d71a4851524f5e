-- Worked examples of lookups and of the rules of operators on picked values.
use Rattle.std.specs.Prelude.{◌≡◌, refl, true, false, [], ◌∷◌, codes, Some, None, Option, List, option_map}
use Rattle.ess_semantics.specs.declared.words.Op2.{Op2}
use Rattle.ess_semantics.specs.declared.words.Fun.{Fun}
use Rattle.ess_semantics.specs.Values.{Text, Value, items_of, pair}
use Rattle.ess_semantics.specs.Names.{Names}
use Rattle.ess_semantics.specs.Trees.{name_pat, Ex, comp_ex, ex2, fun1, no_gens, from}
use Rattle.ess_semantics.specs.Types.{Ty, any_ty, int_ty, compound2}
use Rattle.ess_semantics.specs.Values.{a_function}
use Rattle.ess_semantics.specs.Meaning.{Env, empty_env, meaning}
use Rattle.ess_semantics.proofs.Shorthands.{N, n, v, es2, app, function}
use Rattle.ess_rules_laws.specs.Lookups.{found, put_nth, select, select_whole}
use Rattle.ess_rules_laws.specs.FunctionLookups.{seconds_at, function_lookup}

abbrev pub x : Text
x = codes "x"

abbrev pub f : Text
f = codes "f"

abbrev pub l : Text
l = codes "l"

second_put : put_nth (es2 (n 1) (n 2)) 2 (N x) ≡ es2 (n 1) (N x)
second_put = refl

third_put : put_nth (es2 (n 1) (n 2)) 3 (N x) ≡ es2 (n 1) (n 2)
third_put = refl

-- `f(1) < 6` is `or([x < 6 | x <- l])`
selected : select x 1 (N l) (ex2 true Op2.Lt (app (N f) (n 1)) (n 6)) ≡ Some (fun1 true Fun.Or (comp_ex (ex2 true Op2.Lt (N x) (n 6)) (from (name_pat x) (N l) no_gens)))
selected = refl

-- `f(1) + 6` is `sum([x + 6 | x <- l])`
selected_number : select x 1 (N l) (ex2 false Op2.Plus (app (N f) (n 1)) (n 6)) ≡ Some (fun1 false Fun.Sum (comp_ex (ex2 false Op2.Plus (N x) (n 6)) (from (name_pat x) (N l) no_gens)))
selected_number = refl

-- A connective reads nothing as false, so its operand isn't selected.
operand_of_or : select x 1 (N l) (ex2 true Op2.Or (app (N f) (n 1)) (N x)) ≡ None
operand_of_or = refl

no_third_operand : select x 3 (N l) (ex2 true Op2.Lt (app (N f) (n 1)) (n 6)) ≡ None
no_third_operand = refl

-- `f(1)` by itself is `sum([x | x <- l])`
whole : select_whole x (N l) (app (N f) (n 1)) ≡ Some (fun1 false Fun.Sum (comp_ex (N x) (from (name_pat x) (N l) no_gens)))
whole = refl

-- ---- a function that gives 5 at 1

abbrev pub types : Names Ty
types = (f, compound2 a_function int_ty int_ty) ∷ []

abbrev pub env : Env
env = record empty_env { vals = (f, function (pair (v 1) (v 5) ∷ [])) ∷ [] }

-- What a lookup finds.
abbrev pub finds : Option Ex → Option (List Value)
finds None = None
finds (Some l) = option_map items_of (meaning l env)

found_at_1 : finds (function_lookup types x (app (N f) (n 1))) ≡ Some (found (meaning (app (N f) (n 1)) env))
found_at_1 = refl

five_at_1 : finds (function_lookup types x (app (N f) (n 1))) ≡ Some (v 5 ∷ [])
five_at_1 = refl

nothing_at_2 : finds (function_lookup types x (app (N f) (n 2))) ≡ Some []
nothing_at_2 = refl

of_a_number : function_lookup types x (app (n 1) (n 2)) ≡ None
of_a_number = refl

-- What is picked out of an empty list is applied as a function of any type.
of_nothing : function_lookup ((l, any_ty) ∷ []) x (app (N l) (n 1)) ≡ Some (seconds_at any_ty any_ty x (N l) (n 1))
of_nothing = refl
