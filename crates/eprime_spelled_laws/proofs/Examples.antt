-- Worked example: a tree with a find in a condition is spelled, though no text is a model that has it; with the find in the body of the
-- fold the tree is a model's.
use Rattle.std.proofs.Common.{◌≡◌, refl, true, false, [], ◌∷◌, pos, codes}
use Rattle.ess_semantics.specs.declared.words.Op2.{Op2}
use Rattle.ess_semantics.specs.declared.words.Fun.{Fun}
use Rattle.ess_semantics.specs.Values.{Text}
use Rattle.ess_semantics.specs.Trees.{both_ends, name_pat, Ex, number_ex, name_ex, comp_ex, cell_ex, no_exs, more_exs, no_gens, over, cond, Dom, bool_dom, int_dom, ex2, fun1}
use Rattle.ess_semantics.specs.ModelTrees.{no_goal, Model}
use Rattle.ess_grammar.specs.Models.{is_readable_model}
use Rattle.eprime_spelled_laws.specs.SpelledModels.{IsSpelled}

abbrev a : Text
a = codes "x_Occurrence"

abbrev q : Text
q = codes "q1"

abbrev digits_dom : Dom
digits_dom = int_dom (both_ends ∷ []) (more_exs (number_ex (pos 1)) (more_exs (number_ex (pos 9)) no_exs))

abbrev cell : Ex
cell = cell_ex true a (more_exs (name_ex q) no_exs)

abbrev is_three : Ex
is_three = ex2 true Op2.Eq (name_ex q) (number_ex (pos 3))

-- `find x_Occurrence : matrix indexed by [int(1..9)] of bool  such that e`
abbrev model : Ex → Model
model e = record {
  givens = [];
  finds = record { name = a; axes = digits_dom ∷ []; cell = bool_dom } ∷ [];
  goal = no_goal;
  rules = e ∷ [];
}

-- `or([q1 = 3 | q1 : int(1..9), x_Occurrence[q1]])`
abbrev under_condition : Ex
under_condition = fun1 true Fun.Or (comp_ex is_three (over (name_pat q) digits_dom (cond cell no_gens)))

-- `or([x_Occurrence[q1] /\ q1 = 3 | q1 : int(1..9)])`
abbrev in_body : Ex
in_body = fun1 true Fun.Or (comp_ex (ex2 true Op2.And cell is_three) (over (name_pat q) digits_dom no_gens))

is-spelled : IsSpelled (model under_condition)
is-spelled = record {
  givens = tt;
  finds = (record { named = refl; domain = (refl, ((refl, (refl, (refl, tt))), tt), tt) }, tt);
  goal = tt;
  rules = (
    (
      refl,
      refl,
      (
        (
          (refl, refl, (refl, (refl, tt))),
          refl,
          (refl, (refl, (refl, (refl, tt))), ((refl, refl, (refl, (refl, tt))), tt)),
        ),
        tt,
      ),
    ),
    tt,
  );
  back = refl;
}

not-readable : is_readable_model (model under_condition) ≡ false
not-readable = refl

is-readable : is_readable_model (model in_body) ≡ true
is-readable = refl
