-- Models of specifications of sets, computed.
use Rattle.std.proofs.Common.{◌≡◌, refl, true, false, [], ◌∷◌, pos, codes}
use Rattle.ess_semantics.specs.Trees.{low_end, both_ends, number_ex, cell_ex, no_exs, more_exs, bool_dom, int_dom}
use Rattle.ess_semantics.specs.ModelTrees.{no_goal}
use Rattle.conjure_laws.specs.SetsOfAtoms.{range, boolean, typed, num, truth_lit, value_name, enum, given_type, set_find, holds_lit, range_dom}
use Rattle.conjure_laws.specs.ModelsOfSets.{model_of}

-- `find x : set of int(1..3)`, `such that 2 in x`.
numbers : model_of (set_find (codes "x") (range (pos 1) (pos 3)) ∷ holds_lit (num (pos 2)) (codes "x") ∷ []) ≡
    record {
      givens = [];
      finds = record { name = codes "x_Occurrence"; axes = range_dom (pos 1) (pos 3) ∷ []; cell = bool_dom } ∷ [];
      goal = no_goal;
      rules = cell_ex true (codes "x_Occurrence") (more_exs (number_ex (pos 2)) no_exs) ∷ [];
    }
numbers = refl

-- `find x : set of bool`, `such that true in x`.
truths : model_of (set_find (codes "x") boolean ∷ holds_lit (truth_lit true) (codes "x") ∷ []) ≡
    record {
      givens = [];
      finds = record { name = codes "x_Occurrence"; axes = bool_dom ∷ []; cell = bool_dom } ∷ [];
      goal = no_goal;
      rules = cell_ex true (codes "x_Occurrence") (more_exs (number_ex (pos 1)) no_exs) ∷ [];
    }
truths = refl

-- `letting E be new type enum {a, b}`, `find x : set of E`, `such that b in x`: the type has two values, and `b` is the second.
values :
    model_of
    (enum (codes "E") (codes "a" ∷ codes "b" ∷ []) ∷ set_find (codes "x") (typed (codes "E")) ∷
    holds_lit (value_name (codes "b")) (codes "x") ∷ []) ≡
    record {
      givens = [];
      finds = record { name = codes "x_Occurrence"; axes = range_dom (pos 1) (pos 2) ∷ []; cell = bool_dom } ∷ [];
      goal = no_goal;
      rules = cell_ex true (codes "x_Occurrence") (more_exs (number_ex (pos 2)) no_exs) ∷ [];
    }
values = refl

-- `given G new type enum`, `find x : set of G`: the number of values is a given of the model.
sizes : model_of (given_type (codes "G") ∷ set_find (codes "x") (typed (codes "G")) ∷ []) ≡
    record {
      givens = record { name = codes "G_Size"; axes = []; cell = int_dom (low_end ∷ []) (more_exs (number_ex (pos 1)) no_exs) } ∷ [];
      finds = record {
        name = codes "x_Occurrence";
        axes = int_dom (both_ends ∷ []) (more_exs (number_ex (pos 1)) (more_exs (cell_ex false (codes "G_Size") no_exs) no_exs)) ∷ [];
        cell = bool_dom;
      } ∷ [];
      goal = no_goal;
      rules = [];
    }
sizes = refl

-- A name that is taken gets another table: `find x_Occurrence : set of int(1..1)` beside `find x : set of int(1..1)`.
taken : model_of (set_find (codes "x") (range (pos 1) (pos 1)) ∷ set_find (codes "x_Occurrence") (range (pos 1) (pos 1)) ∷ []) ≡
    record {
      givens = [];
      finds = record { name = codes "x_Occurrence_"; axes = range_dom (pos 1) (pos 1) ∷ []; cell = bool_dom } ∷
          record { name = codes "x_Occurrence_Occurrence"; axes = range_dom (pos 1) (pos 1) ∷ []; cell = bool_dom } ∷ [];
      goal = no_goal;
      rules = [];
    }
taken = refl
