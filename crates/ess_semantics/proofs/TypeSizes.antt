-- The numbers of values of named types count among the numbers of a specification: otherwise no model would be right for
-- `given E new type enum`, `find s : set of E`, since with 2 ^ 63 values a bound of a declared domain is outside 64 bits.
use Rattle.std.proofs.Common.{◌≡◌, refl, sym, ap, ◌∙◌, true, false, ◌&&◌, ◌||◌, not, List, [], ◌∷◌, length, pos, ◌+ℤ◌, Option, Some, None, option_map, codes}
use Rattle.ess_semantics.specs.Lists.{and_then, append_all, list_or_none}
use Rattle.ess_semantics.specs.Values.{Text}
use Rattle.ess_semantics.specs.Names.{Names, look}
use Rattle.ess_semantics.specs.Trees.{bool_dom, name_dom, cell_ex, no_exs, Stm, given_enum, find}
use Rattle.ess_semantics.specs.Tables.{Table, one_cell}
use Rattle.ess_semantics.specs.Large.{in_64_bits}
use Rattle.ess_semantics.specs.Assignments.{Assignment}
use Rattle.ess_semantics.specs.SizeNumbers.{are_plain, numbers_are_small}
use Rattle.ess_semantics.specs.Plans.{Options, given_tables}
use Rattle.ess_semantics.specs.ModelTrees.{Model, no_goal}
use Rattle.ess_semantics.specs.LargeModels.{declares_large}
use Rattle.ess_semantics.proofs.Shorthands.{n, range, from_1, set}
use Rattle.ess_semantics.proofs.Tests.{and-left}

-- given E new type enum / find s : set of E
abbrev set_of_given : List Stm
set_of_given = given_enum (codes "E") ∷ find (codes "s") (set (name_dom (codes "E"))) ∷ []

abbrev no_options : Options
no_options = []

-- given E_Size : int(1..) / find s_Occurrence : matrix indexed by [int(1..E_Size)] of bool
abbrev its_model : Model
its_model = record {
  givens = record { name = codes "E_Size"; axes = []; cell = from_1 } ∷ [];
  finds = record { name = codes "s_Occurrence"; axes = range (n 1) (cell_ex false (codes "E_Size") no_exs) ∷ []; cell = bool_dom } ∷ [];
  goal = no_goal;
  rules = [];
}

-- The parameter that gives E these values.
abbrev with_values : List Text → Assignment
with_values ns = record { types = (codes "E", ns) ∷ []; vals = [] }

plain : are_plain set_of_given ≡ true
plain = refl

-- With more values than 64 bits count, some number of the specification is outside 64 bits.
many-values : (ns : List Text) → in_64_bits (pos (length ns)) ≡ false → numbers_are_small set_of_given no_options (with_values ns) ≡ false
many-values ns h = ap (λ b. b && (in_64_bits (pos (length ns) +ℤ pos 1) && true)) h

-- Where all numbers of the specification are in 64 bits, so are those of the domains that its model declares.
pub small-domains : (p : Assignment) (q : Names Table) → given_tables set_of_given no_options p ≡ Some q →
    numbers_are_small set_of_given no_options p ≡ true → not (declares_large its_model q) ≡ true
small-domains p q t h = go (look p.types (codes "E")) t h
  where
    tables : Option (List Text) → Option (Names Table)
    tables o = option_map append_all (and_then (option_map (λ ns. (codes "E_Size", one_cell (pos (length ns))) ∷ []) o) (λ c. Some (c ∷ [])))

    go : (o : Option (List Text)) → tables o ≡ Some q →
        in_64_bits (pos (length (list_or_none o))) && (in_64_bits (pos (length (list_or_none o)) +ℤ pos 1) && true) ≡ true →
        not (declares_large its_model q) ≡ true
    go None t h = cc
    go (Some ns) t h =
        let e : (codes "E_Size", one_cell (pos (length ns))) ∷ [] ≡ q = cc in
        ap (λ c. not (declares_large its_model c)) (sym e)
        ∙ ap (λ b. not (not b || false || false || false || false || false))
        (and-left (in_64_bits (pos (length ns))) (in_64_bits (pos (length ns) +ℤ pos 1) && true) h)
