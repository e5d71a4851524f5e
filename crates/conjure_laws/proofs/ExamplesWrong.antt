-- Models that differ in one thing from the model of a specification of sets, and stand for nothing: a constraint is dropped, one
-- that is false is added, a table is over another domain, the size of a given type is missing, the header lacks a statement.
use Rattle.std.proofs.Common.{◌≡◌, refl, ap, true, false, List, [], ◌∷◌, pos, Some, codes}
use Rattle.ess_semantics.specs.Values.{number, nil, cons, node, a_set}
use Rattle.ess_semantics.specs.Names.{Names}
use Rattle.ess_semantics.specs.Trees.{Stm, truth_ex, bool_dom}
use Rattle.ess_semantics.specs.Tables.{Table}
use Rattle.ess_semantics.specs.DeclaredTables.{TableDecl}
use Rattle.ess_semantics.specs.TableNames.{Named}
use Rattle.ess_semantics.specs.Assignments.{Assignment, nothing_given}
use Rattle.ess_semantics.specs.Parameters.{Param}
use Rattle.ess_semantics.specs.Solutions.{InDomains, Sol}
use Rattle.ess_semantics.specs.ModelTrees.{Model, Header, header_of}
use Rattle.ess_semantics.specs.Models.{Models}
use Rattle.conjure_laws.specs.SetsOfAtoms.{Line, range, typed, num, given_type, set_find, holds_lit, range_dom, spec}
use Rattle.conjure_laws.specs.ModelsOfSets.{no_options, model_of}

-- `find x : set of int(1..2)`, `such that 1 in x`.
abbrev lines : List Line
lines = set_find (codes "x") (range (pos 1) (pos 2)) ∷ holds_lit (num (pos 1)) (codes "x") ∷ []

abbrev S : List Stm
S = spec lines

abbrev E : Model
E = model_of lines

abbrev H : Header
H = header_of S no_options

-- No given is declared, so nothing is given.
param : Param S nothing_given
param = record { all_givens = refl; nothing_else = refl; have_meaning = refl; not_below_0 = refl; are_members = refl; needs_hold = refl }

-- ---- the last constraint is dropped: then it is not false where x is empty

abbrev x_empty : Assignment
x_empty = record { types = []; vals = (codes "x", Some (node a_set nil)) ∷ [] }

abbrev table_empty : Names Table
table_empty = (codes "x_Occurrence", record { axes = (pos 1 ∷ pos 2 ∷ []) ∷ []; items = pos 0 ∷ pos 0 ∷ [] }) ∷ []

member : InDomains S nothing_given x_empty
member = record { all_finds = refl; nothing_else = refl; are_members = refl }

dropped : Models S no_options H (record E { rules = [] }) → ⊥
dropped m = let r = m.represents nothing_given [] param refl in no (r.same_constraints x_empty table_empty member refl)
  where
    no : [] ≡ false ∷ [] → ⊥
    no e = cc

-- ---- a constraint `false` is added: then nothing stands for the solution

abbrev x_one : Assignment
x_one = record { types = []; vals = (codes "x", Some (node a_set (cons (number (pos 1)) nil))) ∷ [] }

solution : Sol S nothing_given x_one
solution = record {
  in_domains = record { all_finds = refl; nothing_else = refl; are_members = refl };
  constraints_hold = refl;
  has_objective = refl;
}

added : Models S no_options H (record E { rules = truth_ex false ∷ E.rules }) → ⊥
added m =
    let r = m.represents nothing_given [] param refl in
    let c = r.each_solution x_one solution (refl, refl) in
    let s = c.1 in no s.rules_hold
  where
    no : false ≡ true → ⊥
    no e = cc

-- ---- the table of x is over another domain

abbrev to_three : TableDecl
to_three = record { name = codes "x_Occurrence"; axes = range_dom (pos 1) (pos 3) ∷ []; cell = bool_dom }

over_another : Models S no_options H (record E { finds = to_three ∷ [] }) → ⊥
over_another m = let d = m.find_domains nothing_given [] param refl in no d.0
  where
    no : Some ((pos 1 ∷ pos 2 ∷ pos 3 ∷ []) ∷ []) ≡ Some ((pos 1 ∷ pos 2 ∷ []) ∷ []) → ⊥
    no e = cc

-- ---- the header lacks a statement

without_find : Models S no_options (record H { statements = [] }) E → ⊥
without_find m = no (ap (λ (h : Header). h.statements) m.header)
  where
    no : [] ≡ H.statements → ⊥
    no e = cc

-- ---- the size of a given type is missing

-- `given G new type enum`, `find x : set of G`.
abbrev typed_lines : List Line
typed_lines = given_type (codes "G") ∷ set_find (codes "x") (typed (codes "G")) ∷ []

abbrev sizes : List Named
sizes = (codes "G_Size", 0) ∷ []

without_size :
    Models (spec typed_lines) no_options (header_of (spec typed_lines) no_options) (record (model_of typed_lines) { givens = [] }) → ⊥
without_size m = no m.given_names
  where
    no : [] ≡ sizes → ⊥
    no e = cc
