-- Worked examples: numbers of domains under their conditions, structures with sizes as terms, and a reflexive relation between two domains
-- that differ.
use Rattle.std.proofs.Common.{◌≡◌, refl, ℕ, true, false, List, [], ◌∷◌, ℤ, pos, Some, None}
use Rattle.std.specs.Prelude.{codes}
use Rattle.ess_semantics.specs.declared.words.Fun.{Fun}
use Rattle.ess_semantics.specs.declared.words.Key.{Key}
use Rattle.ess_semantics.specs.declared.words.Op2.{Op2}
use Rattle.ess_semantics.specs.declared.words.ReprKind.{ReprKind}
use Rattle.ess_semantics.specs.Values.{Text, number, truth}
use Rattle.ess_semantics.specs.Trees.{both_ends, flag, valued, Repr, repr, no_reprs, more_reprs, name_pat, Ex, Exs, number_ex, truth_ex, name_ex, comp_ex, cell_ex, no_exs, more_exs, no_gens, over, cond, Dom, bool_dom, int_dom, set_dom, relation_dom, no_doms, more_doms, ex2, fun1}
use Rattle.ess_semantics.specs.Domains.{numbered, flagged, booleans, sets, relations, between, more_domains, no_domains}
use Rattle.ess_semantics.specs.Constants.{constants_of_tree}
use Rattle.ess_semantics.specs.Meaning.{Env, empty_env, meaning, domain_of}
use Rattle.ess_repr_laws.specs.Structure.{structure}
use Rattle.ess_repr_laws.specs.StructureParts.{and_ex}
use Rattle.ess_repr_declare_laws.specs.SizeTerms.{size_terms}
use Rattle.ess_repr_structure_laws.specs.Laws.{JudgedView}
use Rattle.ess_repr_structure_laws.specs.TotalNumbers.{total_dom}

-- Several operands.
abbrev pub one : Ex → Exs
one e = more_exs e no_exs

abbrev two : Ex → Ex → Exs
two a b = more_exs a (one b)

-- `int(1..n)`
abbrev pub up_to : ℤ → Dom
up_to n = int_dom (both_ends ∷ []) (two (number_ex (pos 1)) (number_ex n))

-- The reserved names of conditions, and of structures.
abbrev x : Text
x = codes "x"

abbrev y : Text
y = codes "y"

abbrev pub name : ℕ → Text
name l = codes "q"

-- ---- numbers under their conditions

-- `set (size 6 / n) of bool`
abbrev by_quotient : Dom
by_quotient = set_dom (valued Key.Size ∷ []) (one (ex2 false Op2.Div (number_ex (pos 6)) (name_ex (codes "n")))) bool_dom

-- The quotient stands under the condition that the divisor isn't 0.
pub of-quotient : total_dom x y by_quotient
    ≡ set_dom (valued Key.Size ∷ [])
    (one (fun1 false Fun.Sum (comp_ex (ex2 false Op2.Div (number_ex (pos 6)) (name_ex (codes "n")))
    (cond (ex2 true Op2.Ne (ex2 false Op2.Plus (name_ex (codes "n")) (number_ex (pos 0))) (number_ex (pos 0))) no_gens)))) bool_dom
of-quotient = refl

-- Numbers that always have a value stay.
pub of-range : total_dom x y (up_to (pos 3)) ≡ up_to (pos 3)
of-range = refl

-- An env in which n has this value.
abbrev with_n : ℤ → Env
with_n z = record empty_env { vals = (codes "n", number z) ∷ [] }

-- Where the quotient has a value the domain is the same; elsewhere it has none as it is, and size 0 under conditions.
pub of-three : domain_of by_quotient (with_n (pos 3)) ≡ Some (sets (numbered Key.Size (pos 2) ∷ []) booleans)
of-three = refl

pub of-three-under : domain_of (total_dom x y by_quotient) (with_n (pos 3)) ≡ Some (sets (numbered Key.Size (pos 2) ∷ []) booleans)
of-three-under = refl

pub of-zero : domain_of by_quotient (with_n (pos 0)) ≡ None
of-zero = refl

pub of-zero-under : domain_of (total_dom x y by_quotient) (with_n (pos 0)) ≡ Some (sets (numbered Key.Size (pos 0) ∷ []) booleans)
of-zero-under = refl

-- ---- structures with sizes as terms

abbrev pub cell : Repr
cell = repr ReprKind.Atom no_reprs

-- How many members of int(1..3) occur.
abbrev occurring : Ex
occurring = fun1 false Fun.Sum (comp_ex (fun1 false Fun.ToInt (cell_ex true (codes "a") (one (name_ex (codes "q")))))
    (over (name_pat (codes "q")) (up_to (pos 3)) no_gens))

-- `set (size 2) of int(1..3)` by the members that occur: two of them do.
abbrev of_two : Ex
of_two = structure name size_terms (repr ReprKind.Occurrence no_reprs)
    (set_dom (valued Key.Size ∷ []) (one (number_ex (pos 2))) (up_to (pos 3))) (codes "a" ∷ []) 1 no_exs

pub of-occurrence : of_two ≡ and_ex (and_ex (ex2 true Op2.Le (number_ex (pos 2)) occurring) (ex2 true Op2.Le occurring (number_ex (pos 2))))
    (truth_ex true)
of-occurrence = refl

-- It spells the numbers of the domain.
pub of-constants : constants_of_tree of_two ≡ pos 0 ∷ pos 1 ∷ pos 2 ∷ pos 2 ∷ pos 1 ∷ pos 3 ∷ pos 1 ∷ pos 3 ∷ pos 2 ∷ []
of-constants = refl

-- An env with a table that says which of 1, 2 and 3 occur.
abbrev members_env : List ℤ → Env
members_env zs = record empty_env { cells = (codes "a", record { axes = (pos 1 ∷ pos 2 ∷ pos 3 ∷ []) ∷ []; items = zs }) ∷ [] }

pub of-two-members : meaning of_two (members_env (pos 1 ∷ pos 0 ∷ pos 1 ∷ [])) ≡ Some (truth true)
of-two-members = refl

pub of-three-members : meaning of_two (members_env (pos 1 ∷ pos 1 ∷ pos 1 ∷ [])) ≡ Some (truth false)
of-three-members = refl

-- `set (maxSize 2) of int(1..3)` in slots with a marker.
abbrev pub of_slots : Ex
of_slots = structure name size_terms (repr ReprKind.ExplicitVarSizeWithMarker (more_reprs cell no_reprs))
    (set_dom (valued Key.MaxSize ∷ []) (one (number_ex (pos 2))) (up_to (pos 3)))
    (codes "m" ∷ codes "a" ∷ []) 1 no_exs

-- An env with a marker and two slots.
abbrev pub slots_env : ℤ → List ℤ → Env
slots_env m zs =
    record empty_env {
      cells = (codes "m", record { axes = []; items = m ∷ [] }) ∷
          (codes "a", record { axes = (pos 1 ∷ pos 2 ∷ []) ∷ []; items = zs }) ∷ [];
    }

-- Members rise, and a slot out of use holds 0.
pub of-rising : meaning of_slots (slots_env (pos 2) (pos 1 ∷ pos 3 ∷ [])) ≡ Some (truth true)
of-rising = refl

pub of-falling : meaning of_slots (slots_env (pos 2) (pos 3 ∷ pos 1 ∷ [])) ≡ Some (truth false)
of-falling = refl

pub of-unused : meaning of_slots (slots_env (pos 1) (pos 3 ∷ pos 0 ∷ [])) ≡ Some (truth true)
of-unused = refl

pub of-unused-set : meaning of_slots (slots_env (pos 1) (pos 3 ∷ pos 1 ∷ [])) ≡ Some (truth false)
of-unused-set = refl

-- ---- a relation between two domains that differ

-- `relation (reflexive) of (int(1..3) * int(1..4))`, as a matrix.
abbrev reflexive : Dom
reflexive = relation_dom (flag Key.Reflexive ∷ []) no_exs (more_doms (up_to (pos 3)) (more_doms (up_to (pos 4)) no_doms))

abbrev matrix : Repr
matrix = repr ReprKind.RelationAsMatrix no_reprs

abbrev of_reflexive : Ex
of_reflexive = structure name size_terms matrix reflexive (codes "a" ∷ []) 1 no_exs

-- An env with a matrix of three rows.
abbrev matrix_env : List ℤ → Env
matrix_env zs = record empty_env {
  cells = (
    codes "a",
    record
        { axes = (pos 1 ∷ pos 2 ∷ pos 3 ∷ []) ∷ (pos 1 ∷ pos 2 ∷ pos 3 ∷ pos 4 ∷ []) ∷ []; items = zs },
  ) ∷ [];
}

-- Each member of the first domain is related to itself.
pub of-related : meaning of_reflexive (matrix_env (pos 1 ∷ pos 0 ∷ pos 0 ∷ pos 1 ∷ pos 0 ∷ pos 1 ∷ pos 0 ∷ pos 0 ∷ pos 0 ∷ pos 0 ∷ pos 1 ∷
    pos 0 ∷ [])) ≡ Some (truth true)
of-related = refl

-- The second one isn't.
pub of-unrelated : meaning of_reflexive (matrix_env
    (pos 1 ∷ pos 0 ∷ pos 0 ∷ pos 1 ∷ pos 0 ∷ pos 0 ∷ pos 0 ∷ pos 0 ∷ pos 0 ∷ pos 0 ∷ pos 1 ∷ pos 0 ∷ [])) ≡ Some (truth false)
of-unrelated = refl

number-is : (n z : ℤ) → Some n ≡ Some z → Some (number n) ≡ Some (number z)
number-is n z h = cc

-- It is a view that the laws speak of.
pub of-judged : JudgedView empty_env name matrix reflexive
    (relations (flagged Key.Reflexive ∷ []) (more_domains (between (pos 1) (pos 3)) (more_domains (between (pos 1) (pos 4)) no_domains)))
of-judged = record {
  orderly = ((refl, refl), (tt, (tt, tt)));
  known = refl;
  fit = refl;
  denotes = refl;
  plain = refl;
  numbers = (tt, ((number-is (pos 1), (number-is (pos 3), tt)), ((number-is (pos 1), (number-is (pos 4), tt)), tt)));
  apart = record { names = λ a. false; apart = λ l a h. cc; free = (tt, ((tt, (tt, tt)), ((tt, (tt, tt)), tt))) };
}
