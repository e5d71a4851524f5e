-- Worked examples: scalars, sets of numbers and sets of values of a type side by side, and their model.
use Rattle.std.proofs.Common.{◌≡◌, refl, true, false, List, [], ◌∷◌, ℤ, pos, negsuc, codes}
use Rattle.ess_semantics.specs.declared.words.Op1.{Op1}
use Rattle.ess_semantics.specs.declared.words.Op2.{Op2}
use Rattle.ess_semantics.specs.declared.words.Fun.{Fun}
use Rattle.ess_semantics.specs.declared.words.Key.{Key}
use Rattle.ess_semantics.specs.declared.words.ReprKind.{ReprKind}
use Rattle.ess_semantics.specs.Lists.{append_all}
use Rattle.ess_semantics.specs.Values.{Text}
use Rattle.ess_semantics.specs.Trees.{Repr, repr, no_reprs, more_reprs, both_ends, valued, name_pat, Ex, number_ex, truth_ex, name_ex, comp_ex, cell_ex, no_exs, more_exs, Gens, no_gens, over, from, cond, Dom, bool_dom, int_dom, name_dom, set_dom, Stm, given, let_ex, let_enum, find, such_that, minimise, ex1, ex2, fun1}
use Rattle.ess_semantics.specs.Plans.{plans, finds_side, plans_for}
use Rattle.ess_semantics.specs.ModelTrees.{Model, least}
use Rattle.std.specs.Prelude.{map}
use Rattle.ess_member_shows_laws.specs.ess_member_rules_laws.WrittenForms.{by_number}
use Rattle.ess_flat_models_laws.specs.FlatSpecifications.{is_flat_specification}
use Rattle.ess_mixed_models_laws.specs.MixedSpecifications.{kinds, is_mixed_specification}
use Rattle.ess_mixed_models_laws.specs.MixedModels.{mixed_decl, mixed_decls, of_flat, of_membership, of_flat_number, of_least, IsMixedModel}

-- `int(1..k)`
abbrev upto : Ex → Dom
upto k = int_dom (both_ends ∷ []) (more_exs (number_ex (pos 1)) (more_exs k no_exs))

-- `k + 1`
abbrev more_by_one : Ex → Ex
more_by_one k = ex2 false Op2.Plus k (number_ex (pos 1))

-- The numbers between two.
abbrev range : ℤ → ℤ → Dom
range a b = int_dom (both_ends ∷ []) (more_exs (number_ex a) (more_exs (number_ex b) no_exs))

-- Slots with a marker.
abbrev marked : Repr → Repr
marked r = repr ReprKind.ExplicitVarSizeWithMarker (more_reprs r no_reprs)

abbrev sets : Dom → Dom
sets A = set_dom [] no_exs A

abbrev x : Text
x = codes "x"

abbrev s : Text
s = codes "s"

abbrev t : Text
t = codes "t"

abbrev red : Text
red = codes "red"

-- `letting C be new type enum {green, red}  letting k be 3  given n : int(1..4)  find x : int(1..n + 1)  find s : set of int(1..9)`
-- `find t : set of C  minimising x  such that x > n, k in s, red in t`
abbrev S : List Stm
S =
    let_enum (codes "C") (codes "green" ∷ red ∷ []) ∷ let_ex (codes "k") (number_ex (pos 3)) ∷ given (codes "n") (upto (number_ex (pos 4)))
    ∷ find x (upto (more_by_one (name_ex (codes "n")))) ∷ find s (sets (upto (number_ex (pos 9)))) ∷ find t (sets (name_dom
    (codes "C"))) ∷ minimise (name_ex x)
    ∷ such_that (ex2 true Op2.Gt (name_ex x) (name_ex (codes "n"))) ∷ such_that (ex2 true Op2.Member (name_ex (codes "k")) (name_ex s))
    ∷ such_that (ex2 true Op2.Member (name_ex red) (name_ex t)) ∷ []

is-mixed : is_mixed_specification S [] ≡ true
is-mixed = refl

-- It is no specification of scalars alone.
not-flat : is_flat_specification S [] ≡ false
not-flat = refl

-- A scalar is a cell, a set a table of truth values over its members.
its-finds : map (mixed_decl (kinds S) (plans S [])) (plans_for finds_side S []) ≡
    record { name = x; axes = []; cell = upto (more_by_one (cell_ex false (codes "n") no_exs)) }
    ∷ record { name = codes "s_Occurrence"; axes = upto (number_ex (pos 9)) ∷ []; cell = bool_dom }
    ∷ record { name = codes "t_Occurrence"; axes = upto (number_ex (pos 2)) ∷ []; cell = bool_dom } ∷ []
its-finds = refl

-- A model: memberships may be written as cells.
abbrev E : Model
E = record {
  givens = record { name = codes "n"; axes = []; cell = upto (number_ex (pos 4)) } ∷ [];
  finds = record { name = x; axes = []; cell = upto (more_by_one (cell_ex false (codes "n") no_exs)) }
      ∷ record { name = codes "s_Occurrence"; axes = upto (number_ex (pos 9)) ∷ []; cell = bool_dom }
      ∷ record { name = codes "t_Occurrence"; axes = upto (number_ex (pos 2)) ∷ []; cell = bool_dom } ∷ [];
  goal = least (cell_ex false x no_exs);
  rules = truth_ex true ∷ ex2 true Op2.Gt (cell_ex false x no_exs) (cell_ex false (codes "n") no_exs)
      ∷ cell_ex true (codes "s_Occurrence") (more_exs (number_ex (pos 3)) no_exs)
      ∷ cell_ex true (codes "t_Occurrence") (more_exs (number_ex (pos 2)) no_exs) ∷ [];
}

no-yes : false ≡ true → ⊥
no-yes e = cc

is-model : IsMixedModel S [] E
is-model = record {
  structures = [] ∷ [] ∷ [] ∷ [];
  constraints = ex2 true Op2.Gt (cell_ex false x no_exs) (cell_ex false (codes "n") no_exs)
      ∷ cell_ex true (codes "s_Occurrence") (more_exs (number_ex (pos 3)) no_exs)
      ∷ cell_ex true (codes "t_Occurrence") (more_exs (number_ex (pos 2)) no_exs) ∷ [];
  givens = refl;
  finds = refl;
  goal = of_least (of_flat_number refl);
  rules = refl;
  structured = (
    record { none = λ e. refl; means = λ e. absurd (no-yes e); spelled = tt },
    (
      record { none = λ e. refl; means = λ e. absurd (no-yes e); spelled = tt },
      (record { none = λ e. refl; means = λ e. absurd (no-yes e); spelled = tt }, tt),
    ),
  );
  written = (
    of_flat refl,
    (
      of_membership refl (record { members = upto (number_ex (pos 9)); found = refl; written = by_number }),
      (of_membership refl (record { members = name_dom (codes "C"); found = refl; written = by_number }), tt),
    ),
  );
}

-- A number in a set of values of a type is of no such specification.
not-kinds : is_mixed_specification
    (let_enum (codes "C") (red ∷ []) ∷ find t (sets (name_dom (codes "C"))) ∷ such_that (ex2 true Op2.Member (number_ex (pos 1))
    (name_ex t)) ∷ [])
    [] ≡ false
not-kinds = refl

-- Sets of sets are, with sizes, and kept with a marker and a dummy, or as a set of numbers with flags.
nested : is_mixed_specification
    (find t (set_dom (valued Key.Size ∷ []) (more_exs (number_ex (pos 2)) no_exs) (sets (upto (number_ex (pos 3))))) ∷ [])
    ((t, marked (repr ReprKind.ExplicitVarSizeWithDummy no_reprs) ∷ []) ∷ []) ≡ true
nested = refl

flagged : is_mixed_specification (find s (sets (upto (number_ex (pos 3)))) ∷ [])
    ((s, repr ReprKind.ExplicitVarSizeWithFlags (more_reprs (repr ReprKind.Atom no_reprs) no_reprs) ∷ []) ∷ []) ≡ true
flagged = refl

-- What is declared of sets kept so.
its-tables : append_all (map (mixed_decls (kinds (find s (sets bool_dom) ∷ []))
    (plans (find s (sets bool_dom) ∷ []) ((s, marked (repr ReprKind.Atom no_reprs) ∷ []) ∷ [])))
    (plans_for finds_side (find s (sets bool_dom) ∷ []) ((s, marked (repr ReprKind.Atom no_reprs) ∷ []) ∷ []))) ≡
    record { name = codes "s_ExplicitVarSizeWithMarker_Marker"; axes = []; cell = range (pos 0) (pos 2) }
    ∷ record { name = codes "s_ExplicitVarSizeWithMarker_Values"; axes = upto (number_ex (pos 2)) ∷ []; cell = bool_dom } ∷ []
its-tables = refl

-- A find has one representation.
not-twice : is_mixed_specification (find s (sets bool_dom) ∷ [])
    ((s, repr ReprKind.Occurrence no_reprs ∷ marked (repr ReprKind.Atom no_reprs) ∷ []) ∷ []) ≡ false
not-twice = refl

-- No numbers below 0 are written as one number, and no attribute stands twice.
not-below : is_mixed_specification (find t (sets (sets (range (negsuc 0) (pos 1)))) ∷ []) [] ≡ false
not-below = refl

not-repeated : is_mixed_specification (find t (set_dom (valued Key.Size ∷ valued Key.Size ∷ [])
    (more_exs (number_ex (pos 2)) (more_exs (number_ex (pos 2)) no_exs)) bool_dom) ∷ []) [] ≡ false
not-repeated = refl

-- Types come before sets of their values, and givens before bounds.
not-before : is_mixed_specification (find t (sets (name_dom (codes "C"))) ∷ let_enum (codes "C") (red ∷ []) ∷ []) [] ≡ false
not-before = refl

not-bounds : is_mixed_specification (find x (upto (name_ex (codes "n"))) ∷ given (codes "n") (upto (number_ex (pos 4))) ∷ []) [] ≡ false
not-bounds = refl

-- ---- constraints over ranges and scalars alone

-- `i : int(1..n)` in front of generators.
abbrev up_to_n : Gens → Gens
up_to_n gs = over (name_pat (codes "i")) (upto (name_ex (codes "n"))) gs

-- `given n : int(1..4)  find x : int(1..9)  such that forAll i : int(1..n), i > 1 . x != i,  n + (sum i : int(1..n) . i + x) <= 30`
ranged : is_mixed_specification
    (given (codes "n") (upto (number_ex (pos 4))) ∷ find x (upto (number_ex (pos 9)))
    ∷ such_that (fun1 true Fun.And (comp_ex (ex2 true Op2.Ne (name_ex x) (name_ex (codes "i")))
    (up_to_n (cond (ex2 true Op2.Gt (name_ex (codes "i")) (number_ex (pos 1))) no_gens))))
    ∷ such_that (ex2 true Op2.Le (ex2 false Op2.Plus (name_ex (codes "n"))
    (fun1 false Fun.Sum (comp_ex (ex2 false Op2.Plus (name_ex (codes "i")) (name_ex x)) (up_to_n no_gens)))) (number_ex (pos 30))) ∷ [])
    [] ≡ true
ranged = refl

-- `find x : int(1..9)  such that (sum i : int(1..4), i != x . i * x) <= 30`
summed-where : is_mixed_specification
    (find x (upto (number_ex (pos 9)))
    ∷ such_that (ex2 true Op2.Le (fun1 false Fun.Sum (comp_ex (ex2 false Op2.Times (name_ex (codes "i")) (name_ex x))
    (over (name_pat (codes "i")) (upto (number_ex (pos 4))) (cond (ex2 true Op2.Ne (name_ex (codes "i")) (name_ex x)) no_gens))))
    (number_ex (pos 30))) ∷ []) [] ≡ true
summed-where = refl

-- No bound name is that of a scalar.
not-hidden : is_mixed_specification
    (given (codes "n") (upto (number_ex (pos 4))) ∷ find (codes "i") (upto (number_ex (pos 9)))
    ∷ such_that (fun1 true Fun.And (comp_ex (ex2 true Op2.Ne (name_ex (codes "n")) (name_ex (codes "i"))) (up_to_n no_gens))) ∷ [])
    [] ≡ false
not-hidden = refl

-- A bound name may be that of a set that is declared later:
-- `such that forAll i : int(1..4) . i >= 1  find i : set of int(1..5)`
not-yet-declared : is_mixed_specification
    (such_that (fun1 true Fun.And (comp_ex (ex2 true Op2.Ge (name_ex (codes "i")) (number_ex (pos 1)))
    (over (name_pat (codes "i")) (upto (number_ex (pos 4))) no_gens)))
    ∷ find (codes "i") (sets (upto (number_ex (pos 5)))) ∷ []) [] ≡ true
not-yet-declared = refl

-- ---- constraints that speak of nested sets

abbrev y : Text
y = codes "y"

-- `find s : set (maxSize 3) of set of int(1..4)  find t : set of int(1..5)  such that ..`
abbrev with_sets : Ex → List Stm
with_sets e =
    find s (set_dom (valued Key.MaxSize ∷ []) (more_exs (number_ex (pos 3)) no_exs) (sets (upto (number_ex (pos 4)))))
    ∷ find t (sets (upto (number_ex (pos 5)))) ∷ such_that e ∷ []

-- `forAll y in s . |y| >= 2`
large-members : is_mixed_specification (with_sets (fun1 true Fun.And (comp_ex (ex2 true Op2.Ge (ex1 false Op1.Bar (name_ex y))
    (number_ex (pos 2))) (from (name_pat y) (name_ex s) no_gens)))) [] ≡ true
large-members = refl

-- `3 in t`, and where t is kept in slots with a marker.
a-member : is_mixed_specification (with_sets (ex2 true Op2.Member (number_ex (pos 3)) (name_ex t))) [] ≡ true
a-member = refl

a-marked-member : is_mixed_specification (with_sets (ex2 true Op2.Member (number_ex (pos 3)) (name_ex t)))
    ((t, marked (repr ReprKind.Atom no_reprs) ∷ []) ∷ []) ≡ true
a-marked-member = refl

-- `exists y in s . x in y`, of a number x; and `exists y in s, |y| < |t| . 3 in y /\ |s| > 1`
scalar-member : is_mixed_specification
    (find x (upto (number_ex (pos 4))) ∷ with_sets (fun1 true Fun.Or (comp_ex (ex2 true Op2.Member (name_ex x) (name_ex y))
    (from (name_pat y) (name_ex s) no_gens)))) [] ≡ true
scalar-member = refl

of-sizes : is_mixed_specification (with_sets (fun1 true Fun.Or (comp_ex (ex2 true Op2.And
    (ex2 true Op2.Member (number_ex (pos 3)) (name_ex y)) (ex2 true Op2.Gt (ex1 false Op1.Bar (name_ex s)) (number_ex (pos 1))))
    (from (name_pat y) (name_ex s) (cond (ex2 true Op2.Lt (ex1 false Op1.Bar (name_ex y)) (ex1 false Op1.Bar (name_ex t))) no_gens)))))
    [] ≡ true
of-sizes = refl

-- `forAll y in s . y subsetEq t`; `exists y in s . y union t = t`; `t in s`; and `forAll y in s - s . |y| < 3`
included-members : is_mixed_specification (with_sets (fun1 true Fun.And (comp_ex (ex2 true Op2.SubsetEq (name_ex y) (name_ex t))
    (from (name_pat y) (name_ex s) no_gens)))) [] ≡ true
included-members = refl

a-union : is_mixed_specification (with_sets (fun1 true Fun.Or (comp_ex (ex2 true Op2.Eq (ex2 false Op2.Union (name_ex y) (name_ex t))
    (name_ex t)) (from (name_pat y) (name_ex s) no_gens)))) [] ≡ true
a-union = refl

a-set-within : is_mixed_specification (with_sets (ex2 true Op2.Member (name_ex t) (name_ex s))) [] ≡ true
a-set-within = refl

among-a-difference : is_mixed_specification (with_sets (fun1 true Fun.And (comp_ex (ex2 true Op2.Lt (ex1 false Op1.Bar (name_ex y))
    (number_ex (pos 3))) (from (name_pat y) (ex2 false Op2.Minus (name_ex s) (name_ex s)) no_gens)))) [] ≡ true
among-a-difference = refl

-- `|t union t| > 2`; and `(sum y in s, |y| > 1 . |y|) > 2`
a-size-of-two : is_mixed_specification (with_sets (ex2 true Op2.Gt (ex1 false Op1.Bar (ex2 false Op2.Union (name_ex t) (name_ex t)))
    (number_ex (pos 2)))) [] ≡ true
a-size-of-two = refl

a-sum : is_mixed_specification (with_sets (ex2 true Op2.Gt (fun1 false Fun.Sum (comp_ex (ex1 false Op1.Bar (name_ex y))
    (from (name_pat y) (name_ex s) (cond (ex2 true Op2.Gt (ex1 false Op1.Bar (name_ex y)) (number_ex (pos 1))) no_gens))))
    (number_ex (pos 2)))) [] ≡ true
a-sum = refl

-- No number is asked to be in a set of sets, sets of members of different kinds aren't compared, and no bound name is that of a
-- set that the constraint speaks of.
not-among-sets : is_mixed_specification (with_sets (ex2 true Op2.Member (number_ex (pos 3)) (name_ex s))) [] ≡ false
not-among-sets = refl

not-compared : is_mixed_specification (with_sets (ex2 true Op2.Eq (name_ex s) (name_ex t))) [] ≡ false
not-compared = refl

not-hiding : is_mixed_specification (with_sets (fun1 true Fun.And (comp_ex (ex2 true Op2.Ge (ex1 false Op1.Bar (name_ex s))
    (number_ex (pos 2))) (from (name_pat s) (name_ex s) no_gens)))) [] ≡ false
not-hiding = refl
