-- Worked examples of what becomes of constraints that speak of sets over tables: bound names are told apart, and a name of a set becomes a
-- view of it. Nothing is guarded.
use Rattle.std.proofs.Common.{◌≡◌, refl, true, false, [], ◌∷◌, pos, codes}
use Rattle.ess_semantics.specs.declared.words.Op1.{Op1}
use Rattle.ess_semantics.specs.declared.words.Op2.{Op2}
use Rattle.ess_semantics.specs.declared.words.Fun.{Fun}
use Rattle.ess_semantics.specs.declared.words.ReprKind.{ReprKind}
use Rattle.ess_semantics.specs.Trees.{repr, no_reprs, more_reprs, both_ends, name_pat, Ex, number_ex, truth_ex, name_ex, seen_ex, no_exs, more_exs, comp_ex, no_gens, from, cond, Dom, int_dom, set_dom, ex1, ex2, fun1}
use Rattle.conjure_model_laws.specs.ToldApart.{reserved, told}
use Rattle.conjure_model_laws.specs.Shown.{Shows}
use Rattle.conjure_model_laws.specs.IsBuiltFrom.{constraint_tree, condition_tree, objective_tree}

-- The numbers from 1 to 4, sets of these, and sets of such sets.
abbrev numbers : Dom
numbers = int_dom (both_ends ∷ []) (more_exs (number_ex (pos 1)) (more_exs (number_ex (pos 4)) no_exs))

abbrev sets : Dom
sets = set_dom [] no_exs numbers

-- Such a set of sets is kept in slots with a marker, each a table of which numbers occur.
abbrev view : Ex
view =
    seen_ex (repr ReprKind.ExplicitVarSizeWithMarker (more_reprs (repr ReprKind.Occurrence no_reprs) no_reprs)) (set_dom [] no_exs sets)
    (codes "s_Marker" ∷ codes "s_Values" ∷ []) no_exs

abbrev sh : Shows
sh = record { first = (codes "s", view) ∷ []; last = (codes "s", view) ∷ []; sizes = []; doms = []; next = 2 }

abbrev large : Ex → Ex
large e = ex2 true Op2.Ge (ex1 false Op1.Bar e) (number_ex (pos 2))

-- `forAll x in s . |x| >= 2`
abbrev old : Ex
old = fun1 true Fun.And (comp_ex (large (name_ex (codes "x"))) (from (name_pat (codes "x")) (name_ex (codes "s")) no_gens))

for_all : constraint_tree sh old
    ≡ fun1 true Fun.And (comp_ex (large (name_ex (reserved 2))) (from (name_pat (reserved 2)) view no_gens))
for_all = refl

-- One reserved name is taken.
for_all_next : (told old [] 2).1 ≡ 3
for_all_next = refl

-- `|s| >= 2 /\ exists x in s, 3 in x . 4 in x`
abbrev is_in : Ex → Ex → Ex
is_in e f = ex2 true Op2.Member e f

abbrev old_two : Ex
old_two =
    ex2 true Op2.And (large (name_ex (codes "s")))
    (fun1 true Fun.Or
    (comp_ex (is_in (number_ex (pos 4)) (name_ex (codes "x")))
    (from (name_pat (codes "x")) (name_ex (codes "s")) (cond (is_in (number_ex (pos 3)) (name_ex (codes "x"))) no_gens))))

both : constraint_tree sh old_two
    ≡ ex2 true Op2.And (large view)
    (fun1 true Fun.Or
    (comp_ex (is_in (number_ex (pos 4)) (name_ex (reserved 2)))
    (from (name_pat (reserved 2)) view (cond (is_in (number_ex (pos 3)) (name_ex (reserved 2))) no_gens))))
both = refl

-- Where s is kept in another way too, behind `in` its last view is shown, else its first one: so it is in a set that is made of two.
abbrev other : Ex
other =
    seen_ex (repr ReprKind.ExplicitVarSizeWithFlags (more_reprs (repr ReprKind.Occurrence no_reprs) no_reprs)) (set_dom [] no_exs sets)
    (codes "s_Flags" ∷ codes "s_Items" ∷ []) no_exs

abbrev sh_two : Shows
sh_two = record { first = (codes "s", view) ∷ []; last = (codes "s", other) ∷ []; sizes = []; doms = []; next = 2 }

-- `exists x in s union s . x in s /\ x in s - s`
abbrev old_three : Ex
old_three =
    fun1 true Fun.Or
    (comp_ex
    (ex2 true Op2.And (is_in (name_ex (codes "x")) (name_ex (codes "s")))
    (is_in (name_ex (codes "x")) (ex2 false Op2.Minus (name_ex (codes "s")) (name_ex (codes "s")))))
    (from (name_pat (codes "x")) (ex2 false Op2.Union (name_ex (codes "s")) (name_ex (codes "s"))) no_gens))

of_two : constraint_tree sh_two old_three
    ≡ fun1 true Fun.Or
    (comp_ex
    (ex2 true Op2.And (is_in (name_ex (reserved 2)) other) (is_in (name_ex (reserved 2)) (ex2 false Op2.Minus view view)))
    (from (name_pat (reserved 2)) (ex2 false Op2.Union view view) no_gens))
of_two = refl

-- Sums over members and sizes of sets made of two stay as they are too: `sum([|x| | x <- s, x in s]) <= |s union s|`
abbrev bar : Ex → Ex
bar e = ex1 false Op1.Bar e

abbrev old_four : Ex
old_four =
    ex2 true Op2.Le
    (fun1 false Fun.Sum
    (comp_ex (bar (name_ex (codes "x")))
    (from (name_pat (codes "x")) (name_ex (codes "s")) (cond (is_in (name_ex (codes "x")) (name_ex (codes "s"))) no_gens))))
    (bar (ex2 false Op2.Union (name_ex (codes "s")) (name_ex (codes "s"))))

sum_of_members : constraint_tree sh_two old_four
    ≡ ex2 true Op2.Le
    (fun1 false Fun.Sum
    (comp_ex (bar (name_ex (reserved 2))) (from (name_pat (reserved 2)) view (cond (is_in (name_ex (reserved 2)) other) no_gens))))
    (bar (ex2 false Op2.Union view view))
sum_of_members = refl

-- So do objectives, and it is `true` that they have a value: `sum([|x| | x <- s, x in s, |x| >= 2])`
abbrev old_five : Ex
old_five =
    fun1 false Fun.Sum
    (comp_ex (bar (name_ex (codes "x")))
    (from (name_pat (codes "x")) (name_ex (codes "s"))
    (cond (is_in (name_ex (codes "x")) (name_ex (codes "s"))) (cond (large (name_ex (codes "x"))) no_gens))))

as_objective : objective_tree sh_two old_five
    ≡ fun1 false Fun.Sum
    (comp_ex (bar (name_ex (reserved 2)))
    (from (name_pat (reserved 2)) view (cond (is_in (name_ex (reserved 2)) other) (cond (large (name_ex (reserved 2))) no_gens))))
as_objective = refl

always_there : condition_tree sh_two old_five ≡ truth_ex true
always_there = refl
