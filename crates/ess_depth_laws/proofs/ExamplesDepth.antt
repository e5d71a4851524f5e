-- Worked examples of how deep names are bound.
use Rattle.std.proofs.Common.{◌≡◌, refl, true, false, codes}
use Rattle.std.specs.Fmt.{digits}
use Rattle.ess_semantics.specs.declared.words.Op2.{Op2}
use Rattle.ess_semantics.specs.declared.words.Fun.{Fun}
use Rattle.ess_semantics.specs.Trees.{name_pat, tuple_pat, no_pats, Ex, truth_ex, name_ex, comp_ex, no_gens, over, from, bool_dom, ex2, fun1}
use Rattle.conjure_model_laws.specs.Printed.{binders}
use Rattle.conjure_model_laws.specs.ToldApart.{reserved}
use Rattle.ess_depth_laws.specs.Depth.{NestsWithin}
use Rattle.ess_depth_laws.specs.Below.{is_below}

-- `and([true | x : bool])`.
abbrev over_one : Ex
over_one = fun1 true Fun.And (comp_ex (truth_ex true) (over (name_pat (codes "x")) bool_dom no_gens))

-- `and([true | x : bool]) /\ and([true | x : bool])`: two names are bound, one around each place.
abbrev two_beside : Ex
two_beside = ex2 true Op2.And over_one over_one

two_are_bound : binders two_beside ≡ 2
two_are_bound = refl

one_around_each_place : NestsWithin 1 two_beside
one_around_each_place = (((tt, tt), tt), (((tt, tt), tt), tt))

not_none : NestsWithin 0 over_one → ⊥
not_none h = h.0

-- `and([and([true | x : bool]) | y <- s])`: one inside another.
abbrev one_in_another : Ex
one_in_another = fun1 true Fun.And (comp_ex over_one (from (name_pat (codes "y")) (name_ex (codes "s")) no_gens))

two_around_the_inner_body : NestsWithin 2 one_in_another
two_around_the_inner_body = ((tt, ((tt, tt), tt)), tt)

not_one : NestsWithin 1 one_in_another → ⊥
not_one h = h.0.1.0

-- A pattern that binds no name takes none.
no_name_taken : NestsWithin 0 (comp_ex (truth_ex true) (over (tuple_pat no_pats) bool_dom no_gens))
no_name_taken = (tt, tt)

-- Below the second there are two reserved names.
the_last_below : is_below 2 (reserved 1) ≡ true
unfolding digits
the_last_below = refl

the_next_isnt : is_below 2 (reserved 2) ≡ false
unfolding digits
the_next_isnt = refl
