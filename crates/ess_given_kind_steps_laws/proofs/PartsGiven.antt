-- A part of a tree has what is given in the tree.
use Rattle.std.proofs.Common.{◌≡◌, Bool, true}
use Rattle.ess_semantics.specs.Values.{Text}
use Rattle.ess_semantics.specs.Trees.{Ex, no_exs}
use Rattle.ess_semantics.specs.Contexts.{In, Ins, InGens, hole, in_operand, in_item, in_index_domain, in_body, in_generators, in_cell_index, in_view_domain, in_view_index, in_first, in_later, in_generator_domain, behind_over, in_source, behind_from, in_condition, behind_condition, fill, fill_exs, fill_gens}
use Rattle.ess_given_laws.specs.PartsHave.{AllHave, GensHave}
use Rattle.ess_given_laws.specs.Given.{is_fixed, given, GivenIn}
use Rattle.ess_given_laws.proofs.FixedTrees.{fixed-has, given-has}
use Rattle.ess_given_conditions_laws.proofs.FixedParts.{of-part}

module _ (u : Text → Bool) (a : Ex) where
  -- In a domain everything is fixed.
  in-fixed : (c : In) → is_fixed u (fill c a) ≡ true → GivenIn u a
  in-fixed c h = given-has u a (fixed-has u a (of-part u a c h))

  mutual
    -- The part has it.
    pub given-part : (c : In) → GivenIn u (fill c a) → GivenIn u a
    given-part hole h = h
    given-part (in_operand t op c) h = given-exs c h
    given-part (in_item c d) h = given-exs c h.0
    given-part (in_index_domain es c) h = in-fixed (in_index_domain no_exs c) h.1
    given-part (in_body c gs) h = given-part c h.0
    given-part (in_generators x c) h = given-gens c h.1
    given-part (in_cell_index t n c) h = given-exs c h.1
    given-part (in_view_domain r c ns es) h = in-fixed (in_index_domain no_exs c) h.1
    given-part (in_view_index r d ns c) h = given-exs c h.2

    given-exs : (c : Ins) → AllHave (given u) (fill_exs c a) → GivenIn u a
    given-exs (in_first c es) h = given-part c h.0
    given-exs (in_later x c) h = given-exs c h.1

    given-gens : (c : InGens) → GensHave (given u) (fill_gens c a) → GivenIn u a
    given-gens (in_generator_domain p c gs) h = in-fixed (in_index_domain no_exs c) h.1
    given-gens (behind_over p d c) h = given-gens c h.2
    given-gens (in_source p c gs) h = given-part c h.1
    given-gens (behind_from p x c) h = given-gens c h.2
    given-gens (in_condition c gs) h = given-part c h.0
    given-gens (behind_condition x c) h = given-gens c h.1
