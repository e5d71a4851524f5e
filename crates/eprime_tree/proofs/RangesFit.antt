-- Ranges of an int domain: each has its bounds in its view, and is printed with them.
use Rattle.std.proofs.Common.{◌≡◌, refl, ap, subst, Bool, true, false, List, [], ◌∷◌, map, Some, None}
use Rattle.std.specs.List.{list_all}
use Rattle.ess_semantics.specs.Lists.{append_all}
use Rattle.ess_semantics.specs.Trees as pure
use Rattle.ess_semantics.specs.Trees.{Ends, one_value, both_ends, low_end, high_end, Exs, no_exs, more_exs}
use Rattle.ess_semantics.proofs.Tests.{and-both}
use Rattle.ess_grammar.specs.Models.{Scope}
use Rattle.ess_print_laws.specs.Expressions.{operands, range_printers}
use Rattle.eprime_tree.specs.declared.expressions.PRange.{PRange}
use Rattle.eprime_tree.specs.declared.expressions.PEx.{PEx}
use Rattle.eprime_tree.specs.declared.expressions.PList.{PList}
use Rattle.eprime_tree.specs.declared.expressions.PGen.{PGen}
use Rattle.eprime_tree.specs.declared.expressions.PDom.{PDom}
use Rattle.eprime_tree.specs.declared.expressions.PDom.TheOpen.{PRange-F}
use Rattle.eprime_tree.specs.declared.expressions.PDom.TheViews.{out-PRange, roll-PRange, roll-out-PRange}
use Rattle.eprime_tree.specs.declared.expressions.PDom.TheFolds.{fold-roll-PRange}
use Rattle.eprime_tree.specs.Views.{Item, Bounds, exs_of, ex_step, list_step, gen_step, dom_step, range_step, pure_range}
use Rattle.eprime_tree.specs.Written.{all_written}
use Rattle.eprime_tree.specs.Printed.{bounds_pieces}

-- whether the bounds are those of a range
abbrev pub is_range : Bounds → Bool
is_range (one_value, a ∷ []) = true
is_range (both_ends, a ∷ b ∷ []) = true
is_range (low_end, a ∷ []) = true
is_range (high_end, b ∷ []) = true
is_range r = false

layer-is : (s : Scope) (x : PRange-F PDom PEx PGen PList PRange) → is_range (pure_range s (roll-PRange x)) ≡ true
layer-is s (PRange-F.PRange::One e) = ap is_range (fold-roll-PRange pure.Dom pure.Ex Item pure.Ex Bounds dom_step (ex_step s) gen_step list_step range_step (PRange-F.PRange::One e))
layer-is s (PRange-F.Span None None) = ap is_range (fold-roll-PRange pure.Dom pure.Ex Item pure.Ex Bounds dom_step (ex_step s) gen_step list_step range_step (PRange-F.Span None None))
layer-is s (PRange-F.Span None (Some b)) = ap is_range (fold-roll-PRange pure.Dom pure.Ex Item pure.Ex Bounds dom_step (ex_step s) gen_step list_step range_step (PRange-F.Span None (Some b)))
layer-is s (PRange-F.Span (Some a) None) = ap is_range (fold-roll-PRange pure.Dom pure.Ex Item pure.Ex Bounds dom_step (ex_step s) gen_step list_step range_step (PRange-F.Span (Some a) None))
layer-is s (PRange-F.Span (Some a) (Some b)) = ap is_range (fold-roll-PRange pure.Dom pure.Ex Item pure.Ex Bounds dom_step (ex_step s) gen_step list_step range_step (PRange-F.Span (Some a) (Some b)))

pub range-is : (s : Scope) (r : PRange) → is_range (pure_range s r) ≡ true
range-is s r = subst (λ x. is_range (pure_range s x) ≡ true) (roll-out-PRange r) (layer-is s (out-PRange r))

pub ranges-are : (s : Scope) (rs : List PRange) → list_all is_range (map (pure_range s) rs) ≡ true
ranges-are s [] = refl
ranges-are s (r ∷ rs) = and-both (is_range (pure_range s r)) (list_all is_range (map (pure_range s) rs)) (range-is s r) (ranges-are s rs)

-- The bounds of all, as they are read.
abbrev pub all_bounds : List Bounds → Exs
all_bounds bs = all_written (exs_of (append_all (map (λ b. b.1) bs)))

abbrev pub all_ends : List Bounds → List Ends
all_ends bs = map (λ b. b.0) bs

pub ranges-fit : (bs : List Bounds) → list_all is_range bs ≡ true → range_printers (all_ends bs) (operands (all_bounds bs)) ≡ map bounds_pieces bs
ranges-fit [] h = refl
ranges-fit ((one_value, []) ∷ bs) h = cc
ranges-fit ((one_value, a ∷ []) ∷ bs) h = ap (λ ps. bounds_pieces (one_value, a ∷ []) ∷ ps) (ranges-fit bs h)
ranges-fit ((one_value, a ∷ b ∷ es) ∷ bs) h = cc
ranges-fit ((both_ends, []) ∷ bs) h = cc
ranges-fit ((both_ends, a ∷ []) ∷ bs) h = cc
ranges-fit ((both_ends, a ∷ b ∷ []) ∷ bs) h = ap (λ ps. bounds_pieces (both_ends, a ∷ b ∷ []) ∷ ps) (ranges-fit bs h)
ranges-fit ((both_ends, a ∷ b ∷ c ∷ es) ∷ bs) h = cc
ranges-fit ((low_end, []) ∷ bs) h = cc
ranges-fit ((low_end, a ∷ []) ∷ bs) h = ap (λ ps. bounds_pieces (low_end, a ∷ []) ∷ ps) (ranges-fit bs h)
ranges-fit ((low_end, a ∷ b ∷ es) ∷ bs) h = cc
ranges-fit ((high_end, []) ∷ bs) h = cc
ranges-fit ((high_end, a ∷ []) ∷ bs) h = ap (λ ps. bounds_pieces (high_end, a ∷ []) ∷ ps) (ranges-fit bs h)
ranges-fit ((high_end, a ∷ b ∷ es) ∷ bs) h = cc
