-- Items of several values, put one behind the other.
use Rattle.std.proofs.Common.{◌≡◌, sym, ap, ◌∙◌, subst, ℕ, ◌+◌, ◌<◌, ◌≤◌, ℤ, Bool, true, false, List, ◌∷◌, ◌++◌, append_assoc, append-nil, map, length, get_or, drop, Option, Some, None, option_map}
use Rattle.ess_semantics.specs.Lists.{and_then, each_of, append_all}
use Rattle.ess_semantics.specs.Trees.{Ex}
use Rattle.eprime_cells_parts.proofs.WhatIsLeft.{left-more, left-none}
use Rattle.eprime_cells_machine.specs.declared.values.CellValue.{CellValue}
use Rattle.eprime_cells_machine.specs.ValueViews.{pure_value}
use Rattle.eprime_cells_judging.specs.Putting.{Puts, all_items}

-- What is left to do from here does all.
abbrev pub Left : (Ex → Option (List ℤ)) → List CellValue → ℕ → List ℤ → List ℤ → Type 0
Left f vs i old now = (new : List ℤ) (b : Bool) → Puts (all_items f (drop i vs)) now new b → Puts (all_items f vs) old new b

pub left_all : (f : Ex → Option (List ℤ)) (vs : List CellValue) (old : List ℤ) → Left f vs 0 old old
left_all f vs old new b h = h

puts-rest : (is : List ℤ) (o : Option (List (List ℤ))) (now mid new : List ℤ) (b : Bool) → mid ≡ now ++ is → Puts (option_map append_all o) mid new b → Puts (option_map append_all (option_map (λ ys. is ∷ ys) o)) now new b
puts-rest is None now mid new true h k = k
puts-rest is None now mid new false h k = tt
puts-rest is (Some ls) now mid new true h k = k ∙ ap (λ m. m ++ append_all ls) h ∙ append_assoc now is (append_all ls)
puts-rest is (Some ls) now mid new false h k = k

puts-first : (o : Option (List ℤ)) (r : Option (List (List ℤ))) (now mid new : List ℤ) (b : Bool) → Puts o now mid true → Puts (option_map append_all r) mid new b →
    Puts (option_map append_all (and_then o (λ y. option_map (λ ys. y ∷ ys) r))) now new b
puts-first None r now mid new b h k = absurd h
puts-first (Some is) r now mid new b h k = puts-rest is r now mid new b h k

-- The items of one more value are put.
pub left_more : (f : Ex → Option (List ℤ)) (vs : List CellValue) (i : ℕ) (v : CellValue) (old now mid : List ℤ) → Left f vs i old now → i < length vs → v ≡ get_or vs i v → Puts (f (pure_value v)) now mid true →
    Left f vs (i + 1) old mid
left_more f vs i v old now mid l lt is p new b k =
    l new b
    (subst (λ us. Puts (all_items f us) now new b) (sym (left-more vs i v lt is))
    (puts-first (f (pure_value v)) (each_of (map pure_value (drop (i + 1) vs)) f) now mid new b p k))

puts-none : (o : Option (List ℤ)) (r : Option (List (List ℤ))) (now mid new : List ℤ) → Puts o now mid false → Puts (option_map append_all (and_then o (λ y. option_map (λ ys. y ∷ ys) r))) now new false
puts-none None r now mid new h = tt
puts-none (Some is) r now mid new h = absurd h

-- A value stands for no items.
pub left_stop : (f : Ex → Option (List ℤ)) (vs : List CellValue) (i : ℕ) (v : CellValue) (old now mid : List ℤ) → Left f vs i old now → i < length vs → v ≡ get_or vs i v → Puts (f (pure_value v)) now mid false →
    Puts (all_items f vs) old mid false
left_stop f vs i v old now mid l lt is p =
    l mid false
    (subst (λ us. Puts (all_items f us) now mid false) (sym (left-more vs i v lt is))
    (puts-none (f (pure_value v)) (each_of (map pure_value (drop (i + 1) vs)) f) now mid mid p))

-- All items are put.
pub left_done : (f : Ex → Option (List ℤ)) (vs : List CellValue) (i : ℕ) (old now : List ℤ) → Left f vs i old now → length vs ≤ i → Puts (all_items f vs) old now true
left_done f vs i old now l h = l now true (subst (λ us. Puts (all_items f us) now now true) (sym (left-none vs i h)) (sym (append-nil now)))
