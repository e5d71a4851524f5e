-- The structures of sets and multisets, layer by layer, are built of what has a property.
use Rattle.std.proofs.Common.{refl, ℕ, suc, true, false, List, [], ◌∷◌, pos}
use Rattle.ess_semantics.specs.declared.words.Op2.{Op2}
use Rattle.ess_semantics.specs.Values.{Text}
use Rattle.ess_semantics.specs.Trees.{Mark, Ex, Exs, number_ex, name_ex, cell_ex, Dom}
use Rattle.ess_repr_laws.specs.StructureParts.{Shape, add_ex, le_ex, size_ex, upto, row_gens, at_most_ex, next_ex, slots_ex, marker_ex, explicit_ex, use_ex, true_count_ex, flags_ex, counted_ex, member_count_ex, dummy_ex, occurrence_ex}
use Rattle.ess_repr_structure_laws.proofs.BuiltStructures as B
use Rattle.ess_repr_structure_laws.proofs.BuiltStructures.{is_used, BuiltOf, one-has, two-have, word-has, lists-have}
use Rattle.ess_repr_structure_laws.proofs.BuiltParts as C

module _ (q : ℕ → Text) (P : Ex → Type 0) (L : Dom → Type 0) {F : Type 0} (built : BuiltOf q P L F (Unit {0})) where
  abbrev AllHave : Exs → Type 0
  AllHave = B.AllHave P

  abbrev DomHas : Dom → Type 0
  DomHas = B.DomHas P

  abbrev ShapesHave : List Shape → Type 0
  ShapesHave = C.ShapesHave q P L built

  pub occurrence-has : (l : ℕ) (ms : List Mark) (es : Exs) (d : Dom) (n : Text) (is : Exs) → AllHave es → DomHas d → AllHave is → P
      (occurrence_ex q l ms es d n is)
  occurrence-has l ms es d n is g x a = C.size-has q P L built ms es (true_count_ex q l (d ∷ []) n is) g
      (C.true-count-has q P L built l (d ∷ []) n is (x, tt) a)

  pub marker-has : (l : ℕ) (ms : List Mark) (es : Exs) (size : Ex) (n : Text) (ss : List Shape) (is : Exs) (part : Ex) → AllHave es → P size
      → ShapesHave ss → AllHave is → P part →
      P (marker_ex q l ms es size n ss is part)
  marker-has l ms es size n ss is part g s x a p =
      let c : P (cell_ex false n is) = C.cell-in q P L built false n is a in
      C.and-has q P L built (size_ex ms es (cell_ex false n is)) (slots_ex q l size (cell_ex false n is) ss is part)
      (C.size-has q P L built ms es (cell_ex false n is) g c)
      (C.slots-have q P L built l size (cell_ex false n is) ss is part s c x a p)

  pub explicit-has : (l : ℕ) (ms : List Mark) (es : Exs) (size : Ex) (ss : List Shape) (is : Exs) (part : Ex) → AllHave es → P size →
      ShapesHave ss → AllHave is → P part →
      P (explicit_ex q l ms es size ss is part)
  explicit-has l ms es size ss is part g s x a p = C.and-has q P L built (size_ex ms es size) (slots_ex q l size size ss is part)
      (C.size-has q P L built ms es size g s) (C.slots-have q P L built l size size ss is part s s x a p)

  pub flags-have : (l : ℕ) (ms : List Mark) (es : Exs) (size : Ex) (n : Text) (ss : List Shape) (is : Exs) (part : Ex) → AllHave es → P size
      → ShapesHave ss → AllHave is → P part →
      P (flags_ex q l ms es size n ss is part)
  flags-have l ms es size n ss is part g s x a p =
      let here : P (cell_ex true n (add_ex is (name_ex (q l)))) = C.cell-in q P L built true n (add_ex is (name_ex (q l)))
      (C.name-added q P L built l is a) in
      let next : P (cell_ex true n (add_ex is (next_ex q l))) = C.cell-in q P L built true n (add_ex is (next_ex q l))
      (C.next-added q P L built l is a) in
      C.and-has q P L built _ _ (C.and-has q P L built _ _
      (C.first-has q P L built l size (cell_ex true n (add_ex is (name_ex (q l)))) (cell_ex true n (add_ex is (next_ex q l))) s here
      next)
      (C.use-has q P L built l size (cell_ex true n (add_ex is (name_ex (q l)))) (cell_ex true n (add_ex is (next_ex q l))) _ ss is part s
      here next (C.rise-has q P L built l ss is x a) x a p))
      (C.size-has q P L built ms es (true_count_ex q l (upto size ∷ []) n is) g
      (C.true-count-has q P L built l (upto size ∷ []) n is (C.upto-has q P L built size s, tt) a))

  pub counted-has : (l : ℕ) (ms : List Mark) (es : Exs) (size : Ex) (n : Text) (ss : List Shape) (is : Exs) (part : Ex) → AllHave es → P
      size → ShapesHave ss → AllHave is → P part →
      P (counted_ex q l ms es size n ss is part)
  counted-has l ms es size n ss is part g s x a p =
      let here : P (le_ex (number_ex (pos 1)) (cell_ex false n (add_ex is (name_ex (q l))))) = C.le-has q P L built (number_ex (pos 1))
      (cell_ex false n (add_ex is (name_ex (q l)))) built.one
      (C.cell-in q P L built false n (add_ex is (name_ex (q l))) (C.name-added q P L built l is a)) in
      let next : P (le_ex (number_ex (pos 1)) (cell_ex false n (add_ex is (next_ex q l)))) = C.le-has q P L built (number_ex (pos 1))
      (cell_ex false n (add_ex is (next_ex q l))) built.one
      (C.cell-in q P L built false n (add_ex is (next_ex q l)) (C.next-added q P L built l is a)) in
      C.and-has q P L built _ _ (C.and-has q P L built _ _ (C.first-has q P L built l size _ _ s here next)
      (C.use-has q P L built l size _ _ _ ss is part s here next (C.rise-has q P L built l ss is x a) x a p))
      (C.counts-have q P L built l ms es (upto size ∷ []) n is g (C.upto-has q P L built size s, tt) a)

  pub dummy-has : (l : ℕ) (ms : List Mark) (es : Exs) (size dummy : Ex) (atom : Ex → Ex) (n : Text) (is : Exs) → AllHave es → P size → P
      dummy → ((x : Ex) → P x → P (atom x)) → AllHave is →
      P (dummy_ex q l ms es size dummy atom n is)
  dummy-has l ms es size dummy atom n is g s m f a =
      let here : P (cell_ex false n (add_ex is (name_ex (q l)))) = C.cell-in q P L built false n (add_ex is (name_ex (q l)))
      (C.name-added q P L built l is a) in
      let next : P (cell_ex false n (add_ex is (next_ex q l))) = C.cell-in q P L built false n (add_ex is (next_ex q l))
      (C.next-added q P L built l is a) in
      C.and-has q P L built _ _ (C.and-has q P L built _ _
      (C.each-has q P L built l (upto size ∷ []) _ (C.upto-has q P L built size s, tt)
      (C.or-has q P L built _ _ (f _ here) (C.eq-has q P L built dummy _ m here)))
      (C.each-pair-has q P L built l size _ s (C.or-has q P L built _ _ (C.eq-has q P L built dummy _ m next)
      (two-have q P L built true Op2.Lt _ _ refl here next))))
      (C.size-has q P L built ms es (member_count_ex q l size dummy n is) g
      (C.sum-has q P L built _ (row_gens q l (upto size ∷ []))
      (C.number-has q P L built _ (C.not-has q P L built _ (C.eq-has q P L built dummy _ m here)))
      (C.row-gens-have q P L built l (upto size ∷ []) (C.upto-has q P L built size s, tt))))

  pub repetition-use-has : (l : ℕ) (size : Ex) (n : Text) (ss : List Shape) (is : Exs) (part : Ex) → P size → ShapesHave ss → AllHave is → P
      part →
      P (use_ex q l size (le_ex (name_ex (q l)) (cell_ex false n is)) (le_ex (next_ex q l) (cell_ex false n is))
      (at_most_ex q (suc l) ss (add_ex is (name_ex (q l))) (add_ex is (next_ex q l))) ss is part)
  repetition-use-has l size n ss is part s x a p =
      let c : P (cell_ex false n is) = C.cell-in q P L built false n is a in
      C.use-has q P L built l size _ _ _ ss is part s (C.le-has q P L built (name_ex (q l)) (cell_ex false n is) (built.names l) c)
      (C.le-has q P L built (next_ex q l) (cell_ex false n is) (C.next-has q P L built l) c)
      (C.at-most-has q P L built (suc l) ss (add_ex is (name_ex (q l))) (add_ex is (next_ex q l)) x (C.name-added q P L built l is a)
      (C.next-added q P L built l is a)) x a p
