-- What structures say of cells beside the items of views is built of what has a property, where what they say of items has it.
use Rattle.std.proofs.Common.{refl, ℕ, suc, true, false, List, [], ◌∷◌, pos}
use Rattle.ess_semantics.specs.declared.words.Op1.{Op1}
use Rattle.ess_semantics.specs.declared.words.Op2.{Op2}
use Rattle.ess_semantics.specs.declared.words.Key.{Key}
use Rattle.ess_semantics.specs.Values.{Text}
use Rattle.ess_semantics.specs.Trees.{Repr, Mark, Ex, Exs, number_ex, name_ex, cell_ex, Dom, Doms, ex1, ex2}
use Rattle.ess_repr_laws.specs.StructureParts.{Shape, and_ex, or_ex, le_ex, keys_ex, row_index, each_ex, place_count_ex, true_count_ex, level_behind}
use Rattle.ess_repr_laws.specs.ViewParts.{components_differ_ex, pair_key_ex, one_size_ex, regular_key_ex}
use Rattle.ess_repr_laws.specs.RelationParts.{relation_key_ex, relation_ex}
use Rattle.ess_repr_laws.specs.FunctionParts.{is_one_cell, differ_ex, value_key_ex, total_ex, flag_key_ex, partial_ex}
use Rattle.ess_repr_laws.specs.PartitionParts.{part_number_ex, after_ex, numbered_on_ex, taken_ex, part_sizes_ex, numbered_ex}
use Rattle.ess_repr_structure_laws.proofs.BuiltStructures as B
use Rattle.ess_repr_structure_laws.proofs.BuiltStructures.{BuiltOf, two-have, word-has}
use Rattle.ess_repr_structure_laws.proofs.BuiltParts as C
use Rattle.ess_repr_structure_laws.proofs.PickedNumbers.{if-has}

module _ (q : ℕ → Text) (P : Ex → Type 0) (L : Dom → Type 0) {F : Type 0} (built : BuiltOf q P L F (Unit {0})) where
  abbrev AllHave : Exs → Type 0
  AllHave = B.AllHave P

  abbrev DomHas : Dom → Type 0
  DomHas = B.DomHas P

  abbrev ListHas : List Dom → Type 0
  ListHas = B.ListHas P

  abbrev ShapesHave : List Shape → Type 0
  ShapesHave = C.ShapesHave q P L built

  and-has : (a b : Ex) → P a → P b → P (and_ex a b)
  and-has = C.and-has q P L built

  or-has : (a b : Ex) → P a → P b → P (or_ex a b)
  or-has = C.or-has q P L built

  le-has : (a b : Ex) → P a → P b → P (le_ex a b)
  le-has = C.le-has q P L built

  eq-has : (a b : Ex) → P a → P b → P (ex2 true Op2.Eq a b)
  eq-has = C.eq-has q P L built

  not-has : (a : Ex) → P a → P (ex1 true Op1.Not a)
  not-has = C.not-has q P L built

  name-has : (l : ℕ) → P (name_ex (q l))
  name-has l = built.names l

  -- ---- relations as matrices

  pub relation-has : (l : ℕ) (ms : List Mark) (es : Exs) (ds : Doms) (as' : List Dom) (n : Text) (is : Exs) (e : Ex) → AllHave es → ListHas
      as' → AllHave is → ((k : Key) → P (relation_key_ex q l ds e k)) →
      P (relation_ex q l ms es ds as' n is e)
  relation-has l ms es ds as' n is e g x a h =
      and-has _ _ (C.size-has q P L built ms es (true_count_ex q l as' n is) g (C.true-count-has q P L built l as' n is x a))
      (C.keys-have q P L built (relation_key_ex q l ds e) ms h)

  -- ---- functions over cells

  -- That cells differ.
  pub differ-cells-have : (l : ℕ) (as' : List Dom) (ss : List Shape) (is : Exs) → ListHas as' → AllHave is → P (differ_ex q l as' ss is)
  differ-cells-have l as' (s ∷ []) is x a = C.differ-has q P L built _ _ (C.cell-has q P L built s.truth s.name l as' is a)
      (C.row-gens-have q P L built l as' x)
  differ-cells-have l as' _ is x a = built.truths false

  value-key-has : (l : ℕ) (as' : List Dom) (ss : List Shape) (is : Exs) (r : Repr) (c : Dom) (e : Ex) (k : Key) → ListHas as' → AllHave is →
      ((k : Key) → P (pair_key_ex q l c e k)) → P (value_key_ex q l as' ss is r c e k)
  value-key-has l as' ss is r c e Key.Injective x a h =
      if-has P (is_one_cell r) (differ_ex q l as' ss is) (components_differ_ex q l c 2 e) (differ-cells-have l as' ss is x a)
      (h Key.Injective)
  value-key-has l as' ss is r c e k x a h = h k

  pub total-has : (l : ℕ) (ms : List Mark) (es : Exs) (as' : List Dom) (ss : List Shape) (is : Exs) (r : Repr) (c : Dom) (e part : Ex) →
      AllHave es → ListHas as' → AllHave is → ((k : Key) → P (pair_key_ex q l c e k)) → P part →
      P (total_ex q l ms es as' ss is r c e part)
  total-has l ms es as' ss is r c e part g x a h p =
      and-has _ _ (C.each-has q P L built l as' part x p)
      (and-has _ _ (C.size-has q P L built ms es (place_count_ex q l as') g (C.place-count-has q P L built l as' x))
      (C.keys-have q P L built (value_key_ex q l as' ss is r c e) ms (λ k. value-key-has l as' ss is r c e k x a h)))

  flag-key-has : (l : ℕ) (as' : List Dom) (n : Text) (is : Exs) (c : Dom) (e : Ex) (k : Key) → ListHas as' → AllHave is →
      ((k : Key) → P (pair_key_ex q l c e k)) → P (flag_key_ex q l as' n is c e k)
  flag-key-has l as' n is c e Key.Total x a h = C.each-has q P L built l as' _ x (C.cell-has q P L built true n l as' is a)
  flag-key-has l as' n is c e k x a h = h k

  pub partial-has : (l : ℕ) (ms : List Mark) (es : Exs) (as' : List Dom) (n : Text) (is : Exs) (ss : List Shape) (c : Dom) (e part : Ex) →
      AllHave es → ListHas as' → AllHave is → ShapesHave ss → ((k : Key) → P (pair_key_ex q l c e k)) →
      P part → P (partial_ex q l ms es as' n is ss c e part)
  partial-has l ms es as' n is ss c e part g x a s h p =
      let f : P (cell_ex true n (row_index q l as' is)) = C.cell-has q P L built true n l as' is a in
      and-has _ _ (C.each-has q P L built l as' _ x (and-has _ _ (C.implies-has q P L built _ part f p)
      (C.implies-has q P L built _ _ (not-has _ f) (C.zeros-have q P L built (level_behind l as') ss (row_index q l as' is) s
      (C.row-index-has q P L built l as' is a)))))
      (and-has _ _ (C.size-has q P L built ms es (true_count_ex q l as' n is) g (C.true-count-has q P L built l as' n is x a))
      (C.keys-have q P L built (flag_key_ex q l as' n is c e) ms (λ k. flag-key-has l as' n is c e k x a h)))

  -- ---- partitions by numbers

  part-number-has : (l : ℕ) (w : Text) (is : Exs) → AllHave is → P (part_number_ex q l w is)
  part-number-has l w is a = C.cell-in q P L built false w _ (C.name-added q P L built l is a)

  after-has : (l : ℕ) (d : Dom) (w : Text) (is : Exs) → DomHas d → AllHave is → P (after_ex q l d w is)
  after-has l d w is x a =
      C.some-has q P L built _ _
      (eq-has _ _ (part-number-has l w is a) (two-have q P L built false Op2.Plus _ (number_ex (pos 1)) refl
      (part-number-has (suc l) w is a) built.one))
      ((suc l, refl), x, (two-have q P L built true Op2.Lt (name_ex (q (suc l))) (name_ex (q l)) refl (name-has (suc l)) (name-has l), tt))

  numbered-on-has : (l : ℕ) (d : Dom) (n : Ex) (w : Text) (is : Exs) → DomHas d → P n → AllHave is → P (numbered_on_ex q l d n w is)
  numbered-on-has l d n w is x h a =
      let p = part-number-has l w is a in
      and-has _ _ (and-has _ _ (le-has (number_ex (pos 1)) _ built.one p) (le-has _ n p h))
      (or-has _ _ (eq-has (number_ex (pos 1)) _ built.one p) (after-has l d w is x a))

  number-taken-has : (l : ℕ) (d : Dom) (n : Ex) (w : Text) (is : Exs) → DomHas d → P n → AllHave is → P (taken_ex q l d n w is)
  number-taken-has l d n w is x h a =
      or-has _ _ (eq-has n (number_ex (pos 0)) h built.zero)
      (C.some-has q P L built _ _ (eq-has _ n (part-number-has l w is a) h) ((l, refl), x, tt))

  -- That parts are numbered.
  abbrev pub numbers_of : ℕ → Dom → Ex → Text → Exs → Ex
  numbers_of l d n w is = and_ex (each_ex q l (d ∷ []) (numbered_on_ex q l d n w is)) (taken_ex q l d n w is)

  pub numbers-have : (l : ℕ) (d : Dom) (n : Ex) (w : Text) (is : Exs) → DomHas d → P n → AllHave is → P (numbers_of l d n w is)
  numbers-have l d n w is x f a =
      and-has _ _ (C.each-has q P L built l (d ∷ []) _ (x, tt) (numbered-on-has l d n w is x f a)) (number-taken-has l d n w is x f a)

  pub numbered-has : (l : ℕ) (ks : List Mark) (ms : Exs) (d : Dom) (n : Ex) (w : Text) (is : Exs) (e : Ex) → DomHas d → P n → AllHave is →
      P (and_ex (part_sizes_ex q l n e ks ms) (keys_ex (regular_key_ex (one_size_ex q l e)) ks)) → P (numbered_ex q l ks ms d n w is e)
  numbered-has l ks ms d n w is e x f a h = and-has _ _ (numbers-have l d n w is x f a) h
