-- What attributes of multisets mean as constraints of a table of numbers of times.
use Rattle.std.proofs.Common.{◌≡◌, refl, sym, ap, ◌∙◌, ℕ, ◌+◌, ◌<◌, Bool, true, false, ◌&&◌, ◌||◌, List, [], ◌∷◌, ℤ, pos, ◌+ℤ◌, Option, Some, None, option_map, int_le}
use Rattle.std.specs.List.{list_all}
use Rattle.ess_semantics.specs.declared.words.Fun.{Fun}
use Rattle.ess_semantics.specs.declared.words.Key.{Key}
use Rattle.ess_semantics.specs.declared.words.Op2.{Op2}
use Rattle.ess_semantics.specs.Lists.{and_then}
use Rattle.ess_semantics.specs.Values.{Text, Value, number, truth}
use Rattle.ess_semantics.specs.Order.{same_int, same_text}
use Rattle.ess_semantics.specs.Names.{look}
use Rattle.ess_semantics.specs.Numbers.{natural}
use Rattle.ess_semantics.specs.Trees.{Mark, flag, valued, word, Ex, Exs, no_exs, more_exs, number_ex, cell_ex, comp_ex, Dom, ex2, fun1}
use Rattle.ess_semantics.specs.Domains.{Attribute, numbered, flagged}
use Rattle.ess_semantics.specs.Attributes.{set_attributes_hold, each_number_holds}
use Rattle.ess_semantics.specs.MultisetLayers.{times_hold, counts_hold}
use Rattle.ess_semantics.specs.Operators.{all_true, list_value, sum_of, false_where_undefined, value_of_node}
use Rattle.ess_semantics.specs.Tables.{Table, is_cell}
use Rattle.ess_semantics.specs.Cells.{every_cell, row}
use Rattle.ess_semantics.specs.Layers.{total, up_to}
use Rattle.ess_semantics.specs.Meaning.{Env, as_int, attributes_of, meaning, meanings}
use Rattle.ess_semantics.proofs.Connectives.{and-means, or-means, binary-means, all-means}
use Rattle.ess_semantics.proofs.Orders.{to_list-of_list}
use Rattle.ess_semantics.proofs.Tests.{and-left, and-right}
use Rattle.ess_repr_laws.specs.StructureParts.{Terms, or_ex, le_ex, size_ex, row_gens, row_index, number_sum_ex, times_of_ex, times_ex, counts_ex}
use Rattle.ess_repr_laws.specs.StructureMeaning.{Number, Bound, M, AxesAre, Attributes, fit}
use Rattle.ess_repr_laws.proofs.ExactCells.{same_int-turned}
use Rattle.ess_repr_laws.proofs.FittingTables.{row-fits}
use Rattle.ess_repr_laws.proofs.SlotsUsed.{marker-cell}
use Rattle.ess_repr_laws.proofs.StructureNumbers.{le-means, size-means, spread}
use Rattle.ess_repr_laws.proofs.StructureRows.{Steady, codes, grid_at, row-runs}

-- ---- one attribute and the others

-- The first of the attributes, where it has a number.
pub valued-first : (k : Key) (ms : List Mark) (o : Option Value) (os : List (Option Value)) (a : Attribute) (ks : List Attribute) → attributes_of (valued k ∷ ms) (o ∷ os) ≡ Some (a ∷ ks) →
    (z : ℤ) × (as_int o ≡ Some z) × (a ≡ numbered k z) × (attributes_of ms os ≡ Some ks)
valued-first k ms o os a ks e = go (as_int o) (attributes_of ms os) refl refl e
  where
    go : (x : Option ℤ) (y : Option (List Attribute)) → as_int o ≡ x → attributes_of ms os ≡ y → and_then x (λ n. option_map (λ ls. numbered k n ∷ ls) y) ≡ Some (a ∷ ks) →
        (z : ℤ) × (as_int o ≡ Some z) × (a ≡ numbered k z) × (attributes_of ms os ≡ Some ks)
    go None y p r e = cc
    go (Some z) None p r e = cc
    go (Some z) (Some ls) p r e = let w : numbered k z ∷ ls ≡ a ∷ ks = cc in let x : numbered k z ≡ a = cc in let v : ls ≡ ks = cc in (z, p, sym x, r ∙ ap Some v)

-- An attribute is there.
pub valued-some : (k : Key) (ms : List Mark) (o : Option Value) (os : List (Option Value)) →
    attributes_of (valued k ∷ ms) (o ∷ os) ≡ Some [] → ⊥
valued-some k ms o os e = go (as_int o) (attributes_of ms os) e
  where
    go : (x : Option ℤ) (y : Option (List Attribute)) → and_then x (λ n. option_map (λ ls. numbered k n ∷ ls) y) ≡ Some [] → ⊥
    go None y e = cc
    go (Some z) None e = cc
    go (Some z) (Some ls) e = cc

-- The same of one without a number.
pub flagged-first : (k : Key) (ms : List Mark) (os : List (Option Value)) (a : Attribute) (ks : List Attribute) → attributes_of (flag k ∷ ms) os ≡ Some (a ∷ ks) → (a ≡ flagged k) × (attributes_of ms os ≡ Some ks)
flagged-first k ms os a ks e = go (attributes_of ms os) refl e
  where
    go : (y : Option (List Attribute)) → attributes_of ms os ≡ y → option_map (λ ls. flagged k ∷ ls) y ≡ Some (a ∷ ks) → (a ≡ flagged k) × (attributes_of ms os ≡ Some ks)
    go None r e = cc
    go (Some ls) r e = let w : flagged k ∷ ls ≡ a ∷ ks = cc in let x : flagged k ≡ a = cc in let v : ls ≡ ks = cc in (sym x, r ∙ ap Some v)

-- So of one without a number.
pub flagged-some : (k : Key) (ms : List Mark) (os : List (Option Value)) → attributes_of (flag k ∷ ms) os ≡ Some [] → ⊥
flagged-some k ms os e = go (attributes_of ms os) e
  where
    go : (y : Option (List Attribute)) → option_map (λ ls. flagged k ∷ ls) y ≡ Some [] → ⊥
    go None e = cc
    go (Some ls) e = cc

-- ---- numbers of times

abbrev ones : ℤ → List Value
ones z = number z ∷ []

sum-natural : (n : ℕ) (xs : List ℤ) → list_all (is_cell (up_to n)) xs ≡ true → sum_of (spread ones xs) ≡ pos (total xs)
sum-natural n [] h = refl
sum-natural n (x ∷ xs) h =
    let m = marker-cell (Some x) n (and-left (is_cell (up_to n) x) (list_all (is_cell (up_to n)) xs) h) in
    let e : x ≡ pos m.0 = let w = m.1 in cc in
    ap (λ s. x +ℤ s) (sum-natural n xs (and-right (is_cell (up_to n) x) (list_all (is_cell (up_to n)) xs) h)) ∙ ap (λ z. z +ℤ pos (total xs)) e ∙ ap (λ z. pos (natural z + total xs)) (sym e)

all-tests : (f : ℤ → Bool) (xs : List ℤ) → all_true (spread (λ z. truth (f z) ∷ []) xs) ≡ list_all f xs
all-tests f [] = refl
all-tests f (x ∷ xs) = ap (λ b. f x && b) (all-tests f xs)

module _ (env0 : Env) (q : ℕ → Text) (q-apart : (m l : ℕ) → l < m → same_text (q m) (q l) ≡ false) (terms : Terms)
    (l : ℕ) (as' : List Dom) (vss : List (List Value)) (n : Text) (is : Exs) (js : List ℤ) (bs : Bound env0 q q-apart) (t : Table) (ax : AxesAre env0 q q-apart as' vss) (ht : look env0.cells n ≡ Some t)
    (top : ℕ) (ok : every_cell (codes env0 q q-apart vss) (is_cell (up_to top)) (grid_at env0 q q-apart t js) ≡ true) (there : every_cell (codes env0 q q-apart vss) (fit false) (grid_at env0 q q-apart t js) ≡ true)
    (st : Steady env0 q q-apart l is js bs) where
  abbrev R : List ℤ
  R = row (codes env0 q q-apart vss) (grid_at env0 q q-apart t js)

  abbrev cell : Ex
  cell = cell_ex false n (row_index q l as' is)

  -- The sum of the numbers.
  sum-means : Number (number_sum_ex q l as' n is) (M env0 q q-apart bs) (pos (total R))
  sum-means =
      ap (λ o. false_where_undefined false (value_of_node (word Fun.Sum) (option_map list_value o ∷ [])))
      (row-runs env0 q q-apart l false n t as' vss is js bs (λ here. option_map (λ v. v ∷ []) (meaning cell here)) ones ht ax there st (λ cs z f e. ap (option_map (λ v. v ∷ [])) e))
      ∙ ap (λ l. Some (number (sum_of l))) (to_list-of_list (spread ones R)) ∙ ap (λ z. Some (number z)) (sum-natural top R (row-fits (codes env0 q q-apart vss) (is_cell (up_to top)) (grid_at env0 q q-apart t js) ok))

  -- A test of each number.
  each-number : (e : Ex) (f : ℤ → Bool) → ((cs : Bound env0 q q-apart) (z : ℤ) → Number cell (M env0 q q-apart cs) z → meaning e (M env0 q q-apart cs) ≡ Some (truth (f z))) →
      meaning (fun1 true Fun.And (comp_ex e (row_gens q l as'))) (M env0 q q-apart bs) ≡ Some (truth (list_all f R))
  each-number e f h =
      all-means (M env0 q q-apart bs) e (row_gens q l as') (spread (λ z. truth (f z) ∷ []) R)
      (row-runs env0 q q-apart l false n t as' vss is js bs (λ here. option_map (λ v. v ∷ []) (meaning e here)) (λ z. truth (f z) ∷ []) ht ax there st (λ cs z p x. ap (option_map (λ v. v ∷ [])) (h cs z x)))
      ∙ ap (λ b. Some (truth b)) (all-tests f R)

  none-or : (e y : Ex) (cs : Bound env0 q q-apart) (z : ℤ) (b : Bool) → Number cell (M env0 q q-apart cs) z → meaning y (M env0 q q-apart cs) ≡ Some (truth b) →
      meaning (or_ex (ex2 true Op2.Eq (number_ex (pos 0)) cell) y) (M env0 q q-apart cs) ≡ Some (truth (same_int z (pos 0) || b))
  none-or e y cs z b h k =
      or-means (M env0 q q-apart cs) (ex2 true Op2.Eq (number_ex (pos 0)) cell) y (same_int z (pos 0)) b
      (binary-means (M env0 q q-apart cs) true Op2.Eq (number_ex (pos 0)) cell (number (pos 0)) (number z) refl h ∙ ap (λ s. Some (truth s)) (same_int-turned (pos 0) z)) k

  -- An attribute on numbers of times.
  times-of-means : (k : Key) (e : Ex) (z : ℤ) → ((cs : Bound env0 q q-apart) → Number e (M env0 q q-apart cs) z) → meaning (times_of_ex q l k e as' n is) (M env0 q q-apart bs) ≡ Some (truth (list_all (times_hold k z) R))
  times-of-means Key.MinOccur e z h =
      each-number (or_ex (ex2 true Op2.Eq (number_ex (pos 0)) cell) (le_ex e cell)) (times_hold Key.MinOccur z)
      (λ cs v x. none-or e (le_ex e cell) cs v (int_le z v) x (le-means (M env0 q q-apart cs) e cell z v (h cs) x))
  times-of-means Key.MaxOccur e z h =
      each-number (or_ex (ex2 true Op2.Eq (number_ex (pos 0)) cell) (le_ex cell e)) (times_hold Key.MaxOccur z)
      (λ cs v x. none-or e (le_ex cell e) cs v (int_le v z) x (le-means (M env0 q q-apart cs) cell e v z x (h cs)))
  times-of-means _ e z h = ap (λ b. Some (truth b)) (sym (all-yes R))
    where
      all-yes : (xs : List ℤ) → list_all (λ z. true) xs ≡ true
      all-yes [] = refl
      all-yes (x ∷ xs) = all-yes xs

  -- All attributes on numbers of times.
  times-means : (ms : List Mark) (es : Exs) (ks : List Attribute) → Attributes env0 q q-apart terms ms es ks →
      meaning (times_ex q l ms es as' n is) (M env0 q q-apart bs) ≡ Some (truth (each_number_holds ks (λ k z. list_all (times_hold k z) R)))
  times-means [] no_exs [] at = refl
  times-means [] no_exs (a ∷ ks) at = let x = at bs in let y = x.1 in cc
  times-means [] (more_exs e es) ks at = let x = at bs in let y = x.1 in cc
  times-means (flag k ∷ ms) es [] at = let x = at bs in absurd (flagged-some k ms (meanings es (M env0 q q-apart bs)) x.1)
  times-means (flag k ∷ ms) es (a ∷ ks) at =
      let x = at bs in
      let f = flagged-first k ms (meanings es (M env0 q q-apart bs)) a ks x.1 in
      times-means ms es ks (λ cs. let y = at cs in let g = flagged-first k ms (meanings es (M env0 q q-apart cs)) a ks y.1 in (y.0, g.1))
      ∙ ap (λ a. Some (truth (each_number_holds (a ∷ ks) (λ k z. list_all (times_hold k z) R)))) (sym f.0)
  times-means (valued k ∷ ms) no_exs ks at = let x = at bs in let y = x.1 in cc
  times-means (valued k ∷ ms) (more_exs e es) [] at = let x = at bs in absurd (valued-some k ms (meaning e (M env0 q q-apart bs)) (meanings es (M env0 q q-apart bs)) x.1)
  times-means (valued k ∷ ms) (more_exs e es) (a ∷ ks) at =
      let x = at bs in
      let f = valued-first k ms (meaning e (M env0 q q-apart bs)) (meanings es (M env0 q q-apart bs)) a ks x.1 in
      and-means (M env0 q q-apart bs) (times_of_ex q l k e as' n is) (times_ex q l ms es as' n is) (list_all (times_hold k f.0) R) (each_number_holds ks (λ k z. list_all (times_hold k z) R))
      (times-of-means k e f.0 (λ cs. let y = at cs in let g = valued-first k ms (meaning e (M env0 q q-apart cs)) (meanings es (M env0 q q-apart cs)) a ks y.1 in
      y.0.0 f.0 (g.1 ∙ ap Some (same-number k g.0 f.0 (sym g.2 ∙ f.2)))))
      (times-means ms es ks (λ cs. let y = at cs in let g = valued-first k ms (meaning e (M env0 q q-apart cs)) (meanings es (M env0 q q-apart cs)) a ks y.1 in (y.0.1, g.3)))
      ∙ ap (λ a. Some (truth (each_number_holds (a ∷ ks) (λ k z. list_all (times_hold k z) R)))) (sym f.2)
    where
      same-number : (k : Key) (x y : ℤ) → numbered k x ≡ numbered k y → x ≡ y
      same-number k x y e = cc

  -- What attributes ask of a table of numbers of times.
  pub counts-means : (ms : List Mark) (es : Exs) (ks : List Attribute) → Attributes env0 q q-apart terms ms es ks → meaning (counts_ex q l ms es as' n is) (M env0 q q-apart bs) ≡ Some (truth (counts_hold ks R))
  counts-means ms es ks at =
      let x = at bs in
      and-means (M env0 q q-apart bs) (size_ex ms es (number_sum_ex q l as' n is)) (times_ex q l ms es as' n is) (set_attributes_hold ks (total R)) (each_number_holds ks (λ k z. list_all (times_hold k z) R))
      (size-means (M env0 q q-apart bs) ms es (number_sum_ex q l as' n is) (total R) ks x.0 x.1 sum-means) (times-means ms es ks at)
