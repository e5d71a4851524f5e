-- What the parts of the structure constraint mean: rows of cells, their order, cells out of use.
use Rattle.std.proofs.Common.{◌≡◌, refl, sym, ap, ◌∙◌, ℕ, suc, ◌≤◌, ◌<◌, Bool, true, false, ◌&&◌, ◌||◌, not, if◌then◌else◌, List, [], ◌∷◌, ◌++◌, map, ℤ, pos, Option, Some, None, option_map, arith, le_refl, append-nil, append_assoc}
use Rattle.std.proofs.Math.Path.{fun_ext}
use Rattle.std.specs.List.{list_all}
use Rattle.std.specs.Ordering.{is_lt, is_le, is_eq, ordering_then, ordering_reverse}
use Rattle.std.specs.declared.cmp.Ordering.{Ordering}
use Rattle.std.specs.declared.cmp.Ordering.TheVariants.{Less, Equal, Greater}
use Rattle.ess_semantics.specs.declared.words.Op2.{Op2}
use Rattle.ess_semantics.specs.Lists.{and_then, is_some_and, or_default}
use Rattle.ess_semantics.specs.Values.{Text, Value, number, truth}
use Rattle.ess_semantics.specs.Order.{same_int, same_text, order_ints}
use Rattle.ess_semantics.specs.Names.{look}
use Rattle.ess_semantics.specs.Trees.{Ex, Exs, number_ex, name_ex, cell_ex, Dom, ex2}
use Rattle.ess_semantics.specs.Operators.{list_value, false_where_undefined, all_true}
use Rattle.ess_semantics.specs.Tables.{Table, Tables, code, truth_of, cell_at, is_cell}
use Rattle.ess_semantics.specs.Domains.{booleans}
use Rattle.ess_semantics.specs.Cells.{Grid, Axes, behind, cells_of, every_cell, are_zero, gather, row, rows, order_rows}
use Rattle.ess_semantics.specs.Meaning.{Env, collect, cell_value, cell_in, indices, meaning, meanings, items_under}
use Rattle.ess_semantics.proofs.Tests.{and-left, and-right}
use Rattle.ess_semantics.proofs.Orders.{same_int-equal, text_total, ints_total}
use Rattle.ess_repr_laws.proofs.FittingTables.{row-fits}
use Rattle.std.proofs.lemmas.Cmp.{tied_itself}
use Rattle.ess_semantics.proofs.Connectives.{and-means, or-means, not-means, binary-means, all-means}
use Rattle.ess_repr_laws.proofs.CanonicalPlaces.{AllOf}
use Rattle.ess_repr_laws.specs.StructureParts.{Shape, add_ex, and_ex, row_gens, row_index, row_ex, less_ex, at_most_ex, out_ex, zero_ex, zeros_ex}
use Rattle.ess_repr_laws.specs.StructureMeaning.{fit, Bound, M, AxesAre, Placed}
use Rattle.ess_repr_laws.proofs.StructureNumbers.{indices-add, lex-order, meanings-add, row_value, spread, spread-append}

module _ (env0 : Env) (q : ℕ → Text) (q-apart : (m l : ℕ) → l < m → same_text (q m) (q l) ≡ false) where
  -- The names that are bound are q l and later ones.
  abbrev pub From : ℕ → (Bound env0 q q-apart) → Type 0
  From l cs = AllOf cs (λ b. l ≤ b.0)

  -- The index list has these numbers, whatever else is bound from q l on.
  abbrev pub Steady : ℕ → Exs → List ℤ → (Bound env0 q q-apart) → Type 0
  Steady l is js bs = (cs : (Bound env0 q q-apart)) → From l cs → indices (meanings is ((M env0 q q-apart) (cs ++ bs))) ≡ Some js

  -- A bound name is found behind later ones.
  pub looked : (l : ℕ) (v : Value) (bs cs : (Bound env0 q q-apart)) → From (suc l) cs → meaning (name_ex (q l)) ((M env0 q q-apart) (cs ++ ((l, v) ∷ bs))) ≡ Some v
  looked l v bs [] h = ap (λ b. if b then Some v else look (map (λ (b : ℕ × Value). (q b.0, b.1)) bs ++ env0.vals) (q l)) (itself (q l))
    where
      itself : (a : Text) → same_text a a ≡ true
      itself a = ap is_eq (tied_itself text_total a)
  looked l v bs (c ∷ cs) h =
      ap (λ b. if b then Some c.1 else look (map (λ (b : ℕ × Value). (q b.0, b.1)) (cs ++ ((l, v) ∷ bs)) ++ env0.vals) (q l)) (q-apart c.0 l h.0) ∙ looked l v bs cs h.1

  from-later : (l : ℕ) (cs : (Bound env0 q q-apart)) → From (suc l) cs → From l cs
  from-later l [] h = tt
  from-later l (c ∷ cs) h = ((let a = h.0 in omega (arith, a)), from-later l cs h.1)

  from-more : (l : ℕ) (v : Value) (cs : (Bound env0 q q-apart)) → From (suc l) cs → From l (cs ++ ((l, v) ∷ []))
  from-more l v [] h = (le_refl l, tt)
  from-more l v (c ∷ cs) h = ((let a = h.0 in omega (arith, a)), from-more l v cs h.1)

  -- with one more name bound
  pub steady-more : (l : ℕ) (v : Value) (is : Exs) (js : List ℤ) (bs : (Bound env0 q q-apart)) → Steady l is js bs → Steady (suc l) is js ((l, v) ∷ bs)
  steady-more l v is js bs h cs f = ap (λ b. indices (meanings is ((M env0 q q-apart) b))) (sym (append_assoc cs ((l, v) ∷ []) bs)) ∙ h (cs ++ ((l, v) ∷ [])) (from-more l v cs f)

  -- An index list with one more index, under any later names.
  pub steady-add : (l : ℕ) (e : Ex) (v : Value) (is : Exs) (js : List ℤ) (bs : (Bound env0 q q-apart)) → Steady l is js bs → ((cs : (Bound env0 q q-apart)) → From l cs → meaning e ((M env0 q q-apart) (cs ++ bs)) ≡ Some v) → Steady l (add_ex is e) (js ++ (code v ∷ [])) bs
  steady-add l e v is js bs h k cs f =
      ap indices (meanings-add is e ((M env0 q q-apart) (cs ++ bs))) ∙ ap (λ o. indices (meanings is ((M env0 q q-apart) (cs ++ bs)) ++ (o ∷ []))) (k cs f) ∙ indices-add (meanings is ((M env0 q q-apart) (cs ++ bs))) v js (h cs f)

  -- An index list with a bound name.
  pub steady-name : (l : ℕ) (v : Value) (is : Exs) (js : List ℤ) (bs : (Bound env0 q q-apart)) → Steady l is js bs → Steady (suc l) (add_ex is (name_ex (q l))) (js ++ (code v ∷ [])) ((l, v) ∷ bs)
  steady-name l v is js bs h = steady-add (suc l) (name_ex (q l)) v is js ((l, v) ∷ bs) (steady-more l v is js bs h) (λ cs f. looked l v bs cs f)

  -- The members of axes as numbers.
  abbrev pub codes : List (List Value) → List (List ℤ)
  codes vss = map (map code) vss

  -- the cells behind one more index
  abbrev pub grid_at : Table → List ℤ → Grid
  grid_at t js ks = cell_at t (js ++ ks)

  -- The cells of a table behind an index list and a slot.
  abbrev pub slot_at : Table → List ℤ → ℤ → Grid
  slot_at t js k ks = cell_at t (js ++ (k ∷ ks))

  -- A longer index list.
  pub deeper : (t : Table) (js : List ℤ) (k : ℤ) → grid_at t (js ++ (k ∷ [])) ≡ slot_at t js k
  deeper t js k = fun_ext (λ ks. ap (cell_at t) (append_assoc js (k ∷ []) ks))

  -- Along the axes of a table: k is what is asked of each cell, g its answer at the cell.
  pub row-runs : (l : ℕ) (b : Bool) (n : Text) (t : Table) (as' : List Dom) (vss : List (List Value)) (is : Exs) (js : List ℤ) (bs : (Bound env0 q q-apart)) (k : Env → Option (List Value)) (g : ℤ → List Value) →
      look env0.cells n ≡ Some t → (AxesAre env0 q q-apart) as' vss → every_cell (codes vss) (fit b) (λ ks. cell_at t (js ++ ks)) ≡ true → Steady l is js bs →
      ((cs : (Bound env0 q q-apart)) (z : ℤ) → fit b z ≡ true → meaning (cell_ex b n (row_index q l as' is)) ((M env0 q q-apart) cs) ≡ Some (cell_value b z) → k ((M env0 q q-apart) cs) ≡ Some (g z)) →
      items_under (row_gens q l as') ((M env0 q q-apart) bs) k ≡ Some (spread g (row (codes vss) (λ ks. cell_at t (js ++ ks))))
  row-runs l b n t [] [] is js bs k g ht ax ok st ask = go (cell_at t (js ++ [])) refl ok
    where
      settled : (b : Bool) (z : ℤ) → false_where_undefined b (Some (cell_value b z)) ≡ Some (cell_value b z)
      settled true z = refl
      settled false z = refl

      go : (o : Option ℤ) → cell_at t (js ++ []) ≡ o → is_some_and o (fit b) ≡ true → k ((M env0 q q-apart) bs) ≡ Some (g (or_default (cell_at t (js ++ [])) (pos 0)) ++ [])
      go None e h = cc
      go (Some z) e h =
          ask bs z h
          (ap (λ o. false_where_undefined b (cell_in b o (indices (meanings is ((M env0 q q-apart) bs))))) ht ∙ ap (λ o. false_where_undefined b (cell_in b (Some t) o)) (st [] tt) ∙ ap (λ l. false_where_undefined b (option_map (cell_value b) (cell_at t l))) (sym (append-nil js)) ∙ ap (λ o. false_where_undefined b (option_map (cell_value b) o)) e ∙ settled b z)
          ∙ ap (λ z. Some (g z)) (ap (λ o. or_default o (pos 0)) (sym e)) ∙ ap Some (sym (append-nil (g (or_default (cell_at t (js ++ [])) (pos 0)))))
  row-runs l b n t [] (vs ∷ vss) is js bs k g ht ax ok st ask = absurd ax
  row-runs l b n t (a ∷ as') [] is js bs k g ht ax ok st ask = absurd ax
  row-runs l b n t (a ∷ as') (vs ∷ vss) is js bs k g ht ax ok st ask =
      ap (λ o. and_then o (λ us. collect us (λ v. items_under (row_gens q (suc l) as') ((M env0 q q-apart) ((l, v) ∷ bs)) k))) (ax.0 bs)
      ∙ each vs ok
      (λ v h. row-runs (suc l) b n t as' vss (add_ex is (name_ex (q l))) (js ++ (code v ∷ [])) ((l, v) ∷ bs) k g ht ax.1 (ap (every_cell (codes vss) (fit b)) (deeper t js (code v)) ∙ h) (steady-name l v is js bs st) ask
      ∙ ap (λ f. Some (spread g (row (codes vss) f))) (deeper t js (code v)))
    where
      each : (us : List Value) → list_all (λ j. every_cell (codes vss) (fit b) (λ ks. cell_at t (js ++ (j ∷ ks)))) (map code us) ≡ true →
          ((v : Value) → every_cell (codes vss) (fit b) (λ ks. cell_at t (js ++ (code v ∷ ks))) ≡ true → items_under (row_gens q (suc l) as') ((M env0 q q-apart) ((l, v) ∷ bs)) k ≡ Some (spread g (row (codes vss) (λ ks. cell_at t (js ++ (code v ∷ ks)))))) →
          collect us (λ v. items_under (row_gens q (suc l) as') ((M env0 q q-apart) ((l, v) ∷ bs)) k) ≡ Some (spread g (gather (map code us) (λ j. row (codes vss) (λ ks. cell_at t (js ++ (j ∷ ks))))))
      each [] h ih = refl
      each (u ∷ us) h ih =
          let hu = and-left (every_cell (codes vss) (fit b) (λ ks. cell_at t (js ++ (code u ∷ ks)))) (list_all (λ j. every_cell (codes vss) (fit b) (λ ks. cell_at t (js ++ (j ∷ ks)))) (map code us)) h in
          let ht' = and-right (every_cell (codes vss) (fit b) (λ ks. cell_at t (js ++ (code u ∷ ks)))) (list_all (λ j. every_cell (codes vss) (fit b) (λ ks. cell_at t (js ++ (j ∷ ks)))) (map code us)) h in
          ap (λ o. and_then o (λ xs. option_map (λ ys. xs ++ ys) (collect us (λ v. items_under (row_gens q (suc l) as') ((M env0 q q-apart) ((l, v) ∷ bs)) k)))) (ih u hu)
          ∙ ap (option_map (λ ys. spread g (row (codes vss) (λ ks. cell_at t (js ++ (code u ∷ ks)))) ++ ys)) (each us ht' ih)
          ∙ ap Some (sym (spread-append g (row (codes vss) (λ ks. cell_at t (js ++ (code u ∷ ks)))) (gather (map code us) (λ j. row (codes vss) (λ ks. cell_at t (js ++ (j ∷ ks)))))))

  -- ---- rows

  abbrev cells : Bool → ℤ → List Value
  cells b z = cell_value b z ∷ []

  spread-cells : (b : Bool) (xs : List ℤ) → spread (cells b) xs ≡ map (cell_value b) xs
  spread-cells b [] = refl
  spread-cells b (x ∷ xs) = ap (λ l. cell_value b x ∷ l) (spread-cells b xs)

  row-means : (l : ℕ) (s : Shape) (t : Table) (vss : List (List Value)) (is : Exs) (js : List ℤ) (bs : (Bound env0 q q-apart)) →
      look env0.cells s.name ≡ Some t → (AxesAre env0 q q-apart) s.axes vss → every_cell (codes vss) (fit s.truth) (grid_at t js) ≡ true → Steady l is js bs →
      meaning (row_ex q l s is) ((M env0 q q-apart) bs) ≡ Some (row_value s.truth (row (codes vss) (grid_at t js)))
  row-means l s t vss is js bs ht ax ok st =
      ap (option_map list_value) (row-runs l s.truth s.name t s.axes vss is js bs (λ here. option_map (λ v. v ∷ []) (meaning (cell_ex s.truth s.name (row_index q l s.axes is)) here)) (cells s.truth) ht ax ok st (λ cs z p e. ap (option_map (λ v. v ∷ [])) e))
      ∙ ap (λ xs. Some (list_value xs)) (spread-cells s.truth (row (codes vss) (grid_at t js)))

  -- At an index list each cell is there, and truth values are 0 or 1.
  abbrev pub There : List Shape → List (List (List Value)) → Tables → List ℤ → Type 0
  There (s ∷ ss) (vss ∷ vsss) (t ∷ ts) js = (every_cell (codes vss) (fit s.truth) (grid_at t js) ≡ true) × There ss vsss ts js
  There _ vsss ts js = Unit {0}

  -- The axes of several tables, as numbers.
  abbrev pub all_codes : List (List (List Value)) → List Axes
  all_codes vsss = map codes vsss

  lex-lt : (env : Env) (b : Bool) (x y : Ex) (xs ys : List ℤ) → list_all (fit b) xs ≡ true → list_all (fit b) ys ≡ true → meaning x env ≡ Some (row_value b xs) → meaning y env ≡ Some (row_value b ys) →
      meaning (ex2 true Op2.LexLt x y) env ≡ Some (truth (is_lt (order_ints xs ys)))
  lex-lt env b x y xs ys p r hx hy = binary-means env true Op2.LexLt x y (row_value b xs) (row_value b ys) hx hy ∙ ap (λ o. Some (truth (is_lt o))) (lex-order b xs ys p r)

  lex-le : (env : Env) (b : Bool) (x y : Ex) (xs ys : List ℤ) → list_all (fit b) xs ≡ true → list_all (fit b) ys ≡ true → meaning x env ≡ Some (row_value b xs) → meaning y env ≡ Some (row_value b ys) →
      meaning (ex2 true Op2.LexLe x y) env ≡ Some (truth (not (is_lt (order_ints ys xs))))
  lex-le env b x y xs ys p r hx hy = binary-means env true Op2.LexLe x y (row_value b xs) (row_value b ys) hx hy ∙ ap (λ o. Some (truth (not (is_lt o)))) (lex-order b ys xs r p)

  -- the order of two lists of rows, said by their heads
  less-then : (xs ys : List ℤ) (p : Ordering) → is_lt (order_ints xs ys) || (not (is_lt (order_ints ys xs)) && is_lt p) ≡ is_lt (ordering_then (order_ints xs ys) p)
  less-then xs ys p = ap (λ o. is_lt (order_ints xs ys) || (not (is_lt o) && is_lt p)) (ints_total.antisymm ys xs) ∙ go (order_ints xs ys)
    where
      go : (o : Ordering) → is_lt o || (not (is_lt (ordering_reverse o)) && is_lt p) ≡ is_lt (ordering_then o p)
      go Less = refl
      go Equal = refl
      go Greater = refl

  -- The test that cells are below others means that their rows are.
  pub less-means : (l : ℕ) (ss : List Shape) (vsss : List (List (List Value))) (ts : Tables) (is js : Exs) (i j : List ℤ) (bs : (Bound env0 q q-apart)) →
      (Placed env0 q q-apart) ss vsss ts → There ss vsss ts i → There ss vsss ts j → Steady l is i bs → Steady l js j bs →
      meaning (less_ex q l ss is js) ((M env0 q q-apart) bs) ≡ Some (truth (is_lt (order_rows (rows (all_codes vsss) (behind i (cells_of ts))) (rows (all_codes vsss) (behind j (cells_of ts))))))
  less-means l [] [] [] is js i j bs p a b c d = refl
  less-means l (s ∷ ss) (vss ∷ vsss) (t ∷ ts) is js i j bs p a b c d =
      let x = row-means l s t vss is i bs p.0 p.1 a.0 c in
      let y = row-means l s t vss js j bs p.0 p.1 b.0 d in
      let fx = row-fits (codes vss) (fit s.truth) (grid_at t i) a.0 in
      let fy = row-fits (codes vss) (fit s.truth) (grid_at t j) b.0 in
      let X : List ℤ = row (codes vss) (grid_at t i) in
      let Y : List ℤ = row (codes vss) (grid_at t j) in
      let rest : Ordering = order_rows (rows (all_codes vsss) (behind i (cells_of ts))) (rows (all_codes vsss) (behind j (cells_of ts))) in
      or-means ((M env0 q q-apart) bs) (ex2 true Op2.LexLt (row_ex q l s is) (row_ex q l s js)) (and_ex (ex2 true Op2.LexLe (row_ex q l s is) (row_ex q l s js)) (less_ex q l ss is js)) (is_lt (order_ints X Y)) (not (is_lt (order_ints Y X)) && is_lt rest)
      (lex-lt ((M env0 q q-apart) bs) s.truth (row_ex q l s is) (row_ex q l s js) X Y fx fy x y)
      (and-means ((M env0 q q-apart) bs) (ex2 true Op2.LexLe (row_ex q l s is) (row_ex q l s js)) (less_ex q l ss is js) (not (is_lt (order_ints Y X))) (is_lt rest)
      (lex-le ((M env0 q q-apart) bs) s.truth (row_ex q l s is) (row_ex q l s js) X Y fx fy x y) (less-means l ss vsss ts is js i j bs p.2 a.1 b.1 c d))
      ∙ ap (λ b. Some (truth b)) (less-then X Y rest)
  less-means l [] [] (t ∷ ts) is js i j bs p a b c d = absurd p
  less-means l [] (vss ∷ vsss) ts is js i j bs p a b c d = absurd p
  less-means l (s ∷ ss) [] ts is js i j bs p a b c d = absurd p
  less-means l (s ∷ ss) (vss ∷ vsss) [] is js i j bs p a b c d = absurd p

  at-most-then : (xs ys : List ℤ) (p : Ordering) → is_lt (order_ints xs ys) || (not (is_lt (order_ints ys xs)) && is_le p) ≡ is_le (ordering_then (order_ints xs ys) p)
  at-most-then xs ys p = ap (λ o. is_lt (order_ints xs ys) || (not (is_lt o) && is_le p)) (ints_total.antisymm ys xs) ∙ go (order_ints xs ys)
    where
      go : (o : Ordering) → is_lt o || (not (is_lt (ordering_reverse o)) && is_le p) ≡ is_le (ordering_then o p)
      go Less = refl
      go Equal = refl
      go Greater = refl

  -- The test that cells are below others, or equal.
  pub at-most-means : (l : ℕ) (ss : List Shape) (vsss : List (List (List Value))) (ts : Tables) (is js : Exs) (i j : List ℤ) (bs : (Bound env0 q q-apart)) →
      (Placed env0 q q-apart) ss vsss ts → There ss vsss ts i → There ss vsss ts j → Steady l is i bs → Steady l js j bs →
      meaning (at_most_ex q l ss is js) ((M env0 q q-apart) bs) ≡ Some (truth (is_le (order_rows (rows (all_codes vsss) (behind i (cells_of ts))) (rows (all_codes vsss) (behind j (cells_of ts))))))
  at-most-means l [] [] [] is js i j bs p a b c d = refl
  at-most-means l (s ∷ ss) (vss ∷ vsss) (t ∷ ts) is js i j bs p a b c d =
      let x = row-means l s t vss is i bs p.0 p.1 a.0 c in
      let y = row-means l s t vss js j bs p.0 p.1 b.0 d in
      let fx = row-fits (codes vss) (fit s.truth) (grid_at t i) a.0 in
      let fy = row-fits (codes vss) (fit s.truth) (grid_at t j) b.0 in
      let X : List ℤ = row (codes vss) (grid_at t i) in
      let Y : List ℤ = row (codes vss) (grid_at t j) in
      let rest : Ordering = order_rows (rows (all_codes vsss) (behind i (cells_of ts))) (rows (all_codes vsss) (behind j (cells_of ts))) in
      or-means ((M env0 q q-apart) bs) (ex2 true Op2.LexLt (row_ex q l s is) (row_ex q l s js)) (and_ex (ex2 true Op2.LexLe (row_ex q l s is) (row_ex q l s js)) (at_most_ex q l ss is js)) (is_lt (order_ints X Y)) (not (is_lt (order_ints Y X)) && is_le rest)
      (lex-lt ((M env0 q q-apart) bs) s.truth (row_ex q l s is) (row_ex q l s js) X Y fx fy x y)
      (and-means ((M env0 q q-apart) bs) (ex2 true Op2.LexLe (row_ex q l s is) (row_ex q l s js)) (at_most_ex q l ss is js) (not (is_lt (order_ints Y X))) (is_le rest)
      (lex-le ((M env0 q q-apart) bs) s.truth (row_ex q l s is) (row_ex q l s js) X Y fx fy x y) (at-most-means l ss vsss ts is js i j bs p.2 a.1 b.1 c d))
      ∙ ap (λ b. Some (truth b)) (at-most-then X Y rest)
  at-most-means l [] [] (t ∷ ts) is js i j bs p a b c d = absurd p
  at-most-means l [] (vss ∷ vsss) ts is js i j bs p a b c d = absurd p
  at-most-means l (s ∷ ss) [] ts is js i j bs p a b c d = absurd p
  at-most-means l (s ∷ ss) (vss ∷ vsss) [] is js i j bs p a b c d = absurd p

  -- ---- cells out of use

  bit-zero : (z : ℤ) → is_cell booleans z ≡ true → not (elim (truth_of z) [ Some b ↦ b | None ↦ false ]) ≡ same_int (pos 0) z
  bit-zero z p = go (same_int z (pos 0)) refl p
    where
      at : (a : ℤ) → not (elim (truth_of a) [ Some b ↦ b | None ↦ false ]) ≡ same_int (pos 0) a → z ≡ a → not (elim (truth_of z) [ Some b ↦ b | None ↦ false ]) ≡ same_int (pos 0) z
      at a e p = ap (λ y. not (elim (truth_of y) [ Some b ↦ b | None ↦ false ])) p ∙ e ∙ ap (same_int (pos 0)) (sym p)

      go : (c : Bool) → same_int z (pos 0) ≡ c → c || same_int z (pos 1) ≡ true → not (elim (truth_of z) [ Some b ↦ b | None ↦ false ]) ≡ same_int (pos 0) z
      go true e h = at (pos 0) refl (same_int-equal z (pos 0) e)
      go false e h = at (pos 1) refl (same_int-equal z (pos 1) h)

  zero-cell : (b : Bool) (n : Text) (is : Exs) (bs : (Bound env0 q q-apart)) (z : ℤ) → fit b z ≡ true → meaning (cell_ex b n is) ((M env0 q q-apart) bs) ≡ Some (cell_value b z) → meaning (out_ex q b n is) ((M env0 q q-apart) bs) ≡ Some (truth (same_int (pos 0) z))
  zero-cell true n is bs z p e = not-means ((M env0 q q-apart) bs) (cell_ex true n is) (elim (truth_of z) [ Some b ↦ b | None ↦ false ]) e ∙ ap (λ b. Some (truth b)) (bit-zero z p)
  zero-cell false n is bs z p e = binary-means ((M env0 q q-apart) bs) true Op2.Eq (number_ex (pos 0)) (cell_ex false n is) (number (pos 0)) (number z) refl e

  abbrev zs : ℤ → List Value
  zs z = truth (same_int (pos 0) z) ∷ []

  all-zero : (xs : List ℤ) → all_true (spread zs xs) ≡ list_all (same_int (pos 0)) xs
  all-zero [] = refl
  all-zero (x ∷ xs) = ap (λ b. same_int (pos 0) x && b) (all-zero xs)

  row-every : (as' : Axes) (p r : ℤ → Bool) (f : Grid) → every_cell as' p f ≡ true → list_all r (row as' f) ≡ every_cell as' r f
  row-every [] p r f h = go (f []) h
    where
      go : (o : Option ℤ) → is_some_and o p ≡ true → r (or_default o (pos 0)) && true ≡ is_some_and o r
      go None h = cc
      go (Some z) h = and-true (r z)
        where
          and-true : (b : Bool) → b && true ≡ b
          and-true true = refl
          and-true false = refl
  row-every (a ∷ as') p r f h = go a (λ k e. row-every as' p r (λ js. f (k ∷ js)) e) h
    where
      all-append : (xs ys : List ℤ) → list_all r (xs ++ ys) ≡ list_all r xs && list_all r ys
      all-append [] ys = refl
      all-append (x ∷ xs) ys = ap (λ b. r x && b) (all-append xs ys) ∙ assoc (r x) (list_all r xs) (list_all r ys)
        where
          assoc : (a b c : Bool) → a && (b && c) ≡ (a && b) && c
          assoc true b c = refl
          assoc false b c = refl

      go : (ks : List ℤ) → ((k : ℤ) → every_cell as' p (λ js. f (k ∷ js)) ≡ true → list_all r (row as' (λ js. f (k ∷ js))) ≡ every_cell as' r (λ js. f (k ∷ js))) → list_all (λ k. every_cell as' p (λ js. f (k ∷ js))) ks ≡ true →
          list_all r (gather ks (λ k. row as' (λ js. f (k ∷ js)))) ≡ list_all (λ k. every_cell as' r (λ js. f (k ∷ js))) ks
      go [] ih h = refl
      go (k ∷ ks) ih h =
          all-append (row as' (λ js. f (k ∷ js))) (gather ks (λ k. row as' (λ js. f (k ∷ js))))
          ∙ ap (λ b. b && list_all r (gather ks (λ k. row as' (λ js. f (k ∷ js))))) (ih k (and-left (every_cell as' p (λ js. f (k ∷ js))) (list_all (λ k. every_cell as' p (λ js. f (k ∷ js))) ks) h))
          ∙ ap (λ b. every_cell as' r (λ js. f (k ∷ js)) && b) (go ks ih (and-right (every_cell as' p (λ js. f (k ∷ js))) (list_all (λ k. every_cell as' p (λ js. f (k ∷ js))) ks) h))

  -- The test that all cells are 0 or false means that they are.
  pub zeros-means : (l : ℕ) (ss : List Shape) (vsss : List (List (List Value))) (ts : Tables) (is : Exs) (i : List ℤ) (bs : (Bound env0 q q-apart)) →
      (Placed env0 q q-apart) ss vsss ts → There ss vsss ts i → Steady l is i bs → meaning (zeros_ex q l ss is) ((M env0 q q-apart) bs) ≡ Some (truth (are_zero (all_codes vsss) (behind i (cells_of ts))))
  zeros-means l [] [] [] is i bs p a c = refl
  zeros-means l (s ∷ ss) (vss ∷ vsss) (t ∷ ts) is i bs p a c =
      and-means ((M env0 q q-apart) bs) (zero_ex q l s is) (zeros_ex q l ss is) (every_cell (codes vss) (same_int (pos 0)) (grid_at t i)) (are_zero (all_codes vsss) (behind i (cells_of ts)))
      (all-means ((M env0 q q-apart) bs) (out_ex q s.truth s.name (row_index q l s.axes is)) (row_gens q l s.axes) (spread zs (row (codes vss) (grid_at t i)))
      (row-runs l s.truth s.name t s.axes vss is i bs (λ here. option_map (λ v. v ∷ []) (meaning (out_ex q s.truth s.name (row_index q l s.axes is)) here)) zs p.0 p.1 a.0 c
      (λ cs z f e. ap (option_map (λ v. v ∷ [])) (zero-cell s.truth s.name (row_index q l s.axes is) cs z f e)))
      ∙ ap (λ b. Some (truth b)) (all-zero (row (codes vss) (grid_at t i)) ∙ row-every (codes vss) (fit s.truth) (same_int (pos 0)) (grid_at t i) a.0))
      (zeros-means l ss vsss ts is i bs p.2 a.1 c)
  zeros-means l [] [] (t ∷ ts) is i bs p a c = absurd p
  zeros-means l [] (vss ∷ vsss) ts is i bs p a c = absurd p
  zeros-means l (s ∷ ss) [] ts is i bs p a c = absurd p
  zeros-means l (s ∷ ss) (vss ∷ vsss) [] is i bs p a c = absurd p
