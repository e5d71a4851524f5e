-- The structure constraint of a set of which is kept which members occur.
use Rattle.std.proofs.Common.{◌≡◌, refl, sym, ap, ◌∙◌, ℕ, suc, ◌+◌, ◌<◌, Bool, true, false, ◌&&◌, ◌||◌, if◌then◌else◌, List, [], ◌∷◌, map, ℤ, pos, ◌+ℤ◌, Some, None, option_map, arith}
use Rattle.ess_semantics.specs.declared.words.Fun.{Fun}
use Rattle.ess_semantics.specs.declared.words.ReprKind.{ReprKind}
use Rattle.ess_semantics.specs.Lists.{list_or_none}
use Rattle.ess_semantics.specs.Values.{Text, Value, number, truth}
use Rattle.ess_semantics.specs.Order.{same_int, same_text}
use Rattle.ess_semantics.specs.Names.{look}
use Rattle.ess_semantics.specs.Trees.{Mark, word, repr, no_reprs, Ex, Exs, cell_ex, Dom, fun1}
use Rattle.ess_semantics.specs.Domains.{Attribute, Domain, sets, booleans, members}
use Rattle.ess_semantics.specs.Attributes.{set_attributes_hold}
use Rattle.ess_semantics.specs.Operators.{list_value, sum_of, false_where_undefined, value_of_node}
use Rattle.ess_semantics.specs.Tables.{Table, code, truth_of, is_cell}
use Rattle.ess_semantics.specs.Cells.{behind, cells_of, every_cell, row}
use Rattle.ess_semantics.specs.Layers.{count_true, codes_of}
use Rattle.ess_semantics.specs.CanonicalTest.{canonical}
use Rattle.ess_semantics.specs.Meaning.{Env, attributes_of, cell_value, meaning, meanings}
use Rattle.ess_semantics.proofs.Orders.{same_int-equal, to_list-of_list}
use Rattle.ess_repr_laws.specs.StructureParts.{row_index, true_count_ex, occurrence_ex}
use Rattle.ess_repr_laws.specs.StructureMeaning.{Number, AllNumbers, fit, Bound, M, AxesAre}
use Rattle.ess_repr_laws.proofs.StructureNumbers.{size-means, spread}
use Rattle.ess_repr_laws.proofs.StructureRows.{Steady, row-runs, grid_at}

-- ---- which members occur

abbrev ones : ℤ → List Value
ones z = number (pos (if same_int z (pos 1) then 1 else 0)) ∷ []

sum-ones : (xs : List ℤ) → sum_of (spread ones xs) ≡ pos (count_true xs)
sum-ones [] = refl
sum-ones (x ∷ xs) = ap (λ s. pos (if same_int x (pos 1) then 1 else 0) +ℤ s) (sum-ones xs) ∙ go (same_int x (pos 1))
  where
    go : (b : Bool) → pos (if b then 1 else 0) +ℤ pos (count_true xs) ≡ pos (if b then suc (count_true xs) else count_true xs)
    go true = ap pos (let e : 1 + count_true xs ≡ suc (count_true xs) = omega arith in e)
    go false = ap pos (let e : 0 + count_true xs ≡ count_true xs = omega arith in e)

-- A bit is true where it is 1.
pub bit-one : (z : ℤ) → is_cell booleans z ≡ true → (elim (truth_of z) [ Some b ↦ b | None ↦ false ]) ≡ same_int z (pos 1)
bit-one z p = go (same_int z (pos 0)) refl p
  where
    at : (a : ℤ) → (elim (truth_of a) [ Some b ↦ b | None ↦ false ]) ≡ same_int a (pos 1) → z ≡ a → (elim (truth_of z) [ Some b ↦ b | None ↦ false ]) ≡ same_int z (pos 1)
    at a e p = ap (λ y. elim (truth_of y) [ Some b ↦ b | None ↦ false ]) p ∙ e ∙ ap (λ y. same_int y (pos 1)) (sym p)

    go : (c : Bool) → same_int z (pos 0) ≡ c → c || same_int z (pos 1) ≡ true → (elim (truth_of z) [ Some b ↦ b | None ↦ false ]) ≡ same_int z (pos 1)
    go true e h = at (pos 0) refl (same_int-equal z (pos 0) e)
    go false e h = at (pos 1) refl (same_int-equal z (pos 1) h)

module _ (env0 : Env) (q : ℕ → Text) (q-apart : (m l : ℕ) → l < m → same_text (q m) (q l) ≡ false) where
  -- The number of true cells.
  pub true-count-means : (l : ℕ) (as' : List Dom) (vss : List (List Value)) (n : Text) (is : Exs) (js : List ℤ) (bs : Bound env0 q q-apart) (t : Table) → AxesAre env0 q q-apart as' vss → look env0.cells n ≡ Some t →
      every_cell (map (map code) vss) (is_cell booleans) (grid_at env0 q q-apart t js) ≡ true → Steady env0 q q-apart l is js bs →
      Number (true_count_ex q l as' n is) (M env0 q q-apart bs) (pos (count_true (row (map (map code) vss) (grid_at env0 q q-apart t js))))
  true-count-means l as' vss n is js bs t ax ht ok st =
      ap (λ o. false_where_undefined false (value_of_node (word Fun.Sum) (option_map list_value o ∷ [])))
      (row-runs env0 q q-apart l true n t as' vss is js bs (λ here. option_map (λ v. v ∷ []) (meaning item_ex here)) ones ht ax ok st one)
      ∙ ap (λ l. Some (number (sum_of l))) (to_list-of_list (spread ones R)) ∙ ap (λ z. Some (number z)) (sum-ones R)
    where
      R : List ℤ
      R = row (map (map code) vss) (grid_at env0 q q-apart t js)

      item_ex : Ex
      item_ex = fun1 false Fun.ToInt (cell_ex true n (row_index q l as' is))

      one : (cs : Bound env0 q q-apart) (z : ℤ) → fit true z ≡ true → meaning (cell_ex true n (row_index q l as' is)) (M env0 q q-apart cs) ≡ Some (cell_value true z) →
          option_map (λ v. v ∷ []) (meaning item_ex (M env0 q q-apart cs)) ≡ Some (ones z)
      one cs z f e =
          ap (λ o. option_map (λ v. v ∷ []) (false_where_undefined false (value_of_node (word Fun.ToInt) (o ∷ [])))) e ∙ ap (λ b. Some (number (pos (if b then 1 else 0)) ∷ [])) (bit-one z f)

  -- The structure of an occurrence table means that its cells are canonical.
  pub occurrence-means : (l : ℕ) (ms : List Mark) (es : Exs) (d : Dom) (n : Text) (is : Exs) (js : List ℤ) (bs : Bound env0 q q-apart) (ks : List Attribute) (e : Domain) (vs : List Value) (t : Table) →
      AllNumbers es (M env0 q q-apart bs) → attributes_of ms (meanings es (M env0 q q-apart bs)) ≡ Some ks → members e ≡ Some vs → AxesAre env0 q q-apart (d ∷ []) (vs ∷ []) → look env0.cells n ≡ Some t →
      every_cell (map code vs ∷ []) (is_cell booleans) (grid_at env0 q q-apart t js) ≡ true → Steady env0 q q-apart l is js bs →
      meaning (occurrence_ex q l ms es d n is) (M env0 q q-apart bs) ≡ Some (truth (canonical (repr ReprKind.Occurrence no_reprs) (sets ks e) (behind js (cells_of (t ∷ [])))))
  occurrence-means l ms es d n is js bs ks e vs t a at me ax ht ok st =
      size-means (M env0 q q-apart bs) ms es (true_count_ex q l (d ∷ []) n is) (count_true R) ks a at (true-count-means l (d ∷ []) (vs ∷ []) n is js bs t ax ht ok st)
      ∙ ap (λ b. Some (truth b)) (sym asked)
    where
      R : List ℤ
      R = row (map code vs ∷ []) (grid_at env0 q q-apart t js)

      axis : codes_of e ≡ map code vs
      axis = ap (λ o. map code (list_or_none o)) me

      asked : canonical (repr ReprKind.Occurrence no_reprs) (sets ks e) (behind js (cells_of (t ∷ []))) ≡ set_attributes_hold ks (count_true R)
      asked =
          ap (λ a. (((every_cell (a ∷ []) (is_cell booleans) (grid_at env0 q q-apart t js) && true) && true) && true) && set_attributes_hold ks (count_true (row (a ∷ []) (grid_at env0 q q-apart t js)))) axis
          ∙ ap (λ b. (((b && true) && true) && true) && set_attributes_hold ks (count_true R)) ok
