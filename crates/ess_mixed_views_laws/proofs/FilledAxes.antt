-- A table that is over its declared axes has a cell at each slot of these.
use Rattle.std.proofs.Common.{◌≡◌, refl, sym, ap, ◌∙◌, subst, ℕ, zero, suc, ◌+◌, ◌≤◌, Bool, true, false, ◌&&◌, ◌||◌, if◌then◌else◌, List, [], ◌∷◌, map, length, ◌⊎◌, inl, inr, ℤ, pos, negsuc, Option, Some, None, option_map, arith}
use Rattle.std.specs.Prelude.{is_some}
use Rattle.std.specs.List.{list_any}
use Rattle.std.proofs.lemmas.Bool.{eqb-true}
use Rattle.ess_semantics.specs.declared.words.Op2.{Op2}
use Rattle.ess_semantics.specs.Lists.{and_then, each_of, or_default, is_some_and}
use Rattle.ess_semantics.specs.Values.{Text, number}
use Rattle.ess_semantics.specs.Order.{same_text, same_int}
use Rattle.ess_semantics.specs.Names.{Names, look}
use Rattle.ess_semantics.specs.Numbers.{run_from}
use Rattle.ess_semantics.specs.Trees.{both_ends, binary, Ex, number_ex, no_exs, more_exs, Dom, int_dom, ex2}
use Rattle.ess_semantics.specs.Types.{int_ty}
use Rattle.ess_semantics.specs.Typing.{statics, type_of_node}
use Rattle.ess_semantics.specs.Tables.{Table, code, volume, same_axes, is_filled, cell_at}
use Rattle.ess_semantics.specs.Cells.{is_index}
use Rattle.ess_semantics.specs.DeclaredTables.{TableDecl, axis_members}
use Rattle.ess_semantics.specs.Meaning.{Env, domain_of}
use Rattle.ess_semantics.specs.ModelMeaning.{Kinded, kinded, kinded_node, as_bound, env_of_tables, declaration_of}
use Rattle.ess_semantics.specs.Satisfaction.{axis_of, over_declared, in_declared, table_fits, tables_fit}
use Rattle.ess_semantics.proofs.Tests.{and-left, and-right, and-both, or-yes, some-and}
use Rattle.ess_semantics.proofs.Orders.{same_int-itself}
use Rattle.ess_semantics.proofs.Texts.{same_text-equal}
use Rattle.ess_rules_laws.proofs.SlotNumbers.{slots-members}
use Rattle.ess_repr_laws.specs.StructureParts.{upto}
use Rattle.conjure_laws.proofs.NamedTables.{same_axes-equal}
use Rattle.conjure_laws.proofs.Occurrence.{there-is}
use Rattle.ess_mixed_models_laws.specs.ess_seen_laws.Filled.{AreSlots, no_slot, more_slots, HasCell}
use Rattle.ess_mixed_models_laws.proofs.ess_seen_laws.Counts.{counted-means}
use Rattle.ess_mixed_views_laws.proofs.AxisSizes.{SlotTerm, numeral_term, next_term, span_term, power_term, slot-counted, count_of, count-term, axis_size}

-- ---- numbers of a run

either-side : (a i : ℕ) → a ≤ i → (a ≡ i) ⊎ (suc a ≤ i)
either-side zero zero p = inl refl
either-side zero (suc i) p = inr (omega arith)
either-side (suc a) zero p = absurd (omega (arith, p))
either-side (suc a) (suc i) p = go (either-side a i (omega (arith, p)))
  where
    go : (a ≡ i) ⊎ (suc a ≤ i) → (suc a ≡ suc i) ⊎ (suc (suc a) ≤ suc i)
    go (inl e) = inl (ap suc e)
    go (inr l) = inr (omega (arith, l))

none-left : (a i : ℕ) → a ≤ i → suc i ≤ a + 0 → ⊥
none-left a i l h = omega (arith, l, h)

one-left : (a n i : ℕ) → suc i ≤ a + suc n → suc i ≤ suc a + n
one-left a n i h = omega (arith, h)

-- A number of a run is found in it.
in-run : (a n i : ℕ) → a ≤ i → suc i ≤ a + n → list_any (same_int (pos i)) (map code (map number (run_from a n))) ≡ true
in-run a zero i l h = absurd (none-left a i l h)
in-run a (suc n) i l h = go (either-side a i l) (λ p. in-run (suc a) n i p (one-left a n i h))
  where
    go : (a ≡ i) ⊎ (suc a ≤ i) → (suc a ≤ i → list_any (same_int (pos i)) (map code (map number (run_from (suc a) n))) ≡ true) →
        same_int (pos i) (pos a) || list_any (same_int (pos i)) (map code (map number (run_from (suc a) n))) ≡ true
    go (inl e) f =
        ap (λ b. b || list_any (same_int (pos i)) (map code (map number (run_from (suc a) n))))
        (ap (λ z. same_int (pos i) (pos z)) e ∙ same_int-itself (pos i))
    go (inr p) f = ap (λ b. same_int (pos i) (pos a) || b) (f p) ∙ or-yes (same_int (pos i) (pos a))

none-below : (i : ℕ) → 1 ≤ i → i ≤ 0 → ⊥
none-below i l h = omega (arith, l, h)

up-to-next : (i n : ℕ) → i ≤ n → suc i ≤ 1 + n
up-to-next i n h = omega (arith, h)

same-list : {A : Type 0} (x y : A) → Some x ≡ Some y → x ≡ y
same-list x y e = cc

no-list : {A : Type 0} {x : A} → None ≡ Some x → ⊥
no-list e = cc

module _ (ds : List TableDecl) (q : Names Table) where
  -- ---- axes

  -- The kinds of a power of 2.
  abbrev power_kinded : Kinded → Kinded
  power_kinded k = kinded_node (binary Op2.Pow) (more_exs (number_ex (pos 2)) (more_exs k.0 no_exs)) (int_ty ∷ k.1 ∷ [])
      (type_of_node (binary Op2.Pow) (statics (more_exs (number_ex (pos 2)) (more_exs k.0 no_exs))) (Some int_ty ∷ Some k.1 ∷ []))

  power-stays : {t : Ex} {n : ℕ} → SlotTerm t n → power_kinded (t, int_ty) ≡ (ex2 false Op2.Pow (number_ex (pos 2)) t, int_ty)
  power-stays numeral_term = refl
  power-stays next_term = refl
  power-stays (span_term e) = refl
  power-stays (power_term w) = refl

  -- A term of numerals is a number in a model, and stays as it is.
  term-kinded : {t : Ex} {n : ℕ} → SlotTerm t n → kinded ds t [] ≡ (t, int_ty)
  term-kinded numeral_term = refl
  term-kinded next_term = refl
  term-kinded (span_term e) = refl
  term-kinded (power_term w) = ap power_kinded (term-kinded w) ∙ power-stays w

  -- An axis that goes up to it has its slots.
  axis-run : {t : Ex} {n : ℕ} → SlotTerm t n → axis_of ds q (upto t) ≡ Some (map code (map number (run_from 1 n)))
  axis-run {t} {n} w =
      ap (λ k. axis_members (domain_of (int_dom (both_ends ∷ []) (more_exs (number_ex (pos 1)) (more_exs (as_bound k) no_exs)))
      (env_of_tables q))) (term-kinded w)
      ∙ ap (option_map (map code)) (slots-members t (env_of_tables q) n (counted-means (slot-counted w) (env_of_tables q)))

  -- The number of a slot is a member of the axis.
  axis-has : (a : Dom) (i : ℕ) (y : List ℤ) → 1 ≤ i → i ≤ axis_size a → axis_of ds q a ≡ Some y → list_any (same_int (pos i)) y ≡ true
  axis-has (int_dom (both_ends ∷ []) (more_exs (number_ex (pos (suc zero))) (more_exs t no_exs))) i y l h p = go (count_of t) refl h
    where
      go : (o : Option ℕ) → count_of t ≡ o → i ≤ or_default o 0 → list_any (same_int (pos i)) y ≡ true
      go None e h = absurd (none-below i l h)
      go (Some n) e h =
          subst (λ y. list_any (same_int (pos i)) y ≡ true)
          (same-list (map code (map number (run_from 1 n))) y (sym (axis-run (count-term t n e)) ∙ p)) (in-run 1 n i l (up-to-next i n h))
  axis-has a i y l h p = absurd (none-below i l h)

  -- Numbers of slots are indices.
  slots-index : (axes : List Dom) (as' : List (List ℤ)) (is : List ℤ) → each_of axes (axis_of ds q) ≡ Some as' →
      AreSlots (map axis_size axes) is → is_index as' is ≡ true
  slots-index [] as' [] e no_slot = ap (λ l. is_index l []) (sym (same-list [] as' e))
  slots-index [] as' (i ∷ is) e s = elim s [ ]
  slots-index (a ∷ axes) as' [] e s = elim s [ ]
  slots-index (a ∷ axes) as' (negsuc i ∷ is) e s = elim s [ ]
  slots-index (a ∷ axes) as' (pos i ∷ is) e (more_slots l h r) =
      go (axis_of ds q a) refl (each_of axes (axis_of ds q)) e (λ ys k. slots-index axes ys is k r)
    where
      go : (o : Option (List ℤ)) → axis_of ds q a ≡ o → (os : Option (List (List ℤ))) →
          and_then o (λ y. option_map (λ ys. y ∷ ys) os) ≡ Some as' → ((ys : List (List ℤ)) → os ≡ Some ys → is_index ys is ≡ true) →
          is_index as' (pos i ∷ is) ≡ true
      go None p os e f = absurd (no-list e)
      go (Some y) p None e f = absurd (no-list e)
      go (Some y) p (Some ys) e f =
          subst (λ l. is_index l (pos i ∷ is) ≡ true) (same-list (y ∷ ys) as' e)
          (and-both (list_any (same_int (pos i)) y) (is_index ys is) (axis-has a i y l h p) (f ys refl))

  -- ---- tables

  abbrev axes-are : Table → List (List ℤ) → Bool
  axes-are T as' = same_axes as' T.axes

  -- A table over its declared axes has a cell at the slots.
  pub cell-there : (t : TableDecl) (T : Table) (is : List ℤ) → over_declared ds q t T ≡ true → AreSlots (map axis_size t.axes) is →
      is_some (cell_at T is) ≡ true
  cell-there t T is h s =
      let o : Bool = is_some_and (each_of t.axes (axis_of ds q)) (axes-are T) in
      let w = some-and (each_of t.axes (axis_of ds q)) (axes-are T) (and-right (is_filled T) o h) in
      there-is T.axes T.items (eqb-true (length T.items) (volume T.axes) (and-left (is_filled T) o h)) is
      ∙ ap (λ l. is_index l is) (sym (same_axes-equal w.0 T.axes w.2)) ∙ slots-index t.axes w.0 is w.1 s

  -- The table of a declaration is over its axes.
  pub record TableOf (c : Names Table) (n : Text) (t : TableDecl) : Type 0 where
    pub table : Table
    pub found : look c n ≡ Some table
    pub over : over_declared ds q t table ≡ true

  -- Of tables that fit, each declared one has a table.
  pub table-of : (fs : List TableDecl) (c : Names Table) → tables_fit ds q fs c ≡ true → (n : Text) (t : TableDecl) →
      declaration_of fs n ≡ Some t → TableOf c n t
  table-of [] c h n t e = absurd (no-list e)
  table-of (f ∷ fs) [] h n t e = cc
  table-of (f ∷ fs) (b ∷ c) h n t e = go (same_text f.name n) refl e
      (λ k. table-of fs c (and-right (same_text f.name b.0 && table_fits ds q f b.1) (tables_fit ds q fs c) h) n t k)
    where
      one : same_text f.name b.0 && table_fits ds q f b.1 ≡ true
      one = and-left (same_text f.name b.0 && table_fits ds q f b.1) (tables_fit ds q fs c) h

      same : f.name ≡ b.0
      same = same_text-equal f.name b.0 (and-left (same_text f.name b.0) (table_fits ds q f b.1) one)

      fits-first : over_declared ds q f b.1 ≡ true
      fits-first = and-left (over_declared ds q f b.1) (in_declared ds q f b.1)
          (and-right (same_text f.name b.0) (table_fits ds q f b.1) one)

      look-first : (k : Bool) → same_text f.name n ≡ k → look (b ∷ c) n ≡ (if k then Some b.1 else look c n)
      look-first k z = ap (λ x. if x then Some b.1 else look c n) (ap (λ x. same_text x n) (sym same) ∙ z)

      go : (k : Bool) → same_text f.name n ≡ k → (if k then Some f else declaration_of fs n) ≡ Some t →
          (declaration_of fs n ≡ Some t → TableOf c n t) → TableOf (b ∷ c) n t
      go true z e r = record {
        table = b.1;
        found = look-first true z;
        over = subst (λ t. over_declared ds q t b.1 ≡ true) (same-list f t e) fits-first;
      }
      go false z e r = let w = r e in record { table = w.table; found = look-first false z ∙ w.found; over = w.over }

-- A cell that is there.
pub has-cell : (env : Env) (n : Text) (is : List ℤ) (T : Table) → look env.cells n ≡ Some T → is_some (cell_at T is) ≡ true →
    HasCell env n is
has-cell env n is T f h = go (cell_at T is) refl h
  where
    go : (o : Option ℤ) → cell_at T is ≡ o → is_some o ≡ true → HasCell env n is
    go None e h = cc
    go (Some z) e h = record { table = T; found = f; cell = z; there = e }
