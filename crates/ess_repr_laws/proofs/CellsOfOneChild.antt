-- A layer with one child: from what it does with slots in places.
use Rattle.std.proofs.Common.{◌≡◌, sym, ap, ◌∙◌, ℕ, ◌+◌, Bool, true, false, ◌&&◌, ◌||◌, not, List, [], ◌∷◌, ◌++◌, map, drop, length, ℤ, Option, Some, None, is_some, option_map, nat_eq, subst, append-nil, length-append, arith}
use Rattle.std.proofs.lemmas.Bool.{eq-eqb}
use Rattle.std.specs.List.{list_all}
use Rattle.ess_semantics.specs.declared.words.ReprKind.{ReprKind}
use Rattle.ess_semantics.specs.Lists.{and_then, each_of, is_some_and}
use Rattle.ess_semantics.specs.Values.{Value}
use Rattle.ess_semantics.specs.Trees.{Repr, Reprs, repr, no_reprs, more_reprs}
use Rattle.ess_semantics.specs.Domains.{Domain, lists_of}
use Rattle.ess_semantics.specs.Tables.{Tables}
use Rattle.ess_semantics.specs.Cells.{Cells, Axes, behind, cells_of, zero_cells, are_zero}
use Rattle.ess_semantics.specs.Layers.{OwnTable, Layer, Use, Slot}
use Rattle.ess_semantics.specs.Representations.{layer, width, own_width, own_part, child_part, is_used, places_by, value_of_cells, values_of_children}
use Rattle.ess_semantics.specs.Declarations.{axes_of, declared_own, declarations_of_children, leaves_out}
use Rattle.ess_semantics.specs.Canonical.{cells_or, arranged, canonical_layer, canonical_cells, canonical_children}
use Rattle.ess_semantics.specs.CanonicalTest.{own_cells_fit, in_use_first, slots_rise, child_is_canonical, children_are_canonical, canonical}
use Rattle.ess_semantics.proofs.Tests.{and-both}
use Rattle.ess_repr_laws.specs.CanonicalTables.{is_compound}
use Rattle.ess_repr_laws.proofs.RowsOfCells.{own_axes, axes_in, axes-of-layer}
use Rattle.ess_repr_laws.proofs.CanonicalParts.{asked_of, value_of_layer}
use Rattle.ess_repr_laws.proofs.CanonicalPlaces.{AllOf, all-of-map}
use Rattle.ess_repr_laws.proofs.TablesAndCells.{AxesDiffer}
use Rattle.ess_repr_laws.proofs.ExactCells.{AllExact, exact-length, exact-append}
use Rattle.ess_repr_laws.proofs.SideBySide.{Along, along-both, along-right, along-all}
use Rattle.ess_repr_laws.proofs.PlacedSlots.{SlotExact, placed, placed-exact, placed-behind, zeros-zero}
use Rattle.ess_repr_laws.proofs.CellsOfMembers.{InnerInside, ChildInside, unless, Good, HasCells, MembersHaveCells, Slots, drop-front, drop-whole, good-exact, map-long, picked, picked-values, take-front, take-whole, values_in}

-- ---- a layer with one child

module _ (k : ReprKind) (r : Repr) (d e : Domain) (own : List OwnTable) (bs : Axes) (u : Use) (sorted distinct : Bool) (ct : Value → List (Option Value)) (ot : Value → List (Option Slot) → Tables)
    (b : Cells → List (List Value) → Option Value) (ic : Cells → List (List Value) → Bool) (td : Cells → Bool) where
  -- The layer.
  abbrev pub one_child : Layer
  one_child = record {
    own = own;
    children = e ∷ [];
    axes = bs;
    in_use = u;
    is_sorted = sorted;
    is_distinct = distinct;
    contents = λ v. ct v ∷ [];
    own_tables = ot;
    built = b;
    is_canonical = ic;
    is_tidy = td;
  }

  abbrev rs : Reprs
  rs = more_reprs r no_reprs

  abbrev ass : List Axes
  ass = axes_of r e

  -- What the layer does with slots in their places.
  pub record Laid (v : Value) (ss : List (Option Slot)) : Type 0 where
    pub count : length (lists_of bs) ≡ length ss
    pub good : AllOf ss (Good r e)
    pub exact : AllExact (own_axes own) (cells_of (ot v ss))
    pub fit : own_cells_fit own (cells_of (ot v ss)) ≡ true
    pub used : Along (lists_of bs) ss (λ p s. is_used u (cells_of (ot v ss)) p ≡ is_some s)
    pub found : places_by u (cells_of (ot v ss)) (lists_of bs) ≡ Some (picked (lists_of bs) ss)
    pub first : in_use_first one_child (cells_of (ot v ss)) ≡ true
    pub rise : slots_rise one_child (cells_of (ot v ss)) ass (placed ass bs ss) ≡ true
    pub built : b (cells_of (ot v ss)) (values_in ss ∷ []) ≡ Some v
    pub asked : ic (cells_of (ot v ss)) (values_in ss ∷ []) ≡ true

  module _ (at : layer k d ≡ Some one_child) (ow : length own ≡ own_width k) where
    axes : axes_of (repr k rs) d ≡ own_axes own ++ (map (λ as'. bs ++ as') ass ++ [])
    axes =
        ap (λ o. axes_in (elim o [ None ↦ [] | Some l ↦ map (declared_own false) l.own ++ declarations_of_children (false || leaves_out l.in_use) rs l.children l.axes ])) at
        ∙ axes-of-layer one_child rs

    -- It has as many lists of axes as tables.
    pub layer-wide : length ass ≡ width r → length (axes_of (repr k rs) d) ≡ width (repr k rs)
    layer-wide w =
        ap length (axes ∙ ap (λ l. own_axes own ++ l) (append-nil (map (λ as'. bs ++ as') ass)))
        ∙ length-sum (own_axes own) (map (λ as'. bs ++ as') ass) (own_width k) (width r) (map-long (λ (t : OwnTable). t.axes) own ∙ ow) (map-long (λ as'. bs ++ as') ass ∙ w)
      where
        length-sum : {A : Type 0} (xs ys : List A) (n m : ℕ) → length xs ≡ n → length ys ≡ m → length (xs ++ ys) ≡ n + (m + 0)
        length-sum xs ys n m p q = let l = length-append xs ys in omega (arith, l)

    -- A member has canonical cells where the layer does what is asked with its slots in places.
    pub layer-cells : MembersHaveCells r e → AxesDiffer bs → (v : Value) (x : Slots r e (ct v)) → Laid v (arranged one_child ass x.slots) → HasCells (repr k rs) d v
    layer-cells child differ v x h = record { cells = whole; there = there; exact = exact; passes = passes; stands = stands; inner = known }
      where
        ss : List (Option Slot)
        ss = arranged one_child ass x.slots

        mine : Cells
        mine = cells_of (ot v ss)

        inner : Cells
        inner = placed ass bs ss

        whole : Cells
        whole = mine ++ (inner ++ [])

        known : InnerInside (repr k rs) d v
        known = unless (is_compound k) (subst (λ o. elim o as (λ o. Type 0) [ None ↦ Unit {0} | Some l ↦ ChildInside l.children (l.contents v) ]) (sym at) x.inside)

        there : canonical_cells (repr k rs) d v ≡ Some whole
        there =
            ap (λ o. and_then o (λ l. option_map (canonical_layer l v) (canonical_children rs l.children (l.contents v)))) at
            ∙ ap (λ o. option_map (canonical_layer one_child v) (and_then o (λ ss. option_map (λ cs. (ass, ss) ∷ cs) (Some [])))) x.there

        slots-exact : AllOf ss (SlotExact ass)
        slots-exact = all-of-map ss (Good r e) (SlotExact ass) (good-exact r e) h.good

        inner-exact : AllExact (map (λ as'. bs ++ as') ass) inner
        inner-exact = placed-exact ass bs ss h.count slots-exact

        exact : AllExact (axes_of (repr k rs) d) whole
        exact = subst (λ l. AllExact l whole) (sym axes) (exact-append (own_axes own) (map (λ as'. bs ++ as') ass ++ []) mine (inner ++ []) h.exact (exact-append (map (λ as'. bs ++ as') ass) [] inner [] inner-exact tt))

        mine-long : length mine ≡ own_width k
        mine-long = exact-length (own_axes own) mine h.exact ∙ map-long (λ (t : OwnTable). t.axes) own ∙ ow

        inner-long : length inner ≡ width r
        inner-long = exact-length (map (λ as'. bs ++ as') ass) inner inner-exact ∙ map-long (λ as'. bs ++ as') ass ∙ child.wide

        own-is : own_part k whole ≡ mine
        own-is = take-front (own_width k) mine (inner ++ []) mine-long

        child-is : child_part k whole ≡ inner
        child-is = drop-front (own_width k) mine (inner ++ []) mine-long ∙ append-nil inner

        placed-is : Along (lists_of bs) ss (λ p s. behind p inner ≡ cells_or (zero_cells ass) s)
        placed-is = placed-behind ass bs ss differ h.count slots-exact

        values : values_of_children rs (e ∷ []) inner (picked (lists_of bs) ss) ≡ Some (values_in ss ∷ [])
        values =
            ap (λ c. and_then (each_of (picked (lists_of bs) ss) (λ j. value_of_cells r e (behind j c))) (λ vs. Some (vs ∷ []))) (take-whole (width r) inner inner-long)
            ∙ ap (λ o. and_then o (λ vs. Some (vs ∷ []))) (picked-values r e (zero_cells ass) inner (lists_of bs) ss h.good placed-is)

        stands : value_of_cells (repr k rs) d whole ≡ Some v
        stands =
            ap (λ o. and_then o (λ l. value_of_layer l rs (own_part k whole) (child_part k whole))) at
            ∙ ap (λ c. value_of_layer one_child rs c (child_part k whole)) own-is ∙ ap (value_of_layer one_child rs mine) child-is
            ∙ ap (λ o. and_then o (λ js. and_then (values_of_children rs (e ∷ []) inner js) (b mine))) h.found
            ∙ ap (λ o. and_then o (b mine)) values ∙ h.built

        inside : list_all (λ js. not (is_used u mine js) || canonical r e (behind js inner)) (lists_of bs) ≡ true
        inside =
            along-all (λ js. not (is_used u mine js) || canonical r e (behind js inner)) (lists_of bs) ss
            (along-both (lists_of bs) ss (λ p s. is_used u mine p ≡ is_some s) (λ p s. Good r e s × (behind p inner ≡ cells_or (zero_cells ass) s)) (λ p s. not (is_used u mine p) || canonical r e (behind p inner) ≡ true)
            (λ p s a q. go p s a q.0 q.1) h.used
            (along-right (lists_of bs) ss (Good r e) (λ p s. behind p inner ≡ cells_or (zero_cells ass) s) (λ p s. Good r e s × (behind p inner ≡ cells_or (zero_cells ass) s)) (λ p s x y. (x, y)) h.good placed-is))
          where
            go : (p : List ℤ) (s : Option Slot) → is_used u mine p ≡ is_some s → Good r e s → behind p inner ≡ cells_or (zero_cells ass) s → not (is_used u mine p) || canonical r e (behind p inner) ≡ true
            go p None a g q = ap (λ b. not b || canonical r e (behind p inner)) a
            go p (Some s) a g q = ap (λ b. not b || canonical r e (behind p inner)) a ∙ ap (canonical r e) q ∙ g.1

        outside : list_all (λ js. is_used u mine js || are_zero ass (behind js inner)) (lists_of bs) ≡ true
        outside =
            along-all (λ js. is_used u mine js || are_zero ass (behind js inner)) (lists_of bs) ss
            (along-both (lists_of bs) ss (λ p s. is_used u mine p ≡ is_some s) (λ p s. behind p inner ≡ cells_or (zero_cells ass) s) (λ p s. is_used u mine p || are_zero ass (behind p inner) ≡ true) go h.used placed-is)
          where
            go : (p : List ℤ) (s : Option Slot) → is_used u mine p ≡ is_some s → behind p inner ≡ cells_or (zero_cells ass) s → is_used u mine p || are_zero ass (behind p inner) ≡ true
            go p None a q = ap (λ b. b || are_zero ass (behind p inner)) a ∙ ap (are_zero ass) q ∙ zeros-zero ass
            go p (Some s) a q = ap (λ b. b || are_zero ass (behind p inner)) a

        child-asked : child_is_canonical one_child mine ass (canonical r e) inner ≡ true
        child-asked =
            and-both (nat_eq (length inner) (length ass) && list_all (λ js. not (is_used u mine js) || canonical r e (behind js inner)) (lists_of bs) && slots_rise one_child mine ass inner) (list_all (λ js. is_used u mine js || are_zero ass (behind js inner)) (lists_of bs))
            (and-both (nat_eq (length inner) (length ass) && list_all (λ js. not (is_used u mine js) || canonical r e (behind js inner)) (lists_of bs)) (slots_rise one_child mine ass inner)
            (and-both (nat_eq (length inner) (length ass)) (list_all (λ js. not (is_used u mine js) || canonical r e (behind js inner)) (lists_of bs)) (eq-eqb (length inner) (length ass) (inner-long ∙ sym child.wide)) inside) h.rise) outside

        children-asked : children_are_canonical one_child mine rs (e ∷ []) inner ≡ true
        children-asked =
            ap (λ c. child_is_canonical one_child mine ass (canonical r e) c && children_are_canonical one_child mine no_reprs [] (drop (width r) inner)) (take-whole (width r) inner inner-long)
            ∙ ap (λ c. child_is_canonical one_child mine ass (canonical r e) inner && children_are_canonical one_child mine no_reprs [] c) (drop-whole (width r) inner inner-long)
            ∙ ap (λ b. b && true) child-asked

        asked : asked_of one_child rs mine inner ≡ true
        asked =
            and-both (own_cells_fit own mine && in_use_first one_child mine && children_are_canonical one_child mine rs (e ∷ []) inner) (is_some_and (and_then (places_by u mine (lists_of bs)) (values_of_children rs (e ∷ []) inner)) (ic mine))
            (and-both (own_cells_fit own mine && in_use_first one_child mine) (children_are_canonical one_child mine rs (e ∷ []) inner) (and-both (own_cells_fit own mine) (in_use_first one_child mine) h.fit h.first) children-asked)
            (ap (λ o. is_some_and (and_then o (values_of_children rs (e ∷ []) inner)) (ic mine)) h.found ∙ ap (λ o. is_some_and o (ic mine)) values ∙ h.asked)

        passes : canonical (repr k rs) d whole ≡ true
        passes =
            ap (λ o. is_some_and o (λ l. asked_of l rs (own_part k whole) (child_part k whole))) at
            ∙ ap (λ c. asked_of one_child rs c (child_part k whole)) own-is ∙ ap (asked_of one_child rs mine) child-is ∙ asked
