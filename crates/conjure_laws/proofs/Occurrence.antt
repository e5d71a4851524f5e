-- Sets of atoms kept by which members occur: tables that fit the declarations are canonical, and a cell says whether its value is
-- in the set, also where values count as positions.
use Rattle.std.proofs.Common.{◌≡◌, refl, sym, ap, ◌∙◌, ℕ, zero, suc, ◌+◌, ◌*◌, Bool, true, false, ◌&&◌, ◌||◌, if◌then◌else◌, List, [], ◌∷◌, map, take, drop, length, ℤ, Option, Some, None, option_map, is_some, nat_le, suc-mul, arith}
use Rattle.std.proofs.lemmas.Bool.{eqb-true}
use Rattle.std.specs.List.{list_all, list_any}
use Rattle.ess_semantics.specs.declared.words.ReprKind.{ReprKind}
use Rattle.ess_semantics.specs.Lists.{and_then}
use Rattle.ess_semantics.specs.Values.{a_set, Value, number, truth, item, node, to_list, of_list, items_of, Values, cons, nil}
use Rattle.ess_semantics.specs.Order.{same, same_int, same_text}
use Rattle.ess_semantics.specs.Collections.{holds}
use Rattle.ess_semantics.specs.Trees.{Repr, repr, no_reprs}
use Rattle.ess_semantics.specs.Domains.{Attribute, Domain, booleans, integers, named, sets, member_list}
use Rattle.ess_semantics.specs.Membership.{member}
use Rattle.ess_semantics.specs.Tables.{Table, Tables, volume, chunk, item_in, cell_at, same_axes, is_filled, is_cell, code}
use Rattle.ess_semantics.specs.Cells.{Axes, cells_of, is_index, every_cell}
use Rattle.ess_semantics.specs.Layers.{codes_of, chosen}
use Rattle.ess_semantics.specs.Representations.{value_of_cells}
use Rattle.ess_semantics.specs.Declarations.{declarations}
use Rattle.ess_semantics.specs.CanonicalTest.{canonical}
use Rattle.ess_semantics.proofs.Tests.{and-left, and-right, both-ways, or-yes}
use Rattle.ess_semantics.proofs.Orders.{same_int-equal, same_int-itself, same-equal, same-itself, to_list-of_list}
use Rattle.ess_semantics.proofs.Texts.{same_text-equal}
use Rattle.ess_semantics.specs.Atoms.{IsAtom}
use Rattle.ess_semantics.proofs.MemberLists.{atom-listed}
use Rattle.ess_repr_laws.proofs.Chosen.{on, chosen-holds}
use Rattle.ess_repr_laws.proofs.AxesOfTables.{axes-differ}
use Rattle.conjure_laws.specs.Premises.{tables_are}
use Rattle.ess_semantics.specs.Positions.{with_positions, all_with_positions}
use Rattle.conjure_laws.proofs.NamedTables.{same_axes-equal, are-over}
use Rattle.ess_repr_laws.proofs.TablesWithin.{tables-within}
use Rattle.ess_repr_laws.proofs.CellsOfOccurrences.{set-member}

-- ---- items of filled tables, over any axes

take-length : (n m : ℕ) (xs : List ℤ) → length xs ≡ n + m → length (take n xs) ≡ n
take-length zero m xs e = refl
take-length (suc n) m [] e = let z : 0 ≡ suc n + m = e in absurd (omega arith)
take-length (suc n) m (x ∷ xs) e = let z : suc (length xs) ≡ suc n + m = e in let f : length xs ≡ n + m = omega arith in
    ap suc (take-length n m xs f)

drop-length : (n m : ℕ) (xs : List ℤ) → length xs ≡ n + m → length (drop n xs) ≡ m
drop-length zero m xs e = omega arith
drop-length (suc n) m [] e = let z : 0 ≡ suc n + m = e in absurd (omega arith)
drop-length (suc n) m (x ∷ xs) e = let z : suc (length xs) ≡ suc n + m = e in let f : length xs ≡ n + m = omega arith in
    drop-length n m xs f

more : (k v : ℕ) → suc k * v ≡ v + k * v
more k v = let x = suc-mul k v in omega arith

same_int-turned : (j k : ℤ) → same_int j k ≡ same_int k j
same_int-turned j k = both-ways (same_int j k) (same_int k j) (λ e. go j k (same_int-equal j k e))
    (λ e. go k j (same_int-equal k j e))
  where
    go : (a b : ℤ) → a ≡ b → same_int b a ≡ true
    go a b e = ap (λ z. same_int z a) (sym e) ∙ same_int-itself a

-- A filled table has a cell exactly at the index lists of its axes.
pub there-is : (as' : Axes) (xs : List ℤ) → length xs ≡ volume as' → (js : List ℤ) → is_some (item_in as' xs js) ≡ is_index as' js
there-is [] [] e js = cc
there-is [] (x ∷ []) e [] = refl
there-is [] (x ∷ []) e (j ∷ js) = refl
there-is [] (x ∷ y ∷ xs) e js = cc
there-is (a ∷ as') xs e [] = refl
there-is (a ∷ as') xs e (j ∷ js) = go (λ c h. there-is as' c h js) a xs e
  where
    go : ((c : List ℤ) → length c ≡ volume as' → is_some (item_in as' c js) ≡ is_index as' js) → (ks : List ℤ) (xs : List ℤ) →
        length xs ≡ length ks * volume as' →
        is_some (and_then (chunk ks (volume as') xs j) (λ c. item_in as' c js)) ≡ list_any (same_int j) ks && is_index as' js
    go ih [] xs e = refl
    go ih (k ∷ ks) xs e = step (same_int k j) refl (go ih ks (drop (volume as') xs)
        (drop-length (volume as') (length ks * volume as') xs (e ∙ more (length ks) (volume as'))))
      where
        step : (b : Bool) → same_int k j ≡ b → is_some (and_then (chunk ks (volume as') (drop (volume as') xs) j)
            (λ c. item_in as' c js)) ≡
            list_any (same_int j) ks && is_index as' js →
            is_some (and_then (if b then Some (take (volume as') xs) else chunk ks (volume as') (drop (volume as') xs) j)
            (λ c. item_in as' c js)) ≡ (same_int j k || list_any (same_int j) ks) && is_index as' js
        step true q r = ih (take (volume as') xs) (take-length (volume as') (length ks * volume as') xs
            (e ∙ more (length ks) (volume as')))
            ∙ ap (λ b. (b || list_any (same_int j) ks) && is_index as' js) (sym (same_int-turned j k ∙ q))
        step false q r = r ∙ ap (λ b. (b || list_any (same_int j) ks) && is_index as' js) (sym (same_int-turned j k ∙ q))

-- ---- values of one kind

-- A value of the atom's kind, member or not.
abbrev pub IsOf : Domain → Value → Type 0
IsOf booleans (truth b) = Unit {0}
IsOf (integers ss) (number n) = Unit {0}
IsOf (named t n) (item u k) = t ≡ u
IsOf _ _ = ⊥

-- A member with the code of such a value is this value.
of-one-kind : (d : Domain) → IsAtom d → (x w : Value) → member d x ≡ true → IsOf d w → code x ≡ code w → x ≡ w
of-one-kind booleans a (truth true) (truth true) m o e = refl
of-one-kind booleans a (truth false) (truth false) m o e = refl
of-one-kind booleans a (truth true) (truth false) m o e = cc
of-one-kind booleans a (truth false) (truth true) m o e = cc
of-one-kind (integers ss) a (number n) (number k) m o e = ap number e
of-one-kind (named t n) a (item u k) (item w j) m o e =
    let f : t ≡ u = same_text-equal t u (and-left (same_text t u) (nat_le 1 k)
    (and-left (same_text t u && nat_le 1 k) (nat_le k n) m)) in
    let g : k ≡ j = cc in cc
of-one-kind booleans a (truth b) (number n) m o e = absurd o
of-one-kind booleans a (truth b) (item t k) m o e = absurd o
of-one-kind booleans a (truth b) (node k xs) m o e = absurd o
of-one-kind booleans a (number n) w m o e = cc
of-one-kind booleans a (item t k) w m o e = cc
of-one-kind booleans a (node k xs) w m o e = cc
of-one-kind (integers ss) a (number n) (truth b) m o e = absurd o
of-one-kind (integers ss) a (number n) (item t k) m o e = absurd o
of-one-kind (integers ss) a (number n) (node k xs) m o e = absurd o
of-one-kind (integers ss) a (truth b) w m o e = cc
of-one-kind (integers ss) a (item t k) w m o e = cc
of-one-kind (integers ss) a (node k xs) w m o e = cc
of-one-kind (named t n) a (item u k) (number j) m o e = absurd o
of-one-kind (named t n) a (item u k) (truth b) m o e = absurd o
of-one-kind (named t n) a (item u k) (node j xs) m o e = absurd o
of-one-kind (named t n) a (number j) w m o e = cc
of-one-kind (named t n) a (truth b) w m o e = cc
of-one-kind (named t n) a (node j xs) w m o e = cc
of-one-kind _ a x w m o e = absurd a

-- Such values are one where they are one with positions.
same-positions : (d : Domain) → IsAtom d → (x w : Value) → member d x ≡ true → IsOf d w →
    same (with_positions x) (with_positions w) ≡ same x w
same-positions d a x w m o =
    both-ways (same (with_positions x) (with_positions w)) (same x w)
    (λ e. there (same-equal (with_positions x) (with_positions w) e))
    (λ e. ap (λ z. same (with_positions z) (with_positions w)) (same-equal x w e) ∙ same-itself (with_positions w))
  where
    code-with : (v : Value) → code (with_positions v) ≡ code v
    code-with (number n) = refl
    code-with (truth b) = refl
    code-with (item t k) = refl
    code-with (node k vs) = refl

    there : with_positions x ≡ with_positions w → same x w ≡ true
    there e =
        let c : code x ≡ code w = sym (code-with x) ∙ ap code e ∙ code-with w in
        ap (λ z. same z w) (of-one-kind d a x w m o c) ∙ same-itself w

-- So a list of members holds the same values with positions.
holds-positions : (d : Domain) → IsAtom d → (vs : Values) (w : Value) → list_all (member d) (to_list vs) ≡ true → IsOf d w →
    holds (to_list (all_with_positions vs)) (with_positions w) ≡ holds (to_list vs) w
holds-positions d a nil w m o = refl
holds-positions d a (cons x vs) w m o =
    ap (λ b. b || holds (to_list (all_with_positions vs)) (with_positions w))
    (same-positions d a x w (and-left (member d x) (list_all (member d) (to_list vs)) m) o)
    ∙ ap (λ b. same x w || b) (holds-positions d a vs w (and-right (member d x) (list_all (member d) (to_list vs)) m) o)

-- So does a set of members.
pub set-holds-positions : (d : Domain) → IsAtom d → (ks : List Attribute) (v w : Value) → member (sets ks d) v ≡ true → IsOf d w →
    holds (items_of (with_positions v)) (with_positions w) ≡ holds (items_of v) w
set-holds-positions d a ks v w m o =
    let s = set-member ks d v m in
    ap (λ z. holds (items_of (with_positions z)) (with_positions w)) s.1
    ∙ holds-positions d a (of_list s.0) w (ap (list_all (member d)) (to_list-of_list s.0) ∙ s.2.inside) o
    ∙ ap (λ z. holds (items_of z) w) (sym s.1)

-- ---- the representation

module _ (d : Domain) (atom : IsAtom d) (ks : List Attribute) where
  -- The representation.
  abbrev pub occ : Repr
  occ = repr ReprKind.Occurrence no_reprs

  abbrev ms : List Value
  ms = member_list d

  abbrev ax : Axes
  ax = codes_of d ∷ []

  -- Tables that fit the declarations are one row.
  pub record OneRow (ts : Tables) : Type 0 where
    pub t : Table
    pub is : ts ≡ t ∷ []
    pub axes : t.axes ≡ ax
    pub filled : length t.items ≡ volume t.axes
    pub bits : list_all (is_cell booleans) t.items ≡ true

  -- They are.
  pub one-row : (ts : Tables) → tables_are (declarations occ (sets ks d)) ts ≡ true → OneRow ts
  one-row [] h = cc
  one-row (t ∷ u ∷ ts) h = let z : false ≡ true = and-right (is_filled t && same_axes ax t.axes && list_all (is_cell booleans)
      t.items)
      false h in cc
  one-row (t ∷ []) h =
      let w = and-left (is_filled t && same_axes ax t.axes && list_all (is_cell booleans) t.items) true h in
      let u = and-left (is_filled t && same_axes ax t.axes) (list_all (is_cell booleans) t.items) w in
      record {
        t = t;
        is = refl;
        axes = sym (same_axes-equal ax t.axes (and-right (is_filled t) (same_axes ax t.axes) u));
        filled = eqb-true (length t.items) (volume t.axes) (and-left (is_filled t) (same_axes ax t.axes) u);
        bits = and-right (is_filled t && same_axes ax t.axes) (list_all (is_cell booleans) t.items) w;
      }

  -- The cell of a value of the atom's kind is true exactly where the value is in the set.
  pub occurrence-cell : (t : Table) (v w : Value) → OneRow (t ∷ []) → value_of_cells occ (sets ks d) (cells_of (t ∷ [])) ≡ Some v →
      IsOf d w → on (cell_at t (code w ∷ [])) ≡ holds (items_of v) w
  occurrence-cell t v w r e o = go (chosen ms (λ x. cell_at t (code x ∷ []))) refl e
    where
      one : r.t ≡ t
      one = let z : t ∷ [] ≡ r.t ∷ [] = r.is in cc

      indexed : is_some (cell_at t (code w ∷ [])) ≡ list_any (same_int (code w)) (codes_of d) && true
      indexed =
          let q : t.axes ≡ ax = ap (λ x. x.axes) (sym one) ∙ r.axes in
          let n : length t.items ≡ volume t.axes = ap (λ x. length x.items) (sym one) ∙ r.filled ∙ ap (λ x. volume x.axes) one in
          there-is t.axes t.items n (code w ∷ []) ∙ ap (λ as'. is_index as' (code w ∷ [])) q

      member-held : (xs : List Value) → list_all (member d) xs ≡ true → list_any (same_int (code w)) (map code xs) ≡ true →
          holds xs w ≡ true
      member-held [] a h = cc
      member-held (x ∷ xs) a h = at (same_int (code w) (code x)) refl h
          (member-held xs (and-right (member d x) (list_all (member d) xs) a))
        where
          at : (b : Bool) → same_int (code w) (code x) ≡ b → b || list_any (same_int (code w)) (map code xs) ≡ true →
              (list_any (same_int (code w)) (map code xs) ≡ true → holds xs w ≡ true) → same x w || holds xs w ≡ true
          at true q h k =
              let z : x ≡ w = of-one-kind d atom x w (and-left (member d x) (list_all (member d) xs) a) o
              (sym (same_int-equal (code w) (code x) q)) in
              ap (λ b. b || holds xs w) (ap (λ y. same y w) z ∙ same-itself w)
          at false q h k = ap (λ b. same x w || b) (k h) ∙ or-yes (same x w)

      go : (c : Option (List Value)) → chosen ms (λ x. cell_at t (code x ∷ [])) ≡ c →
          option_map (λ xs. node a_set (of_list xs)) c ≡ Some v → on (cell_at t (code w ∷ [])) ≡ holds (items_of v) w
      go None q e = cc
      go (Some ys) q e =
          let z : node a_set (of_list ys) ≡ v = cc in
          let h : holds ys w ≡ holds ms w && on (cell_at t (code w ∷ [])) = chosen-holds ms (λ x. cell_at t (code x ∷ [])) ys w q in
          at (holds ms w) refl ∙ sym h ∙ ap (λ l. holds l w) (sym (to_list-of_list ys)) ∙ ap (λ x. holds (items_of x) w) z
        where
          at : (b : Bool) → holds ms w ≡ b → on (cell_at t (code w ∷ [])) ≡ b && on (cell_at t (code w ∷ []))
          at true r = refl
          at false r = nothing (cell_at t (code w ∷ [])) refl
            where
              nothing : (p : Option ℤ) → cell_at t (code w ∷ []) ≡ p → on (cell_at t (code w ∷ [])) ≡ false
              nothing None s = ap on s
              nothing (Some n) s =
                  let i : list_any (same_int (code w)) (codes_of d) ≡ true =
                  and-left (list_any (same_int (code w)) (codes_of d)) true (sym indexed ∙ ap is_some s) in
                  let y : false ≡ true = sym r ∙ member-held ms (atom-listed d atom).members i in cc

-- Tables that fit the declarations of a set without attributes are canonical.
pub occurrence-structure : (d : Domain) → IsAtom d → (ts : Tables) →
    tables_are (declarations (repr ReprKind.Occurrence no_reprs) (sets [] d)) ts ≡ true →
    canonical (repr ReprKind.Occurrence no_reprs) (sets [] d) (cells_of ts) ≡ true
occurrence-structure d atom ts h =
    let r = one-row d atom [] ts h in
    let ds = declarations (repr ReprKind.Occurrence no_reprs) (sets [] d) in
    let c = tables-within ds (r.t ∷ []) (axes-differ (repr ReprKind.Occurrence no_reprs) (sets [] d) atom)
    (are-over ds (r.t ∷ []) (ap (tables_are ds) (sym r.is) ∙ h)) (r.axes, r.bits, tt) in
    let f : every_cell (codes_of d ∷ []) (is_cell booleans) (cell_at r.t) ≡ true =
    and-left (every_cell (codes_of d ∷ []) (is_cell booleans) (cell_at r.t)) true c in
    ap (λ l. canonical (repr ReprKind.Occurrence no_reprs) (sets [] d) (cells_of l)) r.is
    ∙ ap (λ b. b && true && true && true && true) f
