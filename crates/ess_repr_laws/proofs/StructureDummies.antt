-- The structure constraint of a set in slots of which the dummy stands for no member.
use Rattle.std.proofs.Common.{◌≡◌, refl, sym, ap, ◌∙◌, ℕ, suc, ◌+◌, ◌≤◌, ◌<◌, Bool, true, false, ◌&&◌, ◌||◌, not, if◌then◌else◌, List, [], ◌∷◌, ◌++◌, map, filter, length, ℤ, pos, ◌+ℤ◌, Option, Some, None, option_map, int_le, int_lt, arith}
use Rattle.std.specs.List.{list_all}
use Rattle.std.specs.Ordering.{is_lt, int_cmp}
use Rattle.ess_semantics.specs.declared.words.Fun.{Fun}
use Rattle.ess_semantics.specs.declared.words.Op1.{Op1}
use Rattle.ess_semantics.specs.declared.words.Op2.{Op2}
use Rattle.ess_semantics.specs.declared.words.ReprKind.{ReprKind}
use Rattle.ess_semantics.specs.Lists.{is_some_and}
use Rattle.ess_semantics.specs.Values.{Text, Value, number, truth}
use Rattle.ess_semantics.specs.Order.{same_int, same_text}
use Rattle.ess_semantics.specs.Names.{look}
use Rattle.ess_semantics.specs.Numbers.{one_to}
use Rattle.ess_semantics.specs.Operators.{list_value, sum_of, false_where_undefined, value_of_node}
use Rattle.ess_semantics.specs.Trees.{word, Mark, Repr, repr, no_reprs, Ex, Exs, name_ex, cell_ex, Dom, set_dom, ex1, ex2, fun1}
use Rattle.ess_semantics.specs.Domains.{Attribute, Domain, integers, named, sets, lists_of}
use Rattle.ess_semantics.specs.Attributes.{set_attributes_hold}
use Rattle.ess_semantics.specs.Sizes.{slots_of_set}
use Rattle.ess_semantics.specs.Tables.{Table, Tables, cell_at, is_cell}
use Rattle.ess_semantics.specs.Membership.{in_span}
use Rattle.ess_semantics.specs.Representations.{slot_number}
use Rattle.ess_repr_laws.proofs.Arguments.{cell-index, index-places}
use Rattle.ess_semantics.specs.Cells.{Grid, behind, cells_of, every_cell}
use Rattle.ess_semantics.specs.Layers.{as_cell, as_numbers}
use Rattle.ess_semantics.specs.SetLayers.{dummy_of, with_number, holds_member, slot_below, dummies_rise, members_held}
use Rattle.ess_semantics.specs.Declarations.{Declaration, widened, declarations_below}
use Rattle.ess_semantics.specs.CanonicalTest.{canonical}
use Rattle.ess_semantics.specs.Meaning.{Env, is_bool_dom, cell_value, meaning}
use Rattle.ess_semantics.proofs.Connectives.{and-means, or-means, not-means, binary-means}
use Rattle.ess_semantics.proofs.Orders.{same_int-equal, same_int-itself, to_list-of_list}
use Rattle.ess_semantics.proofs.Tests.{all-run, both-ways, and-left, and-right}
use Rattle.ess_repr_laws.specs.Rooms.{HasDummy}
use Rattle.ess_repr_laws.specs.StructureParts.{Terms, add_ex, and_ex, or_ex, upto, next_ex, first_name, own_shape, each_ex, each_pair, size_ex, dummy_ex, member_count_ex}
use Rattle.ess_repr_laws.specs.StructureMeaning.{Number, Bound, M, Placed, slot_numbers, fit, Attributes, SlotsAre, AtomReady}
use Rattle.ess_repr_laws.proofs.CanonicalPlaces.{AllOf, all-of-map}
use Rattle.ess_repr_laws.proofs.Dummies.{both-sides}
use Rattle.ess_repr_laws.proofs.ExactCells.{none-of}
use Rattle.ess_repr_laws.proofs.SlotsUsed.{as_place, slots-are}
use Rattle.ess_repr_laws.proofs.StructureFits.{Fit, first-fit}
use Rattle.ess_repr_laws.proofs.StructureFlags.{no-more-slots}
use Rattle.ess_repr_laws.proofs.StructureMultisets.{cells-there}
use Rattle.ess_repr_laws.proofs.StructureNumbers.{size-means}
use Rattle.ess_repr_laws.proofs.StructureOf.{StructureOf, own-found}
use Rattle.ess_repr_laws.proofs.StructurePlaces.{MeansAt, ValueAt, each-means, places-run}
use Rattle.ess_repr_laws.proofs.StructureRows.{Steady, There, codes, grid_at}
use Rattle.ess_repr_laws.proofs.StructureSlots.{each-pair-means}
use Rattle.ess_repr_laws.proofs.StructureSlotted.{slots-same}
use Rattle.ess_repr_laws.proofs.StructureUse.{cell-means, here-index, next-steady, places-numbers, slots-axis}

-- ---- the domain with the dummy

one-number : (m z : ℤ) → int_le m z && int_le z m ≡ same_int m z
one-number m z = both-ways (int_le m z && int_le z m) (same_int m z) (λ h. equal (both-sides m z (and-left (int_le m z) (int_le z m) h) (and-right (int_le m z) (int_le z m) h))) (λ h. back (same_int-equal m z h))
  where
    equal : m ≡ z → same_int m z ≡ true
    equal e = ap (λ x. same_int m x) (sym e) ∙ same_int-itself m

    self : (x : ℤ) → int_le x x && int_le x x ≡ true
    self x = grind (arith)

    back : m ≡ z → int_le m z && int_le z m ≡ true
    back e = ap (λ x. int_le m x && int_le x m) (sym e) ∙ self m

or-shape : (a b c : Bool) → b ≡ c → a || (b || false) ≡ (a || false) || c
or-shape true b c e = refl
or-shape false true c e = e
or-shape false false c e = e

-- A cell is one of a member, or the dummy.
dummy-cell : (e : Domain) → HasDummy e → (m z : ℤ) → is_cell (with_number (Some m) (as_numbers e)) z ≡ is_cell (as_cell e) z || same_int m z
dummy-cell (integers (s ∷ [])) h m z = or-shape (in_span z s) (int_le m z && int_le z m) (same_int m z) (one-number m z)
dummy-cell (named t n) h m z = or-shape (in_span z (record { low = Some (pos 1); high = Some (pos n) })) (int_le m z && int_le z m) (same_int m z) (one-number m z)
dummy-cell (integers []) h m z = absurd h
dummy-cell (integers (s ∷ r ∷ ss)) h m z = absurd h
dummy-cell _ h m z = absurd h

less-int : (a b : ℤ) → is_lt (int_cmp a b) ≡ int_lt a b
less-int a b = grind arith

sum-held : (H : ℤ → Bool) (ks : List ℤ) → sum_of (map (λ p. number (pos (if H (slot_number p) then 1 else 0))) (map as_place ks)) ≡ pos (length (filter H ks))
sum-held H [] = refl
sum-held H (k ∷ ks) = ap (λ z. pos (if H k then 1 else 0) +ℤ z) (sum-held H ks) ∙ go (H k)
  where
    go : (b : Bool) → pos (if b then 1 else 0) +ℤ pos (length (filter H ks)) ≡ pos (length (if b then k ∷ filter H ks else filter H ks))
    go true = ap pos (let e : 1 + length (filter H ks) ≡ suc (length (filter H ks)) = omega arith in e)
    go false = ap pos (let e : 0 + length (filter H ks) ≡ length (filter H ks) = omega arith in e)

module _ (env0 : Env) (q : ℕ → Text) (q-apart : (m l : ℕ) → l < m → same_text (q m) (q l) ≡ false) (terms : Terms)
    (ms : List Mark) (es : Exs) (d : Dom) (ks : List Attribute) (e : Domain) (hd : HasDummy e) (nb : is_bool_dom d ≡ false) (ar : AtomReady env0 q q-apart terms d e)
    (m : ℤ) (is-m : dummy_of e ≡ Some m) (dm : (bs : Bound env0 q q-apart) → Number (terms.dummy d) (M env0 q q-apart bs) m)
    (at : Attributes env0 q q-apart terms ms es ks) (sl : SlotsAre env0 q q-apart terms (set_dom ms es d) (slots_of_set ks e)) where
  abbrev S : ℕ
  S = slots_of_set ks e

  abbrev size : Ex
  size = terms.slots (set_dom ms es d)

  abbrev kind : Repr
  kind = repr ReprKind.ExplicitVarSizeWithDummy no_reprs

  abbrev with_dummy : Domain
  with_dummy = with_number (dummy_of e) (as_numbers e)

  abbrev declared : Bool → Declaration
  declared out = record { axes = one_to S ∷ []; cell = if (if out then true else false) then widened with_dummy else with_dummy }

  record Cells (t : Table) (i : List ℤ) : Type 0 where
    there : every_cell (one_to S ∷ []) (λ z. true) (grid_at env0 q q-apart t i) ≡ true
    ends : cell_at t (i ++ (pos (S + 1) ∷ [])) ≡ None

  cells-fit : (out : Bool) (t : Table) (i : List ℤ) → Fit (declarations_below out kind (sets ks e)) (behind i (cells_of (t ∷ []))) → Cells t i
  cells-fit out t i c =
      let f = first-fit (declared out) [] (grid_at env0 q q-apart t i) [] c in
      record {
        there = cells-there (one_to S ∷ []) (is_cell (if (if out then true else false) then widened with_dummy else with_dummy)) (grid_at env0 q q-apart t i) f.inside;
        ends = none-of (cell_at t (i ++ (pos (S + 1) ∷ []))) (f.exact (pos (S + 1) ∷ []) ∙ no-more-slots S);
      }

  there : (out : Bool) (ns : List Text) (ts : Tables) (i : List ℤ) → Placed env0 q q-apart (own_shape ns false (upto size ∷ []) ∷ []) (slot_numbers S ∷ []) ts →
      Fit (declarations_below out kind (sets ks e)) (behind i (cells_of ts)) → There env0 q q-apart (own_shape ns false (upto size ∷ []) ∷ []) (slot_numbers S ∷ []) ts i
  there out ns (t ∷ []) i p c = let f = cells-fit out t i c in (ap (λ a. every_cell a (λ z. true) (grid_at env0 q q-apart t i)) (slots-same env0 q q-apart S) ∙ f.there, tt)
  there out ns [] i p c = absurd p
  there out ns (t ∷ u ∷ ts) i p c = absurd p.2

  module _ (n : Text) (t : Table) (l : ℕ) (is : Exs) (i : List ℤ) (bs : Bound env0 q q-apart) (ht : look env0.cells n ≡ Some t) (c : Cells t i) (st : Steady env0 q q-apart l is i bs) where
    abbrev here : Ex
    here = cell_ex false n (add_ex is (name_ex (q l)))

    abbrev next : Ex
    next = cell_ex false n (add_ex is (next_ex q l))

    abbrev f : Grid
    f = grid_at env0 q q-apart t i

    all-there : AllOf (lists_of (codes env0 q q-apart (slot_numbers S))) (λ js. is_some_and (f js) (λ z. true) ≡ true)
    all-there = index-places (codes env0 q q-apart (slot_numbers S)) (λ js. is_some_and (f js) (λ z. true) ≡ true)
        (cell-index (codes env0 q q-apart (slot_numbers S)) (λ z. true) f (ap (λ a. every_cell a (λ z. true) f) (slots-same env0 q q-apart S) ∙ c.there))

    -- the dummy is a cell's number
    equal-at : (cs : Bound env0 q q-apart) (x : Ex) (z : ℤ) → Number x (M env0 q q-apart cs) z → meaning (ex2 true Op2.Eq (terms.dummy d) x) (M env0 q q-apart cs) ≡ Some (truth (same_int m z))
    equal-at cs x z h = binary-means (M env0 q q-apart cs) true Op2.Eq (terms.dummy d) x (number m) (number z) (dm cs) h

    member-at : (js : List ℤ) → is_some_and (f js) (λ z. true) ≡ true → MeansAt env0 q q-apart (suc l) (add_ex is (name_ex (q l))) (or_ex (terms.atom d here) (ex2 true Op2.Eq (terms.dummy d) here)) (i ++ js) (is_some_and (f js) (is_cell with_dummy))
    member-at js h cs s = go (f js) refl h
      where
        go : (o : Option ℤ) → f js ≡ o → is_some_and o (λ z. true) ≡ true → meaning (or_ex (terms.atom d here) (ex2 true Op2.Eq (terms.dummy d) here)) (M env0 q q-apart cs) ≡ Some (truth (is_some_and (f js) (is_cell with_dummy)))
        go None x h = cc
        go (Some z) x h =
            let w = cell-means env0 q q-apart false n t (add_ex is (name_ex (q l))) (i ++ js) cs z ht (s [] tt) x in
            or-means (M env0 q q-apart cs) (terms.atom d here) (ex2 true Op2.Eq (terms.dummy d) here) (is_cell (as_cell e) z) (same_int m z)
            (ar here cs z (ap (λ b. fit b z) nb) (w ∙ ap (λ b. Some (cell_value b z)) (sym nb))) (equal-at cs here z w)
            ∙ ap (λ b. Some (truth b)) (sym (dummy-cell e hd m z) ∙ ap (λ o. is_cell (with_number o (as_numbers e)) z) (sym is-m) ∙ ap (λ o. is_some_and o (is_cell with_dummy)) (sym x))

    cells-mean : meaning (each_ex q l (upto size ∷ []) (or_ex (terms.atom d here) (ex2 true Op2.Eq (terms.dummy d) here))) (M env0 q q-apart bs) ≡ Some (truth (every_cell (one_to S ∷ []) (is_cell with_dummy) f))
    cells-mean =
        each-means env0 q q-apart l (upto size ∷ []) (slot_numbers S) is i bs (or_ex (terms.atom d here) (ex2 true Op2.Eq (terms.dummy d) here)) (λ js. is_some_and (f js) (is_cell with_dummy)) (slots-axis env0 q q-apart size S sl) st
        (all-of-map (lists_of (codes env0 q q-apart (slot_numbers S))) (λ js. is_some_and (f js) (λ z. true) ≡ true) _ (λ js h. member-at js h) all-there)
        ∙ ap (λ a. Some (truth (list_all (λ js. is_some_and (f js) (is_cell with_dummy)) (lists_of a)))) (slots-same env0 q q-apart S)
        ∙ ap (λ b. Some (truth b)) (places-numbers S (λ js. is_some_and (f js) (is_cell with_dummy)))

    slot-there : (k : ℕ) → 1 ≤ k → k ≤ S → is_some_and (f (pos k ∷ [])) (λ z. true) ≡ true
    slot-there k x y = all-run (λ k. is_some_and (f (k ∷ [])) (λ z. true)) 1 S k c.there x (omega arith)

    abbrev U : ℤ → Bool
    U k = holds_member m f k

    abbrev X : ℤ → Bool
    X k = slot_below f k (k +ℤ pos 1)

    rise-at : (k : ℕ) → 1 ≤ k → k + 1 ≤ S → meaning (or_ex (ex2 true Op2.Eq (terms.dummy d) next) (ex2 true Op2.Lt here next)) (M env0 q q-apart ((l, number (pos k)) ∷ bs)) ≡ Some (truth (not (U (pos (k + 1))) || X (pos k)))
    rise-at k x y = go (f (pos k ∷ [])) (f (pos (k + 1) ∷ [])) refl refl (slot-there k x (omega arith)) (slot-there (k + 1) (omega arith) y)
      where
        E : Env
        E = M env0 q q-apart ((l, number (pos k)) ∷ bs)

        bools : (a b b' : Bool) → b ≡ b' → a || b ≡ not (not a) || b'
        bools true b b' e = refl
        bools false b b' e = e

        go : (o p : Option ℤ) → f (pos k ∷ []) ≡ o → f (pos (k + 1) ∷ []) ≡ p → is_some_and o (λ z. true) ≡ true → is_some_and p (λ z. true) ≡ true →
            meaning (or_ex (ex2 true Op2.Eq (terms.dummy d) next) (ex2 true Op2.Lt here next)) (M env0 q q-apart ((l, number (pos k)) ∷ bs)) ≡ Some (truth (not (U (pos (k + 1))) || X (pos k)))
        go None p u v g h = cc
        go (Some z) None u v g h = cc
        go (Some z) (Some w) u v g h =
            let a = cell-means env0 q q-apart false n t (add_ex is (name_ex (q l))) (i ++ (pos k ∷ [])) ((l, number (pos k)) ∷ bs) z ht (here-index env0 q q-apart l (pos k) is i bs st) u in
            let b = cell-means env0 q q-apart false n t (add_ex is (next_ex q l)) (i ++ (pos (k + 1) ∷ [])) ((l, number (pos k)) ∷ bs) w ht (next-steady env0 q q-apart l (pos k) is i bs st [] tt) v in
            or-means E (ex2 true Op2.Eq (terms.dummy d) next) (ex2 true Op2.Lt here next) (same_int m w) (is_lt (int_cmp z w)) (equal-at ((l, number (pos k)) ∷ bs) next w b)
            (binary-means E true Op2.Lt here next (number z) (number w) a b)
            ∙ ap (λ s. Some (truth s)) (bools (same_int m w) (is_lt (int_cmp z w)) (int_lt z w) (less-int z w)
            ∙ ap (λ o. not (is_some_and o (λ n. not (same_int m n))) || is_some_and (Some z) (λ a. is_some_and o (int_lt a))) (sym v)
            ∙ ap (λ o. not (is_some_and (f (pos (k + 1) ∷ [])) (λ n. not (same_int m n))) || is_some_and o (λ a. is_some_and (f (pos (k + 1) ∷ [])) (int_lt a))) (sym u))

    rise-mean : meaning (each_pair q l size (or_ex (ex2 true Op2.Eq (terms.dummy d) next) (ex2 true Op2.Lt here next))) (M env0 q q-apart bs) ≡ Some (truth (dummies_rise S m f))
    rise-mean =
        each-pair-means env0 q q-apart l size (or_ex (ex2 true Op2.Eq (terms.dummy d) next) (ex2 true Op2.Lt here next)) S (λ k. not (U (k +ℤ pos 1)) || X k) bs (sl bs)
        (ap (λ b. not b || X (pos S)) (ap (λ o. is_some_and o (λ n. not (same_int m n))) c.ends)) rise-at

    held-at : (js : List ℤ) → is_some_and (f js) (λ z. true) ≡ true →
        ValueAt env0 q q-apart (suc l) (add_ex is (name_ex (q l))) (fun1 false Fun.ToInt (ex1 true Op1.Not (ex2 true Op2.Eq (terms.dummy d) here))) (i ++ js) (number (pos (if is_some_and (f js) (λ n. not (same_int m n)) then 1 else 0)))
    held-at js h cs s = go (f js) refl h
      where
        go : (o : Option ℤ) → f js ≡ o → is_some_and o (λ z. true) ≡ true →
            meaning (fun1 false Fun.ToInt (ex1 true Op1.Not (ex2 true Op2.Eq (terms.dummy d) here))) (M env0 q q-apart cs) ≡ Some (number (pos (if is_some_and (f js) (λ n. not (same_int m n)) then 1 else 0)))
        go None x h = cc
        go (Some z) x h =
            let w = cell-means env0 q q-apart false n t (add_ex is (name_ex (q l))) (i ++ js) cs z ht (s [] tt) x in
            ap (λ o. false_where_undefined false (value_of_node (word Fun.ToInt) (o ∷ []))) (not-means (M env0 q q-apart cs) (ex2 true Op2.Eq (terms.dummy d) here) (same_int m z) (equal-at cs here z w))
            ∙ ap (λ o. Some (number (pos (if is_some_and o (λ n. not (same_int m n)) then 1 else 0)))) (sym x)

    count-mean : Number (member_count_ex q l size (terms.dummy d) n is) (M env0 q q-apart bs) (pos (members_held S m f))
    count-mean =
        ap (λ o. false_where_undefined false (value_of_node (word Fun.Sum) (option_map list_value o ∷ [])))
        (places-run env0 q q-apart l (upto size ∷ []) (slot_numbers S) is i bs (fun1 false Fun.ToInt (ex1 true Op1.Not (ex2 true Op2.Eq (terms.dummy d) here))) V (slots-axis env0 q q-apart size S sl) st
        (all-of-map (lists_of (codes env0 q q-apart (slot_numbers S))) (λ js. is_some_and (f js) (λ z. true) ≡ true) _ (λ js h. held-at js h) all-there))
        ∙ ap (λ l. Some (number (sum_of l))) (to_list-of_list (map V (lists_of (codes env0 q q-apart (slot_numbers S)))))
        ∙ ap (λ a. Some (number (sum_of (map V (lists_of a))))) (slots-same env0 q q-apart S) ∙ ap (λ ps. Some (number (sum_of (map V ps)))) (slots-are (one_to S))
        ∙ ap (λ vs. Some (number (sum_of vs))) (by-number (one_to S)) ∙ ap (λ z. Some (number z)) (sum-held U (one_to S))
      where
        V : List ℤ → Value
        V js = number (pos (if is_some_and (f js) (λ n. not (same_int m n)) then 1 else 0))

        by-number : (ks : List ℤ) → map V (map as_place ks) ≡ map (λ p. number (pos (if holds_member m f (slot_number p) then 1 else 0))) (map as_place ks)
        by-number [] = refl
        by-number (k ∷ ks) = ap (λ vs. V (k ∷ []) ∷ vs) (by-number ks)

    dummies-mean : meaning (dummy_ex q l ms es size (terms.dummy d) (terms.atom d) n is) (M env0 q q-apart bs) ≡ Some (truth (canonical kind (sets ks e) (f ∷ [])))
    dummies-mean =
        let z = at bs in
        and-means (M env0 q q-apart bs) (and_ex member_part rise_part) (size_ex ms es (member_count_ex q l size (terms.dummy d) n is)) (every_cell (one_to S ∷ []) (is_cell with_dummy) f && dummies_rise S m f) (set_attributes_hold ks (members_held S m f))
        (and-means (M env0 q q-apart bs) member_part rise_part (every_cell (one_to S ∷ []) (is_cell with_dummy) f) (dummies_rise S m f) cells-mean rise-mean)
        (size-means (M env0 q q-apart bs) ms es (member_count_ex q l size (terms.dummy d) n is) (members_held S m f) ks z.0 z.1 count-mean)
        ∙ ap (λ b. Some (truth b))
        (arrange (every_cell (one_to S ∷ []) (is_cell with_dummy) f) (dummies_rise S m f) (set_attributes_hold ks (members_held S m f))
        ∙ ap (λ o. (((every_cell (one_to S ∷ []) (is_cell with_dummy) f && true) && true) && true) && is_some_and o (λ m. dummies_rise S m f && set_attributes_hold ks (members_held S m f))) (sym is-m))
      where
        member_part : Ex
        member_part = each_ex q l (upto size ∷ []) (or_ex (terms.atom d here) (ex2 true Op2.Eq (terms.dummy d) here))

        rise_part : Ex
        rise_part = each_pair q l size (or_ex (ex2 true Op2.Eq (terms.dummy d) next) (ex2 true Op2.Lt here next))

        arrange : (a b c : Bool) → (a && b) && c ≡ (((a && true) && true) && true) && (b && c)
        arrange true b c = refl
        arrange false b c = refl

  means : (out : Bool) (ns : List Text) (ts : Tables) (l : ℕ) (is : Exs) (i : List ℤ) (bs : Bound env0 q q-apart) → Placed env0 q q-apart (own_shape ns false (upto size ∷ []) ∷ []) (slot_numbers S ∷ []) ts →
      Fit (declarations_below out kind (sets ks e)) (behind i (cells_of ts)) → Steady env0 q q-apart l is i bs →
      meaning (dummy_ex q l ms es size (terms.dummy d) (terms.atom d) (first_name ns) is) (M env0 q q-apart bs) ≡ Some (truth (canonical kind (sets ks e) (behind i (cells_of ts))))
  means out ns (t ∷ []) l is i bs p c st = dummies-mean (first_name ns) t l is i bs p.0 (cells-fit out t i c) st
  means out ns [] l is i bs p c st = absurd p
  means out ns (t ∷ u ∷ ts) l is i bs p c st = absurd p.2

  -- The structure constraint of a set in slots with a dummy means that its cells are canonical.
  pub dummy-structure : StructureOf env0 q q-apart terms kind (set_dom ms es d) (sets ks e)
  dummy-structure = record {
    covered = hd;
    long = λ ns. let z : 1 ≡ 1 + 0 = omega arith in z;
    axes = ap (λ a. a ∷ []) (slots-same env0 q q-apart S);
    found = own-found env0 q q-apart terms false (upto size ∷ []) (slot_numbers S) (slots-axis env0 q q-apart size S sl);
    there = there;
    means = means;
  }
