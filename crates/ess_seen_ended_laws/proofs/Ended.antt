-- Rules end in refined trees over views: no view, no source and no set is left in one.
use Rattle.std.proofs.Common.{◌≡◌, refl, ap, ◌∙◌, ℕ, Bool, true, false, ◌&&◌, if◌then◌else◌, List, [], ◌∷◌, length, pos, Option, Some, option_map}
use Rattle.ess_semantics.specs.Values.{Text}
use Rattle.ess_semantics.specs.Order.{same_text}
use Rattle.ess_semantics.specs.Names.{Names, look}
use Rattle.ess_semantics.specs.Trees.{Ex, Exs, number_ex, no_exs, more_exs, Gens}
use Rattle.ess_semantics.specs.Refined.{is_refined, are_refined, are_refined_gens}
use Rattle.ess_flat_laws.specs.Flat.{sum, difference}
use Rattle.ess_seen_laws.specs.ess_bare_laws.Lean as lean
use Rattle.ess_seen_laws.specs.ess_bare_laws.Lean.{FoldWord, as_scalar, as_number, Ended}
use Rattle.ess_seen_laws.specs.Seen.{Kind, scalars, sets_of, Bound, over_a_range, over_slots, from_a_set, bound_kind, Counted, so_many, from_to, from_0, subsets, none_below, counted_axes, Places, no_place, at_slot, SetTerm, view, drawn, combined, Seen, number, truth, named, counted, figure, flag, atom, one, two, chosen, folded, of_items, size, within, set_within, compared, Listed, last_item, item_before, Indices, no_index, one_index, Going, at_end, through, through_slots, among, where_holds, truths, numbers}
use Rattle.ess_seen_ended_laws.proofs.Tests.{both-of, one-refined, sized-refined, chosen-refined, two-refined, fold-refined, items-refined, combined-refined, compared-refined}

-- Names that are bound over ranges and slots alone, with their marks.
data Marks : Names Bool → Names Bound → Type 0 where
  no_names : Marks [] []
  one_range : {q : Names Bool} {r : Names Bound} {a : Text} {m : Bool} → Marks q r → Marks ((a, m) ∷ q) ((a, over_a_range m) ∷ r)
  some_slots : {q : Names Bool} {r : Names Bound} {a : Text} {k : ℕ} → Marks q r → Marks ((a, false) ∷ q) ((a, over_slots k) ∷ r)

-- The mark of one.
mark-said : {q : Names Bool} {r : Names Bound} → Marks q r → (a : Text) (b : Bound) (m : Bool) → look r a ≡ Some b →
    bound_kind b ≡ scalars m → look q a ≡ Some m
mark-said no_names a b m h k = cc
mark-said (one_range {q = q} {r = r} {a = c} {m = v} w) a b m h k = go (same_text c a) (mark-said w a b m) h
  where
    go : (t : Bool) → (look r a ≡ Some b → bound_kind b ≡ scalars m → look q a ≡ Some m) →
        (if t then Some (over_a_range v) else look r a) ≡ Some b → (if t then Some v else look q a) ≡ Some m
    go true f h = let e : over_a_range v ≡ b = cc in let p : scalars v ≡ scalars m = ap bound_kind e ∙ k in cc
    go false f h = f h k
mark-said (some_slots {q = q} {r = r} {a = c} {k = n} w) a b m h k = go (same_text c a) (mark-said w a b m) h
  where
    go : (t : Bool) → (look r a ≡ Some b → bound_kind b ≡ scalars m → look q a ≡ Some m) →
        (if t then Some (over_slots n) else look r a) ≡ Some b → (if t then Some false else look q a) ≡ Some m
    go true f h = let e : over_slots n ≡ b = cc in let p : scalars false ≡ scalars m = ap bound_kind e ∙ k in cc
    go false f h = f h k

-- None is bound over members.
no-set : {q : Names Bool} {r : Names Bound} → Marks q r → (a : Text) (k : Kind) → look r a ≡ Some (from_a_set k) → ⊥
no-set no_names a k h = cc
no-set (one_range {r = r} {a = c} {m = v} w) a k h = go (same_text c a) (no-set w a k) h
  where
    go : (t : Bool) → (look r a ≡ Some (from_a_set k) → ⊥) → (if t then Some (over_a_range v) else look r a) ≡ Some (from_a_set k) → ⊥
    go true f h = cc
    go false f h = f h
no-set (some_slots {r = r} {a = c} {k = n} w) a k h = go (same_text c a) (no-set w a k) h
  where
    go : (t : Bool) → (look r a ≡ Some (from_a_set k) → ⊥) → (if t then Some (over_slots n) else look r a) ≡ Some (from_a_set k) → ⊥
    go true f h = cc
    go false f h = f h

no-lie : false ≡ true → ⊥
no-lie h = cc

module _ (cells : Text → Option (Bool × List ℕ)) where
  -- No set is refined.
  no-set-term : {q : Names Bool} {r : Names Bound} {e : Ex} {k : Kind} → Marks q r → SetTerm cells r e k → is_refined e ≡ true → ⊥
  no-set-term s (view n f h p) i = no-lie i
  no-set-term s (drawn {a = a} {k = k} h) i = no-set s a (sets_of k) h
  no-set-term s (combined {s = x} {t = y} c v w) i = no-set-term s v (combined-refined x y c i)

  -- Trees that rules end in, and items, terms and generators of such.
  abbrev End : Names Bool → Ex → Bool → Type 0
  End = Ended (counted_axes cells)

  abbrev EndItems : Names Bool → Exs → Bool → Type 0
  EndItems = lean.Leans (counted_axes cells) (λ k. true) (λ a. true) false

  abbrev EndTerms : Bool → Names Bool → Exs → ℕ → Type 0
  EndTerms = lean.Terms (counted_axes cells) (λ k. true) (λ a. true) false

  abbrev EndGens : Names Bool → Gens → Names Bool → Type 0
  EndGens = lean.Ranging (counted_axes cells) (λ k. true) (λ a. true) false

  -- Generators through ranges and slots.
  record Gone (q : Names Bool) (gs : Gens) (t : Names Bound) : Type 0 where
    behind : Names Bool
    marks : Marks behind t
    ranging : EndGens q gs behind

  -- A number of slots.
  count-ends : (q : Names Bool) {e : Ex} {n : ℕ} → Counted e n → End q e false
  count-ends q so_many = lean.a_number refl
  count-ends q (from_to h) = lean.by_two sum (lean.by_two difference (lean.a_number refl) (lean.a_number refl)) (lean.a_number refl)
  count-ends q from_0 = lean.by_two sum (lean.a_number refl) (lean.a_number refl)
  count-ends q (subsets c) = lean.by_power (lean.a_number refl) (count-ends q c)
  count-ends q (none_below c) = lean.by_greatest (count-ends q c) (lean.a_number refl)

  -- Names at which a cell is asked.
  places : {q : Names Bool} {r : Names Bound} {es : Exs} {ks : List ℕ} → Marks q r → Places cells r es ks → EndTerms false q es (length ks)
  places s no_place = lean.no_terms
  places s (at_slot {a = a} {k = k} h p) = lean.more_terms as_scalar (lean.a_name (mark-said s a (over_slots k) false h refl)) (places s p)

  -- A table and the number of its axes.
  counted-table : (n : Text) (b : Bool) (ks : List ℕ) → cells n ≡ Some (b, ks) → counted_axes cells n ≡ Some (b, length ks)
  counted-table n b ks h = ap (option_map (λ c. (c.0, length c.1))) h

  mutual
    ends : {q : Names Bool} {r : Names Bound} {e : Ex} {m : Bool} → Marks q r → Seen cells r e m → is_refined e ≡ true → End q e m
    ends s number h = lean.a_number refl
    ends s truth h = lean.a_truth
    ends {m = m} s (named {a = a} {b = b} p k) h = lean.a_name (mark-said s a b m p k)
    ends {q} s (counted c) h = count-ends q c
    ends s (figure {n = n} {ks = ks} p i) h = lean.a_cell (counted-table n false ks p) (places s i)
    ends s (flag {n = n} {ks = ks} p i) h = lean.a_cell (counted-table n true ks p) (indices s i h)
    ends s (atom k p) h = absurd (no-lie h)
    ends s (one {x = x} w f) h = lean.by_one w (ends s f (one-refined x w h))
    ends s (two {x = x} {y = y} w f g) h = let v = two-refined x y w h in lean.by_two w (ends s f v.0) (ends s g v.1)
    ends s (chosen {x = x} f) h = lean.by_truth (ends s f (chosen-refined x h))
    ends s (folded {e = x} {gs = gs} w g f) h =
        let v = fold-refined x gs w h in let k = going s g v.1 in lean.by_fold w k.ranging (ends k.marks f v.0)
    ends s (of_items {es = es} w l) h = lean.by_items w (items s l (items-refined es w h))
    ends s (size {s = x} v) h = absurd (no-set-term s v (sized-refined x h))
    ends s (within f v) h = absurd (no-lie h)
    ends s (set_within v w) h = absurd (no-lie h)
    ends s (compared {s = x} {t = y} c v w) h = absurd (no-set-term s v (compared-refined x y c h))

    items : {q : Names Bool} {r : Names Bound} {es : Exs} {m : Bool} → Marks q r → Listed cells r es m → are_refined es ≡ true →
        EndItems q es m
    items s (last_item {e = e} f) h = lean.last_lean (ends s f (both-of (is_refined e) true h).0)
    items s (item_before {e = e} {es = fs} f l) h =
        let v = both-of (is_refined e) (are_refined fs) h in lean.more_leans (ends s f v.0) (items s l v.1)

    indices : {q : Names Bool} {r : Names Bound} {es : Exs} {k : ℕ} → Marks q r → Indices cells r es k → are_refined es ≡ true →
        EndTerms false q es k
    indices s no_index h = lean.no_terms
    indices s (one_index {e = e} {es = fs} f i) h =
        let v = both-of (is_refined e) (are_refined fs) h in lean.more_terms as_scalar (ends s f v.0) (indices s i v.1)

    going : {q : Names Bool} {r t : Names Bound} {gs : Gens} → Marks q r → Going cells r gs t → are_refined_gens gs ≡ true → Gone q gs t
    going {q} s at_end h = record { behind = q; marks = s; ranging = lean.behind_all }
    going s (through truths g) h =
        let k = going (one_range s) g h in record { behind = k.behind; marks = k.marks; ranging = lean.over_truths refl k.ranging }
    going s (through {gs = hs} (numbers {a = x} {b = y} f w) g) h =
        let v = both-of (are_refined (more_exs x (more_exs y no_exs))) (are_refined_gens hs) h in
        let u = both-of (is_refined x) (is_refined y && true) v.0 in
        let k = going (one_range s) g v.1 in record {
          behind = k.behind;
          marks = k.marks;
          ranging = lean.over_numbers refl refl (lean.more_terms as_number (ends s f u.0)
              (lean.more_terms as_number (ends s w (both-of (is_refined y) true u.1).0) lean.no_terms)) k.ranging;
        }
    going {q} s (through_slots {e = e} {gs = hs} c g) h =
        let v = both-of (are_refined (more_exs (number_ex (pos 1)) (more_exs e no_exs))) (are_refined_gens hs) h in
        let k = going (some_slots s) g v.1 in record {
          behind = k.behind;
          marks = k.marks;
          ranging = lean.over_numbers refl refl
              (lean.more_terms as_number (lean.a_number refl) (lean.more_terms as_number (count-ends q c) lean.no_terms)) k.ranging;
        }
    going s (among v g) h = absurd (no-lie h)
    going s (where_holds {c = c} {gs = hs} f g) h =
        let v = both-of (is_refined c) (are_refined_gens hs) h in
        let k = going s g v.1 in record { behind = k.behind; marks = k.marks; ranging = lean.under (ends s f v.0) k.ranging }

-- Rules end in a refined tree over views where no name is bound around it.
pub seen-ends : (cells : Text → Option (Bool × List ℕ)) (e : Ex) (m : Bool) → Seen cells [] e m → is_refined e ≡ true →
    Ended (counted_axes cells) [] e m
seen-ends cells e m f h = ends cells no_names f h
