-- A set in slots with a dummy: what its tidy cells stand for, slot by slot.
use Rattle.std.proofs.Common.{◌≡◌, refl, sym, ap, ◌∙◌, zero, suc, Bool, true, false, ◌&&◌, ◌||◌, not, if◌then◌else◌, List, [], ◌∷◌, map, filter, take, ℤ, pos, negsuc, Option, Some, None, option_map, nat_le}
use Rattle.std.specs.List.{list_all, list_any}
use Rattle.ess_semantics.specs.declared.words.ReprKind.{ReprKind}
use Rattle.ess_semantics.specs.Lists.{and_then, each_of, append_all, is_some_and}
use Rattle.ess_semantics.specs.Values.{Value, number, truth, item, itself}
use Rattle.ess_semantics.specs.Order.{same, same_int}
use Rattle.ess_semantics.specs.Collections.{no_twice}
use Rattle.ess_semantics.specs.Trees.{Repr, repr, no_reprs}
use Rattle.ess_semantics.specs.Domains.{Domain, booleans, integers, named, tuples, records, matrices, sets, msets, functions, relations, partitions}
use Rattle.ess_semantics.specs.Tables.{code, atom_value}
use Rattle.ess_semantics.specs.Cells.{Cells, Grid, behind}
use Rattle.ess_semantics.specs.SetLayers.{dummy_of, but_dummy, dummies_last}
use Rattle.ess_semantics.specs.Representations.{width, value_of_cells}
use Rattle.ess_semantics.specs.Declarations.{axes_of}
use Rattle.ess_semantics.specs.Tidy.{is_orderly}
use Rattle.ess_semantics.proofs.Tests.{and-left, and-right, and-both, both-ways}
use Rattle.ess_semantics.proofs.Orders.{same-equal, same-itself, same_int-equal, same_int-itself}
use Rattle.ess_rules_laws.proofs.SlotNumbers.{as_place}
use Rattle.ess_rules_laws.proofs.SlotSets.{orderly_in}

no : {A : Type 0} → false ≡ true → A
no h = cc

-- ---- atoms

abbrev pub atom : Repr
atom = repr ReprKind.Atom no_reprs

-- A domain with a dummy is one of atoms: its view has the value of its cell, and is orderly.
pub atom-value : (d : Domain) (m : ℤ) (f : Grid) → dummy_of d ≡ Some m → value_of_cells atom d (f ∷ []) ≡ and_then (f []) (atom_value d)
atom-value (integers ss) m f q = refl
atom-value (named t n) m f q = refl
atom-value booleans m f q = cc
atom-value (tuples ds) m f q = cc
atom-value (records fs ds) m f q = cc
atom-value (matrices is d) m f q = cc
atom-value (sets ks d) m f q = cc
atom-value (msets ks d) m f q = cc
atom-value (functions ks d e) m f q = cc
atom-value (relations ks ds) m f q = cc
atom-value (partitions ks d) m f q = cc

pub atom-orderly : (d : Domain) (m : ℤ) (c : Cells) → dummy_of d ≡ Some m → is_orderly atom d c ≡ true
atom-orderly (integers ss) m c q = refl
atom-orderly (named t n) m c q = refl
atom-orderly booleans m c q = cc
atom-orderly (tuples ds) m c q = cc
atom-orderly (records fs ds) m c q = cc
atom-orderly (matrices is d) m c q = cc
atom-orderly (sets ks d) m c q = cc
atom-orderly (msets ks d) m c q = cc
atom-orderly (functions ks d e) m c q = cc
atom-orderly (relations ks ds) m c q = cc
atom-orderly (partitions ks d) m c q = cc

-- So it is in each slot.
pub slots-orderly : (d : Domain) (m : ℤ) (c : Cells) (js : List (List ℤ)) → dummy_of d ≡ Some m → list_all (orderly_in atom d c) js ≡ true
slots-orderly d m c [] q = refl
slots-orderly d m c (j ∷ js) q = and-both (orderly_in atom d c j) (list_all (orderly_in atom d c) js)
    (atom-orderly d m (behind j (take (width atom) c)) q) (slots-orderly d m c js q)

-- Its table has no axes.
pub atom-axes : (d : Domain) (m : ℤ) → dummy_of d ≡ Some m → axes_of atom d ≡ [] ∷ []
atom-axes (integers ss) m q = refl
atom-axes (named t n) m q = refl
atom-axes booleans m q = cc
atom-axes (tuples ds) m q = cc
atom-axes (records fs ds) m q = cc
atom-axes (matrices is d) m q = cc
atom-axes (sets ks d) m q = cc
atom-axes (msets ks d) m q = cc
atom-axes (functions ks d e) m q = cc
atom-axes (relations ks ds) m q = cc
atom-axes (partitions ks d) m q = cc

-- The number of the value that a number stands for.
atom-code : (d : Domain) (z : ℤ) (v : Value) → atom_value d z ≡ Some v → code v ≡ z
atom-code (integers ss) z v q = sym (ap code (let e : number z ≡ v = cc in e))
atom-code booleans (pos zero) v q = sym (ap code (let e : truth false ≡ v = cc in e))
atom-code booleans (pos (suc zero)) v q = sym (ap code (let e : truth true ≡ v = cc in e))
atom-code booleans (pos (suc (suc n))) v q = cc
atom-code booleans (negsuc n) v q = cc
atom-code (named t n) (negsuc k) v q = cc
atom-code (named t n) (pos k) v q = go (nat_le 1 k && nat_le k n) q
  where
    go : (b : Bool) → (if b then Some (item t k) else None) ≡ Some v → code v ≡ pos k
    go true q = sym (ap code (let e : item t k ≡ v = cc in e))
    go false q = cc
atom-code (tuples ds) z v q = cc
atom-code (records fs ds) z v q = cc
atom-code (matrices is d) z v q = cc
atom-code (sets ks d) z v q = cc
atom-code (msets ks d) z v q = cc
atom-code (functions ks d e) z v q = cc
atom-code (relations ks ds) z v q = cc
atom-code (partitions ks d) z v q = cc

-- Numbers are equal as values.
pub same-number : (z m : ℤ) → same (number z) (number m) ≡ same_int m z
same-number z m = both-ways (same (number z) (number m)) (same_int m z)
    (λ h. ap (λ k. same_int k z) (sym (ap code (same-equal (number z) (number m) h))) ∙ same_int-itself z)
    (λ h. ap (λ k. same (number z) (number k)) (same_int-equal m z h) ∙ same-itself (number z))

-- ---- slot by slot

module _ (d : Domain) (m : ℤ) (f : Grid) where
  -- Whether a slot holds another number than the dummy.
  abbrev pub holds_other : ℤ → Bool
  holds_other k = is_some_and (f (k ∷ [])) (λ z. not (same (number z) (number m)))

  abbrev Slot-of : ℤ → Option (List Value)
  Slot-of k = and_then (f (k ∷ [])) (but_dummy d m)

  -- The members are the values of the slots that hold another number.
  pub members-stand : (V : List ℤ → Option Value) → ((k : ℤ) → V (k ∷ []) ≡ and_then (f (k ∷ [])) (atom_value d)) →
      (ks : List ℤ) (ls : List (List Value)) → each_of ks Slot-of ≡ Some ls →
      each_of (map as_place (filter holds_other ks)) V ≡ Some (append_all ls)
  members-stand V h [] ls q = ap (λ l. Some (append_all l)) (let e : [] ≡ ls = cc in e)
  members-stand V h (k ∷ ks) ls q = go (f (k ∷ [])) refl (each_of ks Slot-of) refl q (λ ms e. members-stand V h ks ms e)
    where
      Rest : Type 0
      Rest = (ms : List (List Value)) → each_of ks Slot-of ≡ Some ms →
          each_of (map as_place (filter holds_other ks)) V ≡ Some (append_all ms)

      at : (z : ℤ) → f (k ∷ []) ≡ Some z → (b : Bool) → same_int m z ≡ b → (o : Option Value) → atom_value d z ≡ o →
          (p : Option (List (List Value))) → each_of ks Slot-of ≡ p →
          and_then (if b then Some [] else option_map (λ v. v ∷ []) o) (λ l. option_map (λ ms. l ∷ ms) p) ≡ Some ls → Rest →
          each_of (map as_place (if not b then k ∷ filter holds_other ks else filter holds_other ks)) V ≡ Some (append_all ls)
      at z e true s o a None w q r = cc
      at z e true s o a (Some ms) w q r = r ms w ∙ ap (λ l. Some (append_all l)) (let y : [] ∷ ms ≡ ls = cc in y)
      at z e false s None a p w q r = cc
      at z e false s (Some v) a None w q r = cc
      at z e false s (Some v) a (Some ms) w q r =
          ap (λ o. and_then o (λ y. option_map (λ ys. y ∷ ys) (each_of (map as_place (filter holds_other ks)) V)))
          (h k ∙ ap (λ o. and_then o (atom_value d)) e ∙ a)
          ∙ ap (option_map (λ ys. v ∷ ys)) (r ms w) ∙ ap (λ l. Some (append_all l)) (let y : (v ∷ []) ∷ ms ≡ ls = cc in y)

      go : (o : Option ℤ) → f (k ∷ []) ≡ o → (p : Option (List (List Value))) → each_of ks Slot-of ≡ p →
          and_then (and_then o (but_dummy d m)) (λ l. option_map (λ ms. l ∷ ms) p) ≡ Some ls → Rest →
          each_of (map as_place (if is_some_and o (λ z. not (same (number z) (number m))) then k ∷ filter holds_other ks
          else filter holds_other ks)) V ≡ Some (append_all ls)
      go None e p w q r = cc
      go (Some z) e p w q r = ap (λ b. each_of (map as_place (if not b then k ∷ filter holds_other ks else filter holds_other ks)) V)
          (same-number z m) ∙ at z e (same_int m z) refl (atom_value d z) refl p w q r

  -- ---- the members differ

  abbrev Cell-of : ℤ → Option ℤ
  Cell-of k = f (k ∷ [])

  -- Where all slots hold the dummy there is no member.
  all-dummies : (ks zs : List ℤ) (ls : List (List Value)) → each_of ks Cell-of ≡ Some zs → each_of ks Slot-of ≡ Some ls →
      list_all (same_int m) zs ≡ true → append_all ls ≡ []
  all-dummies [] zs ls p q h = sym (ap append_all (let e : [] ≡ ls = cc in e))
  all-dummies (k ∷ ks) zs ls p q h =
      go (f (k ∷ [])) (each_of ks Cell-of) refl (each_of ks Slot-of) refl p q (λ ys ms a b c. all-dummies ks ys ms a b c)
    where
      Rest : Type 0
      Rest = (ys : List ℤ) (ms : List (List Value)) → each_of ks Cell-of ≡ Some ys → each_of ks Slot-of ≡ Some ms →
          list_all (same_int m) ys ≡ true → append_all ms ≡ []

      at : (z : ℤ) (ys : List ℤ) → each_of ks Cell-of ≡ Some ys → (b : Bool) → same_int m z ≡ b → b && list_all (same_int m) ys ≡ true →
          (p : Option (List (List Value))) → each_of ks Slot-of ≡ p →
          and_then (if b then Some [] else option_map (λ v. v ∷ []) (atom_value d z)) (λ l. option_map (λ ms. l ∷ ms) p) ≡ Some ls → Rest →
          append_all ls ≡ []
      at z ys e true s h None w q r = cc
      at z ys e true s h (Some ms) w q r = sym (ap append_all (let y : [] ∷ ms ≡ ls = cc in y)) ∙ r ys ms e w h
      at z ys e false s h p w q r = no h

      go : (o : Option ℤ) (c : Option (List ℤ)) → each_of ks Cell-of ≡ c → (p : Option (List (List Value))) → each_of ks Slot-of ≡ p →
          and_then o (λ z. option_map (λ ys. z ∷ ys) c) ≡ Some zs →
          and_then (and_then o (but_dummy d m)) (λ l. option_map (λ ms. l ∷ ms) p) ≡ Some ls → Rest → append_all ls ≡ []
      go None c e p w a q r = cc
      go (Some z) None e p w a q r = cc
      go (Some z) (Some ys) e p w a q r = let y : z ∷ ys ≡ zs = cc in
          at z ys e (same_int m z) refl (ap (list_all (same_int m)) y ∙ h) p w q r

  -- A value of a number that no slot holds is no member.
  not-held : (z : ℤ) (v : Value) → atom_value d z ≡ Some v → (ks zs : List ℤ) (ls : List (List Value)) → each_of ks Cell-of ≡ Some zs →
      each_of ks Slot-of ≡ Some ls → list_any (same_int z) zs ≡ false → list_any (λ y. same v y) (append_all ls) ≡ false
  not-held z v a [] zs ls p q h = ap (λ l. list_any (λ y. same v y) (append_all l)) (sym (let e : [] ≡ ls = cc in e))
  not-held z v a (k ∷ ks) zs ls p q h =
      go (f (k ∷ [])) (each_of ks Cell-of) refl (each_of ks Slot-of) refl p q (λ ys ms b c g. not-held z v a ks ys ms b c g)
    where
      Rest : Type 0
      Rest = (ys : List ℤ) (ms : List (List Value)) → each_of ks Cell-of ≡ Some ys → each_of ks Slot-of ≡ Some ms →
          list_any (same_int z) ys ≡ false → list_any (λ y. same v y) (append_all ms) ≡ false

      other : (y : ℤ) (w : Value) → atom_value d y ≡ Some w → same_int z y ≡ false → same v w ≡ false
      other y w b g = last (same v w) refl
        where
          last : (c : Bool) → same v w ≡ c → c ≡ false
          last false e = refl
          last true e = no (sym g ∙ ap (same_int z) (sym (atom-code d y w b) ∙ ap code (sym (same-equal v w e)) ∙ atom-code d z v a)
              ∙ same_int-itself z)

      first-no : (b e : Bool) → b || e ≡ false → b ≡ false
      first-no false e h = refl
      first-no true e h = h

      rest-no : (b e : Bool) → b || e ≡ false → e ≡ false
      rest-no false e h = h
      rest-no true e h = no (sym h)

      at : (y : ℤ) (ys : List ℤ) → each_of ks Cell-of ≡ Some ys → (b : Bool) → same_int z y || list_any (same_int z) ys ≡ false →
          (o : Option Value) → atom_value d y ≡ o → (p : Option (List (List Value))) → each_of ks Slot-of ≡ p →
          and_then (if b then Some [] else option_map (λ v. v ∷ []) o) (λ l. option_map (λ ms. l ∷ ms) p) ≡ Some ls → Rest →
          list_any (λ y. same v y) (append_all ls) ≡ false
      at y ys e true h o b None w q r = cc
      at y ys e true h o b (Some ms) w q r =
          ap (λ l. list_any (λ y. same v y) (append_all l)) (sym (let t : [] ∷ ms ≡ ls = cc in t))
          ∙ r ys ms e w (rest-no (same_int z y) _ h)
      at y ys e false h None b p w q r = cc
      at y ys e false h (Some u) b None w q r = cc
      at y ys e false h (Some u) b (Some ms) w q r =
          ap (λ l. list_any (λ y. same v y) (append_all l)) (sym (let t : (u ∷ []) ∷ ms ≡ ls = cc in t))
          ∙ ap (λ c. c || list_any (λ y. same v y) (append_all ms)) (other y u b (first-no (same_int z y) _ h))
          ∙ r ys ms e w (rest-no (same_int z y) _ h)

      go : (o : Option ℤ) (c : Option (List ℤ)) → each_of ks Cell-of ≡ c → (p : Option (List (List Value))) → each_of ks Slot-of ≡ p →
          and_then o (λ z. option_map (λ ys. z ∷ ys) c) ≡ Some zs →
          and_then (and_then o (but_dummy d m)) (λ l. option_map (λ ms. l ∷ ms) p) ≡ Some ls → Rest →
          list_any (λ y. same v y) (append_all ls) ≡ false
      go None c e p w b q r = cc
      go (Some y) None e p w b q r = cc
      go (Some y) (Some ys) e p w b q r = let t : y ∷ ys ≡ zs = cc in
          at y ys e (same_int m y) (ap (list_any (same_int z)) t ∙ h) (atom_value d y) refl p w q r

  -- So members of tidy cells differ.
  pub members-differ : (ks zs : List ℤ) (ls : List (List Value)) → each_of ks Cell-of ≡ Some zs → each_of ks Slot-of ≡ Some ls →
      dummies_last m zs ≡ true → no_twice itself (append_all ls) ≡ true
  members-differ [] zs ls p q h = ap (λ l. no_twice itself (append_all l)) (sym (let e : [] ≡ ls = cc in e))
  members-differ (k ∷ ks) zs ls p q h = go (f (k ∷ [])) (each_of ks Cell-of) refl (each_of ks Slot-of) refl p q
      (λ ys ms a b c. members-differ ks ys ms a b c)
    where
      Rest : Type 0
      Rest = (ys : List ℤ) (ms : List (List Value)) → each_of ks Cell-of ≡ Some ys → each_of ks Slot-of ≡ Some ms →
          dummies_last m ys ≡ true → no_twice itself (append_all ms) ≡ true

      not-yes : (b : Bool) → not b ≡ true → b ≡ false
      not-yes false h = refl
      not-yes true h = no h

      at : (z : ℤ) (ys : List ℤ) → each_of ks Cell-of ≡ Some ys → (b : Bool) →
          (if b then list_all (same_int m) ys else not (list_any (same_int z) ys) && dummies_last m ys) ≡ true →
          (o : Option Value) → atom_value d z ≡ o → (p : Option (List (List Value))) → each_of ks Slot-of ≡ p →
          and_then (if b then Some [] else option_map (λ v. v ∷ []) o) (λ l. option_map (λ ms. l ∷ ms) p) ≡ Some ls → Rest →
          no_twice itself (append_all ls) ≡ true
      at z ys e true h o a None w q r = cc
      at z ys e true h o a (Some ms) w q r = ap (λ l. no_twice itself (append_all l)) (sym (let t : [] ∷ ms ≡ ls = cc in t))
          ∙ ap (no_twice itself) (all-dummies ks ys ms e w h)
      at z ys e false h None a p w q r = cc
      at z ys e false h (Some v) a None w q r = cc
      at z ys e false h (Some v) a (Some ms) w q r =
          ap (λ l. no_twice itself (append_all l)) (sym (let t : (v ∷ []) ∷ ms ≡ ls = cc in t))
          ∙ ap (λ c. not c && no_twice itself (append_all ms))
          (not-held z v a ks ys ms e w (not-yes (list_any (same_int z) ys) (and-left _ _ h)))
          ∙ r ys ms e w (and-right _ _ h)

      go : (o : Option ℤ) (c : Option (List ℤ)) → each_of ks Cell-of ≡ c → (p : Option (List (List Value))) → each_of ks Slot-of ≡ p →
          and_then o (λ z. option_map (λ ys. z ∷ ys) c) ≡ Some zs →
          and_then (and_then o (but_dummy d m)) (λ l. option_map (λ ms. l ∷ ms) p) ≡ Some ls → Rest →
          no_twice itself (append_all ls) ≡ true
      go None c e p w a q r = cc
      go (Some z) None e p w a q r = cc
      go (Some z) (Some ys) e p w a q r = let t : z ∷ ys ≡ zs = cc in
          at z ys e (same_int m z) (ap (dummies_last m) t ∙ h) (atom_value d z) refl p w q r
