-- What attributes without a number mean as constraints, and when a function with flags is total.
use Rattle.std.proofs.Common.{◌≡◌, refl, sym, ap, ◌∙◌, Bool, true, false, ◌&&◌, List, [], ◌∷◌, map, length, ℤ, pos, Option, Some, None, option_map, inl, inr}
use Rattle.std.specs.List.{list_all}
use Rattle.ess_semantics.specs.declared.words.Key.{Key}
use Rattle.ess_semantics.specs.Lists.{and_then, is_some_and}
use Rattle.ess_semantics.specs.Values.{Value, truth, from_of}
use Rattle.ess_semantics.specs.Order.{same_int}
use Rattle.ess_semantics.specs.Collections.{holds}
use Rattle.ess_semantics.specs.Trees.{Mark, flag, valued, Ex}
use Rattle.ess_semantics.specs.Domains.{Attribute, numbered, flagged, Domain, booleans, members, member_list, lists_of}
use Rattle.ess_semantics.specs.Attributes.{each_holds, is_total}
use Rattle.ess_semantics.specs.Cells.{Grid, Axes, every_cell}
use Rattle.ess_semantics.specs.Layers.{chosen}
use Rattle.ess_semantics.specs.FunctionLayers.{with_arguments}
use Rattle.ess_semantics.specs.Meaning.{Env, as_int, attributes_of, meaning}
use Rattle.ess_semantics.specs.Tables.{is_cell}
use Rattle.ess_semantics.proofs.Connectives.{and-means}
use Rattle.ess_repr_laws.specs.StructureParts.{keys_ex}
use Rattle.ess_repr_laws.specs.StructureMeaning.{has_flags_among, no_key}
use Rattle.ess_repr_laws.proofs.Arguments.{Arguments, cell-arguments}
use Rattle.ess_repr_laws.proofs.CanonicalPlaces.{AllOf, all-of-list}
use Rattle.ess_repr_laws.proofs.Chosen.{Bit, on, chosen-holds}
use Rattle.ess_repr_laws.proofs.SlotsUsed.{bit-cell, all-map}
use Rattle.ess_repr_laws.proofs.StructureAttributes.{arguments-of, all-held}

-- ---- attributes without a number

-- What f says of each attribute without a number means what F says of it, where there is one.
pub keys-means : (env : Env) (f : Key → Ex) (F : Key → Bool) (ms : List Mark) (os : List (Option Value)) (ks : List Attribute) → attributes_of ms os ≡ Some ks →
    (has_flags_among no_key ks ≡ false → (k : Key) → meaning (f k) env ≡ Some (truth (F k))) → meaning (keys_ex f ms) env ≡ Some (truth (each_holds ks (λ k n. true) F))
keys-means env f F [] [] ks e h = let q : [] ≡ ks = cc in ap (λ l. Some (truth (each_holds l (λ k n. true) F))) q
keys-means env f F [] (o ∷ os) ks e h = cc
keys-means env f F (flag k ∷ ms) os ks e h = go (attributes_of ms os) refl e (λ ls p i. keys-means env f F ms os ls p i)
  where
    go : (o : Option (List Attribute)) → attributes_of ms os ≡ o → option_map (λ xs. flagged k ∷ xs) o ≡ Some ks →
        ((ls : List Attribute) → attributes_of ms os ≡ Some ls → (has_flags_among no_key ls ≡ false → (k : Key) → meaning (f k) env ≡ Some (truth (F k))) →
        meaning (keys_ex f ms) env ≡ Some (truth (each_holds ls (λ k n. true) F))) →
        meaning (keys_ex f (flag k ∷ ms)) env ≡ Some (truth (each_holds ks (λ k n. true) F))
    go None p e ih = cc
    go (Some ls) p e ih =
        let q : flagged k ∷ ls ≡ ks = cc in
        let n : has_flags_among no_key ks ≡ false = ap (has_flags_among no_key) (sym q) in
        and-means env (f k) (keys_ex f ms) (F k) (each_holds ls (λ k n. true) F) (h n k) (ih ls p (λ z. h n)) ∙ ap (λ l. Some (truth (each_holds l (λ k n. true) F))) q
keys-means env f F (valued k ∷ ms) [] ks e h = cc
keys-means env f F (valued k ∷ ms) (v ∷ os) ks e h = go (as_int v) (attributes_of ms os) refl e (λ ls p i. keys-means env f F ms os ls p i)
  where
    go : (a : Option ℤ) (o : Option (List Attribute)) → attributes_of ms os ≡ o → and_then a (λ z. option_map (λ xs. numbered k z ∷ xs) o) ≡ Some ks →
        ((ls : List Attribute) → attributes_of ms os ≡ Some ls → (has_flags_among no_key ls ≡ false → (k : Key) → meaning (f k) env ≡ Some (truth (F k))) →
        meaning (keys_ex f ms) env ≡ Some (truth (each_holds ls (λ k n. true) F))) →
        meaning (keys_ex f ms) env ≡ Some (truth (each_holds ks (λ k n. true) F))
    go None o p e ih = cc
    go (Some z) None p e ih = cc
    go (Some z) (Some ls) p e ih =
        let q : numbered k z ∷ ls ≡ ks = cc in
        ih ls p (λ n. h (ap (has_flags_among no_key) (sym q) ∙ n)) ∙ ap (λ l. Some (truth (each_holds l (λ k n. true) F))) q

-- Attributes hold where those with a number and those without one hold.
pub attributes-apart : (ks : List Attribute) (f : Key → ℤ → Bool) (g : Key → Bool) → each_holds ks f g ≡ each_holds ks f (λ k. true) && each_holds ks (λ k n. true) g
attributes-apart [] f g = refl
attributes-apart (numbered k n ∷ ks) f g = ap (λ b. f k n && b) (attributes-apart ks f g) ∙ join (f k n) (each_holds ks f (λ k. true)) (each_holds ks (λ k n. true) g)
  where
    join : (a b c : Bool) → a && (b && c) ≡ (a && b) && c
    join true b c = refl
    join false b c = refl
attributes-apart (flagged k ∷ ks) f g = ap (λ b. g k && b) (attributes-apart ks f g) ∙ swap (g k) (each_holds ks f (λ k. true)) (each_holds ks (λ k n. true) g)
  where
    swap : (a b c : Bool) → a && (b && c) ≡ b && (a && c)
    swap true b c = refl
    swap false true c = refl
    swap false false c = refl

-- ---- total

-- Tests that agree on each of the items.
pub all-equal : (zs : List Value) (f g : Value → Bool) → AllOf zs (λ z. f z ≡ g z) → list_all f zs ≡ list_all g zs
all-equal [] f g h = refl
all-equal (z ∷ zs) f g h = ap (λ b. b && list_all f zs) h.0 ∙ ap (λ b. g z && b) (all-equal zs f g h.1)

-- A function whose arguments are those with a true flag is total where all flags are true.
pub chosen-total : (x : Domain) (as' : Axes) (index : Value → List ℤ) → Arguments x as' index → (g : Grid) (ys vs : List Value) → members x ≡ Some (member_list x) → every_cell as' (is_cell booleans) g ≡ true →
    chosen (member_list x) (λ v. g (index v)) ≡ Some ys → length vs ≡ length ys → is_total (members x) (with_arguments ys vs) ≡ list_all (λ js. is_some_and (g js) (same_int (pos 1))) (lists_of as')
chosen-total x as' index args g ys vs me bits e long =
    ap (λ o. is_some_and o (λ zs. list_all (λ z. holds (map from_of (with_arguments ys vs)) z) zs)) me ∙ ap (λ l. list_all (λ z. holds l z) (member_list x)) (arguments-of ys vs long)
    ∙ all-equal (member_list x) (λ z. holds ys z) (λ z. true_at (g (index z)))
    (each (member_list x) (all-of-list (member_list x) (λ z. holds (member_list x) z) (all-held (member_list x))) (cell-arguments x as' index args (is_cell booleans) g bits))
    ∙ sym (ap (list_all (λ js. true_at (g js))) args.places ∙ all-map (λ js. true_at (g js)) index (member_list x))
  where
    true_at : Option ℤ → Bool
    true_at o = is_some_and o (same_int (pos 1))

    bit-on : (o : Option ℤ) → Bit o → on o ≡ true_at o
    bit-on o (inl p) = ap on p ∙ sym (ap true_at p)
    bit-on o (inr p) = ap on p ∙ sym (ap true_at p)

    each : (zs : List Value) → AllOf zs (λ z. holds (member_list x) z ≡ true) → AllOf zs (λ z. is_some_and (g (index z)) (is_cell booleans) ≡ true) → AllOf zs (λ z. holds ys z ≡ true_at (g (index z)))
    each [] h k = tt
    each (z ∷ zs) h k = (
      chosen-holds (member_list x) (λ v. g (index v)) ys z e ∙ ap (λ b. b && on (g (index z))) h.0 ∙ bit-on (g (index z)) (bit-cell (g (index z)) k.0),
      each zs h.1 k.1,
    )
