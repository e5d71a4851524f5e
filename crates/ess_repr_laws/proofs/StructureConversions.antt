-- What is asked of a layer that only converts the value of its one child, and attributes without a number one by one.
use Rattle.std.proofs.Common.{◌≡◌, refl, sym, ap, ◌∙◌, subst, Bool, true, false, ◌&&◌, List, [], ◌∷◌, length, ℤ, Option, Some, None, option_map}
use Rattle.ess_semantics.specs.declared.words.ReprKind.{ReprKind}
use Rattle.ess_semantics.specs.declared.words.Key.{Key}
use Rattle.ess_semantics.specs.Lists.{and_then, each_of, is_some_and}
use Rattle.ess_semantics.specs.Values.{Value, truth}
use Rattle.ess_semantics.specs.Trees.{Mark, flag, valued, Ex, Repr, no_reprs, more_reprs}
use Rattle.ess_semantics.specs.Domains.{Attribute, numbered, flagged, Domain}
use Rattle.ess_semantics.specs.Attributes.{each_holds}
use Rattle.ess_semantics.specs.Membership.{member}
use Rattle.ess_semantics.specs.Cells.{Cells, behind}
use Rattle.ess_semantics.specs.Layers.{everywhere, no_own_tables, always_tidy}
use Rattle.ess_semantics.specs.Representations.{width, value_of_cells}
use Rattle.ess_semantics.specs.Declarations.{axes_of}
use Rattle.ess_semantics.specs.CanonicalTest.{canonical}
use Rattle.ess_semantics.specs.Meaning.{Env, as_int, attributes_of, meaning}
use Rattle.ess_semantics.specs.Tidy.{is_orderly}
use Rattle.ess_semantics.proofs.Connectives.{and-means}
use Rattle.ess_semantics.proofs.Tests.{and-left, some-and}
use Rattle.ess_repr_laws.specs.CanonicalTables.{Right}
use Rattle.ess_repr_laws.specs.StructureParts.{keys_ex}
use Rattle.ess_repr_laws.specs.StructureMeaning.{EachFlag}
use Rattle.ess_repr_laws.proofs.Behind.{behind-none}
use Rattle.ess_repr_laws.proofs.CanonicalParts.{asked_of}
use Rattle.ess_repr_laws.proofs.CellsOfOneChild.{one_child}
use Rattle.ess_repr_laws.proofs.StructureLayers.{everywhere-valued}

module _ (r : Repr) (e : Domain) (right : Right r e) (wide : length (axes_of r e) ≡ width r) (k : ReprKind) (d : Domain) (ct : Value → List (Option Value)) (b : Cells → List (List Value) → Option Value)
    (ic : Cells → List (List Value) → Bool) where
  -- The child's cells are canonical, and what the layer asks of their value holds.
  pub conversion-asked : (inner : Cells) (F : Bool) → length inner ≡ width r →
      ((v : Value) → value_of_cells r e inner ≡ Some v → member e v ≡ true → ic [] ((v ∷ []) ∷ []) ≡ F) →
      asked_of (one_child k r d e [] [] everywhere false false ct no_own_tables b ic always_tidy) (more_reprs r no_reprs) [] inner ≡ canonical r e inner && F
  conversion-asked inner F long asked =
      everywhere-valued r e right wide k d [] ct b ic inner F long (λ vs n x h. given vs x h.0) ∙ ap (λ c. c && F) (alone (canonical r e (behind [] inner))) ∙ ap (λ c. canonical r e c && F) (behind-none inner)
    where
      alone : (c : Bool) → c && true ≡ c
      alone true = refl
      alone false = refl

      same-some : {xs ys : List Value} → Some xs ≡ Some ys → xs ≡ ys
      same-some e = cc

      given : (vs : List Value) → each_of ([] ∷ []) (λ j. value_of_cells r e (behind j inner)) ≡ Some vs → canonical r e (behind [] inner) ≡ true → ic [] (vs ∷ []) ≡ F
      given vs x h =
          let v = some-and (value_of_cells r e (behind [] inner)) (member e) (and-left (is_some_and (value_of_cells r e (behind [] inner)) (member e)) (is_orderly r e (behind [] inner)) (right.tidies (behind [] inner) h)) in
          let only : vs ≡ v.0 ∷ [] = same-some (sym x ∙ ap (λ o. and_then o (λ y. Some (y ∷ []))) v.1) in
          ap (λ l. ic [] (l ∷ [])) only ∙ asked v.0 (sym (ap (value_of_cells r e) (behind-none inner)) ∙ v.1) v.2

-- ---- attributes without a number

-- What f says of each attribute without a number means what F says of it.
pub flags-means : (env : Env) (f : Key → Ex) (F : Key → Bool) (ms : List Mark) (os : List (Option Value)) (ks : List Attribute) → attributes_of ms os ≡ Some ks → EachFlag (λ k. meaning (f k) env ≡ Some (truth (F k))) ks →
    meaning (keys_ex f ms) env ≡ Some (truth (each_holds ks (λ k n. true) F))
flags-means env f F [] [] ks e h = let q : [] ≡ ks = cc in ap (λ l. Some (truth (each_holds l (λ k n. true) F))) q
flags-means env f F [] (o ∷ os) ks e h = cc
flags-means env f F (flag k ∷ ms) os ks e h = go (attributes_of ms os) refl e h (λ ls p i. flags-means env f F ms os ls p i)
  where
    Meant : Key → Type 0
    Meant k = meaning (f k) env ≡ Some (truth (F k))

    go : (o : Option (List Attribute)) → attributes_of ms os ≡ o → option_map (λ xs. flagged k ∷ xs) o ≡ Some ks → EachFlag Meant ks →
        ((ls : List Attribute) → attributes_of ms os ≡ Some ls → EachFlag Meant ls → meaning (keys_ex f ms) env ≡ Some (truth (each_holds ls (λ k n. true) F))) →
        meaning (keys_ex f (flag k ∷ ms)) env ≡ Some (truth (each_holds ks (λ k n. true) F))
    go None p e h ih = cc
    go (Some ls) p e h ih =
        let q : ks ≡ flagged k ∷ ls = cc in
        let both = subst (EachFlag Meant) q h in
        and-means env (f k) (keys_ex f ms) (F k) (each_holds ls (λ k n. true) F) both.0 (ih ls p both.1) ∙ ap (λ l. Some (truth (each_holds l (λ k n. true) F))) (sym q)
flags-means env f F (valued k ∷ ms) [] ks e h = cc
flags-means env f F (valued k ∷ ms) (v ∷ os) ks e h = go (as_int v) (attributes_of ms os) refl e h (λ ls p i. flags-means env f F ms os ls p i)
  where
    Meant : Key → Type 0
    Meant k = meaning (f k) env ≡ Some (truth (F k))

    go : (a : Option ℤ) (o : Option (List Attribute)) → attributes_of ms os ≡ o → and_then a (λ z. option_map (λ xs. numbered k z ∷ xs) o) ≡ Some ks → EachFlag Meant ks →
        ((ls : List Attribute) → attributes_of ms os ≡ Some ls → EachFlag Meant ls → meaning (keys_ex f ms) env ≡ Some (truth (each_holds ls (λ k n. true) F))) →
        meaning (keys_ex f ms) env ≡ Some (truth (each_holds ks (λ k n. true) F))
    go None o p e h ih = cc
    go (Some z) None p e h ih = cc
    go (Some z) (Some ls) p e h ih =
        let q : ks ≡ numbered k z ∷ ls = cc in
        ih ls p (subst (EachFlag Meant) q h) ∙ ap (λ l. Some (truth (each_holds l (λ k n. true) F))) (sym q)

-- What holds of each key does of each of these.
pub all-flags : (Q : Key → Type 0) (ks : List Attribute) → ((k : Key) → Q k) → EachFlag Q ks
all-flags Q [] f = tt
all-flags Q (numbered k n ∷ ks) f = all-flags Q ks f
all-flags Q (flagged k ∷ ks) f = (f k, all-flags Q ks f)

-- What follows of each.
pub each-flag : (P Q : Key → Type 0) (ks : List Attribute) → ((k : Key) → P k → Q k) → EachFlag P ks → EachFlag Q ks
each-flag P Q [] f h = tt
each-flag P Q (numbered k n ∷ ks) f h = each-flag P Q ks f h
each-flag P Q (flagged k ∷ ks) f h = (f k h.0, each-flag P Q ks f h.1)
