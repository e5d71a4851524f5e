-- Generators of a listing in the place of a generator over what it lists, and the item in the place of the name: each part has a value.
use Rattle.std.proofs.Common.{◌≡◌, refl, sym, ap, ◌∙◌, subst, Bool, true, false, ◌&&◌, not, List, [], ◌∷◌, ◌++◌, Option, Some, None, option_map, if◌then◌else◌}
use Rattle.std.specs.Prelude.{IsTrue, is_some}
use Rattle.ess_semantics.specs.Lists.{and_then}
use Rattle.ess_semantics.specs.Values.{Text, Value, truth, items_of}
use Rattle.ess_semantics.specs.Order.{same_text}
use Rattle.ess_semantics.specs.Names.{Names, look}
use Rattle.ess_semantics.specs.Trees.{Ex, name_ex, Gens, no_gens, over, from, cond}
use Rattle.ess_semantics.specs.Operators.{as_truth}
use Rattle.ess_semantics.specs.Tables.{Table}
use Rattle.ess_semantics.specs.Meaning.{Env, TypeEntry, bind, meaning, items_under, domain_of, members_in, collect, where_true}
use Rattle.ess_semantics.specs.Contexts.{Each, EachOf, EachIn}
use Rattle.ess_semantics.specs.Substitution.{substitute, substitute_gens, for_name, NamesAre, NamesAreGens}
use Rattle.ess_semantics.proofs.Tests.{and-left, and-right, and-both}
use Rattle.ess_rules_laws.specs.SpliceRules.{append_gens}
use Rattle.ess_rules_laws.proofs.Simulation.{Vals, E, any, but}
use Rattle.ess_rules_laws.proofs.Agreement.{same_text-equal, look-itself, AgreeOn, agree-bound, agree-but, outside, agree-outside, meaning-agree}
use Rattle.ess_rules_laws.proofs.Splices.{agree-chain, bind-outside, first-there, rest-there}
use Rattle.ess_rules_laws.proofs.SpliceRules.{each-left, each-right}
use Rattle.ess_values_along_laws.specs.Valued.{Valued, UnderValued}
use Rattle.ess_values_sources_laws.proofs.ValuedSimulation.{valued-sim, valued-sim-gens, valued-agree}

-- ---- what holds of each item

-- P of each item, where the list is there.
abbrev pub AllOf : (Value → Type 0) → Option (List Value) → Type 0
AllOf P None = Unit {0}
AllOf P (Some xs) = Each xs P

first-all : (P : Value → Type 0) (o c : Option (List Value)) → is_some (and_then o (λ xs. option_map (λ ys. xs ++ ys) c)) ≡ true →
    AllOf P (and_then o (λ xs. option_map (λ ys. xs ++ ys) c)) → AllOf P o
first-all P None c t a = tt
first-all P (Some xs) None t a = cc
first-all P (Some xs) (Some ys) t a = each-left P xs ys a

rest-all : (P : Value → Type 0) (o c : Option (List Value)) → is_some (and_then o (λ xs. option_map (λ ys. xs ++ ys) c)) ≡ true →
    AllOf P (and_then o (λ xs. option_map (λ ys. xs ++ ys) c)) → AllOf P c
rest-all P None c t a = cc
rest-all P (Some xs) None t a = cc
rest-all P (Some xs) (Some ys) t a = each-right P xs ys a

-- What follows at each value from what holds of the items collected there.
each-collected : (P : Value → Type 0) (vs : List Value) (f : Value → Option (List Value)) (A B : Value → Type 0) →
    is_some (collect vs f) ≡ true → AllOf P (collect vs f) → Each vs A →
    ((v : Value) → is_some (f v) ≡ true → AllOf P (f v) → A v → B v) → Each vs B
each-collected P [] f A B t a m k = tt
each-collected P (v ∷ vs) f A B t a m k = (
  k v (first-there (f v) (collect vs f) t) (first-all P (f v) (collect vs f) t a) m.0,
  each-collected P vs f A B (rest-there (f v) (collect vs f) t) (rest-all P (f v) (collect vs f) t a) m.1 k,
)

module _ (pl : Bool) (ts : List TypeEntry) (cs : Names Table) where
  abbrev M : Vals → Env
  M g = E pl ts cs g

  -- ---- behind the generators

  module _ (r : Text → Bool) (h : Ex) (g0 : Vals) (hs : Gens) (e : Ex) (P : Value → Type 0)
      (each : (g : Vals) → AgreeOn (outside r) g0 g → (v : Value) → meaning h (M g) ≡ Some v → P v → Valued false h (M g) →
      UnderValued hs (M g) (λ here. Valued false e here)) where
    abbrev k : Env → Option (List Value)
    k here = option_map (λ v. v ∷ []) (meaning h here)

    abbrev HasValues : Gens → Vals → Type 0
    HasValues ks g = is_some (items_under ks (M g) k) ≡ true → AllOf P (items_under ks (M g) k) →
        UnderValued ks (M g) (λ here. Valued false h here) → UnderValued (append_gens ks hs) (M g) (λ here. Valued false e here)

    -- Where P holds of each item, what stands behind the inner generators has values.
    valued-through : (ks : Gens) (g : Vals) → NamesAreGens any r ks → AgreeOn (outside r) g0 g → HasValues ks g
    valued-through no_gens g o s t a m = go (meaning h (M g)) refl t a
      where
        go : (z : Option Value) → meaning h (M g) ≡ z → is_some (option_map (λ v. v ∷ []) z) ≡ true →
            AllOf P (option_map (λ v. v ∷ []) z) → UnderValued hs (M g) (λ here. Valued false e here)
        go None q t a = cc
        go (Some v) q t a = each g s v q a.0 m
    valued-through (over p d gs) g o s t a m = (
      m.0,
      go (members_in (domain_of d (M g))) t a m.1
          (λ v. valued-through gs (bind p v g) o.2 (agree-chain (outside r) g0 g (bind p v g) s (bind-outside r p v g o.0))),
    )
      where
        go : (z : Option (List Value)) → is_some (and_then z (λ vs. collect vs (λ v. items_under gs (M (bind p v g)) k))) ≡ true →
            AllOf P (and_then z (λ vs. collect vs (λ v. items_under gs (M (bind p v g)) k))) →
            EachOf z (λ v. UnderValued gs (M (bind p v g)) (λ here. Valued false h here)) → ((v : Value) → HasValues gs (bind p v g)) →
            EachOf z (λ v. UnderValued (append_gens gs hs) (M (bind p v g)) (λ here. Valued false e here))
        go None t a m f = tt
        go (Some vs) t a m f = each-collected P vs (λ v. items_under gs (M (bind p v g)) k) _ _ t a m f
    valued-through (from p x gs) g o s t a m = (
      m.0,
      go (meaning x (M g)) t a m.1
          (λ v. valued-through gs (bind p v g) o.2 (agree-chain (outside r) g0 g (bind p v g) s (bind-outside r p v g o.0))),
    )
      where
        go : (z : Option Value) → is_some (and_then z (λ w. collect (items_of w) (λ v. items_under gs (M (bind p v g)) k))) ≡ true →
            AllOf P (and_then z (λ w. collect (items_of w) (λ v. items_under gs (M (bind p v g)) k))) →
            EachIn z (λ v. UnderValued gs (M (bind p v g)) (λ here. Valued false h here)) → ((v : Value) → HasValues gs (bind p v g)) →
            EachIn z (λ v. UnderValued (append_gens gs hs) (M (bind p v g)) (λ here. Valued false e here))
        go None t a m f = tt
        go (Some w) t a m f = each-collected P (items_of w) (λ v. items_under gs (M (bind p v g)) k) _ _ t a m f
    valued-through (cond c gs) g o s t a m = (m.0, λ q. go (meaning c (M g)) q t a (m.1 q) (valued-through gs g o.1 s))
      where
        go : (z : Option Value) → as_truth z ≡ true → is_some (where_true z (λ u. items_under gs (M g) k)) ≡ true →
            AllOf P (where_true z (λ u. items_under gs (M g) k)) → UnderValued gs (M g) (λ here. Valued false h here) → HasValues gs g →
            UnderValued (append_gens gs hs) (M g) (λ here. Valued false e here)
        go (Some (truth true)) q t a m f = f t a m
        go _ q t a m f = cc

  -- ---- the item in the place of the name

  module _ (r s : Text → Bool) (y : Text) (h : Ex) (named : IsTrue (s y)) (scoped : NamesAre s any h) where
    abbrev both : Text → Bool
    both c = outside r c && but y c

    -- Under g the name y has the value that h has under i, and the other names that r lacks have the same values; the parts of h have
    -- values.
    abbrev PutValued : Vals → Vals → Type 0
    PutValued g i = (AgreeOn both g i × (meaning h (M i) ≡ look g y)) × Valued false h (M i)

    put-named : (a : Text) (g i : Vals) → IsTrue (outside r a) → PutValued g i → meaning (for_name y h a) (M i) ≡ look g a
    put-named a g i o p = go (same_text y a) refl
      where
        go : (b : Bool) → same_text y a ≡ b → meaning (if b then h else name_ex a) (M i) ≡ look g a
        go true q = p.0.1 ∙ ap (look g) (same_text-equal y a q)
        go false q = sym (p.0.0 a (and-both (outside r a) (but y a) o (ap not q)))

    put-bound : (a : Text) (v : Value) (g i : Vals) → IsTrue (outside s a) → PutValued g i → PutValued ((a, v) ∷ g) ((a, v) ∷ i)
    put-bound a v g i o p = (
      (
        agree-bound both a v g i p.0.0,
        meaning-agree pl ts cs s h i ((a, v) ∷ i) scoped (agree-outside s a v i o) ∙ p.0.1 ∙ agree-outside s a v g o y named,
      ),
      valued-agree pl ts cs s h false i ((a, v) ∷ i) scoped (agree-outside s a v i o) p.1,
    )

    put-value : (a : Text) (g i : Vals) → IsTrue (outside r a) → PutValued g i → IsTrue (is_some (look g a)) →
        Valued false (for_name y h a) (M i)
    put-value a g i o p v = go (same_text y a) refl
      where
        go : (b : Bool) → same_text y a ≡ b → Valued false (if b then h else name_ex a) (M i)
        go true q = p.1
        go false q = subst (λ z. IsTrue (is_some z)) (p.0.0 a (and-both (outside r a) (but y a) o (ap not q))) v

    -- At a binding of the inner generators.
    put-item : (v : Value) (g i : Vals) → AgreeOn (outside r) g i → meaning h (M i) ≡ Some v → Valued false h (M i) →
        PutValued ((y, v) ∷ g) i
    put-item v g i a q k = (
      (
        (λ c t. sym (agree-but y v g c (and-right (outside r c) (but y c) t)) ∙ a c (and-left (outside r c) (but y c) t)),
        q ∙ sym (look-itself y v g),
      ),
      k,
    )

    module _ (ks hs : Gens) (e : Ex) (g : Vals) (inner : NamesAreGens any r ks) (gens : NamesAreGens (outside r) (outside s) hs)
        (body : NamesAre (outside r) (outside s) e) where
      abbrev inner_items : Option (List Value)
      inner_items = items_under ks (M g) (λ here. option_map (λ v. v ∷ []) (meaning h here))

      abbrev Behind : Value → Type 0
      Behind v = UnderValued hs (M ((y, v) ∷ g)) (λ here. Valued false e here)

      -- What stands behind all generators has values, where it has them behind the name at each item.
      pub spliced-valued : is_some inner_items ≡ true → AllOf Behind inner_items → UnderValued ks (M g) (λ here. Valued false h here) →
          UnderValued (append_gens ks (substitute_gens (for_name y h) hs)) (M g) (λ here. Valued false (substitute (for_name y h) e) here)
      spliced-valued t a m = valued-through r h g (substitute_gens (for_name y h) hs) (substitute (for_name y h) e) Behind
          (λ i x v q b w. valued-sim-gens pl ts cs (for_name y h) (outside r) (outside s) PutValued put-named put-bound put-value hs e
          ((y, v) ∷ g) i gens (put-item v g i x q w)
          (λ g' i' p z. valued-sim pl ts cs (for_name y h) (outside r) (outside s) PutValued put-named put-bound put-value e false g' i'
          body p z) b)
          ks g inner (λ a t. refl) t a m
