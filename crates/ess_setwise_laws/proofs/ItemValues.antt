-- Values of the items of generators: over a domain, over the members of a set, and under conditions.
use Rattle.std.proofs.Common.{◌≡◌, refl, sym, ap, ◌∙◌, subst, Bool, true, false, List, [], ◌∷◌, ◌++◌, Option, Some, option_map}
use Rattle.ess_semantics.specs.Lists.{and_then}
use Rattle.ess_semantics.specs.Values.{Text, Value, truth, items_of}
use Rattle.ess_semantics.specs.Names.{Names}
use Rattle.ess_semantics.specs.Trees.{name_pat, Ex, Gens, over, from, cond, Dom}
use Rattle.ess_semantics.specs.Tables.{Table}
use Rattle.ess_semantics.specs.Meaning.{Env, TypeEntry, with_pat, meaning, items_under, collect, where_true, domain_of, members_in}
use Rattle.ess_semantics.specs.Contexts.{Each, EachOf, EachIn}
use Rattle.ess_values_along_laws.specs.Valued.{Valued, UnderValued, DomValued}
use Rattle.ess_rules_laws.proofs.Simulation.{Vals, E}
use Rattle.ess_setwise_laws.specs.Laws.{HasMark, a_truth}

truth-of : {v : Value} → HasMark true v → (b : Bool) × (v ≡ truth b)
truth-of (a_truth {b = b}) = (b, refl)

module _ (pl : Bool) (ts : List TypeEntry) (cs : Names Table) where
  abbrev M : Vals → Env
  M g = E pl ts cs g

  -- The items of a comprehension have values.
  pub record Items (gs : Gens) (e : Ex) (g : Vals) : Type 0 where
    pub values : List Value
    pub are : items_under gs (M g) (λ here. option_map (λ v. v ∷ []) (meaning e here)) ≡ Some values
    pub valued : UnderValued gs (M g) (λ here. Valued false e here)

  -- Values side by side.
  joined : (o p : Option (List Value)) (us vs : List Value) → o ≡ Some us → p ≡ Some vs →
      and_then o (λ xs. option_map (λ ys. xs ++ ys) p) ≡ Some (us ++ vs)
  joined o p us vs q r =
      ap (λ z. and_then z (λ xs. option_map (λ ys. xs ++ ys) p)) q ∙ ap (λ z. option_map (λ ys. us ++ ys) z) r

  -- Each value of a list in the place of a name.
  collected : (a : Text) (gs : Gens) (e : Ex) (g : Vals) (vs : List Value) → Each vs (λ v. Items gs e ((a, v) ∷ g)) →
      (us : List Value) × (collect vs (λ v. items_under gs (with_pat (name_pat a) v (M g))
      (λ here. option_map (λ z. z ∷ []) (meaning e here))) ≡ Some us)
      × Each vs (λ v. UnderValued gs (with_pat (name_pat a) v (M g)) (λ here. Valued false e here))
  collected a gs e g [] h = ([], refl, tt)
  collected a gs e g (v ∷ vs) h =
      let x = h.0 in
      let r = collected a gs e g vs h.1 in
      (x.values ++ r.0, joined _ _ x.values r.0 x.are r.1, (x.valued, r.2))

  -- Over a domain.
  pub over-items : (a : Text) (d : Dom) (gs : Gens) (e : Ex) (g : Vals) (vs : List Value) → members_in (domain_of d (M g)) ≡ Some vs →
      DomValued d (M g) → Each vs (λ v. Items gs e ((a, v) ∷ g)) → Items (over (name_pat a) d gs) e g
  over-items a d gs e g vs q x h =
      let r = collected a gs e g vs h in record {
        values = r.0;
        are = ap (λ o. and_then o (λ vs. collect vs (λ v. items_under gs (with_pat (name_pat a) v (M g))
            (λ here. option_map (λ z. z ∷ []) (meaning e here))))) q ∙ r.1;
        valued = (x, subst (λ o. EachOf o (λ v. UnderValued gs (with_pat (name_pat a) v (M g)) (λ here. Valued false e here))) (sym q) r.2);
      }

  -- Over the members of a set.
  pub among-items : (a : Text) (s : Ex) (gs : Gens) (e : Ex) (g : Vals) (v : Value) (vs : List Value) → meaning s (M g) ≡ Some v →
      items_of v ≡ vs → Valued false s (M g) → Each vs (λ v. Items gs e ((a, v) ∷ g)) → Items (from (name_pat a) s gs) e g
  among-items a s gs e g v vs q i x h =
      let r = collected a gs e g vs h in record {
        values = r.0;
        are = ap (λ o. and_then o (λ s. collect (items_of s) (λ v. items_under gs (with_pat (name_pat a) v (M g))
            (λ here. option_map (λ z. z ∷ []) (meaning e here))))) q
            ∙ ap (λ l. collect l (λ v. items_under gs (with_pat (name_pat a) v (M g))
            (λ here. option_map (λ z. z ∷ []) (meaning e here)))) i
            ∙ r.1;
        valued = (
          x,
          subst (λ o. EachIn o (λ v. UnderValued gs (with_pat (name_pat a) v (M g)) (λ here. Valued false e here))) (sym q)
              (subst (λ l. Each l (λ v. UnderValued gs (with_pat (name_pat a) v (M g)) (λ here. Valued false e here))) (sym i) r.2),
        );
      }

  -- Under a condition.
  pub cond-items : (c : Ex) (gs : Gens) (e : Ex) (g : Vals) (v : Value) → HasMark true v → meaning c (M g) ≡ Some v →
      Valued false c (M g) → Items gs e g → Items (cond c gs) e g
  cond-items c gs e g v m p x y = let z = truth-of m in go z.0 (p ∙ ap Some z.1)
    where
      go : (b : Bool) → meaning c (M g) ≡ Some (truth b) → Items (cond c gs) e g
      go true q = record {
        values = y.values;
        are = ap (λ o. where_true o (λ u. items_under gs (M g) (λ here. option_map (λ z. z ∷ []) (meaning e here)))) q ∙ y.are;
        valued = (x, λ t. y.valued);
      }
      go false q = record {
        values = [];
        are = ap (λ o. where_true o (λ u. items_under gs (M g) (λ here. option_map (λ z. z ∷ []) (meaning e here)))) q;
        valued = (x, λ t. y.valued);
      }
