-- Items of comprehensions by their numbers have what the parts have that they are made of.
use Rattle.std.proofs.Common.{Bool, true, false, if◌then◌else◌, List, [], ◌∷◌, pos, Option, Some, None, option_map}
use Rattle.std.specs.Prelude.{IsTrue}
use Rattle.ess_semantics.specs.declared.words.Op2.{Op2}
use Rattle.ess_semantics.specs.Lists.{and_then}
use Rattle.ess_semantics.specs.Values.{Text}
use Rattle.ess_semantics.specs.Substitution.{substitute, substitute_gens, for_name}
use Rattle.ess_semantics.specs.Trees.{by_value, index, name_pat, tuple_pat, Ex, number_ex, name_ex, node_ex, comp_ex, ex2, no_exs, more_exs, Gens, no_gens, over, from, cond, Dom}
use Rattle.ess_rules_laws.specs.Listings.{Alternative}
use Rattle.ess_rules_laws.specs.AlternativeLookups.{lookup_through_each}
use Rattle.ess_refine_laws.specs.ItemsOnce.{is_atom_dom}
use Rattle.ess_refine_laws.specs.ExtremeRules.{are_none}
use Rattle.ess_kind_rules_laws.specs.TermLookups.{count_below, picked_within}
use Rattle.ess_ordered_laws.specs.NumberedItems.{is_from_one, place_in, numbered_item, number_behind, under_condition, at_each_value, numbered_gens, numbered_over, numbered_lookup, ordered_lookup}
use Rattle.ess_given_laws.specs.PartsHave.{Wanted, PartsHave, GensHave}
use Rattle.ess_given_laws.proofs.PartsHave.{Puts, put-parts, put-gens}
use Rattle.ess_given_laws.proofs.PartsOfFolds.{Answers, HaveSome}
use Rattle.ess_given_offers_laws.specs.Seen.{OverDomains, OverAny, AlternativeHas}
use Rattle.ess_given_offers_laws.proofs.PartsOfPicks.{through-each}
use Rattle.ess_given_offers_laws.proofs.PartsOfLookups.{within-has}
use Rattle.ess_given_ordered_laws.specs.OrderedNames.{OfEither}

module _ (w : Wanted) where
  -- ---- names

  -- The name may be bound over a domain, and put in for any name.
  pub record Renames (x : Text) : Type 0 where
    pub over : OverDomains w x
    pub puts : (y : Text) → Puts w y (name_ex x)

  -- The same of each of the names.
  abbrev pub EachRenames : List Text → Type 0
  EachRenames [] = Unit {0}
  EachRenames (x ∷ xs) = Renames x × EachRenames xs

  -- The names for what is picked within may be bound over any source, those behind them are such ones.
  abbrev pub RenamesAlong : List Text → Ex → Type 0
  RenamesAlong [] e = Unit {0}
  RenamesAlong (y ∷ ys) e = OverAny w y × OfEither (picked_within e) (EachRenames ys) (RenamesAlong ys)

  -- ---- numbers

  place-has : (z x : Text) (d : Dom) → OverDomains w z → IsTrue (w.name x) → IsTrue (w.dom d) → PartsHave w (place_in z x d)
  place-has z x d o n h = go (is_from_one d)
    where
      go : (b : Bool) → PartsHave w (if b then name_ex x else ex2 false Op2.Plus (count_below z d (name_ex x)) (number_ex (pos 1)))
      go true = n
      go false = (((tt, (o.1, h, ((o.0, (n, tt)), tt))), tt), (tt, tt))

  behind-has : (v x : Text) (d : Dom) (gs : Gens) (i : Ex) → IsTrue (w.name v) → OverDomains w x → IsTrue (w.dom d) → GensHave w gs →
      PartsHave w i → PartsHave w (number_behind v x d gs i)
  behind-has v x d gs i n o h k j = (j, (((tt, (o.1, h, ((o.0, (n, tt)), k))), tt), tt))

  item-has : (z x : Text) (d : Dom) (e i : Ex) → OverDomains w z → OverDomains w x → IsTrue (w.dom d) → PartsHave w e → PartsHave w i →
      AlternativeHas w (Some (numbered_item z x d e i))
  item-has z x d e i o q h k j = (k, (q.1, h, ((place-has z x d o q.0 h, (j, tt)), tt)))

  -- ---- items by their numbers

  -- No comprehension is one.
  pub no-item : (z : Text) (ys : List Text) (e : Ex) (gs : Gens) → HaveSome w (ordered_lookup z ys (comp_ex e gs))
  no-item z [] e gs = tt
  no-item z (y ∷ ys) e gs = tt

  -- The bound name has what is wanted as a name, wherever it may be bound over a domain.
  module _ (used : (a : Text) → IsTrue (w.binds (name_pat a)) → IsTrue (w.name a)) where
    pub gens-item : (ws : List Text) → EachRenames ws → (e : Ex) (gs : Gens) (i : Ex) → PartsHave w e → GensHave w gs → PartsHave w i →
        AlternativeHas w (numbered_gens ws e gs i)
    gens-item [] r e gs i h k j = tt
    gens-item (v ∷ ws) r e no_gens i h k j = (h, ((j, (tt, tt)), tt))
    gens-item (v ∷ ws) r e (cond c gs) i h k j = go (numbered_gens ws e gs i) (gens-item ws r.1 e gs i h k.1 j)
      where
        go : (o : Option Alternative) → AlternativeHas w o → AlternativeHas w (option_map (under_condition c) o)
        go None q = tt
        go (Some a) q = (q.0, (k.0, q.1))
    gens-item (v ∷ ws) r e (over (name_pat x) d gs) i h k j = go (is_atom_dom d) (are_none gs)
        (numbered_gens ws (substitute (for_name x (name_ex v)) e) (substitute_gens (for_name x (name_ex v)) gs) (number_behind v x d gs i))
        (gens-item ws r.1 (substitute (for_name x (name_ex v)) e) (substitute_gens (for_name x (name_ex v)) gs) (number_behind v x d gs i)
        (put-parts w x (name_ex v) (r.0.puts x) e h) (put-gens w x (name_ex v) (r.0.puts x) gs k.2)
        (behind-has v x d gs i r.0.over.0 (used x k.0, k.0) k.1 k.2 j))
      where
        go : (b c : Bool) (o : Option Alternative) → AlternativeHas w o → AlternativeHas w (if b then
            (if c then Some (numbered_item x v d (substitute (for_name x (name_ex v)) e) i) else option_map (at_each_value v d) o) else None)
        go false c o q = tt
        go true true o q = item-has x v d (substitute (for_name x (name_ex v)) e) i (used x k.0, k.0) r.0.over k.1
            (put-parts w x (name_ex v) (r.0.puts x) e h) j
        go true false None q = tt
        go true false (Some a) q = (q.0, (r.0.over.1, k.1, q.1))
    gens-item (v ∷ ws) r e (over (tuple_pat ps) d gs) i h k j = tt
    gens-item (v ∷ ws) r e (from p t gs) i h k j = tt

    module _ (z : Text) (o : OverDomains w z) where
      several-has : (ws : List Text) → EachRenames ws → (e : Ex) (gs : Gens) (i : Ex) → PartsHave w (comp_ex e gs) → PartsHave w i →
          HaveSome w (option_map (λ a. a ∷ []) (numbered_gens ws e gs i))
      several-has ws r e gs i h j = go (numbered_gens ws e gs i) (gens-item ws r e gs i h.0 h.1 j)
        where
          go : (p : Option Alternative) → AlternativeHas w p → HaveSome w (option_map (λ a. a ∷ []) p)
          go None q = tt
          go (Some a) q = (q, tt)

      over-has : (ws : List Text) → EachRenames ws → (e : Ex) (gs : Gens) (i : Ex) → PartsHave w (comp_ex e gs) → PartsHave w i →
          HaveSome w (numbered_over z ws e gs i)
      over-has ws r e (over (name_pat x) d no_gens) i h k = go (is_atom_dom d)
        where
          go : (b : Bool) → HaveSome w (if b then Some (numbered_item z x d e i ∷ []) else None)
          go true = (item-has z x d e i o (used x h.1.0, h.1.0) h.1.1 h.0 k, tt)
          go false = tt
      over-has ws r e gs i h k = several-has ws r e gs i h k

      numbered-has : (ws : List Text) → EachRenames ws → (e : Ex) → PartsHave w e → HaveSome w (numbered_lookup z ws e)
      numbered-has ws r (node_ex b (index (by_value ∷ [])) (more_exs (comp_ex e gs) (more_exs i no_exs))) h =
          over-has ws r e gs i h.0 h.1.0
      numbered-has ws r _ h = tt

      -- What is picked out of such an item.
      pub ordered-has : (ys : List Text) (e : Ex) → RenamesAlong ys e → PartsHave w e → HaveSome w (ordered_lookup z ys e)
      ordered-has [] e r h = tt
      ordered-has (y ∷ ys) e r h = go (picked_within e) (within-has w e h) r.1 (ordered-has ys)
        where
          behind : (l : Option (List Alternative)) → HaveSome w l → HaveSome w (and_then l (λ l. lookup_through_each y 1 l e))
          behind None k = tt
          behind (Some l) k = through-each w y r.0.0.0 r.0.1 1 l e k h

          go : (p : Option Ex) → Answers w p → OfEither p (EachRenames ys) (RenamesAlong ys) →
              ((t : Ex) → RenamesAlong ys t → PartsHave w t → HaveSome w (ordered_lookup z ys t)) →
              HaveSome w (elim p [
                | None ↦ numbered_lookup z ys e
                | Some t ↦ and_then (ordered_lookup z ys t) (λ l. lookup_through_each y 1 l e)
              ])
          go None k q f = numbered-has ys q e h
          go (Some t) k q f = behind (ordered_lookup z ys t) (f t q k)
