-- Items of comprehensions by number, and operators on what is picked, have the names of what they are made of.
use Rattle.std.proofs.Common.{ℕ, zero, suc, Bool, true, false, ◌&&◌, if◌then◌else◌, List, [], ◌∷◌, pos, Option, Some, None, option_map, is_some}
use Rattle.std.specs.Prelude.{IsTrue}
use Rattle.ess_semantics.specs.declared.words.Op2.{Op2}
use Rattle.ess_semantics.specs.Lists.{and_then}
use Rattle.ess_semantics.specs.Values.{Text}
use Rattle.ess_semantics.specs.Trees.{by_value, index, name_pat, Ex, Exs, number_ex, name_ex, node_ex, comp_ex, ex2, no_exs, more_exs, Gens, no_gens, over, cond, Dom}
use Rattle.ess_semantics.specs.Substitution.{substitute, substitute_gens, for_name}
use Rattle.ess_rules_laws.specs.Listings.{Alternative}
use Rattle.ess_rules_laws.specs.ListedSources.{laid_out}
use Rattle.ess_rules_laws.specs.LiteralRules.{nth}
use Rattle.ess_rules_laws.specs.Lookups.{put_nth, is_plain, picking}
use Rattle.ess_rules_laws.specs.AlternativeLookups.{each_picked, select_each, select_whole_each, each_through, lookup_through_each}
use Rattle.ess_refine_laws.specs.ItemsOnce.{is_atom_dom}
use Rattle.ess_refine_laws.specs.ExtremeRules.{are_none}
use Rattle.ess_kind_rules_laws.specs.TermLookups.{picks, picked_within, count_below}
use Rattle.ess_ordered_laws.specs.NumberedItems.{is_from_one, place_in, numbered_item, number_behind, under_condition, at_each_value, numbered_gens, numbered_over, numbered_lookup, ordered_lookup}
use Rattle.ess_chain_names_laws.specs.NamesHave.{NamesHave, AllNamesHave, GensNamesHave, DomNamesHave, EachHas}
use Rattle.ess_chain_names_laws.proofs.NamesHave.{put-names, put-gens, for-name}
use Rattle.ess_chain_names_laws.proofs.NamesOfFolds.{Answers, HaveAll, HaveSome, when}

module _ (u : Text → Bool) where
  -- ---- operands

  pub nth-names : (es : Exs) (k : ℕ) → AllNamesHave u es → Answers u (nth es k)
  nth-names no_exs k h = tt
  nth-names (more_exs a es) zero h = tt
  nth-names (more_exs a es) (suc zero) h = h.0
  nth-names (more_exs a es) (suc (suc k)) h = nth-names es (suc k) h.1

  put-nth-names : (es : Exs) (k : ℕ) (b : Ex) → AllNamesHave u es → NamesHave u b → AllNamesHave u (put_nth es k b)
  put-nth-names no_exs k b h n = tt
  put-nth-names (more_exs a es) zero b h n = h
  put-nth-names (more_exs a es) (suc zero) b h n = (n, h.1)
  put-nth-names (more_exs a es) (suc (suc k)) b h n = (h.0, put-nth-names es (suc k) b h.1 n)

  -- ---- an operator on what is picked

  picking-names : (b : Bool) (x : Text) (l e : Ex) → IsTrue (u x) → NamesHave u l → NamesHave u e → NamesHave u (picking b x l e)
  picking-names true x l e n h k = ((k, (n, h, tt)), tt)
  picking-names false x l e n h k = ((k, (n, h, tt)), tt)

  each-picked-names : (b : Bool) (x : Text) (l : List Alternative) (e : Ex) → IsTrue (u x) → HaveAll u l → NamesHave u e →
      AllNamesHave u (each_picked b x l e)
  each-picked-names b x [] e n h k = tt
  each-picked-names b x (a ∷ l) e n h k = (picking-names b x (laid_out a) e n h.0 k, each-picked-names b x l e n h.1 k)

  -- A picked scalar by itself.
  pub whole-names : (x : Text) (l : List Alternative) (e : Ex) → IsTrue (u x) → HaveAll u l → Answers u (select_whole_each x l e)
  whole-names x l (node_ex b op es) n h = (each-picked-names b x l (name_ex x) n h n, tt)
  whole-names x l _ n h = tt

  -- An operator on a picked operand.
  pub operand-names : (x : Text) (k : ℕ) (l : List Alternative) (e : Ex) → IsTrue (u x) → HaveAll u l → NamesHave u e →
      Answers u (select_each x k l e)
  operand-names x k l (node_ex b op es) n h i = when u (is_plain op && is_some (nth es k)) _
      (each-picked-names b x l (node_ex b op (put_nth es k (name_ex x))) n h (put-nth-names es k (name_ex x) i n), tt)
  operand-names x k l _ n h i = tt

  each-through-names : (x : Text) (l : List Alternative) (e : Ex) → IsTrue (u x) → HaveAll u l → NamesHave u e →
      HaveAll u (each_through x l e)
  each-through-names x [] e n h k = tt
  each-through-names x (a ∷ l) e n h k = ((k, (n, h.0, tt)), each-through-names x l e n h.1 k)

  when-all : (c : Bool) (l : List Alternative) → HaveAll u l → HaveSome u (if c then Some l else None)
  when-all true l h = h
  when-all false l h = tt

  pub through-names : (x : Text) (k : ℕ) (l : List Alternative) (e : Ex) → IsTrue (u x) → HaveAll u l → NamesHave u e →
      HaveSome u (lookup_through_each x k l e)
  through-names x k l (node_ex b op es) n h i = when-all (is_plain op && is_some (nth es k)) _
      (each-through-names x l (node_ex b op (put_nth es k (name_ex x))) n h (put-nth-names es k (name_ex x) i n))
  through-names x k l _ n h i = tt

  -- ---- items by number

  -- An alternative has such names.
  abbrev HaveOne : Option Alternative → Type 0
  HaveOne None = Unit {0}
  HaveOne (Some a) = NamesHave u a.item × GensNamesHave u a.gens

  count-names : (z : Text) (d : Dom) (e : Ex) → IsTrue (u z) → DomNamesHave u d → NamesHave u e → NamesHave u (count_below z d e)
  count-names z d e n h k = ((tt, (n, h, ((n, (k, tt)), tt))), tt)

  place-names : (z x : Text) (d : Dom) → IsTrue (u z) → IsTrue (u x) → DomNamesHave u d → NamesHave u (place_in z x d)
  place-names z x d n m h = go (is_from_one d)
    where
      go : (b : Bool) → NamesHave u (if b then name_ex x else ex2 false Op2.Plus (count_below z d (name_ex x)) (number_ex (pos 1)))
      go true = m
      go false = (count-names z d (name_ex x) n h m, (tt, tt))

  item-names : (z x : Text) (d : Dom) (e i : Ex) → IsTrue (u z) → IsTrue (u x) → DomNamesHave u d → NamesHave u e → NamesHave u i →
      HaveOne (Some (numbered_item z x d e i))
  item-names z x d e i n m h k j = (k, (m, h, ((place-names z x d n m h, (j, tt)), tt)))

  -- ---- several generators, and conditions

  behind-names : (w x : Text) (d : Dom) (gs : Gens) (i : Ex) → IsTrue (u w) → IsTrue (u x) → DomNamesHave u d → GensNamesHave u gs →
      NamesHave u i → NamesHave u (number_behind w x d gs i)
  behind-names w x d gs i n m h k j = (j, (((tt, (m, h, ((m, (n, tt)), k))), tt), tt))

  condition-names : (c : Ex) → NamesHave u c → (o : Option Alternative) → HaveOne o → HaveOne (option_map (under_condition c) o)
  condition-names c h None k = tt
  condition-names c h (Some a) k = (k.0, (h, k.1))

  value-names : (w : Text) (d : Dom) → IsTrue (u w) → DomNamesHave u d → (o : Option Alternative) → HaveOne o →
      HaveOne (option_map (at_each_value w d) o)
  value-names w d n h None k = tt
  value-names w d n h (Some a) k = (k.0, (n, h, k.1))

  -- Either way over the domain of an atom.
  domain-names : (b c : Bool) (o p : Option Alternative) → HaveOne o → HaveOne p → HaveOne (if b then (if c then o else p) else None)
  domain-names true true o p h k = h
  domain-names true false o p h k = k
  domain-names false c o p h k = tt

  gens-names : (ws : List Text) → EachHas u ws → (e : Ex) (gs : Gens) (i : Ex) → NamesHave u e → GensNamesHave u gs → NamesHave u i →
      HaveOne (numbered_gens ws e gs i)
  gens-names [] n e gs i h k j = tt
  gens-names (w ∷ ws) n e no_gens i h k j = (h, ((j, (tt, tt)), tt))
  gens-names (w ∷ ws) n e (cond c gs) i h k j = condition-names c k.0 (numbered_gens ws e gs i) (gens-names ws n.1 e gs i h k.1 j)
  gens-names (w ∷ ws) n e (over (name_pat x) d gs) i h k j =
      let put = for_name x (name_ex w) in
      let named = for-name u x (name_ex w) n.0 in
      let body = put-names u put named e h in
      let rest = substitute_gens put gs in
      let number = number_behind w x d gs i in
      domain-names (is_atom_dom d) (are_none gs) (Some (numbered_item x w d (substitute put e) i))
      (option_map (at_each_value w d) (numbered_gens ws (substitute put e) rest number))
      (item-names x w d (substitute put e) i k.0 n.0 k.1 body j)
      (value-names w d n.0 k.1 (numbered_gens ws (substitute put e) rest number)
      (gens-names ws n.1 (substitute put e) rest number body (put-gens u put named gs k.2) (behind-names w x d gs i n.0 k.0 k.1 k.2 j)))
  gens-names (w ∷ ws) n e _ i h k j = tt

  -- ---- the lookup

  one-names : (o : Option Alternative) → HaveOne o → HaveSome u (option_map (λ a. a ∷ []) o)
  one-names None h = tt
  one-names (Some a) h = (h, tt)

  over-names : (z : Text) (ws : List Text) (e : Ex) (gs : Gens) (i : Ex) → IsTrue (u z) → EachHas u ws → NamesHave u e →
      GensNamesHave u gs → NamesHave u i → HaveSome u (numbered_over z ws e gs i)
  over-names z ws e (over (name_pat x) d no_gens) i n m h k j = when-all (is_atom_dom d) (numbered_item z x d e i ∷ [])
      (item-names z x d e i n k.0 k.1 h j, tt)
  over-names z ws e gs i n m h k j = one-names (numbered_gens ws e gs i) (gens-names ws m e gs i h k j)

  numbered-names : (z : Text) (ws : List Text) (e : Ex) → IsTrue (u z) → EachHas u ws → NamesHave u e →
      HaveSome u (numbered_lookup z ws e)
  numbered-names z ws (node_ex b (index (by_value ∷ [])) (more_exs (comp_ex e gs) (more_exs i no_exs))) n m h =
      over-names z ws e gs i n m h.0.0 h.0.1 h.1.0
  numbered-names z ws _ n m h = tt

  within-names : (e : Ex) → NamesHave u e → Answers u (picked_within e)
  within-names (node_ex b (index (q ∷ [])) (more_exs t es)) h = when u (picks t) t h.0
  within-names _ h = tt

  -- What is picked out of an item, at any depth.
  pub ordered-names : (z : Text) (ys : List Text) (e : Ex) → IsTrue (u z) → EachHas u ys → NamesHave u e →
      HaveSome u (ordered_lookup z ys e)
  ordered-names z [] e n k h = tt
  ordered-names z (y ∷ ys) e n k h = go (picked_within e) (within-names e h) (λ t p. ordered-names z ys t n k.1 p)
    where
      further : (o : Option (List Alternative)) → HaveSome u o → HaveSome u (and_then o (λ l. lookup_through_each y 1 l e))
      further None p = tt
      further (Some l) p = through-names y 1 l e k.0 p h

      go : (o : Option Ex) → Answers u o → ((t : Ex) → NamesHave u t → HaveSome u (ordered_lookup z ys t)) → HaveSome u (elim o [
        | None ↦ numbered_lookup z ys e
        | Some t ↦ and_then (ordered_lookup z ys t) (λ l. lookup_through_each y 1 l e)
      ])
      go None p f = numbered-names z ys e n k.1 h
      go (Some t) p f = further (ordered_lookup z ys t) (f t p)
