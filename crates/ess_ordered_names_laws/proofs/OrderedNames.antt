-- The rules of comprehensions whose items have an order bring no names but those that they take.
use Rattle.std.proofs.Common.{◌≡◌, refl, subst, ℕ, zero, suc, ◌+◌, ◌<◌, ◌≤◌, ◌^◌, Bool, true, false, ◌&&◌, ◌||◌, if◌then◌else◌, List, [], ◌∷◌, Option, Some, None, option_map, arith}
use Rattle.std.specs.Prelude.{IsTrue}
use Rattle.ess_semantics.specs.Lists.{and_then, or_else}
use Rattle.ess_semantics.specs.Values.{Text}
use Rattle.ess_semantics.specs.Names.{Names}
use Rattle.ess_semantics.specs.Trees.{name_pat, Ex, Exs, node_ex, comp_ex, seen_ex, no_exs, more_exs, Gens, from}
use Rattle.ess_semantics.specs.Types.{Ty}
use Rattle.ess_semantics.specs.Typing.{type_of}
use Rattle.ess_semantics.specs.Contexts.{In, fill}
use Rattle.ess_rules_laws.specs.Listings.{Alternative}
use Rattle.ess_rules_laws.specs.LiteralRules.{nth}
use Rattle.ess_rules_laws.specs.AlternativeLookups.{select_each, select_whole_each}
use Rattle.ess_refine_laws.specs.AllRules.{Supply}
use Rattle.ess_kind_rules_laws.specs.TermLookups.{looked_up}
use Rattle.ess_open_rules_laws.specs.OpenRules.{gives_scalar, is_compound_ty}
use Rattle.ess_ordered_laws.specs.NumberedItems.{ordered_lookup}
use Rattle.ess_ordered_laws.specs.PickedSources.{is_untold, source_lookup, each_source, picked_source}
use Rattle.ess_ordered_laws.specs.OrderedRules.{OrderedRule, an_item, of_an_item, source_by_indices, source_of_an_item, item_alone, keeps_order, operand_lookup, over_operand, at_operand, ordered_rewrite}
use Rattle.conjure_model_laws.specs.ToldApart.{reserved}
use Rattle.ess_chain_names_laws.specs.NamesHave.{NamesHave, GensNamesHave, EachHas}
use Rattle.ess_chain_names_laws.specs.Steps.{supply_at}
use Rattle.ess_chain_names_laws.specs.SparedNames.{Spares}
use Rattle.ess_chain_names_laws.proofs.NamesHave.{part-names, names-wider}
use Rattle.ess_chain_names_laws.proofs.NamesOfFolds.{Answers, HaveAll, HaveSome, under}
use Rattle.ess_chain_names_laws.proofs.SparedNames.{up_to, wider, given, names-given, is_before, both-false, before-none}
use Rattle.ess_ordered_names_laws.specs.OrderedNames.{OtherHas, TakenHave, AtSource, AtSources, WherePicked, ViewHas, PickHas, OrderedRulesKeepNames}
use Rattle.ess_ordered_names_laws.proofs.NamesOfLookups.{nth-names, whole-names, operand-names, ordered-names}
use Rattle.ess_ordered_names_laws.proofs.NamesOfPicks.{either-picks, picked-names}
use Rattle.ess_ordered_names_laws.proofs.NamesOfSources.{indexed-names, over-item-names}

-- An operand that is there is over such a source.
abbrev Sourced : (Ex → Type 0) → Option Ex → Type 0
Sourced P None = Unit {0}
Sourced P (Some a) = AtSource P a

nth-source : (P : Ex → Type 0) (es : Exs) (k : ℕ) → AtSources P es → Sourced P (nth es k)
nth-source P no_exs k h = tt
nth-source P (more_exs a es) zero h = tt
nth-source P (more_exs a es) (suc zero) h = h.0
nth-source P (more_exs a es) (suc (suc k)) h = nth-source P es (suc k) h.1

module _ (u : Text → Bool) where
  -- Of two answers, the first that is there.
  pub either : (o p : Option Ex) → Answers u o → Answers u p → Answers u (or_else o p)
  either None p h k = k
  either (Some e) p h k = h

  -- ---- items

  module _ (s : Supply) (g : Names Ty) (r : OrderedRule) (t : TakenHave u s r) where
    looked : (e : Ex) → NamesHave u e → HaveSome u (ordered_lookup s.third s.parts e)
    looked e h = ordered-names u s.third s.parts e t.third t.parts h

    alone-names : (e : Ex) → NamesHave u e → Answers u (item_alone s g e)
    alone-names e h = go (ordered_lookup s.third s.parts e) (looked e h)
      where
        go : (o : Option (List Alternative)) → HaveSome u o →
            Answers u (and_then o (λ l. if gives_scalar g e then select_whole_each s.one l e else None))
        go None k = tt
        go (Some l) k = under u (gives_scalar g e) (select_whole_each s.one l e) (whole-names u s.one l e t.one k)

    -- A comprehension over each alternative of its source.
    each-source-names : (x y : Text) (l : List Alternative) (e : Ex) (hs : Gens) → IsTrue (u x) → IsTrue (u y) → HaveAll u l →
        NamesHave u e → GensNamesHave u hs → HaveAll u (each_source x y l e hs)
    each-source-names x y [] e hs n m h k j = tt
    each-source-names x y (a ∷ l) e hs n m h k j = (((k, (m, n, j)), (n, h.0, tt)), each-source-names x y l e hs n m h.1 k j)

    comp-names : (e : Ex) → NamesHave u e → AtSource (PickHas u s) e → HaveSome u (picked_source s g e)
    comp-names (comp_ex e (from (name_pat y) a hs)) h p =
        go (is_untold s g a) (source_lookup s g a) (either-picks u (ordered_lookup s.third s.parts a) (looked_up g s.third s.parts a)
        (looked a h.1.1) (picked-names u g s.third s.parts t.third t.parts a h.1.1 p.1))
      where
        go : (b : Bool) (o : Option (List Alternative)) → HaveSome u o →
            HaveSome u (if b then option_map (λ l. each_source s.other y l e hs) o else None)
        go true None k = tt
        go true (Some l) k = each-source-names s.other y l e hs p.0 h.1.0 k h.0 h.1.2
        go false o k = tt
    comp-names _ h p = tt

    operand-looked : (e a : Ex) → NamesHave u a → (keeps_order e ≡ true → AtSource (PickHas u s) a) → HaveSome u (operand_lookup s g e a)
    operand-looked e a h p = either-picks u (ordered_lookup s.third s.parts a) (if keeps_order e then picked_source s g a else None)
        (looked a h) (go (keeps_order e) p)
      where
        go : (b : Bool) → (b ≡ true → AtSource (PickHas u s) a) → HaveSome u (if b then picked_source s g a else None)
        go true q = comp-names a h (q refl)
        go false q = tt

    over-names : (k : ℕ) (e a : Ex) → NamesHave u e → NamesHave u a → (keeps_order e ≡ true → AtSource (PickHas u s) a) →
        Answers u (over_operand s g k e a)
    over-names k e a h i p = go (operand_lookup s g e a) (operand-looked e a i p)
      where
        go : (o : Option (List Alternative)) → HaveSome u o → Answers u (and_then o
            (λ l. if gives_scalar g e && is_compound_ty (type_of a g) then select_each s.one k l e else None))
        go None j = tt
        go (Some l) j = under u (gives_scalar g e && is_compound_ty (type_of a g)) (select_each s.one k l e)
            (operand-names u s.one k l e t.one j h)

    at-names : (k : ℕ) (e : Ex) → NamesHave u e → WherePicked (PickHas u s) of_an_item e → Answers u (at_operand s g k e)
    at-names k (node_ex b op es) h p = go (nth es k) (nth-names u es k h) (λ q. nth-source (PickHas u s) es k (p q))
      where
        go : (o : Option Ex) → Answers u o → (keeps_order (node_ex b op es) ≡ true → Sourced (PickHas u s) o) →
            Answers u (and_then o (over_operand s g k (node_ex b op es)))
        go None j q = tt
        go (Some a) j q = over-names k (node_ex b op es) a h j q
    at-names k _ h p = tt

  -- ---- each rule

  each-names : (s : Supply) (g : Names Ty) (r : OrderedRule) → TakenHave u s r → (e : Ex) → NamesHave u e →
      WherePicked (PickHas u s) r e → Answers u (ordered_rewrite s g r e)
  each-names s g an_item t e h p = alone-names s g an_item t e h
  each-names s g of_an_item t e h p =
      either (at_operand s g 1 e) (at_operand s g 2 e) (at-names s g of_an_item t 1 e h p) (at-names s g of_an_item t 2 e h p)
  each-names s g source_by_indices t e h p = indexed-names u s.one t.one g e h
  each-names s g source_of_an_item t e h p = over-item-names u s t.third t.parts t.other e h

  pub rule-names : (s : Supply) (g : Names Ty) (r : OrderedRule) (e f : Ex) → ordered_rewrite s g r e ≡ Some f → TakenHave u s r →
      WherePicked (PickHas u s) r e → NamesHave u e → NamesHave u f
  rule-names s g r e f q t p h = subst (Answers u) q (each-names s g r t e h p)

-- ---- spared names

taken-given : (u : Text → Bool) (n k m : ℕ) (r : OrderedRule) → n + 3 + k ≤ m → TakenHave (up_to u m) (supply_at n k) r
taken-given u n k m r l = record {
  one = given u m n (omega (arith, l));
  other = over r;
  third = given u m (n + 2) (omega (arith, l));
  parts = names-given u m (n + 3) k (omega (arith, l));
}
  where
    over : (r : OrderedRule) → OtherHas (up_to u m) (supply_at n k) r
    over an_item = tt
    over of_an_item = tt
    over source_by_indices = tt
    over source_of_an_item = given u m (n + 1) (omega (arith, l))

-- Either of the two.
abbrev either_of : (Text → Bool) → (Text → Bool) → Text → Bool
either_of u v a = u a || v a

or-left : (b c : Bool) → IsTrue b → IsTrue (b || c)
or-left true c h = refl
or-left false c h = cc

or-right : (b c : Bool) → IsTrue c → IsTrue (b || c)
or-right true c h = refl
or-right false c h = h

-- What holds of sources of operands in one way holds in a wider one.
module _ (P Q : Ex → Type 0) (f : (t : Ex) → P t → Q t) where
  source-wider : (e : Ex) → AtSource P e → AtSource Q e
  source-wider (comp_ex e (from p t gs)) h = f t h
  source-wider _ h = tt

  sources-wider : (es : Exs) → AtSources P es → AtSources Q es
  sources-wider no_exs h = tt
  sources-wider (more_exs e es) h = (source-wider e h.0, sources-wider es h.1)

  picked-wider : (r : OrderedRule) (e : Ex) → WherePicked P r e → WherePicked Q r e
  picked-wider of_an_item (node_ex b op es) h = λ q. sources-wider es (h q)
  picked-wider of_an_item _ h = tt
  picked-wider an_item e h = tt
  picked-wider source_by_indices e h = tt
  picked-wider source_of_an_item e h = tt

module _ (v w : Text → Bool) (wide : (a : Text) → IsTrue (v a) → IsTrue (w a)) where
  each-wider : (ns : List Text) → EachHas v ns → EachHas w ns
  each-wider [] h = tt
  each-wider (a ∷ ns) h = (wide a h.0, each-wider ns h.1)

  view-wider : (t : Ex) → ViewHas v t → ViewHas w t
  view-wider (seen_ex r d ns es) h = each-wider ns h
  view-wider (node_ex b op (more_exs t es)) h = view-wider t h
  view-wider _ h = tt

spares-behind : (n k m : ℕ) (g : Names Ty) (r : OrderedRule) (a b : Ex) → ordered_rewrite (supply_at n k) g r a ≡ Some b →
    n + 3 + k ≤ m → (v : Text → Bool) → WherePicked (ViewHas v) r a → ((j : ℕ) → m ≤ j → j < 2 ^ 64 → v (reserved j) ≡ false) →
    (c : In) → Spares n (fill c a) → Spares m (fill c b)
spares-behind n k m g r a b q l v p t c s =
    let u = either_of s.among v in
    let picked = picked-wider (ViewHas v) (PickHas (up_to u m) (supply_at n k))
    (λ x h. (
      given u m (n + 1) (omega (arith, l)),
      view-wider v (up_to u m) (λ y i. wider u m y (or-right (s.among y) (v y) i)) x h,
    )) r a p in
    record {
      among = up_to u m;
      has = part-names (up_to u m) a b
          (rule-names (up_to u m) (supply_at n k) g r a b q (taken-given u n k m r l) picked) c
          (names-wider s.among (up_to u m) (λ y i. wider u m y (or-left (s.among y) (v y) i)) (fill c a) s.has);
      spared = λ j i z. both-false (u (reserved j)) (is_before m (reserved j))
          (both-false (s.among (reserved j)) (v (reserved j)) (s.spared j (omega (arith, l, i)) z) (t j i z)) (before-none m j i z);
    }

pub ordered-rules-keep-names : OrderedRulesKeepNames
ordered-rules-keep-names = record {
  by_each_rule = λ u s g r e f q t p. rule-names u s g r e f q t p;
  spared = spares-behind;
}
