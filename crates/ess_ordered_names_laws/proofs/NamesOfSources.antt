-- Sources by their indices, and sources that are items, have the names of what they are made of.
use Rattle.std.proofs.Common.{Bool, true, false, if◌then◌else◌, List, [], ◌∷◌, Option, Some, None, option_map}
use Rattle.std.specs.Prelude.{IsTrue}
use Rattle.ess_semantics.specs.Lists.{and_then, or_default}
use Rattle.ess_semantics.specs.Values.{Text, a_matrix}
use Rattle.ess_semantics.specs.Names.{Names}
use Rattle.ess_semantics.specs.Trees.{word, name_pat, Ex, comp_ex, Gens, no_gens, over, from, cond, Dom, bool_dom, fun1}
use Rattle.ess_semantics.specs.Types.{Ty, compound2}
use Rattle.ess_semantics.specs.Typing.{type_of}
use Rattle.ess_semantics.specs.NamesAt.{names_behind}
use Rattle.ess_semantics.specs.ExpressionJudgements.{forgets_order}
use Rattle.ess_rules_laws.specs.Listings.{Alternative}
use Rattle.ess_refine_laws.specs.IndexedLists.{of_matrix}
use Rattle.ess_refine_laws.specs.AllRules.{Supply, only_one}
use Rattle.ess_open_rules_laws.specs.OpenGenerators.{Opened, with_first, opened_here, is_plain_over, at_first_open, put_before, behind_plain}
use Rattle.ess_ordered_laws.specs.NumberedItems.{ordered_lookup}
use Rattle.ess_ordered_laws.specs.ToldAxes.{told_axis}
use Rattle.ess_ordered_laws.specs.IndexedSources.{is_by_index, items_at, indexed_term, indexed_source, indexed_behind}
use Rattle.ess_ordered_laws.specs.SourcesOfItems.{may_be_taken, over_the_item, item_source, item_behind, over_an_item}
use Rattle.ess_chain_names_laws.specs.NamesHave.{NamesHave, GensNamesHave, DomNamesHave, EachHas}
use Rattle.ess_chain_names_laws.proofs.NamesHave.{append-names}
use Rattle.ess_chain_names_laws.proofs.NamesOfFolds.{Answers, HaveSome, when, under}
use Rattle.ess_ordered_names_laws.proofs.NamesOfLookups.{ordered-names}
use Rattle.ess_ordered_names_laws.proofs.NamesOfAxes.{told-axis-has}

module _ (u : Text → Bool) where
  -- Both parts of the generators have such names.
  abbrev pub OpenedHas : Option Opened → Type 0
  OpenedHas None = Unit {0}
  OpenedHas (Some t) = GensNamesHave u t.before × GensNamesHave u t.after

  opened-behind : (f : Gens → Gens) → ((gs : Gens) → GensNamesHave u gs → GensNamesHave u (f gs)) → (o : Option Opened) → OpenedHas o →
      OpenedHas (option_map (with_first f) o)
  opened-behind f k None h = tt
  opened-behind f k (Some t) h = (k t.before h.0, h.1)

  -- So have both parts of generators that have them.
  pub opened-names : (gs : Gens) → GensNamesHave u gs → OpenedHas (at_first_open gs)
  opened-names no_gens h = tt
  opened-names (over p d gs) h =
      go (is_plain_over p d) (opened-behind (over p d) (λ hs k. (h.0, h.1, k)) (at_first_open gs) (opened-names gs h.2))
    where
      go : (b : Bool) → OpenedHas (option_map (with_first (over p d)) (at_first_open gs)) →
          OpenedHas (if b then option_map (with_first (over p d)) (at_first_open gs) else Some (opened_here (over p d gs)))
      go true k = k
      go false k = (tt, h)
  opened-names (from p e gs) h = (tt, h)
  opened-names (cond c gs) h = opened-behind (cond c) (λ hs k. (h.0, k)) (at_first_open gs) (opened-names gs h.1)

  module _ (x : Text) (n : IsTrue (u x)) where
    items-names : (t : Ex) → NamesHave u t → (d : Dom) → DomNamesHave u d → (o : Option Ty) → Answers u (of_matrix o (items_at x d t))
    items-names t h d k (Some (compound2 a_matrix i ty)) = ((h, (n, tt)), (n, k, tt))
    items-names t h d k _ = tt

    term-names : (g : Names Ty) (t : Ex) → NamesHave u t → Answers u (indexed_term g x t)
    term-names g t h = under u (is_by_index t) _ (go (told_axis t) (told-axis-has u t h))
      where
        go : (o : Option Dom) → DomNamesHave u (or_default o bool_dom) →
            Answers u (and_then o (λ d. of_matrix (type_of t g) (items_at x d t)))
        go None k = tt
        go (Some d) k = items-names t h d k (type_of t g)

    source-names : (g : Names Ty) (e : Ex) → NamesHave u e → Answers u (indexed_source g x e)
    source-names g (comp_ex e (from (name_pat y) t hs)) h = go (indexed_term g x t) (term-names g t h.1.1)
      where
        go : (o : Option Ex) → Answers u o → Answers u (option_map (λ l. comp_ex e (from (name_pat y) l hs)) o)
        go None k = tt
        go (Some l) k = (h.0, (h.1.0, k, h.1.2))
    source-names g _ h = tt

  -- ---- behind plain generators

  before-names : (gs : Gens) → GensNamesHave u gs → (o : Option Ex) → Answers u o → Answers u (and_then o (put_before gs))
  before-names gs h None k = tt
  before-names gs h (Some (comp_ex e ks)) k = (k.0, append-names u gs ks h k.1)
  before-names gs h (Some _) k = tt

  -- What a rule makes at the first generator that isn't plain has them, where it does so at any.
  pub behind-names : (r : Gens → Ex → Option Ex) → ((gs : Gens) (e : Ex) → NamesHave u e → Answers u (r gs e)) → (e : Ex) → NamesHave u e →
      Answers u (behind_plain r e)
  behind-names r f (comp_ex e gs) h = go (at_first_open gs) (opened-names gs h.1)
    where
      go : (o : Option Opened) → OpenedHas o → Answers u (and_then o (λ t. and_then (r t.before (comp_ex e t.after)) (put_before t.before)))
      go None k = tt
      go (Some t) k = before-names t.before k.0 (r t.before (comp_ex e t.after)) (f t.before (comp_ex e t.after) (h.0, k.1))
  behind-names r f _ h = tt

  -- A source by its indices, at the first generator that isn't plain.
  pub indexed-names : (x : Text) → IsTrue (u x) → (g : Names Ty) (e : Ex) → NamesHave u e → Answers u (indexed_behind g x e)
  indexed-names x n g e h = behind-names (λ gs. indexed_source (names_behind gs g) x)
      (λ gs f k. source-names x n (names_behind gs g) f k) e h

  -- ---- sources that are items

  module _ (s : Supply) (n : IsTrue (u s.third)) (ks : EachHas u s.parts) (o : IsTrue (u s.other)) where
    item-names : (any : Bool) (e : Ex) → NamesHave u e → Answers u (item_source s any e)
    item-names any (comp_ex e (from (name_pat y) t hs)) h =
        go (ordered_lookup s.third s.parts t) (ordered-names u s.third s.parts t n ks h.1.1)
      where
        go : (l : Option (List Alternative)) → HaveSome u l → Answers u (and_then (only_one l)
            (λ a. if may_be_taken any a then Some (over_the_item s.other y e hs a) else None))
        go None k = tt
        go (Some []) k = tt
        go (Some (a ∷ [])) k = when u (may_be_taken any a) (over_the_item s.other y e hs a) (h.0, (o, k.0, (h.1.0, o, h.1.2)))
        go (Some (a ∷ b ∷ l)) k = tt
    item-names any _ h = tt

    behind-item : (any : Bool) (e : Ex) → NamesHave u e → Answers u (item_behind s any e)
    behind-item any e h = behind-names (λ gs. item_source s any) (λ gs f k. item-names any f k) e h

    -- At a word, or alone.
    pub over-item-names : (e : Ex) → NamesHave u e → Answers u (over_an_item s e)
    over-item-names (fun1 m f (comp_ex e gs)) h =
        under u (forgets_order (word f)) _ (go (item_behind s true (comp_ex e gs)) (behind-item true (comp_ex e gs) h.0))
      where
        go : (l : Option Ex) → Answers u l → Answers u (option_map (fun1 m f) l)
        go None k = tt
        go (Some x) k = (k, tt)
    over-item-names (comp_ex e gs) h = behind-item false (comp_ex e gs) h
    over-item-names _ h = tt
