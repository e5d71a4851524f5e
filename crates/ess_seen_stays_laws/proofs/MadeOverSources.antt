-- What rules of sources make of a fold in a tree over views: the fold over each alternative of a view, or of a set that is made of two, in
-- the place of the first source.
use Rattle.std.proofs.Common.{◌≡◌, ℕ, Bool, false, List, [], ◌∷◌, Option, Some, None}
use Rattle.ess_semantics.specs.declared.words.Fun.{Fun}
use Rattle.ess_semantics.specs.Lists.{and_then}
use Rattle.ess_semantics.specs.Values.{Text}
use Rattle.ess_semantics.specs.Names.{Names, look}
use Rattle.ess_semantics.specs.Trees.{word, name_pat, Ex, comp_ex, fun1, more_exs, Gens, from}
use Rattle.ess_semantics.specs.Types.{Ty}
use Rattle.ess_semantics.specs.ExpressionJudgements.{forgets_order}
use Rattle.ess_rules_laws.specs.Listings.{Alternative}
use Rattle.ess_rules_laws.specs.ListedSources.{put_listed, source_alone, source_parts, each_put}
use Rattle.ess_rules_laws.specs.SourceRules.{is_marked}
use Rattle.ess_refine_laws.specs.AllRules.{Supply, only_one, source_listed, source_listed_once}
use Rattle.ess_kind_rules_laws.specs.ViewListings.{view_listing}
use Rattle.ess_kind_rules_laws.specs.KindRules.{view_listed}
use Rattle.ess_seen_laws.specs.ess_bare_laws.Lean.{FoldWord}
use Rattle.ess_seen_laws.specs.Seen.{Kind, Bound, from_a_set, so_many, SetTerm, Seen, number, counted, chosen, folded, of_items, Listed, last_item, item_before, Going, at_end, through, through_slots, among, where_holds}
use Rattle.ess_seen_laws.specs.Laws.{SeenTreesStayAmongMore, MembersMayBePut, NamesOfSeenTrees}
use Rattle.ess_seen_laws.specs.Apart.{Apart}
use Rattle.ess_seen_stays_laws.proofs.Offered.{Brings, IsListed, view-listed}
use Rattle.ess_seen_stays_laws.proofs.OfTwo.{AllBring, AreBrought, offered-brought}
use Rattle.ess_seen_stays_laws.proofs.Opened.{listed-put}
use Rattle.ess_seen_stays_laws.proofs.MadePlainly.{Made, made-either}
use Rattle.ess_seen_stays_laws.proofs.MadeNested.{apart-list}

module _ (cells : Text → Option (Bool × List ℕ)) (r : Names Bound) (more : SeenTreesStayAmongMore) (puts : MembersMayBePut)
    (names : NamesOfSeenTrees) (s : Supply) where
  -- ---- an alternative in the place of the first source

  module _ {m : Bool} {w : Fun} {t : Names Bound} {y : Text} {e v : Ex} {k : Kind} {hs : Gens} (x : FoldWord m w)
      (n : Apart s.one r (fun1 m w (comp_ex e (from (name_pat y) v hs)))) (g : Going cells ((y, from_a_set k) ∷ r) hs t)
      (f : Seen cells t e m) where
    abbrev Root : Ex
    Root = fun1 m w (comp_ex e (from (name_pat y) v hs))

    fold-put : (a : Alternative) → Brings cells s.one r k a → Seen cells r (fun1 m w (put_listed y e hs a)) m
    fold-put a b = let p = listed-put cells more puts names x a b (apart-list cells r n) n.unbound.0.0 g f in folded x p.going p.seen

    -- Each of them.
    folds-put : (a : Alternative) (l : List Alternative) → Brings cells s.one r k a → AllBring cells s.one r k l →
        Listed cells r (more_exs (fun1 m w (put_listed y e hs a)) (each_put m w y e hs l)) m
    folds-put a [] b i = last_item (fold-put a b)
    folds-put a (c ∷ l) b i = item_before (fold-put a b) (folds-put c l i.0 i.1)

    by-parts : (o : Option (List Alternative)) → AreBrought cells s.one r k o → Made cells r m (and_then o (λ l. source_parts l Root))
    by-parts None b = tt
    by-parts (Some []) b = absurd b
    by-parts (Some (a ∷ l)) b = made-either cells (is_marked m w) _ (of_items x (folds-put a l b.0 b.1))

    by-only : (o : Option (List Alternative)) → AreBrought cells s.one r k o →
        Made cells r m (and_then (only_one o) (λ a. source_alone a Root))
    by-only None b = tt
    by-only (Some []) b = absurd b
    by-only (Some (a ∷ [])) b = made-either cells (forgets_order (word w)) _ (fold-put a b.0)
    by-only (Some (a ∷ c ∷ l)) b = tt

    by-view : (o : Option Alternative) → IsListed cells s.one r k o → Made cells r m (and_then o (λ a. source_parts (a ∷ []) Root))
    by-view None l = tt
    by-view (Some a) l = made-either cells (is_marked m w) _ (of_items x (last_item (fold-put a l)))

    by-one-view : (o : Option Alternative) → IsListed cells s.one r k o → Made cells r m (and_then o (λ a. source_alone a Root))
    by-one-view None l = tt
    by-one-view (Some a) l = made-either cells (forgets_order (word w)) _ (fold-put a l)

  -- ---- over a view

  -- What the view offers.
  pub offered-there : {v : Ex} {k : Kind} → SetTerm cells r v k → look r s.one ≡ None →
      IsListed cells s.one r k (view_listing s.one s.other s.parts v)
  offered-there h q = view-listed cells more s.one r q h s.other s.parts

  chosen-listed : {x : Ex} {m : Bool} (f : Alternative → Ex → Option Ex) → Seen cells r x m →
      Made cells r false (view_listed f s (fun1 false Fun.ToInt x))
  chosen-listed f number = tt
  chosen-listed f (counted so_many) = tt
  chosen-listed f g = tt

  -- A fold over a view is a fold of one item, the fold over what the view offers.
  pub over-a-view : {e : Ex} {m : Bool} → Seen cells r e m → Apart s.one r e →
      Made cells r m (view_listed (λ a. source_parts (a ∷ [])) s e)
  over-a-view (counted so_many) n = tt
  over-a-view (chosen f) n = chosen-listed (λ a. source_parts (a ∷ [])) f
  over-a-view (folded w at_end f) n = tt
  over-a-view (folded w (through d k) f) n = tt
  over-a-view (folded w (through_slots c k) f) n = tt
  over-a-view (folded w (among h k) f) n = by-view w n k f _ (offered-there h n.new)
  over-a-view (folded w (where_holds c k) f) n = tt
  over-a-view f n = tt

  -- Or it is that fold itself.
  pub of-one-view : {e : Ex} {m : Bool} → Seen cells r e m → Apart s.one r e → Made cells r m (view_listed (source_alone) s e)
  of-one-view (counted so_many) n = tt
  of-one-view (chosen f) n = chosen-listed source_alone f
  of-one-view (folded w at_end f) n = tt
  of-one-view (folded w (through d k) f) n = tt
  of-one-view (folded w (through_slots c k) f) n = tt
  of-one-view (folded w (among h k) f) n = by-one-view w n k f _ (offered-there h n.new)
  of-one-view (folded w (where_holds c k) f) n = tt
  of-one-view f n = tt

  -- ---- over a set that is made of two

  module _ (g : Names Ty) where
    chosen-parts : {x : Ex} {m : Bool} → Seen cells r x m → Made cells r false (source_listed s g (fun1 false Fun.ToInt x))
    chosen-parts number = tt
    chosen-parts (counted so_many) = tt
    chosen-parts f = tt

    -- A fold over a union is a fold of two items, those over an intersection and a difference of one.
    pub over-a-source : {e : Ex} {m : Bool} → Seen cells r e m → Apart s.one r e → Made cells r m (source_listed s g e)
    over-a-source (counted so_many) n = tt
    over-a-source (chosen f) n = chosen-parts f
    over-a-source (folded w at_end f) n = tt
    over-a-source (folded w (through d k) f) n = tt
    over-a-source (folded w (through_slots c k) f) n = tt
    over-a-source (folded w (among h k) f) n = by-parts w n k f _ (offered-brought cells more s r n.new g h)
    over-a-source (folded w (where_holds c k) f) n = tt
    over-a-source f n = tt

    chosen-once : {x : Ex} {m : Bool} → Seen cells r x m → Made cells r false (source_listed_once s g (fun1 false Fun.ToInt x))
    chosen-once number = tt
    chosen-once (counted so_many) = tt
    chosen-once f = tt

    -- Or the latter are that item itself.
    pub of-one-source : {e : Ex} {m : Bool} → Seen cells r e m → Apart s.one r e → Made cells r m (source_listed_once s g e)
    of-one-source (counted so_many) n = tt
    of-one-source (chosen f) n = chosen-once f
    of-one-source (folded w at_end f) n = tt
    of-one-source (folded w (through d k) f) n = tt
    of-one-source (folded w (through_slots c k) f) n = tt
    of-one-source (folded w (among h k) f) n = by-only w n k f _ (offered-brought cells more s r n.new g h)
    of-one-source (folded w (where_holds c k) f) n = tt
    of-one-source f n = tt
