-- Items that are taken are options that the specification takes.
use Rattle.std.proofs.Common.{◌≡◌, refl, sym, ap, ◌∙◌, ℕ, Bool, true, false, not, ◌||◌, if◌then◌else◌, List, [], ◌∷◌, ◌++◌}
use Rattle.std.specs.Prelude.{◌==◌}
use Rattle.std.specs.List.{list_all}
use Rattle.ess_semantics.specs.Lists.{is_empty, is_some_and}
use Rattle.ess_semantics.specs.Values.{Text}
use Rattle.ess_semantics.specs.Order.{same_text}
use Rattle.ess_semantics.specs.Names.{Names, is_among}
use Rattle.ess_semantics.specs.Trees.{Repr, Dom}
use Rattle.ess_semantics.specs.Kinds.{fits}
use Rattle.ess_semantics.specs.Plans.{Options}
use Rattle.ess_semantics.specs.ChosenOptions.{ItemFits, ItemsFit}
use Rattle.ess_semantics.proofs.Tests.{and-both}
use Rattle.conjure_laws.specs.SideBySide.{Along}
use Rattle.conjure_laws.proofs.FreeNames.{among-append}
use Rattle.conjure_options.specs.Pieces.{onto_first, pieces}
use Rattle.conjure_options.specs.Items.{IsTree, IsItem, AreItems}

onto-some : (b : ℕ) (ps : List Text) → is_empty (onto_first b ps) ≡ false
onto-some b [] = refl
onto-some b (p ∷ ps) = refl

-- A text has a piece.
pieces-some : (c : ℕ) (text : Text) → is_empty (pieces c text) ≡ false
pieces-some c [] = refl
pieces-some c (b ∷ text) = go (b == c)
  where
    go : (same : Bool) → is_empty (if same then [] ∷ pieces c text else onto_first b (pieces c text)) ≡ false
    go true = refl
    go false = onto-some b (pieces c text)

-- So it gives a representation.
along-some : {A B : Type 0} (R : A → B → Type 0) (xs : List A) (ys : List B) → Along xs ys R → is_empty xs ≡ false → is_empty ys ≡ false
along-some R [] ys h e = let k : true ≡ false = e in cc
along-some R (x ∷ xs) [] h e = absurd h
along-some R (x ∷ xs) (y ∷ ys) h e = refl

trees-fit : (d : Dom) (ps : List Text) (ts : List Repr) → Along ps ts (IsTree d) → list_all (λ t. fits t d) ts ≡ true
trees-fit d [] [] h = refl
trees-fit d [] (t ∷ ts) h = absurd h
trees-fit d (p ∷ ps) [] h = absurd h
trees-fit d (p ∷ ps) (t ∷ ts) h = and-both (fits t d) (list_all (λ u. fits u d) ts) h.0.fitting (trees-fit d ps ts h.1)

item-fits : (ds : Names Dom) (done before : List Text) (item : Text) (b : Text × List Repr)
    → ((a : Text) → is_among before a ≡ is_among done a)
    → IsItem ds done item b → ItemFits ds before b.0 b.1
item-fits ds done before item b same is = record {
  new = ap not (same b.0 ∙ is.new);
  some = ap not (along-some (IsTree is.dom) (pieces 43 is.behind) b.1 is.trees (pieces-some 43 is.behind));
  fitting = ap (λ o. is_some_and o (λ d. list_all (λ r. fits r d) b.1)) is.named ∙ trees-fit is.dom (pieces 43 is.behind) b.1 is.trees;
  differ = is.differ;
}

-- One name more, at either end.
next-same : (done before : List Text) (x : Text) → ((a : Text) → is_among before a ≡ is_among done a)
    → (a : Text) → is_among (x ∷ before) a ≡ is_among (done ++ x ∷ []) a
next-same done before x same a =
    ap (λ b. same_text x a || b) (same a) ∙ swap (same_text x a) (is_among done a) ∙ sym (among-append done (x ∷ []) a)
  where
    swap : (p q : Bool) → p || q ≡ q || (p || false)
    swap true true = refl
    swap true false = refl
    swap false true = refl
    swap false false = refl

items-behind : (ds : Names Dom) (done before is : List Text) (bs : Options) → ((a : Text) → is_among before a ≡ is_among done a)
    → AreItems ds done is bs → ItemsFit ds before bs
items-behind ds done before [] [] same h = tt
items-behind ds done before [] (b ∷ bs) same h = absurd h
items-behind ds done before (i ∷ is) [] same h = absurd h
items-behind ds done before (i ∷ is) (b ∷ bs) same h = (
  item-fits ds done before i b same h.0,
  items-behind ds (done ++ b.0 ∷ []) (b.0 ∷ before) is bs (next-same done before b.0 same) h.1,
)

-- What the items of a list give is what the names with these domains take.
pub items_fit : (ds : Names Dom) (is : List Text) (bs : Options) → AreItems ds [] is bs → ItemsFit ds [] bs
items_fit ds is bs h = items-behind ds [] [] is bs (λ a. refl) h
