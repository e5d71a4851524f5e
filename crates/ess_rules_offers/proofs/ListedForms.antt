-- Views by their kind, and the set of a multiset's members by the word.
use Rattle.std.proofs.Common.{◌≡◌, refl, sym, ap, ◌∙◌, Bool, true, false, List, Option, Some, None}
use Rattle.ess_semantics.specs.declared.words.Fun.{Fun}
use Rattle.ess_semantics.specs.declared.words.ReprKind.{ReprKind}
use Rattle.ess_semantics.specs.Values.{Text}
use Rattle.ess_semantics.specs.Trees.{Op, word, Repr, repr, Reprs, Ex, Exs, node_ex, seen_ex, no_exs, more_exs, Dom, fun1}
use Rattle.ess_rules_laws.specs.Listings.{Alternative}
use Rattle.ess_rules_forms.specs.Forms.{plain_word}
use Rattle.ess_views_laws.specs.MultisetViews.{members_once}
use Rattle.ess_kind_rules_laws.specs.ViewListings.{view_listing, listing_of, slots_seen}
use Rattle.ess_rules_offers.specs.Listed.{members_listed}

-- ---- views

-- By the kind.
pub listed_by_kind : (x y : Text) (zs : List Text) (e : Ex) (r : Repr) (k : ReprKind) (rs : Reprs) (d : Dom) (ns : List Text) (js : Exs)
    → e ≡ seen_ex r d ns js → r ≡ repr k rs → listing_of k x y zs e ≡ view_listing x y zs e
listed_by_kind x y zs e r k rs d ns js p q =
    let is : e ≡ seen_ex (repr k rs) d ns js = p ∙ ap (λ u. seen_ex u d ns js) q in
    ap (λ z. listing_of k x y zs z) is ∙ ap (λ z. view_listing x y zs z) (sym is)

-- ---- sets of a multiset's members

-- Of a node only that is listed.
pub listed_by_word : (x y : Text) (zs : List Text) (b : Bool) (op : Op) (es : Exs)
    → members_listed x (node_ex b op es) ≡ view_listing x y zs (node_ex b op es)
listed_by_word x y zs false (word Fun.ToSet) (more_exs v no_exs) = refl
listed_by_word x y zs false (word Fun.ToSet) (more_exs v (more_exs u us)) = refl
listed_by_word x y zs false (word Fun.ToSet) no_exs = refl
listed_by_word x y zs true op es = refl
listed_by_word x y zs b op es = refl

-- What is listed of a word on one operand.
abbrev pub listed_word : Text → Option (Fun × Ex) → Option Alternative
listed_word x (Some p) = members_listed x (fun1 false p.0 p.1)
listed_word x None = None

-- By the word.
pub listed_of_word : (x : Text) (e : Ex) → members_listed x e ≡ listed_word x (plain_word e)
listed_of_word x (fun1 false f v) = refl
listed_of_word x (node_ex false (word Fun.ToSet) no_exs) = refl
listed_of_word x (node_ex false (word Fun.ToSet) (more_exs v (more_exs u us))) = refl
listed_of_word x e = refl

-- The word and its operand, where there are some.
abbrev word_in : Option (Fun × Ex) → Fun
word_in (Some p) = p.0
word_in None = Fun.Sum

abbrev operand_in : Ex → Option (Fun × Ex) → Ex
operand_in e (Some p) = p.1
operand_in e None = e

-- Of `toSet` each member is listed once.
pub listed_once : (x : Text) (e v : Ex) → Some (Fun.ToSet, v) ≡ plain_word e → members_once x (slots_seen v) e ≡ members_listed x e
listed_once x (fun1 false f w) v p =
    let one : Fun.ToSet ≡ f = ap word_in p in
    let other : v ≡ w = ap (operand_in v) p in
    ap (λ z. members_once x (slots_seen z) (fun1 false f w)) other
    ∙ ap (λ g. members_once x (slots_seen w) (fun1 false g w)) (sym one)
    ∙ ap (λ g. members_listed x (fun1 false g w)) one
listed_once x e v p = cc
