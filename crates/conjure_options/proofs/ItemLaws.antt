-- What an item gives.
use Rattle.std.proofs.Common.{◌≡◌, refl, sym, ap, ◌∙◌, subst, ℕ, ◌+◌, ◌<◌, ◌≤◌, Bool, true, false, ◌||◌, List, [], ◌∷◌, ◌++◌, map, length, drop, get_or, Option, Some, None, option_map, Bor}
use Rattle.std.specs.Prelude.{if◌then◌else◌, IfOk, Ok, Err}
use Rattle.std.specs.declared.result.Result.{Result}
use Rattle.std.specs.List.{list_any}
use Rattle.std.proofs.lemmas.List.{at_drop_more, at_drop_all}
use Rattle.ess_semantics.specs.Values.{Text}
use Rattle.ess_semantics.specs.Order.{same_text}
use Rattle.ess_semantics.specs.Names.{Names, look, is_among, keys}
use Rattle.ess_semantics.specs.Trees as pure
use Rattle.ess_semantics.specs.Plans.{domain_of_stm}
use Rattle.ess_semantics.specs.ChosenOptions.{Differ}
use Rattle.ess_semantics.proofs.Texts.{same_text-equal}
use Rattle.ess_core.specs.declared.representations.Repr.{Repr}
use Rattle.ess_core.specs.declared.domains.Dom.{Dom}
use Rattle.ess_core.specs.declared.statements.Stm.{Stm}
use Rattle.ess_core.specs.TreeViews.{pure_repr, pure_dom}
use Rattle.ess_core.specs.StatementViews.{pure_stm}
use Rattle.ess_parse.specs.declared.representations.named.NamedReprs.{NamedReprs}
use Rattle.ess_parse.specs.NamedReprViews.{pure_named_reprs}
use Rattle.conjure_laws.specs.SideBySide.{Along}
use Rattle.conjure_options.specs.Pieces.{cut, pieces}
use Rattle.conjure_options.specs.Items.{domains_of, found, entry, IsTree, IsItem, AreTreesOrNone, AreDifferent, IsNamed, IsNamedOrNone, IsItemOrNone}

some-is : {A : Type 0} {x y : A} → Some x ≡ Some y → x ≡ y
some-is h = cc

-- ---- names

-- A name that an item before gives is among their names.
pub any_done : (ds : List NamedReprs) (a : Text) → list_any (λ n. same_text n.name a) ds ≡ is_among (keys (map pure_named_reprs ds)) a
any_done [] a = refl
any_done (d ∷ ds) a = ap (λ b. same_text d.name a || b) (any_done ds a)

-- Behind others that aren't of the name.
found-behind : (xs ys : Names pure.Dom) (a : Text) → found xs a ≡ None → found (xs ++ ys) a ≡ found ys a
found-behind [] ys a h = refl
found-behind (x ∷ xs) ys a h = go (same_text x.0 a) (λ e. found-behind xs ys a e) h
  where
    go : (b : Bool) → (found xs a ≡ None → found (xs ++ ys) a ≡ found ys a) → (if b then Some x else found xs a) ≡ None
        → (if b then Some x else found (xs ++ ys) a) ≡ found ys a
    go true rest e = let k : Some x ≡ None = e in cc
    go false rest e = rest e

found-before : (xs ys : Names pure.Dom) (a : Text) (b : Text × pure.Dom) → found xs a ≡ Some b → found (xs ++ ys) a ≡ Some b
found-before [] ys a b h = let k : None ≡ Some b = h in cc
found-before (x ∷ xs) ys a b h = go (same_text x.0 a) (λ e. found-before xs ys a b e) h
  where
    go : (t : Bool) → (found xs a ≡ Some b → found (xs ++ ys) a ≡ Some b) → (if t then Some x else found xs a) ≡ Some b
        → (if t then Some x else found (xs ++ ys) a) ≡ Some b
    go true rest e = e
    go false rest e = rest e

-- The names of statements.
abbrev pub doms : List Stm → Names pure.Dom
doms ss = domains_of (map pure_stm ss)

from-here : (ss : List Stm) (i : ℕ) (s : Stm) → i < length ss → s ≡ get_or ss i s
    → doms (drop i ss) ≡ domain_of_stm (pure_stm s) ++ doms (drop (i + 1) ss)
from-here ss i s lt is = at_drop_more doms ss i s lt ∙ ap (λ t. domain_of_stm (pure_stm t) ++ doms (drop (i + 1) ss)) (sym is)

-- What is found among the names of a statement is found among all from it on.
pub found_here : (ss : List Stm) (i : ℕ) (s : Stm) (a : Text) (o : Option (Text × pure.Dom)) (b : Bor Text × Bor Dom) → i < length ss
    → s ≡ get_or ss i s
    → option_map entry (Some b) ≡ found (domain_of_stm (pure_stm s)) a
    → found (doms (drop i ss)) a ≡ o → option_map entry (Some b) ≡ o
found_here ss i s a o b lt is h so =
    sym (found-before (domain_of_stm (pure_stm s)) (doms (drop (i + 1) ss)) a (entry b) (sym h))
    ∙ sym (ap (λ l. found l a) (from-here ss i s lt is)) ∙ so

-- A statement without the name is passed over.
pub found_more : (ss : List Stm) (i : ℕ) (s : Stm) (a : Text) (o : Option (Text × pure.Dom)) → i < length ss → s ≡ get_or ss i s
    → None ≡ found (domain_of_stm (pure_stm s)) a
    → found (doms (drop i ss)) a ≡ o → found (doms (drop (i + 1) ss)) a ≡ o
found_more ss i s a o lt is h so =
    sym (found-behind (domain_of_stm (pure_stm s)) (doms (drop (i + 1) ss)) a (sym h))
    ∙ sym (ap (λ l. found l a) (from-here ss i s lt is)) ∙ so

-- Behind the last statement nothing is found.
pub found_all : (ss : List Stm) (i : ℕ) (a : Text) (o : Option (Text × pure.Dom)) → length ss ≤ i → found (doms (drop i ss)) a ≡ o
    → None ≡ o
found_all ss i a o le so = sym (at_drop_all (λ l. found (doms l) a) ss i le) ∙ so

found-looks : (ds : Names pure.Dom) (a : Text) → look ds a ≡ option_map (λ b. b.1) (found ds a)
found-looks [] a = refl
found-looks (d ∷ ds) a = go (same_text d.0 a) (found-looks ds a)
  where
    go : (t : Bool) → look ds a ≡ option_map (λ b. b.1) (found ds a)
        → (if t then Some d.1 else look ds a) ≡ option_map (λ b. b.1) (if t then Some d else found ds a)
    go true h = refl
    go false h = h

found-is : (ds : Names pure.Dom) (a : Text) (b : Text × pure.Dom) → found ds a ≡ Some b → b.0 ≡ a
found-is [] a b h = let k : None ≡ Some b = h in cc
found-is (d ∷ ds) a b h = go (same_text d.0 a) refl (λ k. found-is ds a b k) h
  where
    go : (t : Bool) → same_text d.0 a ≡ t → (found ds a ≡ Some b → b.0 ≡ a) → (if t then Some d else found ds a) ≡ Some b → b.0 ≡ a
    go true e rest k = ap (λ c. c.0) (sym (some-is k)) ∙ same_text-equal d.0 a e
    go false e rest k = rest k

-- ---- a name with representations

-- Where a piece is no fitting representation, the item gives nothing.
pub no_trees : (x : Text) (d : pure.Dom) (ps : List Text) → AreTreesOrNone d ps None → IsNamedOrNone x d ps None
no_trees x d ps none = λ b named. none b.1 named.trees

-- Where a representation stands twice, the item gives nothing.
pub alike : (x : Text) (d : pure.Dom) (ps : List Text) (ts : List Repr) → AreTreesOrNone d ps (Some ts)
    → AreDifferent (map pure_repr ts) false
    → IsNamedOrNone x d ps None
alike x d ps ts some not = λ b named. not.no refl (subst Differ (some.1 b.1 named.trees) named.differ)

-- Where they differ, the item gives the name with them, and nothing else.
pub named : (x : Text) (d : pure.Dom) (ps : List Text) (ts : List Repr) (n : NamedReprs) → n.name ≡ x → n.trees ≡ ts
    → AreTreesOrNone d ps (Some ts) → AreDifferent (map pure_repr ts) true → IsNamedOrNone x d ps (Some n)
named x d ps ts n name trees some differ = (
  record {
    name = name;
    trees = subst (λ l. Along ps (map pure_repr l) (IsTree d)) (sym trees) some.0;
    differ = subst (λ l. Differ (map pure_repr l)) (sym trees) (differ.yes refl);
  },
  λ b h. pairs b (n.name, map pure_repr n.trees) (h.name ∙ sym name) (some.1 b.1 h.trees ∙ ap (map pure_repr) (sym trees)),
)
  where
    pairs : (a b : Text × List pure.Repr) → a.0 ≡ b.0 → a.1 ≡ b.1 → a ≡ b
    pairs a b h k = ap (λ u. (u, a.1)) h ∙ ap (λ v. (b.0, v)) k

-- ---- an item

-- An item without a `:` gives nothing.
pub uncut : (ds : Names pure.Dom) (done : List Text) (item x : Text) → (x, None) ≡ cut 58 item → IsItemOrNone ds done item None
uncut ds done item x h = λ b is. let k : None ≡ Some is.behind = ap (λ p. p.1) (h ∙ is.cuts) in cc

-- the parts of an item are those at which it is cut
name-is : (item x y : Text) (p q : Text) → (x, Some p) ≡ cut 58 item → cut 58 item ≡ (y, Some q) → (x ≡ y) × (p ≡ q)
name-is item x y p q h k = (ap (λ c. c.0) (h ∙ k), some-is (ap (λ c. c.1) (h ∙ k)))

-- the names of the items before
abbrev pub names : List NamedReprs → List Text
names ns = keys (map pure_named_reprs ns)

-- An item with a name that an item before gives is none.
pub given_before : (ds : Names pure.Dom) (ns : List NamedReprs) (item x p : Text) → (x, Some p) ≡ cut 58 item
    → list_any (λ n. same_text n.name x) ns ≡ true → IsItemOrNone ds (names ns) item None
given_before ds ns item x p h among = λ b is.
    let k : true ≡ false = sym among ∙ any_done ns x ∙ ap (is_among (names ns)) (name-is item x b.0 p is.behind h is.cuts).0 ∙ is.new in cc

-- An item with a name that isn't declared gives nothing.
pub unknown : (ds : Names pure.Dom) (done : List Text) (item x p : Text) → (x, Some p) ≡ cut 58 item → None ≡ found ds x
    → IsItemOrNone ds done item None
unknown ds done item x p h none = λ b is.
    let k : None ≡ Some is.dom =
    ap (option_map (λ c. c.1)) none ∙ sym (found-looks ds x) ∙ ap (look ds) (name-is item x b.0 p is.behind h is.cuts).0 ∙ is.named in cc

-- An item gives its name what stands behind the `:`, where its name is declared and new.
pub known : (ds : Names pure.Dom) (ns : List NamedReprs) (item x p : Text) (c : Bor Text × Bor Dom) (o : Option NamedReprs)
    → (x, Some p) ≡ cut 58 item → list_any (λ n. same_text n.name x) ns ≡ false → option_map entry (Some c) ≡ found ds x
    → IsNamedOrNone c.0.now (pure_dom c.1.now) (pieces 43 p) o → IsItemOrNone ds (names ns) item o
known ds ns item x p c o h new there here = go o here
  where
    name : c.0.now ≡ x
    name = found-is ds x (entry c) (sym there)

    knows : look ds x ≡ Some (pure_dom c.1.now)
    knows = found-looks ds x ∙ ap (option_map (λ b. b.1)) (sym there)

    is-named : (b : Text × List pure.Repr) → IsItem ds (names ns) item b → IsNamed c.0.now (pure_dom c.1.now) (pieces 43 p) b
    is-named b is =
        let e = name-is item x b.0 p is.behind h is.cuts in
        let f : pure_dom c.1.now ≡ is.dom = some-is (sym knows ∙ ap (look ds) e.0 ∙ is.named) in record {
          name = sym e.0 ∙ sym name;
          trees = subst (λ q. Along (pieces 43 q) b.1 (IsTree (pure_dom c.1.now))) (sym e.1)
              (subst (λ d. Along (pieces 43 is.behind) b.1 (IsTree d)) (sym f) is.trees);
          differ = is.differ;
        }

    is-item : (b : Text × List pure.Repr) → IsNamed c.0.now (pure_dom c.1.now) (pieces 43 p) b → IsItem ds (names ns) item b
    is-item b n =
        let e : b.0 ≡ x = n.name ∙ name in record {
          behind = p;
          dom = pure_dom c.1.now;
          cuts = sym h ∙ ap (λ y. (y, Some p)) (sym e);
          named = ap (look ds) e ∙ knows;
          new = ap (is_among (names ns)) e ∙ sym (any_done ns x) ∙ new;
          trees = n.trees;
          differ = n.differ;
        }

    go : (o : Option NamedReprs) → IsNamedOrNone c.0.now (pure_dom c.1.now) (pieces 43 p) o → IsItemOrNone ds (names ns) item o
    go None none = λ b is. none b (is-named b is)
    go (Some n) some = (is-item (pure_named_reprs n) some.0, λ b is. some.1 b (is-named b is))

-- The same of an answer that memory may be lacking for.
pub known_or_lacking : {E : Type 0} (ds : Names pure.Dom) (ns : List NamedReprs) (item x p : Text) (c : Bor Text × Bor Dom)
    (r : Result (Option NamedReprs) E)
    → (x, Some p) ≡ cut 58 item → list_any (λ n. same_text n.name x) ns ≡ false → option_map entry (Some c) ≡ found ds x
    → IfOk r (IsNamedOrNone c.0.now (pure_dom c.1.now) (pieces 43 p)) → IfOk r (IsItemOrNone ds (names ns) item)
known_or_lacking ds ns item x p c (Ok o) h new there here = known ds ns item x p c o h new there here
known_or_lacking ds ns item x p c (Err e) h new there here = tt
