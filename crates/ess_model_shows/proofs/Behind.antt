-- What stands behind a statement depends on what is looked up before it alone.
use Rattle.std.proofs.Common.{◌≡◌, refl, ap, ◌∙◌, List, [], ◌∷◌, ◌++◌, map, filter, Some, if◌then◌else◌}
use Rattle.ess_semantics.specs.Values.{Text}
use Rattle.ess_semantics.specs.Order.{same_text}
use Rattle.ess_semantics.specs.Names.{Names, look}
use Rattle.ess_semantics.specs.Trees.{Ex, Dom, Stm, given, given_enum, let_enum, let_unnamed, find}
use Rattle.ess_semantics.specs.Plans.{Plan, is_plan_for}
use Rattle.conjure_model_laws.specs.ToldApart.{told, told_dom}
use Rattle.conjure_model_laws.specs.Shown.{Shows, shown, shown_dom, positions_from, view_by, with_views, with_declared, shows_behind, shows_from}
use Rattle.ess_model_shown.specs.Tables.{SameNames, SameShows}
use Rattle.ess_model_shown.proofs.SameShown.{shown-same, dom-same}
use Rattle.ess_model_shows.specs.Entered.{domain_over, with_domain}

-- ---- what is looked up

put_same : {A : Type 0} (ms ns : Names A) (x : Text) (c d : A) → SameNames ms ns → c ≡ d → SameNames ((x, c) ∷ ms) ((x, d) ∷ ns)
put_same ms ns x c d h e a = ap (λ c. look ((x, c) ∷ ms) a) e ∙ ap (λ o. if same_text x a then Some d else o) (h a)

before_same : {A : Type 0} (ps ms ns : Names A) → SameNames ms ns → SameNames (ps ++ ms) (ps ++ ns)
before_same [] ms ns h a = h a
before_same (p ∷ ps) ms ns h a = ap (λ o. if same_text p.0 a then Some p.1 else o) (before_same ps ms ns h a)

-- One after the other.
pub same_on : (s t u : Shows) → SameShows s t → SameShows t u → SameShows s u
same_on s t u h i = record {
  first = λ a. h.first a ∙ i.first a;
  last = λ a. h.last a ∙ i.last a;
  sizes = λ a. h.sizes a ∙ i.sizes a;
  doms = λ a. h.doms a ∙ i.doms a;
  next = h.next ∙ i.next;
}

-- What is equal shows the same.
same_is : (s t : Shows) → s ≡ t → SameShows s t
same_is s t e = record {
  first = λ a. ap (λ t. look t.first a) e;
  last = λ a. ap (λ t. look t.last a) e;
  sizes = λ a. ap (λ t. look t.sizes a) e;
  doms = λ a. ap (λ t. look t.doms a) e;
  next = ap (λ t. t.next) e;
}

-- ---- what is entered

over_same : (d : Dom) (s t : Shows) → SameShows s t → domain_over d s ≡ domain_over d t
over_same d s t h = dom-same s t h (told_dom d [] s.next).0 ∙ ap (λ k. shown_dom t (told_dom d [] k).0) h.next

domain_same : (x : Text) (d : Dom) (s t : Shows) → SameShows s t → SameShows (with_domain x d s) (with_domain x d t)
domain_same x d s t h = record {
  first = h.first;
  last = h.last;
  sizes = h.sizes;
  doms = put_same s.doms t.doms x (domain_over d s) (domain_over d t) h.doms (over_same d s t h);
  next = ap (λ k. (told_dom d [] k).1) h.next;
}

views_same : (x : Text) (vs : List Ex) (s t : Shows) → SameShows s t → SameShows (with_views x vs s) (with_views x vs t)
views_same x [] s t h = h
views_same x (v ∷ vs) s t h = record {
  first = put_same s.first t.first x v v h.first refl;
  last = put_same s.last t.last x _ _ h.last refl;
  sizes = h.sizes;
  doms = h.doms;
  next = h.next;
}

-- A given or find that is entered by its domain and its views.
pub declared_entered : (Ps : List Plan) (x : Text) (d c : Dom) (sh s t : Shows) (vs : List Ex) → c ≡ domain_over d sh
    → SameShows s (with_domain x d sh) → vs ≡ map (view_by c) (filter (is_plan_for x) Ps) → SameShows t (with_views x vs s)
    → SameShows t (with_declared Ps x d sh)
declared_entered Ps x d c sh s t vs e h p i =
    let over : SameShows (with_views x vs s) (with_views x vs (with_domain x d sh)) = views_same x vs s (with_domain x d sh) h in
    let is : with_views x vs (with_domain x d sh) ≡ with_declared Ps x d sh =
    ap (λ vs. with_views x vs (with_domain x d sh)) p
    ∙ ap (λ c. with_views x (map (view_by c) (filter (is_plan_for x) Ps)) (with_domain x d sh)) e in
    same_on t (with_views x vs s) (with_declared Ps x d sh) i
    (same_on (with_views x vs s) (with_views x vs (with_domain x d sh)) (with_declared Ps x d sh) over (same_is _ _ is))

-- ---- statements

declared_same : (Ps : List Plan) (x : Text) (d : Dom) (s t : Shows) → SameShows s t
    → SameShows (with_declared Ps x d s) (with_declared Ps x d t)
declared_same Ps x d s t h =
    declared_entered Ps x d (domain_over d s) t (with_domain x d s) (with_declared Ps x d s)
    (map (view_by (domain_over d s)) (filter (is_plan_for x) Ps))
    (over_same d s t h) (domain_same x d s t h) refl (same_is _ _ refl)

-- A statement.
pub behind_same : (Ps : List Plan) (c : Stm) (s t : Shows) → SameShows s t → SameShows (shows_behind Ps c s) (shows_behind Ps c t)
behind_same Ps (given x d) s t h = declared_same Ps x d s t h
behind_same Ps (find x d) s t h = declared_same Ps x d s t h
behind_same Ps (given_enum n) s t h = record {
  first = h.first;
  last = h.last;
  sizes = put_same s.sizes t.sizes n _ _ h.sizes refl;
  doms = h.doms;
  next = h.next;
}
behind_same Ps (let_enum n ns) s t h = record {
  first = before_same (positions_from 1 ns) s.first t.first h.first;
  last = before_same (positions_from 1 ns) s.last t.last h.last;
  sizes = put_same s.sizes t.sizes n _ _ h.sizes refl;
  doms = h.doms;
  next = h.next;
}
behind_same Ps (let_unnamed n e) s t h = record {
  first = h.first;
  last = h.last;
  sizes = put_same s.sizes t.sizes n (shown s (told e [] s.next).0) (shown t (told e [] t.next).0) h.sizes
      (shown-same s t h (told e [] s.next).0 ∙ ap (λ k. shown t (told e [] k).0) h.next);
  doms = h.doms;
  next = ap (λ k. (told e [] k).1) h.next;
}
behind_same Ps c s t h = h

-- Several statements.
pub from_same : (Ps : List Plan) (cs : List Stm) (s t : Shows) → SameShows s t → SameShows (shows_from Ps cs s) (shows_from Ps cs t)
from_same Ps [] s t h = h
from_same Ps (c ∷ cs) s t h = from_same Ps cs (shows_behind Ps c s) (shows_behind Ps c t) (behind_same Ps c s t h)
