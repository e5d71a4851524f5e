-- Children counted one by one, each of its own domain.
use Rattle.std.proofs.Common.{◌≡◌, refl, sym, ap, ◌∙◌, ℕ, ◌+◌, ◌<◌, ◌≤◌, List, [], ◌∷◌, length, map, drop, get_or, arith}
use Rattle.std.proofs.lemmas.List.{at_drop_more, at_drop_all}
use Rattle.ess_semantics.specs.Trees as pure
use Rattle.ess_semantics.specs.Domains.{Domain, domain_list}
use Rattle.ess_core.specs.declared.representations.Repr.{Repr}
use Rattle.ess_core.specs.TreeViews.{pure_repr}
use Rattle.ess_eval_domains.specs.declared.closed.Closed.{Closed}
use Rattle.ess_eval_domains.specs.declared.closed.Closed.TheViews.{out-FieldClosed}
use Rattle.ess_eval_domains.specs.declared.closed.FieldClosed.{FieldClosed}
use Rattle.ess_eval_domains.specs.ClosedViews.{domains_of, pure_closed, pure_field_closed, pure_closeds}
use Rattle.ess_eval_domains.proofs.ClosedEquations.{pure_field_closed_is}
use Rattle.ess_domains_cells.specs.Kept.{kept}
use Rattle.ess_domains_cells.specs.Counted.{counted, counted_children}
use Rattle.ess_domains_cells.proofs.KeptNumbers.{kept_sum, kept_twice}
use Rattle.ess_domains_cells.proofs.LayerForms.{no-children}
use Rattle.ess_domains_cells.proofs.TreeSteps.{kids}

-- ---- any items with domains

part-more : (t t' n own later all : ℕ) → n ≡ kept own → t' ≡ kept (t + n) → kept (t + (own + later)) ≡ kept all → kept (t' + later) ≡ kept all
part-more t t' n own later all e g p =
    let assoc : (t + own) + later ≡ t + (own + later) = omega arith in
    let added : kept (t + n) ≡ kept (t + own) =
    ap (λ j. kept (t + j)) e ∙ sym (kept_sum t (kept own)) ∙ ap (λ j. kept (kept t + j)) (kept_twice own) ∙ kept_sum t own in
    ap (λ j. kept (j + later)) (g ∙ added) ∙ sym (kept_sum (kept (t + own)) later) ∙ ap (λ j. kept (j + kept later)) (kept_twice (t + own)) ∙ kept_sum (t + own) later
    ∙ ap kept assoc ∙ p

-- The domains of items.
items-more : {A : Type 0} (P : List A → List Domain) (f : A → Domain) (rs : List Repr) (ds : List A) (i : ℕ) (x e : Repr) (d b : A) (v l t t' n : ℕ)
    → ((y : A) (ys : List A) → P (y ∷ ys) ≡ f y ∷ P ys) → i < length rs → i < length ds → x ≡ get_or rs i e → d ≡ get_or ds i b
    → n ≡ kept (counted (pure_repr x) (f d) v l) → t' ≡ kept (t + n)
    → kept (t + counted_children (kids (drop i rs)) (P (drop i ds)) v l) ≡ kept (counted_children (kids rs) (P ds) v l)
    → kept (t' + counted_children (kids (drop (i + 1) rs)) (P (drop (i + 1) ds)) v l) ≡ kept (counted_children (kids rs) (P ds) v l)
items-more P f rs ds i x e d b v l t t' n cons h k is js en g p =
    let trees : kids (drop i rs) ≡ pure.more_reprs (pure_repr x) (kids (drop (i + 1) rs)) =
    at_drop_more kids rs i e h ∙ ap (λ q. pure.more_reprs (pure_repr q) (kids (drop (i + 1) rs))) (sym is) in
    let parts : P (drop i ds) ≡ f d ∷ P (drop (i + 1) ds) =
    at_drop_more P ds i b k ∙ ap (λ q. P (q ∷ drop (i + 1) ds)) (sym js) ∙ cons d (drop (i + 1) ds) in
    part-more t t' n (counted (pure_repr x) (f d) v l) (counted_children (kids (drop (i + 1) rs)) (P (drop (i + 1) ds)) v l) (counted_children (kids rs) (P ds) v l) en g
    (ap (λ q. kept (t + counted_children q (f d ∷ P (drop (i + 1) ds)) v l)) (sym trees)
    ∙ ap (λ q. kept (t + counted_children (kids (drop i rs)) q v l)) (sym parts) ∙ p)

ended : (t left all : ℕ) → left ≡ 0 → kept t ≡ t → kept (t + left) ≡ kept all → t ≡ kept all
ended t left all e k p = let z : t + 0 ≡ t = omega arith in sym k ∙ sym (ap kept z) ∙ sym (ap (λ j. kept (t + j)) e) ∙ p

begun : (a : ℕ) → kept (0 + a) ≡ kept a
begun a = let z : 0 + a ≡ a = omega arith in ap kept z

items-short : {A : Type 0} (P : List A → List Domain) (rs : List Repr) (ds : List A) (i v l t : ℕ) → P [] ≡ [] → length ds ≤ i → kept t ≡ t
    → kept (t + counted_children (kids (drop i rs)) (P (drop i ds)) v l) ≡ kept (counted_children (kids rs) (P ds) v l) → t ≡ kept (counted_children (kids rs) (P ds) v l)
items-short P rs ds i v l t end h k p =
    ended t (counted_children (kids (drop i rs)) (P (drop i ds)) v l) (counted_children (kids rs) (P ds) v l)
    (ap (λ q. counted_children (kids (drop i rs)) q v l) (at_drop_all P ds i h ∙ end) ∙ no-children (kids (drop i rs)) v l) k p

items-all : {A : Type 0} (P : List A → List Domain) (rs : List Repr) (ds : List A) (i v l t : ℕ) → length rs ≤ i → kept t ≡ t
    → kept (t + counted_children (kids (drop i rs)) (P (drop i ds)) v l) ≡ kept (counted_children (kids rs) (P ds) v l) → t ≡ kept (counted_children (kids rs) (P ds) v l)
items-all P rs ds i v l t h k p =
    ended t (counted_children (kids (drop i rs)) (P (drop i ds)) v l) (counted_children (kids rs) (P ds) v l)
    (ap (λ q. counted_children q (P (drop i ds)) v l) (at_drop_all kids rs i h)) k p

-- ---- domains

-- The domains in their order.
abbrev pub parts_list : List Closed → List Domain
parts_list ds = domain_list (pure_closeds ds)

pub each_none : (rs : List Repr) (ds : List Closed) (v l : ℕ) → kept (0 + counted_children (kids rs) (parts_list ds) v l) ≡ kept (counted_children (kids rs) (parts_list ds) v l)
each_none rs ds v l = begun (counted_children (kids rs) (parts_list ds) v l)

pub each_more : (rs : List Repr) (ds : List Closed) (i : ℕ) (x e : Repr) (d b : Closed) (v l t t' n : ℕ) → i < length rs → i < length ds → x ≡ get_or rs i e → d ≡ get_or ds i b
    → n ≡ kept (counted (pure_repr x) (pure_closed d) v l) → t' ≡ kept (t + n)
    → kept (t + counted_children (kids (drop i rs)) (parts_list (drop i ds)) v l) ≡ kept (counted_children (kids rs) (parts_list ds) v l)
    → kept (t' + counted_children (kids (drop (i + 1) rs)) (parts_list (drop (i + 1) ds)) v l) ≡ kept (counted_children (kids rs) (parts_list ds) v l)
each_more rs ds i x e d b v l t t' n h k is js en g p = items-more parts_list pure_closed rs ds i x e d b v l t t' n (λ y ys. refl) h k is js en g p

pub each_short : (rs : List Repr) (ds : List Closed) (i v l t : ℕ) → length ds ≤ i → kept t ≡ t
    → kept (t + counted_children (kids (drop i rs)) (parts_list (drop i ds)) v l) ≡ kept (counted_children (kids rs) (parts_list ds) v l) → t ≡ kept (counted_children (kids rs) (parts_list ds) v l)
each_short rs ds i v l t h k p = items-short parts_list rs ds i v l t refl h k p

pub each_all : (rs : List Repr) (ds : List Closed) (i v l t : ℕ) → length rs ≤ i → kept t ≡ t
    → kept (t + counted_children (kids (drop i rs)) (parts_list (drop i ds)) v l) ≡ kept (counted_children (kids rs) (parts_list ds) v l) → t ≡ kept (counted_children (kids rs) (parts_list ds) v l)
each_all rs ds i v l t h k p = items-all parts_list rs ds i v l t h k p

-- ---- fields

-- The domains of fields in their order.
abbrev pub fields_list : List FieldClosed → List Domain
fields_list fs = domain_list (domains_of (map (λ f. f.1) (map pure_field_closed fs)))

pub fields_none : (rs : List Repr) (fs : List FieldClosed) (v l : ℕ) → kept (0 + counted_children (kids rs) (fields_list fs) v l) ≡ kept (counted_children (kids rs) (fields_list fs) v l)
fields_none rs fs v l = begun (counted_children (kids rs) (fields_list fs) v l)

pub fields_more : (rs : List Repr) (fs : List FieldClosed) (i : ℕ) (x e : Repr) (f b : FieldClosed) (v l t t' n : ℕ) → i < length rs → i < length fs → x ≡ get_or rs i e → f ≡ get_or fs i b
    → n ≡ kept (counted (pure_repr x) (pure_closed (out-FieldClosed f).domain) v l) → t' ≡ kept (t + n)
    → kept (t + counted_children (kids (drop i rs)) (fields_list (drop i fs)) v l) ≡ kept (counted_children (kids rs) (fields_list fs) v l)
    → kept (t' + counted_children (kids (drop (i + 1) rs)) (fields_list (drop (i + 1) fs)) v l) ≡ kept (counted_children (kids rs) (fields_list fs) v l)
fields_more rs fs i x e f b v l t t' n h k is js en g p =
    let own : (pure_field_closed f).1 ≡ pure_closed (out-FieldClosed f).domain = ap (λ q. q.1) (pure_field_closed_is f) in
    items-more fields_list (λ q. (pure_field_closed q).1) rs fs i x e f b v l t t' n (λ y ys. refl) h k is js
    (en ∙ ap (λ q. kept (counted (pure_repr x) q v l)) (sym own)) g p

pub fields_short : (rs : List Repr) (fs : List FieldClosed) (i v l t : ℕ) → length fs ≤ i → kept t ≡ t
    → kept (t + counted_children (kids (drop i rs)) (fields_list (drop i fs)) v l) ≡ kept (counted_children (kids rs) (fields_list fs) v l) → t ≡ kept (counted_children (kids rs) (fields_list fs) v l)
fields_short rs fs i v l t h k p = items-short fields_list rs fs i v l t refl h k p

pub fields_all : (rs : List Repr) (fs : List FieldClosed) (i v l t : ℕ) → length rs ≤ i → kept t ≡ t
    → kept (t + counted_children (kids (drop i rs)) (fields_list (drop i fs)) v l) ≡ kept (counted_children (kids rs) (fields_list fs) v l) → t ≡ kept (counted_children (kids rs) (fields_list fs) v l)
fields_all rs fs i v l t h k p = items-all fields_list rs fs i v l t h k p
