-- Lists with one item from each of several lists, and how they become tuples and records.
use Rattle.std.proofs.Common.{◌≡◌, refl, sym, ap, ◌∙◌, ℕ, zero, suc, ◌+◌, ◌<◌, ◌≤◌, List, [], ◌∷◌, ◌++◌, length, map, take, drop, get_or, arith}
use Rattle.std.proofs.lemmas.List.{append_assoc, append-nil, map-append, take_more, at_drop_more, at_drop_all}
use Rattle.ess_semantics.specs.Lists.{zip}
use Rattle.ess_semantics.specs.Values.{Text, Value, node, a_record, of_list}
use Rattle.ess_semantics.specs.Names.{Names, keys}
use Rattle.ess_semantics.specs.Domains.{add_heads, lists_of}
use Rattle.ess_core.specs.declared.values.Val.{Val}
use Rattle.ess_core.specs.declared.values.FieldVal.{FieldVal}
use Rattle.ess_core.specs.ValueViews.{record_value, pure_val, pure_field_val}
use Rattle.ess_eval_domains.specs.declared.closed.FieldClosed.{FieldClosed}
use Rattle.ess_eval_domains.specs.declared.closed.Closed.TheViews.{out-FieldClosed}
use Rattle.ess_eval_domains.specs.ClosedViews.{pure_field_closed}
use Rattle.ess_eval_domains.proofs.ClosedEquations.{pure_field_closed_is}

-- ---- lists, one head after the other

heads-push : {A : Type 0} (hs : List A) (h : A) (ls : List (List A)) → add_heads (hs ++ h ∷ []) ls ≡ add_heads hs ls ++ map (λ l. h ∷ l) ls
heads-push [] h ls = append-nil (map (λ l. h ∷ l) ls)
heads-push (g ∷ hs) h ls = ap (λ l. map (λ x. g ∷ x) ls ++ l) (heads-push hs h ls) ∙ sym (append_assoc (map (λ x. g ∷ x) ls) (add_heads hs ls) (map (λ x. h ∷ x) ls))

pub heads_more : (hs : List Val) (i : ℕ) (h : Val) (ls as' bs : List (List Val)) → i < length hs → h ≡ get_or hs i h
    → as' ≡ add_heads (take i hs) ls → bs ≡ as' ++ map (λ l. h ∷ l) ls → bs ≡ add_heads (take (i + 1) hs) ls
heads_more hs i h ls as' bs k is e p =
    p ∙ ap (λ l. l ++ map (λ x. h ∷ x) ls) e
    ∙ sym (ap (λ l. add_heads l ls) (take_more hs i h k) ∙ heads-push (take i hs) (get_or hs i h) ls ∙ ap (λ g. add_heads (take i hs) ls ++ map (λ x. g ∷ x) ls) (sym is))

pub lists_more : (cs : List (List Val)) (i : ℕ) (c : List Val) (ls ms : List (List Val)) → i < length cs → c ≡ get_or cs i c
    → ls ≡ lists_of (drop (i + 1) cs) → ms ≡ add_heads c ls → ms ≡ lists_of (drop i cs)
lists_more cs i c ls ms h is e p =
    p ∙ ap (add_heads c) e ∙ ap (λ d. add_heads d (lists_of (drop (i + 1) cs))) is ∙ sym (at_drop_more lists_of cs i c h)

-- ---- under a function on items

heads-mapped : {A B : Type 0} (f : A → B) (hs : List A) (ls : List (List A)) → map (map f) (add_heads hs ls) ≡ add_heads (map f hs) (map (map f) ls)
heads-mapped f [] ls = refl
heads-mapped f (h ∷ hs) ls =
    map-append (map f) (map (λ l. h ∷ l) ls) (add_heads hs ls)
    ∙ ap (λ l. l ++ map (map f) (add_heads hs ls)) (one ls) ∙ ap (λ l. map (λ x. f h ∷ x) (map (map f) ls) ++ l) (heads-mapped f hs ls)
  where
    one : (ls : List (List _)) → map (map f) (map (λ l. h ∷ l) ls) ≡ map (λ x. f h ∷ x) (map (map f) ls)
    one [] = refl
    one (l ∷ ls) = ap (λ m. (f h ∷ map f l) ∷ m) (one ls)

pub lists-mapped : {A B : Type 0} (f : A → B) (ls : List (List A)) → map (map f) (lists_of ls) ≡ lists_of (map (map f) ls)
lists-mapped f [] = refl
lists-mapped f (l ∷ ls) = heads-mapped f l (lists_of ls) ∙ ap (add_heads (map f l)) (lists-mapped f ls)

-- ---- records

pub record_more : (fs : List FieldClosed) (vs : List Val) (i : ℕ) (f : FieldClosed) (v : Val) (x : FieldVal) (rs qs : List FieldVal)
    → i < length fs → i < length vs → f ≡ get_or fs i f → v ≡ get_or vs i v
    → pure_field_val x ≡ ((out-FieldClosed f).name, pure_val v) → qs ≡ rs ++ x ∷ []
    → map pure_field_val rs ++ zip (keys (map pure_field_closed (drop i fs))) (map pure_val (drop i vs))
    ≡ map pure_field_val qs ++ zip (keys (map pure_field_closed (drop (i + 1) fs))) (map pure_val (drop (i + 1) vs))
record_more fs vs i f v x rs qs h k is it e p =
    let rest = zip (keys (map pure_field_closed (drop (i + 1) fs))) (map pure_val (drop (i + 1) vs)) in
    ap (λ l. map pure_field_val rs ++ l)
    (at_drop_more (λ l. zip (keys (map pure_field_closed l)) (map pure_val (drop i vs))) fs i f h
    ∙ at_drop_more (λ l. zip (keys (map pure_field_closed (get_or fs i f ∷ drop (i + 1) fs))) (map pure_val l)) vs i v k
    ∙ ap (λ g. ((pure_field_closed g).0, pure_val (get_or vs i v)) ∷ rest) (sym is) ∙ ap (λ w. ((pure_field_closed f).0, pure_val w) ∷ rest) (sym it)
    ∙ ap (λ y. (y.0, pure_val v) ∷ rest) (pure_field_closed_is f) ∙ ap (λ y. y ∷ rest) (sym e))
    ∙ sym (ap (λ l. map pure_field_val l ++ rest) p ∙ ap (λ l. l ++ rest) (map-append pure_field_val rs (x ∷ [])) ∙ append_assoc (map pure_field_val rs) (pure_field_val x ∷ []) rest)

zip-none : {A B : Type 0} (xs : List A) → let none : List B = [] in zip xs none ≡ []
zip-none [] = refl
zip-none (x ∷ xs) = refl

pub record_short : (fs : List FieldClosed) (vs : List Val) (i : ℕ) (rs : List FieldVal) → length vs ≤ i
    → map pure_field_val rs ++ zip (keys (map pure_field_closed (drop i fs))) (map pure_val (drop i vs)) ≡ map pure_field_val rs
record_short fs vs i rs h =
    ap (λ l. map pure_field_val rs ++ l)
    (at_drop_all (λ l. zip (keys (map pure_field_closed (drop i fs))) (map pure_val l)) vs i h ∙ zip-none (keys (map pure_field_closed (drop i fs))))
    ∙ append-nil (map pure_field_val rs)

pub record_end : (fs : List FieldClosed) (vs : List Val) (i : ℕ) (rs : List FieldVal) → length fs ≤ i
    → map pure_field_val rs ++ zip (keys (map pure_field_closed (drop i fs))) (map pure_val (drop i vs)) ≡ map pure_field_val rs
record_end fs vs i rs h =
    ap (λ l. map pure_field_val rs ++ l) (at_drop_all (λ l. zip (keys (map pure_field_closed l)) (map pure_val (drop i vs))) fs i h) ∙ append-nil (map pure_field_val rs)

-- ---- lists that are as long as there are fields

record-of : (fs : List Text) (vs : List Value) → length vs ≡ length fs → record_value (zip fs vs) ≡ node (a_record fs) (of_list vs)
record-of fs vs h = ap (λ ks. node (a_record ks) (of_list (map (λ f. f.1) (zip fs vs)))) (names fs vs h) ∙ ap (λ ws. node (a_record fs) (of_list ws)) (values fs vs h)
  where
    names : (fs : List Text) (vs : List Value) → length vs ≡ length fs → keys (zip fs vs) ≡ fs
    names [] [] h = refl
    names [] (v ∷ vs) h = cc
    names (f ∷ fs) [] h = cc
    names (f ∷ fs) (v ∷ vs) h = ap (λ l. f ∷ l) (names fs vs (omega arith))

    values : (fs : List Text) (vs : List Value) → length vs ≡ length fs → map (λ f. f.1) (zip fs vs) ≡ vs
    values [] [] h = refl
    values [] (v ∷ vs) h = cc
    values (f ∷ fs) [] h = cc
    values (f ∷ fs) (v ∷ vs) h = ap (λ l. v ∷ l) (values fs vs (omega arith))

-- f and g agree on lists of n items, so they do on all of these lists
abbrev Agree : ℕ → (List Value → Value) → (List Value → Value) → Type 0
Agree n f g = (l : List Value) → length l ≡ n → f l ≡ g l

agree-heads : (n : ℕ) (f g : List Value → Value) (hs : List Value) (ls : List (List Value))
    → ((h : Value) → map (λ l. f (h ∷ l)) ls ≡ map (λ l. g (h ∷ l)) ls) → map f (add_heads hs ls) ≡ map g (add_heads hs ls)
agree-heads n f g [] ls e = refl
agree-heads n f g (h ∷ hs) ls e =
    map-append f (map (λ l. h ∷ l) ls) (add_heads hs ls) ∙ ap (λ l. l ++ map f (add_heads hs ls)) (under f ls ∙ e h ∙ sym (under g ls))
    ∙ ap (λ l. map g (map (λ x. h ∷ x) ls) ++ l) (agree-heads n f g hs ls e) ∙ sym (map-append g (map (λ l. h ∷ l) ls) (add_heads hs ls))
  where
    under : (k : List Value → Value) (ls : List (List Value)) → map k (map (λ l. h ∷ l) ls) ≡ map (λ l. k (h ∷ l)) ls
    under k [] = refl
    under k (l ∷ ls) = ap (λ m. k (h ∷ l) ∷ m) (under k ls)

agree-lists : (cs : List (List Value)) (f g : List Value → Value) → Agree (length cs) f g → map f (lists_of cs) ≡ map g (lists_of cs)
agree-lists [] f g e = ap (λ v. v ∷ []) (e [] refl)
agree-lists (c ∷ cs) f g e =
    agree-heads (length cs) f g c (lists_of cs) (λ h. agree-lists cs (λ l. f (h ∷ l)) (λ l. g (h ∷ l)) (λ l k. e (h ∷ l) (ap suc k)))

-- Records of one value from each list.
pub records-of : (fs : List Text) (cs : List (List Value)) → length cs ≡ length fs
    → map (λ l. record_value (zip fs l)) (lists_of cs) ≡ map (λ l. node (a_record fs) (of_list l)) (lists_of cs)
records-of fs cs h = agree-lists cs (λ l. record_value (zip fs l)) (λ l. node (a_record fs) (of_list l)) (λ l e. record-of fs l (e ∙ h))
