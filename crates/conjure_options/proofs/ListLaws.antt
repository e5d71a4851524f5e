-- The items of a list.
use Rattle.std.proofs.Common.{◌≡◌, refl, sym, ap, ◌∙◌, subst, ℕ, suc, ◌+◌, ◌<◌, ◌≤◌, List, [], ◌∷◌, ◌++◌, map, length, take, drop, get_or, Option, Some, None, arith, Bor, append-nil, append_assoc}
use Rattle.std.proofs.lemmas.List.{map-append, take_more, take_all, at_drop_more, take-append-drop, length-take-le}
use Rattle.ess_semantics.specs.Values.{Text}
use Rattle.ess_semantics.specs.Names.{Names, keys}
use Rattle.ess_semantics.specs.Trees.{Dom, Repr}
use Rattle.ess_semantics.specs.Plans.{Options}
use Rattle.ess_parse.specs.declared.representations.named.NamedReprs.{NamedReprs}
use Rattle.ess_parse.specs.NamedReprViews.{pure_named_reprs}
use Rattle.conjure_options.specs.Items.{IsItem, AreItems, IsItemOrNone}
use Rattle.conjure_options.specs.Refused.{IsFirstRefused}

-- The texts of items.
abbrev pub texts : List (Bor Text) → List Text
texts ps = map (λ p. p.now) ps

snoc : (ds : Names Dom) (done : List Text) (is : List Text) (i : Text) (bs : Options) (b : Text × List Repr)
    → AreItems ds done is bs → IsItem ds (done ++ keys bs) i b → AreItems ds done (is ++ i ∷ []) (bs ++ b ∷ [])
snoc ds done [] i [] b h k = (subst (λ l. IsItem ds l i b) (append-nil done) k, tt)
snoc ds done [] i (c ∷ bs) b h k = absurd h
snoc ds done (j ∷ is) i [] b h k = absurd h
snoc ds done (j ∷ is) i (c ∷ bs) b h k =
    (h.0, snoc ds (done ++ c.0 ∷ []) is i bs b h.1 (subst (λ l. IsItem ds l i b) (sym (append_assoc done (c.0 ∷ []) (keys bs))) k))

-- Before the first item nothing is given.
pub items_none : (ds : Names Dom) → AreItems ds [] [] []
items_none ds = tt

next-text : (ps : List (Bor Text)) (i : ℕ) (p : Bor Text) → i < length ps
    → texts (take (i + 1) ps) ≡ texts (take i ps) ++ (get_or ps i p).now ∷ []
next-text ps i p lt = ap texts (take_more ps i p lt) ∙ map-append (λ q. q.now) (take i ps) (get_or ps i p ∷ [])

-- An item more, with what it gives.
pub items_more : (ds : Names Dom) (ps : List (Bor Text)) (i : ℕ) (p : Bor Text) (os us : List NamedReprs) (n : NamedReprs)
    (o : Option NamedReprs) → i < length ps → us ≡ os ++ n ∷ [] → AreItems ds [] (texts (take i ps)) (map pure_named_reprs os) → o ≡ Some n
    → IsItemOrNone ds (keys (map pure_named_reprs os)) (get_or ps i p).now o
    → AreItems ds [] (texts (take (i + 1) ps)) (map pure_named_reprs us)
items_more ds ps i p os us n o lt adds so is found =
    let here : IsItemOrNone ds (keys (map pure_named_reprs os)) (get_or ps i p).now (Some n) =
    subst (IsItemOrNone ds (keys (map pure_named_reprs os)) (get_or ps i p).now) is found in
    subst (λ l. AreItems ds [] l (map pure_named_reprs us)) (sym (next-text ps i p lt))
    (subst (λ l. AreItems ds [] (texts (take i ps) ++ (get_or ps i p).now ∷ []) l)
    (sym (ap (map pure_named_reprs) adds ∙ map-append pure_named_reprs os (n ∷ [])))
    (snoc ds [] (texts (take i ps)) (get_or ps i p).now (map pure_named_reprs os) (pure_named_reprs n) so here.0))

-- An item that gives nothing is the first that is refused.
pub items_refused : (ds : Names Dom) (all : List Text) (ps : List (Bor Text)) (i : ℕ) (p : Bor Text) (os : List NamedReprs)
    (o : Option NamedReprs) → texts ps ≡ all → i < length ps → AreItems ds [] (texts (take i ps)) (map pure_named_reprs os) → o ≡ None
    → IsItemOrNone ds (keys (map pure_named_reprs os)) (get_or ps i p).now o
    → IsFirstRefused ds all (i + 1)
items_refused ds all ps i p os o whole lt so is found = record {
  front = texts (take i ps);
  item = (get_or ps i p).now;
  rest = texts (drop (i + 1) ps);
  before = map pure_named_reprs os;
  there =
      sym whole ∙ ap texts (sym (take-append-drop i ps)) ∙ map-append (λ q. q.now) (take i ps) (drop i ps)
      ∙ ap (λ l. texts (take i ps) ++ l) (at_drop_more texts ps i p lt);
  taken = so;
  number = let h = long (take i ps) in let k = length-take-le i ps (omega arith) in omega (arith, h, k);
  refused = subst (IsItemOrNone ds (keys (map pure_named_reprs os)) (get_or ps i p).now) is found;
}
  where
    long : (qs : List (Bor Text)) → length (texts qs) ≡ length qs
    long [] = refl
    long (q ∷ qs) = ap suc (long qs)

-- Behind the last item they are what all items give.
pub items_all : (ds : Names Dom) (whole : List Text) (ps : List (Bor Text)) (i : ℕ) (os : List NamedReprs) → texts ps ≡ whole
    → length ps ≤ i → AreItems ds [] (texts (take i ps)) (map pure_named_reprs os) → AreItems ds [] whole (map pure_named_reprs os)
items_all ds whole ps i os is le so =
    subst (λ l. AreItems ds [] l (map pure_named_reprs os)) is
    (subst (λ l. AreItems ds [] (texts l) (map pure_named_reprs os)) (take_all i ps le) so)
