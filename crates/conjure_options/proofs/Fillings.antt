-- Children that are filled.
use Rattle.std.proofs.Common.{◌≡◌, refl, sym, ap, ◌∙◌, ℕ, ◌+◌, ◌<◌, ◌≤◌, List, [], ◌∷◌, ◌++◌, map, length, take, drop, get_or, arith, append-nil, append_assoc}
use Rattle.std.proofs.lemmas.List.{map-append, take_more, take_all, at_drop_more, at_drop_all}
use Rattle.ess_semantics.specs.Trees as pure
use Rattle.ess_semantics.specs.Choice.{reprs_of, default_repr}
use Rattle.ess_core.specs.declared.representations.Repr.{Repr}
use Rattle.ess_core.specs.declared.representations.Repr.TheViews.{out-Repr, roll-Repr}
use Rattle.ess_core.specs.declared.representations.Repr.TheFolds.{fold-roll-Repr}
use Rattle.ess_core.specs.declared.domains.Dom.{Dom}
use Rattle.ess_core.specs.TreeViews.{repr_step, pure_repr, pure_dom}
use Rattle.ess_core.proofs.RepresentationEquations.{pure_repr_is}
use Rattle.ess_repr_declare_laws.specs.ChildDomains.{kind_of, child_doms}
use Rattle.conjure_options.specs.Filled.{defaults, filled, children_filled, all_filled}

-- Several trees of the code.
abbrev pub kids : List Repr → pure.Reprs
kids rs = reprs_of (map pure_repr rs)

-- A representation with its children filled is filled.
pub whole : (r : Repr) (d : pure.Dom) (rs given : List Repr) (row doms : List Dom) → map pure_dom row ≡ child_doms (kind_of (pure_repr r)) d
    → given ≡ (out-Repr r).children → doms ≡ row → kids rs ≡ children_filled (kids given) (map pure_dom doms)
    → pure_repr (roll-Repr (record { kind = (out-Repr r).kind; children = rs })) ≡ filled (pure_repr r) d
whole r d rs given row doms is these those fills =
    fold-roll-Repr pure.Repr repr_step (record { kind = (out-Repr r).kind; children = rs })
    ∙ ap (pure.repr (out-Repr r).kind)
    (fills ∙ ap (λ g. children_filled (kids g) (map pure_dom doms)) these
    ∙ ap (children_filled (kids (out-Repr r).children)) (ap (map pure_dom) those ∙ is
    ∙ ap (λ t. child_doms (kind_of t) d) (pure_repr_is r)))
    ∙ sym (ap (λ t. filled t d) (pure_repr_is r))

-- Where no children are given, they are the defaults.
pub none_given : (given : List Repr) (ds : List pure.Dom) → length given ≡ 0 → children_filled (kids given) ds ≡ defaults ds
none_given [] ds h = refl
none_given (r ∷ rs) ds h = absurd (omega arith)

-- Where some are given, each is filled.
pub some_given : (given : List Repr) (ds : List pure.Dom) → (length given ≡ 0 → ⊥)
    → children_filled (kids given) ds ≡ all_filled (kids given) ds
some_given [] ds h = absurd (h refl)
some_given (r ∷ rs) [] h = refl
some_given (r ∷ rs) (d ∷ ds) h = refl

-- ---- defaults

-- What is chosen for a child.
abbrev pub for_dom : Dom → pure.Repr
for_dom d = default_repr (pure_dom d)

-- A default more.
pub defaults_more : (ds : List Dom) (i : ℕ) (rs ts : List Repr) (r : Repr) (d : Dom) → i < length ds → d ≡ get_or ds i d →
    ts ≡ rs ++ r ∷ [] → map pure_repr rs ≡ map for_dom (take i ds) → pure_repr r ≡ default_repr (pure_dom d) →
    map pure_repr ts ≡ map for_dom (take (i + 1) ds)
defaults_more ds i rs ts r d h is e p q =
    ap (map pure_repr) e ∙ map-append pure_repr rs (r ∷ []) ∙ ap (λ l. l ++ pure_repr r ∷ []) p
    ∙ ap (λ y. map for_dom (take i ds) ++ y ∷ []) q
    ∙ ap (λ y. map for_dom (take i ds) ++ for_dom y ∷ []) is ∙ sym (map-append for_dom (take i ds) (get_or ds i d ∷ []))
    ∙ sym (ap (map for_dom) (take_more ds i d h))

each-default : (ds : List Dom) → reprs_of (map for_dom ds) ≡ defaults (map pure_dom ds)
each-default [] = refl
each-default (d ∷ ds) = ap (pure.more_reprs (for_dom d)) (each-default ds)

-- Behind the last domain they are the defaults of all.
pub defaults_all : (ds : List Dom) (i : ℕ) (rs : List Repr) → length ds ≤ i → map pure_repr rs ≡ map for_dom (take i ds) →
    kids rs ≡ defaults (map pure_dom ds)
defaults_all ds i rs h p = ap reprs_of p ∙ ap (λ l. reprs_of (map for_dom l)) (take_all i ds h) ∙ each-default ds

-- ---- children that are given

-- The children, each filled at the domain beside it.
abbrev pub filled_list : List Repr → List Dom → List pure.Repr
filled_list [] ds = []
filled_list (r ∷ rs) [] = pure_repr r ∷ map pure_repr rs
filled_list (r ∷ rs) (d ∷ ds) = filled (pure_repr r) (pure_dom d) ∷ filled_list rs ds

without-doms : (rs : List Repr) → filled_list rs [] ≡ map pure_repr rs
without-doms [] = refl
without-doms (r ∷ rs) = refl

each-filled : (rs : List Repr) (ds : List Dom) → reprs_of (filled_list rs ds) ≡ all_filled (kids rs) (map pure_dom ds)
each-filled [] ds = refl
each-filled (r ∷ rs) [] = refl
each-filled (r ∷ rs) (d ∷ ds) = ap (pure.more_reprs (filled (pure_repr r) (pure_dom d))) (each-filled rs ds)

one-more : (done ts : List Repr) (t : Repr) (rest : List pure.Repr) → ts ≡ done ++ t ∷ []
    → map pure_repr ts ++ rest ≡ map pure_repr done ++ pure_repr t ∷ rest
one-more done ts t rest adds =
    ap (λ l. map pure_repr l ++ rest) adds ∙ ap (λ l. l ++ rest) (map-append pure_repr done (t ∷ []))
    ∙ append_assoc (map pure_repr done) (pure_repr t ∷ []) rest

-- A child that is filled at the domain beside it: what is filled and what is left stay all children.
pub filled_more : (rs : List Repr) (ds : List Dom) (i : ℕ) (done ts : List Repr) (r t : Repr) (d : Dom) (all : List pure.Repr)
    → i < length rs → i < length ds → r ≡ get_or rs i r → d ≡ get_or ds i d → ts ≡ done ++ t ∷ []
    → pure_repr t ≡ filled (pure_repr r) (pure_dom d)
    → map pure_repr done ++ filled_list (drop i rs) (drop i ds) ≡ all
    → map pure_repr ts ++ filled_list (drop (i + 1) rs) (drop (i + 1) ds) ≡ all
filled_more rs ds i done ts r t d all h k is js adds fills so =
    one-more done ts t (filled_list (drop (i + 1) rs) (drop (i + 1) ds)) adds
    ∙ ap (λ y. map pure_repr done ++ y ∷ filled_list (drop (i + 1) rs) (drop (i + 1) ds)) fills
    ∙ ap (λ l. map pure_repr done ++ l) (sym (here))
    ∙ so
  where
    here : filled_list (drop i rs) (drop i ds) ≡ filled (pure_repr r) (pure_dom d) ∷ filled_list (drop (i + 1) rs) (drop (i + 1) ds)
    here =
        at_drop_more (λ l. filled_list l (drop i ds)) rs i r h
        ∙ at_drop_more (λ l. filled_list (get_or rs i r ∷ drop (i + 1) rs) l) ds i d k
        ∙ ap (λ q. filled (pure_repr q) (pure_dom (get_or ds i d)) ∷ filled_list (drop (i + 1) rs) (drop (i + 1) ds)) (sym is)
        ∙ ap (λ q. filled (pure_repr r) (pure_dom q) ∷ filled_list (drop (i + 1) rs) (drop (i + 1) ds)) (sym js)

-- A child without a domain beside it stays as it is.
pub copied_more : (rs : List Repr) (ds : List Dom) (i : ℕ) (done ts : List Repr) (r t : Repr) (all : List pure.Repr)
    → i < length rs → length ds ≤ i → r ≡ get_or rs i r → ts ≡ done ++ t ∷ [] → t ≡ r
    → map pure_repr done ++ filled_list (drop i rs) (drop i ds) ≡ all
    → map pure_repr ts ++ filled_list (drop (i + 1) rs) (drop (i + 1) ds) ≡ all
copied_more rs ds i done ts r t all h k is adds copies so =
    let k' : length ds ≤ i + 1 = omega arith in
    one-more done ts t (filled_list (drop (i + 1) rs) (drop (i + 1) ds)) adds
    ∙ ap (λ y. map pure_repr done ++ pure_repr y ∷ filled_list (drop (i + 1) rs) (drop (i + 1) ds)) (copies ∙ is)
    ∙ ap (λ l. map pure_repr done ++ pure_repr (get_or rs i r) ∷ l)
    (at_drop_all (λ l. filled_list (drop (i + 1) rs) l) ds (i + 1) k' ∙ without-doms (drop (i + 1) rs))
    ∙ ap (λ l. map pure_repr done ++ l) (sym (at_drop_more (λ l. filled_list l (drop i ds)) rs i r h
    ∙ at_drop_all (λ l. filled_list (get_or rs i r ∷ drop (i + 1) rs) l) ds i k))
    ∙ so

-- Behind the last child all are filled.
pub filled_all : (rs : List Repr) (ds : List Dom) (i : ℕ) (done : List Repr) → length rs ≤ i
    → map pure_repr done ++ filled_list (drop i rs) (drop i ds) ≡ filled_list rs ds
    → kids done ≡ all_filled (kids rs) (map pure_dom ds)
filled_all rs ds i done h so =
    ap reprs_of (sym (append-nil (map pure_repr done))
    ∙ ap (λ l. map pure_repr done ++ l) (sym (at_drop_all (λ l. filled_list l (drop i ds)) rs i h)) ∙ so)
    ∙ each-filled rs ds
