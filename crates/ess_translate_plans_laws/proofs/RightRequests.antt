-- What the statements of a well typed specification ask for is right: each representation fits a domain that is sound.
use Rattle.std.proofs.Common.{◌≡◌, true, ◌&&◌, List, [], ◌∷◌, ◌++◌, map}
use Rattle.std.specs.List.{list_all}
use Rattle.ess_semantics.specs.Values.{Text}
use Rattle.ess_semantics.specs.Lists.{append_all}
use Rattle.ess_semantics.specs.Names.{Names}
use Rattle.ess_semantics.specs.Order.{same_text}
use Rattle.ess_semantics.specs.Contexts.{Each}
use Rattle.ess_semantics.specs.Kinds.{fits}
use Rattle.ess_semantics.specs.Trees.{Repr, Dom, Doms, bool_dom, int_dom, name_dom, tuple_dom, record_dom, matrix_dom, set_dom, mset_dom, function_dom, relation_dom, partition_dom, no_doms, more_doms, Stm, given, given_enum, let_ex, let_dom, let_enum, let_unnamed, needs, find, such_that, minimise, maximise}
use Rattle.ess_semantics.specs.Plans.{Side, givens_side, finds_side, domain_of_stm}
use Rattle.ess_semantics.proofs.Tests.{and-left, and-right}
use Rattle.ess_repr_laws.specs.WellFormed.{Well, AllWell}
use Rattle.ess_repr_declare_laws.specs.Laws.{Sound, AllSound}
use Rattle.conjure_laws.proofs.Lists.{each-append}
use Rattle.ess_translate_header_laws.specs.Headers.{all_fit, are_reprs_of}
use Rattle.ess_translate_plans_laws.specs.Requests.{HasNumbers, AllHaveNumbers, all_tables_of, requests, IsRightRequest}

mutual
  -- A well formed domain with its numbers is sound.
  pub well-sound : (d : Dom) → Well d → HasNumbers d → Sound d
  well-sound bool_dom w h = tt
  well-sound (int_dom rs es) w h = tt
  well-sound (name_dom a) w h = tt
  well-sound (tuple_dom ds) w h = all-sound ds w h
  well-sound (record_dom fs ds) w h = all-sound ds w h
  well-sound (matrix_dom is d) w h = (w.0, w.1, well-sound d w.2 h)
  well-sound (set_dom ms es d) w h = (w.0, h.0, well-sound d w.1 h.1)
  well-sound (mset_dom ms es d) w h = (w.0, h.0, well-sound d w.1 h.1)
  well-sound (function_dom ms es d c) w h = (w.0, h.0, w.1, well-sound d w.2 h.1, well-sound c w.3 h.2)
  well-sound (relation_dom ms es ds) w h = (w.0, h.0, all-sound ds w.1 h.1)
  well-sound (partition_dom ms es d) w h = (w.0, h.0, well-sound d w.1 h.1)

  all-sound : (ds : Doms) → AllWell ds → AllHaveNumbers ds → AllSound ds
  all-sound no_doms w h = tt
  all-sound (more_doms d ds) w h = (well-sound d w.0 h.0, all-sound ds w.1 h.1)

all-right : (f : Side) (x : Text) (d : Dom) (rs : List Repr) → Sound d → list_all (λ r. fits r d) rs ≡ true →
    Each (all_tables_of f x d rs) IsRightRequest
all-right f x d [] s h = tt
all-right f x d (r ∷ rs) s h =
    ((and-left (fits r d) (list_all (λ q. fits q d) rs) h, s), all-right f x d rs s (and-right (fits r d) (list_all (λ q. fits q d) rs) h))

-- Of the first name: the representations fit, and the others are those of the other names.
record Front (x : Text) (d : Dom) (xs : Names Dom) (a : Text) (qs : List Repr) (rs : Names (List Repr)) : Type 0 where
  same : same_text x a ≡ true
  fit : list_all (λ r. fits r d) qs ≡ true
  rest : are_reprs_of xs rs ≡ true

front : (x : Text) (d : Dom) (xs : Names Dom) (a : Text) (qs : List Repr) (rs : Names (List Repr)) →
    are_reprs_of ((x, d) ∷ xs) ((a, qs) ∷ rs) ≡ true → Front x d xs a qs rs
front x d xs a qs rs h =
    let l = and-left (same_text x a && all_fit qs d) (are_reprs_of xs rs) h in record {
      same = and-left (same_text x a) (all_fit qs d) l;
      fit = and-right (same_text x a) (all_fit qs d) l;
      rest = and-right (same_text x a && all_fit qs d) (are_reprs_of xs rs) h;
    }

-- The names and the domains in them.
abbrev names_of : List Stm → Names Dom
names_of ss = append_all (map domain_of_stm ss)

abbrev AllRight : List Stm → Type 0
AllRight ss = (rs : Names (List Repr)) → are_reprs_of (names_of ss) rs ≡ true → Each (names_of ss) (λ x. Sound x.1) →
    Each (requests ss rs) IsRightRequest

name-right : (f : Side) (x : Text) (d : Dom) (ss : List Stm) (a : Text) (qs : List Repr) (rs : Names (List Repr)) → AllRight ss →
    are_reprs_of ((x, d) ∷ names_of ss) ((a, qs) ∷ rs) ≡ true → Sound d → Each (names_of ss) (λ x. Sound x.1) →
    Each (all_tables_of f x d qs ++ requests ss rs) IsRightRequest
name-right f x d ss a qs rs k h s t =
    let p = front x d (names_of ss) a qs rs h in
    each-append IsRightRequest (all_tables_of f x d qs) (requests ss rs) (all-right f x d qs s p.fit) (k rs p.rest t)

-- What statements ask for is right.
pub requests-right : (ss : List Stm) → AllRight ss
requests-right [] rs h s = tt
requests-right (given x d ∷ ss) [] h s = cc
requests-right (given x d ∷ ss) (r ∷ rs) h s = name-right givens_side x d ss r.0 r.1 rs (requests-right ss) h s.0 s.1
requests-right (find x d ∷ ss) [] h s = cc
requests-right (find x d ∷ ss) (r ∷ rs) h s = name-right finds_side x d ss r.0 r.1 rs (requests-right ss) h s.0 s.1
requests-right (given_enum t ∷ ss) rs h s = (tt, requests-right ss rs h s)
requests-right (let_ex x e ∷ ss) rs h s = requests-right ss rs h s
requests-right (let_dom x d ∷ ss) rs h s = requests-right ss rs h s
requests-right (let_enum t ns ∷ ss) rs h s = requests-right ss rs h s
requests-right (let_unnamed t e ∷ ss) rs h s = requests-right ss rs h s
requests-right (needs e ∷ ss) rs h s = requests-right ss rs h s
requests-right (such_that e ∷ ss) rs h s = requests-right ss rs h s
requests-right (minimise e ∷ ss) rs h s = requests-right ss rs h s
requests-right (maximise e ∷ ss) rs h s = requests-right ss rs h s
