-- Relations have components, as the grammar reads them, also with lettings put in and resolved. So domains are proper.
use Rattle.std.proofs.Common.{◌≡◌, refl, sym, ap, ◌∙◌, true, ◌&&◌, List, [], ◌∷◌, Option, Some, None}
use Rattle.std.specs.List.{list_all}
use Rattle.ess_semantics.specs.Values.{Text}
use Rattle.ess_semantics.specs.Names.{Names, look}
use Rattle.ess_semantics.specs.Trees.{Dom, Doms, bool_dom, int_dom, name_dom, tuple_dom, record_dom, matrix_dom, set_dom, mset_dom, function_dom, relation_dom, partition_dom, no_doms, more_doms, Stm, given, given_enum, let_ex, let_dom, let_enum, let_unnamed, needs, find, such_that, minimise, maximise}
use Rattle.ess_semantics.specs.Types.{Ty}
use Rattle.ess_semantics.specs.Kinds.{dom_list, is_atom}
use Rattle.ess_semantics.specs.Contexts.{Each}
use Rattle.ess_semantics.specs.Lettings.{Lettings, no_lettings, put_dom_name, put_dom, put_doms, put_stm, types_after, lettings_after}
use Rattle.ess_semantics.specs.Resolving.{resolve_dom, resolve_doms}
use Rattle.ess_semantics.specs.Prepared.{resolve_stm}
use Rattle.ess_semantics.specs.Plans.{domain_of_stm, kept_names}
use Rattle.ess_semantics.proofs.Tests.{and-both}
use Rattle.ess_types_laws.specs.ProperDomains.{each_is_atom, is_proper, are_proper}
use Rattle.ess_repr_laws.specs.WellFormed.{Well, AllWell}
use Rattle.conjure_laws.proofs.Lists.{at-item, each-append}
use Rattle.conjure_laws.proofs.Lookups.{look-in}
use Rattle.conjure_laws.proofs.JudgedNames.{kept_from}

abbrev mutual
  -- Each relation in the domain has a component.
  pub HasParts : Dom → Type 0
  HasParts (tuple_dom ds) = AllHaveParts ds
  HasParts (record_dom fs ds) = AllHaveParts ds
  HasParts (matrix_dom is d) = HasParts d
  HasParts (set_dom ms es d) = HasParts d
  HasParts (mset_dom ms es d) = HasParts d
  HasParts (function_dom ms es d c) = HasParts d × HasParts c
  HasParts (relation_dom ms es no_doms) = ⊥
  HasParts (relation_dom ms es (more_doms d ds)) = HasParts d × AllHaveParts ds
  HasParts (partition_dom ms es d) = HasParts d
  HasParts d = Unit {0}

  -- So has each of these domains.
  pub AllHaveParts : Doms → Type 0
  AllHaveParts no_doms = Unit {0}
  AllHaveParts (more_doms d ds) = HasParts d × AllHaveParts ds

-- The domain that a statement is with, as it is written, has its components.
abbrev pub HasItsParts : Stm → Type 0
HasItsParts (given x d) = HasParts d
HasItsParts (find x d) = HasParts d
HasItsParts (let_dom x d) = HasParts d
HasItsParts s = Unit {0}

-- ---- resolved

mutual
  resolved-parts : (d : Dom) (g : Names Ty) → HasParts d → HasParts (resolve_dom d g)
  resolved-parts bool_dom g h = tt
  resolved-parts (int_dom rs es) g h = tt
  resolved-parts (name_dom a) g h = tt
  resolved-parts (tuple_dom ds) g h = all-resolved-parts ds g h
  resolved-parts (record_dom fs ds) g h = all-resolved-parts ds g h
  resolved-parts (matrix_dom is d) g h = resolved-parts d g h
  resolved-parts (set_dom ms es d) g h = resolved-parts d g h
  resolved-parts (mset_dom ms es d) g h = resolved-parts d g h
  resolved-parts (function_dom ms es d c) g h = (resolved-parts d g h.0, resolved-parts c g h.1)
  resolved-parts (relation_dom ms es no_doms) g h = absurd h
  resolved-parts (relation_dom ms es (more_doms d ds)) g h = (resolved-parts d g h.0, all-resolved-parts ds g h.1)
  resolved-parts (partition_dom ms es d) g h = resolved-parts d g h

  all-resolved-parts : (ds : Doms) (g : Names Ty) → AllHaveParts ds → AllHaveParts (resolve_doms ds g)
  all-resolved-parts no_doms g h = tt
  all-resolved-parts (more_doms d ds) g h = (resolved-parts d g h.0, all-resolved-parts ds g h.1)

-- ---- with lettings put in

-- The domains of lettings have their components.
abbrev LettingsHave : Lettings → Type 0
LettingsHave l = Each l.doms (λ x. HasParts x.1)

put-name : (l : Lettings) (a : Text) → LettingsHave l → (o : Option Dom) → look l.doms a ≡ o → HasParts (put_dom_name o a)
put-name l a h None e = tt
put-name l a h (Some d) e = at-item (λ x. HasParts x.1) l.doms (a, d) h (look-in l.doms a d e)

mutual
  put-parts : (d : Dom) (l : Lettings) (g : Names Ty) → LettingsHave l → HasParts d → HasParts (put_dom d l g)
  put-parts bool_dom l g k h = tt
  put-parts (int_dom rs es) l g k h = tt
  put-parts (name_dom a) l g k h = put-name l a k (look l.doms a) refl
  put-parts (tuple_dom ds) l g k h = all-put-parts ds l g k h
  put-parts (record_dom fs ds) l g k h = all-put-parts ds l g k h
  put-parts (matrix_dom is d) l g k h = put-parts d l g k h
  put-parts (set_dom ms es d) l g k h = put-parts d l g k h
  put-parts (mset_dom ms es d) l g k h = put-parts d l g k h
  put-parts (function_dom ms es d c) l g k h = (put-parts d l g k h.0, put-parts c l g k h.1)
  put-parts (relation_dom ms es no_doms) l g k h = absurd h
  put-parts (relation_dom ms es (more_doms d ds)) l g k h = (put-parts d l g k h.0, all-put-parts ds l g k h.1)
  put-parts (partition_dom ms es d) l g k h = put-parts d l g k h

  all-put-parts : (ds : Doms) (l : Lettings) (g : Names Ty) → LettingsHave l → AllHaveParts ds → AllHaveParts (put_doms ds l g)
  all-put-parts no_doms l g k h = tt
  all-put-parts (more_doms d ds) l g k h = (put-parts d l g k h.0, all-put-parts ds l g k h.1)

-- ---- statement by statement

of-stm : (w : Stm) (l : Lettings) (g : Names Ty) → LettingsHave l → HasItsParts w →
    Each (domain_of_stm (resolve_stm (put_stm w l g) g)) (λ x. HasParts x.1) × LettingsHave (lettings_after (put_stm w l g) l)
of-stm (given x d) l g k h = ((resolved-parts (put_dom d l g) g (put-parts d l g k h), tt), k)
of-stm (find x d) l g k h = ((resolved-parts (put_dom d l g) g (put-parts d l g k h), tt), k)
of-stm (let_dom x d) l g k h = (tt, (put-parts d l g k h, k))
of-stm (given_enum t) l g k h = (tt, k)
of-stm (let_ex x e) l g k h = (tt, k)
of-stm (let_enum t ns) l g k h = (tt, k)
of-stm (let_unnamed t e) l g k h = (tt, k)
of-stm (needs e) l g k h = (tt, k)
of-stm (such_that e) l g k h = (tt, k)
of-stm (minimise e) l g k h = (tt, k)
of-stm (maximise e) l g k h = (tt, k)

from-written : (ws : List Stm) (l : Lettings) (g : Names Ty) → LettingsHave l → Each ws HasItsParts →
    Each (kept_from ws l g) (λ x. HasParts x.1)
from-written [] l g k h = tt
from-written (w ∷ ws) l g k h =
    let r = of-stm w l g k h.0 in
    let t : Stm = put_stm w l g in
    each-append (λ x. HasParts x.1) (domain_of_stm (resolve_stm t g)) (kept_from ws (lettings_after t l) (types_after t g)) r.0
    (from-written ws (lettings_after t l) (types_after t g) r.1 h.1)

-- The domains of givens and finds have their components, where those that are written have.
pub written-parts : (S : List Stm) → Each S HasItsParts → Each (kept_names S) (λ x. HasParts x.1)
written-parts S h = from-written S no_lettings [] tt h

-- ---- proper domains

each-atom : (ds : Doms) → list_all is_atom (dom_list ds) ≡ each_is_atom ds
each-atom no_doms = refl
each-atom (more_doms d ds) = ap (λ b. is_atom d && b) (each-atom ds)

mutual
  -- A well formed domain whose relations have components is proper.
  pub proper : (d : Dom) → Well d → HasParts d → is_proper d ≡ true
  proper bool_dom w h = refl
  proper (int_dom rs es) w h = refl
  proper (name_dom a) w h = refl
  proper (tuple_dom ds) w h = all-proper ds w h
  proper (record_dom fs ds) w h = all-proper ds w h
  proper (matrix_dom is d) w h =
      ap (λ b. b && is_proper d) (sym (each-atom is)) ∙ and-both (list_all is_atom (dom_list is)) (is_proper d) w.0 (proper d w.2 h)
  proper (set_dom ms es d) w h = proper d w.1 h
  proper (mset_dom ms es d) w h = proper d w.1 h
  proper (function_dom ms es d c) w h = and-both (is_proper d) (is_proper c) (proper d w.2 h.0) (proper c w.3 h.1)
  proper (relation_dom ms es no_doms) w h = absurd h
  proper (relation_dom ms es (more_doms d ds)) w h = and-both (is_proper d) (are_proper ds) (proper d w.1.0 h.0) (all-proper ds w.1.1 h.1)
  proper (partition_dom ms es d) w h = proper d w.1 h

  all-proper : (ds : Doms) → AllWell ds → AllHaveParts ds → are_proper ds ≡ true
  all-proper no_doms w h = refl
  all-proper (more_doms d ds) w h = and-both (is_proper d) (are_proper ds) (proper d w.0 h.0) (all-proper ds w.1 h.1)
