-- Records keep their fields where lettings are put in and expressions are resolved.
use Rattle.std.proofs.Common.{◌≡◌, refl, sym, ap, ◌∙◌, suc, List, [], ◌∷◌, length, Option, Some, None}
use Rattle.ess_semantics.specs.Values.{Text}
use Rattle.ess_semantics.specs.Names.{Names, look}
use Rattle.ess_semantics.specs.Trees.{Dom, Doms, bool_dom, int_dom, name_dom, tuple_dom, record_dom, matrix_dom, set_dom, mset_dom, function_dom, relation_dom, partition_dom, no_doms, more_doms, Stm, given, given_enum, let_ex, let_dom, let_enum, let_unnamed, needs, find, such_that, minimise, maximise}
use Rattle.ess_semantics.specs.Types.{Ty}
use Rattle.ess_semantics.specs.Kinds.{dom_list}
use Rattle.ess_semantics.specs.Contexts.{Each}
use Rattle.ess_semantics.specs.Lettings.{Lettings, no_lettings, put_dom_name, put_dom, put_doms, put_stm, types_after, lettings_after}
use Rattle.ess_semantics.specs.Resolving.{resolve_dom, resolve_doms}
use Rattle.ess_semantics.specs.Prepared.{resolve_stm}
use Rattle.ess_semantics.specs.Plans.{domain_of_stm, kept_names}
use Rattle.conjure_laws.specs.Fields.{HasFields, AllHaveFields, HasItsFields}
use Rattle.conjure_laws.proofs.Lists.{at-item, each-append}
use Rattle.conjure_laws.proofs.Lookups.{look-in}
use Rattle.conjure_laws.proofs.JudgedNames.{kept_from}

-- ---- resolved

resolved-long : (ds : Doms) (g : Names Ty) → length (dom_list (resolve_doms ds g)) ≡ length (dom_list ds)
resolved-long no_doms g = refl
resolved-long (more_doms d ds) g = ap suc (resolved-long ds g)

mutual
  resolved-fields : (d : Dom) (g : Names Ty) → HasFields d → HasFields (resolve_dom d g)
  resolved-fields bool_dom g h = tt
  resolved-fields (int_dom rs es) g h = tt
  resolved-fields (name_dom a) g h = tt
  resolved-fields (tuple_dom ds) g h = all-resolved-fields ds g h
  resolved-fields (record_dom fs ds) g h = (h.0 ∙ sym (resolved-long ds g), all-resolved-fields ds g h.1)
  resolved-fields (matrix_dom is d) g h = resolved-fields d g h
  resolved-fields (set_dom ms es d) g h = resolved-fields d g h
  resolved-fields (mset_dom ms es d) g h = resolved-fields d g h
  resolved-fields (function_dom ms es d c) g h = (resolved-fields d g h.0, resolved-fields c g h.1)
  resolved-fields (relation_dom ms es ds) g h = all-resolved-fields ds g h
  resolved-fields (partition_dom ms es d) g h = resolved-fields d g h

  all-resolved-fields : (ds : Doms) (g : Names Ty) → AllHaveFields ds → AllHaveFields (resolve_doms ds g)
  all-resolved-fields no_doms g h = tt
  all-resolved-fields (more_doms d ds) g h = (resolved-fields d g h.0, all-resolved-fields ds g h.1)

-- ---- with lettings put in

-- The domains of lettings have their fields.
abbrev LettingsHave : Lettings → Type 0
LettingsHave l = Each l.doms (λ x. HasFields x.1)

put-long : (ds : Doms) (l : Lettings) (g : Names Ty) → length (dom_list (put_doms ds l g)) ≡ length (dom_list ds)
put-long no_doms l g = refl
put-long (more_doms d ds) l g = ap suc (put-long ds l g)

put-name : (l : Lettings) (a : Text) → LettingsHave l → (o : Option Dom) → look l.doms a ≡ o → HasFields (put_dom_name o a)
put-name l a h None e = tt
put-name l a h (Some d) e = at-item (λ x. HasFields x.1) l.doms (a, d) h (look-in l.doms a d e)

mutual
  put-fields : (d : Dom) (l : Lettings) (g : Names Ty) → LettingsHave l → HasFields d → HasFields (put_dom d l g)
  put-fields bool_dom l g k h = tt
  put-fields (int_dom rs es) l g k h = tt
  put-fields (name_dom a) l g k h = put-name l a k (look l.doms a) refl
  put-fields (tuple_dom ds) l g k h = all-put-fields ds l g k h
  put-fields (record_dom fs ds) l g k h = (h.0 ∙ sym (put-long ds l g), all-put-fields ds l g k h.1)
  put-fields (matrix_dom is d) l g k h = put-fields d l g k h
  put-fields (set_dom ms es d) l g k h = put-fields d l g k h
  put-fields (mset_dom ms es d) l g k h = put-fields d l g k h
  put-fields (function_dom ms es d c) l g k h = (put-fields d l g k h.0, put-fields c l g k h.1)
  put-fields (relation_dom ms es ds) l g k h = all-put-fields ds l g k h
  put-fields (partition_dom ms es d) l g k h = put-fields d l g k h

  all-put-fields : (ds : Doms) (l : Lettings) (g : Names Ty) → LettingsHave l → AllHaveFields ds → AllHaveFields (put_doms ds l g)
  all-put-fields no_doms l g k h = tt
  all-put-fields (more_doms d ds) l g k h = (put-fields d l g k h.0, all-put-fields ds l g k h.1)

-- ---- statement by statement

of-stm : (w : Stm) (l : Lettings) (g : Names Ty) → LettingsHave l → HasItsFields w →
    Each (domain_of_stm (resolve_stm (put_stm w l g) g)) (λ x. HasFields x.1) × LettingsHave (lettings_after (put_stm w l g) l)
of-stm (given x d) l g k h = ((resolved-fields (put_dom d l g) g (put-fields d l g k h), tt), k)
of-stm (find x d) l g k h = ((resolved-fields (put_dom d l g) g (put-fields d l g k h), tt), k)
of-stm (let_dom x d) l g k h = (tt, (put-fields d l g k h, k))
of-stm (given_enum t) l g k h = (tt, k)
of-stm (let_ex x e) l g k h = (tt, k)
of-stm (let_enum t ns) l g k h = (tt, k)
of-stm (let_unnamed t e) l g k h = (tt, k)
of-stm (needs e) l g k h = (tt, k)
of-stm (such_that e) l g k h = (tt, k)
of-stm (minimise e) l g k h = (tt, k)
of-stm (maximise e) l g k h = (tt, k)

from-written : (ws : List Stm) (l : Lettings) (g : Names Ty) → LettingsHave l → Each ws HasItsFields →
    Each (kept_from ws l g) (λ x. HasFields x.1)
from-written [] l g k h = tt
from-written (w ∷ ws) l g k h =
    let r = of-stm w l g k h.0 in
    let t : Stm = put_stm w l g in
    each-append (λ x. HasFields x.1) (domain_of_stm (resolve_stm t g)) (kept_from ws (lettings_after t l) (types_after t g)) r.0
    (from-written ws (lettings_after t l) (types_after t g) r.1 h.1)

-- The domains of givens and finds have their fields, where those that are written have.
pub written-fields : (S : List Stm) → Each S HasItsFields → Each (kept_names S) (λ x. HasFields x.1)
written-fields S h = from-written S no_lettings [] tt h
