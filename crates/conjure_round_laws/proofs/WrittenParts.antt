-- Tuples, records and relations have components, and records their fields, as the grammar reads them: also with lettings put in and resolved.
use Rattle.std.proofs.Common.{◌≡◌, refl, ap, ◌∙◌, Bool, true, false, ◌&&◌, List, [], ◌∷◌, Option, Some, None}
use Rattle.ess_semantics.specs.Values.{Text}
use Rattle.ess_semantics.specs.Names.{Names, look}
use Rattle.ess_semantics.specs.Trees.{Dom, Doms, bool_dom, int_dom, name_dom, tuple_dom, record_dom, matrix_dom, set_dom, mset_dom, function_dom, relation_dom, partition_dom, no_doms, more_doms, Stm, given, given_enum, let_ex, let_dom, let_enum, let_unnamed, needs, find, such_that, minimise, maximise}
use Rattle.ess_semantics.specs.Types.{Ty}
use Rattle.ess_semantics.specs.Contexts.{Each}
use Rattle.ess_semantics.specs.Lettings.{Lettings, no_lettings, put_dom_name, put_dom, put_doms, put_stm, types_after, lettings_after}
use Rattle.ess_semantics.specs.Resolving.{resolve_dom, resolve_doms}
use Rattle.ess_semantics.specs.Prepared.{resolve_stm}
use Rattle.ess_semantics.specs.Plans.{domain_of_stm, kept_names}
use Rattle.ess_semantics.proofs.Tests.{and-right, and-both}
use Rattle.ess_grammar.specs.Readable.{are_name_tokens, names_rise, some_doms, several_doms, fit_domains, fit_marks, ReadableDom, ReadableDoms, ReadableStm, ReadableStms}
use Rattle.conjure_laws.proofs.Lists.{at-item, each-append}
use Rattle.conjure_laws.proofs.Lookups.{look-in}
use Rattle.conjure_laws.proofs.JudgedNames.{kept_from}

-- Whether these are fields of a record, where one may stand twice.
abbrev pub are_written_fields : List Text → Doms → Bool
are_written_fields fs ds = some_doms ds && are_name_tokens fs && fit_domains fs ds && names_rise fs

abbrev mutual
  -- Each tuple, record and relation in the domain has components, and each record its fields.
  pub IsWritten : Dom → Type 0
  IsWritten (tuple_dom ds) = (some_doms ds ≡ true) × AreWritten ds
  IsWritten (record_dom fs ds) = (are_written_fields fs ds ≡ true) × AreWritten ds
  IsWritten (matrix_dom is d) = IsWritten d
  IsWritten (set_dom ms es d) = IsWritten d
  IsWritten (mset_dom ms es d) = IsWritten d
  IsWritten (function_dom ms es d c) = IsWritten d × IsWritten c
  IsWritten (relation_dom ms es ds) = (some_doms ds ≡ true) × AreWritten ds
  IsWritten (partition_dom ms es d) = IsWritten d
  IsWritten d = Unit {0}

  -- So has each of these domains.
  pub AreWritten : Doms → Type 0
  AreWritten no_doms = Unit {0}
  AreWritten (more_doms d ds) = IsWritten d × AreWritten ds

-- The domain that a statement is with is so.
abbrev pub IsWrittenStm : Stm → Type 0
IsWrittenStm (given x d) = IsWritten d
IsWrittenStm (find x d) = IsWritten d
IsWrittenStm (let_dom x d) = IsWritten d
IsWrittenStm s = Unit {0}

-- ---- of the grammar

four : (a b c d : Bool) → a && (b && c) ≡ true → d ≡ true → a && b && c && d ≡ true
four true true c d h k = and-both c d h k
four true false c d h k = cc
four false b c d h k = cc

several-some : (ds : Doms) → several_doms ds ≡ true → some_doms ds ≡ true
several-some no_doms h = cc
several-some (more_doms d ds) h = refl

mutual
  -- A domain of the grammar is so.
  pub readable-written : (d : Dom) → ReadableDom d → IsWritten d
  readable-written bool_dom h = tt
  readable-written (int_dom rs es) h = tt
  readable-written (name_dom a) h = tt
  readable-written (tuple_dom ds) h = (h.0, all-written ds h.1)
  readable-written (record_dom fs ds) h =
      (four (some_doms ds) (are_name_tokens fs) (fit_domains fs ds) (names_rise fs) h.0 h.1, all-written ds h.2)
  readable-written (matrix_dom is d) h = readable-written d h.2
  readable-written (set_dom ms es d) h = readable-written d h.2
  readable-written (mset_dom ms es d) h = readable-written d h.2
  readable-written (function_dom ms es c d) h = (readable-written c h.2, readable-written d h.3)
  readable-written (relation_dom ms es ds) h = (several-some ds (and-right (fit_marks ms es) (several_doms ds) h.0), all-written ds h.2)
  readable-written (partition_dom ms es d) h = readable-written d h.2

  all-written : (ds : Doms) → ReadableDoms ds → AreWritten ds
  all-written no_doms h = tt
  all-written (more_doms d ds) h = (readable-written d h.0, all-written ds h.1)

written-stm : (s : Stm) → ReadableStm s → IsWrittenStm s
written-stm (given x d) h = readable-written d h.1
written-stm (find x d) h = readable-written d h.1
written-stm (let_dom x d) h = readable-written d h.1
written-stm (given_enum t) h = tt
written-stm (let_ex x e) h = tt
written-stm (let_enum t ns) h = tt
written-stm (let_unnamed t e) h = tt
written-stm (needs e) h = tt
written-stm (such_that e) h = tt
written-stm (minimise e) h = tt
written-stm (maximise e) h = tt

-- ---- resolved

some-resolved : (ds : Doms) (g : Names Ty) → some_doms (resolve_doms ds g) ≡ some_doms ds
some-resolved no_doms g = refl
some-resolved (more_doms d ds) g = refl

fit-resolved : (fs : List Text) (ds : Doms) (g : Names Ty) → fit_domains fs (resolve_doms ds g) ≡ fit_domains fs ds
fit-resolved [] no_doms g = refl
fit-resolved [] (more_doms d ds) g = refl
fit-resolved (f ∷ fs) no_doms g = refl
fit-resolved (f ∷ fs) (more_doms d ds) g = fit-resolved fs ds g

fields-resolved : (fs : List Text) (ds : Doms) (g : Names Ty) → are_written_fields fs (resolve_doms ds g) ≡ are_written_fields fs ds
fields-resolved fs ds g =
    ap (λ b. b && are_name_tokens fs && fit_domains fs (resolve_doms ds g) && names_rise fs) (some-resolved ds g)
    ∙ ap (λ b. some_doms ds && are_name_tokens fs && b && names_rise fs) (fit-resolved fs ds g)

mutual
  resolved-written : (d : Dom) (g : Names Ty) → IsWritten d → IsWritten (resolve_dom d g)
  resolved-written bool_dom g h = tt
  resolved-written (int_dom rs es) g h = tt
  resolved-written (name_dom a) g h = tt
  resolved-written (tuple_dom ds) g h = (some-resolved ds g ∙ h.0, all-resolved ds g h.1)
  resolved-written (record_dom fs ds) g h = (fields-resolved fs ds g ∙ h.0, all-resolved ds g h.1)
  resolved-written (matrix_dom is d) g h = resolved-written d g h
  resolved-written (set_dom ms es d) g h = resolved-written d g h
  resolved-written (mset_dom ms es d) g h = resolved-written d g h
  resolved-written (function_dom ms es d c) g h = (resolved-written d g h.0, resolved-written c g h.1)
  resolved-written (relation_dom ms es ds) g h = (some-resolved ds g ∙ h.0, all-resolved ds g h.1)
  resolved-written (partition_dom ms es d) g h = resolved-written d g h

  all-resolved : (ds : Doms) (g : Names Ty) → AreWritten ds → AreWritten (resolve_doms ds g)
  all-resolved no_doms g h = tt
  all-resolved (more_doms d ds) g h = (resolved-written d g h.0, all-resolved ds g h.1)

-- ---- with lettings put in

-- The domains of lettings are so.
abbrev LettingsAre : Lettings → Type 0
LettingsAre l = Each l.doms (λ x. IsWritten x.1)

put-name : (l : Lettings) (a : Text) → LettingsAre l → (o : Option Dom) → look l.doms a ≡ o → IsWritten (put_dom_name o a)
put-name l a h None e = tt
put-name l a h (Some d) e = at-item (λ x. IsWritten x.1) l.doms (a, d) h (look-in l.doms a d e)

some-put : (ds : Doms) (l : Lettings) (g : Names Ty) → some_doms (put_doms ds l g) ≡ some_doms ds
some-put no_doms l g = refl
some-put (more_doms d ds) l g = refl

fit-put : (fs : List Text) (ds : Doms) (l : Lettings) (g : Names Ty) → fit_domains fs (put_doms ds l g) ≡ fit_domains fs ds
fit-put [] no_doms l g = refl
fit-put [] (more_doms d ds) l g = refl
fit-put (f ∷ fs) no_doms l g = refl
fit-put (f ∷ fs) (more_doms d ds) l g = fit-put fs ds l g

fields-put : (fs : List Text) (ds : Doms) (l : Lettings) (g : Names Ty) →
    are_written_fields fs (put_doms ds l g) ≡ are_written_fields fs ds
fields-put fs ds l g =
    ap (λ b. b && are_name_tokens fs && fit_domains fs (put_doms ds l g) && names_rise fs) (some-put ds l g)
    ∙ ap (λ b. some_doms ds && are_name_tokens fs && b && names_rise fs) (fit-put fs ds l g)

mutual
  put-written : (d : Dom) (l : Lettings) (g : Names Ty) → LettingsAre l → IsWritten d → IsWritten (put_dom d l g)
  put-written bool_dom l g k h = tt
  put-written (int_dom rs es) l g k h = tt
  put-written (name_dom a) l g k h = put-name l a k (look l.doms a) refl
  put-written (tuple_dom ds) l g k h = (some-put ds l g ∙ h.0, all-put ds l g k h.1)
  put-written (record_dom fs ds) l g k h = (fields-put fs ds l g ∙ h.0, all-put ds l g k h.1)
  put-written (matrix_dom is d) l g k h = put-written d l g k h
  put-written (set_dom ms es d) l g k h = put-written d l g k h
  put-written (mset_dom ms es d) l g k h = put-written d l g k h
  put-written (function_dom ms es d c) l g k h = (put-written d l g k h.0, put-written c l g k h.1)
  put-written (relation_dom ms es ds) l g k h = (some-put ds l g ∙ h.0, all-put ds l g k h.1)
  put-written (partition_dom ms es d) l g k h = put-written d l g k h

  all-put : (ds : Doms) (l : Lettings) (g : Names Ty) → LettingsAre l → AreWritten ds → AreWritten (put_doms ds l g)
  all-put no_doms l g k h = tt
  all-put (more_doms d ds) l g k h = (put-written d l g k h.0, all-put ds l g k h.1)

-- ---- statement by statement

of-stm : (w : Stm) (l : Lettings) (g : Names Ty) → LettingsAre l → IsWrittenStm w →
    Each (domain_of_stm (resolve_stm (put_stm w l g) g)) (λ x. IsWritten x.1) × LettingsAre (lettings_after (put_stm w l g) l)
of-stm (given x d) l g k h = ((resolved-written (put_dom d l g) g (put-written d l g k h), tt), k)
of-stm (find x d) l g k h = ((resolved-written (put_dom d l g) g (put-written d l g k h), tt), k)
of-stm (let_dom x d) l g k h = (tt, (put-written d l g k h, k))
of-stm (given_enum t) l g k h = (tt, k)
of-stm (let_ex x e) l g k h = (tt, k)
of-stm (let_enum t ns) l g k h = (tt, k)
of-stm (let_unnamed t e) l g k h = (tt, k)
of-stm (needs e) l g k h = (tt, k)
of-stm (such_that e) l g k h = (tt, k)
of-stm (minimise e) l g k h = (tt, k)
of-stm (maximise e) l g k h = (tt, k)

from-written : (ws : List Stm) (l : Lettings) (g : Names Ty) → LettingsAre l → ReadableStms ws →
    Each (kept_from ws l g) (λ x. IsWritten x.1)
from-written [] l g k h = tt
from-written (w ∷ ws) l g k h =
    let r = of-stm w l g k (written-stm w h.0) in
    let t : Stm = put_stm w l g in
    each-append (λ x. IsWritten x.1) (domain_of_stm (resolve_stm t g)) (kept_from ws (lettings_after t l) (types_after t g)) r.0
    (from-written ws (lettings_after t l) (types_after t g) r.1 h.1)

-- The domains of the givens and finds of a specification of the grammar are so.
pub kept-written : (S : List Stm) → ReadableStms S → Each (kept_names S) (λ x. IsWritten x.1)
kept-written S h = from-written S no_lettings [] tt h
