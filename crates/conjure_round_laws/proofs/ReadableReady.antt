-- A well typed specification of the grammar is ready: its records have their fields, and its relations their components.
use Rattle.std.proofs.Common.{◌≡◌, refl, ap, suc, true, ◌&&◌, List, [], ◌∷◌, length, None}
use Rattle.ess_semantics.specs.Values.{Text}
use Rattle.ess_semantics.specs.Trees.{Dom, Doms, bool_dom, int_dom, name_dom, tuple_dom, record_dom, matrix_dom, set_dom, mset_dom, function_dom, relation_dom, partition_dom, no_doms, more_doms, Stm, given, given_enum, let_ex, let_dom, let_enum, let_unnamed, needs, find, such_that, minimise, maximise}
use Rattle.ess_semantics.specs.Kinds.{dom_list}
use Rattle.ess_semantics.specs.Contexts.{Each}
use Rattle.ess_semantics.specs.Judgements.{fault}
use Rattle.ess_semantics.specs.Solutions.{finds}
use Rattle.ess_semantics.proofs.Tests.{and-right}
use Rattle.ess_grammar.specs.Readable.{is_name_token, are_name_tokens, some_doms, several_doms, fit_domains, fit_marks, ReadableDom, ReadableDoms, ReadableStm, ReadableStms}
use Rattle.conjure_laws.specs.Fields.{HasFields, AllHaveFields, HasItsFields}
use Rattle.ess_translate_given_laws.specs.Ready.{Ready}
use Rattle.ess_translate_ready_laws.proofs.RelationParts.{HasParts, AllHaveParts, HasItsParts}
use Rattle.ess_translate_ready_laws.proofs.ReadyHeaders.{typed-is-ready}

as-many : (fs : List Text) (ds : Doms) → fit_domains fs ds ≡ true → length fs ≡ length (dom_list ds)
as-many [] no_doms h = refl
as-many [] (more_doms d ds) h = cc
as-many (f ∷ fs) no_doms h = cc
as-many (f ∷ fs) (more_doms d ds) h = ap suc (as-many fs ds h)

mutual
  has-fields : (d : Dom) → ReadableDom d → HasFields d
  has-fields bool_dom h = tt
  has-fields (int_dom rs es) h = tt
  has-fields (name_dom a) h = tt
  has-fields (tuple_dom ds) h = all-fields ds h.1
  has-fields (record_dom fs ds) h = (
    as-many fs ds (and-right (are_name_tokens fs) (fit_domains fs ds)
        (and-right (some_doms ds) (are_name_tokens fs && fit_domains fs ds) h.0)),
    all-fields ds h.2,
  )
  has-fields (matrix_dom is d) h = has-fields d h.2
  has-fields (set_dom ms es d) h = has-fields d h.2
  has-fields (mset_dom ms es d) h = has-fields d h.2
  has-fields (function_dom ms es c d) h = (has-fields c h.2, has-fields d h.3)
  has-fields (relation_dom ms es ds) h = all-fields ds h.2
  has-fields (partition_dom ms es d) h = has-fields d h.2

  all-fields : (ds : Doms) → ReadableDoms ds → AllHaveFields ds
  all-fields no_doms h = tt
  all-fields (more_doms d ds) h = (has-fields d h.0, all-fields ds h.1)

mutual
  has-parts : (d : Dom) → ReadableDom d → HasParts d
  has-parts bool_dom h = tt
  has-parts (int_dom rs es) h = tt
  has-parts (name_dom a) h = tt
  has-parts (tuple_dom ds) h = all-parts ds h.1
  has-parts (record_dom fs ds) h = all-parts ds h.2
  has-parts (matrix_dom is d) h = has-parts d h.2
  has-parts (set_dom ms es d) h = has-parts d h.2
  has-parts (mset_dom ms es d) h = has-parts d h.2
  has-parts (function_dom ms es c d) h = (has-parts c h.2, has-parts d h.3)
  has-parts (relation_dom ms es no_doms) h = let z = and-right (fit_marks ms es) (several_doms no_doms) h.0 in cc
  has-parts (relation_dom ms es (more_doms d ds)) h = (has-parts d h.2.0, all-parts ds h.2.1)
  has-parts (partition_dom ms es d) h = has-parts d h.2

  all-parts : (ds : Doms) → ReadableDoms ds → AllHaveParts ds
  all-parts no_doms h = tt
  all-parts (more_doms d ds) h = (has-parts d h.0, all-parts ds h.1)

one-whole : (s : Stm) → ReadableStm s → HasItsFields s × HasItsParts s
one-whole (given x d) h = (has-fields d h.1, has-parts d h.1)
one-whole (find x d) h = (has-fields d h.1, has-parts d h.1)
one-whole (let_dom x d) h = (has-fields d h.1, has-parts d h.1)
one-whole (given_enum t) h = (tt, tt)
one-whole (let_ex x e) h = (tt, tt)
one-whole (let_enum t ns) h = (tt, tt)
one-whole (let_unnamed t e) h = (tt, tt)
one-whole (needs e) h = (tt, tt)
one-whole (such_that e) h = (tt, tt)
one-whole (minimise e) h = (tt, tt)
one-whole (maximise e) h = (tt, tt)

whole : (S : List Stm) → ReadableStms S → Each S HasItsFields × Each S HasItsParts
whole [] h = (tt, tt)
whole (s ∷ S) h = let x = one-whole s h.0 in let r = whole S h.1 in ((x.0, r.0), (x.1, r.1))

-- A well typed specification of the grammar is ready.
pub readable-ready : (S : List Stm) → fault S ≡ None → ReadableStms S → Ready S
readable-ready S e r = let w = whole S r in typed-is-ready S e w.0 w.1

-- The names of its finds are name tokens.
pub find-tokens : (S : List Stm) → ReadableStms S → Each (finds S) (λ x. is_name_token x ≡ true)
find-tokens [] r = tt
find-tokens (find x d ∷ S) r = (r.0.0, find-tokens S r.1)
find-tokens (given x d ∷ S) r = find-tokens S r.1
find-tokens (given_enum t ∷ S) r = find-tokens S r.1
find-tokens (let_ex x e ∷ S) r = find-tokens S r.1
find-tokens (let_dom x d ∷ S) r = find-tokens S r.1
find-tokens (let_enum t ns ∷ S) r = find-tokens S r.1
find-tokens (let_unnamed t e ∷ S) r = find-tokens S r.1
find-tokens (needs e ∷ S) r = find-tokens S r.1
find-tokens (such_that e ∷ S) r = find-tokens S r.1
find-tokens (minimise e ∷ S) r = find-tokens S r.1
find-tokens (maximise e ∷ S) r = find-tokens S r.1
