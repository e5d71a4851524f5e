-- The lines of the header of a specification that is read from a text are such as texts have.
use Rattle.std.proofs.Common.{◌≡◌, refl, true, List, [], ◌∷◌, ◌++◌, map, filter, codes}
use Rattle.std.specs.List.{list_all, flat_map}
use Rattle.ess_semantics.specs.Values.{Text}
use Rattle.ess_semantics.specs.Names.{Names}
use Rattle.ess_semantics.specs.Trees.{Repr, Dom, Stm, given, given_enum, let_ex, let_dom, let_enum, let_unnamed, needs, find, such_that}
use Rattle.ess_semantics.specs.Trees.{minimise, maximise}
use Rattle.ess_semantics.specs.Types.{Ty}
use Rattle.ess_semantics.specs.Contexts.{Each}
use Rattle.ess_semantics.specs.Lettings.{Lettings, no_lettings, put_stm, types_after, lettings_after}
use Rattle.ess_semantics.specs.Prepared.{resolve_stm}
use Rattle.ess_semantics.specs.Plans.{Options, domain_of_stm, kept_names, chosen_reprs}
use Rattle.ess_semantics.specs.ModelTrees.{in_header, header_of}
use Rattle.ess_semantics.proofs.Tests.{and-left, and-right, and-both}
use Rattle.ess_grammar.specs.Readable.{is_name_token, ReadableStm, ReadableStms}
use Rattle.ess_print_laws.specs.Statements.{stm_pieces, repr_pieces}
use Rattle.ess_print_laws.specs.Texts.{stm_text, repr_text}
use Rattle.ess_print_laws.proofs.SafeTrees.{stm-safe, repr-safe}
use Rattle.ess_translate_header_laws.specs.WrittenLines.{next_repr_text, reprs_text, reprs_line_text, reprs_line_texts, header_texts}
use Rattle.eprime_tree.specs.ModelText.{is_head_line}
use Rattle.conjure_laws.proofs.Lists.{each-append}
use Rattle.conjure_laws.proofs.JudgedNames.{kept_from}
use Rattle.conjure_modelling.proofs.Inline.{stm-inline, repr-inline}
use Rattle.conjure_modelling.proofs.PlainBytes.{plain, plain-line, plain-append, plain-name, plain-pieces}

-- ---- a line

stm-line : (s : Stm) → ReadableStm s → is_head_line (stm_text s) ≡ true
stm-line s r = plain-line (stm_text s) (plain-pieces (stm_pieces s []) ((stm-inline s).law [] refl) ((stm-safe s r).law [] refl tt))

plain-repr : (r : Repr) → list_all plain (repr_text r) ≡ true
plain-repr r = plain-pieces (repr_pieces r []) ((repr-inline r).law [] refl) ((repr-safe r).law [] refl tt)

plain-next : (rs : List Repr) → list_all plain (flat_map next_repr_text rs) ≡ true
plain-next [] = refl
plain-next (r ∷ rs) = plain-append (next_repr_text r) (flat_map next_repr_text rs) (plain-repr r) (plain-next rs)

plain-reprs : (rs : List Repr) → list_all plain (reprs_text rs) ≡ true
plain-reprs [] = refl
plain-reprs (r ∷ rs) = plain-append (repr_text r) (flat_map next_repr_text rs) (plain-repr r) (plain-next rs)

reprs-line : (a : Text) (rs : List Repr) → is_name_token a ≡ true → is_head_line (reprs_line_text a rs) ≡ true
reprs-line a rs h = plain-line (reprs_line_text a rs) (plain-append a (codes " " ++ reprs_text rs) (plain-name a h) (plain-reprs rs))

-- ---- the names

named-stm : (w : Stm) (l : Lettings) (g : Names Ty) → ReadableStm w →
    Each (domain_of_stm (resolve_stm (put_stm w l g) g)) (λ x. is_name_token x.0 ≡ true)
named-stm (given x d) l g h = (h.0, tt)
named-stm (find x d) l g h = (h.0, tt)
named-stm (let_dom x d) l g h = tt
named-stm (given_enum t) l g h = tt
named-stm (let_ex x e) l g h = tt
named-stm (let_enum t ns) l g h = tt
named-stm (let_unnamed t e) l g h = tt
named-stm (needs e) l g h = tt
named-stm (such_that e) l g h = tt
named-stm (minimise e) l g h = tt
named-stm (maximise e) l g h = tt

-- The givens and finds of statements that can be read have names that can be read.
pub named-from : (ws : List Stm) (l : Lettings) (g : Names Ty) → ReadableStms ws → Each (kept_from ws l g) (λ x. is_name_token x.0 ≡ true)
named-from [] l g h = tt
named-from (w ∷ ws) l g h =
    let t : Stm = put_stm w l g in
    each-append (λ x. is_name_token x.0 ≡ true) (domain_of_stm (resolve_stm t g)) (kept_from ws (lettings_after t l) (types_after t g))
    (named-stm w l g h.0) (named-from ws (lettings_after t l) (types_after t g) h.1)

-- ---- all lines

lines-append : (xs ys : List Text) → list_all is_head_line xs ≡ true → list_all is_head_line ys ≡ true →
    list_all is_head_line (xs ++ ys) ≡ true
lines-append [] ys h k = k
lines-append (x ∷ xs) ys h k = and-both (is_head_line x) (list_all is_head_line (xs ++ ys))
    (and-left (is_head_line x) (list_all is_head_line xs) h)
    (lines-append xs ys (and-right (is_head_line x) (list_all is_head_line xs) h) k)

kept : (s : Stm) (ss : List Stm) → ReadableStm s → list_all is_head_line (map stm_text (filter in_header ss)) ≡ true →
    list_all is_head_line (stm_text s ∷ map stm_text (filter in_header ss)) ≡ true
kept s ss r h = and-both (is_head_line (stm_text s)) (list_all is_head_line (map stm_text (filter in_header ss))) (stm-line s r) h

stm-lines : (ss : List Stm) → ReadableStms ss → list_all is_head_line (map stm_text (filter in_header ss)) ≡ true
stm-lines [] h = refl
stm-lines (given x d ∷ ss) h = kept (given x d) ss h.0 (stm-lines ss h.1)
stm-lines (given_enum t ∷ ss) h = kept (given_enum t) ss h.0 (stm-lines ss h.1)
stm-lines (let_ex x e ∷ ss) h = kept (let_ex x e) ss h.0 (stm-lines ss h.1)
stm-lines (let_dom x d ∷ ss) h = kept (let_dom x d) ss h.0 (stm-lines ss h.1)
stm-lines (let_enum t ns ∷ ss) h = kept (let_enum t ns) ss h.0 (stm-lines ss h.1)
stm-lines (let_unnamed t e ∷ ss) h = kept (let_unnamed t e) ss h.0 (stm-lines ss h.1)
stm-lines (needs e ∷ ss) h = kept (needs e) ss h.0 (stm-lines ss h.1)
stm-lines (find x d ∷ ss) h = kept (find x d) ss h.0 (stm-lines ss h.1)
stm-lines (such_that e ∷ ss) h = stm-lines ss h.1
stm-lines (minimise e ∷ ss) h = stm-lines ss h.1
stm-lines (maximise e ∷ ss) h = stm-lines ss h.1

repr-lines : (o : Options) (ds : Names Dom) → Each ds (λ x. is_name_token x.0 ≡ true) →
    list_all is_head_line (reprs_line_texts (map (λ x. (x.0, chosen_reprs o x.0 x.1)) ds)) ≡ true
repr-lines o [] h = refl
repr-lines o (x ∷ ds) h = and-both (is_head_line (reprs_line_text x.0 (chosen_reprs o x.0 x.1)))
    (list_all is_head_line (reprs_line_texts (map (λ x. (x.0, chosen_reprs o x.0 x.1)) ds)))
    (reprs-line x.0 (chosen_reprs o x.0 x.1) h.0) (repr-lines o ds h.1)

-- The lines of the header of a specification of the grammar.
pub head_lines : (S : List Stm) (o : Options) → ReadableStms S → list_all is_head_line (header_texts (header_of S o)) ≡ true
head_lines S o r =
    let stms = map stm_text (filter in_header S) in
    let reprs = reprs_line_texts (header_of S o).reprs in
    and-both (is_head_line (codes "conjure-header 1")) (list_all is_head_line (stms ++ (reprs ++ codes "end-header" ∷ [])))
    (plain-line (codes "conjure-header 1") refl)
    (lines-append stms (reprs ++ codes "end-header" ∷ []) (stm-lines S r)
    (lines-append reprs (codes "end-header" ∷ []) (repr-lines o (kept_names S) (named-from S no_lettings [] r))
    (and-both (is_head_line (codes "end-header")) true (plain-line (codes "end-header") refl) refl)))

-- The names in it can be read.
pub header_named : (S : List Stm) (o : Options) → ReadableStms S → Each (header_of S o).reprs (λ c. is_name_token c.0 ≡ true)
header_named S o r = chosen (kept_names S) (named-from S no_lettings [] r)
  where
    chosen : (ds : Names Dom) → Each ds (λ x. is_name_token x.0 ≡ true) →
        Each {A = Text × List Repr} (map (λ x. (x.0, chosen_reprs o x.0 x.1)) ds) (λ c. is_name_token c.0 ≡ true)
    chosen [] h = tt
    chosen (x ∷ ds) h = (h.0, chosen ds h.1)

-- And so can its statements, which are some of the specification's.
pub header_readable : (S : List Stm) → ReadableStms S → ReadableStms (filter in_header S)
header_readable [] r = tt
header_readable (given x d ∷ S) r = (r.0, header_readable S r.1)
header_readable (given_enum t ∷ S) r = (r.0, header_readable S r.1)
header_readable (let_ex x e ∷ S) r = (r.0, header_readable S r.1)
header_readable (let_dom x d ∷ S) r = (r.0, header_readable S r.1)
header_readable (let_enum t ns ∷ S) r = (r.0, header_readable S r.1)
header_readable (let_unnamed t e ∷ S) r = (r.0, header_readable S r.1)
header_readable (needs e ∷ S) r = (r.0, header_readable S r.1)
header_readable (find x d ∷ S) r = (r.0, header_readable S r.1)
header_readable (such_that e ∷ S) r = header_readable S r.1
header_readable (minimise e ∷ S) r = header_readable S r.1
header_readable (maximise e ∷ S) r = header_readable S r.1
