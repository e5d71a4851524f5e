-- The header of a well typed specification, with representations that fit, is one of this tool; with one or more for each name it can be read.
use Rattle.std.proofs.Common.{◌≡◌, refl, ap, ◌∙◌, true, List, [], ◌∷◌, ◌++◌, filter, None}
use Rattle.std.specs.List.{list_all}
use Rattle.ess_semantics.specs.Names.{Names}
use Rattle.ess_semantics.specs.Trees.{Repr, Stm, given, given_enum, let_ex, let_dom, let_enum, let_unnamed, needs, find, such_that}
use Rattle.ess_semantics.specs.Trees.{minimise, maximise}
use Rattle.ess_semantics.specs.Types.{Ty}
use Rattle.ess_semantics.specs.Contexts.{Each}
use Rattle.ess_semantics.specs.Lettings.{Lettings, no_lettings, put_stm, types_after, lettings_after}
use Rattle.ess_semantics.specs.Judgements.{fault}
use Rattle.ess_semantics.specs.Prepared.{resolve_stm}
use Rattle.ess_semantics.specs.Plans.{domain_of_stm, kept_names}
use Rattle.ess_semantics.specs.ModelTrees.{in_header, header_of}
use Rattle.ess_semantics.proofs.Tests.{and-both}
use Rattle.ess_grammar.specs.Readable.{is_name_token, ReadableStms}
use Rattle.ess_translate_header_laws.specs.Headers.{are_reprs_of, IsOurs}
use Rattle.ess_translate_header_laws.specs.Laws.{HeadersStayTyped}
use Rattle.ess_translate_header_laws.specs.WrittenLines.{is_named, ReadableHeader}
use Rattle.conjure_laws.proofs.JudgedNames.{kept_from}
use Rattle.ess_models.proofs.Chosen.{chosen-are}
use Rattle.conjure_modelling.specs.Represented.{have_reprs}
use Rattle.conjure_modelling.proofs.HeaderLines.{header_named, header_readable}

-- Each statement of a header may stand in one.
all-in : (S : List Stm) → list_all in_header (filter in_header S) ≡ true
all-in [] = refl
all-in (given x d ∷ S) = all-in S
all-in (given_enum t ∷ S) = all-in S
all-in (let_ex x e ∷ S) = all-in S
all-in (let_dom x d ∷ S) = all-in S
all-in (let_enum t ns ∷ S) = all-in S
all-in (let_unnamed t e ∷ S) = all-in S
all-in (needs e ∷ S) = all-in S
all-in (find x d ∷ S) = all-in S
all-in (such_that e ∷ S) = all-in S
all-in (minimise e ∷ S) = all-in S
all-in (maximise e ∷ S) = all-in S

-- It has all givens and finds with a domain.
kept-in : (ws : List Stm) (l : Lettings) (g : Names Ty) → kept_from (filter in_header ws) l g ≡ kept_from ws l g
kept-in [] l g = refl
kept-in (given x d ∷ ws) l g =
    let t : Stm = put_stm (given x d) l g in
    ap (λ xs. domain_of_stm (resolve_stm t g) ++ xs) (kept-in ws (lettings_after t l) (types_after t g))
kept-in (given_enum u ∷ ws) l g = kept-in ws (lettings_after (given_enum u) l) (types_after (given_enum u) g)
kept-in (let_ex x e ∷ ws) l g = let t : Stm = put_stm (let_ex x e) l g in kept-in ws (lettings_after t l) (types_after t g)
kept-in (let_dom x d ∷ ws) l g = let t : Stm = put_stm (let_dom x d) l g in kept-in ws (lettings_after t l) (types_after t g)
kept-in (let_enum u ns ∷ ws) l g = let t : Stm = put_stm (let_enum u ns) l g in kept-in ws (lettings_after t l) (types_after t g)
kept-in (let_unnamed u e ∷ ws) l g = let t : Stm = put_stm (let_unnamed u e) l g in kept-in ws (lettings_after t l) (types_after t g)
kept-in (needs e ∷ ws) l g = let t : Stm = put_stm (needs e) l g in kept-in ws (lettings_after t l) (types_after t g)
kept-in (find x d ∷ ws) l g =
    let t : Stm = put_stm (find x d) l g in
    ap (λ xs. domain_of_stm (resolve_stm t g) ++ xs) (kept-in ws (lettings_after t l) (types_after t g))
kept-in (such_that e ∷ ws) l g = kept-in ws l g
kept-in (minimise e ∷ ws) l g = kept-in ws l g
kept-in (maximise e ∷ ws) l g = kept-in ws l g

-- A name token with a representation is named.
one-named : (c : Names (List Repr)) → Each c (λ c. is_name_token c.0 ≡ true) → have_reprs c ≡ true →
    list_all (λ c. is_named c.0 c.1) c ≡ true
one-named [] n h = refl
one-named ((a, []) ∷ cs) n h = cc
one-named ((a, r ∷ rs) ∷ cs) n h = and-both (is_name_token a) (list_all (λ c. is_named c.0 c.1) cs) n.0 (one-named cs n.1 h)

module _ (stay : HeadersStayTyped) (S : List Stm) (rs : Names (List Repr)) (typed : fault S ≡ None) (fit : are_reprs_of (kept_names S) rs ≡ true) where
  -- The header is one of this tool.
  pub ours : IsOurs (header_of S rs)
  ours = record {
    declares = all-in S;
    typed = stay S typed;
    represented =
        ap (λ xs. are_reprs_of xs (header_of S rs).reprs) (kept-in S no_lettings [])
        ∙ ap (are_reprs_of (kept_names S)) (chosen-are S rs typed fit)
        ∙ fit;
  }

  -- It can be read.
  pub readable_header : ReadableStms S → have_reprs rs ≡ true → ReadableHeader (header_of S rs)
  readable_header r h = record {
    statements = header_readable S r;
    reprs = one-named (header_of S rs).reprs (header_named S rs r) (ap have_reprs (chosen-are S rs typed fit) ∙ h);
  }
