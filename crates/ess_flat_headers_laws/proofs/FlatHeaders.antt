-- The lines of the header of a model of the class are that header by the rules.
use Rattle.std.proofs.Common.{◌≡◌, refl, Bool, true, ◌&&◌, List, [], ◌∷◌, map, filter}
use Rattle.std.specs.List.{list_all}
use Rattle.ess_semantics.specs.Lists.{append_all}
use Rattle.ess_semantics.specs.Values.{Text}
use Rattle.ess_semantics.specs.Trees.{Repr, Stm, given, given_enum, let_ex, let_dom, let_enum, let_unnamed, needs, find, such_that, minimise, maximise}
use Rattle.ess_semantics.specs.Contexts.{Each}
use Rattle.ess_semantics.specs.Prepared.{prepared}
use Rattle.ess_semantics.specs.Models.{constraints_of}
use Rattle.ess_semantics.specs.Plans.{Options, Plan, chosen_reprs, domain_of_stm, plans}
use Rattle.ess_semantics.specs.ModelTrees.{in_header, header_of}
use Rattle.ess_semantics.proofs.Tests.{and-left, and-right, and-both}
use Rattle.ess_grammar.specs.Readable.{is_name_token, ReadableStms}
use Rattle.ess_translate_header_laws.specs.WrittenLines.{is_named, ReadableHeader}
use Rattle.ess_translate_header_laws.proofs.WrittenLines.{written_headers}
use Rattle.ess_translate_tables_laws.proofs.ChosenAgain.{all_of}
use Rattle.ess_flat_models_laws.specs.FlatSpecifications.{given_mark, is_scalar_dom, is_atom_alone, is_flat_statement, are_bounded, are_flat_statements, has_marks, is_flat_specification}
use Rattle.ess_flat_models_laws.proofs.FlatNames.{no-yes}
use Rattle.ess_flat_texts_laws.proofs.PreparedTokens.{IsNamed, prepared-named}
use Rattle.ess_flat_headers_laws.specs.Laws.{FlatHeadersAreRead}

-- The statements of a header are some of those of the specification.
header-readable : (S : List Stm) → ReadableStms S → ReadableStms (filter in_header S)
header-readable [] r = tt
header-readable (given x d ∷ S) r = (r.0, header-readable S r.1)
header-readable (given_enum t ∷ S) r = (r.0, header-readable S r.1)
header-readable (let_ex x e ∷ S) r = (r.0, header-readable S r.1)
header-readable (let_dom x d ∷ S) r = (r.0, header-readable S r.1)
header-readable (let_enum t ns ∷ S) r = (r.0, header-readable S r.1)
header-readable (let_unnamed t e ∷ S) r = (r.0, header-readable S r.1)
header-readable (needs e ∷ S) r = (r.0, header-readable S r.1)
header-readable (find x d ∷ S) r = (r.0, header-readable S r.1)
header-readable (such_that e ∷ S) r = header-readable S r.1
header-readable (minimise e ∷ S) r = header-readable S r.1
header-readable (maximise e ∷ S) r = header-readable S r.1

-- A name whose one representation is an atom has one.
named-atom : (a : Text) (rs : List Repr) → is_atom_alone rs ≡ true → is_name_token a ≡ true → is_named a rs ≡ true
named-atom a [] h n = cc
named-atom a (r ∷ rs) h n = n

-- Whether the name has a representation, and can be read.
abbrev has_name : Text × List Repr → Bool
has_name c = is_named c.0 c.1

module _ (Ps : List Plan) (o : Options) where
  abbrev flat : Stm → Bool
  flat = is_flat_statement Ps o

  pub rest : (s : Stm) (T : List Stm) → list_all flat (s ∷ T) ≡ true → list_all flat T ≡ true
  rest s T h = and-right (flat s) (list_all flat T) h

  names-named : (T : List Stm) → list_all flat T ≡ true → Each T IsNamed →
      list_all has_name (all_of o (append_all (map domain_of_stm T))) ≡ true
  names-named [] h r = refl
  names-named (given x d ∷ T) h r =
      and-both (is_named x (chosen_reprs o x d)) (list_all has_name (all_of o (append_all (map domain_of_stm T))))
      (named-atom x (chosen_reprs o x d) (and-right (is_scalar_dom (given_mark Ps) d) (is_atom_alone (chosen_reprs o x d))
      (and-left (flat (given x d)) (list_all flat T) h)) r.0)
      (names-named T (rest (given x d) T h) r.1)
  names-named (find x d ∷ T) h r =
      and-both (is_named x (chosen_reprs o x d)) (list_all has_name (all_of o (append_all (map domain_of_stm T))))
      (named-atom x (chosen_reprs o x d) (and-right (is_scalar_dom (given_mark Ps) d) (is_atom_alone (chosen_reprs o x d))
      (and-left (flat (find x d)) (list_all flat T) h)) r.0)
      (names-named T (rest (find x d) T h) r.1)
  names-named (let_ex x e ∷ T) h r = names-named T (rest (let_ex x e) T h) r.1
  names-named (let_dom x d ∷ T) h r = names-named T (rest (let_dom x d) T h) r.1
  names-named (needs e ∷ T) h r = names-named T (rest (needs e) T h) r.1
  names-named (such_that e ∷ T) h r = names-named T (rest (such_that e) T h) r.1
  names-named (minimise e ∷ T) h r = names-named T (rest (minimise e) T h) r.1
  names-named (maximise e ∷ T) h r = names-named T (rest (maximise e) T h) r.1
  names-named (s ∷ T) h r = absurd (no-yes h)

-- Statements of the class are so with lettings put in.
pub flat-statements : (S : List Stm) (o : Options) → is_flat_specification S o ≡ true →
    list_all (is_flat_statement (plans S o) o) (prepared S) ≡ true
flat-statements S o h =
    and-left (are_flat_statements S o) (are_bounded (plans S o) [] (prepared S) && list_all (has_marks (plans S o)) (constraints_of S)) h

-- The header can be read.
pub flat-header : (S : List Stm) (o : Options) → ReadableStms S → is_flat_specification S o ≡ true → ReadableHeader (header_of S o)
flat-header S o r h = record {
  statements = header-readable S r;
  reprs = names-named (plans S o) o (prepared S) (flat-statements S o h) (prepared-named S r);
}

-- So its lines are it.
pub flat-headers-are-read : FlatHeadersAreRead
flat-headers-are-read S o r h = written_headers (header_of S o) (flat-header S o r h)
