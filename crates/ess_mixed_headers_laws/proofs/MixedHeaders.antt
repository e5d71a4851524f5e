-- The lines of the header of a model of the class are that header by the rules.
use Rattle.std.proofs.Common.{◌≡◌, refl, Bool, true, false, ◌&&◌, ◌||◌, List, [], ◌∷◌, map, filter}
use Rattle.std.specs.List.{list_all}
use Rattle.ess_semantics.specs.Lists.{append_all}
use Rattle.ess_semantics.specs.Values.{Text}
use Rattle.ess_semantics.specs.Trees.{Repr, Dom, Stm, given, given_enum, let_ex, let_dom, let_enum, let_unnamed, needs, find, such_that, minimise, maximise}
use Rattle.ess_semantics.specs.Contexts.{Each}
use Rattle.ess_semantics.specs.Prepared.{prepared}
use Rattle.ess_semantics.specs.Models.{constraints_of}
use Rattle.ess_semantics.specs.Plans.{Options, chosen_reprs, domain_of_stm, plans}
use Rattle.ess_semantics.specs.ModelTrees.{in_header, header_of}
use Rattle.ess_semantics.proofs.Tests.{and-left, and-right, and-both}
use Rattle.ess_grammar.specs.Readable.{is_name_token, ReadableStms}
use Rattle.ess_translate_header_laws.specs.WrittenLines.{is_named, ReadableHeader}
use Rattle.ess_translate_header_laws.proofs.WrittenLines.{written_headers}
use Rattle.ess_translate_tables_laws.proofs.ChosenAgain.{all_of}
use Rattle.ess_flat_models_laws.specs.FlatSpecifications.{given_mark, is_scalar_dom, is_atom_alone, has_marks}
use Rattle.ess_flat_texts_laws.proofs.PreparedTokens.{IsNamed, prepared-named}
use Rattle.ess_nested_laws.specs.NestedDomains.{is_nested_dom}
use Rattle.ess_mixed_models_laws.specs.MixedSpecifications.{kinds, is_set_dom, is_occurrence_alone, is_one_fitting, has_few_tables, is_nested_kept, is_scalar_kept, is_set_kept, is_mixed_statement, are_mixed_statements, types_come_first, have_bounds, is_mixed_specification}
use Rattle.ess_mixed_headers_laws.specs.Laws.{MixedHeadersAreRead}

-- The statements of a header are some of those of the specification.
header-readable : (S : List Stm) → ReadableStms S → ReadableStms (filter in_header S)
header-readable [] r = tt
header-readable (given x d ∷ S) r = (r.0, header-readable S r.1)
header-readable (given_enum t ∷ S) r = (r.0, header-readable S r.1)
header-readable (let_ex x e ∷ S) r = (r.0, header-readable S r.1)
header-readable (let_dom x d ∷ S) r = (r.0, header-readable S r.1)
header-readable (let_enum t ns ∷ S) r = (r.0, header-readable S r.1)
header-readable (let_unnamed t e ∷ S) r = (r.0, header-readable S r.1)
header-readable (needs e ∷ S) r = (r.0, header-readable S r.1)
header-readable (find x d ∷ S) r = (r.0, header-readable S r.1)
header-readable (such_that e ∷ S) r = header-readable S r.1
header-readable (minimise e ∷ S) r = header-readable S r.1
header-readable (maximise e ∷ S) r = header-readable S r.1

-- A name with one representation has one.
named-atom : (a : Text) (rs : List Repr) → is_atom_alone rs ≡ true → is_name_token a ≡ true → is_named a rs ≡ true
named-atom a [] h n = cc
named-atom a (r ∷ rs) h n = n

named-set : (a : Text) (rs : List Repr) → is_occurrence_alone rs ≡ true → is_name_token a ≡ true → is_named a rs ≡ true
named-set a [] h n = cc
named-set a (r ∷ rs) h n = n

named-fitting : (a : Text) (d : Dom) (rs : List Repr) → is_one_fitting d rs ≡ true → is_name_token a ≡ true → is_named a rs ≡ true
named-fitting a d [] h n = cc
named-fitting a d (r ∷ rs) h n = n

-- Whether the name has a representation, and can be read.
abbrev has_name : Text × List Repr → Bool
has_name c = is_named c.0 c.1

module _ (S : List Stm) (o : Options) where
  abbrev mixed : Stm → Bool
  mixed = is_mixed_statement S o

  -- Those of the statements.
  abbrev chosen : List Stm → Options
  chosen T = all_of o (append_all (map domain_of_stm T))

  scalar-named : (x : Text) (d : Dom) → is_scalar_kept S o x d ≡ true → is_name_token x ≡ true → is_named x (chosen_reprs o x d) ≡ true
  scalar-named x d h =
      named-atom x (chosen_reprs o x d) (and-right (is_scalar_dom (given_mark (plans S o)) d) (is_atom_alone (chosen_reprs o x d)) h)

  set-named : (x : Text) (d : Dom) → is_set_kept S o x d ≡ true → is_name_token x ≡ true → is_named x (chosen_reprs o x d) ≡ true
  set-named x d h = named-set x (chosen_reprs o x d) (and-right (is_set_dom (kinds S) d) (is_occurrence_alone (chosen_reprs o x d)) h)

  nested-named : (x : Text) (d : Dom) → is_nested_kept S o x d ≡ true → is_name_token x ≡ true → is_named x (chosen_reprs o x d) ≡ true
  nested-named x d h =
      let u : Bool = is_one_fitting d (chosen_reprs o x d) in
      named-fitting x d (chosen_reprs o x d) (and-left u (has_few_tables S o) (and-right (is_nested_dom d) (u && has_few_tables S o) h))

  found-named : (x : Text) (d : Dom) (b c e : Bool) → (b ≡ true → is_scalar_kept S o x d ≡ true) → (c ≡ true → is_set_kept S o x d ≡ true) →
      (e ≡ true → is_nested_kept S o x d ≡ true) → b || (c || e) ≡ true → is_name_token x ≡ true → is_named x (chosen_reprs o x d) ≡ true
  found-named x d true c e f g k h = scalar-named x d (f refl)
  found-named x d false true e f g k h = set-named x d (g refl)
  found-named x d false false e f g k h = nested-named x d (k h)

  names-named : (T : List Stm) → list_all mixed T ≡ true → Each T IsNamed → list_all has_name (chosen T) ≡ true
  names-named [] h r = refl
  names-named (given x d ∷ T) h r =
      and-both (is_named x (chosen_reprs o x d)) (list_all has_name (chosen T))
      (scalar-named x d (and-left (mixed (given x d)) (list_all mixed T) h) r.0)
      (names-named T (and-right (mixed (given x d)) (list_all mixed T) h) r.1)
  names-named (find x d ∷ T) h r =
      and-both (is_named x (chosen_reprs o x d)) (list_all has_name (chosen T))
      (found-named x d (is_scalar_kept S o x d) (is_set_kept S o x d) (is_nested_kept S o x d) (λ h. h) (λ h. h) (λ h. h)
      (and-left (mixed (find x d)) (list_all mixed T) h) r.0)
      (names-named T (and-right (mixed (find x d)) (list_all mixed T) h) r.1)
  names-named (given_enum t ∷ T) h r = names-named T h r.1
  names-named (let_enum t ns ∷ T) h r = names-named T h r.1
  names-named (let_unnamed t e ∷ T) h r = names-named T (and-right (mixed (let_unnamed t e)) (list_all mixed T) h) r.1
  names-named (let_ex x e ∷ T) h r = names-named T (and-right (mixed (let_ex x e)) (list_all mixed T) h) r.1
  names-named (let_dom x d ∷ T) h r = names-named T h r.1
  names-named (needs e ∷ T) h r = names-named T (and-right (mixed (needs e)) (list_all mixed T) h) r.1
  names-named (such_that e ∷ T) h r = names-named T (and-right (mixed (such_that e)) (list_all mixed T) h) r.1
  names-named (minimise e ∷ T) h r = names-named T (and-right (mixed (minimise e)) (list_all mixed T) h) r.1
  names-named (maximise e ∷ T) h r = names-named T (and-right (mixed (maximise e)) (list_all mixed T) h) r.1

-- The header can be read.
mixed-header : (S : List Stm) (o : Options) → ReadableStms S → is_mixed_specification S o ≡ true → ReadableHeader (header_of S o)
mixed-header S o r h = record {
  statements = header-readable S r;
  reprs = names-named S o (prepared S)
      (and-left (are_mixed_statements S o) (types_come_first [] (prepared S)
      && (have_bounds (plans S o) [] (prepared S) && list_all (has_marks (plans S o)) (constraints_of S))) h) (prepared-named S r);
}

-- So its lines are it.
pub mixed-headers-are-read : MixedHeadersAreRead
mixed-headers-are-read S o r h = written_headers (header_of S o) (mixed-header S o r h)
