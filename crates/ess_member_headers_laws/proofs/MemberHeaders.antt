-- The lines of the header of a model of sets are that header by the rules.
use Rattle.std.proofs.Common.{◌≡◌, refl, sym, subst, Bool, true, List, [], ◌∷◌, map, filter}
use Rattle.std.specs.List.{list_all}
use Rattle.ess_semantics.specs.Lists.{append_all}
use Rattle.ess_semantics.specs.Values.{Text}
use Rattle.ess_semantics.specs.Trees.{Repr}
use Rattle.ess_semantics.specs.Plans.{Options, chosen_reprs, domain_of_stm}
use Rattle.ess_semantics.specs.ModelTrees.{in_header, header_of}
use Rattle.ess_semantics.proofs.Tests.{and-left, and-right, and-both}
use Rattle.ess_grammar.specs.Readable.{is_name_token, ReadableStms}
use Rattle.ess_translate_header_laws.specs.WrittenLines.{is_named, ReadableHeader}
use Rattle.ess_translate_header_laws.proofs.WrittenLines.{written_headers}
use Rattle.conjure_laws.proofs.SetScopes.{prepared-itself}
use Rattle.conjure_laws.specs.SetsOfAtoms.{Line, enum, given_type, unnamed, set_find, holds_lit, sets_of, spec}
use Rattle.ess_member_headers_laws.specs.KeptSets.{is_occurrence_alone, are_kept_by_occurrence}
use Rattle.ess_member_headers_laws.specs.Laws.{MemberHeadersAreRead}
use Rattle.ess_member_headers_laws.proofs.ChosenSets.{chosen_of, found_in}

header-readable : (T : List Line) → ReadableStms (spec T) → ReadableStms (filter in_header (spec T))
header-readable [] r = tt
header-readable (enum t ns ∷ T) r = (r.0, header-readable T r.1)
header-readable (given_type t ∷ T) r = (r.0, header-readable T r.1)
header-readable (unnamed t n ∷ T) r = (r.0, header-readable T r.1)
header-readable (set_find x A ∷ T) r = (r.0, header-readable T r.1)
header-readable (holds_lit l x ∷ T) r = header-readable T r.1

-- Whether the name has a representation, and can be read.
abbrev has_name : Text × List Repr → Bool
has_name c = is_named c.0 c.1

named-one : (a : Text) (rs : List Repr) → is_occurrence_alone rs ≡ true → is_name_token a ≡ true → is_named a rs ≡ true
named-one a [] h n = cc
named-one a (r ∷ rs) h n = n

names-named : (o : Options) (T : List Line) → ReadableStms (spec T) →
    list_all (λ c. is_occurrence_alone c.1) (chosen_of o (found_in T)) ≡ true → list_all has_name (chosen_of o (found_in T)) ≡ true
names-named o [] r h = refl
names-named o (enum t ns ∷ T) r h = names-named o T r.1 h
names-named o (given_type t ∷ T) r h = names-named o T r.1 h
names-named o (unnamed t n ∷ T) r h = names-named o T r.1 h
names-named o (holds_lit l x ∷ T) r h = names-named o T r.1 h
names-named o (set_find x A ∷ T) r h =
    let rs : List Repr = chosen_reprs o x (sets_of A) in
    let rest : Bool = list_all (λ c. is_occurrence_alone c.1) (chosen_of o (found_in T)) in
    and-both (is_named x rs) (list_all has_name (chosen_of o (found_in T)))
    (named-one x rs (and-left (is_occurrence_alone rs) rest h) r.0.0)
    (names-named o T r.1 (and-right (is_occurrence_alone rs) rest h))

member-header : (T : List Line) (o : Options) → ReadableStms (spec T) → are_kept_by_occurrence (spec T) o ≡ true →
    ReadableHeader (header_of (spec T) o)
member-header T o r h =
    let xs = subst (λ S. list_all (λ c. is_occurrence_alone c.1) (chosen_of o (append_all (map domain_of_stm S))) ≡ true)
    (prepared-itself T) h in record {
      statements = header-readable T r;
      reprs = subst (λ S. list_all has_name (chosen_of o (append_all (map domain_of_stm S))) ≡ true) (sym (prepared-itself T))
          (names-named o T r xs);
    }

-- So its lines are it.
pub member-headers-are-read : MemberHeadersAreRead
member-headers-are-read T o r h = written_headers (header_of (spec T) o) (member-header T o r h)
