-- Specifications and files of lettings that the rules give for proper tokens have readable statements.
use Rattle.std.proofs.Common.{◌≡◌, refl, true, ◌&&◌, List, [], ◌∷◌, ◌++◌, map}
use Rattle.ess_semantics.specs.Values.{Text}
use Rattle.ess_semantics.specs.Trees.{Dom, Stm, given, find}
use Rattle.ess_semantics.proofs.Tests.{and-left, and-right, and-both}
use Rattle.ess_grammar.specs.Words.{Token, Word}
use Rattle.ess_grammar.specs.Statements.{NameList, last_name, next_name, PlainLetting, value_letting, enum_letting, Part, given_part, given_enum_part, find_part, plain_letting_part, domain_letting_part, unnamed_letting_part, where_part, such_that_part, Parts, last_part, next_part, Begins, begins_given, begins_find, begins_letting, begins_where, begins_such_that, Statement, parts_statement, minimising_statement, maximising_statement, Statements, no_statements, more_statements, LanguageLine, no_language_line, language_line, IsSpecification, specification, PlainLettings, last_letting, next_letting, LettingStatements, no_lettings, more_lettings, IsLettingsFile, lettings_file}
use Rattle.ess_grammar.specs.Readable.{is_name_token, are_name_tokens, some_names, ReadableDom, ReadableStm, ReadableStms, is_plain_letting, ReadableLettings}
use Rattle.ess_grammar.proofs.ReadableTrees.{Proper, reads, domain-reads}

-- names, of which there is one or more
record ReadsNames (ns : List Text) (us : List Token) : Type 0 where
  some : some_names ns ≡ true
  all : are_name_tokens ns ≡ true
  rest : Proper us

names-read : {ns : List Text} {ts us : List Token} → NameList ns ts us → Proper ts → ReadsNames ns us
names-read (last_name {a = a}) h = record { some = refl; all = and-both (is_name_token a) true h.0 refl; rest = h.1 }
names-read (next_name {a = a} {ns = ns} d) h =
    let r = names-read d h.1.1 in record { some = refl; all = and-both (is_name_token a) (are_name_tokens ns) h.0 r.all; rest = r.rest }

givens-readable : (ns : List Text) (d : Dom) → are_name_tokens ns ≡ true → ReadableDom d → ReadableStms (map (λ a. given a d) ns)
givens-readable [] d h k = tt
givens-readable (a ∷ ns) d h k =
    ((and-left (is_name_token a) (are_name_tokens ns) h, k), givens-readable ns d (and-right (is_name_token a) (are_name_tokens ns) h) k)

finds-readable : (ns : List Text) (d : Dom) → are_name_tokens ns ≡ true → ReadableDom d → ReadableStms (map (λ a. find a d) ns)
finds-readable [] d h k = tt
finds-readable (a ∷ ns) d h k =
    ((and-left (is_name_token a) (are_name_tokens ns) h, k), finds-readable ns d (and-right (is_name_token a) (are_name_tokens ns) h) k)

joined : (rs ss : List Stm) → ReadableStms rs → ReadableStms ss → ReadableStms (rs ++ ss)
joined [] ss h k = k
joined (r ∷ rs) ss h k = (h.0, joined rs ss h.1 k)

joined-lettings : (rs ss : List Stm) → ReadableLettings rs → ReadableLettings ss → ReadableLettings (rs ++ ss)
joined-lettings [] ss h k = k
joined-lettings (r ∷ rs) ss h k = (h.0, h.1, joined-lettings rs ss h.2 k)

record ReadsLetting (s : Stm) (us : List Token) : Type 0 where
  plain : is_plain_letting s ≡ true
  stm : ReadableStm s
  rest : Proper us

letting-reads : {s : Stm} {ts us : List Token} → PlainLetting s ts us → Proper ts → ReadsLetting s us
letting-reads (value_letting d) h = let r = reads d h.1.1 in record { plain = refl; stm = (h.0, r.0); rest = r.1 }
letting-reads (enum_letting {a = a} {ns = ns} d) h =
    let r = names-read d h.1.1.1.1.1.1 in
    record {
      plain = refl;
      stm = and-both (is_name_token a) (some_names ns && are_name_tokens ns) h.0
          (and-both (some_names ns) (are_name_tokens ns) r.some r.all);
      rest = r.rest.1;
    }

part-reads : {x : Word} {ss : List Stm} {ts us : List Token} → Part x ss ts us → Proper ts → ReadableStms ss × Proper us
part-reads (given_part {ns = ns} {d = d} a k) h = let r = names-read a h in let q = domain-reads k r.rest.1 in
    (givens-readable ns d r.all q.0, q.1)
part-reads given_enum_part h = ((h.0, tt), h.1.1.1.1)
part-reads (find_part {ns = ns} {d = d} a k) h = let r = names-read a h in let q = domain-reads k r.rest.1 in
    (finds-readable ns d r.all q.0, q.1)
part-reads (plain_letting_part l) h = let r = letting-reads l h in ((r.stm, tt), r.rest)
part-reads (domain_letting_part k) h = let q = domain-reads k h.1.1.1 in (((h.0, q.0), tt), q.1)
part-reads (unnamed_letting_part d) h = let r = reads d h.1.1.1.1.1.1 in (((h.0, r.0), tt), r.1)
part-reads (where_part d) h = let r = reads d h in ((r.0, tt), r.1)
part-reads (such_that_part d) h = let r = reads d h in ((r.0, tt), r.1)

parts-read : {x : Word} {ss : List Stm} {ts us : List Token} → Parts x ss ts us → Proper ts → ReadableStms ss × Proper us
parts-read (last_part p) h = part-reads p h
parts-read (next_part {ss = ss} {rs = rs} p ps) h = let r = part-reads p h in let q = parts-read ps r.1.1 in (joined ss rs r.0 q.0, q.1)

begins-proper : {x : Word} {ts us : List Token} → Begins x ts us → Proper ts → Proper us
begins-proper begins_given h = h.1
begins-proper begins_find h = h.1
begins-proper begins_letting h = h.1
begins-proper begins_where h = h.1
begins-proper begins_such_that h = h.1.1

statement-reads : {ss : List Stm} {ts us : List Token} → Statement ss ts us → Proper ts → ReadableStms ss × Proper us
statement-reads (parts_statement b ps) h = parts-read ps (begins-proper b h)
statement-reads (minimising_statement d) h = let r = reads d h.1 in ((r.0, tt), r.1)
statement-reads (maximising_statement d) h = let r = reads d h.1 in ((r.0, tt), r.1)

statements-read : {ss : List Stm} {ts : List Token} → Statements ss ts → Proper ts → ReadableStms ss
statements-read no_statements h = tt
statements-read (more_statements {ss = ss} {rs = rs} s r) h = let q = statement-reads s h in joined ss rs q.0 (statements-read r q.1)

line-proper : {ts us : List Token} → LanguageLine ts us → Proper ts → Proper us
line-proper no_language_line h = h
line-proper language_line h = h.1.1.1.1.1

-- a specification's statements are readable
pub specification-readable : {ss : List Stm} {ts : List Token} → IsSpecification ss ts → Proper ts → ReadableStms ss
specification-readable (specification l s) h = statements-read s (line-proper l h)

lettings-read : {ss : List Stm} {ts us : List Token} → PlainLettings ss ts us → Proper ts → ReadableLettings ss × Proper us
lettings-read (last_letting l) h = let r = letting-reads l h in ((r.plain, r.stm, tt), r.rest)
lettings-read (next_letting l ls) h = let r = letting-reads l h in let q = lettings-read ls r.rest.1 in ((r.plain, r.stm, q.0), q.1)

file-read : {ss : List Stm} {ts : List Token} → LettingStatements ss ts → Proper ts → ReadableLettings ss
file-read no_lettings h = tt
file-read (more_lettings {ss = ss} {rs = rs} l r) h = let q = lettings-read l h.1 in joined-lettings ss rs q.0 (file-read r q.1)

-- a file's lettings are readable
pub lettings-readable : {ss : List Stm} {ts : List Token} → IsLettingsFile ss ts → Proper ts → ReadableLettings ss
lettings-readable (lettings_file l r) h = file-read r (line-proper l h)
